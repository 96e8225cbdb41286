-- The forms of lines: the word that each begins with, and the kinds of what follows it.
use Rattle.std.specs.Prelude.{ℕ, true, List, [], ◌∷◌, codes}
use Rattle.script_text.specs.declared.arguments.Kind.TheVariants as kind
use Rattle.script_text.specs.declared.arguments.Kinds.{Kinds}
use Rattle.script_text.specs.declared.forms.Keyword.{Keyword}
use Rattle.script_text.specs.declared.forms.Keyword.TheVariants.{Seed, Create, Unlock, Lock, Protect, Fixate}
use Rattle.script_text.specs.declared.forms.Keyword.TheVariants.{Destroy, Recover, Turn, All, Stop, Restart}
use Rattle.script_text.specs.Arguments.{no_kinds, one_kind, two_kinds, three_kinds, any_number}

-- the table of the words
abbrev pub form_of : Keyword → List ℕ × Kinds
form_of Seed = (codes "seed", one_kind kind.Bytes)
form_of Create = (codes "create", one_kind any_number)
form_of Unlock = (codes "unlock", two_kinds any_number kind.Bytes)
form_of Lock = (codes "lock", one_kind any_number)
form_of Protect = (codes "protect", three_kinds any_number kind.Bytes kind.Bytes)
form_of Fixate = (codes "fixate", one_kind any_number)
form_of Destroy = (codes "destroy", one_kind any_number)
form_of Recover = (codes "recover", one_kind kind.Never)
form_of Turn = (codes "turn", two_kinds kind.Actor (kind.Number 1 4096))
form_of All = (codes "all", no_kinds)
form_of Stop = (codes "stop", record (one_kind any_number) { fills = true })
form_of Restart = (codes "restart", one_kind (kind.Number 1 1))

-- all of them
abbrev pub every : List Keyword
every =
    Seed ∷ Create ∷ Unlock ∷ Lock ∷ Protect ∷ Fixate ∷ Destroy ∷ Recover ∷ Turn ∷ All ∷ Stop ∷ Restart ∷ []

-- the word of a line
abbrev pub word_of : Keyword → List ℕ
word_of keyword = (form_of keyword).0

-- what follows it
abbrev pub kinds_of : Keyword → Kinds
kinds_of keyword = (form_of keyword).1
