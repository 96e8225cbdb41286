-- What may follow the word that a line begins with: kinds of arguments, and the values and the words of each kind.
use Rattle.std.specs.Prelude.{ℕ, ◌<◌, ◌≤◌, ◌^◌, Bool, true, false, List, [], ◌∷◌, ◌++◌, length}
use Rattle.std.specs.List.{AllByRecursion}
use Rattle.tree_model.specs.declared.ops.Fill.{Fill}
use Rattle.tree_model.specs.declared.ops.Fill.TheVariants as fill
use Rattle.journal_model.specs.declared.commands.Actor.{Actor}
use Rattle.journal_model.specs.declared.commands.Actor.TheVariants.{Boot, Cp, User}
use Rattle.script_text.specs.declared.arguments.Kind.{Kind}
use Rattle.script_text.specs.declared.arguments.Kind.TheVariants as kind
use Rattle.script_text.specs.declared.arguments.Kinds.{Kinds}
use Rattle.script_text.specs.declared.arguments.Argument.{Argument}
use Rattle.script_text.specs.declared.arguments.Argument.TheVariants as argument
use Rattle.script_text.specs.declared.arguments.Arguments.{Arguments}
use Rattle.script_text.specs.Words.{decimal, bytes_word, actor_word, fill_words}

-- each is a byte
abbrev pub AreBytes : List ℕ → Type 0
AreBytes bytes = AllByRecursion (λ byte. byte < 256) bytes

-- no more bytes than a script's words may be of
abbrev pub AreShort : List ℕ → Type 0
AreShort bytes = (length bytes ≤ 64) × AreBytes bytes

-- a script may have this fill
abbrev pub IsFill : Fill → Type 0
IsFill fill.Same = Unit {0}
IsFill (fill.Bytes bytes) = AreShort bytes

-- a line may have these fills
abbrev pub AreFills : List Fill → Type 0
AreFills fills = (length fills ≤ 32) × AllByRecursion IsFill fills

-- a script may let this actor make turns
abbrev pub IsTurner : Actor → Type 0
IsTurner Boot = Unit {0}
IsTurner Cp = ⊥
IsTurner (User user) = user < 2 ^ 32

-- a number of 32 bits that is in a range
abbrev pub IsWithin : ℕ → ℕ → ℕ → Type 0
IsWithin least most number = (number < 2 ^ 32) × (least ≤ number) × (number ≤ most)

-- the number of a value, or 0 where it has none
abbrev pub number_in : Argument → ℕ
number_in (argument.Number number) = number
number_in value = 0

-- the bytes of a value, or none where it has none
abbrev pub bytes_in : Argument → List ℕ
bytes_in (argument.Bytes bytes) = bytes
bytes_in value = []

-- the actor of a value, or the recovery's where it has none
abbrev pub actor_in : Argument → Actor
actor_in (argument.Actor actor) = actor
actor_in value = Boot

-- the words of a value of this kind
abbrev pub value_words : Kind → Argument → List (List ℕ)
value_words kind.Nothing value = []
value_words kind.Never value = []
value_words (kind.Number least most) value = decimal (number_in value) ∷ []
value_words kind.Bytes value = bytes_word (bytes_in value) ∷ []
value_words kind.Actor value = actor_word (actor_in value) ∷ []

-- a line may have this value of this kind
abbrev pub Fits : Kind → Argument → Type 0
Fits kind.Nothing value = Unit {0}
Fits kind.Never value = ⊥
Fits (kind.Number least most) value = IsWithin least most (number_in value)
Fits kind.Bytes value = AreShort (bytes_in value)
Fits kind.Actor value = IsTurner (actor_in value)

-- the words of fills, where a line may have any
abbrev pub last_words : Bool → List Fill → List (List ℕ)
last_words true fills = fill_words fills
last_words false fills = []

-- a line may have these fills, where it may have any
abbrev pub LastFit : Bool → List Fill → Type 0
LastFit true fills = AreFills fills
LastFit false fills = Unit {0}

-- the words of arguments of these kinds, in order
abbrev pub argument_words : Kinds → Arguments → List (List ℕ)
argument_words kinds given =
    let behind = value_words kinds.third given.third ++ last_words kinds.fills given.fills in
    value_words kinds.first given.first ++ (value_words kinds.second given.second ++ behind)

-- a line may have these arguments of these kinds
pub record AllFit (kinds : Kinds) (given : Arguments) : Type 0 where
  pub first : Fits kinds.first given.first
  pub second : Fits kinds.second given.second
  pub third : Fits kinds.third given.third
  pub fills : LastFit kinds.fills given.fills

-- kinds of three arguments, of two, of one and of none
abbrev pub three_kinds : Kind → Kind → Kind → Kinds
three_kinds first second third = record { first = first; second = second; third = third; fills = false }

abbrev pub two_kinds : Kind → Kind → Kinds
two_kinds first second = three_kinds first second kind.Nothing

abbrev pub one_kind : Kind → Kinds
one_kind first = two_kinds first kind.Nothing

abbrev pub no_kinds : Kinds
no_kinds = one_kind kind.Nothing

-- any number of 32 bits
abbrev pub any_number : Kind
any_number = kind.Number 0 4294967295

-- three arguments, two, one and none
abbrev pub three_given : Argument → Argument → Argument → Arguments
three_given first second third = record { first = first; second = second; third = third; fills = [] }

abbrev pub two_given : Argument → Argument → Arguments
two_given first second = three_given first second argument.Nothing

abbrev pub one_given : Argument → Arguments
one_given first = two_given first argument.Nothing

abbrev pub none_given : Arguments
none_given = one_given argument.Nothing
