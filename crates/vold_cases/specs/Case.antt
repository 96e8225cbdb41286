-- What a case is, and its text.
use Rattle.std.specs.Prelude.{◌≡◌, ◌≢◌, ℕ, ◌<◌, ◌^◌, List, [], ◌∷◌, ◌++◌, map, flat_map, codes, All}
use Rattle.std.specs.String.{string_bytes}
use Rattle.journal_model.specs.declared.entries.Device.{Device}
use Rattle.journal_model.specs.declared.entries.Device.TheVariants.{Tree, Store, Ring}
use Rattle.script_text.specs.Reading.{Lacks, words_in}
use Rattle.script_text.specs.Words.{decimal, joined}
use Rattle.vold_cases.specs.declared.case.Planned.{Planned}
use Rattle.vold_cases.specs.declared.case.Case.{Case}

abbrev pub device_word : Device → List ℕ
device_word Tree = codes "tree"
device_word Store = codes "store"
device_word Ring = codes "ring"

-- a line, with its line feed
abbrev pub ended : List ℕ → List ℕ
ended line = line ++ 10 ∷ []

-- a planned fault as the words of a line
abbrev pub fault_words : Planned → List (List ℕ)
fault_words fault = codes "plan" ∷ device_word fault.device ∷ decimal fault.call ∷ []

-- a case may plan this fault
abbrev pub IsPlanned : Planned → Type 0
IsPlanned fault = fault.call < 2 ^ 32

abbrev pub fault_line : Planned → List ℕ
fault_line fault = joined (fault_words fault)

abbrev pub fault_text : Planned → List ℕ
fault_text fault = ended (fault_line fault)

-- the words of a case's first line
abbrev pub head_words : List ℕ → List (List ℕ) → List (List ℕ)
head_words name words = codes "case" ∷ name ∷ words

-- the words are those of no case's first line
abbrev pub IsNoHead : List (List ℕ) → Type 0
IsNoHead found = (name : List ℕ) → (words : List (List ℕ)) → found ≢ head_words name words

-- the text that ends a case: a line with a single dot
abbrev pub ends_case : List ℕ
ends_case = ended (codes ".")

-- a script may have this line: it is one line, and not the one that ends a case
abbrev pub IsScriptLine : List ℕ → Type 0
IsScriptLine line = Lacks 10 line × (line ≢ codes ".")

-- the text is of whole lines, none of which ends a case
abbrev pub IsScriptText : List ℕ → Type 0
IsScriptText text = (lines : List (List ℕ)) × (text ≡ flat_map ended lines) × All IsScriptLine lines

-- the name and the words of a case, as clauses see them
abbrev pub words_of : Case → List (List ℕ)
words_of one = head_words (string_bytes one.name) (map string_bytes one.words.items)

abbrev pub case_text : Case → List ℕ
case_text one = ended (joined (words_of one)) ++
    (flat_map fault_text one.faults.items ++ (string_bytes one.script ++ ends_case))

-- the text of a case has one reading: its name and its words are the words of its first line, and its script has no
-- line that ends a case
pub record IsCase (one : Case) : Type 0 where
  pub words : words_in (joined (words_of one)) ≡ words_of one
  pub line : Lacks 10 (joined (words_of one))
  pub script : IsScriptText (string_bytes one.script)
