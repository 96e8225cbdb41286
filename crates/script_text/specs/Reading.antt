-- How a text falls into lines and words, and what is read from it.
use Rattle.std.specs.Prelude.{◌≡◌, ◌≢◌, ℕ, if◌then◌else◌, nat_eq, List, [], ◌∷◌, ◌++◌, length, slice_index, Option}
use Rattle.std.specs.Prelude.{Some, None}
use Rattle.std.specs.List.{AllByRecursion}
use Rattle.script_text.specs.declared.arguments.Kind.{Kind}
use Rattle.script_text.specs.declared.arguments.Argument.{Argument}
use Rattle.script_text.specs.declared.script.Line.{Line}
use Rattle.script_text.specs.Arguments.{value_words, Fits}
use Rattle.script_text.specs.Script.{IsLine, spelling}

-- what was read: a value that may come and whose text this is, or None where this is the text of no such value
abbrev pub Reads : {A T : Type 0} → (A → Type 0) → (A → T) → T → Option A → Type 0
Reads {A} MayCome text_of_value text None = (value : A) → MayCome value → text ≢ text_of_value value
Reads MayCome text_of_value text (Some value) = MayCome value × (text ≡ text_of_value value)

-- none of the bytes is this one
abbrev pub Lacks : ℕ → List ℕ → Type 0
Lacks byte bytes = AllByRecursion (λ b. b ≢ byte) bytes

-- the front is what stands before the first of the byte, and the back what stands after it
pub record IsSplit (byte : ℕ) (bytes front back : List ℕ) : Type 0 where
  pub whole : bytes ≡ front ++ byte ∷ back
  pub first : Lacks byte front

-- a byte in front of the first word
abbrev pub in_front : ℕ → List (List ℕ) → List (List ℕ)
in_front byte [] = (byte ∷ []) ∷ []
in_front byte (word ∷ words) = (byte ∷ word) ∷ words

-- the words of a text, with one space between them
abbrev pub words_in : List ℕ → List (List ℕ)
words_in [] = [] ∷ []
words_in (byte ∷ bytes) = if nat_eq byte 32 then [] ∷ words_in bytes else in_front byte (words_in bytes)

-- the words that follow a word, which are none at the end of a line
abbrev pub words_after : Option (List ℕ) → List (List ℕ)
words_after None = []
words_after (Some text) = words_in text

-- a number's text begins with no sign, and with a zero only where that is the whole text
abbrev pub IsPlain : List ℕ → Type 0
IsPlain word = (slice_index word 0 ≢ 43) × (slice_index word 0 ≡ 48 → length word ≡ 1)

-- the words begin with the words of no such value
abbrev pub BeginsNoValue : Kind → List (List ℕ) → Type 0
BeginsNoValue kind words = (value : Argument) → (more : List (List ℕ)) → Fits kind value
    → words ≢ value_words kind value ++ more

-- a value that a line may have begins the words, and these are behind it
abbrev pub BeginsWith : Kind → List (List ℕ) → Argument → List (List ℕ) → Type 0
BeginsWith kind words value behind = Fits kind value × (words ≡ value_words kind value ++ behind)

-- the text begins with no line and its line feed
abbrev pub BeginsNoLine : List ℕ → Type 0
BeginsNoLine text = (line : Line) → (others : List ℕ) → IsLine line → text ≢ spelling line ++ 10 ∷ others
