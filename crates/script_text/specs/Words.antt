-- How numbers, bytes, actors, classes, slots and fills are spelled, and how words make a line.
use Rattle.std.specs.Prelude.{ℕ, ◌-◌, List, [], ◌∷◌, ◌++◌, length, map, replicate, codes}
use Rattle.hex.specs.Hex.{encode_lower}
use Rattle.tree_model.specs.declared.places.Class.{Class}
use Rattle.tree_model.specs.declared.places.Class.TheVariants.{De, Ce}
use Rattle.tree_model.specs.declared.places.Slot.{Slot}
use Rattle.tree_model.specs.declared.places.Slot.TheVariants.{Current, Cx}
use Rattle.tree_model.specs.declared.ops.Fill.{Fill}
use Rattle.tree_model.specs.declared.ops.Fill.TheVariants.{Same, Bytes}
use Rattle.journal_model.specs.declared.commands.Actor.{Actor}
use Rattle.journal_model.specs.declared.commands.Actor.TheVariants.{Boot, Cp, User}
-- a number in decimal, without a leading zero
pub use Rattle.std.specs.Fmt.{decimal}

-- a number of at most ten digits, with zeros in front of it up to ten
abbrev pub ten_digits : ℕ → List ℕ
ten_digits n = replicate (10 - length (decimal n)) 48 ++ decimal n

-- bytes in lower-case hex, and a dash where there are none
abbrev pub bytes_word : List ℕ → List ℕ
bytes_word [] = codes "-"
bytes_word (byte ∷ bytes) = encode_lower (byte ∷ bytes)

-- an actor is its user's number, `cp` or `boot`
abbrev pub actor_word : Actor → List ℕ
actor_word Boot = codes "boot"
actor_word Cp = codes "cp"
actor_word (User user) = decimal user

-- which of a user's two keys
abbrev pub class_word : Class → List ℕ
class_word De = codes "de"
class_word Ce = codes "ce"

-- a numbered slot is `cx` and ten digits
abbrev pub slot_word : Slot → List ℕ
slot_word Current = codes "current"
slot_word (Cx number) = codes "cx" ++ ten_digits number

-- a fill: an equals sign for a write's own bytes, else the bytes
abbrev pub fill_word : Fill → List ℕ
fill_word Same = codes "="
fill_word (Bytes bytes) = bytes_word bytes

-- the words of fills, in order
abbrev pub fill_words : List Fill → List (List ℕ)
fill_words fills = map fill_word fills

-- words, each with a space before it
abbrev pub spaced : List (List ℕ) → List ℕ
spaced [] = []
spaced (word ∷ words) = 32 ∷ (word ++ spaced words)

-- words with one space between them
abbrev pub joined : List (List ℕ) → List ℕ
joined [] = []
joined (word ∷ words) = word ++ spaced words

-- words as a line: joined, and ended by a line feed
abbrev pub line_of : List (List ℕ) → List ℕ
line_of words = joined words ++ 10 ∷ []
