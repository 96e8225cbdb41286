-- What is printed as words: texts, numbers, bytes, actors, slots and fills.
use Rattle.std.specs.Prelude.{ℕ, List, [], ◌∷◌}
use Rattle.std.specs.List.{flat_map}
use Rattle.script_text.specs.declared.shown.Row.{Row}
use Rattle.script_text.specs.declared.shown.Shown.{Shown}
use Rattle.script_text.specs.declared.shown.Shown.TheVariants.{Nothing, Text, Number, Bytes, Actor, Slot, Fills}
use Rattle.script_text.specs.Words.{decimal, bytes_word, actor_word, slot_word, fill_words}

-- the words of one
abbrev pub shown_words : Shown → List (List ℕ)
shown_words Nothing = []
shown_words (Text text) = text.now ∷ []
shown_words (Number number) = decimal number ∷ []
shown_words (Bytes bytes) = bytes_word bytes.now ∷ []
shown_words (Actor actor) = actor_word actor ∷ []
shown_words (Slot slot) = slot_word slot ∷ []
shown_words (Fills fills) = fill_words fills.now

-- the words of several, in order
abbrev pub all_words : List Shown → List (List ℕ)
all_words shown = flat_map shown_words shown

-- a word, and the words of what is shown behind it
abbrev pub row_words : Row → List (List ℕ)
row_words row = row.word.now ∷ all_words row.rest
