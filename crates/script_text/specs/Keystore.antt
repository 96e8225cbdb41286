-- A keystore as text: a line that tells its level and counts the entries, and one line for each.
use Rattle.std.specs.Prelude.{ℕ, List, [], ◌∷◌, ◌++◌, length, map, codes}
use Rattle.std.specs.List.{flat_map}
use Rattle.keystore_model.specs.declared.entry.Tag.{Tag}
use Rattle.keystore_model.specs.declared.entry.StoreEntry.{StoreEntry}
use Rattle.keystore_model.specs.Store.{Store}
use Rattle.script_text.specs.declared.keystore_lines.EntryRow.{EntryRow}
use Rattle.script_text.specs.Words.{decimal, bytes_word, class_word, line_of}

-- whose key an entry serves: the user and the class
abbrev pub tag_words : Tag → List (List ℕ)
tag_words tag = decimal tag.user ∷ class_word tag.class ∷ []

-- an entry: its blob, its level, and its tag
abbrev pub row_line : EntryRow → List ℕ
row_line row = line_of (codes "entry" ∷ bytes_word row.blob ∷ decimal row.level ∷ tag_words row.tag)

-- the line with the level and the number of the entries, then theirs
abbrev pub keystore_section : ℕ → List EntryRow → List ℕ
keystore_section level rows =
    line_of (codes "keystore" ∷ decimal level ∷ decimal (length rows) ∷ []) ++ flat_map row_line rows

-- what is printed of an entry
abbrev pub row_of : StoreEntry → EntryRow
row_of entry = record { blob = entry.blob; level = entry.level; tag = entry.tag }

-- the section of a whole keystore
abbrev pub store_section : Store → List ℕ
store_section store = keystore_section store.level (map row_of store.entries)
