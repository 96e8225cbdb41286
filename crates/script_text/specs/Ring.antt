-- A key ring as text: a line that counts the keys, and one line for each, in the order of installation.
use Rattle.std.specs.Prelude.{ℕ, List, [], ◌∷◌, ◌++◌, length, map, codes}
use Rattle.std.specs.List.{flat_map}
use Rattle.key_ring.specs.Reference.{key_ref}
use Rattle.key_ring.specs.Ring.{InstalledKey, Ring}
use Rattle.script_text.specs.declared.ring_lines.KeyRow.{KeyRow}
use Rattle.script_text.specs.Words.{decimal, bytes_word, class_word, line_of}

-- a key: its user, its class, and its reference
abbrev pub key_line : KeyRow → List ℕ
key_line row = line_of (codes "key" ∷ decimal row.user ∷ class_word row.class ∷ bytes_word row.reference ∷ [])

-- the line with the number of the keys, then theirs
abbrev pub ring_section : List KeyRow → List ℕ
ring_section rows = line_of (codes "ring" ∷ decimal (length rows) ∷ []) ++ flat_map key_line rows

-- what is printed of a key
abbrev pub key_row : InstalledKey → KeyRow
key_row installed = record { user = installed.user; class = installed.class; reference = key_ref installed.key }

-- the section of a whole key ring
abbrev pub ring_text : Ring → List ℕ
ring_text ring = ring_section (map key_row ring)
