-- A tree of directories as text: a line that counts them, then each with its files.
use Rattle.std.specs.Prelude.{ℕ, List, [], ◌∷◌, ◌++◌, length, take, codes, Option, Some, None, nat_lt}
use Rattle.std.specs.Prelude.{if◌then◌else◌}
use Rattle.std.specs.List.{flat_map}
use Rattle.std.specs.FinMap as map
use Rattle.hex.specs.Hex.{encode_lower}
use Rattle.sha2.specs.Sha512.{sha512}
use Rattle.tree_model.specs.declared.files.FileName.{FileName}
use Rattle.tree_model.specs.declared.files.FileName.TheVariants.{Version, EncryptedKey, Blob, BlobUpgraded}
use Rattle.tree_model.specs.declared.files.FileName.TheVariants.{BlobNew, Discard, Stretching, Salt}
use Rattle.tree_model.specs.declared.places.Place.{Place}
use Rattle.tree_model.specs.declared.places.Place.TheVariants.{De, Ce, Temp}
use Rattle.tree_model.specs.Dir.{Files}
use Rattle.tree_model.specs.Tree.{Tree}
use Rattle.journal_model.specs.declared.entries.Entry.{Entry}
use Rattle.script_text.specs.Words.{decimal, bytes_word, slot_word, line_of}
use Rattle.script_text.specs.Journal.{journal_text}

-- a place: its kind, its user and for a credential key its slot
abbrev pub place_word : Place → List ℕ
place_word (De user) = codes "de/" ++ decimal user
place_word (Ce user slot) = codes "ce/" ++ decimal user ++ codes "/" ++ slot_word slot
place_word (Temp user) = codes "tmp/" ++ decimal user

-- the name of a file
abbrev pub file_word : FileName → List ℕ
file_word Version = codes "version"
file_word EncryptedKey = codes "encrypted_key"
file_word Blob = codes "keymaster_key_blob"
file_word BlobUpgraded = codes "keymaster_key_blob_upgraded"
file_word BlobNew = codes "keymaster_key_blob_new"
file_word Discard = codes "secdiscardable"
file_word Stretching = codes "stretching"
file_word Salt = codes "salt"

-- bytes by their hash: the first 8 bytes of their SHA-512 (FIPS 180-4, 6.4)
abbrev pub hash_word : List ℕ → List ℕ
hash_word bytes = codes "#" ++ encode_lower (take 8 (sha512 bytes))

-- what a file's bytes are printed as: more than 128 of them as their hash
abbrev pub content_word : List ℕ → List ℕ
content_word bytes = if nat_lt 128 (length bytes) then hash_word bytes else bytes_word bytes

-- a file's name, its length and its bytes
abbrev pub file_line : FileName × List ℕ → List ℕ
file_line file = line_of (codes "file" ∷ file_word file.0 ∷ decimal (length file.1) ∷ content_word file.1 ∷ [])

-- a directory's place, then its files in order of their names
abbrev pub dir_text : Place × Files → List ℕ
dir_text dir = line_of (codes "dir" ∷ place_word dir.0 ∷ []) ++ flat_map file_line (map.entries dir.1)

-- directories, in order
abbrev pub dirs_text : List (Place × Files) → List ℕ
dirs_text dirs = flat_map dir_text dirs

-- the tries that a checkpoint has left, where one stands
abbrev pub tries_words : Option ℕ → List (List ℕ)
tries_words None = []
tries_words (Some tries) = codes "checkpoint" ∷ decimal tries ∷ []

-- the line that counts the directories, then each of them
abbrev pub tree_section : List ℕ → List (Place × Files) → Option ℕ → List ℕ
tree_section first dirs tries = line_of (first ∷ decimal (length dirs) ∷ tries_words tries) ++ dirs_text dirs

-- what a run shows in the end: its journal, and its tree in order of the places
abbrev pub shown : List Entry → Tree → List ℕ
shown entries tree = journal_text entries ++ tree_section (codes "tree") (map.entries tree) None
