-- What a run shows of a Book in the end.
use Rattle.std.specs.Prelude.{◌≡◌, ℕ, zero, suc, ◌<◌, ◌⊎◌, List, [], ◌∷◌, ◌++◌, length, codes, None, Ok, Err}
use Rattle.std.specs.FinMap as map
use Rattle.tree_model.specs.declared.device.DevFault.TheVariants.{Failed}
use Rattle.tree_model.specs.Tree.{Tree}
use Rattle.tree_model.specs.Disk.{view}
use Rattle.tree_model.specs.Counted.{Counts, IsCounted}
use Rattle.key_ring.specs.Ring.{Ring}
use Rattle.keystore_model.specs.Store.{Store}
use Rattle.script_text.specs.Words.{line_of}
use Rattle.script_text.specs.Journal.{journal_text}
use Rattle.script_text.specs.Keystore.{store_section}
use Rattle.script_text.specs.Ring.{ring_text}
use Rattle.script_text.specs.Tree.{tree_section}
use Rattle.bench.specs.Bench.{Plain as Seen}
use Rattle.vold_book.specs.State.{Plain}

-- the tree as it is printed
abbrev pub tree_text : Tree → List ℕ
tree_text tree = tree_section (codes "tree") (map.entries tree) None

-- the line in place of what comes from the tree on, where the tree could not be read
abbrev pub unread_tree : List ℕ
unread_tree = line_of (codes "unread" ∷ codes "tree" ∷ [])

-- and in place of a keystore that could not be read, and of the ring behind it
abbrev pub unread_store : List ℕ
unread_store = line_of (codes "unread" ∷ codes "store" ∷ [])

-- the counts of a device before and after a look that it answered, and before and after one in which it failed
abbrev pub IsAnswered : Counts → Counts → Type 0
IsAnswered before after = IsCounted {T = Unit {0}} before after (Ok tt)

abbrev pub IsFailed : Counts → Counts → Type 0
IsFailed before after = IsCounted {T = Unit {0}} before after (Err Failed)

-- so many looks were made, one after another, and the device answered each
abbrev pub AreAnswered : ℕ → Counts → Counts → Type 0
AreAnswered zero before after = after ≡ before
AreAnswered (suc count) before after = (between : Counts) × AreAnswered count before between × IsAnswered between after

-- how many looks read a tree: one at its places, and one at each directory
abbrev pub looks_for : Tree → ℕ
looks_for tree = suc (length (map.entries tree))

-- exactly the looks were made that read the tree, and the device answered each
abbrev pub ReadsTree : Tree → Counts → Counts → Type 0
ReadsTree tree before after = AreAnswered (looks_for tree) before after

-- the device failed in one of the looks that read the tree: it answered those before, and none was made after it
pub record FailsToRead (tree : Tree) (before after : Counts) : Type 0 where
  pub answered : ℕ
  pub wanted : answered < looks_for tree
  pub reached : Counts
  pub looks : AreAnswered answered before reached
  pub failed : IsFailed reached after

-- one look reads the keystore: the keystore and then the keys in the ring, or where the device failed the line in
-- their place
abbrev pub ShowsStore : Store → Ring → Counts → Counts → List ℕ → Type 0
ShowsStore store ring before after text =
    ((text ≡ store_section store ++ ring_text ring) × IsAnswered before after)
    ⊎ ((text ≡ unread_store) × IsFailed before after)

-- the tree was read, and the keystore after it, and then the ring, whose looks aren't counted
pub record ReadsOn (before after : Seen) (text : List ℕ) : Type 0 where
  pub store_text : List ℕ
  pub is : text ≡ tree_text (view after.disk) ++ store_text
  pub tree : ReadsTree (view before.disk) before.tree_counts after.tree_counts
  pub store : ShowsStore after.store after.keys before.store_counts after.store_counts store_text
  pub ring : after.ring_counts ≡ before.ring_counts

-- the tree was not read, and the keystore and the ring were not looked at
pub record ReadsNoFurther (before after : Seen) (text : List ℕ) : Type 0 where
  pub is : text ≡ unread_tree
  pub tree : FailsToRead (view before.disk) before.tree_counts after.tree_counts
  pub store : after.store_counts ≡ before.store_counts
  pub ring : after.ring_counts ≡ before.ring_counts

-- the tree, then the keystore, and then the ring; where the tree or the keystore was not read, a line in its place,
-- and nothing behind it
abbrev pub ShowsDevices : Seen → Seen → List ℕ → Type 0
ShowsDevices before after text = ReadsOn before after text ⊎ ReadsNoFurther before after text

-- the journal and then the devices
pub record Shows (before after : Plain) (text : List ℕ) : Type 0 where
  pub devices : List ℕ
  pub is : text ≡ journal_text after.ledger.entries ++ devices
  pub shown : ShowsDevices before.bench after.bench devices
