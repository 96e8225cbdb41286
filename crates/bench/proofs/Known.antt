-- What the table knows of the tree stays right through each call.
use Rattle.std.proofs.Common.{◌≡◌, ◌≢◌, ℕ, inl, inr, true, cond, refl, sym, ap, ◌∙◌, subst, eq-eqb, List, length}
use Rattle.std.specs.Prelude.{Option, Some, None, Result, Ok, Err, is_some, IsSome}
use Rattle.std.specs.FinMap as map
use Rattle.tree_model.specs.declared.blobs.Blob.{Blob}
use Rattle.tree_model.specs.declared.files.FileName.{FileName}
use Rattle.tree_model.specs.declared.files.FileName.TheVariants.{Blob as BlobFile, BlobUpgraded}
use Rattle.tree_model.specs.declared.memory.NoMemory.{NoMemory}
use Rattle.tree_model.specs.declared.places.Place.{Place}
use Rattle.tree_model.specs.declared.places.Place.TheVariants.{De as DePlace, Ce as CePlace, Temp as TempPlace}
use Rattle.tree_model.specs.declared.sites.Site.TheVariants.{De, Ce, Temp}
use Rattle.tree_model.specs.declared.sites.LocalOp.{LocalOp}
use Rattle.tree_model.specs.declared.sites.LocalOp.TheVariants.{MakeDir, Write, RenameFile}
use Rattle.tree_model.specs.declared.sites.LocalOp.TheVariants.{RenameDir, RemoveFile, RemoveDir}
use Rattle.tree_model.specs.declared.ops.Op.TheVariants.{RenameDir as RenameDirOp}
use Rattle.tree_model.specs.Dir.{Files}
use Rattle.tree_model.specs.Disk.{Disk, view, with_op}
use Rattle.tree_model.specs.Files.{file_cmp}
use Rattle.tree_model.specs.Held.{or_else}
use Rattle.tree_model.specs.Named.{named_at}
use Rattle.tree_model.specs.Order.{place_total, place_exact}
use Rattle.task_turns.specs.Names.{BringsBlob}
use Rattle.tree_model.specs.Parts.{part_of, LocalFits}
use Rattle.tree_model.specs.Sites.{place_of, op_of}
use Rattle.tree_model.specs.Tree.{Tree, if_there, after_op}
use Rattle.tree_model.proofs.Images.{applied-append}
use Rattle.tree_model.proofs.Maps.{decide_key, get-insert_same, get-insert_other, get-remove_same, get-remove_other}
use Rattle.key_directory.specs.Shape.{sized}
use Rattle.step_core.specs.Table.{NamedPlaces, named_by}
use Rattle.task_turns.specs.declared.calls.Answer.{Answer}
use Rattle.task_turns.specs.declared.calls.Call.{Call}
use Rattle.task_turns.specs.declared.calls.Call.TheVariants.{Op, List as ListCall, Read, Generate, Entries}
use Rattle.bench.specs.declared.made.Made.{Made}
use Rattle.bench.specs.declared.made.Made.TheVariants.{Heard, Failed}
use Rattle.bench.specs.Bench.{Plain, KnowsPlaces, named_in, places_after, Fits, Rests}
use Rattle.bench.specs.Bench.{IsFailedOp, IsFailed, Does, IsMade}
use Rattle.bench.specs.Known.{IsTemporary, IsLasting, Knows, KnowsTree, BringsName, KnowsAfter, StillKnows}
use Rattle.bench.specs.Steps.{IsWhole}

-- a blob of 32 bytes is kept as it is
pub sized-whole : (names : Option Blob) → IsWhole names → sized names ≡ names
sized-whole None whole = refl
sized-whole (Some blob) whole = ap (λ test. cond test (Some blob) None) (eq-eqb (length blob) 32 whole)

-- what is told of a directory that is there
brought : (held : Option Files) (names : Option Blob) → is_some held ≡ true → names ≡ named_at held → IsWhole names
    → Some names ≡ named_in held
brought None names none is whole = cc
brought (Some files) names some is whole = ap Some (sym (sized-whole names whole) ∙ ap sized is)

-- an empty directory names nothing
abbrev no_files : Files
no_files = map.empty

names-nothing : named_in (Some no_files) ≡ Some None
names-nothing =
    ap (λ found. Some (sized (or_else found (map.get no_files BlobFile)))) (map.get-empty file_cmp BlobUpgraded)
    ∙ ap (λ found. Some (sized found)) (map.get-empty file_cmp BlobFile)

-- both change at one place alone, and are right there
record EditsAt (places places' : NamedPlaces) (tree tree' : Tree) (place : Place) : Type 0 where
  known : (other : Place) → other ≢ place → map.get places' other ≡ map.get places other
  others : (other : Place) → other ≢ place → map.get tree' other ≡ map.get tree other
  there : is_some (map.get places' place) ≡ is_some (map.get tree' place)
  names : IsLasting place → map.get places' place ≡ named_in (map.get tree' place)

-- what a directory that is there names is what is named in it
pub names-there : (held : Option Files) → is_some held ≡ true → Some (named_by (named_in held)) ≡ named_in held
names-there None none = cc
names-there (Some files) some = refl

knows-edit : (places places' : NamedPlaces) (tree tree' : Tree) (place : Place)
    → EditsAt places places' tree tree' place → Knows places tree → Knows places' tree'
knows-edit places places' tree tree' place edits knows = record {
  there = λ q. elim (decide_key place_total place_exact q place) [
    | inl same ↦ subst (λ p. is_some (map.get places' p) ≡ is_some (map.get tree' p)) (sym same) edits.there
    | inr differ ↦ ap is_some (edits.known q differ) ∙ knows.there q ∙ sym (ap is_some (edits.others q differ))
  ];
  names = λ q one. elim (decide_key place_total place_exact q place) [
    | inl same ↦ subst (λ p. map.get places' p ≡ named_in (map.get tree' p)) (sym same)
        (edits.names (subst IsLasting same one))
    | inr differ ↦ edits.known q differ ∙ knows.names q one ∙ sym (ap named_in (edits.others q differ))
  ];
}

module _ (places : NamedPlaces) (tree : Tree) (place : Place) where
  knows-insert : (named : Option Blob) (files : Files) → (IsLasting place → Some named ≡ named_in (Some files))
      → Knows places tree → Knows (map.insert places place named) (map.insert tree place files)
  knows-insert named files right = knows-edit places (map.insert places place named) tree
      (map.insert tree place files) place (record {
        known = get-insert_other place_total place_exact places place named;
        others = get-insert_other place_total place_exact tree place files;
        there = ap is_some (get-insert_same place_total place_exact places place named)
            ∙ sym (ap is_some (get-insert_same place_total place_exact tree place files));
        names = λ one. get-insert_same place_total place_exact places place named ∙ right one
            ∙ sym (ap named_in (get-insert_same place_total place_exact tree place files));
      })

  knows-remove : Knows places tree → Knows (map.remove places place) (map.remove tree place)
  knows-remove = knows-edit places (map.remove places place) tree (map.remove tree place) place (record {
    known = get-remove_other place_total place_exact places place;
    others = get-remove_other place_total place_exact tree place;
    there = ap is_some (get-remove_same place_total place_exact places place)
        ∙ sym (ap is_some (get-remove_same place_total place_exact tree place));
    names = λ one. get-remove_same place_total place_exact places place
        ∙ sym (ap named_in (get-remove_same place_total place_exact tree place));
  })

  -- a directory that is there changes, at another place
  knows-changed : (files : Files) → IsTemporary place → IsSome (map.get tree place) → Knows places tree
      → Knows places (map.insert tree place files)
  knows-changed files temporary found knows =
      knows-edit places places tree (map.insert tree place files) place (record {
        known = λ other differ. refl;
        others = get-insert_other place_total place_exact tree place files;
        there = knows.there place ∙ found
            ∙ sym (ap is_some (get-insert_same place_total place_exact tree place files));
        names = λ one. absurd (one temporary);
      }) knows

module _ (places : NamedPlaces) (tree : Tree) (user : ℕ) where
  knows-write : (file : FileName) (bytes : List ℕ) → Knows places tree
      → Knows places (after_op tree (op_of user (Write Temp file bytes)))
  knows-write file bytes knows = either (map.get tree (TempPlace user)) refl
    where
      either : (found : Option Files) → map.get tree (TempPlace user) ≡ found
          → Knows places
          (if_there found tree (λ files. map.insert tree (TempPlace user) (map.insert files file bytes)))
      either None is = knows
      either (Some files) is =
          knows-changed places tree (TempPlace user) (map.insert files file bytes) tt (ap is_some is) knows

  knows-rename : (from to : Place) (named : Option Blob) → IsSome (map.get tree from)
      → Some named ≡ named_in (map.get tree from) → Knows places tree
      → Knows (map.insert (map.remove places from) to named) (after_op tree (RenameDirOp from to))
  knows-rename from to named there right knows = either (map.get tree from) there right
    where
      either : (found : Option Files) → IsSome found → Some named ≡ named_in found
          → Knows (map.insert (map.remove places from) to named)
          (if_there found tree (λ files. map.insert (map.remove tree from) to files))
      either None none right = cc
      either (Some files) some right =
          knows-insert (map.remove places from) (map.remove tree from) to named files (λ one. right)
          (knows-remove places tree from knows)

  -- a directory whose blob is known
  knows-moved : (from to : Place) → IsLasting from → IsSome (map.get tree from) → Knows places tree
      → Knows (map.insert (map.remove places from) to (named_by (map.get places from)))
      (after_op tree (RenameDirOp from to))
  knows-moved from to one there knows =
      knows-rename from to (named_by (map.get places from)) there
      (ap (λ held. Some (named_by held)) (knows.names from one) ∙ names-there (map.get tree from) there) knows

  -- an operation that was done
  knows-op : (op : LocalOp) (names : Option Blob) → LocalFits (part_of tree user) op
      → BringsBlob (part_of tree user) op names → Knows places tree
      → Knows (places_after places user op names) (after_op tree (op_of user op))
  knows-op (MakeDir site) names fits brings =
      knows-insert places tree (place_of user site) None no_files (λ one. sym names-nothing)
  knows-op (Write Temp file bytes) names fits brings = knows-write file bytes
  knows-op (Write De file bytes) names fits brings = absurd brings.brings
  knows-op (Write (Ce slot) file bytes) names fits brings = absurd brings.brings
  knows-op (RenameFile site from to) names fits brings = absurd fits
  knows-op (RenameDir Temp to) names fits brings =
      knows-rename (TempPlace user) (place_of user to) names fits.0
      (brought (map.get tree (TempPlace user)) names fits.0 brings.brings brings.long)
  knows-op (RenameDir De to) names fits brings =
      knows-moved (DePlace user) (place_of user to) (λ temporary. temporary) fits.0
  knows-op (RenameDir (Ce slot) to) names fits brings =
      knows-moved (CePlace user slot) (place_of user to) (λ temporary. temporary) fits.0
  knows-op (RemoveFile site file) names fits brings = absurd fits
  knows-op (RemoveDir site) names fits brings = knows-remove places tree (place_of user site)

pub knows-view : (places : NamedPlaces) (disk : Disk) (user : ℕ) (op : LocalOp) (names : Option Blob)
    → Knows places (view disk) → LocalFits (part_of (view disk) user) op
    → BringsBlob (part_of (view disk) user) op names
    → Knows (places_after places user op names) (view (with_op disk (op_of user op)))
knows-view places disk user op names knows fits brings =
    subst (Knows (places_after places user op names))
    (sym (applied-append disk.stable disk.pending (op_of user op)))
    (knows-op places (view disk) user op names fits brings knows)

-- a write into the temporary directory, of whatever bytes
pub knows-written : (places : NamedPlaces) (disk : Disk) (user : ℕ) (file : FileName) (bytes : List ℕ)
    → Knows places (view disk)
    → Knows places (view (with_op disk (op_of user (Write Temp file bytes))))
knows-written places disk user file bytes knows =
    subst (Knows places) (sym (applied-append disk.stable disk.pending (op_of user (Write Temp file bytes))))
    (knows-write places (view disk) user file bytes knows)

module _ (places : NamedPlaces) (tree : Tree) (place : Place) (found : is_some (map.get tree place) ≡ true) where
  abbrev read : NamedPlaces
  read = map.insert places place (named_by (named_in (map.get tree place)))

  read-names : map.get read place ≡ named_in (map.get tree place)
  read-names = get-insert_same place_total place_exact places place (named_by (named_in (map.get tree place)))
      ∙ names-there (map.get tree place) found

  -- a directory that was read
  pub knows-read : Knows places tree → Knows read tree
  knows-read = knows-edit places read tree tree place (record {
    known = get-insert_other place_total place_exact places place (named_by (named_in (map.get tree place)));
    others = λ other differ. refl;
    there = ap is_some read-names ∙ same (map.get tree place);
    names = λ one. read-names;
  })
    where
      same : (held : Option Files) → is_some (named_in held) ≡ is_some held
      same None = refl
      same (Some files) = refl

module _ (before after : Plain) (knows : KnowsTree before) where
  knows-rests : Rests before after → KnowsTree after
  knows-rests rests = subst KnowsTree (sym rests) knows

  -- an operation that failed
  pub knows-failed : (user : ℕ) (op : LocalOp) (names : Option Blob)
      → BringsBlob (part_of (view before.disk) user) op names → IsFailedOp before after user op → KnowsTree after
  knows-failed user (Write Temp file bytes) names brings failed =
      subst KnowsTree (sym failed.1) (knows-written before.places before.disk user file failed.0 knows)
  knows-failed user (Write De file bytes) names brings failed = absurd brings.brings
  knows-failed user (Write (Ce slot) file bytes) names brings failed = absurd brings.brings
  knows-failed user op names brings failed = knows-rests failed

  -- a call that was done
  knows-heard : (call : Call) (answer : Answer) → Fits before call → BringsName before call
      → Does before after call answer → KnowsAfter after call
  knows-heard (Op user op names) answer fits brings does =
      subst KnowsTree (sym does.1) (knows-view before.places before.disk user op names knows fits.0 brings)
  knows-heard ListCall answer fits brings does =
      subst (λ (disk : Disk). KnowsPlaces after.places (view disk)) (sym (ap (λ (p : Plain). p.disk) does.2)) does.1
  knows-heard (Read place) answer fits brings does =
      subst KnowsTree (sym does.3) (knows-read before.places (view before.disk) place fits knows)
  knows-heard (Generate tag app_id) answer fits brings does = subst KnowsTree (sym does.3) knows
  knows-heard Entries answer fits brings does = subst KnowsTree (sym does.1.2) knows
  knows-heard call answer fits brings does = subst KnowsTree (sym does.1) knows

  -- a call that failed
  knows-undone : (call : Call) → BringsName before call → IsFailed before after call → KnowsTree after
  knows-undone (Op user op names) brings failed = knows-failed user op names brings failed
  knows-undone call brings failed = knows-rests failed

-- each call keeps what is known, by its answer
pub knows-made : (before after : Plain) (call : Call) (told : Result Made NoMemory) → KnowsTree before
    → Fits before call → BringsName before call → IsMade before after call told → StillKnows after call told
knows-made before after call (Ok (Heard answer)) knows fits brings made =
    knows-heard before after knows call answer fits brings made
knows-made before after call (Ok (Failed device)) knows fits brings made =
    knows-undone before after knows call brings made.1
knows-made before after call (Err want) knows fits brings made = subst KnowsTree (sym made) knows
