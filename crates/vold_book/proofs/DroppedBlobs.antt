-- What an operation of a user's drops, by what is known of the places: what the user's directories named in the view.
use Rattle.std.proofs.Common.{◌≡◌, inl, ℕ, Bool, true, false, List, [], length, refl, sym, subst}
use Rattle.std.specs.Prelude.{Option, None, is_some, IsSome}
use Rattle.tree_model.specs.declared.blobs.Blob.{Blob}
use Rattle.tree_model.specs.declared.places.Slot.{Slot}
use Rattle.tree_model.specs.declared.sites.LocalOp.{LocalOp}
use Rattle.tree_model.specs.declared.sites.LocalOp.TheVariants.{MakeDir, Write, RenameFile}
use Rattle.tree_model.specs.declared.sites.LocalOp.TheVariants.{RenameDir, RemoveFile, RemoveDir}
use Rattle.tree_model.specs.declared.sites.Site.TheVariants.{De, Ce, Temp}
use Rattle.tree_model.specs.Disk.{view}
use Rattle.tree_model.specs.Named.{PartNames}
use Rattle.tree_model.specs.Parts.{Part, part_of, standing, LocalFits}
use Rattle.tree_model.proofs.Logic.{is_none}
use Rattle.journal_model.specs.Users.{Record}
use Rattle.keystore_model.specs.Store.{Differ}
use Rattle.keystore_model.proofs.Elements.{Contains-none}
use Rattle.blob_custody.specs.Operations.{NamesAlone}
use Rattle.blob_custody.specs.Steps.{Renames}
use Rattle.blob_custody.proofs.Left.{view-left}
use Rattle.blob_custody.proofs.Names.{absent, same-names, names-differ}
use Rattle.blob_custody.proofs.Renamings.{drop, destruction}
use Rattle.user_world.specs.Meaning.{PartStands}
use Rattle.user_world.specs.Timelines.{Timeline, own_of}
use Rattle.key_directory.specs.Vaults.{Vault, SealedStands, sealed}
use Rattle.key_directory.proofs.Apart.{known-there}
use Rattle.task_turns.specs.Names.{Gains}
use Rattle.bench.specs.Bench.{dropped}
use Rattle.bench.specs.Known.{Knows}
use Rattle.bench.proofs.Dropped.{dropped-named, dropped-slot, dropped-debris, dropped-differ}
use Rattle.vold_book.specs.State.{Plain, machine_of, tried_in, timeline, vault_of}
use Rattle.vold_book.specs.Whole.{Whole}
use Rattle.vold_book.proofs.NamesLive.{Loses, left-stands, named-long, renames-gained, loses-none}

slots-differ : (slot other : Slot) → Ce slot ≡ Ce other → slot ≡ other
slots-differ slot other same = cc

devices-differ : (slot : Slot) → De ≡ Ce slot → ⊥
devices-differ slot same = cc

module _ (book : Plain) (whole : Whole book) (known : Knows book.bench.places (view book.bench.disk)) (user : ℕ) where
  abbrev vault : Vault
  vault = vault_of (tried_in book) book.seed book.bench.store

  abbrev line : Timeline
  line = timeline book.bench.disk (machine_of book)

  abbrev part : Part
  part = part_of (view book.bench.disk) user

  abbrev drops_of : LocalOp → List Blob
  drops_of op = dropped book.bench.places user op

  recorded : (found : Option Record) × PartStands (sealed vault) user part found
  recorded = (_, (left-stands book whole (view book.bench.disk) (view-left book.bench.disk)).1.user user)

  -- where the user is there, each standing directory names a blob of its own
  module _ (present : IsSome (part De)) where
    abbrev there : (found : Record) × SealedStands vault user (standing part) found
    there = known-there vault user part recorded.0 recorded.1 present

    alone : (slot : Slot) → NamesAlone part slot
    alone slot = record {
      apart = λ other blob differ names named.
          differ (slots-differ other slot (there.1.apart (Ce other) (Ce slot) blob names named));
      device = λ blob names named. devices-differ slot (there.1.apart De (Ce slot) blob names named);
    }

    long : (blob : Blob) → PartNames part blob → length blob ≡ 32
    long blob names = named-long vault user part recorded.0 blob recorded.1 names

    loses-all : Loses book.bench.disk user (RemoveDir De) (drops_of (RemoveDir De))
    loses-all = let lost = destruction book.bench.disk user (drops_of (RemoveDir De))
        (dropped-named book.bench.places (view book.bench.disk) user known present long) in
        record { lost = lost.lost; dropped = lost.dropped; unnamed = lost.unnamed }

    loses-slot : (slot : Slot) → Loses book.bench.disk user (RemoveDir (Ce slot)) (drops_of (RemoveDir (Ce slot)))
    loses-slot slot = subst (Loses book.bench.disk user (RemoveDir (Ce slot)))
        (sym (dropped-slot book.bench.places (view book.bench.disk) user known present long slot))
        (let lost = drop book.bench.disk user slot present (alone slot) in
        record { lost = lost.lost; dropped = lost.dropped; unnamed = lost.unnamed })

    differs : (op : LocalOp) → Differ (drops_of op)
    differs (RemoveDir De) = dropped-differ book.bench.places (view book.bench.disk) user known present long alone
    differs (RemoveDir (Ce slot)) = subst Differ
        (sym (dropped-slot book.bench.places (view book.bench.disk) user known present long slot))
        (names-differ part (Ce slot))
    differs op = tt

  -- where the user isn't there, none is named
  loses-nothing : part De ≡ None → (op : LocalOp) → Loses book.bench.disk user op []
  loses-nothing none op = record {
    lost = λ blob names. absurd (absent (part De) none names.present);
    dropped = λ blob has. absurd (Contains-none blob has);
    unnamed = λ blob has. absurd (Contains-none blob has);
  }

  -- the temporary directory stands for nothing
  loses-temp : Loses book.bench.disk user (RemoveDir Temp) []
  loses-temp = record {
    lost = λ blob names. inl (same-names part _ blob refl (λ slot. refl) names);
    dropped = λ blob has. absurd (Contains-none blob has);
    unnamed = λ blob has. absurd (Contains-none blob has);
  }

  slot-lost : (slot : Slot) (there : Bool) → is_some (part De) ≡ there
      → Loses book.bench.disk user (RemoveDir (Ce slot)) (drops_of (RemoveDir (Ce slot)))
  slot-lost slot true is = loses-slot is slot
  slot-lost slot false is =
      let none = is_none (part De) is in
      subst (Loses book.bench.disk user (RemoveDir (Ce slot)))
      (sym (dropped-debris book.bench.places (view book.bench.disk) user known (RemoveDir (Ce slot)) refl none))
      (loses-nothing none (RemoveDir (Ce slot)))

  -- an operation gains what it shows, and drops what the table says
  pub renames-dropped : (op : LocalOp) (gains : List Blob) → LocalFits part op → Gains (own_of user line) op gains
      → Renames book.bench.disk user op gains (drops_of op)
  renames-dropped op gains fits has =
      renames-gained (sealed vault) line user whole.worlds op gains (drops_of op) has (by op fits has)
    where
      by : (op : LocalOp) → LocalFits part op → Gains (own_of user line) op gains
          → Loses book.bench.disk user op (drops_of op)
      by (RemoveDir De) fits has = loses-all fits
      by (RemoveDir (Ce slot)) fits has = slot-lost slot (is_some (part De)) refl
      by (RemoveDir Temp) fits has = loses-temp
      by (MakeDir site) fits has = loses-none (sealed vault) line user whole.worlds _ gains has (λ removal. removal)
      by (Write site file bytes) fits has =
          loses-none (sealed vault) line user whole.worlds _ gains has (λ removal. removal)
      by (RenameFile site from to) fits has =
          loses-none (sealed vault) line user whole.worlds _ gains has (λ removal. removal)
      by (RenameDir from to) fits has =
          loses-none (sealed vault) line user whole.worlds _ gains has (λ removal. removal)
      by (RemoveFile site file) fits has =
          loses-none (sealed vault) line user whole.worlds _ gains has (λ removal. removal)

  slot-differs : (slot : Slot) (there : Bool) → is_some (part De) ≡ there → Differ (drops_of (RemoveDir (Ce slot)))
  slot-differs slot true is = differs is (RemoveDir (Ce slot))
  slot-differs slot false is = subst Differ (sym (dropped-debris book.bench.places (view book.bench.disk) user known
      (RemoveDir (Ce slot)) refl (is_none (part De) is))) tt

  -- which differ
  pub drops-differ : (op : LocalOp) → LocalFits part op → Differ (drops_of op)
  drops-differ (RemoveDir De) fits = differs fits (RemoveDir De)
  drops-differ (RemoveDir (Ce slot)) fits = slot-differs slot (is_some (part De)) refl
  drops-differ (RemoveDir Temp) fits = tt
  drops-differ (MakeDir site) fits = tt
  drops-differ (Write site file bytes) fits = tt
  drops-differ (RenameFile site from to) fits = tt
  drops-differ (RenameDir from to) fits = tt
  drops-differ (RemoveFile site file) fits = tt
