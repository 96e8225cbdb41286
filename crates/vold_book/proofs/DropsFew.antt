-- How many blobs an operation drops at most: one for each of the user's directories that it removes.
use Rattle.std.proofs.Common.{◌≡◌, ◌≤◌, ◌<◌, ◌+◌, ◌^◌, ℕ, Bool, true, false, cond, [], length, refl, sym, ap, ◌∙◌}
use Rattle.std.proofs.Common.{subst, arith}
use Rattle.std.specs.Prelude.{Option, Some, None, is_some, option_to_list}
use Rattle.std.specs.FinMap as map
use Rattle.tree_model.specs.declared.sites.LocalOp.TheVariants.{RemoveDir}
use Rattle.tree_model.specs.declared.sites.Site.TheVariants.{De, Ce, Temp}
use Rattle.tree_model.specs.declared.places.Place.TheVariants.{De as DePlace, Ce as CePlace}
use Rattle.tree_model.specs.Disk.{view}
use Rattle.tree_model.specs.declared.blobs.Blob.{Blob}
use Rattle.bench.specs.Known.{Knows}
use Rattle.tree_model.specs.Parts.{LocalFits, Part, part_of}
use Rattle.tree_model.specs.declared.sites.LocalOp.{LocalOp}
use Rattle.step_core.specs.Table.{NamedPlaces, named_by}
use Rattle.vold_book.specs.State.{Plain, machine_of, timeline}
use Rattle.journal_model.specs.Users.{Record}
use Rattle.user_world.specs.Timelines.{Timeline, own_of}
use Rattle.vold_book.specs.Whole.{Whole}
use Rattle.bench.proofs.Dropped.{dropped-few}
use Rattle.vold_book.proofs.PlacedSlots.{few-known}
use Rattle.vold_book.proofs.KnowsUsers.{many-slots}
use Rattle.bench.specs.Bench.{named_here, dropped}
use Rattle.user_world.specs.OwnWorlds.{own_record}
use Rattle.vold_book.proofs.SameKeys.{same-count}
use Rattle.bench.specs.Slots.{slots_known}
use Rattle.vold_book.proofs.Bounds.{small-bounds}
use Rattle.vold_book.proofs.KnownSlots.{who-is}
use Rattle.task_turns.specs.Turns.{drops_most}

one-held : (held : Option Blob) → length (option_to_list held) ≤ 1
one-held None = omega arith
one-held (Some blob) = omega arith

-- where the user is there, with so many slots
most-of : (op : LocalOp) (places : NamedPlaces) (user : ℕ) (known : Record)
    → length (slots_known places user) ≡ length (map.keys known.secrets)
    → length (dropped places user op) ≤ drops_most op (Some known)
most-of (RemoveDir De) places user known many =
    let few = dropped-few places user (RemoveDir De) in omega (arith, few, many)
most-of (RemoveDir (Ce slot)) places user known many = by (is_some (map.get places (DePlace user)))
  where
    by : (there : Bool) → length (cond there (named_here places (CePlace user slot)) []) ≤ 1
    by true = one-held (named_by (map.get places (CePlace user slot)))
    by false = omega arith
most-of (RemoveDir Temp) places user known many = omega arith
most-of op places user known many = omega arith

-- where the user isn't there nothing is dropped
none-of : (op : LocalOp) (places : NamedPlaces) (user : ℕ) (part : Part) → LocalFits part op
    → is_some (map.get places (DePlace user)) ≡ false → is_some (part De) ≡ false
    → length (dropped places user op) ≤ 0
none-of (RemoveDir De) places user part fits none absent = absurd (both (sym absent ∙ fits))
  where
    both : false ≡ true → ⊥
    both e = cc
none-of (RemoveDir (Ce slot)) places user part fits none absent =
    let nothing = ap (λ there. length (cond there (named_here places (CePlace user slot)) [])) none in
    omega (arith, nothing)
none-of (RemoveDir Temp) places user part fits none absent = omega arith
none-of op places user part fits none absent = omega arith

module _ (book : Plain) (whole : Whole book) (knows : Knows book.bench.places (view book.bench.disk)) (user : ℕ) where
  abbrev line : Timeline
  line = timeline book.bench.disk (machine_of book)

  pub drops-few : (op : LocalOp) → LocalFits (part_of (view book.bench.disk) user) op
      → length (dropped book.bench.places user op) ≤ drops_most op (own_record (own_of user line))
  drops-few op fits = by (is_some (map.get book.bench.places (DePlace user))) refl
    where
      by : (there : Bool) → is_some (map.get book.bench.places (DePlace user)) ≡ there
          → length (dropped book.bench.places user op) ≤ drops_most op (own_record (own_of user line))
      by true is = let of = who-is book whole user knows is in
          subst (λ found. length (dropped book.bench.places user op) ≤ drops_most op found) (sym of.is)
          (most-of op book.bench.places user of.known (many-slots book whole user knows is))
      by false is =
          let none = none-of op book.bench.places user (part_of (view book.bench.disk) user) fits is
          (sym (knows.there (DePlace user)) ∙ is) in omega (arith, none)

-- the list has room for what an operation may drop
pub drops-fit : (book : Plain) → Whole book → Knows book.bench.places (view book.bench.disk) → (user : ℕ)
    (op : LocalOp)
    → book.bench.list.next + book.bench.list.promised + length (dropped book.bench.places user op) < 2 ^ 63
drops-fit book whole knows user op =
    let bounds = small-bounds book whole.small whole.numbers.few in
    let room = bounds.room_dropped in
    let few = dropped-few book.bench.places user op in
    let all = few-known user book.bench.places in
    let same = same-count book.bench.places (view book.bench.disk) knows.there in
    let most = bounds.places in
    omega (arith, room, few, all, same, most)
