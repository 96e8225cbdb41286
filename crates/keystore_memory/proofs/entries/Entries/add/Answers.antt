use Rattle.std.proofs.Common.{◌≡◌, ◌+◌, ◌<◌, ◌^◌, length, sym, ap, ◌∙◌, subst}
use Rattle.std.specs.Prelude.{Contains}
use Rattle.std.specs.Ordering.{nat_cmp}
use Rattle.std.specs.FinMap as map
use Rattle.sorted_map.specs.Maps.{held}
use Rattle.keystore_memory.specs.Format.{first_blobs, next_blob, numbered}
use Rattle.keystore_memory.specs.Kept.{store_of, IsKept}
use Rattle.keystore_memory.proofs.BlobNumbers.{next-fresh, length-first}
use Rattle.keystore_memory.proofs.Rows.{added, blob-added, store-added, kept-added}
use Rattle.keystore_memory.proofs.entries.Entries.add.Goals as goal

small : (c : goal.After-self-1) → c.self.inside.next < 2 ^ 63
small c = subst (λ n. n < 2 ^ 63) (length-first c.self.inside.next)
    (subst (λ shelf. length shelf.store.given < 2 ^ 63) (sym c.self.view_is) c.requires.number)

inserted : (c : goal.After-self-1) → held nat_cmp c.insert.new.self
    ≡ map.insert (held nat_cmp c.self.inside.rows) c.self.inside.next
    (added c.self.invariant c.args.tag c.args.app_id (small c))
inserted c = (rw c.unwrap.ensures at c.insert.ensures.held)
    ∙ ap (map.insert (held nat_cmp c.self.inside.rows) c.self.inside.next)
    (λ i. record {
      blob = c.blob_of_number-blob.ensures i;
      level = c.self.inside.level;
      app_id = c.args.app_id;
      key = c.key_of_number.ensures i;
      tag = c.args.tag;
    })

kept : (c : goal.After-self-1) → IsKept (held nat_cmp c.insert.new.self) (c.self.inside.next + 1) c.self.inside.level
kept c = subst (λ rows. IsKept rows (c.self.inside.next + 1) c.self.inside.level) (sym (inserted c))
    (kept-added c.self.invariant c.args.tag c.args.app_id (small c))

pub invariant_of-self : goal.invariant_of-self
invariant_of-self c = kept c

pub returns-clause-blob : goal.returns-clause-blob
returns-clause-blob c =
    c.blob_of_number-blob.ensures ∙ blob-added c.self.invariant ∙ ap (λ shelf. next_blob shelf.store) c.self.view_is

pub returns-clause-fresh : goal.returns-clause-fresh
returns-clause-fresh c = subst (λ shelf. ¬ (Contains shelf.store.given c.blob_of_number-blob.result)) c.self.view_is
    (subst (λ blob. ¬ (Contains (first_blobs c.self.inside.next) blob)) (sym c.blob_of_number-blob.ensures)
    (next-fresh c.self.inside.next (small c)))

pub returns-clause-added : goal.returns-clause-added
returns-clause-added c = ap (λ rows. store_of rows (c.self.inside.next + 1) c.self.inside.level) (inserted c)
    ∙ store-added c.self.invariant c.args.tag c.args.app_id (small c)
    ∙ ap (λ shelf. numbered shelf.store c.args.tag c.args.app_id) c.self.view_is

pub returns-clause-whole : goal.returns-clause-whole
returns-clause-whole c = (kept c).whole
