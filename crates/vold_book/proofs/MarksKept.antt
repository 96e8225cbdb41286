-- No user who is there has a change that isn't durable but those who are marked, after each call.
use Rattle.std.proofs.Common.{◌≡◌, ◌≢◌, ℕ, inl, inr, Bool, true, false, not, cond, List, [], ◌++◌, refl, sym, ap, ◌∙◌}
use Rattle.std.proofs.Common.{subst}
use Rattle.std.proofs.Math.Seq.{drop-length}
use Rattle.std.proofs.lemmas.List.{append-nil}
use Rattle.std.specs.Prelude.{◌&&◌, ◌||◌, Option, Some, None, is_some, IsSome, Ok}
use Rattle.std.specs.Cmp.{nat_cmp_total}
use Rattle.std.specs.FinMap as map
use Rattle.std.specs.FinMap.{nat_cmp-IsAntisymmetric}
use Rattle.std.specs.FinSet as set
use Rattle.tree_model.specs.declared.blobs.Blob.{Blob}
use Rattle.tree_model.specs.declared.places.Place.TheVariants.{De}
use Rattle.tree_model.specs.declared.sites.LocalOp.{LocalOp}
use Rattle.tree_model.specs.declared.sites.LocalOp.TheVariants.{MakeDir, Write, RenameFile}
use Rattle.tree_model.specs.declared.sites.LocalOp.TheVariants.{RenameDir, RemoveFile, RemoveDir}
use Rattle.tree_model.specs.declared.sites.Site.{Site}
use Rattle.tree_model.specs.declared.sites.Site.TheVariants.{De as DeSite, Ce as CeSite, Temp as TempSite}
use Rattle.tree_model.specs.Disk.{view}
use Rattle.tree_model.specs.Order.{place_total, place_exact}
use Rattle.tree_model.specs.Parts.{Part, part_of, LocalFits}
use Rattle.tree_model.specs.Sites.{place_of}
use Rattle.tree_model.proofs.Maps.{tied, apart, decide_key, get-insert_other, get-remove_same}
use Rattle.tree_model.proofs.Maps.{get-remove_other}
use Rattle.journal_model.specs.declared.entries.Change.{Change}
use Rattle.journal_model.specs.Machine.{NoChangeOf}
use Rattle.journal_model.specs.Users.{fold_changes}
use Rattle.user_world.specs.declared.changes.LocalChange.{LocalChange}
use Rattle.user_world.specs.Changes.{change_of, if_noted}
use Rattle.user_world.specs.Timelines.{Timeline, OwnWorldsStand}
use Rattle.user_world.proofs.Worlds.{owner-change_of}
use Rattle.key_directory.specs.Vaults.{Vault, sealed}
use Rattle.key_directory.proofs.Present.{there-user}
use Rattle.step_core.specs.Table.{NamedPlaces, Users, without_mark}
use Rattle.task_turns.specs.declared.calls.Answer.{Answer}
use Rattle.task_turns.specs.declared.calls.Call.{Call}
use Rattle.task_turns.specs.declared.calls.Call.TheVariants.{Op as OpCall, Sync, Generate, Encrypt, Decrypt}
use Rattle.task_turns.specs.declared.calls.Call.TheVariants.{List as ListCall, Read, Entries, Add, Remove, Delete}
use Rattle.bench.specs.declared.made.Made.{Made}
use Rattle.bench.specs.declared.made.Made.TheVariants.{Heard, Failed}
use Rattle.bench.specs.Bench.{Plain as Seen, Fits, Does, IsMade, KnowsPlaces, places_after, was_done}
use Rattle.bench.specs.Seen.{marks_told}
use Rattle.bench.specs.Steps.{marks_with as operated_marks}
use Rattle.vold_book.specs.declared.tasks.Task.{Task}
use Rattle.vold_book.specs.State.{Plain, AllDurable, machine_of, tried_in, timeline, vault_of}
use Rattle.vold_book.specs.Turns.{marks_with}
use Rattle.vold_book.specs.Whole.{MarksTell, Whole}
use Rattle.vold_book.proofs.Carried.{Grows, durable-on, op-grows, quiet}
use Rattle.vold_book.proofs.Moves.{After, after_of, machine_then}

-- who is marked, with one more or one less
module _ (marks : Users) (user : ℕ) where
  with-own : set.contains (set.insert marks user) user ≡ true
  with-own = set.contains-insert nat_cmp_total marks user user
      ∙ ap (λ t. t || set.contains marks user) (tied nat_cmp_total nat_cmp-IsAntisymmetric user user refl)

  module _ (other : ℕ) (differ : other ≢ user) where
    with-other : set.contains (set.insert marks user) other ≡ set.contains marks other
    with-other = set.contains-insert nat_cmp_total marks user other
        ∙ ap (λ t. t || set.contains marks other) (apart nat_cmp_total nat_cmp-IsAntisymmetric other user differ)

    without-other : set.contains (set.remove marks user) other ≡ set.contains marks other
    without-other = set.contains-remove nat_cmp_total marks user other
        ∙ ap (λ t. not t && set.contains marks other) (apart nat_cmp_total nat_cmp-IsAntisymmetric other user differ)

-- another user's device directory is another place
other-device : (user other : ℕ) (site : Site) → other ≢ user → De other ≢ place_of user site
other-device user other DeSite differ same = differ (of same)
  where
    of : De other ≡ De user → other ≡ user
    of e = cc
other-device user other (CeSite slot) differ same = cc
other-device user other TempSite differ same = cc

-- an operation leaves what is known of another user, and the other's mark
module _ (places : NamedPlaces) (marks : Users) (user other : ℕ) (differ : other ≢ user) where
  other-place : (op : LocalOp) (names : Option Blob)
      → map.get (places_after places user op names) (De other) ≡ map.get places (De other)
  other-place (MakeDir site) names =
      get-insert_other place_total place_exact places _ None (De other) (other-device user other site differ)
  other-place (Write site file bytes) names = refl
  other-place (RenameFile site from to) names = refl
  other-place (RenameDir from to) names =
      get-insert_other place_total place_exact _ _ _ (De other) (other-device user other to differ)
      ∙ get-remove_other place_total place_exact places _ (De other) (other-device user other from differ)
  other-place (RemoveFile site file) names = refl
  other-place (RemoveDir site) names =
      get-remove_other place_total place_exact places _ (De other) (other-device user other site differ)

  other-left : (site : Site)
      → set.contains (without_mark marks (place_of user site)) other ≡ set.contains marks other
  other-left DeSite = without-other marks user other differ
  other-left (CeSite slot) = refl
  other-left TempSite = refl

  other-mark : (op : LocalOp) → set.contains (operated_marks marks user op) other ≡ set.contains marks other
  other-mark (MakeDir site) = refl
  other-mark (Write site file bytes) = refl
  other-mark (RenameFile site from to) = refl
  other-mark (RenameDir from to) = other-left from
  other-mark (RemoveFile site file) = refl
  other-mark (RemoveDir site) = other-left site

  other-noted : (after : NamedPlaces) (now : Users) (op : LocalOp) (names : Option Blob) (change : Bool)
      → set.contains (marks_with after now (OpCall user op names) change) other ≡ set.contains now other
  other-noted after now op names false = refl
  other-noted after now op names true = by (map.contains_key after (De user))
    where
      by : (there : Bool) → set.contains (cond there (set.insert now user) now) other ≡ set.contains now other
      by true = with-other now user other differ
      by false = refl

lost : {X : Type 0} {found : Option X} → found ≡ None → IsSome found → ⊥
lost none there = cc

-- an operation that leaves the user's device directory there leaves the user's mark
module _ (places : NamedPlaces) (marks : Users) (user : ℕ) where
  own-mark : (part : Part) (op : LocalOp) (names : Option Blob) → LocalFits part op
      → IsSome (map.get (places_after places user op names) (De user)) → operated_marks marks user op ≡ marks
  own-mark part (MakeDir site) names fits there = refl
  own-mark part (Write site file bytes) names fits there = refl
  own-mark part (RenameFile site from to) names fits there = refl
  own-mark part (RenameDir DeSite DeSite) names fits there = absurd (both (part DeSite) fits.0 fits.1)
    where
      both : {X : Type 0} (found : Option X) → is_some found ≡ true → is_some found ≡ false → ⊥
      both found some none = cc
  own-mark part (RenameDir DeSite (CeSite slot)) names fits there = absurd (lost
      (get-insert_other place_total place_exact _ _ _ (De user) (λ e. cc)
      ∙ get-remove_same place_total place_exact places (De user)) there)
  own-mark part (RenameDir DeSite TempSite) names fits there = absurd (lost
      (get-insert_other place_total place_exact _ _ _ (De user) (λ e. cc)
      ∙ get-remove_same place_total place_exact places (De user)) there)
  own-mark part (RenameDir (CeSite slot) to) names fits there = refl
  own-mark part (RenameDir TempSite to) names fits there = refl
  own-mark part (RemoveFile site file) names fits there = refl
  own-mark part (RemoveDir DeSite) names fits there =
      absurd (lost (get-remove_same place_total place_exact places (De user)) there)
  own-mark part (RemoveDir (CeSite slot)) names fits there = refl
  own-mark part (RemoveDir TempSite) names fits there = refl

module _ (book : Plain) (whole : Whole book) (number : ℕ) (change : Option LocalChange) (task : Task)
    (bench : Seen) where
  abbrev after_call : Call → Made → After
  after_call call made = after_of book number call change task made bench

  -- who is marked once the call was made
  abbrev pub marks_then : Call → Made → Users
  marks_then call made =
      marks_with bench.places (marks_told book.marks call (Ok made)) call (was_done made && is_some change)

  abbrev Tells : Call → Made → Type 0
  Tells call made = MarksTell (marks_then call made) bench.places
      (timeline bench.disk (machine_then book (after_call call made)))

  module _ (marked : MarksTell book.marks book.bench.places (timeline book.bench.disk (machine_of book)))
      (known : KnowsPlaces book.bench.places (view book.bench.disk))
      (known' : KnowsPlaces bench.places (view bench.disk)) where
    -- where no change came, the same users are there
    same-users : (call : Call) (made : Made) (vault : Vault)
        → OwnWorldsStand (sealed vault) (timeline bench.disk (machine_then book (after_call call made)))
        → (machine_then book (after_call call made)).log ≡ (machine_of book).log → (user : ℕ)
        → is_some (map.get bench.places (De user)) ≡ is_some (map.get book.bench.places (De user))
    same-users call made vault worlds log user = known' (De user) ∙ there-user vault _ user worlds
        ∙ ap (λ changes. is_some (map.get (fold_changes changes) user)) log
        ∙ sym (there-user (vault_of (tried_in book) book.seed book.bench.store) _ user whole.worlds)
        ∙ sym (known (De user))

    module _ (call : Call) (made : Made) (vault : Vault)
        (worlds : OwnWorldsStand (sealed vault) (timeline bench.disk (machine_then book (after_call call made)))) where
      -- a call with no change that leaves the marks
      still : (machine_then book (after_call call made)).kept ≡ (machine_of book).kept
          → (machine_then book (after_call call made)).log ≡ (machine_of book).log
          → marks_then call made ≡ book.marks → Tells call made
      still kept log marks user there unmarked =
          durable-on book whole (after_call call made) []
          (quiet book whole number change task bench call made kept log)
          user
          (marked user (sym (same-users call made vault worlds log user) ∙ there)
          (ap (λ all. set.contains all user) (sym marks) ∙ unmarked)) tt

    -- an operation
    module _ (user : ℕ) (op : LocalOp) (names : Option Blob) (answer : Answer)
        (places : bench.places ≡ places_after book.bench.places user op names) (vault : Vault)
        (worlds : OwnWorldsStand (sealed vault)
        (timeline bench.disk (machine_then book (after_call (OpCall user op names) (Heard answer))))) where
      abbrev call : Call
      call = OpCall user op names

      abbrev noted : List Change
      noted = if_noted change (change_of user) []

      grows : Grows book whole (after_call call (Heard answer)) noted
      grows = op-grows book whole number change task bench user op names answer

      abbrev then_line : Timeline
      then_line = timeline bench.disk (machine_then book (after_call call (Heard answer)))

      -- the change is none of another user's
      none-noted : (other : ℕ) → other ≢ user → (note : Option LocalChange)
          → NoChangeOf other (if_noted note (change_of user) [])
      none-noted other differ None = tt
      none-noted other differ (Some done) = ((λ same. differ (sym same ∙ owner-change_of user done)), tt)

      of-other : (other : ℕ) → other ≢ user → IsSome (map.get bench.places (De other))
          → set.contains (marks_then call (Heard answer)) other ≡ false → AllDurable then_line other
      of-other other differ there unmarked =
          durable-on book whole (after_call call (Heard answer)) noted grows other
          (marked other
          (ap is_some (sym (other-place book.bench.places book.marks user other differ op names)
          ∙ sym (ap (λ all. map.get all (De other)) places)) ∙ there)
          (sym (other-noted book.bench.places book.marks user other differ bench.places
          (operated_marks book.marks user op) op names (is_some change)
          ∙ other-mark book.bench.places book.marks user other differ op) ∙ unmarked))
          (none-noted other differ change)

      -- the user is marked, or no change came
      of-user : (fits : LocalFits (part_of (view book.bench.disk) user) op) (note : Option LocalChange) → change ≡ note
          → IsSome (map.get bench.places (De user))
          → set.contains (marks_with bench.places (operated_marks book.marks user op) call (is_some note)) user ≡ false
          → AllDurable then_line user
      of-user fits (Some done) is there unmarked = absurd
          (apart' (sym (with-own (operated_marks book.marks user op) user)
          ∙ sym (ap (λ t. set.contains (cond t (set.insert (operated_marks book.marks user op) user)
          (operated_marks book.marks user op)) user) there) ∙ unmarked))
        where
          apart' : true ≡ false → ⊥
          apart' e = cc
      of-user fits None is there unmarked =
          let none : noted ≡ [] = ap (λ note. if_noted note (change_of user) []) is in
          let log = grows.log ∙ ap (λ more. (machine_of book).log ++ more) none ∙ append-nil (machine_of book).log in
          durable-on book whole (after_call call (Heard answer)) noted grows user
          (marked user
          (sym (same-users call (Heard answer) vault worlds log user) ∙ there)
          (ap (λ all. set.contains all user) (sym (own-mark book.bench.places book.marks user
          (part_of (view book.bench.disk) user) op names fits
          (subst (λ all. IsSome (map.get all (De user))) places there))) ∙ unmarked))
          (subst (NoChangeOf user) (sym none) tt)

      op-tells : LocalFits (part_of (view book.bench.disk) user) op → Tells call (Heard answer)
      op-tells fits other there unmarked = elim (decide_key nat_cmp_total nat_cmp-IsAntisymmetric other user) [
        | inl same ↦ subst (AllDurable then_line) (sym same) (of-user fits change refl
            (subst (λ u. IsSome (map.get bench.places (De u))) same there)
            (subst (λ u. set.contains (marks_then call (Heard answer)) u ≡ false) same unmarked))
        | inr differ ↦ of-other other differ there unmarked
      ]

  -- each call, done or failed
  module _ (marked : MarksTell book.marks book.bench.places (timeline book.bench.disk (machine_of book)))
      (known : KnowsPlaces book.bench.places (view book.bench.disk))
      (known' : KnowsPlaces bench.places (view bench.disk)) (vault : Vault) where
    abbrev Stands : Call → Made → Type 0
    Stands call made =
        OwnWorldsStand (sealed vault) (timeline bench.disk (machine_then book (after_call call made)))

    done-tells : (call : Call) (answer : Answer) → Fits book.bench call → Does book.bench bench call answer
        → Stands call (Heard answer) → call ≢ ListCall → Tells call (Heard answer)
    done-tells (OpCall user op names) answer fits does worlds unlisted = op-tells marked known known' user op names
        answer
        (ap (λ b. b.places) does.1) vault worlds fits.0
    done-tells Sync answer fits does worlds unlisted = λ user there unmarked.
        subst (NoChangeOf user) (sym (drop-length (machine_of book).log)) tt
    done-tells ListCall answer fits does worlds unlisted = absurd (unlisted refl)
    done-tells (Read place) answer fits does worlds unlisted =
        still marked known known' (Read place) (Heard answer) vault worlds refl refl refl
    done-tells (Generate tag app_id) answer fits does worlds unlisted =
        still marked known known' (Generate tag app_id) (Heard answer) vault worlds refl refl refl
    done-tells (Encrypt blob app_id nonce key) answer fits does worlds unlisted =
        still marked known known' (Encrypt blob app_id nonce key) (Heard answer) vault worlds refl refl refl
    done-tells (Decrypt blob app_id text) answer fits does worlds unlisted =
        still marked known known' (Decrypt blob app_id text) (Heard answer) vault worlds refl refl refl
    done-tells Entries answer fits does worlds unlisted =
        still marked known known' Entries (Heard answer) vault worlds refl refl refl
    done-tells (Delete item tells) answer fits does worlds unlisted =
        still marked known known' (Delete item tells) (Heard answer) vault worlds refl refl refl
    done-tells (Add user class key) answer fits does worlds unlisted =
        still marked known known' (Add user class key) (Heard answer) vault worlds refl refl refl
    done-tells (Remove user class) answer fits does worlds unlisted =
        still marked known known' (Remove user class) (Heard answer) vault worlds refl refl refl

    unnoted : (call : Call) → marks_with bench.places book.marks call false ≡ book.marks
    unnoted (OpCall user op names) = refl
    unnoted _ = refl

    pub marks-told : (call : Call) (made : Made) → Fits book.bench call → IsMade book.bench bench call (Ok made)
        → Stands call made → call ≢ ListCall → Tells call made
    marks-told call (Heard answer) fits is_made worlds unlisted = done-tells call answer fits is_made worlds unlisted
    marks-told call (Failed device) fits is_made worlds unlisted =
        still marked known known' call (Failed device) vault worlds refl refl (unnoted call)
