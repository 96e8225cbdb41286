-- One more entry: the machine after it, and that the journal stays legal.
use Rattle.std.proofs.lemmas.List.{append-nil}
use Rattle.std.proofs.Common.{◌≡◌, ℕ, List, [], ◌∷◌, ◌++◌, refl, sym, ap, ◌∙◌, subst, append_assoc}
use Rattle.journal_model.specs.declared.commands.Actor.{Actor}
use Rattle.journal_model.specs.declared.entries.Entry.{Entry}
use Rattle.journal_model.specs.Machine.{Machine, first_machine, after_entry, machine_from}
use Rattle.journal_model.specs.Machine.{machine_after, MayCome, IsLegalFrom, IsLegal, count_after}
use Rattle.journal_model.specs.Machine.{begun_from, begun_by, number_begun, numbers_begun}

machine_from-append : (before : List Entry) (machine : Machine) (entries : List Entry) (entry : Entry)
    → machine_from before machine (entries ++ entry ∷ [])
    ≡ after_entry (before ++ entries) (machine_from before machine entries) entry
machine_from-append before machine [] entry = ap (λ es. after_entry es machine entry) (sym (append-nil before))
machine_from-append before machine (first ∷ entries) entry =
    machine_from-append (before ++ first ∷ []) (after_entry before machine first) entries entry
    ∙ ap (λ es. after_entry es (machine_from (before ++ first ∷ []) (after_entry before machine first) entries) entry)
    (append_assoc before (first ∷ []) entries)

legal_from-append : (before : List Entry) (machine : Machine) (entries : List Entry) (entry : Entry)
    → IsLegalFrom before machine entries → MayCome (before ++ entries) (machine_from before machine entries) entry
    → IsLegalFrom before machine (entries ++ entry ∷ [])
legal_from-append before machine [] entry legal may =
    (subst (λ es. MayCome es machine entry) (append-nil before) may, tt)
legal_from-append before machine (first ∷ entries) entry legal may = (
  legal.0,
  legal_from-append (before ++ first ∷ []) (after_entry before machine first) entries entry legal.1
      (subst (λ es. MayCome es (machine_from (before ++ first ∷ []) (after_entry before machine first) entries) entry)
      (sym (append_assoc before (first ∷ []) entries)) may),
)

-- the machine after one more entry
pub machine_after-append : (entries : List Entry) (entry : Entry)
    → machine_after (entries ++ entry ∷ []) ≡ after_entry entries (machine_after entries) entry
machine_after-append entries entry = machine_from-append [] first_machine entries entry

-- an entry that may come keeps the journal legal
pub legal-append : (entries : List Entry) (entry : Entry) → IsLegal entries
    → MayCome entries (machine_after entries) entry → IsLegal (entries ++ entry ∷ [])
legal-append entries entry legal may = legal_from-append [] first_machine entries entry legal may

begun_from-append : (count : ℕ) (actor : Actor) (entries : List Entry) (entry : Entry)
    → begun_from count actor (entries ++ entry ∷ []) ≡ count_after actor (begun_from count actor entries) entry
begun_from-append count actor [] entry = refl
begun_from-append count actor (first ∷ entries) entry =
    begun_from-append (count_after actor count first) actor entries entry

-- the count of an actor's commands after one more entry
pub begun_by-append : (actor : Actor) (entries : List Entry) (entry : Entry)
    → begun_by actor (entries ++ entry ∷ []) ≡ count_after actor (begun_by actor entries) entry
begun_by-append actor entries entry = begun_from-append 0 actor entries entry

-- the numbers that began with one more entry
pub numbers_begun-append : (entries : List Entry) (entry : Entry)
    → numbers_begun (entries ++ entry ∷ []) ≡ numbers_begun entries ++ number_begun entry
numbers_begun-append [] entry = append-nil (number_begun entry)
numbers_begun-append (first ∷ entries) entry =
    ap (λ ns. number_begun first ++ ns) (numbers_begun-append entries entry)
    ∙ sym (append_assoc (number_begun first) (numbers_begun entries) (number_begun entry))
