-- A command's standing after one more entry.
use Rattle.std.proofs.Common.{◌≡◌, ℕ, ◌+◌, ◌<◌, List, [], ◌∷◌, ◌++◌, length, get_or, take, refl, sym, ap, ◌∙◌}
use Rattle.std.proofs.lemmas.List.{take_more}
use Rattle.journal_model.specs.declared.entries.Entry.{Entry}
use Rattle.vold_book.specs.declared.standings.Standing.{Standing}
use Rattle.vold_book.specs.Stands.{stands_after, stands_from, stands_in}

stands_from-append : (standing : Standing) (number : ℕ) (entries : List Entry) (entry : Entry)
    → stands_from standing number (entries ++ entry ∷ [])
    ≡ stands_after (stands_from standing number entries) number entry
stands_from-append standing number [] entry = refl
stands_from-append standing number (first ∷ entries) entry =
    stands_from-append (stands_after standing number first) number entries entry

-- where a command stands by one more of a journal's entries
pub stands_in-more : (entries : List Entry) (i : ℕ) (default : Entry) (number : ℕ) (standing standing' : Standing)
    → i < length entries → standing' ≡ stands_after standing number (get_or entries i default)
    → standing ≡ stands_in (take i entries) number → standing' ≡ stands_in (take (i + 1) entries) number
stands_in-more entries i default number standing standing' within next so_far =
    next ∙ ap (λ s. stands_after s number (get_or entries i default)) so_far
    ∙ sym (ap (λ es. stands_in es number) (take_more entries i default within)
    ∙ stands_from-append _ number (take i entries) (get_or entries i default))
