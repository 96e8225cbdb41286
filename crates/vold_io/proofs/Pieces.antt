-- Lists that are taken piece by piece.
use Rattle.std.proofs.Common.{◌≡◌, ℕ, ◌+◌, ◌-◌, ◌≤◌, List, [], ◌++◌, length, take, drop, Option, Some, None, refl}
use Rattle.std.proofs.Common.{sym, ap, subst, ◌∙◌, append_assoc, arith, length-append}
use Rattle.std.proofs.lemmas.List.{take_at, take_rest, drop-drop, take-append-drop, length-take-le}
use Rattle.std.proofs.Math.Seq.{take-add}
use Rattle.std.specs.Io.KnownBytes.{append_known, prepend_known}
use Rattle.vold_io.specs.Transfers.{LosesAtMost}

-- the slice `&bytes[start..]`
abbrev pub from_start : ℕ → List ℕ → List ℕ
from_start start bytes = take (length bytes - start) (drop start bytes)

-- what was copied to the front of a buffer, and then what is left
pub rest-after_piece : (count position : ℕ) (bytes whole piece tail : List ℕ) → whole ≡ bytes
    → piece ≡ take count (from_start position whole)
    → count ≤ length (from_start position whole)
    → drop position bytes ≡ take count (piece ++ tail) ++ drop (position + count) bytes
rest-after_piece count position bytes whole piece tail same copied room =
    let left : from_start position whole ≡ drop position bytes = take_rest whole position ∙ ap (drop position) same in
    let fits : count ≤ length (drop position bytes) = subst (λ xs. count ≤ length xs) left room in
    let copied_left : piece ≡ take count (drop position bytes) = copied ∙ ap (take count) left in
    let len : length piece ≡ count = ap length copied_left ∙ length-take-le count (drop position bytes) fits in
    sym
    (ap (λ l. l ++ drop (position + count) bytes) (take_at piece tail count len ∙ copied_left)
    ∙ ap (λ l. take count (drop position bytes) ++ l) (sym (drop-drop count position bytes))
    ∙ take-append-drop count (drop position bytes))

-- two pieces that were taken off the front, one after the other
pub prepend_known-append : (front back : List ℕ) (rest : Option (List ℕ))
    → prepend_known front (prepend_known back rest) ≡ prepend_known (front ++ back) rest
prepend_known-append front back None = refl
prepend_known-append front back (Some left) = ap Some (sym (append_assoc front back left))

-- two pieces that were added, one after the other
pub append_known-append : (taken : Option (List ℕ)) (front back : List ℕ)
    → append_known (append_known taken front) back ≡ append_known taken (front ++ back)
append_known-append None front back = refl
append_known-append (Some bytes) front back = ap Some (append_assoc bytes front back)

-- one piece more was taken off the front
pub prepend-piece : (old mid new : Option (List ℕ)) (front piece : List ℕ) → old ≡ prepend_known front mid
    → mid ≡ prepend_known piece new
    → old ≡ prepend_known (front ++ piece) new
prepend-piece old mid new front piece before after =
    before ∙ ap (prepend_known front) after ∙ prepend_known-append front piece new

-- one piece more was added
pub append-piece : (old mid new : Option (List ℕ)) (written count : ℕ) (bytes : List ℕ)
    → mid ≡ append_known old (take written bytes)
    → new ≡ append_known mid (take count (from_start written bytes))
    → new ≡ append_known old (take (written + count) bytes)
append-piece old mid new written count bytes before after =
    after ∙ ap (λ left. append_known mid (take count left)) (take_rest bytes written)
    ∙ ap (λ taken. append_known taken (take count (drop written bytes))) before
    ∙ append_known-append old (take written bytes) (take count (drop written bytes))
    ∙ ap (append_known old) (sym (take-add written count bytes))

-- a piece of a buffer after what came before keeps within a limit
pub length-with_piece : (before buf : List ℕ) (count limit : ℕ) → count ≤ length buf
    → length before + length buf ≤ limit → length (before ++ take count buf) ≤ limit
length-with_piece before buf count limit fits room =
    omega (arith, length-append before (take count buf), length-take-le count buf fits)

-- where nothing was taken, no limit was passed
pub LosesAtMost-same : (limit : ℕ) (rest : Option (List ℕ)) → LosesAtMost limit rest rest
LosesAtMost-same limit None = ([], omega arith, refl)
LosesAtMost-same limit (Some bytes) = ([], omega arith, refl)
