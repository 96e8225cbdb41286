-- The ring of remainders modulo x ^ n + low, where low is `l ∷ ls` and n its length.
use Rattle.std.proofs.Common.{◌≡◌, Bool, true, false, List, [], ◌∷◌, ◌++◌, refl, sym, ◌∙◌, ap, subst}
use Rattle.std.proofs.lemmas.List.{append-nil}
use Rattle.seal_model.specs.Polynomial.{plus, add, scaled, product, zeros, but_last, last_of, times_x, remainder}

-- two lists of one length
pub data Same : List Bool → List Bool → Type 0 where
  none : Same [] []
  more : {a b : Bool} {p q : List Bool} → Same p q → Same (a ∷ p) (b ∷ q)

-- ---- sums
pub plus_comm : (a b : Bool) → plus a b ≡ plus b a
plus_comm false false = refl
plus_comm false true = refl
plus_comm true false = refl
plus_comm true true = refl

pub plus_assoc : (a b c : Bool) → plus (plus a b) c ≡ plus a (plus b c)
plus_assoc false b c = refl
plus_assoc true false c = refl
plus_assoc true true false = refl
plus_assoc true true true = refl

plus_self : (a : Bool) → plus a a ≡ false
plus_self false = refl
plus_self true = refl

pub add_nil : (p : List Bool) → add p [] ≡ p
add_nil [] = refl
add_nil (a ∷ p) = refl

pub add_comm : (p q : List Bool) → add p q ≡ add q p
add_comm [] q = sym (add_nil q)
add_comm (a ∷ p) [] = refl
add_comm (a ∷ p) (b ∷ q) = λ i. plus_comm a b i ∷ add_comm p q i

pub add_assoc : (p q r : List Bool) → add (add p q) r ≡ add p (add q r)
add_assoc [] q r = refl
add_assoc (a ∷ p) [] r = refl
add_assoc (a ∷ p) (b ∷ q) [] = refl
add_assoc (a ∷ p) (b ∷ q) (c ∷ r) = λ i. plus_assoc a b c i ∷ add_assoc p q r i

pub add_swap : (p q r s : List Bool) → add (add p q) (add r s) ≡ add (add p r) (add q s)
add_swap p q r s =
    add_assoc p q (add r s)
    ∙ ap (add p) (sym (add_assoc q r s) ∙ ap (λ x. add x s) (add_comm q r) ∙ add_assoc r q s)
    ∙ sym (add_assoc p r (add q s))

pub Same-add : (p q low : List Bool) → Same p low → Same q low → Same (add p q) low
Same-add _ _ _ none none = none
Same-add _ _ _ (more s) (more t) = more (Same-add _ _ _ s t)

pub Same-refl : (p : List Bool) → Same p p
Same-refl [] = none
Same-refl (a ∷ p) = more (Same-refl p)

pub Same-zeros : (p : List Bool) → Same (zeros p) p
Same-zeros [] = none
Same-zeros (a ∷ p) = more (Same-zeros p)

pub add_self : (p low : List Bool) → Same p low → add p p ≡ zeros low
add_self _ _ none = refl
add_self (a ∷ p) (l ∷ low) (more s) = λ i. plus_self a i ∷ add_self p low s i

pub zeros_add : (p low : List Bool) → Same p low → add (zeros low) p ≡ p
zeros_add _ _ none = refl
zeros_add (a ∷ p) (l ∷ low) (more s) = ap (λ x. a ∷ x) (zeros_add p low s)

pub add_zeros : (p low : List Bool) → Same p low → add p (zeros low) ≡ p
add_zeros p low s = add_comm p (zeros low) ∙ zeros_add p low s

-- ---- x times a remainder
pub Same-but_last : (a : Bool) (p low : List Bool) → Same p low → Same (but_last a p) low
Same-but_last a _ _ none = none
Same-but_last a (b ∷ p) (l ∷ low) (more s) = more (Same-but_last b p low s)

Same-scaled : (a : Bool) (u low : List Bool) → Same u low → Same (add u (scaled a low)) low
Same-scaled false u low s = subst (λ x. Same x low) (sym (add_nil u)) s
Same-scaled true u low s = Same-add u low low s (Same-refl low)

pub Same-times_x : (p low : List Bool) → Same p low → Same (times_x low p) low
Same-times_x p low s = Same-scaled (last_of false p) (but_last false p) low (Same-but_last false p low s)

but_last-add : (a b : Bool) (p q low : List Bool) → Same p low → Same q low
    → but_last (plus a b) (add p q) ≡ add (but_last a p) (but_last b q)
but_last-add a b _ _ _ none none = refl
but_last-add a b (c ∷ p) [] (l ∷ low) (more s) t = elim t [ ]
but_last-add a b (c ∷ p) (d ∷ q) (l ∷ low) (more s) (more t) = ap (λ x. plus a b ∷ x) (but_last-add c d p q low s t)

last_of-add : (a b : Bool) (p q low : List Bool) → Same p low → Same q low
    → last_of (plus a b) (add p q) ≡ plus (last_of a p) (last_of b q)
last_of-add a b _ _ _ none none = refl
last_of-add a b (c ∷ p) [] (l ∷ low) (more s) t = elim t [ ]
last_of-add a b (c ∷ p) (d ∷ q) (l ∷ low) (more s) (more t) = last_of-add c d p q low s t

scaled-plus : (a b : Bool) (u low : List Bool) → Same u low
    → add u (scaled (plus a b) low) ≡ add u (add (scaled a low) (scaled b low))
scaled-plus false b u low s = refl
scaled-plus true false u low s = ap (add u) (sym (add_nil low))
scaled-plus true true u low s =
    add_nil u ∙ sym (add_zeros u low s) ∙ ap (add u) (sym (add_self low low (Same-refl low)))

pub times_x-add : (p q low : List Bool) → Same p low → Same q low
    → times_x low (add p q) ≡ add (times_x low p) (times_x low q)
times_x-add p q low s t =
    let a = last_of false p in let b = last_of false q in
    let u = but_last false p in let v = but_last false q in
    (λ i. add (but_last-add false false p q low s t i) (scaled (last_of-add false false p q low s t i) low))
    ∙ scaled-plus a b (add u v) low (Same-add u v low (Same-but_last false p low s) (Same-but_last false q low t))
    ∙ add_swap u v (scaled a low) (scaled b low)

pub times_x-zeros : (low : List Bool) → times_x low (zeros low) ≡ zeros low
times_x-zeros low =
    let z = zeros low in let s = Same-zeros low in
    ap (times_x low) (sym (zeros_add z low s)) ∙ times_x-add z z low s s
    ∙ add_self (times_x low z) low (Same-times_x z low s)

-- ---- a polynomial of at most n coefficients is its own remainder
zeros_same : (z low : List Bool) → Same (zeros z) low → zeros low ≡ zeros z
zeros_same [] _ none = refl
zeros_same (a ∷ z) [] s = elim s [ ]
zeros_same (a ∷ z) (l ∷ low) (more s) = ap (λ x. false ∷ x) (zeros_same z low s)

Same-move : (a b : Bool) (p r low : List Bool) → Same (a ∷ (p ++ r)) low → Same (p ++ b ∷ r) low
Same-move a b [] r [] s = elim s [ ]
Same-move a b (c ∷ p) r [] s = elim s [ ]
Same-move a b [] r (l ∷ low) (more s) = more s
Same-move a b (c ∷ p) r (l ∷ low) (more s) = more (Same-move c b p r low s)

but_last-zeros : (z : List Bool) → but_last false (zeros z) ≡ zeros z
but_last-zeros [] = refl
but_last-zeros (a ∷ z) = ap (λ x. false ∷ x) (but_last-zeros z)

last_of-zeros : (z : List Bool) → last_of false (zeros z) ≡ false
last_of-zeros [] = refl
last_of-zeros (a ∷ z) = last_of-zeros z

but_last-padded : (a : Bool) (p z : List Bool) → but_last a (p ++ false ∷ zeros z) ≡ a ∷ (p ++ zeros z)
but_last-padded a [] z = ap (λ x. a ∷ x) (but_last-zeros z)
but_last-padded a (c ∷ p) z = ap (λ x. a ∷ x) (but_last-padded c p z)

last_of-padded : (a : Bool) (p z : List Bool) → last_of a (p ++ false ∷ zeros z) ≡ false
last_of-padded a [] z = last_of-zeros z
last_of-padded a (c ∷ p) z = last_of-padded c p z

remainder-padded : (p z low : List Bool) → Same (p ++ zeros z) low → remainder low p ≡ p ++ zeros z
remainder-padded [] z low s = zeros_same z low s
remainder-padded (a ∷ p) z low s =
    ap (λ x. add (a ∷ []) (times_x low x)) (remainder-padded p (false ∷ z) low (Same-move a false p (zeros z) low s))
    ∙ (λ i. add (a ∷ []) (add (but_last-padded false p z i) (scaled (last_of-padded false p z i) low)))
    ∙ (λ i. plus_comm a false i ∷ (p ++ zeros z))

pub remainder_same : (p low : List Bool) → Same p low → remainder low p ≡ p
remainder_same p low s = remainder-padded p [] low (subst (λ x. Same x low) (sym (append-nil p)) s) ∙ append-nil p

-- ---- remainders of products
add_false : (u : List Bool) (l : Bool) (ls : List Bool) → Same u (l ∷ ls) → add (false ∷ []) u ≡ u
add_false [] l ls s = elim s [ ]
add_false (a ∷ u) l ls (more s) = refl

Same-add_one : (a : Bool) (u : List Bool) (l : Bool) (ls : List Bool) → Same u (l ∷ ls)
    → Same (add (a ∷ []) u) (l ∷ ls)
Same-add_one a [] l ls s = elim s [ ]
Same-add_one a (b ∷ u) l ls (more s) = more s

-- the product of p and q in the ring
abbrev pub times : List Bool → List Bool → List Bool → List Bool
times low p q = remainder low (product p q)

module _ (l : Bool) (ls : List Bool) where
  pub Same-remainder : (p : List Bool) → Same (remainder (l ∷ ls) p) (l ∷ ls)
  Same-remainder [] = Same-zeros (l ∷ ls)
  Same-remainder (a ∷ p) =
      Same-add_one a (times_x (l ∷ ls) (remainder (l ∷ ls) p)) l ls
      (Same-times_x (remainder (l ∷ ls) p) (l ∷ ls) (Same-remainder p))

  pub remainder-add : (p q : List Bool)
      → remainder (l ∷ ls) (add p q) ≡ add (remainder (l ∷ ls) p) (remainder (l ∷ ls) q)
  remainder-add [] q = sym (zeros_add (remainder (l ∷ ls) q) (l ∷ ls) (Same-remainder q))
  remainder-add (a ∷ p) [] = sym (add_zeros (remainder (l ∷ ls) (a ∷ p)) (l ∷ ls) (Same-remainder (a ∷ p)))
  remainder-add (a ∷ p) (b ∷ q) =
      let low = l ∷ ls in let u = remainder low p in let v = remainder low q in
      ap (λ x. add (plus a b ∷ []) (times_x low x)) (remainder-add p q)
      ∙ ap (add (plus a b ∷ [])) (times_x-add u v low (Same-remainder p) (Same-remainder q))
      ∙ add_swap (a ∷ []) (b ∷ []) (times_x low u) (times_x low v)

  remainder-shifted : (p : List Bool) → remainder (l ∷ ls) (false ∷ p) ≡ times_x (l ∷ ls) (remainder (l ∷ ls) p)
  remainder-shifted p =
      add_false (times_x (l ∷ ls) (remainder (l ∷ ls) p)) l ls
      (Same-times_x (remainder (l ∷ ls) p) (l ∷ ls) (Same-remainder p))

  pub times-cons : (a : Bool) (p q : List Bool)
      → times (l ∷ ls) (a ∷ p) q ≡ add (scaled a (remainder (l ∷ ls) q)) (times_x (l ∷ ls) (times (l ∷ ls) p q))
  times-cons false p q = remainder-shifted (product p q)
  times-cons true p q =
      remainder-add q (false ∷ product p q) ∙ ap (add (remainder (l ∷ ls) q)) (remainder-shifted (product p q))

  zeros-scaled : (a : Bool) → zeros (l ∷ ls) ≡ add (scaled a (zeros (l ∷ ls))) (times_x (l ∷ ls) (zeros (l ∷ ls)))
  zeros-scaled false = sym (times_x-zeros (l ∷ ls))
  zeros-scaled true =
      sym (add_zeros (zeros (l ∷ ls)) (l ∷ ls) (Same-zeros (l ∷ ls)))
      ∙ ap (add (zeros (l ∷ ls))) (sym (times_x-zeros (l ∷ ls)))

  pub times-nil : (p : List Bool) → times (l ∷ ls) p [] ≡ zeros (l ∷ ls)
  times-nil [] = refl
  times-nil (a ∷ p) =
      times-cons a p [] ∙ ap (λ x. add (scaled a (zeros (l ∷ ls))) (times_x (l ∷ ls) x)) (times-nil p)
      ∙ sym (zeros-scaled a)

  crossed_once : (u v r : List Bool) → Same u (l ∷ ls) → Same v (l ∷ ls) → Same r (l ∷ ls)
      → add (add (false ∷ []) (times_x (l ∷ ls) u)) (times_x (l ∷ ls) (times_x (l ∷ ls) r))
      ≡ times_x (l ∷ ls) (add u (times_x (l ∷ ls) r))
  crossed_once u v r s t w =
      let low = l ∷ ls in
      ap (λ x. add x (times_x low (times_x low r))) (add_false (times_x low u) l ls (Same-times_x u low s))
      ∙ sym (times_x-add u (times_x low r) low s (Same-times_x r low w))

  -- the two ways round, with the remainders u of p and v of q and the product r of p and q
  crossed : (a b : Bool) (u v r : List Bool) → Same u (l ∷ ls) → Same v (l ∷ ls) → Same r (l ∷ ls)
      → add (scaled b (add (a ∷ []) (times_x (l ∷ ls) u))) (times_x (l ∷ ls) (add (scaled a v) (times_x (l ∷ ls) r)))
      ≡ add (scaled a (add (b ∷ []) (times_x (l ∷ ls) v))) (times_x (l ∷ ls) (add (scaled b u) (times_x (l ∷ ls) r)))
  crossed false false u v r s t w = refl
  crossed false true u v r s t w = crossed_once u v r s t w
  crossed true false u v r s t w = sym (crossed_once v u r t s w)
  crossed true true u v r s t w =
      let low = l ∷ ls in let x = times_x low in
      ap (add (add (true ∷ []) (x u))) (times_x-add v (x r) low t (Same-times_x r low w))
      ∙ add_assoc (true ∷ []) (x u) (add (x v) (x (x r)))
      ∙ ap (add (true ∷ [])) (sym (add_assoc (x u) (x v) (x (x r))) ∙ ap (λ y. add y (x (x r))) (add_comm (x u) (x v))
      ∙ add_assoc (x v) (x u) (x (x r)))
      ∙ sym (add_assoc (true ∷ []) (x v) (add (x u) (x (x r))))
      ∙ ap (add (add (true ∷ []) (x v))) (sym (times_x-add u (x r) low s (Same-times_x r low w)))

  times-second : (a : Bool) (p q : List Bool)
      → times (l ∷ ls) p (a ∷ q) ≡ add (scaled a (remainder (l ∷ ls) p)) (times_x (l ∷ ls) (times (l ∷ ls) p q))
  times-second a [] q = zeros-scaled a
  times-second a (b ∷ p) q =
      let low = l ∷ ls in let u = remainder low q in let v = remainder low p in let r = times low p q in
      times-cons b p (a ∷ q)
      ∙ ap (λ x. add (scaled b (remainder low (a ∷ q))) (times_x low x)) (times-second a p q)
      ∙ crossed a b u v r (Same-remainder q) (Same-remainder p) (Same-remainder (product p q))
      ∙ ap (λ x. add (scaled a (remainder low (b ∷ p))) (times_x low x)) (sym (times-cons b p q))

  -- multiplication is commutative
  pub times_comm : (p q : List Bool) → times (l ∷ ls) p q ≡ times (l ∷ ls) q p
  times_comm [] q = sym (times-nil q)
  times_comm (a ∷ p) q =
      times-cons a p q ∙ ap (λ x. add (scaled a (remainder (l ∷ ls) q)) (times_x (l ∷ ls) x)) (times_comm p q)
      ∙ sym (times-second a q p)

  -- and distributes over the sum
  pub times-add : (p q r : List Bool) → times (l ∷ ls) p (add q r) ≡ add (times (l ∷ ls) p q) (times (l ∷ ls) p r)
  times-add [] q r = sym (zeros_add (zeros (l ∷ ls)) (l ∷ ls) (Same-zeros (l ∷ ls)))
  times-add (a ∷ p) q r =
      let low = l ∷ ls in let x = times_x low in let u = times low p q in let v = times low p r in
      times-cons a p (add q r)
      ∙ ap (λ y. add (scaled a (remainder low (add q r))) (x y)) (times-add p q r)
      ∙ ap (add (scaled a (remainder low (add q r))))
      (times_x-add u v low (Same-remainder (product p q)) (Same-remainder (product p r)))
      ∙ ap (λ y. add y (add (x u) (x v))) (scaled-sum a)
      ∙ add_swap (scaled a (remainder low q)) (scaled a (remainder low r)) (x u) (x v)
      ∙ ap (λ y. add y (add (scaled a (remainder low r)) (x v))) (sym (times-cons a p q))
      ∙ ap (add (times low (a ∷ p) q)) (sym (times-cons a p r))
    where
      scaled-sum : (b : Bool) → scaled b (remainder (l ∷ ls) (add q r))
          ≡ add (scaled b (remainder (l ∷ ls) q)) (scaled b (remainder (l ∷ ls) r))
      scaled-sum false = refl
      scaled-sum true = remainder-add q r

  pub times_add : (p q r : List Bool) → times (l ∷ ls) (add p q) r ≡ add (times (l ∷ ls) p r) (times (l ∷ ls) q r)
  times_add p q r =
      times_comm (add p q) r ∙ times-add r p q
      ∙ ap (λ x. add x (times (l ∷ ls) r q)) (times_comm r p) ∙ ap (add (times (l ∷ ls) p r)) (times_comm r q)

  times-times_x : (p q : List Bool) → Same q (l ∷ ls)
      → times (l ∷ ls) p (times_x (l ∷ ls) q) ≡ times_x (l ∷ ls) (times (l ∷ ls) p q)
  times-times_x [] q s = sym (times_x-zeros (l ∷ ls))
  times-times_x (a ∷ p) q s =
      let low = l ∷ ls in let x = times_x low in
      times-cons a p (x q)
      ∙ ap (λ y. add (scaled a (remainder low (x q))) (x y)) (times-times_x p q s)
      ∙ moved a
      ∙ ap x (sym (times-cons a p q))
    where
      moved : (b : Bool) → add (scaled b (remainder (l ∷ ls) (times_x (l ∷ ls) q)))
          (times_x (l ∷ ls) (times_x (l ∷ ls) (times (l ∷ ls) p q)))
          ≡ times_x (l ∷ ls) (add (scaled b (remainder (l ∷ ls) q)) (times_x (l ∷ ls) (times (l ∷ ls) p q)))
      moved false = refl
      moved true =
          let low = l ∷ ls in let r = times_x low (times low p q) in
          ap (λ y. add y (times_x low r)) (remainder_same (times_x low q) low (Same-times_x q low s))
          ∙ sym (times_x-add q r low s (Same-times_x (times low p q) low (Same-remainder (product p q))))
          ∙ ap (λ y. times_x low (add y r)) (sym (remainder_same q low s))

  pub times_x-times : (p q : List Bool) → Same p (l ∷ ls)
      → times (l ∷ ls) (times_x (l ∷ ls) p) q ≡ times_x (l ∷ ls) (times (l ∷ ls) p q)
  times_x-times p q s =
      times_comm (times_x (l ∷ ls) p) q ∙ times-times_x q p s ∙ ap (times_x (l ∷ ls)) (times_comm q p)

  times-remainder : (p q : List Bool) → times (l ∷ ls) p (remainder (l ∷ ls) q) ≡ times (l ∷ ls) p q
  times-remainder [] q = refl
  times-remainder (a ∷ p) q =
      let low = l ∷ ls in
      times-cons a p (remainder low q)
      ∙ (λ i. add (scaled a (remainder_same (remainder low q) low (Same-remainder q) i))
      (times_x low (times-remainder p q i)))
      ∙ sym (times-cons a p q)

  pub remainder-times : (p q : List Bool) → times (l ∷ ls) (remainder (l ∷ ls) p) q ≡ times (l ∷ ls) p q
  remainder-times p q = times_comm (remainder (l ∷ ls) p) q ∙ times-remainder q p ∙ times_comm q p

  pub zeros-times : (p : List Bool) → times (l ∷ ls) (zeros (l ∷ ls)) p ≡ zeros (l ∷ ls)
  zeros-times p =
      let low = l ∷ ls in
      ap (λ x. times low x p) (sym (zeros_add (zeros low) low (Same-zeros low)))
      ∙ times_add (zeros low) (zeros low) p
      ∙ add_self (times low (zeros low) p) low (Same-remainder (product (zeros low) p))

  times_assoc-step : (a : Bool) (p q r : List Bool)
      → times (l ∷ ls) (times (l ∷ ls) p q) r ≡ times (l ∷ ls) p (times (l ∷ ls) q r)
      → times (l ∷ ls) (add (scaled a (remainder (l ∷ ls) q)) (times_x (l ∷ ls) (times (l ∷ ls) p q))) r
      ≡ add (scaled a (remainder (l ∷ ls) (times (l ∷ ls) q r)))
      (times_x (l ∷ ls) (times (l ∷ ls) p (times (l ∷ ls) q r)))
  times_assoc-step false p q r e =
      times_x-times (times (l ∷ ls) p q) r (Same-remainder (product p q)) ∙ ap (times_x (l ∷ ls)) e
  times_assoc-step true p q r e =
      let low = l ∷ ls in
      times_add (remainder low q) (times_x low (times low p q)) r
      ∙ ap (λ y. add y (times low (times_x low (times low p q)) r))
      (remainder-times q r ∙ sym (remainder_same (times low q r) low (Same-remainder (product q r))))
      ∙ ap (add (remainder low (times low q r)))
      (times_x-times (times low p q) r (Same-remainder (product p q)) ∙ ap (times_x low) e)

  -- and associative
  pub times_assoc : (p q r : List Bool) → times (l ∷ ls) (times (l ∷ ls) p q) r ≡ times (l ∷ ls) p (times (l ∷ ls) q r)
  times_assoc [] q r = zeros-times r
  times_assoc (a ∷ p) q r =
      ap (λ y. times (l ∷ ls) y r) (times-cons a p q) ∙ times_assoc-step a p q r (times_assoc p q r)
      ∙ sym (times-cons a p (times (l ∷ ls) q r))

  -- and has a one
  pub times-zeros : (z p : List Bool) → times (l ∷ ls) (zeros z) p ≡ zeros (l ∷ ls)
  times-zeros [] p = refl
  times-zeros (a ∷ z) p =
      times-cons false (zeros z) p ∙ ap (times_x (l ∷ ls)) (times-zeros z p) ∙ times_x-zeros (l ∷ ls)

  pub one_times : (z p : List Bool) → Same p (l ∷ ls) → times (l ∷ ls) (true ∷ zeros z) p ≡ p
  one_times z p s =
      let low = l ∷ ls in
      times-cons true (zeros z) p
      ∙ (λ i. add (remainder_same p low s i) (times_x low (times-zeros z p i)))
      ∙ ap (add p) (times_x-zeros low) ∙ add_zeros p low s
