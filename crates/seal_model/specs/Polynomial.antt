-- Polynomials over the field of two elements. A polynomial is the list of its coefficients, that of x ^ 0 first.
use Rattle.std.specs.Prelude.{ℕ, zero, suc, ◌+◌, ◌/◌, ◌%◌, ◌^◌, Bool, true, false, not, if◌then◌else◌, ◌==◌, List, []}
use Rattle.std.specs.Prelude.{◌∷◌, map, length, slice_index_or}

-- the sum of two coefficients
abbrev pub plus : Bool → Bool → Bool
plus false b = b
plus true b = not b

-- the sum of two polynomials, coefficient by coefficient
abbrev pub add : List Bool → List Bool → List Bool
add [] q = q
add (a ∷ p) [] = a ∷ p
add (a ∷ p) (b ∷ q) = plus a b ∷ add p q

-- a coefficient times a polynomial
abbrev pub scaled : Bool → List Bool → List Bool
scaled false p = []
scaled true p = p

-- the carry-less product: (a + x p) q is a q + x (p q)
abbrev pub product : List Bool → List Bool → List Bool
product [] q = []
product (a ∷ p) q = add (scaled a q) (false ∷ product p q)

-- as many zeros as a list has coefficients
abbrev pub zeros : List Bool → List Bool
zeros = map (λ a. false)

-- a ∷ p without its last coefficient
abbrev pub but_last : Bool → List Bool → List Bool
but_last a [] = []
but_last a (b ∷ p) = a ∷ but_last b p

-- the last coefficient of a ∷ p
abbrev pub last_of : Bool → List Bool → Bool
last_of a [] = a
last_of a (b ∷ p) = last_of b p

-- x times a remainder: the coefficients move up by one, and x ^ n, where the highest was 1, becomes `low`
abbrev pub times_x : List Bool → List Bool → List Bool
times_x low p = add (but_last false p) (scaled (last_of false p) low)

-- the remainder modulo x ^ n + low, where low has n coefficients: that of a + x p is a plus x times that of p
abbrev pub remainder : List Bool → List Bool → List Bool
remainder low [] = zeros low
remainder low (a ∷ p) = add (a ∷ []) (times_x low (remainder low p))

-- the coefficient of x ^ k
abbrev pub coefficient : List Bool → ℕ → Bool
coefficient p k = slice_index_or p k false

-- a number's coefficient of 2 ^ k
abbrev pub bit : ℕ → ℕ → Bool
bit n k = n / 2 ^ k % 2 == 1

-- the n low bits of a number, the highest first
unfoldable pub bits : ℕ → ℕ → List Bool
bits zero x = []
bits (suc n) x = bit x n ∷ bits n x

-- the number with these bits, the highest first
abbrev pub number_of : List Bool → ℕ
number_of [] = 0
number_of (a ∷ p) = (if a then 2 ^ length p else 0) + number_of p
