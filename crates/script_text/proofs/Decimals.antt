-- When a word is the text of a number, from what std says of a parse.
use Rattle.std.proofs.Common.{◌≡◌, ℕ, ◌<◌, ◌^◌, List, refl, sym, ap, subst, ◌∙◌, arith, inl, inr}
use Rattle.std.specs.Prelude.{Result, Ok, Err, MatchOption, MatchResult, Some, None}
use Rattle.std.specs.Result.{result_ok}
use Rattle.std.specs.Str.{IsUtf8}
use Rattle.std.specs.Str.Parse.{AllDigits, digits_value, ParsesUnsigned}
use Rattle.std.proofs.lemmas.Bool.{cases_eq}
use Rattle.std.proofs.lemmas.Fmt.{decimal_digit, first_decimal, IsAscii-decimal, parse-decimal, decimal-digits_value}
use Rattle.std.proofs.lemmas.Str.{IsUtf8-from_ascii}
use Rattle.std.proofs.lemmas.Str.Parse.{IsNumeralModel, numerals_by_value, tells_digits, parse_plain}
use Rattle.script_text.specs.Words.{decimal}
use Rattle.script_text.specs.Script.{IsNoNumber}
use Rattle.script_text.specs.Reading.{IsPlain}

numerals : IsNumeralModel (AllDigits 10) (digits_value 10)
numerals = numerals_by_value (AllDigits 10) tells_digits

-- a number of 32 bits is one of 64
wider : (n : ℕ) → n < 2 ^ 32 → n < 2 ^ 64
wider n small = omega arith

pub IsPlain-decimal : (n : ℕ) → n < 2 ^ 32 → IsPlain (decimal n)
IsPlain-decimal n small = elim (cases_eq n 0) [
  | inl zero_is ↦ subst (λ m. IsPlain (decimal m)) (sym zero_is)
      (subst IsPlain (sym (decimal_digit 0 (omega arith))) ((λ e. absurd (omega arith)), λ e. refl))
  | inr apart ↦ let first = first_decimal n (omega arith) (wider n small) in
      ((λ e. absurd (omega arith)), λ e. absurd (omega arith))
]

pub none-plain : (word : List ℕ) → ¬ (IsPlain word) → IsNoNumber word
none-plain word ragged n small same = ragged (subst IsPlain (sym same) (IsPlain-decimal n small))

pub none-utf8 : (word : List ℕ) → ¬ (IsUtf8 word) → IsNoNumber word
none-utf8 word broken n small same =
    broken (subst IsUtf8 (sym same) (IsUtf8-from_ascii (decimal n) (IsAscii-decimal n (wider n small))))

pub parsed : {E : Type 0} (word : List ℕ) (r : Result ℕ E) → IsPlain word → ParsesUnsigned 32 10 word r
    → MatchOption (result_ok r) (IsNoNumber word) (λ n. word ≡ decimal n)
parsed {E} word (Ok n) plain parses =
    let read = parse_plain numerals {E = E} 32 word (Ok n) parses plain.0 in
    sym
    (ap decimal read.1
    ∙ decimal-digits_value numerals word read.0.0 read.0.1 plain.1 (wider (digits_value 10 word) read.0.2))
parsed word (Err e) plain parses = λ n small same.
    let other : Err e ≡ Ok n = parse-decimal 32 n word (Err e) small (wider n small) same parses in cc

-- what a conversion's answer says where it gave nothing, and where it gave something
pub none-given : {A E : Type 0} (r : Result A E) (P : A → Type 0) (U : Type 0) (Q : E → Type 0)
    → MatchResult r P (λ e. ¬ U × Q e) → None ≡ result_ok r → ¬ U
none-given (Ok x) P U Q cases none = cc
none-given (Err e) P U Q cases none = cases.0

module _ {A E : Type 0} (text : A → List ℕ) (word : List ℕ) where
  pub given : (r : Result A E) (U : Type 0) (Q : E → Type 0) (x : A) → MatchResult r (λ s. (text s ≡ word) × U) Q
      → Some x ≡ result_ok r → text x ≡ word
  given (Ok y) U Q x cases some = let same : x ≡ y = cc in ap text same ∙ cases.0
  given (Err e) U Q x cases some = cc
