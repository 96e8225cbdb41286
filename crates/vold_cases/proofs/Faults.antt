-- Lines that plan a fault, and lines that don't, by their words.
use Rattle.std.proofs.Common.{◌≡◌, ◌≢◌, ℕ, ◌<◌, ◌≤◌, ◌^◌, List, [], ◌∷◌, get_or, sym, ap, ◌∙◌, arith}
use Rattle.std.specs.Prelude.{Option, Some, None, codes}
use Rattle.script_text.specs.Reading.{Reads, words_in, words_after}
use Rattle.script_text.specs.Words.{decimal}
use Rattle.script_text.proofs.Splits.{joined-words_in, words_in-alone}
use Rattle.script_text.proofs.Ink.{Lacks-ink, IsInk-decimal}
use Rattle.std.proofs.lemmas.Fmt.{decimal_injective}
use Rattle.std.proofs.lemmas.List.{append-nil}
use Rattle.script_text.specs.Words.{joined}
use Rattle.journal_model.specs.declared.entries.Device.{Device}
use Rattle.vold_cases.specs.declared.case.Planned.{Planned}
use Rattle.vold_cases.specs.Case.{IsPlanned, device_word, fault_words}

-- a text of one word is that word
only_word : (text word : List ℕ) → words_in text ≡ word ∷ [] → text ≡ word
only_word text word e = sym (joined-words_in text) ∙ ap joined e ∙ append-nil word

number_alone : (text : List ℕ) (n : ℕ) → n < 2 ^ 32 → text ≡ decimal n → words_in text ≡ decimal n ∷ []
number_alone text n small e =
    ap words_in e ∙ words_in-alone (decimal n) (Lacks-ink 32 (decimal n) (omega arith) (IsInk-decimal n small))

same_number : (m n : ℕ) → m < 2 ^ 32 → n < 2 ^ 32 → decimal m ∷ [] ≡ decimal n ∷ [] → m ≡ n
same_number m n small little e = decimal_injective m n (omega arith) (omega arith) (ap (λ ws. get_or ws 0 []) e)

-- a first word, a second one, and a text behind them
pub two_words : (found : List (List ℕ)) (word middle name text : List ℕ) (others behind : Option (List ℕ))
    → found ≡ word ∷ words_after others → others ≡ Some middle → words_in middle ≡ name ∷ words_after behind
    → behind ≡ Some text → found ≡ word ∷ name ∷ words_in text
two_words found word middle name text others behind first one second two =
    first ∙ ap (λ o. word ∷ words_after o) one ∙ ap (λ ws. word ∷ ws) (second ∙ ap (λ b. name ∷ words_after b) two)

-- the text behind the name of the device is the number of the call
number_of_fault : (words : List (List ℕ)) (word name text : List ℕ) (fault : Planned)
    → words ≡ word ∷ name ∷ words_in text → words ≡ fault_words fault → words_in text ≡ decimal fault.call ∷ []
number_of_fault words word name text fault split same =
    let both : word ∷ name ∷ words_in text ≡ codes "plan" ∷ device_word fault.device ∷ decimal fault.call ∷ [] =
    sym split ∙ same in
    cc

pub no_fault-number : (words : List (List ℕ)) (word name text : List ℕ) → words ≡ word ∷ name ∷ words_in text
    → ((n : ℕ) → n < 2 ^ 32 → text ≢ decimal n) → Reads IsPlanned fault_words words None
no_fault-number words word name text split strange fault small same = strange fault.call small
    (only_word text (decimal fault.call) (number_of_fault words word name text fault split same))

pub no_fault-zero : (words : List (List ℕ)) (word name text : List ℕ) (call : ℕ) → words ≡ word ∷ name ∷ words_in text
    → text ≡ decimal call → call ≡ 0 → Reads IsPlanned fault_words words None
no_fault-zero words word name text call split is zero fault small same =
    let none : call < 2 ^ 32 = omega arith in
    let numbers = sym (number_alone text call none is) ∙ number_of_fault words word name text fault split same in
    let equal = same_number call fault.call none small numbers in
    let counted : 1 ≤ fault.call = fault.counted in
    omega arith

pub fault_read : (words : List (List ℕ)) (word name text : List ℕ) (device : Device) (call : ℕ)
    → words ≡ word ∷ name ∷ words_in text → word ≡ codes "plan" → name ≡ device_word device → call < 2 ^ 32
    → text ≡ decimal call
    → words ≡ codes "plan" ∷ device_word device ∷ decimal call ∷ []
fault_read words word name text device call split plans named small is =
    let number = number_alone text call small is in cc
