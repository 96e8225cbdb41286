-- When a word is the text of bytes, of a fill and of an actor: no two have one text.
use Rattle.std.proofs.Common.{◌≡◌, ◌≢◌, ℕ, zero, suc, ◌<◌, ◌≤◌, ◌^◌, List, [], ◌∷◌, length, get_or, map, refl, sym}
use Rattle.std.proofs.Common.{ap, ◌∙◌, arith}
use Rattle.std.specs.Prelude.{codes, None, Result, Ok, Err}
use Rattle.std.specs.List.{AllByRecursion}
use Rattle.std.proofs.lemmas.Fmt.{decimal_is_IsNumeral, decimal_injective}
use Rattle.std.proofs.lemmas.Str.Parse.{digit_at}
use Rattle.hex.specs.Hex.{encode_lower, encode_with, lower_digits, IsBytes, decode_of}
use Rattle.hex.specs.declared.error.FromHexError.{FromHexError}
use Rattle.hex.proofs.HexLemmas.{decode_of-encode_lower, decode_of-ok, length-encode_with}
use Rattle.tree_model.specs.declared.ops.Fill.{Fill}
use Rattle.tree_model.specs.declared.ops.Fill.TheVariants.{Same, Bytes}
use Rattle.journal_model.specs.declared.commands.Actor.{Actor}
use Rattle.journal_model.specs.declared.commands.Actor.TheVariants.{Boot, Cp, User}
use Rattle.script_text.specs.Words.{decimal, bytes_word, actor_word, fill_word}
use Rattle.script_text.specs.Arguments.{AreBytes, AreShort, IsFill, IsTurner}
use Rattle.script_text.specs.Reading.{Reads}

IsBytes-from : (bytes : List ℕ) → AreBytes bytes → IsBytes bytes
IsBytes-from [] are k = omega arith
IsBytes-from (b ∷ bytes) are zero = are.0
IsBytes-from (b ∷ bytes) are (suc k) = IsBytes-from bytes are.1 k

pub same_encoding : (one other : List ℕ) → AreBytes one → AreBytes other → encode_lower one ≡ encode_lower other
    → one ≡ other
same_encoding one other are too e =
    let decoded : ◌≡◌ {A = Result (List ℕ) FromHexError} (Ok one) (Ok other) =
    sym (decode_of-encode_lower one (IsBytes-from one are)) ∙ ap decode_of e
    ∙ decode_of-encode_lower other (IsBytes-from other too) in
    cc

pub same_bytes : (one other : List ℕ) → AreBytes one → AreBytes other → bytes_word one ≡ bytes_word other → one ≡ other
same_bytes [] [] are too e = refl
same_bytes [] (b ∷ other) are too e = absurd (omega (arith, length-encode_with lower_digits (b ∷ other), ap length e))
same_bytes (b ∷ one) [] are too e = absurd (omega (arith, length-encode_with lower_digits (b ∷ one), ap length e))
same_bytes (b ∷ one) (c ∷ other) are too e = same_encoding (b ∷ one) (c ∷ other) are too e

-- ---- what a decoding says of a word that isn't the dash
pub some_bytes : (bytes : List ℕ) → bytes_word bytes ≢ []
unfolding encode_with
some_bytes [] e = cc
some_bytes (b ∷ bytes) e = cc

pub encoded : (word value : List ℕ) → word ≢ codes "-" → word ≡ bytes_word value → word ≡ encode_lower value
encoded word [] apart e = absurd (apart e)
encoded word (b ∷ value) apart e = e

pub decoded : (word value : List ℕ) → word ≢ codes "-" → AreBytes value → word ≡ bytes_word value
    → decode_of word ≡ Ok value
decoded word value apart are e =
    ap decode_of (encoded word value apart e) ∙ decode_of-encode_lower value (IsBytes-from value are)

pub spelled : (word bytes : List ℕ) → word ≢ [] → word ≡ encode_lower bytes → word ≡ bytes_word bytes
unfolding encode_with
spelled word [] some e = absurd (some e)
spelled word (b ∷ bytes) some e = e

AreBytes-from : (bytes : List ℕ) → IsBytes bytes → AreBytes bytes
AreBytes-from [] are = tt
AreBytes-from (b ∷ bytes) are = (are 0, AreBytes-from bytes (λ k. are (suc k)))

pub bytes_decoded : (word bytes : List ℕ) → decode_of word ≡ Ok bytes → AreBytes bytes
bytes_decoded word bytes e = AreBytes-from bytes (decode_of-ok word bytes e).3

-- a word that doesn't decode
pub no_decoding : (word : List ℕ) (e : FromHexError) → word ≢ codes "-" → decode_of word ≡ Err e
    → Reads AreBytes bytes_word word None
no_decoding word e apart failed value are is = let came = decoded word value apart are is in cc

-- a word that isn't as its bytes are spelled
pub other_digits : (word bytes digits : List ℕ) → word ≢ codes "-" → decode_of word ≡ Ok bytes
    → digits ≡ encode_lower bytes → digits ≢ word → Reads AreBytes bytes_word word None
other_digits word bytes digits apart came spelt differ value are is =
    let again = decoded word value apart are is in
    let same : bytes ≡ value = cc in
    differ (spelt ∙ ap encode_lower same ∙ sym (encoded word value apart is))

-- more bytes than there may be
pub too_long : (word bytes : List ℕ) → AreBytes bytes → word ≡ bytes_word bytes → 64 < length bytes
    → Reads AreShort bytes_word word None
too_long word bytes are is long value short e =
    let same = same_bytes bytes value are short.1 (sym is ∙ e) in
    let few : length value ≤ 64 = short.0 in
    absurd (omega (arith, ap length same))

no_bytes_as_same : (bytes : List ℕ) → codes "=" ≢ bytes_word bytes
no_bytes_as_same [] e = let firsts = ap (λ word. get_or word 0 0) e in absurd (omega arith)
no_bytes_as_same (b ∷ bytes) e = absurd (omega (arith, length-encode_with lower_digits (b ∷ bytes), ap length e))

same_fill : (one other : Fill) → IsFill one → IsFill other → fill_word one ≡ fill_word other → one ≡ other
same_fill Same Same is was e = refl
same_fill Same (Bytes bytes) is was e = absurd (no_bytes_as_same bytes e)
same_fill (Bytes bytes) Same is was e = absurd (no_bytes_as_same bytes (sym e))
same_fill (Bytes one) (Bytes other) is was e = ap Bytes (same_bytes one other is.1 was.1 e)

pub same_fills : (one other : List Fill) → AllByRecursion IsFill one → AllByRecursion IsFill other
    → map fill_word one ≡ map fill_word other → one ≡ other
same_fills [] [] each every e = refl
same_fills [] (fill ∷ other) each every e = cc
same_fills (fill ∷ one) [] each every e = cc
same_fills (fill ∷ one) (with ∷ other) each every e =
    let words : fill_word fill ≡ fill_word with = cc in
    let rest : map fill_word one ≡ map fill_word other = cc in
    let first = same_fill fill with each.0 every.0 words in
    let back = same_fills one other each.1 every.1 rest in
    λ i. first i ∷ back i

no_user_as_boot : (user : ℕ) → user < 2 ^ 32 → codes "boot" ≢ decimal user
no_user_as_boot user small e =
    let long = ap length e in
    let range = digit_at (decimal user) 0 (decimal_is_IsNumeral user (omega arith)).0.1 (omega arith) in
    let firsts = ap (λ word. get_or word 0 0) e in
    absurd (omega arith)

pub same_actor : (one other : Actor) → IsTurner one → IsTurner other → actor_word one ≡ actor_word other → one ≡ other
same_actor Cp other is was e = absurd is
same_actor one Cp is was e = absurd was
same_actor Boot Boot is was e = refl
same_actor Boot (User user) is was e = absurd (no_user_as_boot user was e)
same_actor (User user) Boot is was e = absurd (no_user_as_boot user is (sym e))
same_actor (User user) (User owner) is was e = ap User (decimal_injective user owner (omega arith) (omega arith) e)
