use Rattle.std.proofs.Common.{ℕ, List, length, ap, arith}
use Rattle.script_text.proofs.Spelled.{too_long}
use Rattle.script_text.proofs.byte_words.short_bytes_of.Goals as goal

pub returns-then-as_slice-gt-MOST_BYTES : goal.returns-then-as_slice-gt-MOST_BYTES
returns-then-as_slice-gt-MOST_BYTES c =
    let read = rw c.in-Some.is at c.in_ok-bytes.ensures in
    too_long c.args.word.now c.in-Some.bytes read.0 read.1
    (omega (arith, ap (λ (bytes : List ℕ). length bytes) c.as_slice.ensures))
