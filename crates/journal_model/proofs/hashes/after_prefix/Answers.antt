use Rattle.std.proofs.Common.{◌≡◌, ℕ, List, ◌-◌, ◌∙◌, ap, length, replicate, drop, take, arith}
use Rattle.std.proofs.lemmas.List.{drop-replicate, length-replicate, take_all}
use Rattle.journal_model.specs.Hashes.{padded_prefix}
use Rattle.journal_model.proofs.hashes.after_prefix.Goals as goal

pub returns : goal.returns
unfolding padded_prefix
returns c =
    let used = length c.args.prefix.now in
    let zeros : List ℕ = replicate (128 - used) 0 in
    let rest : take (128 - used) (drop used (replicate {A = ℕ} 128 0)) ≡ zeros =
    ap (take (128 - used)) (drop-replicate used 128 0)
    ∙ take_all (128 - used) zeros (omega (arith, length-replicate {A = ℕ} (128 - used) 0)) in
    rw rest at (c.update.ensures c.args.prefix.now c.new_with_prefix-hasher.ensures)
