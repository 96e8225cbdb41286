-- What a call does to a count of faults.
use Rattle.std.specs.Prelude.{◌≡◌, ℕ, ◌≤◌}
use Rattle.tree_model.specs.Counted.{Rose}

-- the count of faults before and after a call: it never falls, it rose where the call failed, and it stayed where the
-- call did not fail
pub record CountsFaults (failed : Type 0) (before after : ℕ) : Type 0 where
  pub never_falls : before ≤ after
  pub rose : failed → Rose before after
  pub same : ¬ failed → after ≡ before
