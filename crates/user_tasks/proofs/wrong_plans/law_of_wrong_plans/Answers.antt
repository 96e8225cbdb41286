use Rattle.user_tasks.proofs.Refuted.{replies-before-sync, leaves-out-device, hides-change, hides-blob}
use Rattle.user_tasks.proofs.Refuted.{touches-other, replies-before-keys, installs-other}
use Rattle.user_tasks.proofs.wrong_plans.law_of_wrong_plans.Goals as goal

pub returns : goal.returns
returns c = record {
  replied = replies-before-sync;
  left_out = leaves-out-device;
  hidden = hides-change;
  unnamed = hides-blob;
  other = touches-other;
  uninstalled = replies-before-keys;
  other_key = installs-other;
}
