use Rattle.key_directory.proofs.Apart.{names-apart}
use Rattle.key_directory.proofs.laws.law_of_names.Goals as goal

pub returns : goal.returns
returns c = names-apart
