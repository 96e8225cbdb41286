use Rattle.blob_custody.proofs.Recoveries.{clean-listing}
use Rattle.blob_custody.proofs.laws.law_of_listing.Goals as goal

pub returns : goal.returns
returns c = clean-listing
