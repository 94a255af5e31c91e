use Rattle.run_report.proofs.OneListing.{one_listing}
use Rattle.run_report.proofs.listings.one_listing.Goals as goal

pub returns : goal.returns
returns c = one_listing
