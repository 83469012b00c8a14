use Rattle.reg_entries.proofs.ListingLaws.{listing_alone}
use Rattle.reg_entries.proofs.laws.listings_agree.Goals as goal

pub returns : goal.returns
returns c = listing_alone
