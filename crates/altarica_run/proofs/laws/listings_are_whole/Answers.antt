use Rattle.altarica_run.proofs.ListingLemmas.{listing_of}
use Rattle.altarica_run.proofs.laws.listings_are_whole.Goals as goal

pub returns : goal.returns
returns c = λ k asked gave is cuts. listing_of k asked (c.one_job.ensures k.words) is cuts gave
