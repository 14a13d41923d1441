-- What it is that a listing is that of a job that stands ready alike.
use Rattle.run_words.specs.declared.jobs.Asked.{Asked}
use Rattle.altarica_run.specs.Follows.{Call}
use Rattle.altarica_run.specs.Listings.{IsListing}
use Rattle.job_stages.specs.Stages.{Ready}
use Rattle.job_laws.specs.Ready.{SameReady}

-- what was written is the listing of a job that stands ready like this one
pub record IsListingOf (c : Call) (asked : Asked) (w : Ready) : Type 0 where
  pub listing : IsListing c asked
  pub same : SameReady w listing.ready
