-- What it is that two jobs stand ready alike.
use Rattle.std.specs.Prelude.{◌≡◌}
use Rattle.source_laws.specs.Sources.{SameSource}
use Rattle.job_stages.specs.Stages.{Ready}

-- sources that are alike; the same commands, cut lines and dropped events, and the same observers, value and number of events
-- that are asked for
pub record SameReady (w v : Ready) : Type 0 where
  pub source : SameSource w.source v.source
  pub commands : w.commands ≡ v.commands
  pub lines : w.lines ≡ v.lines
  pub dropped : w.dropped ≡ v.dropped
  pub wanted : w.wanted ≡ v.wanted
  pub shown : w.shown ≡ v.shown
  pub order : w.order ≡ v.order
