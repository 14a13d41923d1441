-- What the words of a job need of a source so that each of them means one thing.
use Rattle.std.specs.Prelude.{◌≡◌, ◌<◌, ◌^◌, ℕ, false, List, length}
use Rattle.ar_base.specs.Lists.{Stands, AreDifferent}
use Rattle.ar_meaning.specs.Systems.{Event}
use Rattle.hierarchy.specs.Listing.{events, observers}
use Rattle.hierarchy.specs.Units.{Thing}
use Rattle.gts_flatten.specs.Elaborating.{Elaborated}
use Rattle.gts_flatten.specs.Flat.{naming_of}
use Rattle.job_inputs.specs.Reads.{has_mark}

-- no two names have one text, and none has a `#`; no event and no observer is listed twice; no two symbols have one
-- name; and no event has 2^64 ways or more
pub record NamesOnce (x : Elaborated) : Type 0 where
  pub names : AreDifferent x.declarations.model.names
  pub unmarked : (n : ℕ) (text : List ℕ) → Stands x.declarations.model.names n text → has_mark text ≡ false
  pub events : AreDifferent (events x.declarations.model x.declarations.units)
  pub observers : AreDifferent (observers x.declarations.model x.declarations.units)
  pub symbols : AreDifferent (naming_of x.declarations).symbols
  pub few : (n : ℕ) (event : Event Thing) → Stands x.system.events n event → length event.ways < 2 ^ 64
