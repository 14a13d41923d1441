-- What each variable reaches.
use Rattle.std.specs.Prelude.{◌≡◌, ℕ, Bool, true, List, length}
use Rattle.ar_base.specs.Lists.{Stands}
use Rattle.gts_core.specs.declared.system.GtsParts.{GtsParts}
use Rattle.mode_search.specs.Kept.{AreKeptWaysBefore}
use Rattle.mode_search.specs.declared.kept.KeptWay.{KeptWay}
use Rattle.mode_search.specs.Reached.{IsReach}
use Rattle.mode_search.specs.declared.searching.Reach.{Reach}
use Rattle.mode_search.specs.Rows.{variable_ways}

-- these are the kept ways of the parts, where some of its events are marked
pub record AreKeptWaysOf (p : GtsParts) (kept : List KeptWay) : Type 0 where
  pub marks : List Bool
  pub are : AreKeptWaysBefore p marks (length p.events.items) 0 kept

-- what each of the first so many variables reaches
pub record AreReaches (p : GtsParts) (kept : List KeptWay) (count : ℕ) (reaches : List Reach) : Type 0 where
  pub long : length reaches ≡ count
  pub each : (n : ℕ) (r : Reach) → Stands reaches n r → IsReach p n (variable_ways n kept) r

-- a way of the variable of number n is wrong at a mode that it reaches
pub record IsWrongAt (reaches : List Reach) (n : ℕ) : Type 0 where
  pub reach : Reach
  pub stands : Stands reaches n reach
  pub wrong : reach.wrong ≡ true

-- an edge of the variable of number n enters a mode again
pub record IsAgainAt (reaches : List Reach) (n : ℕ) : Type 0 where
  pub reach : Reach
  pub stands : Stands reaches n reach
  pub again : reach.again ≡ true
