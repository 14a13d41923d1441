-- What was found stays the earliest where nothing is found beside it.
use Rattle.std.proofs.Common.{Option, Some, None}
use Rattle.ar_base.specs.declared.places.Place.{Place}
use Rattle.class_table.specs.Earliest.{IsEarlierOf, no_first, no_second}

pub kept_found : (f : Option Place) → IsEarlierOf f None f
kept_found None = no_first
kept_found (Some p) = no_second
