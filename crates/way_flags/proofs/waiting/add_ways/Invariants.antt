use Rattle.std.proofs.Common.{◌↔◌, ◌⊎◌, ℕ, take}
use Rattle.ar_base.specs.Lists.{IsOneOf}
use Rattle.way_flags.specs.Renewing.{WaitsAt, IsPlaceWith}
use Rattle.way_flags.proofs.waiting.add_ways.Given as goal

abbrev pub invariant-loop-way : goal.invariant-loop-way
invariant-loop-way l = (q : ℕ) → WaitsAt l.waiting q
    ↔ (WaitsAt l.initial.waiting q ⊎ IsPlaceWith l.places (IsOneOf (take l.way-index l.ways)) q)
