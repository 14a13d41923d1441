use Rattle.std.proofs.Common.{◌≡◌, ℕ, Bool, take}
use Rattle.replayer.specs.Listing.{AreAnswers, able}
use Rattle.replayer.proofs.ready.those.Given as goal

-- those of the ways so far
abbrev pub invariant-loop-way : goal.invariant-loop-way
invariant-loop-way l =
    (can : ℕ → Bool) → AreAnswers l.stepper.system l.stepper.values can
    → l.ready.items ≡ able can (take l.way-index l.ways)
