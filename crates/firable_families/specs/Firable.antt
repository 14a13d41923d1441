-- Of the sets with a property those of at most so many events.
use Rattle.std.specs.Prelude.{ℕ, List, Option, Some, None}
use Rattle.ar_firing.specs.Cuts.{HasAtMost}

-- of the sets with P those of at most as many events as are asked for; where no number is given, all
abbrev pub AndUpTo : Option ℕ → (List ℕ → Type 0) → List ℕ → Type 0
AndUpTo None P = P
AndUpTo (Some k) P = λ set. P set × HasAtMost k set
