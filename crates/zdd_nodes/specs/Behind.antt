-- Families behind events that were taken before.
use Rattle.std.specs.Prelude.{ℕ, List, ◌++◌, map}
use Rattle.zdd_nodes.specs.Families.{Family}

-- the sets, each behind some events that were taken before
abbrev pub behind_events : List ℕ → Family → Family
behind_events p f = map (λ t. p ++ t) f
