-- How large a family's sets are.
use Rattle.std.specs.Prelude.{ℕ, ◌-◌, ◌^◌, max, min, [], ◌∷◌, length}
use Rattle.zdd_nodes.specs.Families.{Family}

-- how many events the largest set has, 0 where there is no set
abbrev pub largest : Family → ℕ
largest [] = 0
largest (s ∷ f) = max (length s) (largest f)

-- how many sets there are, 2^128 - 1 where there are more
abbrev pub count : Family → ℕ
count f = min (length f) (2 ^ 128 - 1)
