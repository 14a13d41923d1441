-- What a test and a search answer.
use Rattle.std.specs.Prelude.{Bool, true, false}

-- the test says whether P holds
abbrev pub IsAnswer : Bool → Type 0 → Type 0
IsAnswer true P = P
IsAnswer false P = P → ⊥
