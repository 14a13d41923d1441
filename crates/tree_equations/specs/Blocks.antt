-- Blocks by the numbers of their flows.
use Rattle.std.specs.Prelude.{ℕ, List, map, Vec}
use Rattle.std.specs.Global.{Global}
use Rattle.ar_base.specs.Lists.{Stands, Along}

-- the numbers in each block
abbrev pub blocks_in : List (Vec ℕ Global) → List (List ℕ)
blocks_in blocks = map (λ (b : Vec ℕ Global). b.items) blocks

-- the numbers that stand at these places
abbrev pub StandAtPlaces : List ℕ → List ℕ → List ℕ → Type 0
StandAtPlaces flows places numbers = Along (λ k n. Stands flows k n) places numbers

-- the same for each block
abbrev pub ArePlacedBlocks : List ℕ → List (List ℕ) → List (List ℕ) → Type 0
ArePlacedBlocks flows classes blocks = Along (StandAtPlaces flows) classes blocks
