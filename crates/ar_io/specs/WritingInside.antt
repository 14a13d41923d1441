-- A text that is written in parts. No promise of the whole program rests on it.
use Rattle.std.specs.Prelude.{◌≡◌, ℕ, List, ◌++◌, Ok}
use Rattle.ar_io.specs.Writing.{SinkState}
use Rattle.ar_io.specs.Handing.{Writes}

-- the text is written but for what is left of it
pub record Leaves (old new : SinkState) (left text : List ℕ) : Type 0 where
  pub front : List ℕ
  pub writes : Writes old new front (Ok tt)
  pub joined : front ++ left ≡ text
