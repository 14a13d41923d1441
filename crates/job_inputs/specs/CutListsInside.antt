-- Definitions beside those of CutLists, of which clauses inside the program speak: what the whole program promises does
-- not rest on them.
use Rattle.std.specs.Prelude.{◌≡◌, ℕ, List}
use Rattle.ar_meaning.specs.Runs.{Label}
use Rattle.gts_flatten.specs.Elaborating.{Elaborated}
use Rattle.job_inputs.specs.Labels.{IsLabel, NeedsWay}

-- a label is that of one way, and not the path of an event with other ways
pub record HaveOneMeaning (x : Elaborated) : Type 0 where
  pub one : (text : List ℕ) (l m : Label) → IsLabel x text l → IsLabel x text m → l ≡ m
  pub needs_none : (text : List ℕ) (l : Label) → IsLabel x text l → NeedsWay x text → ⊥
