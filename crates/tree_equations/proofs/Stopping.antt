-- Too many gates for an assignment are too many for what is seen of it.
use Rattle.std.proofs.Common.{ℕ, ◌<◌, List, length}
use Rattle.ar_meaning.specs.Systems as s
use Rattle.eq_core.specs.Gates.{Operand, Gate}
use Rattle.eq_build.specs.BuildsInside.{most_gates}
use Rattle.eq_build.proofs.Growing.{longer_on, one_more}
use Rattle.eq_build.specs.Steps.{Reading, Sees_outside, Sees_broken, outside_terms, broken_terms}
use Rattle.eq_build.specs.Steps as t
use Rattle.tree_equations.specs.Answers.{TooMany}
use Rattle.tree_equations.proofs.Flowing.{Assigned}

abbrev MoreGates : List Gate → Type 0
MoreGates k = most_gates < length k

module _ (read : Reading) where
  pub outside_stops : (g : List Gate) (a : s.Assign ℕ) (x : s.Variable ℕ) → TooMany (Assigned read g a)
      → TooMany (λ o h. Sees_outside read g (x, a) o h)
  outside_stops g a x n y k (t.sees_outside {r = r} d) =
      longer_on (one_more r.gates (outside_terms x.domain r.conditions r.entries))
      (n (r.conditions, r.entries) r.gates d)

  broken_on : {g : List Gate} {a : s.Assign ℕ} {y : Operand} {k : List Gate} → TooMany (Assigned read g a)
      → Sees_broken read g a y k → MoreGates k
  broken_on n (t.sees_broken {a = a} {r = r} d) =
      longer_on (one_more r.gates (broken_terms r.conditions r.entries (read a.target)))
      (n (r.conditions, r.entries) r.gates d)

  pub broken_stops : (g : List Gate) (a : s.Assign ℕ) → TooMany (Assigned read g a)
      → TooMany (λ o h. Sees_broken read g a o h)
  broken_stops g a n y k d = broken_on n d
