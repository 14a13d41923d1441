-- Marks that are turned round one after the other.
use Rattle.std.proofs.Common.{◌≡◌, ℕ, Bool, not, List, [], ◌∷◌, ◌++◌, set, refl}
use Rattle.ar_base.specs.Numbers.{VarId}
use Rattle.flow_changes.specs.Restoring.{mark_at, marks_turned}

-- the marks with one turned round
abbrev pub flip : List Bool → ℕ → List Bool
flip marks n = set marks n (not (mark_at marks n))

-- one mark more
pub turned_last : (marks : List Bool) (xs : List VarId) (x : VarId)
    → marks_turned marks (xs ++ x ∷ []) ≡ flip (marks_turned marks xs) x.n
turned_last marks [] x = refl
turned_last marks (y ∷ xs) x = turned_last (flip marks y.n) xs x
