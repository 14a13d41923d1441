-- Lists that get one item more.
use Rattle.std.proofs.Common.{◌≡◌, ◌+◌, ◌++◌, ◌∷◌, [], ℕ, List, refl, ap}
use Rattle.domains.specs.declared.Value.{Value}
use Rattle.ar_meaning.specs.Runs.{first_values}
use Rattle.gts_core.specs.View.{variables_from}
use Rattle.gts_core.specs.declared.system.Variable.{Variable}

pub first_more : (k : ℕ) (xs : List Variable) (x : Variable)
    → first_values (variables_from k (xs ++ x ∷ [])) ≡ first_values (variables_from k xs) ++ x.value ∷ []
first_more k [] x = refl
first_more k (y ∷ xs) x = ap (λ (z : List Value). y.value ∷ z) (first_more (k + 1) xs x)
