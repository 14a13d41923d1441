-- The declared values are a state.
use Rattle.std.proofs.Common.{◌≡◌, ◌+◌, ℕ, zero, suc, List, [], ◌∷◌, length, refl, sym, ap, ◌∙◌, subst}
use Rattle.ar_base.specs.Lists.{Stands}
use Rattle.domains.specs.Domains.{Holds}
use Rattle.domains.specs.declared.Value.{Value}
use Rattle.ar_meaning.specs.Runs.{first_values}
use Rattle.gts_core.specs.View.{net_of, variables_from}
use Rattle.gts_core.specs.Sound.{IsSound}
use Rattle.gts_core.specs.declared.system.Variable.{Variable}
use Rattle.gts_core.specs.declared.system.GtsParts.{GtsParts}
use Rattle.flow_propagate.specs.Answers.{IsState}

first_long : (k : ℕ) (xs : List Variable) → length (first_values (variables_from k xs)) ≡ length xs
first_long k [] = refl
first_long k (x ∷ xs) = ap suc (first_long (k + 1) xs)

first_each : (k : ℕ) (xs : List Variable) (n : ℕ) (x : Variable) (v : Value) → Stands xs n x
    → Stands (first_values (variables_from k xs)) n v → x.value ≡ v
first_each k [] n x v s t = absurd (nothing n s)
  where
    nothing : (n : ℕ) → Stands [] n x → ⊥
    nothing n s = cc
first_each k (y ∷ xs) zero x v s t = let same : y ≡ x = cc in let value : y.value ≡ v = cc in sym (ap (λ (z : Variable). z.value) same) ∙ value
first_each k (y ∷ xs) (suc n) x v s t = first_each (k + 1) xs n x v s t

-- the declared values are a state
pub first_state : (p : GtsParts) → IsSound p → IsState p (first_values (net_of p).variables)
first_state p sound = record {
  long = first_long 0 p.variables.items;
  in_domain = λ n x v s i h. subst (λ (z : Value). Holds x.domain z) (first_each 0 p.variables.items n x v s h)
      (sound.variables n x s).value;
}
