-- The variables of the system that a flat system stands for.
use Rattle.std.proofs.Common.{◌≡◌, ℕ, zero, suc, ◌+◌, List, [], ◌∷◌, length, refl, sym, ap, ◌∙◌, subst, arith}
use Rattle.ar_base.specs.Lists.{Stands}
use Rattle.ar_base.proofs.Standing.{stands_none}
use Rattle.ar_meaning.specs.Systems as s
use Rattle.ar_meaning.specs.FactsInside.{AreNumberedVariables, AreKeyed}
use Rattle.ar_meaning.specs.Systems.{System, Net}
use Rattle.ar_meaning.proofs.ByNumber.{keyed}
use Rattle.gts_core.specs.View.{variable_of, variables_from, net_of, Views}
use Rattle.gts_core.specs.declared.system.Variable.{Variable}
use Rattle.gts_core.specs.declared.system.GtsParts.{GtsParts}

pub variables_long : (k : ℕ) (xs : List Variable) → length (variables_from k xs) ≡ length xs
variables_long k [] = refl
variables_long k (x ∷ xs) = ap suc (variables_long (k + 1) xs)

stands_from : (k : ℕ) (xs : List Variable) (n m : ℕ) (x : Variable) → m ≡ k + n → Stands xs n x
    → Stands (variables_from k xs) n (variable_of m x)
stands_from k [] n m x e p = absurd (stands_none n x p)
stands_from k (y ∷ xs) zero m x e p = let i : m ≡ k = omega arith in let j : y ≡ x = cc in cc (ap (λ z. variable_of z x) i, ap (λ z. variable_of k z) j)
stands_from k (y ∷ xs) (suc n) m x e p = stands_from (k + 1) xs n m x (omega arith) p

stands_back : (k : ℕ) (xs : List Variable) (n m : ℕ) (y : s.Variable ℕ) → m ≡ k + n → Stands (variables_from k xs) n y
    → (x : Variable) × Stands xs n x × (variable_of m x ≡ y)
stands_back k [] n m y e p = absurd (stands_none n y p)
stands_back k (x ∷ xs) zero m y e p = let i : m ≡ k = omega arith in (x, refl, (let j : variable_of k x ≡ y = cc in ap (λ z. variable_of z x) i ∙ j))
stands_back k (x ∷ xs) (suc n) m y e p = stands_back (k + 1) xs n m y (omega arith) p

-- the variable at a place, as the system has it
pub variable_there : (p : GtsParts) (n : ℕ) (x : Variable) → Stands p.variables.items n x
    → Stands (net_of p).variables n (variable_of n x)
variable_there p n x h = stands_from 0 p.variables.items n n x (omega arith) h

pub variable_back : (p : GtsParts) (n : ℕ) (y : s.Variable ℕ) → Stands (net_of p).variables n y
    → (x : Variable) × Stands p.variables.items n x × (variable_of n x ≡ y)
variable_back p n y h = stands_back 0 p.variables.items n n y (omega arith) h

-- what stands for a variable is its number
pub are_numbered : (p : GtsParts) → AreNumberedVariables (net_of p)
are_numbered p = record { key = λ n y h. let r = variable_back p n y h in sym (ap (λ (z : s.Variable ℕ). z.key) r.2) }

-- the variables of a system that parts view are keyed
pub keyed_by : (p : GtsParts) (flat : System ℕ) → Views p flat → AreKeyed flat.net
keyed_by p flat views = subst (λ (net : Net ℕ). AreKeyed net) (sym views.net) (keyed (net_of p) (are_numbered p))
