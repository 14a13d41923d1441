-- Flows, and the assignments that read them, by the parts of a flat system.
use Rattle.std.proofs.Common.{◌≡◌, ℕ, ◌+◌, zero, suc, false, not, cond, List, [], ◌∷◌, take, refl, sym, ap, ◌∙◌, subst}
use Rattle.std.proofs.lemmas.List.Sums.{sum_by-cons}
use Rattle.ar_base.specs.Lists.{Stands}
use Rattle.ar_base.proofs.Standing.{stands_map, stands_map_back}
use Rattle.ar_meaning.specs.Systems as s
use Rattle.ar_meaning.specs.Dependence.{Names, IsFlow, flow_count}
use Rattle.ar_meaning.specs.DependenceInside.{IsReadBy}
use Rattle.gts_core.specs.View.{assign_of, variable_of, variables_from, net_of}
use Rattle.gts_core.specs.declared.system.Variable.{Variable}
use Rattle.gts_core.specs.declared.system.Assign.{Assign}
use Rattle.gts_core.specs.declared.system.GtsParts.{GtsParts}
use Rattle.gts_core.proofs.Viewing.{variable_there, variable_back}
use Rattle.flow_propagate.specs.Dependence.{flows_in}

-- the variables' numbers do not count
pub count_from : (k : ℕ) (xs : List Variable) → flow_count (variables_from k xs) ≡ flows_in xs
count_from k [] = refl
count_from k (x ∷ xs) =
    sum_by-cons (λ (z : s.Variable ℕ). cond {A = ℕ} (not z.is_state) 1 0) (variable_of k x) (variables_from (k + 1) xs)
    ∙ ap (λ n. cond {A = ℕ} (not x.is_state) 1 0 + n) (count_from (k + 1) xs)
    ∙ sym (sum_by-cons (λ (z : Variable). cond {A = ℕ} (not z.is_state) 1 0) x xs)

take_from : (k n : ℕ) (xs : List Variable) → take n (variables_from k xs) ≡ variables_from k (take n xs)
take_from k zero [] = refl
take_from k (suc n) [] = refl
take_from k zero (x ∷ xs) = refl
take_from k (suc n) (x ∷ xs) = ap (λ z. variable_of k x ∷ z) (take_from (k + 1) n xs)

module _ (p : GtsParts) where
  -- the flows among the first so many variables
  count_there : (n : ℕ) → flow_count (take n (net_of p).variables) ≡ flows_in (take n p.variables.items)
  count_there n = ap flow_count (take_from 0 n p.variables.items) ∙ count_from 0 (take n p.variables.items)

  -- flow k is the variable of number n
  pub record FlowHere (k n : ℕ) : Type 0 where
    pub variable : Variable
    pub stands : Stands p.variables.items n variable
    pub is_flow : variable.is_state ≡ false
    pub before : flows_in (take n p.variables.items) ≡ k

  pub flow_there : (k n : ℕ) → FlowHere k n → IsFlow (net_of p) k n
  flow_there k n f = record {
    place = n;
    variable = variable_of n f.variable;
    stands = variable_there p n f.variable f.stands;
    is_key = refl;
    is_flow = f.is_flow;
    before = count_there n ∙ f.before;
  }

  pub flow_back : (k n : ℕ) → IsFlow (net_of p) k n → FlowHere k n
  flow_back k n f =
      let r = variable_back p f.place f.variable f.stands in
      let e : f.place ≡ n = ap (λ (z : s.Variable ℕ). z.key) r.2 ∙ f.is_key in
      subst (FlowHere k) e (record {
        variable = r.0;
        stands = r.1;
        is_flow = ap (λ (z : s.Variable ℕ). z.is_state) r.2 ∙ f.is_flow;
        before = sym (count_there f.place) ∙ f.before;
      })

  -- the assignment of number n names the variable of number x
  pub record ReadHere (x n : ℕ) : Type 0 where
    pub assign : Assign
    pub stands : Stands p.assigns.items n assign
    pub names : Names (assign_of assign) x

  pub read_there : (x n : ℕ) → ReadHere x n → IsReadBy (net_of p) x n
  read_there x n r = record {
    assign = assign_of r.assign;
    stands = stands_map assign_of p.assigns.items n r.assign r.stands;
    names = r.names;
  }

  pub read_back : (x n : ℕ) → IsReadBy (net_of p) x n → ReadHere x n
  read_back x n r =
      let k = stands_map_back assign_of p.assigns.items n r.assign r.stands in
      record { assign = k.0; stands = k.1; names = subst (λ (z : s.Assign ℕ). Names z x) (sym k.2) r.names }
