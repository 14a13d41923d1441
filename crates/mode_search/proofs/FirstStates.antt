-- The first state variable of each unit, one variable after the other.
use Rattle.std.proofs.Common.{◌≡◌, ℕ, ◌+◌, inl, inr, Bool, true, false, List, length, set, Option, Some, None, refl, sym, ap, ◌∙◌, subst, arith}
use Rattle.std.proofs.lemmas.Bool.{cases_eq}
use Rattle.std.proofs.lemmas.List.{length-set}
use Rattle.ar_base.specs.Lists.{Stands}
use Rattle.ar_base.specs.Numbers.{VarId}
use Rattle.ar_base.proofs.Standing.{stands_one, stands_within, at_most}
use Rattle.ar_meaning.specs.Systems as s
use Rattle.ar_meaning.specs.FoundInside.{IsFirstOrNone}
use Rattle.ar_firing.specs.Fragment.{IsStateOf}
use Rattle.gts_core.specs.View.{net_of, variable_of}
use Rattle.gts_core.proofs.Viewing.{variable_there, variable_back}
use Rattle.gts_core.specs.declared.system.Variable.{Variable}
use Rattle.gts_core.specs.declared.system.GtsParts.{GtsParts}
use Rattle.mode_search.specs.Modes.{IsStateAt, plain_number}
use Rattle.mode_search.specs.Events.{IsFirstBelow, AreFirstStates, first_with}
use Rattle.mode_search.proofs.Reading.{stands_set_other, stands_set_same}

module _ (p : GtsParts) where
  state_back : (unit k : ℕ) (y : s.Variable ℕ) → Stands (net_of p).variables k y → IsStateOf unit y → IsStateAt p unit k
  state_back unit k y st h =
      let r = variable_back p k y st in
      let g = subst (λ (z : s.Variable ℕ). IsStateOf unit z) (sym r.2) h in
      record { variable = r.0; stands = r.1; is_state = g.is_state; is_unit = g.is_unit }

  pub first_there : (unit : ℕ) (found : Option VarId) → IsFirstBelow p (length p.variables.items) unit found
      → IsFirstOrNone (net_of p).variables (IsStateOf unit) (plain_number found)
  first_there unit None h = record { has_not = λ k a st q. let b = state_back unit k a st q in h k (stands_within p.variables.items k b.variable b.stands) b }
  first_there unit (Some x) h = record {
    item = variable_of x.n h.1.variable;
    stands = variable_there p x.n h.1.variable h.1.stands;
    has = record { is_state = h.1.is_state; is_unit = h.1.is_unit };
    before = λ k a l st q. h.2 k l (state_back unit k a st q);
  }

  not_here : (n unit : ℕ) (found : Option VarId) → (IsStateAt p unit n → ⊥) → IsFirstBelow p n unit found
      → IsFirstBelow p (n + 1) unit found
  not_here n unit None lacks h = λ k l q. elim (at_most k n l)
      [ inl b ↦ h k b q | inr e ↦ lacks (subst (IsStateAt p unit) e q) ]
  not_here n unit (Some x) lacks h = (omega (arith, h.0), h.1, h.2)

  module _ (n : ℕ) (variable : Variable) (st : Stands p.variables.items n variable) where
    this : (unit : ℕ) (q : IsStateAt p unit n) → q.variable ≡ variable
    this unit q = stands_one p.variables.items n q.variable variable q.stands st

    here : (found : Option VarId) (is_state : Bool) (x : VarId) → variable.is_state ≡ is_state → x.n ≡ n
        → IsFirstBelow p n variable.unit.n found → IsFirstBelow p (n + 1) variable.unit.n (first_with found is_state x)
    here (Some y) is_state x e i h = (omega (arith, h.0), h.1, h.2)
    here None true x e i h = (
      omega arith,
      subst (λ (z : ℕ). IsStateAt p variable.unit.n z) (sym i)
          (record { variable = variable; stands = st; is_state = e; is_unit = refl }),
      λ k l q. h k (omega arith) q,
    )
    here None false x e i h = not_here n variable.unit.n None (λ q. let a = ap (λ (z : Variable). z.is_state) (this variable.unit.n q) in let b = q.is_state in cc) h

    pub states_more : (firsts : List (Option VarId)) (old found : Option VarId) (x : VarId) → x.n ≡ n
        → Stands firsts variable.unit.n old → found ≡ first_with old variable.is_state x
        → AreFirstStates p n firsts → AreFirstStates p (n + 1) (set firsts variable.unit.n found)
    states_more firsts old found x i so is a = record {
      long = length-set firsts variable.unit.n found ∙ a.long;
      first = λ unit f s. elim (cases_eq unit variable.unit.n) [
        | inl e ↦ (let same : f ≡ found = stands_set_same firsts variable.unit.n found f (subst (λ (z : ℕ). Stands (set firsts variable.unit.n found) z f) e s) in
            subst (λ (z : ℕ). IsFirstBelow p (n + 1) z f) (sym e)
            (subst (λ (z : Option VarId). IsFirstBelow p (n + 1) variable.unit.n z) (sym (same ∙ is))
            (here old variable.is_state x refl i (a.first variable.unit.n old so))))
        | inr d ↦ not_here n unit f (λ q. d (sym q.is_unit ∙ ap (λ (z : Variable). z.unit.n) (this unit q)))
            (a.first unit f (stands_set_other firsts variable.unit.n unit found f d s))
      ];
    }

  pub states_start : (firsts : List (Option VarId)) → length firsts ≡ length p.units.items
      → ((unit : ℕ) (f : Option VarId) → Stands firsts unit f → f ≡ None) → AreFirstStates p 0 firsts
  states_start firsts long lacks = record {
    long = long;
    first = λ unit f s. subst (λ (z : Option VarId). IsFirstBelow p 0 unit z) (sym (lacks unit f s))
        (λ k l q. absurd (omega arith));
  }
