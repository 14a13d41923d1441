-- The least state variables that are named, and mode variables.
use Rattle.std.proofs.Common.{◌≡◌, ℕ, ◌+◌, ◌<◌, ◌≤◌, ◌⊎◌, inl, inr, Bool, true, false, cond, nat_lt, List, length, take, take_all, get_or, Option, Some, None, MatchOption, sym, ap, ◌∙◌, subst, arith}
use Rattle.std.proofs.lemmas.Bool.{ltb-false}
use Rattle.std.specs.Option.{option_or}
use Rattle.ar_base.specs.Lists.{Stands, IsFirst, HasNo}
use Rattle.ar_base.specs.Numbers.{VarId}
use Rattle.ar_base.proofs.Standing.{one_none}
use Rattle.ar_base.proofs.Comparing.{low}
use Rattle.typed_expr.specs.Mentions.{Mentions}
use Rattle.typed_expr.specs.declared.expr.Expr.{Expr, out-Expr}
use Rattle.ar_meaning.specs.Systems as s
use Rattle.ar_meaning.specs.Systems.{System, Net, Leaf}
use Rattle.ar_meaning.specs.FoundInside.{IsFirstOrNone}
use Rattle.ar_firing.specs.Fragment.{WayNames, in_guard, in_action, IsStateOf, IsNamedStateOf, IsModeOf}
use Rattle.ar_firing.specs.Fragment as f
use Rattle.gts_core.specs.View.{net_of, variable_of}
use Rattle.gts_core.proofs.Viewing.{variable_there, variable_back}
use Rattle.gts_core.specs.declared.system.Assign.{Assign}
use Rattle.gts_core.specs.declared.system.GtsParts.{GtsParts}
use Rattle.gts_core.specs.Adding.{HasThose}
use Rattle.mode_search.specs.Named.{OneNames}
use Rattle.mode_search.specs.Modes.{IsStateAt, IsNamedState, IsLeastVariable, lesser_of, IsAlone, NamesAlone, plain_number, transition_of}
use Rattle.mode_search.proofs.Added.{taken_cases, taken_here, taken_more}
use Rattle.mode_search.proofs.NamesNumbered.{guard_there, guard_back, action_there, action_back}

module _ (P Q R : ℕ → Type 0) (split : (n : ℕ) → R n → P n ⊎ Q n) (left : (n : ℕ) → P n → R n)
    (right : (n : ℕ) → Q n → R n) where
  pub lesser_is : (a b : Option VarId) → IsLeastVariable P a → IsLeastVariable Q b → IsLeastVariable R (lesser_of a b)
  lesser_is None None h k = λ n q. elim (split n q) [ inl p ↦ h n p | inr p ↦ k n p ]
  lesser_is None (Some y) h k = (right y.n k.0, λ n q. elim (split n q) [ inl p ↦ absurd (h n p) | inr p ↦ k.1 n p ])
  lesser_is (Some x) None h k = (left x.n h.0, λ n q. elim (split n q) [ inl p ↦ h.1 n p | inr p ↦ absurd (k n p) ])
  lesser_is (Some x) (Some y) h k = by (nat_lt y.n x.n) cc
    where
      by : (c : Bool) → nat_lt y.n x.n ≡ c → IsLeastVariable R (cond c (Some y) (Some x))
      by true e = (right y.n k.0, λ n q. elim (split n q) [ inl p ↦ (let u = h.1 n p in let v = low y.n x.n e in omega arith) | inr p ↦ k.1 n p ])
      by false e = (left x.n h.0, λ n q. elim (split n q) [ inl p ↦ h.1 n p | inr p ↦ (let u = k.1 n p in let v = ltb-false y.n x.n e in omega arith) ])

module _ (p : GtsParts) (unit : ℕ) where
  -- the number is that of this variable, a state variable of the unit
  pub record IsThis (name : VarId) (n : ℕ) : Type 0 where
    pub number : name.n ≡ n
    pub is_state : IsStateAt p unit n

  this_is : (name : VarId) (found : Option VarId)
      → MatchOption found (IsStateAt p unit name.n → ⊥) (λ x. (x ≡ name) × IsStateAt p unit name.n)
      → IsLeastVariable (IsThis name) found
  this_is name None h = λ n q. h (subst (IsStateAt p unit) (sym q.number) q.is_state)
  this_is name (Some x) h =
      let e : x.n ≡ name.n = ap (λ (z : VarId). z.n) h.0 in
      (record { number = sym e; is_state = subst (IsStateAt p unit) (sym e) h.1 }, λ n q. let u = q.number in omega arith)

  pub least_start : (names : List VarId) → IsLeastVariable (IsNamedState p unit (take 0 names)) None
  least_start names = λ n q. one_none q.variable q.is_one

  pub least_more : (names : List VarId) (i : ℕ) (name : VarId) (least found : Option VarId) → i < length names
      → name ≡ get_or names i name
      → IsLeastVariable (IsNamedState p unit (take i names)) least
      → MatchOption found (IsStateAt p unit name.n → ⊥) (λ x. (x ≡ name) × IsStateAt p unit name.n)
      → IsLeastVariable (IsNamedState p unit (take (i + 1) names)) (lesser_of least found)
  least_more names i name least found h is before now =
      lesser_is (IsNamedState p unit (take i names)) (IsThis name) (IsNamedState p unit (take (i + 1) names))
      (λ n q. elim (taken_cases names i name q.variable h is q.is_one) [
        | inl o ↦ inl (record { variable = q.variable; is_one = o; number = q.number; is_state = q.is_state })
        | inr e ↦ inr (record { number = ap (λ (z : VarId). z.n) e ∙ q.number; is_state = q.is_state })
      ])
      (λ n q. record {
        variable = q.variable;
        is_one = taken_more names i name q.variable h is q.is_one;
        number = q.number;
        is_state = q.is_state;
      })
      (λ n q. record {
        variable = name;
        is_one = taken_here names i name h is;
        number = q.number;
        is_state = q.is_state;
      })
      least found before (this_is name found now)

  pub least_all : (names : List VarId) (i : ℕ) (least : Option VarId) → length names ≤ i
      → IsLeastVariable (IsNamedState p unit (take i names)) least → IsLeastVariable (IsNamedState p unit names) least
  least_all names i least h k = subst (λ (z : List VarId). IsLeastVariable (IsNamedState p unit z) least) (take_all i names h) k

-- a transition with the variables that its guard and its action name
pub record Read (g : Expr VarId) (acts : List Assign) (guards actions : List VarId) : Type 0 where
  pub guard : HasThose (λ x. Mentions x (out-Expr VarId g)) guards
  pub action : HasThose (OneNames acts) actions

module _ (p : GtsParts) (unit : ℕ) (g : Expr VarId) (acts : List Assign) (guards actions : List VarId)
    (read : Read g acts guards actions) where
  -- the number is that of a state variable of the unit that the transition names
  pub record IsNamedHere (n : ℕ) : Type 0 where
    pub is_state : IsStateAt p unit n
    pub named : WayNames n (Leaf (transition_of g acts))

  pub named_least : (a b : Option VarId) → IsLeastVariable (IsNamedState p unit guards) a
      → IsLeastVariable (IsNamedState p unit actions) b → IsLeastVariable IsNamedHere (lesser_of a b)
  named_least = lesser_is (IsNamedState p unit guards) (IsNamedState p unit actions) IsNamedHere split
      (λ n q. record {
        is_state = q.is_state;
        named = in_guard (subst (λ (z : ℕ). f.GuardNames z (Leaf (transition_of g acts))) q.number
            (guard_there g acts q.variable (read.guard.only q.variable q.is_one)));
      })
      (λ n q. record {
        is_state = q.is_state;
        named = in_action (subst (λ (z : ℕ). f.ActionNames z (Leaf (transition_of g acts))) q.number
            (action_there g acts q.variable (read.action.only q.variable q.is_one)));
      })
    where
      cases : (n : ℕ) → IsStateAt p unit n → WayNames n (Leaf (transition_of g acts))
          → IsNamedState p unit guards n ⊎ IsNamedState p unit actions n
      cases n s (in_guard h) = let r = guard_back g acts n h in inl (record { variable = r.variable; is_one = read.guard.each r.variable r.has; number = r.is; is_state = s })
      cases n s (in_action h) = let r = action_back g acts n h in inr (record { variable = r.variable; is_one = read.action.each r.variable r.has; number = r.is; is_state = s })

      split : (n : ℕ) → IsNamedHere n → IsNamedState p unit guards n ⊎ IsNamedState p unit actions n
      split n q = cases n q.is_state q.named

  there : (n : ℕ) (q : IsNamedHere n)
      → IsNamedStateOf unit (Leaf (transition_of g acts)) (variable_of n q.is_state.variable)
  there n q = record { is_state = q.is_state.is_state; is_unit = q.is_state.is_unit; named = q.named }

  back : (n : ℕ) (y : s.Variable ℕ) → Stands (net_of p).variables n y
      → IsNamedStateOf unit (Leaf (transition_of g acts)) y → IsNamedHere n
  back n y st h =
      let r = variable_back p n y st in
      let k = subst (λ (z : s.Variable ℕ). IsNamedStateOf unit (Leaf (transition_of g acts)) z) (sym r.2) h in
      record {
        is_state = record { variable = r.0; stands = r.1; is_state = k.is_state; is_unit = k.is_unit };
        named = k.named;
      }

  pub first_named : (x : VarId) → IsLeastVariable IsNamedHere (Some x)
      → IsFirst (net_of p).variables (IsNamedStateOf unit (Leaf (transition_of g acts))) x.n
  first_named x h = record {
    item = variable_of x.n h.0.is_state.variable;
    stands = variable_there p x.n h.0.is_state.variable h.0.is_state.stands;
    has = there x.n h.0;
    before = λ k a l st q. let u = h.1 k (back k a st q) in absurd (omega arith);
  }

  pub none_named : IsLeastVariable IsNamedHere None
      → HasNo (net_of p).variables (IsNamedStateOf unit (Leaf (transition_of g acts)))
  none_named h = record { has_not = λ k a st q. h k (back k a st q) }

  -- the mode variable is the least that is named, or the first of the unit
  pub mode_is : (named first : Option VarId) (x : VarId) → IsLeastVariable IsNamedHere named
      → IsFirstOrNone (net_of p).variables (IsStateOf unit) (plain_number first) → option_or named first ≡ Some x
      → (system : System ℕ) → system.net ≡ net_of p → IsModeOf system unit (Leaf (transition_of g acts)) x.n
  mode_is None None x h k e system net = cc
  mode_is None (Some y) x h k e system net =
      let i : y ≡ x = cc in
      f.first (subst (λ (z : Net ℕ). HasNo z.variables (IsNamedStateOf unit (Leaf (transition_of g acts)))) (sym net)
      (none_named h))
      (subst (λ (z : Net ℕ). IsFirst z.variables (IsStateOf unit) x.n) (sym net)
      (subst (λ (z : VarId). IsFirst (net_of p).variables (IsStateOf unit) z.n) i k))
  mode_is (Some y) first x h k e system net =
      let i : y ≡ x = cc in
      f.named (subst (λ (z : Net ℕ). IsFirst z.variables (IsNamedStateOf unit (Leaf (transition_of g acts))) x.n)
      (sym net) (subst (λ (z : VarId). IsFirst (net_of p).variables
      (IsNamedStateOf unit (Leaf (transition_of g acts))) z.n) i (first_named y h)))

  pub no_mode : (named first : Option VarId) → IsFirstOrNone (net_of p).variables (IsStateOf unit) (plain_number first)
      → option_or named first ≡ None → HasNo (net_of p).variables (IsStateOf unit)
  no_mode None None k e = k
  no_mode None (Some y) k e = cc
  no_mode (Some x) first k e = cc

  -- whether another number is named
  pub guard_alone : (x : VarId) (b : Bool) → IsAlone guards x.n b
      → NamesAlone (λ y. f.GuardNames y (Leaf (transition_of g acts))) x.n b
  guard_alone x true h = λ y q. let r = guard_back g acts y q in sym r.is ∙ h r.variable (read.guard.each r.variable r.has)
  guard_alone x false h = record {
    other = h.0.n;
    named = guard_there g acts h.0 (read.guard.only h.0 h.1);
    differs = h.2;
  }

  pub action_alone : (x : VarId) (b : Bool) → IsAlone actions x.n b
      → NamesAlone (λ y. f.ActionNames y (Leaf (transition_of g acts))) x.n b
  action_alone x true h = λ y q. let r = action_back g acts y q in sym r.is ∙ h r.variable (read.action.each r.variable r.has)
  action_alone x false h = record {
    other = h.0.n;
    named = action_there g acts h.0 (read.action.only h.0 h.1);
    differs = h.2;
  }
