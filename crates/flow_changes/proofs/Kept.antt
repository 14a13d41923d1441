-- Outside what a change of the state reaches all is as it was.
use Rattle.std.proofs.Common.{List, inl, inr, subst, sym}
use Rattle.ar_base.specs.Lists.{IsOneOf}
use Rattle.domains.specs.declared.Value.{Value}
use Rattle.typed_expr.specs.Yields.{Yields}
use Rattle.typed_expr.specs.declared.expr.Expr.{out-Expr}
use Rattle.typed_expr.proofs.Facts.{yields_named, yields_more}
use Rattle.ar_meaning.specs.Systems.{Assign, Variable, Net}
use Rattle.ar_meaning.specs.Facts.{PassesConditions, Allows, HasStateValue, HasValue, FactOf, given}
use Rattle.ar_meaning.specs.Flows.{IsOutside, IsBrokenAssign}
use Rattle.ar_meaning.specs.Dependence.{Names}
use Rattle.ar_meaning.proofs.Least.{least, closed, passes_more}
use Rattle.ar_meaning.proofs.Dependence.{passes_named}

-- facts of the variables that are out of reach stay, where those have the same values, and assignments to them name
-- such variables alone
module _ {V : Type 0} (net : Net V) (t u : List Value) (Out : V → Type 0)
    (same : (x : V) (v : Value) → Out x → HasStateValue net t x v → HasStateValue net u x v)
    (within : (a : Assign V) (x : V) → IsOneOf net.assertions a → Names a x → Out a.target → Out x) where
  abbrev Both : V → Value → Type 0
  Both x v = FactOf net t x v × (Out x → FactOf net u x v)

  step : (a : Assign V) (v : Value) → IsOneOf net.assertions a → PassesConditions Both a.conditions
      → Yields Both (out-Expr V a.value) v → Allows net a.target v → Both a.target v
  step a v m p y l = (
    closed net.assertions (Allows net) (HasStateValue net t) a v m (passes_more V Both (FactOf net t) (λ x w h. h.0) p)
        (yields_more V Both (FactOf net t) (λ x w h. h.0) y) l,
    λ o. closed net.assertions (Allows net) (HasStateValue net u) a v m
        (passes_named (λ x w n h. h.1 (within a x m (inr n) o)) p)
        (yields_named (λ x w n h. h.1 (within a x m (inl n) o)) y) l,
  )

  pub facts_stay : (x : V) (v : Value) → Out x → FactOf net t x v → FactOf net u x v
  facts_stay x v o h = (least net.assertions (Allows net) (HasStateValue net t) Both
      (λ y w g. (given g, λ c. given (same y w c g))) (λ a w m p y l. step a w m p y l) x v h).1 o

-- where the facts of these variables are found again, so are their faults
module _ {V : Type 0} (net : Net V) (t u : List Value) (Out : V → Type 0)
    (back : (x : V) (v : Value) → Out x → FactOf net u x v → FactOf net t x v)
    (within : (a : Assign V) (x : V) → IsOneOf net.assertions a → Names a x → Out a.target → Out x) where
  pub no_outside : (x : Variable V) → Out x.key → IsOutside net u x → IsOutside net t x
  no_outside x o h =
      let out : Out h.assign.target = subst Out (sym h.is_target) o in
      record {
        is_flow = h.is_flow;
        assign = h.assign;
        value = h.value;
        is_one = h.is_one;
        is_target = h.is_target;
        passes = passes_named (λ y w n f. back y w (within h.assign y h.is_one (inr n) out) f) h.passes;
        yields = yields_named (λ y w n f. back y w (within h.assign y h.is_one (inl n) out) f) h.yields;
        outside = h.outside;
      }

-- where the total valuations agree on these variables, an assignment to one of them is broken now where it was before
module _ {V : Type 0} (net : Net V) (before now : List Value) (Out : V → Type 0)
    (there : (x : V) (v : Value) → Out x → HasValue net before x v → HasValue net now x v)
    (back : (x : V) (v : Value) → Out x → HasValue net now x v → HasValue net before x v)
    (within : (a : Assign V) (x : V) → IsOneOf net.assertions a → Names a x → Out a.target → Out x) where
  pub no_broken : (a : Assign V) → IsOneOf net.assertions a → Out a.target → IsBrokenAssign net now a
      → IsBrokenAssign net before a
  no_broken a m o h = record {
    passes = passes_named (λ y w n f. back y w (within a y m (inr n) o) f) h.passes;
    value = h.value;
    yields = yields_named (λ y w n f. back y w (within a y m (inl n) o) f) h.yields;
    differs = λ k. h.differs (there a.target h.value o k);
  }
