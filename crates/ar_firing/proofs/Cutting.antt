-- Where the two tests agree with a static system, and no part of a set meets a conflict, the set makes the value exactly
-- where it is firable and the top test is true.
use Rattle.std.proofs.Common.{◌≡◌, ℕ, Bool, true, false, List, refl, sym, subst}
use Rattle.typed_expr.specs.Yields.{Yields}
use Rattle.ar_meaning.specs.Systems.{System}
use Rattle.ar_meaning.specs.Facts.{HasValue}
use Rattle.ar_meaning.specs.FactsInside.{AreKeyed}
use Rattle.ar_firing.specs.Static.{IsStatic}
use Rattle.ar_firing.specs.Cuts.{MeetsConflict, IsConflictFree, IsFirable, Makes}
use Rattle.ar_meaning.specs.Found.{IsAnswer}
use Rattle.ar_base.specs.Sets.{Within}
use Rattle.ar_base.proofs.Sets.{within_self}
use Rattle.ar_firing.specs.Operands.{Agrees, HasFlows, IsFirableWith}
use Rattle.domains.specs.declared.Value.{Value}
use Rattle.typed_expr.specs.declared.expr.Expr.{Expr, out-Expr}
use Rattle.ar_meaning.proofs.OneAnswer.{flows_same}
use Rattle.ar_meaning.proofs.StatesAlone.{same_flows}
use Rattle.ar_firing.proofs.Ends.{came, firable_same}
use Rattle.ar_firing.proofs.EachHasOrder.{has_order}
use Rattle.ar_firing.proofs.LeastSets.{within_then}
use Rattle.ar_firing.proofs.SameSets.{firable_as, events_within, set_within}
use Rattle.ar_meaning.specs.Flows.{Flows, FlowFault, Fails}

-- where the conflict test is false at each firable set within this one
module _ {V : Type 0} (sys : System V) (dropped : List ℕ) (keyed : AreKeyed sys.net) (static : IsStatic sys dropped)
    (observer : Expr V) (wanted : Value) (conflict top : List ℕ → Bool)
    (agrees : Agrees sys dropped observer wanted conflict top) (set : List ℕ)
    (calm : (part : List ℕ) (t : List Value) → Within part set → IsFirable sys dropped part t
    → conflict part ≡ false) where
  answered : {P : Type 0} (b : Bool) → IsAnswer b P → P → b ≡ true
  answered true h p = refl
  answered false h p = absurd (h p)

  answer : {P : Type 0} (b : Bool) → IsAnswer b P → b ≡ true → P
  answer true h e = h
  answer false h e = cc

  pub made_within : Makes sys dropped observer wanted set → IsFirableWith sys dropped top set
  made_within m =
      let c = came sys dropped keyed static m.order.reaches in
      let f =
      firable_as sys dropped (events_within m.order.labels set m.order.events)
      (set_within m.order.labels set m.order.events) c.is_firable in
      let s = agrees.total set c.values f (calm set c.values (within_self set) f) in
      let e = flows_same sys.net c.flows s.flows in
      let u : m.values ≡ s.values = cc in
      record {
        values = c.values;
        is_firable = f;
        holds = answered _ s.shows (subst (λ z. Yields (HasValue sys.net z) (out-Expr V observer) wanted) u m.shows);
      }

  pub counted_within : IsFirableWith sys dropped top set → Makes sys dropped observer wanted set
  counted_within i =
      let o =
      has_order sys dropped keyed static set
      (λ part t f w k. let s = agrees.total part t f (calm part t w f) in record { values = s.values; flows = s.flows })
      i.is_firable (within_self set) in
      let c = came sys dropped keyed static o.1.reaches in
      let s = agrees.total set i.values i.is_firable (calm set i.values (within_self set) i.is_firable) in
      let h =
      firable_same sys dropped keyed static c.is_firable i.is_firable (events_within o.1.labels set o.1.events)
      (set_within o.1.labels set o.1.events) in
      let e = flows_same sys.net (same_flows sys.net h c.flows) s.flows in
      let u : o.0 ≡ s.values = cc in
      record {
        values = o.0;
        order = o.1;
        shows = subst (λ z. Yields (HasValue sys.net z) (out-Expr V observer) wanted) (sym u)
            (answer _ s.shows i.holds);
      }

-- where no list within this one meets a conflict, the conflict test is false at each firable set within it
module _ {V : Type 0} (sys : System V) (dropped : List ℕ) (keyed : AreKeyed sys.net) (static : IsStatic sys dropped)
    (observer : Expr V) (wanted : Value) (conflict top : List ℕ → Bool)
    (agrees : Agrees sys dropped observer wanted conflict top) where
  module _ (set : List ℕ) (free : (part : List ℕ) → Within part set → MeetsConflict sys dropped part → ⊥) where
    flows_at : (part : List ℕ) (t : List Value) → IsFirable sys dropped part t
        → ((f : FlowFault) → Flows sys.net t (Fails f)
        → (met : List ℕ) × Within met set × MeetsConflict sys dropped met)
        → HasFlows sys.net t
    flows_at part t f met = go (conflict part) refl
      where
        go : (b : Bool) → conflict part ≡ b → HasFlows sys.net t
        go true e =
            let k = agrees.fault part t f e in
            let m = met k.fault k.flows in
            absurd (free m.0 m.1 m.2)
        go false e = let s = agrees.total part t f e in record { values = s.values; flows = s.flows }

    at_set : (t : List Value) → IsFirable sys dropped set t → conflict set ≡ false
    at_set t f = go (conflict set) refl
      where
        go : (b : Bool) → conflict set ≡ b → conflict set ≡ false
        go false e = e
        go true e =
            let o =
            has_order sys dropped keyed static set (λ part t f w k. flows_at part t f k) f (within_self set) in
            let c = came sys dropped keyed static o.1.reaches in
            let h =
            firable_same sys dropped keyed static c.is_firable f (events_within o.1.labels set o.1.events)
            (set_within o.1.labels set o.1.events) in
            let k = agrees.fault set t f e in
            let i = flows_same sys.net (same_flows sys.net h c.flows) k.flows in cc

  pub calm_within : (set : List ℕ) → ((part : List ℕ) → Within part set → MeetsConflict sys dropped part → ⊥)
      → (part : List ℕ) (t : List Value) → Within part set → IsFirable sys dropped part t → conflict part ≡ false
  calm_within set free part t w f = at_set part (λ p i m. free p (within_then i w) m) t f

  pub no_conflict : IsConflictFree sys dropped → (set : List ℕ) (t : List Value) → IsFirable sys dropped set t
      → conflict set ≡ false
  no_conflict free set t f = at_set set (λ part w m. free part m) t f

-- where the conflict test is false at each firable set
module _ {V : Type 0} (sys : System V) (dropped : List ℕ) (keyed : AreKeyed sys.net) (static : IsStatic sys dropped)
    (observer : Expr V) (wanted : Value) (conflict top : List ℕ → Bool)
    (agrees : Agrees sys dropped observer wanted conflict top)
    (calm : (set : List ℕ) (t : List Value) → IsFirable sys dropped set t → conflict set ≡ false) where
  pub made_is_counted : {set : List ℕ} → Makes sys dropped observer wanted set → IsFirableWith sys dropped top set
  made_is_counted {set = set} m =
      made_within sys dropped keyed static observer wanted conflict top agrees set (λ part t w f. calm part t f) m

  pub counted_is_made : {set : List ℕ} → IsFirableWith sys dropped top set → Makes sys dropped observer wanted set
  counted_is_made {set = set} i =
      counted_within sys dropped keyed static observer wanted conflict top agrees set (λ part t w f. calm part t f) i
