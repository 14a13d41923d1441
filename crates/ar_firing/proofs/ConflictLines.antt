-- Every legal order of a least set that conflicts meets its flow fault at its last label.
use Rattle.std.proofs.Common.{◌≡◌, ℕ, zero, suc, Bool, true, false, List, [], ◌∷◌, map, refl, sym, arith}
use Rattle.ar_base.specs.Lists.{IsOneOf}
use Rattle.domains.specs.declared.Value.{Value}
use Rattle.typed_expr.specs.declared.expr.Expr.{Expr}
use Rattle.ar_meaning.specs.Systems.{System}
use Rattle.ar_meaning.specs.FactsInside.{AreKeyed}
use Rattle.ar_meaning.specs.Flows.{FlowFault}
use Rattle.ar_meaning.specs.Runs.{Label, first_values}
use Rattle.ar_firing.specs.Static.{IsStatic}
use Rattle.ar_firing.specs.Cuts.{Conflicts, IsFirable, IsLeast, AreEvents}
use Rattle.ar_firing.specs.CutsInside.{IsLegalOrder}
use Rattle.ar_base.specs.Sets.{Within}
use Rattle.ar_firing.specs.Cuts as cuts
use Rattle.ar_firing.specs.Operands.{Agrees, HasFlows, IsFirableWith}
use Rattle.ar_firing.proofs.Firing.{none_firable}
use Rattle.ar_firing.proofs.EachHasOrder.{label_of}
use Rattle.ar_firing.proofs.SameSets.{firable_as, events_within, set_within}
use Rattle.ar_firing.proofs.Legal.{goes_on, onward, fires_all}

module _ {V : Type 0} (sys : System V) (dropped : List ℕ) (keyed : AreKeyed sys.net) (static : IsStatic sys dropped)
    (observer : Expr V) (wanted : Value)
    (conflict top : List ℕ → Bool) (agrees : Agrees sys dropped observer wanted conflict top) where
  pub legal_meets : {set : List ℕ} (ls : List Label) → IsLeast (IsFirableWith sys dropped conflict) set
      → IsLegalOrder sys dropped set ls → (f : FlowFault) × Conflicts sys dropped ls f
  legal_meets {set = set} [] c o =
      let none : Within set [] = set_within [] set o.events in
      let all : Within [] set = record { each = λ e i. let h = i.stands in cc } in
      let k =
      agrees.fault set (first_values sys.net.variables)
      (firable_as sys dropped all none (none_firable sys dropped keyed)) c.has.holds in
      (k.fault, cuts.start k.flows)
  legal_meets {set = set} (l ∷ b) c o =
      let r = fires_all sys dropped keyed static (l ∷ []) b o (λ part t f w. flows part t f w (conflict part) refl) in
      let n = onward sys dropped keyed static l b r.1 (goes_on sys dropped keyed static [] l b o r.1) in
      let k =
      agrees.fault set n.values
      (firable_as sys dropped (events_within (l ∷ b) set o.events) (set_within (l ∷ b) set o.events) n.is_firable)
      c.has.holds in
      (k.fault, n.fails k.fault k.flows)
    where
      in_set : (e : ℕ) → IsOneOf (map (λ k. k.event) b) e → IsOneOf set e
      in_set e i = (events_within (l ∷ b) set o.events).each e (record { place = suc i.place; stands = i.stands })

      not_again : IsOneOf (map (λ k. k.event) b) l.event → ⊥
      not_again i =
          let m = label_of b i.place l.event i.stands in
          let h : zero ≡ suc i.place = o.events.once zero (suc i.place) l m.0 refl m.1 (sym m.2) in
          absurd (omega (arith, h))

      flows : (part : List ℕ) (t : List Value) → IsFirable sys dropped part t → Within part (map (λ k. k.event) b)
          → (v : Bool) → conflict part ≡ v → HasFlows sys.net t
      flows part t f w true e =
          let all =
          c.least part (record { each = λ k i. in_set k (w.each k i) })
          (record { values = t; is_firable = f; holds = e }) in
          absurd (not_again (w.each l.event (all.each l.event (o.events.sound zero l refl))))
      flows part t f w false e = let s = agrees.total part t f e in record { values = s.values; flows = s.flows }
