-- What the family of an operand adds to the store is needed.
use Rattle.std.proofs.Common.{◌≡◌, ℕ, Bool, true, false, List, Result, Ok, Err, sym, ap, ap₂, ◌∙◌, subst, arith}
use Rattle.zdd_nodes.specs.Families.{Family}
use Rattle.zdd_nodes.specs.FamiliesInside.{minus, having}
use Rattle.zdd_nodes.specs.Sections.{IsCounted}
use Rattle.zdd_nodes.specs.Nodes.{NodeId, Stored, family, IsFamilyNumber, Draws}
use Rattle.zdd_nodes.specs.declared.NodeFault.{NodeFault}
use Rattle.zdd_nodes.proofs.Growing.{Draws-stays, Draws-refused, Draws-after, kept}
use Rattle.eq_core.specs.Gates.{Operand, Always, Never, EventIs, GateIs, Gate}
use Rattle.gate_diagrams.specs.Needed.{family_at, IsOperandInCone, IsNeeded}
use Rattle.gate_diagrams.specs.Drawing.{IsDrawn}
use Rattle.gate_diagrams.proofs.Filters.{family_of_always, family_of_never}
use Rattle.gate_diagrams.proofs.Needing.{event_drawn, opposite_drawn}

module _ (gates : List Gate) (root p : Operand) (named : IsOperandInCone gates root p) (s : Stored) (f : ℕ)
    (f_in : IsFamilyNumber s f) where
  abbrev all : Family
  all = family s f

  abbrev N : Family → Type 0
  N = IsNeeded all gates root

  pub always : p ≡ Always → (n : NodeId) → n.n ≡ f → Draws N (family_at all gates p) s s (Ok n)
  always e n h = Draws-stays N (family_at all gates p) s n (omega (arith, h, f_in))
      (ap (family s) h ∙ sym (ap (family_at all gates) e ∙ family_of_always all gates))

  pub never : p ≡ Never → (n : NodeId) → n.n ≡ 0 → Draws N (family_at all gates p) s s (Ok n)
  never e n h = Draws-stays N (family_at all gates p) s n (omega (arith, h))
      (ap (family s) h ∙ sym (ap (family_at all gates) e ∙ family_of_never all gates))

  event_plain : (e : ℕ) (sign : Bool) → p ≡ EventIs e sign → (t : Stored) (r : Result NodeId NodeFault)
      → Draws (IsCounted (having all e)) (having all e) s t r → Draws N (family_at all gates (EventIs e true)) s t r
  event_plain e sign q t r d = event_drawn all gates root e sign s t r (subst (IsOperandInCone gates root) q named) d

  pub event_refused : (e : ℕ) (sign : Bool) → p ≡ EventIs e sign → (t : Stored) (x : NodeFault)
      → Draws (IsCounted (having all e)) (having all e) s t (Err x) → Draws N (family_at all gates p) s t (Err x)
  event_refused e sign q t x d = Draws-refused N (family_at all gates (EventIs e true)) (family_at all gates p) s t x
      (event_plain e sign q t (Err x) d)

  pub event : (e : ℕ) → p ≡ EventIs e true → (t : Stored) (r : Result NodeId NodeFault)
      → Draws (IsCounted (having all e)) (having all e) s t r → Draws N (family_at all gates p) s t r
  event e q t r d = subst (λ z. Draws N (family_at all gates z) s t r) (sym q) (event_plain e true q t r d)

  pub event_negated : (e : ℕ) → p ≡ EventIs e false → (t u : Stored) (n : NodeId) (r : Result NodeId NodeFault)
      → Draws (IsCounted (having all e)) (having all e) s t (Ok n)
      → (let made = minus (family t f) (family t n.n) in Draws (IsCounted made) made t u r) → Draws N (family_at all gates p) s u r
  event_negated e q t u n r d k =
      let a = event_plain e false q t (Ok n) d in
      let m : minus (family t f) (family t n.n) ≡ minus all (family_at all gates (EventIs e true)) =
      ap₂ minus (kept N s t f a.grows f_in) a.ok.1 in
      let b = opposite_drawn all gates root (EventIs e true) t u r (subst (IsOperandInCone gates root) q named)
      (subst (λ z. Draws (IsCounted z) z t u r) m k) in
      subst (λ z. Draws N (family_at all gates z) s u r) (sym q)
      (Draws-after N (family_at all gates (EventIs e false)) s t u r a.grows b)

  pub gate : (g : ℕ) → p ≡ GateIs g true → (n : NodeId) → IsDrawn all gates (GateIs g true) s n.n
      → Draws N (family_at all gates p) s s (Ok n)
  gate g q n d = Draws-stays N (family_at all gates p) s n d.in_store (d.is ∙ sym (ap (family_at all gates) q))

  pub gate_negated : (g : ℕ) → p ≡ GateIs g false → (n : NodeId) → IsDrawn all gates (GateIs g true) s n.n
      → (t : Stored) (r : Result NodeId NodeFault)
      → (let made = minus all (family s n.n) in Draws (IsCounted made) made s t r) → Draws N (family_at all gates p) s t r
  gate_negated g q n d t r k = subst (λ z. Draws N (family_at all gates z) s t r) (sym q)
      (opposite_drawn all gates root (GateIs g true) s t r (subst (IsOperandInCone gates root) q named) (subst (λ z. let made = minus all z in Draws (IsCounted made) made s t r) d.is k))
