-- The loop over the operands of a gate.
use Rattle.std.proofs.Common.{◌≡◌, ℕ, ◌+◌, ◌<◌, true, List, take, length, Result, Ok, Err, sym, ap, ◌∙◌, subst, arith}
use Rattle.ar_base.specs.Lists.{Stands}
use Rattle.zdd_nodes.specs.Families.{Family}
use Rattle.zdd_nodes.specs.Nodes.{NodeId, Stored, family, IsFamilyNumber, Grows, Draws}
use Rattle.zdd_nodes.specs.declared.NodeFault.{NodeFault}
use Rattle.zdd_nodes.proofs.Growing.{Draws-refused, Draws-after, kept, still}
use Rattle.eq_core.specs.Gates.{Operand, GateIs, Gate}
use Rattle.gate_diagrams.specs.Needed.{family_at, joint_family, IsNeeded}
use Rattle.gate_diagrams.specs.Drawing.{IsGateReady, IsGateTabled}
use Rattle.gate_diagrams.proofs.Needing.{first_is, all_are}

-- so many of the gate's first operands are drawn: n is the number of their family
pub record IsSoFar (P : Family → Type 0) (all : Family) (gates : List Gate) (gate : Gate) (k : ℕ) (old new : Stored)
    (n : ℕ) : Type 0 where
  pub grows : Grows P old new
  pub in_store : IsFamilyNumber new n
  pub is : family new n ≡ joint_family all gates gate.both (take k gate.operands)

table_kept : (P : Family → Type 0) (all : Family) (gates : List Gate) (table : List NodeId) (s t : Stored) (p : Operand)
    → Grows P s t → IsGateTabled all gates table s p → IsGateTabled all gates table t p
table_kept P all gates table s t p g i = record {
  in_table = i.in_table;
  drawn = λ k sign n e h. let x = i.drawn k sign n e h in record { in_store = still P s t n.n g x.in_store; is = kept P s t n.n g x.in_store ∙ x.is };
}

module _ (gates : List Gate) (o : Operand) (g : ℕ) (gate : Gate) (table : List NodeId) (s : Stored) (f : ℕ)
    (f_in : IsFamilyNumber s f) (ready : IsGateReady (family s f) gates o g gate table s) where
  abbrev all : Family
  all = family s f

  abbrev N : Family → Type 0
  N = IsNeeded all gates o

  abbrev Whole : Family
  Whole = family_at all gates (GateIs g true)

  abbrev First : ℕ → Family
  First k = joint_family all gates gate.both (take k gate.operands)

  pub some : 0 < length gate.operands
  some = omega (arith, (ready.ordered.each g gate ready.stands).two)

  pub begun : (p : Operand) → Stands gate.operands 0 p → (t : Stored) (n : NodeId)
      → Draws N (family_at all gates p) s t (Ok n) → IsSoFar N all gates gate 1 s t n.n
  begun p next t n d = record {
    grows = d.grows;
    in_store = d.ok.0;
    is = d.ok.1
        ∙ sym (first_is all gates o g gate p next);
  }

  pub begun_refused : (p : Operand) (t : Stored) (x : NodeFault) → Draws N (family_at all gates p) s t (Err x)
      → Draws N Whole s t (Err x)
  begun_refused p t x d = Draws-refused N (family_at all gates p) Whole s t x d

  -- after so many operands
  module _ (k : ℕ) (t : Stored) (n : ℕ) (i : IsSoFar N all gates gate k s t n) where
    all_same : family t f ≡ all
    all_same = kept N s t f i.grows f_in

    pub firable_in : IsFamilyNumber t f
    firable_in = still N s t f i.grows f_in

    pub still_ready : IsGateReady (family t f) gates o g gate table t
    still_ready = subst (λ z. IsGateReady z gates o g gate table t) (sym all_same) (record {
      ordered = ready.ordered;
      in_order = ready.in_order;
      cone = ready.cone;
      stands = ready.stands;
      operands = λ p h. table_kept N all gates table s t p i.grows (ready.operands p h);
    })

    pub so_far_is : family t n ≡ joint_family (family t f) gates gate.both (take k gate.operands)
    so_far_is = i.is ∙ ap (λ z. joint_family z gates gate.both (take k gate.operands)) (sym all_same)

    moved : (u : Stored) (r : Result NodeId NodeFault)
        → Draws (IsNeeded (family t f) gates o) (joint_family (family t f) gates gate.both (take (k + 1) gate.operands))
        t u r → Draws N (First (k + 1)) s u r
    moved u r d = Draws-after N (First (k + 1)) s t u r i.grows
        (subst (λ z. Draws (IsNeeded z gates o) (joint_family z gates gate.both (take (k + 1) gate.operands)) t u r)
        all_same d)

    pub one_more : (u : Stored) (m : NodeId)
        → Draws (IsNeeded (family t f) gates o) (joint_family (family t f) gates gate.both (take (k + 1) gate.operands))
        t u (Ok m) → IsSoFar N all gates gate (k + 1) s u m.n
    one_more u m d = let x = moved u (Ok m) d in record { grows = x.grows; in_store = x.ok.0; is = x.ok.1 }

    pub more_refused : (u : Stored) (x : NodeFault)
        → Draws (IsNeeded (family t f) gates o) (joint_family (family t f) gates gate.both (take (k + 1) gate.operands))
        t u (Err x) → Draws N Whole s u (Err x)
    more_refused u x d = Draws-refused N (First (k + 1)) Whole s u x (moved u (Err x) d)

  pub ended : (k : ℕ) (t : Stored) (n : NodeId) → IsSoFar N all gates gate k s t n.n → k ≡ length gate.operands
      → Draws N Whole s t (Ok n)
  ended k t n i e = record {
    grows = i.grows;
    ok = (i.in_store, i.is ∙ ap First e ∙ all_are all gates o g gate ready.ordered ready.stands);
    full = λ x. cc;
  }
