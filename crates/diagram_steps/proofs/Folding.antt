-- Diagrams, joined from the last to the first.
use Rattle.std.proofs.Common.{◌≡◌, ℕ, zero, suc, ◌+◌, ◌≤◌, Bool, true, false, cond, ◌&&◌, ◌||◌, List, [], ◌∷◌, drop, length, refl, sym, ap, ap₂, ◌∙◌, arith}
use Rattle.std.specs.Int.{from_bool}
use Rattle.ar_base.specs.Lists.{Stands}
use Rattle.mode_nodes.specs.Diagrams.{DiagramId, StoredDiagrams, value, IsDiagramNumber}
use Rattle.mode_nodes.specs.Bounds.{Bounded, AreAffordable, GrowsWithin}
use Rattle.mode_nodes.proofs.Allowed.{GrowsWithin-none, GrowsWithin-then, allowed}
use Rattle.mode_nodes.proofs.Growing.{kept}
use Rattle.mode_nodes.proofs.Values.{value-false, value-true}
use Rattle.diagram_steps.specs.Joints.{joint_value, IsDiagramJoint}

-- r has the values of both, or of either, at the modes that cost no more than is enough
pub record IsJoined (both : Bool) (s : Bounded) (m n : ℕ) (t : StoredDiagrams) (r : ℕ) : Type 0 where
  pub number : IsDiagramNumber t r
  pub same : (modes : List ℕ) → AreAffordable s modes → value t modes r
      ≡ cond both (value s.store modes m && value s.store modes n) (value s.store modes m || value s.store modes n)

-- the diagrams from place `left` on are joined
pub record IsFolded (all : Bool) (old : Bounded) (ns : List DiagramId) (left : ℕ) (s : Bounded) (n : ℕ) : Type 0 where
  pub left_in : left ≤ length ns
  pub grows : GrowsWithin old s
  pub number : IsDiagramNumber s.store n
  pub same : (modes : List ℕ) → AreAffordable old modes → value s.store modes n ≡ joint_value all old.store modes (drop left ns)

drop_at : (ns : List DiagramId) (k : ℕ) (n : DiagramId) → Stands ns k n → drop k ns ≡ n ∷ drop (k + 1) ns
drop_at [] k n st = let wrong : ⊥ = cc in absurd wrong
drop_at (x ∷ ns) zero n st = let same : x ≡ n = cc in ap (λ y. y ∷ ns) same
drop_at (x ∷ ns) (suc k) n st =
    let shift : suc k + 1 ≡ suc (k + 1) = omega arith in
    drop_at ns k n st ∙ ap (λ j. n ∷ drop j (x ∷ ns)) (sym shift)

drop_end : (ns : List DiagramId) (k : ℕ) → k ≡ length ns → drop k ns ≡ []
drop_end [] zero e = refl
drop_end [] (suc k) e = let wrong : ⊥ = omega (arith, e) in absurd wrong
drop_end (x ∷ ns) zero e = let wrong : ⊥ = omega (arith, e) in absurd wrong
drop_end (x ∷ ns) (suc k) e = drop_end ns k (omega (arith, e))

pub folded_none : (all : Bool) (old : Bounded) (ns : List DiagramId) (left n : ℕ) → left ≡ length ns → n ≡ from_bool all
    → IsFolded all old ns left old n
folded_none true old ns left n e neutral = record {
  left_in = omega (arith, e);
  grows = GrowsWithin-none old;
  number = omega (arith, neutral);
  same = λ modes h. ap (value old.store modes) neutral ∙ value-true old.store.nodes modes
      ∙ ap (joint_value true old.store modes) (sym (drop_end ns left e));
}
folded_none false old ns left n e neutral = record {
  left_in = omega (arith, e);
  grows = GrowsWithin-none old;
  number = omega (arith, neutral);
  same = λ modes h. ap (value old.store modes) neutral ∙ value-false old.store.nodes modes
      ∙ ap (joint_value false old.store modes) (sym (drop_end ns left e));
}

pub folded_more : (all : Bool) (old : Bounded) (ns : List DiagramId) (left : ℕ) (s t : Bounded) (m : DiagramId) (n r : ℕ)
    → Stands ns left m → IsDiagramNumber old.store m.n → IsFolded all old ns (left + 1) s n → GrowsWithin s t
    → IsJoined all s m.n n t.store r → IsFolded all old ns left t r
folded_more true old ns left s t m n r st low f a j = record {
  left_in = omega (arith, f.left_in);
  grows = GrowsWithin-then old s t f.grows a;
  number = j.number;
  same = λ modes h. j.same modes (allowed old s modes f.grows h)
      ∙ ap₂ (λ x y. x && y) (kept old.store s.store modes m.n f.grows.store low) (f.same modes h)
      ∙ ap (joint_value true old.store modes) (sym (drop_at ns left m st));
}
folded_more false old ns left s t m n r st low f a j = record {
  left_in = omega (arith, f.left_in);
  grows = GrowsWithin-then old s t f.grows a;
  number = j.number;
  same = λ modes h. j.same modes (allowed old s modes f.grows h)
      ∙ ap₂ (λ x y. x || y) (kept old.store s.store modes m.n f.grows.store low) (f.same modes h)
      ∙ ap (joint_value false old.store modes) (sym (drop_at ns left m st));
}

pub folded_all : (all : Bool) (old : Bounded) (ns : List DiagramId) (left : ℕ) (s : Bounded) (n : ℕ) → left ≡ 0
    → IsFolded all old ns left s n → IsDiagramJoint all old ns s.store n
folded_all all old ns left s n e f = record {
  number = f.number;
  same = λ modes h. f.same modes h ∙ ap (λ k. joint_value all old.store modes (drop k ns)) e;
}
