-- A call that makes a family by its two halves: first the lower half, then the upper one, then the node of both.
use Rattle.std.proofs.Common.{◌≡◌, ℕ, Result, Ok, sym, ap₂, ◌∙◌, subst}
use Rattle.zdd_nodes.specs.Families.{Family}
use Rattle.zdd_nodes.specs.FamiliesInside.{node, IsAbove}
use Rattle.zdd_nodes.specs.SectionsInside.{IsMade}
use Rattle.zdd_nodes.specs.Nodes.{NodeId, Stored, family, IsFamilyNumber, Grows, Draws}
use Rattle.zdd_nodes.specs.declared.NodeFault.{NodeFault}
use Rattle.zdd_nodes.proofs.Growing.{Grows-then, kept, still, Draws-weaker, Draws-after}

-- the made family is the node of these halves, and P allows it
pub record Halved (P : Family → Type 0) (made : Family) (v : ℕ) (L H : Family) : Type 0 where
  pub is : made ≡ node v L H
  pub lower_above : IsAbove v L
  pub upper_above : IsAbove v H
  pub whole : (h : Family) → IsMade made h → P h

-- lo is the number of the lower half, drawn from s0 to s1, and hi that of the upper half, drawn from s1 to s2
module _ (P : Family → Type 0) (made : Family) (v : ℕ) (L H : Family) (halved : Halved P made v L H) (s0 s1 s2 : Stored)
    (lo hi : NodeId) (dl : Draws P L s0 s1 (Ok lo)) (dh : Draws P H s1 s2 (Ok hi)) where
  lo_is : family s2 lo.n ≡ L
  lo_is = kept P s1 s2 lo.n dh.grows dl.ok.0 ∙ dl.ok.1

  pub lo_in : IsFamilyNumber s2 lo.n
  lo_in = still P s1 s2 lo.n dh.grows dl.ok.0

  pub lo_above : IsAbove v (family s2 lo.n)
  lo_above = subst (IsAbove v) (sym lo_is) halved.lower_above

  pub hi_above : IsAbove v (family s2 hi.n)
  hi_above = subst (IsAbove v) (sym dh.ok.1) halved.upper_above

  pub done : (s3 : Stored) (r : Result NodeId NodeFault) → (let m = node v (family s2 lo.n) (family s2 hi.n) in Draws (IsMade m) m s2 s3 r) → Draws P made s0 s3 r
  done s3 r d =
      let e = ap₂ (node v) lo_is dh.ok.1 ∙ sym halved.is in
      Draws-after P made s0 s2 s3 r (Grows-then P s0 s1 s2 dl.grows dh.grows)
      (Draws-weaker (IsMade made) P made s2 s3 r halved.whole (subst (λ x. Draws (IsMade x) x s2 s3 r) e d))

-- a fact of families of numbers that were there before
pub moved : (P : Family → Type 0) (s t : Stored) (a b : ℕ) → Grows P s t → IsFamilyNumber s a → IsFamilyNumber s b
    → (C : Family → Family → Type 0) → C (family t a) (family t b) → C (family s a) (family s b)
moved P s t a b g p q C c = subst (λ x. C x (family s b)) (kept P s t a g p)
    (subst (λ y. C (family t a) y) (kept P s t b g q) c)
