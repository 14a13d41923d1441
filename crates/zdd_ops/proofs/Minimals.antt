-- The minimal sets, by halves.
use Rattle.std.proofs.Common.{◌≡◌, ℕ, zero, suc, ◌<◌, List, Result, Ok, sym, ap, ◌∙◌, subst, arith, lt_trans}
use Rattle.std.specs.List.{AllByRecursion}
use Rattle.ar_base.specs.Sets.{Ascends}
use Rattle.zdd_nodes.specs.Families.{Family, minimal, without}
use Rattle.zdd_nodes.specs.FamiliesInside.{node}
use Rattle.zdd_nodes.specs.Sections.{IsCounted, IsPartOfBoth, IsHalf}
use Rattle.zdd_nodes.proofs.Laws.{minimal-nil, minimal-unit, IsAbove-minimal, IsAbove-without}
use Rattle.zdd_nodes.proofs.Minimal.{minimal-node}
use Rattle.zdd_nodes.proofs.Halves.{half_lower, half_upper, half_whole, half_parts}
use Rattle.zdd_nodes.specs.Nodes.{NodeId, Stored, at, family, IsFamilyNumber, IsNode, Grows, Draws}
use Rattle.zdd_nodes.specs.declared.NodeFault.{NodeFault}
use Rattle.zdd_nodes.proofs.Growing.{kept, still, Draws-weaker, Draws-after, counted_made}
use Rattle.zdd_nodes.proofs.Halved.{Halved, moved}

pub minimal_small : (fs : List Family) (f : ℕ) → f < 2 → at fs f ≡ minimal (at fs f)
minimal_small fs zero h = sym minimal-nil
minimal_small fs (suc zero) h = sym minimal-unit
minimal_small fs (suc (suc f)) h = absurd (omega (arith, h))

module _ (s0 : Stored) (f v lo hi : ℕ) (i : IsNode s0.families f v lo hi) (f_in : IsFamilyNumber s0 f)
    (ascending : AllByRecursion Ascends (family s0 lo)) where
  abbrev fam : ℕ → Family
  fam n = family s0 n

  abbrev Q : Family → Type 0
  Q = IsHalf (fam f)

  abbrev Made : Family
  Made = minimal (fam f)

  abbrev Lower : Family
  Lower = minimal (fam lo)

  abbrev Above : Family
  Above = minimal (fam hi)

  made_is : Made ≡ node v Lower (without Above Lower)
  made_is = ap minimal i.is ∙ minimal-node v (fam lo) (fam hi) i.lo_above i.hi_above ascending

  to_f : (h : Family) → IsHalf (node v (fam lo) (fam hi)) h → Q h
  to_f h x = subst (λ m. IsHalf m h) (sym i.is) x

  pub minimal_halved : Halved Q Made v Lower (without Above Lower)
  minimal_halved = record {
    is = made_is;
    lower_above = IsAbove-minimal v (fam lo) i.lo_above;
    upper_above = IsAbove-without v Above Lower (IsAbove-minimal v (fam hi) i.hi_above);
    whole = λ h x. to_f h (half_whole v (fam lo) (fam hi) i.lo_above i.hi_above h
        (subst (λ m. IsCounted (minimal m) h) i.is (counted_made Made h x)));
  }

  pub minimal_lower : (s1 : Stored) (r : Result NodeId NodeFault) → Draws (IsHalf (fam lo)) Lower s0 s1 r
      → Draws Q Lower s0 s1 r
  minimal_lower s1 r d = Draws-weaker (IsHalf (fam lo)) Q Lower s0 s1 r
      (λ h x. to_f h (half_lower v (fam lo) (fam hi) i.lo_above i.hi_above h x)) d

  pub minimal_above : (s1 s2 : Stored) (r : Result NodeId NodeFault) → Grows Q s0 s1
      → Draws (IsHalf (family s1 hi)) (minimal (family s1 hi)) s1 s2 r → Draws Q Above s1 s2 r
  minimal_above s1 s2 r a d = Draws-weaker (IsHalf (fam hi)) Q Above s1 s2 r
      (λ h x. to_f h (half_upper v (fam lo) (fam hi) i.lo_above i.hi_above h x))
      (moved Q s0 s1 hi hi a (lt_trans i.hi_before f_in) (lt_trans i.hi_before f_in)
      (λ x y. Draws (IsHalf x) (minimal x) s1 s2 r) d)

  module _ (s1 s2 : Stored) (low up : NodeId) (dl : Draws Q Lower s0 s1 (Ok low))
      (du : Draws Q Above s1 s2 (Ok up)) where
    pub low_in : IsFamilyNumber s2 low.n
    low_in = still Q s1 s2 low.n du.grows dl.ok.0

    -- the upper half: the minimal sets of the upper half that contain none of the lower half
    pub minimal_upper : (s3 : Stored) (r : Result NodeId NodeFault)
        → Draws (IsPartOfBoth (family s2 up.n) (family s2 low.n)) (without (family s2 up.n) (family s2 low.n)) s2 s3 r
        → Draws Q (without Above Lower) s1 s3 r
    minimal_upper s3 r d =
        let low_is = kept Q s1 s2 low.n du.grows dl.ok.0 ∙ dl.ok.1 in
        let e = subst (λ x. Draws (IsPartOfBoth x Lower) (without x Lower) s2 s3 r) du.ok.1
        (subst (λ y. Draws (IsPartOfBoth (family s2 up.n) y) (without (family s2 up.n) y) s2 s3 r) low_is d) in
        Draws-after Q (without Above Lower) s1 s2 s3 r du.grows
        (Draws-weaker (IsPartOfBoth Above Lower) Q (without Above Lower) s2 s3 r
        (λ h x. to_f h (half_parts v (fam lo) (fam hi) i.lo_above i.hi_above i.hi_some h x)) e)
