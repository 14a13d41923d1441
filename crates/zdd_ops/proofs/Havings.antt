-- The sets with an event, by halves.
use Rattle.std.proofs.Common.{◌≡◌, ℕ, zero, suc, ◌<◌, false, eqb, List, [], Result, refl, sym, ap, ap₂, ◌∙◌, subst, arith, lt_trans}
use Rattle.zdd_nodes.specs.Families.{Family}
use Rattle.zdd_nodes.specs.FamiliesInside.{node, IsAbove, having}
use Rattle.zdd_nodes.specs.Sections.{IsCounted}
use Rattle.zdd_nodes.specs.SectionsInside.{IsMade}
use Rattle.zdd_nodes.proofs.Laws.{having-above, having-here, having-node, IsAbove-having, IsAbove-node}
use Rattle.zdd_nodes.proofs.Sections.{IsCounted-lower, IsCounted-upper}
use Rattle.zdd_nodes.specs.Nodes.{NodeId, Stored, at, family, IsFamilyNumber, IsNode, Grows, Draws}
use Rattle.zdd_nodes.specs.declared.NodeFault.{NodeFault}
use Rattle.zdd_nodes.proofs.Growing.{Draws-weaker, counted_made}
use Rattle.zdd_nodes.proofs.Halved.{Halved, moved}

pub having_small : (fs : List Family) (f e : ℕ) → f < 2 → [] ≡ having (at fs f) e
unfolding having
having_small fs zero e h = refl
having_small fs (suc zero) e h = refl
having_small fs (suc (suc f)) e h = absurd (omega (arith, h))

module _ (s0 : Stored) (f e v lo hi : ℕ) (i : IsNode s0.families f v lo hi) (f_in : IsFamilyNumber s0 f) where
  abbrev fam : ℕ → Family
  fam n = family s0 n

  abbrev Made : Family
  Made = having (fam f) e

  pub having_none : e < v → [] ≡ Made
  having_none l = sym (having-above e (fam f)
      (subst (IsAbove e) (sym i.is) (IsAbove-node e v (fam lo) (fam hi) l i.lo_above i.hi_above)))

  pub having_first : (t : Stored) (r : Result NodeId NodeFault) (none : ℕ) → none ≡ 0 → e ≡ v → (let made = node e (family s0 none) (fam hi) in Draws (IsMade made) made s0 t r) → Draws (IsCounted Made) Made s0 t r
  having_first t r none z q d =
      let m : node e (family s0 none) (fam hi) ≡ Made =
      ap₂ (λ w k. node w (family s0 k) (fam hi)) q z
      ∙ sym (ap (having (fam f)) q ∙ ap (λ x. having x v) i.is ∙ having-here v (fam lo) (fam hi) i.lo_above) in
      Draws-weaker (IsMade Made) (IsCounted Made) Made s0 t r (counted_made Made)
      (subst (λ x. Draws (IsMade x) x s0 t r) m d)

  module _ (other : eqb e v ≡ false) where
    abbrev Lower : Family
    Lower = having (fam lo) e

    abbrev Upper : Family
    Upper = having (fam hi) e

    made_is : Made ≡ node v Lower Upper
    made_is = ap (λ x. having x e) i.is ∙ having-node e v (fam lo) (fam hi) other

    lower_is_above : IsAbove v Lower
    lower_is_above = IsAbove-having v (fam lo) e i.lo_above

    upper_is_above : IsAbove v Upper
    upper_is_above = IsAbove-having v (fam hi) e i.hi_above

    pub having_halved : Halved (IsCounted Made) Made v Lower Upper
    having_halved = record {
      is = made_is;
      lower_above = lower_is_above;
      upper_above = upper_is_above;
      whole = counted_made Made;
    }

    pub having_lower : (s1 : Stored) (r : Result NodeId NodeFault) → Draws (IsCounted Lower) Lower s0 s1 r
        → Draws (IsCounted Made) Lower s0 s1 r
    having_lower s1 r d = Draws-weaker (IsCounted Lower) (IsCounted Made) Lower s0 s1 r
        (λ h x. subst (λ m. IsCounted m h) (sym made_is) (IsCounted-lower v Lower Upper h lower_is_above x)) d

    pub having_upper : (s1 s2 : Stored) (r : Result NodeId NodeFault) → Grows (IsCounted Made) s0 s1
        → (let made = having (family s1 hi) e in Draws (IsCounted made) made s1 s2 r) → Draws (IsCounted Made) Upper s1 s2 r
    having_upper s1 s2 r a d = Draws-weaker (IsCounted Upper) (IsCounted Made) Upper s1 s2 r
        (λ h x. subst (λ m. IsCounted m h) (sym made_is)
        (IsCounted-upper v Lower Upper h lower_is_above upper_is_above x))
        (moved (IsCounted Made) s0 s1 hi hi a (lt_trans i.hi_before f_in) (lt_trans i.hi_before f_in) (λ x y. let made = having x e in Draws (IsCounted made) made s1 s2 r) d)
