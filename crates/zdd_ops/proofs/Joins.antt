-- The joins by halves.
use Rattle.std.proofs.Common.{◌≡◌, ℕ, [], Result, sym, ap, ap₂, ◌∙◌, subst, arith, ⊎_elim, ◌⊎◌}
use Rattle.zdd_nodes.specs.Families.{Family, without}
use Rattle.zdd_nodes.specs.FamiliesInside.{node, IsAbove, union, meet, minus}
use Rattle.zdd_nodes.specs.Sections.{IsCounted}
use Rattle.zdd_nodes.proofs.Laws.{union-node, meet-node, minus-node, IsAbove-union, IsAbove-meet, IsAbove-minus, union-nil, union-self, meet-self, meet-nil, nil-meet, minus-nil, nil-minus, minus-self, nil-without, without-nil, without-self}
use Rattle.zdd_nodes.proofs.Sections.{IsCounted-lower, IsCounted-upper}
use Rattle.zdd_nodes.specs.Nodes.{NodeId, Stored, at, family, Grows, Draws}
use Rattle.zdd_nodes.specs.declared.NodeFault.{NodeFault}
use Rattle.zdd_nodes.proofs.Growing.{Draws-weaker, counted_made}
use Rattle.zdd_nodes.proofs.Halved.{Halved, moved}
use Rattle.zdd_ops.specs.declared.memo.Join.{Join}
use Rattle.zdd_ops.specs.declared.memo.Join.TheVariants.{Union, Meet, Minus}
use Rattle.zdd_ops.specs.declared.cut.Cut.{Cut}
use Rattle.zdd_ops.specs.Cuts.{AreCofactors}
use Rattle.zdd_ops.specs.Operations.{join_of, IsKnownResult}

join-halves : (j : Join) (v : ℕ) (f0 f1 g0 g1 : Family) → IsAbove v f0 → IsAbove v g0
    → join_of j (node v f0 f1) (node v g0 g1) ≡ node v (join_of j f0 g0) (join_of j f1 g1)
join-halves Union v f0 f1 g0 g1 a b = union-node v f0 f1 g0 g1 a b
join-halves Meet v f0 f1 g0 g1 a b = meet-node v f0 f1 g0 g1 a b
join-halves Minus v f0 f1 g0 g1 a b = minus-node v f0 f1 g0 g1 a b

join-above : (j : Join) (v : ℕ) (f g : Family) → IsAbove v f → IsAbove v g → IsAbove v (join_of j f g)
join-above Union v f g a b = IsAbove-union v f g a b
join-above Meet v f g a b = IsAbove-meet v f g a
join-above Minus v f g a b = IsAbove-minus v f g a

-- a join of two numbers of the store s0 that are cut
module _ (j : Join) (s0 : Stored) (f g : ℕ) (cut : Cut) (c : AreCofactors s0.families f g cut) where
  abbrev fam : ℕ → Family
  fam n = family s0 n

  abbrev Made : Family
  Made = join_of j (fam f) (fam g)

  abbrev Lower : Family
  Lower = join_of j (fam cut.f0.n) (fam cut.g0.n)

  abbrev Upper : Family
  Upper = join_of j (fam cut.f1.n) (fam cut.g1.n)

  made_is : Made ≡ node cut.event.n Lower Upper
  made_is = ap₂ (join_of j) c.f_is c.g_is
      ∙ join-halves j cut.event.n (fam cut.f0.n) (fam cut.f1.n) (fam cut.g0.n) (fam cut.g1.n) c.f0_above c.g0_above

  lower_is_above : IsAbove cut.event.n Lower
  lower_is_above = join-above j cut.event.n (fam cut.f0.n) (fam cut.g0.n) c.f0_above c.g0_above

  upper_is_above : IsAbove cut.event.n Upper
  upper_is_above = join-above j cut.event.n (fam cut.f1.n) (fam cut.g1.n) c.f1_above c.g1_above

  pub join_halved : Halved (IsCounted Made) Made cut.event.n Lower Upper
  join_halved = record {
    is = made_is;
    lower_above = lower_is_above;
    upper_above = upper_is_above;
    whole = counted_made Made;
  }

  pub join_lower : (s1 : Stored) (r : Result NodeId NodeFault) → Draws (IsCounted Lower) Lower s0 s1 r
      → Draws (IsCounted Made) Lower s0 s1 r
  join_lower s1 r d = Draws-weaker (IsCounted Lower) (IsCounted Made) Lower s0 s1 r
      (λ h x. subst (λ m. IsCounted m h) (sym made_is) (IsCounted-lower cut.event.n Lower Upper h lower_is_above x)) d

  pub join_upper : (s1 s2 : Stored) (r : Result NodeId NodeFault) → Grows (IsCounted Made) s0 s1
      → (let made = join_of j (family s1 cut.f1.n) (family s1 cut.g1.n) in Draws (IsCounted made) made s1 s2 r) → Draws (IsCounted Made) Upper s1 s2 r
  join_upper s1 s2 r a d = Draws-weaker (IsCounted Upper) (IsCounted Made) Upper s1 s2 r
      (λ h x. subst (λ m. IsCounted m h) (sym made_is)
      (IsCounted-upper cut.event.n Lower Upper h lower_is_above upper_is_above x))
      (moved (IsCounted Made) s0 s1 cut.f1.n cut.g1.n a c.f1_in c.g1_in (λ x y. let made = join_of j x y in Draws (IsCounted made) made s1 s2 r) d)

-- ---- what is known at once
nil_union : (x y : Family) → x ≡ [] → y ≡ union x y
unfolding union
nil_union x y e = ap (λ w. union w y) (sym e)

pub union_g : (f g : ℕ) → (f ≡ 0) ⊎ (f ≡ g) → IsKnownResult union f g g
union_g f g e fs h l = (
  l,
  ⊎_elim
      (λ a. nil_union (at fs f) (at fs g) (ap (at fs) a))
      (λ a. sym (ap (λ x. union x (at fs g)) (ap (at fs) a) ∙ union-self (at fs g))) e,
)

pub union_f : (f g : ℕ) → g ≡ 0 → IsKnownResult union f g f
union_f f g e fs h l = (h, sym (ap (union (at fs f)) (ap (at fs) e) ∙ union-nil (at fs f)))

pub meet_none : (f g n : ℕ) → n ≡ 0 → (f ≡ 0) ⊎ (g ≡ 0) → IsKnownResult meet f g n
meet_none f g n z e fs h l = (
  omega arith,
  ap (at fs) z ∙ ⊎_elim
      (λ a. sym (ap (λ x. meet x (at fs g)) (ap (at fs) a) ∙ nil-meet (at fs g)))
      (λ a. sym (ap (meet (at fs f)) (ap (at fs) a) ∙ meet-nil (at fs f))) e,
)

pub meet_f : (f g : ℕ) → f ≡ g → IsKnownResult meet f g f
meet_f f g e fs h l = (h, sym (ap (meet (at fs f)) (ap (at fs) (sym e)) ∙ meet-self (at fs f)))

pub minus_none : (f g n : ℕ) → n ≡ 0 → (f ≡ 0) ⊎ (f ≡ g) → IsKnownResult minus f g n
minus_none f g n z e fs h l = (
  omega arith,
  ap (at fs) z ∙ ⊎_elim
      (λ a. sym (ap (λ x. minus x (at fs g)) (ap (at fs) a) ∙ nil-minus (at fs g)))
      (λ a. sym (ap (minus (at fs f)) (ap (at fs) (sym a)) ∙ minus-self (at fs f))) e,
)

pub minus_f : (f g : ℕ) → g ≡ 0 → IsKnownResult minus f g f
minus_f f g e fs h l = (h, sym (ap (minus (at fs f)) (ap (at fs) e) ∙ minus-nil (at fs f)))

pub without_f : (f g : ℕ) → (f ≡ 0) ⊎ (g ≡ 0) → IsKnownResult without f g f
without_f f g e fs h l = (
  h,
  ⊎_elim
      (λ a. ap (at fs) a ∙ sym (ap (λ y. without y (at fs g)) (ap (at fs) a) ∙ nil-without (at fs g)))
      (λ a. sym (ap (without (at fs f)) (ap (at fs) a) ∙ without-nil (at fs f))) e,
)

pub without_none : (f g n : ℕ) → n ≡ 0 → f ≡ g → IsKnownResult without f g n
without_none f g n z e fs h l = (
  omega arith,
  ap (at fs) z
      ∙ sym (ap (without (at fs f)) (ap (at fs) (sym e)) ∙ without-self (at fs f)),
)
