-- The sets that contain no set of another family, by halves.
use Rattle.std.proofs.Common.{◌≡◌, ℕ, Result, Ok, sym, ap₂, ◌∙◌, subst}
use Rattle.zdd_nodes.specs.Families.{Family, without}
use Rattle.zdd_nodes.specs.FamiliesInside.{node, IsAbove, meet}
use Rattle.zdd_nodes.specs.Sections.{IsCounted, IsPartOfBoth}
use Rattle.zdd_nodes.proofs.Laws.{without-node, IsAbove-without, IsAbove-meet}
use Rattle.zdd_nodes.proofs.Sections.{IsCounted-upper, IsPart-00, IsPart-10, IsPart-11, IsPart-whole}
use Rattle.zdd_nodes.specs.Nodes.{NodeId, Stored, family, IsFamilyNumber, Grows, Draws}
use Rattle.zdd_nodes.specs.declared.NodeFault.{NodeFault}
use Rattle.zdd_nodes.proofs.Growing.{Grows-then, kept, still, Draws-weaker, Draws-after, counted_made}
use Rattle.zdd_nodes.proofs.Halved.{Halved, moved}
use Rattle.zdd_ops.specs.declared.cut.Cut.{Cut}
use Rattle.zdd_ops.specs.Cuts.{AreCofactors}

module _ (s0 : Stored) (f g : ℕ) (cut : Cut) (c : AreCofactors s0.families f g cut) where
  abbrev fam : ℕ → Family
  fam n = family s0 n

  abbrev Q : Family → Type 0
  Q = IsPartOfBoth (fam f) (fam g)

  abbrev Made : Family
  Made = without (fam f) (fam g)

  abbrev Lower : Family
  Lower = without (fam cut.f0.n) (fam cut.g0.n)

  abbrev First : Family
  First = without (fam cut.f1.n) (fam cut.g0.n)

  abbrev Second : Family
  Second = without (fam cut.f1.n) (fam cut.g1.n)

  made_is : Made ≡ node cut.event.n Lower (meet First Second)
  made_is = ap₂ without c.f_is c.g_is
      ∙ without-node cut.event.n (fam cut.f0.n) (fam cut.f1.n) (fam cut.g0.n) (fam cut.g1.n) c.f0_above c.g0_above
      c.g1_above

  lower_is_above : IsAbove cut.event.n Lower
  lower_is_above = IsAbove-without cut.event.n (fam cut.f0.n) (fam cut.g0.n) c.f0_above

  upper_is_above : IsAbove cut.event.n (meet First Second)
  upper_is_above = IsAbove-meet cut.event.n First Second
      (IsAbove-without cut.event.n (fam cut.f1.n) (fam cut.g0.n) c.f1_above)

  at_whole : (h : Family) → IsPartOfBoth (node cut.event.n (fam cut.f0.n) (fam cut.f1.n))
      (node cut.event.n (fam cut.g0.n) (fam cut.g1.n)) h → Q h
  at_whole h x = subst (λ m. IsPartOfBoth (fam f) m h) (sym c.g_is)
      (subst (λ m. IsPartOfBoth m (node cut.event.n (fam cut.g0.n) (fam cut.g1.n)) h) (sym c.f_is) x)

  pub without_halved : Halved Q Made cut.event.n Lower (meet First Second)
  without_halved = record {
    is = made_is;
    lower_above = lower_is_above;
    upper_above = upper_is_above;
    whole = λ h x. IsPart-whole (fam f) (fam g) h (counted_made Made h x);
  }

  -- the operation is asked for two numbers of the store s
  abbrev Asked : Stored → Stored → ℕ → ℕ → Result NodeId NodeFault → Type 0
  Asked s t x y r = Draws (IsPartOfBoth (family s x) (family s y)) (without (family s x) (family s y)) s t r

  pub without_lower : (s1 : Stored) (r : Result NodeId NodeFault) → Asked s0 s1 cut.f0.n cut.g0.n r
      → Draws Q Lower s0 s1 r
  without_lower s1 r d = Draws-weaker (IsPartOfBoth (fam cut.f0.n) (fam cut.g0.n)) Q Lower s0 s1 r
      (λ h x. at_whole h (IsPart-00 cut.event.n _ _ _ _ h c.f0_above c.f1_above c.g0_above c.g1_above x)) d

  pub without_first : (s1 s2 : Stored) (r : Result NodeId NodeFault) → Grows Q s0 s1 → Asked s1 s2 cut.f1.n cut.g0.n r
      → Draws Q First s1 s2 r
  without_first s1 s2 r a d = Draws-weaker (IsPartOfBoth (fam cut.f1.n) (fam cut.g0.n)) Q First s1 s2 r
      (λ h x. at_whole h (IsPart-10 cut.event.n _ _ _ _ h c.f0_above c.f1_above c.g0_above c.g1_above x))
      (moved Q s0 s1 cut.f1.n cut.g0.n a c.f1_in c.g0_in (λ x y. Draws (IsPartOfBoth x y) (without x y) s1 s2 r) d)

  pub without_second : (s1 s2 : Stored) (r : Result NodeId NodeFault) → Grows Q s0 s1 → Asked s1 s2 cut.f1.n cut.g1.n r
      → Draws Q Second s1 s2 r
  without_second s1 s2 r a d = Draws-weaker (IsPartOfBoth (fam cut.f1.n) (fam cut.g1.n)) Q Second s1 s2 r
      (λ h x. at_whole h (IsPart-11 cut.event.n _ _ _ _ h c.f0_above c.f1_above c.g0_above c.g1_above x))
      (moved Q s0 s1 cut.f1.n cut.g1.n a c.f1_in c.g1_in (λ x y. Draws (IsPartOfBoth x y) (without x y) s1 s2 r) d)

  in_meet : (h : Family) → IsCounted (meet First Second) h → Q h
  in_meet h x = IsPart-whole (fam f) (fam g) h
      (subst (λ m. IsCounted m h) (sym made_is)
      (IsCounted-upper cut.event.n Lower (meet First Second) h lower_is_above upper_is_above x))

  module _ (s1 s2 s3 : Stored) (a b : NodeId) (da : Draws Q First s1 s2 (Ok a)) (db : Draws Q Second s2 s3 (Ok b)) where
    pub first_in : IsFamilyNumber s3 a.n
    first_in = still Q s2 s3 a.n db.grows da.ok.0

    -- the upper half: the meet of the first and the second
    pub without_upper : (s4 : Stored) (r : Result NodeId NodeFault) → (let made = meet (family s3 a.n) (family s3 b.n) in Draws (IsCounted made) made s3 s4 r) → Draws Q (meet First Second) s1 s4 r
    without_upper s4 r d =
        let e = ap₂ meet (kept Q s2 s3 a.n db.grows da.ok.0 ∙ da.ok.1) db.ok.1 in
        Draws-after Q (meet First Second) s1 s3 s4 r (Grows-then Q s1 s2 s3 da.grows db.grows)
        (Draws-weaker (IsCounted (meet First Second)) Q (meet First Second) s3 s4 r in_meet
        (subst (λ m. Draws (IsCounted m) m s3 s4 r) e d))
