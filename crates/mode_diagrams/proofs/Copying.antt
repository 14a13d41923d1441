-- A family copied half by half.
use Rattle.std.proofs.Common.{◌≡◌, ◌⊎◌, ⊎_elim, inl, inr, ℕ, zero, suc, ◌+◌, ◌<◌, List, [], ◌∷◌, length, replicate, Result, refl, sym, ap, ◌∙◌, subst, arith, set, get_or, length-set}
use Rattle.ar_base.specs.Lists.{Stands}
use Rattle.std.proofs.lemmas.List.{length-replicate}
use Rattle.ar_base.proofs.Standing.{stands_get}
use Rattle.zdd_nodes.specs.Families.{Family}
use Rattle.zdd_nodes.specs.Sections.{IsCounted}
use Rattle.zdd_nodes.proofs.Sections.{IsCounted-lower, IsCounted-upper}
use Rattle.zdd_nodes.specs.Nodes.{NodeId, Stored, family, IsFamilyNumber, IsNode, Grows, Draws}
use Rattle.zdd_nodes.specs.declared.NodeFault.{NodeFault}
use Rattle.zdd_nodes.proofs.Growing.{kept, still, Draws-weaker, counted_made}
use Rattle.zdd_nodes.proofs.Halved.{Halved}
use Rattle.mode_diagrams.specs.Kept.{AreCopied}

module _ (source : Stored) (n event lo hi : ℕ) (k : IsNode source.families n event lo hi) where
  abbrev F : Family
  F = family source n

  pub halved : Halved (IsCounted F) F event (family source lo) (family source hi)
  halved = record {
    is = k.is;
    lower_above = k.lo_above;
    upper_above = k.hi_above;
    whole = λ h m. counted_made F h m;
  }

  pub lower : (s t : Stored) (r : Result NodeId NodeFault) → Draws (IsCounted (family source lo)) (family source lo) s t r
      → Draws (IsCounted F) (family source lo) s t r
  lower s t r d = Draws-weaker (IsCounted (family source lo)) (IsCounted F) (family source lo) s t r
      (λ h c. subst (λ z. IsCounted z h) (sym k.is)
      (IsCounted-lower event (family source lo) (family source hi) h k.lo_above c)) d

  pub upper : (s t : Stored) (r : Result NodeId NodeFault) → Draws (IsCounted (family source hi)) (family source hi) s t r
      → Draws (IsCounted F) (family source hi) s t r
  upper s t r d = Draws-weaker (IsCounted (family source hi)) (IsCounted F) (family source hi) s t r
      (λ h c. subst (λ z. IsCounted z h) (sym k.is)
      (IsCounted-upper event (family source lo) (family source hi) h k.lo_above k.hi_above c)) d

pub copied_grow : (P : Family → Type 0) (source s t : Stored) (cs : List NodeId) → Grows P s t → AreCopied source s cs
    → AreCopied source t cs
copied_grow P source s t cs g a = record {
  long = a.long;
  each = λ k n st. ⊎_elim
      (λ z. inl z)
      (λ y. inr (still P s t n.n g y.0, kept P s t n.n g y.0 ∙ y.1))
      (a.each k n st);
}

set_cases : (cs : List NodeId) (k : ℕ) (n : NodeId) (j : ℕ) (m : NodeId) → Stands (set cs k n) j m
    → Stands cs j m ⊎ ((j ≡ k) × (m ≡ n))
set_cases [] k n j m st = inl st
set_cases (c ∷ cs) zero n zero m st = inr (refl, cc)
set_cases (c ∷ cs) zero n (suc j) m st = inl st
set_cases (c ∷ cs) (suc k) n zero m st = inl st
set_cases (c ∷ cs) (suc k) n (suc j) m st =
    ⊎_elim (λ p. inl p) (λ q. inr (ap suc q.0, q.1)) (set_cases cs k n j m st)

pub copied_set : (source s : Stored) (cs : List NodeId) (k : ℕ) (n : NodeId) → AreCopied source s cs → IsFamilyNumber s n.n
    → family s n.n ≡ family source k → AreCopied source s (set cs k n)
copied_set source s cs k n a h e = record {
  long = length-set cs k n ∙ a.long;
  each = λ j m st. ⊎_elim
      (λ p. a.each j m p)
      (λ q. inr (
        subst (λ (x : NodeId). IsFamilyNumber s x.n) (sym q.1) h,
        ap (λ (x : NodeId). family s x.n) q.1 ∙ e ∙ ap (family source) (sym q.0),
      ))
      (set_cases cs k n j m st);
}

none_copied : (count : ℕ) (z : NodeId) (k : ℕ) (n : NodeId) → Stands (replicate count z) k n → n ≡ z
none_copied zero z k n st = let wrong : ⊥ = cc in absurd wrong
none_copied (suc count) z zero n st = cc
none_copied (suc count) z (suc k) n st = none_copied count z k n st

-- 0 and 1 stand for one family each in every store
pub small_same : (s t : Stored) (n : ℕ) → n < 2 → family s n ≡ family t n
small_same s t zero h = refl
small_same s t (suc zero) h = refl
small_same s t (suc (suc n)) h = absurd (omega (arith, h))

-- the number of a copy
pub known_same : (source s : Stored) (cs : List NodeId) (k : ℕ) (d : NodeId) → IsFamilyNumber source k → AreCopied source s cs
    → ((get_or cs k d).n ≡ 0 → ⊥)
    → IsFamilyNumber s (get_or cs k d).n × (family s (get_or cs k d).n ≡ family source k)
known_same source s cs k d h a some =
    ⊎_elim (λ z. absurd (some z)) (λ y. y)
    (a.each k (get_or cs k d) (stands_get cs k d (omega (arith, h, a.long))))

pub none_are_copied : (source s : Stored) (cs : List NodeId) (z : NodeId) → z.n ≡ 0
    → cs ≡ replicate (length source.families + 2) z → AreCopied source s cs
none_are_copied source s cs z e is = record {
  long = ap length is ∙ length-replicate (length source.families + 2) z;
  each = λ k n st. inl (ap (λ (x : NodeId). x.n) (none_copied (length source.families + 2) z k n
      (subst (λ y. Stands y k n) is st)) ∙ e);
}
