-- What is left of a family where sets of no account are dropped.
use Rattle.std.proofs.Common.{◌≡◌, ℕ, zero, suc, ◌+◌, ◌<◌, ◌≤◌, List, [], length, Result, refl, sym, ap, ap₂, ◌∙◌, subst, arith}
use Rattle.zdd_nodes.specs.Families.{Family, without}
use Rattle.zdd_nodes.specs.FamiliesInside.{node, IsAbove, meet, minus}
use Rattle.zdd_nodes.specs.Sections.{IsPartOfBoth, IsCounted}
use Rattle.zdd_nodes.proofs.Laws.{meet-node, minus-node, without-node, nil-meet, meet-nil, nil-minus, nil-without}
use Rattle.zdd_nodes.proofs.Sections.{IsPart-00}
use Rattle.zdd_nodes.specs.Nodes.{NodeId, Stored, family, at, IsNode, Draws}
use Rattle.zdd_nodes.specs.declared.NodeFault.{NodeFault}
use Rattle.zdd_nodes.proofs.Growing.{Draws-weaker}
use Rattle.zdd_ops.specs.declared.cut.Operands.{Operands}
use Rattle.zdd_ops.specs.declared.memo.Join.{Join}
use Rattle.zdd_ops.specs.declared.memo.Join.TheVariants.{Meet, Minus}
use Rattle.zdd_ops.specs.Operations.{join_of}
use Rattle.zdd_ops.specs.Cuts.{IsLower, IsLeftOf, ArePassed}
use Rattle.zdd_ops.specs.Cuts.IsLower.{whole, half}

-- numbers that come to less than those of f and of what is left come to less than those of both
pub falls_left : (m f r g t : ℕ) → m < f + r → r ≤ g → f + g ≡ t → m < t
falls_left m f r g t h l e = omega arith

pub falls_both : (m k r f g t : ℕ) → m < k + r → k ≤ f → r ≤ g → f + g ≡ t → m < t
falls_both m k r f g t h l n e = omega arith

pub falls_to : (m n t : ℕ) → m < n → n ≡ t → m < t
falls_to m n t h e = omega arith

-- ---- the operations
pub without_lower : (f g r : Family) → IsLower f g r → without f g ≡ without f r
without_lower f g r whole = refl
without_lower f g r (half v lo hi a b c rest) =
    without_lower f g (node v lo hi) rest ∙ without-node v f [] lo hi a b c
    ∙ ap (node v (without f lo)) (ap₂ meet (nil-without lo) (nil-without hi) ∙ nil-meet [])

pub minus_lower : (f g r : Family) → IsLower f g r → minus f g ≡ minus f r
minus_lower f g r whole = refl
minus_lower f g r (half v lo hi a b c rest) =
    minus_lower f g (node v lo hi) rest ∙ minus-node v f [] lo hi a b ∙ ap (node v (minus f lo)) (nil-minus hi)

pub meet_lower : (f g r : Family) → IsLower f g r → meet f g ≡ meet f r
meet_lower f g r whole = refl
meet_lower f g r (half v lo hi a b c rest) =
    meet_lower f g (node v lo hi) rest ∙ meet-node v f [] lo hi a b ∙ ap (node v (meet f lo)) (nil-meet hi)

pub lower_meet : (f g r : Family) → IsLower f g r → meet g f ≡ meet r f
lower_meet f g r whole = refl
lower_meet f g r (half v lo hi a b c rest) =
    lower_meet f g (node v lo hi) rest ∙ meet-node v lo hi f [] b a ∙ ap (node v (meet lo f)) (meet-nil hi)

-- a part of f and what is left of g is one of f and g
pub part_lower : (f g r h : Family) → IsLower f g r → IsPartOfBoth f r h → IsPartOfBoth f g h
part_lower f g r h whole p = p
part_lower f g r h (half v lo hi a b c rest) p =
    part_lower f g (node v lo hi) h rest (IsPart-00 v f [] lo hi h a tt b c p)

-- the sets without those of what is left
pub without_passed : (s t : Stored) (f g r : ℕ) (result : Result NodeId NodeFault) → IsLeftOf s.families f g r
    → Draws (IsPartOfBoth (family s f) (family s r)) (without (family s f) (family s r)) s t result
    → Draws (IsPartOfBoth (family s f) (family s g)) (without (family s f) (family s g)) s t result
without_passed s t f g r result p d =
    subst (λ m. Draws (IsPartOfBoth (family s f) (family s g)) m s t result)
    (sym (without_lower (family s f) (family s g) (family s r) p.lower))
    (Draws-weaker (IsPartOfBoth (family s f) (family s r)) (IsPartOfBoth (family s f) (family s g))
    (without (family s f) (family s r)) s t result
    (λ h x. part_lower (family s f) (family s g) (family s r) h p.lower x) d)

-- ---- the numbers
pub passed_none : (fs : List Family) (f g : ℕ) → g < length fs + 2 → IsLeftOf fs f g g
passed_none fs f g h = record { left_in = h; no_more = omega arith; lower = whole }

-- one more lower half
pub passed_half : (fs : List Family) (f g event lo hi : ℕ) → g < length fs + 2 → IsNode fs g event lo hi
    → IsAbove event (at fs f) → IsLeftOf fs f g lo
passed_half fs f g event lo hi h i a = record {
  left_in = omega (arith, h, i.lo_before);
  no_more = omega (arith, i.lo_before);
  lower = half event (at fs lo) (at fs hi) a i.lo_above i.hi_above (subst (IsLower (at fs f) (at fs g)) i.is whole);
}

lower_then : (f g r q : Family) → IsLower f g r → IsLower f r q → IsLower f g q
lower_then f g r q a whole = a
lower_then f g r q a (half v lo hi b c d rest) = half v lo hi b c d (lower_then f g r (node v lo hi) a rest)

pub passed_then : (fs : List Family) (f g r q : ℕ) → IsLeftOf fs f g r → IsLeftOf fs f r q → IsLeftOf fs f g q
passed_then fs f g r q a b = record {
  left_in = b.left_in;
  no_more = omega (arith, a.no_more, b.no_more);
  lower = lower_then (at fs f) (at fs g) (at fs r) (at fs q) a.lower b.lower;
}

-- 0 and 1 lie above every event
pub above_small : (fs : List Family) (v n : ℕ) → n < 2 → IsAbove v (at fs n)
above_small fs v zero h = tt
above_small fs v (suc zero) h = (tt, tt)
above_small fs v (suc (suc n)) h = absurd (omega (arith, h))

-- ---- both families
pub both_second : (fs : List Family) (f g : ℕ) (left : Operands) (lower : NodeId) → ArePassed fs Meet f g left
    → IsLeftOf fs left.f.n left.g.n lower.n → ArePassed fs Meet f g (record { f = left.f; g = lower })
both_second fs f g left lower a p = record {
  f_in = a.f_in;
  g_in = p.left_in;
  f_no_more = a.f_no_more;
  g_no_more = omega (arith, a.g_no_more, p.no_more);
  same = a.same ∙ meet_lower (at fs left.f.n) (at fs left.g.n) (at fs lower.n) p.lower;
}

pub both_first : (fs : List Family) (f g : ℕ) (left : Operands) (lower : NodeId) → ArePassed fs Meet f g left
    → IsLeftOf fs left.g.n left.f.n lower.n → ArePassed fs Meet f g (record { f = lower; g = left.g })
both_first fs f g left lower a p = record {
  f_in = p.left_in;
  g_in = a.g_in;
  f_no_more = omega (arith, a.f_no_more, p.no_more);
  g_no_more = a.g_no_more;
  same = a.same ∙ lower_meet (at fs left.g.n) (at fs left.f.n) (at fs lower.n) p.lower;
}

pub minus_second : (fs : List Family) (f g lower : NodeId) → f.n < length fs + 2 → IsLeftOf fs f.n g.n lower.n
    → ArePassed fs Minus f.n g.n (record { f = f; g = lower })
minus_second fs f g lower h p = record {
  f_in = h;
  g_in = p.left_in;
  f_no_more = omega arith;
  g_no_more = p.no_more;
  same = minus_lower (at fs f.n) (at fs g.n) (at fs lower.n) p.lower;
}

-- a join of what is left
pub join_passed : (s t : Stored) (j : Join) (f g : ℕ) (left : Operands) (result : Result NodeId NodeFault)
    → ArePassed s.families j f g left
    → (let made = join_of j (family s left.f.n) (family s left.g.n) in Draws (IsCounted made) made s t result)
    → (let made = join_of j (family s f) (family s g) in Draws (IsCounted made) made s t result)
join_passed s t j f g left result p d = subst (λ m. Draws (IsCounted m) m s t result) (sym p.same) d
