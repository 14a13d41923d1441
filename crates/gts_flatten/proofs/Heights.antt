-- A way is no higher than there are ways, and ways by number that differ in their leaves alone stand for ways that do.
use Rattle.std.proofs.Common.{◌≡◌, ℕ, zero, suc, ◌+◌, ◌<◌, ◌≤◌, Bool, List, [], ◌∷◌, length, refl, sym, ◌∙◌, ap, subst, arith, inl, inr}
use Rattle.std.specs.List.{range_with_len}
use Rattle.ar_base.specs.Lists.{Stands, IsOneOf, AreDifferent, Along}
use Rattle.ar_base.proofs.Standing.{one_here, one_cases, one_none, stands_none, stands_within, along_on}
use Rattle.ar_base.proofs.Few.{few_below}
use Rattle.ar_meaning.specs.Systems.{Tree, Leaf, Joint, Branches, Empty, Branch}
use Rattle.ar_meaning.specs.Image.{Trees_along, leaves, joints, Branches_along, no_branch, branch}
use Rattle.ar_meaning.specs.Numbered.{Body, Acts, Joins, Means_way, leaf, joint, Mean_parts, no_part, part, height, branches_height}
use Rattle.ar_meaning.proofs.OneRun.{means_same}

-- Heights

pub length_range : (a n : ℕ) → length (range_with_len a n) ≡ n
length_range a zero = refl
length_range a (suc n) = ap suc (length_range (a + 1) n)

different_first : (x : ℕ) (xs : List ℕ) → (IsOneOf xs x → ⊥) → AreDifferent xs → AreDifferent (x ∷ xs)
different_first x xs n o = record { one = go }
  where
    go : (i j w : ℕ) → Stands (x ∷ xs) i w → Stands (x ∷ xs) j w → i ≡ j
    go zero zero w p q = refl
    go zero (suc j) w p q = absurd (n (one_here xs j x (q ∙ sym p)))
    go (suc i) zero w p q = absurd (n (one_here xs i x (p ∙ sym q)))
    go (suc i) (suc j) w p q = ap suc (o.one i j w p q)

module _ {L : Type 0} (bodies : List (Body L)) where
  number_within : {n : ℕ} {t : Tree L} → Means_way bodies n t → n < length bodies
  number_within {n = n} (leaf {l = l} s) = stands_within bodies n (Acts l) s
  number_within {n = n} (joint {parts = parts} s m) = stands_within bodies n (Joins parts) s

  -- the number stands for a way that is higher
  record IsHigher (h n : ℕ) : Type 0 where
    way : Tree L
    means : Means_way bodies n way
    higher : h < height way

  -- different numbers, each of a higher way
  record AreHigher (h : ℕ) (above : List ℕ) : Type 0 where
    different : AreDifferent above
    each : (n : ℕ) → IsOneOf above n → IsHigher h n

  few_higher : (h : ℕ) (above : List ℕ) → AreHigher h above → length above ≤ length bodies
  few_higher h above a = few_below (length bodies) above a.different (λ n i. number_within (a.each n i).means)

  lower : (h k : ℕ) (above : List ℕ) → k ≤ h → AreHigher h above → AreHigher k above
  lower h k above l a = record {
    different = a.different;
    each = λ n i. let x = a.each n i in record { way = x.way; means = x.means; higher = (let y = x.higher in omega (arith, y, l)) };
  }

  one_more : (h n : ℕ) (above : List ℕ) (t : Tree L) → Means_way bodies n t → height t ≡ suc h → AreHigher (suc h) above
      → AreHigher h (n ∷ above)
  one_more h n above t m e a = record {
    different = different_first n above (λ i.
        let x = a.each n i in let s : height x.way ≡ height t = ap height (means_same bodies x.means m) in let y = x.higher in omega (arith, e, s, y)) a.different;
    each = λ k i. elim (one_cases n above k i) [
      | inl j ↦ subst (λ (z : ℕ). IsHigher h z) j (record { way = t; means = m; higher = omega (arith, e) })
      | inr j ↦ (let x = a.each k j in record { way = x.way; means = x.means; higher = (let y = x.higher in omega (arith, y)) })
    ];
  }

  mutual
    low : {n : ℕ} {t : Tree L} → Means_way bodies n t → (above : List ℕ) → AreHigher (height t) above
        → height t + length above ≤ length bodies
    low (leaf s) above a = let l = few_higher 0 above a in omega (arith, l)
    low {n = n} (joint {parts = parts} {bs = bs} s m) above a =
        let l = parts_low m (n ∷ above) (branches_height bs) (omega arith)
        (one_more (branches_height bs) n above (Joint bs) (joint s m) refl a) in
        omega (arith, l)

    parts_low : {ps : List (Bool × ℕ)} {bs : Branches L} → Mean_parts bodies ps bs → (above : List ℕ) (h : ℕ)
        → branches_height bs ≤ h → AreHigher h above
        → branches_height bs + length above ≤ length bodies
    parts_low no_part above h l a = let k = few_higher h above a in omega (arith, k)
    parts_low (part {t = t} {bs = bs} w m) above h l a =
        let i = low w above (lower h (height t) above (omega (arith, l)) a) in
        let j = parts_low m above h (omega (arith, l)) a in
        omega (arith, i, j)

  -- a way is no higher than there are ways
  pub height_within : (n : ℕ) (t : Tree L) → Means_way bodies n t → height t ≤ length bodies
  height_within n t m =
      let l = low m [] (record {
        different = record { one = λ i j w p q. absurd (stands_none i w p) };
        each = λ k i. absurd (one_none k i);
      }) in
      omega (arith, l)

-- Ways whose leaves are related

-- the bodies have related transitions or the same parts
pub data Body_along {L M : Type 0} (same : L → M → Type 0) : Body L → Body M → Type 0 where
  acts : {l : L} {m : M} → same l m → Body_along same (Acts l) (Acts m)
  joins : {parts others : List (Bool × ℕ)} → parts ≡ others → Body_along same (Joins parts) (Joins others)

-- a way with related leaves
pub record HasTree {L M : Type 0} (same : L → M → Type 0) (others : List (Body M)) (n : ℕ) (t : Tree L) : Type 0 where
  pub tree : Tree M
  pub means : Means_way others n tree
  pub along : Trees_along same t tree

record HasBranches {L M : Type 0} (same : L → M → Type 0) (others : List (Body M)) (ps : List (Bool × ℕ))
    (bs : Branches L) : Type 0 where
  branches : Branches M
  mean : Mean_parts others ps branches
  along : Branches_along same bs branches

module _ {L M : Type 0} (same : L → M → Type 0) (bodies : List (Body L)) (others : List (Body M))
    (are : Along (Body_along same) bodies others) where
  acts_there : (n : ℕ) (l : L) (b : Body M) → Stands others n b → Body_along same (Acts l) b
      → HasTree same others n (Leaf l)
  acts_there n l b s (acts {m = m} k) = record { tree = Leaf m; means = leaf s; along = leaves k }

  joins_there : (n : ℕ) (ps : List (Bool × ℕ)) (bs : Branches L) (b : Body M) → Stands others n b
      → HasBranches same others ps bs → Body_along same (Joins ps) b → HasTree same others n (Joint bs)
  joins_there n ps bs b s h (joins {others = qs} e) =
      record {
        tree = Joint h.branches;
        means = joint s
            (subst (λ (z : List (Bool × ℕ)). Mean_parts others z h.branches) e h.mean);
        along = joints h.along;
      }

  mutual
    pub tree_there : {n : ℕ} {t : Tree L} → Means_way bodies n t → HasTree same others n t
    tree_there {n = n} (leaf {l = l} s) = let o = along_on bodies others are n (Acts l) s in acts_there n l o.0 o.1 o.2
    tree_there {n = n} (joint {parts = ps} {bs = bs} s m) =
        let o = along_on bodies others are n (Joins ps) s in
        let h = branches_there m in
        joins_there n ps bs o.0 o.1 h o.2

    branches_there : {ps : List (Bool × ℕ)} {bs : Branches L} → Mean_parts bodies ps bs → HasBranches same others ps bs
    branches_there no_part = record { branches = Empty; mean = no_part; along = no_branch }
    branches_there (part {must = must} w m) =
        let x = tree_there w in let y = branches_there m in
        record { branches = Branch must x.tree y.branches; mean = part x.means y.mean; along = branch x.along y.along }
