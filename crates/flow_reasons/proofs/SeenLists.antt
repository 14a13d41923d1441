-- Variables that were seen.
use Rattle.std.proofs.Common.{◌≡◌, ◌<◌, ◌+◌, inl, inr, ℕ, zero, suc, Bool, true, false, List, [], ◌∷◌, ◌++◌, length, set, get_or, take, if◌then◌else◌, refl, sym, ap, ◌∙◌, subst, arith, length-set, length-append}
use Rattle.std.proofs.lemmas.List.{take_more, map-append}
use Rattle.ar_base.specs.Lists.{Stands, IsOneOf}
use Rattle.ar_base.specs.Numbers.{VarId}
use Rattle.ar_base.proofs.Standing.{at_most, stands_one, stands_none, stands_left, one_none, one_first, only_item}
use Rattle.ar_base.proofs.Sets.{ascends_push}
use Rattle.flow_reasons.specs.Answers.{numbers_of}
use Rattle.flow_propagate.specs.Marks.{AreMarked}
use Rattle.flow_reasons.specs.Cones.{unseen, SeesAll, SeesVariable, AreMembers}
use Rattle.flow_reasons.proofs.Placing.{set_here, set_other, set_back, pushed_cases, pushed_old, pushed_last, ascends_none}

-- nothing more was seen
pub sees_none : (seen : List Bool) (found : List ℕ) → AreMarked seen found → SeesAll [] seen seen found found
sees_none seen found are = record {
  long = refl;
  are = are;
  front = λ j n s. s;
  longer = omega arith;
  each = λ n. (λ o. inl o, λ h. elim h [ inl o ↦ o | inr o ↦ absurd (one_none n o) ]);
  left = refl;
}

-- a variable that was seen before
pub sees_again : (n : ℕ) (seen : List Bool) (found : List ℕ) → AreMarked seen found → Stands seen n true
    → SeesVariable n seen seen found found
sees_again n seen found are s = record {
  long = refl;
  are = are;
  front = λ j m t. t;
  longer = omega arith;
  each = λ m. (
    λ o. inl o,
    λ h. elim h [ inl o ↦ o | inr o ↦ (let e = only_item n m o in subst (λ z. IsOneOf found z) e ((are.each n).1 s)) ],
  );
  left = refl;
}

unseen_set : (seen : List Bool) (n : ℕ) → Stands seen n false → unseen seen ≡ unseen (set seen n true) + 1
unseen_set [] n s = absurd (stands_none n false s)
unseen_set (b ∷ seen) zero s = let e : b ≡ false = cc in subst (λ z. (if z then 0 else 1) + unseen seen ≡ 0 + unseen seen + 1) (sym e) (omega arith)
unseen_set (b ∷ seen) (suc n) s = let h = unseen_set seen n s in omega (arith, h)

-- a variable that was not seen before
pub sees_new : (n : ℕ) (seen : List Bool) (found new : List ℕ) → AreMarked seen found → n < length seen
    → Stands seen n false → new ≡ found ++ n ∷ []
    → SeesVariable n seen (set seen n true) found new
sees_new n seen found new are l s e = subst (λ (z : List ℕ). SeesVariable n seen (set seen n true) found z) (sym e) (record {
  long = length-set seen n true;
  are = record {
    each = λ m. (
      λ o. elim (pushed_cases found n m o) [
        | inl k ↦ seen_more m ((are.each m).0 k)
        | inr i ↦ subst (λ z. Stands (set seen n true) z true) i (set_here seen n true l)
      ],
      λ t. elim (set_back seen n m true true t) [
        | inl i ↦ subst (λ z. IsOneOf (found ++ n ∷ []) z) (sym i.0) (pushed_last found n)
        | inr k ↦ pushed_old found n m ((are.each m).1 k.1)
      ],
    );
  };
  front = λ j m t. stands_left found (n ∷ []) j m t;
  longer = (let k = length-append found (n ∷ []) in omega (arith, k));
  each = λ m. (
    λ o. elim (pushed_cases found n m o)
        [ inl k ↦ inl k | inr i ↦ inr (subst (λ z. IsOneOf (n ∷ []) z) i (one_first n [])) ],
    λ h. elim h [
      | inl k ↦ pushed_old found n m k
      | inr k ↦ subst (λ z. IsOneOf (found ++ n ∷ []) z) (only_item n m k) (pushed_last found n)
    ],
  );
  left = (let k = length-append found (n ∷ []) in let u = unseen_set seen n s in omega (arith, k, u));
})
  where
    seen_more : (m : ℕ) → Stands seen m true → Stands (set seen n true) m true
    seen_more m t = set_other seen n m true true
        (λ i. let k = stands_one seen m true false t (subst (λ z. Stands seen z false) (sym i) s) in cc (k)) t

-- one variable more
pub sees_next : (xs ys : List ℕ) (x : ℕ) (seen next last : List Bool) (found more all : List ℕ) → ys ≡ xs ++ x ∷ []
    → SeesAll xs seen next found more
    → SeesVariable x next last more all → SeesAll ys seen last found all
sees_next xs ys x seen next last found more all e a b =
    subst (λ (z : List ℕ). SeesAll z seen last found all) (sym e) (record {
      long = b.long ∙ a.long;
      are = b.are;
      front = λ j n s. b.front j n (a.front j n s);
      longer = (let k = a.longer in let l = b.longer in omega (arith, k, l));
      each = λ n. (
        λ o. elim ((b.each n).0 o) [
          | inl k ↦ (elim ((a.each n).0 k) [ inl m ↦ inl m | inr m ↦ inr (pushed_old xs x n m) ])
          | inr k ↦ inr (subst (λ z. IsOneOf (xs ++ x ∷ []) z) (only_item x n k) (pushed_last xs x))
        ],
        λ h. elim h [
          | inl k ↦ (b.each n).1 (inl ((a.each n).1 (inl k)))
          | inr k ↦ (elim (pushed_cases xs x n k) [
            | inl m ↦ (b.each n).1 (inl ((a.each n).1 (inr m)))
            | inr i ↦ (b.each n).1 (inr (subst (λ z. IsOneOf (x ∷ []) z) i (one_first x [])))
          ])
        ],
      );
      left = b.left ∙ a.left;
    })

pub numbers_next : (xs : List VarId) (i : ℕ) (d : VarId) → i < length xs
    → numbers_of (take (i + 1) xs) ≡ numbers_of (take i xs) ++ (get_or xs i d).n ∷ []
numbers_next xs i d h = ap numbers_of (take_more xs i d h)
    ∙ map-append (λ (x : VarId). x.n) (take i xs) (get_or xs i d ∷ [])

-- the variables that were seen, by number
pub members_none : (seen : List Bool) (found : List ℕ) → found ≡ [] → AreMembers seen 0 found
members_none seen found e = subst (λ (z : List ℕ). AreMembers seen 0 z) (sym e)
    (record { ascends = ascends_none; each = λ n. (λ o. absurd (one_none n o), λ h. absurd (omega (arith, h.0))) })

pub members_taken : (seen : List Bool) (i : ℕ) (old new : List ℕ) → AreMembers seen i old → Stands seen i true
    → new ≡ old ++ i ∷ [] → AreMembers seen (i + 1) new
members_taken seen i old new h s e = subst (λ (z : List ℕ). AreMembers seen (i + 1) z) (sym e) (record {
  ascends = ascends_push old i h.ascends (λ n o. ((h.each n).0 o).0);
  each = λ n. (
    λ o. elim (pushed_cases old i n o) [
      | inl k ↦ (let r = (h.each n).0 k in (omega (arith, r.0), r.1))
      | inr i' ↦ (omega (arith, i'), subst (λ z. Stands seen z true) i' s)
    ],
    λ q. elim (at_most n i q.0) [
      | inl l ↦ pushed_old old i n ((h.each n).1 (l, q.1))
      | inr j ↦ subst (λ z. IsOneOf (old ++ i ∷ []) z) (sym j) (pushed_last old i)
    ],
  );
})

pub members_left : (seen : List Bool) (i : ℕ) (old : List ℕ) → AreMembers seen i old → Stands seen i false
    → AreMembers seen (i + 1) old
members_left seen i old h s = record {
  ascends = h.ascends;
  each = λ n. (
    λ o. (let r = (h.each n).0 o in (omega (arith, r.0), r.1)),
    λ q. elim (at_most n i q.0) [
      | inl l ↦ (h.each n).1 (l, q.1)
      | inr j ↦ (let k = stands_one seen i true false (subst (λ z. Stands seen z true) j q.1) s in absurd (cc (k)))
    ],
  );
}
