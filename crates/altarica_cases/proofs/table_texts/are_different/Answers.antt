use Rattle.std.proofs.Common.{◌≡◌, ℕ, zero, suc, ◌<◌, Bool, true, not, List, length, get_or, refl, sym, ◌∙◌, arith}
use Rattle.std.specs.Bool.{IsTrue}
use Rattle.std.specs.Str.{bytes_eq}
use Rattle.std.proofs.lemmas.Slice.Eq.{bytes_eq-Decides}
use Rattle.ar_base.specs.Lists.{Stands, AreDifferent}
use Rattle.ar_base.proofs.Standing.{stands_one, stands_within, stands_item}
use Rattle.altarica_cases.proofs.table_texts.are_different.Goals as goal

-- at most one text is different from all others
short : (texts : List (List ℕ)) → length texts < 2 → AreDifferent texts
short texts h = record {
  one = λ m n a s t. let p = stands_within texts m a s in let q = stands_within texts n a t in omega (arith, h, p, q);
}

-- two texts that are not the same are different
two : (texts : List (List ℕ)) (x y : List ℕ) → length texts ≡ 2 → x ≡ get_or texts 0 x → y ≡ get_or texts 1 y
    → (x ≡ y → ⊥) → AreDifferent texts
two texts x y l i j d = record {
  one = λ m n a s t. by m n a s t (stands_within texts m a s)
      (stands_within texts n a t);
}
  where
    first : Stands texts 0 x
    first = stands_item texts 0 x (omega (arith, l)) i

    second : Stands texts 1 y
    second = stands_item texts 1 y (omega (arith, l)) j

    by : (m n : ℕ) (a : List ℕ) → Stands texts m a → Stands texts n a → m < length texts → n < length texts → m ≡ n
    by zero zero a s t p q = refl
    by zero (suc zero) a s t p q = absurd (d (stands_one texts 0 x a first s ∙ stands_one texts 1 a y t second))
    by zero (suc (suc n)) a s t p q = absurd (omega (arith, q, l))
    by (suc zero) zero a s t p q = absurd (d (stands_one texts 0 x a first t ∙ stands_one texts 1 a y s second))
    by (suc zero) (suc zero) a s t p q = refl
    by (suc zero) (suc (suc n)) a s t p q = absurd (omega (arith, q, l))
    by (suc (suc m)) n a s t p q = absurd (omega (arith, p, l))

-- what `!=` says
differ : (xs ys : List ℕ) (r : Bool) → r ≡ not (bytes_eq xs ys) → IsTrue r → xs ≡ ys → ⊥
differ xs ys r e h same = let t : bytes_eq xs ys ≡ true = (bytes_eq-Decides xs ys).1 same in cc

pub returns-then-texts-eq2-clause-different : goal.returns-then-texts-eq2-clause-different
returns-then-texts-eq2-clause-different c = λ h.
    two c.args.texts.now c.index-texts-0.result c.index-texts-1.result (grind (arith, c.if-texts-eq2.true))
    c.index-texts-0.is c.index-texts-1.is
    (λ same. differ c.as_str.result.now c.as_str-then-texts-eq2.result.now c.ne.result c.ne.ensures h
    (c.as_str.ensures ∙ (same ∙ sym c.as_str-then-texts-eq2.ensures)))

pub returns-clause-different : goal.returns-clause-different
returns-clause-different c = λ h. short c.args.texts.now (grind (arith, h))
