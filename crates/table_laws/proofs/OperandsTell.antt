-- Lists of operands that are all true, or of which one is true, exactly where something holds.
use Rattle.std.proofs.Common.{◌≡◌, ℕ, zero, suc, ◌⊎◌, inl, inr, List, [], ◌∷◌, ◌++◌, length, refl, sym, ◌∙◌, subst, true}
use Rattle.ar_base.specs.Lists.{Stands, IsOneOf, Along}
use Rattle.ar_base.specs.Lists as l
use Rattle.ar_base.proofs.Standing.{one_cases, one_first, one_rest, one_none, one_left, one_right, one_split}
use Rattle.eq_core.specs.Gates.{Operand, Gate, any_of}
use Rattle.eq_core.specs.Ordered.{AreBelow}
use Rattle.eq_core.specs.Values.{value_at}
use Rattle.eq_core.specs.ValuesInside.{IsBelow, IsTrueWhere, GainsGates, EachTrue, OneTrue}
use Rattle.eq_core.proofs.Telling.{value_kept, below_kept, tells_kept, tells_as, any_tells}
use Rattle.eq_build.specs.Entries.{one_of_alls}
use Rattle.eq_build.proofs.EntriesTell.{OneAll, AllBelow, one_grows}
use Rattle.eq_build.specs.Steps.{Threads, none, one_and}
use Rattle.table_laws.proofs.Growing.{threads_more}

-- operands that are all true exactly where P holds
pub record TellTogether (set : List ℕ) (g : List Gate) (os : List Operand) (P : Type 0) : Type 0 where
  pub below : AreBelow (length g) os
  pub true_so : EachTrue set g os → P
  pub so_true : P → EachTrue set g os

pub together_kept : {set : List ℕ} {g h : List Gate} {os : List Operand} {P : Type 0} → GainsGates g h
    → TellTogether set g os P → TellTogether set h os P
together_kept {set = set} s t = record {
  below = record { each = λ o m. below_kept o s (let b = t.below in b.each o m) };
  true_so = λ e. t.true_so
      (record { each = λ o m. sym (value_kept set o s (let b = t.below in b.each o m)) ∙ e.each o m });
  so_true = λ p. record {
    each = λ o m. value_kept set o s (let b = t.below in b.each o m) ∙ (let e = t.so_true p in e.each o m);
  };
}

pub together_as : {set : List ℕ} {g : List Gate} {os : List Operand} {P Q : Type 0} → (P → Q) → (Q → P)
    → TellTogether set g os P → TellTogether set g os Q
together_as a b t = record { below = t.below; true_so = λ e. a (t.true_so e); so_true = λ q. t.so_true (b q) }

-- no operand
pub nothing_told : {set : List ℕ} {g : List Gate} {P : Type 0} → P → TellTogether set g [] P
nothing_told p = record {
  below = record { each = λ o m. absurd (one_none o m) };
  true_so = λ e. p;
  so_true = λ q. record { each = λ o m. absurd (one_none o m) };
}

-- one operand more at the end
pub together_more : {set : List ℕ} {g : List Gate} {os : List Operand} {o : Operand} {P Q : Type 0}
    → TellTogether set g os P → IsTrueWhere set g o Q → TellTogether set g (os ++ o ∷ []) (P × Q)
together_more {set = set} {g = g} {os = os} {o = o} {P = P} {Q = Q} t u = record {
  below = record {
    each = λ p m. elim (one_split os (o ∷ []) p m) [
      | inl k ↦ (let b = t.below in b.each p k)
      | inr k ↦ elim (one_cases o [] p k) [
        | inl e ↦ subst (λ z. IsBelow (length g) z) e u.below
        | inr n ↦ absurd (one_none p n)
      ]
    ];
  };
  true_so = λ e. (
    t.true_so (record { each = λ p m. e.each p (one_left os (o ∷ []) p m) }),
    u.true_so (e.each o (one_right os (o ∷ []) o (one_first o []))),
  );
  so_true = λ h. record {
    each = λ p m. elim (one_split os (o ∷ []) p m) [
      | inl k ↦ (let e = t.so_true h.0 in e.each p k)
      | inr k ↦ elim (one_cases o [] p k) [
        | inl e ↦ subst (λ z. value_at g z set ≡ true) e (u.so_true h.1)
        | inr n ↦ absurd (one_none p n)
      ]
    ];
  };
}

-- one operand before
pub together_before : {set : List ℕ} {g : List Gate} {os : List Operand} {o : Operand} {P Q : Type 0}
    → IsTrueWhere set g o P → TellTogether set g os Q → TellTogether set g (o ∷ os) (P × Q)
together_before {set = set} {g = g} {os = os} {o = o} u t = record {
  below = record {
    each = λ p m. elim (one_cases o os p m) [
      | inl e ↦ subst (λ z. IsBelow (length g) z) e u.below
      | inr k ↦ (let b = t.below in b.each p k)
    ];
  };
  true_so = λ e. (
    u.true_so (e.each o (one_first o os)),
    t.true_so (record { each = λ p m. e.each p (one_rest o os p m) }),
  );
  so_true = λ h. record {
    each = λ p m. elim (one_cases o os p m) [
      | inl e ↦ subst (λ z. value_at g z set ≡ true) e (u.so_true h.0)
      | inr k ↦ (let e = t.so_true h.1 in e.each p k)
    ];
  };
}

-- one of the operands is true exactly where P holds
pub record TellSome (set : List ℕ) (g : List Gate) (os : List Operand) (P : Type 0) : Type 0 where
  pub below : AreBelow (length g) os
  pub true_so : OneTrue set g os → P
  pub so_true : P → OneTrue set g os

pub some_kept : {set : List ℕ} {g h : List Gate} {os : List Operand} {P : Type 0} → GainsGates g h → TellSome set g os P
    → TellSome set h os P
some_kept {set = set} s t = record {
  below = record { each = λ o m. below_kept o s (let b = t.below in b.each o m) };
  true_so = λ e. t.true_so (record {
    operand = e.operand;
    is_one = e.is_one;
    holds = sym (value_kept set e.operand s (let b = t.below in b.each e.operand e.is_one)) ∙ e.holds;
  });
  so_true = λ p. let e = t.so_true p in record {
    operand = e.operand;
    is_one = e.is_one;
    holds = value_kept set e.operand s (let b = t.below in b.each e.operand e.is_one) ∙ e.holds;
  };
}

pub some_or : {set : List ℕ} {g : List Gate} {os ps : List Operand} {P Q : Type 0} → TellSome set g os P
    → TellSome set g ps Q → TellSome set g (os ++ ps) (P ⊎ Q)
some_or {os = os} {ps = ps} t u = record {
  below = record {
    each = λ o m. elim (one_split os ps o m) [
      | inl k ↦ (let b = t.below in b.each o k)
      | inr k ↦ (let b = u.below in b.each o k)
    ];
  };
  true_so = λ e. elim (one_split os ps e.operand e.is_one) [
    | inl k ↦ inl (t.true_so (record { operand = e.operand; is_one = k; holds = e.holds }))
    | inr k ↦ inr (u.true_so (record { operand = e.operand; is_one = k; holds = e.holds }))
  ];
  so_true = λ h. elim h [
    | inl p ↦ (let e = t.so_true p in
        record { operand = e.operand; is_one = one_left os ps e.operand e.is_one; holds = e.holds })
    | inr q ↦ (let e = u.so_true q in
        record { operand = e.operand; is_one = one_right os ps e.operand e.is_one; holds = e.holds })
  ];
}

pub any_of_some : {set : List ℕ} {g : List Gate} {os : List Operand} {P : Type 0} → TellSome set g os P
    → IsTrueWhere set (any_of g os).gates (any_of g os).operand P
any_of_some {set = set} {g = g} {os = os} t = tells_as t.true_so t.so_true (any_tells set g os t.below)

-- P holds of one of the items
pub record SomeIs {A : Type 0} (P : A → Type 0) (xs : List A) : Type 0 where
  pub item : A
  pub is_one : IsOneOf xs item
  pub has : P item

-- operands that tell of P, each of its item
pub some_along : {A : Type 0} (P : A → Type 0) {set : List ℕ} {g : List Gate} {xs : List A} {os : List Operand}
    → Along (λ a o. IsTrueWhere set g o (P a)) xs os → TellSome set g os (SomeIs P xs)
some_along P l.none = record {
  below = record { each = λ o m. absurd (one_none o m) };
  true_so = λ e. absurd (one_none e.operand e.is_one);
  so_true = λ h. absurd (one_none h.item h.is_one);
}
some_along {A = A} P {set = set} {g = g} (l.one_and {a = a} {b = o} {xs = xs} {ys = os} t c) =
    let r = some_along P c in
    record {
      below = record {
        each = λ p m. elim (one_cases o os p m) [
          | inl e ↦ subst (λ z. IsBelow (length g) z) e t.below
          | inr k ↦ (let b = r.below in b.each p k)
        ];
      };
      true_so = λ e. elim (one_cases o os e.operand e.is_one) [
        | inl i ↦ record {
          item = a;
          is_one = one_first a xs;
          has = t.true_so (subst (λ z. value_at g z set ≡ true) (sym i) e.holds);
        }
        | inr k ↦ (let z = r.true_so (record { operand = e.operand; is_one = k; holds = e.holds }) in
            record { item = z.item; is_one = one_rest a xs z.item z.is_one; has = z.has })
      ];
      so_true = λ h. elim (one_cases a xs h.item h.is_one) [
        | inl i ↦ record { operand = o; is_one = one_first o os; holds = t.so_true (subst P (sym i) h.has) }
        | inr k ↦ (let z = r.so_true (record { item = h.item; is_one = k; has = h.has }) in
            record { operand = z.operand; is_one = one_rest o os z.operand z.is_one; holds = z.holds })
      ];
    }

-- the operands of steps in turn
module _ {A : Type 0} (set : List ℕ) (R : List Gate → A → Operand → List Gate → Type 0)
    (more : (g h : List Gate) (a : A) (o : Operand) → R g a o h → GainsGates g h)
    (Inv : List Gate → Type 0) (kept : (g h : List Gate) → GainsGates g h → Inv g → Inv h) (Ok P : A → Type 0)
    (tell : (g h : List Gate) (a : A) (o : Operand) → Ok a → Inv g → R g a o h → IsTrueWhere set h o (P a)) where
  pub threads_tell : {g h : List Gate} {xs : List A} {os : List Operand} → Threads R g xs os h
      → ((n : ℕ) (a : A) → Stands xs n a → Ok a) → Inv g → Along (λ a o. IsTrueWhere set h o (P a)) xs os
  threads_tell none ok i = l.none
  threads_tell (one_and {g = g} {h = h} {a = a} {b = o} c d) ok i =
      l.one_and (tells_kept (threads_more R more d) (tell g h a o (ok zero a refl) i c))
      (threads_tell d (λ n b s. ok (suc n) b s) (kept g h (more g h a o c) i))

-- one of the lists is true, by what the lists are
pub one_tells : {set : List ℕ} {g : List Gate} {oss : List (List Operand)} {P : Type 0} → AllBelow g oss
    → (OneAll set g oss → P) → (P → OneAll set g oss)
    → IsTrueWhere set (one_of_alls g oss).gates (one_of_alls g oss).operand P
one_tells {set = set} {g = g} {oss = oss} a f k = tells_as f k (one_grows set g oss a).1
