-- Expressions that name and are of kinds as they are to become expressions of their kinds.
use Rattle.std.proofs.Common.{◌≡◌, ℕ, ◌<◌, ◌⊎◌, inl, inr, Bool, true, false, List, [], ◌∷◌, length, Option, Some, None, Box, Vec, Global, refl, sym, subst, arith}
use Rattle.ar_base.specs.Lists.{IsOneOf}
use Rattle.ar_base.specs.declared.places.Place.{Place}
use Rattle.ar_base.proofs.Standing.{one_first, one_rest}
use Rattle.ar_syntax.specs.declared.expressions.RawExpr.{RawExpr}
use Rattle.ar_syntax.specs.declared.expressions.RawForm.TheOpen as raw
use Rattle.ar_syntax.specs.declared.expressions.RawRelation.{RawRelation}
use Rattle.ar_syntax.specs.declared.expressions.RawRelation.TheVariants as written
use Rattle.ar_syntax.specs.declared.paths.Path.{Path}
use Rattle.typed_expr.specs.Yields.{Level}
use Rattle.typed_expr.specs.Kinds.{Compares, HasKind, Each, Each_part, Each_case}
use Rattle.typed_expr.specs.Kinds as kind
use Rattle.typed_expr.specs.declared.expr.Expr.{Expr, out-Expr}
use Rattle.typed_expr.specs.declared.expr.Expr.TheOpen as form
use Rattle.typed_expr.specs.declared.expr.ValueKind.{ValueKind}
use Rattle.typed_expr.specs.declared.expr.ValueKind.TheVariants.{Truth, Whole, Symbol}
use Rattle.written_forms.specs.Operands.{RawLevel, level_of, AnyKind, OfKind, Like, OperandOfKind, wanting, each_wanting, first_branch, is_equality, sides_by, operands_of, HasOperands, PathIn}
use Rattle.written_forms.specs.Operands as in_form
use Rattle.written_forms.specs.Forms.{own_kind, HasForm}
use Rattle.written_forms.specs.Forms as of_form
use Rattle.written_forms.specs.Wrong.{IsWantedKind, this, that_of, IsMisnamed, IsMistyped}
use Rattle.written_forms.specs.WrongInside.{NamesKind, IsNamedPath}
use Rattle.written_forms.specs.Wrong as wrong
use Rattle.written_forms.specs.Translating.{Becomes, All_become, Parts_become, Cases_become}
use Rattle.written_forms.specs.Relations.{relation_of}
use Rattle.written_forms.specs.Translating as t
use Rattle.written_forms.proofs.FullForms.{IsFull, full, full_whole}
use Rattle.written_forms.proofs.KindsFound.{one_form, one_named}
use Rattle.written_forms.proofs.OperandLists.{mapped_one, test_one, branch_one, other_one, first_one}

pub same_kind : (j k : ValueKind) → (j ≡ k) ⊎ (j ≡ k → ⊥)
same_kind Truth Truth = inl refl
same_kind Truth Whole = inr (λ e. cc)
same_kind Truth Symbol = inr (λ e. cc)
same_kind Whole Truth = inr (λ e. cc)
same_kind Whole Whole = inl refl
same_kind Whole Symbol = inr (λ e. cc)
same_kind Symbol Truth = inr (λ e. cc)
same_kind Symbol Whole = inr (λ e. cc)
same_kind Symbol Symbol = inl refl

one_way : (b : Bool) → (b ≡ true) ⊎ (b ≡ false)
one_way true = inl refl
one_way false = inr refl

-- Right expressions

-- no operand has a wrong kind, the form is no real, each path names something, and no list is empty
record Right (kinds : Path → Option ValueKind) (l : RawLevel) : Type 0 where
  is_full : IsFull l
  named : (p : Path) → PathIn p l → IsNamedPath kinds p
  right : (o : OperandOfKind) → IsOneOf (operands_of l) o → (at : Place)
      → IsMistyped (NamesKind kinds) o.demand o.written at → ⊥
  no_real : l ≡ raw.Real → ⊥

operands_full : {l : RawLevel} → IsFull l → HasOperands l
operands_full (full h f) = h

operand_full : {l : RawLevel} → IsFull l → (o : OperandOfKind) → IsOneOf (operands_of l) o → IsFull (level_of o.written)
operand_full (full h f) o i = f o i

module _ (kinds : Path → Option ValueKind) where
  operand_right : {l : RawLevel} → Right kinds l → (o : OperandOfKind) → IsOneOf (operands_of l) o
      → Right kinds (level_of o.written)
  operand_right g o i = record {
    is_full = operand_full g.is_full o i;
    named = λ p h. g.named p (in_form.inside o i h);
    right = λ q j at m. g.right o i at (wrong.inside q j m);
    no_real = λ e. g.right o i o.written.at (wrong.real e);
  }

  -- the expression has a kind by its form
  some_form : (l : RawLevel) → IsFull l → ((p : Path) → PathIn p l → IsNamedPath kinds p)
      → (j : ValueKind) × HasForm (NamesKind kinds) l j
  some_form (raw.Truth b) (full h f) named = (Truth, of_form.own refl)
  some_form (raw.Whole n) (full h f) named = (Whole, of_form.own refl)
  some_form raw.Real (full h f) named = (Whole, of_form.own refl)
  some_form (raw.Path p) (full h f) named = let n = named p in_form.itself in (n.0, of_form.path n.1)
  some_form (raw.Not a) (full h f) named = (Truth, of_form.own refl)
  some_form (raw.Minus a) (full h f) named = (Whole, of_form.own refl)
  some_form (raw.All es) (full h f) named = (Truth, of_form.own refl)
  some_form (raw.Any es) (full h f) named = (Truth, of_form.own refl)
  some_form (raw.Compare r a b) (full h f) named = (Truth, of_form.own refl)
  some_form (raw.Sum parts) (full h f) named = (Whole, of_form.own refl)
  some_form (raw.Product es) (full h f) named = (Whole, of_form.own refl)
  some_form (raw.Least es) (full h f) named = (Whole, of_form.own refl)
  some_form (raw.Greatest es) (full h f) named = (Whole, of_form.own refl)
  some_form (raw.Count es) (full h f) named = (Whole, of_form.own refl)
  some_form (raw.Choose cases other) (full h f) named =
      let first = first_branch cases.items other.value in
      let o = wanting (Like first) first in
      let i = first_one cases.items other.value in
      let j = some_form (level_of first) (f o i) (λ p k. named p (in_form.inside o i k)) in
      (j.0, of_form.choice j.1)

  -- an operand has the kind that is wanted of it
  wanted_form : {l : RawLevel} → Right kinds l → (o : OperandOfKind) → IsOneOf (operands_of l) o → (want : ValueKind)
      → IsWantedKind (NamesKind kinds) o.demand want
      → HasForm (NamesKind kinds) (level_of o.written) want
  wanted_form g o i want w =
      let r = operand_right g o i in
      let f = some_form (level_of o.written) r.is_full r.named in
      elim (same_kind f.0 want) [
        | inl e ↦ subst (λ (z : ValueKind). HasForm (NamesKind kinds) (level_of o.written) z) e f.1
        | inr n ↦ absurd (g.right o i o.written.at (wrong.itself f.0 want f.1 w n))
      ]

  choice_kind : (cases : Vec (RawExpr × RawExpr) Global) (other : Box RawExpr Global) (k : ValueKind)
      → HasForm (NamesKind kinds) (raw.Choose cases other) k
      → HasForm (NamesKind kinds) (level_of (first_branch cases.items other.value)) k
  choice_kind cases other k (of_form.own e) = cc
  choice_kind cases other k (of_form.choice h) = h

  -- the operands of a form, of which one kind is wanted
  each_right : (l : RawLevel) → Right kinds l → (k : ValueKind) (rs : List RawExpr)
      → ((o : OperandOfKind) → IsOneOf (each_wanting (OfKind k) rs) o → IsOneOf (operands_of l) o)
      → (r : RawExpr) → IsOneOf rs r → Right kinds (level_of r) × HasForm (NamesKind kinds) (level_of r) k
  each_right l g k rs are r i =
      let o = wanting (OfKind k) r in
      let j = are o (mapped_one (wanting (OfKind k)) rs r i) in
      (operand_right g o j, wanted_form g o j k this)

  own_is : (l : RawLevel) (j k : ValueKind) → own_kind l ≡ Some j → HasForm (NamesKind kinds) l k → j ≡ k
  own_is l j k e f = one_form (NamesKind kinds) (one_named kinds) (of_form.own e) f

equal_compares : (r : RawRelation) → is_equality r ≡ true → (k : ValueKind) → Compares (relation_of r) k
equal_compares written.Equal e k = kind.equal
equal_compares written.Differs e k = kind.differs
equal_compares written.Less e k = cc
equal_compares written.AtMost e k = cc
equal_compares written.More e k = cc
equal_compares written.AtLeast e k = cc

order_compares : (r : RawRelation) → is_equality r ≡ false → Compares (relation_of r) Whole
order_compares written.Equal e = cc
order_compares written.Differs e = cc
order_compares written.Less e = kind.less
order_compares written.AtMost e = kind.at_most
order_compares written.More e = kind.more
order_compares written.AtLeast e = kind.at_least

module _ {V : Type 0} (names : Path → Level V → Type 0) (kinds : Path → Option ValueKind) (sorts : V → ValueKind)
    (compatible : (p : Path) (l : Level V) (k : ValueKind) → names p l → kinds p ≡ Some k → HasKind sorts l k) where
  all_length : {rs : List RawExpr} {es : List (Expr V)} → All_become names rs es → length rs ≡ length es
  all_length t.none = refl
  all_length (t.one_and d ds) = let e = all_length ds in omega (arith, e)

  parts_length : {rs : List (Bool × RawExpr)} {es : List (Bool × Expr V)} → Parts_become names rs es
      → length rs ≡ length es
  parts_length t.no_part = refl
  parts_length (t.part d ds) = let e = parts_length ds in omega (arith, e)

  cases_length : {rs : List (RawExpr × RawExpr)} {es : List (Expr V × Expr V)} → Cases_become names rs es
      → length rs ≡ length es
  cases_length t.no_case = refl
  cases_length (t.case_and d e ds) = let e = cases_length ds in omega (arith, e)

  path_kind : (p : Path) (k : ValueKind) → HasForm (NamesKind kinds) (raw.Path p) k → kinds p ≡ Some k
  path_kind p k (of_form.own e) = cc
  path_kind p k (of_form.path h) = h

  -- a comparison, where its sides are of their kinds
  sides_typed : (r : RawRelation) (a b : Box RawExpr Global) (c e : Box (Expr V) Global)
      → Right kinds (raw.Compare r a b)
      → (Right kinds (level_of a.value) → (k : ValueKind) → HasForm (NamesKind kinds) (level_of a.value) k
      → HasKind sorts (out-Expr V c.value) k)
      → (Right kinds (level_of b.value) → (k : ValueKind) → HasForm (NamesKind kinds) (level_of b.value) k
      → HasKind sorts (out-Expr V e.value) k)
      → HasKind sorts (form.Compare (relation_of r) c e) Truth
  sides_typed r a b c e g d h = by (one_way (is_equality r))
    where
      by : (is_equality r ≡ true) ⊎ (is_equality r ≡ false) → HasKind sorts (form.Compare (relation_of r) c e) Truth
      by (inl q) =
          let o = wanting AnyKind a.value in
          let p = wanting (Like a.value) b.value in
          let i = subst (λ (z : Bool). IsOneOf (sides_by z a.value b.value) o) (sym q) (one_first o (p ∷ [])) in
          let j = subst (λ (z : Bool). IsOneOf (sides_by z a.value b.value) p) (sym q)
          (one_rest o (p ∷ []) p (one_first p [])) in
          let left = operand_right kinds g o i in
          let found = some_form kinds (level_of a.value) left.is_full left.named in
          kind.compared (equal_compares r q found.0) (d left found.0 found.1)
          (h (operand_right kinds g p j) found.0 (wanted_form kinds g p j found.0 (that_of found.1)))
      by (inr q) =
          let o = wanting (OfKind Whole) a.value in
          let p = wanting (OfKind Whole) b.value in
          let i = subst (λ (z : Bool). IsOneOf (sides_by z a.value b.value) o) (sym q) (one_first o (p ∷ [])) in
          let j = subst (λ (z : Bool). IsOneOf (sides_by z a.value b.value) p) (sym q)
          (one_rest o (p ∷ []) p (one_first p [])) in
          kind.compared (order_compares r q) (d (operand_right kinds g o i) Whole (wanted_form kinds g o i Whole this))
          (h (operand_right kinds g p j) Whole (wanted_form kinds g p j Whole this))

  mutual
    typed : {l : RawLevel} {y : Level V} → Becomes names l y → Right kinds l → (k : ValueKind)
        → HasForm (NamesKind kinds) l k → HasKind sorts y k
    typed (t.truth {b = b}) g k f = subst (HasKind sorts _) (own_is kinds (raw.Truth b) Truth k refl f) kind.constant
    typed (t.whole {n = n}) g k f = subst (HasKind sorts _) (own_is kinds (raw.Whole n) Whole k refl f) kind.constant
    typed t.real g k f = absurd (g.no_real refl)
    typed (t.path {p = p} {l = y} n) g k f = compatible p y k n (path_kind p k f)
    typed (t.opposite {a = a} {b = b} d) g k f =
        let i = one_first (wanting (OfKind Truth) a.value) [] in
        subst (HasKind sorts (form.Not b)) (own_is kinds (raw.Not a) Truth k refl f)
        (kind.opposite (typed d (operand_right kinds g (wanting (OfKind Truth) a.value) i) Truth
        (wanted_form kinds g (wanting (OfKind Truth) a.value) i Truth this)))
    typed (t.negative {a = a} {parts = ps} e d q) g k f =
        let i = one_first (wanting (OfKind Whole) a.value) [] in
        let one = typed d (operand_right kinds g (wanting (OfKind Whole) a.value) i) Whole
        (wanted_form kinds g (wanting (OfKind Whole) a.value) i Whole this) in
        let only : List (Bool × Expr V) = (false, e) ∷ [] in
        let long : 0 < length only = omega arith in
        subst (HasKind sorts (form.Sum ps)) (own_is kinds (raw.Minus a) Whole k refl f)
        (kind.sum (subst (λ (z : List (Bool × Expr V)). 0 < length z) (sym q) long)
        (subst (λ (z : List (Bool × Expr V)). Each_part sorts z) (sym q) (kind.part_and one kind.no_part)))
    typed (t.all {rs = rs} {es = es} ds) g k f =
        subst (HasKind sorts (form.All es)) (own_is kinds (raw.All rs) Truth k refl f)
        (kind.all (subst (λ (z : ℕ). 0 < z) (all_length ds) (operands_full g.is_full))
        (each_typed ds Truth (each_right kinds (raw.All rs) g Truth rs.items (λ o i. i))))
    typed (t.any {rs = rs} {es = es} ds) g k f =
        subst (HasKind sorts (form.Any es)) (own_is kinds (raw.Any rs) Truth k refl f)
        (kind.any (subst (λ (z : ℕ). 0 < z) (all_length ds) (operands_full g.is_full))
        (each_typed ds Truth (each_right kinds (raw.Any rs) g Truth rs.items (λ o i. i))))
    typed (t.compared {r = r} {a = a} {b = b} {d = c} {e = e} d h) g k f =
        subst (HasKind sorts (form.Compare (relation_of r) c e)) (own_is kinds (raw.Compare r a b) Truth k refl f)
        (sides_typed r a b c e g (λ x j y. typed d x j y) (λ x j y. typed h x j y))
    typed (t.sum {rs = rs} {es = es} ds) g k f =
        subst (HasKind sorts (form.Sum es)) (own_is kinds (raw.Sum rs) Whole k refl f)
        (kind.sum (subst (λ (z : ℕ). 0 < z) (parts_length ds) (operands_full g.is_full)) (parts_typed ds (λ plus r i.
        let o = wanting (OfKind Whole) r in
        let j = mapped_one (λ (p : Bool × RawExpr). wanting (OfKind Whole) p.1) rs.items (plus, r) i in
        (operand_right kinds g o j, wanted_form kinds g o j Whole this))))
    typed (t.product {rs = rs} {es = es} ds) g k f =
        subst (HasKind sorts (form.Product es)) (own_is kinds (raw.Product rs) Whole k refl f)
        (kind.product (subst (λ (z : ℕ). 0 < z) (all_length ds) (operands_full g.is_full))
        (each_typed ds Whole (each_right kinds (raw.Product rs) g Whole rs.items (λ o i. i))))
    typed (t.least {rs = rs} {es = es} ds) g k f =
        subst (HasKind sorts (form.Least es)) (own_is kinds (raw.Least rs) Whole k refl f)
        (kind.least (subst (λ (z : ℕ). 0 < z) (all_length ds) (operands_full g.is_full))
        (each_typed ds Whole (each_right kinds (raw.Least rs) g Whole rs.items (λ o i. i))))
    typed (t.greatest {rs = rs} {es = es} ds) g k f =
        subst (HasKind sorts (form.Greatest es)) (own_is kinds (raw.Greatest rs) Whole k refl f)
        (kind.greatest (subst (λ (z : ℕ). 0 < z) (all_length ds) (operands_full g.is_full))
        (each_typed ds Whole (each_right kinds (raw.Greatest rs) g Whole rs.items (λ o i. i))))
    typed (t.count {rs = rs} {es = es} ds) g k f =
        subst (HasKind sorts (form.Count es)) (own_is kinds (raw.Count rs) Whole k refl f)
        (kind.count (subst (λ (z : ℕ). 0 < z) (all_length ds) (operands_full g.is_full))
        (each_typed ds Truth (each_right kinds (raw.Count rs) g Truth rs.items (λ o i. i))))
    typed (t.choice {rs = rs} {es = es} {a = a} {b = b} ds d) g k f =
        let first = first_branch rs.items a.value in
        let first_kind = choice_kind kinds rs a k f in
        let o = wanting (Like first) a.value in
        let i = other_one rs.items a.value first in
        kind.choice (subst (λ (z : ℕ). 0 < z) (cases_length ds) (operands_full g.is_full))
        (cases_typed ds k (λ q r j.
        let u = wanting (OfKind Truth) q in
        let v = wanting (Like first) r in
        let m = test_one rs.items a.value first q r j in
        let n = branch_one rs.items a.value first q r j in (
          (operand_right kinds g u m, wanted_form kinds g u m Truth this),
          (operand_right kinds g v n, wanted_form kinds g v n k (that_of first_kind)),
        )))
        (typed d (operand_right kinds g o i) k (wanted_form kinds g o i k (that_of first_kind)))

    each_typed : {rs : List RawExpr} {es : List (Expr V)} → All_become names rs es → (k : ValueKind)
        → ((r : RawExpr) → IsOneOf rs r → Right kinds (level_of r) × HasForm (NamesKind kinds) (level_of r) k)
        → Each sorts es k
    each_typed t.none k h = kind.none
    each_typed (t.one_and {r = r} {rs = rs} d ds) k h =
        let a = h r (one_first r rs) in
        kind.one_and (typed d a.0 k a.1) (each_typed ds k (λ q i. h q (one_rest r rs q i)))

    parts_typed : {rs : List (Bool × RawExpr)} {es : List (Bool × Expr V)} → Parts_become names rs es
        → ((plus : Bool) (r : RawExpr) → IsOneOf rs (plus, r)
        → Right kinds (level_of r) × HasForm (NamesKind kinds) (level_of r) Whole) → Each_part sorts es
    parts_typed t.no_part h = kind.no_part
    parts_typed (t.part {plus = plus} {r = r} {rs = rs} d ds) h =
        let a = h plus r (one_first (plus, r) rs) in
        kind.part_and (typed d a.0 Whole a.1) (parts_typed ds (λ b q i. h b q (one_rest (plus, r) rs (b, q) i)))

    cases_typed : {rs : List (RawExpr × RawExpr)} {es : List (Expr V × Expr V)} → Cases_become names rs es
        → (k : ValueKind)
        → ((q r : RawExpr) → IsOneOf rs (q, r)
        → (Right kinds (level_of q) × HasForm (NamesKind kinds) (level_of q) Truth)
        × (Right kinds (level_of r) × HasForm (NamesKind kinds) (level_of r) k))
        → Each_case sorts es k
    cases_typed t.no_case k h = kind.no_case
    cases_typed (t.case_and {q = q} {r = r} {rs = rs} d e ds) k h =
        let a = h q r (one_first (q, r) rs) in
        kind.case_and (typed d a.0.0 Truth a.0.1) (typed e a.1.0 k a.1.1)
        (cases_typed ds k (λ u v i. h u v (one_rest (q, r) rs (u, v) i)))

-- the whole expression: none of its paths names nothing, and nothing in it has a wrong kind where this kind is wanted
-- of it
pub typed_whole : {V : Type 0} (names : Path → Level V → Type 0) (kinds : Path → Option ValueKind)
    (sorts : V → ValueKind)
    → ((p : Path) (l : Level V) (k : ValueKind) → names p l → kinds p ≡ Some k → HasKind sorts l k)
    → (r : RawExpr) (y : Level V) (k : ValueKind)
    → ((at : Place) → IsMisnamed (IsNamedPath kinds) (level_of r) at → ⊥)
    → ((at : Place) → IsMistyped (NamesKind kinds) (OfKind k) r at → ⊥) → Becomes names (level_of r) y
    → HasKind sorts y k
typed_whole names kinds sorts compatible r y k n w b =
    typed names kinds sorts compatible b g k (wanted (some_form kinds (level_of r) f named))
  where
    f : IsFull (level_of r)
    f = full_whole names (NamesKind kinds) (OfKind k) r y w b

    told : (p : Path) (found : Option ValueKind) → kinds p ≡ found → PathIn p (level_of r) → IsNamedPath kinds p
    told p (Some j) e i = (j, e)
    told p None e i = absurd (n p.at (record { path = p; is_in = i; not = λ h. let d = h.1 in cc; place = refl }))

    named : (p : Path) → PathIn p (level_of r) → IsNamedPath kinds p
    named p i = told p (kinds p) refl i

    g : Right kinds (level_of r)
    g = record {
      is_full = f;
      named = named;
      right = λ o i at m. w at (wrong.inside o i m);
      no_real = λ e. w r.at (wrong.real e);
    }

    wanted : (j : ValueKind) × HasForm (NamesKind kinds) (level_of r) j → HasForm (NamesKind kinds) (level_of r) k
    wanted (j, h) = elim (same_kind j k) [
      | inl e ↦ subst (λ (z : ValueKind). HasForm (NamesKind kinds) (level_of r) z) e h
      | inr d ↦ absurd (w r.at (wrong.itself j k h this d))
    ]
