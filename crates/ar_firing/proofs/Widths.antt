-- A renamed expression has as many possible values.
use Rattle.std.proofs.Common.{◌≡◌, ◌⊎◌, inl, inr, ⊎_elim, ℕ, zero, suc, Bool, List, [], ◌∷◌, take, Contains, ap, subst, arith}
use Rattle.std.proofs.lemmas.List.Elements.{Contains-append_right, Contains-append_cases, Contains-push_cases}
use Rattle.domains.specs.declared.Value.{Value}
use Rattle.domains.proofs.Members.{contains-head}
use Rattle.typed_expr.specs.Yields.{Level}
use Rattle.typed_expr.specs.Sizes.{HasMoreThan}
use Rattle.typed_expr.specs.Possible.{IsSubexpression, StepYields, IsWide}
use Rattle.typed_expr.specs.Possible as p
use Rattle.typed_expr.specs.Renames.{Renames, All_rename, Parts_rename, Cases_rename}
use Rattle.typed_expr.specs.Renames as r
use Rattle.typed_expr.specs.declared.expr.Expr.{Expr, out-Expr}
use Rattle.typed_expr.proofs.Renaming.{carries, picks_carry, parts_carry}

-- the first item, or one of the rest
first_or : {A : Type 0} (x : A) (xs : List A) (y : A) → Contains (x ∷ xs) y → (x ≡ y) ⊎ Contains xs y
first_or {A = A} x xs y c =
    ⊎_elim (λ h. ⊎_elim (λ n. absurd (none y n)) (λ e. inl e) (Contains-push_cases [] x y h)) (λ h. inr h)
    (Contains-append_cases (x ∷ []) xs y c)
  where
    none : (y : A) → Contains [] y → ⊥
    none y n = absurd (omega (arith, n.1))

is_later : {A : Type 0} (x : A) (xs : List A) (y : A) → Contains xs y → Contains (x ∷ xs) y
is_later x xs y c = Contains-append_right (x ∷ []) xs y c

module _ {V W : Type 0} (same : V → W → Type 0) where
  -- the operand at the same place
  record Operand (fs : List (Expr W)) (e : Expr V) : Type 0 where
    pub other : Expr W
    pub is_one : Contains fs other
    pub renames : Renames same (out-Expr V e) (out-Expr W other)

  operand : {es : List (Expr V)} {fs : List (Expr W)} → All_rename same es fs → (e : Expr V) → Contains es e
      → Operand fs e
  operand r.none e c = absurd (omega (arith, c.1))
  operand (r.one_and {a = a} {es = es} {b = b} {fs = fs} q qs) e c = ⊎_elim
      (λ i. record {
        other = b;
        is_one = contains-head b fs;
        renames = subst (λ z. Renames same (out-Expr V z) (out-Expr W b)) i q;
      })
      (λ h. let o = operand qs e h in record { other = o.other; is_one = is_later b fs o.other o.is_one; renames = o.renames })
      (first_or a es e c)

  -- the part of a sum at the same place
  record Summand (qs : List (Bool × Expr W)) (plus : Bool) (e : Expr V) : Type 0 where
    pub other : Expr W
    pub is_one : Contains qs (plus, other)
    pub renames : Renames same (out-Expr V e) (out-Expr W other)

  summand : {ps : List (Bool × Expr V)} {qs : List (Bool × Expr W)} → Parts_rename same ps qs
      → (plus : Bool) (e : Expr V) → Contains ps (plus, e) → Summand qs plus e
  summand r.no_part plus e c = absurd (omega (arith, c.1))
  summand (r.part {plus = s} {a = a} {ps = ps} {b = b} {qs = qs} q rest) plus e c = ⊎_elim
      (λ i. let j : s ≡ plus = ap (λ (z : Bool × Expr V). z.0) i in
      let k : a ≡ e = ap (λ (z : Bool × Expr V). z.1) i in
      record {
        other = b;
        is_one = subst (λ z. Contains ((s, b) ∷ qs) (z, b)) j (contains-head (s, b) qs);
        renames = subst (λ z. Renames same (out-Expr V z) (out-Expr W b)) k q;
      })
      (λ h. let o = summand rest plus e h in record { other = o.other; is_one = is_later (s, b) qs (plus, o.other) o.is_one; renames = o.renames })
      (first_or (s, a) ps (plus, e) c)

  -- the case at the same place
  record CaseThere (ds : List (Expr W × Expr W)) (test value : Expr V) : Type 0 where
    pub other_test : Expr W
    pub other_value : Expr W
    pub is_one : Contains ds (other_test, other_value)
    pub renames_test : Renames same (out-Expr V test) (out-Expr W other_test)
    pub renames_value : Renames same (out-Expr V value) (out-Expr W other_value)

  case_there : {cs : List (Expr V × Expr V)} {ds : List (Expr W × Expr W)} → Cases_rename same cs ds
      → (test value : Expr V) → Contains cs (test, value) → CaseThere ds test value
  case_there r.no_case test value c = absurd (omega (arith, c.1))
  case_there (r.case_and {a = a} {b = b} {cs = cs} {c = c} {d = d} {ds = ds} q s rest) test value h = ⊎_elim
      (λ i. let j : a ≡ test = ap (λ (z : Expr V × Expr V). z.0) i in
      let k : b ≡ value = ap (λ (z : Expr V × Expr V). z.1) i in
      record {
        other_test = c;
        other_value = d;
        is_one = contains-head (c, d) ds;
        renames_test = subst (λ z. Renames same (out-Expr V z) (out-Expr W c)) j q;
        renames_value = subst (λ z. Renames same (out-Expr V z) (out-Expr W d)) k s;
      })
      (λ k. let o = case_there rest test value k in
      record {
        other_test = o.other_test;
        other_value = o.other_value;
        is_one = is_later (c, d) ds (o.other_test, o.other_value) o.is_one;
        renames_test =
            o.renames_test;
        renames_value = o.renames_value;
      })
      (first_or (a, b) cs (test, value) h)

  -- the subexpression at the same place
  pub record PartThere (e : Level V) (f : Level W) : Type 0 where
    pub other : Level W
    pub is_part : IsSubexpression other f
    pub renames : Renames same e other

  pub part_there : {e d : Level V} {f : Level W} → IsSubexpression e d → Renames same d f → PartThere e f
  part_there {f = f} p.itself q = record { other = f; is_part = p.itself; renames = q }
  part_there (p.in_not d) (r.opposite q) =
      let o = part_there d q in
      record { other = o.other; is_part = p.in_not o.is_part; renames = o.renames }
  part_there (p.in_all {e = e} c d) (r.all q) =
      let g = operand q e c in
      let o = part_there d g.renames in
      record { other = o.other; is_part = p.in_all g.is_one o.is_part; renames = o.renames }
  part_there (p.in_any {e = e} c d) (r.any q) =
      let g = operand q e c in
      let o = part_there d g.renames in
      record { other = o.other; is_part = p.in_any g.is_one o.is_part; renames = o.renames }
  part_there (p.in_left d) (r.compared q s) =
      let o = part_there d q in
      record { other = o.other; is_part = p.in_left o.is_part; renames = o.renames }
  part_there (p.in_right d) (r.compared q s) =
      let o = part_there d s in
      record { other = o.other; is_part = p.in_right o.is_part; renames = o.renames }
  part_there (p.in_sum {plus = plus} {e = e} c d) (r.sum q) =
      let g = summand q plus e c in
      let o = part_there d g.renames in
      record { other = o.other; is_part = p.in_sum g.is_one o.is_part; renames = o.renames }
  part_there (p.in_product {e = e} c d) (r.product q) =
      let g = operand q e c in
      let o = part_there d g.renames in
      record { other = o.other; is_part = p.in_product g.is_one o.is_part; renames = o.renames }
  part_there (p.in_least {e = e} c d) (r.least q) =
      let g = operand q e c in
      let o = part_there d g.renames in
      record { other = o.other; is_part = p.in_least g.is_one o.is_part; renames = o.renames }
  part_there (p.in_greatest {e = e} c d) (r.greatest q) =
      let g = operand q e c in
      let o = part_there d g.renames in
      record { other = o.other; is_part = p.in_greatest g.is_one o.is_part; renames = o.renames }
  part_there (p.in_count {e = e} c d) (r.count q) =
      let g = operand q e c in
      let o = part_there d g.renames in
      record { other = o.other; is_part = p.in_count g.is_one o.is_part; renames = o.renames }
  part_there (p.in_test {test = t} {value = v} c d) (r.choice q s) =
      let g = case_there q t v c in
      let o = part_there d g.renames_test in
      record { other = o.other; is_part = p.in_test g.is_one o.is_part; renames = o.renames }
  part_there (p.in_value {test = t} {value = v} c d) (r.choice q s) =
      let g = case_there q t v c in
      let o = part_there d g.renames_value in
      record { other = o.other; is_part = p.in_value g.is_one o.is_part; renames = o.renames }
  part_there (p.in_other d) (r.choice q s) =
      let o = part_there d s in
      record { other = o.other; is_part = p.in_other o.is_part; renames = o.renames }

  taken : (k : ℕ) {es : List (Expr V)} {fs : List (Expr W)} → All_rename same es fs
      → All_rename same (take k es) (take k fs)
  taken zero q = r.none
  taken (suc k) r.none = r.none
  taken (suc k) (r.one_and q qs) = r.one_and q (taken k qs)

  parts_taken : (k : ℕ) {ps : List (Bool × Expr V)} {qs : List (Bool × Expr W)} → Parts_rename same ps qs
      → Parts_rename same (take k ps) (take k qs)
  parts_taken zero q = r.no_part
  parts_taken (suc k) r.no_part = r.no_part
  parts_taken (suc k) (r.part q qs) = r.part q (parts_taken k qs)

  module _ (P : V → Value → Type 0) (Q : W → Value → Type 0)
      (kept : (x : V) (y : W) (v : Value) → same x y → P x v → Q y v) where
    step_there : {e : Level V} {f : Level W} → Renames same e f → (k : ℕ) (v : Value) → StepYields P e k v
        → StepYields Q f k v
    step_there r.constant k v h = absurd h
    step_there (r.variable q) k v h = absurd h
    step_there (r.opposite q) k v h = absurd h
    step_there (r.all q) k v h = absurd h
    step_there (r.any q) k v h = absurd h
    step_there (r.compared q s) k v h = absurd h
    step_there (r.sum q) k v h = (h.0, parts_carry V W P Q same kept h.1 (parts_taken k q), h.2)
    step_there (r.product q) k v h = (h.0, picks_carry V W P Q same kept h.1 (taken k q), h.2)
    step_there (r.least q) k v h = (h.0, picks_carry V W P Q same kept h.1 (taken k q), h.2)
    step_there (r.greatest q) k v h = (h.0, picks_carry V W P Q same kept h.1 (taken k q), h.2)
    step_there (r.count q) k v h = (h.0, picks_carry V W P Q same kept h.1 (taken k q), h.2)
    step_there (r.choice q s) k v h = absurd h

    more_there : {R S : Value → Type 0} {most : ℕ} → ((v : Value) → R v → S v) → HasMoreThan most R → HasMoreThan most S
    more_there on h = record { values = h.values; ascend = h.ascend; more = h.more; each = λ v c. on v (h.each v c) }

    pub wide_there : {e : Level V} {f : Level W} {most : ℕ} → Renames same e f → IsWide P most e → IsWide Q most f
    wide_there q (p.subexpression d h) =
        let o = part_there d q in
        p.subexpression o.is_part (more_there (λ v y. carries V W P Q same kept y o.renames) h)
    wide_there q (p.step k d h) =
        let o = part_there d q in
        p.step k o.is_part (more_there (λ v y. step_there o.renames k v y) h)
