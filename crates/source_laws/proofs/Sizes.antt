-- Units of models that agree have as many nodes.
use Rattle.std.proofs.Common.{◌≡◌, ℕ, zero, suc, ◌+◌, ◌*◌, ◌<◌, Bool, List, [], ◌∷◌, map, sum, length, Option, Some, None, refl, sym, ap, subst, ◌∙◌, arith}
use Rattle.std.proofs.lemmas.List.Sums.{sum_by-cons}
use Rattle.std.proofs.lemmas.Simd.{map-map}
use Rattle.ar_base.specs.Lists.{Along}
use Rattle.ar_base.specs.Lists as along
use Rattle.ar_syntax.specs.declared.expressions.RawExpr.{RawExpr}
use Rattle.ar_syntax.specs.declared.expressions.RawForm.{RawForm, out-RawForm}
use Rattle.ar_syntax.specs.declared.expressions.RawForm.TheOpen as form
use Rattle.ar_syntax.specs.declared.expressions.RawForm.TheFolds.{fold-RawForm, fold_out-RawExpr, fold_out-RawForm, map-RawForm}
use Rattle.ar_syntax.specs.declared.instructions.Instr.{Instr, out-Instr}
use Rattle.ar_syntax.specs.declared.instructions.Instr.TheOpen as instr
use Rattle.ar_syntax.specs.declared.instructions.Instr.TheFolds.{fold_out-Instr, map-Instr}
use Rattle.ar_syntax.specs.declared.members.Member.{Member, out-Member}
use Rattle.ar_syntax.specs.declared.members.Setting.{Setting}
use Rattle.parser_laws.specs.Expressions.{SameExpr, SameInstr}
use Rattle.parser_laws.specs.Members.{SameSetting, SameMember}
use Rattle.parser_laws.specs.Opened.{ExprForm, SameForm, OpenedInstr, SameStep, SameKind}
use Rattle.class_table.specs.Declaring.{MemberForm, Declared}
use Rattle.class_table.specs.Members.{Site, owned_at}
use Rattle.class_table.specs.declared.tables.Owned.{Owned}
use Rattle.class_table.specs.declared.tables.Owned.TheVariants.{Plain, Nested}
use Rattle.hierarchy.specs.Models.{RootedModel}
use Rattle.hierarchy.specs.Units.{UnitPath, members_at}
use Rattle.unit_rules.specs.Sizes.{form_size, expr_size, step_size, instr_size, setting_size, member_size, owned_size, unit_size, tree_nodes}
use Rattle.source_laws.specs.Tables.{SameOwned, SameTable, SameRooted}
use Rattle.source_laws.specs.Views.{SameForms}
use Rattle.source_laws.specs.Views as same
use Rattle.source_laws.proofs.Laid.{viewed, along_long}
use Rattle.source_laws.proofs.Named.{Both, neither, both, owned_both}
use Rattle.source_laws.proofs.Leading.{members_same}

-- Sums

module _ {A : Type 0} {R : A → A → Type 0} (f : A → ℕ) where
  -- items that are below a number and agree have one sum
  sums_below : (n : ℕ) → ((a b : A) → R a b → f a < n → f a ≡ f b) → (xs ys : List A) → Along R xs ys
      → sum (map f xs) < n → sum (map f xs) ≡ sum (map f ys)
  sums_below n one [] [] along.none h = refl
  sums_below n one _ _ (along.one_and {a = a} {b = b} {xs = xs} {ys = ys} r more) h =
      let p : sum (f a ∷ map f xs) ≡ f a + sum (map f xs) = sum_by-cons (λ (k : ℕ). k) (f a) (map f xs) in
      let q : sum (f b ∷ map f ys) ≡ f b + sum (map f ys) = sum_by-cons (λ (k : ℕ). k) (f b) (map f ys) in
      let l : f a + sum (map f xs) < n = subst (λ (k : ℕ). k < n) p h in
      let i = one a b r (omega (arith, l)) in
      let j = sums_below n one xs ys more (omega (arith, l)) in
      p ∙ ap (λ (k : ℕ). k + sum (map f xs)) i ∙ ap (λ (k : ℕ). f b + k) j ∙ sym q

  sums_same : ((a b : A) → R a b → f a ≡ f b) → (xs ys : List A) → Along R xs ys → sum (map f xs) ≡ sum (map f ys)
  sums_same one xs ys a = sums_below (suc (sum (map f xs))) (λ x y r h. one x y r) xs ys a (omega arith)

-- Expressions

-- the size of an expression with its outermost form in view
abbrev level_size : ExprForm → ℕ
level_size x = form_size
    (map-RawForm RawForm RawExpr ℕ ℕ (fold-RawForm ℕ ℕ form_size (λ z. z.form)) expr_size x)

expr_opened : (e : RawExpr) → expr_size e ≡ level_size (out-RawForm e.form)
expr_opened e = fold_out-RawExpr ℕ ℕ form_size (λ z. z.form) e ∙ fold_out-RawForm ℕ ℕ form_size (λ z. z.form) e.form

terms_size : (ps : List (Bool × RawExpr))
    → sum (map (λ (p : Bool × ℕ). p.1) (map (λ (p : Bool × RawExpr). (p.0, expr_size p.1)) ps))
    ≡ sum (map (λ (p : Bool × RawExpr). expr_size p.1) ps)
terms_size ps = ap sum (map-map (λ (p : Bool × ℕ). p.1) (λ (p : Bool × RawExpr). (p.0, expr_size p.1)) ps)

cases_size : (cs : List (RawExpr × RawExpr))
    → sum (map (λ (c : ℕ × ℕ). c.0 + c.1) (map (λ (c : RawExpr × RawExpr). (expr_size c.0, expr_size c.1)) cs))
    ≡ sum (map (λ (c : RawExpr × RawExpr). expr_size c.0 + expr_size c.1) cs)
cases_size cs = ap sum
    (map-map (λ (c : ℕ × ℕ). c.0 + c.1) (λ (c : RawExpr × RawExpr). (expr_size c.0, expr_size c.1)) cs)

-- what is inside is smaller
under : (k n : ℕ) → 1 + k < suc n → k < n
under k n h = omega (arith, h)

left_under : (j k n : ℕ) → j + k < n → j < n
left_under j k n h = omega (arith, h)

right_under : (j k n : ℕ) → j + k < n → k < n
right_under j k n h = omega (arith, h)

both_same : (j k a b : ℕ) → j ≡ a → k ≡ b → j + k ≡ a + b
both_same j k a b p q = ap (λ (z : ℕ). z + k) p ∙ ap (λ (z : ℕ). a + z) q

module _ (opens : (e f : RawExpr) → SameExpr e f → SameForm (out-RawForm e.form) (out-RawForm f.form)) where
  -- smaller expressions that agree have one size
  module _ (n : ℕ) (small : (e f : RawExpr) → SameExpr e f → expr_size e < n → expr_size e ≡ expr_size f) where
    list_size : (es fs : List RawExpr) → Along SameExpr es fs → 1 + sum (map expr_size es) < suc n
        → 1 + sum (map expr_size es) ≡ 1 + sum (map expr_size fs)
    list_size es fs a h =
        ap (λ (k : ℕ). 1 + k) (sums_below expr_size n small es fs a (under (sum (map expr_size es)) n h))

    case_size : (c d : RawExpr × RawExpr) → SameExpr c.0 d.0 × SameExpr c.1 d.1 → expr_size c.0 + expr_size c.1 < n
        → expr_size c.0 + expr_size c.1 ≡ expr_size d.0 + expr_size d.1
    case_size c d r h =
        both_same (expr_size c.0) (expr_size c.1) (expr_size d.0) (expr_size d.1)
        (small c.0 d.0 r.0 (left_under (expr_size c.0) (expr_size c.1) n h))
        (small c.1 d.1 r.1 (right_under (expr_size c.0) (expr_size c.1) n h))

    levels_same : (x y : ExprForm) → SameForm x y → level_size x < suc n → level_size x ≡ level_size y
    levels_same (form.Truth b) (form.Truth c) s h = refl
    levels_same (form.Whole a) (form.Whole b) s h = refl
    levels_same form.Real form.Real s h = refl
    levels_same (form.Path p) (form.Path q) s h = refl
    levels_same (form.Not a) (form.Not b) s h =
        ap (λ (k : ℕ). 1 + k) (small a.value b.value s (under (expr_size a.value) n h))
    levels_same (form.Minus a) (form.Minus b) s h =
        ap (λ (k : ℕ). 1 + k) (small a.value b.value s (under (expr_size a.value) n h))
    levels_same (form.All v) (form.All w) s h = list_size v.items w.items s h
    levels_same (form.Any v) (form.Any w) s h = list_size v.items w.items s h
    levels_same (form.Compare r a b) (form.Compare t c d) s h =
        let l = under (expr_size a.value + expr_size b.value) n h in
        ap (λ (k : ℕ). 1 + k) (case_size (a.value, b.value) (c.value, d.value) (s.1, s.2) l)
    levels_same (form.Sum v) (form.Sum w) s h =
        let p = terms_size v.items in
        let q = terms_size w.items in
        let l = under _ n (subst (λ (k : ℕ). 1 + k < suc n) p h) in
        ap (λ (k : ℕ). 1 + k)
        (p ∙ sums_below (λ (z : Bool × RawExpr). expr_size z.1) n (λ a b r i. small a.1 b.1 r.1 i) v.items w.items s l ∙ sym q)
    levels_same (form.Product v) (form.Product w) s h = list_size v.items w.items s h
    levels_same (form.Least v) (form.Least w) s h = list_size v.items w.items s h
    levels_same (form.Greatest v) (form.Greatest w) s h = list_size v.items w.items s h
    levels_same (form.Count v) (form.Count w) s h = list_size v.items w.items s h
    levels_same (form.Choose v a) (form.Choose w b) s h =
        let p = cases_size v.items in
        let q = cases_size w.items in
        let all = sum (map (λ (c : RawExpr × RawExpr). expr_size c.0 + expr_size c.1) v.items) in
        let l = under _ n (subst (λ (k : ℕ). 1 + (k + expr_size a.value) < suc n) p h) in
        ap (λ (k : ℕ). 1 + k)
        (both_same _ (expr_size a.value) _ (expr_size b.value)
        (p
        ∙ sums_below (λ (c : RawExpr × RawExpr). expr_size c.0 + expr_size c.1) n case_size v.items w.items s.0
        (left_under all (expr_size a.value) n l)
        ∙ sym q)
        (small a.value b.value s.1 (right_under all (expr_size a.value) n l)))
    levels_same _ _ s h = absurd s

  sizes_below : (n : ℕ) (e f : RawExpr) → SameExpr e f → expr_size e < n → expr_size e ≡ expr_size f
  sizes_below zero e f s h = absurd (omega (arith, h))
  sizes_below (suc n) e f s h =
      let p = expr_opened e in
      let l : level_size (out-RawForm e.form) < suc n = subst (λ (k : ℕ). k < suc n) p h in
      p ∙ levels_same n (sizes_below n) (out-RawForm e.form) (out-RawForm f.form) (opens e f s) l ∙ sym (expr_opened f)

  -- expressions that agree have one size
  pub exprs_same : (e f : RawExpr) → SameExpr e f → expr_size e ≡ expr_size f
  exprs_same e f s = sizes_below (suc (expr_size e)) e f s (omega arith)

  -- Instructions

  module _ (steps : (i j : Instr) → SameInstr i j → SameStep (out-Instr i) (out-Instr j)) where
    abbrev instr_level : OpenedInstr → ℕ
    instr_level x = step_size (map-Instr Instr ℕ instr_size x)

    instr_opened : (i : Instr) → instr_size i ≡ instr_level (out-Instr i)
    instr_opened i = fold_out-Instr ℕ step_size i

    module _ (n : ℕ) (small : (i j : Instr) → SameInstr i j → instr_size i < n → instr_size i ≡ instr_size j) where
      steps_same : (x y : OpenedInstr) → SameStep x y → instr_level x < suc n → instr_level x ≡ instr_level y
      steps_same instr.Skip instr.Skip s h = refl
      steps_same (instr.Assign p e) (instr.Assign q f) s h = ap (λ (k : ℕ). 2 + k) (exprs_same e f s.1)
      steps_same (instr.Tie p q) (instr.Tie r t) s h = refl
      steps_same (instr.If e x None) (instr.If f y None) s h =
          let l = under (expr_size e + (instr_size x.value + 0)) n h in
          ap (λ (k : ℕ). 1 + k)
          (both_same (expr_size e) (instr_size x.value + 0) (expr_size f) (instr_size y.value + 0) (exprs_same e f s.0)
          (ap (λ (k : ℕ). k + 0)
          (small x.value y.value s.1 (left_under (instr_size x.value) 0 n (right_under (expr_size e) _ n l)))))
      steps_same (instr.If e x (Some a)) (instr.If f y (Some b)) s h =
          let l = under (expr_size e + (instr_size x.value + instr_size a.value)) n h in
          let r = right_under (expr_size e) (instr_size x.value + instr_size a.value) n l in
          ap (λ (k : ℕ). 1 + k)
          (both_same (expr_size e) (instr_size x.value + instr_size a.value) (expr_size f)
          (instr_size y.value + instr_size b.value) (exprs_same e f s.0)
          (both_same (instr_size x.value) (instr_size a.value) (instr_size y.value) (instr_size b.value)
          (small x.value y.value s.1 (left_under (instr_size x.value) (instr_size a.value) n r))
          (small a.value b.value s.2 (right_under (instr_size x.value) (instr_size a.value) n r))))
      steps_same (instr.If e x None) (instr.If f y (Some b)) s h = absurd s.2
      steps_same (instr.If e x (Some a)) (instr.If f y None) s h = absurd s.2
      steps_same (instr.All v) (instr.All w) s h =
          ap (λ (k : ℕ). 1 + k)
          (sums_below instr_size n small v.items w.items s (under (sum (map instr_size v.items)) n h))
      steps_same _ _ s h = absurd s

    instrs_below : (n : ℕ) (i j : Instr) → SameInstr i j → instr_size i < n → instr_size i ≡ instr_size j
    instrs_below zero i j s h = absurd (omega (arith, h))
    instrs_below (suc n) i j s h =
        let p = instr_opened i in
        let l : instr_level (out-Instr i) < suc n = subst (λ (k : ℕ). k < suc n) p h in
        p ∙ steps_same n (instrs_below n) (out-Instr i) (out-Instr j) (steps i j s) l ∙ sym (instr_opened j)

    instrs_same : (i j : Instr) → SameInstr i j → instr_size i ≡ instr_size j
    instrs_same i j s = instrs_below (suc (instr_size i)) i j s (omega arith)

    -- Members

    settings_size : (s t : Setting) → SameSetting s t → setting_size s ≡ setting_size t
    settings_size s t r = ap (λ (k : ℕ). 1 + k) (exprs_same s.value t.value r.value)

    forms_same : {f g : MemberForm} → SameForms f g → member_size f ≡ member_size g
    forms_same same.extends = refl
    forms_same (same.declares {v = v} {w = w} {s = s} {r = r} i h) =
        ap (λ (k : ℕ). 1 + k)
        (both_same (length v.items) _ (length w.items) _ (ap length i)
        (sums_same setting_size settings_size s.items r.items h))
    forms_same (same.block s) = refl
    forms_same (same.clones s) = refl
    forms_same (same.embeds s) = refl
    forms_same (same.parameter {e = e} {f = f} s) = ap (λ (k : ℕ). 1 + k) (exprs_same e f s)
    forms_same same.kept = refl
    forms_same same.event = refl
    forms_same (same.observer {e = e} {f = f} s) = ap (λ (k : ℕ). 1 + k) (exprs_same e f s)
    forms_same (same.hides s) = refl
    forms_same (same.local {e = e} {f = f} {i = i} {j = j} s r) =
        ap (λ (k : ℕ). 1 + k)
        (both_same (expr_size e) (instr_size i) (expr_size f) (instr_size j) (exprs_same e f s) (instrs_same i j r))
    forms_same (same.sync {v = v} {w = w} s) = ap (λ (k : ℕ). 1 + 2 * k) (along_long s)
    forms_same (same.asserts {i = i} {j = j} s) = ap (λ (k : ℕ). 1 + k) (instrs_same i j s)

    module _ (kinds : (m n : Member) → SameMember m n → SameKind (out-Member m) (out-Member n)) where
      owned_same : (o p : Owned) → SameOwned o p → owned_size (Some o) ≡ owned_size (Some p)
      owned_same (Plain m) (Plain n) s = forms_same (viewed (out-Member m) (out-Member n) (kinds m n s))
      owned_same (Nested x at b) (Nested y p c) s = refl
      owned_same _ _ s = absurd s

      members_size : {o p : Option Owned} → Both SameOwned o p → owned_size o ≡ owned_size p
      members_size neither = refl
      members_size (both {a = o} {b = p} s) = owned_same o p s

      -- Units

      module _ (d e : Declared) (agree : SameTable d e) where
        sites_size : (ss : List Site)
            → map (λ s. owned_size (owned_at d s)) ss ≡ map (λ s. owned_size (owned_at e s)) ss
        sites_size [] = refl
        sites_size (s ∷ ss) =
            ap (λ (k : ℕ). k ∷ map (λ t. owned_size (owned_at d t)) ss) (members_size (owned_both d e agree s))
            ∙ ap (λ (ks : List ℕ). owned_size (owned_at e s) ∷ ks) (sites_size ss)

      module _ (m n : RootedModel) (agree : SameRooted m n) where
        units_size : (u : UnitPath) → unit_size m u ≡ unit_size n u
        units_size u =
            ap sum (sites_size m.declared n.declared agree.declared (members_at m u))
            ∙ ap (λ (ss : List Site). sum (map (λ s. owned_size (owned_at n.declared s)) ss))
            (members_same kinds m n agree u)

        all_sizes : (units : List UnitPath) → map (unit_size m) units ≡ map (unit_size n) units
        all_sizes [] = refl
        all_sizes (u ∷ us) =
            ap (λ (k : ℕ). k ∷ map (unit_size m) us) (units_size u)
            ∙ ap (λ (ks : List ℕ). unit_size n u ∷ ks) (all_sizes us)

        -- the tree has as many nodes
        pub nodes_same : (units : List UnitPath) → tree_nodes m units ≡ tree_nodes n units
        nodes_same units = ap sum (all_sizes units)
