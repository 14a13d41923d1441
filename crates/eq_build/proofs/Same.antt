-- An expression has one list of entries and gates. Each lemma takes the gates before as two lists that are equal, so
-- that the recursion stays on the derivations.
use Rattle.std.proofs.Common.{◌≡◌, Bool, true, false, List, [], ◌∷◌, pos, ap, ◌∙◌}
use Rattle.domains.specs.declared.Value.TheVariants.{Whole}
use Rattle.typed_expr.specs.Yields.{Level}
use Rattle.typed_expr.specs.declared.expr.Expr.{Expr}
use Rattle.eq_core.specs.Gates.{Gate}
use Rattle.eq_build.specs.Entries.{Entry, Built, only, entries_for, opposite_terms, joint_terms, combined, folded, led, with_step, with_signs, chosen}
use Rattle.eq_build.specs.Builds.{Builds, Builds_each, Builds_parts, Builds_cases}
use Rattle.eq_build.specs.Builds as b
use Rattle.eq_build.specs.declared.steps.Step.TheVariants.{Times, Lesser, Greater, Counted, Compared}

-- items and gates together
pub record With (A : Type 0) : Type 0 where
  pub items : List A
  pub gates : List Gate

module _ {V : Type 0} (read : V → List Entry) where
  mutual
    pub builds_same : {g h : List Gate} {e : Level V} {r q : Built} → g ≡ h → Builds read g e r → Builds read h e q
        → r ≡ q
    builds_same i (b.constant {v = v}) b.constant = ap (λ (z : List Gate). record { entries = only v; gates = z }) i
    builds_same i (b.variable {x = x}) b.variable = ap (λ (z : List Gate). record { entries = read x; gates = z }) i
    builds_same i (b.opposite d) (b.opposite c) = ap (λ (z : Built). entries_for z.gates (opposite_terms z.entries))
        (builds_same i d c)
    builds_same i (b.all d) (b.all c) = ap
        (λ (z : With (List Entry)). entries_for z.gates (joint_terms true z.items)) (each_same i d c)
    builds_same i (b.any d) (b.any c) = ap
        (λ (z : With (List Entry)). entries_for z.gates (joint_terms false z.items)) (each_same i d c)
    builds_same i (b.compared {r = r} {x = x} {y = y} d e) (b.compared {x = u} {y = z} c f) =
        let j = builds_same i d c in
        let k = builds_same (ap (λ (z : Built). z.gates) j) e f in
        ap (λ (w : Built). combined (Compared r) w.gates x.entries w.entries) k ∙ ap
        (λ (w : Built). combined (Compared r) z.gates w.entries z.entries) j
    builds_same i (b.sum d) (b.sum c) = ap (λ (z : With (Bool × List Entry)). folded z.gates (only (Whole (pos 0)))
        (with_signs z.items)) (parts_same i d c)
    builds_same i (b.product d) (b.product c) = ap (λ (z : With (List Entry)). folded z.gates (only (Whole (pos 1)))
        (with_step Times z.items)) (each_same i d c)
    builds_same i (b.least d) (b.least c) = ap (λ (z : With (List Entry)). led Lesser z.gates z.items) (each_same i d c)
    builds_same i (b.greatest d) (b.greatest c) = ap (λ (z : With (List Entry)). led Greater z.gates z.items)
        (each_same i d c)
    builds_same i (b.count d) (b.count c) = ap (λ (z : With (List Entry)). folded z.gates (only (Whole (pos 0)))
        (with_step Counted z.items)) (each_same i d c)
    builds_same i (b.choice {ess = ess} {b = r} d e) (b.choice {b = q} c f) =
        let j = cases_same i d c in
        let k = builds_same (ap (λ (z : With (List Entry × List Entry)). z.gates) j) e f in
        ap (λ (z : Built). chosen z.gates ess z.entries) k ∙ ap
        (λ (z : With (List Entry × List Entry)). chosen q.gates z.items q.entries) j

    pub each_same : {g h k l : List Gate} {es : List (Expr V)} {xs ys : List (List Entry)} → g ≡ h
        → Builds_each read g es xs k → Builds_each read h es ys l
        → ◌≡◌ {A = With (List Entry)} (record { items = xs; gates = k }) (record { items = ys; gates = l })
    each_same i b.none b.none = ap (λ (z : List Gate). record { items = []; gates = z }) i
    each_same i (b.one_and {b = r} {ess = xs} d e) (b.one_and {h = l} {ess = ys} c f) =
        let j = builds_same i d c in
        let k = each_same (ap (λ (z : Built). z.gates) j) e f in
        ap (λ (z : With (List Entry)). record { items = r.entries ∷ z.items; gates = z.gates }) k ∙ ap
        (λ (z : Built). record { items = z.entries ∷ ys; gates = l }) j

    pub parts_same : {g h k l : List Gate} {ps : List (Bool × Expr V)} {xs ys : List (Bool × List Entry)} → g ≡ h
        → Builds_parts read g ps xs k → Builds_parts read h ps ys l
        → ◌≡◌ {A = With (Bool × List Entry)} (record { items = xs; gates = k }) (record { items = ys; gates = l })
    parts_same i b.no_part b.no_part = ap (λ (z : List Gate). record { items = []; gates = z }) i
    parts_same i (b.part_and {plus = plus} {b = r} d e) (b.part_and {h = l} {ess = ys} c f) =
        let j = builds_same i d c in
        let k = parts_same (ap (λ (z : Built). z.gates) j) e f in
        ap (λ (z : With (Bool × List Entry)). record { items = (plus, r.entries) ∷ z.items; gates = z.gates }) k ∙
        ap (λ (z : Built). record { items = (plus, z.entries) ∷ ys; gates = l }) j

    pub cases_same : {g h k l : List Gate} {cs : List (Expr V × Expr V)} {xs ys : List (List Entry × List Entry)}
        → g ≡ h → Builds_cases read g cs xs k → Builds_cases read h cs ys l
        → ◌≡◌ {A = With (List Entry × List Entry)} (record { items = xs; gates = k }) (record { items = ys; gates = l })
    cases_same i b.no_case b.no_case = ap (λ (z : List Gate). record { items = []; gates = z }) i
    cases_same i (b.case_and {x = x} {y = y} d e m) (b.case_and {h = l} {x = u} {y = w} {ess = ys} c f n) =
        let j = builds_same i d c in
        let k = builds_same (ap (λ (z : Built). z.gates) j) e f in
        let o = cases_same (ap (λ (z : Built). z.gates) k) m n in
        ap (λ (z : With (List Entry × List Entry)). record
        { items = (x.entries, y.entries) ∷ z.items; gates = z.gates }) o
        ∙ ap (λ (z : Built). record { items = (x.entries, z.entries) ∷ ys; gates = l }) k ∙ ap
        (λ (z : Built). record { items = (z.entries, w.entries) ∷ ys; gates = l }) j
