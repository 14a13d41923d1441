-- Each step only adds gates.
use Rattle.std.proofs.Common.{◌≡◌, ℕ, ◌+◌, ◌<◌, pos, Bool, true, false, List, [], ◌∷◌, length, length-append, arith, ap, ◌∙◌}
use Rattle.domains.specs.declared.Value.TheVariants.{Whole}
use Rattle.typed_expr.specs.Yields.{Level}
use Rattle.typed_expr.specs.declared.expr.Expr.{Expr}
use Rattle.eq_core.specs.Gates.{Operand, Gate, all_of}
use Rattle.eq_core.specs.ValuesInside.{GainsGates}
use Rattle.eq_core.proofs.Telling.{grows_self, grows_on, all_more, any_more}
use Rattle.eq_build.specs.Entries.{Entry, Group, Term, Built, with_terms, all_of_each, one_of_alls, entries_of, entries_for, pairs_of, combined, folded, led, with_step, with_signs, only, opposite_terms, joint_terms, case_terms, chosen}
use Rattle.eq_build.specs.Builds.{Builds, Builds_each, Builds_parts, Builds_cases}
use Rattle.eq_build.specs.Builds as b
use Rattle.eq_build.specs.declared.steps.Step.{Step}
use Rattle.eq_build.specs.declared.steps.Step.TheVariants.{Times, Lesser, Greater, Counted, Compared}

-- with more gates the list is no shorter
pub longer_on : {n : ℕ} {g h : List Gate} → GainsGates g h → n < length g → n < length h
longer_on {n = n} {g = g} {h = h} w l =
    let e : length h ≡ length g + length w.more = ap length w.is ∙ length-append g w.more in omega (arith, e, l)

pub each_more : (g : List Gate) (oss : List (List Operand)) → GainsGates g (all_of_each g oss).gates
each_more g [] = grows_self g
each_more g (os ∷ oss) = grows_on (all_more g os) (each_more (all_of g os).gates oss)

pub one_more : (g : List Gate) (oss : List (List Operand)) → GainsGates g (one_of_alls g oss).gates
one_more g oss = let r = all_of_each g oss in grows_on (each_more g oss) (any_more r.gates r.operands)

pub entries_more : (g : List Gate) (ps : List Group) → GainsGates g (entries_of g ps).gates
entries_more g [] = grows_self g
entries_more g (p ∷ ps) = grows_on (one_more g p.terms) (entries_more (one_of_alls g p.terms).gates ps)

pub terms_more : (g : List Gate) (ts : List Term) → GainsGates g (entries_for g ts).gates
terms_more g ts = entries_more g (with_terms ts [])

pub folded_more : (g : List Gate) (xs : List Entry) (ps : List (Step × List Entry)) → GainsGates g (folded g xs ps).gates
folded_more g xs [] = grows_self g
folded_more g xs (p ∷ ps) =
    let r = combined p.0 g xs p.1 in grows_on (terms_more g (pairs_of p.0 xs p.1)) (folded_more r.gates r.entries ps)

pub led_more : (step : Step) (g : List Gate) (ess : List (List Entry)) → GainsGates g (led step g ess).gates
led_more step g [] = grows_self g
led_more step g (es ∷ ess) = folded_more g es (with_step step ess)

pub chosen_more : (g : List Gate) (cs : List (List Entry × List Entry)) (other : List Entry)
    → GainsGates g (chosen g cs other).gates
chosen_more g [] other = grows_self g
chosen_more g (c ∷ cs) other =
    let r = chosen g cs other in grows_on (chosen_more g cs other) (terms_more r.gates (case_terms c.0 c.1 r.entries))

module _ {V : Type 0} {read : V → List Entry} where
  mutual
    pub builds_more : {g : List Gate} {e : Level V} {r : Built} → Builds read g e r → GainsGates g r.gates
    builds_more (b.constant {g = g}) = grows_self g
    builds_more (b.variable {g = g}) = grows_self g
    builds_more (b.opposite {b = r} d) = grows_on (builds_more d) (terms_more r.gates (opposite_terms r.entries))
    builds_more (b.all {h = h} {ess = ess} d) = grows_on (operands_more d) (terms_more h (joint_terms true ess))
    builds_more (b.any {h = h} {ess = ess} d) = grows_on (operands_more d) (terms_more h (joint_terms false ess))
    builds_more (b.compared {r = q} {x = x} {y = y} d e) =
        grows_on (builds_more d)
        (grows_on (builds_more e) (terms_more y.gates (pairs_of (Compared q) x.entries y.entries)))
    builds_more (b.sum {h = h} {ess = ess} d) =
        grows_on (parts_more d) (folded_more h (only (Whole (pos 0))) (with_signs ess))
    builds_more (b.product {h = h} {ess = ess} d) =
        grows_on (operands_more d) (folded_more h (only (Whole (pos 1))) (with_step Times ess))
    builds_more (b.least {h = h} {ess = ess} d) = grows_on (operands_more d) (led_more Lesser h ess)
    builds_more (b.greatest {h = h} {ess = ess} d) = grows_on (operands_more d) (led_more Greater h ess)
    builds_more (b.count {h = h} {ess = ess} d) =
        grows_on (operands_more d) (folded_more h (only (Whole (pos 0))) (with_step Counted ess))
    builds_more (b.choice {ess = ess} {b = r} d e) =
        grows_on (cases_more d) (grows_on (builds_more e) (chosen_more r.gates ess r.entries))

    pub operands_more : {g h : List Gate} {es : List (Expr V)} {ess : List (List Entry)} → Builds_each read g es ess h
        → GainsGates g h
    operands_more (b.none {g = g}) = grows_self g
    operands_more (b.one_and d e) = grows_on (builds_more d) (operands_more e)

    pub parts_more : {g h : List Gate} {ps : List (Bool × Expr V)} {ess : List (Bool × List Entry)}
        → Builds_parts read g ps ess h → GainsGates g h
    parts_more (b.no_part {g = g}) = grows_self g
    parts_more (b.part_and d e) = grows_on (builds_more d) (parts_more e)

    pub cases_more : {g h : List Gate} {cs : List (Expr V × Expr V)} {ess : List (List Entry × List Entry)}
        → Builds_cases read g cs ess h → GainsGates g h
    cases_more (b.no_case {g = g}) = grows_self g
    cases_more (b.case_and d e f) = grows_on (builds_more d) (grows_on (builds_more e) (cases_more f))
