use Rattle.std.proofs.Common.{◌≡◌, ℕ, List, Option, length, rules, sym, ap, ◌∙◌, subst}
use Rattle.ar_base.specs.Numbers.{VarId}
use Rattle.ar_base.proofs.Standing.{stands_some}
use Rattle.gts_core.specs.declared.system.GtsParts.{GtsParts}
use Rattle.flow_reasons.specs.Answers.{numbers_of, reasons_of}
use Rattle.reason_text.specs.Answers.{AreToldVariables, HasMarksAt, IsObserverIn, observed}
use Rattle.reason_text.proofs.Marks.{told_all, told_cone, marks_as}
use Rattle.reason_text.proofs.telling.told.Goals as goal

pub returns-in_ok-marks-in-None : goal.returns-in_ok-marks-in-None
returns-in_ok-marks-in-None c =
    let p = c.args.gts.now in
    let whole : c.len-count.result ≡ length c.parts.result.now.variables.items = search rules in
    let e : c.len-count.result ≡ length p.variables.items =
    whole ∙ ap (λ (z : GtsParts). length z.variables.items) c.parts.ensures.parts in
    subst (λ (z : Option ℕ). AreToldVariables p (reasons_of c.args.reasons.now) (observed p z) c.in_ok-marks-in-None.marks.items)
    (sym c.in-None.is)
    (told_all p (reasons_of c.args.reasons.now) c.len-count.result c.in_ok-marks-in-None.marks.items e
    (c.in_ok-marks-in-None.ensures.items_if_clones_equal (λ y e. e)))

pub cone-requires-clause-range : goal.cone-requires-clause-range
cone-requires-clause-range c = subst (λ (z : Option ℕ). IsObserverIn c.args.gts.now z) c.in-Some.is c.requires.range

pub returns-in_ok-found-in-Some : goal.returns-in_ok-found-in-Some
returns-in_ok-found-in-Some c =
    let p = c.args.gts.now in
    let n = c.in-Some.n in
    let o = stands_some p.observers.items n (subst (λ (z : Option ℕ). IsObserverIn p z) c.in-Some.is c.requires.range) in
    let whole : c.len-count.result ≡ length c.parts.result.now.variables.items = search rules in
    let e : c.len-count.result ≡ length p.variables.items =
    whole ∙ ap (λ (z : GtsParts). length z.variables.items) c.parts.ensures.parts in
    marks_as _ _ c.marks_of.result
    (λ v h. subst (λ (z : Option ℕ). AreToldVariables p (reasons_of c.args.reasons.now) (observed p z) v.items) (sym c.in-Some.is)
    (told_cone p (reasons_of c.args.reasons.now) n o.0 (numbers_of c.in_ok-found-in-Some.found.items)
    c.len-count.result v.items o.1 (c.in_ok-found-in-Some.ensures o.0 o.1) e
    (subst (λ (z : List VarId). HasMarksAt c.len-count.result (numbers_of z) v.items) c.deref.ensures.value h)))
    c.marks_of.ensures
