use Rattle.std.proofs.Common.{◌<◌, length, get_or, subst, arith}
use Rattle.ar_base.proofs.Standing.{stands_get, stands_item, stands_one}
use Rattle.flow_reasons.specs.declared.fact_marks.Mark.{Mark}
use Rattle.flow_reasons.specs.declared.fact_marks.Mark.TheVariants.{Unknown}
use Rattle.flow_reasons.specs.Resting.{IsMarkedRest}
use Rattle.ar_meaning.proofs.Found.{holds, fails}
use Rattle.flow_reasons.proofs.RestRows.{adds_taken, adds_left}
use Rattle.flow_reasons.proofs.resting.add_rest.Goals as goal

pub returns-in_ok-push : goal.returns-in_ok-push
returns-in_ok-push c =
    let marks = c.args.marks.now in
    let t = c.args.target in
    let l : t < length c.args.rests.now.items = omega (arith, c.requires.target, c.requires.long) in
    adds_taken marks t c.args.variable c.args.assign c.args.rests.now.items c.index_mut.result.now c.push.new.self
    c.new.result l
    (stands_item c.args.rests.now.items t c.index_mut.result.now l c.index_mut.ensures.value) c.new.ensures
    c.in_ok-push.ensures.items
    (get_or marks t Unknown) (get_or marks c.args.variable Unknown) (stands_get marks t Unknown c.requires.target)
    (stands_get marks c.args.variable Unknown c.requires.variable)
    (holds _ _ c.if-is_rest.true c.is_rest.ensures)

pub returns-else-is_rest : goal.returns-else-is_rest
returns-else-is_rest c =
    let marks = c.args.marks.now in
    let t = c.args.target in
    let x = c.args.variable in
    adds_left marks t x c.args.assign c.args.rests.now.items
    (λ m o sm so h. fails _ _ c.if-is_rest.false c.is_rest.ensures
    (subst (λ (z : Mark). IsMarkedRest z c.args.assign (get_or marks x Unknown))
    (stands_one marks t m (get_or marks t Unknown) sm (stands_get marks t Unknown c.requires.target))
    (subst (λ (z : Mark). IsMarkedRest m c.args.assign z)
    (stands_one marks x o (get_or marks x Unknown) so (stands_get marks x Unknown c.requires.variable)) h)))
