use Rattle.std.proofs.Common.{sym, ap}
use Rattle.flow_reasons.specs.Resting.{came_before}
use Rattle.flow_reasons.specs.declared.fact_marks.Mark.{Mark}
use Rattle.flow_reasons.proofs.RestRows.{rest_answer}
use Rattle.flow_reasons.proofs.resting.is_rest.Goals as goal

pub returns-in-Unknown : goal.returns-in-Unknown
returns-in-Unknown c = rest_answer c.args.mark c.in-Added.round c.in-Added.by c.args.assign c.args.other _ c.in-Added.is
    c.if-by-assign.false (ap (λ (z : Mark). came_before z c.in-Added.round) (sym c.in-Unknown.is))

pub returns-in-Given : goal.returns-in-Given
returns-in-Given c = rest_answer c.args.mark c.in-Added.round c.in-Added.by c.args.assign c.args.other _ c.in-Added.is
    c.if-by-assign.false (ap (λ (z : Mark). came_before z c.in-Added.round) (sym c.in-Given.is))

pub returns-in-Added-other : goal.returns-in-Added-other
returns-in-Added-other c = rest_answer c.args.mark c.in-Added.round c.in-Added.by c.args.assign c.args.other _ c.in-Added.is
    c.if-by-assign.false (ap (λ (z : Mark). came_before z c.in-Added.round) (sym c.in-Added-other.is))
