use Rattle.std.proofs.Common.{Result, Err, Vec, Global, subst}
use Rattle.ar_meaning.proofs.OneAnswer.{flows_same}
use Rattle.gts_core.specs.View.{net_of}
use Rattle.flow_propagate.specs.declared.propagation.PropagateFault.{PropagateFault}
use Rattle.flow_reasons.specs.Answers.{IsReasonsAnswer}
use Rattle.flow_reasons.specs.declared.reason.Reason.{Reason}
use Rattle.reason_text.proofs.printing.reasons_in.Goals as goal

pub unreachable-requires : goal.unreachable-requires
unreachable-requires c =
    let net = net_of c.args.gts.now in
    let t = c.args.state.now.values.items in
    let h = subst (λ (z : PropagateFault). IsReasonsAnswer net t (Err z)) c.in-Err-Flow.field-0-is
    (subst (λ (z : Result (Vec Reason Global) PropagateFault). IsReasonsAnswer net t z) c.in-Err-Flow.is
    c.reasons.ensures) in
    let e = flows_same net c.requires.flows.flows h in cc (e)
