use Rattle.std.proofs.Common.{Contains, sym}
use Rattle.flow_propagate.proofs.Others.{two_answer}
use Rattle.flow_propagate.proofs.fact_rows.is_two.Goals as goal
use Rattle.domains.proofs.Members.{first-in}

pub returns-in-Some : goal.returns-in-Some
returns-in-Some c =
    let in_row : Contains c.args.row.now c.in-Some.v.now =
    first-in c.args.row.now c.in-Some.v.now (sym c.in-Some.ensures.value) in
    two_answer c.args.is_state c.args.row.now c.in-Some.v.now c.has_other.result c.if-is_state.false in_row
    c.has_other.ensures
