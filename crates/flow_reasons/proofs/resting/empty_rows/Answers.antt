use Rattle.std.proofs.Common.{◌≡◌, arith, subst}
use Rattle.flow_reasons.specs.Resting.{AreEmpty}
use Rattle.flow_reasons.proofs.RestRows.{empty_none, empty_more}
use Rattle.flow_reasons.proofs.resting.empty_rows.Goals as goal

pub rows-init : goal.rows-init
rows-init c = empty_none _ c.new-rests.ensures.items

pub rows-preserved : goal.rows-preserved
rows-preserved c = empty_more c.rows._row c.rows.rests.items c.push.new.self.items c.new.result c.rows.invariant
    c.new.ensures.items c.in_ok-push.ensures.items

pub returns : goal.returns
returns c =
    let e : c.rows._row ≡ c.args.count = omega arith in
    subst (λ n. AreEmpty n c.rows.rests.items) e c.rows.invariant
