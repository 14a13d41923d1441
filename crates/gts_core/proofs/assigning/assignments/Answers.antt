use Rattle.std.proofs.Common.{ap}
use Rattle.gts_core.specs.Bound.{conditions_in}
use Rattle.gts_core.proofs.ActForms.{give_whole, give_places}
use Rattle.gts_core.proofs.assigning.assignments.Goals as goal

pub returns : goal.returns
returns c = record {
  assigns = give_whole c.args.act.now (conditions_in c.new-when.result.items) c.new-out.result.items
      c.assigned.new.out.items (ap conditions_in c.new-when.ensures.items) c.new-out.ensures.items
      c.in_ok-assigned.ensures.given;
  places = give_places c.args.act.now (conditions_in c.new-when.result.items) c.new-out.result.items
      c.assigned.new.out.items c.new-out.ensures.items c.in_ok-assigned.ensures.given;
}
