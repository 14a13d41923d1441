use Rattle.written_forms.proofs.Pairs.{set_both, two_items}
use Rattle.written_forms.proofs.two_way_assignments.both_ways.Goals as goal

pub returns : goal.returns
returns c =
    set_both c.args.first c.args.at c.args.second c.args.other c.push-2.new.self c.set_to.result c.set_to-2.result
    (two_items c.new-acts.result.items c.push.new.self.items c.push-2.new.self.items c.set_to.result c.set_to-2.result
    c.new-acts.ensures.items c.in_ok-push.ensures.items c.in_ok-push-2.ensures.items)
    c.set_to.ensures c.set_to-2.ensures
