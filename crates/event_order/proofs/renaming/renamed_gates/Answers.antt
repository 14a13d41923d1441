use Rattle.std.proofs.Common.{map, sym, subst, []}
use Rattle.ar_base.specs.Lists.{Along, none}
use Rattle.eq_core.specs.Views.{gate_of}
use Rattle.event_order.specs.Renumbered.{IsRenamedGate}
use Rattle.event_order.proofs.ItemWise.{along_more}
use Rattle.event_order.proofs.renaming.renamed_gates.Goals as goal

pub loop-gate-init : goal.loop-gate-init
loop-gate-init c =
    subst (λ z. Along (IsRenamedGate c.args.numbers.now.names.items) [] (map gate_of z)) (sym c.new-made.ensures.items) none

pub loop-gate-preserved : goal.loop-gate-preserved
loop-gate-preserved c =
    along_more gate_of gate_of c.args.gates.now c.loop-gate.gate-index c.loop-gate.made.items c.loop-gate.invariant
    c.gate-item.result c.gate-item.result c.in_ok-renamed_gate.field-0 c.push.new.self.items c.loop-gate-test.true c.gate-item.is
    c.in_ok-push.ensures.items c.in_ok-renamed_gate.ensures
