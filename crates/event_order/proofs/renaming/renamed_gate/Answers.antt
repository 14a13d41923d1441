use Rattle.std.proofs.Common.{◌<◌, List, length, map, get_or, refl, sym, ap, subst, arith, []}
use Rattle.ar_base.specs.Lists.{Along, none}
use Rattle.eq_core.specs.declared.joints.Operand.{Operand}
use Rattle.eq_core.specs.declared.joints.Operand.TheVariants.{Always}
use Rattle.eq_core.specs.Views.{operand_of}
use Rattle.event_order.specs.Renumbered.{IsRenamed}
use Rattle.event_order.proofs.ItemWise.{along_more, along_all}
use Rattle.event_order.proofs.renaming.renamed_gate.Goals as goal

pub loop-operand-init : goal.loop-operand-init
loop-operand-init c =
    subst (λ z. Along (IsRenamed c.args.numbers.now.names.items) [] (map operand_of z)) (sym c.new-operands.ensures.items) none

pub loop-operand-preserved : goal.loop-operand-preserved
loop-operand-preserved c =
    let xs = c.args.gate.now.operands.items in
    let i = c.loop-operand.operand-index in
    let is = c.deref-operand-items.ensures.value in
    let x = get_or c.deref-operand-items.result.now i Always in
    let inside : i < length xs = (let h = c.loop-operand-test.true in let k = ap length is in omega arith) in
    along_more operand_of operand_of xs i c.loop-operand.operands.items c.loop-operand.invariant Always x c.renamed.result
    c.push.new.self.items inside (ap (λ (z : List Operand). get_or z i Always) is) c.in_ok-push.ensures.items c.renamed.ensures

pub returns : goal.returns
returns c =
    let xs = c.args.gate.now.operands.items in
    record {
      both = refl;
      operands = along_all operand_of operand_of xs c.loop-operand.operand-index c.loop-operand.operands.items
          c.loop-operand.invariant
          (let h = c.loop-operand-test.false in let k = ap length c.deref-operand-items.ensures.value in omega arith);
    }
