use Rattle.std.proofs.Common.{[], sym, arith}
use Rattle.ar_base.proofs.Standing.{one_here}
use Rattle.class_table.proofs.MemberNames.{none_of}
use Rattle.unit_walks.specs.Settling.{KeepsAnswer}
use Rattle.unit_walks.proofs.TableSteps.{pair_apart}
use Rattle.unit_walks.proofs.Outcomes.{led_known, settling_start, settling_more, settles_unit}
use Rattle.unit_walks.proofs.Fronts.{name_there, names_length}
use Rattle.unit_walks.proofs.settling.settle_unit.Goals as goal

pub loop-named-init : goal.loop-named-init
loop-named-init c = λ m units u f are t p b q a s. settling_start m units c.args.at.n 0 c.args.table.now
    c.args.walks.now t s

pub loop-named-preserved : goal.loop-named-preserved
loop-named-preserved c = λ m units u f are t p b q a s.
    let w = c.loop-named.invariant m units u f are t p b q a s in
    let n = name_there m c.args.forms.now u c.args.node.outline.body.n c.in-Some.names.now c.loop-named.named-index
    c.named-item.result f b c.in-Some.ensures c.loop-named-test.true c.named-item.is in
    let x = c.named-item.result.name.n in
    let stands = w.run.extends.units c.args.node.unit u p in
    let d = led_known m units c.loop-named.table c.known.new.table c.args.node.unit x u c.in_ok-known.known
    c.led_by-led.result (c.in_ok-known.ensures m u f w.run.table stands) stands
    (λ k d. c.led_by-led.ensures m units c.args.node.unit x u f.names are k a (one_here units c.args.at.n u q) d) in
    let h = c.in_ok-insert.ensures.updates in
    let keeps : KeepsAnswer c.loop-named.walks (record { led = c.insert.new.self }) c.args.at.n x c.led_by-led.result = record {
      here = h.1;
      other = λ k y n. h.2 (k, y) (pair_apart c.args.at.n x k y n);
    } in
    settling_more m units c.args.at.n c.loop-named.named-index x c.args.table.now c.loop-named.table c.known.new.table
    c.loop-named.walks (record { led = c.insert.new.self }) u n.member c.led_by-led.result w d keeps q n.stands
    (sym n.is_name.name)

pub returns-in_default : goal.returns-in_default
returns-in_default c = λ m units u f are t p b q a s.
    let none = none_of c.list.result c.in_default.not-Some in
    let e = names_length m c.args.forms.now u c.args.node.outline.body.n [] f b (rw none at c.list.ensures) in
    settles_unit m units c.args.at.n 0 c.args.table.now c.args.table.now u
    c.args.walks.now q (omega (arith, e)) (settling_start m units c.args.at.n 0 c.args.table.now c.args.walks.now t s)

pub returns : goal.returns
returns c = λ m units u f are t p b q a s.
    let e = names_length m c.args.forms.now u c.args.node.outline.body.n c.in-Some.names.now f b c.in-Some.ensures in
    let z = c.loop-named-test.false in
    settles_unit m units c.args.at.n c.loop-named.named-index c.args.table.now c.loop-named.table u
    c.loop-named.walks q (omega (arith, e, z)) (c.loop-named.invariant m units u f are t p b q a s)
