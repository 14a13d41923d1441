use Rattle.std.proofs.Common.{map, get_or, refl, sym, arith, true≢false}
use Rattle.std.proofs.lemmas.List.{length-map}
use Rattle.ar_base.proofs.Standing.{stands_get, stands_map}
use Rattle.eq_core.specs.declared.joints.Operand.TheVariants.{Always}
use Rattle.eq_core.specs.Views.{operand_of}
use Rattle.coherent_cuts.proofs.Folding.{plain_more, plain_all}
use Rattle.coherent_cuts.proofs.coherent.are_plain.Goals as goal

pub loop-operand-init : goal.loop-operand-init
loop-operand-init c = record { each = λ j o lt st. absurd (omega (arith, lt)) }

pub returns-then-not-is_plain : goal.returns-then-not-is_plain
returns-then-not-is_plain c =
    let os = c.args.operands.now in
    let k = c.loop-operand.operand-index in
    let st = stands_map operand_of os k (get_or os k Always) (stands_get os k Always c.loop-operand-test.true) in (
      λ e. absurd (true≢false (sym e)),
      λ p. c.if-not-is_plain.ensures.1 (p.each (operand_of (get_or os k Always)) (record { place = k; stands = st })),
    )

pub loop-operand-preserved : goal.loop-operand-preserved
loop-operand-preserved c =
    let os = c.args.operands.now in
    let k = c.loop-operand.operand-index in
    let st = stands_map operand_of os k (get_or os k Always) (stands_get os k Always c.loop-operand-test.true) in
    plain_more (map operand_of os) k (operand_of (get_or os k Always)) st (c.if-not-is_plain.ensures.0 refl)
    c.loop-operand.invariant

pub returns : goal.returns
returns c =
    let os = c.args.operands.now in (
      λ e. plain_all (map operand_of os) c.loop-operand.operand-index
          (omega (arith, length-map os operand_of, c.loop-operand-test.false)) c.loop-operand.invariant,
      λ p. refl,
    )
