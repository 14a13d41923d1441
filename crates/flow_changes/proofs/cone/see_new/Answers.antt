use Rattle.std.proofs.Common.{[], get_or, refl, ◌∙◌, arith}
use Rattle.ar_base.proofs.Standing.{stands_get}
use Rattle.flow_propagate.specs.NewValues.{IsRenewed}
use Rattle.flow_changes.proofs.Begun.{no_pair, new_within}
use Rattle.flow_changes.proofs.Seeing.{none_renewed, sees_nothing, renewed_next, sees_done}
use Rattle.flow_changes.proofs.cone.see_new.Goals as goal

pub loop-variable-init : goal.loop-variable-init
loop-variable-init c = record {
  long = refl;
  marking = c.requires.marking;
  sees = sees_nothing (IsRenewed []) c.args.marks.now.items c.args.found.now.items
      (λ k h. absurd (none_renewed c.args.new.now k h));
}

pub see-requires-clause-within : goal.see-requires-clause-within
see-requires-clause-within c =
    let new = c.args.new.now in
    let i = c.loop-variable.variable-index in
    let h = new_within new c.args.marks.now.items c.requires.within i (get_or new i no_pair)
    (stands_get new i no_pair c.loop-variable-test.true) in
    omega (arith, h, c.loop-variable.invariant.long)

pub loop-variable-preserved : goal.loop-variable-preserved
loop-variable-preserved c =
    let new = c.args.new.now in
    let i = c.loop-variable.variable-index in
    let e = c.in_ok-see.ensures in
    record {
      long = e.long ∙ c.loop-variable.invariant.long;
      marking = e.marking;
      sees = renewed_next new i (get_or new i no_pair) (stands_get new i no_pair c.loop-variable-test.true)
          c.args.marks.now.items c.loop-variable.marks.items c.see.new.marks.items c.args.found.now.items
          c.loop-variable.found.items c.see.new.found.items
          c.loop-variable.invariant.sees e.sees;
    }

pub returns-clause-sees : goal.returns-clause-sees
returns-clause-sees c = sees_done IsRenewed c.args.new.now c.loop-variable.variable-index c.args.marks.now.items
    c.loop-variable.marks.items c.args.found.now.items c.loop-variable.found.items c.loop-variable-test.false
    c.loop-variable.invariant.sees
