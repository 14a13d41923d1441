use Rattle.std.proofs.Common.{[], get_or, refl, rules, ◌∙◌, arith}
use Rattle.ar_base.proofs.Standing.{stands_get, stands_item, stands_within, one_here}
use Rattle.flow_changes.specs.Gathering.{IsTargetOf}
use Rattle.flow_changes.proofs.Queueing.{no_reader}
use Rattle.flow_changes.proofs.Seeing.{none_targets, sees_nothing, targets_next, sees_done}
use Rattle.flow_changes.proofs.cone.see_targets.Goals as goal
use Rattle.flow_changes.proofs.Puts.{aims}

pub loop-assign-init : goal.loop-assign-init
loop-assign-init c = record {
  long = refl;
  marking = c.requires.marking;
  sees = sees_nothing (IsTargetOf c.args.parts.now []) c.args.marks.now.items c.args.found.now.items
      (λ k h. absurd (none_targets c.args.parts.now c.args.pairs.now k h));
}

pub index-requires : goal.index-requires
index-requires c =
    let pairs = c.args.pairs.now in
    let i = c.loop-assign.assign-index in
    let r = get_or pairs i no_reader in
    let h = c.requires.within r (one_here pairs i r (stands_get pairs i no_reader c.loop-assign-test.true)) in
    search (rules, h)

pub see-requires-clause-within : goal.see-requires-clause-within
see-requires-clause-within c =
    let p = c.args.parts.now in
    let pairs = c.args.pairs.now in
    let i = c.loop-assign.assign-index in
    let r = get_or pairs i no_reader in
    let h = c.requires.within r (one_here pairs i r (stands_get pairs i no_reader c.loop-assign-test.true)) in
    let a = c.index.result.now in
    let t = aims p a c.requires.sound (record
    { place = r.1.n; stands = stands_item p.assigns.items r.1.n a h c.index.ensures }) in
    let k = stands_within p.variables.items a.target.n t.variable t.stands in
    omega (arith, k, c.loop-assign.invariant.long, c.requires.long)

pub loop-assign-preserved : goal.loop-assign-preserved
loop-assign-preserved c =
    let p = c.args.parts.now in
    let pairs = c.args.pairs.now in
    let i = c.loop-assign.assign-index in
    let r = get_or pairs i no_reader in
    let at = stands_get pairs i no_reader c.loop-assign-test.true in
    let h = c.requires.within r (one_here pairs i r at) in
    let a = c.index.result.now in
    let e = c.in_ok-see.ensures in
    record {
      long = e.long ∙ c.loop-assign.invariant.long;
      marking = e.marking;
      sees = targets_next p pairs i r a at (stands_item p.assigns.items r.1.n a h c.index.ensures)
          c.args.marks.now.items c.loop-assign.marks.items c.see.new.marks.items c.args.found.now.items
          c.loop-assign.found.items c.see.new.found.items
          c.loop-assign.invariant.sees e.sees;
    }

pub returns-clause-sees : goal.returns-clause-sees
returns-clause-sees c = sees_done (IsTargetOf c.args.parts.now) c.args.pairs.now c.loop-assign.assign-index
    c.args.marks.now.items c.loop-assign.marks.items c.args.found.now.items c.loop-assign.found.items
    c.loop-assign-test.false c.loop-assign.invariant.sees
