use Rattle.std.proofs.Common.{◌≡◌, Bool, true, List, length, reverse, sym, ap, ◌∙◌, subst}
use Rattle.domains.specs.declared.Value.{Value}
use Rattle.gts_core.specs.declared.system.GtsParts.{GtsParts}
use Rattle.flow_changes.specs.Changes.{AreChanges}
use Rattle.flow_changes.specs.Restoring.{restored}
use Rattle.flow_changes.proofs.Found.{changes_back}
use Rattle.ar_base.specs.Lists.{Stands}
use Rattle.way_flags.specs.Turning.{flags_turned}
use Rattle.stepper.specs.Changes.{Point, IsPoint, point_at, before, AreToldSteps}
use Rattle.stepper.specs.Keeping.{point_of}
use Rattle.stepper.specs.Steps.{Standing}
use Rattle.stepper.proofs.Going.{told_back, same_point}
use Rattle.stepper.proofs.stepper.Stepper.back.Goals as goal

pub restore-requires-clause-long : goal.restore-requires-clause-long
restore-requires-clause-long c =
    let s = c.self.inside in
    (told_back s.gts.now (point_of s) s.steps.items c.pop.new.self.items c.in-Some.changed c.in-Some.ensures.items
    c.self.invariant.told).0.long

pub returns-clause-changed : goal.returns-clause-changed
returns-clause-changed c =
    let s = c.self.inside in
    let step = c.in-Some.changed in
    let xs = step.flows.variables.items in
    let told = (told_back s.gts.now (point_of s) s.steps.items c.pop.new.self.items step c.in-Some.ensures.items
    c.self.invariant.told).0 in
    let here = (point_of s).values in
    let there = (before s.gts.now (point_of s) step).values in
    let back : c.restore.new.present.determined.values.values.items ≡ there =
    c.restore.ensures.values ∙ ap (λ (z : GtsParts). restored z here xs step.flows.old.items)
    c.parts.ensures.parts in
    let seen : here ≡ c.args.self.now.values = ap (λ (z : Standing). z.values) c.self.view_is in
    subst (λ (z : List Value). AreChanges z c.restore.new.present.determined.values.values.items xs) seen
    (subst (λ (z : List Value). AreChanges here z xs) (sym back) (changes_back there here xs told.changes))

pub invariant_of-self-2 : goal.invariant_of-self-2
invariant_of-self-2 c =
    let s = c.self.inside in
    let p = s.gts.now in
    let step = c.in-Some.changed in
    let rest = c.pop.new.self.items in
    let here = point_of s in
    let there = before p here step in
    let told = told_back p here s.steps.items rest step c.in-Some.ensures.items c.self.invariant.told in
    let values : c.restore.new.present.determined.values.values.items ≡ there.values =
    c.restore.ensures.values ∙ ap (λ (z : GtsParts). restored z here.values step.flows.variables.items
    step.flows.old.items) c.parts.ensures.parts in
    let can : c.turn.new.flags.items ≡ there.can = c.turn.ensures ∙ ap (flags_turned s.can.items) c.deref.ensures.value in
    let same : point_at c.restore.new.present c.turn.new.flags.items ≡ there =
    same_point (point_at c.restore.new.present c.turn.new.flags.items) there values c.restore.ensures.known
    can in
    let point : IsPoint p (point_at c.restore.new.present c.turn.new.flags.items) =
    subst (λ (z : Point). IsPoint p z) (sym same) told.0.point in
    record {
      present = record {
        determined = point.determined;
        long = ap length c.restore.ensures.marks ∙ c.self.invariant.present.long;
        unset = λ n st. c.self.invariant.present.unset n
            (subst (λ (z : List Bool). Stands z n true) c.restore.ensures.marks st);
      };
      flags = point.flags;
      told = subst (λ (z : Point). AreToldSteps p z (reverse rest)) (sym same) told.1;
      plan = c.self.invariant.plan;
      index = c.self.invariant.index;
    }
