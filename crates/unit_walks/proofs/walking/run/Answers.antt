use Rattle.std.proofs.Common.{sym, ◌∙◌}
use Rattle.unit_walks.proofs.TableSteps.{extends_both}
use Rattle.unit_walks.proofs.Running.{went_on, went_into, kept_after, into_smaller, done_smaller, popped, finished, none_left}
use Rattle.unit_walks.proofs.walking.run.Goals as goal

pub walk-preserved-in-On : goal.walk-preserved-in-On
walk-preserved-in-On c = λ m f w.
    let i = c.walk.invariant m f w in
    let t = c.in_ok-next.ensures.step m c.walk.below.items f i.walking in
    record {
      walking = went_on m c.walk.below.items c.walk.top c.in-On.next c.walk.table c.take_step.new.table
          c.in_ok-next.field-0 c.in-On.is t;
      extends = extends_both i.extends t.extends;
    }

pub walk-preserved-in-Into : goal.walk-preserved-in-Into
walk-preserved-in-Into c = λ m f w.
    let i = c.walk.invariant m f w in
    let t = c.in_ok-next.ensures.step m c.walk.below.items f i.walking in
    record {
      walking = went_into m c.walk.below.items c.push.new.self.items c.walk.top c.in-Into.next c.walk.table
          c.take_step.new.table c.in_ok-next.field-0 c.in-Into.is c.in_ok-push-in-Into.ensures.items t;
      extends =
          extends_both i.extends t.extends;
    }

pub walk-smaller-in-Into : goal.walk-smaller-in-Into
walk-smaller-in-Into c = into_smaller c.walk.below.items c.push.new.self.items c.walk.top c.in-Into.next c.walk.table
    c.take_step.new.table c.in_ok-next.field-0 c.in-Into.is c.in_ok-push-in-Into.ensures.items
    c.in_ok-next.ensures.weighs

pub walk-preserved : goal.walk-preserved
walk-preserved c = λ m f w.
    let i = c.walk.invariant m f w in
    let t = c.in_ok-next.ensures.step m c.walk.below.items f i.walking in
    let k = kept_after m c.walk.below.items c.walk.top c.walk.table c.take_step.new.table c.keep_end.new.table
    c.in_ok-next.field-0 c.in-Done.is i.walking t (c.in_ok-keep_end-in-Done.ensures.kept m c.walk.below.items) in
    record {
      walking = popped m c.walk.below.items c.pop.new.self.items c.walk.top c.in-Some.next c.keep_end.new.table
          k.answered c.in-Some.ensures.items;
      extends = extends_both i.extends (extends_both t.extends k.extends);
    }

pub walk-smaller : goal.walk-smaller
walk-smaller c = done_smaller c.walk.below.items c.pop.new.self.items c.walk.top c.in-Some.next c.walk.table
    c.take_step.new.table c.keep_end.new.table c.in_ok-next.field-0 c.in-Done.is c.in-Some.ensures.items
    c.in_ok-next.ensures.weighs c.in_ok-keep_end-in-Done.ensures.same

pub returns-in-None : goal.returns-in-None
returns-in-None c = λ m f w.
    let i = c.walk.invariant m f w in
    let t = c.in_ok-next.ensures.step m c.walk.below.items f i.walking in
    let k = kept_after m c.walk.below.items c.walk.top c.walk.table c.take_step.new.table c.keep_end.new.table
    c.in_ok-next.field-0 c.in-Done.is i.walking t (c.in_ok-keep_end-in-Done.ensures.kept m c.walk.below.items) in
    finished m c.walk.below.items c.walk.top c.args.table.now c.walk.table c.keep_end.new.table k.answered
    (none_left c.walk.below.items (sym c.walk.below.ok.0 ∙ c.in-None.ensures.cases.0)) i.extends
    (extends_both t.extends k.extends)
