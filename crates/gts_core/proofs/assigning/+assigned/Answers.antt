use Rattle.std.proofs.Common.{◌≡◌, true, false, subst, ◌∙◌, refl, arith}
use borrow.Author.Count.{falls}
use Rattle.std.proofs.lemmas.Grind.{common_steps}
use Rattle.std.proofs.lemmas.Result.{on_ok_weaker}
use Rattle.gts_core.specs.Bound.{GivesAssigns, AreConditionCopies, conditions_in}
use Rattle.gts_core.proofs.ActForms.{gives_skip, gives_set, gives_if, gives_all, give_none, give_next, gives_under}
use Rattle.typed_expr.proofs.Shrinking as smaller
use Rattle.gts_core.proofs.ActsShrinking as shrinking
use Rattle.gts_core.proofs.assigning.+assigned.Goals as goal

pub all_assigned-loop-act-init : goal.all_assigned-loop-act-init
all_assigned-loop-act-init t c =
    record { given = give_none (conditions_in c.args.when.now.items) c.args.out.now.items; kept = refl }

pub all_assigned-loop-act-preserved : goal.all_assigned-loop-act-preserved
all_assigned-loop-act-preserved t c = record {
  given =
      give_next c.args.acts.now c.loop-act.act-index c.act-item.result (conditions_in c.args.when.now.items)
      c.args.out.now.items c.loop-act.out.items c.assigned.new.out.items c.loop-act-test.true c.act-item.is
      c.loop-act.invariant.given
      (subst (λ w. GivesAssigns c.act-item.result (conditions_in w) c.loop-act.out.items c.assigned.new.out.items)
      c.loop-act.invariant.kept c.in_ok-assigned.ensures.given);
  kept = c.in_ok-assigned.ensures.kept ∙ c.loop-act.invariant.kept;
}

pub assigned-returns-in-Skip-clause-given : goal.assigned-returns-in-Skip-clause-given
assigned-returns-in-Skip-clause-given t c =
    gives_skip c.args.act.now (conditions_in c.args.when.now.items) c.args.out.now.items c.in-Skip.is

pub assigned-returns-in_ok-push-in-Set-clause-given : goal.assigned-returns-in_ok-push-in-Set-clause-given
assigned-returns-in_ok-push-in-Set-clause-given t c =
    gives_set c.args.act.now (conditions_in c.args.when.now.items) c.args.out.now.items c.in-Set.target c.in-Set.value
    c.in_ok-value-in-Set.value c.in-Set.at c.in_ok-conditions-in-Set.conditions c.push.new.self.items c.in-Set.is
    (subst (λ w. AreConditionCopies (conditions_in w) c.in_ok-conditions-in-Set.conditions.items) c.deref.ensures.value
    c.in_ok-conditions-in-Set.ensures)
    c.in_ok-value-in-Set.ensures c.in_ok-push-in-Set.ensures.items

pub assigned-returns-in_ok-assigned-in-If-2-clause-given : goal.assigned-returns-in_ok-assigned-in-If-2-clause-given
assigned-returns-in_ok-assigned-in-If-2-clause-given t c =
    let back : c.pop.new.self.items ≡ c.args.when.now.items = grind (arith, common_steps) in
    gives_if c.args.act.now (conditions_in c.args.when.now.items) c.args.out.now.items c.in-If.test c.in-If.first
    c.in-If.second c.assigned.new.out.items c.assigned-in-If.new.out.items c.in-If.is
    (gives_under c.in-If.first.value c.args.when.now.items c.args.when.now.items c.push-in-If.new.self.items _ true
    c.deref-in-If.result.now c.args.out.now.items c.assigned.new.out.items refl c.in_ok-push-in-If.ensures.items c.deref-in-If.ensures
    c.in_ok-assigned-in-If.ensures.given)
    (gives_under c.in-If.second.value c.args.when.now.items c.pop.new.self.items
    c.push-in-If-2.new.self.items _ false c.deref-in-If-2.result.now c.assigned.new.out.items
    c.assigned-in-If.new.out.items back c.in_ok-push-in-If-2.ensures.items c.deref-in-If-2.ensures
    c.in_ok-assigned-in-If-2.ensures.given)

pub assigned-returns-in-All-clause-given : goal.assigned-returns-in-All-clause-given
assigned-returns-in-All-clause-given t c =
    on_ok_weaker c.all_assigned.result
    (λ h. gives_all c.args.act.now (conditions_in c.args.when.now.items) c.args.out.now.items c.in-All.acts
    c.deref-in-All.result.now c.all_assigned.new.out.items c.in-All.is c.deref-in-All.ensures.value h)
    c.all_assigned.ensures.given

-- each call is of a smaller instruction
pub all_assigned-loop-act-smaller : goal.all_assigned-loop-act-smaller
all_assigned-loop-act-smaller t c = falls _ c.loop-act.act-index c.loop-act-test.true

pub all_assigned-assigned-requires : goal.all_assigned-assigned-requires
all_assigned-assigned-requires t c = (
  smaller.item_falls _ _ t
      (shrinking.up-act c.args.acts.now c.loop-act.act-index c.act-item.result c.loop-act-test.true c.act-item.is)
      c.decreases,
  tt,
)

pub assigned-assigned-requires : goal.assigned-assigned-requires
assigned-assigned-requires t c = (
  smaller.one_falls _ _ t
      (shrinking.less-first c.args.act.now c.deref-in-If.result.now c.in-If.test c.in-If.first c.in-If.second
      c.in-If.is c.deref-in-If.ensures) c.decreases,
  tt,
)

pub assigned-assigned-requires-in-If : goal.assigned-assigned-requires-in-If
assigned-assigned-requires-in-If t c = (
  smaller.one_falls _ _ t
      (shrinking.less-second c.args.act.now c.deref-in-If-2.result.now c.in-If.test c.in-If.first c.in-If.second
      c.in-If.is c.deref-in-If-2.ensures) c.decreases,
  tt,
)

pub assigned-all_assigned-requires : goal.assigned-all_assigned-requires
assigned-all_assigned-requires t c = (
  smaller.list_falls _ _ t
      (shrinking.less-acts c.args.act.now c.in-All.acts c.deref-in-All.result.now c.in-All.is
      c.deref-in-All.ensures.value) c.decreases,
  tt,
)
