use Rattle.std.proofs.Common.{◌≡◌, refl, sym, ◌∙◌, ap, arith, length}
use Rattle.std.proofs.lemmas.List.{take_at}
use Rattle.ar_syntax.specs.declared.members.Member.{out-Member}
use Rattle.ar_syntax.specs.declared.members.Member.TheViews as view
use Rattle.class_table.proofs.Laid.{so_far_there, on_start, on_next, on_end, member_block, member_plain, not_block}
use Rattle.class_table.proofs.laying.+laying.Goals as goal

pub lay_unit-loop-member-init : goal.lay_unit-loop-member-init
lay_unit-loop-member-init t c =
    let i = c.into_iter-member-iterator.ensures.into_iter_gives in
    let a = c.in_ok-id.ensures.added in
    record {
      laying = on_start _ _ _ _ _ _ a.body i.0 (i.1 ∙ (c.args.unit.members.ok.0 ∙ ap length (sym i.0)))
          c.new-own.ensures.items a.has_name a.has_place a.joined;
      few = c.in_ok-id.ensures.few;
    }

pub lay_unit-loop-member-preserved : goal.lay_unit-loop-member-preserved
lay_unit-loop-member-preserved t c = record {
  laying = on_next _ _ _ _ _ _ _ _ _ _ _ c.in-Some.ensures.steps.0 c.in-Some.ensures.steps.1
      c.loop-member.invariant.laying c.in_ok-lay_member.ensures.laid;
  few = c.in_ok-lay_member.ensures.few c.loop-member.invariant.few;
}

pub lay_unit-keep_own-requires : goal.lay_unit-keep_own-requires
lay_unit-keep_own-requires t c =
    let l = so_far_there _ _ _ _ _ _ c.loop-member.invariant.laying.so_far in
    let n = c.in_ok-id.ensures.number in
    rw c.deref_mut.ensures.value (omega (arith, l, n))

pub lay_unit-returns-clause-number : goal.lay_unit-returns-clause-number
lay_unit-returns-clause-number t c = c.in_ok-id.ensures.number

pub lay_unit-returns-clause-laid : goal.lay_unit-returns-clause-laid
lay_unit-returns-clause-laid t c =
    let e : length c.keep_own.new.bodies ≡ c.loop-member.bodies.len =
    (let a = c.keep_own.auto.bodies in let f = c.loop-member.bodies.ok.0 in let g = ap length c.deref_mut.ensures.value in omega arith) in
    rw (take_at c.keep_own.new.bodies _ _ e)
    (on_end _ _ _ _ _ _ _ _ c.in-None.ensures.steps.0 c.in_ok-id.ensures.number
    c.loop-member.invariant.laying (rw c.deref_mut.ensures.value at c.keep_own.ensures))

pub lay_unit-returns-clause-few : goal.lay_unit-returns-clause-few
lay_unit-returns-clause-few t c =
    let e : length c.keep_own.new.bodies ≡ c.loop-member.bodies.len =
    (let a = c.keep_own.auto.bodies in let f = c.loop-member.bodies.ok.0 in let g = ap length c.deref_mut.ensures.value in omega arith) in
    rw (take_at c.keep_own.new.bodies _ _ e)
    (let f = c.loop-member.bodies.ok.0 in let h = c.loop-member.invariant.few in omega arith)

pub lay_member-returns-in_ok-push-in-Block-clause-laid : goal.lay_member-returns-in_ok-push-in-Block-clause-laid
lay_member-returns-in_ok-push-in-Block-clause-laid t c = record {
  kept = _;
  added = c.in_ok-push-in-Block.ensures.items;
  laid = member_block c.in-Block.unit _ _ _ c.in_ok-body-in-Block.ensures.number c.in_ok-body-in-Block.ensures.laid
      (out-Member c.args.member) c.args.member (ap out-Member c.in-Block.is ∙ view.outs-Block c.in-Block.unit) refl;
}

pub lay_member-returns-in_ok-push-in-Block-clause-few : goal.lay_member-returns-in_ok-push-in-Block-clause-few
lay_member-returns-in_ok-push-in-Block-clause-few t c = λ few. c.in_ok-body-in-Block.ensures.few

pub lay_member-returns-in_ok-push-in_default-clause-laid : goal.lay_member-returns-in_ok-push-in_default-clause-laid
lay_member-returns-in_ok-push-in_default-clause-laid t c = record {
  kept = _;
  added = c.in_ok-push-in_default.ensures.items;
  laid = member_plain c.args.member _ (not_block c.args.member c.in_default.not-Block);
}

pub lay_member-returns-in_ok-push-in_default-clause-few : goal.lay_member-returns-in_ok-push-in_default-clause-few
lay_member-returns-in_ok-push-in_default-clause-few t c = λ few. few
