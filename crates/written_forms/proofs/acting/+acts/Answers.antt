use Rattle.std.proofs.Common.{List, Option, Box, Global, ◌∙◌, ap, subst}
use Rattle.ar_base.proofs.Results.{ok_map}
use Rattle.ar_syntax.specs.declared.instructions.Instr.{Instr, out-Instr}
use Rattle.ar_syntax.specs.declared.instructions.Instr.TheOpen as instr
use Rattle.ar_syntax.proofs.Opened as opened
use Rattle.written_forms.specs.Acting.{ActsAs, All_act}
use Rattle.typed_expr.proofs.Shrinking as falls
use Rattle.written_forms.proofs.ActedForms as form
use Rattle.written_forms.proofs.InstructionsShrinking as smaller
use borrow.Author.Count as count
use Rattle.written_forms.proofs.acting.+acts.Goals as goal

pub acted-returns-in-Skip : goal.acted-returns-in-Skip
acted-returns-in-Skip g t c = form.skip_acted (g.L.Leaves.leaf_at c.args.leaves.now) c.args.instr.now
    (opened.instr-skip _ c.in-Skip.is)

pub all_acted-loop-instr-init : goal.all_acted-loop-instr-init
all_acted-loop-instr-init g t c = form.all_start (g.L.Leaves.leaf_at c.args.leaves.now) c.new-out.result.items
    c.new-out.ensures.items

pub all_acted-loop-instr-preserved : goal.all_acted-loop-instr-preserved
all_acted-loop-instr-preserved g t c =
    form.all_next (g.L.Leaves.leaf_at c.args.leaves.now) c.args.instrs.now c.loop-instr.instr-index c.instr-item.result
    c.in_ok-next.next c.loop-instr.out.items c.push.new.self.items c.loop-instr-test.true c.instr-item.is
    c.loop-instr.invariant c.in_ok-next.ensures c.in_ok-push.ensures.items

pub acted-returns-in-Assign : goal.acted-returns-in-Assign
acted-returns-in-Assign g t c =
    ok_map c.assigned.result (λ a h. form.moved (g.L.Leaves.leaf_at c.args.leaves.now) c.args.instr.now
    (instr.Assign c.in-Assign.path c.in-Assign.value) a (opened.instr-assign _ _ _ c.in-Assign.is) h)
    c.assigned.ensures

pub acted-returns-in-Tie : goal.acted-returns-in-Tie
acted-returns-in-Tie g t c =
    ok_map c.tied.result (λ a h. form.moved (g.L.Leaves.leaf_at c.args.leaves.now) c.args.instr.now
    (instr.Tie c.in-Tie.left c.in-Tie.right) a (opened.instr-tie _ _ _ c.in-Tie.is) h) c.tied.ensures

pub acted-returns-in-None : goal.acted-returns-in-None
acted-returns-in-None g t c =
    let leaves = (g.L.Leaves.leaf_at c.args.leaves.now) in
    let q = opened.instr-if _ _ _ _ c.in-If.is
    ∙ ap (λ (z : Option (Box Instr Global)). instr.If c.in-If.test c.in-If.first z) c.in-None.is in
    let h = subst (λ (i : Instr). ActsAs leaves (out-Instr i) c.in_ok-here-in-If.here) c.deref.ensures
    c.in_ok-here-in-If.ensures in
    ok_map c.conditional.result (λ a k. form.if_acted leaves c.args.instr.now c.in-If.test c.in-If.first
    c.in_ok-here-in-If.here a q h k) c.conditional.ensures

pub acted-returns-in_ok-there-in-Some : goal.acted-returns-in_ok-there-in-Some
acted-returns-in_ok-there-in-Some g t c =
    let leaves = (g.L.Leaves.leaf_at c.args.leaves.now) in
    let q = opened.instr-if _ _ _ _ c.in-If.is
    ∙ ap (λ (z : Option (Box Instr Global)). instr.If c.in-If.test c.in-If.first z) c.in-Some.is in
    let h = subst (λ (i : Instr). ActsAs leaves (out-Instr i) c.in_ok-here-in-If.here) c.deref.ensures
    c.in_ok-here-in-If.ensures in
    let m = subst (λ (i : Instr). ActsAs leaves (out-Instr i) c.in_ok-there-in-Some.there) c.deref-in-Some.ensures
    c.in_ok-there-in-Some.ensures in
    ok_map c.conditional-in-Some.result
    (λ a k. form.if_else_acted leaves c.args.instr.now c.in-If.test c.in-If.first c.in-Some.other
    c.in_ok-here-in-If.here c.in_ok-there-in-Some.there a q h m k)
    c.conditional-in-Some.ensures

pub acted-returns-in_ok-all_acted-in-All : goal.acted-returns-in_ok-all_acted-in-All
acted-returns-in_ok-all_acted-in-All g t c =
    let leaves = (g.L.Leaves.leaf_at c.args.leaves.now) in
    form.all_acted leaves c.args.instr.now c.in-All.instrs c.in_ok-all_acted-in-All.field-0
    (opened.instr-group _ _ c.in-All.is)
    (subst (λ (z : List Instr). All_act leaves z c.in_ok-all_acted-in-All.field-0.items) c.deref-in-All.ensures.value
    c.in_ok-all_acted-in-All.ensures)

-- each call is of something smaller
pub acted-acted-requires : goal.acted-acted-requires
acted-acted-requires g t c =
    λ κs within. (
      falls.one_falls _ _ t
          (smaller.less-first c.args.instr.now c.deref.result.now c.in-If.test c.in-If.first c.in-If.second c.in-If.is
          c.deref.ensures) c.decreases,
      (within, c.requires),
    )

pub acted-acted-requires-in-Some : goal.acted-acted-requires-in-Some
acted-acted-requires-in-Some g t c =
    λ κs within. (
      falls.one_falls _ _ t
          (smaller.less-second c.args.instr.now c.deref-in-Some.result.now c.in-If.test c.in-If.first c.in-If.second
          c.in-Some.other c.in-If.is c.in-Some.is c.deref-in-Some.ensures) c.decreases,
      (within, c.requires),
    )

pub acted-all_acted-requires : goal.acted-all_acted-requires
acted-all_acted-requires g t c =
    λ κs within. (
      falls.list_falls _ _ t
          (smaller.less-instrs c.args.instr.now c.in-All.instrs c.deref-in-All.result.now c.in-All.is
          c.deref-in-All.ensures.value) c.decreases,
      (within, c.requires),
    )

pub all_acted-loop-instr-smaller : goal.all_acted-loop-instr-smaller
all_acted-loop-instr-smaller g t c = count.falls _ c.loop-instr.instr-index c.loop-instr-test.true

pub all_acted-acted-requires : goal.all_acted-acted-requires
all_acted-acted-requires g t c =
    λ κs within. (
      falls.item_falls _ _ t
          (smaller.up-instr c.args.instrs.now c.loop-instr.instr-index c.instr-item.result c.loop-instr-test.true
          c.instr-item.is) c.decreases,
      (within, c.requires),
    )
