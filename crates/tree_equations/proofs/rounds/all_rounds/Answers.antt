use Rattle.std.proofs.Common.{ℕ, List, length, refl, sym, ◌∙◌, subst, add-one, Vec, Global}
use Rattle.ar_base.proofs.Standing.{one_here, stands_map, stands_item}
use Rattle.ar_base.proofs.Items.{none_left}
use Rattle.eq_build.specs.Views.{gates_in, row_at}
use Rattle.eq_build.proofs.Places.{item_next}
use Rattle.gts_core.specs.View.{net_of}
use Rattle.eq_build.specs.Steps.{Rounds, All_rounds}
use Rattle.tree_equations.specs.Answers.{TooMany}
use Rattle.tree_equations.specs.Blocks.{blocks_in}
use Rattle.tree_equations.specs.Index.{AreUnder}
use Rattle.tree_equations.proofs.Flowing.{BlocksSoFar, blocks_start, blocks_next, blocks_stop, blocks_end}
use Rattle.tree_equations.proofs.Giving.{gives_on}
use Rattle.tree_equations.proofs.rounds.all_rounds.Goals as goal

pub loop-block-init : goal.loop-block-init
loop-block-init c = record {
  few = c.requires.few;
  long = refl;
  so_far = blocks_start (net_of c.args.parts.now) c.args.blocks.now (gates_in c.args.gates.now.items)
      (row_at c.args.rows.now.items);
}

pub rounds-requires-clause-under : goal.rounds-requires-clause-under
rounds-requires-clause-under c =
    let bs = c.args.blocks.now in
    let i = c.loop-block.block-index in
    let b = c.block-item.result in
    let st = stands_map (λ (b : Vec ℕ Global). b.items) bs i b
    (stands_item bs i b c.loop-block-test.true c.block-item.is) in
    subst (λ (z : List ℕ). AreUnder (length c.args.parts.now.variables.items) z) (sym c.deref.ensures.value)
    (c.requires.under b.items (one_here (blocks_in bs) i b.items st))

pub loop-block-preserved : goal.loop-block-preserved
loop-block-preserved c =
    let net = net_of c.args.parts.now in
    let bs = c.args.blocks.now in
    let i = c.loop-block.block-index in
    let b = c.block-item.result in
    let h = gates_in c.loop-block.gates.items in
    let k = gates_in c.rounds.new.gates.items in
    let read = row_at c.loop-block.rows.items in
    let next = row_at c.rounds.new.rows.items in
    let made = c.in_ok-rounds.ensures.rounds in
    let d = subst (λ (z : List ℕ). Rounds net z (length z) h read next k) c.deref.ensures.value made.0 in
    record {
      few = made.1;
      long = c.in_ok-rounds.ensures.long ∙ c.loop-block.invariant.long;
      so_far = subst (λ (n : ℕ). BlocksSoFar net bs (gates_in c.args.gates.now.items) (row_at c.args.rows.now.items) n k
          next) (sym (add-one i))
          (blocks_next net bs (gates_in c.args.gates.now.items) (row_at c.args.rows.now.items) i h k read next b
          (item_next bs i b c.loop-block-test.true c.block-item.is) d c.loop-block.invariant.so_far);
    }

pub returns-in_err-rounds-clause-rounds : goal.returns-in_err-rounds-clause-rounds
returns-in_err-rounds-clause-rounds c =
    let net = net_of c.args.parts.now in
    let bs = c.args.blocks.now in
    let i = c.loop-block.block-index in
    let b = c.block-item.result in
    let g = gates_in c.args.gates.now.items in
    let h = gates_in c.loop-block.gates.items in
    let first = row_at c.args.rows.now.items in
    let read = row_at c.loop-block.rows.items in
    let block = c.deref.result.now in
    gives_on (λ _. row_at c.rounds.new.rows.items) (λ last e. All_rounds net (blocks_in bs) g first last e)
    (TooMany (λ last k. Rounds net block (length block) h read last k)) c.from_residual.result c.in_err-rounds.field-0.0
    c.rounds.new.gates.items
    (λ n. blocks_stop net bs g first i h read b (item_next bs i b c.loop-block-test.true c.block-item.is)
    c.loop-block.invariant.so_far
    (subst (λ (z : List ℕ). TooMany (λ last k. Rounds net z (length z) h read last k)) c.deref.ensures.value n))
    c.from_residual.ensures.1 c.in_err-rounds.ensures.rounds

pub returns-clause-rounds : goal.returns-clause-rounds
returns-clause-rounds c =
    let net = net_of c.args.parts.now in
    let bs = c.args.blocks.now in (
      blocks_end net bs (gates_in c.args.gates.now.items) (row_at c.args.rows.now.items) c.loop-block.block-index
          (gates_in c.loop-block.gates.items) (row_at c.loop-block.rows.items)
          (none_left bs c.loop-block.block-index c.loop-block-test.false) c.loop-block.invariant.so_far,
      c.loop-block.invariant.few,
    )
