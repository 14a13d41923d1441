use Rattle.std.proofs.Common.{get_or}
use Rattle.std.proofs.lemmas.List.{get_or_default}
use Rattle.ar_base.proofs.Standing.{stands_get, one_here}
use Rattle.eq_build.specs.Views.{gates_in, row_at}
use Rattle.eq_build.proofs.Places.{item_next}
use Rattle.gts_core.specs.View.{net_of}
use Rattle.eq_build.specs.Steps.{RoundOf}
use Rattle.tree_equations.specs.Answers.{row_in, itself}
use Rattle.tree_equations.proofs.Each.{each_start, each_next, each_stops, each_ends}
use Rattle.tree_equations.proofs.Determined.{round_one}
use Rattle.tree_equations.proofs.Rising.{round_more}
use Rattle.tree_equations.proofs.rounds.round.Goals as goal

pub flow_round-requires-clause-under : goal.flow_round-requires-clause-under
flow_round-requires-clause-under c =
    let b = c.args.block.now in
    let i = c.loop-n.n-index in
    c.requires.under (get_or b i 0) (one_here b i (get_or b i 0) (stands_get b i 0 c.loop-n-test.true))

pub loop-n-init : goal.loop-n-init
loop-n-init c =
    let read = row_at c.args.rows.now in
    let net = net_of c.args.parts.now in
    record {
      few = c.requires.few;
      so_far = each_start itself row_in (RoundOf net read) (round_one read net) (round_more read net)
          (gates_in c.args.gates.now.items) c.args.block.now c.new-new.result.items c.new-new.ensures.items;
    }

pub loop-n-preserved : goal.loop-n-preserved
loop-n-preserved c =
    let read = row_at c.args.rows.now in
    let net = net_of c.args.parts.now in
    let b = c.args.block.now in
    let i = c.loop-n.n-index in
    let n = get_or b i 0 in
    record {
      few = c.in_ok-row.ensures.1;
      so_far = each_next itself row_in (RoundOf net read) (round_one read net) (round_more read net)
          (gates_in c.args.gates.now.items) (gates_in c.loop-n.gates.items) (gates_in c.flow_round.new.gates.items) b i
          n
          c.loop-n.new.items c.push.new.self.items c.in_ok-row.row
          (item_next b i n c.loop-n-test.true (get_or_default b i 0 n c.loop-n-test.true)) c.in_ok-row.ensures.0
          c.in_ok-push.ensures.items c.loop-n.invariant.so_far;
    }

pub returns-in_err-row : goal.returns-in_err-row
returns-in_err-row c =
    let read = row_at c.args.rows.now in
    let net = net_of c.args.parts.now in
    let b = c.args.block.now in
    let i = c.loop-n.n-index in
    let n = get_or b i 0 in
    each_stops itself row_in (RoundOf net read) (round_one read net) (round_more read net)
    (gates_in c.args.gates.now.items) (gates_in c.loop-n.gates.items) b i n c.loop-n.new.items c.from_residual.result
    c.in_err-row.field-0.0 c.flow_round.new.gates.items
    (item_next b i n c.loop-n-test.true (get_or_default b i 0 n c.loop-n-test.true)) c.loop-n.invariant.so_far
    c.from_residual.ensures.1 c.in_err-row.ensures

pub returns : goal.returns
returns c =
    let read = row_at c.args.rows.now in
    let net = net_of c.args.parts.now in (
      each_ends itself row_in (RoundOf net read) (round_one read net) (round_more read net)
          (gates_in c.args.gates.now.items) (gates_in c.loop-n.gates.items) c.args.block.now c.loop-n.n-index
          c.loop-n.new.items c.loop-n-test.false c.loop-n.invariant.so_far,
      c.loop-n.invariant.few,
    )
