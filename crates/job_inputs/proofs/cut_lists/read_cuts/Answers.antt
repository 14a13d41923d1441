use Rattle.std.proofs.Common.{map, ap, arith}
use Rattle.std.proofs.lemmas.Result.{err_from_is_err_and}
use Rattle.job_inputs.specs.Chains.{cut_of}
use Rattle.job_inputs.specs.Reads.{lines_left}
use Rattle.job_inputs.proofs.CutListLemmas.{read_none, read_more, read_bad, read_end, list_passed, chains_none}
use Rattle.job_inputs.proofs.ScriptLemmas.{left_first, left_less}
use Rattle.job_inputs.proofs.cut_lists.read_cuts.Goals as goal

pub loop-rest-init : goal.loop-rest-init
loop-rest-init c = record {
  small = omega arith;
  reached = λ x of. read_none x _ _ (ap (map (cut_of c.args.gts.now)) c.new-chains.ensures.items);
  known = λ x of. chains_none c.args.gts.now _ c.new-chains.ensures.items;
}

pub returns-in_err-add_cut-clause-cuts : goal.returns-in_err-add_cut-clause-cuts
returns-in_err-add_cut-clause-cuts c = λ x of.
    let r = err_from_is_err_and c.from_residual.result c.from_residual.ensures.1 in
    list_passed x c.args.gts.now c.args.text.now _ _ _ r.1 r.2
    (read_bad c.args.text.now _ _ _ _ _ _ (left_first _ _ _ _ c.in-Some.is c.first_line.ensures)
    (c.loop-rest.invariant.reached x of) (c.in_err-add_cut.ensures.bad x of))

pub loop-rest-preserved : goal.loop-rest-preserved
loop-rest-preserved c = record {
  small = let h = left_less _ _ _ _ c.in-Some.is c.first_line.ensures in omega (arith, h, c.loop-rest.invariant.small);
  reached = λ x of.
      read_more _ _ _ _ _ _ _ (left_first _ _ _ _ c.in-Some.is c.first_line.ensures)
      (c.loop-rest.invariant.reached x of) (c.in_ok-add_cut.ensures.added x of);
  known = λ x of. c.in_ok-add_cut.ensures.known x of (c.loop-rest.invariant.known x of);
}

pub returns-clause-cuts : goal.returns-clause-cuts
returns-clause-cuts c = λ x of. (
  read_end c.args.text.now (lines_left c.loop-rest.rest) _ _ (ap lines_left c.in_default.is)
      (c.loop-rest.invariant.reached x of),
  c.loop-rest.invariant.known x of,
)

pub returns-clause-known : goal.returns-clause-known
returns-clause-known c = c.loop-rest.invariant.known c.requires.tree.0 c.requires.tree.1
