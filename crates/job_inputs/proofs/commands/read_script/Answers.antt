use Rattle.std.proofs.Common.{map, ap, arith}
use Rattle.std.proofs.lemmas.Result.{err_from_is_err_and}
use Rattle.job_inputs.specs.Flat.{command_of}
use Rattle.job_inputs.specs.Reads.{lines_left}
use Rattle.job_inputs.proofs.ScriptLemmas.{reach_none, reach_more, reach_bad, reach_end, left_first, left_less, script_passed, firable_none}
use Rattle.job_inputs.proofs.commands.read_script.Goals as goal

pub loop-rest-init : goal.loop-rest-init
loop-rest-init c = record {
  small = omega arith;
  reached = λ x of. reach_none x _ _ (ap (map (command_of c.args.gts.now)) c.new-commands.ensures.items);
  firable = λ x of. firable_none c.args.gts.now _ c.new-commands.ensures.items;
}

pub returns-in_err-add_line : goal.returns-in_err-add_line
returns-in_err-add_line c = λ x of.
    let r = err_from_is_err_and c.from_residual.result c.from_residual.ensures.1 in
    script_passed x c.args.gts.now c.args.text.now _ _ _ r.1 r.2
    (reach_bad c.args.text.now _ _ _ _ _ _ (left_first _ _ _ _ c.in-Some.is c.first_line.ensures)
    (c.loop-rest.invariant.reached x of) (c.in_err-add_line.ensures.bad x of))

pub loop-rest-preserved : goal.loop-rest-preserved
loop-rest-preserved c = record {
  small = let h = left_less _ _ _ _ c.in-Some.is c.first_line.ensures in omega (arith, h, c.loop-rest.invariant.small);
  reached = λ x of.
      reach_more _ _ _ _ _ _ _ (left_first _ _ _ _ c.in-Some.is c.first_line.ensures)
      (c.loop-rest.invariant.reached x of) (c.in_ok-add_line.ensures.added x of);
  firable = λ x of. c.in_ok-add_line.ensures.firable x of (c.loop-rest.invariant.firable x of);
}

pub returns : goal.returns
returns c = λ x of. (
  reach_end c.args.text.now (lines_left c.loop-rest.rest) _ _ (ap lines_left c.in_default.is)
      (c.loop-rest.invariant.reached x of),
  c.loop-rest.invariant.firable x of,
)
