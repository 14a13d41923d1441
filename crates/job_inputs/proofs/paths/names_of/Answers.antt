use Rattle.std.proofs.Common.{List, ap}
use Rattle.ar_base.specs.Numbers.{NameId}
use Rattle.hierarchy.specs.Units.{numbers}
use Rattle.job_inputs.proofs.PathLemmas.{spelled_none, spelled_more, spelled_not, left_piece}
use Rattle.job_inputs.proofs.paths.names_of.Goals as goal

pub loop-rest-init : goal.loop-rest-init
loop-rest-init c = record {
  spelled = spelled_none _ _ _
      (ap (λ (ns : List NameId). numbers ns) c.new-names.ensures.items);
  different = λ e. absurd (cc e);
}

pub returns-in_default-find_bytes-clause-names : goal.returns-in_default-find_bytes-clause-names
returns-in_default-find_bytes-clause-names c =
    spelled_not c.args.path.now _ _ _ _ (left_piece _ _ _ _ c.in-Some.is c.first_piece.ensures)
    (c.in_default-find_bytes.ensures.absent) c.loop-rest.invariant.spelled

pub loop-rest-preserved : goal.loop-rest-preserved
loop-rest-preserved c = record {
  spelled = spelled_more _ _ _ _ _ _ c.in-Some-find_bytes.name (left_piece _ _ _ _ c.in-Some.is c.first_piece.ensures)
      c.in_ok-push.ensures.items c.in-Some-find_bytes.ensures.found c.loop-rest.invariant.spelled;
  different = λ e. c.in-Some-find_bytes.ensures.different;
}
