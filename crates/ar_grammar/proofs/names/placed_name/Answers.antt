use Rattle.std.proofs.Common.{refl}
use Rattle.expression_grammar.proofs.Finding.{finds_err, finds_ok}
use Rattle.ar_grammar.proofs.names.placed_name.Goals as goal
use Rattle.expression_grammar.proofs.Standing.{halts_err}

pub returns-in_err-name-clause-only : goal.returns-in_err-name-clause-only
returns-in_err-name-clause-only c = λ left. finds_err (c.in_err-name.ensures.only left) c.from_residual.ensures.1

pub returns-clause-found : goal.returns-clause-found
returns-clause-found c = let f = c.in_ok-name.ensures.found in
    record {
      front = _;
      split = f.0;
      form = record
          { one = c.in_ok-name.name; alone = refl; of_kind = f.1; number = refl; place = refl };
    }

pub returns-clause-only : goal.returns-clause-only
returns-clause-only c = λ left. finds_ok _ (c.in_ok-name.ensures.only left)

pub returns-in_err-name-clause-stuck : goal.returns-in_err-name-clause-stuck
returns-in_err-name-clause-stuck c = λ left. halts_err _ _ c.from_residual.ensures.1 (c.in_err-name.ensures.stuck left)
