use Rattle.std.proofs.Common.{◌∙◌, map}
use Rattle.run_words.proofs.Program.{rows_found, refused, no_fault}
use Rattle.run_words.proofs.lines.matches.Goals as goal

pub returns-in-Ok-clause-rows : goal.returns-in-Ok-clause-rows
returns-in-Ok-clause-rows c = rows_found _ (map (λ w. w.now) c.args.words.now) c.in-Ok.matches c.in_ok-command.ensures
    c.in-Ok.ensures.matches

pub returns-clause-usage : goal.returns-clause-usage
returns-clause-usage c = λ e none. c.in_default.not-OutOfMemory (c.kind.ensures
    ∙ refused _ (map (λ w. w.now) c.args.words.now) c.in-Err.error c.in_ok-command.ensures c.in-Err.ensures.kinds none)

pub returns-in-Ok-clause-taken : goal.returns-in-Ok-clause-taken
returns-in-Ok-clause-taken c = no_fault _ (map (λ w. w.now) c.args.words.now) c.in_ok-command.ensures
    c.in-Ok.ensures.kinds
