use Rattle.std.proofs.Common.{sym}
use Rattle.ar_grammar.specs.Items.{ReadsItems}
use Rattle.ar_grammar.proofs.ItemParts.{model_fails, model_refuses, model_over, model_behind, model_found, empty_list, some_list}
use Rattle.ar_grammar.proofs.items.model.Goals as goal

pub returns-in_err-items-clause-only : goal.returns-in_err-items-clause-only
returns-in_err-items-clause-only c =
    model_fails _ _ c.from_residual.ensures.1 c.requires.plain c.in_err-items.ensures.only

pub returns-in_err-items-clause-stuck : goal.returns-in_err-items-clause-stuck
returns-in_err-items-clause-stuck c =
    model_refuses _ _ c.from_residual.ensures.1 c.requires.plain c.in_err-items.ensures.only
    c.in_err-items.ensures.stuck

pub returns-then-is_empty-clause-found : goal.returns-then-is_empty-clause-found
returns-then-is_empty-clause-found c =
    model_found (ReadsItems c.args.left c.in_ok-items.items.items) c.in_ok-items.ensures.found
    (empty_list _ (sym c.if-is_empty.ensures))

pub returns-clause-only : goal.returns-clause-only
returns-clause-only c = λ n h. absurd
    (model_over c.requires.plain c.in_ok-items.ensures.only (some_list _ (sym c.if-is_empty.ensures)) n h)

pub returns-clause-stuck : goal.returns-clause-stuck
returns-clause-stuck c = model_behind c.in_ok-items.items.items c.requires.plain c.in_ok-items.ensures.only
    c.in_ok-items.ensures.found (some_list _ (sym c.if-is_empty.ensures))
