use Rattle.std.proofs.Common.{◌≡◌, true, false, sym, ap, ◌∙◌}
use Rattle.expression_grammar.specs.Results.{first_token_kind}
use Rattle.ar_grammar.specs.Results.{begins_item}
use Rattle.expression_grammar.proofs.Finding.{finds_memory, loops_stop, loops_fail, loops_next, gathers_push, err_memory}
use Rattle.ar_grammar.proofs.ItemParts.{item_begins, item_open, items_follow, item_shorter}
use Rattle.ar_grammar.proofs.items.more_items.Goals as goal
use Rattle.expression_grammar.proofs.Standing.{halts_err, refuses_turn, passes, turns_each, halts_memory}
use Rattle.ar_grammar.proofs.ItemParts.{turns_item, unsigned_past}

pub returns-in_err-item-clause-only : goal.returns-in_err-item-clause-only
returns-in_err-item-clause-only c =
    loops_fail c.loop-parser.invariant.0.loops
    (item_open (first_token_kind c.loop-parser.parser.rest.now) (ap begins_item (sym c.kind.ensures) ∙ sym c.loop-parser-test.ensures))
    c.in_err-item.ensures.only c.from_residual.ensures.1 items_follow

pub returns-in_err-put-clause-only : goal.returns-in_err-put-clause-only
returns-in_err-put-clause-only c = let l = loops_next c.loop-parser.invariant.0.loops (item_open (first_token_kind c.loop-parser.parser.rest.now) (ap begins_item (sym c.kind.ensures) ∙ sym c.loop-parser-test.ensures)) c.in_ok-item.ensures.only items_follow in finds_memory l.front l.passed (err_memory _ _ c.from_residual-in_err-put.ensures.1 c.in_err-put.ensures.err)

pub loop-parser-preserved : goal.loop-parser-preserved
loop-parser-preserved c = (
  gathers_push c.loop-parser.invariant.0
      (item_open (first_token_kind c.loop-parser.parser.rest.now) (ap begins_item (sym c.kind.ensures) ∙ sym c.loop-parser-test.ensures))
      c.in_ok-item.ensures.found c.in_ok-item.ensures.only items_follow c.in_ok-put.ensures.items,
  unsigned_past
      c.in_ok-item.ensures.found c.loop-parser.invariant.1,
)

pub returns-clause-only : goal.returns-clause-only
returns-clause-only c = loops_stop c.loop-parser.invariant.0.loops (λ n next ts h k. let x : true ≡ false = sym (item_begins n next ts h) ∙ ap begins_item (k ∙ sym c.kind.ensures) ∙ sym c.loop-parser-test.ensures in absurd (cc))

pub loop-parser-smaller : goal.loop-parser-smaller
loop-parser-smaller c = item_shorter c.args.left c.in_ok-item.item c.in_ok-item.ensures.found

pub returns-in_err-item-clause-stuck : goal.returns-in_err-item-clause-stuck
returns-in_err-item-clause-stuck c = let g = c.loop-parser.invariant.0 in halts_err _ _ c.from_residual.ensures.1 (refuses_turn (passes g.taken (λ m l. turns_each (turns_item _ m l) g.more)) c.in_err-item.ensures.stuck)

pub returns-in_err-put-clause-stuck : goal.returns-in_err-put-clause-stuck
returns-in_err-put-clause-stuck c =
    halts_memory _ _ _ _ _ (err_memory _ _ c.from_residual-in_err-put.ensures.1 c.in_err-put.ensures.err)
