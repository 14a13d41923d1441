use Rattle.std.proofs.Common.{refl, ◌∙◌}
use Rattle.expression_grammar.proofs.Finding.{finds_given, finds_ok, finds_token}
use Rattle.ar_grammar.proofs.UnreadParts.{kept_grouped, kept_bracketed, kept_plain, kept_token_given}
use Rattle.ar_grammar.proofs.unread.kept_piece.Goals as goal
use Rattle.expression_grammar.proofs.Standing.{halts_over, refuses_map}
use Rattle.std.proofs.Common.{inr}

pub returns-then-is_at-clause-found : goal.returns-then-is_at-clause-found
returns-then-is_at-clause-found c = kept_grouped c.args.left _ _ _ c.unread_group.ensures.found

pub returns-then-is_at-clause-only : goal.returns-then-is_at-clause-only
returns-then-is_at-clause-only c = finds_given c.unread_group.ensures.only
    (λ n next ts h s k. (kept_bracketed n next ts h (k ∙ c.if-is_at.ensures.yes), s))

pub returns-clause-found : goal.returns-clause-found
returns-clause-found c = kept_plain c.args.left c.skip.ensures.taken c.requires c.if-is_at.ensures.no

pub returns-clause-only : goal.returns-clause-only
returns-clause-only c = finds_given (finds_ok _ (finds_token c.skip.ensures.taken))
    (λ n next ts h s k. (kept_token_given n next ts h k c.if-is_at.ensures.no, refl))

pub returns-then-is_at-clause-stuck : goal.returns-then-is_at-clause-stuck
returns-then-is_at-clause-stuck c =
    halts_over _ c.unread_group.ensures.stuck (λ e r. refuses_map r (λ m next ts h. inr h))
