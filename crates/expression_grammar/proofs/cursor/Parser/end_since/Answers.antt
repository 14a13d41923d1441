use Rattle.std.proofs.Common.{ap, ◌∙◌, arith}
use Rattle.expression_grammar.proofs.Ends.{last_end}
use Rattle.expression_grammar.proofs.cursor.Parser.end_since.Goals as goal

pub returns-in-Some : goal.returns-in-Some
returns-in-Some c = λ t ts e.
    ap (λ (u : _). u.span.to) c.in-Some.ensures.lookup.1
    ∙ last_end _ t ts _ _ _ e (omega (arith, c.saturating_sub.ensures, c.saturating_sub-count.ensures))
