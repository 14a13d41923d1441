use Rattle.expression_grammar.proofs.Finding.{finds_expected}
use Rattle.expression_grammar.proofs.cursor.Parser.expect.Goals as goal
use Rattle.expression_grammar.proofs.Standing.{refuses_here, begins_token}
use Rattle.std.proofs.Common.{refl}
use Rattle.expression_grammar.specs.declared.lexeme.Refusal.TheVariants.{Syntax}

pub returns-then-eq-clause-only : goal.returns-then-eq-clause-only
returns-then-eq-clause-only c = λ left. finds_expected c.in-Some.ensures.cases.0

pub returns-else-eq-clause-stuck : goal.returns-else-eq-clause-stuck
returns-else-eq-clause-stuck c = λ left. refuses_here Syntax refl (λ m. begins_token c.args.kind)

pub returns-in-None-clause-stuck : goal.returns-in-None-clause-stuck
returns-in-None-clause-stuck c = λ left. refuses_here Syntax refl (λ m. begins_token c.args.kind)
