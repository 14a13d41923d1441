use Rattle.ar_lexer.proofs.Laws.{answers_only, answers_first}
use Rattle.ar_lexer.proofs.lexer.tokens.Goals as goal

pub returns-clause-only : goal.returns-clause-only
returns-clause-only c = answers_only _ _ c.scanned.ensures.found c.scanned.ensures.refused

pub returns-clause-first : goal.returns-clause-first
returns-clause-first c = answers_first _ _ c.scanned.ensures.found c.scanned.ensures.refused
