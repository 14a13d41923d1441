-- The texts that single calls take, with at most n productions open at one token. Where one more would open stands one
-- token `deep`.
use Rattle.std.specs.Prelude.{ℕ}
use Rattle.expression_grammar.specs.declared.terms.Chain.{Chain}
use Rattle.expression_grammar.specs.declared.terms.Chain.TheVariants as chain
use Rattle.expression_grammar.specs.Words.{Form, deep, ◌▸◌}
use Rattle.expression_grammar.specs.Texts.{list_of, plus_tokens, product_tokens, and_tokens, case_made_of, expr_tokens, not_tokens, minus_tokens}
use Rattle.expression_grammar.specs.Chains.{separator_of}

-- Expressions: what stands between the separators of a chain, the chain, a term behind the first, and a case

abbrev pub operand_tokens : Chain → ℕ → Form
operand_tokens chain.Any n = and_tokens (not_tokens deep n)
operand_tokens chain.All n = not_tokens deep n
operand_tokens chain.Product n = minus_tokens deep n

abbrev pub chain_tokens : Chain → ℕ → Form
chain_tokens c n = list_of (separator_of c) (operand_tokens c n)

abbrev pub term_tokens : ℕ → Form
term_tokens n = plus_tokens ▸ product_tokens (minus_tokens deep n)

abbrev pub case_tokens : ℕ → Form
case_tokens n = case_made_of (expr_tokens deep n)
