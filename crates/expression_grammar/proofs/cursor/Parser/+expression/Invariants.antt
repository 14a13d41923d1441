use Rattle.std.proofs.Common.{◌≡◌, ℕ, length, ◌+◌, ◌*◌}
use Rattle.ar_lexer.specs.declared.token.TokenKind.TheVariants.{Sign}
use Rattle.ar_lexer.specs.declared.signs.TheConstants.{COMMA}
use Rattle.expression_grammar.specs.declared.terms.Chain.{Chain}
use Rattle.expression_grammar.specs.declared.terms.Chain.TheVariants.{Any, All, Product}
use Rattle.expression_grammar.specs.Words.{token, deep, ◌▸◌}
use Rattle.expression_grammar.specs.Expressions.{Node, ReadsExpr, ReadsMinus, ReadsProduct, ReadsTerm, ReadsCase}
use Rattle.expression_grammar.specs.Chains.{separator_of, operand_form, ends_chain}
use Rattle.expression_grammar.specs.Texts.{expr_tokens}
use Rattle.expression_grammar.specs.Results.{ends_sum, ends_list, ends_cases}
use Rattle.expression_grammar.proofs.Finding.{Gathers}
use Rattle.expression_grammar.proofs.cursor.Parser.+expression.Given as goal
use Rattle.expression_grammar.specs.Parts.{operand_tokens, term_tokens, case_tokens}

-- how far a chain stands above its operands
abbrev pub rank_of : Chain → ℕ
rank_of Any = 4
rank_of All = 1
rank_of Product = 1

abbrev pub decreases-expr : goal.decreases-expr
decreases-expr l = 8 * l.left + 0

abbrev pub decreases-not : goal.decreases-not
decreases-not l = 8 * l.left + 0

abbrev pub decreases-minus : goal.decreases-minus
decreases-minus l = 8 * l.left + 0

abbrev pub decreases-enclosed : goal.decreases-enclosed
decreases-enclosed l = 8 * l.left + 1

abbrev pub decreases-more_arguments : goal.decreases-more_arguments
decreases-more_arguments l = 8 * l.left + 1

abbrev pub decreases-case : goal.decreases-case
decreases-case l = 8 * l.left + 2

abbrev pub decreases-choice : goal.decreases-choice
decreases-choice l = 8 * l.left + 3

abbrev pub decreases-cases : goal.decreases-cases
decreases-cases l = 8 * l.left + 3

abbrev pub decreases-operands : goal.decreases-operands
decreases-operands l = 8 * l.left + 2

abbrev pub decreases-switch : goal.decreases-switch
decreases-switch l = 8 * l.left + 4

abbrev pub decreases-primary : goal.decreases-primary
decreases-primary l = 8 * l.left + 5

abbrev pub decreases-operand : goal.decreases-operand
decreases-operand l = 8 * l.left + rank_of l.chain

abbrev pub decreases-more_operands : goal.decreases-more_operands
decreases-more_operands l = 8 * l.left + (rank_of l.chain + 1)

abbrev pub decreases-chain : goal.decreases-chain
decreases-chain l = 8 * l.left + (rank_of l.chain + 2)

abbrev pub decreases-more_terms : goal.decreases-more_terms
decreases-more_terms l = 8 * l.left + 4

abbrev pub decreases-sum : goal.decreases-sum
decreases-sum l = 8 * l.left + 5

abbrev pub decreases-compare : goal.decreases-compare
decreases-compare l = 8 * l.left + 6

abbrev pub invariant-more_operands-loop-chain : goal.invariant-more_operands-loop-chain
invariant-more_operands-loop-chain l =
    Gathers (λ e. token (separator_of l.chain) ▸ Node (operand_form l.chain l.left) e)
    (λ n. token (separator_of l.chain) ▸ operand_tokens l.chain n) (ends_chain l.chain)
    l.fn.operands.items l.operands.items l.fn.self.rest.now l.self.rest.now
    × (l.self.end ≡ l.fn.self.end)

abbrev pub decreases-more_operands-loop-chain : goal.decreases-more_operands-loop-chain
decreases-more_operands-loop-chain l = length l.self.rest.now

abbrev pub invariant-more_terms-loop-plus : goal.invariant-more_terms-loop-plus
invariant-more_terms-loop-plus l =
    Gathers (ReadsTerm (ReadsProduct (ReadsMinus l.left))) term_tokens ends_sum l.fn.terms.items l.terms.items
    l.fn.self.rest.now
    l.self.rest.now
    × (l.self.end ≡ l.fn.self.end)

abbrev pub decreases-more_terms-loop-plus : goal.decreases-more_terms-loop-plus
decreases-more_terms-loop-plus l = length l.self.rest.now

abbrev pub invariant-more_arguments-loop-self : goal.invariant-more_arguments-loop-self
invariant-more_arguments-loop-self l =
    Gathers (λ e. token (Sign COMMA) ▸ Node (ReadsExpr l.left) e) (λ n. token (Sign COMMA) ▸ expr_tokens deep n)
    ends_list
    l.fn.operands.items l.operands.items l.fn.self.rest.now l.self.rest.now
    × (l.self.end ≡ l.fn.self.end)

abbrev pub decreases-more_arguments-loop-self : goal.decreases-more_arguments-loop-self
decreases-more_arguments-loop-self l = length l.self.rest.now

abbrev pub invariant-cases-loop-self : goal.invariant-cases-loop-self
invariant-cases-loop-self l =
    Gathers (ReadsCase (ReadsExpr l.left)) case_tokens ends_cases l.initial.cases.items l.cases.items l.fn.self.rest.now
    l.self.rest.now
    × (l.self.end ≡ l.fn.self.end)

abbrev pub decreases-cases-loop-self : goal.decreases-cases-loop-self
decreases-cases-loop-self l = length l.self.rest.now
