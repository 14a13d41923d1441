use Rattle.std.proofs.Common.{◌≡◌, ap, rules}
use Rattle.std.specs.Prelude.{ℤ}
use Rattle.ar_lexer.specs.declared.token.TokenKind.TheVariants.{Whole}
use Rattle.ar_syntax.specs.declared.expressions.RawForm.TheVariants as form
use Rattle.expression_grammar.specs.Chains.{IsConstant, whole}
use Rattle.expression_grammar.proofs.terms.constant_of.Goals as goal

same_whole : (m n : ℤ) (k : _) → m ≡ n → k ≡ Whole n → IsConstant (form.Whole m) k
same_whole m n k e h = whole n (ap form.Whole e) h

pub returns-in-Whole-clause-found : goal.returns-in-Whole-clause-found
returns-in-Whole-clause-found c = same_whole _ c.in-Whole.n _ (search rules) c.in-Whole.is
