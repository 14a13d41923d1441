-- What names with their places are, name by name.
use Rattle.std.proofs.Common.{◌≡◌, List, ◌∷◌, sym, subst}
use Rattle.ar_base.specs.Numbers.{NameId}
use Rattle.ar_base.specs.declared.places.Place.{Place}
use Rattle.ar_lexer.specs.declared.token.TokenKind.TheVariants.{Name, Sign}
use Rattle.ar_lexer.specs.declared.signs.TheConstants.{COMMA}
use Rattle.expression_grammar.specs.Words.{Tokens, token, ◌▸◌, each}
use Rattle.expression_grammar.specs.Paths.{ReadsPlacedName, ReadsNames}
use Rattle.expression_grammar.specs.Results.{Spans}
use Rattle.expression_grammar.proofs.Finding.{spans_then}
use Rattle.expression_grammar.proofs.Standing.{Turns}

-- names, from the first and the rest
pub names_made : {old mid new : Tokens} {x : NameId × Place} (more : List (NameId × Place))
    {items : List (NameId × Place)} → Spans (ReadsPlacedName x) old mid
    → Spans (each (λ y. token (Sign COMMA) ▸ ReadsPlacedName y) more) mid new → items ≡ x ∷ more
    → Spans (ReadsNames items) old new
names_made {old} {mid} {new} more a b e =
    subst (λ (xs : List (NameId × Place)). Spans (ReadsNames xs) old new) (sym e) (spans_then a b)

pub turns_placed : (x : _) → Turns (ReadsPlacedName x) (token Name)
turns_placed x = λ next next' ts h. record { one = h.one; alone = h.alone; of_kind = h.of_kind }
