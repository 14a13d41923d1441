-- What the texts of primaries are, part by part, and what is made of the parts.
use Rattle.std.proofs.Common.{◌≡◌, ℕ, ◌≤◌, true, List, [], ◌∷◌, ◌++◌, length, Vec, Box, refl, sym, ap, ◌∙◌, subst, arith}
use Rattle.std.specs.declared.alloc.Global.{Global}
use Rattle.ar_lexer.specs.declared.token.TokenKind.{TokenKind}
use Rattle.ar_lexer.specs.declared.token.TokenKind.TheVariants.{Sign, Reserved}
use Rattle.ar_lexer.specs.declared.signs.TheConstants.{OPEN_BRACE, CLOSE_BRACE, OPEN_PARENTHESIS, CLOSE_PARENTHESIS, COMMA, COLON}
use Rattle.ar_lexer.specs.declared.words.TheConstants.{DEFAULT, SWITCH}
use Rattle.ar_syntax.specs.declared.paths.Path.{Path}
use Rattle.ar_syntax.specs.declared.expressions.RawExpr.{RawExpr}
use Rattle.ar_syntax.specs.declared.expressions.RawForm.{RawForm}
use Rattle.ar_syntax.specs.declared.expressions.RawForm.TheVariants as form
use Rattle.expression_grammar.specs.declared.terms.Call.{Call}
use Rattle.expression_grammar.specs.declared.terms.Call.TheVariants.{Least, Greatest, Count}
use Rattle.expression_grammar.specs.Words.{Form, Tokens, token, ◌▸◌, between, each}
use Rattle.expression_grammar.specs.Paths.{ReadsPath}
use Rattle.expression_grammar.specs.Expressions.{Node, ReadsCase, ReadsSwitch, ReadsOperands, ReadsPrimary, truth, falsehood, whole, real, path, brackets, least, greatest, count, switch, ReadsExpr}
use Rattle.expression_grammar.specs.Chains.{separator_of, chain_of, operand_form, chain_form, ends_operand, ends_chain, IsConstant, opening_word, call_of, IsComparison, IsOneCase}
use Rattle.expression_grammar.specs.Chains as constant
use Rattle.expression_grammar.specs.Results.{Spans}
use Rattle.expression_grammar.proofs.Finding.{spans_then}
use Rattle.expression_grammar.proofs.ExpressionForms.{then_map, then_some, token_some, Places, node_made}
use Rattle.expression_grammar.specs.Texts.{begins_constant}

-- Primary

constant_is : (Expr : RawForm → Form) (f : RawForm) (k : TokenKind) → IsConstant f k → (next : TokenKind) (ts : Tokens)
    → token k next ts → ReadsPrimary Expr f next ts
constant_is Expr f k (constant.truth e q) next ts h = truth e (subst (λ (j : TokenKind). token j next ts) q h)
constant_is Expr f k (constant.falsehood e q) next ts h = falsehood e (subst (λ (j : TokenKind). token j next ts) q h)
constant_is Expr f k (constant.whole n e q) next ts h = whole n e (subst (λ (j : TokenKind). token j next ts) q h)
constant_is Expr f k (constant.real e q) next ts h = real e (subst (λ (j : TokenKind). token j next ts) q h)

pub constant_begins : (f : RawForm) (k : TokenKind) → IsConstant f k → begins_constant k ≡ true
constant_begins f k (constant.truth e q) = ap begins_constant q
constant_begins f k (constant.falsehood e q) = ap begins_constant q
constant_begins f k (constant.whole n e q) = ap begins_constant q
constant_begins f k (constant.real e q) = ap begins_constant q

pub constant_made : (n : ℕ) (f : RawForm) (k : TokenKind) (e : RawExpr) {old new : Tokens} → IsConstant f k
    → Places e f old new → Spans (token k) old new → Spans (Node (ReadsPrimary (ReadsExpr n)) e) old new
constant_made n f k e c p s = node_made (token k) (ReadsPrimary (ReadsExpr n)) e f p s (token_some k)
    (constant_is (ReadsExpr n) f k c)

pub brackets_made : (n : ℕ) (inner e : RawExpr) {old new : Tokens} → Places e inner.form old new
    → Spans (between (Sign OPEN_PARENTHESIS) (Sign CLOSE_PARENTHESIS) (Node (ReadsExpr n) inner)) old new
    → Spans (Node (ReadsPrimary (ReadsExpr n)) e) old new
brackets_made n inner e p s =
    node_made (between (Sign OPEN_PARENTHESIS) (Sign CLOSE_PARENTHESIS) (Node (ReadsExpr n) inner))
    (ReadsPrimary (ReadsExpr n))
    e inner.form p s
    (λ next ts h. then_some h (token_some (Sign OPEN_PARENTHESIS)))
    (λ next ts h. brackets (then_map h (λ next ts j. j)
    (λ next ts j. then_map j (λ next ts i. i.form) (λ next ts i. i))))

pub switch_in : (n : ℕ) (e : RawExpr) (next : TokenKind) (ts : Tokens) → Node (ReadsSwitch (ReadsExpr n)) e next ts
    → Node (ReadsPrimary (ReadsExpr n)) e next ts
switch_in n e next ts h = record { there = h.there; span_is = h.span_is; form = switch h.form }

call_is : (n : ℕ) (c : Call) (v : Vec RawExpr Global) (next : TokenKind) (ts : Tokens)
    → (token (opening_word c) ▸ ReadsOperands (ReadsExpr n) v.items) next ts
    → ReadsPrimary (ReadsExpr n) (call_of c v) next ts
call_is n Least v next ts h = least v refl h
call_is n Greatest v next ts h = greatest v refl h
call_is n Count v next ts h = count v refl h

pub call_made : (n : ℕ) (c : Call) (v : Vec RawExpr Global) (e : RawExpr) {old mid new : Tokens}
    → Places e (call_of c v) old new → Spans (token (opening_word c)) old mid
    → Spans (ReadsOperands (ReadsExpr n) v.items) mid new → Spans (Node (ReadsPrimary (ReadsExpr n)) e) old new
call_made n c v e p a b =
    node_made (token (opening_word c) ▸ ReadsOperands (ReadsExpr n) v.items) (ReadsPrimary (ReadsExpr n)) e (call_of c v) p
    (spans_then a b)
    (λ next ts h. then_some h (token_some (opening_word c))) (call_is n c v)

path_some : (p : Path) (next : TokenKind) (ts : Tokens) → ReadsPath p next ts → ts ≡ [] → ⊥
path_some p next [] h z = h.there
path_some p next (t ∷ ts) h z = absurd (cc)

pub path_made_primary : (n : ℕ) (p : Path) (e : RawExpr) {old new : Tokens} → Places e (form.Path p) old new
    → Spans (ReadsPath p) old new → Spans (Node (ReadsPrimary (ReadsExpr n)) e) old new
path_made_primary n p e q s = node_made (ReadsPath p) (ReadsPrimary (ReadsExpr n)) e (form.Path p) q s (path_some p)
    (λ next ts h. path p refl h)

-- "(" Expr { "," Expr } ")"

-- the first of many, and then what ends them
pub operands_made : (n : ℕ) (first : RawExpr) (rest items : List RawExpr) {old mid last end new : Tokens}
    → items ≡ first ∷ rest → Spans (token (Sign OPEN_PARENTHESIS)) old mid → Spans (Node (ReadsExpr n) first) mid last
    → Spans (each (λ x. token (Sign COMMA) ▸ Node (ReadsExpr n) x) rest) last end
    → Spans (token (Sign CLOSE_PARENTHESIS)) end new → Spans (ReadsOperands (ReadsExpr n) items) old new
operands_made n first rest items {old} {new = new} e o a b c =
    subst (λ (xs : List RawExpr). Spans (ReadsOperands (ReadsExpr n) xs) old new) (sym e)
    (spans_then o (spans_then (spans_then a b) c))

-- "switch" "{" Case { Case } "default" ":" Expr "}"

-- a choice has a case
-- what stands behind the cases
pub switch_made : (n : ℕ) (v : Vec (RawExpr × RawExpr) Global) (d : Box RawExpr Global) (other e : RawExpr)
    {old a b c m new : Tokens} → 1 ≤ length v.items → d.value ≡ other → Places e (form.Choose v d) old new →
    Spans (token (Reserved SWITCH)) old a → Spans (token (Sign OPEN_BRACE)) a b
    → Spans (each (ReadsCase (ReadsExpr n)) v.items) b c → Spans (token (Reserved DEFAULT)) c m
    → Spans (between (Sign COLON) (Sign CLOSE_BRACE) (Node (ReadsExpr n) other)) m new
    → Spans (Node (ReadsSwitch (ReadsExpr n)) e) old new
switch_made n v d other e some same p s1 s2 s3 s4 s5 =
    node_made (token (Reserved SWITCH) ▸ token (Sign OPEN_BRACE) ▸ each (ReadsCase (ReadsExpr n)) v.items ▸ token
    (Reserved DEFAULT) ▸ between (Sign COLON) (Sign CLOSE_BRACE) (Node (ReadsExpr n) other)) (ReadsSwitch (ReadsExpr n))
    e
    (form.Choose v d) p
    (spans_then s1 (spans_then s2 (spans_then s3 (spans_then s4 s5))))
    (λ next ts h. then_some h (token_some (Reserved SWITCH)))
    (λ next ts h. record {
      cases = v;
      other = d;
      is = refl;
      some = some;
      reads = subst (λ (x : RawExpr).
          (token (Reserved SWITCH) ▸ token (Sign OPEN_BRACE) ▸ each (ReadsCase (ReadsExpr n))
          v.items ▸ token (Reserved DEFAULT) ▸ between (Sign COLON) (Sign CLOSE_BRACE) (Node (ReadsExpr n) x)) next ts)
          (sym same) h;
    })

-- no cases take no tokens
pub no_cases : (n : ℕ) (xs : List (RawExpr × RawExpr)) {old new : Tokens} → length xs ≡ 0
    → Spans (each (ReadsCase (ReadsExpr n)) xs) old new → new ≡ old
no_cases n [] {old} {new} e s = sym (s.split ∙ ap (λ (t : Tokens). t ++ new) s.form)
no_cases n (x ∷ xs) e s = absurd (omega (arith, e))

pub some_length : {X : Type 0} (xs : List X) → (length xs ≡ 0 → ⊥) → 1 ≤ length xs
some_length [] h = absurd (h refl)
some_length (x ∷ xs) h = omega arith
