-- What begins an expression, and each of its parts.
use Rattle.std.proofs.Common.{◌≡◌, ℕ, zero, suc, Bool, true, false, ◌&&◌, List, [], ◌∷◌, ◌++◌, Vec, refl, ap, ◌∙◌}
use Rattle.std.specs.declared.alloc.Global.{Global}
use Rattle.std.proofs.lemmas.Bool.{or_right}
use Rattle.ar_lexer.specs.declared.token.TokenKind.{TokenKind}
use Rattle.ar_lexer.specs.declared.token.TokenKind.TheVariants.{Name, Sign, Reserved}
use Rattle.ar_lexer.specs.declared.signs.TheConstants.{DOT, MINUS, STAR}
use Rattle.ar_lexer.specs.declared.words.TheConstants.{AND, IF, MAIN, NOT, OR, OWNER}
use Rattle.ar_syntax.specs.declared.paths.Path.{Path}
use Rattle.ar_syntax.specs.declared.paths.PathStart.{PathStart}
use Rattle.ar_syntax.specs.declared.paths.PathStart.TheVariants.{Here, Owner, Main}
use Rattle.ar_syntax.specs.declared.expressions.RawExpr.{RawExpr}
use Rattle.ar_syntax.specs.declared.expressions.RawForm.{RawForm}
use Rattle.ar_syntax.specs.declared.expressions.RawForm.TheVariants as form
use Rattle.ar_base.specs.Numbers.{NameId}
use Rattle.expression_grammar.specs.Words.{Form, Tokens, kind_or, ◌▸◌, separated_by}
use Rattle.expression_grammar.specs.Paths.{ReadsName, ReadsStart, ReadsPath}
use Rattle.expression_grammar.specs.Expressions.{Node, OneOrMore, one, more, ReadsProduct, ReadsTerms, ReadsSum, ReadsCompare, two, negated, plain, ReadsAnd, ReadsOr, choice, ReadsPrimary, truth, falsehood, whole, real, path, brackets, least, greatest, count, switch, ReadsExpr, ReadsNot, ReadsMinus}
use Rattle.expression_grammar.specs.Results.{is_sign, is_word, begins_primary, begins_minus, begins_not, begins_expr}
use Rattle.expression_grammar.proofs.Finding.{kind_join, token_kind, then_kind}

-- Forms one behind the other

-- a test of the first token
pub then_first : {A B : Form} {next : TokenKind} {ts : Tokens} (test : TokenKind → Bool) → (A ▸ B) next ts
    → ((next : TokenKind) (ts : Tokens) → A next ts → test (kind_or next ts) ≡ true) → test (kind_or next ts) ≡ true
then_first {next = next} test h f =
    ap test (ap (kind_or next) h.split ∙ kind_join h.front h.back next) ∙ f (kind_or next h.back) h.front h.first

-- Tests

pub and_right : (p q : Bool) → (p && q) ≡ true → q ≡ true
and_right true q h = h
and_right false q h = absurd (cc)

-- First tokens

-- a path begins with a name, `owner` or `main`
pub path_first : (test : TokenKind → Bool) → test Name ≡ true → test (Reserved OWNER) ≡ true
    → test (Reserved MAIN) ≡ true → (p : Path) (next : TokenKind) (ts : Tokens) → ReadsPath p next ts
    → test (kind_or next ts) ≡ true
path_first test name owner main p next ts h =
    ap test (ap (kind_or next) h.form.split ∙ kind_join h.form.front h.form.back next)
    ∙ by_start p.start (kind_or next h.form.back) h.form.front h.form.first
    (names p.names.items next h.form.back h.form.second)
  where
    names : (ids : List NameId) (next : TokenKind) (ts : Tokens) → separated_by (Sign DOT) ReadsName ids next ts
        → kind_or next ts ≡ Name
    names [] next ts h = elim h [ ]
    names (x ∷ xs) next ts h = ap (kind_or next) (h.split ∙ ap (λ (t : Tokens). t ++ h.back) h.first.alone)
        ∙ h.first.of_kind

    by_start : (start : PathStart) (next : TokenKind) (ts : Tokens) → ReadsStart start next ts → next ≡ Name
        → test (kind_or next ts) ≡ true
    by_start Here next ts h k = ap test (ap (kind_or next) h ∙ k) ∙ name
    by_start Owner next ts h k = ap test (then_kind h) ∙ owner
    by_start Main next ts h k = ap test (then_kind h) ∙ main

pub primary_first : (Expr : RawForm → Form) (f : RawForm) (next : TokenKind) (ts : Tokens) → ReadsPrimary Expr f next ts
    → begins_primary (kind_or next ts) ≡ true
primary_first Expr f next ts (truth e h) = ap begins_primary (token_kind h)
primary_first Expr f next ts (falsehood e h) = ap begins_primary (token_kind h)
primary_first Expr f next ts (whole n e h) = ap begins_primary (token_kind h)
primary_first Expr f next ts (real e h) = ap begins_primary (token_kind h)
primary_first Expr f next ts (path p e h) = path_first begins_primary refl refl refl p next ts h
primary_first Expr f next ts (brackets h) = ap begins_primary (then_kind h)
primary_first Expr f next ts (least v e h) = ap begins_primary (then_kind h)
primary_first Expr f next ts (greatest v e h) = ap begins_primary (then_kind h)
primary_first Expr f next ts (count v e h) = ap begins_primary (then_kind h)
primary_first Expr f next ts (switch h) = ap begins_primary (then_kind h.reads)

pub minus_first : (n : ℕ) (f : RawForm) (next : TokenKind) (ts : Tokens) → ReadsMinus n f next ts
    → begins_minus (kind_or next ts) ≡ true
minus_first zero f next ts h = elim h [ ]
minus_first (suc n) f next ts (negated x e h) = ap begins_minus (then_kind h)
minus_first (suc n) f next ts (plain h) =
    or_right (is_sign MINUS (kind_or next ts)) (begins_primary (kind_or next ts))
    (primary_first (ReadsExpr n) f next ts h)

pub node_first : (test : TokenKind → Bool) (Is : RawForm → Form)
    → ((f : RawForm) (next : TokenKind) (ts : Tokens) → Is f next ts → test (kind_or next ts) ≡ true)
    → (e : RawExpr) (next : TokenKind) (ts : Tokens) → Node Is e next ts → test (kind_or next ts) ≡ true
node_first test Is f e next ts h = f e.form next ts h.form

pub chain_first : (test : TokenKind → Bool) (make : Vec RawExpr Global → RawForm) (separator : TokenKind)
    (Is : RawForm → Form) → ((f : RawForm) (next : TokenKind) (ts : Tokens) → Is f next ts
    → test (kind_or next ts) ≡ true) → (f : RawForm) (next : TokenKind) (ts : Tokens)
    → OneOrMore make separator Is f next ts → test (kind_or next ts) ≡ true
chain_first test make separator Is first f next ts (one h) = first f next ts h
chain_first test make separator Is first f next ts (more v e several h) = by_items v.items h
  where
    by_items : (xs : List RawExpr) → separated_by separator (Node Is) xs next ts → test (kind_or next ts) ≡ true
    by_items [] h = elim h [ ]
    by_items (x ∷ xs) h = then_first test h (node_first test Is first x)

pub sum_first : (n : ℕ) (f : RawForm) (next : TokenKind) (ts : Tokens) → ReadsSum (ReadsProduct (ReadsMinus n)) f next
    ts → begins_minus (kind_or next ts) ≡ true
sum_first n f next ts (one h) = chain_first begins_minus form.Product (Sign STAR) (ReadsMinus n) (minus_first n) f next
    ts h
sum_first n f next ts (more v e several h) = by_items v.items h
  where
    by_items : (xs : List (Bool × RawExpr)) → ReadsTerms (ReadsProduct (ReadsMinus n)) xs next ts
        → begins_minus (kind_or next ts) ≡ true
    by_items [] h = elim h [ ]
    by_items ((plus, x) ∷ xs) h = then_first begins_minus h.1
        (node_first begins_minus (ReadsProduct (ReadsMinus n))
        (chain_first begins_minus form.Product (Sign STAR) (ReadsMinus n) (minus_first n)) x)

pub compare_first : (n : ℕ) (f : RawForm) (next : TokenKind) (ts : Tokens)
    → ReadsCompare (ReadsSum (ReadsProduct (ReadsMinus n))) f next ts → begins_minus (kind_or next ts) ≡ true
compare_first n f next ts (one h) = sum_first n f next ts h
compare_first n f next ts (two r x y e h) =
    then_first begins_minus h (node_first begins_minus (ReadsSum (ReadsProduct (ReadsMinus n))) (sum_first n) x.value)

pub not_first : (n : ℕ) (f : RawForm) (next : TokenKind) (ts : Tokens) → ReadsNot n f next ts
    → begins_not (kind_or next ts) ≡ true
not_first zero f next ts h = elim h [ ]
not_first (suc n) f next ts (negated x e h) = ap begins_not (then_kind h)
not_first (suc n) f next ts (plain h) =
    or_right (is_word NOT (kind_or next ts)) (begins_minus (kind_or next ts)) (compare_first n f next ts h)

pub or_first : (n : ℕ) (f : RawForm) (next : TokenKind) (ts : Tokens) → ReadsOr (ReadsNot n) f next ts
    → begins_not (kind_or next ts) ≡ true
or_first n = chain_first begins_not form.Any (Reserved OR) (ReadsAnd (ReadsNot n))
    (chain_first begins_not form.All (Reserved AND) (ReadsNot n) (not_first n))

pub expr_first : (n : ℕ) (f : RawForm) (next : TokenKind) (ts : Tokens) → ReadsExpr n f next ts
    → begins_expr (kind_or next ts) ≡ true
expr_first zero f next ts h = elim h [ ]
expr_first (suc n) f next ts (choice h) = then_first begins_expr h.reads (λ next ts g. ap begins_expr (then_kind g))
expr_first (suc n) f next ts (plain h) =
    or_right (is_word IF (kind_or next ts)) (begins_not (kind_or next ts)) (or_first n f next ts h)
