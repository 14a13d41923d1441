-- How a text of an expression may go on where none of it was passed, and where its first token was.
use Rattle.std.proofs.Common.{◌≡◌, ℕ, zero, suc, ◌⊎◌, inl, inr, Bool, true, false, ◌||◌, [], ◌∷◌, refl, ap, ◌∙◌}
use Rattle.std.specs.Prelude.{◌==◌}
use Rattle.std.proofs.lemmas.Bool.{eqb-true, or_cases}
use Rattle.ar_lexer.specs.declared.token.TokenKind.{TokenKind}
use Rattle.ar_lexer.specs.declared.token.TokenKind.TheVariants.{Name, Whole, Real, Sign, Reserved, End}
use Rattle.ar_lexer.specs.declared.signs.TheConstants.{DOT, OPEN_BRACE, CLOSE_BRACE, OPEN_PARENTHESIS, CLOSE_PARENTHESIS, COLON, MINUS}
use Rattle.ar_lexer.specs.declared.words.TheConstants.{CASE, COUNT, DEFAULT, ELSE, FALSE, IF, MAIN, MAX, MIN, NOT, OWNER, SWITCH, THEN, TRUE}
use Rattle.ar_syntax.specs.declared.paths.PathStart.TheVariants.{Here, Owner, Main}
use Rattle.expression_grammar.specs.declared.terms.Call.{Call}
use Rattle.expression_grammar.specs.declared.terms.Call.TheVariants.{Least, Greatest, Count}
use Rattle.expression_grammar.specs.declared.lexeme.Lexeme.{Lexeme}
use Rattle.expression_grammar.specs.Words.{Form, token, no_kind, deep, ◌▸◌, between, many, ReadsSome}
use Rattle.expression_grammar.specs.Paths.{ReadsStart}
use Rattle.expression_grammar.specs.Chains.{opening_word}
use Rattle.expression_grammar.specs.Texts.{path_tokens, operands_tokens, primary_tokens, constant, path, brackets, call, switch, expr_tokens, not_tokens, minus_tokens, compare_tokens, sum_tokens, product_tokens, begins_constant, begins_call}
use Rattle.expression_grammar.specs.Results.{BeginsForm, is_sign, is_word, begins_path, begins_primary, begins_minus, begins_not, begins_expr}
use Rattle.expression_grammar.proofs.ExpressionForms.{sign_from, word_from}
use Rattle.expression_grammar.proofs.Standing.{begins_token, begins_one, begins_here, begins_this, begins_nothing, begins_no_more, begins_then, begins_after, begins_map}
use Rattle.expression_grammar.specs.Parts.{case_tokens}

-- Texts to come

pub some_minus : (m : ℕ) → BeginsForm (minus_tokens deep m) []
some_minus zero = begins_token no_kind
some_minus (suc m) = begins_map (begins_one {test = begins_constant} (Reserved TRUE) refl)
    (λ next ts h. inr (constant h))

pub some_compare : (m : ℕ) → BeginsForm (compare_tokens (sum_tokens (product_tokens (minus_tokens deep m)))) []
some_compare m = begins_then (begins_then (begins_then (some_minus m) begins_no_more) begins_no_more)
    (begins_map begins_nothing (λ next ts h. inl h))

pub some_not : (m : ℕ) → BeginsForm (not_tokens deep m) []
some_not zero = begins_token no_kind
some_not (suc m) = begins_map (some_compare m) (λ next ts h. inr h)

pub some_expr : (m : ℕ) → BeginsForm (expr_tokens deep m) []
some_expr zero = begins_token no_kind
some_expr (suc m) = begins_map (begins_then (begins_then (some_not m) begins_no_more) begins_no_more)
    (λ next ts h. inr h)

pub some_arguments : (m : ℕ) {A : Form} → BeginsForm (many A ▸ token (Sign CLOSE_PARENTHESIS)) []
some_arguments m = begins_then begins_no_more (begins_token (Sign CLOSE_PARENTHESIS))

pub some_operands : (m : ℕ) → BeginsForm (operands_tokens (expr_tokens deep m)) []
some_operands m = begins_then (begins_token (Sign OPEN_PARENTHESIS)) (begins_then (some_expr m) (some_arguments m))

pub some_case : (m : ℕ) → BeginsForm (case_tokens m) []
some_case m = begins_then (begins_then (begins_token (Reserved CASE))
    (begins_then (some_expr m) (begins_token (Sign COLON)))) (some_expr m)

pub some_default : (m : ℕ) → BeginsForm
    (token (Reserved DEFAULT) ▸ between (Sign COLON) (Sign CLOSE_BRACE) (expr_tokens deep m)) []
some_default m = begins_then (begins_token (Reserved DEFAULT))
    (begins_then (begins_token (Sign COLON)) (begins_then (some_expr m) (begins_token (Sign CLOSE_BRACE))))

pub some_else : (m : ℕ) → BeginsForm (token (Reserved ELSE) ▸ expr_tokens deep m) []
some_else m = begins_then (begins_token (Reserved ELSE)) (some_expr m)

-- Texts of which the first token was passed

pub path_at : (t : Lexeme) → begins_path t.kind ≡ true → BeginsForm path_tokens (t ∷ [])
path_at t h = by_kind t.kind refl h
  where
    by_word : (w : ℕ) → t.kind ≡ Reserved w → ((w == OWNER) ≡ true) ⊎ ((w == MAIN) ≡ true) → BeginsForm path_tokens (t ∷ [])
    by_word w e (inl q) = begins_then (begins_map
        (begins_then (begins_here t (Reserved OWNER) (e ∙ ap Reserved (eqb-true w OWNER q))) (begins_token (Sign DOT)))
        (λ next ts h. (Owner, h))) (begins_then (begins_token Name) begins_no_more)
    by_word w e (inr q) = begins_then (begins_map
        (begins_then (begins_here t (Reserved MAIN) (e ∙ ap Reserved (eqb-true w MAIN q))) (begins_token (Sign DOT)))
        (λ next ts h. (Main, h))) (begins_then (begins_token Name) begins_no_more)

    by_kind : (k : TokenKind) → t.kind ≡ k → begins_path k ≡ true → BeginsForm path_tokens (t ∷ [])
    by_kind Name e h = begins_after {A = ReadsSome ReadsStart} (λ next. (Here, refl))
        (begins_then (begins_here t Name e) begins_no_more)
    by_kind (Reserved w) e h = by_word w e (or_cases (w == OWNER) (w == MAIN) h)
    by_kind (Whole n) e h = absurd (cc)
    by_kind Real e h = absurd (cc)
    by_kind (Sign s) e h = absurd (cc)
    by_kind End e h = absurd (cc)

-- what a token is that begins a primary
abbrev pub Primary : TokenKind → Type 0
Primary k = (begins_path k ≡ true) ⊎ ((begins_constant k ≡ true)
    ⊎ ((begins_call k ≡ true) ⊎ ((k ≡ Reserved SWITCH) ⊎ (k ≡ Sign OPEN_PARENTHESIS))))

eight : (a b c d e f g h : Bool) → (a || b || c || d || e || f || g || h) ≡ true
    → ((a || b) ≡ true) ⊎ (((c || d) ≡ true) ⊎ (((e || f || g) ≡ true) ⊎ (h ≡ true)))
eight true b c d e f g h p = inl refl
eight false true c d e f g h p = inl refl
eight false false true d e f g h p = inr (inl refl)
eight false false false true e f g h p = inr (inl refl)
eight false false false false true f g h p = inr (inr (inl refl))
eight false false false false false true g h p = inr (inr (inl refl))
eight false false false false false false true h p = inr (inr (inl refl))
eight false false false false false false false h p = inr (inr (inr p))

primary_kind : (k : TokenKind) → begins_primary k ≡ true → Primary k
primary_kind Name h = inl refl
primary_kind (Whole n) h = inr (inl refl)
primary_kind Real h = inr (inl refl)
primary_kind (Sign s) h = inr (inr (inr (inr (ap Sign (eqb-true s OPEN_PARENTHESIS h)))))
primary_kind (Reserved w) h = by_word
    (eight (w == OWNER) (w == MAIN) (w == TRUE) (w == FALSE) (w == MIN) (w == MAX) (w == COUNT) (w == SWITCH) h)
  where
    by_word : (((w == OWNER) || (w == MAIN)) ≡ true)
        ⊎ ((((w == TRUE) || (w == FALSE)) ≡ true)
        ⊎ ((((w == MIN) || (w == MAX) || (w == COUNT)) ≡ true) ⊎ ((w == SWITCH) ≡ true))) → Primary (Reserved w)
    by_word (inl p) = inl p
    by_word (inr (inl p)) = inr (inl p)
    by_word (inr (inr (inl p))) = inr (inr (inl p))
    by_word (inr (inr (inr p))) = inr (inr (inr (inl (ap Reserved (eqb-true w SWITCH p)))))
primary_kind End h = absurd (cc)

primary_at : (m : ℕ) (t : Lexeme) → Primary t.kind → BeginsForm (primary_tokens (expr_tokens deep m)) (t ∷ [])
primary_at m t (inl p) = begins_map (path_at t p) (λ next ts h. path h)
primary_at m t (inr (inl p)) = begins_map (begins_this {test = begins_constant} t p) (λ next ts h. constant h)
primary_at m t (inr (inr (inl p))) =
    begins_map (begins_then (begins_this {test = begins_call} t p) (some_operands m)) (λ next ts h. call h)
primary_at m t (inr (inr (inr (inl p)))) =
    begins_map (begins_then (begins_here t (Reserved SWITCH) p)
    (begins_then (begins_token (Sign OPEN_BRACE))
    (begins_then (some_case m) (begins_then begins_no_more (some_default m))))) (λ next ts h. switch h)
primary_at m t (inr (inr (inr (inr p)))) =
    begins_map (begins_then (begins_here t (Sign OPEN_PARENTHESIS) p)
    (begins_then (some_expr m) (begins_token (Sign CLOSE_PARENTHESIS)))) (λ next ts h. brackets h)

pub minus_at : (m : ℕ) (t : Lexeme) → begins_minus t.kind ≡ true → BeginsForm (minus_tokens deep (suc m)) (t ∷ [])
minus_at m t h = by_either (or_cases (is_sign MINUS t.kind) (begins_primary t.kind) h)
  where
    by_either : (is_sign MINUS t.kind ≡ true) ⊎ (begins_primary t.kind ≡ true)
        → BeginsForm (minus_tokens deep (suc m)) (t ∷ [])
    by_either (inl p) = begins_map (begins_then (begins_here t (Sign MINUS) (sign_from MINUS t.kind p)) (some_minus m))
        (λ next ts h. inl h)
    by_either (inr p) = begins_map (primary_at m t (primary_kind t.kind p)) (λ next ts h. inr h)

pub not_at : (m : ℕ) (t : Lexeme) → begins_not t.kind ≡ true → BeginsForm (not_tokens deep (suc (suc m))) (t ∷ [])
not_at m t h = by_either (or_cases (is_word NOT t.kind) (begins_minus t.kind) h)
  where
    by_either : (is_word NOT t.kind ≡ true) ⊎ (begins_minus t.kind ≡ true)
        → BeginsForm (not_tokens deep (suc (suc m))) (t ∷ [])
    by_either (inl p) = begins_map (begins_then (begins_here t (Reserved NOT) (word_from NOT t.kind p))
        (some_not (suc m))) (λ next ts h. inl h)
    by_either (inr p) = begins_map (begins_then
        (begins_then (begins_then (minus_at m t p) begins_no_more) begins_no_more)
        (begins_map begins_nothing (λ next ts h. inl h))) (λ next ts h. inr h)

pub expr_at : (m : ℕ) (t : Lexeme) → begins_expr t.kind ≡ true → BeginsForm (expr_tokens deep (suc (suc (suc m)))) (t ∷ [])
expr_at m t h = by_either (or_cases (is_word IF t.kind) (begins_not t.kind) h)
  where
    by_either : (is_word IF t.kind ≡ true) ⊎ (begins_not t.kind ≡ true)
        → BeginsForm (expr_tokens deep (suc (suc (suc m)))) (t ∷ [])
    by_either (inl p) = begins_map (begins_then
        (begins_then (begins_here t (Reserved IF) (word_from IF t.kind p))
        (begins_then (some_expr (suc (suc m))) (begins_token (Reserved THEN))))
        (begins_then (some_expr (suc (suc m))) (some_else (suc (suc m))))) (λ next ts h. inl h)
    by_either (inr p) = begins_map (begins_then (begins_then (not_at m t p) begins_no_more) begins_no_more)
        (λ next ts h. inr h)

pub call_one : (c : Call) → begins_call (opening_word c) ≡ true
call_one Least = refl
call_one Greatest = refl
call_one Count = refl
