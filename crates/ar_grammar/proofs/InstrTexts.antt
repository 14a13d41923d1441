-- What a text of an instruction is, part by part; what follows it may be any token but `else`.
use Rattle.std.proofs.Common.{◌≡◌, ◌≢◌, ℕ, zero, suc, ◌≤◌, ◌⊎◌, inl, inr, Bool, true, not, ◌||◌, List, [], ◌∷◌, ◌++◌, Option, refl, sym, ap, ◌∙◌, subst, append_assoc, arith}
use Rattle.std.specs.Prelude.{◌==◌, Some, None, Box}
use Rattle.std.specs.declared.alloc.Global.{Global}
use Rattle.std.proofs.lemmas.Bool.{eqb-true, or_cases}
use Rattle.ar_lexer.specs.declared.token.TokenKind.{TokenKind}
use Rattle.ar_lexer.specs.declared.token.TokenKind.TheVariants.{Name, Whole, Real, Sign, Reserved, End}
use Rattle.ar_lexer.specs.declared.signs.TheConstants.{OPEN_BRACE, CLOSE_BRACE, SEMICOLON, ASSIGN, TIE}
use Rattle.ar_lexer.specs.declared.words.TheConstants.{ELSE, IF, MAIN, OWNER, SKIP, THEN}
use Rattle.ar_syntax.specs.declared.expressions.RawExpr.{RawExpr}
use Rattle.ar_syntax.specs.declared.instructions.Instr.{Instr}
use Rattle.ar_syntax.specs.declared.paths.PathStart.TheVariants.{Here}
use Rattle.expression_grammar.specs.declared.lexeme.Lexeme.{Lexeme}
use Rattle.expression_grammar.specs.declared.lexeme.Refusal.{Refusal}
use Rattle.expression_grammar.specs.Words.{Form, Tokens, kind_or, token, no_kind, deep, nothing, ◌▸◌, ◌∣◌, between, each, many, ReadsSome}
use Rattle.expression_grammar.specs.Paths.{ReadsStart}
use Rattle.expression_grammar.specs.Expressions.{Node, ReadsExpr}
use Rattle.ar_grammar.specs.Instructions.{ReadsElse, ReadsSimpleOf, assign, tie, skip, ReadsInstr, ReadsInstrOf, ReadsGroupOf, ReadsIfOf}
use Rattle.ar_grammar.specs.Instructions as tree
use Rattle.expression_grammar.specs.Texts.{path_tokens, expr_tokens}
use Rattle.ar_grammar.specs.Texts.{simple_tokens, else_tokens, conditional_tokens, group_tokens, instr_of, simple, group, conditional, instr_tokens}
use Rattle.expression_grammar.specs.Results.{first_token_kind, Spans, BeginsForm, Refuses, is_sign, is_word, anything, ends_path, begins_path}
use Rattle.ar_grammar.specs.Results.{begins_instr}
use Rattle.expression_grammar.proofs.Finding.{Follows, inside, token_kind, then_kind, apart, fails, each_push}
use Rattle.expression_grammar.proofs.Standing.{Turns, turns_token, turns_then, tells_most, refuses_map, begins_token, begins_here, begins_no_more, begins_then, begins_map, begins_after, turns_each}
use Rattle.expression_grammar.proofs.TextParts.{first_of, path_starts}
use Rattle.expression_grammar.proofs.Turning.{turns_path, turns_tree}
use Rattle.expression_grammar.proofs.Beginnings.{some_expr, path_at}
use Rattle.expression_grammar.specs.Words.{groups}
use Rattle.expression_grammar.proofs.Standing.{each_some}

-- First tokens

path_other : (test : TokenKind → Bool) → test Name ≡ true → test (Reserved OWNER) ≡ true → test (Reserved MAIN) ≡ true
    → {B : Form} (next : TokenKind) (ts : Tokens) → (path_tokens ▸ B) next ts → test (kind_or next ts) ≡ true
path_other test name owner main next ts h =
    ap test (first_of h) ∙ path_starts test name owner main (kind_or next h.back) h.front h.first

simple_starts : (test : TokenKind → Bool) → test Name ≡ true → test (Reserved OWNER) ≡ true
    → test (Reserved MAIN) ≡ true → test (Reserved SKIP) ≡ true → (Expr : Form) (next : TokenKind) (ts : Tokens)
    → simple_tokens Expr next ts → test (kind_or next ts) ≡ true
simple_starts test name owner main skips Expr next ts (inl h) = ap test (then_kind h) ∙ skips
simple_starts test name owner main skips Expr next ts (inr h) = path_other test name owner main next ts h

instr_starts : (test : TokenKind → Bool) → test Name ≡ true → test (Reserved OWNER) ≡ true → test (Reserved MAIN) ≡ true
    → test (Reserved SKIP) ≡ true → test (Sign OPEN_BRACE) ≡ true → test (Reserved IF) ≡ true
    → (Expr Inner : Form) (next : TokenKind) (ts : Tokens) → instr_of Expr Inner next ts → test (kind_or next ts) ≡ true
instr_starts test a b c d e f Expr Inner next ts (simple h) = simple_starts test a b c d Expr next ts h
instr_starts test a b c d e f Expr Inner next ts (group h) = ap test (then_kind h) ∙ e
instr_starts test a b c d e f Expr Inner next ts (conditional h) = ap test (first_of h ∙ then_kind h.first) ∙ f

pub instr_begins : (n : ℕ) (next : TokenKind) (ts : Tokens) → instr_tokens deep n next ts
    → (kind_or next ts ≡ no_kind → ⊥) → begins_instr (kind_or next ts) ≡ true
instr_begins zero next ts h none = absurd (none (token_kind h))
instr_begins (suc n) next ts h none =
    instr_starts begins_instr refl refl refl refl refl refl (expr_tokens deep n) (instr_tokens deep n) next ts h

pub instr_some : (n : ℕ) (next : TokenKind) (ts : Tokens) → instr_tokens deep n next ts → (kind_or next ts ≡ no_kind
    → ⊥) → n ≢ 0
instr_some zero next ts h none = absurd (none (token_kind h))
instr_some (suc n) next ts h none = λ e. absurd (cc)

-- no instruction begins with `else`
pub instr_clear : (n : ℕ) (next : TokenKind) (ts : Tokens) → instr_tokens deep n next ts
    → kind_or next ts ≢ Reserved ELSE
instr_clear zero next ts h k = apart (is_sign 256) (token_kind h) k refl refl
instr_clear (suc n) next ts h k = fails (λ j. not (is_word ELSE j))
    (instr_starts (λ j. not (is_word ELSE j)) refl refl refl refl refl refl (expr_tokens deep n) (instr_tokens deep n)
    next
    ts h) k refl

pub instr_not_over : (n : ℕ) (next : TokenKind) (ts : Tokens) → instr_tokens deep n next ts
    → kind_or next ts ≡ Sign CLOSE_BRACE → ⊥
instr_not_over n next ts h k = fails begins_instr (instr_begins n next ts h (λ z. apart (is_sign 256) z k refl refl)) k
    refl

pub instr_if : (n : ℕ) (next : TokenKind) (ts : Tokens) → instr_tokens deep n next ts → kind_or next ts ≡ Reserved IF
    → inside (λ m. conditional_tokens (expr_tokens deep m) (instr_tokens deep m)) n next ts
instr_if zero next ts h k = apart (is_sign 256) (token_kind h) k refl refl
instr_if (suc n) next ts (simple h) k =
    fails (λ j. not (is_word IF j))
    (simple_starts (λ j. not (is_word IF j)) refl refl refl refl (expr_tokens deep n) next
    ts h) k refl
instr_if (suc n) next ts (group h) k = apart (is_sign OPEN_BRACE) (then_kind h) k refl refl
instr_if (suc n) next ts (conditional h) k = (n, refl, h)

pub instr_group : (n : ℕ) (next : TokenKind) (ts : Tokens) → instr_tokens deep n next ts
    → kind_or next ts ≡ Sign OPEN_BRACE → inside (λ m. group_tokens (instr_tokens deep m)) n next ts
instr_group zero next ts h k = apart (is_sign 256) (token_kind h) k refl refl
instr_group (suc n) next ts (simple h) k =
    fails (λ j. not (is_sign OPEN_BRACE j))
    (simple_starts (λ j. not (is_sign OPEN_BRACE j)) refl refl refl refl (expr_tokens deep n) next ts h) k refl
instr_group (suc n) next ts (group h) k = (n, refl, h)
instr_group (suc n) next ts (conditional h) k = apart (is_word IF) (first_of h ∙ then_kind h.first) k refl refl

pub instr_simple : (n : ℕ) (next : TokenKind) (ts : Tokens) → instr_tokens deep n next ts → kind_or next ts ≢ Reserved
    IF → kind_or next ts ≢ Sign OPEN_BRACE → (kind_or next ts ≡ no_kind → ⊥)
    → inside (λ m. simple_tokens (expr_tokens deep m)) n next ts
instr_simple zero next ts h k l none = absurd (none (token_kind h))
instr_simple (suc n) next ts (simple h) k l none = (n, refl, h)
instr_simple (suc n) next ts (group h) k l none = absurd (l (then_kind h))
instr_simple (suc n) next ts (conditional h) k l none = absurd (k (first_of h ∙ then_kind h.first))

pub simple_skip : (n : ℕ) (next : TokenKind) (ts : Tokens) → simple_tokens (expr_tokens deep n) next ts
    → kind_or next ts ≡ Reserved SKIP → (token (Reserved SKIP) ▸ token (Sign SEMICOLON)) next ts
simple_skip n next ts (inl h) k = h
simple_skip n next ts (inr h) k = fails (λ j. not (is_word SKIP j))
    (path_other (λ j. not (is_word SKIP j)) refl refl refl next ts h) k refl

abbrev pub simple_rest : ℕ → Form
simple_rest n = between (Sign ASSIGN) (Sign SEMICOLON) (expr_tokens deep n) ∣ between (Sign TIE) (Sign SEMICOLON)
    path_tokens

pub simple_parts : (n : ℕ) (next : TokenKind) (ts : Tokens) → simple_tokens (expr_tokens deep n) next ts
    → kind_or next ts ≢ Reserved SKIP → (path_tokens ▸ simple_rest n) next ts
simple_parts n next ts (inl h) k = absurd (k (then_kind h))
simple_parts n next ts (inr h) k = h

pub simple_follows : Follows simple_rest ends_path anything
simple_follows = record { holds = λ n next ts h s. by_rest n next ts h }
  where
    by_rest : (n : ℕ) (next : TokenKind) (ts : Tokens) → simple_rest n next ts → ends_path (kind_or next ts) ≡ true
    by_rest n next ts (inl h) = ap ends_path (then_kind h)
    by_rest n next ts (inr h) = ap ends_path (then_kind h)

pub simple_tie : (n : ℕ) (next : TokenKind) (ts : Tokens) → simple_rest n next ts → kind_or next ts ≡ Sign TIE
    → between (Sign TIE) (Sign SEMICOLON) path_tokens next ts
simple_tie n next ts (inl h) k = apart (is_sign ASSIGN) (then_kind h) k refl refl
simple_tie n next ts (inr h) k = h

pub simple_assign : (n : ℕ) (next : TokenKind) (ts : Tokens) → simple_rest n next ts → kind_or next ts ≢ Sign TIE
    → between (Sign ASSIGN) (Sign SEMICOLON) (expr_tokens deep n) next ts
simple_assign n next ts (inl h) k = h
simple_assign n next ts (inr h) k = absurd (k (then_kind h))

pub else_taken : (n : ℕ) (next : TokenKind) (ts : Tokens) → else_tokens (instr_tokens deep n) next ts
    → kind_or next ts ≡ Reserved ELSE → (token (Reserved ELSE) ▸ instr_tokens deep n) next ts
else_taken n next ts (inl h) k = absurd (h.other (sym (ap (kind_or next) h.empty) ∙ k))
else_taken n next ts (inr h) k = h

pub else_none : (n : ℕ) (next : TokenKind) (ts : Tokens) → else_tokens (instr_tokens deep n) next ts
    → kind_or next ts ≢ Reserved ELSE → nothing next ts
else_none n next ts (inl h) k = h.empty
else_none n next ts (inr h) k = absurd (k (then_kind h))

-- Texts to come

pub some_path : BeginsForm path_tokens []
some_path = begins_after {A = ReadsSome ReadsStart} (λ next. (Here, refl))
    (begins_then (begins_token Name) begins_no_more)

pub some_assign : (m : ℕ) → BeginsForm (simple_rest m) []
some_assign m = begins_map (begins_then (begins_token (Sign ASSIGN))
    (begins_then (some_expr m) (begins_token (Sign SEMICOLON)))) (λ next ts h. inl h)

pub some_instr : (m : ℕ) → BeginsForm (instr_tokens deep m) []
some_instr zero = begins_token no_kind
some_instr (suc m) = begins_map (begins_then (begins_token (Reserved SKIP)) (begins_token (Sign SEMICOLON)))
    (λ next ts h. simple (inl h))

pub some_group_end : {A : Form} → BeginsForm (many A ▸ token (Sign CLOSE_BRACE)) []
some_group_end = begins_then begins_no_more (begins_token (Sign CLOSE_BRACE))

pub instr_at : (m : ℕ) (t : Lexeme) → begins_instr t.kind ≡ true → BeginsForm (instr_tokens deep (suc m)) (t ∷ [])
instr_at m t h = by_kind t.kind refl h
  where
    by_path : begins_path t.kind ≡ true → BeginsForm (instr_tokens deep (suc m)) (t ∷ [])
    by_path p = begins_map (begins_then (path_at t p) (some_assign m)) (λ next ts h. simple (inr h))

    by_word : (w : ℕ) → t.kind ≡ Reserved w → (((w == OWNER) || (w == MAIN) || (w == SKIP)) ≡ true) ⊎ ((w == IF) ≡ true)
        → BeginsForm (instr_tokens deep (suc m)) (t ∷ [])
    by_word w e (inr q) = begins_map (begins_then
        (begins_then (begins_here t (Reserved IF) (e ∙ ap Reserved (eqb-true w IF q)))
        (begins_then (some_expr m) (begins_token (Reserved THEN))))
        (begins_then (some_instr m) (begins_map (begins_then (begins_token (Reserved ELSE)) (some_instr m))
        (λ next ts h. inr h)))) (λ next ts h. conditional h)
    by_word w e (inl q) = by_simple (or_cases ((w == OWNER) || (w == MAIN)) (w == SKIP) q)
      where
        by_simple : (((w == OWNER) || (w == MAIN)) ≡ true) ⊎ ((w == SKIP) ≡ true)
            → BeginsForm (instr_tokens deep (suc m)) (t ∷ [])
        by_simple (inl p) = by_path (ap begins_path e ∙ p)
        by_simple (inr p) = begins_map (begins_then
            (begins_here t (Reserved SKIP) (e ∙ ap Reserved (eqb-true w SKIP p))) (begins_token (Sign SEMICOLON)))
            (λ next ts h. simple (inl h))

    by_kind : (k : TokenKind) → t.kind ≡ k → begins_instr k ≡ true → BeginsForm (instr_tokens deep (suc m)) (t ∷ [])
    by_kind Name e h = by_path (ap begins_path e)
    by_kind (Sign s) e h = begins_map (begins_then
        (begins_here t (Sign OPEN_BRACE) (e ∙ ap Sign (eqb-true s OPEN_BRACE h))) some_group_end) (λ next ts h. group h)
    by_kind (Reserved w) e h = by_word w e (or_cases ((w == OWNER) || (w == MAIN) || (w == SKIP)) (w == IF) h)
    by_kind (Whole n) e h = absurd (cc)
    by_kind Real e h = absurd (cc)
    by_kind End e h = absurd (cc)

-- Texts before any token but `else`

-- where a text stands before `next`, it may stand before `next'`
abbrev pub May : TokenKind → TokenKind → Type 0
May next next' = (next' ≢ Reserved ELSE) ⊎ (next' ≡ next)

abbrev pub Moves : Form → Form → Type 0
Moves A B = (next next' : TokenKind) (ts : Tokens) → May next next' → A next ts → B next' ts

may_or : (next next' : TokenKind) (back : Tokens) → May next next' → May (kind_or next back) (kind_or next' back)
may_or next next' [] m = m
may_or next next' (t ∷ back) m = inr refl

pub moves_of : {A B : Form} → Turns A B → Moves A B
moves_of f = λ next next' ts m h. f next next' ts h

pub moves_token : {k : TokenKind} → Moves (token k) (token k)
moves_token = moves_of turns_token

pub moves_then : {A A' B B' : Form} → Moves A A' → Moves B B' → Moves (A ▸ B) (A' ▸ B')
moves_then f g = λ next next' ts m h. record {
  front = h.front;
  back = h.back;
  split = h.split;
  first = f (kind_or next h.back) (kind_or next' h.back) h.front (may_or next next' h.back m) h.first;
  second =
      g next next' h.back m h.second;
}

pub moves_each : {X : Type 0} {One : X → Form} {B : Form} → ((x : X) → Moves (One x) B) → (xs : List X)
    → Moves (each One xs) (many B)
moves_each f [] = λ next next' ts m h. ([], h)
moves_each f (x ∷ xs) = λ next next' ts m h.
    let more = moves_each f xs next next' h.back m h.second in (
      tt ∷ more.0,
      record {
        front = h.front;
        back = h.back;
        split = h.split;
        first = f x (kind_or next h.back) (kind_or next' h.back) h.front (may_or next next' h.back m) h.first;
        second =
            more.1;
      },
    )

pub moves_enclosed : (opens closes : TokenKind) (n m : ℕ) → n ≤ m → (e : RawExpr)
    → Moves (between opens closes (Node (ReadsExpr n) e)) (between opens closes (expr_tokens deep m))
moves_enclosed opens closes n m l e = moves_of (turns_then turns_token (turns_then (turns_tree n m l e) turns_token))

not_else : (next next' : TokenKind) → May next next' → next ≢ Reserved ELSE → next' ≢ Reserved ELSE
not_else next next' (inl n) o = n
not_else next next' (inr q) o = λ e. o (sym q ∙ e)

moves_else : (Inner : Instr → Form) (B : Form) → ((i : Instr) → Moves (Inner i) B) → (no : Option (Box Instr Global))
    → Moves (ReadsElse Inner no) (else_tokens B)
moves_else Inner B g None = λ next next' ts m h. inl (record { empty = h.empty; other = not_else next next' m h.other })
moves_else Inner B g (Some d) = λ next next' ts m h. inr (moves_then moves_token (g d.value) next next' ts m h)

instr_case : (n m : ℕ) → n ≤ m → (i : Instr) (next next' : TokenKind) (ts : Tokens) → May next next'
    → ReadsInstr n i next ts → instr_tokens deep m next' ts
instr_case zero m l i next next' ts y h = elim h [ ]
instr_case (suc n) zero l i next next' ts y h = absurd (omega (arith, l))
instr_case (suc n) (suc m) l i next next' ts y (tree.simple h) = simple (by_simple h)
  where
    by_simple : ReadsSimpleOf (ReadsExpr n) i next ts → simple_tokens (expr_tokens deep m) next' ts
    by_simple (assign p e q h) = inr (turns_then (turns_path p)
        (λ next next' ts j. inl (turns_then turns_token (turns_then (turns_tree n m (omega (arith, l)) e) turns_token)
        next next' ts j)) next next' ts h)
    by_simple (tie p r q h) = inr (turns_then (turns_path p)
        (λ next next' ts j. inr (turns_then turns_token (turns_then (turns_path r) turns_token) next next' ts j)) next
        next' ts h)
    by_simple (skip q h) = inl (turns_then turns_token turns_token next next' ts h)
instr_case (suc n) (suc m) l i next next' ts y (tree.group h) =
    group (moves_then moves_token (moves_then
    (moves_each (λ j next next' ts z k. instr_case n m (omega (arith, l)) j next next' ts z k) h.instrs.items)
    moves_token) next next' ts y h.reads)
instr_case (suc n) (suc m) l i next next' ts y (tree.conditional h) =
    conditional (moves_then (moves_enclosed (Reserved IF) (Reserved THEN) n m (omega (arith, l)) h.test)
    (moves_then (λ next next' ts z k. instr_case n m (omega (arith, l)) h.yes.value next next' ts z k)
    (moves_else (ReadsInstr n) (instr_tokens deep m)
    (λ j next next' ts z k. instr_case n m (omega (arith, l)) j next next' ts z k) h.no)) next next' ts y h.reads)

pub moves_instr : (n m : ℕ) → n ≤ m → (i : Instr) → Moves (ReadsInstr n i) (instr_tokens deep m)
moves_instr n m l i = λ next next' ts y h. instr_case n m l i next next' ts y h

-- What was taken, before any token but `else`, and before what follows

pub record Leads (P : ℕ → Form) (left : ℕ) (old mid : Tokens) : Type 0 where
  pub front : Tokens
  pub split : old ≡ front ++ mid
  pub form : (m : ℕ) → left ≤ m → (next : TokenKind) → May (first_token_kind mid) next → P m next front

pub leads : {A : Form} {P : ℕ → Form} {left : ℕ} {old mid : Tokens} → Spans A old mid
    → ((m : ℕ) → left ≤ m → Moves A (P m)) → Leads P left old mid
leads {mid = mid} s f = record {
  front = s.front;
  split = s.split;
  form = λ m l next y. f m l (first_token_kind mid) next s.front y s.form;
}

pub refuses_leads : {P Q : ℕ → Form} {left : ℕ} {e : Refusal} {old mid new : Tokens} → Leads P left old mid
    → ((m : ℕ) (next : TokenKind) (ts : Tokens) → Q m next ts → May (first_token_kind mid) (kind_or next ts))
    → Refuses Q left e mid new → Refuses (λ m. P m ▸ Q m) left e old new
refuses_leads {new = new} p y r n = let s = r n in record {
  front = p.front ++ s.front;
  passed = p.split ∙ ap (λ (x : Tokens). p.front ++ x) s.passed ∙ sym (append_assoc p.front s.front new);
  opens = s.opens;
  tells = λ m more t. let b = s.tells m more t in record {
    more = b.more;
    form = λ next. record {
      front = p.front;
      back = (s.front ++ more) ++ b.more;
      split = ap (λ (x : Tokens). x ++ b.more) (append_assoc p.front s.front more)
          ∙ append_assoc p.front (s.front ++ more) b.more;
      first = p.form m (tells_most t) (kind_or next ((s.front ++ more) ++ b.more))
          (y m next ((s.front ++ more) ++ b.more) (b.form next));
      second = b.form next;
    };
  };
}

pub refuses_again : {A : ℕ → Form} {left : ℕ} {e : Refusal} {start rest new : Tokens}
    → Leads (λ m. many (A m)) left start rest
    → ((m : ℕ) (next : TokenKind) (ts : Tokens) → A m next ts → May (first_token_kind rest) (kind_or next ts))
    → Refuses A left e rest new → Refuses (λ m. many (A m)) left e start new
refuses_again {A} p y r = refuses_map (refuses_leads p y r)
    (λ m next ts h. (
      h.first.0 ++ tt ∷ [],
      subst
          (λ (t : Tokens). each (λ (x : Unit {0}). A m) (h.first.0 ++ tt ∷ []) next t) (sym h.split)
          (each_push (λ (x : Unit {0}). A m) h.first.0 tt h.front h.back next h.first.1 h.second),
    ))

-- a turn of a loop is refused, so that the form stands there at least once
pub refuses_some_again : {A : ℕ → Form} {left : ℕ} {e : Refusal} {start rest new : Tokens}
    → Leads (λ m. many (A m)) left start rest
    → ((m : ℕ) (next : TokenKind) (ts : Tokens) → A m next ts → May (first_token_kind rest) (kind_or next ts))
    → Refuses A left e rest new → Refuses (λ m. A m ▸ many (A m)) left e start new
refuses_some_again {A} p y r = refuses_map (refuses_leads p y r)
    (λ m next ts h. each_some h.first.0 next ts
    (subst (λ (t : Tokens). each (λ (x : Unit {0}). A m) (h.first.0 ++ tt ∷ []) next t) (sym h.split)
    (each_push (λ (x : Unit {0}). A m) h.first.0 tt h.front h.back next h.first.1 h.second)))

-- before a token that closes it, a text stands before any token
pub moves_closed : {A B : Form} {k : TokenKind} → Moves A B → Turns (A ▸ token k) (B ▸ token k)
moves_closed {k = k} f = λ next next' ts h.
    let t = turns_token {k = k} next next' h.back h.second in
    record {
      front = h.front;
      back = h.back;
      split = h.split;
      first = f (kind_or next h.back) (kind_or next' h.back) h.front (inr (token_kind t ∙ sym (token_kind h.second)))
          h.first;
      second = t;
    }

-- each group is many of the form

pub turns_groups : {X : Type 0} {One : List X → Form} {B : Form} → ((xs : List X) → Turns (One xs) B) → (xs : List X)
    → Turns (groups One xs) (many B)
turns_groups f xs = λ next next' ts h. turns_each f h.parts next next' ts h.are

pub moves_groups : {X : Type 0} {One : List X → Form} {B : Form} → ((xs : List X) → Moves (One xs) B) → (xs : List X)
    → Moves (groups One xs) (many B)
moves_groups f xs = λ next next' ts y h. moves_each f h.parts next next' ts y h.are
