-- What a text of the grammar is, by its first token.
use Rattle.std.proofs.Common.{◌≡◌, ◌≢◌, ℕ, zero, suc, ◌⊎◌, inl, inr, Bool, true, false, not, ◌||◌, ◌∷◌, ◌++◌, refl, sym, ap, ◌∙◌, subst, append_assoc}
use Rattle.std.specs.Prelude.{if◌then◌else◌, ◌==◌}
use Rattle.std.proofs.lemmas.Bool.{eqb-true, or_cases, or_right}
use Rattle.ar_lexer.specs.declared.token.TokenKind.{TokenKind}
use Rattle.ar_lexer.specs.declared.token.TokenKind.TheVariants.{Name, Whole, Real, Sign, Reserved, End}
use Rattle.ar_lexer.specs.declared.signs.TheConstants.{COMMA, OPEN_BRACE, OPEN_PARENTHESIS, CLOSE_PARENTHESIS, COLON, CLOSE_BRACE, PLUS, MINUS}
use Rattle.ar_lexer.specs.declared.words.TheConstants.{CASE, COUNT, DEFAULT, FALSE, IF, MAIN, MAX, MIN, NOT, OWNER, SWITCH, TRUE}
use Rattle.ar_syntax.specs.declared.paths.PathStart.TheVariants.{Here, Owner, Main}
use Rattle.ar_syntax.specs.declared.expressions.RawRelation.{RawRelation}
use Rattle.expression_grammar.specs.declared.terms.Call.{Call}
use Rattle.expression_grammar.specs.declared.terms.Call.TheVariants.{Least, Greatest, Count}
use Rattle.expression_grammar.specs.declared.terms.Chain.{Chain}
use Rattle.expression_grammar.specs.declared.terms.Chain.TheVariants.{Any}
use Rattle.expression_grammar.specs.Words.{Form, Tokens, kind_or, token, no_kind, deep, nothing, ◌▸◌, ◌∣◌, between, many, ReadsSome}
use Rattle.expression_grammar.specs.Paths.{ReadsStart}
use Rattle.expression_grammar.specs.Expressions.{sign_of}
use Rattle.expression_grammar.specs.Chains.{separator_of, opening_word, ends_operand, ends_chain}
use Rattle.expression_grammar.specs.Texts.{one_of, path_tokens, plus_tokens, product_tokens, sum_tokens, relation_tokens, compare_tokens, or_tokens, if_tokens, switch_tokens, operands_tokens, primary_tokens, constant, path, brackets, call, switch, expr_tokens, not_tokens, minus_tokens, begins_constant, begins_call}
use Rattle.expression_grammar.specs.Results.{is_sign, is_word, begins_path, begins_primary, begins_minus, begins_not, begins_expr, begins_term, is_relation, anything, ends_product, ends_sum, ends_not, ends_expr, ends_list, ends_cases}
use Rattle.expression_grammar.proofs.Finding.{Follows, inside, kind_join, token_kind, then_kind, apart, fails, follows_many}
use Rattle.expression_grammar.proofs.ExpressionForms.{then_map, and_left, sign_from, word_from}
use Rattle.expression_grammar.proofs.ExpressionParts.{sep_ends, chain_ends, relation_ends, relation_is, relation_open, sum_ends}
use Rattle.expression_grammar.specs.Parts.{operand_tokens, chain_tokens, term_tokens, case_tokens}

-- First tokens

pub first_of : {A B : Form} {next : TokenKind} {ts : Tokens} → (h : (A ▸ B) next ts)
    → kind_or next ts ≡ kind_or (kind_or next h.back) h.front
first_of {next = next} h = ap (kind_or next) h.split ∙ kind_join h.front h.back next

pub one_kind : {test : TokenKind → Bool} {next : TokenKind} {ts : Tokens} → one_of test next ts
    → test (kind_or next ts) ≡ true
one_kind {test} {next} h = ap test (ap (kind_or next) h.alone) ∙ h.passes

pub token_as : {j k next : TokenKind} {ts : Tokens} → token j next ts → kind_or next ts ≡ k → token k next ts
token_as {next = next} h q = record { one = h.one; alone = h.alone; of_kind = sym (ap (kind_or next) h.alone) ∙ q }

pub one_as : {test : TokenKind → Bool} {k next : TokenKind} {ts : Tokens} → one_of test next ts → kind_or next ts ≡ k
    → token k next ts
one_as {next = next} h q = record { one = h.one; alone = h.alone; of_kind = sym (ap (kind_or next) h.alone) ∙ q }

-- the first token of each text of this form passes the test, unless it stands for a production that opens too deep
abbrev pub Starts : (TokenKind → Bool) → Form → Type 0
Starts test A = (next : TokenKind) (ts : Tokens) → A next ts → (kind_or next ts ≡ no_kind → ⊥)
    → test (kind_or next ts) ≡ true

pub starts_then : (test : TokenKind → Bool) {A B : Form} → Starts test A → Starts test (A ▸ B)
starts_then test f = λ next ts h none. ap test (first_of h)
    ∙ f (kind_or next h.back) h.front h.first (λ z. none (first_of h ∙ z))

-- Paths

pub start_first : (test : TokenKind → Bool) → test Name ≡ true → test (Reserved OWNER) ≡ true
    → test (Reserved MAIN) ≡ true → (next : TokenKind) (ts : Tokens) → ReadsSome ReadsStart next ts → next ≡ Name
    → test (kind_or next ts) ≡ true
start_first test name owner main next ts (Here, h) k = ap test (ap (kind_or next) h ∙ k) ∙ name
start_first test name owner main next ts (Owner, h) k = ap test (then_kind h) ∙ owner
start_first test name owner main next ts (Main, h) k = ap test (then_kind h) ∙ main

pub path_starts : (test : TokenKind → Bool) → test Name ≡ true → test (Reserved OWNER) ≡ true
    → test (Reserved MAIN) ≡ true → (next : TokenKind) (ts : Tokens) → path_tokens next ts
    → test (kind_or next ts) ≡ true
path_starts test name owner main next ts h =
    ap test (first_of h) ∙ start_first test name owner main (kind_or next h.back) h.front h.first
    (first_of h.second ∙ token_kind h.second.first)

-- Constants and calls

pub constant_primary : (k : TokenKind) → begins_constant k ≡ true → begins_primary k ≡ true
constant_primary (Whole n) e = refl
constant_primary Real e = refl
constant_primary (Reserved w) e = by_either (or_cases (w == TRUE) (w == FALSE) e)
  where
    by_either : ((w == TRUE) ≡ true) ⊎ ((w == FALSE) ≡ true) → begins_primary (Reserved w) ≡ true
    by_either (inl q) = ap (λ (m : ℕ). begins_primary (Reserved m)) (eqb-true w TRUE q)
    by_either (inr q) = ap (λ (m : ℕ). begins_primary (Reserved m)) (eqb-true w FALSE q)
constant_primary Name e = refl
constant_primary (Sign s) e = absurd (cc)
constant_primary End e = absurd (cc)

pub call_from : (k : TokenKind) → begins_call k ≡ true → (c : Call) × (k ≡ opening_word c)
call_from (Reserved w) e = by_either (or_cases ((w == MIN) || (w == MAX)) (w == COUNT) e)
  where
    by_first : ((w == MIN) ≡ true) ⊎ ((w == MAX) ≡ true) → (c : Call) × (Reserved w ≡ opening_word c)
    by_first (inl q) = (Least, ap Reserved (eqb-true w MIN q))
    by_first (inr q) = (Greatest, ap Reserved (eqb-true w MAX q))

    by_either : (((w == MIN) || (w == MAX)) ≡ true) ⊎ ((w == COUNT) ≡ true) → (c : Call) × (Reserved w ≡ opening_word c)
    by_either (inl q) = by_first (or_cases (w == MIN) (w == MAX) q)
    by_either (inr q) = (Count, ap Reserved (eqb-true w COUNT q))
call_from Name e = absurd (cc)
call_from (Whole n) e = absurd (cc)
call_from Real e = absurd (cc)
call_from (Sign s) e = absurd (cc)
call_from End e = absurd (cc)

pub call_begins : (test : TokenKind → Bool) → test (Reserved MIN) ≡ true → test (Reserved MAX) ≡ true
    → test (Reserved COUNT) ≡ true → (k : TokenKind) → begins_call k ≡ true → test k ≡ true
call_begins test a b c k e = by_word (call_from k e)
  where
    by_word : (c : Call) × (k ≡ opening_word c) → test k ≡ true
    by_word (Least, q) = ap test q ∙ a
    by_word (Greatest, q) = ap test q ∙ b
    by_word (Count, q) = ap test q ∙ c

pub primary_starts : (Expr : Form) → (next : TokenKind) (ts : Tokens) → primary_tokens Expr next ts
    → begins_primary (kind_or next ts) ≡ true
primary_starts Expr next ts (constant h) = constant_primary (kind_or next ts) (one_kind h)
primary_starts Expr next ts (path h) = path_starts begins_primary refl refl refl next ts h
primary_starts Expr next ts (brackets h) = ap begins_primary (then_kind h)
primary_starts Expr next ts (call h) =
    ap begins_primary (first_of h) ∙ call_begins begins_primary refl refl refl (kind_or (kind_or next h.back) h.front)
    (one_kind h.first)
primary_starts Expr next ts (switch h) = ap begins_primary (then_kind h)

pub minus_starts : (n : ℕ) → Starts begins_minus (minus_tokens deep n)
minus_starts zero next ts h none = absurd (none (token_kind h))
minus_starts (suc n) next ts (inl h) none = ap begins_minus (then_kind h)
minus_starts (suc n) next ts (inr h) none =
    or_right (is_sign MINUS (kind_or next ts)) (begins_primary (kind_or next ts))
    (primary_starts (expr_tokens deep n) next ts h)

pub compare_starts : (n : ℕ) → Starts begins_minus (compare_tokens (sum_tokens (product_tokens (minus_tokens deep n))))
compare_starts n = starts_then begins_minus (starts_then begins_minus (starts_then begins_minus (minus_starts n)))

pub not_starts : (n : ℕ) → Starts begins_not (not_tokens deep n)
not_starts zero next ts h none = absurd (none (token_kind h))
not_starts (suc n) next ts (inl h) none = ap begins_not (then_kind h)
not_starts (suc n) next ts (inr h) none =
    or_right (is_word NOT (kind_or next ts)) (begins_minus (kind_or next ts)) (compare_starts n next ts h none)

pub or_starts : (n : ℕ) → Starts begins_not (or_tokens (not_tokens deep n))
or_starts n = starts_then begins_not (starts_then begins_not (not_starts n))

pub expr_starts : (n : ℕ) → Starts begins_expr (expr_tokens deep n)
expr_starts zero next ts h none = absurd (none (token_kind h))
expr_starts (suc n) next ts (inl h) none = ap begins_expr (first_of h ∙ then_kind h.first)
expr_starts (suc n) next ts (inr h) none =
    or_right (is_word IF (kind_or next ts)) (begins_not (kind_or next ts)) (or_starts n next ts h none)

-- Expr

pub expr_begins : (n : ℕ) (next : TokenKind) (ts : Tokens) → expr_tokens deep n next ts → (kind_or next ts ≡ no_kind
    → ⊥) → begins_expr (kind_or next ts) ≡ true
expr_begins n = expr_starts n

pub expr_some : (n : ℕ) (next : TokenKind) (ts : Tokens) → expr_tokens deep n next ts → (kind_or next ts ≡ no_kind → ⊥)
    → n ≢ 0
expr_some zero next ts h none = absurd (none (token_kind h))
expr_some (suc n) next ts h none = λ e. absurd (cc)

pub expr_if : (n : ℕ) (next : TokenKind) (ts : Tokens) → expr_tokens deep n next ts → kind_or next ts ≡ Reserved IF
    → inside (λ m. if_tokens (expr_tokens deep m)) n next ts
expr_if zero next ts h k = apart (is_sign 256) (token_kind h) k refl refl
expr_if (suc n) next ts (inl h) k = (n, refl, h)
expr_if (suc n) next ts (inr h) k =
    fails begins_not (or_starts n next ts h (λ z. apart (is_sign 256) z k refl refl)) k refl

pub expr_plain : (n : ℕ) (next : TokenKind) (ts : Tokens) → expr_tokens deep n next ts → kind_or next ts ≢ Reserved IF
    → (kind_or next ts ≡ no_kind → ⊥) → inside (chain_tokens Any) n next ts
expr_plain zero next ts h k none = absurd (none (token_kind h))
expr_plain (suc n) next ts (inl h) k none = absurd (k (first_of h ∙ then_kind h.first))
expr_plain (suc n) next ts (inr h) k none = (n, refl, h)

pub chain_follows : (c : Chain) → Follows (λ n. many (token (separator_of c) ▸ operand_tokens c n)) (ends_operand c)
    (ends_chain c)
chain_follows c = follows_many (λ n next ts h. ap (ends_operand c) (then_kind h) ∙ sep_ends c) (chain_ends c)

-- Not

pub not_begins : (n : ℕ) (next : TokenKind) (ts : Tokens) → not_tokens deep n next ts → (kind_or next ts ≡ no_kind → ⊥)
    → begins_not (kind_or next ts) ≡ true
not_begins n = not_starts n

pub not_some : (n : ℕ) (next : TokenKind) (ts : Tokens) → not_tokens deep n next ts → (kind_or next ts ≡ no_kind → ⊥)
    → n ≢ 0
not_some zero next ts h none = absurd (none (token_kind h))
not_some (suc n) next ts h none = λ e. absurd (cc)

pub not_negated : (n : ℕ) (next : TokenKind) (ts : Tokens) → not_tokens deep n next ts → kind_or next ts ≡ Reserved NOT
    → inside (λ m. token (Reserved NOT) ▸ not_tokens deep m) n next ts
not_negated zero next ts h k = apart (is_sign 256) (token_kind h) k refl refl
not_negated (suc n) next ts (inl h) k = (n, refl, h)
not_negated (suc n) next ts (inr h) k =
    fails begins_minus (compare_starts n next ts h (λ z. apart (is_sign 256) z k refl refl)) k refl

pub not_plain : (n : ℕ) (next : TokenKind) (ts : Tokens) → not_tokens deep n next ts → kind_or next ts ≢ Reserved NOT
    → (kind_or next ts ≡ no_kind → ⊥) → inside (λ m. compare_tokens (sum_tokens (product_tokens (minus_tokens deep m))))
    n next
    ts
not_plain zero next ts h k none = absurd (none (token_kind h))
not_plain (suc n) next ts (inl h) k none = absurd (k (then_kind h))
not_plain (suc n) next ts (inr h) k none = (n, refl, h)

-- Compare

abbrev pub compare_rest : ℕ → Form
compare_rest n = nothing ∣ (relation_tokens ▸ sum_tokens (product_tokens (minus_tokens deep n)))

relation_kind : {B : Form} (next : TokenKind) (ts : Tokens) → (h : (relation_tokens ▸ B) next ts)
    → kind_or next ts ≡ Sign (sign_of h.first.0)
relation_kind next ts h = first_of h ∙ token_kind h.first.1

pub compare_follows : Follows compare_rest ends_sum ends_not
compare_follows = record { holds = λ n next ts h s. by_rest n next ts h s }
  where
    by_rest : (n : ℕ) (next : TokenKind) (ts : Tokens) → compare_rest n next ts → ends_not next ≡ true
        → ends_sum (kind_or next ts) ≡ true
    by_rest n next ts (inl h) s = ap ends_sum (ap (kind_or next) h) ∙ and_left (ends_sum next) _ s
    by_rest n next ts (inr h) s = ap ends_sum (relation_kind next ts h) ∙ relation_ends h.first.0

pub compare_over : (n : ℕ) (next : TokenKind) (ts : Tokens) → compare_rest n next ts
    → is_relation (kind_or next ts) ≡ false → nothing next ts
compare_over n next ts (inl h) k = h
compare_over n next ts (inr h) k = let q : true ≡ false = sym (relation_is h.first.0) ∙ ap is_relation (sym (relation_kind next ts h)) ∙ k in absurd (cc)

pub compare_more : (n : ℕ) (r : RawRelation) (next : TokenKind) (ts : Tokens) → compare_rest n next ts
    → ends_not next ≡ true → kind_or next ts ≡ Sign (sign_of r)
    → (token (Sign (sign_of r)) ▸ sum_tokens (product_tokens (minus_tokens deep n))) next ts
compare_more n r next ts (inl h) s k = let q : true ≡ false = sym s ∙ ap ends_not (sym (ap (kind_or next) h) ∙ k) ∙ relation_open r in absurd (cc)
compare_more n r next ts (inr h) s k =
    record {
      front = h.front;
      back = h.back;
      split = h.split;
      first = token_as h.first.1 (sym (first_of h) ∙ k);
      second = h.second;
    }

-- Sum

plus_kind : (test : TokenKind → Bool) → test (Sign PLUS) ≡ true → test (Sign MINUS) ≡ true
    → (next : TokenKind) (ts : Tokens) → plus_tokens next ts → test (kind_or next ts) ≡ true
plus_kind test a b next ts (true, h) = ap test (token_kind h) ∙ a
plus_kind test a b next ts (false, h) = ap test (token_kind h) ∙ b

term_kind : (n : ℕ) (next : TokenKind) (ts : Tokens) → term_tokens n next ts → begins_term (kind_or next ts) ≡ true
term_kind n next ts h = ap begins_term (first_of h)
    ∙ plus_kind begins_term refl refl (kind_or next h.back) h.front h.first

term_ends : (n : ℕ) (next : TokenKind) (ts : Tokens) → term_tokens n next ts → ends_product (kind_or next ts) ≡ true
term_ends n next ts h = ap ends_product (first_of h)
    ∙ plus_kind ends_product refl refl (kind_or next h.back) h.front h.first

pub term_begins : (n : ℕ) (next : TokenKind) (ts : Tokens) (k : TokenKind) → term_tokens n next ts → kind_or next ts ≡ k
    → begins_term k ≡ false → ⊥
term_begins n next ts k h e f = let q : true ≡ false = sym (term_kind n next ts h) ∙ ap begins_term e ∙ f in absurd (cc)

pub sum_follows : Follows (λ n. many (term_tokens n)) ends_product ends_sum
sum_follows = follows_many term_ends sum_ends

pub term_given : (n : ℕ) (plus : Bool) (next : TokenKind) (ts : Tokens) → term_tokens n next ts
    → kind_or next ts ≡ Sign (if plus then PLUS else MINUS)
    → (token (Sign (if plus then PLUS else MINUS)) ▸ product_tokens (minus_tokens deep n)) next ts
term_given n plus next ts h k = record {
  front = h.front;
  back = h.back;
  split = h.split;
  first = token_as h.first.1 (sym (first_of h) ∙ k);
  second = h.second;
}

-- Minus

pub minus_begins : (n : ℕ) (next : TokenKind) (ts : Tokens) → minus_tokens deep n next ts
    → (kind_or next ts ≡ no_kind → ⊥) → begins_minus (kind_or next ts) ≡ true
minus_begins n = minus_starts n

pub minus_some : (n : ℕ) (next : TokenKind) (ts : Tokens) → minus_tokens deep n next ts → (kind_or next ts ≡ no_kind
    → ⊥) → n ≢ 0
minus_some zero next ts h none = absurd (none (token_kind h))
minus_some (suc n) next ts h none = λ e. absurd (cc)

pub minus_negated : (n : ℕ) (next : TokenKind) (ts : Tokens) → minus_tokens deep n next ts → kind_or next ts ≡ Sign
    MINUS → inside (λ m. token (Sign MINUS) ▸ minus_tokens deep m) n next ts
minus_negated zero next ts h k = apart (is_sign 256) (token_kind h) k refl refl
minus_negated (suc n) next ts (inl h) k = (n, refl, h)
minus_negated (suc n) next ts (inr h) k = fails begins_primary (primary_starts (expr_tokens deep n) next ts h) k refl

pub minus_plain : (n : ℕ) (next : TokenKind) (ts : Tokens) → minus_tokens deep n next ts → kind_or next ts ≢ Sign MINUS
    → (kind_or next ts ≡ no_kind → ⊥) → inside (λ m. primary_tokens (expr_tokens deep m)) n next ts
minus_plain zero next ts h k none = absurd (none (token_kind h))
minus_plain (suc n) next ts (inl h) k none = absurd (k (then_kind h))
minus_plain (suc n) next ts (inr h) k none = (n, refl, h)

-- Primary

pub primary_constant : (n : ℕ) (k : TokenKind) (next : TokenKind) (ts : Tokens)
    → primary_tokens (expr_tokens deep n) next ts → kind_or next ts ≡ k → begins_constant k ≡ true → token k next ts
primary_constant n k next ts (constant h) q c = one_as h q
primary_constant n k next ts (path h) q c = let w : true ≡ false = sym (path_starts (λ j. not (begins_constant j)) refl refl refl next ts h) ∙ ap (λ j. not (begins_constant j)) q ∙ ap not c in absurd (cc)
primary_constant n k next ts (brackets h) q c = fails begins_constant c (sym q ∙ then_kind h) refl
primary_constant n k next ts (call h) q c = let w : true ≡ false = sym (call_begins (λ j. not (begins_constant j)) refl refl refl (kind_or (kind_or next h.back) h.front) (one_kind h.first)) ∙ ap (λ j. not (begins_constant j)) (sym (first_of h) ∙ q) ∙ ap not c in absurd (cc)
primary_constant n k next ts (switch h) q c = fails begins_constant c (sym q ∙ then_kind h) refl

pub primary_brackets : (n : ℕ) (next : TokenKind) (ts : Tokens) → primary_tokens (expr_tokens deep n) next ts
    → kind_or next ts ≡ Sign OPEN_PARENTHESIS
    → between (Sign OPEN_PARENTHESIS) (Sign CLOSE_PARENTHESIS) (expr_tokens deep n) next ts
primary_brackets n next ts (constant h) q = fails begins_constant (one_kind h) q refl
primary_brackets n next ts (path h) q = fails begins_path (path_starts begins_path refl refl refl next ts h) q refl
primary_brackets n next ts (brackets h) q = h
primary_brackets n next ts (call h) q = fails begins_call (one_kind h.first) (sym (first_of h) ∙ q) refl
primary_brackets n next ts (switch h) q = apart (is_word SWITCH) (then_kind h) q refl refl

pub primary_switch : (n : ℕ) (next : TokenKind) (ts : Tokens) → primary_tokens (expr_tokens deep n) next ts
    → kind_or next ts ≡ Reserved SWITCH → switch_tokens (expr_tokens deep n) next ts
primary_switch n next ts (constant h) q = fails begins_constant (one_kind h) q refl
primary_switch n next ts (path h) q = fails begins_path (path_starts begins_path refl refl refl next ts h) q refl
primary_switch n next ts (brackets h) q = apart (is_sign OPEN_PARENTHESIS) (then_kind h) q refl refl
primary_switch n next ts (call h) q = fails begins_call (one_kind h.first) (sym (first_of h) ∙ q) refl
primary_switch n next ts (switch h) q = h

pub call_word : (test : TokenKind → Bool) → test (Reserved MIN) ≡ false → test (Reserved MAX) ≡ false
    → test (Reserved COUNT) ≡ false → (c : Call) → test (opening_word c) ≡ false
call_word test a b d Least = a
call_word test a b d Greatest = b
call_word test a b d Count = d

pub primary_call : (n : ℕ) (c : Call) (next : TokenKind) (ts : Tokens) → primary_tokens (expr_tokens deep n) next ts
    → kind_or next ts ≡ opening_word c → (token (opening_word c) ▸ operands_tokens (expr_tokens deep n)) next ts
primary_call n c next ts (constant h) q =
    fails begins_constant (one_kind h) q (call_word begins_constant refl refl refl c)
primary_call n c next ts (path h) q =
    fails begins_path (path_starts begins_path refl refl refl next ts h) q (call_word begins_path refl refl refl c)
primary_call n c next ts (brackets h) q =
    apart (is_sign OPEN_PARENTHESIS) (then_kind h) q refl (call_word (is_sign OPEN_PARENTHESIS) refl refl refl c)
primary_call n c next ts (call h) q =
    record {
      front = h.front;
      back = h.back;
      split = h.split;
      first = one_as h.first (sym (first_of h) ∙ q);
      second = h.second;
    }
primary_call n c next ts (switch h) q =
    apart (is_word SWITCH) (then_kind h) q refl (call_word (is_word SWITCH) refl refl refl c)

pub primary_path : (n : ℕ) (next : TokenKind) (ts : Tokens) → primary_tokens (expr_tokens deep n) next ts
    → begins_constant (kind_or next ts) ≡ false → (kind_or next ts ≡ Sign OPEN_PARENTHESIS → ⊥)
    → (kind_or next ts ≡ Reserved SWITCH → ⊥) → begins_call (kind_or next ts) ≡ false → path_tokens next ts
primary_path n next ts (constant h) a b c d = let w : true ≡ false = sym (one_kind h) ∙ a in absurd (cc)
primary_path n next ts (path h) a b c d = h
primary_path n next ts (brackets h) a b c d = absurd (b (then_kind h))
primary_path n next ts (call h) a b c d = let w : true ≡ false = sym (one_kind h.first) ∙ ap begins_call (sym (first_of h)) ∙ d in absurd (cc)
primary_path n next ts (switch h) a b c d = absurd (c (then_kind h))

pub arguments_follow : Follows (λ n. many (token (Sign COMMA) ▸ expr_tokens deep n)) ends_expr ends_list
arguments_follow = follows_many (λ n next ts h. ap ends_expr (then_kind h))
    (λ k h. ap ends_expr (sign_from CLOSE_PARENTHESIS k h))

pub operands_follow : Follows (λ n. many (token (Sign COMMA) ▸ expr_tokens deep n) ▸ token (Sign CLOSE_PARENTHESIS))
    ends_expr anything
operands_follow = record {
  holds = λ n next ts h s. ap ends_expr (first_of h)
      ∙ arguments_follow.holds n (kind_or next h.back) h.front h.first (ap ends_list (token_kind h.second));
}

-- Switch

pub case_kind : (n : ℕ) (next : TokenKind) (ts : Tokens) → case_tokens n next ts → kind_or next ts ≡ Reserved CASE
case_kind n next ts h = first_of h ∙ then_kind h.first

pub cases_follow : Follows (λ n. many (case_tokens n)) ends_expr ends_cases
cases_follow = follows_many (λ n next ts h. ap ends_expr (case_kind n next ts h))
    (λ k h. ap ends_expr (word_from DEFAULT k h))

pub many_one : {A : Form} (next : TokenKind) (ts : Tokens) → (A ▸ many A) next ts → many A next ts
many_one next ts h = (
  tt ∷ h.second.0,
  record
      { front = h.front; back = h.back; split = h.split; first = h.first; second = h.second.1 },
)

pub switch_parts : (n : ℕ) (next : TokenKind) (ts : Tokens) → switch_tokens (expr_tokens deep n) next ts
    → (token (Reserved SWITCH) ▸ token (Sign OPEN_BRACE) ▸ many (case_tokens n) ▸ token (Reserved DEFAULT) ▸ between
    (Sign COLON) (Sign CLOSE_BRACE) (expr_tokens deep n)) next ts
switch_parts n next ts h = then_map h (λ next ts j. j)
    (λ next ts a. then_map a (λ next ts j. j) (λ next ts b. by_cases next ts b))
  where
    by_cases : {B : Form} (next : TokenKind) (ts : Tokens) → (case_tokens n ▸ many (case_tokens n) ▸ B) next ts
        → (many (case_tokens n) ▸ B) next ts
    by_cases next ts b = record {
      front = b.front ++ b.second.front;
      back = b.second.back;
      split = b.split ∙ ap (λ (t : Tokens). b.front ++ t) b.second.split
          ∙ sym (append_assoc b.front b.second.front b.second.back);
      first = many_one (kind_or next b.second.back) (b.front ++ b.second.front)
          (record {
            front = b.front;
            back = b.second.front;
            split = refl;
            first = subst (λ (k : TokenKind). case_tokens n k b.front)
                (ap (kind_or next) b.second.split ∙ kind_join b.second.front b.second.back next) b.first;
            second =
                b.second.first;
          });
      second = b.second.second;
    }
