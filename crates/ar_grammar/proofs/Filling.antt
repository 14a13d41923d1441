-- Where a token stands for a production that opens too deep, a text of the production may stand.
use Rattle.std.proofs.Common.{◌≡◌, ◌≢◌, ℕ, zero, suc, ◌⊎◌, inl, inr, Bool, List, [], ◌∷◌, ◌++◌, refl, sym, ap, ◌∙◌, subst, append_assoc}
use Rattle.std.proofs.lemmas.List.{append-nil}
use Rattle.ar_lexer.specs.declared.token.TokenKind.{TokenKind}
use Rattle.ar_lexer.specs.declared.token.TokenKind.TheVariants.{Sign, Reserved, End}
use Rattle.ar_lexer.specs.declared.signs.TheConstants.{OPEN_PARENTHESIS, CLOSE_PARENTHESIS, SEMICOLON}
use Rattle.ar_lexer.specs.declared.words.TheConstants.{ASSERTION, ELSE, SKIP, TRUE}
use Rattle.expression_grammar.specs.declared.lexeme.Lexeme.{Lexeme}
use Rattle.expression_grammar.specs.Words.{Form, Tokens, kind_or, token, no_kind, deep, never, nothing, not_before, ◌▸◌, ◌∣◌, between, each, many, ReadsSome}
use Rattle.expression_grammar.specs.Paths.{ReadsStart}
use Rattle.expression_grammar.specs.Texts.{one_of, list_of, maybe, names_tokens, path_tokens, plus_tokens, product_tokens, sum_tokens, relation_tokens, compare_tokens, and_tokens, or_tokens, if_tokens, case_made_of, switch_tokens, operands_tokens, primary_tokens, expr_tokens, not_tokens, minus_tokens, begins_constant}
use Rattle.ar_grammar.specs.Texts.{simple_tokens, else_tokens, conditional_tokens, group_tokens, instr_of, instr_tokens, is_type, is_target_word, setting_tokens, settings_tokens, is_unread, is_kept, bracketed_tokens, kept_tokens, declared_rest, valued_tokens, is_part, transition_tokens, section_tokens, unit_tokens, keyed_tokens, body_made_of, body_tokens, bound_tokens, whole_tokens, domain_tokens, item_tokens, model_tokens, Viable, FitsNesting}
use Rattle.expression_grammar.specs.Texts as primary
use Rattle.ar_grammar.specs.Texts as text
use Rattle.expression_grammar.specs.Results.{Plain, is_word, is_sign}
use Rattle.expression_grammar.proofs.Finding.{apart}
use Rattle.expression_grammar.proofs.Turning.{turns_start}
use Rattle.expression_grammar.proofs.Standing.{Turns, turns_token, some_token}
use Rattle.ar_grammar.proofs.Standing.{turns_nothing}

-- The second list is the first, where some tokens that no text has have given way to one token or more, the first no
-- `else`.
abbrev pub Filled : Tokens → Tokens → Type 0
Filled [] ts' = ts' ≡ []
Filled (t ∷ ts) ts' =
    ((rest : Tokens) × (ts' ≡ t ∷ rest) × Filled ts rest)
    ⊎ ((u : Lexeme) × (a : Tokens) × (rest : Tokens) × (t.kind ≡ no_kind) × (u.kind ≢ Reserved ELSE)
    × (ts' ≡ u ∷ (a ++ rest)) × Filled ts rest)

filled_same : (ts : Tokens) → Filled ts ts
filled_same [] = refl
filled_same (t ∷ ts) = inl (ts, refl, filled_same ts)

filled_append : (a b a' b' : Tokens) → Filled a a' → Filled b b' → Filled (a ++ b) (a' ++ b')
filled_append [] b a' b' f g = subst (λ (t : Tokens). Filled b (t ++ b')) (sym f) g
filled_append (t ∷ a) b a' b' (inl f) g =
    inl (f.0 ++ b', ap (λ (s : Tokens). s ++ b') f.1, filled_append a b f.0 b' f.2 g)
filled_append (t ∷ a) b a' b' (inr f) g =
    inr (
      f.0,
      f.1,
      f.2 ++ b',
      f.3,
      f.4,
      ap (λ (s : Tokens). s ++ b') f.5
          ∙ ap (λ (s : Tokens). f.0 ∷ s) (append_assoc f.1 f.2 b'),
      filled_append a b f.2 b' f.6 g,
    )

-- where no `else` may follow, none does
abbrev pub Still : TokenKind → TokenKind → Type 0
Still next next' = next ≢ Reserved ELSE → next' ≢ Reserved ELSE

filled_kind : (ts ts' : Tokens) (next next' : TokenKind) → Filled ts ts' → Still next next'
    → Still (kind_or next ts) (kind_or next' ts')
filled_kind [] ts' next next' f y = λ n e. y n (sym (ap (kind_or next') f) ∙ e)
filled_kind (t ∷ ts) ts' next next' (inl f) y = λ n e. n (sym (ap (kind_or next') f.1) ∙ e)
filled_kind (t ∷ ts) ts' next next' (inr f) y = λ n e. f.4 (sym (ap (kind_or next') f.5) ∙ e)

-- tokens of a text stay
pub filled_front : (front more ts' : Tokens) → Plain front → Filled (front ++ more) ts'
    → (more' : Tokens) × (ts' ≡ front ++ more') × Filled more more'
filled_front [] more ts' p f = (ts', refl, f)
filled_front (t ∷ front) more ts' p (inl f) = let r = filled_front front more f.0 p.1 f.2 in (r.0, f.1 ∙ ap (λ (s : Tokens). t ∷ s) r.1, r.2)
filled_front (t ∷ front) more ts' p (inr f) = absurd (p.0 f.3)

pub record Fill (B : Form) (next : TokenKind) (ts : Tokens) : Type 0 where
  pub text : Tokens
  pub filled : Filled ts text
  pub form : (next' : TokenKind) → Still next next' → B next' text

abbrev pub Fills : Form → Form → Type 0
Fills A B = (next : TokenKind) (ts : Tokens) → A next ts → Fill B next ts

pub fills_turn : {A B : Form} → Turns A B → Fills A B
fills_turn f = λ next ts h. record { text = ts; filled = filled_same ts; form = λ next' y. f next next' ts h }

pub fills_token : {k : TokenKind} → Fills (token k) (token k)
fills_token = fills_turn turns_token

pub fills_one : {test : TokenKind → Bool} → Fills (one_of test) (one_of test)
fills_one = fills_turn (λ next next' ts h. record { one = h.one; alone = h.alone; passes = h.passes })

pub fills_then : {A A' B B' : Form} → Fills A A' → Fills B B' → Fills (A ▸ B) (A' ▸ B')
fills_then f g = λ next ts h.
    let a = f (kind_or next h.back) h.front h.first in
    let b = g next h.back h.second in
    record {
      text = a.text ++ b.text;
      filled = subst (λ (t : Tokens). Filled t (a.text ++ b.text)) (sym h.split)
          (filled_append h.front h.back a.text b.text a.filled b.filled);
      form = λ next' y. record {
        front = a.text;
        back = b.text;
        split = refl;
        first = a.form (kind_or next' b.text) (filled_kind h.back b.text next next' b.filled y);
        second =
            b.form next' y;
      };
    }

pub fills_map : {A B C : Form} → Fills A B → ((next : TokenKind) (ts : Tokens) → B next ts → C next ts) → Fills A C
fills_map f g = λ next ts h. let a = f next ts h in record { text = a.text; filled = a.filled; form = λ next' y. g next' a.text (a.form next' y) }

pub fills_or : {A A' B B' : Form} → Fills A A' → Fills B B' → Fills (A ∣ B) (A' ∣ B')
fills_or {A} {A'} {B} {B'} f g = λ next ts h. by_case next ts h
  where
    by_case : (next : TokenKind) (ts : Tokens) → (A ∣ B) next ts → Fill (A' ∣ B') next ts
    by_case next ts (inl h) = fills_map f (λ next ts j. inl j) next ts h
    by_case next ts (inr h) = fills_map g (λ next ts j. inr j) next ts h

pub fills_many : {A B : Form} → Fills A B → Fills (many A) (many B)
fills_many {A} {B} f = λ next ts h. by_count h.0 next ts h.1
  where
    by_count : (count : List (Unit {0})) (next : TokenKind) (ts : Tokens) → each (λ (x : Unit {0}). A) count next ts
        → Fill (many B) next ts
    by_count [] next ts h = record { text = ts; filled = filled_same ts; form = λ next' y. ([], h) }
    by_count (x ∷ count) next ts h = fills_map (fills_then f (λ next ts j. by_count count next ts j))
        (λ next ts j. (
          tt ∷ j.second.0,
          record
              { front = j.front; back = j.back; split = j.split; first = j.first; second = j.second.1 },
        )) next ts h

pub fills_nothing : Fills nothing nothing
fills_nothing = fills_turn turns_nothing

pub fills_maybe : {A B : Form} → Fills A B → Fills (maybe A) (maybe B)
fills_maybe f = fills_or fills_nothing f

pub fills_list : {separator : TokenKind} {A B : Form} → Fills A B → Fills (list_of separator A) (list_of separator B)
fills_list f = fills_then f (fills_many (fills_then fills_token f))

pub fills_between : {opens closes : TokenKind} {A B : Form} → Fills A B
    → Fills (between opens closes A) (between opens closes B)
fills_between f = fills_then fills_token (fills_then f fills_token)

fills_start : Fills (ReadsSome ReadsStart) (ReadsSome ReadsStart)
fills_start = fills_turn (λ next next' ts h. turns_start h.0 next next' ts h.1)

fills_path : Fills path_tokens path_tokens
fills_path = fills_then fills_start (fills_list fills_token)

fills_names : Fills names_tokens names_tokens
fills_names = fills_list fills_token

fills_has : {X : Type 0} {kind : X → TokenKind}
    → Fills (ReadsSome (λ (x : X). token (kind x))) (ReadsSome (λ (x : X). token (kind x)))
fills_has = fills_turn (λ next next' ts h. (h.0, turns_token next next' ts h.1))

fills_not_before : Fills (not_before (Reserved ELSE)) (not_before (Reserved ELSE))
fills_not_before = λ next ts h. record
    { text = ts; filled = filled_same ts; form = λ next' y. record { empty = h.empty; other = y h.other } }

-- With k more open, the texts of the one grammar are texts of the other, where those are that stand for what opens too
-- deep.

abbrev pub up : ℕ → ℕ → ℕ
up k zero = k
up k (suc n) = suc (up k n)

pub record Cuts (cut cut' : Form) (k : ℕ) : Type 0 where
  pub expr : Fills cut (expr_tokens cut' k)
  pub not : Fills cut (not_tokens cut' k)
  pub minus : Fills cut (minus_tokens cut' k)
  pub instr : Fills cut (instr_tokens cut' k)
  pub bracketed : Fills cut (bracketed_tokens cut' k)
  pub body : Fills (nothing ∣ cut) (body_tokens cut' k)

module _ {E E' : Form} where
  fills_case : Fills E E' → Fills (case_made_of E) (case_made_of E')
  fills_case f = fills_then (fills_between f) f

  fills_primary : Fills E E' → Fills (primary_tokens E) (primary_tokens E')
  fills_primary f next ts (primary.constant h) = fills_map fills_one (λ next ts j. primary.constant j) next ts h
  fills_primary f next ts (primary.path h) = fills_map fills_path (λ next ts j. primary.path j) next ts h
  fills_primary f next ts (primary.brackets h) = fills_map (fills_between f) (λ next ts j. primary.brackets j) next ts h
  fills_primary f next ts (primary.call h) =
      fills_map (fills_then fills_one (fills_then fills_token
      (fills_then f (fills_then (fills_many (fills_then fills_token f)) fills_token)))) (λ next ts j. primary.call j) next
      ts h
  fills_primary f next ts (primary.switch h) =
      fills_map (fills_then fills_token (fills_then fills_token
      (fills_then (fills_case f) (fills_then (fills_many (fills_case f)) (fills_then fills_token (fills_between f))))))
      (λ next ts j. primary.switch j) next ts h

fills_sum : {M M' : Form} → Fills M M' → Fills (sum_tokens (product_tokens M)) (sum_tokens (product_tokens M'))
fills_sum f = fills_then (fills_list f) (fills_many (fills_then fills_has (fills_list f)))

fills_compare : {M M' : Form} → Fills M M'
    → Fills (compare_tokens (sum_tokens (product_tokens M))) (compare_tokens (sum_tokens (product_tokens M')))
fills_compare f = fills_then (fills_sum f) (fills_maybe (fills_then fills_has (fills_sum f)))

module _ {cut cut' : Form} {k : ℕ} (c : Cuts cut cut' k) where
  mutual
    expr_fill : (n : ℕ) (next : TokenKind) (ts : Tokens) → expr_tokens cut n next ts
        → Fill (expr_tokens cut' (up k n)) next ts
    expr_fill zero next ts h = c.expr next ts h
    expr_fill (suc n) next ts h = fills_or
        (fills_then (fills_between (λ next ts j. expr_fill n next ts j))
        (fills_then (λ next ts j. expr_fill n next ts j) (fills_then fills_token (λ next ts j. expr_fill n next ts j))))
        (fills_list (fills_list (λ next ts j. not_fill n next ts j))) next ts h

    not_fill : (n : ℕ) (next : TokenKind) (ts : Tokens) → not_tokens cut n next ts
        → Fill (not_tokens cut' (up k n)) next ts
    not_fill zero next ts h = c.not next ts h
    not_fill (suc n) next ts h = fills_or (fills_then fills_token (λ next ts j. not_fill n next ts j))
        (fills_compare (λ next ts j. minus_fill n next ts j)) next ts h

    minus_fill : (n : ℕ) (next : TokenKind) (ts : Tokens) → minus_tokens cut n next ts
        → Fill (minus_tokens cut' (up k n)) next ts
    minus_fill zero next ts h = c.minus next ts h
    minus_fill (suc n) next ts h = fills_or (fills_then fills_token (λ next ts j. minus_fill n next ts j))
        (fills_primary (λ next ts j. expr_fill n next ts j)) next ts h

  fills_instr_of : {E E' I I' : Form} → Fills E E' → Fills I I' → Fills (instr_of E I) (instr_of E' I')
  fills_instr_of f g next ts (text.simple h) =
      fills_map (fills_or (fills_then fills_token fills_token)
      (fills_then fills_path (fills_or (fills_between f) (fills_between fills_path)))) (λ next ts j. text.simple j) next
      ts h
  fills_instr_of f g next ts (text.group h) =
      fills_map (fills_between (fills_many g)) (λ next ts j. text.group j) next ts h
  fills_instr_of f g next ts (text.conditional h) =
      fills_map (fills_then (fills_between f) (fills_then g (fills_or fills_not_before (fills_then fills_token g))))
      (λ next ts j. text.conditional j) next ts h

  instr_fill : (n : ℕ) (next : TokenKind) (ts : Tokens) → instr_tokens cut n next ts
      → Fill (instr_tokens cut' (up k n)) next ts
  instr_fill zero next ts h = c.instr next ts h
  instr_fill (suc n) next ts h = fills_instr_of (λ next ts j. expr_fill n next ts j)
      (λ next ts j. instr_fill n next ts j) next ts h

  bracketed_fill : (n : ℕ) (next : TokenKind) (ts : Tokens) → bracketed_tokens cut n next ts
      → Fill (bracketed_tokens cut' (up k n)) next ts
  bracketed_fill zero next ts h = c.bracketed next ts h
  bracketed_fill (suc n) next ts h = fills_between
      (fills_many (fills_or fills_one (λ next ts j. bracketed_fill n next ts j))) next ts h

  fills_declared : {E E' : Form} → Fills E E' → Fills (declared_rest E) (declared_rest E')
  fills_declared f = fills_then fills_names
      (fills_then (fills_maybe (fills_between
      (fills_list (fills_then (fills_list fills_one) (fills_then fills_token f))))) fills_token)

  fills_valued : {E E' : Form} → Fills E E' → Fills (valued_tokens E) (valued_tokens E')
  fills_valued f = fills_then fills_one (fills_then fills_token (fills_between f))

  fills_section : {E E' I I' : Form} → Fills E E' → Fills I I' → Fills (section_tokens E I) (section_tokens E' I')
  fills_section f g =
      fills_or (fills_then fills_token (fills_many
      (fills_then fills_token (fills_then fills_token
      (fills_or (fills_then (fills_list (fills_then fills_one fills_path)) fills_token)
      (fills_then f (fills_then fills_token g)))))))
      (fills_then fills_token (fills_many g))

  fills_unit : {B B' : Form} → Fills B B' → Fills (unit_tokens B) (unit_tokens B')
  fills_unit f = fills_then fills_token (fills_then f fills_token)

  fills_keyed : {E E' R R' B B' : Form} → Fills E E' → Fills R R' → Fills B B'
      → Fills (keyed_tokens E R B) (keyed_tokens E' R' B')
  fills_keyed f g b next ts (text.extends h) =
      fills_map (fills_then fills_token (fills_then fills_token fills_token)) (λ next ts j. text.extends j) next ts h
  fills_keyed f g b next ts (text.boolean h) =
      fills_map (fills_then fills_token (fills_declared f)) (λ next ts j. text.boolean j) next ts h
  fills_keyed f g b next ts (text.clones h) =
      fills_map (fills_then fills_token (fills_then fills_path (fills_between fills_token)))
      (λ next ts j. text.clones j) next ts h
  fills_keyed f g b next ts (text.embeds h) =
      fills_map (fills_then fills_token (fills_then fills_path (fills_between fills_token)))
      (λ next ts j. text.embeds j) next ts h
  fills_keyed f g b next ts (text.kept h) =
      fills_map (fills_then fills_token (fills_then fills_token
      (fills_then fills_token (fills_between (fills_then (fills_or fills_one g) (fills_many (fills_or fills_one g)))))))
      (λ next ts j. text.kept j) next ts h
  fills_keyed f g b next ts (text.parameter h) =
      fills_map (fills_then fills_token (fills_valued f)) (λ next ts j. text.parameter j) next ts h
  fills_keyed f g b next ts (text.observer h) =
      fills_map (fills_then fills_token (fills_valued f)) (λ next ts j. text.observer j) next ts h
  fills_keyed f g b next ts (text.block h) =
      fills_map (fills_then fills_token (fills_unit b)) (λ next ts j. text.block j) next ts h
  fills_keyed f g b next ts (text.event h) =
      fills_map (fills_between (fills_list (fills_then fills_token (fills_maybe g)))) (λ next ts j. text.event j) next
      ts h
  fills_keyed f g b next ts (text.hide h) =
      fills_map (fills_between (fills_list fills_path)) (λ next ts j. text.hide j) next ts h

  fills_body : {E E' I I' R R' B B' : Form} → Fills E E' → Fills I I' → Fills R R' → Fills B B'
      → Fills (body_made_of E I R B) (body_made_of E' I' R' B')
  fills_body f g r b =
      fills_then (fills_many (fills_or (fills_keyed f r b) (fills_then fills_token (fills_declared f))))
      (fills_maybe (fills_then (fills_section f g) (fills_many (fills_or (fills_section f g) (fills_keyed f r b)))))

  body_fill : (n : ℕ) (next : TokenKind) (ts : Tokens) → body_tokens cut n next ts
      → Fill (body_tokens cut' (up k n)) next ts
  body_fill zero next ts h = c.body next ts h
  body_fill (suc n) next ts h = fills_body (λ next ts j. expr_fill n next ts j) (λ next ts j. instr_fill n next ts j)
      (λ next ts j. bracketed_fill n next ts j) (λ next ts j. body_fill n next ts j) next ts h

  fills_whole : Fills whole_tokens whole_tokens
  fills_whole = fills_turn (λ next next' ts h. record
      { z = h.z; no_sign = h.no_sign; reads = turns_token next next' ts h.reads })

  fills_bound : Fills bound_tokens bound_tokens
  fills_bound = fills_or fills_whole (fills_then fills_token fills_whole)

  fills_domain : Fills domain_tokens domain_tokens
  fills_domain = fills_then fills_token
      (fills_then fills_token (fills_then
      (fills_or (fills_between fills_names)
      (fills_then (fills_between fills_bound) (fills_then fills_bound fills_token))) (fills_maybe fills_token)))

  fills_item : (n : ℕ) → Fills (item_tokens cut n) (item_tokens cut' (up k n))
  fills_item n = fills_or fills_domain
      (fills_or (fills_then fills_token (fills_unit (λ next ts j. body_fill n next ts j)))
      (fills_then fills_token (fills_unit (λ next ts j. body_fill n next ts j))))

  pub fills_model : (n : ℕ) → Fills (model_tokens cut n) (model_tokens cut' (up k n))
  fills_model n = fills_then (fills_item n) (fills_many (fills_item n))

-- A text of the grammar is one that may be cut.
pub not_cut : (cut : Form) → Cuts never cut 0
not_cut cut = record {
  expr = λ next ts h. elim h [ ];
  not = λ next ts h. elim h [ ];
  minus = λ next ts h. elim h [ ];
  instr = λ next ts h. elim h [ ];
  bracketed = λ next ts h. elim h [ ];
  body = fills_or fills_nothing (λ next ts h. elim h [ ]);
}

-- A text for each production that may be cut.

fills_with : {B : Form} (u : Lexeme) (a : Tokens) → u.kind ≢ Reserved ELSE → ((next : TokenKind) → B next (u ∷ a))
    → Fills deep B
fills_with {B} u a other f = λ next ts h. record {
  text = u ∷ (a ++ []);
  filled = subst (λ (t : Tokens). Filled t (u ∷ (a ++ []))) (sym h.alone)
      (inr (u, a, [], h.of_kind, other, refl, refl));
  form = λ next' y. subst (λ (t : Tokens). B next' (u ∷ t)) (sym (append-nil a)) (f next');
}

one_token : (k next : TokenKind) → token k next (some_token k ∷ [])
one_token k next = record { one = some_token k; alone = refl; of_kind = refl }

alone : {A B : Form} (t : Lexeme) (next : TokenKind) → A next (t ∷ []) → B next [] → (A ▸ B) next (t ∷ [])
alone t next a b = record { front = t ∷ []; back = []; split = refl; first = a; second = b }

true_minus : (m : ℕ) (next : TokenKind) → minus_tokens never (suc m) next (some_token (Reserved TRUE) ∷ [])
true_minus m next = inr (primary.constant (record { one = some_token (Reserved TRUE); alone = refl; passes = refl }))

true_not : (m : ℕ) (next : TokenKind) → not_tokens never (suc (suc m)) next (some_token (Reserved TRUE) ∷ [])
true_not m next = let t = some_token (Reserved TRUE) in inr (alone t next (alone t next (alone t next (true_minus m next) ([], refl)) ([], refl)) (inl refl))

true_expr : (next : TokenKind) → expr_tokens never 3 next (some_token (Reserved TRUE) ∷ [])
true_expr next = let t = some_token (Reserved TRUE) in inr (alone t next (alone t next (true_not 0 next) ([], refl)) ([], refl))

skip_instr : (next : TokenKind) → instr_tokens never 3 next
    (some_token (Reserved SKIP) ∷ some_token (Sign SEMICOLON) ∷ [])
skip_instr next = text.simple (inl (record {
  front = some_token (Reserved SKIP) ∷ [];
  back = some_token (Sign SEMICOLON) ∷ [];
  split = refl;
  first = one_token (Reserved SKIP) (Sign SEMICOLON);
  second = one_token (Sign SEMICOLON) next;
}))

no_unread : (next : TokenKind) → bracketed_tokens never 3 next
    (some_token (Sign OPEN_PARENTHESIS) ∷ some_token (Sign CLOSE_PARENTHESIS) ∷ [])
no_unread next = record {
  front = some_token (Sign OPEN_PARENTHESIS) ∷ [];
  back = some_token (Sign CLOSE_PARENTHESIS) ∷ [];
  split = refl;
  first = one_token (Sign OPEN_PARENTHESIS) (Sign CLOSE_PARENTHESIS);
  second = record {
    front = [];
    back = some_token (Sign CLOSE_PARENTHESIS) ∷ [];
    split = refl;
    first = ([], refl);
    second = one_token (Sign CLOSE_PARENTHESIS) next;
  };
}

no_assertion : (next : TokenKind) → body_tokens never 3 next (some_token (Reserved ASSERTION) ∷ [])
no_assertion next = let t = some_token (Reserved ASSERTION) in record {
  front = [];
  back = t ∷ [];
  split = refl;
  first = ([], refl);
  second = inr (alone t next (inr (alone t next (one_token (Reserved ASSERTION) next) ([], refl))) ([], refl));
}

pub to_fill : Cuts deep never 3
to_fill = record {
  expr = fills_with (some_token (Reserved TRUE)) [] (λ e. apart (is_word TRUE) refl e refl refl) true_expr;
  not = fills_with (some_token (Reserved TRUE)) [] (λ e. apart (is_word TRUE) refl e refl refl) (true_not 1);
  minus = fills_with (some_token (Reserved TRUE)) [] (λ e. apart (is_word TRUE) refl e refl refl) (true_minus 2);
  instr = fills_with (some_token (Reserved SKIP)) (some_token (Sign SEMICOLON) ∷ [])
      (λ e. apart (is_word SKIP) refl e refl refl) skip_instr;
  bracketed = fills_with (some_token (Sign OPEN_PARENTHESIS)) (some_token (Sign CLOSE_PARENTHESIS) ∷ [])
      (λ e. apart (is_sign OPEN_PARENTHESIS) refl e refl refl) no_unread;
  body = λ next ts h. by_case next ts h;
}
  where
    by_case : (next : TokenKind) (ts : Tokens) → (nothing ∣ deep) next ts → Fill (body_tokens never 3) next ts
    by_case next ts (inl h) = fills_turn {B = body_tokens never 3}
        (λ next next' ts h. record { front = []; back = ts; split = refl; first = ([], refl); second = inl h }) next ts
        h
    by_case next ts (inr h) = fills_with {B = body_tokens never 3} (some_token (Reserved ASSERTION)) []
        (λ e. apart (is_word ASSERTION) refl e refl refl) no_assertion next ts h

-- What is passed and begins a text with no token too deep begins a text of the grammar.
pub viable_of : (n : ℕ) (front more : Tokens) → Plain front → model_tokens deep n End (front ++ more) → Viable front
viable_of n front more p h =
    let f = fills_model to_fill n End (front ++ more) h in
    let r = filled_front front more f.text p f.filled in
    record {
      n = up 3 n;
      more = r.0;
      reads = subst (λ (t : Tokens). model_tokens never (up 3 n) End t) r.1
          (f.form End (λ z. z));
    }
