-- How what a refusal of one call tells gives what refusals of calls one after the other tell.
use Rattle.std.proofs.Common.{◌≡◌, ◌≢◌, ℕ, suc, ◌+◌, ◌-◌, ◌≤◌, Bool, true, false, List, [], ◌∷◌, ◌++◌, Result, Ok, Err, IsErrAnd, refl, sym, ap, ◌∙◌, subst, append_assoc, arith}
use Rattle.std.specs.Bool.{OnTrue, OnFalse}
use Rattle.ar_lexer.specs.declared.token.TokenKind.{TokenKind}
use Rattle.ar_lexer.specs.declared.token.TokenKind.TheVariants.{End}
use Rattle.expression_grammar.specs.declared.lexeme.Lexeme.{Lexeme}
use Rattle.expression_grammar.specs.declared.lexeme.Refusal.{Refusal}
use Rattle.expression_grammar.specs.declared.lexeme.Refusal.TheVariants.{Syntax, Depth, Memory}
use Rattle.expression_grammar.specs.Words.{Form, Tokens, kind_or, token, ◌▸◌, nothing, each, many}
use Rattle.expression_grammar.specs.Texts.{one_of}
use Rattle.expression_grammar.specs.Results.{first_token_kind, Spans, Eats, BeginsForm, TellsRefusal, before, through, Refuses, Halts}
use Rattle.expression_grammar.proofs.Finding.{spans_token, spans_expected, each_push}

-- Forms whose texts stay texts whatever follows them

-- each text of the one form is a text of the other, before any token
abbrev pub Turns : Form → Form → Type 0
Turns A B = (next next' : TokenKind) (ts : Tokens) → A next ts → B next' ts

pub turns_token : {k : TokenKind} → Turns (token k) (token k)
turns_token = λ next next' ts h. record { one = h.one; alone = h.alone; of_kind = h.of_kind }

pub turns_then : {A A' B B' : Form} → Turns A A' → Turns B B' → Turns (A ▸ B) (A' ▸ B')
turns_then f g = λ next next' ts h. record {
  front = h.front;
  back = h.back;
  split = h.split;
  first = f (kind_or next h.back) (kind_or next' h.back) h.front h.first;
  second = g next next' h.back h.second;
}

pub turns_each : {X : Type 0} {One : X → Form} {B : Form} → ((x : X) → Turns (One x) B) → (xs : List X)
    → Turns (each One xs) (many B)
turns_each f [] = λ next next' ts h. ([], h)
turns_each f (x ∷ xs) = λ next next' ts h.
    let more = turns_each f xs next next' h.back h.second in (
      tt ∷ more.0,
      record {
        front = h.front;
        back = h.back;
        split = h.split;
        first = f x (kind_or next h.back) (kind_or next' h.back) h.front h.first;
        second = more.1;
      },
    )

-- What was taken, before any token

-- A text of the form was taken, with room for `left` open productions; it is one with more room too, and before any
-- token.
pub record Passes (P : ℕ → Form) (left : ℕ) (old mid : Tokens) : Type 0 where
  pub front : Tokens
  pub split : old ≡ front ++ mid
  pub form : (m : ℕ) → left ≤ m → (next : TokenKind) → P m next front

pub passes : {A : Form} {P : ℕ → Form} {left : ℕ} {old mid : Tokens} → Spans A old mid
    → ((m : ℕ) → left ≤ m → Turns A (P m)) → Passes P left old mid
passes {mid = mid} s f = record {
  front = s.front;
  split = s.split;
  form = λ m l next. f m l (first_token_kind mid) next s.front s.form;
}

pub passes_token : {k : TokenKind} {left : ℕ} {old mid : Tokens} → Eats k old mid → Passes (λ m. token k) left old mid
passes_token e = passes (spans_token e) (λ m l. turns_token)

pub passes_expected : {k : TokenKind} {left : ℕ} {old mid : Tokens} {t : Lexeme} → (old ≡ t ∷ mid) × (t.kind ≡ k)
    → Passes (λ m. token k) left old mid
passes_expected e = passes (spans_expected e) (λ m l. turns_token)

pub passes_one : {test : TokenKind → Bool} {k : TokenKind} {left : ℕ} {old mid : Tokens} → Eats k old mid
    → test k ≡ true → Passes (λ m. one_of test) left old mid
passes_one {test = test} e t = record {
  front = e.one ∷ [];
  split = e.split;
  form = λ m l next. record { one = e.one; alone = refl; passes = ap test e.of_kind ∙ t };
}

-- Tokens that are still to come

abbrev pub some_token : TokenKind → Lexeme
some_token k = record {
  kind = k;
  span = record { from = 0; to = 0 };
  at = record { line = 1; column = 1 };
  name = record { n = 0; of = record {} };
}

pub begins_token : (k : TokenKind) → BeginsForm (token k) []
begins_token k = record {
  more = some_token k ∷ [];
  form = λ next. record { one = some_token k; alone = refl; of_kind = refl };
}

pub begins_one : {test : TokenKind → Bool} (k : TokenKind) → test k ≡ true → BeginsForm (one_of test) []
begins_one k e = record {
  more = some_token k ∷ [];
  form = λ next. record { one = some_token k; alone = refl; passes = e };
}

-- a token that stands there
pub begins_here : (t : Lexeme) (k : TokenKind) → t.kind ≡ k → BeginsForm (token k) (t ∷ [])
begins_here t k e = record { more = []; form = λ next. record { one = t; alone = refl; of_kind = e } }

pub begins_this : {test : TokenKind → Bool} (t : Lexeme) → test t.kind ≡ true → BeginsForm (one_of test) (t ∷ [])
begins_this t e = record { more = []; form = λ next. record { one = t; alone = refl; passes = e } }

pub begins_nothing : BeginsForm nothing []
begins_nothing = record { more = []; form = λ next. refl }

pub begins_no_more : {A : Form} → BeginsForm (many A) []
begins_no_more = record { more = []; form = λ next. ([], refl) }

pub begins_then : {A B : Form} {front : Tokens} → BeginsForm A front → BeginsForm B [] → BeginsForm (A ▸ B) front
begins_then {front = front} a b = record {
  more = a.more ++ b.more;
  form = λ next. record {
    front = front ++ a.more;
    back = b.more;
    split = sym (append_assoc front a.more b.more);
    first = a.form (kind_or next b.more);
    second = b.form next;
  };
}

-- nothing of the first form
pub begins_after : {A B : Form} {front : Tokens} → ((next : TokenKind) → A next []) → BeginsForm B front
    → BeginsForm (A ▸ B) front
begins_after {front = front} a b = record {
  more = b.more;
  form = λ next. record {
    front = [];
    back = front ++ b.more;
    split = refl;
    first = a (kind_or next (front ++ b.more));
    second = b.form next;
  };
}

pub begins_map : {A B : Form} {front : Tokens} → BeginsForm A front
    → ((next : TokenKind) (ts : Tokens) → A next ts → B next ts) → BeginsForm B front
begins_map {front = front} a f = record { more = a.more; form = λ next. f next (front ++ a.more) (a.form next) }

-- What a refusal tells

pub tells_most : {left m : ℕ} {e : Refusal} {new more : Tokens} → TellsRefusal left e new m more → left ≤ m
tells_most (before h z) = omega (arith, h)
tells_most (through t rest d n h z) = omega (arith, h)

tells_inside : {left m : ℕ} {e : Refusal} {new more : Tokens} → left ≢ 0 → TellsRefusal left e new m more
    → (k : ℕ) × (m ≡ suc k) × TellsRefusal (left - 1) e new k more
tells_inside {left = left} some (before h z) = (left - 1, omega (arith, some, h), before refl z)
tells_inside {left = left} some (through t rest d n h z) =
    (left - 1 + 3, omega (arith, some, h), through t rest d n refl z)

module _ {P Q : ℕ → Form} {left : ℕ} {e : Refusal} where
  -- the first of two forms is refused, whatever was to come
  pub refuses_fails : {old new : Tokens} → Refuses P left e old new → ((m : ℕ) → BeginsForm (Q m) [])
      → Refuses (λ m. P m ▸ Q m) left e old new
  refuses_fails r q n = let s = r n in record { front = s.front; passed = s.passed; opens = s.opens; tells = λ m more t. begins_then (s.tells m more t) (q m) }

  -- the first was taken, and the second is refused
  pub refuses_then : {old mid new : Tokens} → Passes P left old mid → Refuses Q left e mid new
      → Refuses (λ m. P m ▸ Q m) left e old new
  refuses_then {new = new} p r n = let s = r n in record {
    front = p.front ++ s.front;
    passed = p.split ∙ ap (λ (x : Tokens). p.front ++ x) s.passed ∙ sym (append_assoc p.front s.front new);
    opens = s.opens;
    tells = λ m more t. let b = s.tells m more t in record {
      more = b.more;
      form = λ next. record {
        front = p.front;
        back = (s.front ++ more) ++ b.more;
        split = ap (λ (x : Tokens). x ++ b.more) (append_assoc p.front s.front more)
            ∙ append_assoc p.front (s.front ++ more) b.more;
        first = p.form m (tells_most t) (kind_or next ((s.front ++ more) ++ b.more));
        second = b.form next;
      };
    };
  }

  pub refuses_map : {old new : Tokens} → Refuses P left e old new
      → ((m : ℕ) (next : TokenKind) (ts : Tokens) → P m next ts → Q m next ts) → Refuses Q left e old new
  refuses_map r f n = let s = r n in record { front = s.front; passed = s.passed; opens = s.opens; tells = λ m more t. begins_map (s.tells m more t) (f m) }

  -- one more production is open
  pub refuses_inside : {old new : Tokens} → left ≢ 0 → Refuses P (left - 1) e old new
      → ((m : ℕ) (next : TokenKind) (ts : Tokens) → P m next ts → Q (suc m) next ts) → Refuses Q left e old new
  refuses_inside some r f n = let s = r n in record {
    front = s.front;
    passed = s.passed;
    opens = s.opens;
    tells = λ m more t. let d = tells_inside some t in subst (λ (k : ℕ). BeginsForm (Q k) (s.front ++ more)) (sym d.1) (begins_map (s.tells d.0 more d.2) (f d.0));
  }

pub refuses_from : {P : ℕ → Form} {left : ℕ} {e : Refusal} {old old' new : Tokens} → Refuses P left e old new
    → old' ≡ old → Refuses P left e old' new
refuses_from r q n = let s = r n in record { front = s.front; passed = q ∙ s.passed; opens = s.opens; tells = s.tells }

-- a turn of a loop is refused
many_snoc : {A : Form} (next : TokenKind) (ts : Tokens) → (many A ▸ A) next ts → many A next ts
many_snoc {A} next ts h = (
  h.first.0 ++ tt ∷ [],
  subst
      (λ (t : Tokens). each (λ (x : Unit {0}). A) (h.first.0 ++ tt ∷ []) next t) (sym h.split)
      (each_push (λ (x : Unit {0}). A) h.first.0 tt h.front h.back next h.first.1 h.second),
)

pub refuses_turn : {A : ℕ → Form} {left : ℕ} {e : Refusal} {start rest new : Tokens}
    → Passes (λ m. many (A m)) left start rest → Refuses A left e rest new → Refuses (λ m. many (A m)) left e start new
refuses_turn p r = refuses_map (refuses_then p r) (λ m next ts h. many_snoc next ts h)

pub each_some : {A : Form} (count : List (Unit {0})) (next : TokenKind) (ts : Tokens)
    → each (λ (x : Unit {0}). A) (count ++ tt ∷ []) next ts → (A ▸ many A) next ts
each_some [] next ts h = record {
  front = h.front;
  back = h.back;
  split = h.split;
  first = h.first;
  second = ([], h.second);
}
each_some (x ∷ count) next ts h = record
    { front = h.front; back = h.back; split = h.split; first = h.first; second = (count ++ tt ∷ [], h.second) }

-- a turn of a loop is refused, so that the form stands there at least once
pub refuses_some : {A : ℕ → Form} {left : ℕ} {e : Refusal} {start rest new : Tokens}
    → Passes (λ m. many (A m)) left start rest → Refuses A left e rest new
    → Refuses (λ m. A m ▸ many (A m)) left e start new
refuses_some {A} p r = refuses_map (refuses_then p r)
    (λ m next ts h. each_some h.first.0 next ts
    (subst (λ (t : Tokens). each (λ (x : Unit {0}). A m) (h.first.0 ++ tt ∷ []) next t) (sym h.split)
    (each_push (λ (x : Unit {0}). A m) h.first.0 tt h.front h.back next h.first.1 h.second)))

-- the next token is refused
pub refuses_here : {P : ℕ → Form} {left : ℕ} (e : Refusal) {old : Tokens} → e ≡ Syntax → ((m : ℕ) → BeginsForm (P m) [])
    → Refuses P left e old old
refuses_here {P} {left} Syntax {old} q b n = record {
  front = [];
  passed = refl;
  opens = λ d. absurd (cc);
  tells = λ m more t. by_case m more t;
}
  where
    by_case : (m : ℕ) (more : Tokens) → TellsRefusal left Syntax old m more → BeginsForm (P m) more
    by_case m more (before h z) = subst (λ (x : Tokens). BeginsForm (P m) x) (sym z) (b m)
    by_case m more (through t rest d k h z) = absurd (cc)
refuses_here Depth q b n = absurd (cc)
refuses_here Memory q b n = absurd (n refl)

-- the next token opens a production for which there is no room
pub refuses_deep : {P : ℕ → Form} {left : ℕ} (e : Refusal) {old : Tokens} (test : TokenKind → Bool) → e ≡ Depth
    → test (first_token_kind old) ≡ true → test End ≡ false → left ≡ 0 → ((m : ℕ) → BeginsForm (P m) [])
    → ((t : Lexeme) → test t.kind ≡ true → BeginsForm (P 3) (t ∷ [])) → Refuses P left e old old
refuses_deep {P} {left} Depth {old} test q holds over none b first n = record {
  front = [];
  passed = refl;
  opens = λ d z. let w : true ≡ false = sym holds ∙ ap (λ (s : Tokens). test (first_token_kind s)) z ∙ over in absurd (cc);
  tells = λ m more t. by_case m more t;
}
  where
    by_case : (m : ℕ) (more : Tokens) → TellsRefusal left Depth old m more → BeginsForm (P m) more
    by_case m more (before h z) = subst (λ (x : Tokens). BeginsForm (P m) x) (sym z) (b m)
    by_case m more (through t rest d k h z) =
        let three : m ≡ 3 = omega (arith, none, h) in
        subst (λ (x : Tokens). BeginsForm (P m) x) (sym z)
        (subst (λ (x : ℕ). BeginsForm (P x) (t ∷ [])) (sym three)
        (first t (sym (ap (λ (s : Tokens). test (first_token_kind s)) k) ∙ holds)))
refuses_deep Syntax test q holds over none b first n = absurd (cc)
refuses_deep Memory test q holds over none b first n = absurd (n refl)

-- no room is left for what may begin here
pub refuses_no_room : {P : ℕ → Form} {left : ℕ} {old : Tokens} (test : TokenKind → Bool) (b : Bool) (e : Refusal)
    → b ≡ test (first_token_kind old) → OnTrue b (e ≡ Depth) → OnFalse b (e ≡ Syntax) → test End ≡ false → left ≡ 0
    → ((m : ℕ) → BeginsForm (P m) []) → ((t : Lexeme) → test t.kind ≡ true → BeginsForm (P 3) (t ∷ []))
    → Refuses P left e old old
refuses_no_room test true e t deep other over none some first = refuses_deep e test deep (sym t) over none some first
refuses_no_room test false e t deep other over none some first = refuses_here e other some

-- Results

pub halts_err : {A : Type 0} {P : ℕ → Form} {left : ℕ} {old new : Tokens} (r : Result A Refusal) (e : Refusal)
    → IsErrAnd r (λ x. x ≡ e) → Refuses P left e old new → Halts P left r old new
halts_err (Ok x) e h s = elim h [ ]
halts_err {P = P} {left} {old} {new} (Err x) e h s = subst (λ (f : Refusal). Refuses P left f old new) (sym h) s

pub halts_memory : {A : Type 0} (P : ℕ → Form) (left : ℕ) (old new : Tokens) (r : Result A Refusal)
    → IsErrAnd r (λ x. x ≡ Memory) → Halts P left r old new
halts_memory P left old new (Ok x) h = elim h [ ]
halts_memory P left old new (Err x) h = λ n. absurd (n h)

pub halts_over : {A : Type 0} {P Q : ℕ → Form} {left left' : ℕ} {old old' new new' : Tokens} (r : Result A Refusal)
    → Halts P left r old new → ((e : Refusal) → Refuses P left e old new → Refuses Q left' e old' new')
    → Halts Q left' r old' new'
halts_over (Ok x) h f = tt
halts_over (Err x) h f = f x h
