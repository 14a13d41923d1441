-- How what is said of one call gives what is said of calls one after the other.
use Rattle.std.proofs.Common.{◌≡◌, ◌≢◌, ℕ, suc, ◌-◌, Bool, true, false, List, [], ◌∷◌, ◌++◌, Result, Ok, Err, IsErrAnd, refl, sym, ap, ◌∙◌, subst, append_assoc, arith}
use Rattle.std.proofs.lemmas.List.{append-nil}
use Rattle.ar_lexer.specs.declared.token.TokenKind.{TokenKind}
use Rattle.ar_lexer.proofs.NumberLemmas.{cons_tail}
use Rattle.expression_grammar.specs.declared.lexeme.Lexeme.{Lexeme}
use Rattle.expression_grammar.specs.declared.lexeme.Refusal.{Refusal}
use Rattle.expression_grammar.specs.declared.lexeme.Refusal.TheVariants.{Syntax, Depth, Memory}
use Rattle.expression_grammar.specs.Words.{Form, Tokens, kind_or, no_kind, token, ◌▸◌, nothing, each, many}
use Rattle.std.specs.Bool.{OnTrue, OnFalse}
use Rattle.expression_grammar.specs.Results.{first_token_kind, Spans, TakesTokens, Arrives, FindsRefusal, Eats, Plain, anything}

-- Tokens of texts

pub plain_behind : (front rest : Tokens) → Plain (front ++ rest) → Plain rest
plain_behind [] rest p = p
plain_behind (t ∷ front) rest p = plain_behind front rest p.1

pub plain_at : {old old' : Tokens} → old ≡ old' → Plain old → Plain old'
plain_at e p = subst Plain e p

pub plain_kind : (old : Tokens) → Plain old → first_token_kind old ≡ no_kind → ⊥
plain_kind [] p e = absurd (cc)
plain_kind (t ∷ old) p e = p.0 e

-- The kind of the first token

-- what stands behind a front may be another list that begins alike
pub kind_behind : (front other new : Tokens) → first_token_kind other ≡ first_token_kind new
    → first_token_kind (front ++ other) ≡ first_token_kind (front ++ new)
kind_behind [] other new e = e
kind_behind (t ∷ front) other new e = refl

pub kind_before : (b after : Tokens) → first_token_kind (b ++ after) ≡ kind_or (first_token_kind after) b
kind_before [] after = refl
kind_before (t ∷ b) after = refl

pub kind_join : (a b : Tokens) (next : TokenKind) → kind_or next (a ++ b) ≡ kind_or (kind_or next b) a
kind_join [] b next = refl
kind_join (t ∷ a) b next = refl

-- What was taken

pub spans_token : {kind : TokenKind} {old new : Tokens} → Eats kind old new → Spans (token kind) old new
spans_token {kind} {old} {new} e = record
    { front = e.one ∷ []; split = e.split; form = record { one = e.one; alone = refl; of_kind = e.of_kind } }

pub spans_expected : {kind : TokenKind} {old new : Tokens} {t : Lexeme} → (old ≡ t ∷ new) × (t.kind ≡ kind)
    → Spans (token kind) old new
spans_expected {kind} {old} {new} {t} e =
    record { front = t ∷ []; split = e.0; form = record { one = t; alone = refl; of_kind = e.1 } }

pub spans_then : {A B : Form} {old mid new : Tokens} → Spans A old mid → Spans B mid new → Spans (A ▸ B) old new
spans_then {A} {B} {old} {mid} {new} a b = record {
  front = a.front ++ b.front;
  split = a.split ∙ ap (λ (s : Tokens). a.front ++ s) b.split ∙ sym (append_assoc a.front b.front new);
  form = record {
    front = a.front;
    back = b.front;
    split = refl;
    first = subst (λ (k : TokenKind). A k a.front) (ap first_token_kind b.split ∙ kind_before b.front new) a.form;
    second = b.form;
  };
}

pub spans_map : {A B : Form} {old new : Tokens} → Spans A old new
    → ((next : TokenKind) (ts : Tokens) → A next ts → B next ts) → Spans B old new
spans_map {A} {B} {old} {new} a f = record { front = a.front; split = a.split; form = f (first_token_kind new) a.front a.form }

-- what was taken is still taken where nothing was taken before
pub spans_from : {A : Form} {old old' new : Tokens} → Spans A old new → old' ≡ old → Spans A old' new
spans_from {A} {old} {old'} {new} a e = record { front = a.front; split = e ∙ a.split; form = a.form }

-- Where a call arrives

arrives_fault : (A B : Type 0) (left n : ℕ) (x e : Refusal) (new after new' after' : Tokens) → x ≡ e
    → Arrives {A = B} left n (Err e) new' after' → Arrives {A = A} left n (Err x) new after
arrives_fault A B left n x Syntax new after new' after' h a = elim a [ ]
arrives_fault A B left n x Depth new after new' after' h a =
    subst (λ (f : Refusal). Arrives {A = A} left n (Err f) new after) (sym h) a
arrives_fault A B left n x Memory new after new' after' h a =
    subst (λ (f : Refusal). Arrives {A = A} left n (Err f) new after) (sym h) tt

-- a fault is handed on
pub arrives_err : (A B : Type 0) (left n : ℕ) (r : Result A Refusal) (e : Refusal) (new after new' after' : Tokens)
    → IsErrAnd r (λ x. x ≡ e) → Arrives {A = B} left n (Err e) new' after' → Arrives left n r new after
arrives_err A B left n (Ok x) e new after new' after' h a = elim h [ ]
arrives_err A B left n (Err x) e new after new' after' h a = arrives_fault A B left n x e new after new' after' h a

arrives_memory : {A : Type 0} (left n : ℕ) (r : Result A Refusal) (new after : Tokens) → IsErrAnd r (λ x. x ≡ Memory)
    → Arrives left n r new after
arrives_memory left n (Ok x) new after h = elim h [ ]
arrives_memory {A} left n (Err x) new after h =
    subst (λ (f : Refusal). Arrives {A = A} left n (Err f) new after) (sym h) tt

arrives_depth : {A : Type 0} (left m n : ℕ) (r : Result A Refusal) (new after : Tokens) → left ≢ 0 → n ≡ suc m
    → Arrives (left - 1) m r new after → Arrives left n r new after
arrives_depth left m n (Ok x) new after some e a = a
arrives_depth left m n (Err Syntax) new after some e a = a
arrives_depth left m n (Err Depth) new after some e a = omega (arith, some, e, a)
arrives_depth left m n (Err Memory) new after some e a = a

-- What a call finds

-- what follows a text of the first form, where Q stands behind it, ends it
pub record Follows (Q : ℕ → Form) (ends ends' : TokenKind → Bool) : Type 0 where
  pub holds : (n : ℕ) (next : TokenKind) (ts : Tokens) → Q n next ts → ends' next ≡ true → ends (kind_or next ts) ≡ true

module _ {A B : Type 0} {P Q : ℕ → Form} {ends ends' : TokenKind → Bool} {left : ℕ} where
  -- one call that went well, and then another
  pub finds_then : {y : A} {r : Result B Refusal} {old mid new : Tokens} → FindsRefusal P ends left (Ok y) old mid
      → FindsRefusal Q ends' left r mid new → Follows Q ends ends' → FindsRefusal (λ n. P n ▸ Q n) ends' left r old new
  finds_then {y} {r} {old} {mid} {new} f g follows = record {
    front = f.front ++ g.front;
    passed = f.passed ∙ ap (λ (s : Tokens). f.front ++ s) g.passed ∙ sym (append_assoc f.front g.front new);
    only = λ p n other ts after same h e s.
        let back : first_token_kind (h.back ++ after) ≡ kind_or (first_token_kind after) h.back = kind_before h.back after in
        let same' : first_token_kind (g.front ++ other) ≡ first_token_kind mid =
        kind_behind g.front other new same ∙ sym (ap first_token_kind g.passed) in
        let e' : f.front ++ (g.front ++ other) ≡ h.front ++ (h.back ++ after) =
        sym (append_assoc f.front g.front other) ∙ e ∙ ap (λ (x : Tokens). x ++ after) h.split
        ∙ append_assoc h.front h.back after in
        let there : g.front ++ other ≡ h.back ++ after =
        f.only p n (g.front ++ other) h.front (h.back ++ after) same'
        (subst (λ (k : TokenKind). P n k h.front) (sym back) h.first) e'
        (ap ends back ∙ follows.holds n (first_token_kind after) h.back h.second s) in
        g.only (plain_behind f.front mid (plain_at f.passed p)) n other h.back after same h.second there s;
  }

  -- a call that failed, whatever was to come
  pub finds_fails : {r : Result B Refusal} {e : Refusal} {old mid : Tokens} → FindsRefusal {A = A} P ends left (Err e) old mid
      → IsErrAnd r (λ x. x ≡ e) → Follows Q ends ends' → FindsRefusal (λ n. P n ▸ Q n) ends' left r old mid
  finds_fails {r} {e} {old} {mid} f failed follows = record {
    front = f.front;
    passed = f.passed;
    only = λ p n other ts after same h w s.
        let back : first_token_kind (h.back ++ after) ≡ kind_or (first_token_kind after) h.back = kind_before h.back after in
        let e' : f.front ++ other ≡ h.front ++ (h.back ++ after) =
        w ∙ ap (λ (x : Tokens). x ++ after) h.split ∙ append_assoc h.front h.back after in
        arrives_err B A left n r e other after other (h.back ++ after) failed
        (f.only p n other h.front (h.back ++ after) same (subst (λ (k : TokenKind). P n k h.front) (sym back) h.first)
        e' (ap ends back ∙ follows.holds n (first_token_kind after) h.back h.second s));
  }

-- the first token decides which form it can be
pub finds_given : {B : Type 0} {P Q : ℕ → Form} {ends ends' : TokenKind → Bool} {left : ℕ} {r : Result B Refusal}
    {old new : Tokens} → FindsRefusal Q ends' left r old new
    → ((n : ℕ) (next : TokenKind) (ts : Tokens) → P n next ts → ends next ≡ true → kind_or next ts ≡ first_token_kind old
    → Q n next ts × (ends' next ≡ true)) → FindsRefusal P ends left r old new
finds_given {B} {P} {Q} {ends} {ends'} {left} {r} {old} {new} f given = record {
  front = f.front;
  passed = f.passed;
  only = λ p n other ts after same h e s.
      let first : kind_or (first_token_kind after) ts ≡ first_token_kind old =
      sym (kind_before ts after) ∙ sym (ap first_token_kind e) ∙ kind_behind f.front other new same
      ∙ sym (ap first_token_kind f.passed) in
      let q = given n (first_token_kind after) ts h s first in
      f.only p n other ts after same q.0 e q.1;
}

-- so it does where the first token is one of a text
pub finds_plain : {B : Type 0} {P Q : ℕ → Form} {ends ends' : TokenKind → Bool} {left : ℕ} {r : Result B Refusal}
    {old new : Tokens} → FindsRefusal Q ends' left r old new
    → ((n : ℕ) (next : TokenKind) (ts : Tokens) → P n next ts → ends next ≡ true → kind_or next ts ≡ first_token_kind old
    → (kind_or next ts ≡ no_kind → ⊥) → Q n next ts × (ends' next ≡ true)) → FindsRefusal P ends left r old new
finds_plain {B} {P} {Q} {ends} {ends'} {left} {r} {old} {new} f given = record {
  front = f.front;
  passed = f.passed;
  only = λ p n other ts after same h e s.
      let first : kind_or (first_token_kind after) ts ≡ first_token_kind old =
      sym (kind_before ts after) ∙ sym (ap first_token_kind e) ∙ kind_behind f.front other new same
      ∙ sym (ap first_token_kind f.passed) in
      let q = given n (first_token_kind after) ts h s first (λ z. plain_kind old p (sym first ∙ z)) in
      f.only p n other ts after same q.0 e q.1;
}

-- the call is the last: its result is handed on
pub finds_err : {A B : Type 0} {P : ℕ → Form} {ends : TokenKind → Bool} {left : ℕ} {r : Result B Refusal} {e : Refusal}
    {old new : Tokens} → FindsRefusal {A = A} P ends left (Err e) old new → IsErrAnd r (λ x. x ≡ e)
    → FindsRefusal P ends left r old new
finds_err {A} {B} {P} {ends} {left} {r} {e} {old} {new} f failed = record {
  front = f.front;
  passed = f.passed;
  only = λ p n other ts after same h w s. arrives_err B A left n r e other after other after failed
      (f.only p n other ts after same h w s);
}

pub finds_ok : {A B : Type 0} {P : ℕ → Form} {ends : TokenKind → Bool} {left : ℕ} {x : A} (y : B) {old new : Tokens}
    → FindsRefusal P ends left (Ok x) old new → FindsRefusal P ends left (Ok y) old new
finds_ok y f = record { front = f.front; passed = f.passed; only = f.only }

-- memory ran out
pub finds_memory : {A : Type 0} {P : ℕ → Form} {ends : TokenKind → Bool} {left : ℕ} {r : Result A Refusal}
    {old new : Tokens} (front : Tokens) → old ≡ front ++ new → IsErrAnd r (λ x. x ≡ Memory)
    → FindsRefusal P ends left r old new
finds_memory {left = left} {r = r} front e failed =
    record {
      front = front;
      passed = e;
      only = λ p n other ts after same h w s. arrives_memory left n r other after failed;
    }

-- one more production is open
abbrev pub inside : (ℕ → Form) → ℕ → Form
inside P n next ts = (m : ℕ) × (n ≡ suc m) × P m next ts

pub finds_inside : {A : Type 0} {P : ℕ → Form} {ends : TokenKind → Bool} {left : ℕ} {r : Result A Refusal}
    {old new : Tokens} → left ≢ 0 → FindsRefusal P ends (left - 1) r old new → FindsRefusal (inside P) ends left r old new
finds_inside {left = left} {r = r} some f = record {
  front = f.front;
  passed = f.passed;
  only = λ p n other ts after same h w s. arrives_depth left h.0 n r other after some h.1
      (f.only p h.0 other ts after same h.2 w s);
}

-- no text of this form begins here
pub finds_none : {A : Type 0} {P : ℕ → Form} {ends : TokenKind → Bool} {left : ℕ} {e : Refusal} {old : Tokens}
    → ((n : ℕ) (next : TokenKind) (ts : Tokens) → P n next ts → ends next ≡ true → kind_or next ts ≡ first_token_kind old → ⊥)
    → FindsRefusal {A = A} P ends left (Err e) old old
finds_none none = record {
  front = [];
  passed = refl;
  only = λ p n other ts after same h w s. absurd
      (none n (first_token_kind after) ts h s (sym (kind_before ts after) ∙ sym (ap first_token_kind w) ∙ same));
}

-- no room is left: what begins here would open a production too deep
pub finds_too_deep : {A : Type 0} {P : ℕ → Form} {ends : TokenKind → Bool} {left : ℕ} {old : Tokens} → left ≡ 0
    → ((n : ℕ) (next : TokenKind) (ts : Tokens) → P n next ts → (kind_or next ts ≡ no_kind → ⊥) → n ≢ 0)
    → FindsRefusal {A = A} P ends left (Err Depth) old old
finds_too_deep {old = old} none some = record {
  front = [];
  passed = refl;
  only = λ p n other ts after same h w s.
      let first : kind_or (first_token_kind after) ts ≡ first_token_kind old = sym (kind_before ts after) ∙ sym (ap first_token_kind w) ∙ same in
      let k = some n (first_token_kind after) ts h (λ z. plain_kind old p (sym first ∙ z)) in omega (arith, none, k);
}

-- no token
pub finds_nothing : {A : Type 0} (x : A) {ends : TokenKind → Bool} {left : ℕ} {old : Tokens}
    → FindsRefusal (λ n. nothing) ends left (Ok x) old old
finds_nothing x = record {
  front = [];
  passed = refl;
  only = λ p n other ts after same h w s. w
      ∙ ap (λ (t : Tokens). t ++ after) h;
}

-- a token that stands there
pub finds_token : {kind : TokenKind} {left : ℕ} {old new : Tokens} → Eats kind old new
    → FindsRefusal {A = Unit {0}} (λ n. token kind) anything left (Ok tt) old new
finds_token e = record {
  front = e.one ∷ [];
  passed = e.split;
  only = λ p n other ts after same h w s. cons_tail (w ∙ ap (λ (t : Tokens). t ++ after) h.alone);
}

pub finds_expected : {A : Type 0} {kind : TokenKind} {left : ℕ} {x : A} {old new : Tokens} {t : Lexeme} → old ≡ t ∷ new
    → FindsRefusal (λ n. token kind) anything left (Ok x) old new
finds_expected {t = t} e = record {
  front = t ∷ [];
  passed = e;
  only = λ p n other ts after same h w s. cons_tail (w ∙ ap (λ (t : Tokens). t ++ after) h.alone);
}

-- Loops

-- A loop over a form has come from `start` to `rest`.
pub record Loops (A : ℕ → Form) (ends : TokenKind → Bool) (start rest : Tokens) : Type 0 where
  pub front : Tokens
  pub passed : start ≡ front ++ rest
  pub goes : Plain start → (n : ℕ) (other ts after : Tokens) → first_token_kind other ≡ first_token_kind rest
      → many (A n) (first_token_kind after) ts → front ++ other ≡ ts ++ after → ends (first_token_kind after) ≡ true
      → (back : Tokens) × (other ≡ back ++ after) × many (A n) (first_token_kind after) back

pub loops_start : {A : ℕ → Form} {ends : TokenKind → Bool} {start : Tokens} → Loops A ends start start
loops_start = record { front = []; passed = refl; goes = λ p n other ts after same h w s. (ts, w, h) }

-- nothing more of the form begins here
pub loop_over : (A : Form) (next : TokenKind) (back after other : Tokens) (k : TokenKind) → next ≡ first_token_kind after
    → other ≡ back ++ after → first_token_kind other ≡ k → (count : List (Unit {0})) → each (λ _. A) count next back
    → ((next' : TokenKind) (ts : Tokens) → A next' ts → kind_or next' ts ≡ k → ⊥) → other ≡ after
loop_over A next back after other k q e same [] h none = e ∙ ap (λ (t : Tokens). t ++ after) h
loop_over A next back after other k q e same (x ∷ count) h none =
    let w : first_token_kind other ≡ kind_or next back =
    ap first_token_kind e ∙ kind_before back after ∙ ap (λ (j : TokenKind). kind_or j back) (sym q) in
    let v : kind_or next back ≡ kind_or (kind_or next h.back) h.front =
    ap (kind_or next) h.split ∙ kind_join h.front h.back next in
    absurd (none (kind_or next h.back) h.front h.first (sym v ∙ sym w ∙ same))

pub loops_stop : {A : ℕ → Form} {ends : TokenKind → Bool} {left : ℕ} {X : Type 0} {x : X} {start rest : Tokens}
    → Loops A ends start rest → ((n : ℕ) (next : TokenKind) (ts : Tokens) → A n next ts → kind_or next ts ≡ first_token_kind rest
    → ⊥) → FindsRefusal (λ n. many (A n)) ends left (Ok x) start rest
loops_stop {A} {rest = rest} l none = record {
  front = l.front;
  passed = l.passed;
  only = λ p n other ts after same h w s.
      let g = l.goes p n other ts after same h w s in
      loop_over (A n) (first_token_kind after) g.0 after other (first_token_kind rest) refl g.1 same g.2.0 g.2.1 (none n);
}

-- another of the form stands here
loop_more : (A : Form) (next : TokenKind) (back after other rest : Tokens) (ends : TokenKind → Bool)
    → next ≡ first_token_kind after → other ≡ back ++ after → first_token_kind other ≡ first_token_kind rest → ends (first_token_kind rest) ≡ false
    → ends (first_token_kind after) ≡ true → (count : List (Unit {0})) → each (λ _. A) count next back
    → (a : Tokens) × (b : Tokens) × (other ≡ a ++ (b ++ after)) × A (kind_or next b) a × many A next b
loop_more A next back after other rest ends q e same open_here ended [] h =
    let w : true ≡ false = sym ended ∙ ap ends (sym (ap first_token_kind (e ∙ ap (λ (t : Tokens). t ++ after) h))) ∙ ap ends same ∙ open_here in absurd (cc)
loop_more A next back after other rest ends q e same open_here ended (x ∷ count) h = (
  h.front,
  h.back,
  e ∙ ap (λ (t : Tokens). t ++ after) h.split
      ∙ append_assoc h.front h.back after,
  h.first,
  (count, h.second),
)

module _ {A : ℕ → Form} {ends ends' : TokenKind → Bool} {left : ℕ} {X : Type 0} {start rest new : Tokens} where
  -- one more turn that went well
  pub loops_next : {x : X} → Loops A ends' start rest → ends' (first_token_kind rest) ≡ false → FindsRefusal A ends left (Ok x) rest new
      → Follows (λ n. many (A n)) ends ends' → Loops A ends' start new
  loops_next {x} l more f follows = record {
    front = l.front ++ f.front;
    passed = l.passed ∙ ap (λ (s : Tokens). l.front ++ s) f.passed ∙ sym (append_assoc l.front f.front new);
    goes = λ p n other ts after same h w s.
        let same' : first_token_kind (f.front ++ other) ≡ first_token_kind rest =
        kind_behind f.front other new same ∙ sym (ap first_token_kind f.passed) in
        let g = l.goes p n (f.front ++ other) ts after same' h (sym (append_assoc l.front f.front other) ∙ w) s in
        let m = loop_more (A n) (first_token_kind after) g.0 after (f.front ++ other) rest ends' refl g.1 same' more s g.2.0
        g.2.1 in
        let back : first_token_kind (m.1 ++ after) ≡ kind_or (first_token_kind after) m.1 = kind_before m.1 after in (
          m.1,
          f.only (plain_behind l.front rest (plain_at l.passed p)) n other m.0 (m.1 ++ after) same
              (subst (λ (k : TokenKind). A n k m.0) (sym back) m.3) m.2
              (ap ends back ∙ follows.holds n (first_token_kind after) m.1 m.4 s),
          m.4,
        );
  }

  -- a turn that failed
  pub loops_fail : {Y : Type 0} {r : Result Y Refusal} {e : Refusal} → Loops A ends' start rest
      → ends' (first_token_kind rest) ≡ false → FindsRefusal {A = X} A ends left (Err e) rest new → IsErrAnd r (λ x. x ≡ e)
      → Follows (λ n. many (A n)) ends ends' → FindsRefusal (λ n. many (A n)) ends' left r start new
  loops_fail {Y} {r} {e} l more f failed follows = record {
    front = l.front ++ f.front;
    passed = l.passed ∙ ap (λ (s : Tokens). l.front ++ s) f.passed ∙ sym (append_assoc l.front f.front new);
    only = λ p n other ts after same h w s.
        let same' : first_token_kind (f.front ++ other) ≡ first_token_kind rest =
        kind_behind f.front other new same ∙ sym (ap first_token_kind f.passed) in
        let g = l.goes p n (f.front ++ other) ts after same' h (sym (append_assoc l.front f.front other) ∙ w) s in
        let m = loop_more (A n) (first_token_kind after) g.0 after (f.front ++ other) rest ends' refl g.1 same' more s g.2.0
        g.2.1 in
        let back : first_token_kind (m.1 ++ after) ≡ kind_or (first_token_kind after) m.1 = kind_before m.1 after in
        arrives_err Y X left n r e other after other (m.1 ++ after) failed
        (f.only (plain_behind l.front rest (plain_at l.passed p)) n other m.0 (m.1 ++ after) same
        (subst (λ (k : TokenKind). A n k m.0) (sym back) m.3) m.2
        (ap ends back ∙ follows.holds n (first_token_kind after) m.1 m.4 s));
  }

-- What a loop has taken

pub each_push : {X : Type 0} (One : X → Form) (more : List X) (x : X) (front b : Tokens) (next : TokenKind)
    → each One more (kind_or next b) front → One x next b → each One (more ++ x ∷ []) next (front ++ b)
each_push One [] x front b next h o = record {
  front = b;
  back = [];
  split = ap (λ (t : Tokens). t ++ b) h ∙ sym (append-nil b);
  first = o;
  second = refl;
}
each_push One (y ∷ more) x front b next h o = record {
  front = h.front;
  back = h.back ++ b;
  split = ap (λ (t : Tokens). t ++ b) h.split ∙ append_assoc h.front h.back b;
  first = subst (λ (k : TokenKind). One y k h.front) (sym (kind_join h.back b next)) h.first;
  second = each_push One more x h.back b next h.second o;
}

pub spans_push : {X : Type 0} (One : X → Form) (more : List X) (x : X) {start rest new : Tokens}
    → Spans (each One more) start rest → Spans (One x) rest new → Spans (each One (more ++ x ∷ [])) start new
spans_push One more x {start} {rest} {new} a b = record {
  front = a.front ++ b.front;
  split = a.split ∙ ap (λ (s : Tokens). a.front ++ s) b.split ∙ sym (append_assoc a.front b.front new);
  form = each_push One more x a.front b.front (first_token_kind new)
      (subst (λ (k : TokenKind). each One more k a.front) (ap first_token_kind b.split ∙ kind_before b.front new) a.form) b.form;
}

-- First tokens

pub eats_kind : {kind : TokenKind} {old new : Tokens} → Eats kind old new → first_token_kind old ≡ kind
eats_kind e = ap first_token_kind e.split ∙ e.of_kind

pub token_kind : {kind next : TokenKind} {ts : Tokens} → token kind next ts → kind_or next ts ≡ kind
token_kind {next = next} h = ap (kind_or next) h.alone ∙ h.of_kind

pub then_kind : {kind : TokenKind} {B : Form} {next : TokenKind} {ts : Tokens} → (token kind ▸ B) next ts
    → kind_or next ts ≡ kind
then_kind {next = next} h = ap (kind_or next) (h.split ∙ ap (λ (t : Tokens). t ++ h.back) h.first.alone)
    ∙ h.first.of_kind

-- two kinds that a test tells apart
pub apart : {X : Type 0} (test : TokenKind → Bool) {k j l : TokenKind} → k ≡ j → k ≡ l → test j ≡ true → test l ≡ false
    → X
apart test a b t f = let q : true ≡ false = sym t ∙ ap test (sym a ∙ b) ∙ f in absurd (cc)

-- what passes a test is not a kind that fails it
pub fails : {X : Type 0} (test : TokenKind → Bool) {k l : TokenKind} → test k ≡ true → k ≡ l → test l ≡ false → X
fails test t e f = let q : true ≡ false = sym t ∙ ap test e ∙ f in absurd (cc)

-- a form that begins with a token that ends what stands before
pub follows_token : {ends ends' : TokenKind → Bool} {kind : TokenKind} → ends kind ≡ true
    → Follows (λ n. token kind) ends ends'
follows_token {ends} e = record { holds = λ n next ts h s. ap ends (token_kind h) ∙ e }

pub follows_then : {ends ends' : TokenKind → Bool} {kind : TokenKind} {B : ℕ → Form} → ends kind ≡ true
    → Follows (λ n. token kind ▸ B n) ends ends'
follows_then {ends} e = record { holds = λ n next ts h s. ap ends (then_kind h) ∙ e }

pub follows_any : {Q : ℕ → Form} {ends' : TokenKind → Bool} → Follows Q anything ends'
follows_any = record { holds = λ n next ts h s. refl }

-- where many of a form follow, whose first token ends what stands before, and so does what follows them
pub follows_many : {A : ℕ → Form} {ends ends' : TokenKind → Bool}
    → ((n : ℕ) (next : TokenKind) (ts : Tokens) → A n next ts → ends (kind_or next ts) ≡ true)
    → ((k : TokenKind) → ends' k ≡ true → ends k ≡ true) → Follows (λ n. many (A n)) ends ends'
follows_many {A} {ends} {ends'} first weaker = record { holds = λ n next ts h s. by_count n next ts h.0 h.1 s }
  where
    by_count : (n : ℕ) (next : TokenKind) (ts : Tokens) (count : List (Unit {0})) → each (λ _. A n) count next ts
        → ends' next ≡ true → ends (kind_or next ts) ≡ true
    by_count n next ts [] h s = ap ends (ap (kind_or next) h) ∙ weaker next s
    by_count n next ts (x ∷ count) h s =
        ap ends (ap (kind_or next) h.split ∙ kind_join h.front h.back next)
        ∙ first n (kind_or next h.back) h.front h.first

-- where nothing was taken before
pub finds_from : {A : Type 0} {P : ℕ → Form} {ends : TokenKind → Bool} {left : ℕ} {r : Result A Refusal}
    {old old' new : Tokens} → FindsRefusal P ends left r old new → old ≡ old' → FindsRefusal P ends left r old' new
finds_from f e = record { front = f.front; passed = sym e ∙ f.passed; only = λ p. f.only (subst Plain (sym e) p) }

-- where nothing was taken after
pub finds_at : {A : Type 0} {P : ℕ → Form} {ends : TokenKind → Bool} {left : ℕ} {r : Result A Refusal}
    {old new new' : Tokens} → FindsRefusal P ends left r old new → new' ≡ new → FindsRefusal P ends left r old new'
finds_at {P = P} {ends = ends} {left = left} {r = r} {old = old} f e =
    subst (λ (t : Tokens). FindsRefusal P ends left r old t) (sym e) f

-- Loops that push what they take

-- The list `before` has become `items` by the values that were taken from `start` to `rest`.
pub record Gathers {X : Type 0} (One : X → Form) (A : ℕ → Form) (ends : TokenKind → Bool) (before items : List X)
    (start rest : Tokens) : Type 0 where
  pub more : List X
  pub pushed : items ≡ before ++ more
  pub taken : Spans (each One more) start rest
  pub loops : Loops A ends start rest

pub gathers_push : {X Y : Type 0} {One : X → Form} {A : ℕ → Form} {ends ends' : TokenKind → Bool} {left : ℕ} {y : Y}
    {x : X} {before items items' : List X} {start rest new : Tokens} →
    Gathers One A ends' before items start rest → ends' (first_token_kind rest) ≡ false → Spans (One x) rest new
    → FindsRefusal A ends left (Ok y) rest new → Follows (λ n. many (A n)) ends ends' → items' ≡ items ++ x ∷ []
    → Gathers One A ends' before items' start new
gathers_push {One = One} {x = x} {before = before} g more s f follows e = record {
  more = g.more ++ x ∷ [];
  pushed = e ∙ ap (λ (xs : List _). xs ++ x ∷ []) g.pushed ∙ append_assoc before g.more (x ∷ []);
  taken = spans_push One g.more x g.taken s;
  loops = loops_next g.loops more f follows;
}

-- no room is left for what may begin here
pub finds_no_room : {A : Type 0} {P : ℕ → Form} {ends : TokenKind → Bool} {left : ℕ} {old : Tokens}
    (test : TokenKind → Bool) (b : Bool) (e : Refusal) → b ≡ test (first_token_kind old) → OnTrue b (e ≡ Depth)
    → OnFalse b (e ≡ Syntax) → left ≡ 0 →
    ((n : ℕ) (next : TokenKind) (ts : Tokens) → P n next ts → (kind_or next ts ≡ no_kind → ⊥)
    → test (kind_or next ts) ≡ true) → ((n : ℕ) (next : TokenKind) (ts : Tokens) → P n next ts
    → (kind_or next ts ≡ no_kind → ⊥) → n ≢ 0) → FindsRefusal {A = A} P ends left (Err e) old old
finds_no_room {A} {P} {ends} {left} {old} test true e t deep other none first some =
    subst (λ (f : Refusal). FindsRefusal {A = A} P ends left (Err f) old old) (sym deep) (finds_too_deep none some)
finds_no_room {A} {P} {ends} {left} {old} test false e t deep other none first some = record {
  front = [];
  passed = refl;
  only = λ p n other ts after same h w s.
      let k : kind_or (first_token_kind after) ts ≡ first_token_kind old = sym (kind_before ts after) ∙ sym (ap first_token_kind w) ∙ same in
      let q : true ≡ false = sym (first n (first_token_kind after) ts h (λ z. plain_kind old p (sym k ∙ z))) ∙ ap test k ∙ sym t in absurd (cc);
}

-- no text of this form begins here
pub finds_syntax : {A : Type 0} {P : ℕ → Form} {ends : TokenKind → Bool} {left : ℕ} {e : Refusal} {old : Tokens}
    → ((n : ℕ) (next : TokenKind) (ts : Tokens) → P n next ts → ends next ≡ true → kind_or next ts ≡ first_token_kind old → ⊥)
    → FindsRefusal {A = A} P ends left (Err e) old old
finds_syntax none = finds_none none

pub takes_map : {A : Type 0} (P Q : A → Form) (r : Result A Refusal) (old new : Tokens) → TakesTokens P r old new
    → ((x : A) (next : TokenKind) (ts : Tokens) → P x next ts → Q x next ts) → TakesTokens Q r old new
takes_map P Q (Ok x) old new t f = spans_map t (f x)
takes_map P Q (Err e) old new t f = tt

pub takes_from : {A : Type 0} (P : A → Form) (r : Result A Refusal) (old old' new : Tokens) → TakesTokens P r old new
    → old' ≡ old → TakesTokens P r old' new
takes_from P (Ok x) old old' new t e = spans_from t e
takes_from P (Err f) old old' new t e = tt

pub err_memory : {A : Type 0} (r : Result A Refusal) (e : Refusal) → IsErrAnd r (λ x. x ≡ e) → e ≡ Memory
    → IsErrAnd r (λ x. x ≡ Memory)
err_memory (Ok x) e h m = elim h [ ]
err_memory (Err x) e h m = h ∙ m

pub eats_as : {j k : TokenKind} {old new : Tokens} → Eats j old new → j ≡ k → Eats k old new
eats_as e q = record { one = e.one; split = e.split; of_kind = e.of_kind ∙ q }

-- what was taken is still taken where nothing was taken after
pub spans_at : (A : Form) {old new new' : Tokens} → Spans A old new → new' ≡ new → Spans A old new'
spans_at A {old} s e = subst (λ (t : Tokens). Spans A old t) (sym e) s
