-- Two texts that begin alike: where each has a form, and what follows ends it, they end at one token and say the same.
use Rattle.std.proofs.Common.{◌≡◌, ℕ, Bool, true, false, not, List, [], ◌∷◌, ◌++◌, refl, sym, ap, ◌∙◌, subst, append_assoc}
use Rattle.std.proofs.lemmas.List.{append-nil, append_cancel_left}
use Rattle.ar_base.specs.Lists.{Along, none, one_and}
use Rattle.ar_base.specs.declared.places.Place.{Place}
use Rattle.ar_base.proofs.Truths.{not_true}
use Rattle.ar_lexer.specs.declared.token.TokenKind.{TokenKind}
use Rattle.ar_lexer.proofs.NumberLemmas.{cons_head}
use Rattle.expression_grammar.specs.declared.lexeme.Lexeme.{Lexeme}
use Rattle.expression_grammar.specs.Words.{Form, Tokens, kind_or, token, ◌▸◌, nothing, each, separated_by, groups, concat, standing, StandsAt}
use Rattle.expression_grammar.specs.Results.{first_token_kind, anything}
use Rattle.expression_grammar.proofs.Finding.{kind_before, kind_join, token_kind}

-- Both texts have these forms and end where they may: then R holds, and they have the same tokens.
pub record Agree (ends : TokenKind → Bool) (A B : Form) (R : Type 0) : Type 0 where
  pub holds : (a b rest rest' : Tokens) → A (first_token_kind rest) a → B (first_token_kind rest') b → a ++ rest ≡ b ++ rest'
      → ends (first_token_kind rest) ≡ true → ends (first_token_kind rest') ≡ true → R × (a ≡ b)

-- where what follows passes the one test, the first token passes the other
pub record First (A : Form) (ends test : TokenKind → Bool) : Type 0 where
  pub holds : (next : TokenKind) (ts : Tokens) → A next ts → ends next ≡ true → test (kind_or next ts) ≡ true

-- the other kinds
abbrev pub other : (TokenKind → Bool) → TokenKind → Bool
other test k = not (test k)

-- First tokens

pub first_token : {kind : TokenKind} {ends test : TokenKind → Bool} → test kind ≡ true → First (token kind) ends test
first_token {test = test} e = record { holds = λ next ts h s. ap test (token_kind h) ∙ e }

pub first_then : {A B : Form} {ends mid test : TokenKind → Bool} → First A mid test → First B ends mid
    → First (A ▸ B) ends test
first_then {A} {B} {ends} {mid} {test} f g = record {
  holds = λ next ts h s.
      ap test (ap (kind_or next) h.split ∙ kind_join h.front h.back next)
      ∙ f.holds (kind_or next h.back) h.front h.first (g.holds next h.back h.second s);
}

-- whatever follows
pub first_front : {A B : Form} {ends test : TokenKind → Bool} → First A anything test → First (A ▸ B) ends test
first_front {test = test} f = record {
  holds = λ next ts h s. ap test (ap (kind_or next) h.split ∙ kind_join h.front h.back next)
      ∙ f.holds (kind_or next h.back) h.front h.first refl;
}

pub first_nothing : {ends test : TokenKind → Bool} → ((k : TokenKind) → ends k ≡ true → test k ≡ true)
    → First nothing ends test
first_nothing {test = test} weaker = record { holds = λ next ts h s. ap test (ap (kind_or next) h) ∙ weaker next s }

pub first_weaker : {A : Form} {ends mid test : TokenKind → Bool} → First A ends mid
    → ((k : TokenKind) → mid k ≡ true → test k ≡ true) → First A ends test
first_weaker f w = record { holds = λ next ts h s. w (kind_or next ts) (f.holds next ts h s) }

pub first_any : {A : Form} {ends test : TokenKind → Bool} → First A anything test → First A ends test
first_any f = record { holds = λ next ts h s. f.holds next ts h refl }

pub first_each : {X : Type 0} {One : X → Form} {ends test : TokenKind → Bool} → ((x : X) → First (One x) anything test)
    → ((k : TokenKind) → ends k ≡ true → test k ≡ true) → (xs : List X) → First (each One xs) ends test
first_each f w [] = first_nothing w
first_each f w (x ∷ xs) = first_front (f x)

pub not_both : (p q : Bool) → (p ≡ true → q ≡ true → ⊥) → p ≡ true → not q ≡ true
not_both p true f e = absurd (f e refl)
not_both p false f e = refl

-- the texts begin with one token
pub meet : (a b rest rest' : Tokens) → a ++ rest ≡ b ++ rest' → kind_or (first_token_kind rest) a ≡ kind_or (first_token_kind rest') b
meet a b rest rest' e = sym (kind_before a rest) ∙ ap first_token_kind e ∙ kind_before b rest'

-- Agreement

module _ {ends : TokenKind → Bool} {A B : Form} where
  pub agree_map : {R S : Type 0} → Agree ends A B R → (R → S) → Agree ends A B S
  agree_map f g = record { holds = λ a b rest rest' h k e s s'. let r = f.holds a b rest rest' h k e s s' in (g r.0, r.1) }

  pub agree_turned : {R : Type 0} → Agree ends A B R → Agree ends B A R
  agree_turned f = record { holds = λ a b rest rest' h k e s s'. let r = f.holds b a rest' rest k h (sym e) s' s in (r.0, sym r.1) }

  -- where more must hold of what follows
  pub agree_ended : {R : Type 0} {ends' : TokenKind → Bool} → Agree ends A B R
      → ((k : TokenKind) → ends' k ≡ true → ends k ≡ true) → Agree ends' A B R
  agree_ended f w = record {
    holds = λ a b rest rest' h k e s s'. f.holds a b rest rest' h k e (w (first_token_kind rest) s)
        (w (first_token_kind rest') s');
  }

  -- the forms may be told in another way
  pub agree_told : {R : Type 0} {A' B' : Form} → Agree ends A B R
      → ((next : TokenKind) (ts : Tokens) → A' next ts → A next ts)
      → ((next : TokenKind) (ts : Tokens) → B' next ts → B next ts) → Agree ends A' B' R
  agree_told f to to' = record {
    holds = λ a b rest rest' h k e s s'. f.holds a b rest rest' (to (first_token_kind rest) a h)
        (to' (first_token_kind rest') b k) e s s';
  }

  -- what holds at each number
  pub agree_all : {R : ℕ → Type 0} → ((d : ℕ) → Agree ends A B (R d)) → Agree ends A B ((d : ℕ) → R d)
  agree_all f = record {
    holds = λ a b rest rest' h k e s s'.
        ((λ d. ((f d).holds a b rest rest' h k e s s').0), ((f 0).holds a b rest rest' h k e s s').1);
  }

  -- first tokens that differ
  pub agree_apart : {R : Type 0} {test test' : TokenKind → Bool} → First A ends test → First B ends test'
      → ((k : TokenKind) → test k ≡ true → test' k ≡ true → ⊥) → Agree ends A B R
  agree_apart {test = test} f g clash = record {
    holds = λ a b rest rest' h k e s s'.
        let same : kind_or (first_token_kind rest) a ≡ kind_or (first_token_kind rest') b =
        sym (kind_before a rest) ∙ ap first_token_kind e ∙ kind_before b rest' in
        absurd (clash (kind_or (first_token_kind rest') b) (ap test (sym same) ∙ f.holds (first_token_kind rest) a h s)
        (g.holds (first_token_kind rest') b k s'));
  }

pub agree_token : {k l : TokenKind} {ends : TokenKind → Bool} → Agree ends (token k) (token l) (k ≡ l)
agree_token {k} {l} = record {
  holds = λ a b rest rest' h j e s s'.
      let both : h.one ∷ rest ≡ j.one ∷ rest' =
      sym (ap (λ (t : Tokens). t ++ rest) h.alone) ∙ e ∙ ap (λ (t : Tokens). t ++ rest') j.alone in
      let one : h.one ≡ j.one = cons_head both in (
        sym h.of_kind ∙ ap (λ (t : Lexeme). t.kind) one ∙ j.of_kind,
        h.alone ∙ ap (λ (t : Lexeme). t ∷ []) one
            ∙ sym j.alone,
      );
}

pub agree_nothing : {ends : TokenKind → Bool} → Agree ends nothing nothing (Unit {0})
agree_nothing = record { holds = λ a b rest rest' h k e s s'. (tt, h ∙ sym k) }

-- one form behind the other
pub agree_then : {ends ends' : TokenKind → Bool} {A A' B B' : Form} {R S : Type 0} → Agree ends A A' R
    → First B ends' ends → First B' ends' ends → Agree ends' B B' S → Agree ends' (A ▸ B) (A' ▸ B') (R × S)
agree_then {ends} {ends'} {A} {A'} {B} {B'} {R} {S} f first first' g = record {
  holds = λ a b rest rest' h k e s s'.
      let there : kind_or (first_token_kind rest) h.back ≡ first_token_kind (h.back ++ rest) = sym (kind_before h.back rest) in
      let there' : kind_or (first_token_kind rest') k.back ≡ first_token_kind (k.back ++ rest') = sym (kind_before k.back rest') in
      let whole : h.front ++ (h.back ++ rest) ≡ k.front ++ (k.back ++ rest') =
      sym (append_assoc h.front h.back rest) ∙ sym (ap (λ (t : Tokens). t ++ rest) h.split) ∙ e
      ∙ ap (λ (t : Tokens). t ++ rest') k.split ∙ append_assoc k.front k.back rest' in
      let r = f.holds h.front k.front (h.back ++ rest) (k.back ++ rest')
      (subst (λ (n : TokenKind). A n h.front) there h.first)
      (subst (λ (n : TokenKind). A' n k.front) there' k.first) whole
      (sym (ap ends there) ∙ first.holds (first_token_kind rest) h.back h.second s)
      (sym (ap ends there') ∙ first'.holds (first_token_kind rest') k.back k.second s') in
      let left : h.back ++ rest ≡ k.back ++ rest' =
      append_cancel_left h.front (h.back ++ rest) (k.back ++ rest')
      (whole ∙ ap (λ (t : Tokens). t ++ (k.back ++ rest')) (sym r.1)) in
      let q = g.holds h.back k.back rest rest' h.second k.second left s s' in (
        (r.0, q.0),
        h.split ∙ ap (λ (t : Tokens). t ++ h.back) r.1 ∙ ap (λ (t : Tokens). k.front ++ t) q.1
            ∙ sym k.split,
      );
}

-- a first form that nothing ends
pub agree_next : {ends' : TokenKind → Bool} {A A' B B' : Form} {R S : Type 0} → Agree anything A A' R
    → Agree ends' B B' S → Agree ends' (A ▸ B) (A' ▸ B') (R × S)
agree_next f g = agree_then f (record { holds = λ next ts h s. refl }) (record { holds = λ next ts h s. refl }) g

-- a token that ends the form
pub agree_closed : {ends ends' : TokenKind → Bool} {A A' : Form} {k l : TokenKind} {R : Type 0} → Agree ends A A' R
    → ends k ≡ true → ends l ≡ true → Agree ends' (A ▸ token k) (A' ▸ token l) (R × (k ≡ l))
agree_closed f e e' = agree_then f (first_token e) (first_token e') agree_token

pub with_nothing : {A : Form} (next : TokenKind) (ts : Tokens) → A next ts → (A ▸ nothing) next ts
with_nothing next ts h = record { front = ts; back = []; split = sym (append-nil ts); first = h; second = refl }

pub agree_standing : {ends : TokenKind → Bool} {A B : Form} {p q : Place} {R : Type 0} → Agree ends A B R
    → Agree ends (standing p A) (standing q B) ((p ≡ q) × R)
agree_standing {A = A} {B = B} {p = p} {q = q} f = record {
  holds = λ a b rest rest' h k e s s'.
      let r = f.holds a b rest rest' h.form k.form e s s' in
      ((one_place a h.there (subst (λ (t : Tokens). StandsAt q t) (sym r.1) k.there), r.0), r.1);
}
  where
    one_place : (ts : Tokens) → StandsAt p ts → StandsAt q ts → p ≡ q
    one_place [] h k = elim h [ ]
    one_place (t ∷ ts) h k = h ∙ sym k

-- Lists

pub agree_each : {X : Type 0} {One : X → Form} {ends ends' : TokenKind → Bool} {R : X → X → Type 0}
    → ((x y : X) → Agree ends (One x) (One y) (R x y)) →
    ((x : X) → First (One x) anything ends) → ((x : X) → First (One x) anything (other ends'))
    → ((k : TokenKind) → ends' k ≡ true → ends k ≡ true) → (xs ys : List X)
    → Agree ends' (each One xs) (each One ys) (Along R xs ys)
agree_each item fits starts w [] [] = agree_map agree_nothing (λ u. none)
agree_each {ends' = ends'} item fits starts w [] (y ∷ ys) =
    agree_apart (first_nothing {test = ends'} (λ k e. e)) (first_front (starts y)) (λ k e f. not_true (ends' k) f e)
agree_each {ends' = ends'} item fits starts w (x ∷ xs) [] =
    agree_apart (first_front (starts x)) (first_nothing {test = ends'} (λ k e. e)) (λ k e f. not_true (ends' k) e f)
agree_each item fits starts w (x ∷ xs) (y ∷ ys) =
    agree_map (agree_then (item x y) (first_each fits w xs) (first_each fits w ys)
    (agree_each item fits starts w xs ys)) (λ r. one_and r.0 r.1)

pub agree_separated : {X : Type 0} {One : X → Form} {ends ends' : TokenKind → Bool} {R : X → X → Type 0}
    (separator : TokenKind) → ((x y : X) → Agree ends (One x) (One y) (R x y)) → ends separator ≡ true
    → ends' separator ≡ false →
    ((k : TokenKind) → ends' k ≡ true → ends k ≡ true) → (xs ys : List X)
    → Agree ends' (separated_by separator One xs) (separated_by separator One ys) (Along R xs ys)
agree_separated separator item e e' w [] ys = record { holds = λ a b rest rest' h k q s s'. elim h [ ] }
agree_separated separator item e e' w (x ∷ xs) [] = record { holds = λ a b rest rest' h k q s s'. elim k [ ] }
agree_separated {X} {One} {ends} {ends'} {R} separator item e e' w (x ∷ xs) (y ∷ ys) =
    let fits : (x : X) → First (token separator ▸ One x) anything ends = λ x. first_front (first_token e) in
    agree_map (agree_then (item x y) (first_each fits w xs) (first_each fits w ys)
    (agree_each {ends = ends} {R = R} (λ x y. agree_map (agree_next agree_token (item x y)) (λ r. r.1)) fits
    (λ x. first_front (first_token (ap not e'))) w xs ys)) (λ r. one_and r.0 r.1)

pub along_map : {X : Type 0} {R S : X → X → Type 0} {xs ys : List X} → ((x y : X) → R x y → S x y) → Along R xs ys
    → Along S xs ys
along_map f none = none
along_map f (one_and {a} {b} r more) = one_and (f a b r) (along_map f more)

pub along_append : {X : Type 0} {R : X → X → Type 0} {xs ys us ws : List X} → Along R xs ys → Along R us ws
    → Along R (xs ++ us) (ys ++ ws)
along_append none k = k
along_append (one_and r more) k = one_and r (along_append more k)

along_concat : {X : Type 0} {R : X → X → Type 0} {xs ys : List (List X)} → Along (Along R) xs ys
    → Along R (concat xs) (concat ys)
along_concat none = none
along_concat (one_and r more) = along_append r (along_concat more)

pub along_equal : {X : Type 0} {xs ys : List X} → Along (λ x y. x ≡ y) xs ys → xs ≡ ys
along_equal none = refl
along_equal (one_and {a} {b} {xs} {ys} r more) =
    ap (λ (x : _). x ∷ xs) r ∙ ap (λ (zs : List _). b ∷ zs) (along_equal more)

pub agree_groups : {X : Type 0} {One : List X → Form} {ends ends' : TokenKind → Bool} {R : X → X → Type 0}
    → ((x y : List X) → Agree ends (One x) (One y) (Along R x y)) →
    ((x : List X) → First (One x) anything ends) → ((x : List X) → First (One x) anything (other ends'))
    → ((k : TokenKind) → ends' k ≡ true → ends k ≡ true) → (xs ys : List X)
    → Agree ends' (groups One xs) (groups One ys) (Along R xs ys)
agree_groups {X} {One} {ends} {ends'} {R} item fits starts w xs ys = record {
  holds = λ a b rest rest' h k e s s'.
      let r = (agree_each {R = Along R} item fits starts w h.parts k.parts).holds a b rest rest' h.are k.are e s s' in (
        subst (λ (zs : List X). Along R zs ys) (sym h.all)
            (subst (λ (zs : List X). Along R (concat h.parts) zs) (sym k.all) (along_concat r.0)),
        r.1,
      );
}
