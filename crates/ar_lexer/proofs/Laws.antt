-- A text has at most one list of tokens and at most one first fault, and never both.
use Rattle.std.proofs.Common.{◌≡◌, ◌≢◌, ℕ, zero, suc, ◌+◌, ◌<◌, ◌≤◌, ◌^◌, ◌⊎◌, inl, inr, true, false, not, Some, None, List, [], ◌∷◌, ◌++◌, length, take, refl, sym, ap, ◌∙◌, subst, append_assoc, arith}
use Rattle.std.specs.Prelude.{codes, Result, Ok, Err, IfOk, IfErr, IsErrAnd, MatchResult, Vec}
use Rattle.std.specs.declared.alloc.Global.{Global}
use Rattle.std.specs.List.{prefix_len}
use Rattle.std.specs.Char.{is_ascii_digit}
use Rattle.std.proofs.lemmas.List.{length-append, append_cancel_left, take_at}
use Rattle.std.proofs.lemmas.Option.{same_Some}
use Rattle.ar_base.proofs.Fronts.{HeadFails}
use Rattle.ar_lexer.specs.declared.token.Token.{Token}
use Rattle.ar_lexer.specs.declared.token.TokenKind.{TokenKind}
use Rattle.ar_lexer.specs.declared.token.TokenKind.TheVariants.{Name, Whole, Real, Sign, Reserved, End}
use Rattle.ar_lexer.specs.declared.token.LexFault.{LexFault}
use Rattle.ar_lexer.specs.declared.token.LexFault.TheVariants.{Byte, OpenComment, Number, Memory}
use Rattle.ar_lexer.specs.Spelling.{fraction, exponent, both, signs, place_in, AllPass, IsWord, IsDigits, IsReal, IsTail, IsTextOfKind, IsTokenText, word, whole, real, sign, number_of}
use Rattle.ar_lexer.specs.Tokens.{is_blank, is_line_feed, IsLineEnd, Closes, IsGap, blank, line_comment, block_comment, IsTokenOf, IsToken, joined_pieces, AreCut, end_of_text, AreTokens, BeginsNothing, IsOpenComment, IsTooLarge, IsFault, IsFirstFault}
use Rattle.ar_lexer.proofs.RunLemmas.{run_exact, letter_no_digit, blank_digit}
use Rattle.ar_lexer.proofs.NumberLemmas.{cons_head, cons_tail, digits_pass, tail_fails}
use Rattle.ar_lexer.proofs.FormLemmas.{sign_passes, blank_form, sign_head, real_head}
use Rattle.ar_lexer.proofs.ReadLemmas.{same_token}

-- Fronts of one text

longer_front : (xs ys a b : List ℕ) → xs ++ a ≡ ys ++ b → length xs ≤ length ys → (c : List ℕ) × (ys ≡ xs ++ c)
longer_front [] ys a b e l = (ys, refl)
longer_front (x ∷ xs) [] a b e l = absurd (omega (arith, l))
longer_front (x ∷ xs) (y ∷ ys) a b e l =
    let more = longer_front xs ys a b (cons_tail e) (omega (arith, l)) in
    (more.0, ap (λ (z : ℕ). z ∷ ys) (sym (cons_head e)) ∙ ap (λ (s : List ℕ). x ∷ s) more.1)

same_front : (xs ys a b : List ℕ) → xs ++ a ≡ ys ++ b → length xs ≡ length ys → xs ≡ ys
same_front xs ys a b e l = sym (take_at xs a (length xs) refl) ∙ ap (take (length xs)) e
    ∙ take_at ys b (length xs) (sym l)

same_back : (xs ys a b : List ℕ) → xs ++ a ≡ ys ++ b → xs ≡ ys → a ≡ b
same_back xs ys a b e same = append_cancel_left xs a b (e ∙ ap (λ (s : List ℕ). s ++ b) (sym same))

-- Gaps

before_line_end : (after : List ℕ) → IsLineEnd after → HeadFails (λ b. not (is_line_feed b)) after
before_line_end [] h = tt
before_line_end (b ∷ after) h = ap not h

same_line : (body body' a b : List ℕ) → AllPass (λ b. not (is_line_feed b)) body
    → AllPass (λ b. not (is_line_feed b)) body' → IsLineEnd a → IsLineEnd b → body ++ a ≡ body' ++ b → body ≡ body'
same_line body body' a b h h' l l' e =
    let p = run_exact (λ b. not (is_line_feed b)) body a h (before_line_end a l) in
    let q = run_exact (λ b. not (is_line_feed b)) body' b h' (before_line_end b l') in
    same_front body body' a b e (sym p ∙ ap (prefix_len (λ b. not (is_line_feed b))) e ∙ q)

le_or_lt : (m n : ℕ) → (n ≤ m) ⊎ (m < n)
le_or_lt m zero = inl (omega arith)
le_or_lt zero (suc n) = inr (omega arith)
le_or_lt (suc m) (suc n) = elim (le_or_lt m n) as (λ _. (suc n ≤ suc m) ⊎ (suc m < suc n))
    [ inl l ↦ inl (omega (arith, l)) | inr l ↦ inr (omega (arith, l)) ]

-- the first close is not behind another
close_not_longer : (body body' a b : List ℕ) → (body ++ codes "*/") ++ a ≡ (body' ++ codes "*/") ++ b
    → ((back : List ℕ) → Closes (body' ++ codes "*/") back → back ≡ []) → length body' ≤ length body
close_not_longer body body' a b e first =
    elim (le_or_lt (length body) (length body')) as (λ _. length body' ≤ length body)
    [ inl l ↦ l | inr l ↦ absurd (longer l) ]
  where
    longer : length body < length body' → ⊥
    longer l =
        let n : length (body ++ codes "*/") ≡ length body + 2 = length-append body (codes "*/") in
        let n' : length (body' ++ codes "*/") ≡ length body' + 2 = length-append body' (codes "*/") in
        let more = longer_front (body ++ codes "*/") (body' ++ codes "*/") a b e (omega (arith, n, n', l)) in
        let none : more.0 ≡ [] = first more.0 (body, more.1 ∙ append_assoc body (codes "*/") more.0) in
        let k : length (body' ++ codes "*/") ≡ length (body ++ codes "*/") + length more.0 =
        ap length more.1 ∙ length-append (body ++ codes "*/") more.0 in
        let z : length more.0 ≡ 0 = ap length none in
        omega (arith, n, n', l, k, z)

same_block : (body body' a b : List ℕ) → ((back : List ℕ) → Closes (body ++ codes "*/") back → back ≡ [])
    → ((back : List ℕ) → Closes (body' ++ codes "*/") back → back ≡ [])
    → (body ++ codes "*/") ++ a ≡ (body' ++ codes "*/") ++ b → body ++ codes "*/" ≡ body' ++ codes "*/"
same_block body body' a b first first' e =
    let l = close_not_longer body body' a b e first' in
    let l' = close_not_longer body' body b a (sym e) first in
    let n : length (body ++ codes "*/") ≡ length body + 2 = length-append body (codes "*/") in
    let n' : length (body' ++ codes "*/") ≡ length body' + 2 = length-append body' (codes "*/") in
    same_front (body ++ codes "*/") (body' ++ codes "*/") a b e (omega (arith, n, n', l, l'))

blank_no_slash : (b c : ℕ) → is_blank b ≡ true → b ≡ 47 → ⊥
blank_no_slash b c h e = let q : false ≡ true = sym (ap is_blank e) ∙ h in absurd (cc)

pub gap_one : (p q a b : List ℕ) → IsGap p a → IsGap q b → p ++ a ≡ q ++ b → p ≡ q
gap_one p q a b (blank x i h) (blank y j k) e =
    let f : x ∷ a ≡ y ∷ b = sym (ap (λ (s : List ℕ). s ++ a) i) ∙ e ∙ ap (λ (s : List ℕ). s ++ b) j in
    i ∙ ap (λ (z : ℕ). z ∷ []) (cons_head f) ∙ sym j
gap_one p q a b (blank x i h) (line_comment body j k l) e =
    let f : x ∷ a ≡ 47 ∷ 47 ∷ (body ++ b) = sym (ap (λ (s : List ℕ). s ++ a) i) ∙ e ∙ ap (λ (s : List ℕ). s ++ b) j in absurd (blank_no_slash x 0 h (cons_head f))
gap_one p q a b (blank x i h) (block_comment body j k) e =
    let f : x ∷ a ≡ 47 ∷ 42 ∷ ((body ++ codes "*/") ++ b) = sym (ap (λ (s : List ℕ). s ++ a) i) ∙ e ∙ ap (λ (s : List ℕ). s ++ b) j in absurd (blank_no_slash x 0 h (cons_head f))
gap_one p q a b (line_comment body i h l) (blank y j k) e =
    let f : 47 ∷ 47 ∷ (body ++ a) ≡ y ∷ b = sym (ap (λ (s : List ℕ). s ++ a) i) ∙ e ∙ ap (λ (s : List ℕ). s ++ b) j in absurd (blank_no_slash y 0 k (sym (cons_head f)))
gap_one p q a b (line_comment body i h l) (line_comment body' j k m) e =
    let f : 47 ∷ 47 ∷ (body ++ a) ≡ 47 ∷ 47 ∷ (body' ++ b) =
    sym (ap (λ (s : List ℕ). s ++ a) i) ∙ e ∙ ap (λ (s : List ℕ). s ++ b) j in
    i ∙ ap (λ (s : List ℕ). 47 ∷ 47 ∷ s) (same_line body body' a b h k l m (cons_tail (cons_tail f))) ∙ sym j
gap_one p q a b (line_comment body i h l) (block_comment body' j k) e =
    let f : 47 ∷ 47 ∷ (body ++ a) ≡ 47 ∷ 42 ∷ ((body' ++ codes "*/") ++ b) =
    sym (ap (λ (s : List ℕ). s ++ a) i) ∙ e ∙ ap (λ (s : List ℕ). s ++ b) j in
    let g : 47 ≡ 42 = cons_head (cons_tail f) in absurd (omega (arith, g))
gap_one p q a b (block_comment body i h) (blank y j k) e =
    let f : 47 ∷ 42 ∷ ((body ++ codes "*/") ++ a) ≡ y ∷ b = sym (ap (λ (s : List ℕ). s ++ a) i) ∙ e ∙ ap (λ (s : List ℕ). s ++ b) j in absurd (blank_no_slash y 0 k (sym (cons_head f)))
gap_one p q a b (block_comment body i h) (line_comment body' j k m) e =
    let f : 47 ∷ 42 ∷ ((body ++ codes "*/") ++ a) ≡ 47 ∷ 47 ∷ (body' ++ b) =
    sym (ap (λ (s : List ℕ). s ++ a) i) ∙ e ∙ ap (λ (s : List ℕ). s ++ b) j in
    let g : 42 ≡ 47 = cons_head (cons_tail f) in absurd (omega (arith, g))
gap_one p q a b (block_comment body i h) (block_comment body' j k) e =
    let f : 47 ∷ 42 ∷ ((body ++ codes "*/") ++ a) ≡ 47 ∷ 42 ∷ ((body' ++ codes "*/") ++ b) =
    sym (ap (λ (s : List ℕ). s ++ a) i) ∙ e ∙ ap (λ (s : List ℕ). s ++ b) j in
    i ∙ ap (λ (s : List ℕ). 47 ∷ 42 ∷ s) (same_block body body' a b h k (cons_tail (cons_tail f))) ∙ sym j

-- Kinds

text_of_kind : (k : TokenKind) (p : List ℕ) → IsTextOfKind k p → IsTokenText p
text_of_kind Name p h = word h.0
text_of_kind (Whole n) p h = whole h.0
text_of_kind Real p h = real h
text_of_kind (Sign n) p h = sign n h
text_of_kind (Reserved n) p h = word h.0
text_of_kind End p h = elim h [ ]

word_no_digits : (p : List ℕ) → IsWord p → IsDigits p → ⊥
word_no_digits [] w h = elim h [ ]
word_no_digits (b ∷ p) w h = letter_no_digit b w.0 h.0

word_no_real : (p : List ℕ) → IsWord p → IsReal p → ⊥
word_no_real [] w h = elim w [ ]
word_no_real (b ∷ p) w h = letter_no_digit b w.0 (real_head b p h)

word_no_sign : (p : List ℕ) (n : ℕ) → IsWord p → place_in signs p ≡ Some n → ⊥
word_no_sign [] n w h = elim w [ ]
word_no_sign (b ∷ p) n w h = let q : true ≡ false = sym w.0 ∙ (sign_head b p n h).0 in absurd (cc)

digits_no_sign : (p : List ℕ) (n : ℕ) → IsDigits p → place_in signs p ≡ Some n → ⊥
digits_no_sign [] n w h = elim w [ ]
digits_no_sign (b ∷ p) n w h = let q : true ≡ false = sym w.0 ∙ (sign_head b p n h).1.0 in absurd (cc)

real_some : IsReal [] → ⊥
real_some h = no_digits h.0 h.1 h.2 h.3
  where
    no_digits : (ds tail : List ℕ) → [] ≡ ds ++ tail → IsDigits ds → ⊥
    no_digits [] tail q h = elim h [ ]
    no_digits (d ∷ ds) tail q h = absurd (cc)

real_no_sign : (p : List ℕ) (n : ℕ) → IsReal p → place_in signs p ≡ Some n → ⊥
real_no_sign [] n w h = real_some w
real_no_sign (b ∷ p) n w h = let q : true ≡ false = sym (real_head b p w) ∙ (sign_head b p n h).1.0 in absurd (cc)

tail_some : (t : List ℕ) → IsTail t → 0 < length t
tail_some t (fraction h) = let n : length t ≡ suc (length h.0) = ap length h.1 in omega (arith, n)
tail_some t (exponent h) =
    let n : length t ≡ length h.0 + length (h.1 ++ h.2) = ap length h.3 ∙ length-append h.0 (h.1 ++ h.2) in
    let m : length h.0 ≡ 1 = elim h.4 as (λ _. length h.0 ≡ 1) [ inl e ↦ ap length e | inr e ↦ ap length e ] in
    omega (arith, n, m)
tail_some t (both f e q hf he) =
    let n : length t ≡ length f + length e = ap length q ∙ length-append f e in
    let m : length f ≡ suc (length hf.0) = ap length hf.1 in
    omega (arith, n, m)

-- digits with a tail are not digits alone
digits_no_real : (p : List ℕ) → IsDigits p → IsReal p → ⊥
digits_no_real p h r =
    let a = run_exact is_ascii_digit p [] (digits_pass p h) tt in
    let b = run_exact is_ascii_digit r.0 (r.1 ++ []) (digits_pass r.0 r.3) (tail_fails r.1 [] r.4) in
    let e : p ++ [] ≡ r.0 ++ (r.1 ++ []) = ap (λ (s : List ℕ). s ++ []) r.2 ∙ append_assoc r.0 r.1 [] in
    let n : length p ≡ length r.0 = sym a ∙ ap (prefix_len is_ascii_digit) e ∙ b in
    let k : length p ≡ length r.0 + length r.1 = ap length r.2 ∙ length-append r.0 r.1 in
    let l = tail_some r.1 r.4 in
    omega (arith, n, k, l)

some_none : {P : Type 0} (m : ℕ) → Some m ≡ None → P
some_none m e = absurd (cc)

pub kind_one : (k l : TokenKind) (p : List ℕ) → IsTextOfKind k p → IsTextOfKind l p → k ≡ l
kind_one Name Name p h g = refl
kind_one Name (Whole n) p h g = absurd (word_no_digits p h.0 g.0)
kind_one Name Real p h g = absurd (word_no_real p h.0 g)
kind_one Name (Sign n) p h g = absurd (word_no_sign p n h.0 g)
kind_one Name (Reserved n) p h g = some_none n (sym g.1 ∙ h.1)
kind_one Name End p h g = elim g [ ]
kind_one (Whole n) Name p h g = absurd (word_no_digits p g.0 h.0)
kind_one (Whole n) (Whole m) p h g = ap Whole (h.2 ∙ sym g.2)
kind_one (Whole n) Real p h g = absurd (digits_no_real p h.0 g)
kind_one (Whole n) (Sign m) p h g = absurd (digits_no_sign p m h.0 g)
kind_one (Whole n) (Reserved m) p h g = absurd (word_no_digits p g.0 h.0)
kind_one (Whole n) End p h g = elim g [ ]
kind_one Real Name p h g = absurd (word_no_real p g.0 h)
kind_one Real (Whole n) p h g = absurd (digits_no_real p g.0 h)
kind_one Real Real p h g = refl
kind_one Real (Sign n) p h g = absurd (real_no_sign p n h g)
kind_one Real (Reserved n) p h g = absurd (word_no_real p g.0 h)
kind_one Real End p h g = elim g [ ]
kind_one (Sign n) Name p h g = absurd (word_no_sign p n g.0 h)
kind_one (Sign n) (Whole m) p h g = absurd (digits_no_sign p n g.0 h)
kind_one (Sign n) Real p h g = absurd (real_no_sign p n g h)
kind_one (Sign n) (Sign m) p h g = ap Sign (same_Some n m (sym h ∙ g))
kind_one (Sign n) (Reserved m) p h g = absurd (word_no_sign p n g.0 h)
kind_one (Sign n) End p h g = elim g [ ]
kind_one (Reserved n) Name p h g = some_none n (sym h.1 ∙ g.1)
kind_one (Reserved n) (Whole m) p h g = absurd (word_no_digits p h.0 g.0)
kind_one (Reserved n) Real p h g = absurd (word_no_real p h.0 g)
kind_one (Reserved n) (Sign m) p h g = absurd (word_no_sign p m h.0 g)
kind_one (Reserved n) (Reserved m) p h g = ap Reserved (same_Some n m (sym h.1 ∙ g.1))
kind_one (Reserved n) End p h g = elim g [ ]
kind_one End l p h g = elim h [ ]

-- Tokens

pub token_text_one : (k l : TokenKind) (p q a b : List ℕ) → IsTokenOf k p a → IsTokenOf l q b → p ++ a ≡ q ++ b → p ≡ q
token_text_one k l p q a b h g e =
    let m = h.longest q b e (text_of_kind l q g.of_kind) in
    let n = g.longest p a (sym e) (text_of_kind k p h.of_kind) in
    same_front p q a b e (omega (arith, m, n))

token_one : (before p q a b : List ℕ) (t u : Token) → IsToken before p a t → IsToken before q b u → p ++ a ≡ q ++ b
    → (p ≡ q) × (t ≡ u)
token_one before p q a b t u h g e =
    let s = token_text_one t.kind u.kind p q a b h.of_kind g.of_kind e in
    let n : length p ≡ length q = ap length s in
    let x = h.to in let y = g.to in (
      s,
      same_token t u (kind_one t.kind u.kind q (subst (IsTextOfKind t.kind) s h.of_kind.of_kind) g.of_kind.of_kind)
          (h.from ∙ sym g.from) (omega (arith, x, y, n)) (h.at ∙ sym g.at),
    )

no_empty_text : IsTokenText [] → ⊥
no_empty_text (word h) = elim h [ ]
no_empty_text (whole h) = elim h [ ]
no_empty_text (real h) = real_some h
no_empty_text (sign n h) = let q : false ≡ true = sign_passes [] n h in absurd (cc)

gap_no_token : (k : TokenKind) (p q a b : List ℕ) → IsGap p a → IsTokenOf k q b → p ++ a ≡ q ++ b → ⊥
gap_no_token k p q a b (blank x i h) g e = by_text q refl
  where
    by_text : (q' : List ℕ) → q ≡ q' → ⊥
    by_text [] s = no_empty_text (subst IsTokenText s (text_of_kind k q g.of_kind))
    by_text (y ∷ q') s =
        let f : x ∷ a ≡ y ∷ (q' ++ b) = sym (ap (λ (s : List ℕ). s ++ a) i) ∙ e ∙ ap (λ (s : List ℕ). s ++ b) s in
        blank_form y q' (ap is_blank (sym (cons_head f)) ∙ h) (subst IsTokenText s (text_of_kind k q g.of_kind))
gap_no_token k p q a b (line_comment body i h l) g e =
    g.no_comment (body ++ a, inl (sym e ∙ ap (λ (s : List ℕ). s ++ a) i))
gap_no_token k p q a b (block_comment body i h) g e =
    g.no_comment ((body ++ codes "*/") ++ a, inr (sym e ∙ ap (λ (s : List ℕ). s ++ a) i))

-- Where no piece can stand

pub record IsStuck (rest : List ℕ) : Type 0 where
  pub no_gap : (p a : List ℕ) → rest ≡ p ++ a → IsGap p a → ⊥
  pub no_token : (k : TokenKind) (p a : List ℕ) → rest ≡ p ++ a → IsTokenOf k p a → ⊥

stuck_end : IsStuck []
stuck_end = record {
  no_gap = λ p a e h. no_gap p a e h;
  no_token = λ k p a e h. no_text p a e (text_of_kind k p h.of_kind);
}
  where
    no_cons : (x : ℕ) (p s a : List ℕ) → p ≡ x ∷ s → [] ≡ p ++ a → ⊥
    no_cons x p s a i e = let q : [] ≡ x ∷ (s ++ a) = e ∙ ap (λ (t : List ℕ). t ++ a) i in absurd (cc)

    no_gap : (p a : List ℕ) → [] ≡ p ++ a → IsGap p a → ⊥
    no_gap p a e (blank x i h) = no_cons x p [] a i e
    no_gap p a e (line_comment body i h l) = no_cons 47 p (47 ∷ body) a i e
    no_gap p a e (block_comment body i h) = no_cons 47 p (42 ∷ (body ++ codes "*/")) a i e

    no_text : (p a : List ℕ) → [] ≡ p ++ a → IsTokenText p → ⊥
    no_text [] a e h = no_empty_text h
    no_text (x ∷ p) a e h = absurd (cc)

stuck_nothing : (rest : List ℕ) → BeginsNothing rest → IsStuck rest
stuck_nothing rest n = record {
  no_gap = λ p a e h. no_gap p a e h;
  no_token = λ k p a e h. n.no_token p a e (text_of_kind k p h.of_kind);
}
  where
    no_gap : (p a : List ℕ) → rest ≡ p ++ a → IsGap p a → ⊥
    no_gap p a e (blank x i h) = n.no_blank x a (e ∙ ap (λ (t : List ℕ). t ++ a) i) h
    no_gap p a e (line_comment body i h l) = n.no_comment (body ++ a, inl (e ∙ ap (λ (t : List ℕ). t ++ a) i))
    no_gap p a e (block_comment body i h) =
        n.no_comment ((body ++ codes "*/") ++ a, inr (e ∙ ap (λ (t : List ℕ). t ++ a) i))

stuck_open : (rest : List ℕ) → IsOpenComment rest → IsStuck rest
stuck_open rest o = record {
  no_gap = λ p a e h. no_gap p a e h;
  no_token = λ k p a e h. h.no_comment (o.0, inr (sym e ∙ o.1));
}
  where
    no_gap : (p a : List ℕ) → rest ≡ p ++ a → IsGap p a → ⊥
    no_gap p a e (blank x i h) = let f : x ∷ a ≡ 47 ∷ 42 ∷ o.0 = sym (ap (λ (t : List ℕ). t ++ a) i) ∙ sym e ∙ o.1 in blank_no_slash x 0 h (cons_head f)
    no_gap p a e (line_comment body i h l) =
        let f : 47 ∷ 47 ∷ (body ++ a) ≡ 47 ∷ 42 ∷ o.0 = sym (ap (λ (t : List ℕ). t ++ a) i) ∙ sym e ∙ o.1 in
        let g : 47 ≡ 42 = cons_head (cons_tail f) in absurd (omega (arith, g))
    no_gap p a e (block_comment body i h) =
        let f : 47 ∷ 42 ∷ ((body ++ codes "*/") ++ a) ≡ 47 ∷ 42 ∷ o.0 =
        sym (ap (λ (t : List ℕ). t ++ a) i) ∙ sym e ∙ o.1 in
        o.2 a (body, sym (cons_tail (cons_tail f)) ∙ append_assoc body (codes "*/") a)

digits_no_gap : (p q a b : List ℕ) → IsGap p a → IsDigits q → p ++ a ≡ q ++ b → ⊥
digits_no_gap p [] a b g d e = elim d [ ]
digits_no_gap p (y ∷ q) a b (blank x i h) d e =
    let f : x ∷ a ≡ y ∷ (q ++ b) = sym (ap (λ (t : List ℕ). t ++ a) i) ∙ e in
    let r : true ≡ false = sym d.0 ∙ ap is_ascii_digit (sym (cons_head f)) ∙ blank_digit x h in absurd (cc)
digits_no_gap p (y ∷ q) a b (line_comment body i h l) d e =
    let f : 47 ∷ 47 ∷ (body ++ a) ≡ y ∷ (q ++ b) = sym (ap (λ (t : List ℕ). t ++ a) i) ∙ e in
    let r : true ≡ false = sym d.0 ∙ ap is_ascii_digit (sym (cons_head f)) in absurd (cc)
digits_no_gap p (y ∷ q) a b (block_comment body i h) d e =
    let f : 47 ∷ 42 ∷ ((body ++ codes "*/") ++ a) ≡ y ∷ (q ++ b) = sym (ap (λ (t : List ℕ). t ++ a) i) ∙ e in
    let r : true ≡ false = sym d.0 ∙ ap is_ascii_digit (sym (cons_head f)) in absurd (cc)

-- digits of a number that is too large are of no kind
large_no_kind : (k : TokenKind) (p : List ℕ) → IsDigits p → 2 ^ 63 ≤ number_of p → IsTextOfKind k p → ⊥
large_no_kind Name p d l h = word_no_digits p h.0 d
large_no_kind (Whole n) p d l h = let f = h.1 in omega (arith, f, l)
large_no_kind Real p d l h = digits_no_real p d h
large_no_kind (Sign n) p d l h = digits_no_sign p n d h
large_no_kind (Reserved n) p d l h = word_no_digits p h.0 d
large_no_kind End p d l h = elim h [ ]

stuck_large : (rest : List ℕ) → IsTooLarge rest → IsStuck rest
stuck_large rest t = record {
  no_gap = λ p a e h. digits_no_gap p t.0 a t.1 h t.3 (sym e ∙ t.2);
  no_token = λ k p a e h.
      let m = h.longest t.0 t.1 (sym e ∙ t.2) (whole t.3) in
      let n = t.4 p a (sym t.2 ∙ e) (text_of_kind k p h.of_kind) in
      let s : p ≡ t.0 = same_front p t.0 a t.1 (sym e ∙ t.2) (omega (arith, m, n)) in
      large_no_kind k t.0 t.3 t.5 (subst (IsTextOfKind k) s h.of_kind);
}

stuck_fault : (before rest : List ℕ) (f : LexFault) → IsFault before rest f → IsStuck rest
stuck_fault before rest (Byte at) h = stuck_nothing rest h.0
stuck_fault before rest (OpenComment at) h = stuck_open rest h.0
stuck_fault before rest (Number at) h = stuck_large rest h.0
stuck_fault before rest Memory h = elim h [ ]

-- One way to cut

pub record SameCut (ps qs : List (List ℕ)) (a b : List ℕ) (ts us : List Token) : Type 0 where
  pub pieces : ps ≡ qs
  pub rests : a ≡ b
  pub found : ts ≡ us

pub cut_one : (before : List ℕ) (ps qs : List (List ℕ)) (a b : List ℕ) (ts us : List Token) → AreCut before ps a ts
    → AreCut before qs b us → joined_pieces ps a ≡ joined_pieces qs b → IsStuck a → IsStuck b → SameCut ps qs a b ts us
cut_one before [] [] a b ts us h g e s t = record { pieces = refl; rests = e; found = h ∙ sym g }
cut_one before [] (q ∷ qs) a b ts us h (inl g) e s t = absurd (s.no_gap q (joined_pieces qs b) e g.0)
cut_one before [] (q ∷ qs) a b ts us h (inr g) e s t = absurd (s.no_token g.0.kind q (joined_pieces qs b) e g.3.of_kind)
cut_one before (p ∷ ps) [] a b ts us (inl h) g e s t = absurd (t.no_gap p (joined_pieces ps a) (sym e) h.0)
cut_one before (p ∷ ps) [] a b ts us (inr h) g e s t = absurd
    (t.no_token h.0.kind p (joined_pieces ps a) (sym e) h.3.of_kind)
cut_one before (p ∷ ps) (q ∷ qs) a b ts us (inl h) (inl g) e s t =
    let same = gap_one p q (joined_pieces ps a) (joined_pieces qs b) h.0 g.0 e in
    let more = cut_one (before ++ q) ps qs a b ts us (subst (λ (r : List ℕ). AreCut (before ++ r) ps a ts) same h.1) g.1
    (same_back p q (joined_pieces ps a) (joined_pieces qs b) e same) s t in
    record {
      pieces = ap (λ (r : List ℕ). r ∷ ps) same ∙ ap (λ (rs : List (List ℕ)). q ∷ rs) more.pieces;
      rests = more.rests;
      found = more.found;
    }
cut_one before (p ∷ ps) (q ∷ qs) a b ts us (inl h) (inr g) e s t =
    absurd (gap_no_token g.0.kind p q (joined_pieces ps a) (joined_pieces qs b) h.0 g.3.of_kind e)
cut_one before (p ∷ ps) (q ∷ qs) a b ts us (inr h) (inl g) e s t =
    absurd (gap_no_token h.0.kind q p (joined_pieces qs b) (joined_pieces ps a) g.0 h.3.of_kind (sym e))
cut_one before (p ∷ ps) (q ∷ qs) a b ts us (inr h) (inr g) e s t =
    let same = token_one before p q (joined_pieces ps a) (joined_pieces qs b) h.0 g.0 h.3 g.3 e in
    let more = cut_one (before ++ q) ps qs a b h.1 g.1
    (subst (λ (r : List ℕ). AreCut (before ++ r) ps a h.1) same.0 h.4) g.4
    (same_back p q (joined_pieces ps a) (joined_pieces qs b) e same.0) s t in
    record {
      pieces = ap (λ (r : List ℕ). r ∷ ps) same.0 ∙ ap (λ (rs : List (List ℕ)). q ∷ rs) more.pieces;
      rests = more.rests;
      found = h.2 ∙ ap (λ (x : Token). x ∷ h.1) same.1 ∙ ap (λ (xs : List Token). g.0 ∷ xs) more.found ∙ sym g.2;
    }

-- The laws

-- a text has at most one list of tokens
pub tokens_one : (text : List ℕ) (ts us : List Token) → AreTokens text ts → AreTokens text us → ts ≡ us
tokens_one text ts us h g =
    let same = cut_one [] h.pieces g.pieces [] [] h.found g.found h.cut g.cut (sym h.whole ∙ g.whole) stuck_end
    stuck_end in
    h.all ∙ ap (λ (xs : List Token). xs ++ end_of_text text ∷ []) same.found ∙ sym g.all

-- a text that has tokens has no fault
pub tokens_no_fault : (text : List ℕ) (ts : List Token) (f : LexFault) → AreTokens text ts → IsFirstFault text f → ⊥
tokens_no_fault text ts f h g =
    let same = cut_one [] h.pieces g.pieces [] g.rest h.found g.found h.cut g.cut (sym h.whole ∙ g.whole) stuck_end
    (stuck_fault (joined_pieces g.pieces []) g.rest f g.fault_there) in
    no_fault f (subst (λ (r : List ℕ). IsFault (joined_pieces g.pieces []) r f) (sym same.rests) g.fault_there)
  where
    no_fault : (f : LexFault) → IsFault (joined_pieces g.pieces []) [] f → ⊥
    no_fault (Byte at) q = let s = q.0.some in omega (arith, s)
    no_fault (OpenComment at) q = let e : [] ≡ 47 ∷ 42 ∷ q.0.0 = q.0.1 in absurd (cc)
    no_fault (Number at) q = digits_there q.0.0 q.0.1 q.0.2 q.0.3
      where
        digits_there : (d a : List ℕ) → [] ≡ d ++ a → IsDigits d → ⊥
        digits_there [] a e h = elim h [ ]
        digits_there (x ∷ d) a e h = absurd (cc)
    no_fault Memory q = elim q [ ]

open_no_large : (rest : List ℕ) → IsOpenComment rest → IsTooLarge rest → ⊥
open_no_large rest o t = by_digits t.0 t.1 t.2 t.3
  where
    by_digits : (d a : List ℕ) → rest ≡ d ++ a → IsDigits d → ⊥
    by_digits [] a e h = elim h [ ]
    by_digits (x ∷ d) a e h =
        let f : x ∷ (d ++ a) ≡ 47 ∷ 42 ∷ o.0 = sym e ∙ o.1 in
        let r : true ≡ false = sym h.0 ∙ ap is_ascii_digit (cons_head f) in absurd (cc)

fault_at_one : (before rest : List ℕ) (f g : LexFault) → IsFault before rest f → IsFault before rest g → f ≡ g
fault_at_one before rest (Byte at) (Byte at') h k = ap Byte (h.1 ∙ sym k.1)
fault_at_one before rest (Byte at) (OpenComment at') h k = absurd (h.0.no_comment (k.0.0, inr k.0.1))
fault_at_one before rest (Byte at) (Number at') h k = absurd (h.0.no_token k.0.0 k.0.1 k.0.2 (whole k.0.3))
fault_at_one before rest (Byte at) Memory h k = elim k [ ]
fault_at_one before rest (OpenComment at) (Byte at') h k = absurd (k.0.no_comment (h.0.0, inr h.0.1))
fault_at_one before rest (OpenComment at) (OpenComment at') h k = ap OpenComment (h.1 ∙ sym k.1)
fault_at_one before rest (OpenComment at) (Number at') h k = absurd (open_no_large rest h.0 k.0)
fault_at_one before rest (OpenComment at) Memory h k = elim k [ ]
fault_at_one before rest (Number at) (Byte at') h k = absurd (k.0.no_token h.0.0 h.0.1 h.0.2 (whole h.0.3))
fault_at_one before rest (Number at) (OpenComment at') h k = absurd (open_no_large rest k.0 h.0)
fault_at_one before rest (Number at) (Number at') h k = ap Number (h.1 ∙ sym k.1)
fault_at_one before rest (Number at) Memory h k = elim k [ ]
fault_at_one before rest Memory g h k = elim h [ ]

-- a text has at most one first fault
pub fault_one : (text : List ℕ) (f g : LexFault) → IsFirstFault text f → IsFirstFault text g → f ≡ g
fault_one text f g h k =
    let same = cut_one [] h.pieces k.pieces h.rest k.rest h.found k.found h.cut k.cut (sym h.whole ∙ k.whole)
    (stuck_fault (joined_pieces h.pieces []) h.rest f h.fault_there)
    (stuck_fault (joined_pieces k.pieces []) k.rest g k.fault_there) in
    fault_at_one (joined_pieces k.pieces []) k.rest f g
    (subst (λ (r : List ℕ). IsFault (joined_pieces k.pieces []) r f) same.rests
    (subst (λ (ps : List (List ℕ)). IsFault (joined_pieces ps []) h.rest f) same.pieces h.fault_there))
    k.fault_there

-- what a call answers, by what it found

pub answers_only : (text : List ℕ) (r : Result (Vec Token Global) LexFault) → IfOk r (λ v. AreTokens text v.items)
    → IfErr r (λ f. f ≢ Memory → IsFirstFault text f) → (ts : List Token) → AreTokens text ts
    → MatchResult r (λ v. v.items ≡ ts) (λ f. f ≡ Memory)
answers_only text (Ok v) found refused ts h = tokens_one text v.items ts found h
answers_only text (Err Memory) found refused ts h = refl
answers_only text (Err (Byte at)) found refused ts h =
    absurd (tokens_no_fault text ts (Byte at) h (refused (λ e. absurd (cc))))
answers_only text (Err (OpenComment at)) found refused ts h =
    absurd (tokens_no_fault text ts (OpenComment at) h (refused (λ e. absurd (cc))))
answers_only text (Err (Number at)) found refused ts h =
    absurd (tokens_no_fault text ts (Number at) h (refused (λ e. absurd (cc))))

pub answers_first : (text : List ℕ) (r : Result (Vec Token Global) LexFault) → IfOk r (λ v. AreTokens text v.items)
    → IfErr r (λ f. f ≢ Memory → IsFirstFault text f) → (fault : LexFault) → IsFirstFault text fault
    → IsErrAnd r (λ e. e ≢ Memory → e ≡ fault)
answers_first text (Ok v) found refused fault h = absurd (tokens_no_fault text v.items fault found h)
answers_first text (Err f) found refused fault h = λ other. fault_one text f fault (refused other) h
