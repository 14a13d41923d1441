-- Comments, signs, words and numbers at the front of a text.
use Rattle.std.proofs.Common.{◌≡◌, ◌≢◌, ℕ, zero, suc, ◌+◌, ◌-◌, ◌<◌, ◌≤◌, ◌^◌, inl, inr, Bool, true, false, not, cond, Some, None, List, [], ◌∷◌, ◌++◌, length, take, drop, get_or, refl, sym, ap, ◌∙◌, subst, append_assoc, arith}
use Rattle.std.specs.Prelude.{codes, ℤ, pos}
use Rattle.std.specs.Char.{is_ascii_digit}
use Rattle.std.specs.List.{prefix_len}
use Rattle.std.proofs.lemmas.List.{length-append, length-drop, take-append-drop, take_more, get_or_at, get_or-take, get_or-append-add, length-take-le}
use Rattle.std.proofs.lemmas.List.Sums.{prefix_len-le-length}
use Rattle.ar_base.proofs.Fronts.{HeadFails, run_stops}
use Rattle.ar_lexer.specs.declared.token.TokenKind.{TokenKind}
use Rattle.ar_lexer.specs.declared.token.TokenKind.TheVariants.{Whole, Sign}
use Rattle.ar_lexer.specs.declared.piece.Piece.TheVariants.{Gap, Text}
use Rattle.ar_lexer.specs.Spelling.{signs, place_in, AllPass, is_letter, is_word_byte, IsWord, IsDigits, IsReal, IsTail, number_of, IsTextOfKind, IsTokenText}
use Rattle.ar_lexer.specs.Tokens.{is_blank, is_line_feed, blank, line_comment, block_comment, IsLineEnd, Closes, BeginsComment, IsTooLarge, BeginsNothing}
use Rattle.ar_lexer.specs.Scans.{ClosesFirst, HeadPasses, IsLongestFront, IsPieceAt, IsSignFront, IsSignOfLen}
use Rattle.ar_lexer.proofs.RunLemmas.{letter_of_word, run_passes}
use Rattle.ar_lexer.proofs.NumberLemmas.{cons_head, digits_run, take_sum}
use Rattle.ar_lexer.proofs.FormLemmas.{sign_short, word_fronts, number_fronts, sign_fronts, token_front, comment_head}

-- The end of a comment

abbrev pub NotClosedBefore : List ℕ → ℕ → Type 0
NotClosedBefore bytes n = (k : ℕ) → k < n → get_or bytes k 0 ≡ 42 → get_or bytes (k + 1) 0 ≡ 47 → ⊥

-- where a `*/` stands
closes_there : (text front back : List ℕ) → text ≡ front ++ (codes "*/" ++ back)
    → (get_or text (length front) 0 ≡ 42)
    × ((get_or text (length front + 1) 0 ≡ 47) × (length text ≡ length front + 2 + length back))
closes_there text front back e = (
  ap (λ (s : List ℕ). get_or s (length front) 0) e ∙ get_or_at front 42 (47 ∷ back) 0 (length front) refl,
  (
    ap (λ (s : List ℕ). get_or s (length front + 1) 0) e ∙ get_or-append-add front (42 ∷ 47 ∷ back) 1 0,
    (let n : length text ≡ length front + suc (suc (length back)) = ap length e ∙ length-append front (42 ∷ 47 ∷ back) in omega (arith, n)),
  ),
)

pub not_closed : (bytes : List ℕ) (n : ℕ) → length bytes ≤ n + 1 → NotClosedBefore bytes n → (back : List ℕ)
    → Closes bytes back → ⊥
not_closed bytes n over none back (front, e) =
    let t = closes_there bytes front back e in
    let l = t.1.1 in
    none (length front) (omega (arith, l, over)) t.0 t.1.0

two_more : (bytes : List ℕ) (n : ℕ) → n + 1 < length bytes → get_or bytes n 0 ≡ 42 → get_or bytes (n + 1) 0 ≡ 47
    → take (n + 2) bytes ≡ take n bytes ++ codes "*/"
two_more bytes n within a b =
    let p : n + 2 ≡ n + 1 + 1 = omega arith in
    let q : take (n + 1) bytes ≡ take n bytes ++ 42 ∷ [] =
    take_more bytes n 0 (omega (arith, within)) ∙ ap (λ (x : ℕ). take n bytes ++ x ∷ []) a in
    ap (λ (k : ℕ). take k bytes) p ∙ take_more bytes (n + 1) 0 within ∙ ap (λ (x : ℕ). take (n + 1) bytes ++ x ∷ []) b
    ∙ ap (λ (s : List ℕ). s ++ 47 ∷ []) q ∙ append_assoc (take n bytes) (42 ∷ []) (47 ∷ [])

first_close : (bytes : List ℕ) (n : ℕ) → n + 2 ≤ length bytes → NotClosedBefore bytes n → (back : List ℕ)
    → Closes (take (n + 2) bytes) back → back ≡ []
first_close bytes n within none [] h = refl
first_close bytes n within none (x ∷ back) (front, e) =
    let t = closes_there (take (n + 2) bytes) front (x ∷ back) e in
    let l : length (take (n + 2) bytes) ≡ length front + 2 + suc (length back) = t.1.1 in
    let k : length (take (n + 2) bytes) ≡ n + 2 = length-take-le (n + 2) bytes within in
    let before : length front < n = omega (arith, l, k) in
    absurd (none (length front) before
    (sym (get_or-take (n + 2) bytes (length front) 0 (omega (arith, before))) ∙ t.0)
    (sym (get_or-take (n + 2) bytes (length front + 1) 0 (omega (arith, before))) ∙ t.1.0))

pub closes_first : (bytes : List ℕ) (n : ℕ) → n + 1 < length bytes → get_or bytes n 0 ≡ 42 → get_or bytes (n + 1) 0 ≡ 47
    → NotClosedBefore bytes n → ClosesFirst bytes n
closes_first bytes n within a b none = record {
  within = omega (arith, within);
  closed = (take n bytes, two_more bytes n within a b);
  first = first_close bytes n (omega (arith, within)) none;
}

-- Comments

pub two_bytes : (rest : List ℕ) (a b : ℕ) → 2 ≤ length rest → get_or rest 0 0 ≡ a → get_or rest 1 0 ≡ b
    → rest ≡ a ∷ b ∷ drop 2 rest
two_bytes [] a b l p q = absurd (omega (arith, l))
two_bytes (x ∷ []) a b l p q = absurd (omega (arith, l))
two_bytes (x ∷ y ∷ rest) a b l p q = ap (λ (z : ℕ). z ∷ y ∷ rest) p ∙ ap (λ (z : ℕ). a ∷ z ∷ rest) q

line_end : (after : List ℕ) → HeadFails (λ b. not (is_line_feed b)) after → IsLineEnd after
line_end [] h = tt
line_end (b ∷ after) h = turned (is_line_feed b) h
  where
    turned : (r : Bool) → not r ≡ false → r ≡ true
    turned true h = refl
    turned false h = absurd (cc)

take_two : (a b n : ℕ) (body : List ℕ) → take (2 + n) (a ∷ b ∷ body) ≡ a ∷ b ∷ take n body
take_two a b n body = let q : 2 + n ≡ suc (suc n) = omega arith in ap (λ (k : ℕ). take k (a ∷ b ∷ body)) q

drop_two : (a b n : ℕ) (body : List ℕ) → drop (2 + n) (a ∷ b ∷ body) ≡ drop n body
drop_two a b n body = let q : 2 + n ≡ suc (suc n) = omega arith in ap (λ (k : ℕ). drop k (a ∷ b ∷ body)) q

pub line_gap : (rest body : List ℕ) (n : ℕ) → rest ≡ 47 ∷ 47 ∷ body → n ≡ prefix_len (λ b. not (is_line_feed b)) body
    → IsPieceAt rest (Gap (2 + n))
line_gap rest body n e len =
    let w = prefix_len-le-length (λ b. not (is_line_feed b)) body in
    let k : length rest ≡ suc (suc (length body)) = ap length e in (
      omega (arith, w, k, len),
      omega arith,
      line_comment (take n body)
          (ap (take (2 + n)) e ∙ take_two 47 47 n body)
          (subst (λ (m : ℕ). AllPass (λ b. not (is_line_feed b)) (take m body)) (sym len)
          (run_passes (λ b. not (is_line_feed b)) body))
          (subst IsLineEnd (sym (ap (drop (2 + n)) e ∙ drop_two 47 47 n body ∙ ap (λ (m : ℕ). drop m body) len))
          (line_end _ (run_stops (λ b. not (is_line_feed b)) body))),
    )

pub block_gap : (rest body : List ℕ) (n : ℕ) → rest ≡ 47 ∷ 42 ∷ body → ClosesFirst body n → IsPieceAt rest (Gap (n + 4))
block_gap rest body n e first =
    let w = first.within in
    let k : length rest ≡ suc (suc (length body)) = ap length e in
    let q : n + 4 ≡ 2 + (n + 2) = omega arith in (
      omega (arith, w, k),
      omega arith,
      block_comment first.closed.0
          (ap (λ (m : ℕ). take m rest) q ∙ ap (take (2 + (n + 2))) e ∙ take_two 47 42 (n + 2) body
          ∙ ap (λ (s : List ℕ). 47 ∷ 42 ∷ s) first.closed.1)
          (subst (λ (s : List ℕ). (back : List ℕ) → Closes s back → back ≡ []) first.closed.1 first.first),
    )

pub no_comment_short : (rest : List ℕ) → length rest < 2 → BeginsComment rest → ⊥
no_comment_short rest short (more, inl e) = let k : length rest ≡ suc (suc (length more)) = ap length e in omega (arith, k, short)
no_comment_short rest short (more, inr e) = let k : length rest ≡ suc (suc (length more)) = ap length e in omega (arith, k, short)

pub no_comment_first : (rest : List ℕ) → get_or rest 0 0 ≢ 47 → BeginsComment rest → ⊥
no_comment_first rest none (more, inl e) = none (ap (λ (s : List ℕ). get_or s 0 0) e)
no_comment_first rest none (more, inr e) = none (ap (λ (s : List ℕ). get_or s 0 0) e)

pub no_comment_second : (rest : List ℕ) → get_or rest 1 0 ≢ 47 → get_or rest 1 0 ≢ 42 → BeginsComment rest → ⊥
no_comment_second rest none nor (more, inl e) = none (ap (λ (s : List ℕ). get_or s 1 0) e)
no_comment_second rest none nor (more, inr e) = nor (ap (λ (s : List ℕ). get_or s 1 0) e)

-- Signs

pub sign_one : (rest : List ℕ) (p : ℕ) → IsSignOfLen rest 3 None → IsSignOfLen rest 2 None → IsSignOfLen rest 1 (Some p)
    → IsSignFront rest p 1
sign_one rest p no_three no_two one = record {
  within = one.0;
  is = one.1;
  none_longer = λ front back q e h.
      let s = sign_short front q h in
      let a = s.0 in let b = s.1 in
      by_len front back q e h (length front) refl a b;
}
  where
    by_len : (front back : List ℕ) (q : ℕ) → rest ≡ front ++ back → place_in signs front ≡ Some q → (n : ℕ)
        → length front ≡ n → 1 ≤ n → n ≤ 3 → n ≤ 1
    by_len front back q e h zero k a b = omega arith
    by_len front back q e h (suc zero) k a b = omega arith
    by_len front back q e h (suc (suc zero)) k a b = absurd (no_two front back q e k h)
    by_len front back q e h (suc (suc (suc zero))) k a b = absurd (no_three front back q e k h)
    by_len front back q e h (suc (suc (suc (suc n)))) k a b = absurd (omega (arith, b))

-- Heads

pub head_passes : (test : ℕ → Bool) (rest : List ℕ) → 0 < length rest → test (get_or rest 0 0) ≡ true
    → HeadPasses test rest
head_passes test [] some h = absurd (omega (arith, some))
head_passes test (b ∷ rest) some h = h

-- Words

run_some : (test : ℕ → Bool) (b : ℕ) (rest : List ℕ) → test b ≡ true
    → prefix_len test (b ∷ rest) ≡ 1 + prefix_len test rest
run_some test b rest h = ap (λ r. cond r (1 + prefix_len test rest) 0) h

word_taken : (b : ℕ) (rest : List ℕ) → is_letter b ≡ true
    → IsWord (take (prefix_len is_word_byte (b ∷ rest)) (b ∷ rest))
word_taken b rest h =
    let q : prefix_len is_word_byte (b ∷ rest) ≡ suc (prefix_len is_word_byte rest) =
    run_some is_word_byte b rest (letter_of_word b h) ∙ omega arith in
    subst (λ (n : ℕ). IsWord (take n (b ∷ rest))) (sym q) (h, run_passes is_word_byte rest)

letter_no_slash : (b : ℕ) → is_letter b ≡ true → b ≡ 47 → ⊥
letter_no_slash b l e = let q : false ≡ true = sym (ap is_letter e) ∙ l in absurd (cc)

digit_no_slash : (b : ℕ) → is_ascii_digit b ≡ true → b ≡ 47 → ⊥
digit_no_slash b l e = let q : false ≡ true = sym (ap is_ascii_digit e) ∙ l in absurd (cc)

-- a word at the front, of a kind that words have
pub word_piece : (kind : TokenKind) (rest : List ℕ) (n : ℕ) → HeadPasses is_letter rest
    → n ≡ prefix_len is_word_byte rest → (IsWord (take n rest) → IsTextOfKind kind (take n rest))
    → IsPieceAt rest (Text kind n)
word_piece kind [] n h len of = elim h [ ]
word_piece kind (b ∷ rest) n h len of =
    let w = prefix_len-le-length is_word_byte (b ∷ rest) in
    let s = run_some is_word_byte b rest (letter_of_word b h) in
    let within : n ≤ length (b ∷ rest) = omega (arith, w, len) in (
      within,
      omega (arith, s, len),
      token_front kind (b ∷ rest) n within
          (of (subst (λ (k : ℕ). IsWord (take k (b ∷ rest))) (sym len) (word_taken b rest h)))
          (λ front back e t. let l = word_fronts b rest front back h e t in omega (arith, l, len))
          (λ c. letter_no_slash b h (comment_head b rest c)),
    )

-- Numbers

pub digits_taken : (rest : List ℕ) (n : ℕ) → n ≡ prefix_len is_ascii_digit rest → AllPass is_ascii_digit (take n rest)
digits_taken rest n len = subst (λ (k : ℕ). AllPass is_ascii_digit (take k rest)) (sym len)
    (run_passes is_ascii_digit rest)

number_longest : (b : ℕ) (rest : List ℕ) (d t : ℕ) → is_ascii_digit b ≡ true → d ≡ prefix_len is_ascii_digit (b ∷ rest)
    → IsLongestFront IsTail (drop d (b ∷ rest)) t → (front back : List ℕ) → (b ∷ rest) ≡ front ++ back
    → IsTokenText front → length front ≤ d + t
number_longest b rest d t h len tail front back e w =
    let l = number_fronts b rest front back t h
    (subst (λ (k : ℕ). IsLongestFront IsTail (drop k (b ∷ rest)) t) len tail) e w in
    omega (arith, l, len)

-- a number at the front
pub number_piece : (kind : TokenKind) (rest : List ℕ) (d t : ℕ) → HeadPasses is_ascii_digit rest
    → d ≡ prefix_len is_ascii_digit rest → IsLongestFront IsTail (drop d rest) t → IsTextOfKind kind (take (d + t) rest)
    → IsPieceAt rest (Text kind (d + t))
number_piece kind [] d t h len tail of = elim h [ ]
number_piece kind (b ∷ rest) d t h len tail of =
    let w = prefix_len-le-length is_ascii_digit (b ∷ rest) in
    let s = run_some is_ascii_digit b rest h in
    let v = tail.within in
    let k : length (drop d (b ∷ rest)) ≡ suc (length rest) - d = length-drop d (b ∷ rest) in
    let within : d + t ≤ suc (length rest) = omega (arith, w, len, v, k) in (
      within,
      omega (arith, s, len),
      token_front kind (b ∷ rest) (d + t) within of (number_longest b rest d t h len tail)
          (λ c. digit_no_slash b h (comment_head b rest c)),
    )

digits_there : (b : ℕ) (rest : List ℕ) (d : ℕ) → is_ascii_digit b ≡ true → d ≡ prefix_len is_ascii_digit (b ∷ rest)
    → IsDigits (take d (b ∷ rest))
digits_there b rest d h len =
    let s = run_some is_ascii_digit b rest h in
    subst (λ (k : ℕ). IsDigits (take k (b ∷ rest))) (sym len) (digits_run (b ∷ rest) (λ z. let q : 1 + prefix_len is_ascii_digit rest ≡ 0 = sym s ∙ z in absurd (omega (arith, q))))

pub digits_front : (rest : List ℕ) (d : ℕ) → HeadPasses is_ascii_digit rest → d ≡ prefix_len is_ascii_digit rest
    → IsDigits (take d rest)
digits_front [] d h len = elim h [ ]
digits_front (b ∷ rest) d h len = digits_there b rest d h len

pub real_front : (rest : List ℕ) (d t : ℕ) → HeadPasses is_ascii_digit rest → d ≡ prefix_len is_ascii_digit rest
    → IsLongestFront IsTail (drop d rest) t → 0 < t → IsReal (take (d + t) rest)
real_front rest d t h len tail some =
    (take d rest, take t (drop d rest), take_sum d t rest, digits_front rest d h len, tail.is some)

pub too_large : (rest : List ℕ) (d t : ℕ) → HeadPasses is_ascii_digit rest → d ≡ prefix_len is_ascii_digit rest
    → IsLongestFront IsTail (drop d rest) t → t ≤ 0 → 2 ^ 63 ≤ number_of (take d rest) → IsTooLarge rest
too_large [] d t h len tail none large = elim h [ ]
too_large (b ∷ rest) d t h len tail none large =
    let w = prefix_len-le-length is_ascii_digit (b ∷ rest) in
    let within : d ≤ length (b ∷ rest) = omega (arith, w, len) in (
      take d (b ∷ rest),
      drop d (b ∷ rest),
      sym (take-append-drop d (b ∷ rest)),
      digits_there b rest d h len,
      (λ front back e f.
          let l = number_longest b rest d t h len tail front back (sym (take-append-drop d (b ∷ rest)) ∙ e) f in
          let k : length (take d (b ∷ rest)) ≡ d = length-take-le d (b ∷ rest) within in
          omega (arith, l, k, none)),
      large,
    )

-- The rest

pub blank_piece : (rest : List ℕ) → 0 < length rest → is_blank (get_or rest 0 0) ≡ true → IsPieceAt rest (Gap 1)
blank_piece [] some h = absurd (omega (arith, some))
blank_piece (b ∷ rest) some h = (omega arith, omega arith, blank b refl h)

pub sign_piece : (rest : List ℕ) (p n : ℕ) → 0 < length rest → is_letter (get_or rest 0 0) ≡ false
    → is_ascii_digit (get_or rest 0 0) ≡ false → (BeginsComment rest → ⊥) → 1 ≤ n → IsSignFront rest p n
    → IsPieceAt rest (Text (Sign p) n)
sign_piece [] p n some l d none one s = absurd (omega (arith, some))
sign_piece (b ∷ rest) p n some l d none one s = (
  s.within,
  one,
  token_front (Sign p) (b ∷ rest) n s.within s.is
      (λ front back e h. let f = sign_fronts b rest front back l d e h in s.none_longer front back f.0 e f.1) none,
)

pub nothing_piece : (rest : List ℕ) → 0 < length rest → is_blank (get_or rest 0 0) ≡ false
    → is_letter (get_or rest 0 0) ≡ false → is_ascii_digit (get_or rest 0 0) ≡ false → (BeginsComment rest → ⊥)
    → ((front back : List ℕ) (p : ℕ) → rest ≡ front ++ back → place_in signs front ≡ Some p → ⊥) → BeginsNothing rest
nothing_piece [] some k l d none no_sign = absurd (omega (arith, some))
nothing_piece (b ∷ rest) some k l d none no_sign = record {
  some = some;
  no_blank = λ c more e h. let q : true ≡ false = sym h ∙ ap is_blank (sym (cons_head e)) ∙ k in absurd (cc);
  no_comment = none;
  no_token = λ front back e h. let f = sign_fronts b rest front back l d e h in no_sign front back f.0 e f.1;
}

-- a whole number at the front
pub whole_piece : (rest : List ℕ) (d t : ℕ) (m n : ℤ) → m ≡ n → HeadPasses is_ascii_digit rest
    → d ≡ prefix_len is_ascii_digit rest → IsLongestFront IsTail (drop d rest) t → t ≤ 0
    → n ≡ pos (number_of (take d rest)) → number_of (take d rest) < 2 ^ 63 → IsPieceAt rest (Text (Whole m) d)
whole_piece rest d t m n same h len tail none value fits =
    let z : d + t ≡ d = omega (arith, none) in
    let of : IsTextOfKind (Whole m) (take d rest) = (digits_front rest d h len, fits, same ∙ value) in
    subst (λ (k : ℕ). IsPieceAt rest (Text (Whole m) k)) z
    (number_piece (Whole m) rest d t h len tail (subst (λ (k : ℕ). IsTextOfKind (Whole m) (take k rest)) (sym z) of))
