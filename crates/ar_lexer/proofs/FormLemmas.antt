-- What the first byte of a token's text says of its kind.
use Rattle.std.proofs.lemmas.Bool.{and_parts}
use Rattle.std.proofs.Common.{◌≡◌, ℕ, ◌+◌, ◌≤◌, ◌⊎◌, inl, inr, Bool, true, false, not, ◌&&◌, ◌||◌, Some, List, [], ◌∷◌, ◌++◌, length, take, drop, get_or, refl, sym, ap, ◌∙◌, subst, append_assoc, arith}
use Rattle.std.specs.Prelude.{nat_le}
use Rattle.std.specs.Char.{is_ascii_digit}
use Rattle.std.specs.List.{prefix_len}
use Rattle.std.specs.Str.{bytes_eq}
use Rattle.std.proofs.lemmas.List.{length-append, take-append-drop, drop_at, length-take-le}
use Rattle.std.proofs.lemmas.Bool.{leb-true}
use Rattle.std.proofs.lemmas.List.Sums.{AllPass-from_list_all}
use Rattle.std.proofs.lemmas.List.Quantifiers.{position-Some}
use Rattle.std.proofs.lemmas.Slice.Eq.{bytes_eq-Decides}
use Rattle.ar_lexer.specs.Spelling.{signs, place_in, is_letter, is_word_byte, IsWord, IsDigits, IsReal, IsTextOfKind, IsTokenText, word, whole, real, sign}
use Rattle.ar_lexer.specs.declared.token.TokenKind.{TokenKind}
use Rattle.ar_lexer.specs.Tokens.{is_blank, BeginsComment, IsTokenOf}
use Rattle.ar_lexer.specs.Scans.{IsLongestFront}
use Rattle.ar_lexer.proofs.RunLemmas.{letter_no_digit, letter_of_word, blank_letter, blank_digit, run_longest, run_exact}
use Rattle.ar_lexer.proofs.NumberLemmas.{cons_head, digits_pass, digits_longest, tail_fails}
use Rattle.ar_lexer.specs.Spelling.{IsTail}

-- Signs

abbrev pub sign_test : List ℕ → Bool
sign_test [] = false
sign_test (b ∷ bs) = not (is_letter b || (is_ascii_digit b || is_blank b)) && nat_le (length bs) 2

pub sign_passes : (text : List ℕ) (n : ℕ) → place_in signs text ≡ Some n → sign_test text ≡ true
sign_passes text n h =
    let p = position-Some (λ entry. bytes_eq entry text) signs n [] h in
    let e : get_or signs n [] ≡ text = (bytes_eq-Decides (get_or signs n []) text).0 p.1 in
    subst (λ (s : List ℕ). sign_test s ≡ true) e (AllPass-from_list_all sign_test signs refl n [] p.0)

none_of : (p q r : Bool) → not (p || (q || r)) ≡ true → (p ≡ false) × ((q ≡ false) × (r ≡ false))
none_of true q r h = absurd (cc)
none_of false true r h = absurd (cc)
none_of false false true h = absurd (cc)
none_of false false false h = (refl, (refl, refl))

sign_len : (text : List ℕ) → sign_test text ≡ true → (1 ≤ length text) × (length text ≤ 3)
sign_len [] h = absurd (cc)
sign_len (b ∷ bs) h = let l = leb-true (length bs) 2 (and_parts _ (nat_le (length bs) 2) h).1 in (omega arith, omega (arith, l))

pub sign_short : (text : List ℕ) (n : ℕ) → place_in signs text ≡ Some n → (1 ≤ length text) × (length text ≤ 3)
sign_short text n h = sign_len text (sign_passes text n h)

pub sign_head : (b : ℕ) (bs : List ℕ) (n : ℕ) → place_in signs (b ∷ bs) ≡ Some n
    → (is_letter b ≡ false) × ((is_ascii_digit b ≡ false) × (is_blank b ≡ false))
sign_head b bs n h = none_of (is_letter b) (is_ascii_digit b) (is_blank b)
    (and_parts (not (is_letter b || (is_ascii_digit b || is_blank b))) _ (sign_passes (b ∷ bs) n h)).0

-- Fronts of a text, by its first byte

front_head : (b : ℕ) (rest front back : List ℕ) → (b ∷ rest) ≡ front ++ back → IsTokenText front
    → (more : List ℕ) × (front ≡ b ∷ more)
front_head b rest [] back e (word h) = elim h [ ]
front_head b rest [] back e (whole h) = elim h [ ]
front_head b rest [] back e (real h) = absurd (no_real h)
  where
    no_digits : (ds tail : List ℕ) → [] ≡ ds ++ tail → IsDigits ds → ⊥
    no_digits [] tail q h = elim h [ ]
    no_digits (d ∷ ds) tail q h = absurd (cc)

    no_real : IsReal [] → ⊥
    no_real h = no_digits h.0 h.1 h.2 h.3
front_head b rest [] back e (sign n h) = let l = (sign_short [] n h).0 in absurd (omega (arith, l))
front_head b rest (c ∷ front) back e h = (front, ap (λ (x : ℕ). x ∷ front) (sym (cons_head e)))

pub digits_head : (b : ℕ) (bs : List ℕ) → IsDigits (b ∷ bs) → is_ascii_digit b ≡ true
digits_head b bs h = h.0

pub real_head : (b : ℕ) (bs : List ℕ) → IsReal (b ∷ bs) → is_ascii_digit b ≡ true
real_head b bs h = by_digits h.0 h.1 h.2 h.3
  where
    by_digits : (ds tail : List ℕ) → (b ∷ bs) ≡ ds ++ tail → IsDigits ds → is_ascii_digit b ≡ true
    by_digits [] tail q h = elim h [ ]
    by_digits (d ∷ ds) tail q h = ap is_ascii_digit (cons_head q) ∙ h.0

-- what begins with a letter is a word
pub word_form : (b : ℕ) (bs : List ℕ) → is_letter b ≡ true → IsTokenText (b ∷ bs) → IsWord (b ∷ bs)
word_form b bs l (word h) = h
word_form b bs l (whole h) = absurd (letter_no_digit b l (digits_head b bs h))
word_form b bs l (real h) = absurd (letter_no_digit b l (real_head b bs h))
word_form b bs l (sign n h) = let q : true ≡ false = sym l ∙ (sign_head b bs n h).0 in absurd (cc)

-- what begins with a digit is a number
pub number_form : (b : ℕ) (bs : List ℕ) → is_ascii_digit b ≡ true → IsTokenText (b ∷ bs)
    → IsDigits (b ∷ bs) ⊎ IsReal (b ∷ bs)
number_form b bs d (word h) = absurd (letter_no_digit b h.0 d)
number_form b bs d (whole h) = inl h
number_form b bs d (real h) = inr h
number_form b bs d (sign n h) = let q : true ≡ false = sym d ∙ (sign_head b bs n h).1.0 in absurd (cc)

-- what begins with neither is a sign
pub sign_form : (b : ℕ) (bs : List ℕ) → is_letter b ≡ false → is_ascii_digit b ≡ false → IsTokenText (b ∷ bs)
    → (n : ℕ) × (place_in signs (b ∷ bs) ≡ Some n)
sign_form b bs l d (word h) = let q : true ≡ false = sym h.0 ∙ l in absurd (cc)
sign_form b bs l d (whole h) = let q : true ≡ false = sym (digits_head b bs h) ∙ d in absurd (cc)
sign_form b bs l d (real h) = let q : true ≡ false = sym (real_head b bs h) ∙ d in absurd (cc)
sign_form b bs l d (sign n h) = (n, h)

-- no token's text begins with a blank
pub blank_form : (b : ℕ) (bs : List ℕ) → is_blank b ≡ true → IsTokenText (b ∷ bs) → ⊥
blank_form b bs k (word h) = let q : true ≡ false = sym h.0 ∙ blank_letter b k in absurd (cc)
blank_form b bs k (whole h) = let q : true ≡ false = sym (digits_head b bs h) ∙ blank_digit b k in absurd (cc)
blank_form b bs k (real h) = let q : true ≡ false = sym (real_head b bs h) ∙ blank_digit b k in absurd (cc)
blank_form b bs k (sign n h) = let q : true ≡ false = sym k ∙ (sign_head b bs n h).1.1 in absurd (cc)

-- What the fronts of a text that are tokens are

pub word_fronts : (b : ℕ) (rest front back : List ℕ) → is_letter b ≡ true → (b ∷ rest) ≡ front ++ back
    → IsTokenText front → length front ≤ prefix_len is_word_byte (b ∷ rest)
word_fronts b rest front back l e h =
    let f = front_head b rest front back e h in
    let w : IsWord (b ∷ f.0) = word_form b f.0 l (subst IsTokenText f.1 h) in
    let q : (b ∷ rest) ≡ (b ∷ f.0) ++ back = e ∙ ap (λ (s : List ℕ). s ++ back) f.1 in
    let n : length front ≡ length (b ∷ f.0) = ap length f.1 in
    let r : length (b ∷ f.0) ≤ prefix_len is_word_byte ((b ∷ f.0) ++ back) =
    run_longest is_word_byte (b ∷ f.0) back (letter_of_word b l, w.1) in
    let k : prefix_len is_word_byte (b ∷ rest) ≡ prefix_len is_word_byte ((b ∷ f.0) ++ back) =
    ap (prefix_len is_word_byte) q in
    omega (arith, n, r, k)

number_front : (rest front back : List ℕ) (t : ℕ) → IsLongestFront IsTail (drop (prefix_len is_ascii_digit rest) rest) t
    → rest ≡ front ++ back → IsDigits front ⊎ IsReal front → length front ≤ prefix_len is_ascii_digit rest + t
number_front rest front back t tail e (inl h) = let l = digits_longest front rest back e h in omega (arith, l)
number_front rest front back t tail e (inr h) =
    let a : rest ≡ h.0 ++ (h.1 ++ back) = e ∙ ap (λ (s : List ℕ). s ++ back) h.2 ∙ append_assoc h.0 h.1 back in
    let d : prefix_len is_ascii_digit rest ≡ length h.0 =
    ap (prefix_len is_ascii_digit) a
    ∙ run_exact is_ascii_digit h.0 (h.1 ++ back) (digits_pass h.0 h.3) (tail_fails h.1 back h.4) in
    let r : drop (prefix_len is_ascii_digit rest) rest ≡ h.1 ++ back =
    ap (drop (prefix_len is_ascii_digit rest)) a
    ∙ drop_at h.0 (h.1 ++ back) (prefix_len is_ascii_digit rest) (sym d) in
    let l = tail.none_longer h.1 back r h.4 in
    let n : length front ≡ length h.0 + length h.1 = ap length h.2 ∙ length-append h.0 h.1 in
    omega (arith, d, l, n)

pub number_fronts : (b : ℕ) (rest front back : List ℕ) (t : ℕ) → is_ascii_digit b ≡ true
    → IsLongestFront IsTail (drop (prefix_len is_ascii_digit (b ∷ rest)) (b ∷ rest)) t → (b ∷ rest) ≡ front ++ back
    → IsTokenText front → length front ≤ prefix_len is_ascii_digit (b ∷ rest) + t
number_fronts b rest front back t d tail e h =
    let f = front_head b rest front back e h in
    number_front (b ∷ rest) front back t tail e
    (subst (λ (s : List ℕ). IsDigits s ⊎ IsReal s) (sym f.1) (number_form b f.0 d (subst IsTokenText f.1 h)))

pub sign_fronts : (b : ℕ) (rest front back : List ℕ) → is_letter b ≡ false → is_ascii_digit b ≡ false
    → (b ∷ rest) ≡ front ++ back → IsTokenText front → (n : ℕ) × (place_in signs front ≡ Some n)
sign_fronts b rest front back l d e h =
    let f = front_head b rest front back e h in
    let s = sign_form b f.0 l d (subst IsTokenText f.1 h) in
    (s.0, subst (λ (s' : List ℕ). place_in signs s' ≡ Some s.0) (sym f.1) s.1)

-- A token of so many bytes at the front
pub token_front : (kind : TokenKind) (rest : List ℕ) (n : ℕ) → n ≤ length rest → IsTextOfKind kind (take n rest)
    → ((front back : List ℕ) → rest ≡ front ++ back → IsTokenText front → length front ≤ n) → (BeginsComment rest → ⊥)
    → IsTokenOf kind (take n rest) (drop n rest)
token_front kind rest n within of longest none = record {
  of_kind = of;
  longest = λ front back e h.
      let l = longest front back (sym (take-append-drop n rest) ∙ e) h in
      let k : length (take n rest) ≡ n = length-take-le n rest within in
      omega (arith, l, k);
  no_comment = λ c. none (subst BeginsComment (take-append-drop n rest) c);
}

-- a comment begins with `/`
pub comment_head : (b : ℕ) (rest : List ℕ) → BeginsComment (b ∷ rest) → b ≡ 47
comment_head b rest (more, inl e) = cons_head e
comment_head b rest (more, inr e) = cons_head e
