-- Where names stand in a text, and that their numbers are the only ones.
use Rattle.std.proofs.Common.{◌≡◌, ◌≢◌, ℕ, zero, suc, ◌+◌, ◌-◌, ◌<◌, ◌≤◌, inl, inr, true, Some, None, List, [], ◌∷◌, ◌++◌, map, length, take, drop, refl, sym, ap, ◌∙◌, subst, append_assoc, arith}
use Rattle.std.specs.Prelude.{◌^◌, reverse, Option}
use Rattle.std.specs.Option.{option_to_list}
use Rattle.std.specs.List.{IsFirstAndRest}
use Rattle.std.specs.Str.{IsAscii, IsUtf8}
use Rattle.std.proofs.lemmas.Str.{IsUtf8-from_ascii}
use Rattle.std.proofs.lemmas.Str.Ascii.{IsAscii-nil, IsAscii-cons}
use Rattle.std.proofs.lemmas.List.{length-append, take_at, append-nil, reverse-append, reverse-reverse}
use Rattle.std.proofs.Math.Seq.{drop-append_seam}
use Rattle.ar_base.specs.declared.places.Place.{Place}
use Rattle.ar_base.specs.Lists.{Stands, AreDifferent}
use Rattle.ar_base.specs.Texts.{Interns, known, added}
use Rattle.ar_base.proofs.Standing.{different_more}
use Rattle.ar_lexer.specs.declared.token.Token.{Token}
use Rattle.ar_lexer.specs.declared.token.TokenKind.{TokenKind}
use Rattle.ar_lexer.specs.declared.token.TokenKind.TheVariants.{Name, Whole, Real, Sign, Reserved, End}
use Rattle.ar_lexer.specs.declared.token.LexFault.{LexFault}
use Rattle.ar_lexer.specs.declared.token.LexFault.TheVariants as lex_fault
use Rattle.ar_lexer.specs.Spelling.{AllPass, is_word_byte, IsWord, IsDigits, IsTextOfKind}
use Rattle.ar_lexer.specs.Tokens.{IsToken, joined_pieces, AreCut, AreTokens, end_of_text, IsFirstFault}
use Rattle.ar_lexer.proofs.RunLemmas.{letter_of_word}
use Rattle.ar_lexer.proofs.Laws.{tokens_one, tokens_no_fault, fault_one}
use Rattle.expression_grammar.specs.declared.lexeme.Lexeme.{Lexeme}
use Rattle.ar_parser.specs.declared.fault.ParseFault.{ParseFault}
use Rattle.ar_parser.specs.declared.fault.ParseFault.TheVariants.{Lex, Memory}
use Rattle.ar_base.specs.Numbers.{NameId}
use Rattle.expression_grammar.specs.Words.{Tokens}
use Rattle.ar_parser.specs.Names.{IsSpelled, AreSpelled, lexeme_of}
use Rattle.ar_parser.specs.Models.{token_of, text_of, IsNumbered, name, other, AreNamesNumbered, AreLexemes, HasFaultAt, IsPlaceOf}
use Rattle.ar_parser.specs.Names.{lexical_fault}

-- The bytes of names

word_byte_ascii : (b : ℕ) → is_word_byte b ≡ true → b < 128
word_byte_ascii b h = grind arith

bytes_ascii : (bs : List ℕ) → AllPass is_word_byte bs → IsAscii bs
bytes_ascii [] h = IsAscii-nil
bytes_ascii (b ∷ bs) h = IsAscii-cons b bs (word_byte_ascii b h.0) (bytes_ascii bs h.1)

word_ascii : (bs : List ℕ) → IsWord bs → IsAscii bs
word_ascii [] h = elim h [ ]
word_ascii (b ∷ bs) h = IsAscii-cons b bs (word_byte_ascii b (letter_of_word b h.0)) (bytes_ascii bs h.1)

piece_text : (bytes before p after : List ℕ) (from to : ℕ) → bytes ≡ before ++ (p ++ after) → from ≡ length before
    → to ≡ length before + length p → take (to - from) (drop from bytes) ≡ p
piece_text bytes before p after from to e f t =
    let n : to - from ≡ length p = omega (arith, f, t) in
    ap (λ (k : ℕ). take k (drop from bytes)) n ∙ ap (λ (k : ℕ). take (length p) (drop k bytes)) f
    ∙ ap (λ (bs : List ℕ). take (length p) (drop (length before) bs)) e
    ∙ ap (take (length p)) (drop-append_seam before (p ++ after)) ∙ take_at p after (length p) refl

name_spelled : (bytes before p after : List ℕ) (t : Token) → bytes ≡ before ++ (p ++ after) → IsToken before p after t
    → t.kind ≡ Name → IsSpelled bytes t
name_spelled bytes before p after t e h k =
    let of_name : IsTextOfKind Name p = subst (λ (kind : TokenKind). IsTextOfKind kind p) k h.of_kind.of_kind in
    let n : length bytes ≡ length before + (length p + length after) =
    ap length e ∙ length-append before (p ++ after)
    ∙ ap (λ (k : ℕ). length before + k) (length-append p after) in
    let f : t.span.from ≡ length before = h.from in
    let o : t.span.to ≡ length before + length p = h.to in
    record {
      ordered = omega (arith, f, o);
      within = omega (arith, o, n);
      utf8 = subst IsUtf8 (sym (piece_text bytes before p after t.span.from t.span.to e f o))
          (IsUtf8-from_ascii p (word_ascii p of_name.0));
    }

cut_spelled : (bytes before : List ℕ) (ps : List (List ℕ)) (rest : List ℕ) (ts : List Token)
    → bytes ≡ before ++ joined_pieces ps rest → AreCut before ps rest ts → AreSpelled bytes ts
cut_spelled bytes before [] rest ts e h = subst (AreSpelled bytes) (sym h) tt
cut_spelled bytes before (p ∷ ps) rest ts e (inl h) =
    cut_spelled bytes (before ++ p) ps rest ts (e ∙ sym (append_assoc before p (joined_pieces ps rest))) h.1
cut_spelled bytes before (p ∷ ps) rest ts e (inr h) =
    subst (AreSpelled bytes) (sym h.2) (
      name_spelled bytes before p (joined_pieces ps rest) h.0 e h.3,
      cut_spelled bytes (before ++ p) ps rest h.1
          (e ∙ sym (append_assoc before p (joined_pieces ps rest))) h.4,
    )

-- How many tokens there are

digits_not_empty : IsDigits [] → ⊥
digits_not_empty h = h

real_not_empty : (digits tail : List ℕ) → [] ≡ digits ++ tail → IsDigits digits → ⊥
real_not_empty [] tail e h = h
real_not_empty (d ∷ digits) tail e h = absurd (cc)

kind_not_empty : (k : TokenKind) → IsTextOfKind k [] → ⊥
kind_not_empty Name h = h.0
kind_not_empty (Whole n) h = h.0
kind_not_empty Real h = real_not_empty h.0 h.1 h.2 h.3
kind_not_empty (Sign n) h = let x : None ≡ Some n = h in absurd (cc)
kind_not_empty (Reserved n) h = h.0
kind_not_empty End h = h

piece_some : (k : TokenKind) (p : List ℕ) → IsTextOfKind k p → 0 < length p
piece_some k [] h = absurd (kind_not_empty k h)
piece_some k (b ∷ p) h = omega arith

cut_count : (before : List ℕ) (ps : List (List ℕ)) (rest : List ℕ) (ts : List Token) → AreCut before ps rest ts
    → length ts ≤ length (joined_pieces ps rest)
cut_count before [] rest ts h = let n : length ts ≡ 0 = ap length h in omega (arith, n)
cut_count before (p ∷ ps) rest ts (inl h) =
    let n : length (p ++ joined_pieces ps rest) ≡ length p + length (joined_pieces ps rest) =
    length-append p (joined_pieces ps rest) in
    let l = cut_count (before ++ p) ps rest ts h.1 in
    omega (arith, n, l)
cut_count before (p ∷ ps) rest ts (inr h) =
    let n : length (p ++ joined_pieces ps rest) ≡ length p + length (joined_pieces ps rest) =
    length-append p (joined_pieces ps rest) in
    let l = cut_count (before ++ p) ps rest h.1 h.4 in
    let m : length ts ≡ suc (length h.1) = ap length h.2 in
    let s = piece_some h.0.kind p h.3.of_kind.of_kind in
    omega (arith, n, l, m, s)

-- The tokens of a text, but for its end

snoc_front : (xs ys : List Token) (x y : Token) → xs ++ x ∷ [] ≡ ys ++ y ∷ [] → (xs ≡ ys) × (x ≡ y)
snoc_front [] [] x y e = (refl, cc)
snoc_front [] (z ∷ []) x y e = absurd (cc)
snoc_front [] (z ∷ w ∷ ys) x y e = absurd (cc)
snoc_front (z ∷ []) [] x y e = absurd (cc)
snoc_front (z ∷ w ∷ xs) [] x y e = absurd (cc)
snoc_front (z ∷ xs) (w ∷ ys) x y e =
    let h : z ≡ w = cc in
    let t : xs ++ x ∷ [] ≡ ys ++ y ∷ [] = cc in
    let r = snoc_front xs ys x y t in
    (ap (λ (s : List Token). z ∷ s) r.0 ∙ ap (λ (q : Token). q ∷ ys) h, r.1)

-- the tokens before the last
pub record AreFront (bytes : List ℕ) (found : List Token) (end : Token) : Type 0 where
  pub spelled : AreSpelled bytes found
  pub count : length found ≤ length bytes
  pub last : end ≡ end_of_text bytes

pub front_of : (bytes : List ℕ) (all found : List Token) (end : Token) → AreTokens bytes all → all ≡ found ++ end ∷ []
    → AreFront bytes found end
front_of bytes all found end h e =
    let same = snoc_front found h.found end (end_of_text bytes) (sym e ∙ h.all) in
    let l = cut_count [] h.pieces [] h.found h.cut in
    let n : length (joined_pieces h.pieces []) ≡ length bytes = sym (ap length h.whole) in
    let m : length found ≡ length h.found = ap length same.0 in
    record {
      spelled = subst (AreSpelled bytes) (sym same.0) (cut_spelled bytes [] h.pieces [] h.found h.whole h.cut);
      count = omega (arith, l, n, m);
      last = same.1;
    }

pub all_some : (bytes : List ℕ) (all : List Token) → AreTokens bytes all → all ≡ [] → ⊥
all_some bytes all h e = no h.found (sym h.all ∙ e)
  where
    no : (xs : List Token) → xs ++ end_of_text bytes ∷ [] ≡ [] → ⊥
    no [] q = absurd (cc)
    no (x ∷ xs) q = absurd (cc)

-- Numbering

pub numbered_push : (bytes : List ℕ) (ls : Tokens) (l : Lexeme) (old mid new : List (List ℕ))
    → AreNamesNumbered bytes old ls mid → IsNumbered bytes mid l new → AreNamesNumbered bytes old (ls ++ l ∷ []) new
numbered_push bytes [] l old mid new h n = (new, subst (λ (t : List (List ℕ)). IsNumbered bytes t l new) h n, refl)
numbered_push bytes (x ∷ ls) l old mid new h n = (h.0, h.1, numbered_push bytes ls l h.0 mid new h.2 n)

pub interned_count : (old new : List (List ℕ)) (t : List ℕ) → Interns old t new → length new ≤ length old + 1
interned_count old new t known_or = by_case new known_or
  where
    by_case : (new : List (List ℕ)) → Interns old t new → length new ≤ length old + 1
    by_case new (known h) = omega arith
    by_case new (added h) = let n = length-append old (t ∷ []) in omega (arith, n)

pub numbered_count : (bytes : List ℕ) (old new : List (List ℕ)) (l : Lexeme) → IsNumbered bytes old l new
    → length new ≤ length old + 1
numbered_count bytes old new l (name k i s) = interned_count old new (text_of bytes l) i
numbered_count bytes old new l (other k e z) = let n : length new ≡ length old = ap length e in omega (arith, n)

map_push : (ls : Tokens) (l : Lexeme) → map token_of (ls ++ l ∷ []) ≡ map token_of ls ++ token_of l ∷ []
map_push [] l = refl
map_push (x ∷ ls) l = ap (λ (ts : List Token). token_of x ∷ ts) (map_push ls l)

-- Of these tokens all but `rest` are numbered.
pub record Numbering (bytes : List ℕ) (start names : List (List ℕ)) (tokens rest : List Token) (ls : Tokens) : Type
    0 where
  pub done : map token_of ls ++ rest ≡ tokens
  pub numbers : AreNamesNumbered bytes start ls names
  pub spelled : AreSpelled bytes rest
  pub room : length names + length rest < 2 ^ 32

pub numbering_start : (bytes : List ℕ) (names : List (List ℕ)) (tokens : List Token) (ls : Tokens) → ls ≡ []
    → AreSpelled bytes tokens → length names + length tokens < 2 ^ 32 → Numbering bytes names names tokens tokens ls
numbering_start bytes names tokens ls e s r = record {
  done = ap (λ (xs : Tokens). map token_of xs ++ tokens) e;
  numbers = subst (λ (xs : Tokens). AreNamesNumbered bytes names xs names) (sym e) refl;
  spelled = s;
  room = r;
}

pub numbering_next : (bytes : List ℕ) (start names names' : List (List ℕ)) (tokens rest more : List Token)
    (ls ls' : Tokens) (t : Token) (id : NameId) → Numbering bytes start names tokens rest ls →
    IsFirstAndRest rest t more → IsNumbered bytes names (lexeme_of t id) names' → ls' ≡ ls ++ lexeme_of t id ∷ []
    → Numbering bytes start names' tokens more ls'
numbering_next bytes start names names' tokens rest more ls ls' t id n e h p =
    let c = numbered_count bytes names names' (lexeme_of t id) h in
    let l : length more + 1 ≡ length rest = e.1 in
    let r : length names + length rest < 2 ^ 32 = n.room in
    record {
      done = ap (λ (xs : Tokens). map token_of xs ++ more) p
          ∙ ap (λ (xs : List Token). xs ++ more) (map_push ls (lexeme_of t id))
          ∙ append_assoc (map token_of ls) (t ∷ []) more ∙ ap (λ (xs : List Token). map token_of ls ++ xs) (sym e.0)
          ∙ n.done;
      numbers = subst (λ (xs : Tokens). AreNamesNumbered bytes start xs names') (sym p)
          (numbered_push bytes ls (lexeme_of t id) start names names' n.numbers h);
      spelled = (subst (AreSpelled bytes) e.0 n.spelled).1;
      room = omega (arith, c, l, r);
    }

pub numbering_spelled : (bytes : List ℕ) (start names : List (List ℕ)) (tokens rest more : List Token) (ls : Tokens)
    (t : Token) → Numbering bytes start names tokens rest ls → IsFirstAndRest rest t more → t.kind ≡ Name
    → IsSpelled bytes t
numbering_spelled bytes start names tokens rest more ls t n e = (subst (AreSpelled bytes) e.0 n.spelled).0

pub numbering_room : (bytes : List ℕ) (start names : List (List ℕ)) (tokens rest more : List Token) (ls : Tokens)
    (t : Token) → Numbering bytes start names tokens rest ls → IsFirstAndRest rest t more → length names < 2 ^ 32 - 1
numbering_room bytes start names tokens rest more ls t n e =
    let l : length more + 1 ≡ length rest = e.1 in
    let r : length names + length rest < 2 ^ 32 = n.room in
    omega (arith, l, r)

-- the last of a list is the first of it turned round
pub popped : {old mid new : List Token} {t : Token} → old ≡ mid ++ t ∷ [] → new ≡ mid
    → IsFirstAndRest (reverse old) t (reverse new)
popped {old} {mid} {new} {t} e n =
    let r : reverse old ≡ t ∷ reverse new =
    ap (λ (xs : List Token). reverse xs) e ∙ reverse-append mid (t ∷ [])
    ∙ ap (λ (xs : List Token). t ∷ reverse xs) (sym n) in
    (r, let l : length (reverse old) ≡ length (t ∷ reverse new) = ap length r in omega (arith, l))

pub turned_twice : {all turned : List Token} (found : List Token) (end : Token) → all ≡ found ++ end ∷ []
    → turned ≡ reverse found → all ≡ reverse turned ++ end ∷ []
turned_twice found end e t = e ∙ ap (λ (xs : List Token). xs ++ end ∷ [])
    (sym (reverse-reverse found) ∙ ap (λ (xs : List Token). reverse xs) (sym t))

pub last_of : {all : List Token} (found : List Token) {end : Token} {r : Option Token} → all ≡ found ++ option_to_list r
    → r ≡ Some end → all ≡ found ++ end ∷ []
last_of found e s = e ∙ ap (λ (x : Option Token). found ++ option_to_list x) s

no_length : (xs : List Token) → length xs ≡ 0 → xs ≡ []
no_length [] e = refl
no_length (x ∷ xs) e = absurd (omega (arith, e))

pub numbering_done : (bytes : List ℕ) (start names : List (List ℕ)) (tokens rest : List Token) (ls : Tokens)
    → Numbering bytes start names tokens rest ls → length rest ≡ 0
    → (map token_of ls ≡ tokens) × AreNamesNumbered bytes start ls names
numbering_done bytes start names tokens rest ls n e = (
  sym (append-nil (map token_of ls)) ∙ ap (λ (xs : List Token). map token_of ls ++ xs) (sym (no_length rest e))
      ∙ n.done,
  n.numbers,
)

pub lexemes_made : (bytes : List ℕ) (all found : List Token) (end : Token) (ls : Tokens) (old names : List (List ℕ))
    → AreTokens bytes all → all ≡ found ++ end ∷ [] → (map token_of ls ≡ found) × AreNamesNumbered bytes old ls names
    → old ≡ [] → AreLexemes bytes ls names end.at
lexemes_made bytes all found end ls old names h e n o =
    let f = front_of bytes all found end h e in
    record {
      tokens = subst (AreTokens bytes) (e ∙ ap (λ (xs : List Token). xs ++ end ∷ []) (sym n.0)
          ∙ ap (λ (t : Token). map token_of ls ++ t ∷ []) f.last) h;
      names_are = subst (λ (t : List (List ℕ)). AreNamesNumbered bytes t ls names) o n.1;
      end_is = ap (λ (t : Token). t.at) f.last;
    }

-- There is one numbering

pub one_interned : (old t : _) (new new' : List (List ℕ)) → Interns old t new → Interns old t new' → new ≡ new'
one_interned old t new new' (known h) (known k) = refl
one_interned old t new new' (known h) (added k) = absurd (k.has_not h.place t h.stands refl)
one_interned old t new new' (added k) (known h) = absurd (k.has_not h.place t h.stands refl)
one_interned old t new new' (added h) (added k) = refl

interned_different : (old new : List (List ℕ)) (t : List ℕ) → AreDifferent old → Interns old t new → AreDifferent new
interned_different old new t d (known h) = d
interned_different old new t d (added h) = different_more old t d h

same_id : (a b : NameId) → a.n ≡ b.n → a ≡ b
same_id a b e = λ i. record { n = e i; of = a.of }

same_lexeme : (l m : Lexeme) → token_of l ≡ token_of m → l.name.n ≡ m.name.n → l ≡ m
same_lexeme l m e n =
    let k : l.kind ≡ m.kind = ap (λ (t : Token). t.kind) e in
    let s : l.span ≡ m.span = ap (λ (t : Token). t.span) e in
    let a : l.at ≡ m.at = ap (λ (t : Token). t.at) e in
    let i : l.name ≡ m.name = same_id l.name m.name n in
    λ j. record { kind = k j; span = s j; at = a j; name = i j }

-- one token numbered in two ways is the same
pub record SameNumber (l m : Lexeme) (new new' : List (List ℕ)) : Type 0 where
  pub same : l ≡ m
  pub table : new ≡ new'
  pub different : AreDifferent new

one_number : (bytes : List ℕ) (old new new' : List (List ℕ)) (l m : Lexeme) → AreDifferent old → token_of l ≡ token_of m
    → IsNumbered bytes old l new → IsNumbered bytes old m new' → SameNumber l m new new'
one_number bytes old new new' l m d e (name k i s) (name k' i' s') =
    let t : text_of bytes l ≡ text_of bytes m =
    ap (λ (t : Token). take (t.span.to - t.span.from) (drop t.span.from bytes)) e in
    let i2 : Interns old (text_of bytes l) new' = subst (λ (x : List ℕ). Interns old x new') (sym t) i' in
    let same : new ≡ new' = one_interned old (text_of bytes l) new new' i i2 in
    let dn : AreDifferent new = interned_different old new (text_of bytes l) d i in
    let s2 : Stands new m.name.n (text_of bytes l) =
    subst (λ (x : List ℕ). Stands new m.name.n x) (sym t)
    (subst (λ (x : List (List ℕ)). Stands x m.name.n (text_of bytes m)) (sym same) s') in
    record { same = same_lexeme l m e (dn.one l.name.n m.name.n (text_of bytes l) s s2); table = same; different = dn }
one_number bytes old new new' l m d e (name k i s) (other k' f z) = absurd (k' (sym (ap (λ (t : Token). t.kind) e) ∙ k))
one_number bytes old new new' l m d e (other k f z) (name k' i s) = absurd (k (ap (λ (t : Token). t.kind) e ∙ k'))
one_number bytes old new new' l m d e (other k f z) (other k' f' z') =
    record { same = same_lexeme l m e (z ∙ sym z'); table = f ∙ sym f'; different = subst AreDifferent (sym f) d }

one_numbering : (bytes : List ℕ) (ls ms : Tokens) (old new new' : List (List ℕ)) → AreDifferent old
    → map token_of ls ≡ map token_of ms → AreNamesNumbered bytes old ls new → AreNamesNumbered bytes old ms new'
    → ls ≡ ms
one_numbering bytes [] [] old new new' d e h k = refl
one_numbering bytes [] (m ∷ ms) old new new' d e h k = absurd (cc)
one_numbering bytes (l ∷ ls) [] old new new' d e h k = absurd (cc)
one_numbering bytes (l ∷ ls) (m ∷ ms) old new new' d e h k =
    let first : token_of l ≡ token_of m = cc in
    let rest : map token_of ls ≡ map token_of ms = cc in
    let s = one_number bytes old h.0 k.0 l m d first h.1 k.1 in
    let more = one_numbering bytes ls ms h.0 new new' s.different rest h.2
    (subst (λ (t : List (List ℕ)). AreNamesNumbered bytes t ms new') (sym s.table) k.2) in
    ap (λ (x : Lexeme). x ∷ ls) s.same ∙ ap (λ (xs : Tokens). m ∷ xs) more

none_different : AreDifferent {A = List ℕ} []
none_different = record { one = λ m n a p q. absurd (nowhere m a p) }
  where
    nowhere : (m : ℕ) (a : List ℕ) → Stands [] m a → ⊥
    nowhere zero a p = absurd (cc)
    nowhere (suc m) a p = absurd (cc)

pub one_lexing : (bytes : List ℕ) (ls ms : Tokens) (names names' : List (List ℕ)) (end end' : Place)
    → AreLexemes bytes ls names end → AreLexemes bytes ms names' end' → ls ≡ ms
one_lexing bytes ls ms names names' end end' h k =
    let all = tokens_one bytes (map token_of ls ++ end_of_text bytes ∷ []) (map token_of ms ++ end_of_text bytes ∷ [])
    h.tokens k.tokens in
    one_numbering bytes ls ms [] names names' none_different
    (snoc_front (map token_of ls) (map token_of ms) (end_of_text bytes) (end_of_text bytes) all).0 h.names_are
    k.names_are

-- Faults

pub no_fault_there : (bytes : List ℕ) (ls : Tokens) (names : List (List ℕ)) (end at : Place)
    → AreLexemes bytes ls names end → HasFaultAt bytes at → ⊥
no_fault_there bytes ls names end at h f =
    tokens_no_fault bytes (map token_of ls ++ end_of_text bytes ∷ []) f.fault h.tokens f.first

one_place : (f : LexFault) (a b : Place) → IsPlaceOf f a → IsPlaceOf f b → a ≡ b
one_place (lex_fault.Byte p) a b x y = sym x ∙ y
one_place (lex_fault.OpenComment p) a b x y = sym x ∙ y
one_place (lex_fault.Number p) a b x y = sym x ∙ y
one_place lex_fault.Memory a b x y = elim x [ ]

pub one_fault_place : (bytes : List ℕ) (a b : Place) → HasFaultAt bytes a → HasFaultAt bytes b → a ≡ b
one_fault_place bytes a b f g = one_place f.fault a b f.there
    (subst (λ (x : LexFault). IsPlaceOf x b) (fault_one bytes g.fault f.fault g.first f.first) g.there)

pub lexical_told : (bytes : List ℕ) (f : LexFault) (r : ParseFault) → r ≡ lexical_fault f
    → (f ≢ lex_fault.Memory → IsFirstFault bytes f) → r ≢ Memory → (at : Place) × (r ≡ Lex at) × HasFaultAt bytes at
lexical_told bytes (lex_fault.Byte at) r e h =
    λ m. (at, e, record { fault = lex_fault.Byte at; first = h (λ q. absurd (cc)); there = refl })
lexical_told bytes (lex_fault.OpenComment at) r e h =
    λ m. (at, e, record { fault = lex_fault.OpenComment at; first = h (λ q. absurd (cc)); there = refl })
lexical_told bytes (lex_fault.Number at) r e h =
    λ m. (at, e, record { fault = lex_fault.Number at; first = h (λ q. absurd (cc)); there = refl })
lexical_told bytes lex_fault.Memory r e h = λ m. absurd (m e)
