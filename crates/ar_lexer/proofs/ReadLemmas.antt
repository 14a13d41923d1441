-- How far the text has been read.
use Rattle.std.proofs.Common.{◌≡◌, ℕ, ◌+◌, ◌<◌, ◌≤◌, ◌^◌, not, List, [], ◌∷◌, ◌++◌, length, take, drop, reverse, refl, sym, ap, ◌∙◌, subst, arith}
use Rattle.std.proofs.lemmas.List.{length-append, length-take-le, length-reverse, take-append-drop}
use Rattle.std.proofs.lemmas.List.Sums.{prefix_len-le-length, count_by-le-length}
use Rattle.ar_base.specs.declared.places.Place.{Place}
use Rattle.ar_lexer.specs.declared.token.Token.{Token}
use Rattle.ar_lexer.specs.declared.token.TokenKind.{TokenKind}
use Rattle.ar_lexer.specs.declared.token.TokenKind.TheVariants.{End}
use Rattle.ar_lexer.specs.declared.token.LexFault.{LexFault}
use Rattle.ar_lexer.specs.Tokens.{is_line_feed, place_after, IsGap, IsTokenOf, IsToken, joined_pieces, AreCut, end_of_text, AreTokens, IsFault, IsFirstFault}
use Rattle.ar_lexer.specs.Scans.{MovesPlace, IsTokenAt}
use Rattle.ar_lexer.proofs.CutLemmas.{joined_push, joined_split, joined_last, cut_gap, cut_token}

-- The text has been read as far as `rest`, which stands at this place, and has given these tokens.
pub record HasRead (text rest : List ℕ) (start : ℕ) (there : Place) (found : List Token) : Type 0 where
  pub pieces : List (List ℕ)
  pub whole : text ≡ joined_pieces pieces rest
  pub cut : AreCut [] pieces rest found
  pub start_is : start ≡ length (joined_pieces pieces [])
  pub there_is : there ≡ place_after (joined_pieces pieces [])

pub read_start : (text : List ℕ) → HasRead text text 0 (record { line = 1; column = 1 }) []
read_start text = record { pieces = []; whole = refl; cut = refl; start_is = refl; there_is = refl }

module _ (text rest rest' : List ℕ) (start start' n : ℕ) (there there' : Place) (found : List Token)
    (h : HasRead text rest start there found) (within : n ≤ length rest) (left : rest' ≡ drop n rest)
    (moved : start' ≡ start + n) (moves : MovesPlace (take n rest) there there') where
  cut_there : AreCut [] h.pieces (take n rest ++ drop n rest) found
  cut_there = subst (λ (s : List ℕ). AreCut [] h.pieces s found) (sym (take-append-drop n rest)) h.cut

  whole_there : text ≡ joined_pieces (h.pieces ++ take n rest ∷ []) rest'
  whole_there =
      h.whole ∙ ap (joined_pieces h.pieces) (sym (take-append-drop n rest))
      ∙ sym (joined_push h.pieces (take n rest) (drop n rest))
      ∙ ap (joined_pieces (h.pieces ++ take n rest ∷ [])) (sym left)

  start_there : start' ≡ length (joined_pieces (h.pieces ++ take n rest ∷ []) [])
  start_there =
      let a = h.start_is in
      let b : length (joined_pieces (h.pieces ++ take n rest ∷ []) []) ≡ length (joined_pieces h.pieces []) + length
      (take n rest) =
      ap length (joined_last h.pieces (take n rest)) ∙ length-append (joined_pieces h.pieces []) (take n rest) in
      let c : length (take n rest) ≡ n = length-take-le n rest within in
      omega (arith, a, b, c, moved)

  place_there : there' ≡ place_after (joined_pieces (h.pieces ++ take n rest ∷ []) [])
  place_there = moves (joined_pieces h.pieces []) h.there_is ∙ ap place_after (sym (joined_last h.pieces (take n rest)))

  pub read_gap : IsGap (take n rest) (drop n rest) → HasRead text rest' start' there' found
  read_gap gap = record {
    pieces = h.pieces ++ take n rest ∷ [];
    whole = whole_there;
    cut = subst (λ (s : List ℕ). AreCut [] (h.pieces ++ take n rest ∷ []) s found) (sym left)
        (cut_gap [] h.pieces (take n rest) (drop n rest) found cut_there gap);
    start_is = start_there;
    there_is = place_there;
  }

  token_there : (kind : TokenKind) (t : Token) → IsTokenOf kind (take n rest) (drop n rest)
      → IsTokenAt start there kind n t → IsToken ([] ++ joined_pieces h.pieces []) (take n rest) (drop n rest) t
  token_there kind t of stands =
      let c : length (take n rest) ≡ n = length-take-le n rest within in
      let a = stands.from in let b = stands.to in let s = h.start_is in
      record {
        of_kind = subst (λ (k : TokenKind). IsTokenOf k (take n rest) (drop n rest)) (sym stands.kind) of;
        from = a ∙ s;
        to = omega (arith, b, s, c);
        at = stands.at ∙ h.there_is;
      }

  pub read_token : (kind : TokenKind) (t : Token) (found' : List Token) → IsTokenOf kind (take n rest) (drop n rest)
      → IsTokenAt start there kind n t → found' ≡ found ++ t ∷ [] → HasRead text rest' start' there' found'
  read_token kind t found' of stands pushed = record {
    pieces = h.pieces ++ take n rest ∷ [];
    whole = whole_there;
    cut = subst (λ (s : List ℕ). AreCut [] (h.pieces ++ take n rest ∷ []) s found') (sym left)
        (subst (λ (ts : List Token). AreCut [] (h.pieces ++ take n rest ∷ []) (drop n rest) ts) (sym pushed)
        (cut_token [] h.pieces (take n rest) (drop n rest) found t cut_there (token_there kind t of stands)));
    start_is = start_there;
    there_is = place_there;
  }

pub same_token : (t u : Token) → t.kind ≡ u.kind → t.span.from ≡ u.span.from → t.span.to ≡ u.span.to → t.at ≡ u.at
    → t ≡ u
same_token t u k f o a = λ i. record { kind = k i; span = record { from = f i; to = o i }; at = a i }

-- at the end of the text
pub read_end : (text rest : List ℕ) (start : ℕ) (there : Place) (found all : List Token) (t : Token)
    → HasRead text rest start there found → rest ≡ [] → IsTokenAt start there End 0 t → all ≡ found ++ t ∷ []
    → AreTokens text all
read_end text rest start there found all t h empty stands pushed =
    let w : text ≡ joined_pieces h.pieces [] = h.whole ∙ ap (joined_pieces h.pieces) empty in
    let s : start ≡ length text = h.start_is ∙ sym (ap length w) in
    let a = stands.to in
    record {
      pieces = h.pieces;
      found = found;
      whole = w;
      cut = subst (λ (r : List ℕ). AreCut [] h.pieces r found) empty h.cut;
      all = pushed ∙ ap (λ (u : Token). found ++ u ∷ [])
          (same_token t (end_of_text text) stands.kind (stands.from ∙ s) (omega (arith, a, s))
          (stands.at ∙ h.there_is ∙ sym (ap place_after w)));
    }

-- where nothing goes on
pub read_fault : (text rest : List ℕ) (start : ℕ) (there : Place) (found : List Token) (fault : LexFault)
    → (h : HasRead text rest start there found) → IsFault (joined_pieces h.pieces []) rest fault
    → IsFirstFault text fault
read_fault text rest start there found fault h there_is = record {
  pieces = h.pieces;
  found = found;
  rest = rest;
  whole = h.whole;
  cut = h.cut;
  fault_there = there_is;
}

-- places lie within the text

pub line_bound : (before : List ℕ) → (place_after before).line ≤ length before + 1
line_bound before = let l = count_by-le-length is_line_feed before in omega (arith, l)

pub column_bound : (before : List ℕ) → (place_after before).column ≤ length before + 1
column_bound before =
    let l = prefix_len-le-length (λ b. not (is_line_feed b)) (reverse before) in
    let n : length (reverse before) ≡ length before = length-reverse before in
    omega (arith, l, n)

module _ (text rest : List ℕ) (start n : ℕ) (there : Place) (found : List Token)
    (h : HasRead text rest start there found) (small : length text ≤ 4194304) (within : n ≤ length rest) where
  within_text : length (joined_pieces h.pieces []) + n ≤ 4194304
  within_text =
      let e : length text ≡ length (joined_pieces h.pieces []) + length rest =
      ap length (h.whole ∙ joined_split h.pieces rest) ∙ length-append (joined_pieces h.pieces []) rest in
      omega (arith, e, small, within)

  pub start_fits : start + n < 2 ^ 32
  start_fits = let w = within_text in let s = h.start_is in omega (arith, w, s)

  pub line_fits : there.line + n < 2 ^ 32
  line_fits = let w = within_text in let l = line_bound (joined_pieces h.pieces []) in let e : there.line ≡ (place_after (joined_pieces h.pieces [])).line = ap (λ (p : Place). p.line) h.there_is in omega (arith, w, l, e)

  pub column_fits : there.column + n < 2 ^ 32
  column_fits = let w = within_text in let l = column_bound (joined_pieces h.pieces []) in let e : there.column ≡ (place_after (joined_pieces h.pieces [])).column = ap (λ (p : Place). p.column) h.there_is in omega (arith, w, l, e)
