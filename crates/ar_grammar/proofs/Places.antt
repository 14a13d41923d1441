-- What the clauses of a call on a whole text say of the place of its refusal.
use Rattle.std.proofs.Common.{◌≡◌, ℕ, ◌+◌, ◌⊎◌, inl, inr, [], ◌∷◌, ◌++◌, Result, Ok, Err, refl, sym, ap, ◌∙◌, subst, append_assoc, arith}
use Rattle.std.proofs.lemmas.List.{append-nil, append_cancel_right}
use Rattle.ar_lexer.specs.declared.token.TokenKind.TheVariants.{End}
use Rattle.expression_grammar.specs.declared.lexeme.Lexeme.{Lexeme}
use Rattle.expression_grammar.specs.declared.lexeme.Refusal.{Refusal}
use Rattle.expression_grammar.specs.declared.lexeme.Refusal.TheVariants.{Syntax, Depth}
use Rattle.expression_grammar.specs.Words.{Tokens, deep, never}
use Rattle.ar_grammar.specs.Texts.{model_tokens, Viable, FitsNesting, Ends, IsSyntaxAt, IsDepthAt}
use Rattle.expression_grammar.specs.Results.{first_token_kind, Plain, Arrives, FindsRefusal, StandsWhereStopped, before, through}
use Rattle.ar_grammar.specs.Results.{is_end}
use Rattle.ar_grammar.proofs.Filling.{up, Filled, fills_model, not_cut, to_fill, viable_of, filled_front}

plain_front : (front rest : Tokens) → Plain (front ++ rest) → Plain front
plain_front [] rest p = tt
plain_front (t ∷ front) rest p = (p.0, plain_front front rest p.1)

pub fits_before : {n : ℕ} {e : Refusal} {old new : Tokens} → (s : StandsWhereStopped (model_tokens deep) n e old new)
    → FitsNesting n s.front
fits_before {n} s = let b = s.tells n [] (before refl refl) in
    record {
      more = b.more;
      reads = subst (λ (t : Tokens). model_tokens deep n End (t ++ b.more)) (append-nil s.front)
          (b.form End);
    }

-- a text of the grammar is one that may be cut
as_deep : (m : ℕ) (front more : Tokens) → Plain front → model_tokens never m End (front ++ more)
    → (more' : Tokens) × model_tokens deep (up 0 m) End (front ++ more')
as_deep m front more q h =
    let g = fills_model (not_cut deep) m End (front ++ more) h in
    let r = filled_front front more g.text q g.filled in
    (r.0, subst (λ (t : Tokens). model_tokens deep (up 0 m) End t) r.1 (g.form End (λ z. z)))

-- What a call on a whole text found, and the front that it passed
module _ {A : Type 0} {n : ℕ} {r : Result A Refusal} {old new : Tokens} (front : Tokens) (passed : old ≡ front ++ new)
    (p : Plain old) (f : FindsRefusal (model_tokens deep) is_end n r old new) where
  same_front : f.front ≡ front
  same_front = append_cancel_right f.front front new (sym f.passed ∙ passed)

  -- where the call would end
  none_on : (m : ℕ) (t : Lexeme) (rest more : Tokens) → new ≡ t ∷ rest → model_tokens deep m End (front ++ t ∷ more)
      → Arrives n m r (t ∷ more) []
  none_on m t rest more w h = f.only p m (t ∷ more) (front ++ t ∷ more) [] (sym (ap first_token_kind w)) h
      (ap (λ (x : Tokens). x ++ t ∷ more) same_front ∙ sym (append-nil (front ++ t ∷ more))) refl

  none_end : (m : ℕ) → new ≡ [] → model_tokens deep m End front → Arrives n m r [] []
  none_end m w h = f.only p m [] front [] (sym (ap first_token_kind w)) h (ap (λ (x : Tokens). x ++ []) same_front) refl

  whole : Plain (front ++ new)
  whole = subst Plain passed p

  none_at_end : (m : ℕ) → new ≡ [] → model_tokens never m End front → Arrives n (up 0 m) r [] []
  none_at_end m w h =
      let g = fills_model (not_cut deep) m End front h in
      let q = filled_front front [] g.text (plain_front front new whole)
      (subst (λ (t : Tokens). Filled t g.text) (sym (append-nil front)) g.filled) in
      none_end (up 0 m) w (subst (λ (t : Tokens). model_tokens deep (up 0 m) End t)
      (q.1 ∙ ap (λ (t : Tokens). front ++ t) q.2 ∙ append-nil front) (g.form End (λ z. z)))

  plain_next : (t : Lexeme) (rest : Tokens) → new ≡ t ∷ rest → Plain (front ++ t ∷ [])
  plain_next t rest w = plain_front (front ++ t ∷ []) rest
      (subst Plain (ap (λ (x : Tokens). front ++ x) w ∙ sym (append_assoc front (t ∷ []) rest)) whole)

  none_viable : (t : Lexeme) (rest : Tokens) → new ≡ t ∷ rest → (v : Viable (front ++ t ∷ []))
      → (more : Tokens) × Arrives n (up 0 v.n) r (t ∷ more) []
  none_viable t rest w v =
      let d = as_deep v.n (front ++ t ∷ []) v.more (plain_next t rest w) v.reads in (
        d.0,
        none_on (up 0 v.n) t rest d.0 w
            (subst (λ (x : Tokens). model_tokens deep (up 0 v.n) End x) (append_assoc front (t ∷ []) d.0) d.1),
      )

-- Where a call on a whole text gives Syntax, no text goes on with the token there, and none before is too deep.
pub syntax_there : {A : Type 0} {n : ℕ} {old new : Tokens} (p : Plain old)
    (f : FindsRefusal {A = A} (model_tokens deep) is_end n (Err Syntax) old new)
    (s : StandsWhereStopped (model_tokens deep) n Syntax old new)
    → IsSyntaxAt n s.front new
syntax_there {new = new} p f s = record { fits = fits_before s; ends = by_next new refl }
  where
    by_next : (rest : Tokens) → new ≡ rest → Ends s.front rest
    by_next [] w = λ m h. none_at_end s.front s.passed p f m w h
    by_next (t ∷ rest) w = λ v. (none_viable s.front s.passed p f t rest w v).1

-- Where it took a text and more tokens are left, no text goes on with the next of them.
pub syntax_behind : {A : Type 0} {x : A} {n : ℕ} {old new : Tokens} (front : Tokens) → old ≡ front ++ new → Plain old
    → FindsRefusal (model_tokens deep) is_end n (Ok x) old new → model_tokens deep n End front → (new ≡ [] → ⊥)
    → IsSyntaxAt n front new
syntax_behind {n = n} {new = new} front e p f h some =
    record {
      fits = record {
        more = [];
        reads = subst (λ (t : Tokens). model_tokens deep n End t) (sym (append-nil front)) h;
      };
      ends = by_next new refl;
    }
  where
    by_next : (rest : Tokens) → new ≡ rest → Ends front rest
    by_next [] w = λ m j. absurd (some w)
    by_next (t ∷ rest) w = λ v. let g = none_viable front e p f t rest w v in let q : t ∷ g.0 ≡ [] = g.1 in absurd (cc)

-- Where it gives Depth, some text goes on with the token there, which is the first that is too deep.
pub depth_there : {A : Type 0} {n : ℕ} {old new : Tokens} (p : Plain old)
    (f : FindsRefusal {A = A} (model_tokens deep) is_end n (Err Depth) old new)
    (s : StandsWhereStopped (model_tokens deep) n Depth old new)
    → IsDepthAt n s.front new
depth_there {n = n} {new = new} p f s = by_next new refl
  where
    by_next : (rest : Tokens) → new ≡ rest → IsDepthAt n s.front new
    by_next [] w = absurd (s.opens refl w)
    by_next (t ∷ rest) w =
        let b = s.tells (n + 3) (t ∷ []) (through t rest refl w refl refl) in
        record {
          t = t;
          back = rest;
          is = w;
          fits = fits_before s;
          viable = viable_of (n + 3) (s.front ++ t ∷ []) b.more (plain_next s.front s.passed p f t rest w) (b.form End);
          too_deep = λ x. let a = none_on s.front s.passed p f n t rest x.more w (subst (λ (y : Tokens). model_tokens deep n End y) (append_assoc s.front (t ∷ []) x.more) x.reads) in absurd (omega (arith, a));
        }

-- A text is refused at one place at most

-- a refusal between these tokens and those
abbrev pub IsRefusal : ℕ → Tokens → Tokens → Type 0
IsRefusal n front rest = IsSyntaxAt n front rest ⊎ IsDepthAt n front rest

refusal_fits : (n : ℕ) (front rest : Tokens) → IsRefusal n front rest → FitsNesting n front
refusal_fits n front rest (inl r) = r.fits
refusal_fits n front rest (inr r) = r.fits

-- no text that fits goes on with the token there
refusal_ends : (n : ℕ) (front : Tokens) (t : Lexeme) (rest : Tokens) → Plain (front ++ t ∷ [])
    → IsRefusal n front (t ∷ rest) → FitsNesting n (front ++ t ∷ []) → ⊥
refusal_ends n front t rest p (inl r) f = r.ends (viable_of n (front ++ t ∷ []) f.more p f.reads)
refusal_ends n front t rest p (inr r) f = r.too_deep (subst (λ (u : Lexeme). FitsNesting n (front ++ u ∷ [])) (let q : (t ∷ rest) ≡ (r.t ∷ r.back) = r.is in cc) f)

-- where one front is longer, the text of its tokens goes on from the shorter
no_longer : (n : ℕ) (front : Tokens) (t : Lexeme) (x rest rest' : Tokens) → Plain (front ++ t ∷ [])
    → IsRefusal n front (t ∷ rest) → IsRefusal n (front ++ t ∷ x) rest' → ⊥
no_longer n front t x rest rest' p r r' =
    let f = refusal_fits n (front ++ t ∷ x) rest' r' in
    refusal_ends n front t rest p r (record {
      more = x ++ f.more;
      reads = subst (λ (y : Tokens). model_tokens deep n End y)
          (append_assoc front (t ∷ x) f.more ∙ sym (append_assoc front (t ∷ []) (x ++ f.more))) f.reads;
    })

pub one_refusal : (n : ℕ) (done front rest front' rest' : Tokens) → Plain (done ++ (front ++ rest))
    → front ++ rest ≡ front' ++ rest' → IsRefusal n (done ++ front) rest → IsRefusal n (done ++ front') rest'
    → (front ≡ front') × (rest ≡ rest')
one_refusal n done [] rest [] rest' p e r r' = (refl, e)
one_refusal n done [] rest (u ∷ front') rest' p e r r' =
    let w : IsRefusal n done (u ∷ (front' ++ rest')) =
    subst (λ (y : Tokens). IsRefusal n done y) e
    (subst (λ (y : Tokens). IsRefusal n y rest) (append-nil done) r) in
    absurd (no_longer n done u front' (front' ++ rest') rest'
    (plain_front (done ++ u ∷ []) (front' ++ rest')
    (subst Plain (ap (λ (y : Tokens). done ++ y) e ∙ sym (append_assoc done (u ∷ []) (front' ++ rest'))) p)) w r')
one_refusal n done (t ∷ front) rest [] rest' p e r r' =
    let w : IsRefusal n done (t ∷ (front ++ rest)) =
    subst (λ (y : Tokens). IsRefusal n done y) (sym e)
    (subst (λ (y : Tokens). IsRefusal n y rest') (append-nil done) r') in
    absurd (no_longer n done t front (front ++ rest) rest
    (plain_front (done ++ t ∷ []) (front ++ rest)
    (subst Plain (sym (append_assoc done (t ∷ []) (front ++ rest))) p)) w r)
one_refusal n done (t ∷ front) rest (u ∷ front') rest' p e r r' =
    let same : t ≡ u = cc in
    let more : front ++ rest ≡ front' ++ rest' = cc in
    let step : (a : Lexeme) (b : Tokens)
    → done ++ a ∷ b ≡ (done ++ a ∷ []) ++ b = λ a b. sym (append_assoc done (a ∷ []) b) in
    let s = one_refusal n (done ++ t ∷ []) front rest front' rest' (subst Plain (step t (front ++ rest)) p) more
    (subst (λ (y : Tokens). IsRefusal n y rest) (step t front) r)
    (subst (λ (y : Tokens). IsRefusal n y rest') (ap (λ (a : Lexeme). done ++ a ∷ front') (sym same) ∙ step t front')
    r') in
    (ap (λ (a : Lexeme). a ∷ front) same ∙ ap (λ (y : Tokens). u ∷ y) s.0, s.1)

-- and not both for the syntax and for the depth
pub not_both : (n : ℕ) (front rest : Tokens) → IsSyntaxAt n front rest → IsDepthAt n front rest → ⊥
not_both n front rest s d = by_next rest d.is s.ends
  where
    by_next : (rest : Tokens) → rest ≡ d.t ∷ d.back → Ends front rest → ⊥
    by_next [] e z = absurd (cc)
    by_next (t ∷ more) e z = z (subst (λ (u : Lexeme). Viable (front ++ u ∷ [])) (cc) d.viable)

-- A text that is read is not refused

text_whole : (n : ℕ) (all : Tokens) → Plain all → model_tokens deep n End all → model_tokens never (up 3 n) End all
text_whole n all p h =
    let f = fills_model to_fill n End all h in
    let r = filled_front all [] f.text p (subst (λ (t : Tokens). Filled t f.text) (sym (append-nil all)) f.filled) in
    subst (λ (t : Tokens). model_tokens never (up 3 n) End t) (r.1 ∙ ap (λ (t : Tokens). all ++ t) r.2 ∙ append-nil all)
    (f.form End (λ z. z))

pub text_stands : (n : ℕ) (all front rest : Tokens) → Plain all → model_tokens deep n End all → all ≡ front ++ rest
    → IsRefusal n front rest → ⊥
text_stands n all front rest p h e r =
    by_next rest (subst (λ (t : Tokens). model_tokens deep n End t) e h) (subst Plain e p) r
  where
    by_next : (rest : Tokens) → model_tokens deep n End (front ++ rest) → Plain (front ++ rest) → IsRefusal n front rest
        → ⊥
    by_next [] h p (inl r) = r.ends (up 3 n)
        (text_whole n front (subst Plain (append-nil front) p)
        (subst (λ (t : Tokens). model_tokens deep n End t) (append-nil front) h))
    by_next [] h p (inr r) = let q : [] ≡ r.t ∷ r.back = r.is in absurd (cc)
    by_next (t ∷ back) h p r =
        let w : front ++ t ∷ back ≡ (front ++ t ∷ []) ++ back = sym (append_assoc front (t ∷ []) back) in
        refusal_ends n front t back (plain_front (front ++ t ∷ []) back (subst Plain w p)) r
        (record { more = back; reads = subst (λ (x : Tokens). model_tokens deep n End x) w h })
