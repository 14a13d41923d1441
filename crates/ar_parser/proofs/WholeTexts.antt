-- What is said of the tokens of a text, said of the text.
use Rattle.std.proofs.Common.{◌≡◌, ◌≢◌, ℕ, inl, inr, Result, Ok, Err, IfErr, IsErrAnd, List, [], ◌++◌, sym, ap, ◌∙◌, subst, arith}
use Rattle.ar_base.specs.declared.places.Place.{Place}
use Rattle.ar_lexer.specs.declared.token.TokenKind.TheVariants.{End}
use Rattle.ar_syntax.specs.declared.items.Model.{Model}
use Rattle.ar_syntax.specs.declared.items.Item.{Item}
use Rattle.ar_parser.specs.declared.fault.ParseFault.{ParseFault}
use Rattle.ar_parser.specs.declared.fault.ParseFault.TheVariants.{Lex, Syntax, Depth, Memory}
use Rattle.expression_grammar.specs.declared.lexeme.Refusal.{Refusal}
use Rattle.expression_grammar.specs.declared.lexeme.Refusal.TheVariants as refusal
use Rattle.expression_grammar.specs.Words.{Tokens, ReadsSome, place_at}
use Rattle.ar_grammar.specs.Texts.{IsSyntaxAt, IsDepthAt}
use Rattle.ar_parser.specs.Names.{told}
use Rattle.ar_parser.specs.Models.{AreLexemes, HasFaultAt, ReadsWithin, IsRefusedAt, SyntaxStandsAt, DepthStandsAt}
use Rattle.ar_parser.specs.ModelsInside.{EndsWithin}
use Rattle.ar_grammar.specs.Items.{ReadsItems}
use Rattle.expression_grammar.specs.Results.{Plain}
use Rattle.ar_grammar.specs.Results.{Gets, AreUnsigned, IsRefusedAs}
use Rattle.ar_parser.proofs.NameLemmas.{one_lexing, no_fault_there, one_fault_place}
use Rattle.ar_parser.proofs.PlainTexts.{plain_tokens, unsigned_tokens}
use Rattle.ar_grammar.proofs.Places.{IsRefusal, one_refusal, not_both, text_stands}
use Rattle.ar_grammar.proofs.ItemParts.{turns_items}

-- Lexical faults

-- what is known of a refusal for the tokens of a text
abbrev pub IsToldOf : List ℕ → ParseFault → Type 0
IsToldOf bytes e = e ≢ Memory → (at : Place) × (e ≡ Lex at) × HasFaultAt bytes at

lex_place : {a b : Place} → Lex a ≡ Lex b → a ≡ b
lex_place e = cc

lex_memory : {a : Place} → Lex a ≡ Memory → ⊥
lex_memory e = absurd (cc)

pub lex_told : {A : Type 0} (bytes : List ℕ) (r : Result A ParseFault) (e : ParseFault) → IsErrAnd r (λ x. x ≡ e)
    → IsToldOf bytes e → IfErr r (λ x. (at : Place) → x ≡ Lex at → HasFaultAt bytes at)
lex_told bytes (Ok x) e h f = tt
lex_told bytes (Err x) e h f = λ at q.
    let w = f (λ m. lex_memory (sym q ∙ h ∙ m)) in
    subst (HasFaultAt bytes) (lex_place (sym w.1 ∙ sym h ∙ q)) w.2

pub lex_faulty : {A : Type 0} (bytes : List ℕ) (r : Result A ParseFault) (e : ParseFault) → IsErrAnd r (λ x. x ≡ e)
    → IsToldOf bytes e → (at : Place) → HasFaultAt bytes at → IsErrAnd r (λ x. x ≢ Memory → x ≡ Lex at)
lex_faulty bytes (Ok x) e h f at fault = elim h [ ]
lex_faulty bytes (Err x) e h f at fault = λ m. let w = f (λ q. m (h ∙ q)) in h ∙ w.1 ∙ ap Lex (one_fault_place bytes w.0 at w.2 fault)

reaches_as : (A : Type 0) (left n : ℕ) (x e : ParseFault) → x ≡ e → EndsWithin {A = A} left n (Err e)
    → EndsWithin {A = A} left n (Err x)
reaches_as A left n x e h a = subst (λ (f : ParseFault). EndsWithin {A = A} left n (Err f)) (sym h) a

-- where a text has tokens there is no other fault than memory
lex_lexed : (bytes : List ℕ) (x e : ParseFault) (ls : Tokens) (names : List (List ℕ)) (end : Place) → x ≡ e
    → IsToldOf bytes e → AreLexemes bytes ls names end → x ≢ Memory → ⊥
lex_lexed bytes x e ls names end h f a m = let w = f (λ q. m (h ∙ q)) in no_fault_there bytes ls names end w.0 a w.2

pub lex_reaches : {A : Type 0} (bytes : List ℕ) (left : ℕ) (r : Result A ParseFault) (e : ParseFault)
    → IsErrAnd r (λ x. x ≡ e) → IsToldOf bytes e → (n : ℕ) (model : Model) → ReadsWithin n bytes model
    → EndsWithin left n r
lex_reaches bytes left (Ok x) e h f n model m = tt
lex_reaches bytes left (Err Memory) e h f n model m = tt
lex_reaches bytes left (Err (Lex at)) e h f n model m =
    absurd (lex_lexed bytes (Lex at) e m.lexemes model.names model.end h f m.are (λ q. absurd (cc)))
lex_reaches bytes left (Err (Syntax at)) e h f n model m =
    absurd (lex_lexed bytes (Syntax at) e m.lexemes model.names model.end h f m.are (λ q. absurd (cc)))
lex_reaches bytes left (Err (Depth at)) e h f n model m =
    absurd (lex_lexed bytes (Depth at) e m.lexemes model.names model.end h f m.are (λ q. absurd (cc)))

-- such a refusal is neither of the syntax nor of the depth
pub lex_not_syntax : {A : Type 0} (bytes : List ℕ) (r : Result A ParseFault) (e : ParseFault) → IsErrAnd r (λ x. x ≡ e)
    → IsToldOf bytes e → IfErr r (λ x. (at : Place) → x ≡ Syntax at → SyntaxStandsAt bytes at)
lex_not_syntax bytes (Ok x) e h f = tt
lex_not_syntax bytes (Err x) e h f = λ at q. let w = f (λ m. let z : Syntax at ≡ Memory = sym q ∙ h ∙ m in absurd (cc)) in let z : Syntax at ≡ Lex w.0 = sym q ∙ h ∙ w.1 in absurd (cc)

pub lex_not_depth : {A : Type 0} (bytes : List ℕ) (r : Result A ParseFault) (e : ParseFault) → IsErrAnd r (λ x. x ≡ e)
    → IsToldOf bytes e → IfErr r (λ x. (at : Place) → x ≡ Depth at → DepthStandsAt bytes at)
lex_not_depth bytes (Ok x) e h f = tt
lex_not_depth bytes (Err x) e h f = λ at q. let w = f (λ m. let z : Depth at ≡ Memory = sym q ∙ h ∙ m in absurd (cc)) in let z : Depth at ≡ Lex w.0 = sym q ∙ h ∙ w.1 in absurd (cc)

pub lex_unplaced : {A : Type 0} (bytes : List ℕ) (P : Tokens → Tokens → Type 0) (r : Result A ParseFault)
    (e want : ParseFault) → IsErrAnd r (λ x. x ≡ e) → IsToldOf bytes e → (at : Place)
    → IsRefusedAt P bytes at → IsErrAnd r (λ x. x ≢ Memory → x ≡ want)
lex_unplaced bytes P (Ok x) e want h f at s = elim h [ ]
lex_unplaced bytes P (Err x) e want h f at s =
    λ m. absurd (lex_lexed bytes x e (s.front ++ s.rest) s.names s.end h f s.are m)

-- Refusals of tokens

-- the tokens of a text have the text's items
pub its_items : (bytes : List ℕ) (ls ts : Tokens) (names : List (List ℕ)) (end : Place) (n : ℕ) (model : Model)
    → ts ≡ ls → AreLexemes bytes ls names end → ReadsWithin n bytes model → ReadsSome (ReadsItems n) End ts
its_items bytes ls ts names end n model e l m = (
  model.items.items,
  subst (λ (xs : Tokens). ReadsItems n model.items.items End xs)
      (one_lexing bytes m.lexemes ls model.names names model.end end m.are l ∙ sym e) m.items,
)

pub told_reaches : (A B : Type 0) (left n : ℕ) (e : Refusal) (at : Place) (x : ParseFault)
    → x ≡ told e at → Gets {A = A} left n (Err e) → EndsWithin {A = B} left n (Err x)
told_reaches A B left n refusal.Syntax at x h a = elim a [ ]
told_reaches A B left n refusal.Depth at x h a = reaches_as B left n x (Depth at) h a
told_reaches A B left n refusal.Memory at x h a = reaches_as B left n x Memory h tt

pub told_not_lex : (bytes : List ℕ) (e : Refusal) (at : Place) (x : ParseFault) → x ≡ told e at → (place : Place)
    → x ≡ Lex place → HasFaultAt bytes place
told_not_lex bytes refusal.Syntax at x h place q = let z : Syntax at ≡ Lex place = sym h ∙ q in absurd (cc)
told_not_lex bytes refusal.Depth at x h place q = let z : Depth at ≡ Lex place = sym h ∙ q in absurd (cc)
told_not_lex bytes refusal.Memory at x h place q = let z : Memory ≡ Lex place = sym h ∙ q in absurd (cc)

pub plain_text : (bytes : List ℕ) (ls ts : Tokens) (names : List (List ℕ)) (end : Place) → ts ≡ ls
    → AreLexemes bytes ls names end → Plain ts
plain_text bytes ls ts names end e a = subst Plain (sym e) (plain_tokens bytes ls a.tokens)

pub unsigned_text : (bytes : List ℕ) (ls ts : Tokens) (names : List (List ℕ)) (end : Place) → ts ≡ ls
    → AreLexemes bytes ls names end → AreUnsigned ts
unsigned_text bytes ls ts names end e a = subst AreUnsigned (sym e) (unsigned_tokens bytes ls a.tokens)

-- What is known where the tokens of a text were read: the text's tokens, those that were given, and those where the
-- call stopped.
pub record Stopped (bytes : List ℕ) (at : Place) (ts rest : Tokens) : Type 0 where
  pub lexemes : Tokens
  pub names : List (List ℕ)
  pub end : Place
  pub are : AreLexemes bytes lexemes names end
  pub given : ts ≡ lexemes
  pub there : at ≡ place_at end rest

pub stopped : {bytes : List ℕ} {at : Place} {ls ts rest : Tokens} {names : List (List ℕ)} {end : Place}
    → AreLexemes bytes ls names end → ts ≡ ls → at ≡ place_at end rest → Stopped bytes at ts rest
stopped {ls = ls} {names = names} {end = end} a e t =
    record { lexemes = ls; names = names; end = end; are = a; given = e; there = t }

-- at the limit that was asked for
pub at_limit : {limit n : ℕ} (e : Refusal) (old new : Tokens) → limit ≡ n → IsRefusedAs limit e old new
    → IsRefusedAs n e old new
at_limit e old new q r = subst (λ (l : ℕ). IsRefusedAs l e old new) q r

pub gets_at_limit : {A : Type 0} {limit n : ℕ} (m : ℕ) (r : Result A Refusal) → limit ≡ n → Gets limit m r → Gets n m r
gets_at_limit m r q g = subst (λ (l : ℕ). Gets l m r) q g

pub items_at_limit : {limit n : ℕ} (xs : List Item) (ts : Tokens) → limit ≡ n → ReadsItems limit xs End ts
    → ReadsItems n xs End ts
items_at_limit xs ts q h = subst (λ (l : ℕ). ReadsItems l xs End ts) q h

module _ (n : ℕ) (bytes : List ℕ) (at : Place) (ts rest : Tokens) (k : Stopped bytes at ts rest) where
  refused_at : {P : Tokens → Tokens → Type 0} (place : Place) (front : Tokens) → place ≡ at → ts ≡ front ++ rest
      → P front rest → IsRefusedAt P bytes place
  refused_at place front q e p = record {
    front = front;
    rest = rest;
    names = k.names;
    end = k.end;
    are = subst (λ (xs : Tokens). AreLexemes bytes xs k.names k.end) (sym k.given ∙ e) k.are;
    there = q ∙ k.there;
    told = p;
  }

  pub told_syntax : (e : Refusal) (x : ParseFault) → x ≡ told e at → IsRefusedAs n e ts rest → (place : Place)
      → x ≡ Syntax place → IsRefusedAt (IsSyntaxAt n) bytes place
  told_syntax refusal.Syntax x h r place q = let z : Syntax place ≡ Syntax at = sym q ∙ h in let w : place ≡ at = cc in refused_at place r.0 w r.1 r.2
  told_syntax refusal.Depth x h r place q = let z : Syntax place ≡ Depth at = sym q ∙ h in absurd (cc)
  told_syntax refusal.Memory x h r place q = let z : Syntax place ≡ Memory = sym q ∙ h in absurd (cc)

  pub told_depth : (e : Refusal) (x : ParseFault) → x ≡ told e at → IsRefusedAs n e ts rest → (place : Place)
      → x ≡ Depth place → IsRefusedAt (IsDepthAt n) bytes place
  told_depth refusal.Syntax x h r place q = let z : Depth place ≡ Syntax at = sym q ∙ h in absurd (cc)
  told_depth refusal.Depth x h r place q = let z : Depth place ≡ Depth at = sym q ∙ h in let w : place ≡ at = cc in refused_at place r.0 w r.1 r.2
  told_depth refusal.Memory x h r place q = let z : Depth place ≡ Memory = sym q ∙ h in absurd (cc)

  plain_given : Plain ts
  plain_given = plain_text bytes k.lexemes ts k.names k.end k.given k.are

  -- a text is refused at one place
  same_tokens : {P : Tokens → Tokens → Type 0} (place : Place) → (s : IsRefusedAt P bytes place)
      → ts ≡ s.front ++ s.rest
  same_tokens place s = k.given ∙ one_lexing bytes k.lexemes (s.front ++ s.rest) k.names s.names k.end s.end k.are s.are

  same_place : {P : Tokens → Tokens → Type 0} (place : Place) → (s : IsRefusedAt P bytes place) → rest ≡ s.rest
      → at ≡ place
  same_place place s e = k.there ∙ ap (place_at k.end) e
      ∙ ap (λ (p : Place). place_at p s.rest) (k.are.end_is ∙ sym s.are.end_is) ∙ sym s.there

  one_place : {P : Tokens → Tokens → Type 0} (place : Place) (front : Tokens) → ts ≡ front ++ rest
      → IsRefusal n front rest → (s : IsRefusedAt P bytes place) → IsRefusal n s.front s.rest
      → (front ≡ s.front) × (rest ≡ s.rest)
  one_place place front e r s q = one_refusal n [] front rest s.front s.rest (subst Plain e plain_given)
      (sym e ∙ same_tokens place s) r q

  pub syntax_told : (e : Refusal) (x : ParseFault) → x ≡ told e at → IsRefusedAs n e ts rest → (place : Place)
      → IsRefusedAt (IsSyntaxAt n) bytes place → x ≢ Memory → x ≡ Syntax place
  syntax_told refusal.Syntax x h r place s m =
      h ∙ ap Syntax (same_place place s (one_place place r.0 r.1 (inl r.2) s (inl s.told)).1)
  syntax_told refusal.Depth x h r place s m =
      let w = one_place place r.0 r.1 (inr r.2) s (inl s.told) in
      absurd (not_both n s.front s.rest s.told
      (subst (λ (y : Tokens). IsDepthAt n s.front y) w.1 (subst (λ (y : Tokens). IsDepthAt n y rest) w.0 r.2)))
  syntax_told refusal.Memory x h r place s m = absurd (m h)

  pub depth_told : (e : Refusal) (x : ParseFault) → x ≡ told e at → IsRefusedAs n e ts rest → (place : Place)
      → IsRefusedAt (IsDepthAt n) bytes place → x ≢ Memory → x ≡ Depth place
  depth_told refusal.Syntax x h r place s m =
      let w = one_place place r.0 r.1 (inl r.2) s (inr s.told) in
      absurd (not_both n s.front s.rest (subst (λ (y : Tokens). IsSyntaxAt n s.front y) w.1
      (subst (λ (y : Tokens). IsSyntaxAt n y rest) w.0 r.2)) s.told)
  depth_told refusal.Depth x h r place s m =
      h ∙ ap Depth (same_place place s (one_place place r.0 r.1 (inr r.2) s (inr s.told)).1)
  depth_told refusal.Memory x h r place s m = absurd (m h)

  -- and not where it is read
  read_refused : {P : Tokens → Tokens → Type 0} (xs : List Item) → ReadsItems n xs End ts → (place : Place)
      → (s : IsRefusedAt P bytes place) → IsRefusal n s.front s.rest → ⊥
  read_refused xs h place s r = text_stands n ts s.front s.rest plain_given
      (turns_items n n (omega arith) xs End End ts h) (same_tokens place s) r

  pub read_no_syntax : (xs : List Item) → ReadsItems n xs End ts → (place : Place)
      → IsRefusedAt (IsSyntaxAt n) bytes place → ⊥
  read_no_syntax xs h place s = read_refused xs h place s (inl s.told)

  pub read_no_depth : (xs : List Item) → ReadsItems n xs End ts → (place : Place) → IsRefusedAt (IsDepthAt n) bytes
      place → ⊥
  read_no_depth xs h place s = read_refused xs h place s (inr s.told)
