-- What a path is, token by token.
use Rattle.std.proofs.Common.{◌≡◌, true, List, [], ◌∷◌, ◌++◌, refl, sym, ap, ◌∙◌, subst}
use Rattle.ar_lexer.specs.declared.token.TokenKind.{TokenKind}
use Rattle.ar_lexer.specs.declared.token.TokenKind.TheVariants.{Name, Sign, Reserved}
use Rattle.ar_lexer.specs.declared.signs.TheConstants.{DOT}
use Rattle.ar_lexer.specs.declared.words.TheConstants.{OWNER, MAIN}
use Rattle.ar_syntax.specs.declared.paths.PathStart.TheVariants.{Here, Owner, Main}
use Rattle.ar_base.specs.Numbers.{NameId}
use Rattle.expression_grammar.specs.Words.{Form, Tokens, kind_or, token, nothing, ◌▸◌, each, separated_by, StandsAt, ReadsSome, place_at}
use Rattle.expression_grammar.specs.Paths.{ReadsName, ReadsStart, ReadsPath}
use Rattle.expression_grammar.specs.Results.{Spans, first_token_kind, is_name, is_word}
use Rattle.std.specs.Prelude.{Vec}
use Rattle.std.specs.declared.alloc.Global.{Global}
use Rattle.ar_base.specs.declared.places.Place.{Place}
use Rattle.ar_syntax.specs.declared.paths.PathStart.{PathStart}
use Rattle.expression_grammar.specs.declared.lexeme.Lexeme.{Lexeme}
use Rattle.expression_grammar.proofs.Finding.{apart, fails, then_kind, spans_then}

pub start_owner : (next : TokenKind) (ts : Tokens) → ReadsSome ReadsStart next ts → is_name next ≡ true
    → kind_or next ts ≡ Reserved OWNER → (token (Reserved OWNER) ▸ token (Sign DOT)) next ts
start_owner next ts (Here, h) s k = fails is_name s (sym (ap (kind_or next) h) ∙ k) refl
start_owner next ts (Owner, h) s k = h
start_owner next ts (Main, h) s k = apart (is_word MAIN) (then_kind h) k refl refl

pub start_main : (next : TokenKind) (ts : Tokens) → ReadsSome ReadsStart next ts → is_name next ≡ true
    → kind_or next ts ≡ Reserved MAIN → (token (Reserved MAIN) ▸ token (Sign DOT)) next ts
start_main next ts (Here, h) s k = fails is_name s (sym (ap (kind_or next) h) ∙ k) refl
start_main next ts (Owner, h) s k = apart (is_word OWNER) (then_kind h) k refl refl
start_main next ts (Main, h) s k = h

pub start_here : (next : TokenKind) (ts : Tokens) → ReadsSome ReadsStart next ts → (kind_or next ts ≡ Reserved OWNER
    → ⊥) → (kind_or next ts ≡ Reserved MAIN → ⊥) → nothing next ts
start_here next ts (Here, h) none nor = h
start_here next ts (Owner, h) none nor = absurd (none (then_kind h))
start_here next ts (Main, h) none nor = absurd (nor (then_kind h))

pub spans_name : {old new : Tokens} {t : Lexeme} → (old ≡ t ∷ new) × (t.kind ≡ Name) → Spans (ReadsName t.name) old new
spans_name {t = t} f = record {
  front = t ∷ [];
  split = f.0;
  form = record { one = t; alone = refl; of_kind = f.1; number = refl };
}

pub pushed_more : {X : Type 0} {items items' more : List X} {x : X} → items ≡ x ∷ [] → items' ≡ items ++ more
    → items' ≡ x ∷ more
pushed_more {more = more} e e' = e' ∙ ap (λ (xs : List _). xs ++ more) e

pub append_some : {X : Type 0} (a : List X) (t : X) (b : List X) → a ++ t ∷ b ≡ [] → ⊥
append_some [] t b e = absurd (cc)
append_some (x ∷ a) t b e = absurd (cc)

-- a place is that of the first token, where there is one
pub stands_there : (end : Place) (ts old new : Tokens) → old ≡ ts ++ new → (ts ≡ [] → ⊥)
    → StandsAt (place_at end old) ts
stands_there end [] old new e some = absurd (some refl)
stands_there end (t ∷ ts) old new e some = ap (place_at end) e

path_some : (start : PathStart) {n : NameId} {X : Form} {next : TokenKind} {ts : Tokens}
    → (ReadsStart start ▸ ReadsName n ▸ X) next ts → ts ≡ [] → ⊥
path_some start h z =
    append_some h.front h.second.first.one h.second.back
    (sym (h.split ∙ ap (λ (t : Tokens). h.front ++ t)
    (h.second.split ∙ ap (λ (t : Tokens). t ++ h.second.back) h.second.first.alone)) ∙ z)

-- a path, from its start, its first name and the rest
pub path_made : (end : Place) (start : PathStart) (v : Vec NameId Global) (more : List NameId)
    {old mid rest new : Tokens} {at : Place} {first : Lexeme} →
    at ≡ place_at end old → Spans (ReadsStart start) old mid → (mid ≡ first ∷ rest) × (first.kind ≡ Name)
    → Spans (each (λ x. token (Sign DOT) ▸ ReadsName x) more) rest new → v.items ≡ first.name ∷ more →
    Spans (ReadsPath (record { start = start; names = v; at = at })) old new
path_made end start v more {old} {mid} {rest} {new} {at} {first} a s f m e =
    let whole = spans_then s (spans_then (spans_name f) m) in
    record {
      front = whole.front;
      split = whole.split;
      form = record {
        there = subst (λ (p : Place). StandsAt p whole.front) (sym a)
            (stands_there end whole.front old new whole.split (path_some start whole.form));
        form = subst (λ (xs : List NameId). (ReadsStart start ▸ separated_by (Sign DOT) ReadsName xs) (first_token_kind new)
            whole.front) (sym e) whole.form;
      };
    }
