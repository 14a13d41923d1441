-- Names and paths that begin alike are one.
use Rattle.std.proofs.Common.{◌≡◌, Bool, true, List, [], ◌∷◌, ◌++◌, refl, sym, ap, ◌∙◌}
use Rattle.ar_base.specs.declared.places.Place.{Place}
use Rattle.ar_lexer.specs.declared.token.TokenKind.{TokenKind}
use Rattle.ar_lexer.specs.declared.token.TokenKind.TheVariants.{Name, Sign, Reserved}
use Rattle.ar_lexer.specs.declared.signs.TheConstants.{DOT, COMMA}
use Rattle.ar_lexer.specs.declared.words.TheConstants.{OWNER, MAIN}
use Rattle.ar_lexer.proofs.NumberLemmas.{cons_head}
use Rattle.ar_syntax.specs.declared.paths.Path.{Path}
use Rattle.ar_syntax.specs.declared.paths.PathStart.{PathStart}
use Rattle.ar_syntax.specs.declared.paths.PathStart.TheVariants.{Here, Owner, Main}
use Rattle.expression_grammar.specs.declared.lexeme.Lexeme.{Lexeme}
use Rattle.ar_base.specs.Numbers.{NameId}
use Rattle.expression_grammar.specs.Words.{Form, Tokens, kind_or, separated_by}
use Rattle.expression_grammar.specs.Paths.{ReadsName, ReadsPlacedName, ReadsNames, ReadsStart, ReadsPath}
use Rattle.expression_grammar.specs.Results.{anything, is_name, is_word, ends_path}
use Rattle.ar_grammar.specs.Results.{ends_names}
use Rattle.expression_grammar.proofs.Finding.{fails}
use Rattle.expression_grammar.proofs.ExpressionForms.{word_from}
use Rattle.ar_grammar.proofs.ExpressionForms.{path_first}
use Rattle.parser_laws.specs.Expressions.{SamePath}
use Rattle.parser_laws.proofs.Agreeing.{Agree, First, first_token, first_front, first_nothing, agree_map, agree_apart, agree_token, agree_nothing, agree_then, agree_next, agree_standing, agree_separated, along_equal}

pub agree_name : {ends : TokenKind → Bool} (x y : NameId) → Agree ends (ReadsName x) (ReadsName y) (x ≡ y)
agree_name x y = record {
  holds = λ a b rest rest' h j e s s'.
      let both : h.one ∷ rest ≡ j.one ∷ rest' =
      sym (ap (λ (t : Tokens). t ++ rest) h.alone) ∙ e ∙ ap (λ (t : Tokens). t ++ rest') j.alone in
      let one : h.one ≡ j.one = cons_head both in (
        h.number ∙ ap (λ (t : Lexeme). t.name) one ∙ sym j.number,
        h.alone ∙ ap (λ (t : Lexeme). t ∷ []) one
            ∙ sym j.alone,
      );
}

same_pair : (x y : NameId × Place) → x.0 ≡ y.0 → x.1 ≡ y.1 → x ≡ y
same_pair x y p q = λ j. (p j, q j)

pub agree_placed : {ends : TokenKind → Bool} (x y : NameId × Place)
    → Agree ends (ReadsPlacedName x) (ReadsPlacedName y) (x ≡ y)
agree_placed x y = record {
  holds = λ a b rest rest' h j e s s'.
      let both : h.one ∷ rest ≡ j.one ∷ rest' =
      sym (ap (λ (t : Tokens). t ++ rest) h.alone) ∙ e ∙ ap (λ (t : Tokens). t ++ rest') j.alone in
      let one : h.one ≡ j.one = cons_head both in (
        same_pair x y (h.number ∙ ap (λ (t : Lexeme). t.name) one ∙ sym j.number)
            (h.place ∙ ap (λ (t : Lexeme). t.at) one ∙ sym j.place),
        h.alone ∙ ap (λ (t : Lexeme). t ∷ []) one
            ∙ sym j.alone,
      );
}

pub name_first : {ends : TokenKind → Bool} (test : TokenKind → Bool) → test Name ≡ true → (x : NameId)
    → First (ReadsName x) ends test
name_first test e x = record { holds = λ next ts h s. ap test (ap (kind_or next) h.alone ∙ h.of_kind) ∙ e }

pub placed_first : {ends : TokenKind → Bool} (test : TokenKind → Bool) → test Name ≡ true → (x : NameId × Place)
    → First (ReadsPlacedName x) ends test
placed_first test e x = record { holds = λ next ts h s. ap test (ap (kind_or next) h.alone ∙ h.of_kind) ∙ e }

pub separated_first : {X : Type 0} {One : X → Form} {ends test : TokenKind → Bool} (separator : TokenKind)
    → ((x : X) → First (One x) anything test) → (xs : List X) → First (separated_by separator One xs) ends test
separated_first separator f [] = record { holds = λ next ts h s. elim h [ ] }
separated_first separator f (x ∷ xs) = first_front (f x)

-- Names = name { "," name }
pub agree_names : (xs ys : List (NameId × Place)) → Agree ends_names (ReadsNames xs) (ReadsNames ys) (xs ≡ ys)
agree_names xs ys = agree_map (agree_separated {ends = anything} (Sign COMMA) agree_placed refl refl (λ k s. refl) xs
    ys) along_equal

begins_start : PathStart → TokenKind → Bool
begins_start Here = is_name
begins_start Owner = is_word OWNER
begins_start Main = is_word MAIN

start_here : First (ReadsStart Here) is_name is_name
start_here = first_nothing (λ k e. e)

start_owner : First (ReadsStart Owner) is_name (is_word OWNER)
start_owner = first_front (first_token refl)

start_main : First (ReadsStart Main) is_name (is_word MAIN)
start_main = first_front (first_token refl)

agree_start : (s t : PathStart) → Agree is_name (ReadsStart s) (ReadsStart t) (s ≡ t)
agree_start Here Here = agree_map agree_nothing (λ r. refl)
agree_start Here Owner = agree_apart start_here start_owner (λ k e f. fails is_name e (word_from OWNER k f) refl)
agree_start Here Main = agree_apart start_here start_main (λ k e f. fails is_name e (word_from MAIN k f) refl)
agree_start Owner Here = agree_apart start_owner start_here (λ k e f. fails is_name f (word_from OWNER k e) refl)
agree_start Owner Owner = agree_map (agree_next (agree_token {ends = anything}) agree_token) (λ r. refl)
agree_start Owner Main = agree_apart start_owner start_main (λ k e f. fails (is_word OWNER) e (word_from MAIN k f) refl)
agree_start Main Here = agree_apart start_main start_here (λ k e f. fails is_name f (word_from MAIN k e) refl)
agree_start Main Owner = agree_apart start_main start_owner (λ k e f. fails (is_word OWNER) f (word_from MAIN k e) refl)
agree_start Main Main = agree_map (agree_next (agree_token {ends = anything}) agree_token) (λ r. refl)

-- Path = [ ( "owner" | "main" ) "." ] name { "." name }
pub agree_path : (p q : Path) → Agree ends_path (ReadsPath p) (ReadsPath q) (SamePath p q)
agree_path p q =
    agree_map (agree_standing (agree_then (agree_start p.start q.start)
    (separated_first (Sign DOT) (name_first is_name refl) p.names.items)
    (separated_first (Sign DOT) (name_first is_name refl) q.names.items)
    (agree_separated {ends = anything} (Sign DOT) agree_name refl refl (λ k s. refl) p.names.items q.names.items)))
    (λ r. record { start = r.1.0; names = along_equal r.1.1; place = r.0 })

pub first_path : {ends : TokenKind → Bool} (test : TokenKind → Bool) → test Name ≡ true → test (Reserved OWNER) ≡ true
    → test (Reserved MAIN) ≡ true → (p : Path) → First (ReadsPath p) ends test
first_path test name owner main p = record { holds = λ next ts h s. path_first test name owner main p next ts h }
