-- Clauses, sections and bodies before other tokens, and how they may begin.
use Rattle.std.proofs.Common.{◌≡◌, ℕ, zero, suc, ◌≤◌, ◌⊎◌, inl, inr, Bool, true, false, ◌||◌, List, [], ◌∷◌, refl, ap, ◌∙◌, subst, arith}
use Rattle.std.specs.Prelude.{◌==◌}
use Rattle.std.proofs.lemmas.Bool.{eqb-true, or_cases}
use Rattle.ar_lexer.specs.declared.token.TokenKind.{TokenKind}
use Rattle.ar_lexer.specs.declared.token.TokenKind.TheVariants.{Name, Whole, Real, Sign, Reserved, End}
use Rattle.ar_lexer.specs.declared.signs.TheConstants.{COMMA, SEMICOLON, EQUALS}
use Rattle.ar_lexer.specs.declared.words.TheConstants.{AS, ASSERTION, BLOCK, BOOLEAN, CLONES, EMBEDS, END, EVENT, EXTENDS, HIDE, OBSERVER, PARAMETER, TRANSITION}
use Rattle.ar_syntax.specs.declared.members.Member.{Member}
use Rattle.ar_syntax.specs.declared.members.TypeForm.{TypeForm}
use Rattle.ar_syntax.specs.declared.members.TypeForm.TheVariants as type_form
use Rattle.ar_syntax.specs.declared.members.Unit.{Unit as UnitTree}
use Rattle.expression_grammar.specs.declared.lexeme.Lexeme.{Lexeme}
use Rattle.expression_grammar.specs.Words.{Form, Tokens, token, deep, ◌▸◌, ◌∣◌, between, many, groups, covering}
use Rattle.ar_grammar.specs.Members as tree
use Rattle.ar_grammar.specs.Members.{kept, ReadsAssertion, ReadsTypeForm, ReadsDeclared, ReadsSingle, ReadsKeyed, ReadsUnit, ReadsMember, ReadsSection, ReadsLater, ReadsSections, ReadsBody}
use Rattle.ar_grammar.specs.Texts as text
use Rattle.expression_grammar.specs.Texts.{maybe, expr_tokens}
use Rattle.ar_grammar.specs.Texts.{instr_tokens, bracketed_tokens, is_type, declared_rest, unit_tokens, keyed_tokens, body_made_of, body_tokens}
use Rattle.ar_grammar.specs.Parts.{alias_tokens, value_tokens, single_tokens, section_of, unit_of, keyed_of, member_tokens}
use Rattle.expression_grammar.specs.Results.{BeginsForm, is_word, is_name}
use Rattle.ar_grammar.specs.Results.{begins_keyed, begins_member, begins_section, begins_body}
use Rattle.expression_grammar.proofs.ExpressionForms.{word_from}
use Rattle.expression_grammar.proofs.Standing.{Turns, turns_token, turns_then, begins_token, begins_one, begins_here, begins_nothing, begins_no_more, begins_then, begins_after, begins_map}
use Rattle.ar_grammar.proofs.Standing.{begins_maybe, begins_some}
use Rattle.expression_grammar.proofs.Turning.{turns_list, turns_path, turns_tree}
use Rattle.ar_grammar.proofs.NameForms.{turns_placed}
use Rattle.expression_grammar.proofs.Beginnings.{some_expr}
use Rattle.ar_grammar.proofs.InstrTexts.{May, Moves, moves_of, moves_token, moves_then, moves_each, moves_instr, moves_closed, moves_groups, turns_groups, some_path}
use Rattle.ar_grammar.proofs.UnreadParts.{turns_kept}
use Rattle.ar_grammar.proofs.MemberParts.{turns_type, turns_names, turns_settings, turns_event, turns_hidden, moves_transition, some_declared_rest}

-- Sections

pub moves_assertion : (n m : ℕ) → n ≤ m → (a : Member) → Moves (ReadsAssertion n a) (instr_tokens deep m)
moves_assertion n m l a = λ next next' ts y h. moves_instr n m l h.i next next' ts y h.reads

pub moves_section : (n m : ℕ) → n ≤ m → (ms : List Member) → Moves (ReadsSection n ms) (section_of m)
moves_section n m l ms = λ next next' ts y h. by_case next next' ts y h
  where
    by_case : (next next' : TokenKind) (ts : Tokens) → May next next' → ReadsSection n ms next ts
        → section_of m next' ts
    by_case next next' ts y (inl h) = inl
        (moves_then moves_token (moves_each (moves_transition n m l) ms) next next' ts y h)
    by_case next next' ts y (inr h) = inr
        (moves_then moves_token (moves_each (moves_assertion n m l) ms) next next' ts y h)

-- Clauses

-- what is declared of a type, behind the type's one token
turns_rest : (n m : ℕ) → n ≤ m → (d : Member) (f : TypeForm) (k : TokenKind)
    → ((next : TokenKind) (ts : Tokens) → ReadsTypeForm f next ts → token k next ts)
    → (next next' : TokenKind) (ts : Tokens) → (h : ReadsDeclared n d next ts) → h.type.form ≡ f
    → (token k ▸ declared_rest (expr_tokens deep m)) next' ts
turns_rest n m l d f k g next next' ts h e =
    turns_then (λ next next' ts j. turns_token next next' ts
    (g next ts (subst (λ (x : TypeForm). ReadsTypeForm x next ts) e j.form)))
    (turns_then (turns_names h.names.items) (turns_then (turns_settings n m l h.settings.items) turns_token)) next next'
    ts h.reads

-- with what may stand in the bodies of units
module _ (n m : ℕ) (l : n ≤ m) (Body : List Member → Form) (B : Form) (g : (ms : List Member) → Moves (Body ms) B) where
  turns_unit : (u : UnitTree) → Turns (ReadsUnit Body u) (unit_tokens B)
  turns_unit u = turns_then (turns_placed (u.name, u.at)) (moves_closed (g u.members.items))

  turns_single : (s : Member) → Turns (ReadsSingle n s) (keyed_tokens (expr_tokens deep m) (bracketed_tokens deep m) B)
  turns_single s = λ next next' ts h. by_case next next' ts h
    where
      by_case : (next next' : TokenKind) (ts : Tokens) → ReadsSingle n s next ts
          → keyed_tokens (expr_tokens deep m) (bracketed_tokens deep m) B next' ts
      by_case next next' ts (tree.extends name at e h) =
          text.extends (turns_then turns_token (turns_then (turns_placed (name, at)) turns_token) next next' ts h)
      by_case next next' ts (tree.boolean h e) =
          text.boolean (turns_rest n m l s type_form.Boolean (Reserved BOOLEAN) (λ next ts j. j) next next' ts h e)
      by_case next next' ts (tree.clones p name at e h) =
          text.clones (turns_then turns_token
          (turns_then (turns_path p) (turns_then turns_token (turns_then (turns_placed (name, at)) turns_token))) next
          next' ts h)
      by_case next next' ts (tree.embeds p name at e h) =
          text.embeds (turns_then turns_token
          (turns_then (turns_path p) (turns_then turns_token (turns_then (turns_placed (name, at)) turns_token))) next
          next' ts h)
      by_case next next' ts (tree.kept_value name at span e h) =
          text.kept (turns_then turns_token
          (turns_then turns_token (turns_then (turns_placed (name, at))
          (turns_then turns_token (turns_then {A = covering span (kept n)}
          (λ next next' ts j. turns_kept n m l next next' ts j.form) turns_token)))) next next' ts h)
      by_case next next' ts (tree.parameter type name at value e h) =
          text.parameter (turns_then turns_token
          (turns_then (turns_type type) (turns_then (turns_placed (name, at))
          (turns_then turns_token (turns_then (turns_tree n m l value) turns_token)))) next next' ts h)
      by_case next next' ts (tree.observer type name at value e h) =
          text.observer (turns_then turns_token
          (turns_then (turns_type type) (turns_then (turns_placed (name, at))
          (turns_then turns_token (turns_then (turns_tree n m l value) turns_token)))) next next' ts h)

  turns_keyed : (ms : List Member) → Turns (ReadsKeyed n Body ms)
      (keyed_tokens (expr_tokens deep m) (bracketed_tokens deep m) B)
  turns_keyed ms = λ next next' ts h. by_case next next' ts h
    where
      by_case : (next next' : TokenKind) (ts : Tokens) → ReadsKeyed n Body ms next ts
          → keyed_tokens (expr_tokens deep m) (bracketed_tokens deep m) B next' ts
      by_case next next' ts (tree.single s e h) = turns_single s next next' ts h
      by_case next next' ts (tree.block u e h) = text.block (turns_then turns_token (turns_unit u) next next' ts h)
      by_case next next' ts (tree.event h) =
          text.event (turns_then turns_token
          (turns_then (turns_list (tree.ReadsEvent n) _ (Sign COMMA) (turns_event n m l) ms) turns_token) next next' ts
          h)
      by_case next next' ts (tree.hide h) =
          text.hide (turns_then turns_token
          (turns_then (turns_list tree.ReadsHidden _ (Sign COMMA) turns_hidden ms) turns_token) next next' ts h)

  turns_member : (ms : List Member) → Turns (ReadsMember n Body ms)
      (keyed_tokens (expr_tokens deep m) (bracketed_tokens deep m) B
      ∣ (token Name ▸ declared_rest (expr_tokens deep m)))
  turns_member ms = λ next next' ts h. by_case next next' ts h
    where
      by_case : (next next' : TokenKind) (ts : Tokens) → ReadsMember n Body ms next ts
          → (keyed_tokens (expr_tokens deep m) (bracketed_tokens deep m) B
          ∣ (token Name ▸ declared_rest (expr_tokens deep m)))
          next' ts
      by_case next next' ts (tree.keyed h) = inl (turns_keyed ms next next' ts h)
      by_case next next' ts (tree.named d e h name f) =
          inr (turns_rest n m l d (type_form.Named name) Name
          (λ next ts j. record { one = j.one; alone = j.alone; of_kind = j.of_kind }) next next' ts h f)

  moves_later : (ms : List Member) → Moves (ReadsLater n Body ms)
      (section_of m ∣ keyed_tokens (expr_tokens deep m) (bracketed_tokens deep m) B)
  moves_later ms = λ next next' ts y h. by_case next next' ts y h
    where
      by_case : (next next' : TokenKind) (ts : Tokens) → May next next' → ReadsLater n Body ms next ts
          → (section_of m ∣ keyed_tokens (expr_tokens deep m) (bracketed_tokens deep m) B) next' ts
      by_case next next' ts y (inl h) = inl (moves_section n m l ms next next' ts y h)
      by_case next next' ts y (inr h) = inr (turns_keyed ms next next' ts h)

  moves_sections : (ms : List Member)
      → Moves (ReadsSections n Body ms) (maybe
      (section_of m ▸ many (section_of m ∣ keyed_tokens (expr_tokens deep m) (bracketed_tokens deep m) B)))
  moves_sections ms = λ next next' ts y h. by_case next next' ts y h
    where
      by_case : (next next' : TokenKind) (ts : Tokens) → May next next' → ReadsSections n Body ms next ts
          → maybe (section_of m ▸ many (section_of m ∣ keyed_tokens (expr_tokens deep m) (bracketed_tokens deep m) B))
          next'
          ts
      by_case next next' ts y (tree.none e h) = inl h
      by_case next next' ts y (tree.some xs ys e h) =
          inr (moves_then (moves_section n m l xs) (moves_groups moves_later ys) next next' ts y h)

  moves_inside : (ms : List Member) → Moves (tree.ReadsBodyOf n Body ms)
      (body_made_of (expr_tokens deep m) (instr_tokens deep m) (bracketed_tokens deep m) B)
  moves_inside ms = λ next next' ts y h. moves_then (moves_of (turns_groups turns_member h.xs)) (moves_sections h.ys)
      next next' ts y h.reads

body_case : (n m : ℕ) → n ≤ m → (ms : List Member) (next next' : TokenKind) (ts : Tokens) → May next next'
    → ReadsBody n ms next ts → body_tokens deep m next' ts
body_case zero zero l ms next next' ts y h = inl h.1
body_case zero (suc m) l ms next next' ts y h =
    record { front = []; back = ts; split = refl; first = ([], refl); second = inl h.1 }
body_case (suc n) zero l ms next next' ts y h = absurd (omega (arith, l))
body_case (suc n) (suc m) l ms next next' ts y h =
    moves_inside n m (omega (arith, l)) (ReadsBody n) (body_tokens deep m)
    (λ xs next next' ts z j. body_case n m (omega (arith, l)) xs next next' ts z j) ms next next' ts y h

pub moves_body : (n m : ℕ) → n ≤ m → (ms : List Member) → Moves (ReadsBody n ms) (body_tokens deep m)
moves_body n m l ms = λ next next' ts y h. body_case n m l ms next next' ts y h

pub turns_a_unit : (n m : ℕ) → n ≤ m → (u : UnitTree) → Turns (ReadsUnit (ReadsBody n) u) (unit_of m)
turns_a_unit n m l u = turns_unit n m l (ReadsBody n) (body_tokens deep m) (moves_body n m l) u

pub turns_members : (n m : ℕ) → n ≤ m → (ms : List Member)
    → Turns (groups (ReadsMember n (ReadsBody n)) ms) (many (member_tokens m))
turns_members n m l ms = turns_groups (turns_member n m l (ReadsBody n) (body_tokens deep m) (moves_body n m l)) ms

pub moves_laters : (n m : ℕ) → n ≤ m → (ms : List Member)
    → Moves (groups (ReadsLater n (ReadsBody n)) ms) (many (section_of m ∣ keyed_of m))
moves_laters n m l ms = moves_groups (moves_later n m l (ReadsBody n) (body_tokens deep m) (moves_body n m l)) ms

-- Texts to come

pub some_body : (m : ℕ) → BeginsForm (body_tokens deep m) []
some_body zero = begins_map begins_nothing (λ next ts h. inl h)
some_body (suc m) = begins_then begins_no_more begins_maybe

pub some_unit : (m : ℕ) → BeginsForm (unit_of m) []
some_unit m = begins_then (begins_token Name) (begins_then (some_body m) (begins_token (Reserved END)))

pub some_as : BeginsForm (between (Reserved AS) (Sign SEMICOLON) (token Name)) []
some_as = begins_then (begins_token (Reserved AS)) (begins_then (begins_token Name) (begins_token (Sign SEMICOLON)))

pub some_alias : BeginsForm alias_tokens []
some_alias = begins_then some_path some_as

pub some_equals : (m : ℕ) → BeginsForm (between (Sign EQUALS) (Sign SEMICOLON) (expr_tokens deep m)) []
some_equals m = begins_then (begins_token (Sign EQUALS)) (begins_then (some_expr m) (begins_token (Sign SEMICOLON)))

pub some_value : (m : ℕ) → BeginsForm (value_tokens m) []
some_value m = begins_then (begins_one {test = is_type} Name refl) (begins_then (begins_token Name) (some_equals m))

pub some_keyed : (m : ℕ) → BeginsForm (keyed_of m) []
some_keyed m = begins_map (begins_then (begins_token (Reserved EXTENDS))
    (begins_then (begins_token Name) (begins_token (Sign SEMICOLON)))) (λ next ts h. text.extends h)

pub some_single : (m : ℕ) → BeginsForm (single_tokens m) []
some_single m = begins_map (begins_then (begins_token (Reserved EXTENDS))
    (begins_then (begins_token Name) (begins_token (Sign SEMICOLON)))) (λ next ts h. inl h)

pub some_member : (m : ℕ) → BeginsForm (member_tokens m) []
some_member m = begins_map (some_keyed m) (λ next ts h. inl h)

-- Texts of which the first token was passed

nine : (a b c d e f g h i : Bool) → (a || b || c || d || e || f || g || h || i) ≡ true
    → (a ≡ true) ⊎ ((b ≡ true) ⊎ ((c ≡ true)
    ⊎ ((d ≡ true) ⊎ ((e ≡ true) ⊎ ((f ≡ true) ⊎ ((g ≡ true) ⊎ ((h ≡ true) ⊎ (i ≡ true))))))))
nine true b c d e f g h i p = inl refl
nine false true c d e f g h i p = inr (inl refl)
nine false false true d e f g h i p = inr (inr (inl refl))
nine false false false true e f g h i p = inr (inr (inr (inl refl)))
nine false false false false true f g h i p = inr (inr (inr (inr (inl refl))))
nine false false false false false true g h i p = inr (inr (inr (inr (inr (inl refl)))))
nine false false false false false false true h i p = inr (inr (inr (inr (inr (inr (inl refl))))))
nine false false false false false false false true i p = inr (inr (inr (inr (inr (inr (inr (inl refl)))))))
nine false false false false false false false false i p = inr (inr (inr (inr (inr (inr (inr (inr p)))))))

keyed_at : (m : ℕ) (t : Lexeme) → begins_keyed t.kind ≡ true → BeginsForm (keyed_of m) (t ∷ [])
keyed_at m t h = by_kind t.kind refl h
  where
    by_word : (w : ℕ) → t.kind ≡ Reserved w →
        ((w == EXTENDS) ≡ true) ⊎ (((w == BOOLEAN) ≡ true)
        ⊎ (((w == BLOCK) ≡ true) ⊎ (((w == CLONES) ≡ true)
        ⊎ (((w == EMBEDS) ≡ true) ⊎ (((w == PARAMETER) ≡ true)
        ⊎ (((w == EVENT) ≡ true) ⊎ (((w == OBSERVER) ≡ true) ⊎ ((w == HIDE) ≡ true))))))))
        → BeginsForm (keyed_of m) (t ∷ [])
    by_word w e (inl q) = begins_map (begins_then
        (begins_here t (Reserved EXTENDS) (e ∙ ap Reserved (eqb-true w EXTENDS q)))
        (begins_then (begins_token Name) (begins_token (Sign SEMICOLON)))) (λ next ts h. text.extends h)
    by_word w e (inr (inl q)) = begins_map
        (begins_then (begins_here t (Reserved BOOLEAN) (e ∙ ap Reserved (eqb-true w BOOLEAN q))) (some_declared_rest m))
        (λ next ts h. text.boolean h)
    by_word w e (inr (inr (inl q))) = begins_map
        (begins_then (begins_here t (Reserved BLOCK) (e ∙ ap Reserved (eqb-true w BLOCK q))) (some_unit m))
        (λ next ts h. text.block h)
    by_word w e (inr (inr (inr (inl q)))) =
        begins_map (begins_then (begins_here t (Reserved CLONES) (e ∙ ap Reserved (eqb-true w CLONES q))) some_alias)
        (λ next ts h. text.clones h)
    by_word w e (inr (inr (inr (inr (inl q))))) =
        begins_map (begins_then (begins_here t (Reserved EMBEDS) (e ∙ ap Reserved (eqb-true w EMBEDS q))) some_alias)
        (λ next ts h. text.embeds h)
    by_word w e (inr (inr (inr (inr (inr (inl q)))))) =
        begins_map (begins_then (begins_here t (Reserved PARAMETER) (e ∙ ap Reserved (eqb-true w PARAMETER q)))
        (some_value m)) (λ next ts h. text.parameter h)
    by_word w e (inr (inr (inr (inr (inr (inr (inl q))))))) =
        begins_map (begins_then (begins_here t (Reserved EVENT) (e ∙ ap Reserved (eqb-true w EVENT q)))
        (begins_then (begins_then (begins_then (begins_token Name) begins_maybe) begins_no_more)
        (begins_token (Sign SEMICOLON)))) (λ next ts h. text.event h)
    by_word w e (inr (inr (inr (inr (inr (inr (inr (inl q)))))))) =
        begins_map (begins_then (begins_here t (Reserved OBSERVER) (e ∙ ap Reserved (eqb-true w OBSERVER q)))
        (some_value m)) (λ next ts h. text.observer h)
    by_word w e (inr (inr (inr (inr (inr (inr (inr (inr q)))))))) =
        begins_map (begins_then (begins_here t (Reserved HIDE) (e ∙ ap Reserved (eqb-true w HIDE q)))
        (begins_then (begins_then some_path begins_no_more) (begins_token (Sign SEMICOLON)))) (λ next ts h. text.hide h)

    by_kind : (k : TokenKind) → t.kind ≡ k → begins_keyed k ≡ true → BeginsForm (keyed_of m) (t ∷ [])
    by_kind (Reserved w) e h = by_word w e
        (nine (w == EXTENDS) (w == BOOLEAN) (w == BLOCK) (w == CLONES) (w == EMBEDS) (w == PARAMETER) (w == EVENT)
        (w == OBSERVER) (w == HIDE) h)
    by_kind Name e h = absurd (cc)
    by_kind (Whole z) e h = absurd (cc)
    by_kind Real e h = absurd (cc)
    by_kind (Sign s) e h = absurd (cc)
    by_kind End e h = absurd (cc)

section_at : (m : ℕ) (t : Lexeme) → begins_section t.kind ≡ true → BeginsForm (section_of m) (t ∷ [])
section_at m t h = by_either (or_cases (is_word TRANSITION t.kind) (is_word ASSERTION t.kind) h)
  where
    by_either : (is_word TRANSITION t.kind ≡ true) ⊎ (is_word ASSERTION t.kind ≡ true) → BeginsForm (section_of m) (t ∷ [])
    by_either (inl q) = begins_map (begins_then (begins_here t (Reserved TRANSITION) (word_from TRANSITION t.kind q))
        begins_no_more) (λ next ts h. inl h)
    by_either (inr q) = begins_map (begins_then (begins_here t (Reserved ASSERTION) (word_from ASSERTION t.kind q))
        begins_no_more) (λ next ts h. inr h)

name_from : (k : TokenKind) → is_name k ≡ true → k ≡ Name
name_from Name h = refl
name_from (Whole z) h = absurd (cc)
name_from Real h = absurd (cc)
name_from (Sign s) h = absurd (cc)
name_from (Reserved w) h = absurd (cc)
name_from End h = absurd (cc)

member_at : (m : ℕ) (t : Lexeme) → begins_member t.kind ≡ true → BeginsForm (member_tokens m) (t ∷ [])
member_at m t h = by_either (or_cases (is_name t.kind) (begins_keyed t.kind) h)
  where
    by_either : (is_name t.kind ≡ true) ⊎ (begins_keyed t.kind ≡ true) → BeginsForm (member_tokens m) (t ∷ [])
    by_either (inl q) = begins_map (begins_then (begins_here t Name (name_from t.kind q)) (some_declared_rest m))
        (λ next ts h. inr h)
    by_either (inr q) = begins_map (keyed_at m t q) (λ next ts h. inl h)

pub body_at : (m : ℕ) (t : Lexeme) → begins_body t.kind ≡ true → BeginsForm (body_tokens deep (suc m)) (t ∷ [])
body_at m t h = by_either (or_cases (begins_section t.kind) (begins_member t.kind) h)
  where
    by_either : (begins_section t.kind ≡ true) ⊎ (begins_member t.kind ≡ true)
        → BeginsForm (body_tokens deep (suc m)) (t ∷ [])
    by_either (inl q) = begins_after (λ next. ([], refl))
        (begins_map (begins_then (section_at m t q) begins_no_more) (λ next ts h. inr h))
    by_either (inr q) = begins_then (begins_some (member_at m t q)) begins_maybe
