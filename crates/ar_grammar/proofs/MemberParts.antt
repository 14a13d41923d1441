-- What the parts of members are, token by token.
use Rattle.std.proofs.Common.{◌≡◌, ◌≢◌, ℕ, ◌≤◌, ◌⊎◌, inl, inr, Bool, true, List, [], ◌∷◌, ◌++◌, Vec, refl, sym, ap, ◌∙◌, subst, append_assoc, false}
use Rattle.std.specs.Prelude.{◌==◌}
use Rattle.std.proofs.lemmas.Bool.{eqb-true, or_cases}
use Rattle.std.specs.declared.alloc.Global.{Global}
use Rattle.ar_base.specs.declared.places.Place.{Place}
use Rattle.ar_lexer.specs.declared.token.TokenKind.{TokenKind}
use Rattle.ar_lexer.specs.declared.token.TokenKind.TheVariants.{Name, Whole, Real, Sign, Reserved, End}
use Rattle.ar_lexer.specs.declared.signs.TheConstants.{OPEN_PARENTHESIS, CLOSE_PARENTHESIS, COMMA, SEMICOLON, DOT, EQUALS}
use Rattle.ar_lexer.specs.declared.words.TheConstants.{BOOLEAN, INIT, INTEGER, RESET}
use Rattle.ar_syntax.specs.declared.expressions.RawExpr.{RawExpr}
use Rattle.ar_syntax.specs.declared.members.Setting.{Setting}
use Rattle.ar_syntax.specs.declared.members.TypeName.{TypeName}
use Rattle.ar_syntax.specs.declared.members.TypeForm.{TypeForm}
use Rattle.ar_syntax.specs.declared.members.TypeForm.TheVariants as type_form
use Rattle.ar_syntax.specs.declared.members.Word.{Word}
use Rattle.ar_syntax.specs.declared.members.Word.TheVariants as word
use Rattle.ar_base.specs.Numbers.{NameId}
use Rattle.expression_grammar.specs.Words.{Form, Tokens, kind_or, token, deep, ◌▸◌, nothing, each, many, separated_by, standing, StandsAt, place_at, between, ◌∣◌}
use Rattle.expression_grammar.specs.Paths.{ReadsName, ReadsPlacedName, ReadsNames}
use Rattle.expression_grammar.specs.Expressions.{Node, ReadsExpr}
use Rattle.ar_grammar.specs.Members.{ReadsType, ReadsTypeForm, ReadsWord, ReadsSetting, ReadsSettings}
use Rattle.expression_grammar.specs.Texts.{one_of, list_of, names_tokens, expr_tokens}
use Rattle.ar_grammar.specs.Texts.{is_type, is_target_word, setting_tokens, settings_tokens}
use Rattle.expression_grammar.specs.Results.{first_token_kind, Spans, BeginsForm, anything, ends_expr, ends_list, is_sign}
use Rattle.ar_grammar.specs.Results.{ends_names, ends_attribute}
use Rattle.expression_grammar.proofs.Finding.{Follows, kind_join, fails, token_kind, then_kind, follows_many, spans_then}
use Rattle.expression_grammar.proofs.PathForms.{stands_there}
use Rattle.expression_grammar.proofs.ExpressionForms.{then_map, then_assoc, then_some, token_some, sign_from}
use Rattle.expression_grammar.proofs.TextParts.{first_of, one_kind, one_as}
use Rattle.expression_grammar.proofs.Standing.{Turns, turns_token, turns_then, begins_token, begins_one, begins_no_more, begins_then}
use Rattle.expression_grammar.proofs.Turning.{turns_list, turns_tree}
use Rattle.ar_grammar.proofs.NameForms.{turns_placed}
use Rattle.expression_grammar.proofs.Beginnings.{some_expr}
use Rattle.std.specs.Prelude.{if◌then◌else◌}
use Rattle.ar_lexer.specs.declared.signs.TheConstants.{AMPERSAND, ARROW, COLON, EXCLAMATION, QUESTION}
use Rattle.ar_syntax.specs.declared.members.Member.{Member}
use Rattle.ar_syntax.specs.declared.members.Member.TheVariants as member
use Rattle.ar_syntax.specs.declared.members.Part.{Part}
use Rattle.ar_syntax.specs.declared.instructions.Instr.{Instr}
use Rattle.ar_grammar.specs.Instructions.{ReadsInstr}
use Rattle.ar_grammar.specs.Members.{ReadsEvent, ReadsHidden, ReadsPart, ReadsTransition, sync, local}
use Rattle.expression_grammar.specs.Texts.{path_tokens}
use Rattle.ar_grammar.specs.Texts.{is_part, declared_rest}
use Rattle.ar_grammar.specs.Parts.{event_tokens, part_tokens, parts_tokens, guarded_tokens, transition_form}
use Rattle.expression_grammar.specs.Results.{ends_path, begins_expr}
use Rattle.ar_grammar.specs.Results.{ends_semicolon, begins_part}
use Rattle.expression_grammar.proofs.Finding.{spans_map}
use Rattle.expression_grammar.proofs.ExpressionForms.{then_unassoc}
use Rattle.expression_grammar.proofs.TextParts.{expr_begins}
use Rattle.expression_grammar.proofs.Standing.{begins_map, begins_nothing}
use Rattle.expression_grammar.proofs.Turning.{turns_path}
use Rattle.ar_grammar.proofs.InstrTexts.{May, Moves, moves_of, moves_then, moves_instr, some_instr}
use Rattle.ar_grammar.proofs.UnreadParts.{turns_attribute}

-- a form that stands where it begins
pub stand_made : (A : Form) (end : Place) (at : Place) {old new : Tokens} → at ≡ place_at end old → Spans A old new
    → ((next : TokenKind) (ts : Tokens) → A next ts → ts ≡ [] → ⊥) → Spans (standing at A) old new
stand_made A end at {old} {new} e s some = record {
  front = s.front;
  split = s.split;
  form = record {
    there = subst (λ (p : Place). StandsAt p s.front) (sym e)
        (stands_there end s.front old new s.split (some (first_token_kind new) s.front s.form));
    form = s.form;
  };
}

pub name_some : (id : NameId) (next : TokenKind) (ts : Tokens) → ReadsName id next ts → ts ≡ [] → ⊥
name_some id next ts h z = let q : h.one ∷ [] ≡ [] = sym h.alone ∙ z in absurd (cc)

-- Words

pub word_some : (w : Word) (next : TokenKind) (ts : Tokens) → ReadsWord w next ts → ts ≡ [] → ⊥
word_some (word.Name id) = name_some id
word_some word.Init = token_some (Reserved INIT)
word_some word.Reset = token_some (Reserved RESET)

-- x { separator x }, as one form and the rest
pub separated_made : {X : Type 0} (separator : TokenKind) (One : X → Form) (x : X) (more items : List X)
    {old mid new : Tokens} → items ≡ x ∷ more → Spans (One x) old mid
    → Spans (each (λ y. token separator ▸ One y) more) mid new → Spans (separated_by separator One items) old new
separated_made separator One x more items {old} {mid} {new} e a b =
    subst (λ (xs : List _). Spans (separated_by separator One xs) old new) (sym e) (spans_then a b)

-- what is pushed behind the first
pub pushed_both : {X : Type 0} (old more : List X) (x : X) {mid new : List X} → mid ≡ old ++ x ∷ [] → new ≡ mid ++ more
    → new ≡ old ++ x ∷ more
pushed_both old more x e e' = e' ∙ ap (λ (xs : List _). xs ++ more) e ∙ append_assoc old (x ∷ []) more

-- many behind separators, before a token that ends them
pub separated_follow : (separator last : TokenKind) (A : ℕ → Form) (ends ends' : TokenKind → Bool)
    → ends separator ≡ true → ((k : TokenKind) → ends' k ≡ true → ends k ≡ true) → ends' last ≡ true
    → Follows (λ n. many (token separator ▸ A n) ▸ token last) ends anything
separated_follow separator last A ends ends' e weaker l = record {
  holds = λ n next ts h s.
      ap ends (ap (kind_or next) h.split ∙ kind_join h.front h.back next)
      ∙ (follows_many {A = λ n. token separator ▸ A n} {ends = ends} {ends' = ends'}
      (λ n next ts g. ap ends (then_kind g) ∙ e) weaker).holds n (kind_or next h.back) h.front h.first
      (ap ends' (token_kind h.second) ∙ l);
}

pub separated_more : (separator : TokenKind) (A : ℕ → Form) (ends ends' : TokenKind → Bool) → ends separator ≡ true
    → ((k : TokenKind) → ends' k ≡ true → ends k ≡ true) → Follows (λ n. many (token separator ▸ A n)) ends ends'
separated_more separator A ends ends' e weaker = follows_many (λ n next ts g. ap ends (then_kind g) ∙ e) weaker

-- Settings

pub list_end : (k : TokenKind) → ends_list k ≡ true → ends_expr k ≡ true
list_end k h = ap ends_expr (sign_from CLOSE_PARENTHESIS k h)

target_some : (xs : List Word) (next : TokenKind) (ts : Tokens) → separated_by (Sign DOT) ReadsWord xs next ts → ts ≡ []
    → ⊥
target_some [] next ts h z = h
target_some (x ∷ xs) next ts h z = then_some h (word_some x) z

pub setting_made : (n : ℕ) (end : Place) (at : Place) (target : Vec Word Global) (value : RawExpr)
    {old a b new : Tokens} → at ≡ place_at end old → Spans (separated_by (Sign DOT) ReadsWord target.items) old a
    → Spans (token (Sign EQUALS)) a b → Spans (Node (ReadsExpr n) value) b new
    → Spans (ReadsSetting n (record { target = target; at = at; value = value })) old new
setting_made n end at target value e s t v =
    spans_then (stand_made (separated_by (Sign DOT) ReadsWord target.items) end at e s (target_some target.items))
    (spans_then t v)

pub settings_made : (n : ℕ) (x : Setting) (more items : List Setting) {old a b c new : Tokens} → items ≡ x ∷ more
    → Spans (token (Sign OPEN_PARENTHESIS)) old a → Spans (ReadsSetting n x) a b
    → Spans (each (λ s. token (Sign COMMA) ▸ ReadsSetting n s) more) b c → Spans (token (Sign CLOSE_PARENTHESIS)) c new
    → Spans (ReadsSettings n items) old new
settings_made n x more items {old} {new = new} e o f m d =
    subst (λ (xs : List Setting). Spans (ReadsSettings n xs) old new) (sym e)
    (spans_then o (spans_then (spans_then f m) d))

-- Texts

pub type_named : (next : TokenKind) (ts : Tokens) → one_of is_type next ts → kind_or next ts ≢ Reserved BOOLEAN
    → kind_or next ts ≢ Reserved INTEGER → token Name next ts
type_named next ts h k l = one_as h (by_kind (kind_or next ts) (one_kind h) k l)
  where
    by_kind : (k : TokenKind) → is_type k ≡ true → k ≢ Reserved BOOLEAN → k ≢ Reserved INTEGER → k ≡ Name
    by_kind Name e b i = refl
    by_kind (Reserved w) e b i = by_word (or_cases (w == BOOLEAN) (w == INTEGER) e)
      where
        by_word : ((w == BOOLEAN) ≡ true) ⊎ ((w == INTEGER) ≡ true) → Reserved w ≡ Name
        by_word (inl q) = absurd (b (ap Reserved (eqb-true w BOOLEAN q)))
        by_word (inr q) = absurd (i (ap Reserved (eqb-true w INTEGER q)))
    by_kind (Whole n) e b i = absurd (cc)
    by_kind Real e b i = absurd (cc)
    by_kind (Sign s) e b i = absurd (cc)
    by_kind End e b i = absurd (cc)

pub word_named : (next : TokenKind) (ts : Tokens) → one_of is_target_word next ts → kind_or next ts ≢ Reserved INIT
    → kind_or next ts ≢ Reserved RESET → token Name next ts
word_named next ts h k l = one_as h (by_kind (kind_or next ts) (one_kind h) k l)
  where
    by_kind : (k : TokenKind) → is_target_word k ≡ true → k ≢ Reserved INIT → k ≢ Reserved RESET → k ≡ Name
    by_kind Name e b i = refl
    by_kind (Reserved w) e b i = by_word (or_cases (w == INIT) (w == RESET) e)
      where
        by_word : ((w == INIT) ≡ true) ⊎ ((w == RESET) ≡ true) → Reserved w ≡ Name
        by_word (inl q) = absurd (b (ap Reserved (eqb-true w INIT q)))
        by_word (inr q) = absurd (i (ap Reserved (eqb-true w RESET q)))
    by_kind (Whole n) e b i = absurd (cc)
    by_kind Real e b i = absurd (cc)
    by_kind (Sign s) e b i = absurd (cc)
    by_kind End e b i = absurd (cc)

pub settings_none : (n : ℕ) (next : TokenKind) (ts : Tokens) → settings_tokens (expr_tokens deep n) next ts
    → kind_or next ts ≢ Sign OPEN_PARENTHESIS → nothing next ts
settings_none n next ts (inl h) k = h
settings_none n next ts (inr h) k = absurd (k (then_kind h))

pub settings_parts : (n : ℕ) (next : TokenKind) (ts : Tokens) → settings_tokens (expr_tokens deep n) next ts
    → ends_attribute next ≡ true → kind_or next ts ≡ Sign OPEN_PARENTHESIS
    → (token (Sign OPEN_PARENTHESIS) ▸ setting_tokens (expr_tokens deep n) ▸ many
    (token (Sign COMMA) ▸ setting_tokens (expr_tokens deep n)) ▸ token (Sign CLOSE_PARENTHESIS)) next ts
settings_parts n next ts (inl h) s k = fails ends_attribute s (sym (ap (kind_or next) h) ∙ k) refl
settings_parts n next ts (inr h) s k = then_map h (λ next ts j. j) (λ next ts j. then_assoc j)

settings_starts : (test : TokenKind → Bool) → test (Sign OPEN_PARENTHESIS) ≡ true
    → (n : ℕ) (next : TokenKind) (ts : Tokens) → settings_tokens (expr_tokens deep n) next ts → test next ≡ true
    → test (kind_or next ts) ≡ true
settings_starts test open_too n next ts (inl h) s = ap test (ap (kind_or next) h) ∙ s
settings_starts test open_too n next ts (inr h) s = ap test (then_kind h) ∙ open_too

pub names_follow : Follows (λ n. settings_tokens (expr_tokens deep n) ▸ token (Sign SEMICOLON)) ends_names anything
names_follow = record {
  holds = λ n next ts h s. ap ends_names (first_of h)
      ∙ settings_starts ends_names refl n (kind_or next h.back) h.front h.first (ap ends_names (token_kind h.second));
}

pub turns_type : (t : TypeName) → Turns (ReadsType t) (one_of is_type)
turns_type t = λ next next' ts h. by_form t.form next ts h.form
  where
    by_form : (f : TypeForm) (next : TokenKind) (ts : Tokens) → ReadsTypeForm f next ts → {next' : TokenKind}
        → one_of is_type next' ts
    by_form type_form.Boolean next ts g = record { one = g.one; alone = g.alone; passes = ap is_type g.of_kind }
    by_form type_form.Integer next ts g = record { one = g.one; alone = g.alone; passes = ap is_type g.of_kind }
    by_form (type_form.Named id) next ts g = record { one = g.one; alone = g.alone; passes = ap is_type g.of_kind }

pub turns_word : (w : Word) → Turns (ReadsWord w) (one_of is_target_word)
turns_word (word.Name id) = λ next next' ts g. record
    { one = g.one; alone = g.alone; passes = ap is_target_word g.of_kind }
turns_word word.Init = λ next next' ts g. record { one = g.one; alone = g.alone; passes = ap is_target_word g.of_kind }
turns_word word.Reset = λ next next' ts g. record { one = g.one; alone = g.alone; passes = ap is_target_word g.of_kind }

pub turns_target : (xs : List Word)
    → Turns (separated_by (Sign DOT) ReadsWord xs) (list_of (Sign DOT) (one_of is_target_word))
turns_target xs = turns_list ReadsWord (one_of is_target_word) (Sign DOT) turns_word xs

pub turns_setting : (n m : ℕ) → n ≤ m → (s : Setting) → Turns (ReadsSetting n s) (setting_tokens (expr_tokens deep m))
turns_setting n m l s = turns_then (λ next next' ts h. turns_target s.target.items next next' ts h.form)
    (turns_then turns_token (turns_tree n m l s.value))

pub turns_settings : (n m : ℕ) → n ≤ m → (xs : List Setting)
    → Turns (ReadsSettings n xs) (settings_tokens (expr_tokens deep m))
turns_settings n m l [] = λ next next' ts h. inl h
turns_settings n m l (s ∷ more) = λ next next' ts h. inr
    (turns_then turns_token (turns_then
    (turns_list (ReadsSetting n) (setting_tokens (expr_tokens deep m)) (Sign COMMA) (turns_setting n m l) (s ∷ more))
    turns_token) next next' ts h)

pub turns_names : (xs : List (NameId × Place)) → Turns (ReadsNames xs) names_tokens
turns_names xs = turns_list ReadsPlacedName (token Name) (Sign COMMA) turns_placed xs

pub some_setting : (m : ℕ) → BeginsForm (setting_tokens (expr_tokens deep m)) []
some_setting m = begins_then (begins_then (begins_one {test = is_target_word} Name refl) begins_no_more)
    (begins_then (begins_token (Sign EQUALS)) (some_expr m))

-- Declarations before any token

pub some_declared_rest : (m : ℕ) → BeginsForm (declared_rest (expr_tokens deep m)) []
some_declared_rest m = begins_then (begins_then (begins_token Name) begins_no_more)
    (begins_then (begins_map begins_nothing (λ next ts h. inl h)) (begins_token (Sign SEMICOLON)))

-- Events

pub semicolon_attribute : (k : TokenKind) → ends_semicolon k ≡ true → ends_attribute k ≡ true
semicolon_attribute k h = ap ends_attribute (sign_from SEMICOLON k h)

pub semicolon_path : (k : TokenKind) → ends_semicolon k ≡ true → ends_path k ≡ true
semicolon_path k h = ap ends_path (sign_from SEMICOLON k h)

-- a list between two tokens, as its first, the rest and the end
pub listed_parts : {A : Form} {opens closes separator next : TokenKind} {ts : Tokens}
    → between opens closes (list_of separator A) next ts
    → (token opens ▸ A ▸ many (token separator ▸ A) ▸ token closes) next ts
listed_parts h = then_map h (λ next ts j. j) (λ next ts j. then_assoc j)

pub turns_event : (n m : ℕ) → n ≤ m → (e : Member) → Turns (ReadsEvent n e) (event_tokens m)
turns_event n m l e = λ next next' ts h. turns_then (turns_placed (h.name, h.at)) (turns_attribute n m l h.attribute)
    next next' ts h.reads

pub turns_hidden : (e : Member) → Turns (ReadsHidden e) path_tokens
turns_hidden e = λ next next' ts h. turns_path h.event next next' ts h.reads

-- what stands behind the first of a list that closes
pub begins_list_end : {A : Form} {separator closes : TokenKind} → BeginsForm (many (token separator ▸ A) ▸ token closes) []
begins_list_end {closes = closes} = begins_then begins_no_more (begins_token closes)

-- Parts of a synchronisation

pub part_must : (next : TokenKind) (ts : Tokens) → one_of is_part next ts → kind_or next ts ≢ Sign EXCLAMATION
    → token (Sign QUESTION) next ts
part_must next ts h k = one_as h (by_kind (kind_or next ts) (one_kind h) k)
  where
    by_kind : (k : TokenKind) → is_part k ≡ true → k ≢ Sign EXCLAMATION → k ≡ Sign QUESTION
    by_kind (Sign s) e n = by_either (or_cases (s == EXCLAMATION) (s == QUESTION) e)
      where
        by_either : ((s == EXCLAMATION) ≡ true) ⊎ ((s == QUESTION) ≡ true) → Sign s ≡ Sign QUESTION
        by_either (inl q) = absurd (n (ap Sign (eqb-true s EXCLAMATION q)))
        by_either (inr q) = ap Sign (eqb-true s QUESTION q)
    by_kind Name e n = absurd (cc)
    by_kind (Whole z) e n = absurd (cc)
    by_kind Real e n = absurd (cc)
    by_kind (Reserved w) e n = absurd (cc)
    by_kind End e n = absurd (cc)

pub turns_must : (must : Bool) → Turns (token (Sign (if must then EXCLAMATION else QUESTION))) (one_of is_part)
turns_must true = λ next next' ts h. record { one = h.one; alone = h.alone; passes = ap is_part h.of_kind }
turns_must false = λ next next' ts h. record { one = h.one; alone = h.alone; passes = ap is_part h.of_kind }

pub turns_part : (p : Part) → Turns (ReadsPart p) part_tokens
turns_part p = turns_then (turns_must p.must) (turns_path p.event)

begins_part_from : (k : TokenKind) → is_part k ≡ true → begins_part k ≡ true
begins_part_from (Sign s) e = by_either (or_cases (s == EXCLAMATION) (s == QUESTION) e)
  where
    by_either : ((s == EXCLAMATION) ≡ true) ⊎ ((s == QUESTION) ≡ true) → begins_part (Sign s) ≡ true
    by_either (inl q) = ap (λ (m : ℕ). begins_part (Sign m)) (eqb-true s EXCLAMATION q)
    by_either (inr q) = ap (λ (m : ℕ). begins_part (Sign m)) (eqb-true s QUESTION q)
begins_part_from Name e = absurd (cc)
begins_part_from (Whole z) e = absurd (cc)
begins_part_from Real e = absurd (cc)
begins_part_from (Reserved w) e = absurd (cc)
begins_part_from End e = absurd (cc)

-- Transitions

-- what stands behind the colon
abbrev pub transition_rest : ℕ → Form
transition_rest n = parts_tokens ∣ guarded_tokens n

expr_no_part : (k : TokenKind) → begins_expr k ≡ true → begins_part k ≡ true → ⊥
expr_no_part k h p = by_either (or_cases (is_sign EXCLAMATION k) (is_sign QUESTION k) p)
  where
    by_either : (is_sign EXCLAMATION k ≡ true) ⊎ (is_sign QUESTION k ≡ true) → ⊥
    by_either (inl q) = fails begins_expr h (sign_from EXCLAMATION k q) refl
    by_either (inr q) = fails begins_expr h (sign_from QUESTION k q) refl

pub transition_sync : (n : ℕ) (next : TokenKind) (ts : Tokens) → transition_rest n next ts
    → begins_part (kind_or next ts) ≡ true → parts_tokens next ts
transition_sync n next ts (inl h) k = h
transition_sync n next ts (inr h) k =
    absurd (expr_no_part (kind_or (kind_or next h.back) h.front)
    (expr_begins n (kind_or next h.back) h.front h.first (λ z. fails begins_part k (first_of h ∙ z) refl))
    (sym (ap begins_part (first_of h)) ∙ k))

pub transition_local : (n : ℕ) (next : TokenKind) (ts : Tokens) → transition_rest n next ts
    → begins_part (kind_or next ts) ≡ false → guarded_tokens n next ts
transition_local n next ts (inl h) k =
    let q : true ≡ false = sym (begins_part_from (kind_or next ts) (ap is_part (first_of h ∙ first_of h.first ∙ first_of h.first.first) ∙ one_kind h.first.first.first)) ∙ k in absurd (cc)
transition_local n next ts (inr h) k = h

pub transition_kind : (n : ℕ) (next : TokenKind) (ts : Tokens) → transition_form n next ts → kind_or next ts ≡ Name
transition_kind n next ts h = then_kind h

pub local_made : (n : ℕ) (name : NameId) (at : Place) (guard : RawExpr) (action : Instr) {old a b new : Tokens}
    → Spans (ReadsPlacedName (name, at)) old a → Spans (token (Sign COLON)) a b
    → Spans (Node (ReadsExpr n) guard ▸ token (Sign ARROW) ▸ ReadsInstr n action) b new
    → Spans (ReadsTransition n (member.Local name at guard action)) old new
local_made n name at guard action s t g =
    spans_map (spans_then s (spans_then t g))
    (λ next ts h. local name at guard action refl
    (then_map h (λ next ts j. j) (λ next ts j. then_unassoc
    (then_map j (λ next ts k. k) (λ next ts k. then_unassoc k)))))

pub moves_transition : (n m : ℕ) → n ≤ m → (t : Member) → Moves (ReadsTransition n t) (transition_form m)
moves_transition n m l t = λ next next' ts y h. by_case next next' ts y h
  where
    by_case : (next next' : TokenKind) (ts : Tokens) → May next next' → ReadsTransition n t next ts
        → transition_form m next' ts
    by_case next next' ts y (sync name at parts e h) =
        turns_then (turns_placed (name, at))
        (λ next next' ts j. then_map (turns_then turns_token
        (turns_then (turns_list ReadsPart part_tokens (Sign AMPERSAND) turns_part parts.items) turns_token) next next'
        ts
        j) (λ next ts i. i) (λ next ts i. inl i)) next next' ts h
    by_case next next' ts y (local name at guard action e h) =
        moves_then (moves_of (turns_placed (name, at)))
        (λ next next' ts y j. then_map (then_assoc
        (moves_then (moves_of (turns_then turns_token (turns_then (turns_tree n m l guard) turns_token)))
        (moves_instr n m l action) next next' ts y j)) (λ next ts i. i) (λ next ts i. inr (then_assoc i))) next
        next' ts y h

pub some_guarded : (m : ℕ) → BeginsForm (guarded_tokens m) []
some_guarded m = begins_then (some_expr m) (begins_then (begins_token (Sign ARROW)) (some_instr m))

pub some_transition_rest : (m : ℕ) → BeginsForm (transition_rest m) []
some_transition_rest m = begins_map (some_guarded m) (λ next ts h. inr h)
