-- The parts of members that begin alike are one.
use Rattle.std.proofs.Common.{◌≡◌, ℕ, zero, suc, inl, inr, Bool, true, false, List, [], ◌∷◌, ◌++◌, Vec, refl, sym, ap, ◌∙◌}
use Rattle.std.proofs.lemmas.Bool.{or_cases}
use Rattle.std.specs.Prelude.{Option, if◌then◌else◌}
use Rattle.std.specs.declared.alloc.Global.{Global}
use Rattle.ar_base.specs.Lists.{Along, none}
use Rattle.ar_base.specs.declared.places.Place.{Place}
use Rattle.ar_base.specs.declared.places.Span.{Span}
use Rattle.ar_lexer.specs.declared.token.TokenKind.{TokenKind}
use Rattle.ar_lexer.specs.declared.token.TokenKind.TheVariants.{Sign, Reserved}
use Rattle.ar_lexer.specs.declared.signs.TheConstants.{OPEN_PARENTHESIS, COMMA, SEMICOLON, COLON, DOT, ARROW, EXCLAMATION, QUESTION, AMPERSAND}
use Rattle.ar_lexer.specs.declared.words.TheConstants.{BOOLEAN, INIT, INTEGER, RESET}
use Rattle.ar_syntax.specs.declared.expressions.RawExpr.{RawExpr}
use Rattle.ar_syntax.specs.declared.instructions.Instr.{Instr}
use Rattle.ar_syntax.specs.declared.members.Member.{Member}
use Rattle.ar_syntax.specs.declared.members.Member.TheVariants as member
use Rattle.ar_syntax.specs.declared.members.Part.{Part}
use Rattle.ar_syntax.specs.declared.members.Setting.{Setting}
use Rattle.ar_syntax.specs.declared.members.TypeForm.{TypeForm}
use Rattle.ar_syntax.specs.declared.members.TypeForm.TheVariants as type_form
use Rattle.ar_syntax.specs.declared.members.TypeName.{TypeName}
use Rattle.ar_syntax.specs.declared.members.Word.{Word}
use Rattle.ar_syntax.specs.declared.members.Word.TheVariants as word
use Rattle.ar_base.specs.Numbers.{NameId}
use Rattle.expression_grammar.specs.Words.{Form, Tokens, token, ◌▸◌, separated_by, between}
use Rattle.expression_grammar.specs.Paths.{ReadsPlacedName}
use Rattle.expression_grammar.specs.Expressions.{Node, ReadsExpr}
use Rattle.ar_grammar.specs.Instructions.{ReadsInstr}
use Rattle.ar_grammar.specs.Members.{ReadsTypeForm, ReadsType, ReadsWord, ReadsSetting, ReadsSettings, ReadsEvent, ReadsDeclared, ReadsPart, ReadsTransition, sync, local, ReadsAssertion, ReadsHidden}
use Rattle.expression_grammar.specs.Results.{first_token_kind, anything, is_sign, is_word, is_name, ends_path, ends_expr, ends_list, begins_expr}
use Rattle.ar_grammar.specs.Results.{ends_names, ends_attribute, ends_semicolon, begins_part}
use Rattle.expression_grammar.proofs.Finding.{fails}
use Rattle.expression_grammar.proofs.ExpressionForms.{then_map, then_assoc, sign_from, word_from}
use Rattle.ar_grammar.proofs.ExpressionForms.{expr_first}
use Rattle.ar_grammar.proofs.MemberParts.{list_end, semicolon_path}
use Rattle.parser_laws.specs.Expressions.{SameExpr, SameInstr}
use Rattle.parser_laws.specs.Members.{SameSetting, SamePart, SameMemberBy, SameMemberToDepth, SameMember}
use Rattle.parser_laws.specs.Members as same
use Rattle.parser_laws.proofs.Agreeing.{Agree, First, first_token, first_then, first_front, first_nothing, agree_map, agree_told, agree_apart, agree_token, agree_nothing, agree_then, agree_next, agree_closed, agree_standing, agree_separated, along_equal}
use Rattle.parser_laws.proofs.OnePath.{agree_name, agree_placed, agree_names, agree_path, name_first, separated_first}
use Rattle.parser_laws.proofs.OneExpression.{agree_between, agree_expr}
use Rattle.parser_laws.proofs.OneInstruction.{agree_instr}
use Rattle.parser_laws.proofs.OneUnread.{agree_attribute}

-- what holds for any depth of the members inside
pub every : {m n : Member} → ((Same : Member → Member → Type 0) → SameMemberBy Same m n) → SameMember m n
every f zero = tt
every f (suc d) = f (SameMemberToDepth d)

-- Types and words

word_or : {w : ℕ} {ends : TokenKind → Bool} → is_word w (Reserved w) ≡ true
    → First (token (Reserved w)) ends (is_word w)
word_or e = first_token e

agree_type_form : (f g : TypeForm) → Agree anything (ReadsTypeForm f) (ReadsTypeForm g) (f ≡ g)
agree_type_form type_form.Boolean type_form.Boolean = agree_map agree_token (λ r. refl)
agree_type_form type_form.Boolean type_form.Integer =
    agree_apart (word_or {w = BOOLEAN} refl) (word_or {w = INTEGER} refl)
    (λ k x y. fails (is_word BOOLEAN) x (word_from INTEGER k y) refl)
agree_type_form type_form.Boolean (type_form.Named b) =
    agree_apart (word_or {w = BOOLEAN} refl) (name_first is_name refl b)
    (λ k x y. fails is_name y (word_from BOOLEAN k x) refl)
agree_type_form type_form.Integer type_form.Boolean =
    agree_apart (word_or {w = INTEGER} refl) (word_or {w = BOOLEAN} refl)
    (λ k x y. fails (is_word BOOLEAN) y (word_from INTEGER k x) refl)
agree_type_form type_form.Integer type_form.Integer = agree_map agree_token (λ r. refl)
agree_type_form type_form.Integer (type_form.Named b) =
    agree_apart (word_or {w = INTEGER} refl) (name_first is_name refl b)
    (λ k x y. fails is_name y (word_from INTEGER k x) refl)
agree_type_form (type_form.Named a) type_form.Boolean =
    agree_apart (name_first is_name refl a) (word_or {w = BOOLEAN} refl)
    (λ k x y. fails is_name x (word_from BOOLEAN k y) refl)
agree_type_form (type_form.Named a) type_form.Integer =
    agree_apart (name_first is_name refl a) (word_or {w = INTEGER} refl)
    (λ k x y. fails is_name x (word_from INTEGER k y) refl)
agree_type_form (type_form.Named a) (type_form.Named b) = agree_map (agree_name a b) (λ r. ap type_form.Named r)

same_type : (t u : TypeName) → t.form ≡ u.form → t.at ≡ u.at → t ≡ u
same_type t u p q = λ j. record { form = p j; at = q j }

pub agree_type : (t u : TypeName) → Agree anything (ReadsType t) (ReadsType u) (t ≡ u)
agree_type t u = agree_map (agree_standing (agree_type_form t.form u.form)) (λ r. same_type t u r.1 r.0)

agree_word : (v w : Word) → Agree anything (ReadsWord v) (ReadsWord w) (v ≡ w)
agree_word (word.Name a) (word.Name b) = agree_map (agree_name a b) (λ r. ap word.Name r)
agree_word (word.Name a) word.Init =
    agree_apart (name_first is_name refl a) (word_or {w = INIT} refl)
    (λ k x y. fails is_name x (word_from INIT k y) refl)
agree_word (word.Name a) word.Reset =
    agree_apart (name_first is_name refl a) (word_or {w = RESET} refl)
    (λ k x y. fails is_name x (word_from RESET k y) refl)
agree_word word.Init (word.Name b) =
    agree_apart (word_or {w = INIT} refl) (name_first is_name refl b)
    (λ k x y. fails is_name y (word_from INIT k x) refl)
agree_word word.Init word.Init = agree_map agree_token (λ r. refl)
agree_word word.Init word.Reset = agree_apart (word_or {w = INIT} refl) (word_or {w = RESET} refl)
    (λ k x y. fails (is_word INIT) x (word_from RESET k y) refl)
agree_word word.Reset (word.Name b) =
    agree_apart (word_or {w = RESET} refl) (name_first is_name refl b)
    (λ k x y. fails is_name y (word_from RESET k x) refl)
agree_word word.Reset word.Init = agree_apart (word_or {w = RESET} refl) (word_or {w = INIT} refl)
    (λ k x y. fails (is_word INIT) y (word_from RESET k x) refl)
agree_word word.Reset word.Reset = agree_map agree_token (λ r. refl)

-- Settings

agree_setting : (n : ℕ) (s t : Setting) → Agree ends_expr (ReadsSetting n s) (ReadsSetting n t) (SameSetting s t)
agree_setting n s t =
    agree_map (agree_then {ends = ends_path}
    (agree_standing (agree_separated {ends = anything} (Sign DOT) agree_word refl refl (λ k e. refl) s.target.items
    t.target.items)) (first_front (first_token refl)) (first_front (first_token refl))
    (agree_next agree_token (agree_expr n s.value t.value)))
    (λ r. record { target = along_equal r.0.1; place = r.0.0; value = r.1.1 })

agree_settings : (n : ℕ) (xs ys : List Setting)
    → Agree ends_semicolon (ReadsSettings n xs) (ReadsSettings n ys) (Along SameSetting xs ys)
agree_settings n [] [] = agree_map agree_nothing (λ r. none)
agree_settings n [] (y ∷ ys) = agree_apart {test = ends_semicolon} {test' = is_sign OPEN_PARENTHESIS}
    (first_nothing (λ k e. e)) (first_front (first_token refl))
    (λ k x y. fails ends_semicolon x (sign_from OPEN_PARENTHESIS k y) refl)
agree_settings n (x ∷ xs) [] = agree_apart {test = is_sign OPEN_PARENTHESIS} {test' = ends_semicolon}
    (first_front (first_token refl)) (first_nothing (λ k e. e))
    (λ k x y. fails ends_semicolon y (sign_from OPEN_PARENTHESIS k x) refl)
agree_settings n (x ∷ xs) (y ∷ ys) =
    agree_between (agree_separated {ends' = ends_list} (Sign COMMA) (agree_setting n) refl refl list_end (x ∷ xs)
    (y ∷ ys)) refl

-- Declarations

settings_first : {ends : TokenKind → Bool} (n : ℕ) (xs : List Setting)
    → First (ReadsSettings n xs ▸ token (Sign SEMICOLON)) ends ends_names
settings_first n [] = first_then {mid = ends_semicolon} (first_nothing (λ k e. ap ends_names (sign_from SEMICOLON k e)))
    (first_token refl)
settings_first n (x ∷ xs) = first_front (first_front (first_token refl))

pub agree_declared : (n : ℕ) (m m' : Member) → Agree anything (ReadsDeclared n m) (ReadsDeclared n m') (SameMember m m')
agree_declared n m m' = record {
  holds = λ a b rest rest' h k e s s'.
      let r = (agree_next {ends' = anything} (agree_type h.type k.type)
      (agree_then (agree_names h.names.items k.names.items) (settings_first n h.settings.items)
      (settings_first n k.settings.items)
      (agree_closed (agree_settings n h.settings.items k.settings.items) refl refl))).holds a b rest rest' h.reads
      k.reads e refl refl in (
        every (λ Same. same.declared h.type h.names k.names h.settings k.settings h.is
            (k.is ∙ ap (λ (t : TypeName). member.Declare t k.names k.settings) (sym r.0.0)) r.0.1.0 r.0.1.1.0),
        r.1,
      );
}

-- Events

pub agree_event : (n : ℕ) (m m' : Member) → Agree ends_attribute (ReadsEvent n m) (ReadsEvent n m') (SameMember m m')
agree_event n m m' = record {
  holds = λ a b rest rest' h k e s s'.
      let r = (agree_next (agree_placed (h.name, h.at) (k.name, k.at))
      (agree_attribute n h.attribute k.attribute)).holds a b rest rest' h.reads k.reads e s s' in (
        every (λ Same. same.equal (h.is ∙ ap (λ (x : NameId × Place). member.Event x.0 x.1 h.attribute) r.0.0
            ∙ ap (λ (x : Option Span). member.Event k.name k.at x) r.0.1 ∙ sym k.is)),
        r.1,
      );
}

pub agree_hidden : (m m' : Member) → Agree ends_path (ReadsHidden m) (ReadsHidden m') (SameMember m m')
agree_hidden m m' = record {
  holds = λ a b rest rest' h k e s s'.
      let r = (agree_path h.event k.event).holds a b rest rest' h.reads k.reads e s s' in
      (every (λ Same. same.hidden h.event k.event h.is k.is r.0), r.1);
}

-- Transitions

same_must : (p q : Bool) → Sign (if p then EXCLAMATION else QUESTION) ≡ Sign (if q then EXCLAMATION else QUESTION)
    → p ≡ q
same_must true true e = refl
same_must true false e = let q : true ≡ false = ap (is_sign EXCLAMATION) e in q
same_must false true e = let q : false ≡ true = ap (is_sign EXCLAMATION) e in q
same_must false false e = refl

must_begins : (p : Bool) → begins_part (Sign (if p then EXCLAMATION else QUESTION)) ≡ true
must_begins true = refl
must_begins false = refl

part_first : (p : Part) → First (ReadsPart p) anything begins_part
part_first p = first_front (first_token (must_begins p.must))

agree_part : (p q : Part) → Agree ends_path (ReadsPart p) (ReadsPart q) (SamePart p q)
agree_part p q = agree_map (agree_next (agree_token {ends = anything}) (agree_path p.event q.event))
    (λ r. record { must = same_must p.must q.must r.0; event = r.1 })

-- the forms of the two kinds of transition, from the name on
abbrev sync_form : (NameId × Place) → Vec Part Global → Form
sync_form x parts = ReadsPlacedName x ▸ between (Sign COLON) (Sign SEMICOLON)
    (separated_by (Sign AMPERSAND) ReadsPart parts.items)

abbrev local_form : ℕ → (NameId × Place) → RawExpr → Instr → Form
local_form n x guard action = ReadsPlacedName x ▸ between (Sign COLON) (Sign ARROW) (Node (ReadsExpr n) guard)
    ▸ ReadsInstr n action

part_expr : (k : TokenKind) → begins_part k ≡ true → begins_expr k ≡ true → ⊥
part_expr k h g = elim (or_cases (is_sign EXCLAMATION k) (is_sign QUESTION k) h) [
  | inl e ↦ fails begins_expr g (sign_from EXCLAMATION k e) refl
  | inr e ↦ fails begins_expr g (sign_from QUESTION k e) refl
]

sync_local : (n : ℕ) (x y : NameId × Place) (parts : Vec Part Global) (guard : RawExpr) (action : Instr)
    → Agree anything (sync_form x parts) (local_form n y guard action) ⊥
sync_local n x y parts guard action =
    agree_told (agree_map (agree_next (agree_placed x y)
    (agree_next (agree_token {ends = anything}) (agree_apart {R = ⊥} {test = begins_part} {test' = begins_expr}
    (first_front (separated_first (Sign AMPERSAND) part_first parts.items))
    (first_front (first_front (record { holds = λ next ts h s. expr_first n guard.form next ts h.form })))
    part_expr))) (λ r. r.1.1))
    (λ next ts h. h) (λ next ts h. then_map h (λ next ts g. g) (λ next ts g. then_assoc g))

agree_sync : (x y : NameId × Place) (v w : Vec Part Global)
    → Agree anything (sync_form x v) (sync_form y w) ((x ≡ y) × Along SamePart v.items w.items)
agree_sync x y v w = agree_next (agree_placed x y)
    (agree_between (agree_separated {ends' = ends_semicolon} (Sign AMPERSAND) agree_part refl refl semicolon_path
    v.items w.items) refl)

agree_local : (n : ℕ) (x y : NameId × Place) (e g : RawExpr) (i j : Instr)
    → Agree anything (local_form n x e i) (local_form n y g j) ((x ≡ y) × (SameExpr e g × SameInstr i j))
agree_local n x y e g i j = agree_next (agree_placed x y)
    (agree_next (agree_between (agree_expr n e g) refl) (agree_instr n i j))

pub agree_transition : (n : ℕ) (m m' : Member) → Agree anything (ReadsTransition n m) (ReadsTransition n m')
    (SameMember m m')
agree_transition n m m' = record { holds = λ a b rest rest' h k e s s'. by_case a b rest rest' h k e }
  where
    by_case : (a b rest rest' : Tokens) → ReadsTransition n m (first_token_kind rest) a → ReadsTransition n m' (first_token_kind rest') b
        → a ++ rest ≡ b ++ rest' → SameMember m m' × (a ≡ b)
    by_case a b rest rest' (sync name at v u h) (sync name' at' w u' k) e =
        let r = (agree_sync (name, at) (name', at') v w).holds a b rest rest' h k e refl refl in (
          every (λ Same. same.sync name at v w u (u' ∙ ap (λ (x : NameId × Place). member.Sync x.0 x.1 w) (sym r.0.0))
              r.0.1),
          r.1,
        )
    by_case a b rest rest' (sync name at v u h) (local name' at' g j u' k) e =
        absurd ((sync_local n (name, at) (name', at') v g j).holds a b rest rest' h k e refl refl).0
    by_case a b rest rest' (local name at g i u h) (sync name' at' w u' k) e =
        absurd ((sync_local n (name', at') (name, at) w g i).holds b a rest' rest k h (sym e) refl refl).0
    by_case a b rest rest' (local name at g i u h) (local name' at' g' j u' k) e =
        let r = (agree_local n (name, at) (name', at') g g' i j).holds a b rest rest' h k e refl refl in (
          every (λ Same. same.local name at g g' i j u
              (u' ∙ ap (λ (x : NameId × Place). member.Local x.0 x.1 g' j) (sym r.0.0)) r.0.1.0 r.0.1.1),
          r.1,
        )

pub agree_assertion : (n : ℕ) (m m' : Member) → Agree anything (ReadsAssertion n m) (ReadsAssertion n m')
    (SameMember m m')
agree_assertion n m m' = record {
  holds = λ a b rest rest' h k e s s'.
      let r = (agree_instr n h.i k.i).holds a b rest rest' h.reads k.reads e refl refl in
      (every (λ Same. same.assertion h.i k.i h.is k.is r.0), r.1);
}
