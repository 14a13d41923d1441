-- What clauses, sections and bodies are, by their first tokens and part by part.
use Rattle.std.proofs.Common.{◌≡◌, ◌≢◌, ℕ, zero, suc, ◌-◌, ◌⊎◌, inl, inr, Bool, true, false, not, ◌||◌, List, [], ◌∷◌, ◌++◌, Result, Ok, Err, IfOk, refl, sym, ap, ◌∙◌, subst, append_assoc, arith}
use Rattle.std.specs.Prelude.{◌==◌}
use Rattle.std.proofs.lemmas.Bool.{eqb-true, or_cases, or_right, or_left}
use Rattle.std.proofs.lemmas.List.{append-nil}
use Rattle.std.proofs.Math.Numerals.{sub-one}
use Rattle.ar_lexer.specs.declared.token.TokenKind.{TokenKind}
use Rattle.ar_lexer.specs.declared.token.TokenKind.TheVariants.{Name, Whole, Real, Sign, Reserved, End}
use Rattle.ar_lexer.specs.declared.signs.TheConstants.{COMMA, SEMICOLON}
use Rattle.ar_lexer.specs.declared.words.TheConstants.{ASSERTION, BLOCK, BOOLEAN, CLONES, ELSE, EMBEDS, END, EVENT, EXTENDS, HIDE, IF, INTEGER, MAIN, OBSERVER, OWNER, PARAMETER, REAL, SKIP, TRANSITION}
use Rattle.ar_syntax.specs.declared.members.Member.{Member}
use Rattle.ar_syntax.specs.declared.members.TypeForm.{TypeForm}
use Rattle.ar_syntax.specs.declared.members.TypeForm.TheVariants as type_form
use Rattle.expression_grammar.specs.declared.lexeme.Refusal.{Refusal}
use Rattle.expression_grammar.specs.declared.lexeme.Refusal.TheVariants.{Syntax, Depth, Memory}
use Rattle.ar_base.specs.Numbers.{NameId}
use Rattle.expression_grammar.specs.Words.{Form, Tokens, kind_or, token, no_kind, deep, ◌▸◌, ◌∣◌, nothing, between, each, many, groups, concat}
use Rattle.ar_grammar.specs.Members.{ReadsTypeForm, ReadsDeclared, ReadsSingle, boolean, ReadsMember, named, ReadsSection, ReadsLater, ReadsSections, none, some, ReadsBody}
use Rattle.expression_grammar.specs.Texts.{list_of, path_tokens, expr_tokens}
use Rattle.ar_grammar.specs.Texts.{is_type, instr_tokens, declared_rest, body_tokens}
use Rattle.ar_grammar.specs.Texts as text
use Rattle.ar_grammar.specs.Parts.{event_tokens, transition_form, section_of, declaration_tokens, alias_tokens, value_tokens, kept_value_tokens, parameter_tokens, single_tokens, unit_of, keyed_of, member_tokens, later_tokens, sections_tokens, inside_body}
use Rattle.expression_grammar.specs.Results.{first_token_kind, Plain, Spans, TakesTokens, Arrives, FindsRefusal, is_word, is_name}
use Rattle.ar_grammar.specs.Results.{ends_transitions, ends_assertions, ends_body, ends_members, ends_section, begins_instr, begins_keyed, begins_member, begins_section, begins_later, begins_body}
use Rattle.expression_grammar.proofs.Finding.{Follows, Loops, loops_next, kind_join, kind_before, kind_behind, plain_kind, apart, fails, token_kind, then_kind, follows_many, spans_then, spans_map, spans_push}
use Rattle.expression_grammar.proofs.ExpressionForms.{then_map, word_from}
use Rattle.expression_grammar.proofs.TextParts.{first_of, one_kind, one_as}

-- The first token of what was taken

pub takes_at : {A : Type 0} (P Q : A → Form) (r : Result A Refusal) (old new : Tokens) (k : TokenKind)
    → TakesTokens P r old new → first_token_kind old ≡ k
    → ((x : A) (next : TokenKind) (ts : Tokens) → P x next ts → kind_or next ts ≡ k → Q x next ts) → TakesTokens Q r old new
takes_at P Q (Ok x) old new k t e f =
    record {
      front = t.front;
      split = t.split;
      form = f x (first_token_kind new) t.front t.form (sym (kind_before t.front new) ∙ sym (ap first_token_kind t.split) ∙ e);
    }
takes_at P Q (Err x) old new k t e f = tt

pub spans_first : {A : Form} {old new : Tokens} → (s : Spans A old new) → kind_or (first_token_kind new) s.front ≡ first_token_kind old
spans_first {new = new} s = sym (kind_before s.front new) ∙ sym (ap first_token_kind s.split)

-- Declarations by their type

declared_kind : {n : ℕ} {m : Member} {next : TokenKind} {ts : Tokens} → (h : ReadsDeclared n m next ts)
    → kind_or next ts ≡ kind_or (kind_or next h.reads.back) h.reads.front
declared_kind {next = next} h = ap (kind_or next) h.reads.split ∙ kind_join h.reads.front h.reads.back next

pub boolean_kind : {n : ℕ} {m : Member} {next : TokenKind} {ts : Tokens} → (h : ReadsDeclared n m next ts)
    → h.type.form ≡ type_form.Boolean → kind_or next ts ≡ Reserved BOOLEAN
boolean_kind {next = next} h e = declared_kind h
    ∙ token_kind (subst (λ (f : TypeForm). ReadsTypeForm f (kind_or next h.reads.back) h.reads.front) e
    h.reads.first.form)

pub named_kind : {n : ℕ} {m : Member} {next : TokenKind} {ts : Tokens} (id : NameId) → (h : ReadsDeclared n m next ts)
    → h.type.form ≡ type_form.Named id → kind_or next ts ≡ Name
named_kind {next = next} id h e = let g : ReadsTypeForm (type_form.Named id) (kind_or next h.reads.back) h.reads.front = subst (λ (f : TypeForm). ReadsTypeForm f (kind_or next h.reads.back) h.reads.front) e h.reads.first.form in
    declared_kind h ∙ ap (kind_or (kind_or next h.reads.back)) g.alone ∙ g.of_kind

form_boolean : (f : TypeForm) (next : TokenKind) (ts : Tokens) → ReadsTypeForm f next ts
    → kind_or next ts ≡ Reserved BOOLEAN → f ≡ type_form.Boolean
form_boolean type_form.Boolean next ts g k = refl
form_boolean type_form.Integer next ts g k = apart (is_word INTEGER) (token_kind g) k refl refl
form_boolean (type_form.Named id) next ts g k = apart is_name (ap (kind_or next) g.alone ∙ g.of_kind) k refl refl

form_named : (f : TypeForm) (next : TokenKind) (ts : Tokens) → ReadsTypeForm f next ts → kind_or next ts ≡ Name
    → (id : NameId) × (f ≡ type_form.Named id)
form_named type_form.Boolean next ts g k = apart (is_word BOOLEAN) (token_kind g) k refl refl
form_named type_form.Integer next ts g k = apart (is_word INTEGER) (token_kind g) k refl refl
form_named (type_form.Named id) next ts g k = (id, refl)

pub single_declared : (n : ℕ) (m : Member) (next : TokenKind) (ts : Tokens) → ReadsDeclared n m next ts
    → kind_or next ts ≡ Reserved BOOLEAN → ReadsSingle n m next ts
single_declared n m next ts h k = boolean h
    (form_boolean h.type.form (kind_or next h.reads.back) h.reads.front h.reads.first.form (sym (declared_kind h) ∙ k))

pub member_declared : (n : ℕ) (Body : List Member → Form) (m : Member) (next : TokenKind) (ts : Tokens)
    → ReadsDeclared n m next ts → kind_or next ts ≡ Name → ReadsMember n Body (m ∷ []) next ts
member_declared n Body m next ts h k =
    let f = form_named h.type.form (kind_or next h.reads.back) h.reads.front h.reads.first.form
    (sym (declared_kind h) ∙ k) in
    named m refl h f.0 f.1

-- Clauses that make one member

pub single_extends : (n : ℕ) (next : TokenKind) (ts : Tokens) → single_tokens n next ts
    → kind_or next ts ≡ Reserved EXTENDS → (token (Reserved EXTENDS) ▸ token Name ▸ token (Sign SEMICOLON)) next ts
single_extends n next ts (inl h) k = h
single_extends n next ts (inr (inl h)) k = apart (is_word BOOLEAN) (then_kind h) k refl refl
single_extends n next ts (inr (inr (inl h))) k = apart (is_word CLONES) (then_kind h) k refl refl
single_extends n next ts (inr (inr (inr (inl h)))) k = apart (is_word EMBEDS) (then_kind h) k refl refl
single_extends n next ts (inr (inr (inr (inr (inl h))))) k = apart (is_word OBSERVER) (then_kind h) k refl refl
single_extends n next ts (inr (inr (inr (inr (inr h))))) k = apart (is_word PARAMETER) (then_kind h) k refl refl

pub single_boolean : (n : ℕ) (next : TokenKind) (ts : Tokens) → single_tokens n next ts
    → kind_or next ts ≡ Reserved BOOLEAN → (token (Reserved BOOLEAN) ▸ declared_rest (expr_tokens deep n)) next ts
single_boolean n next ts (inl h) k = apart (is_word EXTENDS) (then_kind h) k refl refl
single_boolean n next ts (inr (inl h)) k = h
single_boolean n next ts (inr (inr (inl h))) k = apart (is_word CLONES) (then_kind h) k refl refl
single_boolean n next ts (inr (inr (inr (inl h)))) k = apart (is_word EMBEDS) (then_kind h) k refl refl
single_boolean n next ts (inr (inr (inr (inr (inl h))))) k = apart (is_word OBSERVER) (then_kind h) k refl refl
single_boolean n next ts (inr (inr (inr (inr (inr h))))) k = apart (is_word PARAMETER) (then_kind h) k refl refl

pub single_clones : (n : ℕ) (next : TokenKind) (ts : Tokens) → single_tokens n next ts → kind_or next ts ≡ Reserved
    CLONES → (token (Reserved CLONES) ▸ alias_tokens) next ts
single_clones n next ts (inl h) k = apart (is_word EXTENDS) (then_kind h) k refl refl
single_clones n next ts (inr (inl h)) k = apart (is_word BOOLEAN) (then_kind h) k refl refl
single_clones n next ts (inr (inr (inl h))) k = h
single_clones n next ts (inr (inr (inr (inl h)))) k = apart (is_word EMBEDS) (then_kind h) k refl refl
single_clones n next ts (inr (inr (inr (inr (inl h))))) k = apart (is_word OBSERVER) (then_kind h) k refl refl
single_clones n next ts (inr (inr (inr (inr (inr h))))) k = apart (is_word PARAMETER) (then_kind h) k refl refl

pub single_embeds : (n : ℕ) (next : TokenKind) (ts : Tokens) → single_tokens n next ts → kind_or next ts ≡ Reserved
    EMBEDS → (token (Reserved EMBEDS) ▸ alias_tokens) next ts
single_embeds n next ts (inl h) k = apart (is_word EXTENDS) (then_kind h) k refl refl
single_embeds n next ts (inr (inl h)) k = apart (is_word BOOLEAN) (then_kind h) k refl refl
single_embeds n next ts (inr (inr (inl h))) k = apart (is_word CLONES) (then_kind h) k refl refl
single_embeds n next ts (inr (inr (inr (inl h)))) k = h
single_embeds n next ts (inr (inr (inr (inr (inl h))))) k = apart (is_word OBSERVER) (then_kind h) k refl refl
single_embeds n next ts (inr (inr (inr (inr (inr h))))) k = apart (is_word PARAMETER) (then_kind h) k refl refl

pub single_observer : (n : ℕ) (next : TokenKind) (ts : Tokens) → single_tokens n next ts
    → kind_or next ts ≡ Reserved OBSERVER → (token (Reserved OBSERVER) ▸ value_tokens n) next ts
single_observer n next ts (inl h) k = apart (is_word EXTENDS) (then_kind h) k refl refl
single_observer n next ts (inr (inl h)) k = apart (is_word BOOLEAN) (then_kind h) k refl refl
single_observer n next ts (inr (inr (inl h))) k = apart (is_word CLONES) (then_kind h) k refl refl
single_observer n next ts (inr (inr (inr (inl h)))) k = apart (is_word EMBEDS) (then_kind h) k refl refl
single_observer n next ts (inr (inr (inr (inr (inl h))))) k = h
single_observer n next ts (inr (inr (inr (inr (inr h))))) k = apart (is_word PARAMETER) (then_kind h) k refl refl

pub single_parameter : (n : ℕ) (next : TokenKind) (ts : Tokens) → single_tokens n next ts
    → kind_or next ts ≢ Reserved EXTENDS → kind_or next ts ≢ Reserved BOOLEAN → kind_or next ts ≢ Reserved CLONES
    → kind_or next ts ≢ Reserved EMBEDS → kind_or next ts ≢ Reserved OBSERVER → parameter_tokens n next ts
single_parameter n next ts (inl h) a b c g i = absurd (a (then_kind h))
single_parameter n next ts (inr (inl h)) a b c g i = absurd (b (then_kind h))
single_parameter n next ts (inr (inr (inl h))) a b c g i = absurd (c (then_kind h))
single_parameter n next ts (inr (inr (inr (inl h)))) a b c g i = absurd (g (then_kind h))
single_parameter n next ts (inr (inr (inr (inr (inl h))))) a b c g i = absurd (i (then_kind h))
single_parameter n next ts (inr (inr (inr (inr (inr h))))) a b c g i = h

pub parameter_real : (n : ℕ) (next : TokenKind) (ts : Tokens) → (kept_value_tokens n ∣ value_tokens n) next ts
    → kind_or next ts ≡ Reserved REAL → kept_value_tokens n next ts
parameter_real n next ts (inl h) k = h
parameter_real n next ts (inr h) k = fails is_type (one_kind h.first) (sym (first_of h) ∙ k) refl

pub parameter_typed : (n : ℕ) (next : TokenKind) (ts : Tokens) → (kept_value_tokens n ∣ value_tokens n) next ts
    → kind_or next ts ≢ Reserved REAL → value_tokens n next ts
parameter_typed n next ts (inl h) k = absurd (k (then_kind h))
parameter_typed n next ts (inr h) k = h

-- a declaration that begins with this token
pub declared_as : (n : ℕ) (next : TokenKind) (ts : Tokens) {k : TokenKind} → declaration_tokens n next ts
    → kind_or next ts ≡ k → (token k ▸ declared_rest (expr_tokens deep n)) next ts
declared_as n next ts h k = record {
  front = h.front;
  back = h.back;
  split = h.split;
  first = one_as h.first (sym (first_of h) ∙ k);
  second = h.second;
}

pub declared_from : (n : ℕ) (next : TokenKind) (ts : Tokens) {k : TokenKind} → is_type k ≡ true
    → (token k ▸ declared_rest (expr_tokens deep n)) next ts → declaration_tokens n next ts
declared_from n next ts e h = then_map h
    (λ next ts j. record { one = j.one; alone = j.alone; passes = ap is_type j.of_kind ∙ e }) (λ next ts j. j)

pub single_of_declared : (n : ℕ) (next : TokenKind) (ts : Tokens) → declaration_tokens n next ts
    → kind_or next ts ≡ Reserved BOOLEAN → single_tokens n next ts
single_of_declared n next ts h k = inr (inl (declared_as n next ts h k))

pub single_as_declared : (n : ℕ) (next : TokenKind) (ts : Tokens) → single_tokens n next ts
    → kind_or next ts ≡ Reserved BOOLEAN → declaration_tokens n next ts
single_as_declared n next ts h k = declared_from n next ts refl (single_boolean n next ts h k)

-- Clauses that begin with a reserved word

keyed_test : (test : TokenKind → Bool) → test (Reserved EXTENDS) ≡ true → test (Reserved BOOLEAN) ≡ true
    → test (Reserved CLONES) ≡ true → test (Reserved EMBEDS) ≡ true → test (Reserved PARAMETER) ≡ true
    → test (Reserved OBSERVER) ≡ true → test (Reserved BLOCK) ≡ true → test (Reserved EVENT) ≡ true
    → test (Reserved HIDE) ≡ true → (n : ℕ) (next : TokenKind) (ts : Tokens) → keyed_of n next ts
    → test (kind_or next ts) ≡ true
keyed_test test a b c d g i u v w n next ts (text.extends h) = ap test (then_kind h) ∙ a
keyed_test test a b c d g i u v w n next ts (text.boolean h) = ap test (then_kind h) ∙ b
keyed_test test a b c d g i u v w n next ts (text.clones h) = ap test (then_kind h) ∙ c
keyed_test test a b c d g i u v w n next ts (text.embeds h) = ap test (then_kind h) ∙ d
keyed_test test a b c d g i u v w n next ts (text.kept h) = ap test (then_kind h) ∙ g
keyed_test test a b c d g i u v w n next ts (text.parameter h) = ap test (then_kind h) ∙ g
keyed_test test a b c d g i u v w n next ts (text.observer h) = ap test (then_kind h) ∙ i
keyed_test test a b c d g i u v w n next ts (text.block h) = ap test (then_kind h) ∙ u
keyed_test test a b c d g i u v w n next ts (text.event h) = ap test (then_kind h) ∙ v
keyed_test test a b c d g i u v w n next ts (text.hide h) = ap test (then_kind h) ∙ w

pub keyed_first : (n : ℕ) (next : TokenKind) (ts : Tokens) → keyed_of n next ts → begins_keyed (kind_or next ts) ≡ true
keyed_first = keyed_test begins_keyed refl refl refl refl refl refl refl refl refl

pub keyed_event : (n : ℕ) (next : TokenKind) (ts : Tokens) → keyed_of n next ts → kind_or next ts ≡ Reserved EVENT
    → between (Reserved EVENT) (Sign SEMICOLON) (list_of (Sign COMMA) (event_tokens n)) next ts
keyed_event n next ts (text.extends h) k = apart (is_word EXTENDS) (then_kind h) k refl refl
keyed_event n next ts (text.boolean h) k = apart (is_word BOOLEAN) (then_kind h) k refl refl
keyed_event n next ts (text.clones h) k = apart (is_word CLONES) (then_kind h) k refl refl
keyed_event n next ts (text.embeds h) k = apart (is_word EMBEDS) (then_kind h) k refl refl
keyed_event n next ts (text.kept h) k = apart (is_word PARAMETER) (then_kind h) k refl refl
keyed_event n next ts (text.parameter h) k = apart (is_word PARAMETER) (then_kind h) k refl refl
keyed_event n next ts (text.observer h) k = apart (is_word OBSERVER) (then_kind h) k refl refl
keyed_event n next ts (text.block h) k = apart (is_word BLOCK) (then_kind h) k refl refl
keyed_event n next ts (text.event h) k = h
keyed_event n next ts (text.hide h) k = apart (is_word HIDE) (then_kind h) k refl refl

pub keyed_hide : (n : ℕ) (next : TokenKind) (ts : Tokens) → keyed_of n next ts → kind_or next ts ≡ Reserved HIDE
    → between (Reserved HIDE) (Sign SEMICOLON) (list_of (Sign COMMA) path_tokens) next ts
keyed_hide n next ts (text.extends h) k = apart (is_word EXTENDS) (then_kind h) k refl refl
keyed_hide n next ts (text.boolean h) k = apart (is_word BOOLEAN) (then_kind h) k refl refl
keyed_hide n next ts (text.clones h) k = apart (is_word CLONES) (then_kind h) k refl refl
keyed_hide n next ts (text.embeds h) k = apart (is_word EMBEDS) (then_kind h) k refl refl
keyed_hide n next ts (text.kept h) k = apart (is_word PARAMETER) (then_kind h) k refl refl
keyed_hide n next ts (text.parameter h) k = apart (is_word PARAMETER) (then_kind h) k refl refl
keyed_hide n next ts (text.observer h) k = apart (is_word OBSERVER) (then_kind h) k refl refl
keyed_hide n next ts (text.block h) k = apart (is_word BLOCK) (then_kind h) k refl refl
keyed_hide n next ts (text.event h) k = apart (is_word EVENT) (then_kind h) k refl refl
keyed_hide n next ts (text.hide h) k = h

pub keyed_block : (n : ℕ) (next : TokenKind) (ts : Tokens) → keyed_of n next ts → kind_or next ts ≡ Reserved BLOCK
    → (token (Reserved BLOCK) ▸ unit_of n) next ts
keyed_block n next ts (text.extends h) k = apart (is_word EXTENDS) (then_kind h) k refl refl
keyed_block n next ts (text.boolean h) k = apart (is_word BOOLEAN) (then_kind h) k refl refl
keyed_block n next ts (text.clones h) k = apart (is_word CLONES) (then_kind h) k refl refl
keyed_block n next ts (text.embeds h) k = apart (is_word EMBEDS) (then_kind h) k refl refl
keyed_block n next ts (text.kept h) k = apart (is_word PARAMETER) (then_kind h) k refl refl
keyed_block n next ts (text.parameter h) k = apart (is_word PARAMETER) (then_kind h) k refl refl
keyed_block n next ts (text.observer h) k = apart (is_word OBSERVER) (then_kind h) k refl refl
keyed_block n next ts (text.block h) k = h
keyed_block n next ts (text.event h) k = apart (is_word EVENT) (then_kind h) k refl refl
keyed_block n next ts (text.hide h) k = apart (is_word HIDE) (then_kind h) k refl refl

pub keyed_single : (n : ℕ) (next : TokenKind) (ts : Tokens) → keyed_of n next ts → kind_or next ts ≢ Reserved EVENT
    → kind_or next ts ≢ Reserved HIDE → kind_or next ts ≢ Reserved BLOCK → single_tokens n next ts
keyed_single n next ts (text.extends h) a b c = inl h
keyed_single n next ts (text.boolean h) a b c = inr (inl h)
keyed_single n next ts (text.clones h) a b c = inr (inr (inl h))
keyed_single n next ts (text.embeds h) a b c = inr (inr (inr (inl h)))
keyed_single n next ts (text.kept h) a b c =
    inr (inr (inr (inr (inr (then_map h (λ next ts j. j) (λ next ts j. inl j))))))
keyed_single n next ts (text.parameter h) a b c =
    inr (inr (inr (inr (inr (then_map h (λ next ts j. j) (λ next ts j. inr j))))))
keyed_single n next ts (text.observer h) a b c = inr (inr (inr (inr (inl h))))
keyed_single n next ts (text.block h) a b c = absurd (c (then_kind h))
keyed_single n next ts (text.event h) a b c = absurd (a (then_kind h))
keyed_single n next ts (text.hide h) a b c = absurd (b (then_kind h))

-- one of two forms behind the first
then_either : {A B C : Form} {next : TokenKind} {ts : Tokens} → (A ▸ (B ∣ C)) next ts
    → (A ▸ B) next ts ⊎ (A ▸ C) next ts
then_either {A} {B} {C} {next} {ts} h = by_case h.second
  where
    by_case : (B ∣ C) next h.back → (A ▸ B) next ts ⊎ (A ▸ C) next ts
    by_case (inl j) = inl (record { front = h.front; back = h.back; split = h.split; first = h.first; second = j })
    by_case (inr j) = inr (record { front = h.front; back = h.back; split = h.split; first = h.first; second = j })

pub keyed_of_single : (n : ℕ) (next : TokenKind) (ts : Tokens) → single_tokens n next ts → keyed_of n next ts
keyed_of_single n next ts (inl h) = text.extends h
keyed_of_single n next ts (inr (inl h)) = text.boolean h
keyed_of_single n next ts (inr (inr (inl h))) = text.clones h
keyed_of_single n next ts (inr (inr (inr (inl h)))) = text.embeds h
keyed_of_single n next ts (inr (inr (inr (inr (inl h))))) = text.observer h
keyed_of_single n next ts (inr (inr (inr (inr (inr h))))) = by_case (then_either h)
  where
    by_case : (token (Reserved PARAMETER) ▸ kept_value_tokens n) next ts
        ⊎ (token (Reserved PARAMETER) ▸ value_tokens n) next ts → keyed_of n next ts
    by_case (inl j) = text.kept j
    by_case (inr j) = text.parameter j

-- Members

pub member_first : (n : ℕ) (next : TokenKind) (ts : Tokens) → member_tokens n next ts
    → begins_member (kind_or next ts) ≡ true
member_first n next ts (inl h) = or_right (is_name (kind_or next ts)) (begins_keyed (kind_or next ts))
    (keyed_first n next ts h)
member_first n next ts (inr h) = ap begins_member (then_kind h)

pub member_named : (n : ℕ) (next : TokenKind) (ts : Tokens) → member_tokens n next ts → kind_or next ts ≡ Name
    → declaration_tokens n next ts
member_named n next ts (inl h) k = fails begins_keyed (keyed_first n next ts h) k refl
member_named n next ts (inr h) k = declared_from n next ts refl h

pub member_of_declared : (n : ℕ) (next : TokenKind) (ts : Tokens) → declaration_tokens n next ts → kind_or next ts
    ≡ Name → member_tokens n next ts
member_of_declared n next ts h k = inr (declared_as n next ts h k)

pub member_keyed : (n : ℕ) (next : TokenKind) (ts : Tokens) → member_tokens n next ts → kind_or next ts ≢ Name
    → keyed_of n next ts
member_keyed n next ts (inl h) k = h
member_keyed n next ts (inr h) k = absurd (k (then_kind h))

-- Sections

pub section_transition : (n : ℕ) (next : TokenKind) (ts : Tokens) → section_of n next ts
    → kind_or next ts ≡ Reserved TRANSITION → (token (Reserved TRANSITION) ▸ many (transition_form n)) next ts
section_transition n next ts (inl h) k = h
section_transition n next ts (inr h) k = apart (is_word ASSERTION) (then_kind h) k refl refl

pub section_assertion : (n : ℕ) (next : TokenKind) (ts : Tokens) → section_of n next ts
    → kind_or next ts ≢ Reserved TRANSITION → (token (Reserved ASSERTION) ▸ many (instr_tokens deep n)) next ts
section_assertion n next ts (inl h) k = absurd (k (then_kind h))
section_assertion n next ts (inr h) k = h

pub section_first : (n : ℕ) (next : TokenKind) (ts : Tokens) → section_of n next ts
    → begins_section (kind_or next ts) ≡ true
section_first n next ts (inl h) = ap begins_section (then_kind h)
section_first n next ts (inr h) = ap begins_section (then_kind h)

pub section_ends_transitions : (k : TokenKind) → ends_section k ≡ true → ends_transitions k ≡ true
section_ends_transitions Name h = absurd (cc)
section_ends_transitions (Whole n) h = refl
section_ends_transitions Real h = refl
section_ends_transitions (Sign s) h = refl
section_ends_transitions (Reserved w) h = refl
section_ends_transitions End h = refl

instr_word : (w : ℕ) → ends_section (Reserved w) ≡ true → (b : Bool) → begins_instr (Reserved w) ≡ b → not b ≡ true
instr_word w h false e = refl
instr_word w h true e = by_words (or_cases ((w == OWNER) || (w == MAIN) || (w == SKIP)) (w == IF) e)
  where
    no : (v : ℕ) → ends_section (Reserved v) ≡ false → (w == v) ≡ true → not true ≡ true
    no v f q = let x : true ≡ false = sym h ∙ ap (λ (u : ℕ). ends_section (Reserved u)) (eqb-true w v q) ∙ f in absurd (cc)

    by_words : ((((w == OWNER) || (w == MAIN) || (w == SKIP)) ≡ true) ⊎ ((w == IF) ≡ true)) → not true ≡ true
    by_words (inr q) = no IF refl q
    by_words (inl q) = elim (or_cases ((w == OWNER) || (w == MAIN)) (w == SKIP) q) as (λ _. not true ≡ true) [
      | inr r ↦ no SKIP refl r
      | inl r ↦ elim (or_cases (w == OWNER) (w == MAIN) r) as (λ _. not true ≡ true)
          [ inl s ↦ no OWNER refl s | inr s ↦ no MAIN refl s ]
    ]

pub section_ends_assertions : (k : TokenKind) → ends_section k ≡ true → ends_assertions k ≡ true
section_ends_assertions Name h = absurd (cc)
section_ends_assertions (Whole n) h = absurd (cc)
section_ends_assertions Real h = absurd (cc)
section_ends_assertions (Sign s) h = absurd (cc)
section_ends_assertions (Reserved w) h = instr_word w h (begins_instr (Reserved w)) refl
section_ends_assertions End h = absurd (cc)

-- a test that a reserved word fails
word_fails : (test : TokenKind → Bool) (w : ℕ) (k : TokenKind) → test k ≡ true → test (Reserved w) ≡ false
    → is_word w k ≡ false
word_fails test w k t f = by_test (is_word w k) refl
  where
    by_test : (b : Bool) → is_word w k ≡ b → b ≡ false
    by_test true e = let x : true ≡ false = sym t ∙ ap test (word_from w k e) ∙ f in absurd (cc)
    by_test false e = refl

neither : (p q : Bool) → p ≡ false → q ≡ false → (p || q) ≡ false
neither p q a b = ap (λ x. x || q) a ∙ b

pub member_open : (k : TokenKind) → begins_member k ≡ true → ends_members k ≡ false
member_open k h = neither (begins_section k) (is_word END k)
    (neither (is_word TRANSITION k) (is_word ASSERTION k) (word_fails begins_member TRANSITION k h refl)
    (word_fails begins_member ASSERTION k h refl)) (word_fails begins_member END k h refl)

pub later_open : (k : TokenKind) → begins_later k ≡ true → ends_body k ≡ false
later_open k h = word_fails begins_later END k h refl

-- Later clauses

pub later_first : (n : ℕ) (next : TokenKind) (ts : Tokens) → later_tokens n next ts
    → begins_later (kind_or next ts) ≡ true
later_first n next ts (inl h) = or_left (begins_section (kind_or next ts)) (begins_keyed (kind_or next ts))
    (section_first n next ts h)
later_first n next ts (inr h) = or_right (begins_section (kind_or next ts)) (begins_keyed (kind_or next ts))
    (keyed_first n next ts h)

-- no later clause begins with `else`
pub later_clear : (n : ℕ) (next : TokenKind) (ts : Tokens) → later_tokens n next ts → kind_or next ts ≢ Reserved ELSE
later_clear n next ts h e = fails begins_later (later_first n next ts h) e refl

pub later_some_clear : (n : ℕ) (next : TokenKind) (ts : Tokens) → (later_tokens n ▸ many (later_tokens n)) next ts
    → kind_or next ts ≢ Reserved ELSE
later_some_clear n next ts h e = later_clear n (kind_or next h.back) h.front h.first (sym (first_of h) ∙ e)

section_not_keyed : (k : TokenKind) → begins_keyed k ≡ true → begins_section k ≡ false
section_not_keyed k h = neither (is_word TRANSITION k) (is_word ASSERTION k)
    (word_fails begins_keyed TRANSITION k h refl) (word_fails begins_keyed ASSERTION k h refl)

pub later_section : (n : ℕ) (next : TokenKind) (ts : Tokens) → later_tokens n next ts
    → begins_section (kind_or next ts) ≡ true → section_of n next ts
later_section n next ts (inl h) k = h
later_section n next ts (inr h) k = let x : true ≡ false = sym k ∙ section_not_keyed (kind_or next ts) (keyed_first n next ts h) in absurd (cc)

pub later_keyed : (n : ℕ) (next : TokenKind) (ts : Tokens) → later_tokens n next ts
    → begins_section (kind_or next ts) ≡ false → keyed_of n next ts
later_keyed n next ts (inl h) k = let x : true ≡ false = sym (section_first n next ts h) ∙ k in absurd (cc)
later_keyed n next ts (inr h) k = h

pub later_follows : Follows (λ n. many (later_tokens n)) ends_section ends_body
later_follows = follows_many (λ n next ts h. or_left (begins_later (kind_or next ts)) (is_word END (kind_or next ts))
    (later_first n next ts h)) (λ k h. or_right (begins_later k) (is_word END k) h)

-- The sections of a body

sections_test : (test : TokenKind → Bool) (n : ℕ) (next : TokenKind) (ts : Tokens)
    → ((next : TokenKind) (ts : Tokens) → section_of n next ts → test (kind_or next ts) ≡ true)
    → (section_of n ▸ many (later_tokens n)) next ts → test (kind_or next ts) ≡ true
sections_test test n next ts f h = ap test (first_of h) ∙ f (kind_or next h.back) h.front h.first

pub sections_none : (n : ℕ) (next : TokenKind) (ts : Tokens) → sections_tokens n next ts
    → begins_section (kind_or next ts) ≡ false → nothing next ts
sections_none n next ts (inl h) k = h
sections_none n next ts (inr h) k = let x : true ≡ false = sym (sections_test begins_section n next ts (section_first n) h) ∙ k in absurd (cc)

pub sections_parts : (n : ℕ) (next : TokenKind) (ts : Tokens) → sections_tokens n next ts → ends_body next ≡ true
    → begins_section (kind_or next ts) ≡ true → (section_of n ▸ many (later_tokens n)) next ts
sections_parts n next ts (inl h) s k = let x : true ≡ false = sym k ∙ ap begins_section (ap (kind_or next) h ∙ word_from END next s) in absurd (cc)
sections_parts n next ts (inr h) s k = h

pub sections_follow : Follows sections_tokens ends_members ends_body
sections_follow = record { holds = λ n next ts h s. by_sections n next ts h s }
  where
    by_sections : (n : ℕ) (next : TokenKind) (ts : Tokens) → sections_tokens n next ts → ends_body next ≡ true
        → ends_members (kind_or next ts) ≡ true
    by_sections n next ts (inl h) s = ap ends_members (ap (kind_or next) h ∙ word_from END next s)
    by_sections n next ts (inr h) s = or_left (begins_section (kind_or next ts)) (is_word END (kind_or next ts))
        (sections_test begins_section n next ts (section_first n) h)

-- Bodies

pub finds_body : {A : Type 0} {left : ℕ} {r : Result A Refusal} {old new : Tokens} → left ≢ 0
    → FindsRefusal inside_body ends_body (left - 1) r old new → FindsRefusal (body_tokens deep) ends_body left r old new
finds_body {A} {left} {r} {old} {new} room f = record {
  front = f.front;
  passed = f.passed;
  only = λ p n other ts after same h w s. by_nesting p n other ts after same h w s;
}
  where
    arrives_empty : (new after : Tokens) → (r : Result A Refusal) → Arrives (left - 1) 0 r new after
        → Arrives left 0 r new after
    arrives_empty new after (Ok x) a = a
    arrives_empty new after (Err Syntax) a = a
    arrives_empty new after (Err Depth) a = absurd (omega (arith, a))
    arrives_empty new after (Err Memory) a = a

    arrives_inside : (m : ℕ) (new after : Tokens) → (r : Result A Refusal) → Arrives (left - 1) m r new after
        → Arrives left (suc m) r new after
    arrives_inside m new after (Ok x) a = a
    arrives_inside m new after (Err Syntax) a = a
    arrives_inside m new after (Err Depth) a = omega (arith, room, a)
    arrives_inside m new after (Err Memory) a = a

    by_nesting : Plain old → (n : ℕ) (other ts after : Tokens) → first_token_kind other ≡ first_token_kind new
        → body_tokens deep n (first_token_kind after) ts → f.front ++ other ≡ ts ++ after → ends_body (first_token_kind after) ≡ true
        → Arrives left n r other after
    by_nesting p zero other ts after same (inl h) w s =
        arrives_empty other after r (f.only p 0 other ts after same
        (record { front = []; back = ts; split = refl; first = ([], refl); second = inl h }) w s)
    by_nesting p zero other ts after same (inr h) w s =
        let first : kind_or (first_token_kind after) ts ≡ first_token_kind old =
        sym (kind_before ts after) ∙ sym (ap first_token_kind w) ∙ kind_behind f.front other new same
        ∙ sym (ap first_token_kind f.passed) in
        absurd (plain_kind old p (sym first ∙ token_kind h))
    by_nesting p (suc n) other ts after same h w s =
        arrives_inside n other after r (f.only p n other ts after same h w s)

-- a body that is not empty
many_some : (A : Form) (count : List (Unit {0})) (next : TokenKind) (ts : Tokens) → each (λ _. A) count next ts
    → (ts ≡ []) ⊎ ((a : Tokens) × (b : Tokens) × (ts ≡ a ++ b) × A (kind_or next b) a)
many_some A [] next ts h = inl h
many_some A (x ∷ count) next ts h = inr (h.front, h.back, h.split, h.first)

body_first : (n : ℕ) (next : TokenKind) (ts : Tokens) → inside_body n next ts
    → (ts ≡ []) ⊎ (begins_body (kind_or next ts) ≡ true)
body_first n next ts h = by_members (many_some (member_tokens n) h.first.0 (kind_or next h.back) h.front h.first.1)
  where
    by_sections : sections_tokens n next h.back → ts ≡ h.back → (ts ≡ []) ⊎ (begins_body (kind_or next ts) ≡ true)
    by_sections (inl e) q = inl (q ∙ e)
    by_sections (inr f) q = inr (or_left (begins_section (kind_or next ts)) (begins_member (kind_or next ts))
        (ap begins_section (ap (kind_or next) q) ∙ sections_test begins_section n next h.back (section_first n) f))

    by_members : (h.front ≡ []) ⊎ ((a : Tokens) × (b : Tokens) × (h.front ≡ a ++ b)
        × member_tokens n (kind_or (kind_or next h.back) b) a) → (ts ≡ []) ⊎ (begins_body (kind_or next ts) ≡ true)
    by_members (inl e) = by_sections h.second (h.split ∙ ap (λ (t : Tokens). t ++ h.back) e)
    by_members (inr (a, b, e, m)) = inr (or_right (begins_section (kind_or next ts)) (begins_member (kind_or next ts))
        (ap begins_member (first_of h ∙ ap (kind_or (kind_or next h.back)) e ∙ kind_join a b (kind_or next h.back))
        ∙ member_first n (kind_or (kind_or next h.back) b) a m))

pub body_empty : (n : ℕ) (next : TokenKind) (ts : Tokens) → body_tokens deep n next ts
    → begins_body (kind_or next ts) ≡ false → (kind_or next ts ≡ no_kind → ⊥) → nothing next ts
body_empty zero next ts (inl h) k real = h
body_empty zero next ts (inr h) k real = absurd (real (token_kind h))
body_empty (suc n) next ts h k real = elim (body_first n next ts h) as (λ _. ts ≡ []) [ inl e ↦ e | inr b ↦ (let x : true ≡ false = sym b ∙ k in absurd (cc)) ]

pub body_some : (n : ℕ) (next : TokenKind) (ts : Tokens) → body_tokens deep n next ts → ends_body next ≡ true
    → begins_body (kind_or next ts) ≡ true → (kind_or next ts ≡ no_kind → ⊥) → n ≢ 0
body_some zero next ts (inl h) s k real = let x : true ≡ false = sym k ∙ ap begins_body (ap (kind_or next) h ∙ word_from END next s) in absurd (cc)
body_some zero next ts (inr h) s k real = absurd (real (token_kind h))
body_some (suc n) next ts h s k real = λ e. absurd (cc)

pub body_in : (n : ℕ) (old_items xs ys items mid : List Member) {old rest new : Tokens} → n ≢ 0 → old_items ≡ []
    → mid ≡ old_items ++ xs → items ≡ mid ++ ys → Spans (groups (ReadsMember (n - 1) (ReadsBody (n - 1))) xs) old rest
    → Spans (ReadsSections (n - 1) (ReadsBody (n - 1)) ys) rest new → Spans (ReadsBody n items) old new
body_in zero old_items xs ys items mid n0 e m i a b = absurd (n0 refl)
body_in (suc n) old_items xs ys items mid n0 e m i a b =
    spans_map (spans_then a b) (λ next ts h. record {
      xs = xs;
      ys = ys;
      all = i ∙ ap (λ (zs : List Member). zs ++ ys) (m ∙ ap (λ (zs : List Member). zs ++ xs) e);
      reads = subst (λ (m : ℕ). (groups (ReadsMember m (ReadsBody m)) xs ▸ ReadsSections m (ReadsBody m) ys) next ts)
          (sub-one (suc n)) h;
    })

-- Loops over groups

concat_push : {X : Type 0} (parts : List (List X)) (ys : List X) → concat (parts ++ ys ∷ []) ≡ concat parts ++ ys
concat_push [] ys = append-nil ys
concat_push (p ∷ parts) ys = ap (λ (s : List _). p ++ s) (concat_push parts ys) ∙ sym (append_assoc p (concat parts) ys)

-- The list `before` has become `items` by groups of values that were taken from `start` to `rest`.
pub record GathersGroups {X : Type 0} (One : List X → Form) (A : ℕ → Form) (ends : TokenKind → Bool)
    (before items : List X) (start rest : Tokens) : Type 0 where
  pub more : List X
  pub pushed : items ≡ before ++ more
  pub taken : Spans (groups One more) start rest
  pub loops : Loops A ends start rest

pub groups_push : {X Y : Type 0} {One : List X → Form} {A : ℕ → Form} {ends ends' : TokenKind → Bool} {left : ℕ} {y : Y}
    (ys : List X) {before items items' : List X} {start rest new : Tokens} →
    GathersGroups One A ends' before items start rest → ends' (first_token_kind rest) ≡ false → Spans (One ys) rest new
    → FindsRefusal A ends left (Ok y) rest new → Follows (λ n. many (A n)) ends ends' → items' ≡ items ++ ys
    → GathersGroups One A ends' before items' start new
groups_push {One = One} ys {before = before} {start = start} {rest = rest} g open_here s f follows e =
    let p : Spans (each One (g.taken.form.parts ++ ys ∷ [])) start _ =
    spans_push One g.taken.form.parts ys
    (record { front = g.taken.front; split = g.taken.split; form = g.taken.form.are }) s in
    record {
      more = g.more ++ ys;
      pushed = e ∙ ap (λ (xs : List _). xs ++ ys) g.pushed ∙ append_assoc before g.more ys;
      taken = record {
        front = p.front;
        split = p.split;
        form = record {
          parts = g.taken.form.parts ++ ys ∷ [];
          all = ap (λ (xs : List _). xs ++ ys) g.taken.form.all
              ∙ sym (concat_push g.taken.form.parts ys);
          are = p.form;
        };
      };
      loops = loops_next g.loops open_here f follows;
    }

-- What a call answers of the members that it adds

pub adds_map : {A : Type 0} (P Q : List Member → Form) (r : Result A Refusal) (before items : List Member)
    (old new : Tokens) →
    IfOk r (λ _. (ms : List Member) × (items ≡ before ++ ms) × Spans (P ms) old new)
    → ((ms : List Member) (next : TokenKind) (ts : Tokens) → P ms next ts → Q ms next ts) →
    IfOk r (λ _. (ms : List Member) × (items ≡ before ++ ms) × Spans (Q ms) old new)
adds_map P Q (Ok x) before items old new (ms, e, s) f = (ms, e, spans_map s (f ms))
adds_map P Q (Err x) before items old new h f = h

pub sections_added : (n : ℕ) (Body : List Member → Form) (before mid items xs ys : List Member) {old rest new : Tokens}
    →
    mid ≡ before ++ xs → items ≡ mid ++ ys → Spans (ReadsSection n xs) old rest
    → Spans (groups (ReadsLater n Body) ys) rest new →
    (ms : List Member) × (items ≡ before ++ ms) × Spans (ReadsSections n Body ms) old new
sections_added n Body before mid items xs ys e f a b = (
  xs ++ ys,
  f ∙ ap (λ (zs : List Member). zs ++ ys) e
      ∙ append_assoc before xs ys,
  spans_map (spans_then a b) (λ next ts h. some xs ys refl h),
)

pub sections_nothing : (n : ℕ) (Body : List Member → Form) (before : List Member) (old : Tokens)
    → (ms : List Member) × (before ≡ before ++ ms) × Spans (ReadsSections n Body ms) old old
sections_nothing n Body before old =
    ([], sym (append-nil before), record { front = []; split = refl; form = none refl refl })
