-- Clauses, sections and bodies that begin alike, and end where they may, are one.
use Rattle.std.proofs.Common.{◌≡◌, ℕ, zero, suc, inl, inr, Bool, true, not, List, [], ◌∷◌, ◌++◌, refl, sym, ap, ◌∙◌, subst, arith}
use Rattle.std.proofs.lemmas.Bool.{or_cases, or_right, or_left}
use Rattle.std.specs.Prelude.{◌==◌, if◌then◌else◌}
use Rattle.ar_base.specs.Lists.{Along, none, one_and}
use Rattle.ar_base.specs.declared.places.Place.{Place}
use Rattle.ar_base.specs.declared.places.Span.{Span}
use Rattle.ar_lexer.specs.declared.token.TokenKind.{TokenKind}
use Rattle.ar_lexer.specs.declared.token.TokenKind.TheVariants.{Name, Sign, Reserved}
use Rattle.ar_lexer.specs.declared.signs.TheConstants.{COMMA, SEMICOLON, EQUALS}
use Rattle.ar_lexer.specs.declared.words.TheConstants as words
use Rattle.ar_syntax.specs.declared.paths.Path.{Path}
use Rattle.ar_syntax.specs.declared.expressions.RawExpr.{RawExpr}
use Rattle.ar_syntax.specs.declared.members.Member.{Member}
use Rattle.ar_syntax.specs.declared.members.Member.TheVariants as member
use Rattle.ar_syntax.specs.declared.members.TypeForm.{TypeForm}
use Rattle.ar_syntax.specs.declared.members.TypeForm.TheVariants as type_form
use Rattle.ar_syntax.specs.declared.members.TypeName.{TypeName}
use Rattle.ar_syntax.specs.declared.members.Unit.{Unit as UnitTree}
use Rattle.ar_base.specs.Numbers.{NameId}
use Rattle.ar_base.proofs.Truths.{not_true}
use Rattle.expression_grammar.specs.Words.{Form, Tokens, kind_or, token, ◌▸◌, between, groups, covering}
use Rattle.expression_grammar.specs.Paths.{ReadsPlacedName, ReadsPath}
use Rattle.expression_grammar.specs.Expressions.{Node, ReadsExpr}
use Rattle.ar_grammar.specs.Members.{ReadsTypeForm, ReadsType, ReadsEvent, ReadsDeclared, ReadsTransition, ReadsAssertion, ReadsSection, ReadsHidden, ReadsUnit, ReadsSingle, extends, boolean, clones, embeds, kept_value, parameter, observer, ReadsKeyed, single, block, event, hide, ReadsMember, keyed, named, ReadsLater, ReadsSections, some, ReadsBodyOf, ReadsBody, kept}
use Rattle.ar_grammar.specs.Members as grammar
use Rattle.expression_grammar.specs.Results.{first_token_kind, anything, is_word, ends_path}
use Rattle.ar_grammar.specs.Results.{ends_attribute, ends_semicolon, ends_body, ends_members, ends_section, begins_instr, begins_keyed, begins_section, begins_later}
use Rattle.expression_grammar.proofs.Finding.{fails, token_kind, then_kind, kind_join}
use Rattle.expression_grammar.proofs.ExpressionForms.{sign_from, word_from}
use Rattle.ar_grammar.proofs.BodyParts.{section_ends_assertions, member_open, later_open}
use Rattle.parser_laws.proofs.Firsts.{instr_first, section_first, keyed_first, member_first, later_first}
use Rattle.parser_laws.specs.Expressions.{SamePath, SameExpr}
use Rattle.parser_laws.specs.Members.{SameUnitBy, SameMemberBy, SameMemberToDepth, SameMember, SameUnit}
use Rattle.parser_laws.specs.Members as same
use Rattle.parser_laws.proofs.Agreeing.{Agree, First, other, first_token, first_front, first_nothing, first_each, not_both, meet, agree_map, agree_apart, agree_token, agree_then, agree_next, agree_closed, agree_each, agree_separated, agree_groups, along_map, along_append}
use Rattle.parser_laws.proofs.OnePath.{agree_placed, agree_path, placed_first}
use Rattle.parser_laws.proofs.OneExpression.{agree_between, agree_expr}
use Rattle.parser_laws.proofs.OneUnread.{agree_covering, agree_kept}
use Rattle.parser_laws.proofs.OneMember.{every, agree_type, agree_declared, agree_event, agree_hidden, agree_transition, agree_assertion}

-- Clauses of one member

-- the word that a clause begins with
abbrev word_of : {n : ℕ} {m : Member} {next : TokenKind} {ts : Tokens} → ReadsSingle n m next ts → ℕ
word_of (extends name at u h) = words.EXTENDS
word_of (boolean h e) = words.BOOLEAN
word_of (clones p name at u h) = words.CLONES
word_of (embeds p name at u h) = words.EMBEDS
word_of (kept_value name at span u h) = words.PARAMETER
word_of (parameter t name at e u h) = words.PARAMETER
word_of (observer t name at e u h) = words.OBSERVER

boolean_kind : {n : ℕ} {m : Member} {next : TokenKind} {ts : Tokens} → (h : ReadsDeclared n m next ts)
    → h.type.form ≡ type_form.Boolean → kind_or next ts ≡ Reserved words.BOOLEAN
boolean_kind {next = next} h e =
    ap (kind_or next) h.reads.split ∙ kind_join h.reads.front h.reads.back next
    ∙ token_kind (subst (λ (f : TypeForm). ReadsTypeForm f (kind_or next h.reads.back) h.reads.front) e
    h.reads.first.form)

single_kind : {n : ℕ} {m : Member} {next : TokenKind} {ts : Tokens} → (h : ReadsSingle n m next ts)
    → kind_or next ts ≡ Reserved (word_of h)
single_kind (extends name at u h) = then_kind h
single_kind (boolean h e) = boolean_kind h e
single_kind (clones p name at u h) = then_kind h
single_kind (embeds p name at u h) = then_kind h
single_kind (kept_value name at span u h) = then_kind h
single_kind (parameter t name at e u h) = then_kind h
single_kind (observer t name at e u h) = then_kind h

word_in : (v w : ℕ) → Reserved v ≡ Reserved w → v ≡ w
word_in v w e = cc

-- what stands behind the word of a valued clause
abbrev valued : ℕ → TypeName → (NameId × Place) → RawExpr → Form
valued n t x e = ReadsType t ▸ ReadsPlacedName x ▸ between (Sign EQUALS) (Sign SEMICOLON) (Node (ReadsExpr n) e)

agree_valued : (n : ℕ) (t u : TypeName) (x y : NameId × Place) (e g : RawExpr)
    → Agree anything (valued n t x e) (valued n u y g) ((t ≡ u) × ((x ≡ y) × SameExpr e g))
agree_valued n t u x y e g = agree_next (agree_type t u)
    (agree_next (agree_placed x y) (agree_between (agree_expr n e g) refl))

abbrev aliased : ℕ → Path → (NameId × Place) → Form
aliased word p x = token (Reserved word) ▸ ReadsPath p ▸ between (Reserved words.AS) (Sign SEMICOLON)
    (ReadsPlacedName x)

agree_aliased : (word : ℕ) (p q : Path) (x y : NameId × Place)
    → Agree anything (aliased word p x) (aliased word q y) (SamePath p q × (x ≡ y))
agree_aliased word p q x y =
    agree_map (agree_next agree_token (agree_then (agree_path p q) (first_front (first_token refl))
    (first_front (first_token refl)) (agree_between {ends = anything} (agree_placed x y) refl))) (λ r. r.1)

abbrev kept_form : ℕ → (NameId × Place) → Span → Form
kept_form n x span = token (Reserved words.PARAMETER) ▸ token (Reserved words.REAL) ▸ ReadsPlacedName x ▸ between
    (Sign EQUALS) (Sign SEMICOLON) (covering span (kept n))

agree_kept_form : (n : ℕ) (x y : NameId × Place) (s t : Span)
    → Agree anything (kept_form n x s) (kept_form n y t) ((x ≡ y) × (s ≡ t))
agree_kept_form n x y s t = agree_map
    (agree_next agree_token (agree_next agree_token
    (agree_next (agree_placed x y) (agree_between (agree_covering (agree_kept n) s t) refl)))) (λ r. r.1.1)

type_first : (t : TypeName) → First (ReadsType t) anything (other (is_word words.REAL))
type_first t = record { holds = λ next ts h s. by_form t.form next ts h.form }
  where
    by_form : (f : TypeForm) (next : TokenKind) (ts : Tokens) → ReadsTypeForm f next ts
        → other (is_word words.REAL) (kind_or next ts) ≡ true
    by_form type_form.Boolean next ts h = ap (other (is_word words.REAL)) (token_kind h)
    by_form type_form.Integer next ts h = ap (other (is_word words.REAL)) (token_kind h)
    by_form (type_form.Named id) next ts h = ap (other (is_word words.REAL)) (ap (kind_or next) h.alone ∙ h.of_kind)

kept_apart : (n : ℕ) (x y : NameId × Place) (s : Span) (t : TypeName) (e : RawExpr)
    → Agree anything (kept_form n x s) (token (Reserved words.PARAMETER) ▸ valued n t y e) ⊥
kept_apart n x y s t e =
    agree_map (agree_next (agree_token {ends = anything})
    (agree_apart {R = ⊥} {test = is_word words.REAL} {test' = other (is_word words.REAL)}
    (first_front (first_token refl)) (first_front (type_first t)) (λ k p q. not_true (is_word words.REAL k) q p)))
    (λ r. r.1)

single_case : (n : ℕ) (m m' : Member) (a b rest rest' : Tokens) (h : ReadsSingle n m (first_token_kind rest) a)
    (k : ReadsSingle n m' (first_token_kind rest') b) → a ++ rest ≡ b ++ rest' → word_of h ≡ word_of k
    → SameMember m m' × (a ≡ b)
single_case n m m' a b rest rest' (extends name at u h) (extends name' at' u' k) e t =
    let r = (agree_between {ends = anything} {ends' = anything} (agree_placed (name, at) (name', at')) refl).holds a b
    rest rest' h k e refl refl in
    (every (λ Same. same.equal (u ∙ ap (λ (x : NameId × Place). member.Extends x.0 x.1) r.0 ∙ sym u')), r.1)
single_case n m m' a b rest rest' (boolean h i) (boolean k i') e t =
    (agree_declared n m m').holds a b rest rest' h k e refl refl
single_case n m m' a b rest rest' (clones p name at u h) (clones q name' at' u' k) e t =
    let r = (agree_aliased words.CLONES p q (name, at) (name', at')).holds a b rest rest' h k e refl refl in (
      every (λ Same. same.clones p q name at u (u' ∙ ap (λ (x : NameId × Place). member.Clones q x.0 x.1) (sym r.0.1))
          r.0.0),
      r.1,
    )
single_case n m m' a b rest rest' (embeds p name at u h) (embeds q name' at' u' k) e t =
    let r = (agree_aliased words.EMBEDS p q (name, at) (name', at')).holds a b rest rest' h k e refl refl in (
      every (λ Same. same.embeds p q name at u (u' ∙ ap (λ (x : NameId × Place). member.Embeds q x.0 x.1) (sym r.0.1))
          r.0.0),
      r.1,
    )
single_case n m m' a b rest rest' (kept_value name at span u h) (kept_value name' at' span' u' k) e t =
    let r = (agree_kept_form n (name, at) (name', at') span span').holds a b rest rest' h k e refl refl in (
      every (λ Same. same.equal (u ∙ ap (λ (x : NameId × Place). member.Kept x.0 x.1 span) r.0.0
          ∙ ap (λ (x : Span). member.Kept name' at' x) r.0.1 ∙ sym u')),
      r.1,
    )
single_case n m m' a b rest rest' (kept_value name at span u h) (parameter t name' at' v u' k) e i =
    absurd ((kept_apart n (name, at) (name', at') span t v).holds a b rest rest' h k e refl refl).0
single_case n m m' a b rest rest' (parameter t name at v u h) (kept_value name' at' span u' k) e i =
    absurd ((kept_apart n (name', at') (name, at) span t v).holds b a rest' rest k h (sym e) refl refl).0
single_case n m m' a b rest rest' (parameter t name at v u h) (parameter t' name' at' v' u' k) e i =
    let r = (agree_next (agree_token {ends = anything}) (agree_valued n t t' (name, at) (name', at') v v')).holds a b
    rest rest' h k e refl refl in (
      every (λ Same. same.parameter t name at v v' u
          (u' ∙ ap (λ (x : NameId × Place). member.Parameter t' x.0 x.1 v') (sym r.0.1.1.0)
          ∙ ap (λ (z : TypeName). member.Parameter z name at v') (sym r.0.1.0)) r.0.1.1.1),
      r.1,
    )
single_case n m m' a b rest rest' (observer t name at v u h) (observer t' name' at' v' u' k) e i =
    let r = (agree_next (agree_token {ends = anything}) (agree_valued n t t' (name, at) (name', at') v v')).holds a b
    rest rest' h k e refl refl in (
      every (λ Same. same.observer t name at v v' u
          (u' ∙ ap (λ (x : NameId × Place). member.Observer t' x.0 x.1 v') (sym r.0.1.1.0)
          ∙ ap (λ (z : TypeName). member.Observer z name at v') (sym r.0.1.0)) r.0.1.1.1),
      r.1,
    )
single_case n m m' a b rest rest' h k e t = absurd (omega (arith, t))

agree_single : (n : ℕ) (m m' : Member) → Agree anything (ReadsSingle n m) (ReadsSingle n m') (SameMember m m')
agree_single n m m' = record {
  holds = λ a b rest rest' h k e s s'. single_case n m m' a b rest rest' h k e
      (word_in (word_of h) (word_of k) (sym (single_kind h) ∙ meet a b rest rest' e ∙ single_kind k));
}

-- Clauses

-- The bodies of one nesting: each that begins alike, and ends where it may, is one.
pub record OneBody (Body : List Member → Form) : Type 0 where
  pub agree : (xs ys : List Member) → Agree ends_body (Body xs) (Body ys) (Along SameMember xs ys)

pub agree_unit : {Body : List Member → Form} → OneBody Body → (u w : UnitTree)
    → Agree anything (ReadsUnit Body u) (ReadsUnit Body w) (SameUnit u w)
agree_unit o u w = agree_map (agree_next (agree_placed (u.name, u.at) (w.name, w.at))
    (agree_closed (o.agree u.members.items w.members.items) refl refl))
    (λ r. record {
      name = ap (λ (x : NameId × Place). x.0) r.0;
      place = ap (λ (x : NameId × Place). x.1) r.0;
      members = r.1.0;
    })

same_block : (m n : Member) (u w : UnitTree) → m ≡ member.Block u → n ≡ member.Block w → SameUnit u w → SameMember m n
same_block m n u w e e' s zero = tt
same_block m n u w e e' s (suc d) =
    same.block u w e e' (record { name = s.name; place = s.place; members = along_map (λ x y h. h d) s.members })

along_single : {xs ys : List Member} {x y : Member} → xs ≡ x ∷ [] → ys ≡ y ∷ [] → SameMember x y
    → Along SameMember xs ys
along_single {xs} {ys} {x} {y} e e' r =
    subst (λ (zs : List Member). Along SameMember zs ys) (sym e)
    (subst (λ (zs : List Member). Along SameMember (x ∷ []) zs) (sym e') (one_and r none))

abbrev tag_of : TokenKind → ℕ
tag_of (Reserved w) = if w == words.BLOCK then 1 else if w == words.EVENT then 2 else if w == words.HIDE then 3 else 0
tag_of _ = 0

single_tag : {n : ℕ} {m : Member} {next : TokenKind} {ts : Tokens} → (h : ReadsSingle n m next ts)
    → tag_of (Reserved (word_of h)) ≡ 0
single_tag (extends name at u h) = refl
single_tag (boolean h e) = refl
single_tag (clones p name at u h) = refl
single_tag (embeds p name at u h) = refl
single_tag (kept_value name at span u h) = refl
single_tag (parameter t name at e u h) = refl
single_tag (observer t name at e u h) = refl

named_kind : {n : ℕ} {m : Member} {next : TokenKind} {ts : Tokens} → (h : ReadsDeclared n m next ts) → (id : NameId)
    → h.type.form ≡ type_form.Named id → kind_or next ts ≡ Name
named_kind {next = next} h id e =
    let front : ReadsTypeForm (type_form.Named id) (kind_or next h.reads.back) h.reads.front =
    subst (λ (f : TypeForm). ReadsTypeForm f (kind_or next h.reads.back) h.reads.front) e h.reads.first.form in
    ap (kind_or next) h.reads.split ∙ kind_join h.reads.front h.reads.back next
    ∙ ap (kind_or (kind_or next h.reads.back)) front.alone ∙ front.of_kind

module _ (n : ℕ) {Body : List Member → Form} (o : OneBody Body) where
  abbrev keyed_tag : {ms : List Member} {next : TokenKind} {ts : Tokens} → ReadsKeyed n Body ms next ts → ℕ
  keyed_tag (single m u h) = 0
  keyed_tag (block w u h) = 1
  keyed_tag (event h) = 2
  keyed_tag (hide h) = 3

  keyed_tagged : {ms : List Member} {next : TokenKind} {ts : Tokens} → (h : ReadsKeyed n Body ms next ts)
      → tag_of (kind_or next ts) ≡ keyed_tag h
  keyed_tagged (single m u h) = ap tag_of (single_kind h) ∙ single_tag h
  keyed_tagged (block w u h) = ap tag_of (then_kind h)
  keyed_tagged (event h) = ap tag_of (then_kind h)
  keyed_tagged (hide h) = ap tag_of (then_kind h)

  semicolon_attribute : (k : TokenKind) → ends_semicolon k ≡ true → ends_attribute k ≡ true
  semicolon_attribute k h = ap ends_attribute (sign_from SEMICOLON k h)

  semicolon_path : (k : TokenKind) → ends_semicolon k ≡ true → ends_path k ≡ true
  semicolon_path k h = ap ends_path (sign_from SEMICOLON k h)

  keyed_case : (xs ys : List Member) (a b rest rest' : Tokens) (h : ReadsKeyed n Body xs (first_token_kind rest) a)
      (k : ReadsKeyed n Body ys (first_token_kind rest') b) → a ++ rest ≡ b ++ rest' → keyed_tag h ≡ keyed_tag k
      → Along SameMember xs ys × (a ≡ b)
  keyed_case xs ys a b rest rest' (single m u h) (single m' u' k) e t =
      let r = (agree_single n m m').holds a b rest rest' h k e refl refl in (along_single u u' r.0, r.1)
  keyed_case xs ys a b rest rest' (block w u h) (block w' u' k) e t =
      let r = (agree_next (agree_token {ends = anything}) (agree_unit o w w')).holds a b rest rest' h k e refl refl in
      (along_single u u' (same_block (member.Block w) (member.Block w') w w' refl refl r.0.1), r.1)
  keyed_case xs ys a b rest rest' (event h) (event k) e t =
      (agree_between {ends' = anything} (agree_separated {ends' = ends_semicolon} (Sign COMMA) (agree_event n) refl refl
      semicolon_attribute xs ys) refl).holds a b rest rest' h k e refl refl
  keyed_case xs ys a b rest rest' (hide h) (hide k) e t =
      (agree_between {ends' = anything} (agree_separated {ends' = ends_semicolon} (Sign COMMA) agree_hidden refl refl
      semicolon_path xs ys) refl).holds a b rest rest' h k e refl refl
  keyed_case xs ys a b rest rest' h k e t = absurd (omega (arith, t))

  agree_keyed : (xs ys : List Member) → Agree anything (ReadsKeyed n Body xs) (ReadsKeyed n Body ys)
      (Along SameMember xs ys)
  agree_keyed xs ys = record {
    holds = λ a b rest rest' h k e s s'. keyed_case xs ys a b rest rest' h k e
        (sym (keyed_tagged h) ∙ ap tag_of (meet a b rest rest' e) ∙ keyed_tagged k);
  }

  first_keyed : (xs : List Member) → First (ReadsKeyed n Body xs) anything begins_keyed
  first_keyed xs = record { holds = λ next ts h s. keyed_first n Body next ts (xs, h) }

  -- Members

  member_case : (xs ys : List Member) (a b rest rest' : Tokens) → ReadsMember n Body xs (first_token_kind rest) a
      → ReadsMember n Body ys (first_token_kind rest') b → a ++ rest ≡ b ++ rest' → Along SameMember xs ys × (a ≡ b)
  member_case xs ys a b rest rest' (keyed h) (keyed k) e = (agree_keyed xs ys).holds a b rest rest' h k e refl refl
  member_case xs ys a b rest rest' (keyed h) (named m u k id i) e =
      fails begins_keyed ((first_keyed xs).holds (first_token_kind rest) a h refl) (meet a b rest rest' e ∙ named_kind k id i)
      refl
  member_case xs ys a b rest rest' (named m u h id i) (keyed k) e =
      fails begins_keyed ((first_keyed ys).holds (first_token_kind rest') b k refl)
      (meet b a rest' rest (sym e) ∙ named_kind h id i) refl
  member_case xs ys a b rest rest' (named m u h id i) (named m' u' k id' i') e =
      let r = (agree_declared n m m').holds a b rest rest' h k e refl refl in (along_single u u' r.0, r.1)

  agree_member : (xs ys : List Member)
      → Agree anything (ReadsMember n Body xs) (ReadsMember n Body ys) (Along SameMember xs ys)
  agree_member xs ys = record { holds = λ a b rest rest' h k e s s'. member_case xs ys a b rest rest' h k e }

  -- Sections

  no_step : (k : TokenKind) → begins_instr k ≡ true → other ends_section k ≡ true
  no_step k h = not_both (begins_instr k) (ends_section k)
      (λ x y. not_true (begins_instr k) (section_ends_assertions k y) x) h

  transition_first : (m : Member) → First (ReadsTransition n m) anything (other ends_section)
  transition_first m = record { holds = λ next ts h s. by_case next ts h }
    where
      by_case : (next : TokenKind) (ts : Tokens) → ReadsTransition n m next ts
          → other ends_section (kind_or next ts) ≡ true
      by_case next ts (grammar.sync name at v u h) =
          (first_front {ends = anything} (placed_first (other ends_section) refl (name, at))).holds next ts h refl
      by_case next ts (grammar.local name at g i u h) =
          (first_front {ends = anything} (placed_first (other ends_section) refl (name, at))).holds next ts h refl

  section_case : (xs ys : List Member) (a b rest rest' : Tokens) → ReadsSection n xs (first_token_kind rest) a
      → ReadsSection n ys (first_token_kind rest') b → a ++ rest ≡ b ++ rest' → ends_section (first_token_kind rest) ≡ true
      → ends_section (first_token_kind rest') ≡ true → Along SameMember xs ys × (a ≡ b)
  section_case xs ys a b rest rest' (inl h) (inl k) e s s' =
      let r = (agree_next (agree_token {ends = anything})
      (agree_each {ends = anything} {ends' = ends_section} (agree_transition n)
      (λ x. record { holds = λ next ts g t. refl }) transition_first (λ k t. refl) xs ys)).holds a b rest rest'
      h k e s s' in
      (r.0.1, r.1)
  section_case xs ys a b rest rest' (inl h) (inr k) e s s' =
      fails (is_word words.TRANSITION) (ap (is_word words.TRANSITION) (sym (meet a b rest rest' e) ∙ then_kind h))
      (then_kind k) refl
  section_case xs ys a b rest rest' (inr h) (inl k) e s s' =
      fails (is_word words.TRANSITION) (ap (is_word words.TRANSITION) (meet a b rest rest' e ∙ then_kind k))
      (then_kind h) refl
  section_case xs ys a b rest rest' (inr h) (inr k) e s s' =
      let r = (agree_next (agree_token {ends = anything})
      (agree_each {ends = anything} {ends' = ends_section} (agree_assertion n)
      (λ x. record { holds = λ next ts g t. refl })
      (λ x. record { holds = λ next ts g t. no_step (kind_or next ts) (instr_first n g.i next ts g.reads) })
      (λ k t. refl) xs ys)).holds a b rest rest' h k e s s' in
      (r.0.1, r.1)

  agree_section : (xs ys : List Member) → Agree ends_section (ReadsSection n xs) (ReadsSection n ys)
      (Along SameMember xs ys)
  agree_section xs ys = record { holds = section_case xs ys }

  section_keyed : (k : TokenKind) → begins_section k ≡ true → begins_keyed k ≡ true → ⊥
  section_keyed k h g = elim (or_cases (is_word words.TRANSITION k) (is_word words.ASSERTION k) h) [
    | inl e ↦ fails begins_keyed g (word_from words.TRANSITION k e) refl
    | inr e ↦ fails begins_keyed g (word_from words.ASSERTION k e) refl
  ]

  first_section : {ends : TokenKind → Bool} (xs : List Member) → First (ReadsSection n xs) ends begins_section
  first_section xs = record { holds = λ next ts h s. section_first n next ts (xs, h) }

  later_case : (xs ys : List Member) (a b rest rest' : Tokens) → ReadsLater n Body xs (first_token_kind rest) a
      → ReadsLater n Body ys (first_token_kind rest') b → a ++ rest ≡ b ++ rest' → ends_section (first_token_kind rest) ≡ true
      → ends_section (first_token_kind rest') ≡ true → Along SameMember xs ys × (a ≡ b)
  later_case xs ys a b rest rest' (inl h) (inl k) e s s' = (agree_section xs ys).holds a b rest rest' h k e s s'
  later_case xs ys a b rest rest' (inl h) (inr k) e s s' =
      (agree_apart (first_section {ends = anything} xs) (first_keyed ys) section_keyed).holds a b rest rest' h k e refl
      refl
  later_case xs ys a b rest rest' (inr h) (inl k) e s s' =
      (agree_apart (first_keyed xs) (first_section {ends = anything} ys) (λ k x y. section_keyed k y x)).holds a b rest
      rest' h k e refl refl
  later_case xs ys a b rest rest' (inr h) (inr k) e s s' = (agree_keyed xs ys).holds a b rest rest' h k e refl refl

  agree_later : (xs ys : List Member)
      → Agree ends_section (ReadsLater n Body xs) (ReadsLater n Body ys) (Along SameMember xs ys)
  agree_later xs ys = record { holds = later_case xs ys }

  later_fits : (xs : List Member) → First (ReadsLater n Body xs) anything ends_section
  later_fits xs = record {
    holds = λ next ts h s. or_left (begins_later (kind_or next ts))
        (is_word words.END (kind_or next ts)) (later_first n Body next ts (xs, h));
  }

  later_starts : (xs : List Member) → First (ReadsLater n Body xs) anything (other ends_body)
  later_starts xs = record {
    holds = λ next ts h s. ap not
        (later_open (kind_or next ts) (later_first n Body next ts (xs, h)));
  }

  body_section : (k : TokenKind) → ends_body k ≡ true → ends_section k ≡ true
  body_section k h = or_right (begins_later k) (is_word words.END k) h

  groups_first : (ys : List Member) → First (groups (ReadsLater n Body) ys) ends_body ends_section
  groups_first ys = record { holds = λ next ts h s. (first_each later_fits body_section h.parts).holds next ts h.are s }

  sections_case : (xs ys : List Member) (a b rest rest' : Tokens) → ReadsSections n Body xs (first_token_kind rest) a
      → ReadsSections n Body ys (first_token_kind rest') b → a ++ rest ≡ b ++ rest' → ends_body (first_token_kind rest) ≡ true
      → ends_body (first_token_kind rest') ≡ true → Along SameMember xs ys × (a ≡ b)
  sections_case xs ys a b rest rest' (grammar.none u h) (grammar.none u' k) e s s' = (
    subst (λ (zs : List Member). Along SameMember zs ys) (sym u)
        (subst (λ (zs : List Member). Along SameMember [] zs) (sym u') none),
    h ∙ sym k,
  )
  sections_case xs ys a b rest rest' (grammar.none u h) (some us ws u' k) e s s' =
      (agree_apart {test = ends_body} {test' = begins_section} (first_nothing (λ k t. t))
      (first_front (first_section us)) (λ k x y. fails begins_section y (word_from words.END k x) refl)).holds a b
      rest rest' h k e s s'
  sections_case xs ys a b rest rest' (some us ws u h) (grammar.none u' k) e s s' =
      (agree_apart {test = begins_section} {test' = ends_body} (first_front (first_section us))
      (first_nothing (λ k t. t)) (λ k x y. fails begins_section x (word_from words.END k y) refl)).holds a b rest
      rest' h k e s s'
  sections_case xs ys a b rest rest' (some us ws u h) (some us' ws' u' k) e s s' =
      let r = (agree_then (agree_section us us') (groups_first ws) (groups_first ws')
      (agree_groups agree_later later_fits later_starts body_section ws ws')).holds a b rest rest' h k e s s' in (
        subst (λ (zs : List Member). Along SameMember zs ys) (sym u)
            (subst (λ (zs : List Member). Along SameMember (us ++ ws) zs) (sym u') (along_append r.0.0 r.0.1)),
        r.1,
      )

  agree_sections : (xs ys : List Member)
      → Agree ends_body (ReadsSections n Body xs) (ReadsSections n Body ys) (Along SameMember xs ys)
  agree_sections xs ys = record { holds = sections_case xs ys }

  -- Bodies

  body_members : (k : TokenKind) → ends_body k ≡ true → ends_members k ≡ true
  body_members k h = or_right (begins_section k) (is_word words.END k) h

  sections_first : (ys : List Member) → First (ReadsSections n Body ys) ends_body ends_members
  sections_first ys = record { holds = λ next ts h s. by_case next ts h s }
    where
      by_case : (next : TokenKind) (ts : Tokens) → ReadsSections n Body ys next ts → ends_body next ≡ true
          → ends_members (kind_or next ts) ≡ true
      by_case next ts (grammar.none u h) s = (first_nothing body_members).holds next ts h s
      by_case next ts (some us ws u h) s =
          or_left (begins_section (kind_or next ts)) (is_word words.END (kind_or next ts))
          ((first_front {ends = anything} (first_section us)).holds next ts h refl)

  member_starts : (xs : List Member) → First (ReadsMember n Body xs) anything (other ends_members)
  member_starts xs = record {
    holds = λ next ts h s. ap not
        (member_open (kind_or next ts) (member_first n Body next ts (xs, h)));
  }

  pub body_inside : OneBody (ReadsBodyOf n Body)
  body_inside = record {
    agree = λ xs ys. record {
      holds = λ a b rest rest' h k e s s'.
          let r = (agree_then (agree_groups {ends' = ends_members} agree_member
          (λ x. record { holds = λ next ts g t. refl }) member_starts (λ k t. refl) h.xs k.xs)
          (sections_first h.ys) (sections_first k.ys) (agree_sections h.ys k.ys)).holds a b rest rest' h.reads
          k.reads e s s' in (
            subst (λ (zs : List Member). Along SameMember zs ys) (sym h.all)
                (subst (λ (zs : List Member). Along SameMember (h.xs ++ h.ys) zs) (sym k.all) (along_append r.0.0 r.0.1)),
            r.1,
          );
    };
  }

pub one_body : (n : ℕ) → OneBody (ReadsBody n)
one_body zero = record {
  agree = λ xs ys. record {
    holds = λ a b rest rest' h k e s s'. (
      subst (λ (zs : List Member). Along SameMember zs ys) (sym h.0)
          (subst (λ (zs : List Member). Along SameMember [] zs) (sym k.0) none),
      h.1 ∙ sym k.1,
    );
  };
}
one_body (suc n) = let o = body_inside n (one_body n) in record { agree = o.agree }
