-- Each tree of a text has names of its table, and no list of it is longer than the text.
use Rattle.std.proofs.Common.{◌≡◌, ℕ, zero, suc, ◌≤◌, ◌<◌, ◌+◌, inl, inr, Bool, List, [], ◌∷◌, ◌++◌, length, refl, sym, ap, ◌∙◌, subst, arith}
use Rattle.std.specs.Prelude.{Some, None, Option}
use Rattle.std.specs.List.{AllByRecursion}
use Rattle.std.proofs.lemmas.List.{length-append}
use Rattle.std.specs.declared.alloc.Global.{Global}
use Rattle.ar_base.specs.declared.places.Place.{Place}
use Rattle.ar_lexer.specs.declared.token.TokenKind.{TokenKind}
use Rattle.ar_lexer.specs.declared.token.TokenKind.TheVariants.{Name, Sign, Reserved}
use Rattle.ar_lexer.specs.declared.signs.TheConstants.{DOT, COMMA, STAR}
use Rattle.ar_lexer.specs.declared.words.TheConstants.{AND, CASE, OR}
use Rattle.ar_syntax.specs.declared.paths.Path.{Path}
use Rattle.ar_syntax.specs.declared.expressions.RawExpr.{RawExpr}
use Rattle.ar_syntax.specs.declared.expressions.RawForm.{RawForm}
use Rattle.expression_grammar.specs.declared.lexeme.Lexeme.{Lexeme}
use Rattle.ar_base.specs.Numbers.{NameId}
use Rattle.expression_grammar.specs.Words.{Form, Tokens, kind_or, token, ◌▸◌, between, each, separated_by, standing, StandsAt}
use Rattle.expression_grammar.specs.Paths.{ReadsName, ReadsPlacedName, ReadsNames, ReadsStart, ReadsPath}
use Rattle.expression_grammar.specs.Expressions as tree
use Rattle.expression_grammar.specs.Expressions.{Node, OneOrMore, ReadsProduct, ReadsTerm, ReadsTerms, ReadsSum, ReadsCompare, ReadsNegation, ReadsAnd, ReadsOr, ReadsIf, ReadsChoice, ReadsCase, ReadsSwitch, ReadsOperands, ReadsPrimary, ReadsMinusOf, ReadsExpr, ReadsNot, ReadsMinus}
use Rattle.expression_grammar.proofs.ExpressionForms.{then_some, token_some}
use Rattle.ar_grammar.proofs.MemberParts.{name_some}
use Rattle.parser_laws.specs.Expressions.{ListedForm, all, any, product, least, greatest, count, listed_form}
use Rattle.parser_laws.specs.Keeps as keeps
use Rattle.parser_laws.specs.Keeps.{IsListOf, IsNameIn, PathKeeps, FormKeeps, ExprKeepsTo, ExprKeeps}
use Rattle.std.specs.Prelude.{Box}
use Rattle.ar_lexer.specs.declared.signs.TheConstants.{AMPERSAND}
use Rattle.ar_syntax.specs.declared.instructions.Instr.{Instr}
use Rattle.ar_syntax.specs.declared.members.Member.{Member}
use Rattle.ar_syntax.specs.declared.members.Part.{Part}
use Rattle.ar_syntax.specs.declared.members.Setting.{Setting}
use Rattle.ar_syntax.specs.declared.members.TypeForm.{TypeForm}
use Rattle.ar_syntax.specs.declared.members.TypeForm.TheVariants as type_form
use Rattle.ar_syntax.specs.declared.members.TypeName.{TypeName}
use Rattle.ar_syntax.specs.declared.members.Unit.{Unit as UnitTree}
use Rattle.ar_syntax.specs.declared.members.Word.{Word}
use Rattle.ar_syntax.specs.declared.members.Word.TheVariants as word
use Rattle.ar_syntax.specs.declared.items.DomainBody.{DomainBody}
use Rattle.ar_syntax.specs.declared.items.DomainBody.TheVariants as domain
use Rattle.ar_syntax.specs.declared.items.Item.{Item}
use Rattle.ar_syntax.specs.declared.items.Item.TheVariants as item
use Rattle.expression_grammar.specs.Words.{groups, concat}
use Rattle.ar_grammar.specs.Instructions as step
use Rattle.ar_grammar.specs.Instructions.{ReadsElse, ReadsSimpleOf, ReadsInstr}
use Rattle.ar_grammar.specs.Members as grammar
use Rattle.ar_grammar.specs.Members.{ReadsTypeForm, ReadsType, ReadsWord, ReadsSetting, ReadsSettings, ReadsAttribute, ReadsEvent, ReadsDeclared, ReadsPart, ReadsTransition, ReadsAssertion, ReadsSection, ReadsHidden, ReadsUnit, ReadsSingle, ReadsKeyed, ReadsMember, ReadsLater, ReadsSections, ReadsBodyOf, ReadsBody}
use Rattle.ar_grammar.specs.Items.{ReadsDomainBody, ReadsItem, ReadsItems}
use Rattle.ar_grammar.proofs.MemberParts.{word_some}
use Rattle.parser_laws.specs.Keeps.{OptionKeeps, StepKeeps, InstrKeepsTo, InstrKeeps, TypeKeeps, WordKeeps, SettingKeeps, PartKeeps, MemberKeeps, UnitKeepsTo, UnitKeeps, DomainKeeps, ItemKeeps}
use Rattle.std.proofs.Common.{map}
use Rattle.std.proofs.lemmas.List.{length-map}
use Rattle.std.proofs.lemmas.Option.{slice_get_within}
use Rattle.ar_base.specs.Counts.{limit_of}
use Rattle.ar_base.specs.declared.counts.Count.TheVariants.{Nesting}
use Rattle.ar_base.specs.Texts.{Interns, known, added}
use Rattle.ar_lexer.specs.declared.token.TokenKind.TheVariants.{End}
use Rattle.ar_lexer.specs.Tokens.{end_of_text}
use Rattle.ar_parser.specs.Models.{token_of, text_of, IsNumbered, AreNamesNumbered}
use Rattle.ar_parser.specs.Models as lexing
use Rattle.ar_parser.proofs.NameLemmas.{front_of}
use Rattle.parser_laws.specs.Keeps.{TreesKeep}

-- no text of this form is without tokens
abbrev pub Some_of : Form → Type 0
Some_of A = (next : TokenKind) (ts : Tokens) → A next ts → ts ≡ [] → ⊥

pub some_placed : (x : NameId × Place) → Some_of (ReadsPlacedName x)
some_placed x next ts h z = let q : h.one ∷ [] ≡ [] = sym h.alone ∙ z in absurd (cc)

pub some_standing : (at : Place) (A : Form) → Some_of (standing at A)
some_standing at A next ts h z = subst (λ (s : Tokens). StandsAt at s) z h.there

pub some_node : (Is : RawForm → Form) (e : RawExpr) → Some_of (Node Is e)
some_node Is e next ts h z = subst (λ (s : Tokens). StandsAt e.at s) z h.there

pub some_token : (k : TokenKind) → Some_of (token k)
some_token k = token_some k

pub some_then : (A B : Form) → Some_of A → Some_of (A ▸ B)
some_then A B f next ts h z = then_some h f z

some_length : (ts : Tokens) → (ts ≡ [] → ⊥) → 1 ≤ length ts
some_length [] f = absurd (f refl)
some_length (t ∷ ts) f = omega arith

all_front : {X : Type 0} (P : X → Type 0) (a b : List X) → AllByRecursion P (a ++ b) → AllByRecursion P a
all_front P [] b h = tt
all_front P (x ∷ a) b h = (h.0, all_front P a b h.1)

all_back : {X : Type 0} (P : X → Type 0) (a b : List X) → AllByRecursion P (a ++ b) → AllByRecursion P b
all_back P [] b h = h
all_back P (x ∷ a) b h = all_back P a b h.1

pub all_append : {X : Type 0} (P : X → Type 0) (a b : List X) → AllByRecursion P a → AllByRecursion P b
    → AllByRecursion P (a ++ b)
all_append P [] b f g = g
all_append P (x ∷ a) b f g = (f.0, all_append P a b f.1 g)

some_simple : (n : ℕ) (i : Instr) → Some_of (ReadsSimpleOf (ReadsExpr n) i)
some_simple n i next ts (step.assign p e q h) = some_then _ _ (some_standing p.at _) next ts h
some_simple n i next ts (step.tie p r q h) = some_then _ _ (some_standing p.at _) next ts h
some_simple n i next ts (step.skip q h) = some_then _ _ (some_token _) next ts h

some_instr : (n : ℕ) (i : Instr) → Some_of (ReadsInstr n i)
some_instr zero i next ts h = elim h [ ]
some_instr (suc n) i next ts (step.simple h) = some_simple n i next ts h
some_instr (suc n) i next ts (step.group h) = some_then _ _ (some_token _) next ts h.reads
some_instr (suc n) i next ts (step.conditional h) = some_then _ _ (some_then _ _ (some_token _)) next ts h.reads

some_transition : (n : ℕ) (m : Member) → Some_of (ReadsTransition n m)
some_transition n m next ts (grammar.sync name at parts e h) = some_then _ _ (some_placed (name, at)) next ts h
some_transition n m next ts (grammar.local name at guard action e h) = some_then _ _ (some_placed (name, at)) next ts h

some_declared : (n : ℕ) (m : Member) → Some_of (ReadsDeclared n m)
some_declared n m next ts h = some_then _ _ (some_standing h.type.at _) next ts h.reads

some_single : (n : ℕ) (m : Member) → Some_of (ReadsSingle n m)
some_single n m next ts (grammar.extends name at e h) = some_then _ _ (some_token _) next ts h
some_single n m next ts (grammar.boolean h e) = some_declared n m next ts h
some_single n m next ts (grammar.clones p name at e h) = some_then _ _ (some_token _) next ts h
some_single n m next ts (grammar.embeds p name at e h) = some_then _ _ (some_token _) next ts h
some_single n m next ts (grammar.kept_value name at span e h) = some_then _ _ (some_token _) next ts h
some_single n m next ts (grammar.parameter type name at value e h) = some_then _ _ (some_token _) next ts h
some_single n m next ts (grammar.observer type name at value e h) = some_then _ _ (some_token _) next ts h

some_item : (n : ℕ) (x : Item) → Some_of (ReadsItem n x)
some_item n (item.Domain d) = some_then _ _ (some_token _)
some_item n (item.Class u) = some_then _ _ (some_token _)
some_item n (item.Block u) = some_then _ _ (some_token _)

module _ (names room : ℕ) where
  -- The names among these tokens have numbers below `names`, and there are at most `room` of the tokens.
  pub record Fine (ts : Tokens) : Type 0 where
    pub named : AllByRecursion (λ t. t.kind ≡ Name → t.name.n < names) ts
    pub fits : length ts ≤ room

  pub fine_front : (a b ts : Tokens) → ts ≡ a ++ b → Fine ts → Fine a
  fine_front a b ts e f =
      let l : length ts ≡ length a + length b = ap length e ∙ length-append a b in
      let r = f.fits in
      record {
        named = all_front (λ t. t.kind ≡ Name → t.name.n < names) a b
            (subst (AllByRecursion (λ t. t.kind ≡ Name → t.name.n < names)) e f.named);
        fits = omega (arith, l, r);
      }

  pub fine_back : (a b ts : Tokens) → ts ≡ a ++ b → Fine ts → Fine b
  fine_back a b ts e f =
      let l : length ts ≡ length a + length b = ap length e ∙ length-append a b in
      let r = f.fits in
      record {
        named = all_back (λ t. t.kind ≡ Name → t.name.n < names) a b
            (subst (AllByRecursion (λ t. t.kind ≡ Name → t.name.n < names)) e f.named);
        fits = omega (arith, l, r);
      }

  -- what each text of this form, of such tokens, keeps
  abbrev pub Keeps : Form → Type 0 → Type 0
  Keeps A P = (next : TokenKind) (ts : Tokens) → A next ts → Fine ts → P

  pub keeps_any : (A : Form) → Keeps A (Unit {0})
  keeps_any A next ts h f = tt

  pub keeps_then : {A B : Form} {P Q : Type 0} → Keeps A P → Keeps B Q → Keeps (A ▸ B) (P × Q)
  keeps_then a b next ts h f = (
    a (kind_or next h.back) h.front h.first (fine_front h.front h.back ts h.split f),
    b next
        h.back h.second (fine_back h.front h.back ts h.split f),
  )

  pub keeps_name : (id : NameId) → Keeps (ReadsName id) (IsNameIn names id)
  keeps_name id next ts h f = subst (λ (x : NameId). IsNameIn names x) (sym h.number)
      ((subst (AllByRecursion (λ t. t.kind ≡ Name → t.name.n < names)) h.alone f.named).0 h.of_kind)

  pub keeps_placed : (x : NameId × Place) → Keeps (ReadsPlacedName x) (IsNameIn names x.0)
  keeps_placed x next ts h f = subst (λ (y : NameId). IsNameIn names y) (sym h.number)
      ((subst (AllByRecursion (λ t. t.kind ≡ Name → t.name.n < names)) h.alone f.named).0 h.of_kind)

  -- values one after the other

  pub keeps_each : {X : Type 0} (One : X → Form) (P : X → Type 0) → ((x : X) → Some_of (One x))
      → ((x : X) → Keeps (One x) (P x)) → (xs : List X) (next : TokenKind) (ts : Tokens) → each One xs next ts → Fine ts
      → (length xs ≤ length ts) × AllByRecursion P xs
  keeps_each One P some keep [] next ts h f = (omega arith, tt)
  keeps_each One P some keep (x ∷ xs) next ts h f =
      let a = keep x (kind_or next h.back) h.front h.first (fine_front h.front h.back ts h.split f) in
      let b = keeps_each One P some keep xs next h.back h.second (fine_back h.front h.back ts h.split f) in
      let s = some_length h.front (some x (kind_or next h.back) h.front h.first) in
      let l : length ts ≡ length h.front + length h.back = ap length h.split ∙ length-append h.front h.back in
      let m = b.0 in
      (omega (arith, s, l, m), (a, b.1))

  pub keeps_some : {X : Type 0} (separator : TokenKind) (One : X → Form) (P : X → Type 0) → ((x : X) → Some_of (One x))
      → ((x : X) → Keeps (One x) (P x)) → (xs : List X) (next : TokenKind) (ts : Tokens)
      → separated_by separator One xs next ts → Fine ts → (length xs ≤ length ts) × AllByRecursion P xs
  keeps_some separator One P some keep [] next ts h f = elim h [ ]
  keeps_some separator One P some keep (x ∷ xs) next ts h f =
      let a = keep x (kind_or next h.back) h.front h.first (fine_front h.front h.back ts h.split f) in
      let b = keeps_each (λ y. token separator ▸ One y) P
      (λ y. some_then (token separator) (One y) (some_token separator))
      (λ y next ts j g. (keeps_then (keeps_any (token separator)) (keep y) next ts j g).1) xs next h.back
      h.second (fine_back h.front h.back ts h.split f) in
      let s = some_length h.front (some x (kind_or next h.back) h.front h.first) in
      let l : length ts ≡ length h.front + length h.back = ap length h.split ∙ length-append h.front h.back in
      let m = b.0 in
      (omega (arith, s, l, m), (a, b.1))

  -- a list that is no longer than its tokens
  pub as_list : {X : Type 0} (P : X → Type 0) (xs : List X) {ts : Tokens} → Fine ts
      → (length xs ≤ length ts) × AllByRecursion P xs → IsListOf room P xs
  as_list P xs f h = let l = h.0 in let r = f.fits in (omega (arith, l, r), h.1)

  pub keeps_list : {X : Type 0} (separator : TokenKind) (One : X → Form) (P : X → Type 0) → ((x : X) → Some_of (One x))
      → ((x : X) → Keeps (One x) (P x)) → (xs : List X) → Keeps (separated_by separator One xs) (IsListOf room P xs)
  keeps_list separator One P some keep xs next ts h f =
      as_list P xs f (keeps_some separator One P some keep xs next ts h f)

  pub keeps_path : (p : Path) → Keeps (ReadsPath p) (PathKeeps names room p)
  keeps_path p next ts h f = (keeps_then (keeps_any (ReadsStart p.start))
      (keeps_list (Sign DOT) ReadsName (IsNameIn names) (λ id. name_some id) keeps_name p.names.items) next ts h.form
      f).1

  -- Expressions

  abbrev pub FormOk : RawForm → Type 0
  FormOk f = (d : ℕ) → FormKeeps names room (ExprKeepsTo names room d) f

  pub keeps_node : (Is : RawForm → Form) → ((g : RawForm) → Keeps (Is g) (FormOk g)) → (e : RawExpr)
      → Keeps (Node Is e) (ExprKeeps names room e)
  keeps_node Is k e next ts h f = λ d. by_depth d
    where
      by_depth : (d : ℕ) → ExprKeepsTo names room d e
      by_depth zero = tt
      by_depth (suc d) = k e.form next ts h.form f d

  module _ (Is : RawForm → Form) (k : (g : RawForm) → Keeps (Is g) (FormOk g)) where
    keeps_nodes : (separator : TokenKind) (xs : List RawExpr) (d : ℕ)
        → Keeps (separated_by separator (Node Is) xs) (IsListOf room (ExprKeepsTo names room d) xs)
    keeps_nodes separator xs d = keeps_list separator (Node Is) (ExprKeepsTo names room d) (some_node Is)
        (λ x next ts h f. keeps_node Is k x next ts h f d) xs

    keeps_chain : (l : ListedForm) (separator : TokenKind) (f : RawForm)
        → Keeps (OneOrMore (listed_form l) separator Is f) (FormOk f)
    keeps_chain l separator f next ts (tree.one h) fine = k f next ts h fine
    keeps_chain l separator f next ts (tree.more v e several h) fine =
        λ d. keeps.listed l v e (keeps_nodes separator v.items d next ts h fine)

    keeps_term : (x : Bool × RawExpr) (d : ℕ) → Keeps (ReadsTerm Is x) (ExprKeepsTo names room d x.1)
    keeps_term (plus, e) d next ts h f = (keeps_then (keeps_any (token _)) (keeps_node Is k e) next ts h f).1 d

    some_term : (x : Bool × RawExpr) → Some_of (ReadsTerm Is x)
    some_term (plus, e) = some_then (token _) (Node Is e) (some_token _)

    keeps_terms : (xs : List (Bool × RawExpr)) (d : ℕ)
        → Keeps (ReadsTerms Is xs) (IsListOf room (λ s. ExprKeepsTo names room d s.1) xs)
    keeps_terms [] d next ts h f = elim h [ ]
    keeps_terms ((plus, e) ∷ xs) d next ts h f =
        let g = h.1 in
        let a = keeps_node Is k e (kind_or next g.back) g.front g.first (fine_front g.front g.back ts g.split f) d in
        let b = keeps_each (ReadsTerm Is) (λ s. ExprKeepsTo names room d s.1) some_term (λ x. keeps_term x d) xs next
        g.back g.second (fine_back g.front g.back ts g.split f) in
        let s = some_length g.front (some_node Is e (kind_or next g.back) g.front g.first) in
        let l : length ts ≡ length g.front + length g.back = ap length g.split ∙ length-append g.front g.back in
        let m = b.0 in
        let r = f.fits in
        (omega (arith, s, l, m, r), (a, b.1))

    keeps_sum : (f : RawForm) → Keeps (ReadsSum Is f) (FormOk f)
    keeps_sum f next ts (tree.one h) fine = k f next ts h fine
    keeps_sum f next ts (tree.more v e several h) fine = λ d. keeps.sum v e (keeps_terms v.items d next ts h fine)

    keeps_compare : (f : RawForm) → Keeps (ReadsCompare Is f) (FormOk f)
    keeps_compare f next ts (tree.one h) fine = k f next ts h fine
    keeps_compare f next ts (tree.two r x y e h) fine =
        let s = keeps_then (keeps_node Is k x.value) (keeps_then (keeps_any (token _)) (keeps_node Is k y.value)) next
        ts h fine in
        λ d. keeps.compared r x y e (s.0 d) (s.1.1 d)

    keeps_if : (f : RawForm) → Keeps (ReadsIf Is f) (FormOk f)
    keeps_if f next ts h fine =
        let s = keeps_then (keeps_then (keeps_any (token _))
        (keeps_then (keeps_node Is k h.test) (keeps_any (token _))))
        (keeps_then (keeps_node Is k h.value)
        (keeps_then (keeps_any (token _)) (keeps_node Is k h.other.value))) next ts h.reads fine in
        let r = fine.fits in
        let t = some_length ts (some_then _ _ (some_then _ _ (some_token _)) next ts h.reads) in
        λ d. keeps.choice h.cases h.other h.is
        (subst (λ (xs : List (RawExpr × RawExpr)). IsListOf room
        (λ c. ExprKeepsTo names room d c.0 × ExprKeepsTo names room d c.1) xs) (sym h.one)
        (omega (arith, r, t), ((s.0.1.0 d, s.1.0 d), tt))) (s.1.1.1 d)

    keeps_case : (x : RawExpr × RawExpr) (d : ℕ)
        → Keeps (ReadsCase Is x) (ExprKeepsTo names room d x.0 × ExprKeepsTo names room d x.1)
    keeps_case (x, y) d next ts h f =
        let s = keeps_then (keeps_then (keeps_any (token _)) (keeps_then (keeps_node Is k x) (keeps_any (token _))))
        (keeps_node Is k y) next ts h f in
        (s.0.1.0 d, s.1 d)

    some_case : (x : RawExpr × RawExpr) → Some_of (ReadsCase Is x)
    some_case (x, y) = some_then _ _ (some_then _ _ (some_token (Reserved CASE)))

    keeps_switch : (f : RawForm) → Keeps (ReadsSwitch Is f) (FormOk f)
    keeps_switch f next ts h fine = λ d.
        let s = keeps_then (keeps_any (token _))
        (keeps_then (keeps_any (token _))
        (keeps_then {A = each (ReadsCase Is) h.cases.items}
        (λ next ts j g. as_list _ _ g (keeps_each (ReadsCase Is)
        (λ c. ExprKeepsTo names room d c.0 × ExprKeepsTo names room d c.1) some_case (λ x. keeps_case x d)
        h.cases.items next ts j g)) (keeps_then (keeps_any (token _))
        (keeps_then (keeps_any (token _)) (keeps_then (keeps_node Is k h.other.value) (keeps_any (token _)))))))
        next ts h.reads fine in
        keeps.choice h.cases h.other h.is s.1.1.0 (s.1.1.1.1.1.0 d)

    keeps_operands : (xs : List RawExpr) (d : ℕ)
        → Keeps (ReadsOperands Is xs) (IsListOf room (ExprKeepsTo names room d) xs)
    keeps_operands xs d next ts h f = (keeps_then (keeps_any (token _))
        (keeps_then (keeps_nodes (Sign COMMA) xs d) (keeps_any (token _))) next ts h f).1.0

    keeps_primary : (f : RawForm) → Keeps (ReadsPrimary Is f) (FormOk f)
    keeps_primary f next ts (tree.truth e h) fine = λ d. keeps.truth _ e
    keeps_primary f next ts (tree.falsehood e h) fine = λ d. keeps.truth _ e
    keeps_primary f next ts (tree.whole n e h) fine = λ d. keeps.whole n e
    keeps_primary f next ts (tree.real e h) fine = λ d. keeps.real e
    keeps_primary f next ts (tree.path p e h) fine = λ d. keeps.path p e (keeps_path p next ts h fine)
    keeps_primary f next ts (tree.brackets h) fine =
        (keeps_then (keeps_any (token _)) (keeps_then (k f) (keeps_any (token _))) next ts h fine).1.0
    keeps_primary f next ts (tree.least v e h) fine =
        λ d. keeps.listed least v e (keeps_then (keeps_any (token _)) (keeps_operands v.items d) next ts h fine).1
    keeps_primary f next ts (tree.greatest v e h) fine =
        λ d. keeps.listed greatest v e (keeps_then (keeps_any (token _)) (keeps_operands v.items d) next ts h fine).1
    keeps_primary f next ts (tree.count v e h) fine =
        λ d. keeps.listed count v e (keeps_then (keeps_any (token _)) (keeps_operands v.items d) next ts h fine).1
    keeps_primary f next ts (tree.switch h) fine = keeps_switch f next ts h fine

  mutual
    expr_keeps : (n : ℕ) (f : RawForm) (next : TokenKind) (ts : Tokens) → ReadsExpr n f next ts → Fine ts → FormOk f
    expr_keeps zero f next ts h fine = elim h [ ]
    expr_keeps (suc n) f next ts (tree.choice h) fine =
        keeps_if (ReadsExpr n) (λ g next ts j x. expr_keeps n g next ts j x) f next ts h fine
    expr_keeps (suc n) f next ts (tree.plain h) fine =
        keeps_chain (ReadsAnd (ReadsNot n)) (λ g next ts j x. keeps_chain (ReadsNot n)
        (λ g next ts j x. not_keeps n g next ts j x) all (Reserved AND) g next ts j x) any (Reserved OR) f next ts h
        fine

    not_keeps : (n : ℕ) (f : RawForm) (next : TokenKind) (ts : Tokens) → ReadsNot n f next ts → Fine ts → FormOk f
    not_keeps zero f next ts h fine = elim h [ ]
    not_keeps (suc n) f next ts (tree.negated x e h) fine =
        let s = keeps_then (keeps_any (token _))
        (keeps_node (ReadsNot n) (λ g next ts j x. not_keeps n g next ts j x) x.value) next ts h fine in
        λ d. keeps.negation x e (s.1 d)
    not_keeps (suc n) f next ts (tree.plain h) fine =
        keeps_compare (ReadsSum (ReadsProduct (ReadsMinus n)))
        (λ g next ts j x. keeps_sum (ReadsProduct (ReadsMinus n))
        (λ g next ts j x. keeps_chain (ReadsMinus n) (λ g next ts j x. minus_keeps n g next ts j x) product (Sign STAR)
        g
        next ts j x) g next ts j x) f next ts h fine

    minus_keeps : (n : ℕ) (f : RawForm) (next : TokenKind) (ts : Tokens) → ReadsMinus n f next ts → Fine ts → FormOk f
    minus_keeps zero f next ts h fine = elim h [ ]
    minus_keeps (suc n) f next ts (tree.negated x e h) fine =
        let s = keeps_then (keeps_any (token _))
        (keeps_node (ReadsMinus n) (λ g next ts j x. minus_keeps n g next ts j x) x.value) next ts h fine in
        λ d. keeps.minus x e (s.1 d)
    minus_keeps (suc n) f next ts (tree.plain h) fine =
        keeps_primary (ReadsExpr n) (λ g next ts j x. expr_keeps n g next ts j x) f next ts h fine

  pub keeps_expr : (n : ℕ) (e : RawExpr) → Keeps (Node (ReadsExpr n) e) (ExprKeeps names room e)
  keeps_expr n = keeps_node (ReadsExpr n) (λ g next ts h f. expr_keeps n g next ts h f)

  -- Instructions

  steps_keep : (i : Instr) → ((d : ℕ) → StepKeeps names room (InstrKeepsTo names room d) i) → InstrKeeps names room i
  steps_keep i f = λ d. by_depth d
    where
      by_depth : (d : ℕ) → InstrKeepsTo names room d i
      by_depth zero = tt
      by_depth (suc d) = f d

  keeps_else : (Inner : Instr → Form) → ((i : Instr) → Keeps (Inner i) (InstrKeeps names room i))
      → (no : Option (Box Instr Global))
      → Keeps (ReadsElse Inner no) ((d : ℕ) → OptionKeeps (InstrKeepsTo names room d) no)
  keeps_else Inner k None next ts h f = λ d. tt
  keeps_else Inner k (Some b) next ts h f = (keeps_then (keeps_any (token _)) (k b.value) next ts h f).1

  instr_keeps : (n : ℕ) (i : Instr) (next : TokenKind) (ts : Tokens) → ReadsInstr n i next ts → Fine ts
      → InstrKeeps names room i
  instr_keeps zero i next ts h f = elim h [ ]
  instr_keeps (suc n) i next ts (step.simple (step.assign p e q h)) f =
      let s = keeps_then (keeps_path p) (keeps_then (keeps_any (token _))
      (keeps_then (keeps_expr n e) (keeps_any (token _)))) next ts h f in
      steps_keep i (λ d. keeps.assign p e q s.0 s.1.1.0)
  instr_keeps (suc n) i next ts (step.simple (step.tie p r q h)) f =
      let s = keeps_then (keeps_path p) (keeps_then (keeps_any (token _))
      (keeps_then (keeps_path r) (keeps_any (token _)))) next ts h f in
      steps_keep i (λ d. keeps.tie p r q s.0 s.1.1.0)
  instr_keeps (suc n) i next ts (step.simple (step.skip q h)) f = steps_keep i (λ d. keeps.skip q)
  instr_keeps (suc n) i next ts (step.group h) f = steps_keep i (λ d.
      keeps.group h.instrs h.is (keeps_then (keeps_any (token _))
      (keeps_then {A = each (ReadsInstr n) h.instrs.items}
      (λ next ts j g. as_list _ _ g (keeps_each (ReadsInstr n) (InstrKeepsTo names room d) (some_instr n)
      (λ j next ts k g. instr_keeps n j next ts k g d) h.instrs.items next ts j g)) (keeps_any (token _))) next ts
      h.reads f).1.0)
  instr_keeps (suc n) i next ts (step.conditional h) f =
      let s = keeps_then (keeps_then (keeps_any (token _)) (keeps_then (keeps_expr n h.test) (keeps_any (token _))))
      (keeps_then {A = ReadsInstr n h.yes.value} {B = ReadsElse (ReadsInstr n) h.no}
      (λ next ts k g. instr_keeps n h.yes.value next ts k g)
      (keeps_else (ReadsInstr n) (λ j next ts k g. instr_keeps n j next ts k g) h.no)) next ts h.reads f in
      steps_keep i (λ d. keeps.conditional h.test h.yes h.no h.is s.0.1.0 (s.1.0 d) (s.1.1 d))

  -- Parts of members

  keeps_type : (t : TypeName) → Keeps (ReadsType t) (TypeKeeps names t.form)
  keeps_type t next ts h f = by_form t.form h.form
    where
      by_form : (x : TypeForm) → ReadsTypeForm x next ts → TypeKeeps names x
      by_form type_form.Boolean j = tt
      by_form type_form.Integer j = tt
      by_form (type_form.Named id) j = keeps_name id next ts j f

  keeps_word : (w : Word) → Keeps (ReadsWord w) (WordKeeps names w)
  keeps_word (word.Name id) = keeps_name id
  keeps_word word.Init = keeps_any (token _)
  keeps_word word.Reset = keeps_any (token _)

  keeps_names : (xs : List (NameId × Place)) → Keeps (ReadsNames xs) (IsListOf room (λ x. IsNameIn names x.0) xs)
  keeps_names xs = keeps_list (Sign COMMA) ReadsPlacedName (λ x. IsNameIn names x.0) some_placed keeps_placed xs

  keeps_setting : (n : ℕ) (s : Setting) → Keeps (ReadsSetting n s) (SettingKeeps names room s)
  keeps_setting n s next ts h f =
      let r = keeps_then {A = standing s.at (separated_by (Sign DOT) ReadsWord s.target.items)}
      (λ next ts j g. keeps_list (Sign DOT) ReadsWord (WordKeeps names) word_some keeps_word s.target.items next ts
      j.form g) (keeps_then (keeps_any (token _)) (keeps_expr n s.value)) next ts h f in
      (r.0, r.1.1)

  keeps_settings : (n : ℕ) (xs : List Setting) → Keeps (ReadsSettings n xs) (IsListOf room (SettingKeeps names room) xs)
  keeps_settings n [] next ts h f = (omega arith, tt)
  keeps_settings n (s ∷ more) next ts h f =
      (keeps_then (keeps_any (token _)) (keeps_then
      (keeps_list (Sign COMMA) (ReadsSetting n) (SettingKeeps names room) (λ x. some_then _ _ (some_standing x.at _))
      (keeps_setting n) (s ∷ more)) (keeps_any (token _))) next ts h f).1.0

  keeps_part : (p : Part) → Keeps (ReadsPart p) (PartKeeps names room p)
  keeps_part p next ts h f = (keeps_then (keeps_any (token _)) (keeps_path p.event) next ts h f).1

  -- Members, where the units inside pass a test
  module _ (Inside : UnitTree → Type 0) where
    abbrev Ok : Member → Type 0
    Ok m = MemberKeeps names room Inside m

    keeps_declared : (n : ℕ) (m : Member) → Keeps (ReadsDeclared n m) (Ok m)
    keeps_declared n m next ts h f =
        let s = keeps_then (keeps_type h.type)
        (keeps_then (keeps_names h.names.items)
        (keeps_then (keeps_settings n h.settings.items) (keeps_any (token _)))) next ts h.reads f in
        keeps.declared h.type h.names h.settings h.is s.0 s.1.0 s.1.1.0

    keeps_event : (n : ℕ) (m : Member) → Keeps (ReadsEvent n m) (Ok m)
    keeps_event n m next ts h f = keeps.event h.name h.at h.attribute h.is
        (keeps_then (keeps_placed (h.name, h.at)) (keeps_any (ReadsAttribute n h.attribute)) next ts h.reads f).0

    keeps_hidden : (m : Member) → Keeps (ReadsHidden m) (Ok m)
    keeps_hidden m next ts h f = keeps.hide h.event h.is (keeps_path h.event next ts h.reads f)

    keeps_transition : (n : ℕ) (m : Member) → Keeps (ReadsTransition n m) (Ok m)
    keeps_transition n m next ts (grammar.sync name at parts e h) f =
        let s = keeps_then (keeps_placed (name, at))
        (keeps_then (keeps_any (token _))
        (keeps_then (keeps_list (Sign AMPERSAND) ReadsPart (PartKeeps names room)
        (λ p. some_then _ _ (some_token _)) keeps_part parts.items) (keeps_any (token _)))) next ts h f in
        keeps.sync name at parts e s.0 s.1.1.0
    keeps_transition n m next ts (grammar.local name at guard action e h) f =
        let s = keeps_then (keeps_placed (name, at))
        (keeps_then (keeps_then (keeps_any (token _)) (keeps_then (keeps_expr n guard) (keeps_any (token _))))
        (instr_keeps n action)) next ts h f in
        keeps.local name at guard action e s.0 s.1.0.1.0 s.1.1

    keeps_assertion : (n : ℕ) (m : Member) → Keeps (ReadsAssertion n m) (Ok m)
    keeps_assertion n m next ts h f = keeps.assertion h.i h.is (instr_keeps n h.i next ts h.reads f)

    keeps_single : (n : ℕ) (m : Member) → Keeps (ReadsSingle n m) (Ok m)
    keeps_single n m next ts (grammar.extends name at e h) f =
        keeps.extends name at e (keeps_then (keeps_any (token _))
        (keeps_then (keeps_placed (name, at)) (keeps_any (token _))) next ts h f).1.0
    keeps_single n m next ts (grammar.boolean h e) f = keeps_declared n m next ts h f
    keeps_single n m next ts (grammar.clones p name at e h) f =
        let s = keeps_then (keeps_any (token _))
        (keeps_then (keeps_path p) (keeps_then (keeps_any (token _))
        (keeps_then (keeps_placed (name, at)) (keeps_any (token _))))) next ts h f in
        keeps.clones p name at e s.1.0 s.1.1.1.0
    keeps_single n m next ts (grammar.embeds p name at e h) f =
        let s = keeps_then (keeps_any (token _))
        (keeps_then (keeps_path p) (keeps_then (keeps_any (token _))
        (keeps_then (keeps_placed (name, at)) (keeps_any (token _))))) next ts h f in
        keeps.embeds p name at e s.1.0 s.1.1.1.0
    keeps_single n m next ts (grammar.kept_value name at span e h) f =
        keeps.kept name at span e (keeps_then (keeps_any (token _))
        (keeps_then (keeps_any (token _)) (keeps_then (keeps_placed (name, at)) (keeps_any _))) next ts h f).1.1.0
    keeps_single n m next ts (grammar.parameter type name at value e h) f =
        let s = keeps_then (keeps_any (token _))
        (keeps_then (keeps_type type) (keeps_then (keeps_placed (name, at))
        (keeps_then (keeps_any (token _)) (keeps_then (keeps_expr n value) (keeps_any (token _)))))) next ts h
        f in
        keeps.parameter type name at value e s.1.0 s.1.1.0 s.1.1.1.1.0
    keeps_single n m next ts (grammar.observer type name at value e h) f =
        let s = keeps_then (keeps_any (token _))
        (keeps_then (keeps_type type) (keeps_then (keeps_placed (name, at))
        (keeps_then (keeps_any (token _)) (keeps_then (keeps_expr n value) (keeps_any (token _)))))) next ts h
        f in
        keeps.observer type name at value e s.1.0 s.1.1.0 s.1.1.1.1.0

    -- Members of these tokens: no more than the tokens, and each keeps what it must.
    record Kept (ms : List Member) (ts : Tokens) : Type 0 where
      pub count : length ms ≤ length ts
      pub all : AllByRecursion Ok ms

    kept_pair : {ms : List Member} {ts : Tokens} → (length ms ≤ length ts) × AllByRecursion Ok ms → Kept ms ts
    kept_pair h = record { count = h.0; all = h.1 }

    kept_one : (m : Member) {ms : List Member} {ts : Tokens} → ms ≡ m ∷ [] → Ok m → (ts ≡ [] → ⊥) → Kept ms ts
    kept_one m {ms} {ts} e k some =
        let l : length ms ≡ 1 = ap length e in
        let t = some_length ts some in
        record { count = omega (arith, l, t); all = subst (λ (xs : List Member). AllByRecursion Ok xs) (sym e) (k, tt) }

    kept_behind : {ms : List Member} {ts b : Tokens} (a : Tokens) → ts ≡ a ++ b → Kept ms b → Kept ms ts
    kept_behind {ms} {ts} {b} a e k =
        let l : length ts ≡ length a + length b = ap length e ∙ length-append a b in
        let m = k.count in
        record { count = omega (arith, l, m); all = k.all }

    kept_before : {ms : List Member} {ts a : Tokens} (b : Tokens) → ts ≡ a ++ b → Kept ms a → Kept ms ts
    kept_before {ms} {ts} {a} b e k =
        let l : length ts ≡ length a + length b = ap length e ∙ length-append a b in
        let m = k.count in
        record { count = omega (arith, l, m); all = k.all }

    kept_both : {xs ys ms : List Member} {ts a b : Tokens} → ms ≡ xs ++ ys → ts ≡ a ++ b → Kept xs a → Kept ys b
        → Kept ms ts
    kept_both {xs} {ys} {ms} {ts} {a} {b} e s k l =
        let p : length ts ≡ length a + length b = ap length s ∙ length-append a b in
        let q : length ms ≡ length xs + length ys = ap length e ∙ length-append xs ys in
        let i = k.count in
        let j = l.count in
        record {
          count = omega (arith, p, q, i, j);
          all = subst (λ (zs : List Member). AllByRecursion Ok zs) (sym e) (all_append Ok xs ys k.all l.all);
        }

    keeps_section : (n : ℕ) (ms : List Member) (next : TokenKind) (ts : Tokens) → ReadsSection n ms next ts → Fine ts
        → Kept ms ts
    keeps_section n ms next ts (inl h) f =
        kept_behind h.front h.split (kept_pair
        (keeps_each (ReadsTransition n) Ok (some_transition n) (keeps_transition n) ms next h.back h.second
        (fine_back h.front h.back ts h.split f)))
    keeps_section n ms next ts (inr h) f =
        kept_behind h.front h.split (kept_pair
        (keeps_each (ReadsAssertion n) Ok (λ m next ts j. some_instr n j.i next ts j.reads) (keeps_assertion n) ms next
        h.back h.second (fine_back h.front h.back ts h.split f)))

    keeps_listed : (One : Member → Form) → ((m : Member) → Some_of (One m)) → ((m : Member) → Keeps (One m) (Ok m))
        → (opens closes : TokenKind) (ms : List Member) (next : TokenKind) (ts : Tokens)
        → between opens closes (separated_by (Sign COMMA) One ms) next ts → Fine ts → Kept ms ts
    keeps_listed One some keep opens closes ms next ts h f =
        let g = h.second in
        let b = fine_back h.front h.back ts h.split f in
        kept_behind h.front h.split (kept_before g.back g.split
        (kept_pair (keeps_some (Sign COMMA) One Ok some keep ms (kind_or next g.back) g.front g.first
        (fine_front g.front g.back h.back g.split b))))

    module _ (n : ℕ) (Body : List Member → Form) (keep : (u : UnitTree) → Keeps (ReadsUnit Body u) (Inside u)) where
      keeps_keyed : (ms : List Member) (next : TokenKind) (ts : Tokens) → ReadsKeyed n Body ms next ts → Fine ts
          → Kept ms ts
      keeps_keyed ms next ts (grammar.single m e h) f =
          kept_one m e (keeps_single n m next ts h f) (some_single n m next ts h)
      keeps_keyed ms next ts (grammar.block u e h) f =
          kept_one _ e (keeps.block u refl (keeps_then (keeps_any (token _)) (keep u) next ts h f).1)
          (some_then _ _ (some_token _) next ts h)
      keeps_keyed ms next ts (grammar.event h) f =
          keeps_listed (ReadsEvent n) (λ m next ts j. some_then _ _ (some_placed _) next ts j.reads) (keeps_event n) _ _
          ms
          next ts h f
      keeps_keyed ms next ts (grammar.hide h) f =
          keeps_listed ReadsHidden (λ m next ts j. some_standing j.event.at _ next ts j.reads) keeps_hidden _ _ ms next
          ts
          h f

      keeps_member : (ms : List Member) (next : TokenKind) (ts : Tokens) → ReadsMember n Body ms next ts → Fine ts
          → Kept ms ts
      keeps_member ms next ts (grammar.keyed h) f = keeps_keyed ms next ts h f
      keeps_member ms next ts (grammar.named m e h id g) f =
          kept_one m e (keeps_declared n m next ts h f) (some_declared n m next ts h)

      keeps_later : (ms : List Member) (next : TokenKind) (ts : Tokens) → ReadsLater n Body ms next ts → Fine ts
          → Kept ms ts
      keeps_later ms next ts (inl h) f = keeps_section n ms next ts h f
      keeps_later ms next ts (inr h) f = keeps_keyed ms next ts h f

      keeps_parts : (One : List Member → Form)
          → ((ms : List Member) (next : TokenKind) (ts : Tokens) → One ms next ts → Fine ts → Kept ms ts)
          → (parts : List (List Member)) (next : TokenKind) (ts : Tokens) → each One parts next ts → Fine ts
          → Kept (concat parts) ts
      keeps_parts One k [] next ts h f = record { count = omega arith; all = tt }
      keeps_parts One k (p ∷ parts) next ts h f =
          kept_both refl h.split (k p (kind_or next h.back) h.front h.first (fine_front h.front h.back ts h.split f))
          (keeps_parts One k parts next h.back h.second (fine_back h.front h.back ts h.split f))

      keeps_groups : (One : List Member → Form)
          → ((ms : List Member) (next : TokenKind) (ts : Tokens) → One ms next ts → Fine ts → Kept ms ts)
          → (ms : List Member) (next : TokenKind) (ts : Tokens) → groups One ms next ts → Fine ts → Kept ms ts
      keeps_groups One k ms next ts h f =
          subst (λ (xs : List Member). Kept xs ts) (sym h.all) (keeps_parts One k h.parts next ts h.are f)

      keeps_sections : (ms : List Member) (next : TokenKind) (ts : Tokens) → ReadsSections n Body ms next ts → Fine ts
          → Kept ms ts
      keeps_sections ms next ts (grammar.none e h) f =
          subst (λ (xs : List Member). Kept xs ts) (sym e) (record { count = omega arith; all = tt })
      keeps_sections ms next ts (grammar.some xs ys e h) f =
          kept_both e h.split (keeps_section n xs (kind_or next h.back) h.front h.first
          (fine_front h.front h.back ts h.split f))
          (keeps_groups (ReadsLater n Body) keeps_later ys next h.back h.second (fine_back h.front h.back ts h.split f))

      keeps_body_of : (ms : List Member) (next : TokenKind) (ts : Tokens) → ReadsBodyOf n Body ms next ts → Fine ts
          → Kept ms ts
      keeps_body_of ms next ts h f =
          let g = h.reads in
          kept_both h.all g.split (keeps_groups (ReadsMember n Body) keeps_member h.xs (kind_or next g.back) g.front
          g.first (fine_front g.front g.back ts g.split f))
          (keeps_sections h.ys next g.back g.second (fine_back g.front g.back ts g.split f))

  -- Bodies

  unit_keeps : (Body : List Member → Form)
      → ((d : ℕ) (ms : List Member) (next : TokenKind) (ts : Tokens) → Body ms next ts → Fine ts
      → Kept (UnitKeepsTo names room d) ms ts) → (u : UnitTree) → Keeps (ReadsUnit Body u) (UnitKeeps names room u)
  unit_keeps Body keep u next ts j g = λ d. by_depth d
    where
      by_depth : (d : ℕ) → UnitKeepsTo names room d u
      by_depth zero = tt
      by_depth (suc d) =
          let b = j.second in
          let y = fine_back j.front j.back ts j.split g in
          let k = keep d u.members.items (kind_or next b.back) b.front b.first
          (fine_front b.front b.back j.back b.split y) in
          let c = k.count in
          let r = (fine_front b.front b.back j.back b.split y).fits in (
            keeps_placed (u.name, u.at) (kind_or next j.back) j.front j.first (fine_front j.front j.back ts j.split g),
            (omega (arith, c, r), k.all),
          )

  body_keeps : (n d : ℕ) (ms : List Member) (next : TokenKind) (ts : Tokens) → ReadsBody n ms next ts → Fine ts
      → Kept (UnitKeepsTo names room d) ms ts
  body_keeps zero d ms next ts h f = subst (λ (xs : List Member). Kept (UnitKeepsTo names room d) xs ts) (sym h.0)
      (record { count = omega arith; all = tt })
  body_keeps (suc n) d ms next ts h f =
      keeps_body_of (UnitKeepsTo names room d) n (ReadsBody n)
      (λ u next ts j g. unit_keeps (ReadsBody n) (λ e ms next ts j g. body_keeps n e ms next ts j g) u next ts j g d) ms
      next ts h f

  keeps_unit : (n : ℕ) (u : UnitTree) → Keeps (ReadsUnit (ReadsBody n) u) (UnitKeeps names room u)
  keeps_unit n = unit_keeps (ReadsBody n) (body_keeps n)

  -- Items

  keeps_domain_body : (b : DomainBody) → Keeps (ReadsDomainBody b) (DomainKeeps names room b)
  keeps_domain_body (domain.Symbols ids) next ts h f =
      (keeps_then (keeps_any (token _)) (keeps_then (keeps_names ids.items) (keeps_any (token _))) next ts h f).1.0
  keeps_domain_body (domain.Range low high) next ts h f = tt

  keeps_item : (n : ℕ) (x : Item) → Keeps (ReadsItem n x) (ItemKeeps names room x)
  keeps_item n (item.Domain d) next ts h f =
      let s = keeps_then (keeps_any (token _))
      (keeps_then (keeps_placed (d.name, d.at)) (keeps_then (keeps_domain_body d.body) (keeps_any _))) next ts h
      f in
      (s.1.0, s.1.1.0)
  keeps_item n (item.Class u) next ts h f = (keeps_then (keeps_any (token _)) (keeps_unit n u) next ts h f).1
  keeps_item n (item.Block u) next ts h f = (keeps_then (keeps_any (token _)) (keeps_unit n u) next ts h f).1

  pub keeps_items : (n : ℕ) (xs : List Item) → Keeps (ReadsItems n xs) (IsListOf room (ItemKeeps names room) xs)
  keeps_items n [] next ts h f = elim h [ ]
  keeps_items n (x ∷ xs) next ts h f =
      as_list (ItemKeeps names room) (x ∷ xs) f
      (keeps_each (ReadsItem n) (ItemKeeps names room) (some_item n) (keeps_item n) (x ∷ xs) next ts h f)

-- Texts

numbered_more : (bytes : List ℕ) (old new : List (List ℕ)) (l : Lexeme) → IsNumbered bytes old l new
    → length old ≤ length new
numbered_more bytes old new l (lexing.name k i s) = by_case new i
  where
    by_case : (new : List (List ℕ)) → Interns old (text_of bytes l) new → length old ≤ length new
    by_case new (known h) = omega arith
    by_case new (added h) = let n = length-append old (text_of bytes l ∷ []) in omega (arith, n)
numbered_more bytes old new l (lexing.other k e z) = let n : length new ≡ length old = ap length e in omega (arith, n)

numbers_more : (bytes : List ℕ) (old new : List (List ℕ)) (ls : Tokens) → AreNamesNumbered bytes old ls new
    → length old ≤ length new
numbers_more bytes old new [] h = let n : length new ≡ length old = ap length h in omega (arith, n)
numbers_more bytes old new (l ∷ ls) (mid, h, more) =
    let a = numbered_more bytes old mid l h in
    let b = numbers_more bytes mid new ls more in
    omega (arith, a, b)

numbers_within : (bytes : List ℕ) (old new : List (List ℕ)) (ls : Tokens) → AreNamesNumbered bytes old ls new
    → AllByRecursion (λ t. t.kind ≡ Name → t.name.n < length new) ls
numbers_within bytes old new [] h = tt
numbers_within bytes old new (l ∷ ls) (mid, h, more) = (by_case h, numbers_within bytes mid new ls more)
  where
    by_case : IsNumbered bytes old l mid → l.kind ≡ Name → l.name.n < length new
    by_case (lexing.name k i s) = λ q.
        let a = slice_get_within mid l.name.n (text_of bytes l) s in
        let b = numbers_more bytes mid new ls more in
        omega (arith, a, b)
    by_case (lexing.other k e z) = λ q. absurd (k q)

pub trees_keep : (bytes : List ℕ) → TreesKeep bytes
trees_keep bytes model r =
    let c = (front_of bytes _ (map token_of r.lexemes) (end_of_text bytes) r.are.tokens refl).count in
    let l = length-map r.lexemes token_of in
    keeps_items (length model.names) (length bytes) (limit_of Nesting) model.items.items End r.lexemes r.items (record {
      named = numbers_within bytes [] model.names r.lexemes r.are.names_are;
      fits = omega (arith, c, l);
    })
