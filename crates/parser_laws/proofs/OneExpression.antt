-- Expressions that begin alike, and end where they may, are one.
use Rattle.std.proofs.Common.{◌≡◌, ℕ, zero, suc, ◌≤◌, Bool, true, false, not, List, [], ◌∷◌, ◌++◌, length, refl, sym, ap, ◌∙◌, subst, arith}
use Rattle.std.specs.Prelude.{ℤ, ◌==◌, if◌then◌else◌}
use Rattle.std.proofs.lemmas.Bool.{eqb-true}
use Rattle.ar_base.specs.Lists.{Along, none, one_and}
use Rattle.ar_base.specs.declared.places.Place.{Place}
use Rattle.ar_base.specs.declared.places.Span.{Span}
use Rattle.ar_base.proofs.Truths.{not_true}
use Rattle.ar_lexer.specs.declared.token.TokenKind.{TokenKind}
use Rattle.ar_lexer.specs.declared.token.TokenKind.TheVariants.{Name, Whole, Real, Sign, Reserved, End}
use Rattle.ar_lexer.specs.declared.signs.TheConstants.{OPEN_PARENTHESIS, CLOSE_PARENTHESIS, COMMA, EQUAL, DIFFERS, LESS, AT_MOST, MORE, PLUS, MINUS, STAR}
use Rattle.ar_lexer.specs.declared.words.TheConstants.{AND, COUNT, DEFAULT, ELSE, FALSE, IF, MAX, MIN, NOT, OR, SWITCH, THEN, TRUE}
use Rattle.ar_syntax.specs.declared.expressions.RawExpr.{RawExpr}
use Rattle.ar_syntax.specs.declared.expressions.RawForm.{RawForm}
use Rattle.ar_syntax.specs.declared.expressions.RawForm.TheVariants as form
use Rattle.ar_syntax.specs.declared.expressions.RawRelation.{RawRelation}
use Rattle.ar_syntax.specs.declared.expressions.RawRelation.TheVariants as relation
use Rattle.expression_grammar.specs.Words.{Form, Tokens, kind_or, token, ◌▸◌, separated_by, between, StandsAt, IsSpanOf}
use Rattle.expression_grammar.specs.Expressions.{Node, OneOrMore, one, more, ReadsProduct, ReadsTerm, ReadsTerms, ReadsSum, ReadsCompare, two, sign_of, ReadsNegation, negated, plain, ReadsAnd, ReadsOr, ReadsChoice, choice, ReadsCase, ReadsSwitch, ReadsOperands, ReadsPrimary, truth, falsehood, whole, real, path, brackets, least, greatest, count, switch, ReadsMinusOf, ReadsExpr, ReadsNot, ReadsMinus}
use Rattle.expression_grammar.specs.Results.{first_token_kind, anything, is_sign, is_word, begins_minus, begins_not, begins_primary, ends_path, ends_product, ends_sum, ends_not, ends_and, ends_expr, ends_list, ends_cases}
use Rattle.expression_grammar.proofs.Finding.{fails, kind_before, token_kind, then_kind}
use Rattle.expression_grammar.proofs.ExpressionForms.{then_map, and_left, sign_from, word_from}
use Rattle.ar_grammar.proofs.ExpressionForms.{path_first, primary_first, compare_first, or_first}
use Rattle.expression_grammar.proofs.ExpressionParts.{relation_ends}
use Rattle.parser_laws.specs.Expressions.{SamePath, ListedForm, listed_form, SameParts, SameToDepth}
use Rattle.parser_laws.specs.Expressions as same
use Rattle.parser_laws.proofs.Agreeing.{Agree, First, agree_all, other, first_token, first_front, first_nothing, first_each, agree_map, agree_turned, agree_ended, agree_told, agree_apart, agree_token, agree_then, agree_next, agree_closed, with_nothing, agree_each, agree_separated}
use Rattle.parser_laws.proofs.OnePath.{agree_path}

-- Texts of this form that begin alike and end where they may are one, with the same parts.
pub record OneForm (ends : TokenKind → Bool) (Is : RawForm → Form) : Type 0 where
  pub agree : (d : ℕ) (f g : RawForm) → Agree ends (Is f) (Is g) (SameParts (SameToDepth d) f g)

pub agree_between : {ends ends' : TokenKind → Bool} {A B : Form} {R : Type 0} {opens closes : TokenKind}
    → Agree ends A B R → ends closes ≡ true → Agree ends' (between opens closes A) (between opens closes B) R
agree_between {ends' = ends'} f e =
    agree_map (agree_next {ends' = ends'} (agree_token {ends = _}) (agree_closed f e e)) (λ r. r.1.0)

-- Nodes

same_span : (s t : Span) → s.from ≡ t.from → s.to ≡ t.to → s ≡ t
same_span s t p q = λ j. record { from = p j; to = q j }

pub one_span : (ts : Tokens) (s t : Span) → IsSpanOf s ts → IsSpanOf t ts → s ≡ t
one_span [] s t h k = same_span s t (h.0 ∙ sym k.0) (h.1 ∙ sym k.1)
one_span (u ∷ ts) s t h k = same_span s t (h.0 ∙ sym k.0) (h.1 ∙ sym k.1)

pub one_place : (ts : Tokens) (p q : Place) → StandsAt p ts → StandsAt q ts → p ≡ q
one_place [] p q h k = elim h [ ]
one_place (t ∷ ts) p q h k = h ∙ sym k

pub agree_node : {ends : TokenKind → Bool} {Is : RawForm → Form} → OneForm ends Is → (d : ℕ) (e g : RawExpr)
    → Agree ends (Node Is e) (Node Is g) (SameToDepth d e g)
agree_node o zero e g = record {
  holds = λ a b rest rest' h k q s s'.
      (tt, ((o.agree 0 e.form g.form).holds a b rest rest' h.form k.form q s s').1);
}
agree_node o (suc d) e g = record {
  holds = λ a b rest rest' h k q s s'.
      let r = (o.agree d e.form g.form).holds a b rest rest' h.form k.form q s s' in (
        (
          one_place a e.at g.at h.there (subst (λ (t : Tokens). StandsAt g.at t) (sym r.1) k.there),
          one_span a e.span
              g.span h.span_is (subst (λ (t : Tokens). IsSpanOf g.span t) (sym r.1) k.span_is),
          r.0,
        ),
        r.1,
      );
}

-- Chains

module _ {ends ends' : TokenKind → Bool} {Is : RawForm → Form} (k : ListedForm) (separator : TokenKind)
    (o : OneForm ends Is) (e : ends separator ≡ true) (e' : ends' separator ≡ false)
    (w : (k : TokenKind) → ends' k ≡ true → ends k ≡ true) where
  -- one operand is not several
  alone : (f : RawForm) (xs : List RawExpr) → 2 ≤ length xs → Agree ends' (Is f) (separated_by separator (Node Is) xs) ⊥
  alone f [] l = record { holds = λ a b rest rest' h j q s s'. elim j [ ] }
  alone f (x ∷ []) l = absurd (omega (arith, l))
  alone f (x ∷ y ∷ ys) l =
      agree_told (agree_map (agree_then (o.agree 0 f x.form) (first_nothing w)
      (first_front (first_front (first_token e)))
      (agree_apart {R = ⊥} {test = ends'} {test' = other ends'} (first_nothing (λ k e. e))
      (first_front (first_front (first_token (ap not e')))) (λ k p q. not_true (ends' k) q p))) (λ r. r.1))
      with_nothing (λ next ts h. then_map h (λ next ts g. g.form) (λ next ts g. g))

  chain_case : (d : ℕ) (f g : RawForm) (a b rest rest' : Tokens) → OneOrMore (listed_form k) separator Is f (first_token_kind rest) a
      → OneOrMore (listed_form k) separator Is g (first_token_kind rest') b → a ++ rest ≡ b ++ rest' → ends' (first_token_kind rest) ≡ true
      → ends' (first_token_kind rest') ≡ true → SameParts (SameToDepth d) f g × (a ≡ b)
  chain_case d f g a b rest rest' (one h) (one j) q s s' =
      (agree_ended (o.agree d f g) w).holds a b rest rest' h j q s s'
  chain_case d f g a b rest rest' (one h) (more v u l j) q s s' =
      absurd ((alone f v.items l).holds a b rest rest' h j q s s').0
  chain_case d f g a b rest rest' (more v u l h) (one j) q s s' =
      absurd ((agree_turned (alone g v.items l)).holds a b rest rest' h j q s s').0
  chain_case d f g a b rest rest' (more v u l h) (more z u' l' j) q s s' =
      let r = (agree_separated separator (agree_node o d) e e' w v.items z.items).holds a b rest rest' h j q s s' in
      (same.listed k v z u u' r.0, r.1)

  pub one_chain : OneForm ends' (OneOrMore (listed_form k) separator Is)
  one_chain = record { agree = λ d f g. record { holds = chain_case d f g } }

-- Sums

same_sign : (p q : Bool) → Sign (if p then PLUS else MINUS) ≡ Sign (if q then PLUS else MINUS) → p ≡ q
same_sign true true e = refl
same_sign true false e = let q : true ≡ false = ap (is_sign PLUS) e in q
same_sign false true e = let q : false ≡ true = ap (is_sign PLUS) e in q
same_sign false false e = refl

term_ends : (p : Bool) → ends_product (Sign (if p then PLUS else MINUS)) ≡ true
term_ends true = refl
term_ends false = refl

term_starts : (p : Bool) → other ends_sum (Sign (if p then PLUS else MINUS)) ≡ true
term_starts true = refl
term_starts false = refl

module _ {P : RawForm → Form} (o : OneForm ends_product P) where
  sum_product : (k : TokenKind) → ends_sum k ≡ true → ends_product k ≡ true
  sum_product k h = and_left (ends_product k) _ h

  agree_term : (d : ℕ) (s t : Bool × RawExpr)
      → Agree ends_product (ReadsTerm P s) (ReadsTerm P t) ((s.0 ≡ t.0) × SameToDepth d s.1 t.1)
  agree_term d (p, x) (q, y) = agree_map (agree_next (agree_token {ends = anything}) (agree_node o d x y))
      (λ r. (same_sign p q r.0, r.1))

  fits : (s : Bool × RawExpr) → First (ReadsTerm P s) anything ends_product
  fits (p, x) = first_front (first_token (term_ends p))

  starts : (s : Bool × RawExpr) → First (ReadsTerm P s) anything (other ends_sum)
  starts (p, x) = first_front (first_token (term_starts p))

  -- one term is not several
  one_term : (f : RawForm) (xs : List (Bool × RawExpr)) → 2 ≤ length xs → Agree ends_sum (P f) (ReadsTerms P xs) ⊥
  one_term f [] l = record { holds = λ a b rest rest' h j q s s'. elim j [ ] }
  one_term f (x ∷ []) l = absurd (omega (arith, l))
  one_term f ((p, x) ∷ y ∷ ys) l =
      agree_told (agree_map (agree_then (o.agree 0 f x.form) (first_nothing sum_product) (first_front (fits y))
      (agree_apart {R = ⊥} {test = ends_sum} {test' = other ends_sum} (first_nothing (λ k e. e))
      (first_front (starts y)) (λ k p q. not_true (ends_sum k) q p))) (λ r. r.1))
      with_nothing (λ next ts h. then_map h.1 (λ next ts g. g.form) (λ next ts g. g))

  terms : (d : ℕ) (xs ys : List (Bool × RawExpr))
      → Agree ends_sum (ReadsTerms P xs) (ReadsTerms P ys) (Along (λ s t. (s.0 ≡ t.0) × SameToDepth d s.1 t.1) xs ys)
  terms d [] ys = record { holds = λ a b rest rest' h j q s s'. elim h [ ] }
  terms d ((p, x) ∷ xs) [] = record { holds = λ a b rest rest' h j q s s'. elim j [ ] }
  terms d ((p, x) ∷ xs) ((p', y) ∷ ys) = record {
    holds = λ a b rest rest' h j q s s'.
        let r = (agree_then (agree_node o d x y) (first_each fits sum_product xs) (first_each fits sum_product ys)
        (agree_each (agree_term d) fits starts sum_product xs ys)).holds a b rest rest' h.1 j.1 q s s' in
        (one_and (h.0 ∙ sym j.0, r.0.0) r.0.1, r.1);
  }

  sum_case : (d : ℕ) (f g : RawForm) (a b rest rest' : Tokens) → ReadsSum P f (first_token_kind rest) a
      → ReadsSum P g (first_token_kind rest') b → a ++ rest ≡ b ++ rest' → ends_sum (first_token_kind rest) ≡ true
      → ends_sum (first_token_kind rest') ≡ true → SameParts (SameToDepth d) f g × (a ≡ b)
  sum_case d f g a b rest rest' (one h) (one j) q s s' =
      (agree_ended (o.agree d f g) sum_product).holds a b rest rest' h j q s s'
  sum_case d f g a b rest rest' (one h) (more v u l j) q s s' =
      absurd ((one_term f v.items l).holds a b rest rest' h j q s s').0
  sum_case d f g a b rest rest' (more v u l h) (one j) q s s' =
      absurd ((agree_turned (one_term g v.items l)).holds a b rest rest' h j q s s').0
  sum_case d f g a b rest rest' (more v u l h) (more z u' l' j) q s s' =
      let r = (terms d v.items z.items).holds a b rest rest' h j q s s' in (same.sum v z u u' r.0, r.1)

  pub one_sum : OneForm ends_sum (ReadsSum P)
  one_sum = record { agree = λ d f g. record { holds = sum_case d f g } }

-- Comparisons

abbrev relation_of : ℕ → RawRelation
relation_of n = if n == EQUAL then relation.Equal else if n == DIFFERS then relation.Differs else if n == LESS
    then relation.Less else if n == AT_MOST then relation.AtMost else if n == MORE then relation.More
    else relation.AtLeast

relation_back : (r : RawRelation) → relation_of (sign_of r) ≡ r
relation_back relation.Equal = refl
relation_back relation.Differs = refl
relation_back relation.Less = refl
relation_back relation.AtMost = refl
relation_back relation.More = refl
relation_back relation.AtLeast = refl

abbrev number_of : TokenKind → ℕ
number_of (Sign n) = n
number_of _ = 0

same_relation : (r q : RawRelation) → Sign (sign_of r) ≡ Sign (sign_of q) → r ≡ q
same_relation r q e = sym (relation_back r) ∙ ap (λ (k : TokenKind). relation_of (number_of k)) e ∙ relation_back q

relation_starts : (r : RawRelation) → other ends_not (Sign (sign_of r)) ≡ true
relation_starts relation.Equal = refl
relation_starts relation.Differs = refl
relation_starts relation.Less = refl
relation_starts relation.AtMost = refl
relation_starts relation.More = refl
relation_starts relation.AtLeast = refl

module _ {S : RawForm → Form} (o : OneForm ends_sum S) where
  not_sum : (k : TokenKind) → ends_not k ≡ true → ends_sum k ≡ true
  not_sum k h = and_left (ends_sum k) _ h

  one_side : (f : RawForm) (r : RawRelation) (x y : RawExpr)
      → Agree ends_not (S f) (Node S x ▸ token (Sign (sign_of r)) ▸ Node S y) ⊥
  one_side f r x y =
      agree_told (agree_map (agree_then (o.agree 0 f x.form) (first_nothing not_sum)
      (first_front (first_token (relation_ends r)))
      (agree_apart {R = ⊥} {test = ends_not} {test' = other ends_not} (first_nothing (λ k e. e))
      (first_front (first_token (relation_starts r))) (λ k p q. not_true (ends_not k) q p))) (λ r. r.1))
      with_nothing (λ next ts h. then_map h (λ next ts g. g.form) (λ next ts g. g))

  compare_case : (d : ℕ) (f g : RawForm) (a b rest rest' : Tokens) → ReadsCompare S f (first_token_kind rest) a
      → ReadsCompare S g (first_token_kind rest') b → a ++ rest ≡ b ++ rest' → ends_not (first_token_kind rest) ≡ true
      → ends_not (first_token_kind rest') ≡ true → SameParts (SameToDepth d) f g × (a ≡ b)
  compare_case d f g a b rest rest' (one h) (one j) q s s' =
      (agree_ended (o.agree d f g) not_sum).holds a b rest rest' h j q s s'
  compare_case d f g a b rest rest' (one h) (two r x y u j) q s s' =
      absurd ((one_side f r x.value y.value).holds a b rest rest' h j q s s').0
  compare_case d f g a b rest rest' (two r x y u h) (one j) q s s' =
      absurd ((agree_turned (one_side g r x.value y.value)).holds a b rest rest' h j q s s').0
  compare_case d f g a b rest rest' (two r x y u h) (two r' x' y' u' j) q s s' =
      let found = (agree_then (agree_node o d x.value x'.value) (first_front (first_token (relation_ends r)))
      (first_front (first_token (relation_ends r')))
      (agree_next (agree_token {ends = anything}) (agree_ended (agree_node o d y.value y'.value) not_sum))).holds a b
      rest rest' h j q s s' in
      let relations : r ≡ r' = same_relation r r' found.0.1.0 in (
        same.compared r x y x' y' u (u' ∙ ap (λ (z : RawRelation). form.Compare z x' y') (sym relations)) found.0.0
            found.0.1.1,
        found.1,
      )

  pub one_compare : OneForm ends_not (ReadsCompare S)
  one_compare = record { agree = λ d f g. record { holds = compare_case d f g } }

-- Negations and minus signs

pub one_negation : {Not Compare : RawForm → Form} → OneForm ends_not Not → OneForm ends_not Compare
    → ((f : RawForm) → First (Compare f) ends_not begins_minus) → OneForm ends_not (ReadsNegation Not Compare)
one_negation {Not} {Compare} o p first = record { agree = λ d f g. record { holds = by_case d f g } }
  where
    not_first : {B : Form} → First (token (Reserved NOT) ▸ B) ends_not (is_word NOT)
    not_first = first_front (first_token refl)

    by_case : (d : ℕ) (f g : RawForm) (a b rest rest' : Tokens) → ReadsNegation Not Compare f (first_token_kind rest) a
        → ReadsNegation Not Compare g (first_token_kind rest') b → a ++ rest ≡ b ++ rest' → ends_not (first_token_kind rest) ≡ true
        → ends_not (first_token_kind rest') ≡ true → SameParts (SameToDepth d) f g × (a ≡ b)
    by_case d f g a b rest rest' (negated x u h) (negated y u' j) q s s' =
        let r = (agree_next (agree_token {ends = anything}) (agree_node o d x.value y.value)).holds a b rest rest' h j q s s' in (same.negation x y u u' r.0.1, r.1)
    by_case d f g a b rest rest' (negated x u h) (plain j) q s s' =
        (agree_apart not_first (first g) (λ k e e'. fails begins_minus e' (word_from NOT k e) refl)).holds a b rest
        rest' h j q s s'
    by_case d f g a b rest rest' (plain h) (negated y u j) q s s' =
        (agree_apart (first f) not_first (λ k e e'. fails begins_minus e (word_from NOT k e') refl)).holds a b rest
        rest' h j q s s'
    by_case d f g a b rest rest' (plain h) (plain j) q s s' = (p.agree d f g).holds a b rest rest' h j q s s'

pub one_minus : {Minus Primary : RawForm → Form} → OneForm ends_path Minus → OneForm ends_path Primary
    → ((f : RawForm) → First (Primary f) ends_path begins_primary) → OneForm ends_path (ReadsMinusOf Minus Primary)
one_minus {Minus} {Primary} o p first = record { agree = λ d f g. record { holds = by_case d f g } }
  where
    minus_first : {B : Form} → First (token (Sign MINUS) ▸ B) ends_path (is_sign MINUS)
    minus_first = first_front (first_token refl)

    by_case : (d : ℕ) (f g : RawForm) (a b rest rest' : Tokens) → ReadsMinusOf Minus Primary f (first_token_kind rest) a
        → ReadsMinusOf Minus Primary g (first_token_kind rest') b → a ++ rest ≡ b ++ rest' → ends_path (first_token_kind rest) ≡ true
        → ends_path (first_token_kind rest') ≡ true → SameParts (SameToDepth d) f g × (a ≡ b)
    by_case d f g a b rest rest' (negated x u h) (negated y u' j) q s s' =
        let r = (agree_next (agree_token {ends = anything}) (agree_node o d x.value y.value)).holds a b rest rest' h j q s s' in (same.minus x y u u' r.0.1, r.1)
    by_case d f g a b rest rest' (negated x u h) (plain j) q s s' =
        (agree_apart minus_first (first g) (λ k e e'. fails begins_primary e' (sign_from MINUS k e) refl)).holds a b
        rest rest' h j q s s'
    by_case d f g a b rest rest' (plain h) (negated y u j) q s s' =
        (agree_apart (first f) minus_first (λ k e e'. fails begins_primary e (sign_from MINUS k e') refl)).holds a b
        rest rest' h j q s s'
    by_case d f g a b rest rest' (plain h) (plain j) q s s' = (p.agree d f g).holds a b rest rest' h j q s s'

-- Choices

along_one : {X : Type 0} {R : X → X → Type 0} {xs ys : List X} {x y : X} → xs ≡ x ∷ [] → ys ≡ y ∷ [] → R x y
    → Along R xs ys
along_one {X} {R} {xs} {ys} {x} {y} e e' r =
    subst (λ (zs : List X). Along R zs ys) (sym e)
    (subst (λ (zs : List X). Along R (x ∷ []) zs) (sym e') (one_and r none))

pub one_choice : {E Or : RawForm → Form} → OneForm ends_expr E → OneForm ends_expr Or
    → ((f : RawForm) → First (Or f) ends_expr begins_not) → OneForm ends_expr (ReadsChoice E Or)
one_choice {E} {Or} o p first = record { agree = λ d f g. record { holds = by_case d f g } }
  where
    if_first : {A B : Form} → First (between (Reserved IF) (Reserved THEN) A ▸ B) ends_expr (is_word IF)
    if_first = first_front (first_front (first_token refl))

    both : (d : ℕ) (x y z x' y' z' : RawExpr)
        → Agree ends_expr (between (Reserved IF) (Reserved THEN) (Node E x) ▸ Node E y ▸ token (Reserved ELSE) ▸ Node E
        z) (between (Reserved IF) (Reserved THEN) (Node E x') ▸ Node E y' ▸ token (Reserved ELSE) ▸ Node E z')
        (SameToDepth d x x' × SameToDepth d y y' × SameToDepth d z z')
    both d x y z x' y' z' =
        agree_map (agree_next (agree_between (agree_node o d x x') refl)
        (agree_then (agree_node o d y y') (first_front (first_token refl)) (first_front (first_token refl))
        (agree_next (agree_token {ends = anything}) (agree_node o d z z'))))
        (λ r. (r.0, r.1.0, r.1.1.1))

    by_case : (d : ℕ) (f g : RawForm) (a b rest rest' : Tokens) → ReadsChoice E Or f (first_token_kind rest) a
        → ReadsChoice E Or g (first_token_kind rest') b → a ++ rest ≡ b ++ rest' → ends_expr (first_token_kind rest) ≡ true
        → ends_expr (first_token_kind rest') ≡ true → SameParts (SameToDepth d) f g × (a ≡ b)
    by_case d f g a b rest rest' (choice h) (choice j) q s s' =
        let r = (both d h.test h.value h.other.value j.test j.value j.other.value).holds a b rest rest' h.reads j.reads
        q s s' in
        (same.choice h.cases j.cases h.other j.other h.is j.is (along_one h.one j.one (r.0.0, r.0.1)) r.0.2, r.1)
    by_case d f g a b rest rest' (choice h) (plain j) q s s' =
        (agree_apart if_first (first g) (λ k e e'. fails begins_not e' (word_from IF k e) refl)).holds a b rest rest'
        h.reads j q s s'
    by_case d f g a b rest rest' (plain h) (choice j) q s s' =
        (agree_apart (first f) if_first (λ k e e'. fails begins_not e (word_from IF k e') refl)).holds a b rest rest' h
        j.reads q s s'
    by_case d f g a b rest rest' (plain h) (plain j) q s s' = (p.agree d f g).holds a b rest rest' h j q s s'

-- Calls and switches

whole_in : (n m : ℤ) → Whole n ≡ Whole m → n ≡ m
whole_in n m e = cc

module _ {E : RawForm → Form} (o : OneForm ends_expr E) where
  list_expr : (k : TokenKind) → ends_list k ≡ true → ends_expr k ≡ true
  list_expr k h = ap ends_expr (sign_from CLOSE_PARENTHESIS k h)

  cases_expr : (k : TokenKind) → ends_cases k ≡ true → ends_expr k ≡ true
  cases_expr k h = ap ends_expr (word_from DEFAULT k h)

  agree_operands : (d : ℕ) (xs ys : List RawExpr)
      → Agree anything (ReadsOperands E xs) (ReadsOperands E ys) (Along (SameToDepth d) xs ys)
  agree_operands d xs ys = agree_between
      (agree_separated {ends' = ends_list} (Sign COMMA) (agree_node o d) refl refl list_expr xs ys) refl

  pub agree_call : {ends : TokenKind → Bool} (word : ℕ) (d : ℕ) (xs ys : List RawExpr)
      → Agree ends (token (Reserved word) ▸ ReadsOperands E xs) (token (Reserved word) ▸ ReadsOperands E ys)
      (Along (SameToDepth d) xs ys)
  agree_call word d xs ys = agree_map
      (agree_next (agree_token {ends = anything}) (agree_ended (agree_operands d xs ys) (λ k s. refl))) (λ r. r.1)

  agree_case : (d : ℕ) (x y : RawExpr × RawExpr)
      → Agree ends_expr (ReadsCase E x) (ReadsCase E y) (SameToDepth d x.0 y.0 × SameToDepth d x.1 y.1)
  agree_case d (x, v) (y, w) = agree_next (agree_between (agree_node o d x y) refl) (agree_node o d v w)

  case_ends : (x : RawExpr × RawExpr) → First (ReadsCase E x) anything ends_expr
  case_ends (x, v) = first_front (first_front (first_token refl))

  case_starts : (x : RawExpr × RawExpr) → First (ReadsCase E x) anything (other ends_cases)
  case_starts (x, v) = first_front (first_front (first_token refl))

  pub one_switch : {ends : TokenKind → Bool} (d : ℕ) (f g : RawForm)
      → Agree ends (ReadsSwitch E f) (ReadsSwitch E g) (SameParts (SameToDepth d) f g)
  one_switch d f g = record {
    holds = λ a b rest rest' h j q s s'.
        let r = (agree_next (agree_token {ends = anything})
        (agree_next (agree_token {ends = anything})
        (agree_then (agree_each {ends' = ends_cases} (agree_case d) case_ends case_starts cases_expr
        h.cases.items j.cases.items)
        (first_front (first_token refl)) (first_front (first_token refl))
        (agree_next (agree_token {ends = anything})
        (agree_between {ends' = anything} (agree_node o d h.other.value j.other.value) refl))))).holds a b rest
        rest' h.reads j.reads q refl refl in
        (same.choice h.cases j.cases h.other j.other h.is j.is r.0.1.1.0 r.0.1.1.1.1, r.1);
  }

  -- which kind of primary it is
  abbrev tag : {f : RawForm} {next : TokenKind} {ts : Tokens} → ReadsPrimary E f next ts → ℕ
  tag (truth u h) = 0
  tag (falsehood u h) = 1
  tag (whole n u h) = 2
  tag (real u h) = 3
  tag (path p u h) = 4
  tag (brackets h) = 5
  tag (least v u h) = 6
  tag (greatest v u h) = 7
  tag (count v u h) = 8
  tag (switch h) = 9

  abbrev word_tag : ℕ → ℕ
  word_tag w = if w == TRUE then 0 else if w == FALSE then 1 else if w == MIN then 6 else if w == MAX then 7
      else if w == COUNT then 8 else if w == SWITCH then 9 else 4

  abbrev tag_of : TokenKind → ℕ
  tag_of Name = 4
  tag_of (Whole n) = 2
  tag_of Real = 3
  tag_of (Sign n) = 5
  tag_of (Reserved w) = word_tag w
  tag_of End = 10

  tag_first : {f : RawForm} {next : TokenKind} {ts : Tokens} → (h : ReadsPrimary E f next ts)
      → tag_of (kind_or next ts) ≡ tag h
  tag_first (truth u h) = ap tag_of (token_kind h)
  tag_first (falsehood u h) = ap tag_of (token_kind h)
  tag_first (whole n u h) = ap tag_of (token_kind h)
  tag_first (real u h) = ap tag_of (token_kind h)
  tag_first {next = next} {ts = ts} (path p u h) =
      eqb-true (tag_of (kind_or next ts)) 4 (path_first (λ k. tag_of k == 4) refl refl refl p next ts h)
  tag_first (brackets h) = ap tag_of (then_kind h)
  tag_first (least v u h) = ap tag_of (then_kind h)
  tag_first (greatest v u h) = ap tag_of (then_kind h)
  tag_first (count v u h) = ap tag_of (then_kind h)
  tag_first (switch h) = ap tag_of (then_kind h.reads)

  inner : (d : ℕ) (f g : RawForm) → Agree anything (between (Sign OPEN_PARENTHESIS) (Sign CLOSE_PARENTHESIS) (E f))
      (between (Sign OPEN_PARENTHESIS) (Sign CLOSE_PARENTHESIS) (E g)) (SameParts (SameToDepth d) f g)
  inner d f g = agree_between {ends' = anything} (o.agree d f g) refl

  primary_case : (d : ℕ) (f g : RawForm) (a b rest rest' : Tokens) (h : ReadsPrimary E f (first_token_kind rest) a)
      (j : ReadsPrimary E g (first_token_kind rest') b) → a ++ rest ≡ b ++ rest' → ends_path (first_token_kind rest) ≡ true
      → ends_path (first_token_kind rest') ≡ true → tag h ≡ tag j → SameParts (SameToDepth d) f g × (a ≡ b)
  primary_case d f g a b rest rest' (truth u h) (truth u' j) q s s' t =
      (same.equal (u ∙ sym u'), ((agree_token {ends = anything}).holds a b rest rest' h j q refl refl).1)
  primary_case d f g a b rest rest' (falsehood u h) (falsehood u' j) q s s' t =
      (same.equal (u ∙ sym u'), ((agree_token {ends = anything}).holds a b rest rest' h j q refl refl).1)
  primary_case d f g a b rest rest' (whole n u h) (whole n' u' j) q s s' t =
      let r = (agree_token {ends = anything}).holds a b rest rest' h j q refl refl in (same.equal (u ∙ ap form.Whole (whole_in n n' r.0) ∙ sym u'), r.1)
  primary_case d f g a b rest rest' (real u h) (real u' j) q s s' t =
      (same.equal (u ∙ sym u'), ((agree_token {ends = anything}).holds a b rest rest' h j q refl refl).1)
  primary_case d f g a b rest rest' (path p u h) (path p' u' j) q s s' t = let r = (agree_path p p').holds a b rest rest' h j q s s' in (same.path p p' u u' r.0, r.1)
  primary_case d f g a b rest rest' (brackets h) (brackets j) q s s' t =
      (inner d f g).holds a b rest rest' h j q refl refl
  primary_case d f g a b rest rest' (least v u h) (least w u' j) q s s' t = let r = (agree_call {ends = anything} MIN d v.items w.items).holds a b rest rest' h j q refl refl in (same.listed same.least v w u u' r.0, r.1)
  primary_case d f g a b rest rest' (greatest v u h) (greatest w u' j) q s s' t = let r = (agree_call {ends = anything} MAX d v.items w.items).holds a b rest rest' h j q refl refl in (same.listed same.greatest v w u u' r.0, r.1)
  primary_case d f g a b rest rest' (count v u h) (count w u' j) q s s' t = let r = (agree_call {ends = anything} COUNT d v.items w.items).holds a b rest rest' h j q refl refl in (same.listed same.count v w u u' r.0, r.1)
  primary_case d f g a b rest rest' (switch h) (switch j) q s s' t =
      (one_switch {ends = anything} d f g).holds a b rest rest' h j q refl refl
  primary_case d f g a b rest rest' h j q s s' t = absurd (omega (arith, t))

  pub one_primary : OneForm ends_path (ReadsPrimary E)
  one_primary = record {
    agree = λ d f g. record {
      holds = λ a b rest rest' h j q s s'.
          let first : kind_or (first_token_kind rest) a ≡ kind_or (first_token_kind rest') b =
          sym (kind_before a rest) ∙ ap first_token_kind q ∙ kind_before b rest' in
          primary_case d f g a b rest rest' h j q s s' (sym (tag_first h) ∙ ap tag_of first ∙ tag_first j);
    };
  }

-- Expressions

pub record Levels (n : ℕ) : Type 0 where
  pub expr : OneForm ends_expr (ReadsExpr n)
  pub negation : OneForm ends_not (ReadsNot n)
  pub minus : OneForm ends_path (ReadsMinus n)

none_here : {ends : TokenKind → Bool} {Is : RawForm → Form}
    → ((f : RawForm) (next : TokenKind) (ts : Tokens) → Is f next ts → ⊥) → OneForm ends Is
none_here empty = record {
  agree = λ d f g. record
      { holds = λ a b rest rest' h j q s s'. absurd (empty f (first_token_kind rest) a h) };
}

pub levels : (n : ℕ) → Levels n
levels zero = record {
  expr = none_here (λ f next ts h. h);
  negation = none_here (λ f next ts h. h);
  minus = none_here (λ f next ts h. h);
}
levels (suc n) =
    let l = levels n in
    let products : OneForm ends_product (ReadsProduct (ReadsMinus n)) =
    one_chain same.product (Sign STAR) l.minus refl refl (λ k h. and_left (ends_path k) _ h) in
    let ands : OneForm ends_and (ReadsAnd (ReadsNot n)) =
    one_chain same.all (Reserved AND) l.negation refl refl (λ k h. and_left (ends_not k) _ h) in
    let ors : OneForm ends_expr (ReadsOr (ReadsNot n)) =
    one_chain same.any (Reserved OR) ands refl refl (λ k h. and_left (ends_and k) _ h) in
    record {
      expr = one_choice l.expr ors (λ f. record { holds = λ next ts h s. or_first n f next ts h });
      negation = one_negation l.negation (one_compare (one_sum products))
          (λ f. record { holds = λ next ts h s. compare_first n f next ts h });
      minus = one_minus l.minus (one_primary l.expr)
          (λ f. record { holds = λ next ts h s. primary_first (ReadsExpr n) f next ts h });
    }

-- An expression of a text is one.
pub agree_expr : (n : ℕ) (e g : RawExpr) → Agree ends_expr (Node (ReadsExpr n) e) (Node (ReadsExpr n) g)
    (same.SameExpr e g)
agree_expr n e g = agree_all (λ d. agree_node (levels n).expr d e g)
