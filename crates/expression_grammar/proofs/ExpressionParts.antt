-- What the texts of expressions are, part by part, and what is made of the parts.
use Rattle.std.proofs.Common.{◌≡◌, ◌≢◌, ℕ, zero, suc, ◌-◌, ◌≤◌, Bool, true, false, not, ◌&&◌, List, [], ◌∷◌, ◌++◌, length, Vec, Box, refl, sym, ap, ◌∙◌, subst, arith}
use Rattle.std.specs.Prelude.{if◌then◌else◌, Some}
use Rattle.std.specs.declared.alloc.Global.{Global}
use Rattle.std.proofs.Math.Numerals.{sub-one}
use Rattle.ar_lexer.specs.declared.token.TokenKind.{TokenKind}
use Rattle.ar_lexer.specs.declared.token.TokenKind.TheVariants.{Sign, Reserved}
use Rattle.ar_lexer.specs.declared.signs.TheConstants.{PLUS, MINUS}
use Rattle.ar_lexer.specs.declared.words.TheConstants.{ELSE, IF, NOT, THEN}
use Rattle.ar_syntax.specs.declared.expressions.RawExpr.{RawExpr}
use Rattle.ar_syntax.specs.declared.expressions.RawForm.{RawForm}
use Rattle.ar_syntax.specs.declared.expressions.RawForm.TheVariants as form
use Rattle.ar_syntax.specs.declared.expressions.RawRelation.{RawRelation}
use Rattle.ar_syntax.specs.declared.expressions.RawRelation.TheVariants as relation
use Rattle.expression_grammar.specs.declared.terms.Chain.{Chain}
use Rattle.expression_grammar.specs.declared.terms.Chain.TheVariants.{Any, All, Product}
use Rattle.expression_grammar.specs.Words.{Tokens, token, ◌▸◌, between, each, separated_by}
use Rattle.expression_grammar.specs.Expressions.{Node, one, more, ReadsProduct, ReadsTerm, ReadsTerms, ReadsSum, ReadsCompare, two, sign_of, negated, plain, ReadsIf, choice, ReadsPrimary, ReadsExpr, ReadsNot, ReadsMinus}
use Rattle.expression_grammar.specs.Chains.{separator_of, chain_of, operand_form, chain_form, ends_operand, ends_chain, IsComparison, IsOneCase}
use Rattle.expression_grammar.specs.Results.{first_token_kind, Spans, Eats, begins_term, is_relation, ends_path, ends_product, ends_sum, ends_not, ends_and}
use Rattle.expression_grammar.proofs.Finding.{spans_then, spans_map}
use Rattle.expression_grammar.proofs.ExpressionForms.{then_assoc, then_some, token_some, node_some, Places, node_made, and_left}

-- Expr

pub expr_choice_in : (n : ℕ) (e : RawExpr) (next : TokenKind) (ts : Tokens) → n ≢ 0
    → Node (ReadsIf (ReadsExpr (n - 1))) e next ts → Node (ReadsExpr n) e next ts
expr_choice_in zero e next ts some h = absurd (some refl)
expr_choice_in (suc n) e next ts some h =
    record {
      there = h.there;
      span_is = h.span_is;
      form = choice (subst (λ (m : ℕ). ReadsIf (ReadsExpr m) e.form next ts) (sub-one (suc n)) h.form);
    }

pub expr_plain_in : (n : ℕ) (e : RawExpr) (next : TokenKind) (ts : Tokens) → n ≢ 0
    → Node (chain_form Any (n - 1)) e next ts → Node (ReadsExpr n) e next ts
expr_plain_in zero e next ts some h = absurd (some refl)
expr_plain_in (suc n) e next ts some h =
    record {
      there = h.there;
      span_is = h.span_is;
      form = plain (subst (λ (m : ℕ). chain_form Any m e.form next ts) (sub-one (suc n)) h.form);
    }

-- "if" Expr "then" Expr "else" Expr

pub if_made : (n : ℕ) (test value other : RawExpr) (f : RawForm) (e : RawExpr) {old rest last new : Tokens}
    → IsOneCase test value other f → Places e f old new →
    Spans (between (Reserved IF) (Reserved THEN) (Node (ReadsExpr n) test) ▸ Node (ReadsExpr n) value) old rest
    → Spans (token (Reserved ELSE)) rest last → Spans (Node (ReadsExpr n) other) last new
    → Spans (Node (ReadsIf (ReadsExpr n)) e) old new
if_made n test value other f e c p a t d =
    node_made (between (Reserved IF) (Reserved THEN) (Node (ReadsExpr n) test) ▸ Node (ReadsExpr n) value ▸ token
    (Reserved ELSE) ▸ Node (ReadsExpr n) other) (ReadsIf (ReadsExpr n)) e f p
    (spans_map (spans_then a (spans_then t d)) (λ next ts h. then_assoc h))
    (λ next ts h. then_some h (λ next ts g. then_some g (token_some (Reserved IF))))
    (λ next ts h. record {
      cases = c.cases;
      other = c.d;
      test = test;
      value = value;
      is = c.is;
      one = c.one;
      reads = subst (λ (x : RawExpr). (between (Reserved IF) (Reserved THEN) (Node (ReadsExpr n) test) ▸ Node (ReadsExpr
          n) value ▸ token (Reserved ELSE) ▸ Node (ReadsExpr n) x) next ts) (sym c.other_is) h;
    })

-- x { separator x }

pub sep_ends : (c : Chain) → ends_operand c (separator_of c) ≡ true
sep_ends Any = refl
sep_ends All = refl
sep_ends Product = refl

pub sep_open : (c : Chain) → ends_chain c (separator_of c) ≡ false
sep_open Any = refl
sep_open All = refl
sep_open Product = refl

pub chain_ends : (c : Chain) (k : TokenKind) → ends_chain c k ≡ true → ends_operand c k ≡ true
chain_ends Any k h = and_left (ends_and k) _ h
chain_ends All k h = and_left (ends_not k) _ h
chain_ends Product k h = and_left (ends_path k) _ h

some_more : {X : Type 0} (xs : List X) → (xs ≡ [] → ⊥) → 2 ≤ suc (length xs)
some_more [] h = absurd (h refl)
some_more (x ∷ xs) h = omega arith

-- a chain, from its first operand and the rest
pub chain_made : (c : Chain) (n : ℕ) (first : RawExpr) (rest : List RawExpr) (v : Vec RawExpr Global) (e : RawExpr)
    {old mid new : Tokens} → v.items ≡ first ∷ rest → Places e (chain_of c v) old new →
    Spans (Node (operand_form c n) first) old mid
    → Spans (each (λ x. token (separator_of c) ▸ Node (operand_form c n) x) rest) mid new
    → first_token_kind mid ≡ separator_of c → first_token_kind new ≢ separator_of c → Spans (Node (chain_form c n) e) old new
chain_made c n first rest v e {old} {mid} {new} items p a b at over =
    node_made (Node (operand_form c n) first ▸ each (λ x. token (separator_of c) ▸ Node (operand_form c n) x) rest)
    (chain_form c n) e (chain_of c v) p (spans_then a b)
    (λ next ts h. then_some h (node_some (operand_form c n) first))
    (λ next ts h. more v refl (subst (λ (xs : List RawExpr). 2 ≤ length xs) (sym items) (some_more rest (none rest b)))
    (subst (λ (xs : List RawExpr). separated_by (separator_of c) (Node (operand_form c n)) xs next ts) (sym items) h))
  where
    none : (rest : List RawExpr) → Spans (each (λ x. token (separator_of c) ▸ Node (operand_form c n) x) rest) mid new
        → rest ≡ [] → ⊥
    none [] s z = over (sym (ap first_token_kind (s.split ∙ ap (λ (t : Tokens). t ++ new) s.form)) ∙ at)
    none (x ∷ rest) s z = absurd (cc)

-- Not

pub not_plain_in : (n : ℕ) (e : RawExpr) (next : TokenKind) (ts : Tokens) → n ≢ 0
    → Node (ReadsCompare (ReadsSum (ReadsProduct (ReadsMinus (n - 1))))) e next ts → Node (ReadsNot n) e next ts
not_plain_in zero e next ts some h = absurd (some refl)
not_plain_in (suc n) e next ts some h =
    record {
      there = h.there;
      span_is = h.span_is;
      form = plain (subst (λ (m : ℕ). ReadsCompare (ReadsSum (ReadsProduct (ReadsMinus m))) e.form next ts) (sub-one
          (suc n)) h.form);
    }

pub not_made : (n : ℕ) (x : Box RawExpr Global) (operand : RawExpr) (e : RawExpr) {old mid new : Tokens} → n ≢ 0
    → x.value ≡ operand → Places e (form.Not x) old new → Spans (token (Reserved NOT)) old mid
    → Spans (Node (ReadsNot (n - 1)) operand) mid new → Spans (Node (ReadsNot n) e) old new
not_made zero x operand e some same p a b = absurd (some refl)
not_made (suc n) x operand e some same p a b =
    node_made (token (Reserved NOT) ▸ Node (ReadsNot (suc n - 1)) operand) (ReadsNot (suc n)) e (form.Not x) p
    (spans_then a b)
    (λ next ts h. then_some h (token_some (Reserved NOT)))
    (λ next ts h. negated x refl (subst (λ (m : ℕ). (token (Reserved NOT) ▸ Node (ReadsNot m) x.value) next ts)
    (sub-one (suc n)) (subst (λ (y : RawExpr). (token (Reserved NOT) ▸ Node (ReadsNot (suc n - 1)) y) next ts)
    (sym same) h)))

-- Compare

-- [ relation Sum ]
pub relation_ends : (r : RawRelation) → ends_sum (Sign (sign_of r)) ≡ true
relation_ends relation.Equal = refl
relation_ends relation.Differs = refl
relation_ends relation.Less = refl
relation_ends relation.AtMost = refl
relation_ends relation.More = refl
relation_ends relation.AtLeast = refl

pub relation_is : (r : RawRelation) → is_relation (Sign (sign_of r)) ≡ true
relation_is relation.Equal = refl
relation_is relation.Differs = refl
relation_is relation.Less = refl
relation_is relation.AtMost = refl
relation_is relation.More = refl
relation_is relation.AtLeast = refl

pub relation_open : (r : RawRelation) → ends_not (Sign (sign_of r)) ≡ false
relation_open relation.Equal = refl
relation_open relation.Differs = refl
relation_open relation.Less = refl
relation_open relation.AtMost = refl
relation_open relation.More = refl
relation_open relation.AtLeast = refl

pub compare_made : (n : ℕ) (r : RawRelation) (first second : RawExpr) (f : RawForm) (e : RawExpr)
    {old mid rest new : Tokens} → IsComparison r first second f → Places e f old new →
    Spans (Node (ReadsSum (ReadsProduct (ReadsMinus n))) first) old mid → Spans (token (Sign (sign_of r))) mid rest
    → Spans (Node (ReadsSum (ReadsProduct (ReadsMinus n))) second) rest new
    → Spans (Node (ReadsCompare (ReadsSum (ReadsProduct (ReadsMinus n)))) e) old new
compare_made n r first second f e c p a t b =
    node_made (Node (ReadsSum (ReadsProduct (ReadsMinus n))) first ▸ token (Sign (sign_of r)) ▸ Node
    (ReadsSum (ReadsProduct (ReadsMinus n))) second) (ReadsCompare (ReadsSum (ReadsProduct (ReadsMinus n)))) e f p
    (spans_then a (spans_then t b))
    (λ next ts h. then_some h (node_some (ReadsSum (ReadsProduct (ReadsMinus n))) first))
    (λ next ts h. two r c.x c.y c.is
    (subst (λ (x : RawExpr). (Node (ReadsSum (ReadsProduct (ReadsMinus n))) x ▸ token (Sign (sign_of r)) ▸ Node
    (ReadsSum (ReadsProduct (ReadsMinus n))) c.y.value) next ts) (sym c.x_is)
    (subst (λ (y : RawExpr). (Node (ReadsSum (ReadsProduct (ReadsMinus n))) first ▸ token (Sign (sign_of r)) ▸ Node
    (ReadsSum (ReadsProduct (ReadsMinus n))) y) next ts) (sym c.y_is) h)))

-- Sum

pub sum_ends : (k : TokenKind) → ends_sum k ≡ true → ends_product k ≡ true
sum_ends k h = and_left (ends_product k) _ h

-- a token that begins a term does not end a sum
pub term_open : (k : TokenKind) → begins_term k ≡ true → ends_sum k ≡ false
term_open k h = by_tests (ends_product k) (begins_term k) h
  where
    by_tests : (p q : Bool) → q ≡ true → (p && not q) ≡ false
    by_tests true true h = refl
    by_tests true false h = absurd (cc)
    by_tests false q h = refl

pub sum_one : (n : ℕ) (e : RawExpr) (next : TokenKind) (ts : Tokens) → Node (chain_form Product n) e next ts
    → Node (ReadsSum (ReadsProduct (ReadsMinus n))) e next ts
sum_one n e next ts h = record { there = h.there; span_is = h.span_is; form = one h.form }

pub sum_made : (n : ℕ) (first : RawExpr) (rest : List (Bool × RawExpr)) (v : Vec (Bool × RawExpr) Global) (e : RawExpr)
    {old mid new : Tokens} → v.items ≡ (true, first) ∷ rest → Places e (form.Sum v) old new →
    Spans (Node (chain_form Product n) first) old mid → Spans (each (ReadsTerm (ReadsProduct (ReadsMinus n))) rest) mid
    new
    → begins_term (first_token_kind mid) ≡ true → begins_term (first_token_kind new) ≡ false
    → Spans (Node (ReadsSum (ReadsProduct (ReadsMinus n))) e) old new
sum_made n first rest v e {old} {mid} {new} items p a b at over =
    node_made (Node (ReadsProduct (ReadsMinus n)) first ▸ each (ReadsTerm (ReadsProduct (ReadsMinus n))) rest)
    (ReadsSum (ReadsProduct (ReadsMinus n))) e (form.Sum v) p (spans_then a b)
    (λ next ts h. then_some h (node_some (ReadsProduct (ReadsMinus n)) first))
    (λ next ts h. more v refl (subst (λ (xs : List (Bool × RawExpr)). 2 ≤ length xs) (sym items)
    (some_more rest (none rest b)))
    (subst (λ (xs : List (Bool × RawExpr)). ReadsTerms (ReadsProduct (ReadsMinus n)) xs next ts) (sym items) (refl, h)))
  where
    none : (rest : List (Bool × RawExpr)) → Spans (each (ReadsTerm (ReadsProduct (ReadsMinus n))) rest) mid new
        → rest ≡ [] → ⊥
    none [] s z = let q : true ≡ false = sym at ∙ ap begins_term (ap first_token_kind (s.split ∙ ap (λ (t : Tokens). t ++ new) s.form)) ∙ over in absurd (cc)
    none (x ∷ rest) s z = absurd (cc)

-- Minus

pub minus_plain_in : (n : ℕ) (e : RawExpr) (next : TokenKind) (ts : Tokens) → n ≢ 0
    → Node (ReadsPrimary (ReadsExpr (n - 1))) e next ts → Node (ReadsMinus n) e next ts
minus_plain_in zero e next ts some h = absurd (some refl)
minus_plain_in (suc n) e next ts some h =
    record {
      there = h.there;
      span_is = h.span_is;
      form = plain (subst (λ (m : ℕ). ReadsPrimary (ReadsExpr m) e.form next ts) (sub-one (suc n)) h.form);
    }

pub minus_made : (n : ℕ) (x : Box RawExpr Global) (operand : RawExpr) (e : RawExpr) {old mid new : Tokens} → n ≢ 0
    → x.value ≡ operand → Places e (form.Minus x) old new → Spans (token (Sign MINUS)) old mid
    → Spans (Node (ReadsMinus (n - 1)) operand) mid new → Spans (Node (ReadsMinus n) e) old new
minus_made zero x operand e some same p a b = absurd (some refl)
minus_made (suc n) x operand e some same p a b =
    node_made (token (Sign MINUS) ▸ Node (ReadsMinus (suc n - 1)) operand) (ReadsMinus (suc n)) e (form.Minus x) p
    (spans_then a b)
    (λ next ts h. then_some h (token_some (Sign MINUS)))
    (λ next ts h. negated x refl (subst (λ (m : ℕ). (token (Sign MINUS) ▸ Node (ReadsMinus m) x.value) next ts)
    (sub-one (suc n)) (subst (λ (y : RawExpr). (token (Sign MINUS) ▸ Node (ReadsMinus (suc n - 1)) y) next ts)
    (sym same) h)))

-- Terms

pub term_sign : (plus : Bool) → begins_term (Sign (if plus then PLUS else MINUS)) ≡ true
term_sign true = refl
term_sign false = refl

pub term_eats : (plus : Bool) {old new : Tokens} → (Some plus ≡ Some true → Eats (Sign PLUS) old new)
    → (Some plus ≡ Some false → Eats (Sign MINUS) old new) → Eats (Sign (if plus then PLUS else MINUS)) old new
term_eats true p m = p refl
term_eats false p m = m refl

pub compare_one : (n : ℕ) (e : RawExpr) (next : TokenKind) (ts : Tokens)
    → Node (ReadsSum (ReadsProduct (ReadsMinus n))) e next ts
    → Node (ReadsCompare (ReadsSum (ReadsProduct (ReadsMinus n)))) e next ts
compare_one n e next ts h = record { there = h.there; span_is = h.span_is; form = one h.form }
