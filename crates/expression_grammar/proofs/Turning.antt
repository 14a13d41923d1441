-- Each text with a tree is a text, with more room too, and before any token.
use Rattle.std.proofs.Common.{◌≡◌, ℕ, zero, suc, ◌≤◌, inl, inr, Bool, true, List, [], ◌∷◌, length, Vec, refl, sym, ap, ◌∙◌, arith}
use Rattle.std.proofs.lemmas.List.{append-nil}
use Rattle.std.specs.declared.alloc.Global.{Global}
use Rattle.ar_lexer.specs.declared.token.TokenKind.{TokenKind}
use Rattle.ar_lexer.specs.declared.token.TokenKind.TheVariants.{Name, Sign, Reserved}
use Rattle.ar_lexer.specs.declared.signs.TheConstants.{DOT, COMMA, STAR, CLOSE_PARENTHESIS}
use Rattle.ar_lexer.specs.declared.words.TheConstants.{AND, OR}
use Rattle.ar_syntax.specs.declared.paths.Path.{Path}
use Rattle.ar_syntax.specs.declared.paths.PathStart.{PathStart}
use Rattle.ar_syntax.specs.declared.paths.PathStart.TheVariants.{Here, Owner, Main}
use Rattle.ar_syntax.specs.declared.expressions.RawExpr.{RawExpr}
use Rattle.ar_syntax.specs.declared.expressions.RawForm.{RawForm}
use Rattle.ar_syntax.specs.declared.expressions.RawForm.TheVariants as form
use Rattle.expression_grammar.specs.declared.terms.Chain.{Chain}
use Rattle.expression_grammar.specs.declared.terms.Chain.TheVariants.{Any, All, Product}
use Rattle.ar_base.specs.Numbers.{NameId}
use Rattle.expression_grammar.specs.Words.{Form, Tokens, token, deep, ◌▸◌, between, each, many, separated_by, ReadsSome}
use Rattle.expression_grammar.specs.Paths.{ReadsName, ReadsStart, ReadsPath}
use Rattle.expression_grammar.specs.Expressions.{Node, OneOrMore, one, more, ReadsProduct, ReadsTerm, ReadsTerms, ReadsSum, ReadsCompare, two, ReadsAnd, negated, plain, choice, ReadsCase, ReadsSwitch, ReadsIf, ReadsPrimary, truth, falsehood, whole, real, path, brackets, least, greatest, count, switch, ReadsOperands, ReadsExpr, ReadsNot, ReadsMinus}
use Rattle.expression_grammar.specs.Chains.{operand_form}
use Rattle.expression_grammar.specs.Texts.{one_of, list_of, path_tokens, names_tokens, product_tokens, sum_tokens, compare_tokens, and_tokens, or_tokens, if_tokens, case_made_of, switch_tokens, operands_tokens, primary_tokens, expr_tokens, not_tokens, minus_tokens, begins_constant, begins_call}
use Rattle.expression_grammar.specs.Texts as text
use Rattle.expression_grammar.proofs.ExpressionForms.{then_assoc}
use Rattle.expression_grammar.proofs.Standing.{Turns, turns_token, turns_then, turns_each}
use Rattle.expression_grammar.specs.Parts.{operand_tokens, term_tokens, case_tokens}

turns_node : {Is : RawForm → Form} {B : Form} → ((f : RawForm) → Turns (Is f) B) → (e : RawExpr) → Turns (Node Is e) B
turns_node f e = λ next next' ts h. f e.form next next' ts h.form

pub turns_name : (x : NameId) → Turns (ReadsName x) (token Name)
turns_name x = λ next next' ts h. record { one = h.one; alone = h.alone; of_kind = h.of_kind }

pub turns_list : {X : Type 0} (One : X → Form) (B : Form) (separator : TokenKind) → ((x : X) → Turns (One x) B)
    → (xs : List X) → Turns (separated_by separator One xs) (list_of separator B)
turns_list One B separator f [] = λ next next' ts h. elim h [ ]
turns_list One B separator f (x ∷ xs) = turns_then (f x) (turns_each (λ y. turns_then turns_token (f y)) xs)

pub turns_start : (s : PathStart) → Turns (ReadsStart s) (ReadsSome ReadsStart)
turns_start Here = λ next next' ts h. (Here, h)
turns_start Owner = λ next next' ts h. (Owner, turns_then turns_token turns_token next next' ts h)
turns_start Main = λ next next' ts h. (Main, turns_then turns_token turns_token next next' ts h)

pub turns_path : (p : Path) → Turns (ReadsPath p) path_tokens
turns_path p = λ next next' ts h. turns_then (turns_start p.start)
    (turns_list ReadsName (token Name) (Sign DOT) turns_name p.names.items) next next' ts h.form

turns_chain : (make : Vec RawExpr Global → RawForm) (separator : TokenKind) (Is : RawForm → Form) (B : Form)
    → ((f : RawForm) → Turns (Is f) B) → (f : RawForm) → Turns (OneOrMore make separator Is f) (list_of separator B)
turns_chain make separator Is B g f = λ next next' ts h. by_case next next' ts h
  where
    by_case : (next next' : TokenKind) (ts : Tokens) → OneOrMore make separator Is f next ts
        → list_of separator B next' ts
    by_case next next' ts (one h) = record
        { front = ts; back = []; split = sym (append-nil ts); first = g f next next' ts h; second = ([], refl) }
    by_case next next' ts (more v e several h) = turns_list (Node Is) B separator (turns_node g) v.items next next' ts h

turns_term : (Is : RawForm → Form) (B : Form) → ((f : RawForm) → Turns (Is f) B) → (x : Bool × RawExpr)
    → Turns (ReadsTerm Is x) (text.plus_tokens ▸ B)
turns_term Is B g (plus, e) = turns_then (λ next next' ts h. (plus, turns_token next next' ts h)) (turns_node g e)

turns_sum : (Is : RawForm → Form) (B : Form) → ((f : RawForm) → Turns (Is f) B) → (f : RawForm)
    → Turns (ReadsSum Is f) (sum_tokens B)
turns_sum Is B g f = λ next next' ts h. by_case next next' ts h
  where
    by_items : (xs : List (Bool × RawExpr)) (next next' : TokenKind) (ts : Tokens) → ReadsTerms Is xs next ts
        → sum_tokens B next' ts
    by_items [] next next' ts h = elim h [ ]
    by_items ((plus, e) ∷ xs) next next' ts h =
        turns_then (turns_node g e) (turns_each (turns_term Is B g) xs) next next' ts h.1

    by_case : (next next' : TokenKind) (ts : Tokens) → ReadsSum Is f next ts → sum_tokens B next' ts
    by_case next next' ts (one h) = record
        { front = ts; back = []; split = sym (append-nil ts); first = g f next next' ts h; second = ([], refl) }
    by_case next next' ts (more v e several h) = by_items v.items next next' ts h

turns_compare : (Is : RawForm → Form) (B : Form) → ((f : RawForm) → Turns (Is f) B) → (f : RawForm)
    → Turns (ReadsCompare Is f) (compare_tokens B)
turns_compare Is B g f = λ next next' ts h. by_case next next' ts h
  where
    by_case : (next next' : TokenKind) (ts : Tokens) → ReadsCompare Is f next ts → compare_tokens B next' ts
    by_case next next' ts (one h) = record
        { front = ts; back = []; split = sym (append-nil ts); first = g f next next' ts h; second = inl refl }
    by_case next next' ts (two r x y e h) =
        turns_then (turns_node g x.value)
        (λ next next' ts k. inr (turns_then {B = Node Is y.value}
        (λ next next' ts j. (r, turns_token next next' ts j)) (turns_node g y.value) next next' ts k)) next next' ts
        h

turns_operands : (Is : RawForm → Form) (B : Form) → ((f : RawForm) → Turns (Is f) B) → (xs : List RawExpr)
    → Turns (ReadsOperands Is xs) (operands_tokens B)
turns_operands Is B g xs = λ next next' ts h. turns_then turns_token (λ next next' ts k. by_items xs next next' ts k)
    next next' ts h
  where
    by_items : (xs : List RawExpr) (next next' : TokenKind) (ts : Tokens)
        → (separated_by (Sign COMMA) (Node Is) xs ▸ token (Sign CLOSE_PARENTHESIS)) next ts
        → (B ▸ many (token (Sign COMMA) ▸ B) ▸ token (Sign CLOSE_PARENTHESIS)) next' ts
    by_items xs next next' ts k = then_assoc
        (turns_then (turns_list (Node Is) B (Sign COMMA) (turns_node g) xs) turns_token next next' ts k)

turns_case : (Is : RawForm → Form) (B : Form) → ((f : RawForm) → Turns (Is f) B) → (x : RawExpr × RawExpr)
    → Turns (ReadsCase Is x) (case_made_of B)
turns_case Is B g (x, y) = turns_then (turns_then turns_token (turns_then (turns_node g x) turns_token))
    (turns_node g y)

pub turns_cases : (Is : RawForm → Form) (B : Form) → ((f : RawForm) → Turns (Is f) B) → (xs : List (RawExpr × RawExpr))
    → 1 ≤ length xs → Turns (each (ReadsCase Is) xs) (case_made_of B ▸ many (case_made_of B))
turns_cases Is B g [] l = absurd (omega (arith, l))
turns_cases Is B g (x ∷ xs) l = turns_then (turns_case Is B g x) (turns_each (turns_case Is B g) xs)

turns_switch : (Is : RawForm → Form) (B : Form) → ((f : RawForm) → Turns (Is f) B) → (f : RawForm)
    → Turns (ReadsSwitch Is f) (switch_tokens B)
turns_switch Is B g f = λ next next' ts h.
    turns_then turns_token (turns_then turns_token
    (λ next next' ts k. then_assoc (turns_then (turns_cases Is B g h.cases.items h.some)
    (turns_then turns_token (turns_then turns_token (turns_then (turns_node g h.other.value) turns_token))) next
    next' ts k))) next next' ts h.reads

turns_one : {k : TokenKind} (test : TokenKind → Bool) → test k ≡ true → Turns (token k) (one_of test)
turns_one test e = λ next next' ts h. record { one = h.one; alone = h.alone; passes = ap test h.of_kind ∙ e }

turns_primary : (Is : RawForm → Form) (B : Form) → ((f : RawForm) → Turns (Is f) B) → (f : RawForm)
    → Turns (ReadsPrimary Is f) (primary_tokens B)
turns_primary Is B g f = λ next next' ts h. by_case next next' ts h
  where
    by_call : {k : TokenKind} (xs : List RawExpr) → begins_call k ≡ true → (next next' : TokenKind) (ts : Tokens)
        → (token k ▸ ReadsOperands Is xs) next ts → primary_tokens B next' ts
    by_call xs e next next' ts h = text.call
        (turns_then (turns_one begins_call e) (turns_operands Is B g xs) next next' ts h)

    by_case : (next next' : TokenKind) (ts : Tokens) → ReadsPrimary Is f next ts → primary_tokens B next' ts
    by_case next next' ts (truth e h) = text.constant (turns_one begins_constant refl next next' ts h)
    by_case next next' ts (falsehood e h) = text.constant (turns_one begins_constant refl next next' ts h)
    by_case next next' ts (whole n e h) = text.constant (turns_one begins_constant refl next next' ts h)
    by_case next next' ts (real e h) = text.constant (turns_one begins_constant refl next next' ts h)
    by_case next next' ts (path p e h) = text.path (turns_path p next next' ts h)
    by_case next next' ts (brackets h) =
        text.brackets (turns_then turns_token (turns_then (g f) turns_token) next next' ts h)
    by_case next next' ts (least v e h) = by_call v.items refl next next' ts h
    by_case next next' ts (greatest v e h) = by_call v.items refl next next' ts h
    by_case next next' ts (count v e h) = by_call v.items refl next next' ts h
    by_case next next' ts (switch h) = text.switch (turns_switch Is B g f next next' ts h)

turns_if : (Is : RawForm → Form) (B : Form) → ((f : RawForm) → Turns (Is f) B) → (f : RawForm)
    → Turns (ReadsIf Is f) (if_tokens B)
turns_if Is B g f = λ next next' ts h. turns_then
    (turns_then turns_token (turns_then (turns_node g h.test) turns_token))
    (turns_then (turns_node g h.value) (turns_then turns_token (turns_node g h.other.value))) next next' ts h.reads

-- whatever stands where a production would open too deep
module _ (cut : Form) where
  mutual
    expr_case : (n m : ℕ) → n ≤ m → (f : RawForm) (next next' : TokenKind) (ts : Tokens) → ReadsExpr n f next ts
        → expr_tokens cut m next' ts
    expr_case zero m l f next next' ts h = elim h [ ]
    expr_case (suc n) zero l f next next' ts h = absurd (omega (arith, l))
    expr_case (suc n) (suc m) l f next next' ts (choice h) =
        inl (turns_if (ReadsExpr n) (expr_tokens cut m)
        (λ g next next' ts k. expr_case n m (omega (arith, l)) g next next' ts k) f next next' ts h)
    expr_case (suc n) (suc m) l f next next' ts (plain h) =
        inr (turns_chain form.Any (Reserved OR) (ReadsAnd (ReadsNot n)) (and_tokens (not_tokens cut m))
        (turns_chain form.All (Reserved AND) (ReadsNot n) (not_tokens cut m)
        (λ g next next' ts k. not_case n m (omega (arith, l)) g next next' ts k)) f next next' ts h)

    not_case : (n m : ℕ) → n ≤ m → (f : RawForm) (next next' : TokenKind) (ts : Tokens) → ReadsNot n f next ts
        → not_tokens cut m next' ts
    not_case zero m l f next next' ts h = elim h [ ]
    not_case (suc n) zero l f next next' ts h = absurd (omega (arith, l))
    not_case (suc n) (suc m) l f next next' ts (negated x e h) =
        inl (turns_then turns_token (turns_node (λ g next next' ts k. not_case n m (omega (arith, l)) g next next' ts k)
        x.value) next next' ts h)
    not_case (suc n) (suc m) l f next next' ts (plain h) =
        inr (turns_compare (ReadsSum (ReadsProduct (ReadsMinus n))) (sum_tokens (product_tokens (minus_tokens cut m)))
        (turns_sum (ReadsProduct (ReadsMinus n)) (product_tokens (minus_tokens cut m))
        (turns_chain form.Product (Sign STAR) (ReadsMinus n) (minus_tokens cut m)
        (λ g next next' ts k. minus_case n m (omega (arith, l)) g next next' ts k))) f next next' ts h)

    minus_case : (n m : ℕ) → n ≤ m → (f : RawForm) (next next' : TokenKind) (ts : Tokens) → ReadsMinus n f next ts
        → minus_tokens cut m next' ts
    minus_case zero m l f next next' ts h = elim h [ ]
    minus_case (suc n) zero l f next next' ts h = absurd (omega (arith, l))
    minus_case (suc n) (suc m) l f next next' ts (negated x e h) =
        inl (turns_then turns_token (turns_node
        (λ g next next' ts k. minus_case n m (omega (arith, l)) g next next' ts k) x.value) next next' ts h)
    minus_case (suc n) (suc m) l f next next' ts (plain h) =
        inr (turns_primary (ReadsExpr n) (expr_tokens cut m)
        (λ g next next' ts k. expr_case n m (omega (arith, l)) g next next' ts k) f next next' ts h)

  pub turns_expr : (n m : ℕ) → n ≤ m → (f : RawForm) → Turns (ReadsExpr n f) (expr_tokens cut m)
  turns_expr n m l f = λ next next' ts h. expr_case n m l f next next' ts h

  pub turns_not : (n m : ℕ) → n ≤ m → (f : RawForm) → Turns (ReadsNot n f) (not_tokens cut m)
  turns_not n m l f = λ next next' ts h. not_case n m l f next next' ts h

  pub turns_minus : (n m : ℕ) → n ≤ m → (f : RawForm) → Turns (ReadsMinus n f) (minus_tokens cut m)
  turns_minus n m l f = λ next next' ts h. minus_case n m l f next next' ts h

pub turns_operand : (c : Chain) (n m : ℕ) → n ≤ m → (e : RawExpr)
    → Turns (Node (operand_form c n) e) (operand_tokens c m)
turns_operand Any n m l e = turns_node
    (turns_chain form.All (Reserved AND) (ReadsNot n) (not_tokens deep m) (turns_not deep n m l)) e
turns_operand All n m l e = turns_node (turns_not deep n m l) e
turns_operand Product n m l e = turns_node (turns_minus deep n m l) e

pub turns_tree : (n m : ℕ) → n ≤ m → (e : RawExpr) → Turns (Node (ReadsExpr n) e) (expr_tokens deep m)
turns_tree n m l e = turns_node (turns_expr deep n m l) e

pub turns_product : (n m : ℕ) → n ≤ m → (e : RawExpr)
    → Turns (Node (ReadsProduct (ReadsMinus n)) e) (product_tokens (minus_tokens deep m))
turns_product n m l e = turns_node (turns_chain form.Product (Sign STAR) (ReadsMinus n) (minus_tokens deep m)
    (turns_minus deep n m l)) e

pub turns_a_term : (n m : ℕ) → n ≤ m → (x : Bool × RawExpr) → Turns (ReadsTerm (ReadsProduct (ReadsMinus n)) x)
    (term_tokens m)
turns_a_term n m l x = turns_term (ReadsProduct (ReadsMinus n)) (product_tokens (minus_tokens deep m))
    (turns_chain form.Product (Sign STAR) (ReadsMinus n) (minus_tokens deep m) (turns_minus deep n m l)) x

pub turns_a_sum : (n m : ℕ) → n ≤ m → (e : RawExpr)
    → Turns (Node (ReadsSum (ReadsProduct (ReadsMinus n))) e) (sum_tokens (product_tokens (minus_tokens deep m)))
turns_a_sum n m l e = turns_node (turns_sum (ReadsProduct (ReadsMinus n)) (product_tokens (minus_tokens deep m))
    (turns_chain form.Product (Sign STAR) (ReadsMinus n) (minus_tokens deep m) (turns_minus deep n m l))) e

pub turns_a_case : (n m : ℕ) → n ≤ m → (x : RawExpr × RawExpr) → Turns (ReadsCase (ReadsExpr n) x) (case_tokens m)
turns_a_case n m l x = turns_case (ReadsExpr n) (expr_tokens deep m) (turns_expr deep n m l) x

pub turns_enclosed : (opens closes : TokenKind) (n m : ℕ) → n ≤ m → (e : RawExpr)
    → Turns (between opens closes (Node (ReadsExpr n) e)) (between opens closes (expr_tokens deep m))
turns_enclosed opens closes n m l e = turns_then turns_token (turns_then (turns_tree n m l e) turns_token)

pub turns_all_cases : (n m : ℕ) → n ≤ m → (xs : List (RawExpr × RawExpr)) → 1 ≤ length xs
    → Turns (each (ReadsCase (ReadsExpr n)) xs) (case_tokens m ▸ many (case_tokens m))
turns_all_cases n m l xs some = turns_cases (ReadsExpr n) (expr_tokens deep m) (turns_expr deep n m l) xs some
