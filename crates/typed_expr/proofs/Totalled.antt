-- The value of each form from the values of its operands.
use Rattle.std.proofs.Common.{◌≡◌, ℕ, ◌+◌, ◌<◌, ◌≤◌, ℤ, pos, Bool, true, false, not, cond, List, length, map, take, drop, get_or, Box, Vec, Global, sym, ap, ◌∙◌}
use Rattle.std.proofs.lemmas.List.{at_drop_more, at_drop_all, take_all}
use Rattle.std.proofs.lemmas.List.Sums.{fold_push}
use Rattle.domains.specs.declared.Value.{Value}
use Rattle.domains.specs.declared.Value.TheVariants.{Truth, Whole}
use Rattle.domains.specs.Values.{truth_of}
use Rattle.typed_expr.specs.Values.{is_related, added, sum_of, product_of, least_of, greatest_of, count_of}
use Rattle.typed_expr.specs.Folds.{fold_of}
use Rattle.typed_expr.specs.Total.{value_of, value_step, all_true, one_true}
use Rattle.typed_expr.specs.declared.expr.Relation.{Relation}
use Rattle.typed_expr.specs.declared.expr.Expr.{Expr, out-Expr}
use Rattle.typed_expr.specs.declared.expr.Expr as plain
use Rattle.typed_expr.specs.declared.expr.Expr.TheOpen.{Expr-F, Constant, Variable, Not, All, Any, Compare, Sum, Product, Least, Greatest, Count}
use Rattle.typed_expr.specs.declared.expr.Expr.TheFolds.{fold_out-Expr, map-Expr}
use Rattle.typed_expr.specs.declared.expr.Expr.TheViews as view
use Rattle.typed_expr.specs.declared.fold.Step.{Step}
use Rattle.typed_expr.proofs.Folding.{map-more}
use Rattle.typed_expr.proofs.Opened as opened

module _ {V : Type 0} (t : V → Value) where
  -- the value by the outermost form
  value_of-form : (e : Expr V) (x : Expr-F V (Expr V)) → out-Expr V e ≡ x
      → value_step t (map-Expr V (Expr V) Value (value_of t) x) ≡ value_of t e
  value_of-form e x is =
      sym
      (fold_out-Expr V Value (value_step t) e
      ∙ ap (λ (y : Expr-F V (Expr V)). value_step t (map-Expr V (Expr V) Value (value_of t) y)) is)

  pub value_of-constant : (e : Expr V) (v : Value) → e ≡ plain.Constant v → v ≡ value_of t e
  value_of-constant e v is = value_of-form e (Constant v) (ap (out-Expr V) is ∙ opened.opened-constant v)

  pub value_of-variable : (e : Expr V) (x : V) (r : Value) → e ≡ plain.Variable x → r ≡ t x → r ≡ value_of t e
  value_of-variable e x r is h = h ∙ value_of-form e (Variable x) (ap (out-Expr V) is ∙ opened.opened-variable x)

  pub value_of-not : (e : Expr V) (a : Box (Expr V) Global) (b : Expr V) (v : Value) (r : Bool) → e ≡ view.Not a
      → b ≡ a.value → v ≡ value_of t b → r ≡ truth_of v → Truth (not r) ≡ value_of t e
  value_of-not e a b v r is same h k =
      ap (λ z. Truth (not z)) (k ∙ ap truth_of (h ∙ ap (value_of t) same))
      ∙ value_of-form e (Not a) (opened.opened-not e a is)

  pub value_of-all : (e : Expr V) (es : Vec (Expr V) Global) (xs : List (Expr V)) (r : Bool) → e ≡ view.All es
      → xs ≡ es.items → r ≡ all_true (map (value_of t) xs) → Truth r ≡ value_of t e
  value_of-all e es xs r is same h =
      ap Truth (h ∙ ap (λ (ys : List (Expr V)). all_true (map (value_of t) ys)) same)
      ∙ value_of-form e (All es) (opened.opened-all e es is)

  pub value_of-any : (e : Expr V) (es : Vec (Expr V) Global) (xs : List (Expr V)) (r : Bool) → e ≡ view.Any es
      → xs ≡ es.items → r ≡ one_true (map (value_of t) xs) → Truth r ≡ value_of t e
  value_of-any e es xs r is same h =
      ap Truth (h ∙ ap (λ (ys : List (Expr V)). one_true (map (value_of t) ys)) same)
      ∙ value_of-form e (Any es) (opened.opened-any e es is)

  pub value_of-compare : (e : Expr V) (q : Relation) (a b : Box (Expr V) Global) (c d : Expr V) (v w : Value) (r : Bool)
      → e ≡ view.Compare q a b → c ≡ a.value → d ≡ b.value → v ≡ value_of t c → w ≡ value_of t d
      → r ≡ is_related q v w → Truth r ≡ value_of t e
  value_of-compare e q a b c d v w r is left right h k related =
      ap Truth
      (related
      ∙ ap (λ z. is_related q z w) (h ∙ ap (value_of t) left)
      ∙ ap (λ z. is_related q (value_of t a.value) z) (k ∙ ap (value_of t) right))
      ∙ value_of-form e (Compare q a b) (opened.opened-compare e q a b is)

  pub value_of-sum : (e : Expr V) (ps : Vec (Bool × Expr V) Global) (xs : List (Bool × Expr V)) (r : ℤ)
      → e ≡ view.Sum ps → xs ≡ ps.items → r ≡ sum_of (map (λ p. (p.0, value_of t p.1)) xs) → Whole r ≡ value_of t e
  value_of-sum e ps xs r is same h =
      ap Whole (h ∙ ap (λ (ys : List (Bool × Expr V)). sum_of (map (λ p. (p.0, value_of t p.1)) ys)) same)
      ∙ value_of-form e (Sum ps) (opened.opened-sum e ps is)

  pub value_of-product : (e : Expr V) (es : Vec (Expr V) Global) (xs : List (Expr V)) (r : ℤ) → e ≡ view.Product es
      → xs ≡ es.items → r ≡ product_of (map (value_of t) xs) → Whole r ≡ value_of t e
  value_of-product e es xs r is same h =
      ap Whole (h ∙ ap (λ (ys : List (Expr V)). product_of (map (value_of t) ys)) same)
      ∙ value_of-form e (Product es) (opened.opened-product e es is)

  pub value_of-least : (e : Expr V) (es : Vec (Expr V) Global) (xs : List (Expr V)) (r : ℤ) → e ≡ view.Least es
      → xs ≡ es.items → r ≡ least_of (map (value_of t) xs) → Whole r ≡ value_of t e
  value_of-least e es xs r is same h =
      ap Whole (h ∙ ap (λ (ys : List (Expr V)). least_of (map (value_of t) ys)) same)
      ∙ value_of-form e (Least es) (opened.opened-least e es is)

  pub value_of-greatest : (e : Expr V) (es : Vec (Expr V) Global) (xs : List (Expr V)) (r : ℤ) → e ≡ view.Greatest es
      → xs ≡ es.items → r ≡ greatest_of (map (value_of t) xs) → Whole r ≡ value_of t e
  value_of-greatest e es xs r is same h =
      ap Whole (h ∙ ap (λ (ys : List (Expr V)). greatest_of (map (value_of t) ys)) same)
      ∙ value_of-form e (Greatest es) (opened.opened-greatest e es is)

  pub value_of-count : (e : Expr V) (es : Vec (Expr V) Global) (xs : List (Expr V)) (r : ℤ) → e ≡ view.Count es
      → xs ≡ es.items → r ≡ count_of (map (value_of t) xs) → Whole r ≡ value_of t e
  value_of-count e es xs r is same h =
      ap Whole (h ∙ ap (λ (ys : List (Expr V)). count_of (map (value_of t) ys)) same)
      ∙ value_of-form e (Count es) (opened.opened-count e es is)

-- whether each is true or one is, by those that are left
module _ {X : Type 0} (f : X → Value) (xs : List X) (i : ℕ) where
  one_of_all : (x : X) → i < length xs → x ≡ get_or xs i x
      → all_true (map f (drop i xs)) ≡ cond (truth_of (f x)) (all_true (map f (drop (i + 1) xs))) false
  one_of_all x h is =
      at_drop_more (λ (ys : List X). all_true (map f ys)) xs i x h
      ∙ ap (λ (z : X). cond (truth_of (f z)) (all_true (map f (drop (i + 1) xs))) false) (sym is)

  pub all-fails : (x : X) → i < length xs → x ≡ get_or xs i x
      → all_true (map f (drop i xs)) ≡ all_true (map f xs) → false ≡ truth_of (f x) → false ≡ all_true (map f xs)
  all-fails x h is inv t =
      ap (λ b. cond b (all_true (map f (drop (i + 1) xs))) false) t ∙ sym (one_of_all x h is) ∙ inv

  pub all-goes-on : (x : X) → i < length xs → x ≡ get_or xs i x
      → all_true (map f (drop i xs)) ≡ all_true (map f xs) → true ≡ truth_of (f x)
      → all_true (map f (drop (i + 1) xs)) ≡ all_true (map f xs)
  all-goes-on x h is inv t =
      ap (λ b. cond b (all_true (map f (drop (i + 1) xs))) false) t ∙ sym (one_of_all x h is) ∙ inv

  pub all-ends : length xs ≤ i → all_true (map f (drop i xs)) ≡ all_true (map f xs) → true ≡ all_true (map f xs)
  all-ends h inv = sym (at_drop_all (λ (ys : List X). all_true (map f ys)) xs i h) ∙ inv

  one_of_any : (x : X) → i < length xs → x ≡ get_or xs i x
      → one_true (map f (drop i xs)) ≡ cond (truth_of (f x)) true (one_true (map f (drop (i + 1) xs)))
  one_of_any x h is =
      at_drop_more (λ (ys : List X). one_true (map f ys)) xs i x h
      ∙ ap (λ (z : X). cond (truth_of (f z)) true (one_true (map f (drop (i + 1) xs)))) (sym is)

  pub any-found : (x : X) → i < length xs → x ≡ get_or xs i x
      → one_true (map f (drop i xs)) ≡ one_true (map f xs) → true ≡ truth_of (f x) → true ≡ one_true (map f xs)
  any-found x h is inv t =
      ap (λ b. cond b true (one_true (map f (drop (i + 1) xs)))) t ∙ sym (one_of_any x h is) ∙ inv

  pub any-goes-on : (x : X) → i < length xs → x ≡ get_or xs i x
      → one_true (map f (drop i xs)) ≡ one_true (map f xs) → false ≡ truth_of (f x)
      → one_true (map f (drop (i + 1) xs)) ≡ one_true (map f xs)
  any-goes-on x h is inv t =
      ap (λ b. cond b true (one_true (map f (drop (i + 1) xs)))) t ∙ sym (one_of_any x h is) ∙ inv

  pub any-ends : length xs ≤ i → one_true (map f (drop i xs)) ≡ one_true (map f xs) → false ≡ one_true (map f xs)
  any-ends h inv = sym (at_drop_all (λ (ys : List X). one_true (map f ys)) xs i h) ∙ inv

  -- the fold of all
  pub fold_of-ends : (s : Step) (n : ℤ) → length xs ≤ i → n ≡ fold_of s (map f (take i xs)) → n ≡ fold_of s (map f xs)
  fold_of-ends s n h e = e ∙ ap (λ (ys : List X). fold_of s (map f ys)) (take_all i xs h)

-- one more part of a sum, and the sum of all
module _ {X : Type 0} (f : X → Value) (ps : List (Bool × X)) (i : ℕ) where
  pub sum_of-step : (p : Bool × X) (n : ℤ) (v : Value) (r : ℤ) → i < length ps → p ≡ get_or ps i p
      → r ≡ added n (p.0, v) → n ≡ sum_of (map (λ q. (q.0, f q.1)) (take i ps)) → v ≡ f p.1
      → r ≡ sum_of (map (λ q. (q.0, f q.1)) (take (i + 1) ps))
  sum_of-step p n v r h is e a d =
      let g : Bool × X → Bool × Value = λ q. (q.0, f q.1) in
      e ∙ ap (λ z. added n (p.0, z)) d ∙ ap (λ z. added z (p.0, f p.1)) a
      ∙ sym (ap sum_of (map-more g ps i p h is) ∙ fold_push added (pos 0) (map g (take i ps)) (g p))

  pub sum_of-ends : (n : ℤ) → length ps ≤ i → n ≡ sum_of (map (λ q. (q.0, f q.1)) (take i ps))
      → n ≡ sum_of (map (λ q. (q.0, f q.1)) ps)
  sum_of-ends n h e = e ∙ ap (λ (ys : List (Bool × X)). sum_of (map (λ q. (q.0, f q.1)) ys)) (take_all i ps h)
