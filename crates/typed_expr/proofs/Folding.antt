-- Folds and values, an operand at a time.
use Rattle.std.proofs.Common.{◌≡◌, ℕ, ◌+◌, ◌<◌, ℤ, pos, Bool, true, false, cond, List, [], ◌∷◌, ◌++◌, ◌≤◌, length, map, take, drop, get_or, Option, unwrap_or, Vec, Box, Global, refl, sym, ap, ◌∙◌}
use Rattle.std.proofs.lemmas.List.{at_drop_more, at_drop_all, take_more, map-append}
use Rattle.std.proofs.lemmas.List.Sums.{fold_push}
use Rattle.domains.specs.declared.Value.{Value}
use Rattle.domains.specs.Values.{truth_of, whole_of}
use Rattle.typed_expr.specs.Values.{added, multiplied, lesser, greater, counted}
use Rattle.typed_expr.specs.Folds.{fold_of, next_of}
use Rattle.typed_expr.specs.Total.{value_of, value_step, first_true}
use Rattle.typed_expr.specs.declared.expr.Expr.{Expr}
use Rattle.typed_expr.specs.declared.expr.Expr.TheOpen.{Expr-F}
use Rattle.typed_expr.specs.declared.expr.Expr.TheFolds.{fold_out-Expr, map-Expr}
use Rattle.typed_expr.specs.declared.expr.Expr.TheViews.{Choose, outs-Choose}
use Rattle.typed_expr.specs.declared.fold.Step.{Step}
use Rattle.typed_expr.specs.declared.fold.Step.TheVariants.{Part, Times, Lesser, Greater, Counted}

-- the list has no item
abbrev pub is_nil : {A : Type 0} → List A → Bool
is_nil [] = true
is_nil (x ∷ xs) = false

-- one more operand of a fold
pub fold_of-push : (s : Step) (vs : List Value) (v : Value)
    → fold_of s (vs ++ v ∷ []) ≡ next_of s (is_nil vs) (fold_of s vs) v
fold_of-push (Part plus) vs v = fold_push (λ n w. added n (plus, w)) (pos 0) vs v
fold_of-push Times vs v = fold_push multiplied (pos 1) vs v
fold_of-push Lesser [] v = refl
fold_of-push Lesser (w ∷ ws) v = fold_push lesser (whole_of w) ws v
fold_of-push Greater [] v = refl
fold_of-push Greater (w ∷ ws) v = fold_push greater (whole_of w) ws v
fold_of-push Counted vs v = fold_push counted (pos 0) vs v

-- the values of one more operand
pub map-more : {X Y : Type 0} (f : X → Y) (xs : List X) (i : ℕ) (x : X) → i < length xs → x ≡ get_or xs i x
    → map f (take (i + 1) xs) ≡ map f (take i xs) ++ f x ∷ []
map-more f xs i x h is =
    ap (map f) (take_more xs i x h) ∙ map-append f (take i xs) (get_or xs i x ∷ []) ∙ ap
    (λ z. map f (take i xs) ++ f z ∷ []) (sym is)

-- one more operand of a fold along the list of operands
pub fold_of-more : {X : Type 0} (s : Step) (f : X → Value) (xs : List X) (i : ℕ) (x : X) → i < length xs
    → x ≡ get_or xs i x
    → fold_of s (map f (take (i + 1) xs)) ≡ next_of s (is_nil (map f (take i xs))) (fold_of s (map f (take i xs))) (f x)
fold_of-more s f xs i x h is = ap (fold_of s) (map-more f xs i x h is) ∙ fold_of-push s (map f (take i xs)) (f x)

pub fold_of-step : {X : Type 0} (s : Step) (f : X → Value) (xs : List X) (i : ℕ) (x : X) (first : Bool) (n : ℤ)
    (v : Value) (r : ℤ)
    → i < length xs → x ≡ get_or xs i x
    → r ≡ next_of s first n v → n ≡ fold_of s (map f (take i xs)) → first ≡ is_nil (map f (take i xs)) → v ≡ f x
    → r ≡ fold_of s (map f (take (i + 1) xs))
fold_of-step s f xs i x first n v r h is e a b d =
    e ∙ ap (λ z. next_of s first n z) d ∙ ap (λ z. next_of s first z (f x)) a ∙ ap
    (λ z. next_of s z (fold_of s (map f (take i xs))) (f x)) b ∙ sym (fold_of-more s f xs i x h is)

pub is_nil-push : {X : Type 0} (xs : List X) (x : X) → is_nil (xs ++ x ∷ []) ≡ false
is_nil-push [] x = refl
is_nil-push (y ∷ xs) x = refl

pub is_nil-more : {X : Type 0} (f : X → Value) (xs : List X) (i : ℕ) (x : X) → i < length xs → x ≡ get_or xs i x
    → false ≡ is_nil (map f (take (i + 1) xs))
is_nil-more f xs i x h is = sym (ap is_nil (map-more f xs i x h is) ∙ is_nil-push (map f (take i xs)) (f x))

-- the first case of those that are left
pub first_true-drop : {X : Type 0} (f : X → Value) (cs : List (X × X)) (i : ℕ) (c : X × X) (other : Value)
    → i < length cs → c ≡ get_or cs i c
    → first_true (map (λ c. (f c.0, f c.1)) (drop i cs)) other
    ≡ cond (truth_of (f c.0)) (f c.1) (first_true (map (λ c. (f c.0, f c.1)) (drop (i + 1) cs)) other)
first_true-drop {X} f cs i c other h is =
    at_drop_more (λ (xs : List (X × X)). first_true (map (λ c. (f c.0, f c.1)) xs) other) cs i c h
    ∙ ap
    (λ (x : X × X). cond (truth_of (f x.0)) (f x.1) (first_true (map (λ c. (f c.0, f c.1)) (drop (i + 1) cs)) other))
    (sym is)

-- a case whose test is true decides, and one whose test is false does not
pub chosen-true : {X : Type 0} (f : X → Value) (cs : List (X × X)) (i : ℕ) (c : X × X) → i < length cs
    → c ≡ get_or cs i c
    → ((other : Value) → first_true (map (λ c. (f c.0, f c.1)) (drop i cs)) other
    ≡ first_true (map (λ c. (f c.0, f c.1)) cs) other)
    → truth_of (f c.0) ≡ true
    → (other : Value) → first_true (map (λ c. (f c.0, f c.1)) cs) other ≡ f c.1
chosen-true f cs i c h is inv t other =
    sym (inv other) ∙ first_true-drop f cs i c other h is
    ∙ ap (λ b. cond b (f c.1) (first_true (map (λ c. (f c.0, f c.1)) (drop (i + 1) cs)) other)) t

pub chosen-false : {X : Type 0} (f : X → Value) (cs : List (X × X)) (i : ℕ) (c : X × X) → i < length cs
    → c ≡ get_or cs i c
    → ((other : Value) → first_true (map (λ c. (f c.0, f c.1)) (drop i cs)) other
    ≡ first_true (map (λ c. (f c.0, f c.1)) cs) other)
    → truth_of (f c.0) ≡ false
    → (other : Value)
    → first_true (map (λ c. (f c.0, f c.1)) (drop (i + 1) cs)) other ≡ first_true (map (λ c. (f c.0, f c.1)) cs) other
chosen-false f cs i c h is inv t other =
    sym
    (first_true-drop f cs i c other h is
    ∙ ap (λ b. cond b (f c.1) (first_true (map (λ c. (f c.0, f c.1)) (drop (i + 1) cs)) other)) t)
    ∙ inv other

pub chosen-over : {X : Type 0} (f : X → Value) (cs : List (X × X)) (i : ℕ) → length cs ≤ i
    → ((other : Value) → first_true (map (λ c. (f c.0, f c.1)) (drop i cs)) other
    ≡ first_true (map (λ c. (f c.0, f c.1)) cs) other)
    → (other : Value) → first_true (map (λ c. (f c.0, f c.1)) cs) other ≡ other
chosen-over {X} f cs i h inv other =
    sym (inv other) ∙ at_drop_all (λ (xs : List (X × X)). first_true (map (λ c. (f c.0, f c.1)) xs) other) cs i h

-- the equation of a choice
pub value_of-Choose : {V : Type 0} (t : V → Value) (cases : Vec (Expr V × Expr V) Global) (other : Box (Expr V) Global)
    → value_of t (Choose cases other) ≡ first_true (map (λ c. (value_of t c.0, value_of t c.1)) cases.items)
    (value_of t other.value)
value_of-Choose {V} t cases other =
    fold_out-Expr V Value (value_step t) (Choose cases other)
    ∙ ap (λ (x : Expr-F V (Expr V)). value_step t (map-Expr V (Expr V) Value (value_of t) x)) (outs-Choose cases other)

pub value_of-chosen : {V : Type 0} (t : V → Value) (cases : Vec (Expr V × Expr V) Global) (other : Box (Expr V) Global)
    (e : Expr V) (xs : List (Expr V × Expr V)) (r : Option Value)
    → e ≡ Choose cases other → xs ≡ cases.items
    → ((w : Value) → first_true (map (λ c. (value_of t c.0, value_of t c.1)) xs) w ≡ unwrap_or r w)
    → unwrap_or r (value_of t other.value) ≡ value_of t e
value_of-chosen {V} t cases other e xs r is same h =
    sym (h (value_of t other.value))
    ∙ ap
    (λ (ys : List (Expr V × Expr V)). first_true (map (λ c. (value_of t c.0, value_of t c.1)) ys)
    (value_of t other.value)) same
    ∙ sym (value_of-Choose t cases other)
    ∙ ap (value_of t) (sym is)
