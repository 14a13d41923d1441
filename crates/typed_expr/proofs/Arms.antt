-- The arms of the evaluation of sets.
use Rattle.std.proofs.Common.{◌≡◌, ℕ, ◌↔◌, Bool, true, false, IsTrue, List, [], ◌∷◌, Contains, Box, Vec, Global, Option, Result, Ok, Err, sym, ap, ◌∙◌, subst, ◌⊎◌}
use Rattle.domains.specs.declared.Value.{Value}
use Rattle.typed_expr.specs.Sets.{Stopped, Gathers}
use Rattle.typed_expr.specs.Sizes.{HasMoreThan}
use Rattle.typed_expr.specs.Yields.{Level}
use Rattle.typed_expr.specs.Possible.{IsWide}
use Rattle.typed_expr.specs.Evaluating.{Evaluates, IsTruth, SomeRelated, SomeWide, Tallies, Folds, Sums, CaseWide, Took, Chooses, Joins, TellsAnswer, Relates}
use Rattle.typed_expr.specs.Evaluating as ev
use Rattle.typed_expr.specs.declared.expr.Relation.{Relation}
use Rattle.typed_expr.specs.declared.expr.Expr.{Expr, out-Expr}
use Rattle.typed_expr.specs.declared.expr.Expr as plain
use Rattle.typed_expr.specs.declared.expr.Expr.TheOpen.{Constant, Variable, Not, All, Any, Compare, Sum, Product, Least, Greatest, Count, Choose}
use Rattle.typed_expr.specs.declared.expr.Expr.TheViews as view
use Rattle.typed_expr.specs.declared.fold.Step.TheVariants.{Times, Lesser, Greater, Counted}
use Rattle.typed_expr.specs.declared.value_set.Stop.{Stop}
use Rattle.typed_expr.proofs.Gathering.{stopped-up}
use Rattle.typed_expr.proofs.Forms as form
use Rattle.typed_expr.proofs.Opened.{opened-constant, opened-variable, opened-not, opened-all, opened-any, opened-compare, opened-sum, opened-product, opened-least, opened-greatest, opened-count, opened-choice}

module _ {V : Type 0} (facts : V → Value → Type 0) (most : Option ℕ) where
  -- what the opened level is evaluated to
  at : (r : Result (List Value) Stop) (e : Expr V) (x : Level V) → out-Expr V e ≡ x → Evaluates facts most r x
      → Evaluates facts most r (out-Expr V e)
  at r e x i h = let P : Level V → Type 0 = λ z. Evaluates facts most r z in subst P (sym i) h

  -- what a box holds
  in_box : (r : Result (List Value) Stop) (e : Expr V) (a : Box (Expr V) Global) → e ≡ a.value
      → Evaluates facts most r (out-Expr V e) → Evaluates facts most r (out-Expr V a.value)
  in_box r e a i h = let P : Expr V → Type 0 = λ z. Evaluates facts most r (out-Expr V z) in subst P i h

  -- what stopped an operand stops the form
  stopped_at : (stop : Stop) (e : Expr V) (x : Level V) (C : ℕ → Type 0) → out-Expr V e ≡ x
      → ((n : ℕ) → C n → IsWide facts n x) → Stopped most C stop → Evaluates facts most (Err stop) (out-Expr V e)
  stopped_at stop e x C i f h = at (Err stop) e x i (stopped-up most C (λ n. IsWide facts n x) f stop h)

  pub constant-arm : (r : Result (List Value) Stop) (e : Expr V) (v : Value) → e ≡ plain.Constant v
      → Gathers most r (Contains (v ∷ [])) → Evaluates facts most r (out-Expr V e)
  constant-arm r e v i g =
      at r e (Constant v) (ap (out-Expr V) i ∙ opened-constant v) (form.constant-done facts most v r g)

  pub variable-arm : (r : Result (List Value) Stop) (e : Expr V) (x : V) → e ≡ plain.Variable x
      → Gathers most r (facts x) → Evaluates facts most r (out-Expr V e)
  variable-arm r e x i g =
      at r e (Variable x) (ap (out-Expr V) i ∙ opened-variable x) (form.variable-done facts most x r g)

  pub not-arm : (r : Result (List Value) Stop) (e d : Expr V) (a : Box (Expr V) Global) (t f : Bool)
      → e ≡ view.Not a → d ≡ a.value
      → TellsAnswer facts most true (Ok (t, f)) (out-Expr V d) → Gathers most r (IsTruth f t)
      → Evaluates facts most r (out-Expr V e)
  not-arm r e d a t f i j h g =
      let P : Expr V → Type 0 = λ z. TellsAnswer facts most true (Ok (t, f)) (out-Expr V z) in
      at r e (Not a) (opened-not e a i) (form.not-done facts most a t f r (subst P j h) g)

  pub not-stop : (stop : Stop) (e d : Expr V) (a : Box (Expr V) Global) → e ≡ view.Not a → d ≡ a.value
      → Evaluates facts most (Err stop) (out-Expr V d) → Evaluates facts most (Err stop) (out-Expr V e)
  not-stop stop e d a i j h =
      stopped_at stop e (Not a) (λ n. IsWide facts n (out-Expr V a.value)) (opened-not e a i) (form.up-not facts a)
      (in_box (Err stop) d a j h)

  tallied_in : (b : Bool) (r : Result (Bool × Bool) Stop) (xs : List (Expr V)) (es : Vec (Expr V) Global)
      → xs ≡ es.items → Tallies facts most b r xs → Tallies facts most b r es.items
  tallied_in b r xs es i h = let P : List (Expr V) → Type 0 = λ z. Tallies facts most b r z in subst P i h

  pub all-arm : (r : Result (List Value) Stop) (e : Expr V) (xs : List (Expr V)) (es : Vec (Expr V) Global) (f t : Bool)
      → e ≡ view.All es → xs ≡ es.items
      → Tallies facts most true (Ok (f, t)) xs → Gathers most r (IsTruth f t) → Evaluates facts most r (out-Expr V e)
  all-arm r e xs es f t i j h g =
      at r e (All es) (opened-all e es i) (form.all-done facts most es f t r (tallied_in true (Ok (f, t)) xs es j h) g)

  pub all-stop : (stop : Stop) (e : Expr V) (xs : List (Expr V)) (es : Vec (Expr V) Global) → e ≡ view.All es
      → xs ≡ es.items → Tallies facts most true (Err stop) xs → Evaluates facts most (Err stop) (out-Expr V e)
  all-stop stop e xs es i j h =
      stopped_at stop e (All es) (SomeWide facts es.items) (opened-all e es i) (form.up-all facts es)
      (tallied_in true (Err stop) xs es j h)

  pub any-arm : (r : Result (List Value) Stop) (e : Expr V) (xs : List (Expr V)) (es : Vec (Expr V) Global) (t f : Bool)
      → e ≡ view.Any es → xs ≡ es.items
      → Tallies facts most false (Ok (t, f)) xs → Gathers most r (IsTruth f t) → Evaluates facts most r (out-Expr V e)
  any-arm r e xs es t f i j h g =
      at r e (Any es) (opened-any e es i) (form.any-done facts most es t f r (tallied_in false (Ok (t, f)) xs es j h) g)

  pub any-stop : (stop : Stop) (e : Expr V) (xs : List (Expr V)) (es : Vec (Expr V) Global) → e ≡ view.Any es
      → xs ≡ es.items → Tallies facts most false (Err stop) xs → Evaluates facts most (Err stop) (out-Expr V e)
  any-stop stop e xs es i j h =
      stopped_at stop e (Any es) (SomeWide facts es.items) (opened-any e es i) (form.up-any facts es)
      (tallied_in false (Err stop) xs es j h)

  compare-arm : (r : Result (List Value) Stop) (e c d : Expr V) (q : Relation) (a b : Box (Expr V) Global)
      (xs ys : List Value) (f t : Bool)
      → e ≡ view.Compare q a b → c ≡ a.value → d ≡ b.value
      → Evaluates facts most (Ok xs) (out-Expr V c) → Evaluates facts most (Ok ys) (out-Expr V d)
      → IsTrue f ↔ SomeRelated q xs ys false → IsTrue t ↔ SomeRelated q xs ys true
      → Gathers most r (IsTruth f t) → Evaluates facts most r (out-Expr V e)
  compare-arm r e c d q a b xs ys f t i j k h l m n g =
      at r e (Compare q a b) (opened-compare e q a b i)
      (form.compare-done facts most q a b xs ys f t r (in_box (Ok xs) c a j h) (in_box (Ok ys) d b k l) m n g)

  pub left-stop : (stop : Stop) (e c : Expr V) (q : Relation) (a b : Box (Expr V) Global) → e ≡ view.Compare q a b
      → c ≡ a.value → Evaluates facts most (Err stop) (out-Expr V c)
      → Evaluates facts most (Err stop) (out-Expr V e)
  left-stop stop e c q a b i j h =
      stopped_at stop e (Compare q a b) (λ n. IsWide facts n (out-Expr V a.value)) (opened-compare e q a b i)
      (form.up-left facts q a b) (in_box (Err stop) c a j h)

  right-stop : (stop : Stop) (e d : Expr V) (q : Relation) (a b : Box (Expr V) Global) → e ≡ view.Compare q a b
      → d ≡ b.value → Evaluates facts most (Err stop) (out-Expr V d)
      → Evaluates facts most (Err stop) (out-Expr V e)
  right-stop stop e d q a b i j h =
      stopped_at stop e (Compare q a b) (λ n. IsWide facts n (out-Expr V b.value)) (opened-compare e q a b i)
      (form.up-right facts q a b) (in_box (Err stop) d b j h)

  pub compared-arm : (r : Result (List Value) Stop) (e c d : Expr V) (q : Relation) (a b : Box (Expr V) Global)
      (xs : List Value)
      → e ≡ view.Compare q a b → c ≡ a.value → d ≡ b.value
      → Evaluates facts most (Ok xs) (out-Expr V c) → Relates facts most q xs r (out-Expr V d)
      → Evaluates facts most r (out-Expr V e)
  compared-arm r e c d q a b xs i j k h (ev.compared {values = ys} {can_be_false = f} {can_be_true = t} l m n g) =
      compare-arm r e c d q a b xs ys f t i j k h l m n g
  compared-arm r e c d q a b xs i j k h (ev.right_stopped {stop = stop} l same) =
      let P : Result (List Value) Stop → Type 0 = λ z. Evaluates facts most z (out-Expr V e) in
      subst P (sym same) (right-stop stop e d q a b i k l)

  pub sum-arm : (r : Result (List Value) Stop) (e : Expr V) (xs : List (Bool × Expr V))
      (ps : Vec (Bool × Expr V) Global)
      → e ≡ view.Sum ps → xs ≡ ps.items → Sums facts most r xs → Evaluates facts most r (out-Expr V e)
  sum-arm r e xs ps i j h =
      at r e (Sum ps) (opened-sum e ps i)
      (form.sum-done facts most ps r (let P : List (Bool × Expr V) → Type 0 = λ z. Sums facts most r z in subst P j h))

  pub product-arm : (r : Result (List Value) Stop) (e : Expr V) (xs : List (Expr V)) (es : Vec (Expr V) Global)
      → e ≡ view.Product es → xs ≡ es.items → Folds facts most Times r xs → Evaluates facts most r (out-Expr V e)
  product-arm r e xs es i j h =
      at r e (Product es) (opened-product e es i)
      (form.product-done facts most es r (let P : List (Expr V) → Type 0 = λ z. Folds facts most Times r z in subst P j h))

  pub least-arm : (r : Result (List Value) Stop) (e : Expr V) (xs : List (Expr V)) (es : Vec (Expr V) Global)
      → e ≡ view.Least es → xs ≡ es.items → Folds facts most Lesser r xs → Evaluates facts most r (out-Expr V e)
  least-arm r e xs es i j h =
      at r e (Least es) (opened-least e es i)
      (form.least-done facts most es r (let P : List (Expr V) → Type 0 = λ z. Folds facts most Lesser r z in subst P j h))

  pub greatest-arm : (r : Result (List Value) Stop) (e : Expr V) (xs : List (Expr V)) (es : Vec (Expr V) Global)
      → e ≡ view.Greatest es → xs ≡ es.items → Folds facts most Greater r xs → Evaluates facts most r (out-Expr V e)
  greatest-arm r e xs es i j h =
      at r e (Greatest es) (opened-greatest e es i)
      (form.greatest-done facts most es r (let P : List (Expr V) → Type 0 = λ z. Folds facts most Greater r z in subst P j h))

  pub count-arm : (r : Result (List Value) Stop) (e : Expr V) (xs : List (Expr V)) (es : Vec (Expr V) Global)
      → e ≡ view.Count es → xs ≡ es.items → Folds facts most Counted r xs → Evaluates facts most r (out-Expr V e)
  count-arm r e xs es i j h =
      at r e (Count es) (opened-count e es i)
      (form.count-done facts most es r (let P : List (Expr V) → Type 0 = λ z. Folds facts most Counted r z in subst P j h))

  chosen_in : (r : Result (List Value × Bool) Stop) (xs : List (Expr V × Expr V)) (cs : Vec (Expr V × Expr V) Global)
      → xs ≡ cs.items → Chooses facts most r xs → Chooses facts most r cs.items
  chosen_in r xs cs i h = let P : List (Expr V × Expr V) → Type 0 = λ z. Chooses facts most r z in subst P i h

  pub choice-arm : (r : Result (List Value) Stop) (e d : Expr V) (us : List (Expr V × Expr V))
      (cs : Vec (Expr V × Expr V) Global) (other : Box (Expr V) Global) (set : List Value) (passes : Bool)
      → e ≡ view.Choose cs other → us ≡ cs.items → d ≡ other.value → Chooses facts most (Ok (set, passes)) us
      → Joins facts most r passes set (out-Expr V d) → Evaluates facts most r (out-Expr V e)
  choice-arm r e d us cs other set passes i j k h l =
      let P : Expr V → Type 0 = λ z. Joins facts most r passes set (out-Expr V z) in
      at r e (Choose cs other) (opened-choice e cs other i)
      (form.choice-done facts most cs other set passes r (chosen_in (Ok (set, passes)) us cs j h) (subst P k l))

  pub cases-stop : (stop : Stop) (e : Expr V) (us : List (Expr V × Expr V)) (cs : Vec (Expr V × Expr V) Global)
      (other : Box (Expr V) Global)
      → e ≡ view.Choose cs other → us ≡ cs.items
      → Chooses facts most (Err stop) us → Evaluates facts most (Err stop) (out-Expr V e)
  cases-stop stop e us cs other i j h =
      stopped_at stop e (Choose cs other) (λ n. CaseWide facts cs.items n ⊎ HasMoreThan n (Took facts cs.items))
      (opened-choice e cs other i) (form.up-cases facts cs other) (chosen_in (Err stop) us cs j h)
