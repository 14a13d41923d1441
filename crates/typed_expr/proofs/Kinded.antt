-- The kinds of expressions.
use Rattle.std.proofs.Common.{◌≡◌, ℕ, ◌+◌, ◌<◌, ◌≤◌, ◌↔◌, Bool, true, false, cond, nat_eq, IsTrue, List, [], ◌∷◌, ◌++◌, length, take, get_or, Contains, Box, Vec, Global, Option, Some, None, refl, sym, ap, ◌∙◌, subst, inl, inr, arith}
use Rattle.std.proofs.lemmas.List.{take_all}
use Rattle.std.proofs.lemmas.Bool.Decides.{nat_tests}
use Rattle.ar_base.proofs.Items.{take_item}
use Rattle.domains.specs.declared.Value.{Value}
use Rattle.domains.proofs.Members.{contains-cases, nothing-in}
use Rattle.typed_expr.specs.Yields.{Level}
use Rattle.typed_expr.specs.Kinds.{kind_of, Compares, HasKind, Each, Each_part, Each_case}
use Rattle.typed_expr.specs.KindsInside.{IsLevelKind}
use Rattle.typed_expr.specs.Kinds as k
use Rattle.typed_expr.specs.declared.expr.Relation.{Relation}
use Rattle.typed_expr.specs.declared.expr.Relation.TheVariants.{Equal, Differs, Less, AtMost, More, AtLeast}
use Rattle.typed_expr.specs.declared.expr.ValueKind.{ValueKind}
use Rattle.typed_expr.specs.declared.expr.ValueKind.TheVariants.{Truth, Whole}
use Rattle.typed_expr.specs.declared.expr.Expr.{Expr, out-Expr}
use Rattle.typed_expr.specs.declared.expr.Expr as plain
use Rattle.typed_expr.specs.declared.expr.Expr.TheOpen.{Constant, Variable, Not, All, Any, Compare, Sum, Product, Least, Greatest, Count, Choose}
use Rattle.typed_expr.specs.declared.expr.Expr.TheViews as view
use Rattle.typed_expr.proofs.Opened as opened
use Rattle.typed_expr.proofs.Loops.{item-is-in}

module _ {V : Type 0} (kinds : V → ValueKind) where
  -- an expression has one kind
  pub one_kind : {e : Level V} {m n : ValueKind} → HasKind kinds e m → HasKind kinds e n → m ≡ n
  one_kind k.constant k.constant = refl
  one_kind k.variable k.variable = refl
  one_kind (k.opposite d) (k.opposite f) = refl
  one_kind (k.all l d) (k.all m f) = refl
  one_kind (k.any l d) (k.any m f) = refl
  one_kind (k.compared c d e) (k.compared f g h) = refl
  one_kind (k.sum l d) (k.sum m f) = refl
  one_kind (k.product l d) (k.product m f) = refl
  one_kind (k.least l d) (k.least m f) = refl
  one_kind (k.greatest l d) (k.greatest m f) = refl
  one_kind (k.count l d) (k.count m f) = refl
  one_kind (k.choice l c d) (k.choice m f e) = one_kind d e

  -- the kind that was found is this one exactly where the expression has it
  pub is-kind : (e : Level V) (found : Option ValueKind) (b : Bool) (kind : ValueKind) → IsLevelKind kinds e found
      → IsTrue b ↔ (found ≡ Some kind) → IsTrue b ↔ HasKind kinds e kind
  is-kind e None b kind h f = ((λ t. let i = f.0 t in cc), (λ d. absurd (h kind d)))
  is-kind e (Some l) b kind h f =
      ((λ t. let i : l ≡ kind = (let j = f.0 t in cc) in let P : ValueKind → Type 0 = λ z. HasKind kinds e z in subst P i h), (λ d. f.1 (ap Some (one_kind h d))))

  -- where the kind is given if a test holds
  pub kind-where : (e : Level V) (C : Type 0) (kind : ValueKind) (b : Bool) (r : Option ValueKind)
      → r ≡ cond b (Some kind) None → IsTrue b ↔ C → (C → HasKind kinds e kind)
      → ((l : ValueKind) → HasKind kinds e l → C) → IsLevelKind kinds e r
  kind-where e C kind true r i f up down =
      let P : Option ValueKind → Type 0 = λ z. IsLevelKind kinds e z in
      subst P (sym i) (up (f.0 refl))
  kind-where e C kind false r i f up down =
      let P : Option ValueKind → Type 0 = λ z. IsLevelKind kinds e z in
      subst P (sym i) (λ l d. let t = f.1 (down l d) in cc)

  in_not : (a : Box (Expr V) Global) (l : ValueKind) → HasKind kinds (Not a) l
      → HasKind kinds (out-Expr V a.value) Truth
  in_not a l (k.opposite d) = d

  in_all : (es : Vec (Expr V) Global) (l : ValueKind) → HasKind kinds (All es) l
      → (0 < length es.items) × Each kinds es.items Truth
  in_all es l (k.all m d) = (m, d)

  in_any : (es : Vec (Expr V) Global) (l : ValueKind) → HasKind kinds (Any es) l
      → (0 < length es.items) × Each kinds es.items Truth
  in_any es l (k.any m d) = (m, d)

  in_sum : (ps : Vec (Bool × Expr V) Global) (l : ValueKind) → HasKind kinds (Sum ps) l
      → (0 < length ps.items) × Each_part kinds ps.items
  in_sum ps l (k.sum m d) = (m, d)

  in_product : (es : Vec (Expr V) Global) (l : ValueKind) → HasKind kinds (Product es) l
      → (0 < length es.items) × Each kinds es.items Whole
  in_product es l (k.product m d) = (m, d)

  in_least : (es : Vec (Expr V) Global) (l : ValueKind) → HasKind kinds (Least es) l
      → (0 < length es.items) × Each kinds es.items Whole
  in_least es l (k.least m d) = (m, d)

  in_greatest : (es : Vec (Expr V) Global) (l : ValueKind) → HasKind kinds (Greatest es) l
      → (0 < length es.items) × Each kinds es.items Whole
  in_greatest es l (k.greatest m d) = (m, d)

  in_count : (es : Vec (Expr V) Global) (l : ValueKind) → HasKind kinds (Count es) l
      → (0 < length es.items) × Each kinds es.items Truth
  in_count es l (k.count m d) = (m, d)

  at : (r : Option ValueKind) (e : Expr V) (x : Level V) → out-Expr V e ≡ x → IsLevelKind kinds x r
      → IsLevelKind kinds (out-Expr V e) r
  at r e x i h = let P : Level V → Type 0 = λ z. IsLevelKind kinds z r in subst P (sym i) h

  in_box : (r : Option ValueKind) (e : Expr V) (a : Box (Expr V) Global) → e ≡ a.value → IsLevelKind kinds (out-Expr V e) r
      → IsLevelKind kinds (out-Expr V a.value) r
  in_box r e a i h = let P : Expr V → Type 0 = λ z. IsLevelKind kinds (out-Expr V z) r in subst P i h

  pub constant-arm : (e : Expr V) (v : Value) (kind : ValueKind) → e ≡ plain.Constant v → kind ≡ kind_of v
      → HasKind kinds (out-Expr V e) kind
  constant-arm e v kind i j =
      let P : ValueKind → Type 0 = λ z. HasKind kinds (Constant v) z in
      at (Some kind) e (Constant v) (ap (out-Expr V) i ∙ opened.opened-constant v) (subst P (sym j) k.constant)

  pub variable-arm : (e : Expr V) (x : V) (kind : ValueKind) → e ≡ plain.Variable x → kind ≡ kinds x
      → HasKind kinds (out-Expr V e) kind
  variable-arm e x kind i j =
      let P : ValueKind → Type 0 = λ z. HasKind kinds (Variable x) z in
      at (Some kind) e (Variable x) (ap (out-Expr V) i ∙ opened.opened-variable x) (subst P (sym j) k.variable)

  pub not-arm : (e d : Expr V) (a : Box (Expr V) Global) (found r : Option ValueKind) (b : Bool) → e ≡ view.Not a
      → d ≡ a.value → IsLevelKind kinds (out-Expr V d) found
      → IsTrue b ↔ (found ≡ Some Truth) → r ≡ cond b (Some Truth) None → IsLevelKind kinds (out-Expr V e) r
  not-arm e d a found r b i j h f g =
      at r e (Not a) (opened.opened-not e a i)
      (kind-where (Not a) (HasKind kinds (out-Expr V a.value) Truth) Truth b r g
      (is-kind (out-Expr V a.value) found b Truth (in_box found d a j h) f) (λ c. k.opposite c) (in_not a))

  listed : (xs ys : List (Expr V)) (b : Bool) (kind : ValueKind) → xs ≡ ys
      → IsTrue b ↔ ((0 < length xs) × Each kinds xs kind) → IsTrue b ↔ ((0 < length ys) × Each kinds ys kind)
  listed xs ys b kind i f =
      let P : List (Expr V) → Type 0 = λ z. IsTrue b ↔ ((0 < length z) × Each kinds z kind) in
      subst P i f

  pub all-arm : (e : Expr V) (xs : List (Expr V)) (es : Vec (Expr V) Global) (r : Option ValueKind) (b : Bool)
      → e ≡ view.All es → xs ≡ es.items
      → IsTrue b ↔ ((0 < length xs) × Each kinds xs Truth) → r ≡ cond b (Some Truth) None
      → IsLevelKind kinds (out-Expr V e) r
  all-arm e xs es r b i j f g =
      at r e (All es) (opened.opened-all e es i)
      (kind-where (All es) ((0 < length es.items) × Each kinds es.items Truth) Truth b r g
      (listed xs es.items b Truth j f) (λ c. k.all c.0 c.1) (in_all es))

  pub any-arm : (e : Expr V) (xs : List (Expr V)) (es : Vec (Expr V) Global) (r : Option ValueKind) (b : Bool)
      → e ≡ view.Any es → xs ≡ es.items
      → IsTrue b ↔ ((0 < length xs) × Each kinds xs Truth) → r ≡ cond b (Some Truth) None
      → IsLevelKind kinds (out-Expr V e) r
  any-arm e xs es r b i j f g =
      at r e (Any es) (opened.opened-any e es i)
      (kind-where (Any es) ((0 < length es.items) × Each kinds es.items Truth) Truth b r g
      (listed xs es.items b Truth j f) (λ c. k.any c.0 c.1) (in_any es))

  pub product-arm : (e : Expr V) (xs : List (Expr V)) (es : Vec (Expr V) Global) (r : Option ValueKind) (b : Bool)
      → e ≡ view.Product es → xs ≡ es.items
      → IsTrue b ↔ ((0 < length xs) × Each kinds xs Whole) → r ≡ cond b (Some Whole) None
      → IsLevelKind kinds (out-Expr V e) r
  product-arm e xs es r b i j f g =
      at r e (Product es) (opened.opened-product e es i)
      (kind-where (Product es) ((0 < length es.items) × Each kinds es.items Whole) Whole b r g
      (listed xs es.items b Whole j f) (λ c. k.product c.0 c.1) (in_product es))

  pub least-arm : (e : Expr V) (xs : List (Expr V)) (es : Vec (Expr V) Global) (r : Option ValueKind) (b : Bool)
      → e ≡ view.Least es → xs ≡ es.items
      → IsTrue b ↔ ((0 < length xs) × Each kinds xs Whole) → r ≡ cond b (Some Whole) None
      → IsLevelKind kinds (out-Expr V e) r
  least-arm e xs es r b i j f g =
      at r e (Least es) (opened.opened-least e es i)
      (kind-where (Least es) ((0 < length es.items) × Each kinds es.items Whole) Whole b r g
      (listed xs es.items b Whole j f) (λ c. k.least c.0 c.1) (in_least es))

  pub greatest-arm : (e : Expr V) (xs : List (Expr V)) (es : Vec (Expr V) Global) (r : Option ValueKind) (b : Bool)
      → e ≡ view.Greatest es → xs ≡ es.items
      → IsTrue b ↔ ((0 < length xs) × Each kinds xs Whole) → r ≡ cond b (Some Whole) None
      → IsLevelKind kinds (out-Expr V e) r
  greatest-arm e xs es r b i j f g =
      at r e (Greatest es) (opened.opened-greatest e es i)
      (kind-where (Greatest es) ((0 < length es.items) × Each kinds es.items Whole) Whole b r g
      (listed xs es.items b Whole j f) (λ c. k.greatest c.0 c.1) (in_greatest es))

  pub count-arm : (e : Expr V) (xs : List (Expr V)) (es : Vec (Expr V) Global) (r : Option ValueKind) (b : Bool)
      → e ≡ view.Count es → xs ≡ es.items
      → IsTrue b ↔ ((0 < length xs) × Each kinds xs Truth) → r ≡ cond b (Some Whole) None
      → IsLevelKind kinds (out-Expr V e) r
  count-arm e xs es r b i j f g =
      at r e (Count es) (opened.opened-count e es i)
      (kind-where (Count es) ((0 < length es.items) × Each kinds es.items Truth) Whole b r g
      (listed xs es.items b Truth j f) (λ c. k.count c.0 c.1) (in_count es))

  pub sum-arm : (e : Expr V) (xs : List (Bool × Expr V)) (ps : Vec (Bool × Expr V) Global) (r : Option ValueKind)
      (b : Bool)
      → e ≡ view.Sum ps → xs ≡ ps.items
      → IsTrue b ↔ ((0 < length xs) × Each_part kinds xs) → r ≡ cond b (Some Whole) None
      → IsLevelKind kinds (out-Expr V e) r
  sum-arm e xs ps r b i j f g =
      let P : List (Bool × Expr V) → Type 0 = λ z. IsTrue b ↔ ((0 < length z) × Each_part kinds z) in
      at r e (Sum ps) (opened.opened-sum e ps i)
      (kind-where (Sum ps) ((0 < length ps.items) × Each_part kinds ps.items) Whole b r g (subst P j f)
      (λ c. k.sum c.0 c.1) (in_sum ps))

  in_compare : (q : Relation) (a b : Box (Expr V) Global) (kind l : ValueKind) → HasKind kinds (out-Expr V a.value) kind
      → HasKind kinds (Compare q a b) l → Compares q kind × HasKind kinds (out-Expr V b.value) kind
  in_compare q a b kind l h (k.compared {k = m} c d f) =
      let i : m ≡ kind = one_kind d h in
      let P : ValueKind → Type 0 = λ z. Compares q z × HasKind kinds (out-Expr V b.value) z in subst P i (c, f)

  pub compare-arm : (e c d : Expr V) (q : Relation) (a b : Box (Expr V) Global) (kind : ValueKind)
      (found r : Option ValueKind) (can is both : Bool)
      → e ≡ view.Compare q a b → c ≡ a.value → d ≡ b.value
      → HasKind kinds (out-Expr V c) kind → IsLevelKind kinds (out-Expr V d) found → IsTrue can ↔ Compares q kind
      → IsTrue is ↔ (found ≡ Some kind) → IsTrue both ↔ (IsTrue can × IsTrue is)
      → r ≡ cond both (Some Truth) None → IsLevelKind kinds (out-Expr V e) r
  compare-arm e c d q a b kind found r can is both i j l h m f g p o =
      let left : HasKind kinds (out-Expr V a.value) kind = in_box (Some kind) c a j h in
      let right = is-kind (out-Expr V b.value) found is kind (in_box found d b l m) g in
      at r e (Compare q a b) (opened.opened-compare e q a b i)
      (kind-where (Compare q a b) (Compares q kind × HasKind kinds (out-Expr V b.value) kind) Truth both r o
      ((λ t. let z = p.0 t in (f.0 z.0, right.0 z.1)), (λ z. p.1 (f.1 z.0, right.1 z.1)))
      (λ z. k.compared z.0 left z.1) (λ n z. in_compare q a b kind n left z))

  no_left : (q : Relation) (a b : Box (Expr V) Global) (l : ValueKind)
      → ((m : ValueKind) → HasKind kinds (out-Expr V a.value) m → ⊥) → HasKind kinds (Compare q a b) l → ⊥
  no_left q a b l f (k.compared {k = m} c d e) = f m d

  pub compare-none : (e c : Expr V) (q : Relation) (a b : Box (Expr V) Global) → e ≡ view.Compare q a b → c ≡ a.value
      → IsLevelKind kinds (out-Expr V c) None → IsLevelKind kinds (out-Expr V e) None
  compare-none e c q a b i j h =
      at None e (Compare q a b) (opened.opened-compare e q a b i) (λ l d. no_left q a b l (in_box None c a j h) d)

  in_choice : (cs : Vec (Expr V × Expr V) Global) (other : Box (Expr V) Global) (kind l : ValueKind)
      → HasKind kinds (out-Expr V other.value) kind → HasKind kinds (Choose cs other) l
      → (0 < length cs.items) × Each_case kinds cs.items kind
  in_choice cs other kind l h (k.choice {k = m} n c d) =
      let i : m ≡ kind = one_kind d h in
      let P : ValueKind → Type 0 = λ z. Each_case kinds cs.items z in (n, subst P i c)

  pub choice-arm : (e d : Expr V) (xs : List (Expr V × Expr V)) (cs : Vec (Expr V × Expr V) Global)
      (other : Box (Expr V) Global) (kind : ValueKind) (r : Option ValueKind) (b : Bool)
      → e ≡ view.Choose cs other → xs ≡ cs.items
      → d ≡ other.value → HasKind kinds (out-Expr V d) kind → IsTrue b ↔ ((0 < length xs) × Each_case kinds xs kind)
      → r ≡ cond b (Some kind) None → IsLevelKind kinds (out-Expr V e) r
  choice-arm e d xs cs other kind r b i j l h f g =
      let last : HasKind kinds (out-Expr V other.value) kind = in_box (Some kind) d other l h in
      let P : List (Expr V × Expr V) → Type 0 = λ z. IsTrue b ↔ ((0 < length z) × Each_case kinds z kind) in
      at r e (Choose cs other) (opened.opened-choice e cs other i)
      (kind-where (Choose cs other) ((0 < length cs.items) × Each_case kinds cs.items kind) kind b r g (subst P j f)
      (λ c. k.choice c.0 c.1 last) (λ n z. in_choice cs other kind n last z))

  no_other : (cs : Vec (Expr V × Expr V) Global) (other : Box (Expr V) Global) (l : ValueKind)
      → ((m : ValueKind) → HasKind kinds (out-Expr V other.value) m → ⊥) → HasKind kinds (Choose cs other) l → ⊥
  no_other cs other l f (k.choice {k = m} n c d) = f m d

  pub choice-none : (e d : Expr V) (cs : Vec (Expr V × Expr V) Global) (other : Box (Expr V) Global)
      → e ≡ view.Choose cs other → d ≡ other.value → IsLevelKind kinds (out-Expr V d) None
      → IsLevelKind kinds (out-Expr V e) None
  choice-none e d cs other i j h =
      at None e (Choose cs other) (opened.opened-choice e cs other i)
      (λ l z. no_other cs other l (in_box None d other j h) z)

  -- lists
  pub each-append : (xs ys : List (Expr V)) (kind : ValueKind) → Each kinds xs kind → Each kinds ys kind
      → Each kinds (xs ++ ys) kind
  each-append [] ys kind k.none e = e
  each-append (x ∷ xs) ys kind (k.one_and d ds) e = k.one_and d (each-append xs ys kind ds e)

  pub each-at : (xs : List (Expr V)) (kind : ValueKind) (e : Expr V) → Each kinds xs kind → Contains xs e
      → HasKind kinds (out-Expr V e) kind
  each-at [] kind e d m = absurd (nothing-in e m)
  each-at (x ∷ xs) kind e (k.one_and d ds) m =
      elim
      (contains-cases x e xs m) [ inl i ↦ (let P : Expr V → Type 0 = λ z. HasKind kinds (out-Expr V z) kind in subst P i d) | inr n ↦ each-at xs kind e ds n ]

  pub each-more : (es : List (Expr V)) (i : ℕ) (e : Expr V) (kind : ValueKind) → i < length es → e ≡ get_or es i e
      → HasKind kinds (out-Expr V e) kind → Each kinds (take i es) kind → Each kinds (take (i + 1) es) kind
  each-more es i e kind h is d f =
      let P : List (Expr V) → Type 0 = λ l. Each kinds l kind in
      subst P (sym (take_item es i e h is)) (each-append (take i es) (e ∷ []) kind f (k.one_and d k.none))

  pub each-over : (es : List (Expr V)) (i : ℕ) (kind : ValueKind) → length es ≤ i → Each kinds (take i es) kind
      → Each kinds es kind
  each-over es i kind h f = let P : List (Expr V) → Type 0 = λ l. Each kinds l kind in subst P (take_all i es h) f

  pub parts-append : (xs ys : List (Bool × Expr V)) → Each_part kinds xs → Each_part kinds ys
      → Each_part kinds (xs ++ ys)
  parts-append [] ys k.no_part e = e
  parts-append (x ∷ xs) ys (k.part_and d ds) e = k.part_and d (parts-append xs ys ds e)

  pub part-at : (xs : List (Bool × Expr V)) (p : Bool × Expr V) → Each_part kinds xs → Contains xs p
      → HasKind kinds (out-Expr V p.1) Whole
  part-at [] p d m = absurd (nothing-in p m)
  part-at (x ∷ xs) p (k.part_and d ds) m =
      elim
      (contains-cases x p xs m) [ inl i ↦ (let P : Bool × Expr V → Type 0 = λ z. HasKind kinds (out-Expr V z.1) Whole in subst P i d) | inr n ↦ part-at xs p ds n ]

  pub part-more : (ps : List (Bool × Expr V)) (i : ℕ) (p : Bool × Expr V) → i < length ps → p ≡ get_or ps i p
      → HasKind kinds (out-Expr V p.1) Whole → Each_part kinds (take i ps) → Each_part kinds (take (i + 1) ps)
  part-more ps i p h is d f =
      let P : List (Bool × Expr V) → Type 0 = λ l. Each_part kinds l in
      subst P (sym (take_item ps i p h is)) (parts-append (take i ps) (p ∷ []) f (k.part_and d k.no_part))

  pub part-over : (ps : List (Bool × Expr V)) (i : ℕ) → length ps ≤ i → Each_part kinds (take i ps) → Each_part kinds ps
  part-over ps i h f = let P : List (Bool × Expr V) → Type 0 = λ l. Each_part kinds l in subst P (take_all i ps h) f

  pub cases-append : (xs ys : List (Expr V × Expr V)) (kind : ValueKind) → Each_case kinds xs kind
      → Each_case kinds ys kind → Each_case kinds (xs ++ ys) kind
  cases-append [] ys kind k.no_case e = e
  cases-append (x ∷ xs) ys kind (k.case_and c d ds) e = k.case_and c d (cases-append xs ys kind ds e)

  pub case-at : (xs : List (Expr V × Expr V)) (kind : ValueKind) (p : Expr V × Expr V) → Each_case kinds xs kind
      → Contains xs p → HasKind kinds (out-Expr V p.0) Truth × HasKind kinds (out-Expr V p.1) kind
  case-at [] kind p d m = absurd (nothing-in p m)
  case-at (x ∷ xs) kind p (k.case_and c d ds) m =
      elim
      (contains-cases x p xs m) [ inl i ↦ (let P : Expr V × Expr V → Type 0 = λ z. HasKind kinds (out-Expr V z.0) Truth × HasKind kinds (out-Expr V z.1) kind in subst P i (c, d)) | inr n ↦ case-at xs kind p ds n ]

  pub case-more : (cs : List (Expr V × Expr V)) (i : ℕ) (p : Expr V × Expr V) (kind : ValueKind) → i < length cs
      → p ≡ get_or cs i p → HasKind kinds (out-Expr V p.0) Truth → HasKind kinds (out-Expr V p.1) kind
      → Each_case kinds (take i cs) kind → Each_case kinds (take (i + 1) cs) kind
  case-more cs i p kind h is c d f =
      let P : List (Expr V × Expr V) → Type 0 = λ l. Each_case kinds l kind in
      subst P (sym (take_item cs i p h is)) (cases-append (take i cs) (p ∷ []) kind f (k.case_and c d k.no_case))

  pub case-over : (cs : List (Expr V × Expr V)) (i : ℕ) (kind : ValueKind) → length cs ≤ i
      → Each_case kinds (take i cs) kind → Each_case kinds cs kind
  case-over cs i kind h f =
      let P : List (Expr V × Expr V) → Type 0 = λ l. Each_case kinds l kind in
      subst P (take_all i cs h) f

-- the operands so far have the kind
pub record EachSoFar {V : Type 0} (kinds : V → ValueKind) (es : List (Expr V)) (i : ℕ) (kind : ValueKind) : Type 0 where
  pub each : Each kinds (take i es) kind

pub record PartsSoFar {V : Type 0} (kinds : V → ValueKind) (ps : List (Bool × Expr V)) (i : ℕ) : Type 0 where
  pub each : Each_part kinds (take i ps)

pub record CasesSoFar {V : Type 0} (kinds : V → ValueKind) (cs : List (Expr V × Expr V)) (i : ℕ)
    (kind : ValueKind) : Type 0 where
  pub each : Each_case kinds (take i cs) kind

module _ {V : Type 0} (kinds : V → ValueKind) where
  pub each-begins : (es : List (Expr V)) (kind : ValueKind) → EachSoFar kinds es 0 kind
  each-begins es kind = record { each = k.none }

  pub each-goes-on : (es : List (Expr V)) (i : ℕ) (e : Expr V) (kind : ValueKind) (found : Option ValueKind) (b : Bool)
      → i < length es → e ≡ get_or es i e → IsLevelKind kinds (out-Expr V e) found
      → IsTrue b ↔ (found ≡ Some kind) → b ≡ true → EachSoFar kinds es i kind → EachSoFar kinds es (i + 1) kind
  each-goes-on es i e kind found b h is f g t r = record {
    each = each-more kinds es i e kind h is ((is-kind kinds (out-Expr V e) found b kind f g).0 t) r.each;
  }

  pub each-fails : (es : List (Expr V)) (i : ℕ) (e : Expr V) (kind : ValueKind) (found : Option ValueKind) (b : Bool)
      → i < length es → e ≡ get_or es i e → IsLevelKind kinds (out-Expr V e) found
      → IsTrue b ↔ (found ≡ Some kind) → b ≡ false → IsTrue false ↔ ((0 < length es) × Each kinds es kind)
  each-fails es i e kind found b h is f g t =
      ((λ z. cc), (λ z. let q = (is-kind kinds (out-Expr V e) found b kind f g).1 (each-at kinds es kind e z.1 (item-is-in es i e h is)) in cc))

  pub each-ends : (es : List (Expr V)) (i : ℕ) (kind : ValueKind) → 0 < length es → length es ≤ i
      → EachSoFar kinds es i kind → IsTrue true ↔ ((0 < length es) × Each kinds es kind)
  each-ends es i kind n h r = ((λ z. (n, each-over kinds es i kind h r.each)), (λ z. refl))

  pub parts-begin : (ps : List (Bool × Expr V)) → PartsSoFar kinds ps 0
  parts-begin ps = record { each = k.no_part }

  pub parts-go-on : (ps : List (Bool × Expr V)) (i : ℕ) (p : Bool × Expr V) (found : Option ValueKind) (b : Bool)
      → i < length ps → p ≡ get_or ps i p → IsLevelKind kinds (out-Expr V p.1) found
      → IsTrue b ↔ (found ≡ Some Whole) → b ≡ true → PartsSoFar kinds ps i → PartsSoFar kinds ps (i + 1)
  parts-go-on ps i p found b h is f g t r = record {
    each = part-more kinds ps i p h is ((is-kind kinds (out-Expr V p.1) found b Whole f g).0 t) r.each;
  }

  pub parts-fail : (ps : List (Bool × Expr V)) (i : ℕ) (p : Bool × Expr V) (found : Option ValueKind) (b : Bool)
      → i < length ps → p ≡ get_or ps i p → IsLevelKind kinds (out-Expr V p.1) found
      → IsTrue b ↔ (found ≡ Some Whole) → b ≡ false → IsTrue false ↔ ((0 < length ps) × Each_part kinds ps)
  parts-fail ps i p found b h is f g t =
      ((λ z. cc), (λ z. let q = (is-kind kinds (out-Expr V p.1) found b Whole f g).1 (part-at kinds ps p z.1 (item-is-in ps i p h is)) in cc))

  pub parts-end : (ps : List (Bool × Expr V)) (i : ℕ) → 0 < length ps → length ps ≤ i → PartsSoFar kinds ps i
      → IsTrue true ↔ ((0 < length ps) × Each_part kinds ps)
  parts-end ps i n h r = ((λ z. (n, part-over kinds ps i h r.each)), (λ z. refl))

  pub cases-begin : (cs : List (Expr V × Expr V)) (kind : ValueKind) → CasesSoFar kinds cs 0 kind
  cases-begin cs kind = record { each = k.no_case }

  pub cases-go-on : (cs : List (Expr V × Expr V)) (i : ℕ) (c : Expr V × Expr V) (kind : ValueKind)
      (found given : Option ValueKind) (a b : Bool)
      → i < length cs → c ≡ get_or cs i c
      → IsLevelKind kinds (out-Expr V c.0) found → IsTrue a ↔ (found ≡ Some Truth) → a ≡ true
      → IsLevelKind kinds (out-Expr V c.1) given → IsTrue b ↔ (given ≡ Some kind) → b ≡ true
      → CasesSoFar kinds cs i kind → CasesSoFar kinds cs (i + 1) kind
  cases-go-on cs i c kind found given a b h is f g t m n u r =
      record {
        each = case-more kinds cs i c kind h is ((is-kind kinds (out-Expr V c.0) found a Truth f g).0 t)
            ((is-kind kinds (out-Expr V c.1) given b kind m n).0 u) r.each;
      }

  pub test-fails : (cs : List (Expr V × Expr V)) (i : ℕ) (c : Expr V × Expr V) (kind : ValueKind)
      (found : Option ValueKind) (a : Bool)
      → i < length cs → c ≡ get_or cs i c
      → IsLevelKind kinds (out-Expr V c.0) found → IsTrue a ↔ (found ≡ Some Truth) → a ≡ false
      → IsTrue false ↔ ((0 < length cs) × Each_case kinds cs kind)
  test-fails cs i c kind found a h is f g t =
      ((λ z. cc), (λ z. let q = (is-kind kinds (out-Expr V c.0) found a Truth f g).1 (case-at kinds cs kind c z.1 (item-is-in cs i c h is)).0 in cc))

  pub value-fails : (cs : List (Expr V × Expr V)) (i : ℕ) (c : Expr V × Expr V) (kind : ValueKind)
      (given : Option ValueKind) (b : Bool)
      → i < length cs → c ≡ get_or cs i c
      → IsLevelKind kinds (out-Expr V c.1) given → IsTrue b ↔ (given ≡ Some kind) → b ≡ false
      → IsTrue false ↔ ((0 < length cs) × Each_case kinds cs kind)
  value-fails cs i c kind given b h is f g t =
      ((λ z. cc), (λ z. let q = (is-kind kinds (out-Expr V c.1) given b kind f g).1 (case-at kinds cs kind c z.1 (item-is-in cs i c h is)).1 in cc))

  pub cases-end : (cs : List (Expr V × Expr V)) (i : ℕ) (kind : ValueKind) → 0 < length cs → length cs ≤ i
      → CasesSoFar kinds cs i kind → IsTrue true ↔ ((0 < length cs) × Each_case kinds cs kind)
  cases-end cs i kind n h r = ((λ z. (n, case-over kinds cs i kind h r.each)), (λ z. refl))

no_less : (kind : ValueKind) → Compares Less kind → kind ≡ Whole
no_less kind k.less = refl

no_at_most : (kind : ValueKind) → Compares AtMost kind → kind ≡ Whole
no_at_most kind k.at_most = refl

no_more : (kind : ValueKind) → Compares More kind → kind ≡ Whole
no_more kind k.more = refl

no_at_least : (kind : ValueKind) → Compares AtLeast kind → kind ≡ Whole
no_at_least kind k.at_least = refl

whole_only : (q : Relation) (kind : ValueKind) (b : Bool) → Compares q Whole → (Compares q kind → kind ≡ Whole)
    → IsTrue b ↔ (kind ≡ Whole) → IsTrue b ↔ Compares q kind
whole_only q kind b c f g =
    ((λ t. let P : ValueKind → Type 0 = λ z. Compares q z in subst P (sym (g.0 t)) c), (λ d. g.1 (f d)))

pub compares-less : (kind : ValueKind) (b : Bool) → IsTrue b ↔ (kind ≡ Whole) → IsTrue b ↔ Compares Less kind
compares-less kind b g = whole_only Less kind b k.less (no_less kind) g

pub compares-at_most : (kind : ValueKind) (b : Bool) → IsTrue b ↔ (kind ≡ Whole) → IsTrue b ↔ Compares AtMost kind
compares-at_most kind b g = whole_only AtMost kind b k.at_most (no_at_most kind) g

pub compares-more : (kind : ValueKind) (b : Bool) → IsTrue b ↔ (kind ≡ Whole) → IsTrue b ↔ Compares More kind
compares-more kind b g = whole_only More kind b k.more (no_more kind) g

pub compares-at_least : (kind : ValueKind) (b : Bool) → IsTrue b ↔ (kind ≡ Whole) → IsTrue b ↔ Compares AtLeast kind
compares-at_least kind b g = whole_only AtLeast kind b k.at_least (no_at_least kind) g

pub compares-equal : (kind : ValueKind) → IsTrue true ↔ Compares Equal kind
compares-equal kind = ((λ t. k.equal), (λ d. refl))

pub compares-differs : (kind : ValueKind) → IsTrue true ↔ Compares Differs kind
compares-differs kind = ((λ t. k.differs), (λ d. refl))

pub not-empty : (n : ℕ) (b : Bool) → b ≡ nat_eq n 0 → b ≡ false → 0 < n
not-empty n b e f = grind (arith, nat_tests)

pub empty-has-none : (n : ℕ) (b : Bool) (P : Type 0) → b ≡ nat_eq n 0 → b ≡ true → IsTrue false ↔ ((0 < n) × P)
empty-has-none n b P e f =
    let none : n ≡ 0 = grind (arith, nat_tests) in ((λ z. cc), (λ z. let some : 0 < n = z.0 in absurd (omega arith)))
