-- Before the rounds a state variable reads its value in the set's state, and a flow nothing.
use Rattle.std.proofs.Common.{◌≡◌, ℕ, zero, suc, ◌+◌, ◌⊎◌, inl, inr, Bool, true, false, if◌then◌else◌, nat_eq, List, [], ◌∷◌, Contains, refl, sym, ap, ◌∙◌, subst, arith}
use Rattle.std.specs.Cmp.{unsigned_Decides}
use Rattle.ar_base.specs.Lists.{Stands, Along}
use Rattle.ar_base.specs.Lists as l
use Rattle.ar_base.proofs.Standing.{stands_one, stands_none, one_none}
use Rattle.domains.specs.declared.Value.{Value}
use Rattle.ar_meaning.specs.Systems.{Variable, System}
use Rattle.ar_meaning.specs.Runs.{Label}
use Rattle.ar_meaning.specs.Facts.{HasStateValue}
use Rattle.ar_meaning.specs.FactsInside.{AreKeyed, AreNumberedVariables}
use Rattle.ar_firing.specs.Fragment.{Edge, IsModeOf, named, first}
use Rattle.ar_firing.specs.Static.{IsStatic}
use Rattle.ar_firing.specs.Cuts.{IsFirable}
use Rattle.ar_firing.specs.Forest.{ModeTree, IsForest, IsModeVariable}
use Rattle.ar_firing.proofs.ModesOfSets.{comes_by}
use Rattle.eq_core.specs.Gates.{Gate}
use Rattle.eq_build.specs.Entries.{Entry, only}
use Rattle.eq_build.specs.Tells.{AreEntries}
use Rattle.eq_build.proofs.EntriesTell.{entries_as}
use Rattle.eq_build.proofs.FormsTell.{only_tells}
use Rattle.eq_build.specs.Steps.{in_order, modes_at, first_reading}
use Rattle.table_laws.proofs.OrderOfEntries.{order_tells}
use Rattle.table_laws.proofs.ModesTell.{TreeTells}

nothing_tells : {set : List ℕ} {g : List Gate} {P : Value → Type 0} → ((d : Value) → P d → ⊥) → AreEntries set g [] P
nothing_tells n = record { tells = λ e o. absurd (one_none e o); whole = λ d p. absurd (n d p) }

-- what a variable reads
abbrev row_of : List ModeTree → List (List Entry) → ℕ → Variable ℕ → List Entry
row_of trees rows x y = if y.is_state then modes_at x trees rows y.value else []

row_at : (trees : List ModeTree) (rows : List (List Entry)) (vs : List (Variable ℕ)) (n k m : ℕ) (x : Variable ℕ)
    → m ≡ n + k → Stands vs k x → first_reading trees rows n vs m ≡ row_of trees rows m x
row_at trees rows [] n k m x e s = absurd (stands_none k x s)
row_at trees rows (v ∷ vs) n zero m x e s = go (nat_eq n m) refl
  where
    go : (b : Bool) → nat_eq n m ≡ b
        → (if b then row_of trees rows n v else first_reading trees rows (n + 1) vs m) ≡ row_of trees rows m x
    go true i =
        let j : v ≡ x = cc in
        ap (λ (z : ℕ). row_of trees rows z v) ((unsigned_Decides n m).0 i)
        ∙ ap (λ (z : Variable ℕ). row_of trees rows m z) j
    go false i = absurd (let q : n ≡ m = omega (arith, e) in let k = (unsigned_Decides n m).1 q in cc)
row_at trees rows (v ∷ vs) n (suc k) m x e s =
    go (nat_eq n m) refl (row_at trees rows vs (n + 1) k m x (omega (arith, e)) s)
  where
    go : (b : Bool) → nat_eq n m ≡ b → first_reading trees rows (n + 1) vs m ≡ row_of trees rows m x
        → (if b then row_of trees rows n v else first_reading trees rows (n + 1) vs m) ≡ row_of trees rows m x
    go true i r = absurd (let q = (unsigned_Decides n m).0 i in omega (arith, q, e))
    go false i r = r

no_row : (trees : List ModeTree) (rows : List (List Entry)) (vs : List (Variable ℕ)) (n m : ℕ)
    → ((k : ℕ) (x : Variable ℕ) → m ≡ n + k → Stands vs k x → ⊥) → first_reading trees rows n vs m ≡ []
no_row trees rows [] n m h = refl
no_row trees rows (v ∷ vs) n m h =
    go (nat_eq n m) refl (no_row trees rows vs (n + 1) m (λ k x e s. h (suc k) x (omega (arith, e)) s))
  where
    go : (b : Bool) → nat_eq n m ≡ b → first_reading trees rows (n + 1) vs m ≡ []
        → (if b then row_of trees rows n v else first_reading trees rows (n + 1) vs m) ≡ []
    go true i r = absurd (let q = (unsigned_Decides n m).0 i in h 0 v (omega (arith, q)) refl)
    go false i r = r

-- the variable there, or none
pub variable_or_none : (vs : List (Variable ℕ)) (n : ℕ)
    → ((x : Variable ℕ) × Stands vs n x) ⊎ ((x : Variable ℕ) → Stands vs n x → ⊥)
variable_or_none [] n = inr (λ x s. stands_none n x s)
variable_or_none (v ∷ vs) zero = inl (v, refl)
variable_or_none (v ∷ vs) (suc n) = variable_or_none vs n

module _ (sys : System ℕ) (dropped : List ℕ) (keyed : AreKeyed sys.net) (numbered : AreNumberedVariables sys.net)
    (static : IsStatic sys dropped)
    (inits : (n : ℕ) (x : Variable ℕ) → Stands sys.net.variables n x → Contains x.domain x.value)
    (set : List ℕ) (t : List Value) (f : IsFirable sys dropped set t) (trees : List ModeTree)
    (forest : IsForest sys dropped trees) where
  -- the state's values are of their domains
  pub in_domain : (n : ℕ) (x : Variable ℕ) → Stands sys.net.variables n x → x.is_state ≡ true → (d : Value)
      → Stands t n d → Contains x.domain d
  in_domain n x s i d v = elim (comes_by sys dropped keyed static f n x s i d v) [
    | inl e ↦ subst (λ z. Contains x.domain z) (sym e) (inits n x s)
    | inr c ↦ (
        let live = c.2 in
        let e = live.edge in
        let j : e.variable ≡ x = stands_one sys.net.variables n e.variable x e.is_variable s in
        subst (λ (z : Variable ℕ). Contains z.domain d) j e.in_domain)
  ]

  -- an edge's variable is a mode variable
  mode_variable : (l : Label) (n : ℕ) (x : Variable ℕ) (from to : Value) → Stands sys.net.variables n x
      → x.is_state ≡ true → Edge sys dropped l n from to → IsModeVariable sys dropped n
  mode_variable l n x from to s i e =
      let o = e.is_open in
      record {
        variable = x;
        stands = s;
        is_state = i;
        moves = record { label = l; way = e.way; is_kept = o.is_kept; is_unit = unit e.is_mode };
      }
    where
      unit : IsModeOf sys e.is_open.is_kept.is_way.event.unit e.way n → e.is_open.is_kept.is_way.event.unit ≡ x.unit
      unit (named k) = (
          let h = k.has in
          let j : k.item ≡ x = stands_one sys.net.variables n k.item x k.stands s in
          sym h.is_unit ∙ ap (λ (z : Variable ℕ). z.unit) j)
      unit (first h k) = (
          let h = k.has in
          let j : k.item ≡ x = stands_one sys.net.variables n k.item x k.stands s in
          sym h.is_unit ∙ ap (λ (z : Variable ℕ). z.unit) j)

  -- a state without a tree keeps its init value
  keeps : (n : ℕ) (x : Variable ℕ) → Stands sys.net.variables n x → x.is_state ≡ true
      → ((k : ℕ) (tree : ModeTree) → Stands trees k tree → tree.variable ≡ n → ⊥) → (d : Value) → Stands t n d
      → x.value ≡ d
  keeps n x s i lacks d v = elim (comes_by sys dropped keyed static f n x s i d v) [
    | inl e ↦ sym e
    | inr c ↦ (
        let live = c.2 in
        let w = forest.whole n (mode_variable c.0 n x c.1 d s i live.edge) in
        let o = w.1 in
        absurd (lacks o.place w.0 o.stands w.2))
  ]

  abbrev TreesTell : List Gate → List ModeTree → List (List Entry) → Type 0
  TreesTell g = Along (TreeTells set sys dropped keyed static t f g)

  -- the entries of a variable's tree, or its init value where it has none
  data HasEntries (g : List Gate) (all : List ModeTree) (n : ℕ) (init : Value) (es : List Entry) : Type 0 where
    of_tree : AreEntries set g es (λ m. Stands t n m) → HasEntries g all n init es
    of_init : ((k : ℕ) (tree : ModeTree) → Stands all k tree → tree.variable ≡ n → ⊥) → es ≡ only init
        → HasEntries g all n init es

  has_entries : (g : List Gate) (n : ℕ) (init : Value) {all : List ModeTree} {rows : List (List Entry)}
      → TreesTell g all rows → HasEntries g all n init (modes_at n all rows init)
  has_entries g n init l.none = of_init (λ k tree s. absurd (stands_none k tree s)) refl
  has_entries g n init (l.one_and {a = tree} {b = es} {xs = all} {ys = rows} a c) =
      go (nat_eq tree.variable n) refl (has_entries g n init c)
    where
      apart : (nat_eq tree.variable n ≡ false)
          → ((k : ℕ) (u : ModeTree) → Stands all k u → u.variable ≡ n → ⊥) → (k : ℕ) (u : ModeTree)
          → Stands (tree ∷ all) k u → u.variable ≡ n → ⊥
      apart i h zero u s e =
          let j : tree ≡ u = cc in
          let q = (unsigned_Decides tree.variable n).1 (ap (λ (z : ModeTree). z.variable) j ∙ e) in cc
      apart i h (suc k) u s e = h k u s e

      go : (b : Bool) → nat_eq tree.variable n ≡ b → HasEntries g all n init (modes_at n all rows init)
          → HasEntries g (tree ∷ all) n init (if b then in_order es else modes_at n all rows init)
      go true i r = of_tree (subst (λ (z : ℕ). AreEntries set g (in_order es) (λ m. Stands t z m))
          ((unsigned_Decides tree.variable n).0 i) (order_tells a.differ a.entries))
      go false i (of_tree r) = of_tree r
      go false i (of_init h e) = of_init (apart i h) e

  state_row : (g : List Gate) {rows : List (List Entry)} → TreesTell g trees rows → (n : ℕ) (x : Variable ℕ)
      → Stands sys.net.variables n x → x.is_state ≡ true
      → AreEntries set g (modes_at n trees rows x.value) (λ m. Stands t n m)
  state_row g {rows = rows} a n x s i = go (has_entries g n x.value a)
    where
      go : HasEntries g trees n x.value (modes_at n trees rows x.value)
          → AreEntries set g (modes_at n trees rows x.value) (λ m. Stands t n m)
      go (of_tree r) = r
      go (of_init lacks e) =
          let w = f.walks n x s i in
          subst (λ z. AreEntries set g z (λ m. Stands t n m)) (sym e)
          (entries_as (λ d q. subst (λ z. Stands t n z) (sym (keeps n x s i lacks w.0 w.1) ∙ q) w.1)
          (λ d v. keeps n x s i lacks d v) (only_tells set g x.value))

  -- what is read before the rounds
  pub first_tells : (g : List Gate) {rows : List (List Entry)} → TreesTell g trees rows → (n : ℕ)
      → AreEntries set g (first_reading trees rows 0 sys.net.variables n) (HasStateValue sys.net t n)
  first_tells g {rows = rows} a n = go (variable_or_none sys.net.variables n)
    where
      same : (x : Variable ℕ) → Stands sys.net.variables n x → (d : Value) → (k : HasStateValue sys.net t n d)
          → (k.variable ≡ x) × Stands t n d
      same x s d k =
          let i : k.place ≡ n = sym (numbered.key k.place k.variable k.stands) ∙ k.is_key in (
            stands_one sys.net.variables n k.variable x
                (subst (λ z. Stands sys.net.variables z k.variable) i k.stands) s,
            subst (λ z. Stands t z d) i k.value,
          )

      row_tells : (x : Variable ℕ) → Stands sys.net.variables n x → (b : Bool) → x.is_state ≡ b
          → AreEntries set g (if b then modes_at n trees rows x.value else []) (HasStateValue sys.net t n)
      row_tells x s true i = entries_as
          (λ d v. record {
            place = n;
            variable = x;
            stands = s;
            is_key = numbered.key n x s;
            is_state = i;
            value = v;
          })
          (λ d k. (same x s d k).1)
          (state_row g a n x s i)
      row_tells x s false i = nothing_tells (λ d k.
          let j = (same x s d k).0 in
          let q = k.is_state in
          let u : x.is_state ≡ true = ap (λ (z : Variable ℕ). z.is_state) (sym j) ∙ q in cc)

      go : ((x : Variable ℕ) × Stands sys.net.variables n x) ⊎ ((x : Variable ℕ) → Stands sys.net.variables n x → ⊥)
          → AreEntries set g (first_reading trees rows 0 sys.net.variables n) (HasStateValue sys.net t n)
      go (inl v) = subst (λ z. AreEntries set g z (HasStateValue sys.net t n))
          (sym (row_at trees rows sys.net.variables 0 n n v.0 (omega arith) v.1)) (row_tells v.0 v.1 v.0.is_state refl)
      go (inr h) =
          let none : (k : ℕ) (x : Variable ℕ) → n ≡ 0 + k → Stands sys.net.variables k x → ⊥ = λ k x e s.
          let j : k ≡ n = omega (arith, e) in h x (subst (λ z. Stands sys.net.variables z x) j s) in
          subst (λ z. AreEntries set g z (HasStateValue sys.net t n))
          (sym (no_row trees rows sys.net.variables 0 n none))
          (nothing_tells (λ d k. h k.variable
          (subst (λ z. Stands sys.net.variables z k.variable)
          (sym (numbered.key k.place k.variable k.stands) ∙ k.is_key) k.stands)))
