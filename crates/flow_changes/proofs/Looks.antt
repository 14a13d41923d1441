-- Assignments that are looked at, and what is known then.
use Rattle.std.proofs.Common.{◌≡◌, ℕ, ◌+◌, ◌*◌, ◌≤◌, ◌⊎◌, inl, inr, Bool, true, false, List, [], ◌∷◌, map, length, refl, sym, ap, ◌∙◌, subst, arith}
use Rattle.std.proofs.Math.Nat.{mul-le-mul_left}
use Rattle.std.proofs.lemmas.Bool.{cases_eq}
use Rattle.ar_base.specs.Lists.{Stands, IsOneOf}
use Rattle.ar_base.proofs.Standing.{stands_one, stands_some, stands_within, stands_map, stands_map_back, one_none, one_cases, one_first, one_rest, one_here}
use Rattle.domains.specs.Domains.{Holds}
use Rattle.domains.proofs.Domains.{listed}
use Rattle.domains.specs.declared.Value.{Value}
use Rattle.typed_expr.specs.Yields.{Yields}
use Rattle.typed_expr.specs.declared.expr.Expr.{out-Expr}
use Rattle.typed_expr.proofs.Facts.{yields_more, yields_named}
use Rattle.ar_meaning.specs.Facts.{PassesConditions, Allows, HasStateValue, FactOf}
use Rattle.ar_meaning.specs.Dependence.{Names}
use Rattle.ar_meaning.proofs.Dependence.{passes_named}
use Rattle.ar_meaning.proofs.Least.{closed, passes_more}
use Rattle.ar_meaning.proofs.ByNumber.{allowed_from}
use Rattle.gts_core.specs.Readings.{IsTotal}
use Rattle.gts_core.specs.View.{net_of, assign_of, variable_of}
use Rattle.gts_core.specs.declared.system.Variable.{Variable}
use Rattle.gts_core.specs.declared.system.Assign.{Assign}
use Rattle.gts_core.specs.declared.system.GtsParts.{GtsParts}
use Rattle.gts_core.proofs.Viewing.{variable_there, are_numbered}
use Rattle.flow_propagate.specs.Plan.{AreReaders, IsPlan, Reader, plain_pair}
use Rattle.flow_propagate.specs.declared.plan.Plan.{Plan}
use Rattle.flow_propagate.proofs.Numbered.{read_there, read_back}
use Rattle.flow_changes.specs.Cone.{Knows, HasAll}
use Rattle.flow_changes.specs.Known.{Applies, Touches, unmarked}
use Rattle.flow_changes.specs.Queue.{IsQueue, AddsPlaces, IsPairPlace, TakesPlace}
use Rattle.flow_changes.specs.Following.{WaitsInQueue, IsYieldedAnew, Looks}
use Rattle.flow_changes.specs.declared.queue.Queue.{Queue}

-- the pair of a variable and an assignment that names it
pub record ReaderOf (readers : List Reader) (t m : ℕ) : Type 0 where
  pub pair : Reader
  pub is_one : IsOneOf readers pair
  pub variable : pair.0.n ≡ t
  pub assign : pair.1.n ≡ m

pub reader_of : (p : GtsParts) (readers : List Reader) → AreReaders p (map plain_pair readers) → (t m : ℕ) (b : Assign)
    → Stands p.assigns.items m b → Names (assign_of b) t → ReaderOf readers t m
reader_of p readers are t m b sb named =
    let o = are.all t m (read_there p t m (record { assign = b; stands = sb; names = named })) in
    let r = stands_map_back plain_pair readers o.place (t, m) o.stands in
    record {
      pair = r.0;
      is_one = one_here readers o.place r.0 r.1;
      variable = ap (λ (z : ℕ × ℕ). z.0) r.2;
      assign = ap (λ (z : ℕ × ℕ). z.1) r.2;
    }

-- the assignment of a pair names its variable
pub record ReadBy (p : GtsParts) (t m : ℕ) : Type 0 where
  pub assign : Assign
  pub stands : Stands p.assigns.items m assign
  pub names : Names (assign_of assign) t

pub read_by : (p : GtsParts) (readers : List Reader) → AreReaders p (map plain_pair readers) → (r : Reader)
    → IsOneOf readers r → ReadBy p r.0.n r.1.n
read_by p readers are r o =
    let h = read_back p r.0.n r.1.n (are.only r.0.n r.1.n
    (record { place = o.place; stands = stands_map plain_pair readers o.place r o.stands })) in
    record { assign = h.assign; stands = h.stands; names = h.names }

reader_or_not : (rs : List Reader) (t m : ℕ) → ReaderOf rs t m ⊎ (ReaderOf rs t m → ⊥)
reader_or_not [] t m = inr (λ h. one_none h.pair h.is_one)
reader_or_not (r ∷ rs) t m = go (cases_eq r.0.n t) (cases_eq r.1.n m) (reader_or_not rs t m)
  where
    later : ReaderOf rs t m → ReaderOf (r ∷ rs) t m
    later h = record { pair = h.pair; is_one = one_rest r rs h.pair h.is_one; variable = h.variable; assign = h.assign }

    back : (ReaderOf rs t m → ⊥) → ((r.0.n ≡ t) → (r.1.n ≡ m) → ⊥) → ReaderOf (r ∷ rs) t m → ⊥
    back f g h = elim (one_cases r rs h.pair h.is_one) [
      | inl e ↦ g (ap (λ (z : Reader). z.0.n) e ∙ h.variable) (ap (λ (z : Reader). z.1.n) e ∙ h.assign)
      | inr o ↦ f (record { pair = h.pair; is_one = o; variable = h.variable; assign = h.assign })
    ]

    go : (r.0.n ≡ t) ⊎ (r.0.n ≡ t → ⊥) → (r.1.n ≡ m) ⊎ (r.1.n ≡ m → ⊥) → ReaderOf rs t m ⊎ (ReaderOf rs t m → ⊥)
        → ReaderOf (r ∷ rs) t m ⊎ (ReaderOf (r ∷ rs) t m → ⊥)
    go x y (inl h) = inl (later h)
    go (inl e) (inl f) (inr h) = inl (record { pair = r; is_one = one_first r rs; variable = e; assign = f })
    go (inl e) (inr g) (inr h) = inr (back h (λ i j. g j))
    go (inr g) y (inr h) = inr (back h (λ i j. g i))

module _ (p : GtsParts) (plan : Plan) (n : ℕ) (a : Assign) (sa : Stands p.assigns.items n a) (values : List Value)
    (known : List Bool) (values' : List Value) (known' : List Bool) where
  only_new : (changed : Bool) → Applies p a values known values' known' changed → (m : ℕ) (v : Value)
      → Knows values' known' m v → Knows values known m v ⊎ IsYieldedAnew p n values known m v
  only_new changed x m v k = elim (x.only m v k)
      [ inl h ↦ inl h | inr h ↦ inr (record { assign = a; stands = sa; is = h.0; passes = h.1; yields = h.2 }) ]

  -- it has what it yields
  mine : (changed : Bool) → Applies p a values known values' known' changed → (b : Assign) → Stands p.assigns.items n b
      → (v : Value) → PassesConditions (Knows values known) (assign_of b).conditions
      → Yields (Knows values known) (out-Expr ℕ (assign_of b).value) v → Knows values' known' b.target.n v
  mine changed x b sb =
      let P : Assign → Type 0 = λ z. (v : Value) → PassesConditions (Knows values known) (assign_of z).conditions
      → Yields (Knows values known) (out-Expr ℕ (assign_of z).value) v → Knows values' known' z.target.n v in
      subst P (stands_one p.assigns.items n a b sa sb) x.done

  -- its target got nothing
  pub looks_still : (work : Queue) → IsQueue work → Applies p a values known values' known' false
      → Looks p plan n values known work values' known' work
  looks_still work is x = record {
    grows = x.grows;
    only = only_new false x;
    is = is;
    same = refl;
    settled = λ m b sb h. elim h [
      | inl e ↦ inr (same b (mine false x b (subst (λ (z : ℕ). Stands p.assigns.items z b) e sb)))
      | inr y ↦ (elim y [ inl w ↦ inl w | inr c ↦ inr (same b (λ v pass y. x.grows b.target.n v (c v pass y))) ])
    ];
    less = (let e : unmarked known' ≡ unmarked known = ap unmarked (x.still refl).1 in let f : (length plan.readers.pairs.items + 1) * unmarked known' ≡ (length plan.readers.pairs.items + 1) * unmarked known = ap (λ (z : ℕ). (length plan.readers.pairs.items + 1) * z) e in omega (arith, f));
  }
    where
      old : (m : ℕ) (v : Value) → Knows values' known' m v → Knows values known m v
      old m v k = record {
        marked = subst (λ (z : List Bool). Stands z m true) (x.still refl).1 k.marked;
        value = subst (λ (z : List Value). Stands z m v) (x.still refl).0 k.value;
      }

      same : (b : Assign) → ((v : Value) → PassesConditions (Knows values known) (assign_of b).conditions
          → Yields (Knows values known) (out-Expr ℕ (assign_of b).value) v → Knows values' known' b.target.n v)
          → HasAll (Knows values' known') (assign_of b)
      same b h v pass y = h v (passes_more ℕ (Knows values' known') (Knows values known) old pass)
          (yields_more ℕ (Knows values' known') (Knows values known) old y)

  -- its target got a value: those that name the target wait
  pub looks_more : (work work' : Queue) (run : List Reader) → IsPlan p plan
      → Applies p a values known values' known' true
      → ((r : Reader) → IsOneOf plan.readers.pairs.items r → r.0.n ≡ a.target.n → IsOneOf run r)
      → length run ≤ length plan.readers.pairs.items
      → AddsPlaces (length run) (IsPairPlace plan.places.items run) work work'
      → Looks p plan n values known work values' known' work'
  looks_more work work' run is x all short adds = record {
    grows = x.grows;
    only = only_new true x;
    is = adds.is;
    same = adds.same;
    settled = λ m b sb h. elim h [
      | inl e ↦ again m b sb (mine true x b (subst (λ (z : ℕ). Stands p.assigns.items z b) e sb))
      | inr y ↦ (elim y [
        | inl w ↦ inl (record
            { place = w.place; stands = w.stands; waits = adds.keeps w.place w.waits })
        | inr c ↦ again m b sb (λ v pass y. x.grows b.target.n v (c v pass y))
      ])
    ];
    less = (
        let l : unmarked known' + 1 ≤ unmarked known = (let k = x.less refl in omega (arith, k)) in
        let k = mul-le-mul_left (length plan.readers.pairs.items + 1) l in
        let f = adds.few in
        omega (arith, k, f, short));
  }
    where
      stays : (b : Assign) → (Names (assign_of b) a.target.n → ⊥)
          → ((v : Value) → PassesConditions (Knows values known) (assign_of b).conditions
          → Yields (Knows values known) (out-Expr ℕ (assign_of b).value) v → Knows values' known' b.target.n v)
          → HasAll (Knows values' known') (assign_of b)
      stays b lacks has v pass y = has v
          (passes_named (λ i w d h. old i w (λ e. lacks (subst (λ (z : ℕ). Names (assign_of b) z) e (inr d))) h) pass)
          (yields_named (λ i w d h. old i w (λ e. lacks (subst (λ (z : ℕ). Names (assign_of b) z) e (inl d))) h) y)
        where
          old : (i : ℕ) (w : Value) → (i ≡ a.target.n → ⊥) → Knows values' known' i w → Knows values known i w
          old i w f k = elim (x.only i w k) [ inl h ↦ h | inr h ↦ absurd (f h.0) ]

      waits : (m : ℕ) (b : Assign) → Stands p.assigns.items m b → ReaderOf plan.readers.pairs.items a.target.n m
          → WaitsInQueue plan work' m
      waits m b sb r =
          let q = stands_some plan.places.items m (let h = stands_within p.assigns.items m b sb in omega (arith, h, is.schedule.long)) in
          record {
            place = q.0;
            stands = q.1;
            waits = adds.adds q.0 (record {
              pair = r.pair;
              is_one = all r.pair r.is_one r.variable;
              stands = subst (λ (z : ℕ). Stands plan.places.items z q.0) (sym r.assign) q.1;
            });
          }

      again : (m : ℕ) (b : Assign) → Stands p.assigns.items m b
          → ((v : Value) → PassesConditions (Knows values known) (assign_of b).conditions
          → Yields (Knows values known) (out-Expr ℕ (assign_of b).value) v → Knows values' known' b.target.n v)
          → WaitsInQueue plan work' m ⊎ HasAll (Knows values' known') (assign_of b)
      again m b sb has = elim (reader_or_not plan.readers.pairs.items a.target.n m) [
        | inl r ↦ inl (waits m b sb r)
        | inr f ↦ inr (stays b (λ d. f (reader_of p plan.readers.pairs.items is.readers a.target.n m b sb d)) has)
      ]

-- values that are total stay so
pub touches_total : (p : GtsParts) (t : ℕ) (x : Variable) (values : List Value) (known : List Bool)
    (values' : List Value) (known' : List Bool) → Stands p.variables.items t x
    → Touches x.domain t values known values' known' → IsTotal p values → IsTotal p values'
touches_total p t x values known values' known' sx m total =
    record { long = m.of_values.long ∙ total.long; in_domain = λ n y v sy sv. at n y v sy sv (cases_eq n t) }
  where
    at : (n : ℕ) (y : Variable) (v : Value) → Stands p.variables.items n y → Stands values' n v → (n ≡ t) ⊎ (n ≡ t → ⊥)
        → Holds y.domain v
    at n y v sy sv (inl e) =
        let same : x ≡ y = stands_one p.variables.items t x y sx
        (subst (λ (z : ℕ). Stands p.variables.items z y) e sy) in
        let held : Holds x.domain v = elim (m.held v (subst (λ (z : ℕ). Stands values' z v) e sv))
        [ inl h ↦ total.in_domain t x v sx h | inr h ↦ h ] in
        subst (λ (z : Variable). Holds z.domain v) same held
    at n y v sy sv (inr f) = total.in_domain n y v sy (sym (m.of_values.others n (λ o. f (only n o))) ∙ sv)
      where
        only : (n : ℕ) → IsOneOf (t ∷ []) n → n ≡ t
        only n o = elim (one_cases t [] n o) [ inl e ↦ sym e | inr k ↦ absurd (one_none n k) ]

-- what is new is a fact where what was known are facts
pub looks_sound : (p : GtsParts) (u : List Value) (n : ℕ) (values : List Value) (known : List Bool)
    (values' : List Value) (known' : List Bool) → IsTotal p values'
    → ((m : ℕ) (v : Value) → Knows values known m v → FactOf (net_of p) u m v)
    → ((m : ℕ) (v : Value) → Knows values' known' m v → Knows values known m v ⊎ IsYieldedAnew p n values known m v)
    → (m : ℕ) (v : Value) → Knows values' known' m v → FactOf (net_of p) u m v
looks_sound p u n values known values' known' total sound only m v k =
    elim (only m v k) [ inl h ↦ sound m v h | inr h ↦ new h ]
  where
    new : IsYieldedAnew p n values known m v → FactOf (net_of p) u m v
    new h =
        let x = stands_some p.variables.items m (let w = stands_within values' m v k.value in omega (arith, w, total.long)) in
        let allowed : Allows (net_of p) m v =
        allowed_from (net_of p) (are_numbered p) m (variable_of m x.0) v (variable_there p m x.0 x.1)
        (listed x.0.domain v (total.in_domain m x.0 v x.1 k.value)) in
        let there : Allows (net_of p) h.assign.target.n v = subst (λ (z : ℕ). Allows (net_of p) z v) h.is allowed in
        subst (λ (z : ℕ). FactOf (net_of p) u z v) (sym h.is)
        (closed (net_of p).assertions (Allows (net_of p)) (HasStateValue (net_of p) u) (assign_of h.assign) v
        (record { place = n; stands = stands_map assign_of p.assigns.items n h.assign h.stands })
        (passes_more ℕ (Knows values known) (FactOf (net_of p) u) sound h.passes)
        (yields_more ℕ (Knows values known) (FactOf (net_of p) u) sound h.yields) there)

-- what is settled once the next assignment was taken
pub taken : (p : GtsParts) (plan : Plan) (work new : Queue) (place n : ℕ) → IsPlan p plan
    → Stands plan.order.items place n → TakesPlace place work new → (facts : ℕ → Value → Type 0) (m : ℕ) (a : Assign)
    → WaitsInQueue plan work m ⊎ HasAll facts (assign_of a) → (m ≡ n) ⊎ (WaitsInQueue plan new m ⊎ HasAll facts (assign_of a))
taken p plan work new place n is st t facts m a (inr h) = inr (inr h)
taken p plan work new place n is st t facts m a (inl w) = elim (t.others w.place w.waits) [
  | inl e ↦ inl (stands_one plan.order.items place m n
      (subst (λ (z : ℕ). Stands plan.order.items z m) e (is.schedule.placed m w.place w.stands)) st)
  | inr k ↦ inr (inl (record { place = w.place; stands = w.stands; waits = k }))
]
