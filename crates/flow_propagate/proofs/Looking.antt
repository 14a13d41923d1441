-- Assignments that are looked at again.
use Rattle.std.proofs.Common.{◌≡◌, ℕ, zero, suc, ◌+◌, ◌*◌, ◌<◌, ◌≤◌, ◌⊎◌, inl, inr, Bool, true, false, List, [], ◌∷◌, length, Some, refl, sym, ap, ◌∙◌, subst, arith}
use Rattle.std.proofs.Math.Nat.{mul-le-mul_left}
use Rattle.ar_base.specs.Lists.{Stands, IsOneOf}
use Rattle.ar_base.proofs.Standing.{stands_none, stands_one, stands_map_back}
use Rattle.domains.specs.declared.Value.{Value}
use Rattle.typed_expr.specs.Yields.{Yields}
use Rattle.typed_expr.proofs.Facts.{yields_named}
use Rattle.typed_expr.specs.declared.expr.Expr.{out-Expr}
use Rattle.ar_meaning.specs.Systems as s
use Rattle.ar_meaning.specs.Facts.{PassesConditions, Allows, HasStateValue}
use Rattle.ar_meaning.proofs.Least.{least}
use Rattle.gts_core.specs.View.{assign_of, net_of}
use Rattle.gts_core.specs.declared.system.Assign.{Assign}
use Rattle.gts_core.specs.declared.system.GtsParts.{GtsParts}
use Rattle.ar_meaning.specs.Dependence.{Names}
use Rattle.ar_meaning.proofs.Dependence.{passes_named}
use Rattle.flow_propagate.specs.Plan.{AreReaders}
use Rattle.typed_expr.specs.Rows.{Rows}
use Rattle.flow_propagate.specs.Table.{TableHolds, IsClosed, IsSoundTable, AreFacts}
use Rattle.flow_propagate.specs.Closing.{AppliesAssignment, Waits, IsWorklist, TakesAssignment, AddsWork, IsWorkSettled, LooksAt, closing_work_left, missing}
use Rattle.flow_propagate.specs.declared.worklist.Worklist.{Worklist}
use Rattle.flow_propagate.proofs.ReaderPairs.{pair_eq, pair_same, pair_equiv}
use Rattle.flow_propagate.proofs.Numbered.{read_there}

-- an assignment that does not name the target keeps what it has
stays : (p : GtsParts) (a b : Assign) (old new : Rows) (changed : Bool) → AppliesAssignment p a old new changed
    → (Names (assign_of b) a.target.n → ⊥)
    → ((v : Value) → PassesConditions (TableHolds old) (assign_of b).conditions
    → Yields (TableHolds old) (out-Expr ℕ (assign_of b).value) v
    → Allows (net_of p) b.target.n v → TableHolds new b.target.n v) → IsClosed (net_of p) new (assign_of b)
stays p a b old new changed m lacks has v pass y al =
    has v (passes_named (λ x w d h. m.others x w h (λ e. lacks (subst (λ (z : ℕ). Names (assign_of b) z) e (inr d))))
    pass)
    (yields_named (λ x w d h. m.others x w h (λ e. lacks (subst (λ (z : ℕ). Names (assign_of b) z) e (inl d)))) y) al

pub same_or_not : (q r : ℕ × ℕ) → (q ≡ r) ⊎ (q ≡ r → ⊥)
same_or_not q r = go (pair_eq q r) refl
  where
    go : (b : Bool) → pair_eq q r ≡ b → (q ≡ r) ⊎ (q ≡ r → ⊥)
    go true e = inl (pair_same q r e)
    go false e = inr (λ i. let same : pair_eq q r ≡ true = subst (λ (z : ℕ × ℕ). pair_eq q z ≡ true) i (pair_equiv.refl q) in cc (sym e ∙ same))

pub one_or_not : (xs : List (ℕ × ℕ)) (q : ℕ × ℕ) → IsOneOf xs q ⊎ (IsOneOf xs q → ⊥)
one_or_not [] q = inr (λ o. stands_none o.place q o.stands)
one_or_not (x ∷ xs) q = go (same_or_not x q) (one_or_not xs q)
  where
    at : (k : ℕ) → (x ≡ q → ⊥) → (IsOneOf xs q → ⊥) → Stands (x ∷ xs) k q → ⊥
    at zero f g st = f (cc)
    at (suc k) f g st = g (record { place = k; stands = st })

    go : (x ≡ q) ⊎ (x ≡ q → ⊥) → IsOneOf xs q ⊎ (IsOneOf xs q → ⊥) → IsOneOf (x ∷ xs) q ⊎ (IsOneOf (x ∷ xs) q → ⊥)
    go (inl e) h = inl (record { place = 0; stands = ap Some e })
    go (inr f) (inl o) = inl (record { place = suc o.place; stands = o.stands })
    go (inr f) (inr g) = inr (λ o. at o.place f g o.stands)

-- the assignment's target got nothing: it has what it adds
pub looks_still : (p : GtsParts) (readers n : ℕ) (a : Assign) (old new : Rows) (work : Worklist)
    → IsWorklist (length p.assigns.items) work → Stands p.assigns.items n a → AppliesAssignment p a old new false
    → LooksAt p readers n old work new work
looks_still p readers n a old new work w sa m = record {
  moves = m.moves;
  is = w;
  settled = λ h k b st. elim (h k b st) [
    | inl e ↦ inr (here k b e st)
    | inr x ↦ (elim x [
      | inl y ↦ inl y
      | inr c ↦ inr
          (subst (λ (z : Rows). IsClosed (net_of p) z (assign_of b)) (sym same) c)
    ])
  ];
  less = (let e : missing p new ≡ missing p old = ap (λ (z : Rows). missing p z) same in let f : (readers + 1) * missing p new ≡ (readers + 1) * missing p old = ap (λ (z : ℕ). (readers + 1) * z) e in omega (arith, f));
}
  where
    same : new ≡ old
    same = m.still refl

    mine : IsClosed (net_of p) old (assign_of a)
    mine v pass y al = subst (λ (z : Rows). TableHolds z a.target.n v) same (m.done v pass y al)

    here : (k : ℕ) (b : Assign) → k ≡ n → Stands p.assigns.items k b → IsClosed (net_of p) new (assign_of b)
    here k b e st =
        let one : a ≡ b = stands_one p.assigns.items n a b sa (subst (λ (z : ℕ). Stands p.assigns.items z b) e st) in
        subst (λ (z : Assign). IsClosed (net_of p) new (assign_of z)) one
        (subst (λ (z : Rows). IsClosed (net_of p) z (assign_of a)) (sym same) mine)

-- the assignment's target got a value: the readers of the target wait
pub looks_more : (p : GtsParts) (readers : List (ℕ × ℕ)) (most n : ℕ) (a : Assign) (old new : Rows)
    (before after : Worklist) → AreReaders p readers → Stands p.assigns.items n a → AppliesAssignment p a old new true
    → AddsWork (length p.assigns.items) most (λ m. IsOneOf readers (a.target.n, m)) before after
    → LooksAt p most n old before new after
looks_more p readers most n a old new before after r sa m w = record {
  moves = m.moves;
  is = w.is;
  settled = λ h k b st. elim (h k b st) [
    | inl e ↦ again k b st (mine k b e st)
    | inr x ↦ (elim x [
      | inl y ↦ inl (w.keeps k y)
      | inr c ↦ again k b st (λ v pass y al. m.moves.grows b.target.n v (c v pass y al))
    ])
  ];
  less = (
      let l : missing p new + 1 ≤ missing p old = (let k = m.less refl in omega (arith, k)) in
      let k = mul-le-mul_left (most + 1) l in
      let f = w.few in
      omega (arith, k, f));
}
  where
    again : (k : ℕ) (b : Assign) → Stands p.assigns.items k b
        → ((v : Value) → PassesConditions (TableHolds old) (assign_of b).conditions
        → Yields (TableHolds old) (out-Expr ℕ (assign_of b).value) v → Allows (net_of p) b.target.n v
        → TableHolds new b.target.n v) → Waits after k ⊎ IsClosed (net_of p) new (assign_of b)
    again k b st has = elim (one_or_not readers (a.target.n, k)) [
      | inl o ↦ inl (w.adds k o)
      | inr f ↦ inr (stays p a b old new true m
          (λ d. f (r.all a.target.n k (read_there p a.target.n k (record { assign = b; stands = st; names = d })))) has)
    ]

    mine : (k : ℕ) (b : Assign) → k ≡ n → Stands p.assigns.items k b → (v : Value)
        → PassesConditions (TableHolds old) (assign_of b).conditions → Yields (TableHolds old) (out-Expr ℕ (assign_of b).value) v
        → Allows (net_of p) b.target.n v → TableHolds new b.target.n v
    mine k b e st =
        let one : a ≡ b = stands_one p.assigns.items n a b sa (subst (λ (z : ℕ). Stands p.assigns.items z b) e st) in
        let P : Assign → Type 0 = λ z. (v : Value) → PassesConditions (TableHolds old) (assign_of z).conditions
        → Yields (TableHolds old) (out-Expr ℕ (assign_of z).value) v → Allows (net_of p) z.target.n v
        → TableHolds new z.target.n v in
        subst P one m.done

-- what is settled once the next assignment was taken
pub taken : (p : GtsParts) (count n : ℕ) (rows : Rows) (old new : Worklist) → IsWorkSettled p rows old
    → TakesAssignment count n old new → (m : ℕ) (a : Assign) → Stands p.assigns.items m a
    → (m ≡ n) ⊎ (Waits new m ⊎ IsClosed (net_of p) rows (assign_of a))
taken p count n rows old new h t m a st = elim (h m a st) [
  | inl w ↦ (elim (t.others m w) [ inl e ↦ inl e | inr k ↦ inr (inl k) ])
  | inr c ↦ inr (inr c)
]

-- where none waits, each assignment has what it adds
pub all_closed : (p : GtsParts) (rows : Rows) (work : Worklist) → IsWorkSettled p rows work → ((n : ℕ) → Waits work n → ⊥)
    → (n : ℕ) (a : Assign) → Stands p.assigns.items n a → IsClosed (net_of p) rows (assign_of a)
all_closed p rows work h lacks n a st = elim (h n a st) [ inl w ↦ absurd (lacks n w) | inr c ↦ c ]

-- a sound table that holds what is given and is closed has exactly the facts
pub are_facts : (p : GtsParts) (t : List Value) (rows : Rows) → IsSoundTable (net_of p) t rows
    → ((n : ℕ) (v : Value) → HasStateValue (net_of p) t n v → TableHolds rows n v)
    → ((n : ℕ) (a : Assign) → Stands p.assigns.items n a → IsClosed (net_of p) rows (assign_of a))
    → AreFacts (net_of p) t rows
are_facts p t rows sound given c = record {
  sound = sound;
  complete = least (net_of p).assertions (Allows (net_of p)) (HasStateValue (net_of p) t) (TableHolds rows) given
      (λ a v i q y al. closed a i v q y al);
}
  where
    closed : (a : s.Assign ℕ) → IsOneOf (net_of p).assertions a → IsClosed (net_of p) rows a
    closed a i =
        let r = stands_map_back assign_of p.assigns.items i.place a i.stands in
        subst (λ (z : s.Assign ℕ). IsClosed (net_of p) rows z) r.2 (c i.place r.0 r.1)

-- a look after a taking leaves less to do
pub left_less : (p : GtsParts) (readers count n : ℕ) (old new : Rows) (first mid after : Worklist)
    → TakesAssignment count n first mid → LooksAt p readers n old mid new after
    → closing_work_left p readers new after < closing_work_left p readers old first
left_less p readers count n old new first mid after t l = let a = t.less in let b = l.less in omega (arith, a, b)
