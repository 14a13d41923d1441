-- The ranges of the units of an event reach up to it.
use Rattle.std.proofs.Common.{◌≡◌, ◌⊎◌, inl, inr, ⊎_elim, ℕ, suc, ◌+◌, ◌-◌, ◌<◌, ◌≤◌, true, List, length, get_or, Some, refl, sym, subst, arith}
use Rattle.std.proofs.lemmas.Bool.{cases_lt}
use Rattle.ar_base.specs.Lists.{Stands}
use Rattle.ar_base.specs.NumbersInside.{UnitId}
use Rattle.ar_base.proofs.Standing.{stands_get}
use Rattle.hierarchy.specs.declared.tree.MemNode.{MemNode}
use Rattle.hierarchy.specs.declared.tree.UnitNode.{UnitNode}
use Rattle.gate_modules.specs.Modules.{lies}
use Rattle.gate_modules.specs.declared.ranges.Range.{Range}
use Rattle.gate_modules.proofs.Exchange.{lies_in, in_lies}
use Rattle.module_text.specs.Spans.{StandBehindOwners, IsOver, here, above, IsOf, Gains, AllGain, IsAt, IsAtFirst, IsEmpty, AreEmptyRanges, ReachesTo, AllReach}
use Rattle.module_text.proofs.Spanning.{over_least}

-- a range that has numbers and reaches up to the event ends before it
pub reached_end : (event : ℕ) (r : Range) → ReachesTo event r → r.from < r.to → r.to ≡ event
reached_end event r h l = ⊎_elim
    (λ e. omega (arith, e, l))
    (λ n. absurd (let i = in_lies r (suc (r.to - 1)) n in let k = i.1 in omega (arith, k, l)))
    (h.next (r.to - 1) (lies_in r (r.to - 1) (omega (arith, l)) (omega (arith, l))))

-- the next event is gathered in ranges that reach up to it
pub all_reach : (nodes : List UnitNode) (events : List MemNode) (n : ℕ) (d : MemNode) (start old : List Range)
    → ((k x y z : ℕ) → x < y → y < z → IsOf nodes events (suc k) x → IsOf nodes events (suc k) z
    → IsOf nodes events (suc k) y)
    → AreEmptyRanges (length nodes) start → Stands events n d → AllGain (IsAtFirst nodes events n) start old
    → AllReach nodes d.unit.n n old
all_reach nodes events n d start old together empty s g = record {
  each = λ k r at over. let t = g.each k r at in reaches k r t.before (empty.each k t.before t.stood) t.gains over;
}
  where
    reaches : (k : ℕ) (r before : Range) → IsEmpty k before → Gains (IsAtFirst nodes events n k) before r
        → IsOver nodes (suc k) d.unit.n → ReachesTo n r
    reaches k r before none gains over = record {
      next = λ x l. ⊎_elim
          (λ b. absurd (let i = in_lies before x b in let e = none.to in let h = i.1 in omega (arith, h, e)))
          (λ w. next x w (cases_lt (suc x) n))
          ((gains.events x).0 l);
    }
      where
        next : (x : ℕ) → IsAtFirst nodes events n k x → (suc x < n) ⊎ (n ≤ suc x)
            → (suc x ≡ n) ⊎ (lies r (suc x) ≡ true)
        next x w (inl l) = inr ((gains.events (suc x)).1
            (inr (l, together k x (suc x) n (omega arith) l w.1 (record { event = d; is_event = s; over = over }))))
        next x w (inr l) = inl (let h = w.0 in omega (arith, l, h))

-- the ranges above the unit reach up to the event as before
pub above_reach : (nodes : List UnitNode) → StandBehindOwners nodes
    → (u e p : ℕ) (d : UnitNode) (o : UnitId) (xs ys : List Range) → Stands nodes u d → d.owner ≡ Some o → p + 1 ≡ u
    → AllReach nodes u e xs → AllGain (IsAt p e) xs ys → AllReach nodes o.n e ys
above_reach nodes below u e p d o xs ys s f q h g = record {
  each = λ k r at over. let t = g.each k r at in
      let far : k ≡ p → ⊥ = λ i. (let a = over_least nodes below over in let b = below.each u d o s f in omega (arith, a, b, i, q)) in
      let old = h.each k t.before t.stood (above s f over) in
      record {
        next = λ x l. ⊎_elim
            (λ a. ⊎_elim (λ b. inl b) (λ b. inr ((t.gains.events (suc x)).1 (inl b))) (old.next x a))
            (λ w. absurd (far w.1))
            ((t.gains.events x).0 l);
      };
}

-- the unit's own range reaches up to the event
pub own_reach : (nodes : List UnitNode) (u e p : ℕ) (d : UnitNode) (o : UnitId) (xs : List Range) → Stands nodes u d
    → d.owner ≡ Some o → p + 1 ≡ u
    → AllReach nodes u e xs → (r : Range) → Stands xs p r → ReachesTo e r
own_reach nodes u e p d o xs s f q h r at =
    let same : u ≡ suc p = omega (arith, q) in
    h.each p r at (subst (λ n. IsOver nodes (suc p) n) (sym same) (here (subst (λ n. Stands nodes n d) same s) f))

-- a range that reaches up to the event, with the event besides
pub longer : (event : ℕ) (r : Range) → ReachesTo event r → r.from < r.to
    → Gains (λ x. x ≡ event) r (record { unit = r.unit; from = r.from; to = event + 1 })
longer event r h l = record { unit = refl; events = λ x. (there x, back x) }
  where
    new : Range
    new = record { unit = r.unit; from = r.from; to = event + 1 }

    there : (x : ℕ) → lies new x ≡ true → (lies r x ≡ true) ⊎ (x ≡ event)
    there x k =
        let i = in_lies new x k in
        let e = reached_end event r h l in
        elim (cases_lt x event) [
          | inl m ↦ inl (lies_in r x i.0 (omega (arith, m, e)))
          | inr m ↦ inr (let j = i.1 in omega (arith, m, j))
        ]

    back : (x : ℕ) → (lies r x ≡ true) ⊎ (x ≡ event) → lies new x ≡ true
    back x (inl k) = let i = in_lies r x k in let e = reached_end event r h l in lies_in new x i.0 (let j = i.1 in omega (arith, j, e))
    back x (inr k) = let e = reached_end event r h l in lies_in new x (omega (arith, k, e, l)) (omega (arith, k))

-- the node of a unit that has a unit above it
pub record IsInner (nodes : List UnitNode) (u : ℕ) (o : UnitId) : Type 0 where
  pub node : UnitNode
  pub stands : Stands nodes u node
  pub owner : node.owner ≡ Some o

pub inner_node : (nodes : List UnitNode) (u : ℕ) (d : UnitNode) (o : UnitId) → u < length nodes
    → (get_or nodes u d).owner ≡ Some o → IsInner nodes u o
inner_node nodes u d o l e = record { node = get_or nodes u d; stands = stands_get nodes u d l; owner = e }
