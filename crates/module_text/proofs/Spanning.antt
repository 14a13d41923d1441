-- Events gathered in the ranges of units: what each step adds, and that all of them are there in the end.
use Rattle.std.proofs.Common.{◌≡◌, ◌↔◌, ◌⊎◌, inl, inr, ⊎_elim, ℕ, suc, ◌+◌, ◌-◌, ◌<◌, ◌≤◌, true, List, length, Some, refl, sym, ◌∙◌, subst, arith}
use Rattle.std.proofs.lemmas.Bool.{cases_lt}
use Rattle.ar_base.specs.Lists.{Stands}
use Rattle.ar_base.specs.NumbersInside.{UnitId}
use Rattle.ar_base.proofs.Standing.{stands_one, stands_within, at_most}
use Rattle.hierarchy.specs.declared.tree.MemNode.{MemNode}
use Rattle.hierarchy.specs.declared.tree.UnitNode.{UnitNode}
use Rattle.gate_modules.specs.Modules.{lies, Covers}
use Rattle.gate_modules.specs.ModulesInside.{AreRanges, ShareNoEvent, HasEvents}
use Rattle.gate_modules.specs.declared.ranges.Range.{Range}
use Rattle.gate_modules.proofs.Exchange.{lies_in, in_lies}
use Rattle.module_text.specs.Spans.{StandBehindOwners, IsOver, here, above, IsOf, GainsAt, AllGain, IsAt, IsAtOver, IsAtFirst, IsEmpty, AreEmptyRanges}

-- a range with events whose events are all of the other one lies within it
pub covers_by : (a b : Range) → ((y : ℕ) → lies b y ≡ true → lies a y ≡ true) → HasEvents b → Covers a b
covers_by a b more some =
    let first = in_lies a b.from (more b.from (lies_in b b.from (omega arith) some)) in
    let last = in_lies a (b.to - 1)
    (more (b.to - 1) (lies_in b (b.to - 1) (omega (arith, some)) (omega (arith, some)))) in
    (first.0, (let m = last.1 in omega (arith, m, some)))

-- ranges that are nested where they have a common event are nested or apart
pub nested_by : (a b : Range) → ((x : ℕ) → lies a x ≡ true → lies b x ≡ true → Covers a b) → HasEvents a → HasEvents b
    → ShareNoEvent a b ⊎ Covers a b
nested_by a b covers p q = by (cases_lt a.from b.to) (cases_lt b.from a.to) (cases_lt a.from b.from)
  where
    by : (a.from < b.to) ⊎ (b.to ≤ a.from) → (b.from < a.to) ⊎ (a.to ≤ b.from)
        → (a.from < b.from) ⊎ (b.from ≤ a.from) → ShareNoEvent a b ⊎ Covers a b
    by (inr m) n o = inl (λ e g h. let x = in_lies a e g in let y = in_lies b e h in omega (arith, m, x.0, y.1))
    by (inl m) (inr n) o = inl (λ e g h. let x = in_lies a e g in let y = in_lies b e h in omega (arith, n, x.1, y.0))
    by (inl m) (inl n) (inl o) = inr (covers b.from (lies_in a b.from (omega (arith, o)) n)
        (lies_in b b.from (omega arith) q))
    by (inl m) (inl n) (inr o) = inr (covers a.from (lies_in a a.from (omega arith) p) (lies_in b a.from o m))

pub gains_none : (P : ℕ → ℕ → Type 0) (xs : List Range) → ((k x : ℕ) → P k x → ⊥) → AllGain P xs xs
gains_none P xs never = record {
  long = refl;
  each = λ k r s. record {
    before = r;
    stood = s;
    gains = record { unit = refl; events = λ x. ((λ h. inl h), (λ o. ⊎_elim (λ h. h) (λ p. absurd (never k x p)) o)) };
  };
}

pub gains_both : (P Q R : ℕ → ℕ → Type 0) (a b c : List Range) → ((k x : ℕ) → R k x ↔ (P k x ⊎ Q k x)) → AllGain P a b
    → AllGain Q b c → AllGain R a c
gains_both P Q R a b c is g h = record {
  long = h.long ∙ g.long;
  each = λ k r s.
      let t = h.each k r s in
      let u = g.each k t.before t.stood in
      record {
        before = u.before;
        stood = u.stood;
        gains = record {
          unit = t.gains.unit ∙ u.gains.unit;
          events = λ x. (
            (λ l. ⊎_elim
                (λ m. ⊎_elim (λ n. inl n) (λ p. inr ((is k x).1 (inl p))) ((u.gains.events x).0 m))
                (λ q. inr ((is k x).1 (inr q))) ((t.gains.events x).0 l)),
            (λ o. ⊎_elim
                (λ m. (t.gains.events x).1 (inl ((u.gains.events x).1 (inl m))))
                (λ w. ⊎_elim (λ p. (t.gains.events x).1 (inl ((u.gains.events x).1 (inr p))))
                (λ q. (t.gains.events x).1 (inr q)) ((is k x).0 w)) o),
          );
        };
      };
}

module _ (nodes : List UnitNode) where
  over_owned : (k u : ℕ) (d : UnitNode) (o : UnitId) → Stands nodes u d → d.owner ≡ Some o → IsOver nodes k u
      → (k ≡ u) ⊎ IsOver nodes k o.n
  over_owned k u d o s e (here t f) = inl refl
  over_owned k u d o s e (above {d = c} {o = p} t f h) =
      let same : c ≡ d = stands_one nodes u c d t s in
      let owned : p ≡ o = cc in
      inr (subst (λ (z : UnitId). IsOver nodes k z.n) owned h)

  -- the event of a unit is one of the unit and one of the unit above it
  pub gains_up : (u e p : ℕ) (d : UnitNode) (o : UnitId) (xs ys zs : List Range) → Stands nodes u d → d.owner ≡ Some o
      → p + 1 ≡ u → AllGain (IsAt p e) xs ys → AllGain (IsAtOver nodes o.n e) ys zs
      → AllGain (IsAtOver nodes u e) xs zs
  gains_up u e p d o xs ys zs s f q g h = gains_both (IsAt p e) (IsAtOver nodes o.n e) (IsAtOver nodes u e) xs ys zs
      (λ k x. (
        (λ w. ⊎_elim (λ (z : suc k ≡ u). inl (w.0, omega (arith, z, q))) (λ z. inr (w.0, z))
            (over_owned (suc k) u d o s f w.1)),
        (λ w. ⊎_elim
            (λ (z : IsAt p e k x). (
              z.0,
              (let same : u ≡ suc k = (let z1 = z.1 in omega (arith, z1, q)) in
                  subst (λ (n : ℕ). IsOver nodes (suc k) n) (sym same)
                  (here (subst (λ (n : ℕ). Stands nodes n d) same s) f)),
            ))
            (λ (z : IsAtOver nodes o.n e k x). (z.0, above s f z.1)) w),
      )) g h

  over_both : {j k u : ℕ} → IsOver nodes j u → IsOver nodes k u → IsOver nodes j k ⊎ IsOver nodes k j
  over_both (here s e) h = inr h
  over_both (above s e g) (here t f) = inl (above s e g)
  over_both {j = j} {k = k} {u = u} (above {d = d} {o = o} s e g) (above {d = c} {o = p} t f h) =
      let same : c ≡ d = stands_one nodes u c d t s in
      let owned : p ≡ o = cc in
      over_both g (subst (λ (z : UnitId). IsOver nodes k z.n) owned h)

  over_more : {j k u : ℕ} → IsOver nodes j k → IsOver nodes k u → IsOver nodes j u
  over_more g (here s e) = g
  over_more g (above s e h) = above s e (over_more g h)

  pub over_least : StandBehindOwners nodes → {k u : ℕ} → IsOver nodes k u → k ≤ u
  over_least b {k = k} (here s e) = omega arith
  over_least b {k = k} {u = u} (above {d = d} {o = o} s e h) =
      let l = b.each u d o s e in let m = over_least b h in omega (arith, l, m)

  module _ (events : List MemNode) where
    pub gathered_none : (xs : List Range) → AllGain (IsAtFirst nodes events 0) xs xs
    gathered_none xs = gains_none (IsAtFirst nodes events 0) xs (λ k x w. let l = w.0 in omega (arith, l))

    -- one event more
    pub gathered_next : (n : ℕ) (d : MemNode) (xs ys zs : List Range) → Stands events n d
        → AllGain (IsAtFirst nodes events n) xs ys → AllGain (IsAtOver nodes d.unit.n n) ys zs
        → AllGain (IsAtFirst nodes events (n + 1)) xs zs
    gathered_next n d xs ys zs s g h = gains_both (IsAtFirst nodes events n) (IsAtOver nodes d.unit.n n)
        (IsAtFirst nodes events (n + 1)) xs ys zs
        (λ k x. ((λ w. into k x w (at_most x n w.0)), (λ w. back k x w))) g h
      where
        into : (k x : ℕ) → IsAtFirst nodes events (n + 1) k x → (x < n) ⊎ (x ≡ n)
            → IsAtFirst nodes events n k x ⊎ IsAtOver nodes d.unit.n n k x
        into k x w (inl l) = inl (l, w.1)
        into k x w (inr e) =
            let same : w.1.event ≡ d = stands_one events n w.1.event d
            (subst (λ (z : ℕ). Stands events z w.1.event) e w.1.is_event) s in
            inr (e, subst (λ (z : MemNode). IsOver nodes (suc k) z.unit.n) same w.1.over)

        back : (k x : ℕ) → IsAtFirst nodes events n k x ⊎ IsAtOver nodes d.unit.n n k x
            → IsAtFirst nodes events (n + 1) k x
        back k x (inl w) = ((let l = w.0 in omega (arith, l)), w.1)
        back k x (inr w) = (
          (let e = w.0 in omega (arith, e)),
          record { event = d; is_event = subst (λ (z : ℕ). Stands events z d) (sym w.0) s; over = w.1 },
        )

    -- the range is that of the unit behind number k, with all of its events
    pub record IsSpan (k : ℕ) (r : Range) : Type 0 where
      pub unit : r.unit.n ≡ suc k
      pub has : (x : ℕ) → (lies r x ≡ true) ↔ IsOf nodes events (suc k) x

    -- the ranges are those of the units behind the first
    pub record AreSpans (ranges : List Range) : Type 0 where
      pub long : 0 < length nodes → length ranges + 1 ≡ length nodes
      pub each : (k : ℕ) (r : Range) → Stands ranges k r → IsSpan k r

    pub all_gathered : (n : ℕ) (xs ys : List Range) → length events ≤ n → AreEmptyRanges (length nodes) xs
        → AllGain (IsAtFirst nodes events n) xs ys → AreSpans ys
    all_gathered n xs ys l empty g = record {
      long = λ some. let h = empty.long some in let e = g.long in omega (arith, h, e);
      each = λ k r s. let t = g.each k r s in span k r t (empty.each k t.before t.stood);
    }
      where
        span : (k : ℕ) (r : Range) (t : GainsAt (IsAtFirst nodes events n) xs k r) → IsEmpty k t.before → IsSpan k r
        span k r t e = record {
          unit = t.gains.unit ∙ e.unit;
          has = λ x. (
            (λ h. ⊎_elim
                (λ m. absurd (let i = in_lies t.before x m in let f = e.to in omega (arith, i.1, f)))
                (λ w. w.1) ((t.gains.events x).0 h)),
            (λ o. (t.gains.events x).1 (inr (omega (arith, stands_within events x o.event o.is_event, l), o))),
          );
        }

    module _ (below : StandBehindOwners nodes) (ranges : List Range) (spans : AreSpans ranges) where
      -- two units of which both have an event: the one with the lesser number is above the other
      over_of_both : (j k x : ℕ) → j < k → IsOf nodes events j x → IsOf nodes events k x → IsOver nodes j k
      over_of_both j k x l a b =
          let same : b.event ≡ a.event = stands_one events x b.event a.event b.is_event a.is_event in
          ⊎_elim (λ o. o) (λ o. absurd (let m = over_least below o in omega (arith, l, m)))
          (over_both a.over (subst (λ (z : MemNode). IsOver nodes k z.unit.n) same b.over))

      covers : (j k x : ℕ) (a b : Range) → j < k → IsSpan j a → IsSpan k b → HasEvents b → lies a x ≡ true
          → lies b x ≡ true → Covers a b
      covers j k x a b l s t some p q =
          let o = over_of_both (suc j) (suc k) x (omega (arith, l)) ((s.has x).0 p) ((t.has x).0 q) in
          let more : (y : ℕ) → lies b y ≡ true → lies a y ≡ true = λ y h. let i = (t.has y).0 h in
          (s.has y).1 (record { event = i.event; is_event = i.is_event; over = over_more o i.over }) in
          covers_by a b more some

      nested : (j k : ℕ) (a b : Range) → j < k → IsSpan j a → IsSpan k b → HasEvents a → HasEvents b
          → ShareNoEvent a b ⊎ Covers a b
      nested j k a b l s t p q = nested_by a b (λ x g h. covers j k x a b l s t q g h) p q

      pub spans_are_ranges : AreRanges ranges
      spans_are_ranges = record {
        ascend = λ j k a b l s t.
            let p = (spans.each j a s).unit in let q = (spans.each k b t).unit in omega (arith, l, p, q);
        nested = λ j k a b l s t p q. nested j k a b l (spans.each j a s) (spans.each k b t) p q;
      }
