-- The short forms in the text of modules stand for the cuts of the source.
use Rattle.std.proofs.Common.{◌≡◌, inl, inr, ℕ, suc, ◌<◌, ◌≤◌, true, List, [], ◌∷◌, ◌++◌, length, Less, refl, subst, arith}
use Rattle.std.specs.List.{AllByRecursion}
use Rattle.std.proofs.lemmas.Bool.{cases_lt}
use Rattle.domains.specs.declared.Value.{Value}
use Rattle.ar_base.specs.Lists.{Stands}
use Rattle.ar_base.specs.Sets.{Ascends, IsBefore}
use Rattle.ar_base.proofs.Standing.{stands_one}
use Rattle.typed_expr.specs.declared.expr.Expr.{Expr}
use Rattle.hierarchy.specs.Listing.{AreUnits, events}
use Rattle.hierarchy.specs.Models.{RootedModel}
use Rattle.hierarchy.specs.ModelsInside.{KeepsTextRules}
use Rattle.hierarchy.specs.Units.{UnitLevel, UnitPath, Thing}
use Rattle.hierarchy.proofs.Apart.{units_different}
use Rattle.hierarchy.proofs.Places.{IsUnder}
use Rattle.gts_flatten.specs.Elaborating.{Elaborated}
use Rattle.zdd_nodes.specs.Families.{Family}
use Rattle.zdd_nodes.specs.FamiliesInside.{IsFamily, order}
use Rattle.zdd_nodes.proofs.Members.{order_law}
use Rattle.gate_modules.specs.Choices.{StandFor}
use Rattle.gate_modules.specs.Modules.{lies, Covers}
use Rattle.gate_modules.specs.ModulesInside.{AreRanges, HasEvents}
use Rattle.gate_modules.specs.declared.ranges.Range.{Range}
use Rattle.gate_modules.proofs.Standing.{stand_for}
use Rattle.module_text.specs.Ranges.{HasEvent, IsRangeOf, AreRangesOf}
use Rattle.module_text.specs.Texts.{IsModuleText}
use Rattle.module_text.proofs.DepthFirst.{round_both, under_through}
use Rattle.module_text.proofs.Spanning.{covers_by, nested_by}
use Rattle.module_text.proofs.UnitSpans.{lists_before}

-- ---- listed sets are a family
all_places : (P : List ℕ → Type 0) (f : Family) → ((k : ℕ) (s : List ℕ) → Stands f k s → P s) → AllByRecursion P f
all_places P [] h = tt
all_places P (s ∷ f) h = (h 0 s refl, all_places P f (λ k t i. h (suc k) t i))

pub listed_family : (f : Family) → ((k : ℕ) (s : List ℕ) → Stands f k s → Ascends s)
    → ((j k : ℕ) (s t : List ℕ) → j < k → Stands f j s → Stands f k t → IsBefore s t) → IsFamily f
listed_family [] up before = record { ascending = tt; in_order = tt }
listed_family (s ∷ f) up before =
    let rest = listed_family f (λ k t i. up (suc k) t i)
    (λ j k t u l i h. before (suc j) (suc k) t u (omega (arith, l)) i h) in
    record {
      ascending = (up 0 s refl, rest.ascending);
      in_order = (
        all_places (λ t. order s t ≡ Less) f
            (λ k t i. (order_law s t (up 0 s refl) (up (suc k) t i)).1 (before 0 (suc k) s t (omega arith) refl i)),
        rest.in_order,
      );
    }

-- ---- the ranges of units are nested or apart
module _ (m : RootedModel) (units : List UnitPath) (kept : KeepsTextRules m) (are : AreUnits m units) where
  -- a unit round one of the list stands no later
  outer_stands : (levels : List UnitLevel) (v : UnitPath) (i : ℕ) → Stands units i (levels ++ v)
      → (j : ℕ) × (j ≤ i) × Stands units j v
  outer_stands [] v i s = (i, omega arith, s)
  outer_stands (l ∷ levels) v i s = elim (lists_before are i l (levels ++ v) s) [
    | inl e ↦ cc
    | inr b ↦ (let t = outer_stands levels v b.0 b.2 in (t.0, (let p = b.1 in let q = t.1 in omega (arith, p, q)), t.2))
  ]

  outer_first : (u v : UnitPath) (i j : ℕ) → IsUnder v u → Stands units i u → Stands units j v → j ≤ i
  outer_first u v i j h s t =
      let o = outer_stands h.levels v i (subst (λ (z : UnitPath). Stands units i z) h.is s) in
      let e : j ≡ o.0 = (units_different kept are).one j o.0 v t o.2 in
      (let p = o.1 in omega (arith, e, p))

  -- an event of a unit, by the unit
  under : (k e : ℕ) (h : HasEvent m units k e) → IsUnder h.unit h.event.unit
  under k e h = record { levels = h.within; is = h.is_within }

  -- of two units with a common event the first is round the other
  round : (j k x : ℕ) → j < k → (g : HasEvent m units j x) (h : HasEvent m units k x) → IsUnder g.unit h.unit
  round j k x l g h =
      let same : h.event ≡ g.event = stands_one (events m units) x h.event g.event h.is_event g.is_event in
      let inner : IsUnder h.unit g.event.unit = subst (λ (z : Thing). IsUnder h.unit z.unit) same (under k x h) in
      elim (cases_lt (length h.unit) (length g.unit)) [
        | inl n ↦ absurd (let o = outer_first g.unit h.unit j k (round_both inner (under j x g) (omega (arith, n))) g.is_unit h.is_unit in omega (arith, l, o))
        | inr n ↦ round_both (under j x g) inner n
      ]

  covers : (j k x : ℕ) (a b : Range) → j < k → IsRangeOf m units j a → IsRangeOf m units k b → HasEvents b
      → lies a x ≡ true → lies b x ≡ true → Covers a b
  covers j k x a b l s t some p q =
      let g = (s.events x).0 p in
      let h = (t.events x).0 q in
      let r = round j k x l g h in
      covers_by a b (λ y n. (s.events y).1 (more g h r y ((t.events y).0 n))) some
    where
      more : (g : HasEvent m units j x) (h : HasEvent m units k x) → IsUnder g.unit h.unit → (y : ℕ)
          → HasEvent m units k y → HasEvent m units j y
      more g h r y e =
          let same : e.unit ≡ h.unit = stands_one units k e.unit h.unit e.is_unit h.is_unit in
          let w = under_through r (subst (λ (z : UnitPath). IsUnder z e.event.unit) same (under k y e)) in
          record {
            unit = g.unit;
            is_unit = g.is_unit;
            event = e.event;
            is_event = e.is_event;
            within = w.levels;
            is_within = w.is;
          }

  pub own_ranges : (ranges : List Range) → AreRangesOf m units ranges → AreRanges ranges
  own_ranges ranges is = record {
    ascend = λ j k a b l s t. let p = (is.each j a s).unit in let q = (is.each k b t).unit in omega (arith, l, p, q);
    nested = λ j k a b l s t p q. nested_by a b
        (λ x g h. covers (suc j) (suc k) x a b (omega (arith, l)) (is.each j a s) (is.each k b t) q g h) p q;
  }

pub combined : (x : Elaborated) (dropped : List ℕ) (observer : Expr Thing) (wanted : Value) (text : List ℕ)
    (t : IsModuleText x dropped observer wanted text)
    → KeepsTextRules x.declarations.model → AreUnits x.declarations.model x.declarations.units
    → StandFor t.cuts t.modules t.forms
combined x dropped observer wanted text t kept units =
    stand_for t.cuts (listed_family t.cuts t.are_listed.ascend t.are_listed.in_order) t.ranges
    (own_ranges x.declarations.model x.declarations.units kept units t.ranges t.are_ranges) t.modules t.forms t.is_short
