-- Least sets over new numbers, and by their names.
use Rattle.std.proofs.Common.{◌≡◌, ℕ, List, Option, map, length, sym, ap, ◌∙◌, subst}
use Rattle.ar_base.specs.Lists.{Stands, IsOneOf, Along}
use Rattle.ar_base.specs.NumbersInside.{EventId}
use Rattle.ar_base.specs.Sets.{Within}
use Rattle.ar_base.proofs.Standing.{stands_one, along_back}
use Rattle.ar_firing.specs.Cuts.{IsLeast}
use Rattle.ar_firing.specs.Forest.{ModeTree}
use Rattle.zdd_nodes.specs.Families.{Family}
use Rattle.zdd_nodes.specs.FamiliesInside.{IsFamily}
use Rattle.eq_core.specs.Gates.{Operand, Gate}
use Rattle.eq_core.specs.Ordered.{AreOrdered}
use Rattle.eq_core.specs.Values.{value_at}
use Rattle.eq_core.specs.ValuesInside.{IsBelow}
use Rattle.firable_families.specs.FirableInside.{IsFirableOf, IsTrueUpTo, ListsLeastUpTo}
use Rattle.firable_families.proofs.Few.{firable_of, small_of, firable_up_to}
use Rattle.firable_families.proofs.Listing.{lists_listed, listed_lists}
use Rattle.diagram_steps.specs.declared.trees.NumberedTree.{NumberedTree}
use Rattle.mode_diagrams.specs.Numbers.{IsByModes}
use Rattle.mode_diagrams.proofs.Laws.{path_event}
use Rattle.mode_nodes.specs.Diagrams.{mode_of}
use Rattle.named_families.specs.Names.{IsNamedBy, AreNamed, HaveNames}
use Rattle.event_order.specs.Renumbered.{IsNamed, AreRenumbered, IsRenamed, IsRenamedGate}
use Rattle.event_order.specs.Ordered.{RestsOn, HasAllNames}
use Rattle.event_order.proofs.Moving.{set_old, set_new}
use Rattle.event_order.proofs.Taken.{old_event}
use Rattle.event_order.proofs.Parts.{IsPartBy, part_of, part_by_names, name_at, named_of, few_old, few_new}
use Rattle.event_order.proofs.Values.{value_same}

module _ (order : Option ℕ) (names : List EventId) (olds news : List NumberedTree) (gates renamed : List Gate)
    (root other : Operand) (ordered : AreOrdered gates) (root_in : IsBelow (length gates) root)
    (r : AreRenumbered names olds news) (all : HasAllNames names olds gates root)
    (along : Along (IsRenamedGate names) gates renamed) (is : IsRenamed names root other) (forest again : List ModeTree)
    (b : IsByModes forest olds) (c : IsByModes again news) where
  abbrev IsTrueOld : List ℕ → Type 0
  IsTrueOld = IsTrueUpTo order forest (value_at gates root)

  abbrev IsTrueNew : List ℕ → Type 0
  IsTrueNew = IsTrueUpTo order again (value_at renamed other)

  same_name : (i : ℕ) (m n : EventId) → Stands names i m → Stands names i n → m.n ≡ n.n
  same_name i m n p q = ap (λ (y : EventId). y.n) (stands_one names i m n p q)

  lacks : (s : List ℕ) → IsFirableOf forest s → (e : ℕ) → RestsOn gates root e → (IsNamed names e → ⊥) → IsOneOf s e → ⊥
  lacks s f e rests none o =
      let m = b.modes s f in
      let w = m.1.sound e o in
      none (all.each e w.0 w.1 rests w.3 (path_event w.1 e (mode_of m.0 w.0) w.4))

  same : (t s : List ℕ) → IsPartBy names t s → IsFirableOf forest s → value_at renamed other t ≡ value_at gates root s
  same t s p f = value_same names gates renamed root ordered root_in along t s p (lacks s f) other is

  -- each event of a firable set over new numbers has a name
  pub have_name : (t : List ℕ) → IsTrueNew t → (i : ℕ) → IsOneOf t i → (n : EventId) × Stands names i n
  have_name t x i o =
      let m = c.modes t (firable_of order again t x.is_firable) in
      let w = m.1.sound i o in
      let z = along_back r.places news r.trees w.0 w.1 w.3 in
      let e = old_event names z.2.old w.1 z.2.is i (path_event w.1 i (mode_of m.0 w.0) w.4) in
      (e.0, e.1)

  to_old : (t s : List ℕ) → IsTrueNew t → IsNamedBy names t s → IsTrueOld s
  to_old t s x n =
      let m = c.modes t (firable_of order again t x.is_firable) in
      let o = set_old names olds news r m.0 t s m.1 n in
      let f = b.firable o.0 s o.1 in record {
        is_firable = firable_up_to order forest s f (few_old order names t s n (small_of order again t x.is_firable));
        holds = sym (same t s (part_by_names names t s r.distinct n) f) ∙ x.holds;
      }

  to_new : (t s : List ℕ) → IsTrueOld s → IsPartBy names t s → IsTrueNew t
  to_new t s x p =
      let f = firable_of order forest s x.is_firable in
      let m = b.modes s f in
      let o = set_new names olds news r b.apart m.0 s t m.1 p in record {
        is_firable = firable_up_to order again t (c.firable o.0 t o.1)
            (few_new order names t s r.distinct p (small_of order forest s x.is_firable));
        holds = same t s p f ∙ x.holds;
      }

  -- numbers of events that are in a set are among the set's numbers
  number_in : (t s : List ℕ) → IsNamedBy names t s → (i : ℕ) (n : EventId) → Stands names i n → IsOneOf s n.n → IsOneOf t i
  number_in t s b i n st o = (part_by_names names t s r.distinct b).whole i n st o

  pub least_old : (t s : List ℕ) → IsLeast IsTrueNew t → IsNamedBy names t s → IsLeast IsTrueOld s
  least_old t s l n = record {
    has = to_old t s l.has n;
    least = λ part w p.
        let x = part_of names part in
        let down : Within x.0 t = record {
          each = λ i o. let y = x.1.sound i o in number_in t s n i y.0 y.1 (w.each y.0.n y.2);
        } in
        let up = l.least x.0 down (to_new x.0 part p x.1) in
        record {
          each = λ e o.
              let y = n.sound e o in
              let z = x.1.sound y.0 (up.each y.0 y.2) in
              subst (λ k. IsOneOf part k) (same_name y.0 z.0 y.1 z.1 y.3 ∙ y.4) z.2;
        };
  }

  pub least_new : (s : List ℕ) → IsLeast IsTrueOld s → (t : List ℕ) × IsLeast IsTrueNew t × IsNamedBy names t s
  least_new s l =
      let x = part_of names s in
      let t = x.0 in
      let p = to_new t s l.has x.1 in
      let q = map (name_at names) t in
      let n = named_of names t (λ i o. let y = x.1.sound i o in (y.0, y.1)) in
      let inside : Within q s = record {
        each = λ e o.
            let y = n.sound e o in
            let z = x.1.sound y.0 y.2 in
            subst (λ k. IsOneOf s k) (same_name y.0 z.0 y.1 z.1 y.3 ∙ y.4) z.2;
      } in
      let up = l.least q inside (to_old t q p n) in (
        t,
        record { has = p; least = λ part w y. smaller t x.1 part w y },
        record {
          sound = λ e o. n.sound e (up.each e o);
          whole = λ i o. x.1.sound i o;
        },
      )
    where
      smaller : (t : List ℕ) → IsPartBy names t s → (part : List ℕ) → Within part t → IsTrueNew part → Within t part
      smaller t x part w p =
          let q = map (name_at names) part in
          let n = named_of names part (have_name part p) in
          let inside : Within q s = record {
            each = λ e o.
                let y = n.sound e o in
                let z = x.sound y.0 (w.each y.0 y.2) in
                subst (λ k. IsOneOf s k) (same_name y.0 z.0 y.1 z.1 y.3 ∙ y.4) z.2;
          } in
          let up = l.least q inside (to_old part q p n) in
          record {
            each = λ i o.
                let y = x.sound i o in number_in part q n i y.0 y.1 (up.each y.0.n y.2);
          }

  pub least_by : (f g : Family) → ListsLeastUpTo order again (value_at renamed other) f → AreNamed names f g → IsFamily g
      → ListsLeastUpTo order forest (value_at gates root) g
  least_by f g listed n family =
      let l = listed_lists listed in
      lists_listed (record {
        is_family = family;
        sound = λ s h. let x = n.sound s h in least_old x.0 s (l.sound x.0 x.1) x.2;
        whole = λ s p.
            let x = least_new s p in
            let y = l.whole x.0 x.1 in
            let z = n.whole y.0 y.1 in (
              z.0,
              z.1,
              carried x.0 y.0 s z.0 x.2 z.2 y.2,
              carried y.0 x.0 z.0 s z.2 x.2 y.3,
            );
      })
    where
      carried : (t u s v : List ℕ) → IsNamedBy names t s → IsNamedBy names u v → Within t u → Within s v
      carried t u s v n m w = record {
        each = λ e o.
            let y = n.sound e o in
            let z = m.whole y.0 (w.each y.0 y.2) in
            subst (λ k. IsOneOf v k) (same_name y.0 z.0 y.1 z.1 y.3 ∙ y.4) z.2;
      }

  pub have_names : (f : Family) → ListsLeastUpTo order again (value_at renamed other) f → HaveNames names f
  have_names f listed = let l = listed_lists listed in record { each = λ t h i o. have_name t (l.sound t h).has i o }
