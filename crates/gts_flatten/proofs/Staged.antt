-- What bound forms expand to is what their declarations mean, and what refuses them refuses the declarations.
use Rattle.std.proofs.Common.{◌≡◌, ℕ, ◌≤◌, ◌<◌, ◌^◌, List, [], ◌∷◌, map, length, Option, Some, None, Result, Ok, Err, refl, sym, ◌∙◌, ap, subst, arith}
use Rattle.std.specs.List.{flat_map}
use Rattle.ar_base.specs.Lists.{Along, none, one_and, AreDifferent}
use Rattle.ar_base.specs.Counts.{limit_of}
use Rattle.ar_base.specs.Stages.{refuses, passes, kept, broken, Fits, fits, passes_it}
use Rattle.ar_base.specs.StagesInside.{IsRefusal, rule_told, Meets}
use Rattle.ar_base.specs.declared.counts.Count.TheVariants.{Ways as TheWays, ExpressionNodes}
use Rattle.ar_base.specs.declared.faults.RuleFault.{RuleFault}
use Rattle.ar_base.proofs.Standing.{stands_one, one_here}
use Rattle.typed_expr.specs.declared.expr.Expr.{Expr, out-Expr}
use Rattle.typed_expr.specs.declared.expr.Expr.TheOpen.{Expr-F}
use Rattle.typed_expr.specs.declared.expr.Expr.TheOpen as form
use Rattle.typed_expr.specs.declared.expr.Expr.TheFolds.{map-Expr}
use Rattle.ar_meaning.specs.Systems.{System, Event, Way, Transition, Assign}
use Rattle.ar_meaning.specs.Expand.{EventDeclaration, IsExpanded, Ways}
use Rattle.ar_meaning.specs.FlatOf.{IsNumber, IsFlatOf}
use Rattle.ar_meaning.specs.Image.{Expr_renames}
use Rattle.ar_meaning.proofs.ImageWays.{events_back}
use Rattle.gts_core.specs.Bound.{assigns_of_act, declared_from}
use Rattle.gts_core.specs.View.{numbered}
use Rattle.gts_core.specs.declared.bound.DeclaredEvent.{DeclaredEvent}
use Rattle.gts_core.specs.declared.bound.DeclaredWay.TheVariants.{Sync}
use Rattle.gts_core.specs.declared.system.GtsParts.{GtsParts}
use Rattle.gts_core.specs.declared.system.Observer.{Observer}
use Rattle.hierarchy.specs.Models.{RootedModel}
use Rattle.hierarchy.specs.ModelsInside.{KeepsTextRules}
use Rattle.hierarchy.specs.Units.{UnitPath, Thing}
use Rattle.hierarchy.specs.Walks.{is_event}
use Rattle.hierarchy.specs.Listing.{AreUnits, variables, events}
use Rattle.source_meaning.specs.Binding.{IsBoundFrom, net_of_bound}
use Rattle.source_meaning.specs.SoundBound.{IsSoundBound}
use Rattle.source_meaning.specs.Systems.{Declarations, AreOf, HasDeclarations}
use Rattle.source_meaning.proofs.Different.{things_different}
use Rattle.source_meaning.specs.declared.bound.Bound.{Bound}
use Rattle.sync_expand.specs.Expanding.{AreWays, AreExpandable, ExpandsWays, have}
use Rattle.sync_expand.specs.Counting.{most_ways, way_parts}
use Rattle.gts_flatten.specs.Bounds.{IsSystemOf}
use Rattle.gts_flatten.specs.Elaborating.{Elaborated, Flattens, HasSystem, has, most_ways_counted, way_parts_counted, nodes_counted}
use Rattle.gts_flatten.specs.Flat.{IsFlat}
use Rattle.gts_flatten.specs.Sizes.{form_nodes, nodes_of, assigns_nodes, system_nodes}
use Rattle.gts_flatten.proofs.Alike.{most_ways_alike, way_parts_alike, nodes_alike}
use Rattle.gts_flatten.proofs.Renamed.{opened}
use Rattle.gts_flatten.proofs.Breaches.{kept_source, broken_in_source}

-- events with these ways
record WithWays (es ds : List (EventDeclaration (Transition ℕ) ℕ)) (ways : List (List (Way ℕ))) : Type 0 where
  events : List (Event ℕ)
  are : Along (IsExpanded es) ds events
  have_ways : map (λ (e : Event ℕ). e.ways) events ≡ ways

with_ways : (es : List (EventDeclaration (Transition ℕ) ℕ)) {ds : List (EventDeclaration (Transition ℕ) ℕ)} {ways : List
    (List (Way ℕ))} → Along (λ d ts. Ways es d.key ts) ds ways
    → WithWays es ds ways
with_ways es none = record { events = []; are = none; have_ways = refl }
with_ways es (one_and {a = d} {b = ts} w ws) =
    let r = with_ways es ws in
    record {
      events = record { unit = d.unit; hidden = d.hidden; ways = ts } ∷ r.events;
      are = one_and (record { unit = refl; hidden = refl; ways = w }) r.are;
      have_ways = ap (λ (z : List (List (Way ℕ))). ts ∷ z) r.have_ways;
    }

along_mapped : {A B C : Type 0} (R : A → C → Type 0) (f : B → C) {xs : List A} {ys : List B}
    → Along (λ a b. R a (f b)) xs ys → Along R xs (map f ys)
along_mapped R f none = none
along_mapped R f (one_and h hs) = one_and h (along_mapped R f hs)

module _ (d : Declarations) (b : Bound) (from : IsBoundFrom d b)
    (different : AreDifferent (events d.model d.units)) where
  things : List Thing
  things = variables d.model d.units

  -- the system that the declarations mean, and its flat form, where the bound events have these ways
  pub record Meant (ways : List (List (Way ℕ))) : Type 0 where
    pub system : System Thing
    pub flat : System ℕ
    pub declared : HasDeclarations d system
    pub net : flat.net ≡ net_of_bound b
    pub expanded : Along (IsExpanded (declared_from 0 b.events.items)) (declared_from 0 b.events.items) flat.events
    pub have_ways : map (λ (e : Event ℕ). e.ways) flat.events ≡ ways
    pub observers : flat.observers ≡ map (λ (o : Observer). numbered o.value) b.observers.items
    pub is_flat : IsFlatOf (variables d.model d.units) system flat

  pub meant : (ways : List (List (Way ℕ))) → AreWays (declared_from 0 b.events.items) ways → Meant ways
  meant ways are =
      let es = declared_from 0 b.events.items in
      let w = with_ways es are in
      let v = events_back (IsNumber (variables d.model d.units)) (IsNumber (events d.model d.units)) d.events es
      from.events_are
      (λ x y n r s. stands_one (events d.model d.units) n x y r s) w.are in
      record {
        system = record { net = d.net; events = v.0; observers = d.observers };
        flat = record {
          net = net_of_bound b;
          events = w.events;
          observers = map (λ (o : Observer). numbered o.value) b.observers.items;
        };
        declared = record { net = refl; events = v.1; observers = refl };
        net = refl;
        expanded = w.are;
        have_ways = w.have_ways;
        observers = refl;
        is_flat = record {
          different = record { one = λ m n t p q. from.net.one t m n p q };
          variables = from.net.variables;
          assertions = from.net.assertions;
          events = v.2;
          observers = along_mapped (Expr_renames (IsNumber (variables d.model d.units)))
              (λ (o : Observer). numbered o.value) from.observers_are;
        };
      }

  module _ {ways : List (List (Way ℕ))} (m : Meant ways) where
    -- the declarations with their system
    abbrev pub elaborated : Elaborated
    elaborated = record { declarations = d; system = m.system }

    has_system : HasSystem d (Ok elaborated)
    has_system = has refl m.declared

    most : most_ways_counted elaborated ≡ most_ways ways
    most = most_ways_alike m.is_flat.events ∙ ap (λ (z : List (List (Way ℕ))). most_ways z) m.have_ways

    parts : way_parts_counted elaborated ≡ way_parts ways
    parts = way_parts_alike m.is_flat.events ∙ ap (λ (z : List (List (Way ℕ))). way_parts z) m.have_ways

    nodes : nodes_counted elaborated ≡ system_nodes m.flat
    nodes = nodes_alike m.system m.flat m.is_flat.events m.is_flat.assertions m.is_flat.observers

    pub is_system : IsSystemOf b.events.items b.assertions.items b.observers.items m.flat
    is_system = record {
      events_are = m.expanded;
      assertions_are = ap (λ x. x.assertions) m.net;
      observers_are = m.observers;
    }

  -- a refusal of the expansion
  pub refused : (r : RuleFault) → ExpandsWays b.events.items (Err r) → Flattens d (Err r)
  refused r (refuses (broken k)) = refuses (broken (broken_in_source d b from different _ _ k))
  refused r (passes e (kept k) (refuses h)) = elim h [ ]
  refused r (passes e (kept k) (passes ways (have are) (refuses (passes_it l)))) =
      let m = meant ways are in let i = most m in
      passes d (kept (kept_source d b from different k))
      (passes (elaborated m) (has_system m) (refuses (passes_it (omega (arith, l, i)))))
  refused r (passes e (kept k) (passes ways (have are) (passes w (fits l) (passes_it n)))) =
      let m = meant ways are in let i = most m in let j = parts m in
      passes d (kept (kept_source d b from different k))
      (passes (elaborated m) (has_system m)
      (passes (elaborated m) (fits (omega (arith, l, i))) (refuses (passes_it (omega (arith, n, j))))))

  pub refused_told : (t : Option RuleFault) → IsRefusal (ExpandsWays b.events.items) t → IsRefusal (Flattens d) t
  refused_told (Some r) h = refused r h
  refused_told None h = tt

  -- an expansion within the limits
  pub record Passed (ways : List (List (Way ℕ))) : Type 0 where
    pub meant : Meant ways
    pub are : AreWays (declared_from 0 b.events.items) ways
    pub few : most_ways ways ≤ limit_of TheWays
    pub stage : (answer : Result Elaborated RuleFault) → Fits ExpressionNodes nodes_counted (elaborated meant) answer
        → Flattens d answer

  pub passed : (ways : List (List (Way ℕ))) → ExpandsWays b.events.items (Ok ways) → Passed ways
  passed ways (passes e (kept k) (passes w (have are) (passes v (fits l) (fits n)))) =
      let m = meant ways are in let i = most m in let j = parts m in
      record {
        meant = m;
        are = are;
        few = l;
        stage = λ answer h. passes d (kept (kept_source d b from different k))
            (passes (elaborated m) (has_system m)
            (passes (elaborated m) (fits (omega (arith, l, i)))
            (passes (elaborated m) (fits (omega (arith, n, j))) h)));
      }

  -- a refusal for the nodes
  pub nodes_refused : (ways : List (List (Way ℕ))) (p : Passed ways) (t : Option RuleFault)
      → IsRefusal (Fits ExpressionNodes system_nodes p.meant.flat) t → IsRefusal (Flattens d) t
  nodes_refused ways p (Some r) h = go r h
    where
      go : (r : RuleFault) → Fits ExpressionNodes system_nodes p.meant.flat (Err r) → Flattens d (Err r)
      go r (passes_it l) = let i = nodes p.meant in p.stage (Err r) (passes_it (omega (arith, l, i)))
  nodes_refused ways p None h = tt

  -- all limits are kept
  pub flattens : (ways : List (List (Way ℕ))) (p : Passed ways) (g : System ℕ)
      → Fits ExpressionNodes system_nodes p.meant.flat (Ok g) → Flattens d (Ok (elaborated p.meant))
  flattens ways p g (fits l) = let i = nodes p.meant in p.stage (Ok (elaborated p.meant)) (fits (omega (arith, l, i)))

  -- an error that tells a refusal
  pub refused_so : (r : Result GtsParts RuleFault) (x e : RuleFault) → r ≡ Err x → x ≡ e
      → IsRefusal (Flattens d) (rule_told e) → Meets Flattens IsFlat d r
  refused_so r x e i j h = subst (λ (z : Result GtsParts RuleFault). Meets Flattens IsFlat d z) (sym (i ∙ ap Err j)) h

-- Without declarations

-- the ways that an expansion within the limits gives
pub ways_of : (events : List DeclaredEvent) (ways : List (List (Way ℕ))) → ExpandsWays events (Ok ways)
    → AreWays (declared_from 0 events) ways × (most_ways ways ≤ 256)
ways_of events ways (passes e (kept k) (passes w (have are) (passes v (fits l) (fits n)))) = (are, l)

-- the flat system of bound forms
pub flat_of : (b : Bound) (ways : List (List (Way ℕ))) → AreWays (declared_from 0 b.events.items) ways
    → (flat : System ℕ) × IsSystemOf b.events.items b.assertions.items b.observers.items flat
flat_of b ways are =
    let w = with_ways (declared_from 0 b.events.items) are in (
      record {
        net = net_of_bound b;
        events = w.events;
        observers = map (λ (o : Observer). numbered o.value) b.observers.items;
      },
      record { events_are = w.are; assertions_are = refl; observers_are = refl },
    )

-- an expression has a node
form_one : {V : Type 0} (f : Expr-F V ℕ) → 1 ≤ form_nodes f
form_one (form.Constant v) = omega arith
form_one (form.Variable x) = omega arith
form_one (form.Not a) = omega arith
form_one (form.All es) = omega arith
form_one (form.Any es) = omega arith
form_one (form.Compare r x y) = omega arith
form_one (form.Sum ts) = omega arith
form_one (form.Product es) = omega arith
form_one (form.Least es) = omega arith
form_one (form.Greatest es) = omega arith
form_one (form.Count es) = omega arith
form_one (form.Choose cs o) = omega arith

nodes_one : {V : Type 0} (e : Expr V) → 1 ≤ nodes_of e
nodes_one {V = V} e = let f = form_one (map-Expr V (Expr V) ℕ nodes_of (out-Expr V e)) in let i = opened e in omega (arith, f, i)

assigns_counted : (xs : List (Assign ℕ)) → length xs ≤ assigns_nodes xs
assigns_counted [] = omega arith
assigns_counted (a ∷ xs) = let n = nodes_one a.value in let i = assigns_counted xs in omega (arith, n, i)

-- there are no more assignments than nodes
pub few_assigns : (b : Bound) (f g : System ℕ) → IsSystemOf b.events.items b.assertions.items b.observers.items f
    → Fits ExpressionNodes system_nodes f (Ok g)
    → length (flat_map assigns_of_act b.assertions.items) < 2 ^ 32
few_assigns b f g is (fits l) =
    let n = assigns_counted f.net.assertions in
    let e : length f.net.assertions ≡ length (flat_map assigns_of_act b.assertions.items) =
    ap length is.assertions_are in
    omega (arith, l, n, e)

-- bound forms whose synchronisations can be expanded
pub expandable : (b : Bound) → IsSoundBound b → AreExpandable b.events.items
expandable b s = record {
  few = s.few.events;
  short = λ n e h. s.few.ways e (one_here b.events.items n e h);
  parts = λ n k e parts at h o part i. s.parts e parts at part (one_here b.events.items n e h)
      (one_here e.ways.items k (Sync parts at) o) i;
}

-- no event stands twice
pub events_different : (m : RootedModel) (units : List UnitPath) (d : Declarations) → KeepsTextRules m → AreUnits m
    units → AreOf m units d → AreDifferent (events d.model d.units)
events_different m units d k are of =
    subst (λ (z : RootedModel). AreDifferent (events z d.units)) (sym of.model)
    (subst (λ (z : List UnitPath). AreDifferent (events m z)) (sym of.units_are)
    (things_different m is_event units k are))
