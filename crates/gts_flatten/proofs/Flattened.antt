-- The parts that are made of bound forms are those of the flat system of their declarations.
use Rattle.std.proofs.Common.{◌≡◌, ℕ, suc, ◌+◌, Bool, List, [], ◌∷◌, map, length, slice_index, Some, refl, sym, ◌∙◌, ap, subst, arith}
use Rattle.ar_base.specs.Lists.{Stands, Along, none, one_and, AreDifferent}
use Rattle.ar_base.specs.Numbers.{WayId}
use Rattle.ar_base.specs.declared.places.Place.{Place}
use Rattle.ar_base.proofs.Standing.{stands_map, along_back, along_length}
use Rattle.ar_base.proofs.Items.{along_by}
use Rattle.typed_expr.specs.declared.expr.Expr.{Expr}
use Rattle.ar_meaning.specs.Systems.{System, Event as SystemEvent, Way as SystemWay, Transition}
use Rattle.ar_meaning.specs.Systems as s
use Rattle.ar_meaning.specs.Expand.{EventDeclaration}
use Rattle.ar_meaning.specs.Image.{Expr_renames, Variable_renames, Assign_renames, Way_renames, Event_renames}
use Rattle.ar_meaning.specs.ImageInside.{IsImage}
use Rattle.ar_meaning.specs.Numbered.{Acts, Joins, Means_way}
use Rattle.ar_meaning.specs.TraceText.{Naming}
use Rattle.ar_meaning.proofs.FlatSystems.{copied_system}
use Rattle.ar_meaning.proofs.OneRun.{means_same}
use Rattle.gts_core.specs.Bound.{declared_from}
use Rattle.gts_core.specs.View.{Views, IsEventView, way_bodies, net_of, variables_from, observers_of, numbered, part_of}
use Rattle.gts_core.specs.Sound.{IsSound}
use Rattle.gts_core.specs.declared.bound.DeclaredEvent.{DeclaredEvent}
use Rattle.gts_core.specs.declared.bound.DeclaredWay.{DeclaredWay}
use Rattle.gts_core.specs.declared.system.Event.{Event}
use Rattle.gts_core.specs.declared.system.GtsParts.{GtsParts}
use Rattle.gts_core.specs.declared.system.Observer.{Observer}
use Rattle.gts_core.specs.declared.system.Variable.{Variable}
use Rattle.gts_core.specs.declared.system.Way.{Way}
use Rattle.gts_core.specs.declared.system.WayBody.{WayBody}
use Rattle.gts_core.specs.declared.system.WayBody.TheVariants.{Sync}
use Rattle.gts_core.proofs.Numbering.{copy_numbered}
use Rattle.gts_core.proofs.Systems.{some_system}
use Rattle.hierarchy.specs.Units.{Thing}
use Rattle.hierarchy.specs.Listing.{variables, events}
use Rattle.hierarchy.specs.Models.{RootedModel}
use Rattle.source_meaning.specs.Binding.{IsBoundFrom}
use Rattle.source_meaning.specs.Numbering.{HasObserverKind, kind}
use Rattle.source_meaning.specs.SoundBound.{IsSoundBound}
use Rattle.source_meaning.specs.Systems.{Declarations}
use Rattle.source_meaning.specs.declared.bound.Bound.{Bound}
use Rattle.sync_expand.specs.Expanding.{AreWays}
use Rattle.sync_expand.specs.Plans.{planned_ways, PlannedWay}
use Rattle.sync_expand.specs.Planned.{planned_of, planned_body}
use Rattle.sync_expand.specs.declared.plans.PlanBody.{PlanBody}
use Rattle.sync_expand.specs.declared.plans.WayPlan.{WayPlan}
use Rattle.sync_expand.proofs.DeclaredLemmas.{declared_back, declared_length}
use Rattle.sync_expand.proofs.Capping.{read_number}
use Rattle.gts_flatten.specs.Flat.{naming_of, naming_of_parts, HasBody, IsPlannedWay, IsFlat}
use Rattle.gts_flatten.specs.Flat as flat
use Rattle.gts_flatten.specs.Making.{IsSameVariable, IsSameObserver, AreMadeOf, IsMadeWay, IsMadeOf, acts, joins, IsTransitionOf, transition}
use Rattle.gts_flatten.proofs.Alike.{lengths_alike}
use Rattle.gts_core.proofs.SameDomains.{same_values}
use Rattle.gts_flatten.proofs.Sound.{copied_at, id_at, ids_long}
use Rattle.gts_flatten.proofs.Staged.{Meant, elaborated}
use Rattle.gts_flatten.proofs.WaysMade.{same}

-- Lists

-- Variables and observers

variables_copied : {xs ys : List Variable} (n : ℕ) → Along IsSameVariable xs ys
    → Along (Variable_renames same) (variables_from n xs) (variables_from n ys)
variables_copied n none = none
variables_copied n (one_and h hs) =
    one_and (record {
      key = refl;
      unit = sym (ap (λ z. z.n) h.unit);
      domain = same_values h.domain;
      is_state = sym h.is_state;
      value = sym h.value;
    }) (variables_copied (n + 1) hs)

variable_paths : {xs ys : List Variable} → Along IsSameVariable xs ys
    → map (λ (x : Variable). x.path) ys ≡ map (λ (x : Variable). x.path) xs
variable_paths none = refl
variable_paths (one_and h hs) = let p = h.path in let r = variable_paths hs in cc

observers_copied : {xs ys : List Observer} → Along IsSameObserver xs ys
    → Along (Expr_renames same) (map (λ (o : Observer). numbered o.value) xs)
    (map (λ (o : Observer). numbered o.value) ys)
observers_copied none = none
observers_copied (one_and {a = a} {b = b} h hs) =
    one_and (record { renames = copy_numbered a.value b.value h.value }) (observers_copied hs)

observer_paths : {xs ys : List Observer} → Along IsSameObserver xs ys
    → map (λ (o : Observer). o.path) ys ≡ map (λ (o : Observer). o.path) xs
observer_paths none = refl
observer_paths (one_and h hs) = let p = h.path in let r = observer_paths hs in cc

kinds_copied : {m : RootedModel} {ts : List Thing} {xs ys : List Observer} → Along (HasObserverKind m) ts xs
    → Along IsSameObserver xs ys → Along (HasObserverKind m) ts ys
kinds_copied none none = none
kinds_copied (one_and (kind type e is of) ks) (one_and h hs) =
    one_and (kind type e is (of ∙ ap Some (sym h.kind))) (kinds_copied ks hs)

event_paths : (ds : List DeclaredEvent) (es : List Event) → length es ≡ length ds
    → ((n : ℕ) (d : DeclaredEvent) (e : Event) → Stands ds n d → Stands es n e → e.path ≡ d.path)
    → map (λ (e : Event). e.path) es ≡ map (λ (d : DeclaredEvent). d.path) ds
event_paths [] [] l f = refl
event_paths [] (e ∷ es) l f = absurd (omega (arith, l))
event_paths (d ∷ ds) [] l f = absurd (omega (arith, l))
event_paths (d ∷ ds) (e ∷ es) l f = let p = f 0 d e refl refl in let r = event_paths ds es (omega (arith, l)) (λ n x y i j. f (suc n) x y i j) in cc

lengths_of : (es : List (SystemEvent ℕ))
    → map (λ (e : SystemEvent ℕ). length e.ways) es ≡ map length (map (λ (e : SystemEvent ℕ). e.ways) es)
lengths_of [] = refl
lengths_of (e ∷ es) = ap (λ (z : List ℕ). length e.ways ∷ z) (lengths_of es)

-- Planned ways

transition_body : (k : ℕ) {way : DeclaredWay} {wb : WayBody} → IsTransitionOf way wb → HasBody (Acts k) wb
transition_body k (transition c i) = flat.acts

body_planned : {declared : List DeclaredEvent} {e : ℕ} {pb : PlanBody} {wb : WayBody} → IsMadeOf declared e pb wb
    → HasBody (planned_body pb) wb
body_planned (acts {place = k} t) = transition_body k t.is_transition
body_planned (joins {parts = ps} {copies = cs} e) =
    subst (λ (z : List (Bool × WayId)). HasBody (Joins (map part_of z)) (Sync cs)) e flat.joins

ways_planned : {declared : List DeclaredEvent} {ps : List WayPlan} {ws : List Way} → Along (IsMadeWay declared) ps ws
    → Along IsPlannedWay (map planned_of ps) ws
ways_planned none = none
ways_planned (one_and h hs) = one_and
    (record { event = ap (λ z. z.n) h.event; number = h.number; body = body_planned h.body }) (ways_planned hs)

naming_same : (v w e f o q s t : List (List ℕ)) (p r : List Place) → v ≡ w → e ≡ f → o ≡ q → s ≡ t → p ≡ r
    → ◌≡◌ {A = Naming} (record { variables = v; events = e; observers = o; symbols = s; places = p })
    (record { variables = w; events = f; observers = q; symbols = t; places = r })
naming_same v w e f o q s t p r i j k l n = cc

module _ (d : Declarations) (b : Bound) (from : IsBoundFrom d b) (different : AreDifferent (events d.model d.units))
    {ways : List (List (SystemWay ℕ))}
    (m : Meant d b from different ways) (are : AreWays (declared_from 0 b.events.items) ways) (plan : List WayPlan)
    (is : map planned_of plan ≡ planned_ways (map length ways) (declared_from 0 b.events.items))
    (bound_sound : IsSoundBound b) (p : GtsParts)
    (made : AreMadeOf b (map length ways) plan p) (sound : IsSound p) where
  -- Events

  -- the ways of the declared event at this place
  own_at : (n : ℕ) (g : SystemEvent ℕ) → Stands m.flat.events n g → Stands ways n g.ways
  own_at n g h = subst (λ (z : List (List (SystemWay ℕ))). Stands z n g.ways) m.have_ways
      (stands_map (λ (e : SystemEvent ℕ). e.ways) m.flat.events n g h)

  ways_copied : (n : ℕ) (e : Event) (g f : SystemEvent ℕ) → Stands p.events.items n e → Stands m.flat.events n g
      → IsEventView p e f → Along (Way_renames same) g.ways f.ways
  ways_copied n e g f he hg i = along_by (Way_renames same) g.ways f.ways long each
    where
      own : Stands ways n g.ways
      own = own_at n g hg

      long : length g.ways ≡ length f.ways
      long =
          let a = along_length e.ways.items f.ways i.ways in
          let c = ids_long b ways are plan is bound_sound p made n e he in
          let r : slice_index (map length ways) n ≡ length g.ways =
          read_number (map length ways) n (length g.ways) (stands_map length ways n g.ways own) in
          omega (arith, a, c, r)

      each : (k : ℕ) (t u : SystemWay ℕ) → Stands g.ways k t → Stands f.ways k u → Way_renames same t u
      each k t u ht hu =
          let w = along_back e.ways.items f.ways i.ways k u hu in
          let q = id_at b ways are plan is bound_sound p made n k e w.0 he w.1 in
          let c = copied_at b ways are plan is bound_sound p made n k g.ways t own ht in
          let one : c.tree ≡ u = means_same (way_bodies p) c.means
          (subst (λ (z : ℕ). Means_way (way_bodies p) z u) q.0 w.2) in
          subst (λ (z : SystemWay ℕ). Way_renames same t z) one c.along

  event_copied : (n : ℕ) (e : Event) (g f : SystemEvent ℕ) → Stands p.events.items n e → Stands m.flat.events n g
      → IsEventView p e f → Event_renames same g f
  event_copied n e g f he hg i =
      let es = declared_from 0 b.events.items in
      let x = along_back es m.flat.events m.expanded n g hg in
      let y = declared_back 0 b.events.items n x.0 x.1 in
      let c = made.events.each n y.0 e y.1 he in
      record {
        unit = sym x.2.unit ∙ (ap (λ (z : EventDeclaration (Transition ℕ) ℕ). z.unit) y.2
            ∙ (sym (ap (λ z. z.n) c.unit) ∙ sym i.unit));
        hidden = sym x.2.hidden ∙ (ap (λ (z : EventDeclaration (Transition ℕ) ℕ). z.hidden) y.2
            ∙ (sym c.hidden ∙ sym i.hidden));
        ways = ways_copied n e g f he hg i;
      }

  events_copied : (fs : List (SystemEvent ℕ)) → Along (IsEventView p) p.events.items fs
      → Along (Event_renames same) m.flat.events fs
  events_copied fs v =
      let es = declared_from 0 b.events.items in
      let l = along_length es m.flat.events m.expanded in
      let k = declared_length 0 b.events.items in
      let n = made.events.long in
      let o = along_length p.events.items fs v in
      along_by (Event_renames same) m.flat.events fs (omega (arith, l, k, n, o))
      (λ j g f hg hf. let e = along_back p.events.items fs v j f hf in event_copied j e.0 g f e.1 hg e.2)

  -- the system of the parts is the flat system
  views : (flat : System ℕ) × Views p flat
  views = some_system p sound

  image : IsImage same m.flat views.0
  image =
      let net = m.net in
      record {
        net = record {
          variables = subst (λ (z : s.Net ℕ). Along (Variable_renames same) m.flat.net.variables z.variables)
              (sym views.1.net)
              (subst (λ (z : s.Net ℕ). Along (Variable_renames same) z.variables (net_of p).variables) (sym net)
              (variables_copied 0 made.variables));
          assertions = subst (λ (z : s.Net ℕ). Along (Assign_renames same) m.flat.net.assertions z.assertions)
              (sym views.1.net)
              (subst (λ (z : s.Net ℕ). Along (Assign_renames same) z.assertions (net_of p).assertions) (sym net)
              made.assigns);
          one = λ x y z i j. sym i ∙ j;
          one_back = λ x y z i j. i ∙ sym j;
        };
        events = events_copied views.0.events views.1.events;
        observers = subst (λ (z : List (Expr ℕ)). Along (Expr_renames same) m.flat.observers z) (sym views.1.observers)
            (subst (λ (z : List (Expr ℕ)). Along (Expr_renames same) z (observers_of p)) (sym m.observers)
            (observers_copied made.observers));
      }

  -- Names

  names : naming_of_parts p ≡ naming_of d
  names = naming_same _ _ _ _ _ _ _ _ _ _
      (variable_paths made.variables ∙ from.texts.variables_are)
      (event_paths b.events.items p.events.items made.events.long (λ n x y i j. (made.events.each n x y i j).path)
      ∙ from.texts.events_are)
      (observer_paths made.observers ∙ from.texts.observers_are)
      (made.symbols ∙ from.texts.symbols)
      (made.places ∙ from.places)

  -- the parts are those of the flat system of the declarations
  pub is_flat : IsFlat (elaborated d b from different m) p
  is_flat = record {
    flat = views.0;
    views = views.1;
    is_flat = copied_system (variables d.model d.units) m.system m.flat views.0 m.is_flat image;
    ways = record {
      numbered = declared_from 0 b.events.items;
      are_numbered = from.events_are;
      planned = subst (λ (z : List PlannedWay). Along IsPlannedWay z p.ways.items)
          (is ∙ ap (λ (z : List ℕ). planned_ways z (declared_from 0 b.events.items)) (sym lengths))
          (ways_planned made.ways);
    };
    names = names;
    units_are = made.units ∙ from.texts.units_are;
    kinds = kinds_copied from.kinds made.observers;
  }
    where
      lengths : map (λ (e : SystemEvent Thing). length e.ways) m.system.events ≡ map length ways
      lengths = lengths_alike m.is_flat.events ∙ (lengths_of m.flat.events ∙ ap (map length) m.have_ways)
