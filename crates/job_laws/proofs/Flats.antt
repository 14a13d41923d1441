-- Two flat systems of one source, both of sound parts, agree item by item, and so have one text.
use Rattle.std.proofs.Common.{◌≡◌, ℕ, ◌+◌, Bool, List, ◌++◌, map, length, codes, slice_get, Vec, Global, if◌then◌else◌, refl, sym, ap, ◌∙◌, subst, arith}
use Rattle.std.specs.List.{concat}
use Rattle.ar_base.specs.Lists.{Stands, AreDifferent, Along}
use Rattle.ar_base.specs.Lists as l
use Rattle.ar_base.specs.Numbers.{WayId}
use Rattle.ar_base.proofs.Standing.{stands_one, along_on, along_length}
use Rattle.typed_expr.specs.PairsInside.{turned_pairs}
use Rattle.typed_expr.specs.declared.expr.Expr.{Expr}
use Rattle.ar_meaning.specs.Systems.{Net, Transition, Tree, Event as SystemEvent, Variable as SystemVariable}
use Rattle.ar_meaning.specs.FlatOf.{IsNumber}
use Rattle.ar_meaning.specs.Image.{Variable_renames, Assign_renames, Transition_renames, Way_renames, Event_renames, Expr_renames}
use Rattle.ar_meaning.specs.Numbered.{Body, Joins}
use Rattle.ar_meaning.specs.ValueTexts.{value_text}
use Rattle.ar_meaning.proofs.FlatSystems.{flat_back}
use Rattle.ar_meaning.proofs.ImageJoined.{along_joined, variable_joined, assign_joined, event_joined, observer_joined}
use Rattle.gts_core.specs.Printed.{domain_text, flat_variable_line, line_found, event_lines, assert_lines, flat_observer_line, flat_text}
use Rattle.gts_core.specs.Sound.{IsSound, IsListedWay}
use Rattle.gts_core.specs.View.{part_of, variable_of, net_of, observers_of, IsWayAt}
use Rattle.gts_core.specs.declared.system.Event.{Event}
use Rattle.gts_core.specs.declared.system.GtsParts.{GtsParts}
use Rattle.gts_core.specs.declared.system.Variable.{Variable}
use Rattle.gts_core.specs.declared.system.Way.{Way}
use Rattle.gts_core.specs.declared.system.WayBody.{WayBody}
use Rattle.gts_core.specs.declared.system.WayBody.TheVariants.{Sync}
use Rattle.gts_core.proofs.Viewing.{variable_there}
use Rattle.hierarchy.specs.Listing.{variables, events}
use Rattle.hierarchy.specs.Units.{Thing}
use Rattle.source_meaning.specs.Numbering.{IsVariableNumber, IsEventNumber}
use Rattle.sync_expand.specs.Plans.{PlannedWay, planned_ways}
use Rattle.gts_flatten.specs.Elaborating.{Elaborated}
use Rattle.gts_flatten.specs.Flat.{naming_of_parts, HasBody, joins, IsPlannedWay, IsFlat}
use Rattle.ar_meaning.specs.TraceText.{Naming}
use Rattle.job_laws.proofs.Domains.{domain_one}
use Rattle.job_laws.proofs.Expressions.{Same}
use Rattle.job_laws.proofs.Lines.{maps_one, maps_long, maps_there, AreAlike, body_there, symbols_one, variables_one, events_one, asserts_one, observers_one, way_one}
use Rattle.job_laws.proofs.Plans.{plans_one}

-- Ways of one plan

joins_are : (b : Body ℕ) (parts : Vec (Bool × WayId) Global) → HasBody b (Sync parts)
    → b ≡ Joins (map part_of parts.items)
joins_are b parts joins = refl

planned_alike : (z : PlannedWay) (v w : Way) → IsPlannedWay z v → IsPlannedWay z w → AreAlike v w
planned_alike z v w a b = record {
  event = a.event ∙ sym b.event;
  number = a.number ∙ sym b.number;
  parts = λ ps qs i j.
      let here : z.body ≡ Joins (map part_of ps.items) =
      joins_are z.body ps (subst (λ (y : WayBody). HasBody z.body y) i a.body) in
      let there : z.body ≡ Joins (map part_of qs.items) =
      joins_are z.body qs (subst (λ (y : WayBody). HasBody z.body y) j b.body) in
      cc;
}

plan_alike : {zs : List PlannedWay} {vs ws : List Way} → Along IsPlannedWay zs vs → Along IsPlannedWay zs ws
    → Along AreAlike vs ws
plan_alike l.none l.none = l.none
plan_alike (l.one_and {a = z} {b = v} d ds) (l.one_and {b = w} e es) =
    l.one_and (planned_alike z v w d e) (plan_alike ds es)

-- the line of a variable of this path, with the texts of its domain and its value
abbrev told_line : Bool → List ℕ → List ℕ → List ℕ → List ℕ
told_line is_state path domain value =
    (if is_state then codes "state " else codes "flow ") ++ path ++ codes " " ++ domain ++ codes " = " ++ value
    ++ codes "\n"

-- Both systems

module _ (x : Elaborated) (different : AreDifferent (events x.declarations.model x.declarations.units))
    (p q : GtsParts) (a : IsSound p) (b : IsSound q) (f : IsFlat x p) (g : IsFlat x q) where
  names : naming_of_parts p ≡ naming_of_parts q
  names = f.names ∙ sym g.names

  abbrev things : List Thing
  things = variables x.declarations.model x.declarations.units

  -- a number of one system is that of the other
  through : (m : ℕ) (t : Thing) (n : ℕ) → turned_pairs (IsNumber things) m t → IsNumber things t n → Same m n
  through m t n r s = f.is_flat.different.one m n t r s

  variables_along : Along (Variable_renames Same) (net_of p).variables (net_of q).variables
  variables_along =
      subst (λ (z : Net ℕ). Along (Variable_renames Same) z.variables (net_of q).variables) f.views.net
      (subst (λ (z : Net ℕ). Along (Variable_renames Same) f.flat.net.variables z.variables) g.views.net
      (along_joined (variable_joined (turned_pairs (IsNumber things)) (IsNumber things) Same through)
      (flat_back things x.system f.flat f.is_flat).net.variables g.is_flat.variables))

  assertions_along : Along (Assign_renames Same) (net_of p).assertions (net_of q).assertions
  assertions_along =
      subst (λ (z : Net ℕ). Along (Assign_renames Same) z.assertions (net_of q).assertions) f.views.net
      (subst (λ (z : Net ℕ). Along (Assign_renames Same) f.flat.net.assertions z.assertions) g.views.net
      (along_joined (assign_joined (turned_pairs (IsNumber things)) (IsNumber things) Same through)
      (flat_back things x.system f.flat f.is_flat).net.assertions g.is_flat.assertions))

  events_along : Along (Event_renames Same) f.flat.events g.flat.events
  events_along =
      along_joined (event_joined (turned_pairs (IsNumber things)) (IsNumber things) Same through)
      (flat_back things x.system f.flat f.is_flat).events g.is_flat.events

  observers_along : Along (Expr_renames Same) (observers_of p) (observers_of q)
  observers_along =
      subst (λ (z : List (Expr ℕ)). Along (Expr_renames Same) z (observers_of q)) f.views.observers
      (subst (λ (z : List (Expr ℕ)). Along (Expr_renames Same) f.flat.observers z) g.views.observers
      (along_joined (observer_joined (turned_pairs (IsNumber things)) (IsNumber things) Same through)
      (flat_back things x.system f.flat f.is_flat).observers g.is_flat.observers))

  ways_alike : Along AreAlike p.ways.items q.ways.items
  ways_alike =
      let counts = map (λ (e : SystemEvent Thing). length e.ways) x.system.events in
      let same : planned_ways counts f.ways.numbered ≡ planned_ways counts g.ways.numbered =
      plans_one (Transition_renames (IsVariableNumber x.declarations)) (IsEventNumber x.declarations)
      (λ t m n r s. different.one m n t r s) counts f.ways.are_numbered g.ways.are_numbered in
      plan_alike (subst (λ (z : List PlannedWay). Along IsPlannedWay z p.ways.items) same f.ways.planned)
      g.ways.planned

  -- Variables

  variable_one : (n : ℕ) (u v : Variable) → Stands p.variables.items n u → Stands q.variables.items n v
      → flat_variable_line p u ≡ flat_variable_line q v
  variable_one n u v s t =
      let o = along_on (net_of p).variables (net_of q).variables variables_along n (variable_of n u)
      (variable_there p n u s) in
      let there : o.0 ≡ variable_of n v =
      stands_one (net_of q).variables n o.0 (variable_of n v) o.1 (variable_there q n v t) in
      let same = subst (λ (z : SystemVariable ℕ). Variable_renames Same (variable_of n u) z) there o.2 in
      let path : u.path ≡ v.path =
      maps_there (λ (y : Variable). y.path) p.variables.items q.variables.items (variables_one p q names) n u v s t in
      let domain : domain_text p u.domain ≡ domain_text q v.domain =
      domain_one p q (symbols_one p q names) u.domain v.domain (a.variables n u s).domain (b.variables n v t).domain
      same.domain in
      let value : value_text p.symbols.items u.value ≡ value_text q.symbols.items v.value =
      ap (λ (z : List (List ℕ)). value_text z u.value) (symbols_one p q names)
      ∙ ap (value_text q.symbols.items) same.value in
      ap (λ (z : Bool). told_line z u.path (domain_text p u.domain) (value_text p.symbols.items u.value)) same.is_state
      ∙ ap (λ (z : List ℕ). told_line v.is_state z (domain_text p u.domain) (value_text p.symbols.items u.value)) path
      ∙ ap (λ (z : List ℕ). told_line v.is_state v.path z (value_text p.symbols.items u.value)) domain
      ∙ ap (told_line v.is_state v.path (domain_text q v.domain)) value

  -- Events

  -- ways that are listed at one place of one event are alike
  listed_alike : (n k : ℕ) (e : Event) (i j : WayId) → Stands q.events.items n e → Stands e.ways.items k j
      → (v : IsListedWay p n k i) (w : IsListedWay q n k j) → AreAlike v.way w.way
  listed_alike n k e i j s t v w =
      let o = along_on p.ways.items q.ways.items ways_alike i.n v.way v.stands in
      let own = b.own_ways i.n o.0 o.1 in
      let event : o.0.event.n ≡ n = sym o.2.event ∙ v.event in
      let is : own.event ≡ e = stands_one q.events.items n own.event e
      (subst (λ (z : ℕ). Stands q.events.items z own.event) event own.stands) s in
      let number : own.place + 1 ≡ k + 1 = sym own.number ∙ sym o.2.number ∙ v.number in
      let place : own.place ≡ k = omega (arith, number) in
      let listed = subst (λ (z : ℕ). Stands e.ways.items z own.way) place
      (subst (λ (z : Event). Stands z.ways.items own.place own.way) is own.there) in
      let one : own.way ≡ j = stands_one e.ways.items k own.way j listed t in
      let same : i.n ≡ j.n = sym own.is ∙ ap (λ (z : WayId). z.n) one in
      let way : o.0 ≡ w.way = stands_one q.ways.items j.n o.0 w.way
      (subst (λ (z : ℕ). Stands q.ways.items z o.0) same o.1) w.stands in
      subst (λ (z : Way). AreAlike v.way z) way o.2

  way_line_one : (n k : ℕ) (e : Event) (i j : WayId) (c d : Bool) (t u : Tree (Transition ℕ))
      → Stands q.events.items n e → Stands e.ways.items k j → IsListedWay p n k i → IsListedWay q n k j → c ≡ d
      → IsWayAt p i.n t → IsWayAt q j.n u → Way_renames Same t u
      → line_found p c (slice_get p.ways.items i.n) ≡ line_found q d (slice_get q.ways.items j.n)
  way_line_one n k e i j c d t u s r v w hidden here there same =
      ap (line_found p c) v.stands
      ∙ way_one p q names ways_alike v.way w.way c d hidden (listed_alike n k e i j s r v w) same
      (body_there p i.n v.way t v.stands here) (body_there q j.n w.way u w.stands there)
      ∙ sym (ap (line_found q d) w.stands)

  event_one : (n : ℕ) (d e : Event) → Stands p.events.items n d → Stands q.events.items n e
      → event_lines p d ≡ event_lines q e
  event_one n d e s t =
      let here = along_on p.events.items f.flat.events f.views.events n d s in
      let over = along_on f.flat.events g.flat.events events_along n here.0 here.1 in
      let there = along_on q.events.items g.flat.events g.views.events n e t in
      let same : over.0 ≡ there.0 = stands_one g.flat.events n over.0 there.0 over.1 there.1 in
      let renames = subst (λ (z : SystemEvent ℕ). Event_renames Same here.0 z) same over.2 in
      ap concat (maps_one (λ (w : WayId). line_found p d.hidden (slice_get p.ways.items w.n))
      (λ (w : WayId). line_found q e.hidden (slice_get q.ways.items w.n)) d.ways.items e.ways.items
      (along_length d.ways.items here.0.ways here.2.ways ∙ along_length here.0.ways there.0.ways renames.ways
      ∙ sym (along_length e.ways.items there.0.ways there.2.ways))
      (λ k i j u v.
      let tree = along_on d.ways.items here.0.ways here.2.ways k i u in
      let image = along_on here.0.ways there.0.ways renames.ways k tree.0 tree.1 in
      let other = along_on e.ways.items there.0.ways there.2.ways k j v in
      let one : image.0 ≡ other.0 = stands_one there.0.ways k image.0 other.0 image.1 other.1 in
      way_line_one n k e i j d.hidden e.hidden tree.0 other.0 t v (a.event_ways n k d i s u) (b.event_ways n k e j t v)
      (sym here.2.hidden ∙ renames.hidden ∙ there.2.hidden) tree.2 other.2
      (subst (λ (z : Tree (Transition ℕ)). Way_renames Same tree.0 z) one image.2)))

  -- All lines

  lines_one : (s t u v s' t' u' v' : List ℕ) → s ≡ s' → t ≡ t' → u ≡ u' → v ≡ v'
      → s ++ t ++ u ++ v ≡ s' ++ t' ++ u' ++ v'
  lines_one s t u v s' t' u' v' e h i j = cc

  pub flat_one : flat_text p ≡ flat_text q
  flat_one =
      lines_one (concat (map (flat_variable_line p) p.variables.items)) (concat (map (event_lines p) p.events.items))
      (assert_lines p 0 p.assigns.items) (concat (map (flat_observer_line p) p.observers.items))
      (concat (map (flat_variable_line q) q.variables.items)) (concat (map (event_lines q) q.events.items))
      (assert_lines q 0 q.assigns.items) (concat (map (flat_observer_line q) q.observers.items))
      (ap concat (maps_one (flat_variable_line p) (flat_variable_line q) p.variables.items q.variables.items
      (maps_long (λ (y : Variable). y.path) p.variables.items q.variables.items (variables_one p q names))
      variable_one))
      (ap concat (maps_one (event_lines p) (event_lines q) p.events.items q.events.items
      (maps_long (λ (y : Event). y.path) p.events.items q.events.items (events_one p q names)) event_one))
      (asserts_one p q names 0 p.assigns.items q.assigns.items (ap (λ (z : Naming). z.places) names) assertions_along)
      (ap concat (observers_one p q names p.observers.items q.observers.items
      (ap (λ (z : Naming). z.observers) names) observers_along))
