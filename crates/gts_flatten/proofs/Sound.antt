-- What is made of sound bound forms is sound.
use Rattle.std.proofs.Common.{◌≡◌, ℕ, zero, suc, ◌+◌, ◌<◌, ◌≤◌, ◌^◌, Bool, true, false, List, map, length, slice_index, sum, Vec, refl, sym, ◌∙◌, ap, subst, arith}
use Rattle.std.proofs.lemmas.List.{length-map}
use Rattle.std.specs.Global.{Global}
use Rattle.std.specs.List.{flat_map, range_with_len}
use Rattle.ar_base.specs.Lists.{Stands, IsOneOf, Along}
use Rattle.ar_base.specs.Numbers.{VarId, WayId}
use Rattle.ar_base.proofs.Standing.{stands_one, stands_none, stands_map, stands_some, stands_within, one_here, along_on, along_back, along_length}
use Rattle.domains.specs.Domains.{Holds}
use Rattle.domains.specs.declared.Value.{Value}
use Rattle.domains.specs.declared.Value.TheVariants as value
use Rattle.typed_expr.specs.declared.expr.Expr.{Expr}
use Rattle.typed_expr.specs.declared.expr.ValueKind.{ValueKind}
use Rattle.typed_expr.specs.declared.expr.ValueKind.TheVariants as kind
use Rattle.ar_meaning.specs.Systems.{Way as SystemWay}
use Rattle.ar_meaning.specs.Image.{Transition_renames}
use Rattle.ar_meaning.specs.Numbered.{Means_way, joint, leaf, Mean_parts, part, no_part, Joins, height}
use Rattle.gts_core.specs.Bound.{declared_from, assigns_of_act}
use Rattle.gts_core.specs.Copies.{IsCopy}
use Rattle.gts_core.proofs.SameDomains.{domain_there, value_there, value_back}
use Rattle.gts_core.specs.Sound.{IsSound, AreShort, IsVariableOf, IsNamedValue, IsTyped, IsAssignTo, IsListedWay, IsOwn}
use Rattle.gts_core.specs.View.{of_body, body_of_way, way_bodies, part_of, assign_of}
use Rattle.gts_core.specs.declared.bound.DeclaredWay.{DeclaredWay}
use Rattle.gts_core.specs.declared.bound.DeclaredWay.TheVariants as declared
use Rattle.gts_core.specs.declared.system.Assign.{Assign}
use Rattle.gts_core.specs.declared.system.Event.{Event}
use Rattle.gts_core.specs.declared.system.GtsParts.{GtsParts}
use Rattle.gts_core.specs.declared.system.Observer.{Observer}
use Rattle.gts_core.specs.declared.system.Variable.{Variable}
use Rattle.gts_core.specs.declared.system.Way.{Way}
use Rattle.gts_core.specs.declared.system.WayBody.{WayBody}
use Rattle.gts_core.specs.declared.system.WayBody.TheVariants.{Local, Sync}
use Rattle.source_meaning.specs.SoundBound.{IsSoundBound, IsOverBound}
use Rattle.source_meaning.specs.declared.bound.Bound.{Bound}
use Rattle.sync_expand.specs.Counts.{AreCounts}
use Rattle.sync_expand.specs.Expanding.{AreWays}
use Rattle.sync_expand.specs.Counting.{most_ways}
use Rattle.sync_expand.specs.Plans.{first_of, ways_at, planned_ways, PlannedWay}
use Rattle.sync_expand.specs.Planned.{planned_of, all_bodies, IsResolved}
use Rattle.sync_expand.specs.declared.plans.PlanBody.{PlanBody}
use Rattle.sync_expand.specs.declared.plans.PlanBody.TheVariants as planned
use Rattle.sync_expand.specs.declared.plans.WayPlan.{WayPlan}
use Rattle.sync_expand.proofs.Capping.{read_number}
use Rattle.sync_expand.proofs.DeclaredLemmas.{declared_key, declared_keyed, declared_length}
use Rattle.sync_expand.proofs.KnownLemmas.{first_within, first_below, sum_within}
use Rattle.sync_expand.proofs.Meaning.{way_means, plan_resolved}
use Rattle.sync_expand.proofs.ByNumber.{stands_by}
use Rattle.sync_expand.proofs.WaysLemmas.{are_counts}
use Rattle.gts_flatten.specs.Making.{AreMadeOf, IsMadeOf, acts, joins, IsTransitionAt, IsTransitionOf, transition}
use Rattle.gts_flatten.proofs.EventsMade.{planned_place, plan_long}
use Rattle.gts_flatten.proofs.Heights.{HasTree, tree_there, height_within, length_range}
use Rattle.gts_flatten.proofs.Typing.{copy_typed, sound_assigns, sound_all, assigns_sound}
use Rattle.gts_flatten.proofs.WaysMade.{same, bodies_along, place_one}

-- the place of a planned transition
abbrev place_of : PlanBody → ℕ
place_of (planned.Local k) = k
place_of (planned.Sync ps) = 0

-- Numbers in a row

pub range_stands : (a c k x : ℕ) → Stands (range_with_len a c) k x → (x ≡ a + k) × (k < c)
range_stands a zero k x s = absurd (stands_none k x s)
range_stands a (suc c) zero x s = (let h : a ≡ x = cc in omega (arith, h), omega arith)
range_stands a (suc c) (suc k) x s = let r = range_stands (a + 1) c k x s in (let e = r.0 in omega (arith, e), let l = r.1 in omega (arith, l))

module _ (b : Bound) (ways : List (List (SystemWay ℕ))) (are : AreWays (declared_from 0 b.events.items) ways)
    (plan : List WayPlan)
    (is : map planned_of plan ≡ planned_ways (map length ways) (declared_from 0 b.events.items)) where
  counted : AreCounts (declared_from 0 b.events.items) (map length ways)
  counted = are_counts (declared_from 0 b.events.items) (declared_keyed b.events.items) (declared_key b.events.items)
      ways are

  counts_long : length (map length ways) ≡ length b.events.items
  counts_long = counted.long ∙ declared_length 0 b.events.items

  total : length plan ≡ sum (map length ways)
  total = plan_long (map length ways) b.events.items plan counted is

  -- ways have numbers
  pub plan_small : IsSoundBound b → most_ways ways ≤ 256 → length plan < 2 ^ 32
  plan_small s few = let w = sum_within (map length ways) few in let l = counts_long in let e = s.few.events in let t = total in omega (arith, w, l, e, t)

  module _ (s : IsSoundBound b) (p : GtsParts) (made : AreMadeOf b (map length ways) plan p) where
    -- the same over the bound symbols, units and variables
    abbrev over : GtsParts
    over = record {
      symbols = b.symbols;
      units = b.units;
      variables = b.variables;
      events = p.events;
      ways = p.ways;
      assigns = p.assigns;
      observers = p.observers;
    }

    is_over : IsOverBound b over
    is_over = record { symbols = refl; units = refl; variables = refl }

    symbols_long : length p.symbols.items ≡ length over.symbols.items
    symbols_long = ap length made.symbols

    named_there : (v : Value) → IsNamedValue over v → IsNamedValue p v
    named_there (value.Truth t) h = tt
    named_there (value.Whole n) h = tt
    named_there (value.Symbol k) h = let l = symbols_long in omega (arith, h, l)

    variables_sound : (n : ℕ) (x : Variable) → Stands p.variables.items n x → IsVariableOf p x
    variables_sound n x h =
        let o = along_back b.variables.items p.variables.items made.variables n x h in
        let v = s.variables over is_over n o.0 o.1 in
        record {
          unit = (let u = v.unit in let e : x.unit.n ≡ o.0.unit.n = ap (λ z. z.n) o.2.unit in let l : length p.units.items ≡ length b.units.items = ap length made.units in omega (arith, u, e, l));
          domain = domain_there o.2.domain v.domain;
          names = λ w k. named_there w (v.names w (value_back o.2.domain w k));
          value = value_there o.2.domain x.value (subst (λ (z : Value). Holds o.0.domain z) (sym o.2.value) v.value);
        }

    typed_there : (e f : Expr VarId) (k : ValueKind) → IsTyped over e k → IsCopy e f → IsTyped p f k
    typed_there e f k t c = copy_typed over p symbols_long made.variables e f k t c

    -- Events and ways

    event_units : (n : ℕ) (e : Event) → Stands p.events.items n e → e.unit.n < length p.units.items
    event_units n e h =
        let d = stands_some b.events.items n (let l = stands_within p.events.items n e h in let m = made.events.long in omega (arith, l, m)) in
        let u = s.event_units d.0 (one_here b.events.items n d.0 d.1) in
        let i : e.unit.n ≡ d.0.unit.n = ap (λ z. z.n) (made.events.each n d.0 e d.1 h).unit in
        let l : length p.units.items ≡ length b.units.items = ap length made.units in
        omega (arith, u, i, l)

    -- the numbers of an event's ways
    numbered_ways : (n : ℕ) (e : Event) → Stands p.events.items n e
        → map (λ (w : WayId). w.n) e.ways.items ≡ ways_at (map length ways) n
    numbered_ways n e h =
        let d = stands_some b.events.items n (let l = stands_within p.events.items n e h in let m = made.events.long in omega (arith, l, m)) in
        (made.events.each n d.0 e d.1 h).ways

    pub id_at : (n k : ℕ) (e : Event) (id : WayId) → Stands p.events.items n e → Stands e.ways.items k id
        → (id.n ≡ first_of (map length ways) n + k) × (k < slice_index (map length ways) n)
    id_at n k e id h i =
        range_stands (first_of (map length ways) n) (slice_index (map length ways) n) k id.n
        (subst (λ z. Stands z k id.n) (numbered_ways n e h) (stands_map (λ (w : WayId). w.n) e.ways.items k id i))

    pub ids_long : (n : ℕ) (e : Event) → Stands p.events.items n e
        → length e.ways.items ≡ slice_index (map length ways) n
    ids_long n e h =
        sym (length-map e.ways.items (λ (z : WayId). z.n))
        ∙ (ap length (numbered_ways n e h)
        ∙ length_range (first_of (map length ways) n) (slice_index (map length ways) n))

    events_long : length p.events.items ≡ length (map length ways)
    events_long = let m = made.events.long in let l = counts_long in omega (arith, m, l)

    event_ways : (n k : ℕ) (e : Event) (id : WayId) → Stands p.events.items n e → Stands e.ways.items k id
        → IsListedWay p n k id
    event_ways n k e id h i =
        let a = id_at n k e id h i in
        let in_events = stands_within p.events.items n e h in
        let below : n < length (map length ways) = (let l = events_long in omega (arith, in_events, l)) in
        let next = first_within (map length ways) n below in
        let end = first_below (map length ways) (n + 1) in
        let t = total in
        let w = stands_some plan id.n (let x = a.0 in let y = a.1 in omega (arith, x, y, next, end, t)) in
        let row = along_on plan p.ways.items made.ways id.n w.0 w.1 in
        let q = planned_place (map length ways) b.events.items plan counted is id.n w.0 w.1 in
        let one = place_one (map length ways) q.0 n q.1 k (let l = q.2 in let m = counts_long in omega (arith, l, m)) below q.4 a.1 (sym q.3 ∙ a.0) in
        record {
          way = row.0;
          stands = row.1;
          event = ap (λ z. z.n) row.2.event ∙ (q.5 ∙ one.0);
          number = row.2.number ∙ (q.6 ∙ ap (λ (z : ℕ). z + 1) one.1);
        }

    own_ways : (n : ℕ) (w : Way) → Stands p.ways.items n w → IsOwn p n w
    own_ways n w h =
        let row = along_back plan p.ways.items made.ways n w h in
        let q = planned_place (map length ways) b.events.items plan counted is n row.0 row.1 in
        let e = stands_some p.events.items q.0 (let l = q.2 in let m = made.events.long in omega (arith, l, m)) in
        let long = ids_long q.0 e.0 e.1 in
        let id = stands_some e.0.ways.items q.1 (let l = q.4 in omega (arith, l, long)) in
        record {
          event = e.0;
          stands = subst (λ (z : ℕ). Stands p.events.items z e.0) (sym (ap (λ z. z.n) row.2.event ∙ q.5)) e.1;
          place = q.1;
          number = row.2.number ∙ q.6;
          way = id.0;
          is = (id_at q.0 q.1 e.0 id.0 e.1 id.1).0 ∙ sym q.3;
          there = id.1;
        }

    -- the way of this number is the planned one, with copied leaves
    pub record IsCopiedWay (n : ℕ) : Type 0 where
      pub event : ℕ
      pub place : ℕ
      pub own : List (SystemWay ℕ)
      pub way : SystemWay ℕ
      pub stands : Stands ways event own
      pub there : Stands own place way
      pub number : n ≡ first_of (map length ways) event + place
      pub copy : HasTree (Transition_renames same) (way_bodies p) n way

    pub copied_at : (event place : ℕ) (own : List (SystemWay ℕ)) (way : SystemWay ℕ) → Stands ways event own
        → Stands own place way
        → HasTree (Transition_renames same) (way_bodies p) (first_of (map length ways) event + place) way
    copied_at event place own way i j =
        let es = declared_from 0 b.events.items in
        let resolved = plan_resolved es (map length ways) es
        (stands_by es (record { numbered = declared_key b.events.items })) in
        let rows = bodies_along b.events.items made.ways
        (subst (λ (z : List PlannedWay). Along (IsResolved es) z (all_bodies (map length ways) es)) (sym is)
        resolved) in
        tree_there (Transition_renames same) (all_bodies (map length ways) es) (way_bodies p) rows
        (way_means es (declared_keyed b.events.items) (declared_key b.events.items) ways are way event place own i
        j)

    copied_way : (n : ℕ) → n < length p.ways.items → IsCopiedWay n
    copied_way n l =
        let w = stands_some p.ways.items n l in
        let row = along_back plan p.ways.items made.ways n w.0 w.1 in
        let q = planned_place (map length ways) b.events.items plan counted is n row.0 row.1 in
        let own = stands_some ways q.0 (let x = q.2 in let m = counts_long in let y = length-map ways length in omega (arith, x, m, y)) in
        let long : slice_index (map length ways) q.0 ≡ length own.0 =
        read_number (map length ways) q.0 (length own.0) (stands_map length ways q.0 own.0 own.1) in
        let t = stands_some own.0 q.1 (let x = q.4 in omega (arith, x, long)) in
        record {
          event = q.0;
          place = q.1;
          own = own.0;
          way = t.0;
          stands = own.1;
          there = t.1;
          number = q.3;
          copy = subst (λ (z : ℕ). HasTree (Transition_renames same) (way_bodies p) z t.0) (sym q.3)
              (copied_at q.0 q.1 own.0 t.0 own.1 t.1);
        }

    trees : (n : ℕ) → n < length p.ways.items
        → (w : SystemWay ℕ) × Means_way (way_bodies p) n w × (height w ≤ length p.ways.items)
    trees n l =
        let c = copied_way n l in
        let h = height_within (way_bodies p) n c.copy.tree c.copy.means in
        let m = length-map p.ways.items body_of_way in
        (c.copy.tree, c.copy.means, omega (arith, h, m))

    part_within : {ps : List (Bool × ℕ)} {bs : _} → Mean_parts (way_bodies p) ps bs → (k : ℕ) (x : Bool × ℕ)
        → Stands ps k x → x.1 < length p.ways.items
    part_within no_part k x h = absurd (stands_none k x h)
    part_within (part {must = must} {n = n} w m) zero x h = let e : (must, n) ≡ x = cc in subst (λ (z : Bool × ℕ). z.1 < length p.ways.items) e (means_within w)
      where
        means_within : {t : SystemWay ℕ} → Means_way (way_bodies p) n t → n < length p.ways.items
        means_within (leaf {l = l} i) = let w = stands_within (way_bodies p) n _ i in let m = length-map p.ways.items body_of_way in omega (arith, w, m)
        means_within (joint {parts = ps} i j) = let w = stands_within (way_bodies p) n _ i in let m = length-map p.ways.items body_of_way in omega (arith, w, m)
    part_within (part w m) (suc k) x h = part_within m k x h

    -- Bodies

    made_body : (e : ℕ) {pb : PlanBody} {wb : WayBody} (guard : Expr VarId) (action : Vec Assign Global)
        → IsMadeOf b.events.items e pb wb → wb ≡ Local guard action
        → IsTransitionAt b.events.items e (place_of pb) (Local guard action)
    made_body e guard action (acts {place = k} t) i = subst (λ (z : WayBody). IsTransitionAt b.events.items e k z) i t
    made_body e guard action (joins k) i = absurd cc

    typed_guard : (e k : ℕ) (guard : Expr VarId) (action : Vec Assign Global)
        → IsTransitionAt b.events.items e k (Local guard action) → IsTyped p guard kind.Truth
    typed_guard e k guard action t = go t.way t.there t.is_transition
      where
        go : (way : DeclaredWay) → Stands t.declared.ways.items k way → IsTransitionOf way (Local guard action)
            → IsTyped p guard kind.Truth
        go way there (transition {guard = g} {action = a} c i) =
            typed_there g guard kind.Truth
            (s.guards over is_over t.declared g a (one_here b.events.items e t.declared t.stands)
            (one_here t.declared.ways.items k (declared.Local g a) there)) c

    typed_action : (e k : ℕ) (guard : Expr VarId) (action : Vec Assign Global)
        → IsTransitionAt b.events.items e k (Local guard action) → (a : Assign) → IsOneOf action.items a
        → IsAssignTo p true a
    typed_action e k guard action t a o = go t.way t.there t.is_transition
      where
        go : (way : DeclaredWay) → Stands t.declared.ways.items k way → IsTransitionOf way (Local guard action)
            → IsAssignTo p true a
        go way there (transition {guard = g} {action = x} c i) =
            let m = s.actions over is_over t.declared g x (one_here b.events.items e t.declared t.stands)
            (one_here t.declared.ways.items k (declared.Local g x) there) in
            assigns_sound over p symbols_long made.variables true (assigns_of_act x) action.items
            (λ z h. sound_assigns over true x z m h) i a o

    guards : (n : ℕ) (w : Way) (guard : Expr VarId) (action : Vec Assign Global) → Stands p.ways.items n w
        → w.body ≡ Local guard action → IsTyped p guard kind.Truth
    guards n w guard action h i =
        let row = along_back plan p.ways.items made.ways n w h in
        typed_guard row.0.event.n (place_of row.0.body) guard action (made_body row.0.event.n guard action row.2.body i)

    actions : (n : ℕ) (w : Way) (guard : Expr VarId) (action : Vec Assign Global) → Stands p.ways.items n w
        → w.body ≡ Local guard action → (a : Assign) → IsOneOf action.items a → IsAssignTo p true a
    actions n w guard action h i a o =
        let row = along_back plan p.ways.items made.ways n w h in
        typed_action row.0.event.n (place_of row.0.body) guard action
        (made_body row.0.event.n guard action row.2.body i) a o

    parts_of_tree : (n : ℕ) (t : SystemWay ℕ) (ps : List (Bool × ℕ)) → Means_way (way_bodies p) n t
        → Stands (way_bodies p) n (Joins ps) → (k : ℕ) (x : Bool × ℕ) → Stands ps k x → x.1 < length p.ways.items
    parts_of_tree n t ps (leaf i) j k x h = absurd (let e = stands_one (way_bodies p) n _ _ i j in cc)
    parts_of_tree n t ps (joint {parts = qs} i m) j k x h =
        let e : Joins qs ≡ Joins ps = stands_one (way_bodies p) n _ _ i j in
        let f : qs ≡ ps = cc in
        part_within m k x (subst (λ (z : List (Bool × ℕ)). Stands z k x) (sym f) h)

    parts : (n : ℕ) (w : Way) (ps : Vec (Bool × WayId) Global) → Stands p.ways.items n w → w.body ≡ Sync ps
        → (x : Bool × WayId) → IsOneOf ps.items x → x.1.n < length p.ways.items
    parts n w ps h i x o =
        let c = copied_way n (stands_within p.ways.items n w h) in
        let here = subst (λ (z : WayBody). Stands (way_bodies p) n (of_body z)) i
        (stands_map body_of_way p.ways.items n w h) in
        parts_of_tree n c.copy.tree (map part_of ps.items) c.copy.means here o.place (part_of x)
        (stands_map part_of ps.items o.place x o.stands)

    -- Assertions and observers

    assertions : (a : Assign) → IsOneOf p.assigns.items a → IsAssignTo p false a
    assertions a o =
        assigns_sound over p symbols_long made.variables false (flat_map assigns_of_act b.assertions.items)
        p.assigns.items
        (λ z h. sound_all over false b.assertions.items z (λ x k. s.assertions over is_over x k) h) made.assigns a o

    observers : (o : Observer) → IsOneOf p.observers.items o → IsTyped p o.value o.kind
    observers o i =
        let x = along_back b.observers.items p.observers.items made.observers i.place o i.stands in
        subst (λ (z : ValueKind). IsTyped p o.value z) (sym x.2.kind)
        (typed_there x.0.value o.value x.0.kind
        (s.observers over is_over x.0 (one_here b.observers.items i.place x.0 x.1)) x.2.value)

    short : most_ways ways ≤ 256 → length (flat_map assigns_of_act b.assertions.items) < 2 ^ 32 → AreShort p
    short few l = record {
      symbols = (let x = s.few.symbols in let e : length p.symbols.items ≡ length b.symbols.items = ap length made.symbols in omega (arith, x, e));
      units = (let x = s.few.units in let e : length p.units.items ≡ length b.units.items = ap length made.units in omega (arith, x, e));
      variables = (let x = s.few.variables in let e = along_length b.variables.items p.variables.items made.variables in omega (arith, x, e));
      events = (let x = s.few.events in let e = made.events.long in omega (arith, x, e));
      ways = (let x = plan_small s few in let e = along_length plan p.ways.items made.ways in omega (arith, x, e));
      assigns = (let e = along_length (flat_map assigns_of_act b.assertions.items) (map assign_of p.assigns.items) made.assigns in let m = length-map p.assigns.items assign_of in omega (arith, l, e, m));
      observers = (let x = s.few.observers in let e = along_length b.observers.items p.observers.items made.observers in omega (arith, x, e));
    }

    -- the parts are sound
    pub sound : most_ways ways ≤ 256 → length (flat_map assigns_of_act b.assertions.items) < 2 ^ 32 → IsSound p
    sound few l = record {
      short = short few l;
      variables = variables_sound;
      event_units = event_units;
      event_ways = event_ways;
      own_ways = own_ways;
      guards = guards;
      actions = actions;
      parts = parts;
      trees = trees;
      assertions = assertions;
      observers = observers;
    }
