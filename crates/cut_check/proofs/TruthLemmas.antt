-- How far lines are fired, and which are true.
use Rattle.std.proofs.Common.{◌≡◌, ℕ, zero, suc, ◌+◌, ◌<◌, Bool, true, false, List, [], ◌∷◌, ◌++◌, take, drop, reverse, length, get_or, Result, Ok, Err, IfOk, Vec, Global, refl, sym, ap, ◌∙◌, subst, arith, inl, inr}
use Rattle.std.proofs.lemmas.List.{map-append, reverse-append, take_more, take-append-drop}
use Rattle.ar_base.specs.Lists.{Stands, IsOneOf}
use Rattle.ar_base.specs.Numbers.{WayId}
use Rattle.ar_base.specs.declared.faults.Memory.{Memory}
use Rattle.ar_base.proofs.Standing.{stands_one, stands_none, stands_map, stands_map_back, stands_split, along_on, along_back, one_here}
use Rattle.domains.specs.Same.{is_same}
use Rattle.domains.specs.declared.Value.{Value}
use Rattle.domains.proofs.Same.{same_is, same_self}
use Rattle.typed_expr.specs.Yields.{Yields}
use Rattle.typed_expr.specs.declared.expr.Expr.{Expr, out-Expr}
use Rattle.ar_meaning.specs.Systems as s
use Rattle.ar_meaning.specs.Facts.{HasValue}
use Rattle.ar_meaning.specs.Flows.{FlowFault, Outcome, Fails, Total}
use Rattle.ar_meaning.specs.Found.{IsAnswer}
use Rattle.ar_meaning.specs.Runs.{Label, IsWay, Start, StartFails}
use Rattle.ar_meaning.specs.Steps.{Answer, Step, Next, Refused}
use Rattle.ar_meaning.specs.Steps as steps
use Rattle.ar_meaning.proofs.OneAnswer.{flows_same, step_same}
use Rattle.ar_meaning.proofs.OneRun.{way_same}
use Rattle.ar_firing.specs.Cuts.{Reaches, AreEvents}
use Rattle.ar_firing.specs.Cuts as cuts
use Rattle.ar_firing.specs.Fragment.{IsOpen}
use Rattle.ar_firing.specs.Replays.{AreOpen}
use Rattle.ar_firing.proofs.Replays.{replays_so}
use Rattle.ar_firing.proofs.RunsTold.{reaches_same}
use Rattle.flow_propagate.specs.Answers.{fault_of}
use Rattle.gts_core.specs.Readings.{IsTotal, value_in}
use Rattle.gts_core.specs.Sound.{IsSound}
use Rattle.gts_core.specs.View.{Views, IsWayAt, net_of, numbered}
use Rattle.gts_core.specs.declared.bound.Chain.{Chain}
use Rattle.gts_core.specs.declared.system.GtsParts.{GtsParts}
use Rattle.gts_core.specs.declared.system.Observer.{Observer}
use Rattle.gts_core.proofs.Reading.{yielded_value, value_yielded}
use Rattle.job_inputs.specs.Chains.{chain_labels}
use Rattle.job_inputs.specs.CutReads.{AreKnownWays}
use Rattle.text_pieces.specs.WayLabels.{numbered_label}
use Rattle.text_pieces.proofs.Ways.{way_named}
use Rattle.flow_propagate.specs.declared.propagation.PropagateFault.{PropagateFault}
use Rattle.flow_propagate.specs.declared.propagation.PropagateFault.TheVariants as propagates
use Rattle.stepper.specs.Steps.{Standing, IsStartFault, IsStepFault}
use Rattle.stepper.specs.declared.faults.StepFault.{StepFault}
use Rattle.stepper.specs.declared.faults.StepFault.TheVariants as fault
use Rattle.cut_check.specs.Flat.{chain_lines}
use Rattle.cut_check.specs.Rows.{IsOpenEvent, IsFit, AreLineRows}
use Rattle.cut_check.specs.Truths.{EndsRunAt, HasFired, AreTruths}
use Rattle.cut_check.specs.Truths as at
use Rattle.cut_check.specs.Verdicts.{events_of, IsTrueLine}
use Rattle.cut_check.specs.declared.rows.Row.{Row}

-- The labels of ways

-- a list in two parts
parts_of : {A : Type 0} (n : ℕ) (xs : List A) → take n xs ++ drop n xs ≡ xs
parts_of n xs = take-append-drop n xs

-- one way more is the first of the labels, the last first
pub rev_more : (p : GtsParts) (ways : List WayId) (w : WayId)
    → reverse (chain_labels p (ways ++ w ∷ [])) ≡ numbered_label p w.n ∷ reverse (chain_labels p ways)
rev_more p ways w = ap reverse (map-append (λ (v : WayId). numbered_label p v.n) ways (w ∷ []))
    ∙ reverse-append (chain_labels p ways) (numbered_label p w.n ∷ [])

-- What is reached

module _ {V : Type 0} (sys : s.System V) (dropped : List ℕ) where
  -- what is reached was reached before
  pub reaches_front : (later before : List Label) (t : List Value) → Reaches sys dropped (later ++ before) t
      → (u : List Value) × Reaches sys dropped before u
  reaches_front [] before t r = (t, r)
  reaches_front (l ∷ later) before t r = go (λ z q. reaches_front later before z q) r
    where
      go : ((z : List Value) → Reaches sys dropped (later ++ before) z
          → (v : List Value) × Reaches sys dropped before v)
          → {u : List Value} → Reaches sys dropped (l ∷ (later ++ before)) u
          → (v : List Value) × Reaches sys dropped before v
      go on (cuts.fire {t = z} w q o step) = on z q

  pub first_open : (l : Label) (ls : List Label) (t : List Value) → Reaches sys dropped (l ∷ ls) t
      → (w : s.Way V) × IsOpen sys dropped l w
  first_open l ls t (cuts.fire w r o step) = (w, o)

  -- a label that meets a fault is not fired
  pub refused_not : (l : Label) (ls : List Label) (t u : List Value) (w : s.Way V) (f : steps.StepFault)
      → Reaches sys dropped ls t → IsWay sys l w → Step sys.net t w (Refused f)
      → Reaches sys dropped (l ∷ ls) u → ⊥
  refused_not l ls t u w f r is step (cuts.fire {t = v} x q p k) =
      let e = reaches_same sys dropped q r in
      let i : x ≡ w = way_same sys p.is_kept.is_way is in
      let a : ◌≡◌ {A = Answer} (Next u) (Refused f) =
      step_same sys.net (subst (λ (z : s.Way V). Step sys.net t z (Next u)) i (subst (λ z. Step sys.net z x (Next u)) e k)) step in cc

  -- nothing is reached where the start fails
  pub start_not : (f : FlowFault) (ls : List Label) (t : List Value) → StartFails sys.net f → Reaches sys dropped ls t
      → ⊥
  start_not f [] t fails r = go r
    where
      go : {u : List Value} → Reaches sys dropped [] u → ⊥
      go (cuts.start {t = u} g) = let e : ◌≡◌ {A = Outcome} (Fails f) (Total u) = flows_same sys.net fails g in cc
  start_not f (l ∷ ls) t fails r = go (λ z q. start_not f ls z fails q) r
    where
      go : ((z : List Value) → Reaches sys dropped ls z → ⊥) → {u : List Value} → Reaches sys dropped (l ∷ ls) u → ⊥
      go on (cuts.fire {t = z} w q o step) = on z q

-- the standing run reaches its valuation
pub stands_reaches : (sys : s.System ℕ) (dropped : List ℕ) {ls : List Label} {t : List Value}
    {below : List (List Value)} → EndsRunAt sys dropped ls t below → Reaches sys dropped ls t
stands_reaches sys dropped (at.start f) = cuts.start f
stands_reaches sys dropped (at.fire w r o step) = cuts.fire w (stands_reaches sys dropped r) o step

-- the run without its last label
stands_back : (sys : s.System ℕ) (dropped : List ℕ) (l : Label) (ls : List Label) (t u : List Value)
    (below rest : List (List Value)) → below ≡ u ∷ rest
    → EndsRunAt sys dropped (l ∷ ls) t below → EndsRunAt sys dropped ls u rest
stands_back sys dropped l ls t u below rest e (at.fire {t = v} {below = old} w r o step) =
    let i : v ≡ u = cc in
    let j : old ≡ rest = cc in
    subst (λ (z : List Value). EndsRunAt sys dropped ls z rest) i
    (subst (λ (z : List (List Value)). EndsRunAt sys dropped ls v z) j r)

stands_some_below : (sys : s.System ℕ) (dropped : List ℕ) (l : Label) (ls : List Label) (t : List Value)
    (below : List (List Value)) → below ≡ [] → EndsRunAt sys dropped (l ∷ ls) t below → ⊥
stands_some_below sys dropped l ls t below e (at.fire w r o step) = cc

module _ (p : GtsParts) (sys : s.System ℕ) (dropped : List ℕ) where
  -- the last way taken back
  pub fired_less : (old new : List WayId) (w : WayId) (before after : Standing) → old ≡ new ++ w ∷ []
      → before.below ≡ after.values ∷ after.below
      → HasFired p sys dropped old before → HasFired p sys dropped new after
  fired_less old new w before after e back h = record {
    stands =
        let own = subst (λ (z : List Label). EndsRunAt sys dropped z before.values before.below)
        (ap (λ z. reverse (chain_labels p z)) e ∙ rev_more p new w) h.stands in
        stands_back sys dropped (numbered_label p w.n) (reverse (chain_labels p new)) before.values after.values before.below
        after.below back own;
  }

  pub fired_none_below : (old new : List WayId) (w : WayId) (before : Standing) → old ≡ new ++ w ∷ []
      → before.below ≡ [] → HasFired p sys dropped old before → ⊥
  fired_none_below old new w before e none h =
      let own = subst (λ (z : List Label). EndsRunAt sys dropped z before.values before.below)
      (ap (λ z. reverse (chain_labels p z)) e ∙ rev_more p new w) h.stands in
      stands_some_below sys dropped (numbered_label p w.n) (reverse (chain_labels p new)) before.values before.below none own

  pub fired_as : (old new : List WayId) (before after : Standing) → old ≡ new → before ≡ after
      → HasFired p sys dropped old before → HasFired p sys dropped new after
  fired_as old new before after e f h =
      subst (λ (z : List WayId). HasFired p sys dropped z after) e
      (subst (λ (z : Standing). HasFired p sys dropped old z) f h)

  pub fired_at_start : (views : Views p sys) (ways : List WayId) (start : Standing) → ways ≡ []
      → Start (net_of p) start.values → start.below ≡ [] → HasFired p sys dropped ways start
  fired_at_start views ways start e f none = record {
    stands = subst (λ (z : List WayId). EndsRunAt sys dropped (reverse (chain_labels p z)) start.values start.below) (sym e)
        (subst (λ (z : List (List Value)). EndsRunAt sys dropped [] start.values z) (sym none)
        (at.start (subst (λ (n : s.Net ℕ). Start n start.values) (sym views.net) f)));
  }

  module _ (sound : IsSound p) (views : Views p sys) (way : WayId) (inside : way.n < length p.ways.items) where
    -- one way more
    pub fired_more : (old new : List WayId) (before after : Standing) → before.system ≡ p → new ≡ old ++ way ∷ []
        → after.below ≡ before.values ∷ before.below
        → ((w : s.Way ℕ) → IsWayAt before.system way.n w
        → Step (net_of before.system) before.values w (Next after.values))
        → (v : s.Way ℕ) → IsOpen sys dropped (numbered_label p way.n) v → HasFired p sys dropped old before
        → HasFired p sys dropped new after
    fired_more old new before after same e below step v open_way h = record {
      stands =
          let named = way_named p sys views sound way.n inside in
          let own = subst (λ (q : GtsParts). (w : s.Way ℕ) → IsWayAt q way.n w
          → Step (net_of q) before.values w (Next after.values)) same step in
          let done = subst (λ (net : s.Net ℕ). Step net before.values named.way (Next after.values)) (sym views.net)
          (own named.way named.is_at) in
          let i : v ≡ named.way = way_same sys open_way.is_kept.is_way named.is_way in
          let its = subst (λ (z : s.Way ℕ). IsOpen sys dropped (numbered_label p way.n) z) i open_way in
          subst (λ (z : List (List Value)). EndsRunAt sys dropped (reverse (chain_labels p new)) after.values z) (sym below)
          (subst (λ (z : List Label). EndsRunAt sys dropped z after.values (before.values ∷ before.below))
          (sym (ap (λ z. reverse (chain_labels p z)) e ∙ rev_more p old way))
          (at.fire named.way h.stands its done));
    }

    refused_as : (old : List WayId) (before : Standing) (f : steps.StepFault)
        → ((w : s.Way ℕ) → IsWayAt p way.n w → Step (net_of p) before.values w (Refused f))
        → HasFired p sys dropped old before → (t : List Value)
        → Reaches sys dropped (numbered_label p way.n ∷ reverse (chain_labels p old)) t → ⊥
    refused_as old before f step h t r =
        let named = way_named p sys views sound way.n inside in
        let done = subst (λ (net : s.Net ℕ). Step net before.values named.way (Refused f)) (sym views.net)
        (step named.way named.is_at) in
        refused_not sys dropped (numbered_label p way.n) (reverse (chain_labels p old)) before.values t named.way f
        (stands_reaches sys dropped h.stands) named.is_way done r

    -- a way that meets a fault
    pub fire_stops : (old : List WayId) (before : Standing) (f : StepFault) → before.system ≡ p → (f ≡ fault.Memory → ⊥)
        → ((w : s.Way ℕ) → IsWayAt before.system way.n w → IsStepFault (net_of before.system) before.values w f)
        → HasFired p sys dropped old before → (t : List Value)
        → Reaches sys dropped (numbered_label p way.n ∷ reverse (chain_labels p old)) t → ⊥
    fire_stops old before f same some is h =
        go f some (subst (λ (q : GtsParts). (w : s.Way ℕ) → IsWayAt q way.n w
        → IsStepFault (net_of q) before.values w f) same is)
      where
        go : (f : StepFault) → (f ≡ fault.Memory → ⊥)
            → ((w : s.Way ℕ) → IsWayAt p way.n w → IsStepFault (net_of p) before.values w f)
            → (t : List Value) → Reaches sys dropped (numbered_label p way.n ∷ reverse (chain_labels p old)) t → ⊥
        go fault.NotEnabled some is = refused_as old before steps.NotEnabled is h
        go (fault.Clash x) some is = refused_as old before (steps.Clash x.n) is h
        go (fault.Range x) some is = refused_as old before (steps.Range x.n) is h
        go (fault.Flow f) some is = refused_as old before (steps.Flow (fault_of f)) is h
        go fault.Memory some is = absurd (some refl)

  -- the labels behind the fired ways are not reached where the next one meets a fault
  pub stops_all : (ways : List WayId) (n : ℕ) (d : WayId) → n < length ways
      → ((t : List Value) → Reaches sys dropped (numbered_label p (get_or ways n d).n ∷ reverse (chain_labels p (take n ways))) t
      → ⊥)
      → (t : List Value) → Reaches sys dropped (reverse (chain_labels p ways)) t → ⊥
  stops_all ways n d lt stop t r =
      let parts : ways ≡ take (n + 1) ways ++ drop (n + 1) ways = sym (parts_of (n + 1) ways) in
      let e : reverse (chain_labels p ways)
      ≡ reverse (chain_labels p (drop (n + 1) ways)) ++ reverse (chain_labels p (take (n + 1) ways)) =
      ap (λ z. reverse (chain_labels p z)) parts
      ∙ ap reverse (map-append (λ (v : WayId). numbered_label p v.n) (take (n + 1) ways) (drop (n + 1) ways))
      ∙ reverse-append (chain_labels p (take (n + 1) ways)) (chain_labels p (drop (n + 1) ways)) in
      let f : reverse (chain_labels p (take (n + 1) ways))
      ≡ numbered_label p (get_or ways n d).n ∷ reverse (chain_labels p (take n ways)) =
      ap (λ z. reverse (chain_labels p z)) (take_more ways n d lt) ∙ rev_more p (take n ways) (get_or ways n d) in
      let own = reaches_front sys dropped (reverse (chain_labels p (drop (n + 1) ways)))
      (reverse (chain_labels p (take (n + 1) ways))) t
      (subst (λ (z : List Label). Reaches sys dropped z t) e r) in
      stop own.0 (subst (λ (z : List Label). Reaches sys dropped z own.0) f own.1)

-- Lines

module _ (p : GtsParts) (sound : IsSound p) (sys : s.System ℕ) (views : Views p sys) (dropped : List ℕ) where
  -- an open event, and a label of it
  open_way : (way : WayId) → way.n < length p.ways.items → IsOpenEvent p dropped (numbered_label p way.n).event
      → (w : s.Way ℕ) × IsOpen sys dropped (numbered_label p way.n) w
  open_way way inside o =
      let named = way_named p sys views sound way.n inside in
      let mid = along_on p.events.items sys.events views.events (numbered_label p way.n).event o.event o.stands in
      let same : named.is_way.event ≡ mid.0 = stands_one sys.events (numbered_label p way.n).event named.is_way.event mid.0 named.is_way.is_event mid.1 in (
        named.way,
        record {
          is_kept = record { is_way = named.is_way; stays = o.stays };
          visible = ap (λ (z : s.Event ℕ). z.hidden) same ∙ mid.2.hidden ∙ o.visible;
        },
      )

  pub are_open : (ways : List WayId) → AreKnownWays p ways → IsFit p dropped (chain_labels p ways)
      → AreOpen sys dropped (chain_labels p ways)
  are_open ways known f = record {
    each = λ k l at_k.
        let w = stands_map_back (λ (v : WayId). numbered_label p v.n) ways k l at_k in
        let o = f.are_open k l at_k in
        subst (λ (z : Label). (v : s.Way ℕ) × IsOpen sys dropped z v) w.2
        (open_way w.0 (known.each w.0 (one_here ways k w.0 w.1))
        (subst (λ (z : Label). IsOpenEvent p dropped z.event) (sym w.2) o));
  }

  event_open : (l : Label) (w : s.Way ℕ) → IsOpen sys dropped l w → IsOpenEvent p dropped l.event
  event_open l w o =
      let e = along_back p.events.items sys.events views.events l.event o.is_kept.is_way.event
      o.is_kept.is_way.is_event in
      record { event = e.0; stands = e.1; visible = sym e.2.hidden ∙ o.visible; stays = o.is_kept.stays }

  -- a true line is fit
  pub true_fit : (observer : Expr ℕ) (wanted : Value) (ls : List Label) → IsTrueLine sys dropped observer wanted ls
      → IsFit p dropped ls
  true_fit observer wanted ls h = record {
    once = record {
      one = λ m n a s t.
          let l = stands_map_back (λ (k : Label). k.event) ls m a s in
          let k = stands_map_back (λ (k : Label). k.event) ls n a t in
          h.once.once m n l.0 k.0 l.1 k.1 (l.2 ∙ sym k.2);
    };
    are_open = λ k l s. let o = (replays_so sys dropped {ls = ls} h.reaches).0.each k l s in event_open l o.0 o.1;
  }

  events_once : (ls : List Label) → IsFit p dropped ls → AreEvents ls (events_of ls)
  events_once ls f = record {
    sound = λ k l s. one_here (events_of ls) k l.event (stands_map (λ (m : Label). m.event) ls k l s);
    whole = λ e o.
        let l = stands_map_back (λ (m : Label). m.event) ls o.place e o.stands in
        (l.0, one_here ls o.place l.0 l.1, l.2);
    once = λ j k l m s t e.
        f.once.one j k l.event (stands_map (λ (z : Label). z.event) ls j l s)
        (subst (λ (z : ℕ). Stands (events_of ls) k z) (sym e) (stands_map (λ (z : Label). z.event) ls k m t));
  }

  -- whether a fired line is true
  pub fired_answer : (o : Observer) → IsOneOf p.observers.items o
      → (wanted : Value) (ways fired : List WayId) (end : Standing) → IsTotal p end.values → fired ≡ ways
      → IsFit p dropped (chain_labels p ways) → HasFired p sys dropped fired end
      → IsAnswer (is_same (value_in end.values o.value) wanted)
      (IsTrueLine sys dropped (numbered o.value) wanted (chain_labels p ways))
  fired_answer o one wanted ways fired end total e f h = go (is_same (value_in end.values o.value) wanted) refl
    where
      reached : Reaches sys dropped (reverse (chain_labels p ways)) end.values
      reached = subst (λ (z : List WayId). Reaches sys dropped (reverse (chain_labels p z)) end.values) e
          (stands_reaches sys dropped h.stands)

      yields : Yields (HasValue sys.net end.values) (out-Expr ℕ (numbered o.value)) (value_in end.values o.value)
      yields = subst (λ (net : s.Net ℕ). Yields (HasValue net end.values) (out-Expr ℕ (numbered o.value))
          (value_in end.values o.value)) (sym views.net)
          (value_yielded p end.values total o.value o.kind (sound.observers o one))

      go : (b : Bool) → is_same (value_in end.values o.value) wanted ≡ b
          → IsAnswer b (IsTrueLine sys dropped (numbered o.value) wanted (chain_labels p ways))
      go true same = record {
        once = events_once (chain_labels p ways) f;
        values = end.values;
        reaches = reached;
        shows = subst (λ (z : Value). Yields (HasValue sys.net end.values) (out-Expr ℕ (numbered o.value)) z)
            (same_is _ _ same) yields;
      }
      go false differs = λ k.
          let i : k.values ≡ end.values = reaches_same sys dropped k.reaches reached in
          let own = subst (λ (net : s.Net ℕ). Yields (HasValue net end.values) (out-Expr ℕ (numbered o.value)) wanted)
          views.net
          (subst (λ (t : List Value). Yields (HasValue sys.net t) (out-Expr ℕ (numbered o.value)) wanted) i k.shows) in
          let j : wanted ≡ value_in end.values o.value =
          yielded_value p end.values total o.value o.kind (sound.observers o one) wanted own in
          let z = same_self (value_in end.values o.value) in
          let w = subst (λ (v : Value). is_same (value_in end.values o.value) v ≡ true) (sym j) z in cc

-- which lines are true, line by line

module _ (sys : s.System ℕ) (dropped : List ℕ) (observer : Expr ℕ) (wanted : Value) (lines : List (List Label)) where
  pub truths_none : (truths : List Bool) → truths ≡ [] → AreTruths sys dropped observer wanted lines truths
  truths_none truths e = record {
    each = λ n ls b s t. absurd
        (stands_none n b (subst (λ (z : List Bool). Stands z n b) e t));
  }

  pub truths_more : (old new : List Bool) (b : Bool) (ls : List Label) → new ≡ old ++ b ∷ []
      → Stands lines (length old) ls → IsAnswer b (IsTrueLine sys dropped observer wanted ls)
      → AreTruths sys dropped observer wanted lines old → AreTruths sys dropped observer wanted lines new
  truths_more old new b ls e at_end is h = record {
    each = λ n ks c s t. elim (stands_split old (b ∷ []) n c (subst (λ (z : List Bool). Stands z n c) e t)) [
      | inl q ↦ h.each n ks c s q
      | inr q ↦ last q.0 n ks c q.1 s q.2
    ];
  }
    where
      last : (j n : ℕ) (ks : List Label) (c : Bool) → n ≡ length old + j → Stands lines n ks → Stands (b ∷ []) j c
          → IsAnswer c (IsTrueLine sys dropped observer wanted ks)
      last zero n ks c i s t =
          let same : b ≡ c = cc in
          let k : n ≡ length old = omega (arith, i) in
          let l : ls ≡ ks = stands_one lines (length old) ls ks at_end (subst (λ (z : ℕ). Stands lines z ks) k s) in
          subst (λ (z : Bool). IsAnswer z (IsTrueLine sys dropped observer wanted ks)) same
          (subst (λ (z : List Label). IsAnswer b (IsTrueLine sys dropped observer wanted z)) l is)
      last (suc j) n ks c i s t = absurd (stands_none j c t)

  -- none is true where the start fails
  pub truths_fail : (f : FlowFault) → StartFails sys.net f → (truths : List Bool)
      → ((n : ℕ) (b : Bool) → Stands truths n b → b ≡ false) → AreTruths sys dropped observer wanted lines truths
  truths_fail f fails truths none = record {
    each = λ n ls b s t. subst (λ (z : Bool). IsAnswer z (IsTrueLine sys dropped observer wanted ls)) (sym (none n b t))
        (λ h. start_not sys dropped f (reverse ls) h.values fails h.reaches);
  }

-- a line, and the row of it
pub line_stands : (p : GtsParts) (chains : List Chain) (n k : ℕ) (c : Chain) (ways : List WayId) → Stands chains n c
    → ways ≡ c.ways.items → k ≡ n → Stands (chain_lines p chains) k (chain_labels p ways)
line_stands p chains n k c ways s e i =
    subst (λ (z : ℕ). Stands (chain_lines p chains) z (chain_labels p ways)) (sym i)
    (subst (λ (z : List WayId). Stands (chain_lines p chains) n (chain_labels p z)) (sym e)
    (stands_map (λ (d : Chain). chain_labels p d.ways.items) chains n c s))

pub row_fit : (p : GtsParts) (dropped : List ℕ) (chains : List Chain) (rows : List Row) (n : ℕ) (c : Chain) (r : Row)
    (ways : List WayId) → AreLineRows p dropped chains rows → Stands chains n c → Stands rows n r → ways ≡ c.ways.items
    → IsAnswer r.fit (IsFit p dropped (chain_labels p ways))
row_fit p dropped chains rows n c r ways h s t e =
    subst (λ (z : List WayId). IsAnswer r.fit (IsFit p dropped (chain_labels p z))) (sym e) (h.each n c r s t).fit

-- none is true where the start meets a fault
pub starts_fail : (p : GtsParts) (sys : s.System ℕ) → Views p sys
    → (dropped : List ℕ) (observer : Expr ℕ) (wanted : Value) (lines : List (List Label))
    (r : Result (Vec Bool Global) Memory) (f : PropagateFault)
    → IsStartFault (net_of p) f → IfOk r (λ truths. (n : ℕ) (b : Bool) → Stands truths.items n b → b ≡ false)
    → IfOk r (λ truths. f ≡ propagates.Memory → ⊥)
    → IfOk r (λ truths. AreTruths sys dropped observer wanted lines truths.items)
starts_fail p sys views dropped observer wanted lines (Err e) f is none some = tt
starts_fail p sys views dropped observer wanted lines (Ok truths) (propagates.Flow f) is none some =
    truths_fail sys dropped observer wanted lines (fault_of f)
    (subst (λ (n : s.Net ℕ). StartFails n (fault_of f)) (sym views.net) is) truths.items none
starts_fail p sys views dropped observer wanted lines (Ok truths) propagates.Memory is none some = absurd (some refl)
