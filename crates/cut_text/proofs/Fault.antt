-- The fault that is found where the events of a conflict are fired.
use Rattle.std.proofs.Common.{◌≡◌, ◌<◌, ◌≤◌, ◌+◌, ℕ, List, [], ◌∷◌, ◌++◌, take, drop, reverse, length, get_or, Option, Result, Ok, Err, IfOk, IfSome, sym, ◌∙◌, ap, subst}
use Rattle.std.proofs.lemmas.List.{length-map, take_all}
use Rattle.std.proofs.lemmas.Option.{get_or_from_slice_get}
use Rattle.ar_base.specs.Numbers.{WayId}
use Rattle.ar_base.specs.NumbersInside.{EventId}
use Rattle.ar_base.specs.declared.faults.Memory.{Memory}
use Rattle.ar_base.proofs.Standing.{stands_map, stands_get}
use Rattle.domains.specs.declared.Value.{Value}
use Rattle.ar_meaning.specs.Systems as s
use Rattle.ar_meaning.specs.Flows as flows
use Rattle.ar_meaning.specs.Runs.{Label, Start, StartFails}
use Rattle.ar_meaning.specs.Steps as steps
use Rattle.ar_firing.specs.Cuts.{Reaches, Conflicts}
use Rattle.ar_firing.specs.Cuts as cuts
use Rattle.flow_propagate.specs.Answers.{fault_of}
use Rattle.flow_propagate.specs.declared.propagation.FlowFault.{FlowFault}
use Rattle.gts_core.specs.Sound.{IsSound}
use Rattle.gts_core.specs.View.{Views, IsWayAt, net_of}
use Rattle.gts_core.specs.declared.system.GtsParts.{GtsParts}
use Rattle.min_cuts.specs.Kept.{numbers_of_set}
use Rattle.text_pieces.specs.WayLabels.{numbered_label}
use Rattle.text_pieces.specs.Faults.{IsInRange}
use Rattle.text_pieces.specs.Faults.{IsFaultInRange}
use Rattle.text_pieces.proofs.Ways.{IsNamed, way_named}
use Rattle.stepper.specs.Steps.{IsStepFault}
use Rattle.stepper.specs.declared.faults.StepFault.{StepFault}
use Rattle.stepper.specs.declared.faults.StepFault.TheVariants as fault
use Rattle.cut_text.specs.Tables.{way_at, labels_at, HaveWays, IsMet, TellsFlow}
use Rattle.cut_text.proofs.Firing.{Goes, goes, reached, met, not_both, start_met, around, one_further}
use Rattle.cut_text.proofs.Pieces.{read_way, have_here}

module _ (p : GtsParts) where
  -- a flow fault that is told is in range
  pub told_inside : (g : StepFault) (answer : Result (Option FlowFault) Memory) → TellsFlow g answer
      → IsFaultInRange p g
      → IfOk answer (λ found. IfSome found (IsInRange p))
  told_inside (fault.Flow f) answer e h = subst (λ z. IfOk z (λ found. IfSome found (IsInRange p))) (sym e) h
  told_inside fault.Memory (Err m) e h = tt
  told_inside fault.Memory (Ok x) e h = cc
  told_inside fault.NotEnabled answer e h = subst (λ z. IfOk z (λ found. IfSome found (IsInRange p))) (sym e) tt
  told_inside (fault.Clash x) answer e h = subst (λ z. IfOk z (λ found. IfSome found (IsInRange p))) (sym e) tt
  told_inside (fault.Range x) answer e h = subst (λ z. IfOk z (λ found. IfSome found (IsInRange p))) (sym e) tt

  module _ (ways : List WayId) (events : List EventId) where
    abbrev labels : List Label
    labels = labels_at p ways (numbers_of_set events)

    pub labels_long : length labels ≡ length events
    labels_long =
        length-map (numbers_of_set events) (λ e. numbered_label p (way_at ways e)) ∙ length-map events (λ (e : EventId). e.n)

    abbrev number_at : ℕ → EventId → WayId → ℕ
    number_at i d w = (get_or ways (get_or events i d).n w).n

    -- the number of the way at hand
    pub here_inside : (i : ℕ) (d : EventId) (w : WayId) → HaveWays p ways (numbers_of_set events) → i < length events
        → number_at i d w < length p.ways.items
    here_inside i d w h l =
        let has = have_here p ways events i d h l in
        let e = get_or_from_slice_get ways (get_or events i d).n has.way w has.stands in
        subst (λ (z : WayId). z.n < length p.ways.items) (sym e) has.inside

    -- the label at hand
    pub here_label : (i : ℕ) (d : EventId) (w : WayId) (l : Label) → HaveWays p ways (numbers_of_set events)
        → i < length events
        → get_or labels i l ≡ numbered_label p (number_at i d w)
    here_label i d w l h less =
        let has = have_here p ways events i d h less in
        get_or_from_slice_get labels i (numbered_label p (way_at ways (get_or events i d).n)) l
        (stands_map (λ e. numbered_label p (way_at ways e)) (numbers_of_set events) i (get_or events i d).n
        (stands_map (λ (e : EventId). e.n) events i (get_or events i d) (stands_get events i d less)))
        ∙ ap (numbered_label p) (sym (read_way ways (get_or events i d).n has.way w has.stands))

  module _ (sound : IsSound p) (sys : s.System ℕ) (views : Views p sys) (dropped : List ℕ) where
    -- the label at hand is fired
    module _ (ls : List Label) (f : flows.FlowFault) (c : Conflicts sys dropped (reverse ls) f) (i : ℕ) (d : Label)
        (l : i < length ls) (n : ℕ) (inside : n < length p.ways.items) (e : get_or ls i d ≡ numbered_label p n)
        (t : List Value)
        (r : Reaches sys dropped (reverse (take i ls)) t) where
      named : IsNamed p sys n
      named = way_named p sys views sound n inside

      the_goes : Goes sys dropped (reverse (drop (i + 1) ls)) (numbered_label p n) (reverse (take i ls)) f t named.way
      the_goes =
          goes sys dropped (reverse (drop (i + 1) ls)) (numbered_label p n) (reverse (take i ls)) f t named.way named.is_way r
          (subst (λ (z : List Label). Conflicts sys dropped z f)
          (around ls i d l ∙ ap (λ (z : Label). reverse (drop (i + 1) ls) ++ (z ∷ reverse (take i ls))) e) c)

      as_step : (a : steps.Answer) → steps.Step (net_of p) t named.way a → steps.Step sys.net t named.way a
      as_step a h = subst (λ (net : s.Net ℕ). steps.Step net t named.way a) (sym views.net) h

      pub next : (u : List Value) → ((w : s.Way ℕ) → IsWayAt p n w → steps.Step (net_of p) t w (steps.Next u))
          → Reaches sys dropped (reverse (take (i + 1) ls)) u
      next u h =
          subst (λ (z : List Label). Reaches sys dropped z u)
          (sym (one_further ls i d l ∙ ap (λ (z : Label). z ∷ reverse (take i ls)) e))
          (reached sys dropped (reverse (drop (i + 1) ls)) (numbered_label p n) (reverse (take i ls)) f t u named.way the_goes
          (as_step (steps.Next u) (h named.way named.is_at)))

      is_fault : (g : steps.StepFault) → steps.Step (net_of p) t named.way (steps.Refused g) → g ≡ steps.Flow f
      is_fault g h =
          let a : ◌≡◌ {A = steps.Answer} (steps.Refused g) (steps.Refused (steps.Flow f)) =
          met sys dropped (reverse (drop (i + 1) ls)) (numbered_label p n) (reverse (take i ls)) f t named.way
          (steps.Refused g)
          (λ u k. cc) the_goes (as_step (steps.Refused g) h) in cc

      pub found : (g : StepFault) (answer : Result (Option FlowFault) Memory) → TellsFlow g answer
          → ((w : s.Way ℕ) → IsWayAt p n w → IsStepFault (net_of p) t w g) → IfOk answer (IsMet f)
      found (fault.Flow x) answer tells h =
          let k : ◌≡◌ {A = steps.StepFault} (steps.Flow (fault_of x)) (steps.Flow f) = is_fault
          (steps.Flow (fault_of x)) (h named.way named.is_at) in
          let q : fault_of x ≡ f = cc in
          subst (λ z. IfOk z (IsMet f)) (sym tells) q
      found fault.Memory (Err m) tells h = tt
      found fault.Memory (Ok x) tells h = cc
      found fault.NotEnabled answer tells h =
          let k : ◌≡◌ {A = steps.StepFault} steps.NotEnabled (steps.Flow f) = is_fault steps.NotEnabled
          (h named.way named.is_at) in cc
      found (fault.Clash x) answer tells h =
          let k : ◌≡◌ {A = steps.StepFault} (steps.Clash x.n) (steps.Flow f) = is_fault (steps.Clash x.n)
          (h named.way named.is_at) in cc
      found (fault.Range x) answer tells h =
          let k : ◌≡◌ {A = steps.StepFault} (steps.Range x.n) (steps.Flow f) = is_fault (steps.Range x.n)
          (h named.way named.is_at) in cc

    -- the fault of the start
    pub at_start : (ls : List Label) (f : flows.FlowFault) (g : FlowFault) → StartFails (net_of p) (fault_of g)
        → Conflicts sys dropped (reverse ls) f → fault_of g ≡ f
    at_start ls f g h c = start_met sys dropped (reverse ls) f (fault_of g)
        (subst (λ (net : s.Net ℕ). StartFails net (fault_of g)) (sym views.net) h) c

    -- the run begins
    pub begins : (t : List Value) → Start (net_of p) t → Reaches sys dropped [] t
    begins t h = cuts.start (subst (λ (net : s.Net ℕ). Start net t) (sym views.net) h)

    -- all labels fired, and so they are no conflict
    pub no_conflict : (ls : List Label) (f : flows.FlowFault) (i : ℕ) (t : List Value) → length ls ≤ i
        → Reaches sys dropped (reverse (take i ls)) t → Conflicts sys dropped (reverse ls) f → ⊥
    no_conflict ls f i t l r c =
        not_both sys dropped (reverse ls) f t
        (subst (λ (z : List Label). Reaches sys dropped (reverse z) t) (take_all i ls l) r) c
