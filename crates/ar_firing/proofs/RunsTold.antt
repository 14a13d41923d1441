-- Whether labels fire, and where to, can be told; so can whether a set makes a value or meets a conflict.
use Rattle.std.proofs.Common.{◌≡◌, ◌<◌, ◌≤◌, ◌⊎◌, inl, inr, ⊎_elim, ℕ, zero, suc, Bool, true, false, List, [], ◌∷◌, ◌++◌, map, length, Some, None, Option, slice_get, Contains, refl, sym, ◌∙◌, ap, subst, arith}
use Rattle.std.proofs.lemmas.Bool.{cases_eq}
use Rattle.std.proofs.lemmas.List.{length-map}
use Rattle.std.proofs.lemmas.List.Elements.{Contains-append_left, Contains-append_right}
use Rattle.ar_base.specs.Lists.{Stands, IsOneOf, AreDifferent}
use Rattle.ar_base.specs.Sets.{Within}
use Rattle.ar_base.proofs.Standing.{stands_one, stands_none, stands_within, stands_map, stands_map_back, one_here, one_none, one_cases, one_first, one_rest, one_contains}
use Rattle.ar_base.proofs.Sets.{member_told}
use Rattle.domains.proofs.Members.{contains-head, contains-cons, contains-map}
use Rattle.domains.specs.declared.Value.{Value}
use Rattle.typed_expr.specs.Yields.{Yields}
use Rattle.typed_expr.specs.declared.expr.Expr.{Expr, out-Expr}
use Rattle.typed_expr.proofs.Listing.{Told, yields_told}
use Rattle.ar_meaning.specs.Systems.{Way, Event, System}
use Rattle.ar_meaning.specs.Facts.{HasValue}
use Rattle.ar_meaning.specs.Flows.{Flows, FlowFault, Outcome, Fails, Total}
use Rattle.ar_meaning.specs.Steps.{Answer, Refused, Next, NotEnabled, Clash, Range, Flow, Step}
use Rattle.ar_meaning.specs.Runs.{Label, IsWay, first_values}
use Rattle.ar_meaning.specs.TraceText.{ways_of}
use Rattle.ar_meaning.specs.FoundInside.{AreTold}
use Rattle.ar_meaning.proofs.OneAnswer.{flows_same, step_same}
use Rattle.ar_meaning.proofs.OneRun.{way_same}
use Rattle.ar_meaning.proofs.Lengths.{total_long, first_long, step_long}
use Rattle.ar_meaning.proofs.Outcomes.{values_known, has_outcome, both_told, some_told}
use Rattle.ar_meaning.proofs.Answering.{has_answer}
use Rattle.ar_firing.specs.Fragment.{IsOpen}
use Rattle.ar_firing.specs.Cuts.{Reaches, Conflicts, AreEvents, HasOrder, Makes, MeetsConflict}
use Rattle.ar_firing.specs.Cuts as c
use Rattle.ar_firing.proofs.LeastSets.{decided}
use Rattle.ar_firing.proofs.SameSets.{events_within, set_within}
use Rattle.ar_firing.proofs.Without.{no_more}

module _ {V : Type 0} (sys : System V) (dropped : List ℕ) where
  -- what is reached is one
  pub reaches_same : {ls : List Label} {t u : List Value} → Reaches sys dropped ls t → Reaches sys dropped ls u → t ≡ u
  reaches_same (c.start {t = t} f) (c.start {t = u} g) =
      let e : ◌≡◌ {A = Outcome} (Total t) (Total u) = flows_same sys.net f g in
      cc
  reaches_same (c.fire {u = u} w r o s) (c.fire {t = t} {u = v} {l = l} x q p k) =
      let e = reaches_same r q in
      let i : w ≡ x = way_same sys o.is_kept.is_way p.is_kept.is_way in
      let a : ◌≡◌ {A = Answer} (Next u) (Next v) =
      step_same sys.net
      (subst (λ (z : Way V). Step sys.net t z (Next u)) i (subst (λ z. Step sys.net z w (Next u)) e s)) k in cc

  reaches_long : {ls : List Label} {t : List Value} → Reaches sys dropped ls t → length t ≡ length sys.net.variables
  reaches_long (c.start f) = total_long f
  reaches_long (c.fire w r o s) = step_long s

  -- whether a label is that of an open way
  open_told : (l : Label) → Told ((w : Way V) × IsOpen sys dropped l w)
  open_told l = at_event (slice_get sys.events l.event) refl
    where
      at_way : (e : Event V) → Stands sys.events l.event e → (w : Way V) → Stands e.ways l.way w → (b : Bool)
          → e.hidden ≡ b → IsOneOf dropped l.event ⊎ (IsOneOf dropped l.event → ⊥)
          → Told ((w : Way V) × IsOpen sys dropped l w)
      at_way e s w i true h d = inr (λ k. let o = k.1 in
          let same : e ≡ o.is_kept.is_way.event =
          stands_one sys.events l.event e o.is_kept.is_way.event s o.is_kept.is_way.is_event in
          let g = ap (λ (z : Event V). z.hidden) same in let v = o.visible in cc)
      at_way e s w i false h (inl d) = inr (λ k. k.1.is_kept.stays d)
      at_way e s w i false h (inr n) =
          inl (
            w,
            record {
              is_kept = record { is_way = record { event = e; is_event = s; is_way = i }; stays = n };
              visible = h;
            },
          )

      at_ways : (e : Event V) → Stands sys.events l.event e → (o : Option (Way V)) → slice_get e.ways l.way ≡ o
          → Told ((w : Way V) × IsOpen sys dropped l w)
      at_ways e s None i = inr (λ k. let o = k.1 in
          let same : o.is_kept.is_way.event ≡ e =
          stands_one sys.events l.event o.is_kept.is_way.event e o.is_kept.is_way.is_event s in
          let g = subst (λ (z : Event V). Stands z.ways l.way k.0) same o.is_kept.is_way.is_way in cc)
      at_ways e s (Some w) i = at_way e s w i e.hidden refl (member_told dropped l.event)

      at_event : (o : Option (Event V)) → slice_get sys.events l.event ≡ o → Told ((w : Way V) × IsOpen sys dropped l w)
      at_event None i = inr (λ k. let g = k.1.is_kept.is_way.is_event in cc)
      at_event (Some e) i = at_ways e i (slice_get e.ways l.way) refl

  module _ (key_told : AreTold V) where
    start_of : (o : Outcome) × Flows sys.net (first_values sys.net.variables) o
    start_of = has_outcome key_told sys.net (first_values sys.net.variables) (first_long sys.net.variables)

    -- whether these labels fire, and to which valuation
    pub reach_told : (ls : List Label) → Told ((t : List Value) × Reaches sys dropped ls t)
    reach_told [] = go start_of
      where
        other : {t : List Value} {f : FlowFault} → Flows sys.net (first_values sys.net.variables) (Fails f)
            → Reaches sys dropped [] t → ⊥
        other {t = t} {f = f} h (c.start g) =
            let e : ◌≡◌ {A = Outcome} (Fails f) (Total t) = flows_same sys.net h g in
            cc

        go : (o : Outcome) × Flows sys.net (first_values sys.net.variables) o
            → Told ((t : List Value) × Reaches sys dropped [] t)
        go (Total t, h) = inl (t, c.start h)
        go (Fails f, h) = inr (λ k. other h k.1)
    reach_told (l ∷ ls) = go (reach_told ls) (open_told l)
      where
        before : {u : List Value} → Reaches sys dropped (l ∷ ls) u → (t : List Value) × Reaches sys dropped ls t
        before (c.fire {t = t} w r o s) = (t, r)

        way : {u : List Value} → Reaches sys dropped (l ∷ ls) u → (w : Way V) × IsOpen sys dropped l w
        way (c.fire w r o s) = (w, o)

        other : (t : List Value) (w : Way V) (a : Answer) {u : List Value} → Reaches sys dropped ls t
            → IsOpen sys dropped l w → Step sys.net t w a → Reaches sys dropped (l ∷ ls) u → a ≡ Next u
        other t w a {u = u} r o s (c.fire {t = v} x q p k) =
            let e = reaches_same q r in
            let i : x ≡ w = way_same sys p.is_kept.is_way o.is_kept.is_way in
            step_same sys.net s
            (subst (λ (z : Way V). Step sys.net t z (Next u)) i (subst (λ z. Step sys.net z x (Next u)) e k))

        fired : (t : List Value) (w : Way V) → Reaches sys dropped ls t → IsOpen sys dropped l w
            → (a : Answer) × Step sys.net t w a → Told ((u : List Value) × Reaches sys dropped (l ∷ ls) u)
        fired t w r o (Next u, s) = inl (u, c.fire w r o s)
        fired t w r o (Refused f, s) = inr (λ k. let e = other t w (Refused f) r o s k.1 in cc)

        go : Told ((t : List Value) × Reaches sys dropped ls t) → Told ((w : Way V) × IsOpen sys dropped l w)
            → Told ((u : List Value) × Reaches sys dropped (l ∷ ls) u)
        go (inr n) d = inr (λ k. n (before k.1))
        go (inl r) (inr n) = inr (λ k. n (way k.1))
        go (inl r) (inl w) = fired r.0 w.0 r.1 w.1 (has_answer key_told sys.net r.0 w.0 (reaches_long r.1))

    -- whether these labels meet a flow fault at the last
    pub conflict_told : (ls : List Label) → Told ((f : FlowFault) × Conflicts sys dropped ls f)
    conflict_told [] = go start_of
      where
        other : {t : List Value} {f : FlowFault} → Flows sys.net (first_values sys.net.variables) (Total t)
            → Conflicts sys dropped [] f → ⊥
        other {t = t} {f = f} h (c.start g) =
            let e : ◌≡◌ {A = Outcome} (Total t) (Fails f) = flows_same sys.net h g in
            cc

        go : (o : Outcome) × Flows sys.net (first_values sys.net.variables) o
            → Told ((f : FlowFault) × Conflicts sys dropped [] f)
        go (Fails f, h) = inl (f, c.start h)
        go (Total t, h) = inr (λ k. other h k.1)
    conflict_told (l ∷ ls) = go (reach_told ls) (open_told l)
      where
        before : {f : FlowFault} → Conflicts sys dropped (l ∷ ls) f → (t : List Value) × Reaches sys dropped ls t
        before (c.fire {t = t} w r o s) = (t, r)

        way : {f : FlowFault} → Conflicts sys dropped (l ∷ ls) f → (w : Way V) × IsOpen sys dropped l w
        way (c.fire w r o s) = (w, o)

        other : (t : List Value) (w : Way V) (a : Answer) {f : FlowFault} → Reaches sys dropped ls t
            → IsOpen sys dropped l w → Step sys.net t w a → Conflicts sys dropped (l ∷ ls) f → a ≡ Refused (Flow f)
        other t w a {f = f} r o s (c.fire {t = v} x q p k) =
            let e = reaches_same q r in
            let i : x ≡ w = way_same sys p.is_kept.is_way o.is_kept.is_way in
            step_same sys.net s
            (subst (λ (z : Way V). Step sys.net t z (Refused (Flow f))) i
            (subst (λ z. Step sys.net z x (Refused (Flow f))) e k))

        fired : (t : List Value) (w : Way V) → Reaches sys dropped ls t → IsOpen sys dropped l w
            → (a : Answer) × Step sys.net t w a → Told ((f : FlowFault) × Conflicts sys dropped (l ∷ ls) f)
        fired t w r o (Next u, s) = inr (λ k. let e = other t w (Next u) r o s k.1 in cc)
        fired t w r o (Refused (Flow f), s) = inl (f, c.fire w r o s)
        fired t w r o (Refused NotEnabled, s) = inr (λ k. let e = other t w (Refused NotEnabled) r o s k.1 in cc)
        fired t w r o (Refused (Clash n), s) = inr (λ k. let e = other t w (Refused (Clash n)) r o s k.1 in cc)
        fired t w r o (Refused (Range n), s) = inr (λ k. let e = other t w (Refused (Range n)) r o s k.1 in cc)

        go : Told ((t : List Value) × Reaches sys dropped ls t) → Told ((w : Way V) × IsOpen sys dropped l w)
            → Told ((f : FlowFault) × Conflicts sys dropped (l ∷ ls) f)
        go (inr n) d = inr (λ k. n (before k.1))
        go (inl r) (inr n) = inr (λ k. n (way k.1))
        go (inl r) (inl w) = fired r.0 w.0 r.1 w.1 (has_answer key_told sys.net r.0 w.0 (reaches_long r.1))

  -- each label is that of a way
  abbrev AreWays : List Label → Type 0
  AreWays ls = (l : Label) → IsOneOf ls l → (w : Way V) × IsWay sys l w

  one_way_more : (l : Label) (ls : List Label) (w : Way V) → IsWay sys l w → AreWays ls → AreWays (l ∷ ls)
  one_way_more l ls w i h k o =
      elim (one_cases l ls k o) [ inl e ↦ (w, subst (λ z. IsWay sys z w) e i) | inr p ↦ h k p ]

  reached_ways : {ls : List Label} {t : List Value} → Reaches sys dropped ls t → AreWays ls
  reached_ways (c.start f) l o = absurd (one_none l o)
  reached_ways (c.fire {ls = ls} {l = l} w r o s) k p = one_way_more l ls w o.is_kept.is_way (reached_ways r) k p

  conflict_ways : {ls : List Label} {f : FlowFault} → Conflicts sys dropped ls f → AreWays ls
  conflict_ways (c.start f) l o = absurd (one_none l o)
  conflict_ways (c.fire {ls = ls} {l = l} w r o s) k p = one_way_more l ls w o.is_kept.is_way (reached_ways r) k p

  -- the labels of the ways of one event, and of those of a set
  labels_of : ℕ → ℕ → List Label
  labels_of e zero = []
  labels_of e (suc n) = record { event = e; way = n } ∷ labels_of e n

  in_labels_of : (l : Label) (n : ℕ) → l.way < n → Contains (labels_of l.event n) l
  unfolding labels_of
  in_labels_of l zero h = absurd (omega (arith, h))
  in_labels_of l (suc n) h =
      ⊎_elim
      (λ e. subst (λ (z : ℕ). Contains (record { event = l.event; way = z } ∷ labels_of l.event n) l) e
      (contains-head l (labels_of l.event n)))
      (λ d. contains-cons (record { event = l.event; way = n }) l (labels_of l.event n)
      (in_labels_of l n (omega (arith, h, d))))
      (cases_eq l.way n)

  labels : List ℕ → List Label
  labels [] = []
  labels (e ∷ es) = labels_of e (ways_of (slice_get sys.events e)) ++ labels es

  in_labels : (set : List ℕ) (l : Label) (w : Way V) → IsWay sys l w → IsOneOf set l.event → Contains (labels set) l
  unfolding labels
  in_labels [] l w i o = absurd (one_none l.event o)
  in_labels (e ∷ es) l w i o = elim (one_cases e es l.event o) [
    | inl q ↦ Contains-append_left (labels_of e (ways_of (slice_get sys.events e))) (labels es) l
        (subst (λ z. Contains (labels_of z (ways_of (slice_get sys.events z))) l) (sym q)
        (in_labels_of l (ways_of (slice_get sys.events l.event)) (count l w i)))
    | inr p ↦
        Contains-append_right (labels_of e (ways_of (slice_get sys.events e))) (labels es) l (in_labels es l w i p)
  ]
    where
      count : (l : Label) (w : Way V) (i : IsWay sys l w) → l.way < ways_of (slice_get sys.events l.event)
      count l w i = subst (λ z. l.way < ways_of z) (sym i.is_event) (stands_within i.event.ways l.way w i.is_way)

  -- the lists of so many of these labels at most
  before_each : List Label → List (List Label) → List (List Label)
  before_each [] lss = []
  before_each (l ∷ ls) lss = map (λ z. l ∷ z) lss ++ before_each ls lss

  in_before_each : (all : List Label) (lss : List (List Label)) (l : Label) (ls : List Label) → IsOneOf all l
      → Contains lss ls → Contains (before_each all lss) (l ∷ ls)
  unfolding before_each
  in_before_each [] lss l ls o m = absurd (one_none l o)
  in_before_each (k ∷ all) lss l ls o m = elim (one_cases k all l o) [
    | inl e ↦
        Contains-append_left (map (λ z. k ∷ z) lss) (before_each all lss) (l ∷ ls)
        (subst (λ (z : Label). Contains (map (λ y. k ∷ y) lss) (z ∷ ls)) e (contains-map (λ z. k ∷ z) ls lss m))
    | inr p ↦
        Contains-append_right (map (λ z. k ∷ z) lss) (before_each all lss) (l ∷ ls) (in_before_each all lss l ls p m)
  ]

  lists : List Label → ℕ → List (List Label)
  lists all zero = [] ∷ []
  lists all (suc n) = [] ∷ before_each all (lists all n)

  in_lists : (all : List Label) (n : ℕ) (ls : List Label) → length ls ≤ n → ((l : Label) → IsOneOf ls l → IsOneOf all l)
      → Contains (lists all n) ls
  unfolding lists
  in_lists all zero [] h k = contains-head [] []
  in_lists all zero (l ∷ ls) h k = absurd (omega (arith, h))
  in_lists all (suc n) [] h k = contains-head [] (before_each all (lists all n))
  in_lists all (suc n) (l ∷ ls) h k =
      contains-cons [] (l ∷ ls) (before_each all (lists all n))
      (in_before_each all (lists all n) l ls (k l (one_first l ls))
      (in_lists all n ls (omega (arith, h)) (λ m o. k m (one_rest l ls m o))))

-- the events of the labels are those of the set, each once, said of the list of these events
record HasEvents (ls : List Label) (set : List ℕ) : Type 0 where
  pub sound : Within (map (λ l. l.event) ls) set
  pub whole : Within set (map (λ l. l.event) ls)
  pub once : AreDifferent (map (λ l. l.event) ls)

events_have : (ls : List Label) (set : List ℕ) → AreEvents ls set → HasEvents ls set
events_have ls set a = record {
  sound = events_within ls set a;
  whole = set_within ls set a;
  once = record {
    one = λ m n e p q.
        let l = stands_map_back (λ (l : Label). l.event) ls m e p in
        let k = stands_map_back (λ (l : Label). l.event) ls n e q in
        a.once m n l.0 k.0 l.1 k.1 (l.2 ∙ sym k.2);
  };
}

have_events : (ls : List Label) (set : List ℕ) → HasEvents ls set → AreEvents ls set
have_events ls set h = record {
  sound = λ k l s.
      h.sound.each l.event (one_here (map (λ l. l.event) ls) k l.event (stands_map (λ (l : Label). l.event) ls k l s));
  whole = λ e o.
      let p = h.whole.each e o in
      let l = stands_map_back (λ (l : Label). l.event) ls p.place e p.stands in
      (l.0, one_here ls p.place l.0 l.1, l.2);
  once = λ j k l m s t e.
      h.once.one j k m.event
      (subst (λ z. Stands (map (λ l. l.event) ls) j z) e (stands_map (λ (l : Label). l.event) ls j l s))
      (stands_map (λ (l : Label). l.event) ls k m t);
}

pub within_told : (xs ys : List ℕ) → Told (Within xs ys)
within_told xs ys = elim (decided xs ys) [ inl w ↦ inl w | inr l ↦ inr (λ w. l.is_not (w.each l.event l.is_one)) ]

different_told : (xs : List ℕ) → Told (AreDifferent xs)
different_told [] = inl (record { one = λ m n a p q. absurd (stands_none m a p) })
different_told (x ∷ xs) = go (member_told xs x) (different_told xs)
  where
    rest : AreDifferent (x ∷ xs) → AreDifferent xs
    rest d = record { one = λ m n a p q. let e = d.one (suc m) (suc n) a p q in omega (arith, e) }

    more : (IsOneOf xs x → ⊥) → AreDifferent xs → (m n : ℕ) (a : ℕ) → Stands (x ∷ xs) m a → Stands (x ∷ xs) n a → m ≡ n
    more n d zero zero a p q = refl
    more n d zero (suc k) a p q =
        let e : x ≡ a = cc in
        absurd (n (subst (λ z. IsOneOf xs z) (sym e) (one_here xs k a q)))
    more n d (suc j) zero a p q =
        let e : x ≡ a = cc in
        absurd (n (subst (λ z. IsOneOf xs z) (sym e) (one_here xs j a p)))
    more n d (suc j) (suc k) a p q = ap suc (d.one j k a p q)

    go : Told (IsOneOf xs x) → Told (AreDifferent xs) → Told (AreDifferent (x ∷ xs))
    go (inl o) t = inr (λ d. let e = d.one zero (suc o.place) x refl o.stands in omega (arith, e))
    go (inr n) (inl d) = inl (record { one = more n d })
    go (inr n) (inr m) = inr (λ d. m (rest d))

events_told : (ls : List Label) (set : List ℕ) → Told (AreEvents ls set)
events_told ls set =
    elim
    (both_told (within_told (map (λ l. l.event) ls) set)
    (both_told (within_told set (map (λ l. l.event) ls)) (different_told (map (λ l. l.event) ls)))) [
      | inl h ↦ inl (have_events ls set (record { sound = h.0; whole = h.1.0; once = h.1.1 }))
      | inr n ↦ inr (λ a. let h = events_have ls set a in n (h.sound, (h.whole, h.once)))
    ]

module _ {V : Type 0} (key_told : AreTold V) (sys : System V) (dropped set : List ℕ) where
  -- the lists of labels in question
  candidates : List (List Label)
  candidates = lists sys dropped (labels sys dropped set) (length set)

  is_candidate : (ls : List Label) → AreEvents ls set → AreWays sys dropped ls → Contains candidates ls
  unfolding candidates
  is_candidate ls a h =
      let e = events_have ls set a in
      let few : length (map (λ l. l.event) ls) ≤ length set =
      no_more (map (λ l. l.event) ls) set e.once
      (λ k n s. e.sound.each n (one_here (map (λ l. l.event) ls) k n s)) in
      in_lists sys dropped (labels sys dropped set) (length set) ls
      (subst (λ n. n ≤ length set) (length-map ls (λ (l : Label). l.event)) few)
      (λ l o. one_contains (labels sys dropped set) l
      (in_labels sys dropped set l (h l o).0 (h l o).1 (a.sound o.place l o.stands)))

  module _ (observer : Expr V) (wanted : Value) where
    abbrev Ends : List Label → Type 0
    Ends ls = (t : List Value) × Reaches sys dropped ls t × Yields (HasValue sys.net t) (out-Expr V observer) wanted

    ends_told : (ls : List Label) → Told (Ends ls)
    ends_told ls = go (reach_told sys dropped key_told ls)
      where
        at : (t : List Value) → Reaches sys dropped ls t
            → Told (Yields (HasValue sys.net t) (out-Expr V observer) wanted) → Told (Ends ls)
        at t r (inl y) = inl (t, r, y)
        at t r (inr n) =
            inr
            (λ h. n (subst (λ z. Yields (HasValue sys.net z) (out-Expr V observer) wanted)
            (reaches_same sys dropped h.1 r) h.2))

        go : Told ((t : List Value) × Reaches sys dropped ls t) → Told (Ends ls)
        go (inl r) = at r.0 r.1 (yields_told (HasValue sys.net r.0) (values_known key_told sys.net r.0) observer wanted)
        go (inr n) = inr (λ h. n (h.0, h.1))

    -- whether the set makes the value
    pub makes_told : Told (Makes sys dropped observer wanted set)
    makes_told =
        elim
        (some_told (λ ls. AreEvents ls set × Ends ls) candidates
        (λ ls m. both_told (events_told ls set) (ends_told ls))) [
          | inl h ↦
              inl
              (record {
                values = h.2.1.0;
                order = record { labels = h.0; events = h.2.0; reaches = h.2.1.1 };
                shows = h.2.1.2;
              })
          | inr n ↦
              inr
              (λ k. n (
                k.order.labels,
                is_candidate k.order.labels k.order.events
                    (reached_ways sys dropped k.order.reaches),
                (k.order.events, (k.values, k.order.reaches, k.shows)),
              ))
        ]

  -- whether the set meets a conflict
  pub meets_told : Told (MeetsConflict sys dropped set)
  meets_told =
      elim
      (some_told (λ ls. AreEvents ls set × ((f : FlowFault) × Conflicts sys dropped ls f)) candidates
      (λ ls m. both_told (events_told ls set) (conflict_told sys dropped key_told ls))) [
        | inl h ↦ inl (record { labels = h.0; events = h.2.0; fault = h.2.1.0; conflicts = h.2.1.1 })
        | inr n ↦
            inr
            (λ k. n (
              k.labels,
              is_candidate k.labels k.events (conflict_ways sys dropped k.conflicts),
              (k.events, (k.fault, k.conflicts)),
            ))
      ]

-- what sets with the same members have in common
events_as : (ls : List Label) {set other : List ℕ} → Within set other → Within other set → AreEvents ls set
    → AreEvents ls other
events_as ls w v a = record {
  sound = λ k l s. w.each l.event (a.sound k l s);
  whole = λ e o. a.whole e (v.each e o);
  once = a.once;
}

module _ {V : Type 0} (sys : System V) (dropped : List ℕ) where
  pub makes_as : (observer : Expr V) (wanted : Value) (set other : List ℕ) → Within set other → Within other set
      → Makes sys dropped observer wanted set → Makes sys dropped observer wanted other
  makes_as observer wanted set other w v m =
      record {
        values = m.values;
        order = record
            { labels = m.order.labels; events = events_as m.order.labels w v m.order.events; reaches = m.order.reaches };
        shows = m.shows;
      }

  pub meets_as : (set other : List ℕ) → Within set other → Within other set → MeetsConflict sys dropped set
      → MeetsConflict sys dropped other
  meets_as set other w v m = record {
    labels = m.labels;
    events = events_as m.labels w v m.events;
    fault = m.fault;
    conflicts = m.conflicts;
  }
