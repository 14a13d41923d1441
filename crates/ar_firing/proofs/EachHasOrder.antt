-- In a static system whose firable sets have flows each firable set has an order.
use Rattle.std.proofs.Common.{Option, None, slice_get, ◌≡◌, ◌+◌, ◌<◌, ◌≤◌, ◌⊎◌, inl, inr, ⊎_elim, ℕ, zero, suc, Bool, true, false, cond, ◌==◌, List, [], ◌∷◌, map, length, length-append, Some, Contains, refl, sym, ◌∙◌, ap, subst, arith}
use Rattle.std.proofs.lemmas.Bool.Decides.{nat_tests}
use Rattle.ar_base.specs.Lists.{Stands, IsOneOf, HasNo}
use Rattle.ar_meaning.specs.Systems.{Variable, Way, System}
use Rattle.ar_meaning.specs.Facts.{HasValue}
use Rattle.ar_meaning.specs.FactsInside.{AreKeyed}
use Rattle.ar_meaning.specs.Flows.{Flows, FlowFault, Fails}
use Rattle.ar_meaning.specs.Ways.{Can, Effects}
use Rattle.ar_meaning.specs.Steps.{flow, Clashes, LeavesDomain, Receives, changed, kept, Step, Next, moves}
use Rattle.ar_meaning.specs.Steps as s
use Rattle.ar_meaning.specs.Runs.{Label, first_values}
use Rattle.ar_firing.specs.Fragment.{Edge, Path, root, edge}
use Rattle.ar_firing.specs.Static.{IsStatic}
use Rattle.ar_firing.specs.Cuts.{MeetsConflict, Reaches, IsFirable, AreEvents, HasOrder}
use Rattle.ar_base.specs.Sets.{Within}
use Rattle.ar_firing.specs.Cuts as cuts
use Rattle.ar_firing.specs.Operands.{HasFlows}
use Rattle.domains.specs.declared.Value.{Value}
use Rattle.ar_base.proofs.Standing.{stands_one, stands_map, stands_map_back, one_none}
use Rattle.std.proofs.lemmas.Bool.{cases_eq}
use Rattle.ar_firing.proofs.Firing.{Next_edge, next_edge, to_alone, only_target, only_effects, value_from, moved, firable_flows, none_firable, enabled, longer}
use Rattle.ar_firing.proofs.Ends.{split_live, split, path_unique, path_end, live}

pub record Received {V : Type 0} (effects : V → Value → Type 0) (xs : List (Variable V))
    (vs : List Value) : Type 0 where
  pub values : List Value
  pub receives : Receives effects xs vs values

receives_all : {V : Type 0} {effects : V → Value → Type 0} (xs : List (Variable V)) (vs : List Value)
    → length vs ≡ length xs
    → ((x : Variable V) → IsOneOf xs x → ((w : Value) × effects x.key w) ⊎ ((w : Value) → effects x.key w → ⊥))
    → Received effects xs vs
receives_all [] [] e h = record { values = []; receives = s.none }
receives_all [] (v ∷ vs) e h = absurd (omega arith)
receives_all (x ∷ xs) [] e h = absurd (omega arith)
receives_all {effects = effects} (x ∷ xs) (v ∷ vs) e h =
    let r =
    receives_all {effects = effects} xs vs (omega arith)
    (λ y o. h y (record { place = suc o.place; stands = o.stands })) in
    ⊎_elim (λ k. record { values = k.0 ∷ r.values; receives = changed k.1 r.receives })
    (λ k. record { values = v ∷ r.values; receives = kept k r.receives })
    (h x (record { place = zero; stands = refl }))

-- no two labels have one event
pub record AreOnce (ls : List Label) : Type 0 where
  pub once : (j k : ℕ) (l m : Label) → Stands ls j l → Stands ls k m → l.event ≡ m.event → j ≡ k

pub event_of : (ls : List Label) (k : ℕ) (l : Label) → Stands ls k l → Stands (map (λ l. l.event) ls) k l.event
event_of ls k l h = stands_map (λ (l : Label). l.event) ls k l h

pub label_of : (ls : List Label) (k e : ℕ) → Stands (map (λ l. l.event) ls) k e
    → (l : Label) × Stands ls k l × (l.event ≡ e)
label_of ls k e h = stands_map_back (λ (l : Label). l.event) ls k e h

self_events : (ls : List Label) → AreOnce ls → AreEvents ls (map (λ l. l.event) ls)
self_events ls o = record {
  sound = λ k l s. record { place = k; stands = event_of ls k l s };
  whole = λ e i. let l = label_of ls i.place e i.stands in (l.0, record { place = i.place; stands = l.1 }, l.2);
  once = o.once;
}

module _ {V : Type 0} (sys : System V) (dropped : List ℕ) (keyed : AreKeyed sys.net)
    (static : IsStatic sys dropped) where
  module _ {set : List ℕ} {t : List Value} (firable : IsFirable sys dropped set t) (l : Label) (w : Way V)
      (e : Next_edge sys dropped keyed static firable l w) where
    pub received : Received (Effects (HasValue sys.net t) w) sys.net.variables t
    received = receives_all sys.net.variables t firable.long (λ x o. ⊎_elim
        (λ i. let j : e.variable ≡ x = stands_one sys.net.variables o.place e.variable x (subst (λ z. Stands sys.net.variables z e.variable) (sym i) e.stands) o.stands in
        inl (
          e.to,
          subst (λ z. Effects (HasValue sys.net t) w z.key e.to) j
              (only_effects e.variable.key (value_from sys dropped keyed t e.number e.variable e.from e.stands e.value)
              e.alone e.facts.gives),
        ))
        (λ i. inr (λ v d. i (keyed.one o.place e.number x e.variable o.stands e.stands (only_target e.alone d))))
        (cases_eq o.place e.number))

    pub no_clash : HasNo sys.net.variables (Clashes (Effects (HasValue sys.net t) w))
    no_clash = record {
      has_not = λ k x st h.
          let i : x.key ≡ e.variable.key = only_target e.alone h.is_first in
          let a =
          to_alone sys dropped keyed static firable l w e h.first
          (subst (λ z. Effects (HasValue sys.net t) w z h.first) i h.is_first) in
          let b =
          to_alone sys dropped keyed static firable l w e h.second
          (subst (λ z. Effects (HasValue sys.net t) w z h.second) i h.is_second) in
          h.differ (a ∙ sym b);
    }

    pub no_leave : HasNo sys.net.variables (LeavesDomain (Effects (HasValue sys.net t) w))
    no_leave = record {
      has_not = λ k x st h.
          let i : x.key ≡ e.variable.key = only_target e.alone h.received in
          let a =
          to_alone sys dropped keyed static firable l w e h.value
          (subst (λ z. Effects (HasValue sys.net t) w z h.value) i h.received) in
          let j : k ≡ e.number = keyed.one k e.number x e.variable st e.stands i in
          let b : x ≡ e.variable =
          stands_one sys.net.variables e.number x e.variable
          (subst (λ z. Stands sys.net.variables z x) j st) e.stands in
          h.outside
          (subst (λ z. Contains z.domain h.value) (sym b)
          (subst (λ v. Contains e.variable.domain v) (sym a) e.facts.in_domain));
    }

module _ {V : Type 0} (sys : System V) (dropped : List ℕ) (keyed : AreKeyed sys.net) (static : IsStatic sys dropped)
    (limit : List ℕ) (total : (part : List ℕ) (t : List Value) → IsFirable sys dropped part t → Within part limit
    → ((f : FlowFault) → Flows sys.net t (Fails f)
    → (set : List ℕ) × Within set limit × MeetsConflict sys dropped set)
    → HasFlows sys.net t) where
  -- these labels, the last first, fire, and each variable's labels are as wanted
  record Built (want : ℕ → List Label) : Type 0 where
    pub labels : List Label
    pub values : List Value
    pub reaches : Reaches sys dropped labels values
    pub firable : IsFirable sys dropped (map (λ l. l.event) labels) values
    pub as_wanted : (n : ℕ) → firable.path n ≡ want n
    pub once : AreOnce labels
    pub within : Within (map (λ l. l.event) labels) limit

  begun : Built (λ n. [])
  begun =
      let nothing : Within [] limit = record { each = λ e o. absurd (one_none e o) } in
      let f = total [] (first_values sys.net.variables) (none_firable sys dropped keyed) nothing
      (λ f k. (
        [],
        nothing,
        record {
          labels = [];
          fault = f;
          conflicts = cuts.start k;
          events = self_events [] (record { once = λ j k l m a b e. cc });
        },
      )) in
      record {
        labels = [];
        values = f.values;
        reaches = cuts.start f.flows;
        firable = firable_flows sys dropped keyed f.flows (none_firable sys dropped keyed);
        as_wanted = λ n. refl;
        once = record { once = λ j k l m a b e. cc };
        within = nothing;
      }

  -- one edge more
  module _ {want : ℕ → List Label} (b : Built want) (l : Label) (n : ℕ) {ls : List Label} {from to : Value}
      (is : want n ≡ ls) (p : Path sys dropped n ls from) (e : Edge sys dropped l n from to) (x : Variable V)
      (st : Stands sys.net.variables n x) (state : x.is_state ≡ true) (inside : IsOneOf limit l.event) where
    stands_from : Stands b.values n from
    stands_from =
        let w = b.firable.walks n x st state in
        let k : w.0 ≡ from =
        path_end sys dropped keyed static (subst (λ z. Path sys dropped n z w.0) (b.as_wanted n ∙ is) w.2) p in
        subst (λ z. Stands b.values n z) k w.1

    can_fire : Can (HasValue sys.net b.values) e.way
    can_fire = enabled sys dropped keyed b.firable static l n from to e stands_from

    the_edge : Next_edge sys dropped keyed static b.firable l e.way
    the_edge = next_edge sys dropped keyed static b.firable l e.way e.is_open can_fire

    at_n : (the_edge.number ≡ n)
    at_n =
        let c =
        static.one_edge.one l l the_edge.number n the_edge.from from the_edge.to to
        (live sys dropped keyed static the_edge.path the_edge.edge) (live sys dropped keyed static p e) refl in
        c.1

    new_event : (k : ℕ) (m : Label) → Stands b.labels k m → m.event ≡ l.event → ⊥
    new_event k m h i =
        let o = b.firable.whole m.event (record { place = k; stands = event_of b.labels k m h }) in
        let w = b.firable.walks o.0 o.1 o.3 o.4 in
        let r = split sys dropped keyed static w.2 o.5.place o.2 o.5.stands in
        let c =
        static.one_edge.one o.2 l o.0 n r.from from r.to to (split_live sys dropped keyed static r)
        (live sys dropped keyed static p e) (o.6 ∙ i) in
        let q : Path sys dropped n r.rest from =
        subst (λ z. Path sys dropped n r.rest z) c.2 (subst (λ z. Path sys dropped z r.rest r.from) c.1 r.path) in
        let u : r.rest ≡ ls = path_unique sys dropped keyed static q p in
        let v : b.firable.path o.0 ≡ ls = ap b.firable.path c.1 ∙ b.as_wanted n ∙ is in
        let g : length (b.firable.path o.0) ≡ length r.front + suc (length r.rest) =
        ap length r.is ∙ length-append r.front (o.2 ∷ r.rest) in
        let y : length (b.firable.path o.0) ≡ length ls = ap length v in
        let z : length r.rest ≡ length ls = ap length u in
        absurd (omega arith)

    once_more : AreOnce (l ∷ b.labels)
    once_more = record { once = go }
      where
        go : (j k : ℕ) (a c : Label) → Stands (l ∷ b.labels) j a → Stands (l ∷ b.labels) k c → a.event ≡ c.event → j ≡ k
        go zero zero a c h i e = refl
        go zero (suc k) a c h i q = let j : l ≡ a = cc in absurd (new_event k c i (sym q ∙ ap (λ z. z.event) (sym j)))
        go (suc j) zero a c h i q = let k : l ≡ c = cc in absurd (new_event j a h (q ∙ ap (λ z. z.event) (sym k)))
        go (suc j) (suc k) a c h i q = ap suc (b.once.once j k a c h i q)

    within_more : Within (l.event ∷ map (λ l. l.event) b.labels) limit
    within_more = record { each = λ e o. go e o.place o.stands }
      where
        go : (e k : ℕ) → Stands (l.event ∷ map (λ l. l.event) b.labels) k e → IsOneOf limit e
        go e zero h = let i : l.event ≡ e = cc in subst (λ z. IsOneOf limit z) i inside
        go e (suc k) h = b.within.each e (record { place = k; stands = h })

    next : Built (longer n l want)
    next =
        let r = received sys dropped keyed static b.firable l e.way the_edge in
        let m = moved sys dropped keyed static b.firable l e.way the_edge r.values r.receives in
        let f = total (l.event ∷ map (λ l. l.event) b.labels) r.values m within_more
        (λ f k. (
          map (λ l. l.event) (l ∷ b.labels),
          within_more,
          record {
            labels = l ∷ b.labels;
            fault = f;
            events = self_events (l ∷ b.labels) once_more;
            conflicts =
                cuts.fire e.way b.reaches e.is_open
                (flow r.values can_fire (no_clash sys dropped keyed static b.firable l e.way the_edge)
                (no_leave sys dropped keyed static b.firable l e.way the_edge) r.receives k);
          },
        )) in
        record {
          labels = l ∷ b.labels;
          values = f.values;
          reaches =
              cuts.fire e.way b.reaches e.is_open
              (moves r.values can_fire (no_clash sys dropped keyed static b.firable l e.way the_edge)
              (no_leave sys dropped keyed static b.firable l e.way the_edge) r.receives f.flows);
          firable = firable_flows sys dropped keyed f.flows m;
          as_wanted = λ k. subst (λ z. longer z l b.firable.path k ≡ longer n l want k) (sym at_n) (longer_as k);
          once = once_more;
          within = within_more;
        }
      where
        longer_as : (k : ℕ) → longer n l b.firable.path k ≡ longer n l want k
        longer_as k = ap (λ z. cond (k == n) (l ∷ z) z) (b.as_wanted k)

  as_other : {want : ℕ → List Label} {other : ℕ → List Label} → ((n : ℕ) → want n ≡ other n) → Built want → Built other
  as_other h b = record {
    labels = b.labels;
    values = b.values;
    reaches = b.reaches;
    firable = b.firable;
    as_wanted = λ n. b.as_wanted n ∙ h n;
    once = b.once;
    within = b.within;
  }

  -- one variable's path
  abbrev put : ℕ → List Label → (ℕ → List Label) → ℕ → List Label
  put n ls want k = cond (k == n) ls (want k)

  along : {want : ℕ → List Label} (n : ℕ) (x : Variable V) → Stands sys.net.variables n x → x.is_state ≡ true
      → want n ≡ [] → {ls : List Label} {m : Value} → ((k : ℕ) (l : Label) → Stands ls k l → IsOneOf limit l.event)
      → Path sys dropped n ls m → Built want → Built (put n ls want)
  along {want = want} n x st i empty h (root s j q) b =
      as_other
      (λ k. ⊎_elim (λ e. at_same k e) (λ e. let h : (k == n) ≡ false = grind (arith, nat_tests) in rw h refl) (cases_eq k n)) b
    where
      at_same : (k : ℕ) → k ≡ n → want k ≡ put n [] want k
      at_same k e = let h : (k == n) ≡ true = grind (arith, nat_tests) in rw h (ap want e ∙ empty)
  along {want = want} n x st i empty h (edge {l = l} {ls = ls} p e) b =
      let c = along n x st i empty (λ k l s. h (suc k) l s) p b in
      as_other (λ k. then k (k == n) refl) (next c l n (here n ls) p e x st i (h zero l refl))
    where
      here : (n : ℕ) (ls : List Label) → put n ls want n ≡ ls
      here n ls = let h : (n == n) ≡ true = grind (arith, nat_tests) in rw h refl

      then : (k : ℕ) (b : Bool) → (k == n) ≡ b → longer n l (put n ls want) k ≡ put n (l ∷ ls) want k
      then k true e = rw e refl
      then k false e = rw e refl

  -- all variables' paths, one variable after the other
  module _ {set : List ℕ} {t : List Value} (f : IsFirable sys dropped set t) (fits : Within set limit) where
    abbrev more : ℕ → Option (Variable V) → (ℕ → List Label) → ℕ → List Label
    more k None want = want
    more k (Some x) want = cond x.is_state (put k (f.path k) want) want

    abbrev wanted : ℕ → ℕ → List Label
    wanted zero = λ n. []
    wanted (suc k) = more k (slice_get sys.net.variables k) (wanted k)

    not_yet : (k n : ℕ) → k ≤ n → wanted k n ≡ []
    not_yet zero n h = refl
    not_yet (suc k) n h = go (slice_get sys.net.variables k) (not_yet k n (omega arith))
      where
        go : (o : Option (Variable V)) → wanted k n ≡ [] → more k o (wanted k) n ≡ []
        go None e = e
        go (Some x) e = turn x.is_state
          where
            turn : (b : Bool) → cond b (put k (f.path k) (wanted k)) (wanted k) n ≡ []
            turn true = let i : (n == k) ≡ false = grind (arith, nat_tests) in rw i e
            turn false = e

    by_now : (k n : ℕ) (x : Variable V) → n < k → Stands sys.net.variables n x → x.is_state ≡ true
        → wanted k n ≡ f.path n
    by_now zero n x h s i = absurd (omega arith)
    by_now (suc k) n x h s i =
        ⊎_elim (λ e. same e) (λ e. other (by_now k n x (below e) s i) (slice_get sys.net.variables k)) (cases_eq n k)
      where
        below : (n ≡ k → ⊥) → n < k
        below e = grind arith

        same : n ≡ k → wanted (suc k) n ≡ f.path n
        same e =
            let a : slice_get sys.net.variables k ≡ Some x = subst (λ z. slice_get sys.net.variables z ≡ Some x) e s in
            let b : (n == k) ≡ true = grind (arith, nat_tests) in
            rw (a, i, b) (ap f.path (sym e))

        other : wanted k n ≡ f.path n → (o : Option (Variable V)) → more k o (wanted k) n ≡ f.path n
        other e None = e
        other e (Some y) = turn y.is_state
          where
            turn : (b : Bool) → cond b (put k (f.path k) (wanted k)) (wanted k) n ≡ f.path n
            turn true =
                ⊎_elim (λ q. let i : (n == k) ≡ true = grind (arith, nat_tests) in rw i (ap f.path (sym q)))
                (λ q. let i : (n == k) ≡ false = grind (arith, nat_tests) in rw i e) (cases_eq n k)
            turn false = e

    built : (k : ℕ) → Built (wanted k)
    built zero = begun
    built (suc k) = go (slice_get sys.net.variables k) refl (built k)
      where
        go : (o : Option (Variable V)) → slice_get sys.net.variables k ≡ o → Built (wanted k)
            → Built (more k o (wanted k))
        go None e b = b
        go (Some x) e b = turn x.is_state refl
          where
            turn : (s : Bool) → x.is_state ≡ s → Built (cond s (put k (f.path k) (wanted k)) (wanted k))
            turn true s =
                let w = f.walks k x e s in
                along k x e s (not_yet k k (omega arith)) (λ j l st. fits.each l.event (f.sound k x e s j l st)) w.2 b
            turn false s = b

    -- a firable set has an order
    pub has_order : (u : List Value) × HasOrder sys dropped set u
    has_order =
        let b = built (length sys.net.variables) in
        let same =
        λ (n : ℕ) (x : Variable V) (s : Stands sys.net.variables n x) (i : x.is_state ≡ true). b.as_wanted n
        ∙ by_now (length sys.net.variables) n x (within sys.net.variables n x s) s i in (
          b.values,
          record {
            labels = b.labels;
            reaches = b.reaches;
            events = record {
              sound = λ k l s.
                  let o = b.firable.whole l.event (record { place = k; stands = event_of b.labels k l s }) in
                  let p : Stands (f.path o.0) o.5.place o.2 =
                  subst (λ z. Stands z o.5.place o.2) (same o.0 o.1 o.3 o.4) o.5.stands in
                  subst (λ z. IsOneOf set z) o.6 (f.sound o.0 o.1 o.3 o.4 o.5.place o.2 p);
              whole = λ e o.
                  let w = f.whole e o in
                  let p : Stands (b.firable.path w.0) w.5.place w.2 =
                  subst (λ z. Stands z w.5.place w.2) (sym (same w.0 w.1 w.3 w.4)) w.5.stands in
                  let i = b.firable.sound w.0 w.1 w.3 w.4 w.5.place w.2 p in
                  let l = label_of b.labels i.place w.2.event i.stands in
                  (l.0, record { place = i.place; stands = l.1 }, l.2 ∙ w.6);
              once = b.once.once;
            };
          },
        )
      where
        within : (xs : List (Variable V)) (n : ℕ) (x : Variable V) → Stands xs n x → n < length xs
        within [] n x s = cc
        within (y ∷ ys) zero x s = omega arith
        within (y ∷ ys) (suc n) x s = let h = within ys n x s in omega arith
