-- Static systems: what fires keeps to firable sets.
use Rattle.std.proofs.Common.{◌≡◌, ⊎_elim, ℕ, zero, suc, Bool, true, false, cond, ◌==◌, List, [], ◌∷◌, map, Some, Contains, refl, sym, ◌∙◌, ap, subst, arith}
use Rattle.std.proofs.lemmas.Bool.{cases_eq}
use Rattle.std.proofs.lemmas.Bool.Decides.{nat_tests}
use Rattle.ar_base.specs.Lists.{Stands, IsOneOf}
use Rattle.typed_expr.specs.Yields.{Level, Yields}
use Rattle.typed_expr.proofs.Facts.{yields_named}
use Rattle.ar_meaning.specs.Systems.{Variable, Way, System}
use Rattle.ar_meaning.specs.Facts.{PassesConditions, HasValue, FactOf}
use Rattle.ar_meaning.specs.FactsInside.{AreKeyed}
use Rattle.ar_meaning.specs.Facts as f
use Rattle.ar_meaning.specs.Flows.{Completes, state, known, unknown, Outcome, FlowFault, Flows, Fails, Total, all_hold}
use Rattle.ar_meaning.specs.Flows as flows
use Rattle.ar_meaning.specs.Ways.{Can, guard_holds, Effects, acts}
use Rattle.ar_meaning.specs.Steps.{Clashes, LeavesDomain, Receives, changed, kept, Answer, Refused, Next, Flow, Step, not_enabled, clash, range, flow, moves}
use Rattle.ar_meaning.specs.Steps as s
use Rattle.ar_meaning.specs.Runs.{Label, first_values}
use Rattle.ar_firing.specs.Fragment.{IsOpen, IsModeOf, named, first, At, Edge, Path, root, edge}
use Rattle.ar_firing.specs.Static.{Only, ReadsItselfAlone, transition, IsStatic}
use Rattle.ar_firing.specs.Cuts.{Reaches, Conflicts, IsFirable}
use Rattle.ar_firing.specs.CutsInside.{MovesTo}
use Rattle.ar_firing.specs.Cuts as cuts
use Rattle.ar_firing.specs.CutsInside as moves
use Rattle.domains.specs.declared.Value.{Value}
use Rattle.typed_expr.specs.declared.expr.Expr.{Expr, out-Expr}
use Rattle.ar_meaning.proofs.OneAnswer.{first_same, no_first}
use Rattle.ar_meaning.proofs.Lengths.{received_long, total_long, first_long}
use Rattle.ar_base.proofs.Standing.{stands_one, stands_none, one_none}

-- a way that names k alone
module _ {V : Type 0} {P Q : V → Value → Type 0} (k : V) (on : (x : V) (w : Value) → x ≡ k → P x w → Q x w) where
  only_yields : {e : Level V} {v : Value} → Only k e → Yields P e v → Yields Q e v
  only_yields o d = yields_named (λ x w m p. on x w (o.only x m) p) d

  only_passes : {cs : List (Expr V × Bool)}
      → ((n : ℕ) (e : Expr V) (b : Bool) → Stands cs n (e, b) → Only k (out-Expr V e)) → PassesConditions P cs
      → PassesConditions Q cs
  only_passes h f.none = f.none
  only_passes h (f.one_and {e = e} {b = b} d ds) =
      f.one_and (only_yields (h zero e b refl) d) (only_passes (λ n e b s. h (suc n) e b s) ds)

  pub only_can : {w : Way V} → ReadsItselfAlone k w → Can P w → Can Q w
  only_can (transition o a) (guard_holds d) = guard_holds (only_yields o d)

  pub only_effects : {w : Way V} {x : V} {v : Value} → ReadsItselfAlone k w → Effects P w x v → Effects Q w x v
  only_effects (transition o h) (acts a i p d) =
      let b = h i.place a i.stands in
      acts a i (only_passes b.conditions p) (only_yields b.value d)

pub only_target : {V : Type 0} {P : V → Value → Type 0} {k : V} {w : Way V} {x : V} {v : Value} → ReadsItselfAlone k w
    → Effects P w x v → x ≡ k
only_target (transition o h) (acts a i p d) = let b = h i.place a i.stands in b.target

-- what stands after the effects
pub data IsReceived {V : Type 0} (effects : V → Value → Type 0) (x : Variable V) (old new : List Value)
    (n : ℕ) : Type 0 where
  by_effect : (v : Value) → effects x.key v → Stands new n v → IsReceived effects x old new n
  by_old : ((v : Value) → effects x.key v → ⊥) → ((v : Value) → Stands old n v → Stands new n v)
      → IsReceived effects x old new n

shifted : {V : Type 0} {effects : V → Value → Type 0} {x : Variable V} {vs ws : List Value} {n : ℕ} (v w : Value)
    → IsReceived effects x vs ws n → IsReceived effects x (v ∷ vs) (w ∷ ws) (suc n)
shifted v w (by_effect u e s) = by_effect u e s
shifted v w (by_old h k) = by_old h k

pub received_at : {V : Type 0} {effects : V → Value → Type 0} {xs : List (Variable V)} {vs ws : List Value}
    → Receives effects xs vs ws → (n : ℕ) (x : Variable V) → Stands xs n x → IsReceived effects x vs ws n
received_at s.none n x e = cc
received_at {effects = effects} (changed {x = z} {v = v} {w = w} {vs = vs} {ws = ws} h d) zero x e =
    let i : z ≡ x = cc in subst (λ z. IsReceived effects z (v ∷ vs) (w ∷ ws) zero) i (by_effect w h refl)
received_at (changed {v = v} {w = w} h d) (suc n) x e = shifted v w (received_at d n x e)
received_at {effects = effects} (kept {x = z} {v = v} {vs = vs} {ws = ws} h d) zero x e =
    let i : z ≡ x = cc in subst (λ z. IsReceived effects z (v ∷ vs) (v ∷ ws) zero) i (by_old h (λ u k. k))
received_at (kept {v = v} h d) (suc n) x e = shifted v v (received_at d n x e)

pub completed_at : {V : Type 0} {facts : V → Value → Type 0} {xs : List (Variable V)} {vs ws : List Value}
    → Completes facts xs vs ws → (n : ℕ) (x : Variable V) → Stands xs n x → x.is_state ≡ true
    → (v : Value) → Stands vs n v → Stands ws n v
completed_at flows.none n x e i v k = cc
completed_at (state h d) zero x e i v k = k
completed_at (state h d) (suc n) x e i v k = completed_at d n x e i v k
completed_at (known {x = z} h p d) zero x e i v k = let j : z ≡ x = cc in let l = ap (λ z. z.is_state) j in cc
completed_at (known h p d) (suc n) x e i v k = completed_at d n x e i v k
completed_at (unknown {x = z} h p d) zero x e i v k = let j : z ≡ x = cc in let l = ap (λ z. z.is_state) j in cc
completed_at (unknown h p d) (suc n) x e i v k = completed_at d n x e i v k

-- the paths, one of them longer by an edge
abbrev pub longer : ℕ → Label → (ℕ → List Label) → ℕ → List Label
longer n l path m = cond (m == n) (l ∷ path m) (path m)

pub longer_here : (n : ℕ) (l : Label) (path : ℕ → List Label) → longer n l path n ≡ l ∷ path n
longer_here n l path = let h : (n == n) ≡ true = grind (arith, nat_tests) in rw h

pub longer_there : (n m : ℕ) (l : Label) (path : ℕ → List Label) → (m ≡ n → ⊥) → longer n l path m ≡ path m
longer_there n m l path k = let h : (m == n) ≡ false = grind (arith, nat_tests) in rw h

pub record Ahead {V : Type 0} (from to : Value) (w : Way V) (x : Variable V) : Type 0 where
  pub can : Can (At x.key from) w
  pub gives : Effects (At x.key from) w x.key to
  pub one : (v : Value) → Effects (At x.key from) w x.key v → v ≡ to
  pub in_domain : Contains x.domain to

module _ {V : Type 0} (sys : System V) (dropped : List ℕ) (keyed : AreKeyed sys.net) where
  pub ahead : {l : Label} {n : ℕ} {from to : Value} → Edge sys dropped l n from to
      → (w : Way V) (o : IsOpen sys dropped l w) (x : Variable V) → Stands sys.net.variables n x → Ahead from to w x
  ahead {l = l} {n = n} {from = from} {to = to} e w o x h =
      let a : Ahead from to e.way e.variable =
      record { can = e.can; gives = e.gives; one = e.one; in_domain = e.in_domain } in
      let p = e.is_open.is_kept.is_way in
      let q = o.is_kept.is_way in
      let ev = stands_one sys.events l.event p.event q.event p.is_event q.is_event in
      let i : e.way ≡ w =
      stands_one q.event.ways l.way e.way w (subst (λ z. Stands z.ways l.way e.way) ev p.is_way) q.is_way in
      let j : e.variable ≡ x = stands_one sys.net.variables n e.variable x e.is_variable h in
      subst (λ x. Ahead from to w x) j (subst (λ w. Ahead from to w e.variable) i a)

  -- at a variable whose value is known
  module _ (t : List Value) (n : ℕ) (x : Variable V) (m : Value) (stands : Stands sys.net.variables n x)
      (value : Stands t n m) where
    pub value_at : (y : V) (v : Value) → y ≡ x.key → HasValue sys.net t y v → At x.key m y v
    value_at y v e h =
        let i : h.place ≡ n = keyed.one h.place n h.variable x h.stands stands (h.is_key ∙ e) in
        record { key = e; value = stands_one t n v m (subst (λ k. Stands t k v) i h.value) value }

    pub value_from : (y : V) (v : Value) → y ≡ x.key → At x.key m y v → HasValue sys.net t y v
    value_from y v e a = record {
      place = n;
      variable = x;
      stands = stands;
      is_key = sym e;
      value = subst (λ z. Stands t n z) (sym a.value) value;
    }

  pub total_keeps : {s u : List Value} → Flows sys.net s (Total u) → (n : ℕ) (x : Variable V)
      → Stands sys.net.variables n x → x.is_state ≡ true → (v : Value) → Stands s n v → Stands u n v
  total_keeps (all_hold n m c b) = completed_at c

  abbrev pub firable_flows : {set : List ℕ} {s u : List Value} → Flows sys.net s (Total u) → IsFirable sys dropped set s
      → IsFirable sys dropped set u
  firable_flows f h =
      record {
        long = total_long f;
        path = h.path;
        sound = h.sound;
        whole = h.whole;
        walks = λ n x st i. let w = h.walks n x st i in (w.0, total_keeps f n x st i w.0 w.1, w.2);
      }

  module _ (static : IsStatic sys dropped) {set : List ℕ} {t : List Value} (firable : IsFirable sys dropped set t) where
    -- a way that can fire is an edge from where its variable's path ends
    pub record Next_edge (l : Label) (w : Way V) : Type 0 where
      pub number : ℕ
      pub variable : Variable V
      pub stands : Stands sys.net.variables number variable
      pub is_state : variable.is_state ≡ true
      pub alone : ReadsItselfAlone variable.key w
      pub from : Value
      pub to : Value
      pub value : Stands t number from
      pub path : Path sys dropped number (firable.path number) from
      pub edge : Edge sys dropped l number from to
      pub facts : Ahead from to w variable

    pub next_edge : (l : Label) (w : Way V) → IsOpen sys dropped l w → Can (HasValue sys.net t) w → Next_edge l w
    next_edge l w o c =
        let h = static.modes l w o in
        let k = firable.walks h.number h.variable h.stands h.is_state in
        let can = only_can h.variable.key (value_at t h.number h.variable k.0 h.stands k.1) h.alone c in
        let e =
        static.leads l w h.number h.variable k.0
        (record {
          is_open = o;
          is_mode = h.is_mode;
          stands = h.stands;
          reached = record { labels = firable.path h.number; path = k.2 };
          can = can;
        }) in
        record {
          number = h.number;
          variable = h.variable;
          stands = h.stands;
          is_state = h.is_state;
          alone = h.alone;
          from = k.0;
          to = e.to;
          value = k.1;
          path = k.2;
          edge = e.edge;
          facts = ahead e.edge w o h.variable h.stands;
        }

    -- after such a way's effects the set with its event is firable
    pub to_alone : (l : Label) (w : Way V) (e : Next_edge l w) (v : Value)
        → Effects (HasValue sys.net t) w e.variable.key v → v ≡ e.to
    to_alone l w e v d =
        e.facts.one v (only_effects e.variable.key (value_at t e.number e.variable e.from e.stands e.value) e.alone d)

    module _ (l : Label) (w : Way V) (e : Next_edge l w) (new : List Value)
        (r : Receives (Effects (HasValue sys.net t) w) sys.net.variables t new) where
      pub stands_new : Stands new e.number e.to
      stands_new = elim (received_at r e.number e.variable e.stands) [
        | by_effect v d k ↦ subst (λ z. Stands new e.number z) (to_alone l w e v d) k
        | by_old n k ↦
            absurd
            (n e.to (only_effects e.variable.key (value_from t e.number e.variable e.from e.stands e.value) e.alone
            e.facts.gives))
      ]

      pub stands_old : (n : ℕ) (x : Variable V) → Stands sys.net.variables n x → (n ≡ e.number → ⊥) → (v : Value)
          → Stands t n v → Stands new n v
      stands_old n x st ne v k = elim (received_at r n x st) [
        | by_effect u d i ↦ absurd (ne (keyed.one n e.number x e.variable st e.stands (only_target e.alone d)))
        | by_old h i ↦ i v k
      ]

      pub sound_here : (k : ℕ) (m : Label) → Stands (l ∷ firable.path e.number) k m → IsOneOf (l.event ∷ set) m.event
      sound_here zero m h = let i : l ≡ m = cc in record { place = zero; stands = ap (λ z. Some z.event) i }
      sound_here (suc k) m h =
          let o = firable.sound e.number e.variable e.stands e.is_state k m h in
          record { place = suc o.place; stands = o.stands }

      pub still : (n : ℕ) (m : Label) → IsOneOf (firable.path n) m → IsOneOf (longer e.number l firable.path n) m
      still n m o = ⊎_elim
          (λ q. let a : IsOneOf (l ∷ firable.path n) m = record { place = suc o.place; stands = o.stands } in
          let b : longer e.number l firable.path n ≡ l ∷ firable.path n =
          subst (λ j. longer e.number l firable.path j ≡ l ∷ firable.path j) (sym q)
          (longer_here e.number l firable.path) in
          subst (λ p. IsOneOf p m) (sym b) a)
          (λ q. subst (λ p. IsOneOf p m) (sym (longer_there e.number n l firable.path q)) o)
          (cases_eq n e.number)

      pub whole_at : (k n : ℕ) → Stands (l.event ∷ set) n k
          → (n : ℕ) × (x : Variable V) × (m : Label) × Stands sys.net.variables n x × (x.is_state ≡ true)
          × IsOneOf (longer e.number l firable.path n) m × (m.event ≡ k)
      whole_at k zero h =
          let i : l.event ≡ k = cc in
          let a : IsOneOf (l ∷ firable.path e.number) l = record { place = zero; stands = refl } in (
            e.number,
            e.variable,
            l,
            e.stands,
            e.is_state,
            subst (λ p. IsOneOf p l)
                (sym (longer_here e.number l firable.path)) a,
            i,
          )
      whole_at k (suc n) h =
          let w = firable.whole k (record { place = n; stands = h }) in
          (w.0, w.1, w.2, w.3, w.4, still w.0 w.2 w.5, w.6)

      abbrev pub moved : IsFirable sys dropped (l.event ∷ set) new
      moved = record {
        long = received_long r;
        path = longer e.number l firable.path;
        walks = λ n x st i. ⊎_elim
            (λ q. (
              e.to,
              subst (λ k. Stands new k e.to) (sym q) stands_new,
              subst (λ k. Path sys dropped k (longer e.number l firable.path k) e.to) (sym q)
                  (subst (λ p. Path sys dropped e.number p e.to) (sym (longer_here e.number l firable.path))
                  (edge e.path e.edge)),
            ))
            (λ q. let k = firable.walks n x st i in (
              k.0,
              stands_old n x st q k.0 k.1,
              subst (λ p. Path sys dropped n p k.0)
                  (sym (longer_there e.number n l firable.path q)) k.2,
            ))
            (cases_eq n e.number);
        sound = λ n x st i k m h. ⊎_elim
            (λ q. sound_here k m (subst (λ p. Stands p k m) (longer_here e.number l firable.path)
            (subst (λ j. Stands (longer e.number l firable.path j) k m) q h)))
            (λ q. let o = firable.sound n x st i k m (subst (λ p. Stands p k m) (longer_there e.number n l firable.path q) h) in record { place = suc o.place; stands = o.stands })
            (cases_eq n e.number);
        whole = λ k o. whole_at k o.place o.stands;
      }

    -- what such a step leaves
    pub fires : (l : Label) (w : Way V) → IsOpen sys dropped l w → {u : List Value} → Step sys.net t w (Next u)
        → IsFirable sys dropped (l.event ∷ set) u
    fires l w o (moves new can n m r f) = firable_flows f (moved l w (next_edge l w o can) new r)

    pub record Fault_state (l : Label) (f : FlowFault) : Type 0 where
      pub values : List Value
      pub flows : Flows sys.net values (Fails f)
      pub is_firable : IsFirable sys dropped (l.event ∷ set) values

    pub faults : (l : Label) (w : Way V) → IsOpen sys dropped l w → {f : FlowFault}
        → Step sys.net t w (Refused (Flow f)) → Fault_state l f
    faults l w o (flow new can n m r k) = record {
      values = new;
      flows = k;
      is_firable = moved l w (next_edge l w o can) new r;
    }

    -- an edge from where a path ends can fire, and fires or meets a flow fault
    pub record Ready (l : Label) (answer : Answer) : Type 0 where
      pub values : List Value
      pub moves_to : MovesTo sys.net values answer
      pub is_firable : IsFirable sys dropped (l.event ∷ set) values

    pub ready : (l : Label) (w : Way V) (o : IsOpen sys dropped l w) {answer : Answer} → Can (HasValue sys.net t) w
        → Step sys.net t w answer → Ready l answer
    ready l w o c (not_enabled n) = absurd (n c)
    ready l w o c (clash d k) =
        let e = next_edge l w o c in
        let h = k.has in
        let x : k.item.key ≡ e.variable.key = only_target e.alone h.is_first in
        let a = to_alone l w e h.first (subst (λ z. Effects (HasValue sys.net t) w z h.first) x h.is_first) in
        let b = to_alone l w e h.second (subst (λ z. Effects (HasValue sys.net t) w z h.second) x h.is_second) in
        absurd (h.differ (a ∙ sym b))
    ready l w o c (range {n = n} d j k) =
        let e = next_edge l w o c in
        let h = k.has in
        let x : k.item.key ≡ e.variable.key = only_target e.alone h.received in
        let a = to_alone l w e h.value (subst (λ z. Effects (HasValue sys.net t) w z h.value) x h.received) in
        let i : n ≡ e.number = keyed.one n e.number k.item e.variable k.stands e.stands x in
        let b : k.item ≡ e.variable =
        stands_one sys.net.variables e.number k.item e.variable
        (subst (λ z. Stands sys.net.variables z k.item) i k.stands) e.stands in
        absurd
        (h.outside (subst (λ z. Contains z.domain h.value) (sym b)
        (subst (λ v. Contains e.variable.domain v) (sym a) e.facts.in_domain)))
    ready l w o c (flow new d n m r k) = record {
      values = new;
      moves_to = moves.fails k;
      is_firable = moved l w (next_edge l w o d) new r;
    }
    ready l w o c (moves new d n m r k) = record {
      values = new;
      moves_to = moves.on k;
      is_firable = moved l w (next_edge l w o d) new r;
    }

  -- a label whose edge leaves where its variable's path ends can fire
  pub enabled : {set : List ℕ} {t : List Value} → IsFirable sys dropped set t → IsStatic sys dropped
      → (l : Label) (n : ℕ) (from to : Value) (e : Edge sys dropped l n from to) → Stands t n from
      → Can (HasValue sys.net t) e.way
  enabled {t = t} firable static l n from to e v =
      let h = static.modes l e.way e.is_open in
      let i : h.number ≡ n = mode_same h.is_mode e.is_mode in
      let j : h.variable ≡ e.variable =
      stands_one sys.net.variables n h.variable e.variable
      (subst (λ z. Stands sys.net.variables z h.variable) i h.stands) e.is_variable in
      only_can e.variable.key (value_from t n e.variable from e.is_variable v)
      (subst (λ z. ReadsItselfAlone z.key e.way) j h.alone) e.can
    where
      mode_same : {u : ℕ} {w : Way V} {m n : ℕ} → IsModeOf sys u w m → IsModeOf sys u w n → m ≡ n
      mode_same (named a) (named b) = first_same a b
      mode_same (named a) (first h b) = absurd (no_first h a)
      mode_same (first h a) (named b) = absurd (no_first h b)
      mode_same (first h a) (first k b) = first_same a b

  -- the start is the empty set's
  pub first_value : (xs : List (Variable V)) (n : ℕ) (x : Variable V) → Stands xs n x
      → Stands (first_values xs) n x.value
  first_value [] n x h = cc
  first_value (z ∷ zs) zero x h = let i : z ≡ x = cc in ap (λ z. Some z.value) i
  first_value (z ∷ zs) (suc n) x h = first_value zs n x h

  abbrev pub none_firable : IsFirable sys dropped [] (first_values sys.net.variables)
  none_firable = record {
    long = first_long sys.net.variables;
    path = λ n. [];
    walks = λ n x st i. (x.value, first_value sys.net.variables n x st, root st i refl);
    sound = λ n x st i k l h. absurd (stands_none k l h);
    whole = λ e o. absurd (one_none e o);
  }

  module _ (static : IsStatic sys dropped) where
    -- what fires without fault is a firable set, and its state stands
    pub all_firable : {ls : List Label} {t : List Value} → Reaches sys dropped ls t
        → IsFirable sys dropped (map (λ l. l.event) ls) t
    all_firable (cuts.start f) = firable_flows f none_firable
    all_firable (cuts.fire {l = l} w r o s) = fires static (all_firable r) l w o s

    pub record Conflict_state (set : List ℕ) (f : FlowFault) : Type 0 where
      pub values : List Value
      pub flows : Flows sys.net values (Fails f)
      pub is_firable : IsFirable sys dropped set values

    pub conflict_firable : {ls : List Label} {f : FlowFault} → Conflicts sys dropped ls f
        → Conflict_state (map (λ l. l.event) ls) f
    conflict_firable (cuts.start f) = record {
      values = first_values sys.net.variables;
      flows = f;
      is_firable = none_firable;
    }
    conflict_firable (cuts.fire {l = l} w r o s) =
        let k = faults static (all_firable r) l w o s in
        record { values = k.values; flows = k.flows; is_firable = k.is_firable }
