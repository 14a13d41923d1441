-- Edges of the ways of a variable are edges of the system, and its modes are reached along them.
use Rattle.std.proofs.Common.{◌≡◌, ℕ, zero, suc, ◌⊎◌, inl, inr, Bool, true, false, not, ◌&&◌, cond, nat_eq, List, [], ◌∷◌, map, Contains, refl, sym, ap, ◌∙◌, subst, arith}
use Rattle.std.specs.List.{filter}
use Rattle.std.proofs.lemmas.Bool.{and_parts, eqb-true, eq-eqb}
use Rattle.ar_base.specs.Lists.{Stands, IsOneOf}
use Rattle.ar_base.specs.Numbers.{WayId}
use Rattle.ar_base.proofs.Standing.{stands_one, stands_none, stands_within, stands_some, stands_map, stands_map_back, one_here}
use Rattle.domains.specs.Domains.{values_of}
use Rattle.domains.specs.declared.Value.{Value}
use Rattle.ar_meaning.specs.Systems as s
use Rattle.ar_meaning.specs.Systems.{System, Transition, Way as Ways}
use Rattle.ar_meaning.specs.Ways.{Can, Effects}
use Rattle.ar_meaning.specs.Found.{IsAnswer}
use Rattle.ar_meaning.specs.Runs.{Label}
use Rattle.ar_meaning.proofs.Found.{holds}
use Rattle.ar_firing.specs.Fragment.{IsOpen, IsModeOf, At, Path, root, edge, IsReached, IsLive}
use Rattle.ar_firing.specs.Fragment as f
use Rattle.ar_firing.specs.Rules.{IsLiveAt, GivesOther, KeepsS1, KeepsS2, BreaksS4, names, gives, Spot, S4, BreaksStaticRule, s4}
use Rattle.gts_core.specs.View.{variable_of}
use Rattle.gts_core.specs.declared.system.Variable.{Variable}
use Rattle.gts_core.specs.declared.system.GtsParts.{GtsParts}
use Rattle.mode_search.specs.Modes.{transition_of}
use Rattle.mode_search.specs.Moves.{IsModeStep, IsWrong}
use Rattle.mode_search.specs.declared.moves.Move.{Move}
use Rattle.mode_search.specs.declared.moves.Move.TheVariants.{To, Wrong}
use Rattle.mode_search.specs.Kept.{IsLocal, IsKeptAt, OtherInAction}
use Rattle.mode_search.specs.declared.kept.KeptWay.{KeptWay}
use Rattle.mode_trees.specs.Views.{edge_row, number_in}
use Rattle.mode_trees.specs.declared.forests.Edge.{Edge}
use Rattle.mode_search.specs.Reached.{Setting, Leads, IsEdgeOf, IsReachable, here, along, HasWrong}
use Rattle.mode_search.specs.declared.searching.Reach.{Reach}
use Rattle.mode_search.specs.Rows.{is_of, variable_ways}
use Rattle.mode_search.specs.Reaches.{IsWrongAt}
use Rattle.static_fragment.specs.Setting.{AreKeptWays, AreReached, label_in}
use Rattle.ar_firing.specs.Forest as firing
use Rattle.static_fragment.specs.Reaching.{EdgesAreLive, LiveAreEdges, ModesAreReached, ReachedAreModes}
use Rattle.static_fragment.proofs.Naming.{action_other}
use Rattle.static_fragment.proofs.Ways.{shown, leaf_at, event_same, local_same, variable_at, variable_from, tie, label_at, label_way, number_at, event_at, mode_at, found}

-- an item of a list that passes a test is one of the list, and the other way round
module _ {A : Type 0} (test : A → Bool) where
  passed : (xs : List A) (q : ℕ) (a : A) → Stands (filter test xs) q a → (j : ℕ) × Stands xs j a × (test a ≡ true)
  passed [] q a st = absurd (stands_none q a st)
  passed (x ∷ xs) q a st = by (test x) refl (λ k t. passed xs k a t) st
    where
      by : (b : Bool) → test x ≡ b → ((k : ℕ) → Stands (filter test xs) k a → (j : ℕ) × Stands xs j a × (test a ≡ true))
          → Stands (cond b (x ∷ filter test xs) (filter test xs)) q a → (j : ℕ) × Stands (x ∷ xs) j a × (test a ≡ true)
      by true e h t = first q t
        where
          first : (q : ℕ) → Stands (x ∷ filter test xs) q a → (j : ℕ) × Stands (x ∷ xs) j a × (test a ≡ true)
          first zero t = let i : x ≡ a = cc in (zero, t, ap test (sym i) ∙ e)
          first (suc q) t = let r = h q t in (suc r.0, r.1, r.2)
      by false e h t = let r = h q t in (suc r.0, r.1, r.2)

  passes : (xs : List A) (j : ℕ) (a : A) → Stands xs j a → test a ≡ true → (q : ℕ) × Stands (filter test xs) q a
  passes [] j a st e = absurd (stands_none j a st)
  passes (x ∷ xs) zero a st e = let i : x ≡ a = cc in (
    zero,
    subst (λ (b : Bool). Stands (cond b (x ∷ filter test xs) (filter test xs)) zero a) (sym (ap test i ∙ e))
        st,
  )
  passes (x ∷ xs) (suc j) a st e = by (test x) (passes xs j a st e)
    where
      by : (b : Bool) → (q : ℕ) × Stands (filter test xs) q a
          → (q : ℕ) × Stands (cond b (x ∷ filter test xs) (filter test xs)) q a
      by true r = (suc r.0, r.1)
      by false r = r

-- a visible way of the row of a variable
pub record InRow (kept : List KeptWay) (n : ℕ) (k : KeptWay) : Type 0 where
  pub place : ℕ
  pub stands : Stands kept place k
  pub visible : k.visible ≡ true
  pub number : k.mode.variable.n ≡ n

pub in_row : (kept : List KeptWay) (n q : ℕ) (k : KeptWay) → Stands (variable_ways n kept) q k → InRow kept n k
in_row kept n q k st =
    let r = passed (is_of n) kept q k st in
    let b = and_parts k.visible (nat_eq k.mode.variable.n n) r.2 in
    record { place = r.0; stands = r.1; visible = b.0; number = eqb-true k.mode.variable.n n b.1 }

row_has : (kept : List KeptWay) (n q : ℕ) (k : KeptWay) → Stands kept q k → k.visible ≡ true → k.mode.variable.n ≡ n
    → (j : ℕ) × Stands (variable_ways n kept) j k
row_has kept n q k st v e =
    passes (is_of n) kept q k st (ap (λ (b : Bool). b && nat_eq k.mode.variable.n n) v ∙ eq-eqb k.mode.variable.n n
    e)

abbrev pub label_of : ℕ → ℕ → Label
label_of e w = record { event = e; way = w }

-- what an edge asks of its way and its variable
record Steps (x : s.Variable ℕ) (w : Ways ℕ) (from to : Value) : Type 0 where
  pub can : Can (At x.key from) w
  pub gives : Effects (At x.key from) w x.key to
  pub one : (v : Value) → Effects (At x.key from) w x.key v → v ≡ to
  pub in_domain : Contains x.domain to

-- what a way that is wrong at a mode does there
record Fails (x : s.Variable ℕ) (w : Ways ℕ) (m : Value) : Type 0 where
  pub can : Can (At x.key m) w
  pub gives : GivesOther (Effects (At x.key m) w x.key) x.domain

module _ {p : GtsParts} {system : System ℕ} {dropped : List ℕ} {kept : List KeptWay}
    (c : AreKeptWays p system dropped kept) where
  -- what is looked at of the variable
  abbrev pub looked : ℕ → Variable → Setting
  looked n v = record { parts = p; number = n; domain = values_of v.domain; ways = variable_ways n kept }

  -- a way of a variable's row, as the system has it
  pub record Row (n : ℕ) (v : Variable) (k : KeptWay) : Type 0 where
    pub label : Label
    pub at : IsKeptAt p c.marks label k
    pub is_open : IsOpen system dropped label (leaf_at at)
    pub is_mode : IsModeOf system is_open.is_kept.is_way.event.unit (leaf_at at) n
    pub is_state : v.is_state ≡ true

  pub row_at : (n : ℕ) (v : Variable) → Stands p.variables.items n v → (q : ℕ) (k : KeptWay)
      → Stands (variable_ways n kept) q k → Row n v k
  row_at n v sv q k st =
      let i = in_row kept n q k st in
      let l = label_at c i.place k i.stands in
      let t = tie c l.0 k l.2 in
      let one = stands_one p.variables.items n t.variable v (subst (λ (z : ℕ). Stands p.variables.items z t.variable)
      i.number t.stands) sv in
      record {
        label = l.0;
        at = l.2;
        is_open = record {
          is_kept = t.is_kept;
          visible = shown t.is_kept.is_way.event.hidden
              (sym i.visible ∙ t.visible);
        };
        is_mode = subst (λ (z : ℕ). IsModeOf system t.is_kept.is_way.event.unit (leaf_at l.2) z) i.number t.is_mode;
        is_state = ap (λ (z : Variable). z.is_state) (sym one) ∙ t.is_state;
      }

  -- the transition that was looked at is that of the way
  transition_there : (l : Label) (k : KeptWay) (at : IsKeptAt p c.marks l k) (n : ℕ) (domain : List Value)
      (from : Value) (move : Move)
      → (h : Leads p n domain k.way.n from move) → transition_of h.guard h.action.items ≡ transition_of at.is.guard
      at.is.action.items
  transition_there l k at n domain from move h =
      local_same p at.way.n h.guard at.is.guard h.action at.is.action
      (subst (λ (z : WayId). IsLocal p z.n h.guard h.action) at.is.is_way h.local) at.is.local

  pub label_is : (l : Label) (k : KeptWay) (at : IsKeptAt p c.marks l k) (e : Edge) → e.event ≡ k.event
      → e.way ≡ k.way → label_in p e ≡ l
  label_is l k at e i j =
      ap (λ (x : ℕ). label_of x (number_in p e.way.n)) (ap (λ z. z.n) i ∙ event_at c l k at)
      ∙ ap (λ (y : ℕ). label_of l.event y) (ap (λ (z : WayId). number_in p z.n) j ∙ number_at c l k at)

  -- an edge of a way of the row is an edge of the system
  pub edge_there : (n : ℕ) (v : Variable) → Stands p.variables.items n v → (e : Edge) → IsEdgeOf (looked n v) e
      → f.Edge system dropped (label_in p e) n e.from e.to × (v.is_state ≡ true)
  edge_there n v sv e h =
      let r = row_at n v sv h.place h.way h.stands in
      let step : IsModeStep (At n e.from) (transition_of r.at.is.guard r.at.is.action.items) n (values_of v.domain) e.to =
      subst (λ (d : Transition ℕ). IsModeStep (At n e.from) d n (values_of v.domain) e.to)
      (transition_there r.label h.way r.at n (values_of v.domain) e.from (To e.to) h.leads) h.leads.is in (
        subst (λ (z : Label). f.Edge system dropped z n e.from e.to)
            (sym (label_is r.label h.way r.at e h.is_event h.is_way)) (record {
              way = leaf_at r.at;
              is_open = r.is_open;
              variable = variable_of n v;
              is_variable = variable_at c n v sv;
              is_mode = r.is_mode;
              can = step.can;
              gives = step.gives;
              one = step.one;
              in_domain = step.in_domain;
            }),
        r.is_state,
      )

  pub reached_there : (n : ℕ) (v : Variable) → Stands p.variables.items n v → v.is_state ≡ true → (m : Value)
      → IsReachable (looked n v) v.value m
      → IsReached system dropped n m
  reached_there n v sv is m here = record { labels = []; path = root (variable_at c n v sv) is refl }
  reached_there n v sv is m (along e r h) =
      let q = reached_there n v sv is e.from r in
      record { labels = label_in p e ∷ q.labels; path = edge q.path (edge_there n v sv e h).0 }

  -- the variable of a number is one
  pub variable_is : (n : ℕ) (v : Variable) → Stands p.variables.items n v → (x : s.Variable ℕ)
      → Stands system.net.variables n x → x ≡ variable_of n v
  variable_is n v sv x sx = stands_one system.net.variables n x (variable_of n v) sx (variable_at c n v sv)

  module _ (k1 : KeepsS1 system) (k2 : KeepsS2 system dropped) (n : ℕ) (v : Variable)
      (sv : Stands p.variables.items n v) where
    -- an open way of the variable is one of its row
    pub record InIts (l : Label) (w : Ways ℕ) : Type 0 where
      pub way : KeptWay
      pub at : IsKeptAt p c.marks l way
      pub is : leaf_at at ≡ w
      pub place : ℕ
      pub stands : Stands (variable_ways n kept) place way
      pub local : IsLocal p way.way.n at.is.guard at.is.action

    pub in_its : (l : Label) (w : Ways ℕ) (o : IsOpen system dropped l w)
        → IsModeOf system o.is_kept.is_way.event.unit w n → InIts l w
    in_its l w o m =
        let h = found c k1 k2 l w o.is_kept in
        let t = tie c l h.way h.at in
        let e = event_same system l (leaf_at h.at) w t.is_kept.is_way o.is_kept.is_way in
        let visible = t.visible ∙ (ap (λ (z : s.Event ℕ). not z.hidden) e ∙ ap not o.visible) in
        let r = row_has kept n h.place h.way h.stands visible (mode_at c l w n o.is_kept m h) in
        record {
          way = h.way;
          at = h.at;
          is = h.is;
          place = r.0;
          stands = r.1;
          local = subst (λ (z : WayId). IsLocal p z.n h.at.is.guard h.at.is.action) (sym h.at.is.is_way) h.at.is.local;
        }

    -- an edge of the system is an edge of a way of the row
    pub edge_back : (l : Label) (from to : Value) → f.Edge system dropped l n from to
        → (e : Edge) × IsEdgeOf (looked n v) e × (e.from ≡ from) × (e.to ≡ to) × (label_in p e ≡ l)
    edge_back l from to g =
        let h = in_its l g.way g.is_open g.is_mode in
        let e : Edge = record { from = from; event = h.way.event; way = h.way.way; to = to } in
        let given : Steps g.variable g.way from to = record {
          can = g.can;
          gives = g.gives;
          one = g.one;
          in_domain =
              g.in_domain;
        } in
        let steps : Steps (variable_of n v) (leaf_at h.at) from to =
        subst (λ (z : Ways ℕ). Steps (variable_of n v) z from to) (sym h.is)
        (subst (λ (z : s.Variable ℕ). Steps z g.way from to) (variable_is n v sv g.variable g.is_variable) given) in (
          e,
          record {
            place = h.place;
            way = h.way;
            stands = h.stands;
            is_event = refl;
            is_way = refl;
            leads = record {
              guard = h.at.is.guard;
              action = h.at.is.action;
              local = h.local;
              is = record { can = steps.can; gives = steps.gives; one = steps.one; in_domain = steps.in_domain };
            };
          },
          refl,
          refl,
          label_is l h.way h.at e refl refl,
        )

    pub path_back : (ls : List Label) (m : Value) → Path system dropped n ls m → IsReachable (looked n v) v.value m
    path_back ls m (root {x = x} st is e) =
        subst (λ (z : Value). IsReachable (looked n v) v.value z)
        (ap (λ (z : s.Variable ℕ). z.value) (sym (variable_is n v sv x st)) ∙ e) here
    path_back ls m (edge {l = l} {ls = ks} {m = from} d g) =
        let b = edge_back l from m g in
        subst (λ (z : Value). IsReachable (looked n v) v.value z) b.3
        (along b.0 (subst (λ (z : Value). IsReachable (looked n v) v.value z) (sym b.2) (path_back ks from d)) b.1)

-- the row of an edge
abbrev pub row_with : Value → Label → Value → firing.Row
row_with a l b = record { from = a; label = l; to = b }

pub row_is : (p : GtsParts) (e : Edge) (row : firing.Row) → e.from ≡ row.from → label_in p e ≡ row.label
    → e.to ≡ row.to → edge_row (number_in p) e ≡ row
row_is p e row i j k = ap (λ (z : Value). row_with z (label_in p e) e.to) i ∙
    (ap (λ (z : Label). row_with row.from z e.to) j ∙ ap (λ (z : Value). row_with row.from row.label z) k)

pub flag_set : (P : Type 0) (b : Bool) → IsAnswer b P → P → b ≡ true
flag_set P true h q = refl
flag_set P false h q = absurd (h q)

module _ {p : GtsParts} {system : System ℕ} {dropped : List ℕ} {kept : List KeptWay} {reaches : List Reach}
    (a : AreReached p system dropped kept reaches) where
  -- a variable of the system has a reach
  pub reach_of : (n : ℕ) (v : Variable) → Stands p.variables.items n v → (r : Reach) × Stands reaches n r
  reach_of n v sv = let w = stands_within p.variables.items n v sv in stands_some reaches n
      (omega (arith, w, a.are.long))

  pub live_there : (n : ℕ) (r : Reach) → Stands reaches n r → (e : Edge) → IsOneOf r.edges.items e
      → IsLive system dropped (label_in p e) n e.from e.to
  live_there n r st e o =
      let h = a.are.each n r st in
      let k = h.is.edges_sound e o in
      let g = edge_there a.ways n h.variable h.stands e k.1 in
      record { reached = reached_there a.ways n h.variable h.stands g.1 e.from k.0; edge = g.0 }

  pub wrong_breaks : (n : ℕ) → IsWrongAt reaches n → BreaksS4 system dropped n
  wrong_breaks n w =
      let h = a.are.each n w.reach w.stands in
      let k = holds (HasWrong (looked a.ways n h.variable) h.variable.value) w.reach.wrong w.wrong h.is.wrong in
      let r = row_at a.ways n h.variable h.stands k.place k.way k.stands in
      let wrong : IsWrong (At n k.mode) (transition_of r.at.is.guard r.at.is.action.items) n
      (values_of h.variable.domain) =
      subst (λ (d : Transition ℕ). IsWrong (At n k.mode) d n (values_of h.variable.domain))
      (transition_there a.ways r.label k.way r.at n (values_of h.variable.domain) k.mode Wrong k.leads) k.leads.is in
      gives r.label (leaf_at r.at) (variable_of n h.variable) k.mode (record {
        is_open = r.is_open;
        is_mode = r.is_mode;
        stands = variable_at a.ways n h.variable h.stands;
        reached = reached_there a.ways n h.variable h.stands r.is_state k.mode k.reachable;
        can = wrong.can;
      }) wrong.gives

  module _ (k1 : KeepsS1 system) (k2 : KeepsS2 system dropped) where
    -- a live edge of the system is one of those that its variable reaches
    pub record FoundEdge (l : Label) (n : ℕ) (from to : Value) : Type 0 where
      pub reach : Reach
      pub stands : Stands reaches n reach
      pub edge : Edge
      pub is_one : IsOneOf reach.edges.items edge
      pub is_from : edge.from ≡ from
      pub is_to : edge.to ≡ to
      pub label : label_in p edge ≡ l

    pub live_back : (l : Label) (n : ℕ) (from to : Value) → IsLive system dropped l n from to → FoundEdge l n from to
    live_back l n from to h =
        let y = variable_from a.ways n h.edge.variable h.edge.is_variable in
        let r = reach_of n y.0 y.1 in
        let q = a.are.each n r.0 r.1 in
        let b = edge_back a.ways k1 k2 n q.variable q.stands l from to h.edge in
        let d = path_back a.ways k1 k2 n q.variable q.stands h.reached.labels from h.reached.path in
        record {
          reach = r.0;
          stands = r.1;
          edge = b.0;
          is_one = q.is.edges_whole b.0 (subst (λ (z : Value). IsReachable (looked a.ways n q.variable) q.variable.value
              z) (sym b.2) d) b.1;
          is_from = b.2;
          is_to = b.3;
          label = b.4;
        }

    pub wrong_found : (l : Label) (w : Ways ℕ) (n : ℕ) (x : s.Variable ℕ) (m : Value)
        → IsLiveAt system dropped l w n x m
        → GivesOther (Effects (At x.key m) w x.key) x.domain → IsWrongAt reaches n
    wrong_found l w n x m h o =
        let y = variable_from a.ways n x h.stands in
        let r = reach_of n y.0 y.1 in
        let q = a.are.each n r.0 r.1 in
        let i = in_its a.ways k1 k2 n q.variable q.stands l w h.is_open h.is_mode in
        let given : Fails x w m = record { can = h.can; gives = o } in
        let fails : Fails (variable_of n q.variable) (leaf_at i.at) m =
        subst (λ (z : Ways ℕ). Fails (variable_of n q.variable) z m) (sym i.is)
        (subst (λ (z : s.Variable ℕ). Fails z w m) (variable_is a.ways n q.variable q.stands x h.stands) given) in
        record {
          reach = r.0;
          stands = r.1;
          wrong = flag_set (HasWrong (looked a.ways n q.variable) q.variable.value) r.0.wrong q.is.wrong (record {
            mode = m;
            reachable = path_back a.ways k1 k2 n q.variable q.stands h.reached.labels m h.reached.path;
            place = i.place;
            way = i.way;
            stands = i.stands;
            leads = record {
              guard = i.at.is.guard;
              action = i.at.is.action;
              local = i.local;
              is = record
                  { can = fails.can; gives = fails.gives };
            };
          });
        }

    pub broken_s4 : (n : ℕ) → BreaksS4 system dropped n → OtherInAction kept n ⊎ IsWrongAt reaches n
    broken_s4 n (names l w x h y k d) = inl (action_other a.ways k1 k2 l w n x h y k d)
    broken_s4 n (gives l w x m h o) = inr (wrong_found l w n x m h o)

    pub unbroken_s4 : ((n : ℕ) → OtherInAction kept n → ⊥) → ((n : ℕ) → IsWrongAt reaches n → ⊥) → (spot : Spot)
        → BreaksStaticRule system dropped S4 spot → ⊥
    unbroken_s4 f g spot (s4 {n = n} h) = elim (broken_s4 n h) [ inl k ↦ f n k | inr k ↦ g n k ]

    -- the same in rows
    pub live_row : LiveAreEdges p system dropped reaches
    live_row n row h =
        let b = live_back row.label n row.from row.to h in
        record {
          reach = b.reach;
          stands = b.stands;
          is_one = record {
            place = b.is_one.place;
            stands = subst (λ (z : firing.Row). Stands (map (edge_row (number_in p)) b.reach.edges.items) b.is_one.place
                z)
                (row_is p b.edge row b.is_from b.label b.is_to)
                (stands_map (edge_row (number_in p)) b.reach.edges.items b.is_one.place b.edge b.is_one.stands);
          };
        }

    pub reached_mode : ReachedAreModes p system dropped reaches
    reached_mode n r st m h =
        let q = a.are.each n r st in
        q.is.modes_whole m (path_back a.ways k1 k2 n q.variable q.stands h.labels m h.path)

  pub row_live : EdgesAreLive p system dropped reaches
  row_live n r st row o =
      let b = stands_map_back (edge_row (number_in p)) r.edges.items o.place row o.stands in
      subst (λ (z : firing.Row). IsLive system dropped z.label n z.from z.to) b.2
      (live_there n r st b.0 (one_here r.edges.items o.place b.0 b.1))

  pub mode_reached : ModesAreReached p system dropped reaches
  mode_reached n r x st sx is m o =
      let q = a.are.each n r st in
      let state = ap (λ (z : s.Variable ℕ). z.is_state) (sym (variable_is a.ways n q.variable q.stands x sx)) ∙ is in
      reached_there a.ways n q.variable q.stands state m (q.is.modes_sound m o)

-- the kept way of an edge
module _ {p : GtsParts} {system : System ℕ} {dropped : List ℕ} {kept : List KeptWay} {reaches : List Reach}
    (a : AreReached p system dropped kept reaches) where
  edge_kept : (n : ℕ) (r : Reach) → Stands reaches n r → (e : Edge) → IsOneOf r.edges.items e
      → (k : KeptWay) × IsKeptAt p a.ways.marks (label_in p e) k × (e.way ≡ k.way)
  edge_kept n r st e o =
      let q = a.are.each n r st in
      let h = (q.is.edges_sound e o).1 in
      let w = row_at a.ways n q.variable q.stands h.place h.way h.stands in (
        h.way,
        subst (λ (z : Label). IsKeptAt p a.ways.marks z h.way)
            (sym (label_is a.ways w.label h.way w.at e h.is_event h.is_way)) w.at,
        h.is_way,
      )

  -- edges of one label are by one way
  pub way_of_label : (m n : ℕ) (r q : Reach) → Stands reaches m r → Stands reaches n q → (e f : Edge)
      → IsOneOf r.edges.items e → IsOneOf q.edges.items f
      → label_in p e ≡ label_in p f → e.way ≡ f.way
  way_of_label m n r q sr sq e f o u i =
      let x = edge_kept m r sr e o in
      let y = edge_kept n q sq f u in
      x.2 ∙ (label_way a.ways (label_in p f) x.0 y.0 (subst (λ (z : Label). IsKeptAt p a.ways.marks z x.0) i x.1) y.1 ∙
      sym y.2)
