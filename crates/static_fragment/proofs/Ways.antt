-- Kept ways are the ways of the events that are not dropped, with their mode variables.
use Rattle.std.proofs.Common.{◌≡◌, ◌-◌, ℕ, inl, Bool, true, false, not, List, Vec, Global, refl, sym, ap, ◌∙◌, subst, arith}
use Rattle.ar_base.specs.Lists.{Stands}
use Rattle.ar_base.specs.Numbers.{VarId, WayId}
use Rattle.ar_base.proofs.Standing.{stands_one, stands_within, stands_some, stands_map, stands_map_back, along_on, along_back}
use Rattle.typed_expr.specs.declared.expr.Expr.{Expr}
use Rattle.ar_meaning.specs.Systems as s
use Rattle.ar_meaning.specs.Systems.{System, Net, Transition, Leaf, Joint, Way as Ways}
use Rattle.ar_meaning.specs.Numbered.{Body, Acts, Means_way, leaf}
use Rattle.ar_meaning.proofs.OneRun.{means_same}
use Rattle.ar_meaning.specs.Runs.{Label, IsWay}
use Rattle.ar_firing.specs.Fragment.{IsKept, IsStateOf, IsModeOf}
use Rattle.ar_firing.specs.Fragment as f
use Rattle.ar_firing.proofs.RulesHold.{mode_same}
use Rattle.ar_firing.specs.Rules.{IsTransition, KeepsS1, KeepsS2, HasModeVariable}
use Rattle.gts_core.specs.View.{of_body, body_of_way, way_bodies, variable_of}
use Rattle.gts_core.specs.declared.system.Variable.{Variable}
use Rattle.gts_core.specs.declared.system.Event.{Event}
use Rattle.gts_core.specs.declared.system.WayBody.{WayBody}
use Rattle.gts_core.specs.declared.system.WayBody.TheVariants.{Local, Sync}
use Rattle.gts_core.specs.declared.system.Assign.{Assign}
use Rattle.gts_core.specs.declared.system.GtsParts.{GtsParts}
use Rattle.gts_core.proofs.Viewing.{variable_there, variable_back}
use Rattle.mode_search.specs.Modes.{transition_of}
use Rattle.mode_search.specs.Kept.{IsLocal, IsKeptAt, IsToKeep}
use Rattle.mode_search.specs.declared.kept.KeptWay.{KeptWay}
use Rattle.mode_trees.specs.Views.{number_of_found, number_in}
use Rattle.static_fragment.specs.Setting.{AreKeptWays}
use Rattle.static_fragment.specs.Kept.{IsTheWay}

-- two ways of one label are one
pub way_same : (system : System ℕ) (l : Label) (w u : Ways ℕ) → IsWay system l w → IsWay system l u → w ≡ u
way_same system l w u a b =
    let e = stands_one system.events l.event a.event b.event a.is_event b.is_event in
    stands_one b.event.ways l.way w u (subst (λ (z : s.Event ℕ). Stands z.ways l.way w) e a.is_way) b.is_way

pub event_same : (system : System ℕ) (l : Label) (w u : Ways ℕ) (a : IsWay system l w) (b : IsWay system l u)
    → a.event ≡ b.event
event_same system l w u a b = stands_one system.events l.event a.event b.event a.is_event b.is_event

-- an event is visible where it is not hidden
pub shown : (b : Bool) → true ≡ not b → b ≡ false
shown true e = absurd (cc e)
shown false e = refl

-- the transition of a kept way
abbrev pub leaf_at : {p : GtsParts} {marks : List Bool} {l : Label} {k : KeptWay} → IsKeptAt p marks l k → Ways ℕ
leaf_at at = Leaf (transition_of at.is.guard at.is.action.items)

-- a body that is a transition
local_of : (b : WayBody) (d : Transition ℕ) → of_body b ≡ Acts d
    → (g : Expr VarId) × (a : Vec Assign Global) × (b ≡ Local g a) × (transition_of g a.items ≡ d)
local_of (Local g a) d e = (g, a, refl, cc)
local_of (Sync parts) d e = absurd (cc e)

leaf_of : (bodies : List (Body (Transition ℕ))) (n : ℕ) (w : Ways ℕ) → IsTransition w → Means_way bodies n w
    → (d : Transition ℕ) × (w ≡ Leaf d) × Stands bodies n (Acts d)
leaf_of bodies n (Leaf d) t (leaf m) = (d, refl, m)
leaf_of bodies n (Joint bs) t m = elim t [ ]

module _ (p : GtsParts) where
  -- the number of a transition stands for it
  body_at : (n : ℕ) (g : Expr VarId) (a : Vec Assign Global) → IsLocal p n g a
      → Stands (way_bodies p) n (Acts (transition_of g a.items))
  body_at n g a i = subst (λ (z : WayBody). Stands (way_bodies p) n (of_body z)) i.body
      (stands_map body_of_way p.ways.items n i.way i.stands)

  -- one number stands for one transition
  pub local_same : (n : ℕ) (g h : Expr VarId) (a b : Vec Assign Global) → IsLocal p n g a → IsLocal p n h b
      → transition_of g a.items ≡ transition_of h b.items
  local_same n g h a b i j =
      let e = stands_one (way_bodies p) n (Acts (transition_of g a.items)) (Acts (transition_of h b.items))
      (body_at n g a i) (body_at n h b j) in cc

  local_at : (n : ℕ) (d : Transition ℕ) → Stands (way_bodies p) n (Acts d)
      → (g : Expr VarId) × (a : Vec Assign Global) × IsLocal p n g a × (transition_of g a.items ≡ d)
  local_at n d st =
      let b = stands_map_back body_of_way p.ways.items n (Acts d) st in
      let r = local_of b.0.body d b.2 in
      (r.0, r.1, record { way = b.0; stands = b.1; body = r.2 }, r.3)

module _ {p : GtsParts} {system : System ℕ} {dropped : List ℕ} {kept : List KeptWay}
    (c : AreKeptWays p system dropped kept) where
  -- the variables of the system
  pub variable_at : (n : ℕ) (v : Variable) → Stands p.variables.items n v
      → Stands system.net.variables n (variable_of n v)
  variable_at n v st = subst (λ (z : Net ℕ). Stands z.variables n (variable_of n v)) (sym c.views.net)
      (variable_there p n v st)

  pub variable_from : (n : ℕ) (y : s.Variable ℕ) → Stands system.net.variables n y
      → (v : Variable) × Stands p.variables.items n v × (variable_of n v ≡ y)
  variable_from n y st = variable_back p n y (subst (λ (z : Net ℕ). Stands z.variables n y) c.views.net st)

  -- a kept way stands for a way of the system
  pub record Tie (l : Label) (k : KeptWay) (at : IsKeptAt p c.marks l k) : Type 0 where
    pub is_kept : IsKept system dropped l (leaf_at at)
    pub visible : k.visible ≡ not is_kept.is_way.event.hidden
    pub is_mode : IsModeOf system is_kept.is_way.event.unit (leaf_at at) k.mode.variable.n
    pub variable : Variable
    pub stands : Stands p.variables.items k.mode.variable.n variable
    pub is_state : variable.is_state ≡ true

  -- the mode variable, as the system has it
  abbrev pub has_mode : {l : Label} {k : KeptWay} {at : IsKeptAt p c.marks l k} → (t : Tie l k at)
      → HasModeVariable system dropped l (leaf_at at) k.mode.variable.n (variable_of k.mode.variable.n t.variable)
  has_mode t = record { is_kept = t.is_kept; is_mode = t.is_mode; stands = variable_at _ t.variable t.stands }

  -- a mode variable is a state variable
  mode_item : (unit : ℕ) (w : Ways ℕ) (n : ℕ) → IsModeOf system unit w n
      → (y : s.Variable ℕ) × Stands system.net.variables n y × (y.is_state ≡ true)
  mode_item unit w n (f.named h) = (h.item, h.stands, h.has.is_state)
  mode_item unit w n (f.first lacks h) = (h.item, h.stands, h.has.is_state)

  pub mode_variable : (unit : ℕ) (w : Ways ℕ) (n : ℕ) → IsModeOf system unit w n
      → (v : Variable) × Stands p.variables.items n v × (v.is_state ≡ true)
  mode_variable unit w n m =
      let i = mode_item unit w n m in
      let v = variable_from n i.0 i.1 in
      (v.0, v.1, ap (λ (z : s.Variable ℕ). z.is_state) v.2 ∙ i.2)

  pub tie : (l : Label) (k : KeptWay) (at : IsKeptAt p c.marks l k) → Tie l k at
  tie l k at =
      let e = along_on p.events.items system.events c.views.events l.event at.event at.is_event in
      let w = along_on at.event.ways.items e.0.ways e.2.ways l.way at.way at.has in
      let same : w.0 ≡ leaf_at at = means_same (way_bodies p) w.2
      (leaf (body_at p at.way.n at.is.guard at.is.action at.is.local)) in
      let mode : IsModeOf system e.0.unit (leaf_at at) k.mode.variable.n =
      subst (λ (z : ℕ). IsModeOf system z (leaf_at at) k.mode.variable.n) (sym e.2.unit)
      (at.is.mode.is_mode system c.views.net) in
      let v = mode_variable e.0.unit (leaf_at at) k.mode.variable.n mode in
      record {
        is_kept = record {
          is_way = record {
            event = e.0;
            is_event = e.1;
            is_way = subst
                (λ (z : Ways ℕ). Stands e.0.ways l.way z) same w.1;
          };
          stays = c.marked.mark l.event false at.mark;
        };
        visible = at.is.visible ∙ ap not (sym e.2.hidden);
        is_mode = mode;
        variable = v.0;
        stands = v.1;
        is_state = v.2;
      }

  -- what stands for a variable is its number
  pub key_at : (n : ℕ) (y : s.Variable ℕ) → Stands system.net.variables n y → y.key ≡ n
  key_at n y st = sym (ap (λ (z : s.Variable ℕ). z.key) (variable_from n y st).2)

  -- the label of each kept way
  pub label_at : (q : ℕ) (k : KeptWay) → Stands kept q k → (l : Label) × Stands c.are.labels q l × IsKeptAt p c.marks l
      k
  label_at q k st = along_back c.are.labels kept c.are.are q k st

  -- the number of its way is that of the label
  pub number_at : (l : Label) (k : KeptWay) → IsKeptAt p c.marks l k → number_in p k.way.n ≡ l.way
  number_at l k at =
      let x = c.sound.event_ways l.event l.way at.event at.way at.is_event at.has in
      let found : number_in p at.way.n ≡ x.way.number - 1 = ap number_of_found x.stands in
      ap (λ (z : WayId). number_in p z.n) at.is.is_way ∙ (found ∙ omega (arith, x.number))

  pub event_at : (l : Label) (k : KeptWay) → IsKeptAt p c.marks l k → k.event.n ≡ l.event
  event_at l k at = ap (λ z. z.n) at.is.is_event ∙ at.number

  -- kept ways of one label are of one way of the parts
  pub label_way : (l : Label) (k j : KeptWay) → IsKeptAt p c.marks l k → IsKeptAt p c.marks l j → k.way ≡ j.way
  label_way l k j a b =
      let e = stands_one p.events.items l.event a.event b.event a.is_event b.is_event in
      let w = stands_one b.event.ways.items l.way a.way b.way
      (subst (λ (z : Event). Stands z.ways.items l.way a.way) e a.has) b.has in
      a.is.is_way ∙ (w ∙ sym b.is.is_way)

  -- a way of the system that is kept
  pub record Found (l : Label) (w : Ways ℕ) : Type 0 where
    pub place : ℕ
    pub way : KeptWay
    pub stands : Stands kept place way
    pub at : IsKeptAt p c.marks l way
    pub is : leaf_at at ≡ w

  -- its mode variable is that of the way
  pub mode_at : (l : Label) (w : Ways ℕ) (n : ℕ) (i : IsKept system dropped l w)
      → IsModeOf system i.is_way.event.unit w n → (h : Found l w) → h.way.mode.variable.n ≡ n
  mode_at l w n i m h =
      let t = tie l h.way h.at in
      let e = event_same system l (leaf_at h.at) w t.is_kept.is_way i.is_way in
      mode_same system
      (subst (λ (z : Ways ℕ). IsModeOf system i.is_way.event.unit z h.way.mode.variable.n) h.is
      (subst (λ (z : s.Event ℕ). IsModeOf system z.unit (leaf_at h.at) h.way.mode.variable.n) e t.is_mode)) m

  not_marked : (l : Label) (w : Ways ℕ) (i : IsKept system dropped l w) (b : Bool) → Stands c.marks l.event b
      → Stands c.marks l.event false
  not_marked l w i true st = absurd (i.stays (c.marked.mark l.event true st))
  not_marked l w i false st = st

  module _ (k1 : KeepsS1 system) (k2 : KeepsS2 system dropped) where
    pub to_keep : (l : Label) (w : Ways ℕ) → IsKept system dropped l w → IsToKeep p c.marks l
    to_keep l w i =
        let e = along_back p.events.items system.events c.views.events l.event i.is_way.event i.is_way.is_event in
        let y = along_back e.0.ways.items i.is_way.event.ways e.2.ways l.way w i.is_way.is_way in
        let d = leaf_of (way_bodies p) y.0.n w (k1.each l w i.is_way) y.2 in
        let g = local_at p y.0.n d.0 d.2 in
        let within = stands_within p.events.items l.event e.0 e.1 in
        let b = stands_some c.marks l.event (omega (arith, within, c.marked.long)) in
        let st = k2.each i.is_way.event.unit (record { label = l; way = w; is_kept = i; is_unit = refl }) in
        record {
          event = e.0;
          is_event = e.1;
          mark = not_marked l w i b.0 b.1;
          way = y.0;
          has = y.1;
          guard = g.0;
          action = g.1;
          local = g.2;
          state = λ none.
              none.has_not st.number st.variable (subst (λ (z : Net ℕ). Stands z.variables st.number st.variable)
              c.views.net st.stands)
              (subst (λ (z : ℕ). IsStateOf z st.variable) e.2.unit st.is_state);
        }

    pub found : (l : Label) (w : Ways ℕ) → IsKept system dropped l w → Found l w
    found l w i =
        let t = to_keep l w i in
        let o = c.are.whole l t (inl (stands_within p.events.items l.event t.event t.is_event)) in
        let k = along_on c.are.labels kept c.are.are o.place l o.stands in
        record {
          place = o.place;
          way = k.0;
          stands = k.1;
          at = k.2;
          is = way_same system l (leaf_at k.2) w (tie l k.0 k.2).is_kept.is_way i.is_way;
        }

  pub the_way : (l : Label) (k : KeptWay) (at : IsKeptAt p c.marks l k) → IsTheWay p system dropped k l (leaf_at at)
  the_way l k at = let t = tie l k at in record {
    event = event_at l k at;
    way = number_at l k at;
    variable = variable_of k.mode.variable.n t.variable;
    mode = has_mode t;
    visible = (λ e. shown t.is_kept.is_way.event.hidden (sym e ∙ t.visible), λ e. t.visible ∙ ap not e);
  }
