-- Events, ways, labels and variables of the parts, and those of the system that the parts stand for.
use Rattle.std.proofs.Common.{◌≡◌, ◌<◌, ℕ, Bool, true, false, List, length, Vec, refl, sym, ◌∙◌, ap, subst}
use Rattle.std.specs.Global.{Global}
use Rattle.ar_base.specs.Lists.{Stands, IsOneOf}
use Rattle.ar_base.specs.Numbers.{VarId, WayId}
use Rattle.ar_base.proofs.Standing.{stands_one, stands_within, stands_some, stands_map, stands_map_back, along_on, along_back}
use Rattle.typed_expr.specs.declared.expr.Expr.{Expr}
use Rattle.ar_meaning.specs.Systems as s
use Rattle.ar_meaning.specs.Systems.{System, Net, Transition, Leaf, Joint, Branches}
use Rattle.ar_meaning.specs.Numbered.{Body, Acts, Joins, leaf, joint}
use Rattle.ar_meaning.specs.Runs.{Label, IsWay}
use Rattle.ar_firing.specs.Fragment.{IsKept}
use Rattle.gts_core.specs.View.{of_body, body_of_way, way_bodies, variable_of, IsWayAt, IsEventView, Views}
use Rattle.gts_core.specs.declared.system.Variable.{Variable}
use Rattle.gts_core.specs.declared.system.Event.{Event}
use Rattle.gts_core.specs.declared.system.Way.{Way}
use Rattle.gts_core.specs.declared.system.WayBody.{WayBody}
use Rattle.gts_core.specs.declared.system.WayBody.TheVariants.{Local, Sync}
use Rattle.gts_core.specs.declared.system.Assign.{Assign}
use Rattle.gts_core.specs.declared.system.GtsParts.{GtsParts}
use Rattle.gts_core.proofs.Viewing.{variable_there, variable_back}
use Rattle.mode_search.specs.Modes.{transition_of}
use Rattle.mode_search.specs.Events.{AreMarks, IsSync, IsJoint}
use Rattle.mode_search.specs.Kept.{IsLocal}

-- a way by its number
module _ (p : GtsParts) where
  -- the way that a number that means a way is read at
  way_at : (n : ℕ) (b : Body (Transition ℕ)) → Stands (way_bodies p) n b
      → (w : Way) × Stands p.ways.items n w × (body_of_way w ≡ b)
  way_at n b s = stands_map_back body_of_way p.ways.items n b s

  -- a transition of the system is a transition of the parts
  pub record IsTransitionAt (n : ℕ) (d : Transition ℕ) : Type 0 where
    pub guard : Expr VarId
    pub action : Vec Assign Global
    pub local : IsLocal p n guard action
    pub is : d ≡ transition_of guard action.items

  pub local_means : (n : ℕ) (guard : Expr VarId) (action : Vec Assign Global) → IsLocal p n guard action
      → IsWayAt p n (Leaf (transition_of guard action.items))
  local_means n guard action h =
      leaf (subst (λ (b : WayBody). Stands (way_bodies p) n (of_body b)) h.body
      (stands_map body_of_way p.ways.items n h.way h.stands))

  transition_in : (n : ℕ) (w : Way) (d : Transition ℕ) → Stands p.ways.items n w → (b : WayBody) → w.body ≡ b
      → of_body b ≡ Acts d → IsTransitionAt n d
  transition_in n w d s (Local guard action) e i = record {
    guard = guard;
    action = action;
    local = record { way = w; stands = s; body = e };
    is = cc;
  }
  transition_in n w d s (Sync parts) e i = cc

  pub leaf_local : (n : ℕ) (d : Transition ℕ) → IsWayAt p n (Leaf d) → IsTransitionAt n d
  leaf_local n d (leaf s) = let r = way_at n (Acts d) s in transition_in n r.0 d r.1 r.0.body refl r.2

  -- a joint of the system is a synchronised way of the parts
  sync_in : (w : Way) (ns : List (Bool × ℕ)) (b : WayBody) → w.body ≡ b → of_body b ≡ Joins ns → IsSync w.body
  sync_in w ns (Local guard action) e i = cc
  sync_in w ns (Sync parts) e i = subst (λ (z : WayBody). IsSync z) (sym e) tt

  pub joint_sync : (n : ℕ) (bs : Branches (Transition ℕ)) → IsWayAt p n (Joint bs) → IsJoint p n
  joint_sync n bs (joint {parts = ns} s m) =
      let r = way_at n (Joins ns) s in
      record { way = r.0; stands = r.1; is_sync = sync_in r.0 ns r.0.body refl r.2 }

  not_both : (n : ℕ) (d : Transition ℕ) → IsJoint p n → (b : Body (Transition ℕ)) → Stands (way_bodies p) n b
      → b ≡ Acts d → ⊥
  not_both n d j b s e =
      let r = way_at n b s in
      let same = stands_one p.ways.items n j.way r.0 j.stands r.1 in
      by r.0.body (ap (λ (z : Way). z.body) same) (r.2 ∙ e)
    where
      by : (c : WayBody) → j.way.body ≡ c → of_body c ≡ Acts d → ⊥
      by (Local guard action) k i = subst (λ (z : WayBody). IsSync z) k j.is_sync
      by (Sync parts) k i = cc

  -- a synchronised way of the parts means a joint
  pub sync_joint : (n : ℕ) (w : s.Way ℕ) → IsJoint p n → IsWayAt p n w → (bs : Branches (Transition ℕ)) × (w ≡ Joint bs)
  sync_joint n (Leaf d) j (leaf s) = absurd (not_both n d j (Acts d) s refl)
  sync_joint n (Joint bs) j m = (bs, refl)

  -- a way of the parts that is no synchronised one means a transition
  pub other_leaf : (n : ℕ) (w : s.Way ℕ) → (IsJoint p n → ⊥) → IsWayAt p n w → (d : Transition ℕ) × (w ≡ Leaf d)
  other_leaf n (Leaf d) h m = (d, refl)
  other_leaf n (Joint bs) h m = absurd (h (joint_sync n bs m))

-- a label of the system names this way of the parts, and its event is this
pub record IsPartsWay (p : GtsParts) (l : Label) (w : s.Way ℕ) (meant : s.Event ℕ) : Type 0 where
  pub event : Event
  pub stands : Stands p.events.items l.event event
  pub means : IsEventView p event meant
  pub way : WayId
  pub has : Stands event.ways.items l.way way
  pub is_at : IsWayAt p way.n w

-- a way of the parts, and the way of the system at its label
pub record IsSystemWay (p : GtsParts) (system : System ℕ) (l : Label) (event : Event) (way : WayId) : Type 0 where
  pub meant : s.Way ℕ
  pub is_way : IsWay system l meant
  pub means : IsEventView p event is_way.event
  pub is_at : IsWayAt p way.n meant

module _ (p : GtsParts) (system : System ℕ) (views : Views p system) where
  -- an event of the parts means the event of the system at its place
  pub event_there : (n : ℕ) (e : Event) → Stands p.events.items n e
      → (m : s.Event ℕ) × Stands system.events n m × IsEventView p e m
  event_there n e h = along_on p.events.items system.events views.events n e h

  pub event_back : (n : ℕ) (m : s.Event ℕ) → Stands system.events n m
      → (e : Event) × Stands p.events.items n e × IsEventView p e m
  event_back n m h = along_back p.events.items system.events views.events n m h

  -- a way of an event of the parts means the way of the system at its label
  pub label_there : (l : Label) (e : Event) (id : WayId) → Stands p.events.items l.event e
      → Stands e.ways.items l.way id → IsSystemWay p system l e id
  label_there l e id h k =
      let m = event_there l.event e h in
      let w = along_on e.ways.items m.0.ways m.2.ways l.way id k in
      record { meant = w.0; is_way = record { event = m.0; is_event = m.1; is_way = w.1 }; means = m.2; is_at = w.2 }

  pub label_back : (l : Label) (w : s.Way ℕ) (i : IsWay system l w) → IsPartsWay p l w i.event
  label_back l w i =
      let e = event_back l.event i.event i.is_event in
      let id = along_back e.0.ways.items i.event.ways e.2.ways l.way w i.is_way in
      record { event = e.0; stands = e.1; means = e.2; way = id.0; has = id.1; is_at = id.2 }

  -- variables
  pub system_variable : (n : ℕ) (x : Variable) → Stands p.variables.items n x
      → Stands system.net.variables n (variable_of n x)
  system_variable n x h = subst (λ (z : Net ℕ). Stands z.variables n (variable_of n x)) (sym views.net)
      (variable_there p n x h)

  pub parts_variable : (n : ℕ) (y : s.Variable ℕ) → Stands system.net.variables n y
      → (x : Variable) × Stands p.variables.items n x × (variable_of n x ≡ y)
  parts_variable n y h = variable_back p n y (subst (λ (z : Net ℕ). Stands z.variables n y) views.net h)

-- an event that is not dropped has no mark, and the other way round
module _ (count : ℕ) (dropped : List ℕ) (marks : List Bool) (are : AreMarks count dropped marks) where
  pub unmarked : (n : ℕ) → n < count → (IsOneOf dropped n → ⊥) → Stands marks n false
  unmarked n h stays = go (stands_some marks n (subst (λ (z : ℕ). n < z) (sym are.long) h))
    where
      go : (b : Bool) × Stands marks n b → Stands marks n false
      go (true, s) = absurd (stays (are.mark n true s))
      go (false, s) = s

  pub unmarked_stays : (n : ℕ) → Stands marks n false → IsOneOf dropped n → ⊥
  unmarked_stays n s = are.mark n false s

module _ (p : GtsParts) (system : System ℕ) (views : Views p system) (dropped : List ℕ) (marks : List Bool)
    (are : AreMarks (length p.events.items) dropped marks) where
  pub kept_unmarked : (l : Label) (w : s.Way ℕ) → IsKept system dropped l w → Stands marks l.event false
  kept_unmarked l w k =
      let i = label_back p system views l w k.is_way in
      unmarked (length p.events.items) dropped marks are l.event
      (stands_within p.events.items l.event i.event i.stands) k.stays
