-- Events with synchronised ways, units with transitions, and mode variables.
use Rattle.std.proofs.Common.{◌≡◌, ◌<◌, ℕ, Bool, true, false, List, length, Option, Some, None, sym, ◌∙◌, ap, subst, arith}
use Rattle.ar_base.specs.Lists.{Stands, HasNo}
use Rattle.ar_base.specs.Numbers.{VarId}
use Rattle.ar_base.proofs.Standing.{stands_one, stands_within, stands_some, one_here}
use Rattle.ar_meaning.specs.Systems as s
use Rattle.ar_meaning.specs.Systems.{System, Leaf, Joint}
use Rattle.ar_meaning.specs.Runs.{Label, IsWay}
use Rattle.ar_firing.specs.Fragment.{IsStateOf}
use Rattle.ar_firing.specs.Forest.{HasTransitions, IsModeVariable}
use Rattle.ar_firing.specs.Rules.{IsTransition, transition, KeepsS1, BreaksS1, HasState, KeepsS2, BreaksS2}
use Rattle.gts_core.specs.View.{variable_of, Views}
use Rattle.gts_core.specs.Sound.{IsSound}
use Rattle.gts_core.specs.declared.system.Variable.{Variable}
use Rattle.gts_core.specs.declared.system.GtsParts.{GtsParts}
use Rattle.mode_search.specs.Modes.{IsStateAt}
use Rattle.mode_search.specs.Events.{AreMarks, IsJointAt, MovesUnit, AreMoving, IsStateless}
use Rattle.static_fragment.specs.Units.{AreUnitMarks, IsMovingState}
use Rattle.static_fragment.proofs.Labels.{joint_sync, sync_joint, label_there, label_back, system_variable, parts_variable, unmarked_stays, kept_unmarked}

module _ (p : GtsParts) (system : System ℕ) (views : Views p system) where
  pub joint_breaks : (n : ℕ) → IsJointAt p n → BreaksS1 system n
  joint_breaks n h =
      let l : Label = record { event = n; way = h.has.is_one.place } in
      let i = label_there p system views l h.event h.has.way h.stands h.has.is_one.stands in
      let j = sync_joint p h.has.way.n i.meant h.has.is_joint i.is_at in
      record {
        event = i.is_way.event;
        stands = i.is_way.is_event;
        parts = j.0;
        has = one_here i.is_way.event.ways l.way (Joint j.0)
            (subst (λ (w : s.Way ℕ). Stands i.is_way.event.ways l.way w) j.1 i.is_way.is_way);
      }

  pub breaks_joint : (n : ℕ) → BreaksS1 system n → IsJointAt p n
  breaks_joint n b =
      let l : Label = record { event = n; way = b.has.place } in
      let i = label_back p system views l (Joint b.parts)
      (record { event = b.event; is_event = b.stands; is_way = b.has.stands }) in
      record {
        event = i.event;
        stands = i.stands;
        has = record {
          way = i.way;
          is_one = one_here i.event.ways.items b.has.place i.way i.has;
          is_joint = joint_sync p i.way.n b.parts i.is_at;
        };
      }

  pub no_joint_keeps : ((n : ℕ) → IsJointAt p n → ⊥) → KeepsS1 system
  no_joint_keeps none = record { each = go }
    where
      go : (l : Label) (w : s.Way ℕ) → IsWay system l w → IsTransition w
      go l (Leaf d) i = transition
      go l (Joint bs) i =
          let has = one_here i.event.ways l.way (Joint bs) i.is_way in
          let breaks : BreaksS1 system l.event =
          record { event = i.event; stands = i.is_event; parts = bs; has = has } in
          absurd (none l.event (breaks_joint l.event breaks))

  -- variables
  state_there : (unit n : ℕ) → IsStateAt p unit n
      → (x : s.Variable ℕ) × Stands system.net.variables n x × IsStateOf unit x
  state_there unit n h = (
    variable_of n h.variable,
    system_variable p system views n h.variable h.stands,
    record { is_state = h.is_state; is_unit = h.is_unit },
  )

  state_back : (unit n : ℕ) (y : s.Variable ℕ) → Stands system.net.variables n y → IsStateOf unit y → IsStateAt p unit n
  state_back unit n y st h =
      let r = parts_variable p system views n y st in
      let k = subst (λ (z : s.Variable ℕ). IsStateOf unit z) (sym r.2) h in
      record { variable = r.0; stands = r.1; is_state = k.is_state; is_unit = k.is_unit }

  pub value_there : (dropped : List ℕ) (n : ℕ) (m : IsModeVariable system dropped n) (x : Variable)
      → Stands p.variables.items n x → m.variable.value ≡ x.value
  value_there dropped n m x h =
      let there = system_variable p system views n x h in
      ap (λ (z : s.Variable ℕ). z.value) (stands_one system.net.variables n m.variable (variable_of n x) m.stands there)

  module _ (dropped : List ℕ) (marks : List Bool) (are : AreMarks (length p.events.items) dropped marks) where
    pub transitions_moves : (unit : ℕ) → HasTransitions system dropped unit → MovesUnit p marks (length p.events.items) unit
    transitions_moves unit h =
        let i = label_back p system views h.label h.way h.is_kept.is_way in
        let w = stands_within i.event.ways.items h.label.way i.way i.has in
        let first = stands_some i.event.ways.items 0 (omega arith) in
        record {
          number = h.label.event;
          below = stands_within p.events.items h.label.event i.event i.stands;
          event = i.event;
          stands = i.stands;
          is_unit = sym i.means.unit ∙ h.is_unit;
          mark = kept_unmarked p system views dropped marks are h.label h.way h.is_kept;
          way = first.0;
          has = first.1;
        }

    pub moves_transitions : (unit : ℕ) → MovesUnit p marks (length p.events.items) unit → HasTransitions system dropped unit
    moves_transitions unit m =
        let l : Label = record { event = m.number; way = 0 } in
        let i = label_there p system views l m.event m.way m.stands m.has in
        let stays = unmarked_stays (length p.events.items) dropped marks are m.number m.mark in
        record {
          label = l;
          way = i.meant;
          is_kept = record { is_way = i.is_way; stays = stays };
          is_unit = i.means.unit ∙ m.is_unit;
        }

    module _ (moving : List Bool) (move : AreMoving p marks (length p.events.items) moving) where
      pub moving_transitions : (unit : ℕ) → Stands moving unit true → HasTransitions system dropped unit
      moving_transitions unit h = moves_transitions unit (move.moves unit true h)

      pub transitions_moving : IsSound p → (unit : ℕ) → HasTransitions system dropped unit → Stands moving unit true
      transitions_moving sound unit h = go
          (stands_some moving unit (subst (λ (z : ℕ). unit < z) (sym move.long) within))
        where
          m : MovesUnit p marks (length p.events.items) unit
          m = transitions_moves unit h

          within : unit < length p.units.items
          within = subst (λ (z : ℕ). z < length p.units.items) m.is_unit (sound.event_units m.number m.event m.stands)

          go : (b : Bool) × Stands moving unit b → Stands moving unit true
          go (true, s) = s
          go (false, s) = absurd (move.moves unit false s m)

      -- mode variables
      pub moving_mode : (n : ℕ) → IsMovingState p moving n → IsModeVariable system dropped n
      moving_mode n h = record {
        variable = variable_of n h.variable;
        stands = system_variable p system views n h.variable h.stands;
        is_state = h.is_state;
        moves = moving_transitions h.variable.unit.n h.moves;
      }

      pub mode_moving : IsSound p → (n : ℕ) → IsModeVariable system dropped n → IsMovingState p moving n
      mode_moving sound n m =
          let r = parts_variable p system views n m.variable m.stands in
          record {
            variable = r.0;
            stands = r.1;
            is_state = ap (λ (z : s.Variable ℕ). z.is_state) r.2 ∙ m.is_state;
            moves = transitions_moving sound r.0.unit.n
                (subst (λ (z : s.Variable ℕ). HasTransitions system dropped z.unit) (sym r.2) m.moves);
          }

  module _ (sound : IsSound p) (dropped : List ℕ) (marks moving : List Bool) (firsts : List (Option VarId))
      (u : AreUnitMarks p dropped marks moving firsts) where
    -- units without a first state variable have none
    none_states : (unit : ℕ) → Stands firsts unit None → HasNo system.net.variables (IsStateOf unit)
    none_states unit h = record {
      has_not = λ k a st q.
          let i = state_back unit k a st q in
          u.are_firsts.first unit None h k (stands_within p.variables.items k i.variable i.stands) i;
    }

    pub stateless_breaks : (unit : ℕ) → IsStateless moving firsts unit → BreaksS2 system dropped unit
    stateless_breaks unit h = record {
      moves = moving_transitions dropped marks u.are_marks moving u.are_moving unit h.moves;
      has_none = none_states unit h.none;
    }

    first_at : (unit : ℕ) → Stands moving unit true → (found : Option VarId) × Stands firsts unit found
    first_at unit h = stands_some firsts unit (subst (λ (z : ℕ). unit < z) (sym u.are_firsts.long)
        (subst (λ (z : ℕ). unit < z) u.are_moving.long (stands_within moving unit true h)))

    pub breaks_stateless : (unit : ℕ) → BreaksS2 system dropped unit → IsStateless moving firsts unit
    breaks_stateless unit b = record { moves = moves; none = go (first_at unit moves) }
      where
        moves : Stands moving unit true
        moves = transitions_moving dropped marks u.are_marks moving u.are_moving sound unit b.moves

        go : (found : Option VarId) × Stands firsts unit found → Stands firsts unit None
        go (None, s) = s
        go (Some x, s) =
            let i = state_there unit x.n (u.are_firsts.first unit (Some x) s).1 in
            absurd (b.has_none.has_not x.n i.0 i.1 i.2)

    pub no_stateless_keeps : ((unit : ℕ) → IsStateless moving firsts unit → ⊥) → KeepsS2 system dropped
    no_stateless_keeps none = record {
      each = λ unit h. go unit (transitions_moving dropped marks u.are_marks moving u.are_moving sound unit h);
    }
      where
        by : (unit : ℕ) → Stands moving unit true → (found : Option VarId) × Stands firsts unit found
            → HasState system unit
        by unit h (None, s) = absurd (none unit (record { moves = h; none = s }))
        by unit h (Some x, s) =
            let i = state_there unit x.n (u.are_firsts.first unit (Some x) s).1 in
            record { number = x.n; variable = i.0; stands = i.1; is_state = i.2 }

        go : (unit : ℕ) → Stands moving unit true → HasState system unit
        go unit h = by unit h (first_at unit h)
