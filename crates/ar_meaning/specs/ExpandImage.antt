-- Declared events that differ in what stands for transitions and events alone.
use Rattle.std.specs.Prelude.{◌≡◌, Bool, List}
use Rattle.ar_base.specs.Lists.{Along}
use Rattle.ar_meaning.specs.Systems.{Transition}
use Rattle.ar_meaning.specs.Expand.{EventDeclaration, Member, One, Synchronises}
use Rattle.ar_meaning.specs.Image.{Transition_renames}

-- the parts have the same mark, and their events are related
pub record Part_renames {E F : Type 0} (same : E → F → Type 0) (p : Bool × E) (q : Bool × F) : Type 0 where
  pub must : p.0 ≡ q.0
  pub key : same p.1 q.1

-- both are transitions, which are related, or synchronisations with related parts
pub data Member_along {L M E F : Type 0} (same : L → M → Type 0)
    (event_same : E → F → Type 0) : Member L E → Member M F → Type 0 where
  transitions : {d : L} {e : M} → same d e → Member_along same event_same (One d) (One e)
  synchronise : {ps : List (Bool × E)} {qs : List (Bool × F)} → Along (Part_renames event_same) ps qs
      → Member_along same event_same (Synchronises ps) (Synchronises qs)

-- the declared events have related keys, one unit, one mark for hidden, and related members
pub record Declared_along {L M E F : Type 0} (same : L → M → Type 0) (event_same : E → F → Type 0) (d : EventDeclaration
    L E) (e : EventDeclaration M F) : Type 0 where
  pub key : event_same d.key e.key
  pub unit : d.unit ≡ e.unit
  pub hidden : d.hidden ≡ e.hidden
  pub members : Along (Member_along same event_same) d.members e.members

abbrev pub Declared_renames : {V W E F : Type 0} → (V → W → Type 0) → (E → F → Type 0) → EventDeclaration (Transition V)
    E → EventDeclaration (Transition W) F → Type 0
Declared_renames same = Declared_along (Transition_renames same)
