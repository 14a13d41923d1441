-- The system that declared events, the instructions of assertions and observers mean, and the nodes
-- of its expressions.
use Rattle.std.specs.Prelude.{◌≡◌, ℕ, ◌+◌, List, [], ◌∷◌, map}
use Rattle.std.specs.List.{flat_map}
use Rattle.ar_base.specs.Lists.{Along}
use Rattle.ar_meaning.specs.Systems.{System, Transition}
use Rattle.ar_meaning.specs.Expand.{EventDeclaration, Member, One, Synchronises, IsExpanded}
use Rattle.gts_core.specs.Bound.{assigns_of_act, declared_from}
use Rattle.gts_core.specs.View.{numbered}
use Rattle.gts_core.specs.declared.bound.Act.{Act}
use Rattle.gts_core.specs.declared.bound.DeclaredEvent.{DeclaredEvent}
use Rattle.gts_core.specs.declared.system.Observer.{Observer}
use Rattle.gts_flatten.specs.Sizes.{nodes_of, transition_nodes}

-- the system has the events that the declared ones expand to, the assertions' assignments and the
-- observers' expressions; its variables are free
pub record IsSystemOf (events : List DeclaredEvent) (assertions : List Act)
    (observers : List Observer) (system : System ℕ) : Type 0 where
  pub events_are : Along (IsExpanded (declared_from 0 events)) (declared_from 0 events)
      system.events
  pub assertions_are : system.net.assertions ≡ flat_map assigns_of_act assertions
  pub observers_are : system.observers ≡ map (λ (o : Observer). numbered o.value) observers

-- the nodes of what a member gives: a synchronisation has no expressions of its own
abbrev pub member_nodes : Member (Transition ℕ) ℕ → ℕ
member_nodes (One t) = transition_nodes t
member_nodes (Synchronises parts) = 0

abbrev pub members_nodes : List (Member (Transition ℕ) ℕ) → ℕ
members_nodes [] = 0
members_nodes (m ∷ ms) = member_nodes m + members_nodes ms

-- the nodes of the transitions of declared events
abbrev pub declared_nodes : List (EventDeclaration (Transition ℕ) ℕ) → ℕ
declared_nodes [] = 0
declared_nodes (d ∷ ds) = members_nodes d.members + declared_nodes ds

-- the nodes of the values of observers
abbrev pub observers_nodes : List Observer → ℕ
observers_nodes [] = 0
observers_nodes (o ∷ rest) = nodes_of o.value + observers_nodes rest
