-- What may be set in bodies, as it is listed and looked up.
use Rattle.std.specs.Prelude.{◌≡◌, ◌<◌, ◌⊎◌, ℕ, Bool, true, false, List, [], ◌∷◌, Option, Some, None, option_and_then}
use Rattle.std.specs.List.{flat_map}
use Rattle.std.specs.HashMap.{get}
use Rattle.ar_base.specs.Lists.{Stands, IsOneOf}
use Rattle.ar_syntax.specs.declared.members.Setting.{Setting}
use Rattle.class_table.specs.Members.{NamedMember, MemberKind, Inner, Clone, Alias, Variable, Parameter, Kept, Event, Observer}
use Rattle.hierarchy.specs.Models.{RootedModel}
use Rattle.hierarchy.specs.Units.{UnitPath, body_of, names_at, kind_at}
use Rattle.hierarchy.specs.UnitsInside.{names_in}
use Rattle.hierarchy.specs.Settings.{is_state, is_flow}
use Rattle.unit_walks.specs.Forms.{same_pair}
use Rattle.unit_rules.specs.declared.settables.Settable.{Settable}
use Rattle.unit_rules.specs.declared.settables.Settable.TheVariants as settable
use Rattle.unit_rules.specs.declared.settables.Settables.{Settables}

-- what a variable is, by whether it is a state variable and whether it is a flow
abbrev pub state_or_flow : Bool → Bool → Option Settable
state_or_flow true flow = Some settable.State
state_or_flow false true = Some settable.Flow
state_or_flow false false = None

-- what a variable with these settings is
abbrev pub variable_set : List Setting → Option Settable
variable_set settings = state_or_flow (is_state settings) (is_flow settings)

-- what may be set by a name that is this, or gone into; an alias is not gone into
abbrev pub settable_of : MemberKind → Option Settable
settable_of (Inner b from) = Some settable.Inner
settable_of (Clone p) = Some settable.Inner
settable_of (Alias p) = None
settable_of (Variable d settings) = variable_set settings
settable_of (Parameter t e) = Some settable.Parameter
settable_of Kept = Some settable.Parameter
settable_of Event = None
settable_of (Observer t e) = None

-- the entry of a name, if it has one
abbrev pub one_entry : ℕ → Option Settable → List (ℕ × Settable)
one_entry x None = []
one_entry x (Some s) = (x, s) ∷ []

-- the entries of these names
abbrev pub settable_entries : List NamedMember → List (ℕ × Settable)
settable_entries gs = flat_map (λ (g : NamedMember). one_entry g.name (settable_of g.kind)) gs

-- what is kept for the name x of a body
abbrev pub kept_at : Settables → ℕ → ℕ → Option Settable
kept_at t b x = get same_pair t.kept (b, x)

-- entries of a body were added: what is kept was kept before or is one of them, and for each of them something is kept
pub record AddsSettables (b : ℕ) (entries : List (ℕ × Settable)) (old new : Settables) : Type 0 where
  pub found : (c x : ℕ) (s : Settable) → kept_at new c x ≡ Some s
      → (kept_at old c x ≡ Some s) ⊎ ((c ≡ b) × IsOneOf entries (x, s))
  pub kept : (c x : ℕ) (s : Settable) → kept_at old c x ≡ Some s → (t : Settable) × (kept_at new c x ≡ Some t)
  pub all : (x : ℕ) (s : Settable) → IsOneOf entries (x, s) → (t : Settable) × (kept_at new b x ≡ Some t)

-- what is kept is right, and something is kept for each name of the first i of these units that may be set
pub record AreSettablesTo (m : RootedModel) (units : List UnitPath) (i : ℕ) (t : Settables) : Type 0 where
  pub right : (c x : ℕ) (s : Settable) → kept_at t c x ≡ Some s → IsOneOf (settable_entries (names_in m c)) (x, s)
  pub all : (k : ℕ) (u : UnitPath) (x : ℕ) (s : Settable) → k < i → Stands units k u
      → IsOneOf (settable_entries (names_at m u)) (x, s)
      → (r : Settable) × (kept_at t (body_of m u) x ≡ Some r)

-- in each unit each name is found as what may be set by it, or gone into
pub record AreSettables (m : RootedModel) (units : List UnitPath) (t : Settables) : Type 0 where
  pub each : (u : UnitPath) (x : ℕ) → IsOneOf units u
      → kept_at t (body_of m u) x ≡ option_and_then settable_of (kind_at m u x)
