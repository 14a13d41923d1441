-- What a path names: walks along names, through blocks, instances, clones and aliases.
use Rattle.std.specs.Prelude.{◌≡◌, ℕ, if◌then◌else◌, Bool, true, false, List, [], ◌∷◌, ◌++◌, Option, Some, None}
use Rattle.ar_syntax.specs.declared.paths.Path.{Path}
use Rattle.ar_syntax.specs.declared.paths.PathStart.{PathStart}
use Rattle.class_table.specs.Members.{Site, MemberKind, Inner, Clone, Alias, Variable, Parameter, Kept, Event, Observer}
use Rattle.hierarchy.specs.Models.{RootedModel}
use Rattle.hierarchy.specs.Units.{UnitPath, Thing, body_of, set_at_of, bodies_of, has_number, is_among, kind_at, start_of, numbers}

-- what a walk comes to: a unit, nothing, or a loop
pub data WalkOutcome : Type 0 where
  Reaches : UnitPath → WalkOutcome
  Nothing : WalkOutcome
  Loops : WalkOutcome

-- the name x in the unit u, as a statement that a walk follows
abbrev pub thing : UnitPath → ℕ → Thing
thing u x = record { unit = u; name = x }

-- what a clone as x in u is, where the walk along its path comes to this: a unit of the same body and settings, unless
-- a unit above has that body
abbrev pub cloned : RootedModel → UnitPath → ℕ → WalkOutcome → WalkOutcome
cloned m u x (Reaches t) = if has_number (bodies_of m u) (body_of m t) then Loops
    else Reaches (record { name = x; body = body_of m t; set_at = set_at_of t } ∷ u)
cloned m u x Nothing = Nothing
cloned m u x Loops = Loops

-- the name is no block, instance, clone or alias
abbrev pub is_unitless : MemberKind → Bool
is_unitless (Inner b from) = false
is_unitless (Clone p) = false
is_unitless (Alias p) = false
is_unitless (Variable d settings) = true
is_unitless (Parameter t e) = true
is_unitless Kept = true
is_unitless Event = true
is_unitless (Observer t e) = true

mutual
  -- what unit the name x is in the unit u, where it is this there, and while the statements f are being followed
  pub data NameLeads (m : RootedModel) : List Thing → UnitPath → ℕ → Option MemberKind → WalkOutcome → Type 0 where
    inner : {f : List Thing} {u : UnitPath} {x b : ℕ} {from : Option Site}
        → NameLeads m f u x (Some (Inner b from)) (Reaches (record { name = x; body = b; set_at = from } ∷ u))
    clones : {f : List Thing} {u : UnitPath} {x : ℕ} {p : Path} {o r : WalkOutcome} → is_among f (thing u x) ≡ false
        → NamesLead m (thing u x ∷ f) (start_of p.start u) (numbers p.names.items) o → r ≡ cloned m u x o
        → NameLeads m f u x (Some (Clone p)) r
    embeds : {f : List Thing} {u : UnitPath} {x : ℕ} {p : Path} {o : WalkOutcome} → is_among f (thing u x) ≡ false
        → NamesLead m (thing u x ∷ f) (start_of p.start u) (numbers p.names.items) o
        → NameLeads m f u x (Some (Alias p)) o
    clones_again : {f : List Thing} {u : UnitPath} {x : ℕ} {p : Path} → is_among f (thing u x) ≡ true
        → NameLeads m f u x (Some (Clone p)) Loops
    embeds_again : {f : List Thing} {u : UnitPath} {x : ℕ} {p : Path} → is_among f (thing u x) ≡ true
        → NameLeads m f u x (Some (Alias p)) Loops
    no_unit : {f : List Thing} {u : UnitPath} {x : ℕ} {w : MemberKind} → is_unitless w ≡ true
        → NameLeads m f u x (Some w) Nothing
    absent : {f : List Thing} {u : UnitPath} {x : ℕ} → NameLeads m f u x None Nothing

  -- where names lead, one after the other
  pub data NamesLead (m : RootedModel) : List Thing → Option UnitPath → List ℕ → WalkOutcome → Type 0 where
    nowhere : {f : List Thing} {xs : List ℕ} → NamesLead m f None xs Nothing
    arrives : {f : List Thing} {u : UnitPath} → NamesLead m f (Some u) [] (Reaches u)
    on : {f : List Thing} {u : UnitPath} {x : ℕ} {xs : List ℕ} {o : WalkOutcome} (v : UnitPath)
        → NameLeads m f u x (kind_at m u x) (Reaches v) → NamesLead m f (Some v) xs o
        → NamesLead m f (Some u) (x ∷ xs) o
    stops : {f : List Thing} {u : UnitPath} {x : ℕ} {xs : List ℕ} → NameLeads m f u x (kind_at m u x) Nothing
        → NamesLead m f (Some u) (x ∷ xs) Nothing
    loops : {f : List Thing} {u : UnitPath} {x : ℕ} {xs : List ℕ} → NameLeads m f u x (kind_at m u x) Loops
        → NamesLead m f (Some u) (x ∷ xs) Loops

-- Look-ups

-- the names, read in the unit u from this start, lead to the unit t
abbrev pub IsUnitAt : RootedModel → UnitPath → PathStart → List ℕ → UnitPath → Type 0
IsUnitAt m u start names t = NamesLead m [] (start_of start u) names (Reaches t)

-- the last of the names is this one, and those before it lead to its unit
pub record LeadsTo (m : RootedModel) (u : UnitPath) (start : PathStart) (names : List ℕ) (t : Thing) : Type 0 where
  pub front : List ℕ
  pub split : names ≡ front ++ t.name ∷ []
  pub reaches : IsUnitAt m u start front t.unit

-- the thing is something for which the test is true
pub record PassesTest (m : RootedModel) (test : MemberKind → Bool) (t : Thing) : Type 0 where
  pub kind : MemberKind
  pub is : kind_at m t.unit t.name ≡ Some kind
  pub passes : test kind ≡ true

-- a state variable or a flow
abbrev pub is_variable : MemberKind → Bool
is_variable (Variable d settings) = true
is_variable _ = false

-- a parameter Real is one too
abbrev pub is_parameter : MemberKind → Bool
is_parameter (Parameter t e) = true
is_parameter Kept = true
is_parameter _ = false

-- an event
abbrev pub is_event : MemberKind → Bool
is_event Event = true
is_event _ = false

-- an observer
abbrev pub is_observer : MemberKind → Bool
is_observer (Observer t e) = true
is_observer _ = false

-- the names, read in the unit u from this start, name the thing, which passes the test
pub record IsThingAt (m : RootedModel) (test : MemberKind → Bool) (u : UnitPath) (start : PathStart) (names : List ℕ)
    (t : Thing) : Type 0 where
  pub leads : LeadsTo m u start names t
  pub has : PassesTest m test t

-- the same of a path
abbrev pub Finds : RootedModel → (MemberKind → Bool) → UnitPath → Path → Thing → Type 0
Finds m test u p t = IsThingAt m test u p.start (numbers p.names.items) t
