-- Values that were computed, each with what it is the value of.
use Rattle.std.specs.Prelude.{◌≡◌, ℕ, List, Some}
use Rattle.std.specs.HashMap.{HashMap, get}
use Rattle.domains.specs.declared.Value.{Value}
use Rattle.hierarchy.specs.Models.{RootedModel}
use Rattle.hierarchy.specs.Units.{UnitPath, Thing}
use Rattle.hierarchy.specs.Tie.{HasAttribute}
use Rattle.hierarchy.specs.declared.tree.Attribute.{Attribute}
use Rattle.source_meaning.specs.Tested.{IsReadable}
use Rattle.bind_scopes.specs.Indexed.{is_same_index}
use Rattle.bind_scopes.specs.Scopes.{AreScopes}
use Rattle.bind_scopes.specs.declared.scopes.Scopes.{Scopes}
use Rattle.bind_names.specs.Values.{AreNamesKept, AreFirst, NamesBefore, IsValue}

-- the value of each thing whose value in force is this one, where these are the values of the first parameters, among
-- which are all that it may name
pub record IsScopeKnown (s : Scopes) (parameters : List Value) (a : Attribute) (v : Value) : Type 0 where
  pub value : (m : RootedModel) (units : List UnitPath) (t : Thing) (n : ℕ) → AreScopes m units s → AreNamesKept m units
      → IsReadable m units t → HasAttribute m units t a → AreFirst m units n parameters → NamesBefore m units t n
      → IsValue m t v

-- each value that is remembered is that of what it is remembered with
pub record AreKnown {S : Type 0} (s : Scopes) (parameters : List Value)
    (known : HashMap (ℕ × ℕ) (Attribute × Value) S) : Type 0 where
  pub each : (k : ℕ × ℕ) (e : Attribute × Value) → get is_same_index known k ≡ Some e → IsScopeKnown s parameters e.0 e.1
