-- The value that a variable or parameter has: that of the outermost unit above it that sets it, else its own.
use Rattle.std.specs.Prelude.{ℕ, ◌+◌, ◌==◌, ◌&&◌, if◌then◌else◌, Bool, true, false, List, [], ◌∷◌, map, Option, Some, None}
use Rattle.std.specs.Option.{option_or}
use Rattle.ar_syntax.specs.declared.expressions.RawExpr.{RawExpr}
use Rattle.ar_syntax.specs.declared.members.Member.{out-Member}
use Rattle.ar_syntax.specs.declared.members.Member.TheOpen as member
use Rattle.ar_syntax.specs.declared.members.Setting.{Setting}
use Rattle.ar_syntax.specs.declared.members.Word.{Word}
use Rattle.ar_syntax.specs.declared.members.Word.TheVariants as word
use Rattle.class_table.specs.Declaring.{MemberForm}
use Rattle.class_table.specs.Members.{Site, NamedMember, MemberKind, Variable, Parameter, Kept, owned_at}
use Rattle.class_table.specs.declared.tables.Owned.{Owned}
use Rattle.class_table.specs.declared.tables.Owned.TheVariants.{Plain, Nested}
use Rattle.hierarchy.specs.Models.{RootedModel}
use Rattle.hierarchy.specs.Units.{UnitPath, Thing, name_at}

-- Targets

-- a word of a setting's target
pub data TargetWord : Type 0 where
  Named : ℕ → TargetWord
  Init : TargetWord
  Reset : TargetWord

-- a word of the text
abbrev pub target_word_of : Word → TargetWord
target_word_of (word.Name x) = Named x.n
target_word_of word.Init = Init
target_word_of word.Reset = Reset

-- what a setting sets, by its words
abbrev pub target_of : Setting → List TargetWord
target_of s = map target_word_of s.target.items

-- a test for one word
abbrev pub same_word : TargetWord → TargetWord → Bool
same_word (Named x) (Named y) = x == y
same_word Init Init = true
same_word Reset Reset = true
same_word _ _ = false

-- a test for the same words
abbrev pub same_target : List TargetWord → List TargetWord → Bool
same_target [] [] = true
same_target (v ∷ vs) (w ∷ ws) = same_word v w && same_target vs ws
same_target _ _ = false

-- Settings of declarations

-- the settings of a declaration
abbrev pub settings_in : MemberForm → List Setting
settings_in (member.Declare t names settings) = settings.items
settings_in _ = []

-- the settings of a member that was looked up
abbrev pub settings_of : Option Owned → List Setting
settings_of None = []
settings_of (Some (Plain m)) = settings_in (out-Member m)
settings_of (Some (Nested x at b)) = []

-- the settings of the declaration at this site
abbrev pub settings_at : RootedModel → Site → List Setting
settings_at m s = settings_of (owned_at m.declared s)

-- a value: the unit in which its expression is read, the member at which it stands, the place of its setting there, if
-- it is in one, and the expression
pub record Attribute : Type 0 where
  pub unit : UnitPath
  pub site : Site
  pub setting : Option ℕ
  pub value : RawExpr

-- the first of these settings that sets the target; they are those of the declaration at this site, from the place k
-- on, and are read in the unit u
abbrev pub setting_for : UnitPath → Site → ℕ → List Setting → List TargetWord → Option Attribute
setting_for u s k [] target = None
setting_for u s k (x ∷ xs) target =
    if same_target (target_of x) target then Some (record { unit = u; site = s; setting = Some k; value = x.value })
    else setting_for u s (k + 1) xs target

-- what the declaration of a unit in the unit u sets for the target, which is named from inside the first
abbrev pub set_by : RootedModel → UnitPath → Option Site → List TargetWord → Option Attribute
set_by m u None target = None
set_by m u (Some s) target = setting_for u s 0 (settings_at m s) target

-- what the outermost unit above sets for the target, which is named from inside the unit; a setting is read in the unit
-- that holds the declaration
abbrev pub outermost : RootedModel → UnitPath → List TargetWord → Option Attribute
outermost m [] target = None
outermost m (l ∷ above) target = option_or (outermost m above (Named l.name ∷ target)) (set_by m above l.set_at target)

-- Values in force

-- the target by which a thing is set from inside its unit: `v.init`, `v.reset` or the parameter's name
abbrev pub target_in : ℕ → MemberKind → Option (List TargetWord)
target_in x (Variable d []) = None
target_in x (Variable d (s ∷ more)) = Some (Named x ∷ target_of s)
target_in x (Parameter t e) = Some (Named x ∷ [])
target_in x Kept = Some (Named x ∷ [])
target_in x _ = None

-- the value that a thing declares itself
abbrev pub declared_in : UnitPath → Site → MemberKind → Option Attribute
declared_in u s (Variable d []) = None
declared_in u s (Variable d (x ∷ more)) = Some (record { unit = u; site = s; setting = Some 0; value = x.value })
declared_in u s (Parameter t e) = Some (record { unit = u; site = s; setting = None; value = e })
declared_in u s _ = None

-- what is set from outside, else what is declared
abbrev pub in_force_by : RootedModel → UnitPath → Option (List TargetWord) → Option Attribute → Option Attribute
in_force_by m u None declared = None
in_force_by m u (Some target) declared = option_or (outermost m u target) declared

-- the same for what gives a name
abbrev pub in_force_given : RootedModel → UnitPath → Option NamedMember → Option Attribute
in_force_given m u None = None
in_force_given m u (Some g) = in_force_by m u (target_in g.name g.kind) (declared_in u g.site g.kind)

-- the value in force of a variable's init or reset, or of a parameter
abbrev pub in_force : RootedModel → Thing → Option Attribute
in_force m t = in_force_given m t.unit (name_at m t.unit t.name)

-- a variable with this one setting is a state variable
abbrev pub is_init : List TargetWord → Bool
is_init (Init ∷ []) = true
is_init _ = false

-- a variable with this one setting is a flow
abbrev pub is_reset : List TargetWord → Bool
is_reset (Reset ∷ []) = true
is_reset _ = false

-- a state variable, by its settings
abbrev pub is_state : List Setting → Bool
is_state (s ∷ []) = is_init (target_of s)
is_state _ = false

-- a flow, by its settings
abbrev pub is_flow : List Setting → Bool
is_flow (s ∷ []) = is_reset (target_of s)
is_flow _ = false

-- the name is a state variable
abbrev pub is_state_variable : MemberKind → Bool
is_state_variable (Variable d settings) = is_state settings
is_state_variable _ = false

-- the name is a flow
abbrev pub is_flow_variable : MemberKind → Bool
is_flow_variable (Variable d settings) = is_flow settings
is_flow_variable _ = false
