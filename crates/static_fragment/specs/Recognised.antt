-- What is answered of a system: its forest, or the first rule that it breaks.
use Rattle.std.specs.Prelude.{◌≡◌, ℕ, List, Option}
use Rattle.ar_meaning.specs.Systems.{System}
use Rattle.ar_firing.specs.Forest.{IsForest}
use Rattle.ar_firing.specs.Forest as firing
use Rattle.ar_firing.specs.Rules.{Rule, rule_number, IsFirstBroken, IsAskedUpTo, KeepsUpTo, AtEvent, AtUnit, AtVariable, AtObserver, AtWhole}
use Rattle.ar_firing.specs.RulesInside.{KeepsAll}
use Rattle.ar_firing.specs.Rules as rules
use Rattle.static_fragment.specs.declared.faults.Spot.{Spot}
use Rattle.static_fragment.specs.declared.faults.Spot.TheVariants.{Event, Unit as InUnit, Variable, Observer, Whole}
use Rattle.static_fragment.specs.declared.faults.FragmentFault.{FragmentFault}
use Rattle.static_fragment.specs.declared.faults.FragmentFault.TheVariants.{Outside, Memory}

-- the spot in the words of the rules
abbrev pub spot_of : Spot → rules.Spot
spot_of (Event e) = AtEvent e.n
spot_of (InUnit u) = AtUnit u.n
spot_of (Variable x) = AtVariable x.n
spot_of (Observer k) = AtObserver k
spot_of Whole = AtWhole

-- the system keeps every rule, and these are the trees of its mode variables
pub record IsRecognised (system : System ℕ) (dropped : List ℕ) (trees : List firing.ModeTree) : Type 0 where
  pub keeps : KeepsAll system dropped
  pub forest : IsForest system dropped trees

-- the rule of this number is the least that the system breaks, and this is the first thing that it is shown with
pub record IsOutsideFragment (system : System ℕ) (dropped : List ℕ) (number : ℕ) (spot : Spot) : Type 0 where
  pub rule : Rule
  pub is_rule : rule_number rule ≡ number
  pub first : IsFirstBroken system dropped rule (spot_of spot)

-- why the system was refused; want of memory says nothing of it
abbrev pub IsFragmentRefusal : System ℕ → List ℕ → FragmentFault → Type 0
IsFragmentRefusal system dropped (Outside number spot) = IsOutsideFragment system dropped number spot
IsFragmentRefusal system dropped Memory = Unit {0}

-- the system keeps every rule that is asked where only cuts of at most so many events are to be listed, and these are
-- the trees of its mode variables
pub record IsRecognisedUpTo (order : Option ℕ) (system : System ℕ) (dropped : List ℕ) (trees : List firing.ModeTree)
    : Type 0 where
  pub keeps : KeepsUpTo order system dropped
  pub forest : IsForest system dropped trees

-- the rule of this number is the least that the system breaks, it is one of those that are asked, and this is the first
-- thing that it is shown with
pub record IsOutsideUpTo (order : Option ℕ) (system : System ℕ) (dropped : List ℕ) (number : ℕ) (spot : Spot) : Type 0
  where
    pub rule : Rule
    pub is_rule : rule_number rule ≡ number
    pub asked : IsAskedUpTo order rule
    pub first : IsFirstBroken system dropped rule (spot_of spot)

-- why the system was refused where these rules are asked; want of memory says nothing of it
abbrev pub IsRefusedUpTo : Option ℕ → System ℕ → List ℕ → FragmentFault → Type 0
IsRefusedUpTo order system dropped (Outside number spot) = IsOutsideUpTo order system dropped number spot
IsRefusedUpTo order system dropped Memory = Unit {0}
