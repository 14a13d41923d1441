-- What instructions and declared events stand for.
use Rattle.std.specs.Prelude.{◌≡◌, ℕ, ◌+◌, Bool, true, false, List, [], ◌∷◌, ◌++◌, map}
use Rattle.std.specs.Borrow.{Bor}
use Rattle.std.specs.List.{flat_map}
use Rattle.typed_expr.specs.declared.expr.Expr.{Expr}
use Rattle.ar_meaning.specs.Systems as s
use Rattle.ar_base.specs.Lists.{Along}
use Rattle.ar_meaning.specs.Image.{Conditions_rename, Assign_renames}
use Rattle.ar_meaning.specs.Expand.{EventDeclaration, Member, One, Synchronises}
use Rattle.ar_base.specs.declared.numbers.Id.{Id}
use Rattle.ar_base.specs.declared.numbers.EventKind.{EventKind}
use Rattle.ar_base.specs.Numbers.{VarId}
use Rattle.gts_core.specs.View.{numbered, condition_of, assign_of}
use Rattle.ar_base.specs.declared.places.Place.{Place}
use Rattle.gts_core.specs.Copies.{IsSame}
use Rattle.gts_core.specs.declared.system.Assign.{Assign}
use Rattle.gts_core.specs.declared.bound.Act.{Act}
use Rattle.gts_core.specs.declared.bound.Act.TheOpen.{Act-F, Skip, Set, If, All}
use Rattle.gts_core.specs.declared.bound.Act.TheFolds.{fold-Act}
use Rattle.gts_core.specs.declared.bound.DeclaredEvent.{DeclaredEvent}
use Rattle.gts_core.specs.declared.bound.DeclaredWay.{DeclaredWay}
use Rattle.gts_core.specs.declared.bound.DeclaredWay.TheVariants.{Local, Sync}

-- conditions from the outermost inward, each with the truth value that it must have
abbrev pub NumberedConditions : Type 0
NumberedConditions = List (Expr ℕ × Bool)

-- the assignments of one form under these conditions, where those of the instructions in it are given
abbrev pub act_step : Act-F (NumberedConditions → List (s.Assign ℕ)) → NumberedConditions → List (s.Assign ℕ)
act_step Skip when = []
act_step (Set x e p) when = record { target = x.n; conditions = when; value = numbered e } ∷ []
act_step (If test first second) when =
    first.value (when ++ (numbered test, true) ∷ []) ++ second.value (when ++ (numbered test, false) ∷ [])
act_step (All acts) when = flat_map (λ (f : NumberedConditions → List (s.Assign ℕ)). f when) acts.items

-- the assignments of an instruction that stands under these conditions
abbrev pub assigns_under : Act → NumberedConditions → List (s.Assign ℕ)
assigns_under = fold-Act (NumberedConditions → List (s.Assign ℕ)) act_step

-- the assignments of an instruction
abbrev pub assigns_of_act : Act → List (s.Assign ℕ)
assigns_of_act act = assigns_under act []

-- the places of the assignments of one form, where those of the instructions in it are given
abbrev pub place_step : Act-F (List Place) → List Place
place_step Skip = []
place_step (Set x e at) = at ∷ []
place_step (If test first second) = first.value ++ second.value
place_step (All acts) = flat_map (λ ps. ps) acts.items

-- the places of the assignments of an instruction, in their order
abbrev pub places_of_act : Act → List Place
places_of_act = fold-Act (List Place) place_step

-- where these assignments stand
abbrev pub places_in : List Assign → List Place
places_in xs = map (λ (a : Assign). a.at) xs

-- a part of a synchronisation by its mark and the plain number of its event
abbrev pub event_part_of : Bool × Id EventKind → Bool × ℕ
event_part_of p = (p.0, p.1.n)

-- a transition or a synchronisation over plain numbers
abbrev pub member_of : DeclaredWay → Member (s.Transition ℕ) ℕ
member_of (Local guard action) = One (record { guard = numbered guard; action = assigns_of_act action })
member_of (Sync parts at) = Synchronises (map event_part_of parts.items)

-- a declared event, with its number as what stands for it
abbrev pub declared_of : ℕ → DeclaredEvent → EventDeclaration (s.Transition ℕ) ℕ
declared_of n e = record { key = n; unit = e.unit.n; hidden = e.hidden; members = map member_of e.ways.items }

-- the declared events from number n on
abbrev pub declared_from : ℕ → List DeclaredEvent → List (EventDeclaration (s.Transition ℕ) ℕ)
declared_from n [] = []
declared_from n (e ∷ es) = declared_of n e ∷ declared_from (n + 1) es

-- what stands for each condition over plain numbers, item by item
abbrev pub AreNumberedConditions : NumberedConditions → List (Expr VarId × Bool) → Type 0
AreNumberedConditions cs when = Conditions_rename (λ m n. m ≡ n) cs (map condition_of when)

-- the assignments stand, item by item, for these over plain numbers
abbrev pub AreAssigns : List (s.Assign ℕ) → List Assign → Type 0
AreAssigns xs ys = Along (Assign_renames (λ m n. m ≡ n)) xs (map assign_of ys)

-- the new assignments are the old ones and then those of the instruction under these conditions
pub record GivesAssigns (act : Act) (when : List (Expr VarId × Bool)) (old new : List Assign) : Type 0 where
  pub added : List Assign
  pub is : new ≡ old ++ added
  pub are : (cs : NumberedConditions) → AreNumberedConditions cs when → AreAssigns (assigns_under act cs) added
  pub places : places_in added ≡ places_of_act act

-- the same of instructions one after the other
pub record GiveAll (acts : List Act) (when : List (Expr VarId × Bool)) (old new : List Assign) : Type 0 where
  pub added : List Assign
  pub is : new ≡ old ++ added
  pub are : (cs : NumberedConditions) → AreNumberedConditions cs when → AreAssigns
      (flat_map (λ (a : Act). assigns_under a cs) acts) added
  pub places : places_in added ≡ flat_map places_of_act acts

-- copies of conditions, item by item
abbrev pub AreConditionCopies : List (Expr VarId × Bool) → List (Expr VarId × Bool) → Type 0
AreConditionCopies = Conditions_rename IsSame

-- borrowed conditions as what they borrow
abbrev pub conditions_in : List (Bor (Expr VarId) × Bool) → List (Expr VarId × Bool)
conditions_in when = map (λ (c : Bor (Expr VarId) × Bool). (c.0.now, c.1)) when
