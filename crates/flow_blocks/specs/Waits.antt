-- Classes that wait for classes.
use Rattle.std.specs.Prelude.{◌≡◌, ◌≢◌, ℕ, ◌+◌, ◌<◌, ◌⊎◌, Bool, true, false, IsTrue, List, [], ◌∷◌, Vec, length}
use Rattle.std.specs.Ordering.{nat_cmp}
use Rattle.std.specs.Global.{Global}
use Rattle.std.specs.BTreeSet.{BTreeSet, contains}
use Rattle.ar_base.specs.Lists.{Stands, IsOneOf}
use Rattle.flow_blocks.specs.Blocks.{IsGiven}
use Rattle.flow_blocks.specs.Bits.{row_of}
use Rattle.flow_blocks.specs.declared.giving.Waiting.{Waiting}

-- a number of the first class uses one of the second
pub record Crosses (uses : List (ℕ × ℕ)) (class_of : List ℕ) (e d : ℕ) : Type 0 where
  pub from : ℕ
  pub to : ℕ
  pub is_use : IsOneOf uses (from, to)
  pub class_from : Stands class_of from e
  pub class_to : Stands class_of to d

-- the class is among those that may be given
abbrev pub IsClassReady : BTreeSet ℕ → ℕ → Type 0
IsClassReady ready e = IsTrue (contains nat_cmp ready e)

-- the class was given
abbrev pub WasGiven : List Bool → ℕ → Type 0
WasGiven given e = Stands given e true

-- the class waits for another one that was not given
pub record WaitsForClass (watchers : List (Vec ℕ Global)) (given : List Bool) (e d : ℕ) : Type 0 where
  pub watches : IsOneOf (row_of watchers d) e
  pub not_given : WasGiven given d → ⊥

-- each class that was not given may be given, waits for one that was not given, or is still to be looked at
pub record IsWaiting (count : ℕ) (uses : List (ℕ × ℕ)) (class_of : List ℕ) (w : Waiting) (pending : List ℕ) : Type
    0 where
  pub long_targets : length w.targets.items ≡ count
  pub long_watchers : length w.watchers.items ≡ count
  pub long_given : length w.given.items ≡ count
  pub crossed : (e d : ℕ) → Crosses uses class_of e d → d < count
  pub each : (e : ℕ) → e < count → (WasGiven w.given.items e → ⊥)
      → IsClassReady w.ready e ⊎ (((d : ℕ) × WaitsForClass w.watchers.items w.given.items e d) ⊎ IsOneOf pending e)
  pub ready : (e : ℕ) → IsClassReady w.ready e
      → (e < count) × (WasGiven w.given.items e → ⊥)
      × ((d : ℕ) → Crosses uses class_of e d → (d ≡ e) ⊎ WasGiven w.given.items d)
  pub watching : (d e : ℕ) → IsOneOf (row_of w.watchers.items d) e → (e < count) × Crosses uses class_of e d × (d ≢ e)
  pub targets : (e d : ℕ) → IsOneOf (row_of w.targets.items e) d → Crosses uses class_of e d
  pub left : (e d : ℕ) → (WasGiven w.given.items e → ⊥) → Crosses uses class_of e d
      → (d ≡ e) ⊎ (WasGiven w.given.items d ⊎ IsOneOf (row_of w.targets.items e) d)
  pub closed : (e d : ℕ) → WasGiven w.given.items e → Crosses uses class_of e d → (d ≡ e) ⊎ WasGiven w.given.items d
  pub to_look_at : (e : ℕ) → IsOneOf pending e → (e < count) × (WasGiven w.given.items e → ⊥)

-- how many classes were not given
abbrev pub left_to_give : List Bool → ℕ
left_to_give [] = 0
left_to_give (true ∷ given) = left_to_give given
left_to_give (false ∷ given) = left_to_give given + 1

-- the class was taken out of those that may be given: all other classes that it uses were given
pub record IsClassTaken (uses : List (ℕ × ℕ)) (class_of : List ℕ) (w : Waiting) (class : ℕ) : Type 0 where
  pub all_given : (d : ℕ) → Crosses uses class_of class d → (d ≡ class) ⊎ WasGiven w.given.items d
  pub not_ready : IsClassReady w.ready class → ⊥

-- some uses make this a state of waiting
pub record AreWaiting (w : Waiting) (pending : List ℕ) : Type 0 where
  pub count : ℕ
  pub uses : List (ℕ × ℕ)
  pub class_of : List ℕ
  pub waits : IsWaiting count uses class_of w pending

-- a number was given where its class was
pub record AreGivenTogether (class_of : List ℕ) (given : List Bool) (lists : List (List ℕ)) : Type 0 where
  pub number : (n c : ℕ) → Stands class_of n c → WasGiven given c → IsGiven lists n
  pub class : (n c : ℕ) → Stands class_of n c → IsGiven lists n → WasGiven given c
