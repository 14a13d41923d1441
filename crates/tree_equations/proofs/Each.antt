-- Loops over steps that come in turn.
use Rattle.std.proofs.Common.{◌≡◌, ℕ, suc, ◌+◌, ◌≤◌, List, [], ◌∷◌, ◌++◌, map, length, drop, Vec, Global, Result, refl, sym, ap, ◌∙◌, subst, add-one}
use Rattle.std.specs.Result.{IsErrAnd}
use Rattle.std.proofs.lemmas.List.{map-append}
use Rattle.ar_base.proofs.Items.{none_left}
use Rattle.eq_core.specs.Gates.{Gate}
use Rattle.eq_core.specs.ValuesInside.{GainsGates}
use Rattle.eq_core.specs.declared.joints.Gate as flat
use Rattle.eq_build.specs.BuildsInside.{most_gates}
use Rattle.eq_build.specs.Views.{StopsBuilding}
use Rattle.eq_build.specs.declared.entries.BuildFault.{BuildFault}
use Rattle.eq_build.proofs.Stopping.{stops_up, passed_on}
use Rattle.eq_build.proofs.Threading.{SoFar, Parted, nothing_yet, one_further, operand_stops, all_built}
use Rattle.eq_build.specs.Steps.{Threads}
use Rattle.eq_build.specs.Steps as t
use Rattle.tree_equations.specs.Answers.{TooMany, Gives}
use Rattle.tree_equations.proofs.Determined.{AreOne}
use Rattle.tree_equations.proofs.Rising.{threads_more}

-- a thing that is seen as it is
abbrev pub as_is : {A : Type 0} → A → A
as_is x = x

-- the things are as they are
pub all_as_is : {A : Type 0} (xs : List A) → map as_is xs ≡ xs
all_as_is [] = refl
all_as_is (x ∷ xs) = ap (λ z. x ∷ z) (all_as_is xs)

-- A list of things is seen by `each`, and what comes out by `view`.
module _ {A B X C : Type 0} (each : X → A) (view : C → B) (R : List Gate → A → B → List Gate → Type 0)
    (one : (g h k : List Gate) (x : A) (y z : B) → R g x y h → R g x z k → AreOne y z h k)
    (more : (g h : List Gate) (x : A) (y : B) → R g x y h → GainsGates g h) where
  abbrev One : List Gate → X → B → List Gate → Type 0
  One g x y h = R g (each x) y h

  abbrev pub All : List Gate → List X → List B → List Gate → Type 0
  All g xs ys h = Threads R g (map each xs) ys h

  -- so many things have come by
  abbrev pub Sofar : List Gate → List X → ℕ → List C → List Gate → Type 0
  Sofar g xs i out h = SoFar All g xs i (map view out) h

  cons : (g h k : List Gate) (x : X) (xs : List X) (y : B) (ys : List B) → One g x y h → All h xs ys k
      → All g (x ∷ xs) (y ∷ ys) k
  cons g h k x xs y ys d ds = t.one_and d ds

  parted : (g k : List Gate) (x : X) (xs : List X) (ys : List B) → All g (x ∷ xs) ys k → Parted One All g x xs k
  parted g k x xs ys (t.one_and {h = h} {b = y} {ys = zs} d ds) =
      record { first = y; gates = h; builds = d; rest = zs; builds_rest = ds }

  same : (g h k : List Gate) (x : X) (y z : B) → One g x y h → One g x z k → h ≡ k
  same g h k x y z d e = (one g h k (each x) y z d e).1

  grows : (g k : List Gate) (xs : List X) (ys : List B) → All g xs ys k → GainsGates g k
  grows g k xs ys d = threads_more R more d

  pub each_start : (g : List Gate) (xs : List X) (out : List C) → out ≡ [] → Sofar g xs 0 out g
  each_start g xs out e = subst (λ (z : List C). Sofar g xs 0 z g) (sym e) (nothing_yet All g xs)

  pub each_next : (g h k : List Gate) (xs : List X) (i : ℕ) (x : X) (old new : List C) (v : C)
      → drop i xs ≡ x ∷ drop (suc i) xs → One h x (view v) k → new ≡ old ++ v ∷ [] → Sofar g xs i old h
      → Sofar g xs (i + 1) new k
  each_next g h k xs i x old new v at d is s =
      let next = one_further One All cons parted same grows g h k xs i x (view v) (map view old) at d s in
      let out = ap (map view) is ∙ map-append view old (v ∷ []) in
      subst (λ (n : ℕ). SoFar All g xs n (map view new) k) (sym (add-one i))
      (subst (λ (z : List B). SoFar All g xs (suc i) z k) (sym out) next)

  pub each_stops : (g h : List Gate) (xs : List X) (i : ℕ) (x : X) (old : List C)
      (r : Result (Vec C Global) BuildFault) (f : BuildFault) (gates : List flat.Gate)
      → drop i xs ≡ x ∷ drop (suc i) xs → Sofar g xs i old h → IsErrAnd r (λ z. z ≡ f)
      → StopsBuilding f (TooMany (λ (y : B) (k : List Gate). One h x y k))
      → Gives (λ (v : Vec C Global). map view v.items) (λ ys k. All g xs ys k) r gates
  each_stops g h xs i x old r f gates at s w stops =
      passed_on (λ (v : Vec C Global) (k : List Gate). All g xs (map view v.items) k)
      (TooMany (λ (ys : List B) (k : List Gate). All g xs ys k)) r f gates w
      (stops_up f
      (λ n. operand_stops One All cons parted same grows most_gates g h xs i x (map view old) at s n) stops)

  pub each_ends : (g h : List Gate) (xs : List X) (i : ℕ) (out : List C) → length xs ≤ i → Sofar g xs i out h
      → All g xs (map view out) h
  each_ends g h xs i out l s = all_built All (λ k. t.none) g h xs i (map view out) (none_left xs i l) s
