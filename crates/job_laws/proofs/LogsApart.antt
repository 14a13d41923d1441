-- Files of which just that is told which the loads of a run gave.
use Rattle.std.proofs.Common.{◌≡◌, ◌+◌, ℕ, Bool, true, false, List, [], ◌∷◌, Result, Ok, Err, refl, sym, subst, map, if◌then◌else◌, arith}
use Rattle.std.specs.List.{AllByRecursion, IsDistinct}
use Rattle.std.proofs.Math.ListN.{replicate}
use Rattle.std.proofs.lemmas.List.{length-replicate}
use Rattle.std.proofs.lemmas.Slice.Eq.{bytes_eq-Decides}
use Rattle.std.specs.Str.{bytes_eq}
use Rattle.ar_io.specs.Loads.{Load}
use Rattle.ar_io.specs.Outside.{Told, Bytes, Absent}
use Rattle.ar_io.specs.declared.outside.LoadFault.{LoadFault}
use Rattle.ar_io.specs.declared.outside.LoadFault.TheVariants as fault
use Rattle.altarica_run.specs.Follows.{IsKnown}
use Rattle.job_laws.specs.Runs.{IsToldOfLoad, AgreesWith, AreLoadedOnce}

abbrev told_of : ℕ → Result (List ℕ) LoadFault → Told
told_of most (Ok bytes) = Bytes bytes
told_of most (Err fault.TooLong) = Bytes (replicate (most + 1) 0)
told_of most (Err fault.Failed) = Absent
told_of most (Err fault.Memory) = Absent

-- what the first load of a name gave; of a name that was not loaded, that there is none
abbrev told_by : List Load → List ℕ → Told
told_by [] name = Absent
told_by (l ∷ loads) name = if bytes_eq l.name name then told_of l.most l.got else told_by loads name

of_known : (most : ℕ) (got : Result (List ℕ) LoadFault) → IsKnown (told_of most got)
of_known most (Ok bytes) = tt
of_known most (Err fault.TooLong) = tt
of_known most (Err fault.Failed) = tt
of_known most (Err fault.Memory) = tt

of_agrees : (most : ℕ) (got : Result (List ℕ) LoadFault) → IsToldOfLoad (told_of most got) most got
of_agrees most (Ok bytes) = refl
of_agrees most (Err fault.TooLong) =
    let n = length-replicate {A = ℕ} (most + 1) 0 in (replicate (most + 1) 0, refl, omega (arith, n))
of_agrees most (Err fault.Failed) = refl
of_agrees most (Err fault.Memory) = tt

if_known : (b : Bool) (s t : Told) → IsKnown s → IsKnown t → IsKnown (if b then s else t)
if_known true s t h k = h
if_known false s t h k = k

by_known : (loads : List Load) (name : List ℕ) → IsKnown (told_by loads name)
by_known [] name = tt
by_known (l ∷ loads) name =
    if_known (bytes_eq l.name name) (told_of l.most l.got) (told_by loads name) (of_known l.most l.got)
    (by_known loads name)

-- The loads

first_agrees : (l : Load) (loads : List Load) → IsToldOfLoad (told_by (l ∷ loads) l.name) l.most l.got
first_agrees l loads =
    subst (λ (b : Bool). IsToldOfLoad (if b then told_of l.most l.got else told_by loads l.name) l.most l.got)
    (sym ((bytes_eq-Decides l.name l.name).1 refl)) (of_agrees l.most l.got)

rest_agrees : (l : Load) (loads rest : List Load)
    → AllByRecursion (λ (name : List ℕ). bytes_eq l.name name ≡ false) (map (λ (m : Load). m.name) rest)
    → AgreesWith (told_by loads) rest → AgreesWith (told_by (l ∷ loads)) rest
rest_agrees l loads [] n a = tt
rest_agrees l loads (m ∷ rest) n a = (
  subst (λ (b : Bool). IsToldOfLoad (if b then told_of l.most l.got else told_by loads m.name) m.most m.got) (sym n.0) a.0,
  rest_agrees l loads rest n.1 a.1,
)

by_agrees : (loads : List Load) → AreLoadedOnce loads → AgreesWith (told_by loads) loads
unfolding IsDistinct
by_agrees [] a = tt
by_agrees (l ∷ loads) a = (first_agrees l loads, rest_agrees l loads loads a.0 (by_agrees loads a.1))

pub could_be_told : (loads : List Load) → AreLoadedOnce loads
    → (told : List ℕ → Told) × ((name : List ℕ) → IsKnown (told name)) × AgreesWith told loads
could_be_told loads a = (told_by loads, by_known loads, by_agrees loads a)
