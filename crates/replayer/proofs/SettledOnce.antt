-- A run stands at one valuation at its end, if at any, and at none where it ends in a fault.
use Rattle.std.proofs.Common.{◌≡◌, ℕ, List, [], ◌∷◌, ◌++◌, sym, ◌∙◌, ap, refl}
use Rattle.domains.specs.declared.Value.{Value}
use Rattle.ar_meaning.specs.Runs.{Command, Moment, Starts, Start_fails, Fires, Fire_fails, Goes_back, No_step, Shows, Lists, Ends}
use Rattle.ar_meaning.specs.Systems.{System}
use Rattle.ar_meaning.specs.TraceText.{Naming}
use Rattle.ar_meaning.proofs.OneRun.{runs_same}
use Rattle.replayer.specs.Replays.{end_of}
use Rattle.replayer.specs.Settles.{Settles, IsFaultLine, last_standing}
use Rattle.replayer.specs.declared.ends.End.{End}
use Rattle.replayer.specs.declared.ends.End.TheVariants.{Done, Fault}

-- moments that end in a fault are those of a run that does
faults_last : (before : List Moment) (fault : Moment) → end_of (fault ∷ []) ≡ Fault
    → end_of (before ++ fault ∷ []) ≡ Fault
faults_last [] fault e = e
faults_last (Starts t ∷ ms) fault e = faults_last ms fault e
faults_last (Start_fails f ∷ ms) fault e = refl
faults_last (Fires l old new ∷ ms) fault e = faults_last ms fault e
faults_last (Fire_fails l f ∷ ms) fault e = refl
faults_last (Goes_back old new ∷ ms) fault e = faults_last ms fault e
faults_last (No_step ∷ ms) fault e = refl
faults_last (Shows t ∷ ms) fault e = faults_last ms fault e
faults_last (Lists ls ∷ ms) fault e = faults_last ms fault e
faults_last (Ends n ∷ ms) fault e = faults_last ms fault e

module _ {V : Type 0} (sys : System V) (commands : List Command) where
  pub settled_one : (t u : List Value) → Settles sys commands t → Settles sys commands u → t ≡ u
  settled_one t u a b =
      let e : ◌≡◌ {A = List Moment} (Starts a.first ∷ a.moments) (Starts b.first ∷ b.moments) =
      runs_same sys a.runs b.runs in
      sym a.last ∙ ap (last_standing []) e ∙ b.last

  pub not_settled : (t : List Value) (names : Naming) (text : List ℕ) → Settles sys commands t
      → IsFaultLine names sys commands text → ⊥
  not_settled t names text a b =
      let e : ◌≡◌ {A = List Moment} (Starts a.first ∷ a.moments) (b.before ++ b.fault ∷ []) =
      runs_same sys a.runs b.runs in
      let z : ◌≡◌ {A = End} Done Fault = sym a.no_fault ∙ ap end_of e ∙ faults_last b.before b.fault b.is_fault in
      cc
