-- What two tests of sets of events say of a static system's firable sets.
use Rattle.std.specs.Prelude.{◌≡◌, ℕ, Bool, true, false, List}
use Rattle.domains.specs.declared.Value.{Value}
use Rattle.typed_expr.specs.Yields.{Yields}
use Rattle.typed_expr.specs.declared.expr.Expr.{Expr, out-Expr}
use Rattle.ar_meaning.specs.Systems.{Net, System}
use Rattle.ar_meaning.specs.Facts.{HasValue}
use Rattle.ar_meaning.specs.Flows.{Flows, FlowFault, Fails, Total}
use Rattle.ar_meaning.specs.Found.{IsAnswer}
use Rattle.ar_firing.specs.Cuts.{IsFirable}

-- the state has flows, and top says whether the observer then has the wanted value
pub record ShowsObserver {V : Type 0} (net : Net V) (state : List Value) (observer : Expr V) (wanted : Value)
    (top : Bool) : Type 0 where
  pub values : List Value
  pub flows : Flows net state (Total values)
  pub shows : IsAnswer top (Yields (HasValue net values) (out-Expr V observer) wanted)

-- the state has flows
pub record HasFlows {V : Type 0} (net : Net V) (state : List Value) : Type 0 where
  pub values : List Value
  pub flows : Flows net state (Total values)

-- the flows of the state are a fault
pub record HasFault {V : Type 0} (net : Net V) (state : List Value) : Type 0 where
  pub fault : FlowFault
  pub flows : Flows net state (Fails fault)

-- at each firable set the conflict test is true exactly where the flows of its state are a fault, and where it is false
-- the top test is true exactly where the observer has the wanted value
pub record Agrees {V : Type 0} (sys : System V) (dropped : List ℕ) (observer : Expr V) (wanted : Value)
    (conflict top : List ℕ → Bool) : Type 0 where
  pub fault : (set : List ℕ) (t : List Value) → IsFirable sys dropped set t → conflict set ≡ true → HasFault sys.net t
  pub total : (set : List ℕ) (t : List Value) → IsFirable sys dropped set t → conflict set ≡ false
      → ShowsObserver sys.net t observer wanted (top set)

-- the set is firable, and the test is true of it
pub record IsFirableWith {V : Type 0} (sys : System V) (dropped : List ℕ) (test : List ℕ → Bool)
    (set : List ℕ) : Type 0 where
  pub values : List Value
  pub is_firable : IsFirable sys dropped set values
  pub holds : test set ≡ true
