-- What a check says of lists of labels: which are true, which hold another one, and which cuts are missing.
use Rattle.std.specs.Prelude.{◌<◌, ℕ, List, map, reverse}
use Rattle.ar_base.specs.Lists.{Stands, IsOneOf}
use Rattle.ar_base.specs.Sets.{Within}
use Rattle.domains.specs.declared.Value.{Value}
use Rattle.typed_expr.specs.Yields.{Yields}
use Rattle.typed_expr.specs.declared.expr.Expr.{Expr, out-Expr}
use Rattle.ar_meaning.specs.Systems.{System}
use Rattle.ar_meaning.specs.Facts.{HasValue}
use Rattle.ar_meaning.specs.Runs.{Label}
use Rattle.ar_firing.specs.Cuts.{Reaches, AreEvents, Cut}

-- the events of these labels
abbrev pub events_of : List Label → List ℕ
events_of ls = map (λ (l : Label). l.event) ls

-- the labels are an order of their events, each once: the run that fires them in this order, all of visible events that
-- are not dropped, has no fault, and ends with the wanted value of the observer
pub record IsTrueLine {V : Type 0} (sys : System V) (dropped : List ℕ) (observer : Expr V) (wanted : Value)
    (ls : List Label) : Type 0 where
  pub once : AreEvents ls (events_of ls)
  pub values : List Value
  pub reaches : Reaches sys dropped (reverse ls) values
  pub shows : Yields (HasValue sys.net values) (out-Expr V observer) wanted

-- the events of line k are all among those of line n, and line k stands earlier where the events are the same
pub record ContainsLine (lines : List (List Label)) (n k : ℕ) : Type 0 where
  pub line : List Label
  pub is_line : Stands lines n line
  pub held : List Label
  pub is_held : Stands lines k held
  pub within : Within (events_of held) (events_of line)
  pub earlier : Within (events_of line) (events_of held) → k < n

-- line n holds line k: the least such line
pub record HoldsLine (lines : List (List Label)) (n k : ℕ) : Type 0 where
  pub may : ContainsLine lines n k
  pub least : (j : ℕ) → j < k → ContainsLine lines n j → ⊥

-- what is said of a line: it is true and holds no line, it is not true, or it is true and holds this line
pub data Said : Type 0 where
  IsGood : Said
  Fails : Said
  Holds : (line : ℕ) → Said

-- what is said of line n
pub data IsSaid {V : Type 0} (sys : System V) (dropped : List ℕ) (observer : Expr V) (wanted : Value)
    (lines : List (List Label)) (n : ℕ) : Said → Type 0 where
  fails : {ls : List Label} → Stands lines n ls → (IsTrueLine sys dropped observer wanted ls → ⊥)
      → IsSaid sys dropped observer wanted lines n Fails
  holds : {ls : List Label} {k : ℕ} → Stands lines n ls → IsTrueLine sys dropped observer wanted ls
      → HoldsLine lines n k
      → IsSaid sys dropped observer wanted lines n (Holds k)
  good : {ls : List Label} → Stands lines n ls → IsTrueLine sys dropped observer wanted ls
      → ((k : ℕ) → ContainsLine lines n k → ⊥)
      → IsSaid sys dropped observer wanted lines n IsGood

-- the set has the events of one of the lines, and no others
pub record IsListed (lines : List (List Label)) (set : List ℕ) : Type 0 where
  pub line : List Label
  pub is_line : IsOneOf lines line
  pub within : Within (events_of line) set
  pub whole : Within set (events_of line)

-- a cut that is missing: the events of no line
pub record IsMissing {V : Type 0} (sys : System V) (dropped : List ℕ) (observer : Expr V) (wanted : Value)
    (lines : List (List Label)) (set : List ℕ) : Type 0 where
  pub is_cut : Cut sys dropped observer wanted set
  pub unlisted : IsListed lines set → ⊥
