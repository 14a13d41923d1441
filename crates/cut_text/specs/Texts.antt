-- The text of a listing of cuts, and of a conflict.
use Rattle.std.specs.Prelude.{◌≡◌, ◌-◌, ◌^◌, ℕ, true, min, List, [], ◌∷◌, ◌++◌, map, reverse, codes, decimal, length, Option, Some, None}
use Rattle.ar_base.specs.Lists.{Along}
use Rattle.ar_base.specs.Texts.{line, separated}
use Rattle.domains.specs.declared.Value.{Value}
use Rattle.typed_expr.specs.declared.expr.Expr.{Expr}
use Rattle.ar_meaning.specs.Systems.{System}
use Rattle.ar_meaning.specs.Flows.{FlowFault}
use Rattle.ar_meaning.specs.Runs.{Label}
use Rattle.ar_meaning.specs.TraceText.{Naming, label_text, flow_fault_text}
use Rattle.ar_firing.specs.Cuts.{Conflicts, Cut, ConflictSet}
use Rattle.ar_firing.specs.Forest.{IsLine}
use Rattle.ar_firing.specs.Listed.{AreListed}
use Rattle.firable_families.specs.Firable.{AndUpTo}

-- `{a, b}`
abbrev pub braced : List (List ℕ) → List ℕ
braced labels = codes "{" ++ (separated true (codes ", ") labels ++ codes "}")

-- these labels in braces
abbrev pub labels_text : {V : Type 0} → Naming → System V → List Label → List ℕ
labels_text names sys ls = braced (map (label_text names sys) ls)

-- the labels of each list on a line of its own
abbrev pub label_lists : {V : Type 0} → Naming → System V → List (List Label) → List ℕ
label_lists names sys [] = []
label_lists names sys (ls ∷ more) = line (labels_text names sys ls) ++ label_lists names sys more

-- the end of a line about cuts: ` up to order K` where those of at most K events are asked for
abbrev pub order_end : Option ℕ → List ℕ
order_end None = line []
order_end (Some k) = line (codes " up to order " ++ decimal k)

-- `count N`, where N is at most 2^128 - 1, and up to which order
abbrev pub count_line : Option ℕ → ℕ → List ℕ
count_line order n = codes "count " ++ (decimal (min n (2 ^ 128 - 1)) ++ order_end order)

-- `fault: {a, b}: F`
abbrev pub fault_line : List ℕ → List ℕ → List ℕ
fault_line set fault = line (codes "fault: " ++ (set ++ (codes ": " ++ fault)))

-- the text of the listing of the cuts of the observer's value, of those that have at most as many events as are asked for: for
-- each cut, in the order of the listing, a line with its labels in firing order, and last how many cuts there are
pub record IsCutText {V : Type 0} (order : Option ℕ) (names : Naming) (sys : System V) (dropped : List ℕ)
    (observer : Expr V) (wanted : Value) (text : List ℕ) : Type 0 where
  pub sets : List (List ℕ)
  pub are_listed : AreListed (AndUpTo order (Cut sys dropped observer wanted)) sets
  pub lines : List (List Label)
  pub are_lines : Along (IsLine sys dropped) sets lines
  pub is_text : text ≡ label_lists names sys lines ++ count_line order (length sets)

-- the text of the conflict of the first conflict set of at most as many events as are asked for: its labels in firing order, and
-- the fault that they meet when they are fired in this order, or, for the empty set, that of the start
pub record IsConflictText {V : Type 0} (order : Option ℕ) (names : Naming) (sys : System V) (dropped : List ℕ)
    (text : List ℕ) : Type 0 where
  pub set : List ℕ
  pub later : List (List ℕ)
  pub are_listed : AreListed (AndUpTo order (ConflictSet sys dropped)) (set ∷ later)
  pub labels : List Label
  pub is_line : IsLine sys dropped set labels
  pub fault : FlowFault
  pub conflicts : Conflicts sys dropped (reverse labels) fault
  pub is_text : text ≡ fault_line (labels_text names sys labels) (flow_fault_text names fault)
