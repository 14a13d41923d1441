-- The text of a check of a list of cuts.
use Rattle.std.specs.Prelude.{◌≡◌, ℕ, Bool, true, false, if◌then◌else◌, ◌&&◌, List, [], ◌∷◌, ◌++◌, map, codes, decimal, length, Option, Some, None, nat_lt, slice_get}
use Rattle.ar_base.specs.Lists.{Stands, Along}
use Rattle.ar_base.specs.Texts.{line}
use Rattle.domains.specs.declared.Value.{Value}
use Rattle.typed_expr.specs.declared.expr.Expr.{Expr}
use Rattle.ar_meaning.specs.Systems.{System}
use Rattle.ar_meaning.specs.Runs.{Label}
use Rattle.ar_meaning.specs.TraceText.{Naming}
use Rattle.ar_firing.specs.Forest.{IsLine}
use Rattle.ar_firing.specs.Listed.{AreListed}
use Rattle.firable_families.specs.Firable.{AndUpTo}
use Rattle.job_inputs.specs.CutLists.{CutLine}
use Rattle.cut_text.specs.Texts.{labels_text, order_end}
use Rattle.cut_check.specs.Verdicts.{Said, IsGood, Fails, Holds, IsSaid, IsMissing}

-- the labels of each cut line
abbrev pub lines_in : List CutLine → List (List Label)
lines_in cuts = map (λ (c : CutLine). c.labels) cuts

-- a line of so many labels is above the order: it has more than are asked for
abbrev pub is_above : Option ℕ → ℕ → Bool
is_above None n = false
is_above (Some k) n = nat_lt k n

-- the same line, unless it is left out
abbrev pub kept_line : Bool → CutLine → List CutLine → List CutLine
kept_line true c cuts = cuts
kept_line false c cuts = c ∷ cuts

-- the lines that are checked: those that are not above the order
abbrev pub within_order : Option ℕ → List CutLine → List CutLine
within_order order [] = []
within_order order (c ∷ cs) = kept_line (is_above order (length c.labels)) c (within_order order cs)

-- what is left for the lines behind one that is above the order, or is not
abbrev pub later : {A : Type 0} → Bool → List A → List A
later true xs = xs
later false [] = []
later false (x ∷ xs) = xs

-- the number of a cut line that was looked up
abbrev pub number_found : Option CutLine → ℕ
number_found (Some c) = c.number
number_found None = 0

-- `good`, `fails` or `holds line K`, by the cut lines that are checked
abbrev pub said_text : List CutLine → Said → List ℕ
said_text cuts IsGood = codes "good"
said_text cuts Fails = codes "fails"
said_text cuts (Holds k) = codes "holds line " ++ decimal (number_found (slice_get cuts k))

-- `line N` and what is said of it
abbrev pub said_line : List CutLine → CutLine → Said → List ℕ
said_line cuts c said = line (codes "line " ++ (decimal c.number ++ (codes " " ++ said_text cuts said)))

-- `line N above`
abbrev pub above_line : ℕ → List ℕ
above_line n = line (codes "line " ++ (decimal n ++ codes " above"))

-- the line of a cut line that is above the order, or of what is said first
abbrev pub cut_line : Bool → List CutLine → CutLine → List Said → List ℕ
cut_line true cuts c all = above_line c.number
cut_line false cuts c [] = []
cut_line false cuts c (said ∷ all) = said_line cuts c said

-- the lines of these cut lines: of each that is above the order that it is, of the others what is said of them one after the other
abbrev pub said_lines : Option ℕ → List CutLine → List CutLine → List Said → List ℕ
said_lines order cuts [] all = []
said_lines order cuts (c ∷ cs) all = cut_line (is_above order (length c.labels)) cuts c all
    ++ said_lines order cuts cs (later (is_above order (length c.labels)) all)

-- the labels of each missing cut on a line of its own
abbrev pub missing_lines : {V : Type 0} → Naming → System V → List (List Label) → List ℕ
missing_lines names sys [] = []
missing_lines names sys (ls ∷ more) =
    line (codes "missing " ++ labels_text names sys ls) ++ missing_lines names sys more

-- whether the line is good
abbrev pub is_good : Said → Bool
is_good IsGood = true
is_good Fails = false
is_good (Holds k) = false

-- whether each of these is good
abbrev pub all_good : List Said → Bool
all_good [] = true
all_good (said ∷ all) = is_good said && all_good all

-- whether there is none of these
abbrev pub is_none : {A : Type 0} → List A → Bool
is_none [] = true
is_none (a ∷ more) = false

-- `yes` or `no`, and up to which order
abbrev pub last_line : Option ℕ → Bool → List ℕ
last_line order right = (if right then codes "yes" else codes "no") ++ order_end order

-- what is said of each line, in order
pub record AreSaid {V : Type 0} (sys : System V) (dropped : List ℕ) (observer : Expr V) (wanted : Value)
    (lines : List (List Label)) (all : List Said) : Type 0 where
  pub long : length all ≡ length lines
  pub each : (n : ℕ) (said : Said) → Stands all n said → IsSaid sys dropped observer wanted lines n said

-- the text of the check of these cut lines, where the cuts of at most as many events are meant as are asked for: of each line that
-- is above the order that it is, and of each other line what is said of it; then, in the order of a listing, each missing cut with
-- its labels in firing order; and last `yes` where each line that is not above is good and no cut is missing, else `no`
pub record IsCheckText {V : Type 0} (order : Option ℕ) (names : Naming) (sys : System V) (dropped : List ℕ)
    (observer : Expr V) (wanted : Value) (cuts : List CutLine) (text : List ℕ) : Type 0 where
  pub said : List Said
  pub are_said : AreSaid sys dropped observer wanted (lines_in (within_order order cuts)) said
  pub missing : List (List ℕ)
  pub are_missing : AreListed (AndUpTo order (IsMissing sys dropped observer wanted (lines_in (within_order order cuts))))
      missing
  pub lines : List (List Label)
  pub are_lines : Along (IsLine sys dropped) missing lines
  pub is_text : text ≡ said_lines order (within_order order cuts) cuts
      said ++ (missing_lines names sys lines ++ last_line order (all_good said && is_none missing))
