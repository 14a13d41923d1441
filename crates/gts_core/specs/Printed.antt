-- The text of a flat system.
use Rattle.std.specs.Prelude.{ℕ, ◌+◌, Bool, true, false, List, [], ◌∷◌, ◌++◌, length, map, nat_eq, codes, decimal, Option, Some, None, slice_get, if◌then◌else◌}
use Rattle.std.specs.Fmt.{signed_decimal}
use Rattle.std.specs.List.{concat}
use Rattle.ar_base.specs.Texts.{text_at, separated}
use Rattle.domains.specs.declared.Domain.{Domain}
use Rattle.domains.specs.declared.Domain.TheVariants as domain
use Rattle.typed_expr.specs.declared.expr.Relation.{Relation}
use Rattle.typed_expr.specs.declared.expr.Relation.TheVariants.{Equal, Differs, Less, AtMost, More, AtLeast}
use Rattle.typed_expr.specs.declared.expr.Expr.{Expr}
use Rattle.typed_expr.specs.declared.expr.Expr.TheOpen.{Expr-F, Constant, Variable, Not, All, Any, Compare, Sum, Product, Least, Greatest, Count, Choose}
use Rattle.typed_expr.specs.declared.expr.Expr.TheFolds.{fold-Expr}
use Rattle.ar_base.specs.Numbers.{VarId, WayId}
use Rattle.ar_meaning.specs.ValueTexts.{value_text}
use Rattle.gts_core.specs.declared.system.Variable.{Variable as FlatVariable}
use Rattle.gts_core.specs.declared.system.Event.{Event}
use Rattle.gts_core.specs.declared.system.Way.{Way}
use Rattle.gts_core.specs.declared.system.WayBody.{WayBody}
use Rattle.gts_core.specs.declared.system.WayBody.TheVariants.{Local, Sync}
use Rattle.gts_core.specs.declared.system.Assign.{Assign}
use Rattle.gts_core.specs.declared.system.Observer.{Observer}
use Rattle.gts_core.specs.declared.system.GtsParts.{GtsParts}

-- the path of a variable that was looked up
abbrev pub path_of_found : Option FlatVariable → List ℕ
path_of_found (Some x) = x.path
path_of_found None = []

-- the path of the variable of this number
abbrev pub path_at : GtsParts → ℕ → List ℕ
path_at p n = path_of_found (slice_get p.variables.items n)

-- what stands before a part of a sum
abbrev pub sign : Bool → Bool → List ℕ
sign true true = []
sign true false = codes "- "
sign false true = codes " + "
sign false false = codes " - "

-- the parts of a sum, each with what stands before it
abbrev pub summed : Bool → List (Bool × List ℕ) → List ℕ
summed first [] = []
summed first (p ∷ ps) = sign first p.0 ++ p.1 ++ summed false ps

-- a case of a choice: of the only one, and of one of many
abbrev pub case_form : Bool → List ℕ × List ℕ → List ℕ
case_form true c = codes "(if " ++ c.0 ++ codes " then " ++ c.1 ++ codes " else "
case_form false c = codes "case " ++ c.0 ++ codes ": " ++ c.1 ++ codes " "

-- the cases of a choice and what stands round them: of the only one, or of another number of them
abbrev pub cases_form : Bool → List (List ℕ × List ℕ) → List ℕ
cases_form one cs = (if one then [] else codes "switch {") ++ concat
    (map (case_form one) cs) ++ (if one then [] else codes "default: ")

-- a choice, as one with one case or as one with another number of them
abbrev pub choice_form : Bool → List (List ℕ × List ℕ) → List ℕ → List ℕ
choice_form one cs other = cases_form one cs ++ other ++ (if one then codes ")" else codes "}")

-- a choice: with one case, or with another number of them
abbrev pub choice_text : List (List ℕ × List ℕ) → List ℕ → List ℕ
choice_text cs other = choice_form (nat_eq (length cs) 1) cs other

-- a relation between the sides of a comparison
abbrev pub relation_text : Relation → List ℕ
relation_text Equal = codes " == "
relation_text Differs = codes " != "
relation_text Less = codes " < "
relation_text AtMost = codes " <= "
relation_text More = codes " > "
relation_text AtLeast = codes " >= "

-- one form, with the texts of its operands in their places
abbrev pub text_step : GtsParts → Expr-F VarId (List ℕ) → List ℕ
text_step p (Constant v) = value_text p.symbols.items v
text_step p (Variable x) = path_at p x.n
text_step p (Not a) = codes "(not " ++ a.value ++ codes ")"
text_step p (All es) = codes "(" ++ separated true (codes " and ") es.items ++ codes ")"
text_step p (Any es) = codes "(" ++ separated true (codes " or ") es.items ++ codes ")"
text_step p (Compare r a b) = codes "(" ++ a.value ++ relation_text r ++ b.value ++ codes ")"
text_step p (Sum parts) = codes "(" ++ summed true parts.items ++ codes ")"
text_step p (Product es) = codes "(" ++ separated true (codes " * ") es.items ++ codes ")"
text_step p (Least es) = codes "min(" ++ separated true (codes ", ") es.items ++ codes ")"
text_step p (Greatest es) = codes "max(" ++ separated true (codes ", ") es.items ++ codes ")"
text_step p (Count es) = codes "count(" ++ separated true (codes ", ") es.items ++ codes ")"
text_step p (Choose cases other) = choice_text cases.items other.value

-- an expression
abbrev pub expr_text : GtsParts → Expr VarId → List ℕ
expr_text p = fold-Expr VarId (List ℕ) (text_step p)

-- a domain
abbrev pub domain_text : GtsParts → Domain → List ℕ
domain_text p domain.Boolean = codes "Boolean"
domain_text p (domain.Symbols symbols) =
    codes "{" ++ separated true (codes ", ") (map (text_at p.symbols.items) symbols.items) ++ codes "}"
domain_text p (domain.Range low high) =
    codes "[" ++ signed_decimal low ++ codes ", " ++ signed_decimal high ++ codes "]"

-- a line for a variable
abbrev pub flat_variable_line : GtsParts → FlatVariable → List ℕ
flat_variable_line p x =
    (if x.is_state then codes "state " else codes "flow ") ++ x.path ++ codes " " ++ domain_text p x.domain ++ codes
    " = " ++ value_text p.symbols.items x.value ++ codes "\n"

-- a condition of an assignment
abbrev pub condition_text : GtsParts → Expr VarId × Bool → List ℕ
condition_text p c = (if c.1 then codes " when " else codes " unless ") ++ expr_text p c.0

-- an assignment with its conditions
abbrev pub set_text : GtsParts → Assign → List ℕ
set_text p a = path_at p a.target.n ++ codes " := " ++ expr_text p a.value ++ concat
    (map (condition_text p) a.when.items)

-- the assignments of an action
abbrev pub action_text : GtsParts → List Assign → List ℕ
action_text p [] = codes "skip"
action_text p (a ∷ more) = separated true (codes ", ") (map (set_text p) (a ∷ more))

-- the path of an event that was looked up
abbrev pub event_path : Option Event → List ℕ
event_path (Some e) = e.path
event_path None = []

-- the label of a way: its event's path and its number
abbrev pub label_of : GtsParts → Way → List ℕ
label_of p w = event_path (slice_get p.events.items w.event.n) ++ codes "#" ++ decimal w.number

-- the label of a way that was looked up
abbrev pub label_found : GtsParts → Option Way → List ℕ
label_found p (Some w) = label_of p w
label_found p None = []

-- a part of a synchronised way
abbrev pub part_text : GtsParts → Bool × WayId → List ℕ
part_text p part = (if part.0 then codes "!" else codes "?") ++ label_found p (slice_get p.ways.items part.1.n)

-- what a way does
abbrev pub body_text : GtsParts → WayBody → List ℕ
body_text p (Local guard action) = expr_text p guard ++ codes " -> " ++ action_text p action.items
body_text p (Sync parts) = separated true (codes " & ") (map (part_text p) parts.items)

-- a line for a way
abbrev pub way_line : GtsParts → Bool → Way → List ℕ
way_line p hidden w = (if hidden then codes "hidden " else []) ++ codes "way " ++ label_of p w ++ codes
    ": " ++ body_text p w.body ++ codes "\n"

-- the same for a way that was looked up
abbrev pub line_found : GtsParts → Bool → Option Way → List ℕ
line_found p hidden (Some w) = way_line p hidden w
line_found p hidden None = []

-- the lines for the ways of an event
abbrev pub event_lines : GtsParts → Event → List ℕ
event_lines p e = concat (map (λ (w : WayId). line_found p e.hidden (slice_get p.ways.items w.n)) e.ways.items)

-- a line for an assignment of an assertion, which are numbered from 1
abbrev pub assert_line : GtsParts → ℕ → Assign → List ℕ
assert_line p n a = codes "assert " ++ decimal n ++ codes " at " ++ decimal a.at.line ++ codes ":" ++ decimal
    a.at.column ++ codes " " ++ set_text p a ++ codes "\n"

-- the lines for the assignments that come after so many others
abbrev pub assert_lines : GtsParts → ℕ → List Assign → List ℕ
assert_lines p n [] = []
assert_lines p n (a ∷ more) = assert_line p (n + 1) a ++ assert_lines p (n + 1) more

-- a line for an observer
abbrev pub flat_observer_line : GtsParts → Observer → List ℕ
flat_observer_line p o = codes "observer " ++ o.path ++ codes " = " ++ expr_text p o.value ++ codes "\n"

-- variables come first, then ways by event and number, then assignments, then observers
abbrev pub flat_text : GtsParts → List ℕ
flat_text p = concat (map (flat_variable_line p) p.variables.items) ++ concat
    (map (event_lines p) p.events.items) ++ assert_lines p 0 p.assigns.items ++ concat
    (map (flat_observer_line p) p.observers.items)
