-- Values with operands, and the gates that are made for them.
use Rattle.std.specs.Prelude.{Bool, true, false, not, if◌then◌else◌, List, [], ◌∷◌, ◌++◌, map}
use Rattle.std.specs.List.{fold}
use Rattle.domains.specs.Same.{is_same}
use Rattle.domains.specs.Values.{is_before, truth_of, whole_of}
use Rattle.domains.specs.declared.Value.{Value}
use Rattle.domains.specs.declared.Value.TheVariants.{Truth, Whole}
use Rattle.typed_expr.specs.Values.{is_related, added, multiplied, lesser, greater, counted}
use Rattle.eq_core.specs.Gates.{Operand, Always, Never, EventIs, GateIs, Gate, Made, all_of, any_of}
use Rattle.eq_build.specs.declared.steps.Step.{Step}
use Rattle.eq_build.specs.declared.steps.Step.TheVariants.{Part, Times, Lesser, Greater, Counted, Compared}

-- a value, and the operand that tells where it is taken
pub record Entry : Type 0 where
  pub value : Value
  pub operand : Operand

-- entries, and all gates so far
pub record Built : Type 0 where
  pub entries : List Entry
  pub gates : List Gate

-- the operand of a value: Never where no entry has the value
abbrev pub operand_for : List Entry → Value → Operand
operand_for [] d = Never
operand_for (e ∷ es) d = if is_same e.value d then e.operand else operand_for es d

-- a value is taken where all of these operands are true
pub record Term : Type 0 where
  pub value : Value
  pub operands : List Operand

-- the terms of one value, each with its operands
pub record Group : Type 0 where
  pub value : Value
  pub terms : List (List Operand)

-- the term goes last in the group of its value; the groups ascend by their values
abbrev pub with_term : Term → List Group → List Group
with_term t [] = record { value = t.value; terms = t.operands ∷ [] } ∷ []
with_term t (p ∷ ps) =
    if is_same p.value t.value then record { value = p.value; terms = p.terms ++ t.operands ∷ [] } ∷ ps
    else (if is_before p.value t.value then p ∷ with_term t ps
    else record { value = t.value; terms = t.operands ∷ [] } ∷ p ∷ ps)

-- the groups with these terms, one after the other
abbrev pub with_terms : List Term → List Group → List Group
with_terms ts ps = fold (λ qs t. with_term t qs) ps ts

-- operands, and all gates so far
pub record OperandRow : Type 0 where
  pub operands : List Operand
  pub gates : List Gate

-- all operands of each term, term by term
abbrev pub all_of_each : List Gate → List (List Operand) → OperandRow
all_of_each gates [] = record { operands = []; gates = gates }
all_of_each gates (os ∷ oss) =
    let m = all_of gates os in
    let r = all_of_each m.gates oss in
    record { operands = m.operand ∷ r.operands; gates = r.gates }

-- one of the terms, all of its operands
abbrev pub one_of_alls : List Gate → List (List Operand) → Made
one_of_alls gates oss = let r = all_of_each gates oss in any_of r.gates r.operands

-- the operand is true nowhere
abbrev pub is_never : Operand → Bool
is_never Always = false
is_never Never = true
is_never (EventIs e sign) = false
is_never (GateIs g sign) = false

-- an entry more, if its operand may be true: a value without an entry reads as Never all the same
abbrev pub with_entry : Value → Operand → List Entry → List Entry
with_entry d o es = if is_never o then es else record { value = d; operand = o } ∷ es

-- an entry for each group, in order: one of its terms, all of the term's operands
abbrev pub entries_of : List Gate → List Group → Built
entries_of gates [] = record { entries = []; gates = gates }
entries_of gates (p ∷ ps) =
    let m = one_of_alls gates p.terms in
    let r = entries_of m.gates ps in
    record { entries = with_entry p.value m.operand r.entries; gates = r.gates }

-- an entry for each value of the terms, ascending
abbrev pub entries_for : List Gate → List Term → Built
entries_for gates ts = entries_of gates (with_terms ts [])

-- a constant's entries
abbrev pub only : Value → List Entry
only v = record { value = v; operand = Always } ∷ []

-- what a comparison, or a step of a fold, makes of two values
abbrev pub result_of : Step → Value → Value → Value
result_of (Part plus) v w = Whole (added (whole_of v) (plus, w))
result_of Times v w = Whole (multiplied (whole_of v) w)
result_of Lesser v w = Whole (lesser (whole_of v) w)
result_of Greater v w = Whole (greater (whole_of v) w)
result_of Counted v w = Whole (counted (whole_of v) w)
result_of (Compared relation) v w = Truth (is_related relation v w)

-- a pair of entries is a term for the result of their values
abbrev pub pair_term : Step → Entry → Entry → Term
pair_term step a b = record { value = result_of step a.value b.value; operands = a.operand ∷ b.operand ∷ [] }

-- the pairs of entries, in lexicographic order
abbrev pub pairs_of : Step → List Entry → List Entry → List Term
pairs_of step [] bs = []
pairs_of step (a ∷ as_) bs = map (pair_term step a) bs ++ pairs_of step as_ bs

-- the entries of the results of pairs
abbrev pub combined : Step → List Gate → List Entry → List Entry → Built
combined step gates xs ys = entries_for gates (pairs_of step xs ys)

-- the entries of a fold: what it has come to so far is taken on by each further operand
abbrev pub folded : List Gate → List Entry → List (Step × List Entry) → Built
folded gates xs [] = record { entries = xs; gates = gates }
folded gates xs (p ∷ ps) = let r = combined p.0 gates xs p.1 in folded r.gates r.entries ps

-- each operand by the same step
abbrev pub with_step : Step → List (List Entry) → List (Step × List Entry)
with_step step ess = map (λ es. (step, es)) ess

-- the parts of a sum, each by its sign
abbrev pub with_signs : List (Bool × List Entry) → List (Step × List Entry)
with_signs ps = map (λ p. (Part p.0, p.1)) ps

-- a fold that begins with its first operand
abbrev pub led : Step → List Gate → List (List Entry) → Built
led step gates [] = record { entries = []; gates = gates }
led step gates (es ∷ ess) = folded gates es (with_step step ess)

-- the terms of a negation
abbrev pub opposite_term : Entry → Term
opposite_term e = record { value = Truth (not (truth_of e.value)); operands = e.operand ∷ [] }

abbrev pub opposite_terms : List Entry → List Term
opposite_terms es = map opposite_term es

-- each operand's operand for the value
abbrev pub each_for : Value → List (List Entry) → List Operand
each_for d ess = map (λ es. operand_for es d) ess

-- the operands, each a term of its own
abbrev pub apart : Value → List Operand → List Term
apart d os = map (λ o. record { value = d; operands = o ∷ [] }) os

-- the terms of a conjunction, where `both` is true, and of a disjunction
abbrev pub joint_terms : Bool → List (List Entry) → List Term
joint_terms both ess =
    apart (Truth (not both)) (each_for (Truth (not both)) ess)
    ++ record { value = Truth both; operands = each_for (Truth both) ess } ∷ []

-- each entry behind one more operand
abbrev pub behind : Operand → List Entry → List Term
behind o es = map (λ (e : Entry). record { value = e.value; operands = o ∷ e.operand ∷ [] }) es

-- the terms of a choice by one case: its value where the test is true, and the rest where it is false
abbrev pub case_terms : List Entry → List Entry → List Entry → List Term
case_terms test value rest =
    behind (operand_for test (Truth true)) value ++ behind (operand_for test (Truth false)) rest

-- the entries of a choice, from the last case to the first
abbrev pub chosen : List Gate → List (List Entry × List Entry) → List Entry → Built
chosen gates [] other = record { entries = other; gates = gates }
chosen gates (c ∷ cs) other =
    let r = chosen gates cs other in entries_for r.gates (case_terms c.0 c.1 r.entries)
