-- What the building of expressions answers.
use Rattle.std.specs.Prelude.{◌<◌, Bool, List, length, Result, Vec}
use Rattle.std.specs.Global.{Global}
use Rattle.ar_base.specs.Numbers.{VarId}
use Rattle.typed_expr.specs.Yields.{Level}
use Rattle.typed_expr.specs.declared.expr.Expr.{Expr}
use Rattle.eq_core.specs.Gates.{Gate}
use Rattle.eq_core.specs.declared.joints.Gate as flat
use Rattle.eq_build.specs.Entries as e
use Rattle.eq_build.specs.Builds.{Builds, Builds_each, Builds_parts, Builds_cases}
use Rattle.eq_build.specs.BuildsInside.{NeedsMore, most_gates}
use Rattle.eq_build.specs.Views.{entries_in, lists_in, signed_parts_in, cases_in, row_read, BuildsOrFails}
use Rattle.eq_build.specs.declared.entries.Entry.{Entry}
use Rattle.eq_build.specs.declared.entries.BuildFault.{BuildFault}

-- a list of entries of the code
abbrev pub EntryLists : Type 0
EntryLists = Vec Entry Global

-- the operands need more gates than a table may have
abbrev pub EachNeedsMore : (VarId → List e.Entry) → List Gate → List (Expr VarId) → Type 0
EachNeedsMore read g es = (ess : List (List e.Entry)) (h : List Gate) → Builds_each read g es ess h
    → most_gates < length h

-- the same for the parts of a sum
abbrev pub PartsNeedMore : (VarId → List e.Entry) → List Gate → List (Bool × Expr VarId) → Type 0
PartsNeedMore read g ps = (ess : List (Bool × List e.Entry)) (h : List Gate) → Builds_parts read g ps ess h
    → most_gates < length h

-- the same for the cases of a choice
abbrev pub CasesNeedMore : (VarId → List e.Entry) → List Gate → List (Expr VarId × Expr VarId) → Type 0
CasesNeedMore read g cs = (ess : List (List e.Entry × List e.Entry)) (h : List Gate) → Builds_cases read g cs ess h
    → most_gates < length h

-- the entries of an expression, or a fault
abbrev pub AnswersEntries : List EntryLists → List Gate → Level VarId → Result EntryLists BuildFault → List flat.Gate → Type 0
AnswersEntries rows g e =
    BuildsOrFails (λ (xs : EntryLists) h. Builds (row_read rows) g e (record { entries = entries_in xs.items; gates = h }))
    (NeedsMore (row_read rows) g e)

-- the entries of operands
abbrev pub AnswersEach : List EntryLists → List Gate → List (Expr VarId) → Result (Vec EntryLists Global) BuildFault
    → List flat.Gate → Type 0
AnswersEach rows g es =
    BuildsOrFails (λ (xs : Vec EntryLists Global) h. Builds_each (row_read rows) g es (lists_in xs.items) h)
    (EachNeedsMore (row_read rows) g es)

-- the entries of the parts of a sum
abbrev pub AnswersParts : List EntryLists → List Gate → List (Bool × Expr VarId)
    → Result (Vec (Bool × EntryLists) Global) BuildFault → List flat.Gate → Type 0
AnswersParts rows g ps =
    BuildsOrFails (λ (xs : Vec (Bool × EntryLists) Global) h. Builds_parts (row_read rows) g ps (signed_parts_in xs.items) h)
    (PartsNeedMore (row_read rows) g ps)

-- the entries of the cases of a choice
abbrev pub AnswersCases : List EntryLists → List Gate → List (Expr VarId × Expr VarId)
    → Result (Vec (EntryLists × EntryLists) Global) BuildFault → List flat.Gate → Type 0
AnswersCases rows g cs =
    BuildsOrFails (λ (xs : Vec (EntryLists × EntryLists) Global) h. Builds_cases (row_read rows) g cs (cases_in xs.items) h)
    (CasesNeedMore (row_read rows) g cs)
