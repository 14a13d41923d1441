-- Expressions and instructions that agree, kind by kind, so that a proof may take two of them apart together.
use Rattle.std.specs.Prelude.{◌≡◌, ℤ, Bool, Option, Some, None, Box, Vec}
use Rattle.std.specs.Global.{Global}
use Rattle.std.proofs.Common.{subst}
use Rattle.ar_base.specs.Lists.{Along}
use Rattle.ar_syntax.specs.declared.expressions.RawExpr.{RawExpr}
use Rattle.ar_syntax.specs.declared.expressions.RawForm.{out-RawForm}
use Rattle.ar_syntax.specs.declared.expressions.RawForm.TheOpen as raw
use Rattle.ar_syntax.specs.declared.expressions.RawRelation.{RawRelation}
use Rattle.ar_syntax.specs.declared.instructions.Instr.{Instr, out-Instr}
use Rattle.ar_syntax.specs.declared.instructions.Instr.TheOpen as instr
use Rattle.ar_syntax.specs.declared.paths.Path.{Path}
use Rattle.parser_laws.specs.Expressions.{SamePath, SameExpr, SameInstr, SameOption}
use Rattle.parser_laws.specs.Opened.{SameForm, SameStep}
use Rattle.written_forms.specs.Operands.{RawLevel, level_of}
use Rattle.written_forms.specs.Parts.{InstrForm}

-- Expressions

-- terms with one sign that agree
abbrev pub SameTerm : Bool × RawExpr → Bool × RawExpr → Type 0
SameTerm s t = (s.0 ≡ t.0) × SameExpr s.1 t.1

-- cases whose tests and values agree
abbrev pub SameCase : RawExpr × RawExpr → RawExpr × RawExpr → Type 0
SameCase c d = SameExpr c.0 d.0 × SameExpr c.1 d.1

-- expressions of one kind whose parts agree
pub data SameLevels : RawLevel → RawLevel → Type 0 where
  truth : {b : Bool} → SameLevels (raw.Truth b) (raw.Truth b)
  whole : {n : ℤ} → SameLevels (raw.Whole n) (raw.Whole n)
  real : SameLevels raw.Real raw.Real
  path : {p q : Path} → SamePath p q → SameLevels (raw.Path p) (raw.Path q)
  opposite : {a b : Box RawExpr Global} → SameExpr a.value b.value → SameLevels (raw.Not a) (raw.Not b)
  negative : {a b : Box RawExpr Global} → SameExpr a.value b.value → SameLevels (raw.Minus a) (raw.Minus b)
  all : {v w : Vec RawExpr Global} → Along SameExpr v.items w.items → SameLevels (raw.All v) (raw.All w)
  any : {v w : Vec RawExpr Global} → Along SameExpr v.items w.items → SameLevels (raw.Any v) (raw.Any w)
  compared : {r : RawRelation} {a b c d : Box RawExpr Global} → SameExpr a.value c.value → SameExpr b.value d.value
      → SameLevels (raw.Compare r a b) (raw.Compare r c d)
  sum : {v w : Vec (Bool × RawExpr) Global} → Along SameTerm v.items w.items → SameLevels (raw.Sum v) (raw.Sum w)
  product : {v w : Vec RawExpr Global} → Along SameExpr v.items w.items → SameLevels (raw.Product v) (raw.Product w)
  least : {v w : Vec RawExpr Global} → Along SameExpr v.items w.items → SameLevels (raw.Least v) (raw.Least w)
  greatest : {v w : Vec RawExpr Global} → Along SameExpr v.items w.items
      → SameLevels (raw.Greatest v) (raw.Greatest w)
  count : {v w : Vec RawExpr Global} → Along SameExpr v.items w.items → SameLevels (raw.Count v) (raw.Count w)
  choice : {v w : Vec (RawExpr × RawExpr) Global} {a b : Box RawExpr Global} → Along SameCase v.items w.items
      → SameExpr a.value b.value → SameLevels (raw.Choose v a) (raw.Choose w b)

viewed : (l k : RawLevel) → SameForm l k → SameLevels l k
viewed (raw.Truth b) (raw.Truth c) s = subst (λ z. SameLevels (raw.Truth b) (raw.Truth z)) s truth
viewed (raw.Whole n) (raw.Whole m) s = subst (λ z. SameLevels (raw.Whole n) (raw.Whole z)) s whole
viewed raw.Real raw.Real s = real
viewed (raw.Path p) (raw.Path q) s = path s
viewed (raw.Not a) (raw.Not b) s = opposite s
viewed (raw.Minus a) (raw.Minus b) s = negative s
viewed (raw.All v) (raw.All w) s = all s
viewed (raw.Any v) (raw.Any w) s = any s
viewed (raw.Compare r a b) (raw.Compare q c d) s =
    subst (λ z. SameLevels (raw.Compare r a b) (raw.Compare z c d)) s.0 (compared s.1 s.2)
viewed (raw.Sum v) (raw.Sum w) s = sum s
viewed (raw.Product v) (raw.Product w) s = product s
viewed (raw.Least v) (raw.Least w) s = least s
viewed (raw.Greatest v) (raw.Greatest w) s = greatest s
viewed (raw.Count v) (raw.Count w) s = count s
viewed (raw.Choose v a) (raw.Choose w b) s = choice s.0 s.1
viewed _ _ s = absurd s

-- Instructions

-- both second branches agree, or neither is there
pub data SameElse : Option (Box Instr Global) → Option (Box Instr Global) → Type 0 where
  no_branch : SameElse None None
  branch : {a b : Box Instr Global} → SameInstr a.value b.value → SameElse (Some a) (Some b)

-- instructions of one kind whose parts agree
pub data SameActs : InstrForm → InstrForm → Type 0 where
  skip : SameActs instr.Skip instr.Skip
  assign : {p q : Path} {e f : RawExpr} → SamePath p q → SameExpr e f
      → SameActs (instr.Assign p e) (instr.Assign q f)
  tie : {p q r s : Path} → SamePath p r → SamePath q s → SameActs (instr.Tie p q) (instr.Tie r s)
  conditional : {e f : RawExpr} {a b : Box Instr Global} {o p : Option (Box Instr Global)} → SameExpr e f
      → SameInstr a.value b.value → SameElse o p → SameActs (instr.If e a o) (instr.If f b p)
  group : {v w : Vec Instr Global} → Along SameInstr v.items w.items → SameActs (instr.All v) (instr.All w)

else_viewed : (o p : Option (Box Instr Global)) → SameOption (λ a b. SameInstr a.value b.value) o p → SameElse o p
else_viewed None None s = no_branch
else_viewed None (Some b) s = absurd s
else_viewed (Some a) None s = absurd s
else_viewed (Some a) (Some b) s = branch s

acts_viewed : (f g : InstrForm) → SameStep f g → SameActs f g
acts_viewed instr.Skip instr.Skip s = skip
acts_viewed (instr.Assign p e) (instr.Assign q f) s = assign s.0 s.1
acts_viewed (instr.Tie p q) (instr.Tie r u) s = tie s.0 s.1
acts_viewed (instr.If e a o) (instr.If f b p) s = conditional s.0 s.1 (else_viewed o p s.2)
acts_viewed (instr.All v) (instr.All w) s = group s
acts_viewed _ _ s = absurd s

-- Trees

-- expressions that agree are of one kind, and their parts agree
pub level_there : ((e f : RawExpr) → SameExpr e f → SameForm (out-RawForm e.form) (out-RawForm f.form))
    → (e f : RawExpr) → SameExpr e f → SameLevels (level_of e) (level_of f)
level_there opens e f s = viewed (level_of e) (level_of f) (opens e f s)

-- so are instructions
pub acts_there : ((i j : Instr) → SameInstr i j → SameStep (out-Instr i) (out-Instr j)) → (i j : Instr)
    → SameInstr i j → SameActs (out-Instr i) (out-Instr j)
acts_there opens i j s = acts_viewed (out-Instr i) (out-Instr j) (opens i j s)
