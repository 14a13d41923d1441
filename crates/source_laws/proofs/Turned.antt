-- Agreement, turned round.
use Rattle.std.proofs.Common.{ℕ, zero, suc, List, Option, Some, None, Box, Global, sym}
use Rattle.ar_base.specs.Lists.{Along}
use Rattle.ar_base.specs.Lists as along
use Rattle.ar_syntax.specs.declared.expressions.RawExpr.{RawExpr}
use Rattle.ar_syntax.specs.declared.expressions.RawForm.{RawForm}
use Rattle.ar_syntax.specs.declared.instructions.Instr.{Instr}
use Rattle.ar_syntax.specs.declared.members.Member.{Member}
use Rattle.ar_syntax.specs.declared.members.Part.{Part}
use Rattle.ar_syntax.specs.declared.members.Setting.{Setting}
use Rattle.ar_syntax.specs.declared.members.Unit.{Unit as UnitTree}
use Rattle.ar_syntax.specs.declared.paths.Path.{Path}
use Rattle.parser_laws.specs.Expressions.{SamePath, SameParts, SameToDepth, SameExpr, equal, path, negation, minus, listed, compared, sum, choice, SameOption, SameSteps, SameStepsToDepth, SameInstr}
use Rattle.parser_laws.specs.Expressions.SameSteps.{equal as equal_step, assign, tie, conditional, group}
use Rattle.parser_laws.specs.Members.{SameSetting, SamePart, SameUnitBy, SameMemberBy, SameMemberToDepth, SameMember}
use Rattle.parser_laws.specs.Members.SameMemberBy.{equal as equal_member, declared, block, clones, embeds, parameter, observer, hidden, local, sync, assertion}
use Rattle.parser_laws.specs.Models.{SameDomain, symbols, range}
use Rattle.ar_syntax.specs.declared.items.DomainBody.{DomainBody}
use Rattle.class_table.specs.Declaring.{TextBody, NamedType, DomainType, ClassType, Declared}
use Rattle.class_table.specs.declared.tables.Owned.{Owned}
use Rattle.class_table.specs.declared.tables.Owned.TheVariants.{Plain, Nested}
use Rattle.hierarchy.specs.Models.{RootedModel}
use Rattle.source_laws.specs.Tables.{SameOwned, SameText, SameType, SameTable, SameRooted}

along_turned : {A B : Type 0} {R : A → B → Type 0} {S : B → A → Type 0} → ((a : A) (b : B) → R a b → S b a)
    → {xs : List A} {ys : List B} → Along R xs ys → Along S ys xs
along_turned f along.none = along.none
along_turned f (along.one_and {a = a} {b = b} r more) = along.one_and (f a b r) (along_turned f more)

pub path_turned : (p q : Path) → SamePath p q → SamePath q p
path_turned p q s = record { start = sym s.start; names = sym s.names; place = sym s.place }

-- Expressions

module _ (Same : RawExpr → RawExpr → Type 0) (turn : (e f : RawExpr) → Same e f → Same f e) where
  parts_turned : (f g : RawForm) → SameParts Same f g → SameParts Same g f
  parts_turned f g (equal e) = equal (sym e)
  parts_turned f g (path p q i j s) = path q p j i (path_turned p q s)
  parts_turned f g (negation x y i j s) = negation y x j i (turn x.value y.value s)
  parts_turned f g (minus x y i j s) = minus y x j i (turn x.value y.value s)
  parts_turned f g (listed k v w i j s) = listed k w v j i (along_turned turn s)
  parts_turned f g (compared r x y z u i j s t) =
      compared r z u x y j i (turn x.value z.value s) (turn y.value u.value t)
  parts_turned f g (sum v w i j s) = sum w v j i (along_turned (λ a b h. (sym h.0, turn a.1 b.1 h.1)) s)
  parts_turned f g (choice v w x y i j s t) =
      choice w v y x j i (along_turned (λ a b h. (turn a.0 b.0 h.0, turn a.1 b.1 h.1)) s) (turn x.value y.value t)

depth_turned : (d : ℕ) (e f : RawExpr) → SameToDepth d e f → SameToDepth d f e
depth_turned zero e f s = tt
depth_turned (suc d) e f s = (sym s.0, sym s.1, parts_turned (SameToDepth d) (depth_turned d) e.form f.form s.2)

expr_turned : (e f : RawExpr) → SameExpr e f → SameExpr f e
expr_turned e f s = λ d. depth_turned d e f (s d)

-- Instructions

module _ (Same : Instr → Instr → Type 0) (turn : (i j : Instr) → Same i j → Same j i) where
  option_turned : (a b : Option (Box Instr Global)) → SameOption (λ x y. Same x.value y.value) a b
      → SameOption (λ x y. Same x.value y.value) b a
  option_turned None None s = tt
  option_turned None (Some y) s = s
  option_turned (Some x) None s = s
  option_turned (Some x) (Some y) s = turn x.value y.value s

  step_turned : (i j : Instr) → SameSteps Same i j → SameSteps Same j i
  step_turned i j (equal_step e) = equal_step (sym e)
  step_turned i j (assign p q e f k l s t) = assign q p f e l k (path_turned p q s) (expr_turned e f t)
  step_turned i j (tie p q r u k l s t) = tie r u p q l k (path_turned p r s) (path_turned q u t)
  step_turned i j (conditional e f x y a b k l s t o) =
      conditional f e y x b a l k (expr_turned e f s) (turn x.value y.value t) (option_turned a b o)
  step_turned i j (group v w k l s) = group w v l k (along_turned turn s)

steps_turned : (d : ℕ) (i j : Instr) → SameStepsToDepth d i j → SameStepsToDepth d j i
steps_turned zero i j s = tt
steps_turned (suc d) i j s = step_turned (SameStepsToDepth d) (steps_turned d) i j s

instr_turned : (i j : Instr) → SameInstr i j → SameInstr j i
instr_turned i j s = λ d. steps_turned d i j (s d)

-- Members

setting_turned : (s t : Setting) → SameSetting s t → SameSetting t s
setting_turned s t h =
    record { target = sym h.target; place = sym h.place; value = expr_turned s.value t.value h.value }

part_turned : (p q : Part) → SamePart p q → SamePart q p
part_turned p q h = record { must = sym h.must; event = path_turned p.event q.event h.event }

module _ (Same : Member → Member → Type 0) (turn : (m n : Member) → Same m n → Same n m) where
  unit_turned : (u w : UnitTree) → SameUnitBy Same u w → SameUnitBy Same w u
  unit_turned u w s = record { name = sym s.name; place = sym s.place; members = along_turned turn s.members }

  one_turned : (m n : Member) → SameMemberBy Same m n → SameMemberBy Same n m
  one_turned m n (equal_member e) = equal_member (sym e)
  one_turned m n (declared t v w s r i j h k) =
      declared t w v r s j i (sym h) (along_turned setting_turned k)
  one_turned m n (block u w i j s) = block w u j i (unit_turned u w s)
  one_turned m n (clones p q x at i j s) = clones q p x at j i (path_turned p q s)
  one_turned m n (embeds p q x at i j s) = embeds q p x at j i (path_turned p q s)
  one_turned m n (parameter t x at e f i j s) = parameter t x at f e j i (expr_turned e f s)
  one_turned m n (observer t x at e f i j s) = observer t x at f e j i (expr_turned e f s)
  one_turned m n (hidden p q i j s) = hidden q p j i (path_turned p q s)
  one_turned m n (local x at e f a b i j s t) =
      local x at f e b a j i (expr_turned e f s) (instr_turned a b t)
  one_turned m n (sync x at v w i j s) = sync x at w v j i (along_turned part_turned s)
  one_turned m n (assertion a b i j s) = assertion b a j i (instr_turned a b s)

members_turned : (d : ℕ) (m n : Member) → SameMemberToDepth d m n → SameMemberToDepth d n m
members_turned zero m n s = tt
members_turned (suc d) m n s = one_turned (SameMemberToDepth d) (members_turned d) m n s

member_turned : (m n : Member) → SameMember m n → SameMember n m
member_turned m n s = λ d. members_turned d m n (s d)

-- Tables

owned_turned : (o p : Owned) → SameOwned o p → SameOwned p o
owned_turned (Plain m) (Plain n) s = member_turned m n s
owned_turned (Nested x p b) (Nested y q c) s = (sym s.0, sym s.1, sym s.2)
owned_turned (Plain m) (Nested y q c) s = s
owned_turned (Nested x p b) (Plain n) s = s

text_turned : (b c : TextBody) → SameText b c → SameText c b
text_turned b c s = record { name = sym s.name; place = sym s.place; own = along_turned owned_turned s.own }

domain_turned : (x y : DomainBody) → SameDomain x y → SameDomain y x
domain_turned x y (symbols v w e f i) = symbols w v f e (sym i)
domain_turned x y (range e) = range (sym e)

type_turned : (t u : NamedType) → SameType t u → SameType u t
type_turned (DomainType x) (DomainType y) s = domain_turned x y s
type_turned (ClassType a) (ClassType b) s = sym s
type_turned (DomainType x) (ClassType b) s = s
type_turned (ClassType a) (DomainType y) s = s

pub table_turned : {d e : Declared} → SameTable d e → SameTable e d
table_turned s = record {
  bodies = along_turned text_turned s.bodies;
  types = along_turned (λ t u h. (sym h.0, type_turned t.1 u.1 h.1)) s.types;
  symbols = sym s.symbols;
  blocks = sym s.blocks;
}

-- Models

pub rooted_turned : {m n : RootedModel} → SameRooted m n → SameRooted n m
rooted_turned s = record {
  declared = table_turned s.declared;
  members = sym s.members;
  main = sym s.main;
  names = sym s.names;
}
