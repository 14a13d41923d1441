-- A model agrees with itself.
use Rattle.std.specs.Prelude.{ℕ, zero, suc, List, [], ◌∷◌}
use Rattle.std.proofs.Common.{refl}
use Rattle.ar_base.specs.Lists.{Along}
use Rattle.ar_base.specs.Lists as along
use Rattle.ar_syntax.specs.declared.members.Member.{Member}
use Rattle.parser_laws.specs.Members.{SameMemberToDepth}
use Rattle.parser_laws.specs.Members.SameMemberBy.{equal}
use Rattle.parser_laws.specs.Models.{range}
use Rattle.class_table.specs.Declaring.{TextBody, NamedType, DomainType, ClassType, Declared}
use Rattle.class_table.specs.declared.tables.Owned.{Owned}
use Rattle.class_table.specs.declared.tables.Owned.TheVariants.{Plain, Nested}
use Rattle.hierarchy.specs.Models.{RootedModel}
use Rattle.source_laws.specs.Tables.{SameOwned, SameType, SameTable, SameRooted}

along_itself : {A : Type 0} {R : A → A → Type 0} → ((a : A) → R a a) → (xs : List A) → Along R xs xs
along_itself one [] = along.none
along_itself one (x ∷ xs) = along.one_and (one x) (along_itself one xs)

member_itself : (d : ℕ) (m : Member) → SameMemberToDepth d m m
member_itself zero m = tt
member_itself (suc d) m = equal refl

owned_itself : (o : Owned) → SameOwned o o
owned_itself (Plain m) = λ d. member_itself d m
owned_itself (Nested x p b) = (refl, refl, refl)

type_itself : (t : NamedType) → SameType t t
type_itself (DomainType x) = range refl
type_itself (ClassType a) = refl

table_itself : (d : Declared) → SameTable d d
table_itself d = record {
  bodies = along_itself (λ (b : TextBody). record
      { name = refl; place = refl; own = along_itself owned_itself b.own }) d.bodies;
  types = along_itself (λ (t : ℕ × NamedType). (refl, type_itself t.1)) d.types;
  symbols = refl;
  blocks = refl;
}

pub rooted_itself : (m : RootedModel) → SameRooted m m
rooted_itself m = record { declared = table_itself m.declared; members = refl; main = refl; names = refl }
