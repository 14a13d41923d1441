-- Definitions beside those of Tables, of which clauses inside the program speak: what the whole program promises does
-- not rest on them.
use Rattle.std.specs.Prelude.{◌≡◌, ℕ, List, map, Option}
use Rattle.ar_base.specs.Lists.{Stands, Along}
use Rattle.ar_base.specs.Numbers.{NameId, BodyId}
use Rattle.ar_syntax.specs.declared.items.DomainBody.{DomainBody}
use Rattle.ar_syntax.specs.declared.items.Model.{Model}
use Rattle.domains.specs.declared.Domain.{Domain}
use Rattle.class_table.specs.Declaring.{TextBody, NamedType, DomainType, ClassType, Declared, IsDeclared}
use Rattle.class_table.specs.Members.{Site, Members}
use Rattle.class_table.specs.declared.tables.TypeBody.{TypeBody}
use Rattle.class_table.specs.declared.tables.TypeBody.TheVariants as types
use Rattle.class_table.specs.declared.tables.Body.{Body}
use Rattle.class_table.specs.declared.tables.Classes.{Classes}
use Rattle.class_table.specs.Tables.{IsDomainOf, IsMain}

-- the type that is declared so
pub data IsTypeOf (symbols : List ℕ) : NamedType → TypeBody → Type 0 where
  domain : {declared : DomainBody} {v : Domain} → IsDomainOf symbols declared v
      → IsTypeOf symbols (DomainType declared) (types.Domain v)
  class : {b : ℕ} {id : BodyId} → id.n ≡ b → IsTypeOf symbols (ClassType b) (types.Class id)

-- the type with its name
pub record IsNamedType (symbols : List ℕ) (t : NameId × TypeBody) (declared : ℕ × NamedType) : Type 0 where
  pub name : t.0.n ≡ declared.0
  pub is_type : IsTypeOf symbols declared.1 t.1

-- the body with what stands in it
pub record IsBodyOf (b : Body) (declared : TextBody) : Type 0 where
  pub name : b.name ≡ declared.name
  pub at : b.at ≡ declared.at
  pub own : b.own.items ≡ declared.own

-- the table keeps what is declared
pub record HoldsDeclared (d : Declared) (c : Classes) : Type 0 where
  pub bodies : Along IsBodyOf c.bodies.items d.bodies
  pub types : Along (IsNamedType d.symbols) c.types.items d.types
  pub symbols : map (λ (x : NameId). x.n) c.symbols.items ≡ d.symbols

-- the site of a member of a body, as the table keeps it
abbrev pub site_of : BodyId × ℕ → Site
site_of m = record { body = m.0.n; place = m.1 }

-- the table of the model, with all members of each body
pub record IsTableOfModel (model : Model) (main : Option (List ℕ)) (d : Declared) (c : Classes) : Type 0 where
  pub declared : IsDeclared model d
  pub names : c.names ≡ model.names
  pub holds : HoldsDeclared d c
  pub is_main : IsMain model.names d main c.main.n
  pub members : (b : ℕ) (body : Body) → Stands c.bodies.items b body → Members d b (map site_of body.all.items)
