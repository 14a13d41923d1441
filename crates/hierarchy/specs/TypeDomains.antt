-- The domains of types.
use Rattle.std.specs.Prelude.{◌≡◌, Some}
use Rattle.ar_base.specs.Numbers.{NameId}
use Rattle.ar_syntax.specs.declared.items.DomainBody.{DomainBody}
use Rattle.ar_syntax.specs.declared.members.TypeForm.{TypeForm}
use Rattle.ar_syntax.specs.declared.members.TypeForm.TheVariants as form
use Rattle.domains.specs.declared.Domain.{Domain}
use Rattle.domains.specs.declared.Domain.TheVariants as values
use Rattle.class_table.specs.Declaring.{Declared}
use Rattle.class_table.specs.Members.{domain_named}
use Rattle.class_table.specs.Tables.{IsDomainOf}

-- the values of a type: of Boolean, or of the domain of this name
pub data HasDomain (d : Declared) : TypeForm → Domain → Type 0 where
  boolean : HasDomain d form.Boolean values.Boolean
  named : {x : NameId} {declared : DomainBody} {v : Domain} → domain_named d x.n ≡ Some declared
      → IsDomainOf d.symbols declared v
      → HasDomain d (form.Named x) v
