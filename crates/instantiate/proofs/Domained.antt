-- Domains of types.
use Rattle.std.proofs.Common.{◌≡◌, ℕ, true, false, is_some, List, Option, Some, None, option_and_then, refl, sym, ap, ◌∙◌, subst, Vec, Global}
use Rattle.ar_base.specs.Lists.{Stands, Along}
use Rattle.ar_base.specs.Numbers.{NameId, BodyId}
use Rattle.ar_base.specs.declared.places.Place.{Place}
use Rattle.ar_syntax.specs.declared.items.DomainBody.{DomainBody}
use Rattle.ar_syntax.specs.declared.members.TypeForm.{TypeForm}
use Rattle.class_table.specs.Declaring.{NamedType, Declared}
use Rattle.class_table.specs.Members.{domain_body}
use Rattle.class_table.specs.Tables.{IsDomainOf, symbols as of_symbols, range as of_range}
use Rattle.class_table.specs.TablesInside.IsTypeOf.{domain as domain_type, class as class_type}
use Rattle.class_table.specs.declared.tables.TypeBody.{TypeBody}
use Rattle.class_table.specs.declared.tables.TypeBody.TheVariants as types
use Rattle.domains.specs.SameInside.{IsSameDomain, boolean as same_boolean, symbols as same_list, range as same_range}
use Rattle.domains.specs.declared.Domain.{Domain}
use Rattle.domains.specs.declared.Domain.TheVariants as values
use Rattle.hierarchy.specs.TypeDomains.{HasDomain}
use Rattle.unit_rules.specs.Typing.{bounds_variables}
use Rattle.unit_rules.specs.TypingInside.{IsFound, none, some}
use Rattle.instantiate.specs.Values.{HasDomainIf, has, every_whole, no_domain}

-- a domain of symbols with the same symbols
same_symbols : (symbols : List ℕ) (declared : DomainBody) (v : Domain) (ns ks : Vec ℕ Global)
    → v ≡ values.Symbols ns → ks.items ≡ ns.items → IsDomainOf symbols declared v
    → IsDomainOf symbols declared (values.Symbols ks)
same_symbols symbols declared v ns ks e i (of_symbols {names = names} {numbers = numbers} a) =
    let same : numbers ≡ ns = cc in
    of_symbols (subst (Along (λ (n : NameId × Place) (k : ℕ). Stands symbols k n.0.n) names.items)
    (ap (λ (w : Vec ℕ Global). w.items) same ∙ sym i) a)
same_symbols symbols declared v ns ks e i of_range = cc

-- a copy of a domain is declared as the domain is
pub same_domain : (symbols : List ℕ) (declared : DomainBody) {v w : Domain} → IsSameDomain v w
    → IsDomainOf symbols declared v → IsDomainOf symbols declared w
same_domain numbers declared same_boolean h = h
same_domain numbers declared (same_list {xs = xs} {ys = ys} e) h =
    same_symbols numbers declared (values.Symbols xs) xs ys refl e h
same_domain numbers declared (same_range e f) h = rw e (rw f h)

-- the domain that is found is declared
pub found_declared : (symbols : List ℕ) (t : Option NamedType) (b : TypeBody) (v : Domain) → b ≡ types.Domain v
    → IsFound symbols t (Some b)
    → (declared : DomainBody) × (option_and_then domain_body t ≡ Some declared) × IsDomainOf symbols declared v
found_declared symbols t b v e (some (domain_type {declared = declared} {v = w} k)) = let same : w ≡ v = cc in (declared, refl, subst (IsDomainOf symbols declared) same k)
found_declared symbols t b v e (some (class_type i)) = cc

-- what is found and is no domain declares none
pub found_class : (symbols : List ℕ) (t : Option NamedType) (b : TypeBody) (id : BodyId) → b ≡ types.Class id
    → IsFound symbols t (Some b) → option_and_then domain_body t ≡ None
found_class symbols t b id e (some (domain_type k)) = cc
found_class symbols t b id e (some (class_type i)) = refl

pub found_none : (symbols : List ℕ) (t : Option NamedType) → IsFound symbols t None
    → option_and_then domain_body t ≡ None
found_none symbols t none = refl

-- the domain that a type has, and a type that bounds variables has one
pub domain_is : {d : Declared} {f : TypeForm} (o : Option Domain) (v : Domain) → HasDomainIf d f o → o ≡ Some v
    → HasDomain d f v
domain_is {d = d} {f = f} o v (has {v = w} h) e = let z : w ≡ v = cc in subst (HasDomain d f) z h
domain_is o v every_whole e = cc
domain_is o v (no_domain n) e = cc

pub domain_there : {d : Declared} {f : TypeForm} (o : Option Domain) → HasDomainIf d f o → o ≡ None
    → bounds_variables d f ≡ true → ⊥
domain_there o (has h) e b = cc
domain_there o every_whole e b = cc
domain_there o (no_domain n) e b = let z : false ≡ true = sym (ap is_some n) ∙ b in cc
