-- What holds of a domain holds of its copy.
use Rattle.std.proofs.Common.{◌≡◌, ℤ, map, refl, sym, ap, subst}
use Rattle.domains.specs.Domains.{IsDomain, Holds, values_of}
use Rattle.domains.specs.declared.Domain.{Domain}
use Rattle.domains.specs.declared.Domain.TheVariants.{Range}
use Rattle.domains.specs.declared.Value.{Value}
use Rattle.domains.specs.declared.Value.TheVariants as value
use Rattle.domains.specs.SameInside.{IsSameDomain, boolean, symbols, range}
use Rattle.gts_core.specs.Sound.{kind_of_domain}

pub ranges : (d : Domain) (low high least most : ℤ) → d ≡ Range low high → least ≡ low → most ≡ high
    → IsSameDomain d (Range least most)
ranges d low high least most e i j = subst (λ (x : Domain). IsSameDomain x (Range least most)) (sym e) (range i j)

pub domain_there : {c d : Domain} → IsSameDomain c d → IsDomain c → IsDomain d
domain_there boolean h = h
domain_there (symbols e) h = rw e h
domain_there (range e f) h = rw e (rw f h)

pub value_there : {c d : Domain} → IsSameDomain c d → (v : Value) → Holds c v → Holds d v
value_there boolean v h = h
value_there (symbols e) (value.Truth t) h = h
value_there (symbols e) (value.Whole n) h = h
value_there (symbols e) (value.Symbol n) h = rw e h
value_there (range e f) (value.Truth t) h = h
value_there (range e f) (value.Whole n) h = rw e (rw f h)
value_there (range e f) (value.Symbol n) h = h

pub value_back : {c d : Domain} → IsSameDomain c d → (v : Value) → Holds d v → Holds c v
value_back boolean v h = h
value_back (symbols e) (value.Truth t) h = h
value_back (symbols e) (value.Whole n) h = h
value_back (symbols e) (value.Symbol n) h = rw e at h
value_back (range e f) (value.Truth t) h = h
value_back (range e f) (value.Whole n) h = rw e at (rw f at h)
value_back (range e f) (value.Symbol n) h = h

pub same_values : {c d : Domain} → IsSameDomain c d → values_of c ≡ values_of d
same_values boolean = refl
same_values (symbols e) = ap (map value.Symbol) (sym e)
same_values (range e f) = rw e (rw f refl)

pub domain_kind : {c d : Domain} → IsSameDomain c d → kind_of_domain c ≡ kind_of_domain d
domain_kind boolean = refl
domain_kind (symbols e) = refl
domain_kind (range e f) = refl
