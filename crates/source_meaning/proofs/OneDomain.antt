-- A type has one list of values, where no two symbols have one name.
use Rattle.std.proofs.Common.{◌≡◌, ℕ, List, [], ◌∷◌, Option, Some, map, refl, ap, subst}
use Rattle.ar_base.specs.Lists.{Stands, Along, AreDifferent}
use Rattle.ar_base.specs.Lists as along
use Rattle.ar_base.specs.Numbers.{NameId}
use Rattle.ar_base.specs.declared.places.Place.{Place}
use Rattle.ar_syntax.specs.declared.items.DomainBody.{DomainBody}
use Rattle.ar_syntax.specs.declared.members.TypeForm.{TypeForm}
use Rattle.domains.specs.Domains.{values_of}
use Rattle.domains.specs.declared.Domain.{Domain}
use Rattle.domains.specs.declared.Value.TheVariants.{Symbol}
use Rattle.class_table.specs.Declaring.{Declared}
use Rattle.class_table.specs.Tables.{IsDomainOf, symbols, range}
use Rattle.hierarchy.specs.TypeDomains.{HasDomain, boolean, named}

one_body : {o : Option DomainBody} {a b : DomainBody} → o ≡ Some a → o ≡ Some b → a ≡ b
one_body p q = cc

numbers_same : {symbols : List ℕ} → AreDifferent symbols → (names : List (NameId × Place)) {ks js : List ℕ}
    → Along (λ (n : NameId × Place) (k : ℕ). Stands symbols k n.0.n) names ks
    → Along (λ (n : NameId × Place) (k : ℕ). Stands symbols k n.0.n) names js → ks ≡ js
numbers_same d [] along.none along.none = refl
numbers_same d (n ∷ names) (along.one_and {b = k} p ps) (along.one_and {b = j} q qs) =
    let heads : k ≡ j = d.one k j n.0.n p q in
    let tails = numbers_same d names ps qs in
    cc

body_same : {symbols : List ℕ} → AreDifferent symbols → (b : DomainBody) (v w : Domain) → IsDomainOf symbols b v
    → IsDomainOf symbols b w → values_of v ≡ values_of w
body_same d b v w (symbols {names = names} p) (symbols q) = ap (map Symbol) (numbers_same d names.items p q)
body_same d b v w range range = refl

pub values_same : {d : Declared} {t : TypeForm} {v w : Domain} → AreDifferent d.symbols → HasDomain d t v
    → HasDomain d t w → values_of v ≡ values_of w
values_same s boolean boolean = refl
values_same {d = d} {v = v} {w = w} s (named {declared = b} e p) (named f q) =
    body_same s b v w p (subst (λ z. IsDomainOf d.symbols z w) (one_body f e) q)
