-- A worked case of inherited members.
use Rattle.std.proofs.Common.{◌≡◌, ℕ, List, [], ◌∷◌, ◌++◌, Some, None, sym, subst}
use Rattle.ar_base.specs.Lists.{Stands}
use Rattle.class_table.specs.Declaring.{Declared, TextBody}
use Rattle.class_table.specs.Members.{Members, members, Inherits, nothing, from, passes, extended, class_named, sites_from}
use Rattle.class_table.specs.declared.tables.Owned.{Owned}

-- the members of a block that begins by extending a class of one member and has one more
pub first_inherited : (d : Declared) (a b x : ℕ) (class block : TextBody) (inherited clause own : Owned)
    → Stands d.bodies a class → Stands d.bodies b block
    → class.own ≡ inherited ∷ [] → block.own ≡ clause ∷ own ∷ [] → extended inherited ≡ None → extended own ≡ None
    → extended clause ≡ Some x → class_named d x ≡ Some a
    → Members d b (record { body = a; place = 0 } ∷ record { body = b; place = 0 } ∷ record
    { body = b; place = 1 } ∷ [])
first_inherited d a b x class block inherited clause own sa sb ca cb first second extends named =
    let from_class = subst (λ (os : List Owned). Inherits d os []) (sym ca) (passes first nothing) in
    let of_class = subst (λ (os : List Owned). Members d a ([] ++ sites_from a 0 os)) ca
    (members class sa from_class) in
    let from_block = subst (λ (os : List Owned). Inherits d os (record { body = a; place = 0 } ∷ [])) (sym cb)
    (from x a extends named of_class (passes second nothing)) in
    subst (λ (os : List Owned). Members d b ((record { body = a; place = 0 } ∷ []) ++ sites_from b 0 os)) cb
    (members block sb from_block)
