-- Kinds of types.
use Rattle.std.proofs.Common.{◌≡◌, true, false, Option, Some, None, is_some, option_map, option_and_then, refl, ◌∙◌, ap}
use Rattle.ar_base.specs.Numbers.{BodyId}
use Rattle.class_table.specs.Declaring.{NamedType}
use Rattle.class_table.specs.Members.{domain_body}
use Rattle.class_table.specs.Kinds.{IsKindOf, none, domain, class}
use Rattle.class_table.specs.declared.types.Kind.{Kind}
use Rattle.class_table.specs.declared.types.Kind.TheVariants.{Domain, Class}

-- there is a kind where there is a type
pub kind_some : (k : Option Kind) (t : Option NamedType) → IsKindOf k t → is_some k ≡ is_some t
kind_some k t none = refl
kind_some k t domain = refl
kind_some k t (class i) = refl

-- an option that holds something
pub some_false : {A : Type 0} (o : Option A) → is_some o ≡ false → o ≡ None
some_false None e = refl
some_false (Some a) e = cc

pub none_false : {A : Type 0} (o : Option A) → o ≡ None → is_some o ≡ false
none_false None e = refl
none_false (Some a) e = cc

-- a domain is one in both
pub kind_domain : (k : Option Kind) (t : Option NamedType) → IsKindOf k t → k ≡ Some Domain
    → true ≡ is_some (option_and_then domain_body t)
kind_domain k t none e = cc
kind_domain k t domain e = refl
kind_domain k t (class i) e = cc

pub kind_other : (k : Option Kind) (t : Option NamedType) (id : BodyId) → IsKindOf k t → k ≡ Some (Class id)
    → false ≡ is_some (option_and_then domain_body t)
kind_other k t id none e = refl
kind_other k t id domain e = cc
kind_other k t id (class i) e = refl

pub kind_none : (k : Option Kind) (t : Option NamedType) → IsKindOf k t → k ≡ None
    → false ≡ is_some (option_and_then domain_body t)
kind_none k t none e = refl
kind_none k t domain e = cc
kind_none k t (class i) e = refl

-- a class is one in both
pub class_some : {A : Type 0} (f : BodyId → A) (o : Option BodyId) (t : Option A) → option_map f o ≡ t
    → is_some o ≡ is_some t
class_some {A = A} f o t e = some_map o ∙ ap (λ (z : Option A). is_some z) e
  where
    some_map : (o : Option BodyId) → is_some o ≡ is_some (option_map f o)
    some_map None = refl
    some_map (Some a) = refl
