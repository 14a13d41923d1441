-- A main block has one list of units.
use Rattle.std.proofs.Common.{◌≡◌, true, List, ◌∷◌, ◌++◌, refl, sym, ap, subst}
use Rattle.class_table.specs.Members.{NamedMember}
use Rattle.hierarchy.specs.Models.{RootedModel}
use Rattle.hierarchy.specs.Units.{UnitPath}
use Rattle.hierarchy.specs.Listing.{ListsUnits, Insides, MakesUnit, MakesNone, no_inner, nothing, loops, unit, none, makes, passes}
use Rattle.hierarchy.proofs.Outcomes.{leads_same, unit_of_reaches}

pub makes_one : {m : RootedModel} {u v w : UnitPath} (g : NamedMember) → MakesUnit m u g v → MakesUnit m u g w → v ≡ w
makes_one g k h = unit_of_reaches (leads_same k.leads h.leads)

-- what makes a unit does not make none
pub makes_or_none : {m : RootedModel} {u v : UnitPath} {g : NamedMember} → MakesUnit m u g v → MakesNone m u g → ⊥
makes_or_none k (no_inner e) = cc k.inner
makes_or_none k (nothing n) = cc (leads_same k.leads n)
makes_or_none k (loops n) = cc (leads_same k.leads n)

joined : {us vs ws xs : List UnitPath} → us ≡ vs → ws ≡ xs → us ++ ws ≡ vs ++ xs
joined p q = cc

mutual
  pub lists_same : {m : RootedModel} {u : UnitPath} {us vs : List UnitPath} → ListsUnits m true u us → ListsUnits m true
      u vs → us ≡ vs
  lists_same {u = u} (unit d) (unit e) = ap (λ us. u ∷ us) (insides_same d e)

  pub insides_same : {m : RootedModel} {u : UnitPath} {gs : List NamedMember} {us vs : List UnitPath}
      → Insides m true u gs us → Insides m true u gs vs → us ≡ vs
  insides_same none none = refl
  insides_same {m = m} {gs = g ∷ gs} (makes {v = v} k d ds) (makes {us = us'} k' d' ds') =
      let h = subst (λ w. ListsUnits m true w us') (sym (makes_one g k k')) d' in
      joined (lists_same d h) (insides_same ds ds')
  insides_same (makes {v = v} k d ds) (passes n ds') = absurd (makes_or_none k n)
  insides_same (passes n ds) (makes {v = v} k d ds') = absurd (makes_or_none k n)
  insides_same (passes n ds) (passes n' ds') = insides_same ds ds'
