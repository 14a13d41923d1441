-- No unit of a main block is deeper than there are units.
use Rattle.std.proofs.Common.{◌<◌, ◌+◌, true, List, inl, inr, length, length-append, ap, arith}
use Rattle.ar_base.specs.Lists.{IsOneOf}
use Rattle.ar_base.proofs.Standing.{one_cases, one_none, one_split}
use Rattle.class_table.specs.Members.{NamedMember}
use Rattle.hierarchy.specs.Models.{RootedModel}
use Rattle.hierarchy.specs.Units.{UnitPath}
use Rattle.hierarchy.specs.Listing.{ListsUnits, Insides, unit, none, makes, passes, AreUnits}
use Rattle.hierarchy.proofs.Places.{made_named}

mutual
  lists_deep : {m : RootedModel} {u : UnitPath} {us : List UnitPath} → ListsUnits m true u us → (w : UnitPath)
      → IsOneOf us w → length w < length u + length us
  lists_deep {u = u} (unit {us = us} d) w j = elim (one_cases u us w j) [
    | inl e ↦ let k = ap length e in omega (arith, k)
    | inr i ↦ let k = insides_deep d w i in omega (arith, k)
  ]

  insides_deep : {m : RootedModel} {u : UnitPath} {gs : List NamedMember} {us : List UnitPath}
      → Insides m true u gs us → (w : UnitPath) → IsOneOf us w → length w < length u + 1 + length us
  insides_deep none w j = absurd (one_none w j)
  insides_deep {m = m} {u = u} (makes {v = v} {g = g} {us = us} {vs = vs} k d ds) w j =
      let l = length-append us vs in
      elim (one_split us vs w j) [
        | inl i ↦ let h = lists_deep d w i in
            let n = ap length (made_named m u v g k).is in omega (arith, l, h, n)
        | inr i ↦ let h = insides_deep ds w i in omega (arith, l, h)
      ]
  insides_deep (passes n ds) w j = insides_deep ds w j

pub fewer_levels : {m : RootedModel} {units : List UnitPath} → AreUnits m units → (u : UnitPath) → IsOneOf units u
    → length u < length units
fewer_levels a u j = let h = lists_deep a u j in omega (arith, h)
