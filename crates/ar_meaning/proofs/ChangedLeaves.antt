-- A plan whose leaves are changed means the changed ways.
use Rattle.std.proofs.Common.{◌≡◌, ℕ, Bool, List, map, refl, sym, ap}
use Rattle.ar_base.specs.Lists.{Along}
use Rattle.ar_base.specs.Lists as l
use Rattle.ar_base.proofs.Standing.{stands_map}
use Rattle.ar_meaning.specs.Systems.{Tree, Leaf, Joint, Branches}
use Rattle.ar_meaning.specs.Image.{Trees_along, leaves, joints, Branches_along, no_branch, branch}
use Rattle.ar_meaning.specs.Numbered.{Body, Means_way, leaf, joint, Mean_parts, part}
use Rattle.ar_meaning.specs.NumberedInside.{changed, branches_changed, body_changed}
use Rattle.ar_meaning.specs.Numbered as t

module _ {L M : Type 0} (f : L → M) (bodies : List (Body L)) where
  mutual
    pub means_changed : {n : ℕ} {w : Tree L} → Means_way bodies n w
        → Means_way (map (body_changed f) bodies) n (changed f w)
    means_changed {n = n} (leaf s) = leaf (stands_map (body_changed f) bodies n _ s)
    means_changed {n = n} (joint s m) = joint (stands_map (body_changed f) bodies n _ s) (parts_changed m)

    pub parts_changed : {ns : List (Bool × ℕ)} {bs : Branches L} → Mean_parts bodies ns bs
        → Mean_parts (map (body_changed f) bodies) ns (branches_changed f bs)
    parts_changed t.no_part = t.no_part
    parts_changed (part w ps) = part (means_changed w) (parts_changed ps)

-- trees whose leaves are mapped are the changed ones
module _ {L M : Type 0} (f : L → M) where
  mutual
    is_mapped : {t : Tree L} {u : Tree M} → Trees_along (λ l m. f l ≡ m) t u → u ≡ changed f t
    is_mapped (leaves q) = ap Leaf (sym q)
    is_mapped (joints q) = ap Joint (branches_mapped q)

    branches_mapped : {bs : Branches L} {cs : Branches M} → Branches_along (λ l m. f l ≡ m) bs cs
        → cs ≡ branches_changed f bs
    branches_mapped no_branch = refl
    branches_mapped (branch q qs) = let i = is_mapped q in let j = branches_mapped qs in cc

  pub are_mapped : {ts : List (Tree L)} {us : List (Tree M)} → Along (Trees_along (λ l m. f l ≡ m)) ts us
      → us ≡ map (changed f) ts
  are_mapped l.none = refl
  are_mapped (l.one_and q qs) = let i = is_mapped q in let j = are_mapped qs in cc
