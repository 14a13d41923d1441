-- Lists of ways in which a joint names the ways of its parts by number.
use Rattle.std.specs.Prelude.{ℕ, suc, max, Bool, List, [], ◌∷◌}
use Rattle.ar_base.specs.Lists.{Stands}
use Rattle.ar_meaning.specs.Systems.{Tree, Leaf, Joint, Branches, Empty, Branch}

-- a way by its number alone: a transition, or the numbers of the ways of its parts, each with its mark, which is true
-- for !
pub data Body (L : Type 0) : Type 0 where
  Acts : L → Body L
  Joins : (parts : List (Bool × ℕ)) → Body L

mutual
  -- the number stands for the way
  pub data Means_way {L : Type 0} (bodies : List (Body L)) : ℕ → Tree L → Type 0 where
    leaf : {n : ℕ} {l : L} → Stands bodies n (Acts l) → Means_way bodies n (Leaf l)
    joint : {n : ℕ} {parts : List (Bool × ℕ)} {bs : Branches L} → Stands bodies n (Joins parts)
        → Mean_parts bodies parts bs → Means_way bodies n (Joint bs)

  -- the numbers stand for the ways of the parts, in order
  pub data Mean_parts {L : Type 0} (bodies : List (Body L)) : List (Bool × ℕ) → Branches L → Type 0 where
    no_part : Mean_parts bodies [] Empty
    part : {must : Bool} {n : ℕ} {ns : List (Bool × ℕ)} {t : Tree L} {bs : Branches L} → Means_way bodies n t
        → Mean_parts bodies ns bs → Mean_parts bodies ((must, n) ∷ ns) (Branch must t bs)

abbrev mutual
  -- how many joints stand above one another in a way
  pub height : {L : Type 0} → Tree L → ℕ
  height (Leaf l) = 0
  height (Joint bs) = suc (branches_height bs)

  -- the most that stand above one another in the ways of these parts
  pub branches_height : {L : Type 0} → Branches L → ℕ
  branches_height Empty = 0
  branches_height (Branch must t bs) = max (height t) (branches_height bs)
