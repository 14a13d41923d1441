-- Definitions beside those of Numbered, of which clauses inside the program speak: what the whole program promises does
-- not rest on them.
use Rattle.ar_meaning.specs.Systems.{Tree, Leaf, Joint, Branches, Empty, Branch}
use Rattle.ar_meaning.specs.Numbered.{Body, Acts, Joins}

abbrev mutual
  -- the way with other transitions in its leaves
  pub changed : {L M : Type 0} → (L → M) → Tree L → Tree M
  changed f (Leaf l) = Leaf (f l)
  changed f (Joint bs) = Joint (branches_changed f bs)

  -- the same of the ways of parts
  pub branches_changed : {L M : Type 0} → (L → M) → Branches L → Branches M
  branches_changed f Empty = Empty
  branches_changed f (Branch must t bs) = Branch must (changed f t) (branches_changed f bs)

-- the body with another transition
abbrev pub body_changed : {L M : Type 0} → (L → M) → Body L → Body M
body_changed f (Acts l) = Acts (f l)
body_changed f (Joins ps) = Joins ps
