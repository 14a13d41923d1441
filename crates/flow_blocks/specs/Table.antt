-- The classes in the order of their least members, and the class of each number.
use Rattle.std.specs.Prelude.{◌≡◌, ℕ, ◌<◌, ◌≤◌, List, map, length, Vec, ◌⊎◌}
use Rattle.ar_base.specs.Sets.{Ascends}
use Rattle.ar_base.specs.Lists.{Stands, IsOneOf}
use Rattle.std.specs.Global.{Global}
use Rattle.flow_blocks.specs.Blocks.{IsClass}
use Rattle.flow_blocks.specs.Bits.{HasBit}
use Rattle.flow_blocks.specs.declared.dependences.Block.{Block}

-- the members of each block
abbrev pub members_of : List Block → List (List ℕ)
members_of blocks = map (λ b. b.members.items) blocks

-- the classes of the numbers below count, least members ascending, and the number of each one's class
pub record IsClassTable (count : ℕ) (uses : List (ℕ × ℕ)) (classes : List (List ℕ)) (class_of : List ℕ) : Type 0 where
  pub long : length class_of ≡ count
  pub few : length classes ≤ count
  pub are_classes : (c : ℕ) (members : List ℕ) → Stands classes c members → IsClass count uses members
  pub class_of_member : (c n : ℕ) (members : List ℕ) → Stands classes c members → IsOneOf members n
      → Stands class_of n c
  pub member_of_class : (n c : ℕ) → Stands class_of n c
      → (members : List ℕ) × Stands classes c members × IsOneOf members n
  pub ascend : (c d : ℕ) (m k : ℕ) (ms ks : List ℕ) → c < d → Stands classes c ms → Stands classes d ks → Stands ms 0 m
      → Stands ks 0 k → m < k

-- the least number, and those of the candidates above it that have both bits
pub record IsSelection (rows : List (Vec ℕ Global)) (least : ℕ) (candidates members : List ℕ) : Type 0 where
  pub first : Stands members 0 least
  pub only : (n : ℕ) → IsOneOf members n
      → (n ≡ least) ⊎ (IsOneOf candidates n × (least < n) × HasBit rows least n × HasBit rows n least)
  pub all : (n : ℕ) → IsOneOf candidates n → least < n → HasBit rows least n → HasBit rows n least → IsOneOf members n
  pub ascending : Ascends members

-- the classes found where the numbers below `end` were looked at, and the number of each one's class, or `none`
pub record IsPartTable (count none : ℕ) (uses : List (ℕ × ℕ)) (end : ℕ) (classes : List (List ℕ))
    (class_of : List ℕ) : Type 0 where
  pub long : length class_of ≡ count
  pub few : length classes ≤ end
  pub are_classes : (c : ℕ) (members : List ℕ) → Stands classes c members → IsClass count uses members
  pub class_of_member : (c n : ℕ) (members : List ℕ) → Stands classes c members → IsOneOf members n
      → Stands class_of n c
  pub member_of_class : (n c : ℕ) → Stands class_of n c
      → (c ≡ none) ⊎ ((members : List ℕ) × Stands classes c members × IsOneOf members n)
  pub looked_at : (n : ℕ) → n < end → Stands class_of n none → ⊥
  pub ascend : (c d : ℕ) (m k : ℕ) (ms ks : List ℕ) → c < d → Stands classes c ms → Stands classes d ks → Stands ms 0 m
      → Stands ks 0 k → m < k
  pub below : (c m : ℕ) (ms : List ℕ) → Stands classes c ms → Stands ms 0 m → m < end
