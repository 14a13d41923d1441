-- Which numbers depend on which, their classes, and the order in which the classes are given.
use Rattle.std.specs.Prelude.{ℕ, ◌<◌, ◌≤◌, ◌⊎◌, List, [], ◌∷◌, ◌++◌}
use Rattle.ar_base.specs.Sets.{Ascends}
use Rattle.ar_base.specs.Lists.{Stands, IsOneOf}

-- the first number depends on the second, directly or through others
pub data Depends (uses : List (ℕ × ℕ)) : ℕ → ℕ → Type 0 where
  directly : {a b : ℕ} → IsOneOf uses (a, b) → Depends uses a b
  through : {a b c : ℕ} → IsOneOf uses (a, b) → Depends uses b c → Depends uses a c

-- the numbers are one, or each depends on the other
pub data Together (uses : List (ℕ × ℕ)) (a : ℕ) : ℕ → Type 0 where
  same : Together uses a a
  each_other : {b : ℕ} → Depends uses a b → Depends uses b a → Together uses a b

-- a class of the numbers below count: one of them and all that are together with it, ascending
pub record IsClass (count : ℕ) (uses : List (ℕ × ℕ)) (members : List ℕ) : Type 0 where
  pub one : ℕ
  pub is_member : IsOneOf members one
  pub below : (n : ℕ) → IsOneOf members n → n < count
  pub only : (n : ℕ) → IsOneOf members n → Together uses one n
  pub all : (n : ℕ) → n < count → Together uses one n → IsOneOf members n
  pub ascending : Ascends members

-- the number is in one of the classes given so far
pub record IsGiven (given : List (List ℕ)) (n : ℕ) : Type 0 where
  pub members : List ℕ
  pub is_one : IsOneOf given members
  pub is_member : IsOneOf members n

-- the number's class may be given: each number outside it on which a member of it depends was given
abbrev pub MayBeGiven : List (ℕ × ℕ) → List (List ℕ) → ℕ → Type 0
MayBeGiven uses given a = (b n : ℕ) → Together uses a b → Depends uses b n → Together uses a n ⊎ IsGiven given n

-- the class comes next: it was not given, it may be given, and no class with a lesser member is such
pub record IsNext (count : ℕ) (uses : List (ℕ × ℕ)) (given : List (List ℕ)) (members : List ℕ) : Type 0 where
  pub is_class : IsClass count uses members
  pub is_new : (n : ℕ) → IsOneOf members n → IsGiven given n → ⊥
  pub may : (n : ℕ) → IsOneOf members n → MayBeGiven uses given n
  pub least : (m n : ℕ) → Stands members 0 m → n < count → (IsGiven given n → ⊥) → MayBeGiven uses given n → m ≤ n

-- the classes that come after those given so far, until each number below count was given
pub data Follow (count : ℕ) (uses : List (ℕ × ℕ)) : List (List ℕ) → List (List ℕ) → Type 0 where
  all_given : {given : List (List ℕ)} → ((n : ℕ) → n < count → IsGiven given n) → Follow count uses given []
  next : {given rest : List (List ℕ)} {members : List ℕ} → IsNext count uses given members
      → Follow count uses (given ++ members ∷ []) rest → Follow count uses given (members ∷ rest)
