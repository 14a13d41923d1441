-- Names of members, of which those that a body inherits from one class are not tested again.
use Rattle.std.specs.Prelude.{◌≡◌, ◌<◌, ◌&&◌, ◌==◌, ◌⊎◌, ◌↔◌, ⊤, ℕ, nat_eq, Bool, true, List, length, map, take, drop, Option, Some, None}
use Rattle.std.specs.HashMap as hash
use Rattle.std.specs.HashSet as bag
use Rattle.ar_base.specs.Lists.{Stands, IsOneOf}
use Rattle.ar_base.specs.Numbers.{BodyId}
use Rattle.ar_base.specs.declared.places.Place.{Place}
use Rattle.class_table.specs.Declaring.{Declared}
use Rattle.class_table.specs.Members.{Site, Members, names_of, named_at, owned_at}
use Rattle.class_table.specs.TablesInside.{site_of}
use Rattle.class_table.specs.Earliest.{IsEarliest}
use Rattle.class_table.specs.Repeating.{IsNamed, IsRepeated}
use Rattle.class_table.specs.Shown.{member_place}
use Rattle.class_table.specs.declared.given.Given.{Given}
use Rattle.class_table.specs.declared.given.Giver.{Giver}
use Rattle.class_table.specs.declared.given.Giver.TheVariants.{Only, Several}
use Rattle.class_table.specs.declared.tables.Body.{Body}

-- the names with their places that the member at a site gives
abbrev pub names_of_site : Declared → Site → List (ℕ × Place)
names_of_site d s = map member_place (names_of d s (owned_at d s))

-- the names with their places that the members at these sites give
abbrev pub member_names_at : Declared → List Site → List (ℕ × Place)
member_names_at d sites = map member_place (named_at d sites)

-- the place is that of one of the later names that an earlier one has
pub record IsNameTaken (earlier later : List (ℕ × Place)) (p : Place) : Type 0 where
  pub k : ℕ
  pub one : ℕ × Place
  pub stands : Stands later k one
  pub named : IsNamed earlier one.0
  pub place : p ≡ one.1

-- the place is that of one of the later names that an earlier one or one of them before it has
pub data IsMetAgain (earlier later : List (ℕ × Place)) (p : Place) : Type 0 where
  among : IsRepeated later p → IsMetAgain earlier later p
  taken : IsNameTaken earlier later p → IsMetAgain earlier later p

-- the first n of these members are all members of a class, and there are more
pub record AreOfClass (d : Declared) (all : List (BodyId × ℕ)) (n : ℕ) : Type 0 where
  pub class : ℕ
  pub fewer : n < length all
  pub are_members : Members d class (map site_of (take n all))

-- the first n of these members are those of a class, or there are none
abbrev pub IsApart : Declared → List (BodyId × ℕ) → ℕ → Type 0
IsApart d all n = (n ≡ 0) ⊎ AreOfClass d all n

-- the place is that of a name of these members that one before it has, where not both are among the first n
abbrev pub IsMetBehind : Declared → List (BodyId × ℕ) → ℕ → Place → Type 0
IsMetBehind d all n p = IsMetAgain (member_names_at d (map site_of (take n all))) (member_names_at d (map site_of (drop n all))) p

-- where the first n of the body's members are those of a class, or none, the earliest place was found at which a name of
-- its members is met that one before it has, and not both are among these n, or it was found that there is none
pub record AreNamesTested (d : Declared) (body : Body) (found : Option Place) : Type 0 where
  pub n : ℕ
  pub apart : IsApart d body.all.items n
  pub earliest : IsEarliest (IsMetBehind d body.all.items n) found

-- The names that members give, in a set, and who gives each name, in a map

-- a test for one site and name
abbrev pub same_given : (ℕ × ℕ) × ℕ → (ℕ × ℕ) × ℕ → Bool
same_given a b = ((a.0.0 == b.0.0) && (a.0.1 == b.0.1)) && (a.1 == b.1)

-- the member at the site gives the name, as the set has it
abbrev pub GivesAt : Given → Site → ℕ → Type 0
GivesAt g s x = bag.contains same_given g.names ((s.body, s.place), x) ≡ true

-- the member at the site may be one of those that give a name: nobody gives a name that was not met
abbrev pub MayGive : Option Giver → Site → Type 0
MayGive None s = ⊥
MayGive (Some (Only b k)) s = (b.n ≡ s.body) × (k ≡ s.place)
MayGive (Some Several) s = ⊤

-- who gives the name, as the map has it
abbrev pub giver_of : Given → ℕ → Option Giver
giver_of g x = hash.get nat_eq g.givers x

-- the member at the site gives the name, as the set has it, and is one of those that may, as the map has it
abbrev pub IsKnownAt : Given → Site → ℕ → Type 0
IsKnownAt g s x = GivesAt g s x × MayGive (giver_of g x) s

-- the name that the member at the site gives was added
pub record AddsGivenName (s : Site) (x : ℕ) (old new : Given) : Type 0 where
  pub kept : (t : Site) (y : ℕ) → IsKnownAt old t y → IsKnownAt new t y
  pub added : IsKnownAt new s x
  pub only : (t : Site) (y : ℕ) → GivesAt new t y → GivesAt old t y ⊎ ((s ≡ t) × (x ≡ y))

-- the names that the members at these sites give were added
pub record AddsGiven (d : Declared) (sites : List Site) (old new : Given) : Type 0 where
  pub kept : (s : Site) (x : ℕ) → IsKnownAt old s x → IsKnownAt new s x
  pub added : (s : Site) (x : ℕ) → IsOneOf sites s → IsNamed (names_of_site d s) x → IsKnownAt new s x
  pub only : (s : Site) (x : ℕ) → GivesAt new s x → GivesAt old s x ⊎ IsNamed (names_of_site d s) x

-- the set has the names of each site, and each site that gives a name is one of those that may, as the map has it
pub record KnowsGiven (d : Declared) (g : Given) : Type 0 where
  pub each : (s : Site) (x : ℕ) → GivesAt g s x ↔ IsNamed (names_of_site d s) x
  pub admitted : (s : Site) (x : ℕ) → IsNamed (names_of_site d s) x → MayGive (giver_of g x) s
