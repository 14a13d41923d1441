-- Counts that stop at the greatest number of the machine.
use Rattle.std.specs.Prelude.{◌≡◌, ℕ, Bool, List, map, filter, length, sum, Vec, min, Some}
use Rattle.std.specs.Global.{Global}
use Rattle.ar_base.specs.Lists.{Along}
use Rattle.class_table.specs.Declaring.{Declared}
use Rattle.class_table.specs.Members.{Site, NamedMember, MemberKind, names_of, named_at, owned_at}
use Rattle.class_table.specs.declared.tables.Owned.{Owned}
use Rattle.class_table.specs.declared.tables.Body.{Body}
use Rattle.hierarchy.specs.ModelsInside.{sites_kept}
use Rattle.hierarchy.specs.Walks.{is_variable, is_event}
use Rattle.unit_rules.specs.Sizes.{owned_size}
use Rattle.unit_rules.specs.declared.counts.Counts.{Counts}

-- the number, or the greatest one where it is greater
abbrev pub capped : ℕ → ℕ
capped n = min n 18446744073709551615

-- how many of the names pass the test
abbrev pub named_so : (MemberKind → Bool) → List NamedMember → ℕ
named_so test gs = length (filter (λ (g : NamedMember). test g.kind) gs)

-- the counts are those of the variables and events among these names, and of so many nodes
pub record AreMemberCounts (gs : List NamedMember) (nodes : ℕ) (c : Counts) : Type 0 where
  pub variables : c.variables ≡ capped (named_so is_variable gs)
  pub events : c.events ≡ capped (named_so is_event gs)
  pub nodes_are : c.nodes ≡ capped nodes

-- the counts are those of the member, wherever it stands
pub record CountsMember (d : Declared) (o : Owned) (c : Counts) : Type 0 where
  pub at : (s : Site) → AreMemberCounts (names_of d s (Some o)) (owned_size (Some o)) c

-- the counts are those of the members that stand in the body
abbrev pub AreOwn : Declared → Body → Vec Counts Global → Type 0
AreOwn d b counts = Along (CountsMember d) b.own.items counts.items

-- the nodes of the members at these sites
abbrev pub nodes_at : Declared → List Site → ℕ
nodes_at d sites = sum (map (λ s. owned_size (owned_at d s)) sites)

-- the counts are those of the members at these sites
abbrev pub AreAt : Declared → List Site → Counts → Type 0
AreAt d sites c = AreMemberCounts (named_at d sites) (nodes_at d sites) c

-- the counts are those of all members of the body
abbrev pub AreOfBody : Declared → Body → Counts → Type 0
AreOfBody d b c = AreAt d (sites_kept b) c
