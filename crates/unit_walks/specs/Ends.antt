-- What a name leads to, without the list of statements that are followed: with the height of the derivation. A walk
-- that loops has no end.
use Rattle.std.specs.Prelude.{◌≡◌, ◌<◌, ◌+◌, ◌++◌, ℕ, suc, Bool, true, false, List, [], ◌∷◌, Option, Some, None}
use Rattle.ar_syntax.specs.declared.paths.Path.{Path}
use Rattle.class_table.specs.Members.{Site, MemberKind, Inner, Clone, Alias}
use Rattle.hierarchy.specs.Models.{RootedModel}
use Rattle.hierarchy.specs.Units.{UnitPath, Thing, body_of, set_at_of, bodies_of, has_number, is_among, kind_at, start_of, numbers}
use Rattle.hierarchy.specs.Walks.{NameLeads, Loops, thing, is_unitless}

mutual
  -- the name, which is this in the unit, ends at this height in a unit or in nothing
  pub data NameEnds (m : RootedModel) : ℕ → UnitPath → ℕ → Option MemberKind → Option UnitPath → Type 0 where
    inner : {u : UnitPath} {x b : ℕ} {a : Option Site}
        → NameEnds m 0 u x (Some (Inner b a)) (Some (record { name = x; body = b; set_at = a } ∷ u))
    clones : {n : ℕ} {u t : UnitPath} {x : ℕ} {p : Path}
        → NamesEnd m n (start_of p.start u) (numbers p.names.items) (Some t)
        → has_number (bodies_of m u) (body_of m t) ≡ false
        → NameEnds m (suc n) u x (Some (Clone p))
        (Some (record { name = x; body = body_of m t; set_at = set_at_of t } ∷ u))
    clones_none : {n : ℕ} {u : UnitPath} {x : ℕ} {p : Path}
        → NamesEnd m n (start_of p.start u) (numbers p.names.items) None
        → NameEnds m (suc n) u x (Some (Clone p)) None
    embeds : {n : ℕ} {u : UnitPath} {x : ℕ} {p : Path} {o : Option UnitPath}
        → NamesEnd m n (start_of p.start u) (numbers p.names.items) o
        → NameEnds m (suc n) u x (Some (Alias p)) o
    no_unit : {u : UnitPath} {x : ℕ} {k : MemberKind} → is_unitless k ≡ true → NameEnds m 0 u x (Some k) None
    absent : {u : UnitPath} {x : ℕ} → NameEnds m 0 u x None None

  -- names, one after the other, end so
  pub data NamesEnd (m : RootedModel) : ℕ → Option UnitPath → List ℕ → Option UnitPath → Type 0 where
    nowhere : {xs : List ℕ} → NamesEnd m 0 None xs None
    arrives : {u : UnitPath} → NamesEnd m 0 (Some u) [] (Some u)
    on : {total : ℕ} {u : UnitPath} {x : ℕ} {xs : List ℕ} {o : Option UnitPath} (n k : ℕ) (v : UnitPath)
        → NameEnds m n u x (kind_at m u x) (Some v)
        → NamesEnd m k (Some v) xs o → total ≡ n + k → NamesEnd m total (Some u) (x ∷ xs) o
    stops : {n : ℕ} {u : UnitPath} {x : ℕ} {xs : List ℕ} → NameEnds m n u x (kind_at m u x) None
        → NamesEnd m n (Some u) (x ∷ xs) None

-- the statements of f have higher derivations than n, if any
pub record AreHigher (m : RootedModel) (f : List Thing) (n : ℕ) : Type 0 where
  pub higher : (x k : ℕ) (u : UnitPath) (o : Option UnitPath) → is_among f (thing u x) ≡ true
      → NameEnds m k u x (kind_at m u x) o → n < k

-- the statements of f have no end
pub record AreEndless (m : RootedModel) (f : List Thing) : Type 0 where
  pub endless : (x k : ℕ) (u : UnitPath) (o : Option UnitPath) → is_among f (thing u x) ≡ true
      → NameEnds m k u x (kind_at m u x) o → ⊥

-- the walk of this statement has no end, and so it loops, also while such statements are followed
pub record NeverEnds (m : RootedModel) (u : UnitPath) (x : ℕ) : Type 0 where
  pub never : (n : ℕ) (o : Option UnitPath) → NameEnds m n u x (kind_at m u x) o → ⊥
  pub loops : (f : List Thing) → AreEndless m f → NameLeads m f u x (kind_at m u x) Loops

-- what a name is is a statement with this path
pub data IsStatement (p : Path) : Bool → Option MemberKind → Type 0 where
  clone : IsStatement p true (Some (Clone p))
  alias : IsStatement p false (Some (Alias p))

-- the walk of the statement x in u has come to the unit v, with these names to go
pub record Reached (m : RootedModel) (u : UnitPath) (x : ℕ) (is_clone : Bool) (v : UnitPath) (rest : List ℕ) : Type
    0 where
  pub path : Path
  pub is : IsStatement path is_clone (kind_at m u x)
  pub before : List ℕ
  pub height : ℕ
  pub names : numbers path.names.items ≡ before ++ rest
  pub ran : NamesEnd m height (start_of path.start u) before (Some v)
