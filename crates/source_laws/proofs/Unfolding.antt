-- The main block has a list of its units, since no unit is deeper than the model allows.
use Rattle.std.proofs.Common.{◌≡◌, ℕ, zero, suc, ◌+◌, ◌<◌, Bool, true, false, if◌then◌else◌, List, [], ◌∷◌, ◌++◌, length, Some, refl, ap, arith}
use Rattle.ar_base.specs.Lists.{IsOneOf}
use Rattle.ar_base.proofs.Standing.{one_first, one_rest}
use Rattle.class_table.specs.Members.{NamedMember, MemberKind}
use Rattle.hierarchy.specs.Models.{RootedModel}
use Rattle.hierarchy.specs.ModelsInside.{KeepsTextRules}
use Rattle.hierarchy.specs.Units.{UnitPath, Thing, body_of, set_at_of, bodies_of, has_number, names_at}
use Rattle.hierarchy.specs.Walks.{WalkOutcome, Reaches, Nothing, Loops, cloned, NameLeads, inner, clones, embeds}
use Rattle.hierarchy.specs.Listing.{is_inner, no_inner, nothing, loops, ListsUnits, unit, Insides, none, makes, passes, AreUnits}
use Rattle.source_laws.proofs.Made.{itself, given, most, made_deep}
use Rattle.source_laws.proofs.Universe.{left}
use Rattle.source_laws.proofs.Walking.{Made, IsFine, reached, AllLead, all_lead, one_name}

-- a clone is one deeper
cloned_deeper : (m : RootedModel) (u v : UnitPath) (x : ℕ) (o : WalkOutcome) → Reaches v ≡ cloned m u x o
    → length v ≡ suc (length u)
cloned_deeper m u v x Nothing e = cc
cloned_deeper m u v x Loops e = cc
cloned_deeper m u v x (Reaches t) e = go (has_number (bodies_of m u) (body_of m t)) e
  where
    go : (b : Bool) → Reaches v ≡ (if b then Loops
        else Reaches (record { name = x; body = body_of m t; set_at = set_at_of t } ∷ u)) → length v ≡ suc (length u)
    go true i = cc
    go false i = let same : v ≡ record { name = x; body = body_of m t; set_at = set_at_of t } ∷ u = cc in ap length same

-- what a member makes is one deeper
made_deeper : {m : RootedModel} {f : List Thing} {u v : UnitPath} {x : ℕ} {kind : MemberKind} → is_inner kind ≡ true
    → NameLeads m f u x (Some kind) (Reaches v) → length v ≡ suc (length u)
made_deeper i inner = refl
made_deeper {m = m} {u = u} {v = v} {x = x} i (clones {o = o} n g e) = cloned_deeper m u v x o e
made_deeper i (embeds n g) = cc

module _ (m : RootedModel) (k : KeepsTextRules m) where
  all : AllLead m [] []
  all = all_lead m [] k (suc (left m [] (most m []) [])) [] (omega arith)

  -- what members make, where each unit below has a list
  insides : (u : UnitPath) → Made m [] u
      → ((v : UnitPath) → Made m [] v → length v ≡ suc (length u) → (us : List UnitPath) × ListsUnits m true v us)
      → (gs : List NamedMember) → ((g : NamedMember) → IsOneOf gs g → IsOneOf (names_at m u) g)
      → (us : List UnitPath) × Insides m true u gs us
  insides u d below [] among = ([], none)
  insides u d below (g ∷ gs) among =
      let rest = insides u d below gs (λ h o. among h (one_rest g gs h o)) in
      let l = all.each u d g.name (Some g.kind) (one_name g (among g (one_first g gs)) refl) in
      go rest (is_inner g.kind) refl l.outcome l.leads l.fine
    where
      go : (us : List UnitPath) × Insides m true u gs us → (b : Bool) → is_inner g.kind ≡ b → (o : WalkOutcome)
          → NameLeads m [] u g.name (Some g.kind) o → IsFine m [] o
          → (us : List UnitPath) × Insides m true u (g ∷ gs) us
      go rest false e o l i = (rest.0, passes (no_inner e) rest.1)
      go rest true e Nothing l i = (rest.0, passes (nothing l) rest.1)
      go rest true e Loops l i = (rest.0, passes (loops l) rest.1)
      go rest true e (Reaches v) l (reached h) =
          let b = below v h (made_deeper e l) in
          (b.0 ++ rest.0, makes (record { inner = e; leads = l }) b.1 rest.1)

  listed : (n : ℕ) (u : UnitPath) → Made m [] u → most m [] < length u + n
      → (us : List UnitPath) × ListsUnits m true u us
  listed zero u d h = let b = made_deep m [] k d.is_made in absurd (omega (arith, b, h))
  listed (suc n) u d h =
      let i = insides u d (λ v e l. listed n v e (omega (arith, h, l))) (names_at m u) (λ g o. o) in
      (u ∷ i.0, unit i.1)

  -- the main block has a list of its units
  pub units_listed : (us : List UnitPath) × AreUnits m us
  units_listed = listed (suc (most m [])) [] (record { run = m.main ∷ []; is_made = given itself }) (omega arith)
