-- Each walk comes to an outcome, since what is being followed can only become more so often.
use Rattle.std.proofs.Common.{◌≡◌, ℕ, zero, suc, ◌<◌, Bool, true, false, List, [], ◌∷◌, Option, Some, None, option_map, refl, subst, arith}
use Rattle.ar_base.specs.Lists.{IsOneOf}
use Rattle.ar_syntax.specs.declared.paths.PathStart.{PathStart}
use Rattle.ar_syntax.specs.declared.paths.PathStart.TheVariants.{Here, Owner, Main}
use Rattle.class_table.specs.Members.{NamedMember, MemberKind, Inner, Clone, Alias, Variable, Parameter, Kept, Event, Observer}
use Rattle.hierarchy.specs.Models.{RootedModel}
use Rattle.hierarchy.specs.ModelsInside.{KeepsTextRules}
use Rattle.hierarchy.specs.Units.{UnitLevel, UnitPath, Thing, body_of, set_at_of, bodies_of, has_number, is_among, names_at, name_at, kind_at, start_of, numbers}
use Rattle.hierarchy.specs.Walks.{WalkOutcome, Reaches, Nothing, Loops, thing, cloned, NameLeads, NamesLead, inner, clones, embeds, clones_again, embeds_again, no_unit, absent, nowhere, arrives, on, stops, loops}
use Rattle.hierarchy.proofs.Apart.{named_back}
use Rattle.source_laws.proofs.Made.{IsAbove, itself, owner, all_names, IsMade, given, inner as made_inner, copied, name_among, made_body, made_keys, most, made_deep}
use Rattle.source_laws.proofs.Universe.{left, left_fewer}

-- what a name of a unit is: nothing, or what a member of the name gives
pub data IsNameOf (m : RootedModel) (u : UnitPath) (x : ℕ) : Option MemberKind → Type 0 where
  no_name : IsNameOf m u x None
  one_name : (g : NamedMember) → IsOneOf (names_at m u) g → g.name ≡ x → IsNameOf m u x (Some g.kind)

pub kind_named : (m : RootedModel) (u : UnitPath) (x : ℕ) → IsNameOf m u x (kind_at m u x)
kind_named m u x = go (name_at m u x) refl
  where
    go : (o : Option NamedMember) → name_at m u x ≡ o → IsNameOf m u x (option_map (λ (g : NamedMember). g.kind) o)
    go None e = no_name
    go (Some g) e = let b = named_back (names_at m u) x g e in one_name g b.0 b.1

-- a unit that is made from the base on
pub record Made (m : RootedModel) (base : UnitPath) (u : UnitPath) : Type 0 where
  pub run : List ℕ
  pub is_made : IsMade m base run u

-- a unit that is reached is made
pub data IsFine (m : RootedModel) (base : UnitPath) : WalkOutcome → Type 0 where
  reached : {v : UnitPath} → Made m base v → IsFine m base (Reaches v)
  nothing : IsFine m base Nothing
  looping : IsFine m base Loops

-- a name leads somewhere
pub record Leads (m : RootedModel) (base : UnitPath) (f : List Thing) (u : UnitPath) (x : ℕ)
    (w : Option MemberKind) : Type 0 where
  pub outcome : WalkOutcome
  pub leads : NameLeads m f u x w outcome
  pub fine : IsFine m base outcome

-- names lead somewhere
pub record LeadOn (m : RootedModel) (base : UnitPath) (f : List Thing) (start : Option UnitPath) (xs : List ℕ) : Type
    0 where
  pub outcome : WalkOutcome
  pub lead : NamesLead m f start xs outcome
  pub fine : IsFine m base outcome

module _ (m : RootedModel) (base : UnitPath) where
  -- each name of each unit that is made leads somewhere
  pub record AllLead (f : List Thing) : Type 0 where
    pub each : (u : UnitPath) → Made m base u → (x : ℕ) (w : Option MemberKind) → IsNameOf m u x w
        → Leads m base f u x w

  pub names_from : (f : List Thing) → AllLead f → (u : UnitPath) → Made m base u → (xs : List ℕ)
      → LeadOn m base f (Some u) xs
  names_from f step u d [] = record { outcome = Reaches u; lead = arrives; fine = reached d }
  names_from f step u d (x ∷ xs) =
      let l = step.each u d x (kind_at m u x) (kind_named m u x) in
      go (λ v e. names_from f step v e xs) l.outcome l.leads l.fine
    where
      go : ((v : UnitPath) → Made m base v → LeadOn m base f (Some v) xs) → (o : WalkOutcome)
          → NameLeads m f u x (kind_at m u x) o → IsFine m base o
          → LeadOn m base f (Some u) (x ∷ xs)
      go next (Reaches v) l (reached e) = let r = next v e in record { outcome = r.outcome; lead = on v l r.lead; fine = r.fine }
      go next Nothing l i = record { outcome = Nothing; lead = stops l; fine = nothing }
      go next Loops l i = record { outcome = Loops; lead = loops l; fine = looping }

  above_main : (u : UnitPath) → IsAbove u []
  above_main [] = itself
  above_main (l ∷ u) = owner (above_main u)

  made_main : Made m base []
  made_main = record { run = m.main ∷ []; is_made = given (above_main base) }

  above_owner : {u v : UnitPath} {l : UnitLevel} → IsAbove u (l ∷ v) → IsAbove u v
  above_owner itself = owner itself
  above_owner (owner a) = owner (above_owner a)

  made_owner : {l : UnitLevel} {u : UnitPath} → Made m base (l ∷ u) → Made m base u
  made_owner {l = l} {u = u} d = go d.is_made
    where
      go : {run : List ℕ} → IsMade m base run (l ∷ u) → Made m base u
      go (given a) = record { run = body_of m u ∷ []; is_made = given (above_owner a) }
      go (made_inner {run = run} g i o e) = record { run = run; is_made = i }
      go (copied {run = run} i x b n) = record { run = run; is_made = i }

  start_from : (f : List Thing) → AllLead f → (u : UnitPath) → Made m base u → (start : PathStart) (xs : List ℕ)
      → LeadOn m base f (start_of start u) xs
  start_from f step u d Here xs = names_from f step u d xs
  start_from f step [] d Owner xs = record { outcome = Nothing; lead = nowhere; fine = nothing }
  start_from f step (l ∷ u) d Owner xs = names_from f step u (made_owner d) xs
  start_from f step u d Main xs = names_from f step [] made_main xs

  -- what a clone is made as
  cloned_fine : (u : UnitPath) → Made m base u → (x : ℕ) → IsOneOf (all_names m base) x → (o : WalkOutcome)
      → IsFine m base o → IsFine m base (cloned m u x o)
  cloned_fine u d x i Nothing h = nothing
  cloned_fine u d x i Loops h = looping
  cloned_fine u d x i (Reaches t) (reached h) = go (has_number (bodies_of m u) (body_of m t)) refl
    where
      go : (b : Bool) → has_number (bodies_of m u) (body_of m t) ≡ b → IsFine m base (cloned m u x (Reaches t))
      go true e = rw e looping
      go false e = rw e (reached (record {
        run = body_of m t ∷ [];
        is_made = copied {l = record { name = x; body = body_of m t; set_at = set_at_of t }}
            d.is_made i (made_body m base h.is_made) e;
      }))

  -- what a name of a unit leads to, where the names of one more followed statement lead somewhere
  module _ (f : List Thing) (more : (u : UnitPath) → Made m base u → (x : ℕ) → IsOneOf (all_names m base) x
      → is_among f (thing u x) ≡ false → AllLead (thing u x ∷ f)) where
    kinds : (u : UnitPath) → Made m base u → (g : NamedMember) → IsOneOf (names_at m u) g → (kind : MemberKind)
        → g.kind ≡ kind → (t : Bool) → is_among f (thing u g.name) ≡ t → Leads m base f u g.name (Some kind)
    kinds u d g o (Inner b from) e t a = record {
      outcome = Reaches (record { name = g.name; body = b; set_at = from } ∷ u);
      leads = inner;
      fine = reached (record { run = b ∷ d.run; is_made = made_inner g d.is_made o e });
    }
    kinds u d g o (Clone p) e true a = record { outcome = Loops; leads = clones_again a; fine = looping }
    kinds u d g o (Clone p) e false a =
        let i = name_among m base u g o in
        let r = start_from (thing u g.name ∷ f) (more u d g.name i a) u d p.start (numbers p.names.items) in
        record {
          outcome = cloned m u g.name r.outcome;
          leads = clones a r.lead refl;
          fine = cloned_fine u d g.name i r.outcome r.fine;
        }
    kinds u d g o (Alias p) e true a = record { outcome = Loops; leads = embeds_again a; fine = looping }
    kinds u d g o (Alias p) e false a =
        let i = name_among m base u g o in
        let r = start_from (thing u g.name ∷ f) (more u d g.name i a) u d p.start (numbers p.names.items) in
        record { outcome = r.outcome; leads = embeds a r.lead; fine = r.fine }
    kinds u d g o (Variable v settings) e t a = record { outcome = Nothing; leads = no_unit refl; fine = nothing }
    kinds u d g o (Parameter v x) e t a = record { outcome = Nothing; leads = no_unit refl; fine = nothing }
    kinds u d g o Kept e t a = record { outcome = Nothing; leads = no_unit refl; fine = nothing }
    kinds u d g o Event e t a = record { outcome = Nothing; leads = no_unit refl; fine = nothing }
    kinds u d g o (Observer v x) e t a = record { outcome = Nothing; leads = no_unit refl; fine = nothing }

    name_leads : (u : UnitPath) → Made m base u → (x : ℕ) (w : Option MemberKind) → IsNameOf m u x w
        → Leads m base f u x w
    name_leads u d x w no_name = record { outcome = Nothing; leads = absent; fine = nothing }
    name_leads u d x w (one_name g o e) =
        subst (λ (y : ℕ). Leads m base f u y (Some g.kind)) e
        (kinds u d g o g.kind refl (is_among f (thing u g.name)) refl)

  module _ (k : KeepsTextRules m) where
    pub all_lead : (n : ℕ) (f : List Thing) → left m base (most m base) f < n → AllLead f
    all_lead zero f h = absurd (omega (arith, h))
    all_lead (suc n) f h = record {
      each = name_leads f (λ u d x i e.
          let l = left_fewer m base (most m base) f u x (made_deep m base k d.is_made) (made_keys m base d.is_made) i
          e in
          all_lead n (thing u x ∷ f) (omega (arith, h, l)));
    }

-- each name of each unit comes to an outcome
pub name_outcome : (m : RootedModel) → KeepsTextRules m → (f : List Thing) (u : UnitPath) (x : ℕ)
    → (o : WalkOutcome) × NameLeads m f u x (kind_at m u x) o
name_outcome m k f u x =
    let l = (all_lead m u k (suc (left m u (most m u) f)) f (omega arith)).each u
    (record { run = body_of m u ∷ []; is_made = given itself }) x (kind_at m u x) (kind_named m u x) in
    (l.outcome, l.leads)

-- and so does each path
pub names_outcome : (m : RootedModel) → KeepsTextRules m → (f : List Thing) (u : Option UnitPath) (xs : List ℕ)
    → (o : WalkOutcome) × NamesLead m f u xs o
names_outcome m k f None xs = (Nothing, nowhere)
names_outcome m k f (Some u) xs =
    let l = names_from m u f (all_lead m u k (suc (left m u (most m u) f)) f (omega arith)) u
    (record { run = body_of m u ∷ []; is_made = given itself }) xs in
    (l.outcome, l.lead)
