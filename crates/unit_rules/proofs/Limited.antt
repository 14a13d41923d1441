-- The limits, one after the other.
use Rattle.std.proofs.Common.{◌≡◌, ℕ, ◌<◌, ◌≤◌, Bool, List, [], ◌∷◌, filter, length, length-append, Result, Ok, Err, MatchResult, refl, sym, ap, subst, arith}
use Rattle.std.specs.List.{flat_map}
use Rattle.std.proofs.lemmas.List.{length-map}
use Rattle.std.proofs.lemmas.List.Elements.{filter-append}
use Rattle.ar_base.specs.Counts.{limit_of}
use Rattle.ar_base.specs.Stages.{Fits, fits, passes_it}
use Rattle.ar_base.specs.StagesInside.{Meets}
use Rattle.ar_base.specs.declared.counts.Count.{Count}
use Rattle.ar_base.specs.declared.faults.RuleFault.{RuleFault}
use Rattle.ar_base.specs.declared.faults.RuleFault.TheVariants.{Limit}
use Rattle.class_table.specs.Members.{NamedMember, MemberKind}
use Rattle.hierarchy.specs.Models.{RootedModel}
use Rattle.hierarchy.specs.Units.{UnitPath, names_at}
use Rattle.hierarchy.specs.Walks.{thing}
use Rattle.hierarchy.specs.Listing.{Unfolded, things_in}
use Rattle.unit_rules.specs.Counting.{named_so}

-- things of units, and names of members of these units
pub things_named : (test : MemberKind → Bool) (m : RootedModel) (units : List UnitPath)
    → length (flat_map (things_in test m) units) ≡ named_so test (flat_map (names_at m) units)
things_named test m [] = refl
things_named test m (u ∷ us) =
    let a = length-append (things_in test m u) (flat_map (things_in test m) us) in
    let b = length-map (filter (λ (g : NamedMember). test g.kind) (names_at m u))
    (λ (g : NamedMember). thing u g.name) in
    let c = ap length (filter-append (λ (g : NamedMember). test g.kind) (names_at m u) (flat_map (names_at m) us)) in
    let e = length-append (filter (λ (g : NamedMember). test g.kind) (names_at m u))
    (filter (λ (g : NamedMember). test g.kind) (flat_map (names_at m) us)) in
    let f = things_named test m us in
    omega arith

module _ {X : Type 0} (count : Count) (counted : Unfolded → ℕ) (t : Unfolded) where
  -- a test of one limit
  pub within_limit : (r : Result X RuleFault)
      → MatchResult r (λ _. counted t ≤ limit_of count) (λ e. (limit_of count < counted t) × (e ≡ Limit count))
      → Meets (Fits count counted) (λ u x. u ≡ t) t r
  within_limit (Ok x) h = (t, fits h, refl)
  within_limit (Err e) h = subst (λ (f : RuleFault). Meets {X = X} (Fits count counted) (λ u x. u ≡ t) t (Err f))
      (sym h.1) (passes_it h.0)
