-- Models that agree have one source or one refusal.
use Rattle.std.proofs.Common.{Result, subst}
use Rattle.ar_base.specs.Stages.{Then}
use Rattle.ar_base.specs.declared.faults.RuleFault.{RuleFault}
use Rattle.ar_meaning.specs.ExpandInside.{AreKeyedEvents}
use Rattle.hierarchy.specs.Listing.{Unfolded, AreUnits}
use Rattle.hierarchy.specs.Models.{RootedModel}
use Rattle.hierarchy.specs.ModelsInside.{KeepsTextRules}
use Rattle.hierarchy.specs.Walks.{is_event}
use Rattle.instantiate.specs.Unfolding.{Instantiates}
use Rattle.source_meaning.specs.Systems.{Declarations, Binds}
use Rattle.source_meaning.proofs.Different.{things_different}
use Rattle.gts_flatten.specs.Elaborating.{Elaborated, Flattens}
use Rattle.source_laws.specs.Answers.{SameAnswer}
use Rattle.source_laws.specs.Tables.{SameRooted}
use Rattle.source_laws.specs.Units.{SameUnfolded}
use Rattle.source_laws.proofs.Alike.{AreAlike, alike_of, alike_where, then_alike, told}
use Rattle.source_laws.specs.Declarations.{SameDeclarations}
use Rattle.source_laws.proofs.OneBinding.{AreKeptAlike}
use Rattle.source_laws.proofs.OneText.{AreRootedAlike, trees_alike}
use Rattle.source_laws.specs.Sources.{SameSource}
use Rattle.source_laws.proofs.Flattened.{AlikeByKey}
use Rattle.source_laws.proofs.Passing.{bound_of, events_keyed}

module _ (unfolded : (m n : RootedModel) → SameRooted m n → (a b : Result Unfolded RuleFault) → Instantiates m a
    → Instantiates n b → SameAnswer SameUnfolded a b)
    (bound : (t u : Unfolded) → SameUnfolded t u → KeepsTextRules u.model → AreUnits u.model u.units
    → (a b : Result Declarations RuleFault) → Binds t a → Binds u b → SameAnswer SameDeclarations a b)
    (systems : (d e : Declarations) → SameDeclarations d e → AreKeyedEvents e.events
    → (a b : Result Elaborated RuleFault) → Flattens d a → Flattens e b → SameAnswer SameSource a b) where
  bound_alike : (t u : Unfolded) → AreKeptAlike t u → (a b : Result Declarations RuleFault) → Binds t a → Binds u b
      → AreAlike AlikeByKey a b
  bound_alike t u s a b h k =
      alike_where (λ d e i j q. record {
        same = q;
        keyed = events_keyed u.model u.units e (things_different u.model is_event u.units s.kept s.are)
            (bound_of u e (subst (λ (z : Result Declarations RuleFault). Binds u z) j k));
      })
      (alike_of SameDeclarations a b (bound t u s.same s.kept s.are a b h k))

  systems_alike : (d e : Declarations) → AlikeByKey d e → (a b : Result Elaborated RuleFault) → Flattens d a
      → Flattens e b → AreAlike SameSource a b
  systems_alike d e s a b h k = alike_of SameSource a b (systems d e s.same s.keyed a b h k)

  pub source_alike : (m n : RootedModel) → SameRooted m n → KeepsTextRules n → (a b : Result Elaborated RuleFault)
      → Then Instantiates (Then Binds Flattens) m a → Then Instantiates (Then Binds Flattens) n b
      → SameAnswer SameSource a b
  source_alike m n s kept a b h k =
      told SameSource a b
      (then_alike AreRootedAlike AreKeptAlike SameSource Instantiates (Then Binds Flattens) (trees_alike unfolded)
      (then_alike AreKeptAlike AlikeByKey SameSource Binds Flattens bound_alike systems_alike) m n
      (record { same = s; kept = kept }) a b h k)
