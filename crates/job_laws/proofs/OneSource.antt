-- The units and the source of a text, or its refusal, however it is read.
use Rattle.std.proofs.Common.{◌≡◌, ℕ, List, Option, Result, Ok, Err, refl, sym, ◌∙◌, subst}
use Rattle.ar_base.specs.Breach.{AreKept}
use Rattle.ar_base.specs.Counts.{limit_of}
use Rattle.ar_base.specs.Stages.{Then, refuses, passes}
use Rattle.ar_base.specs.declared.counts.Count.TheVariants.{Nesting}
use Rattle.ar_base.specs.declared.faults.RuleFault.{RuleFault}
use Rattle.ar_base.specs.declared.faults.RuleFault.TheVariants as fault
use Rattle.ar_parser.specs.Models.{Reads, ReadsWithin}
use Rattle.ar_syntax.specs.declared.items.Model.{Model}
use Rattle.parser_laws.specs.Models.{HasOneTree}
use Rattle.class_table.specs.Rules.{BreaksTextRule, text_rules}
use Rattle.hierarchy.specs.Models.{RootedModel, IsRootedIn}
use Rattle.hierarchy.specs.Listing.{Unfolded}
use Rattle.instantiate.specs.Unfolding.{Instantiates}
use Rattle.source_meaning.specs.Systems.{Binds}
use Rattle.gts_flatten.specs.Elaborating.{Elaborated, Flattens}
use Rattle.source_laws.specs.Answers.{SameAnswer}
use Rattle.source_laws.specs.Units.{SameUnfolded}
use Rattle.source_laws.specs.Sources.{SameSource}
use Rattle.job_stages.specs.Elaborates.{reads, Tables, Systems, Ruled, breaks, exceeds, Elaborates}
use Rattle.job_stages.specs.Elaborates as e
use Rattle.job_stages.specs.declared.refusals.Refusal.{Refusal}
use Rattle.job_stages.specs.declared.refusals.Refusal.TheVariants.{Size, Rule}
use Rattle.job_laws.proofs.Readings.{parses_one}
use Rattle.job_laws.proofs.Tabled.{SeenAlike, BrokenAlike, rooted_one}

-- Faults of stages of rules and limits, and the refusals for them

abbrev IsToldAs : RuleFault → Refusal → Type 0
IsToldAs (fault.Rule n p) r = r ≡ Rule n p
IsToldAs (fault.Limit count) r = r ≡ Size count
IsToldAs fault.Memory r = ⊥

told_same : (f g : RuleFault) (q r : Refusal) → f ≡ g → IsToldAs f q → IsToldAs g r → q ≡ r
told_same f g q r i a b = go f a (subst (λ (z : RuleFault). IsToldAs z r) (sym i) b)
  where
    go : (h : RuleFault) → IsToldAs h q → IsToldAs h r → q ≡ r
    go (fault.Rule n p) j k = j ∙ sym k
    go (fault.Limit count) j k = j ∙ sym k
    go fault.Memory j k = absurd j

-- a fault of the stage, with the refusal for it
record IsFaultOf {A B : Type 0} (stage : A → Result B RuleFault → Type 0) (a : A) (r : Refusal) : Type 0 where
  fault : RuleFault
  answers : stage a (Err fault)
  told : IsToldAs fault r

module _ {A B : Type 0} {stage : A → Result B RuleFault → Type 0} {a : A} where
  fault_of : (r : Refusal) → Ruled stage a (Err r) → IsFaultOf stage a r
  fault_of _ (breaks {r = n} {p = p} h) = record { fault = fault.Rule n p; answers = h; told = refl }
  fault_of _ (exceeds {count = c} h) = record { fault = fault.Limit c; answers = h; told = refl }

  -- what the stage passes on
  ruled_ok : (b : B) → Ruled stage a (Ok b) → stage a (Ok b)
  ruled_ok _ (e.passes h) = h

-- What the laws of units and of sources say

abbrev pub UnfoldedAlike : Type 0
UnfoldedAlike = (text : List ℕ) (k : ℕ) (x y : Model) (main : Option (List ℕ)) (m n : RootedModel)
    → ReadsWithin k text x → ReadsWithin k text y → IsRootedIn x main m → IsRootedIn y main n
    → AreKept text_rules (BreaksTextRule y main n.declared) → (a b : Result Unfolded RuleFault) → Instantiates m a
    → Instantiates n b → SameAnswer SameUnfolded a b

abbrev pub SourcedAlike : Type 0
SourcedAlike = (text : List ℕ) (k : ℕ) (x y : Model) (main : Option (List ℕ)) (m n : RootedModel) → ReadsWithin k text x
    → ReadsWithin k text y → IsRootedIn x main m → IsRootedIn y main n
    → AreKept text_rules (BreaksTextRule y main n.declared) → (a b : Result Elaborated RuleFault)
    → Then Instantiates (Then Binds Flattens) m a → Then Instantiates (Then Binds Flattens) n b → SameAnswer SameSource a b

module _ (seen : SeenAlike) (broken : BrokenAlike) (text : List ℕ) (main : Option (List ℕ)) where
  -- Units

  pub unfolding_one : UnfoldedAlike → (x y : Model) (a b : Result Unfolded RuleFault) → Reads text x → Reads text y
      → Then (Tables main) Instantiates x a → Then (Tables main) Instantiates y b → SameAnswer SameUnfolded a b
  unfolding_one unfolded =
      rooted_one seen broken text main SameUnfolded Instantiates
      (λ x y m n h i p q kept a b k l. unfolded text (limit_of Nesting) x y main m n h i p q kept a b k l)

  -- Sources

  module _ (sourced : SourcedAlike) where
    systems_one : (x y : Model) (a b : Result Elaborated RuleFault) → Reads text x → Reads text y → Systems main x a
        → Systems main y b → SameAnswer SameSource a b
    systems_one =
        rooted_one seen broken text main SameSource (Then Instantiates (Then Binds Flattens))
        (λ x y m n h i p q kept a b k l. sourced text (limit_of Nesting) x y main m n h i p q kept a b k l)

    ruled_one : (x y : Model) → Reads text x → Reads text y → (a b : Result Elaborated Refusal)
        → Ruled (Systems main) x a → Ruled (Systems main) y b → SameAnswer SameSource a b
    ruled_one x y h i (Ok a) (Ok b) p q = systems_one x y (Ok a) (Ok b) h i (ruled_ok a p) (ruled_ok b q)
    ruled_one x y h i (Ok a) (Err s) p q =
        let g = fault_of s q in systems_one x y (Ok a) (Err g.fault) h i (ruled_ok a p) g.answers
    ruled_one x y h i (Err r) (Ok b) p q =
        let f = fault_of r p in systems_one x y (Err f.fault) (Ok b) h i f.answers (ruled_ok b q)
    ruled_one x y h i (Err r) (Err s) p q =
        let f = fault_of r p in
        let g = fault_of s q in
        told_same f.fault g.fault r s (systems_one x y (Err f.fault) (Err g.fault) h i f.answers g.answers) f.told g.told

    pub source_alike : HasOneTree text → (a b : Result Elaborated Refusal) → Elaborates main text a
        → Elaborates main text b → SameAnswer SameSource a b
    source_alike one _ _ (refuses {r = r} h) (refuses {r = s} k) = parses_one text one (Err r) (Err s) h k
    source_alike one _ b (refuses {r = r} h) (passes y k q) = absurd (parses_one text one (Err r) (Ok y) h k)
    source_alike one a _ (passes x h p) (refuses {r = r} k) = absurd (parses_one text one (Ok x) (Err r) h k)
    source_alike one a b (passes x (reads h) p) (passes y (reads i) q) = ruled_one x y h i a b p q

-- Refusals of units

-- what the units of a text are refused for
pub units_told : (main : Option (List ℕ)) (text : List ℕ) (m : Model) (n : RootedModel) (r : Refusal) → Reads text m
    → Tables main m (Ok n) → Ruled Instantiates n (Err r) → Elaborates main text (Err r)
units_told main text m n _ h t (breaks u) = passes m (reads h) (breaks (passes n t (refuses u)))
units_told main text m n _ h t (exceeds u) = passes m (reads h) (exceeds (passes n t (refuses u)))
