-- The rules L1 to L5 of a text, however it is read.
use Rattle.std.proofs.Common.{◌↔◌, ℕ, List, Option, Result, Ok, Err, ap, ◌∙◌}
use Rattle.ar_base.specs.Breach.{IsBroken, AreKept}
use Rattle.ar_base.specs.Counts.{limit_of}
use Rattle.ar_base.specs.Stages.{Then, refuses, passes}
use Rattle.ar_base.specs.declared.counts.Count.TheVariants.{Nesting}
use Rattle.ar_base.specs.declared.faults.RuleFault.{RuleFault}
use Rattle.ar_base.specs.declared.faults.RuleFault.TheVariants as fault
use Rattle.ar_base.specs.declared.places.Place.{Place}
use Rattle.ar_parser.specs.Models.{Reads, ReadsWithin}
use Rattle.ar_syntax.specs.declared.items.Model.{Model}
use Rattle.source_laws.specs.Answers.{SameAnswer}
use Rattle.source_laws.specs.Tables.{AreSeenAlike}
use Rattle.class_table.specs.Declaring.{Declared, IsDeclared}
use Rattle.class_table.specs.Rules.{BreaksTextRule, text_rules}
use Rattle.class_table.proofs.OneRefusal.{breach_one}
use Rattle.hierarchy.specs.Models.{RootedModel, IsRootedIn}
use Rattle.job_stages.specs.Elaborates.{Tables, rooted, breach}

-- what the laws of tables say
abbrev pub SeenAlike : Type 0
SeenAlike = (text : List ℕ) (k : ℕ) (x y : Model) (main : Option (List ℕ)) (m n : RootedModel) → ReadsWithin k text x
    → ReadsWithin k text y → IsRootedIn x main m → IsRootedIn y main n → AreSeenAlike main m n

abbrev pub BrokenAlike : Type 0
BrokenAlike = (text : List ℕ) (k : ℕ) (x y : Model) (d e : Declared) → ReadsWithin k text x → ReadsWithin k text y
    → IsDeclared x d → IsDeclared y e → (main : Option (List ℕ)) (r : ℕ) (p : Place)
    → (BreaksTextRule x main d r p ↔ BreaksTextRule y main e r p)

module _ (seen : SeenAlike) (broken : BrokenAlike) (text : List ℕ) (main : Option (List ℕ)) where
  pub tables_one : (x y : Model) (a b : Result RootedModel RuleFault) → Reads text x → Reads text y → Tables main x a
      → Tables main y b → SameAnswer (AreSeenAlike main) a b
  tables_one x y a b h i (rooted {m = m} p k) (rooted {m = n} q l) = seen text (limit_of Nesting) x y main m n h i p q
  tables_one x y a b h i (rooted {m = m} p k) (breach {r = r} {p = at} g q c) =
      k.kept r at c.is_one
      ((broken text (limit_of Nesting) x y m.declared g h i p.declared q main r at).1 c.breaks_there)
  tables_one x y a b h i (breach {r = r} {p = at} d p c) (rooted {m = n} q l) =
      l.kept r at c.is_one
      ((broken text (limit_of Nesting) x y d n.declared h i p q.declared main r at).0 c.breaks_there)
  tables_one x y a b h i (breach {r = r} {p = at} d p c) (breach {r = s} {p = there} g q f) =
      let same = broken text (limit_of Nesting) x y d g h i p q main in
      let moved : IsBroken text_rules (BreaksTextRule x main d) s there = record {
        is_one = f.is_one;
        breaks_there = (same s there).1 f.breaks_there;
        no_lesser = λ t o one less u. f.no_lesser t o one less ((same t o).0 u);
        no_earlier = λ o less u. f.no_earlier o less ((same s o).0 u);
      } in
      let j = breach_one text_rules (BreaksTextRule x main d) r s at there c moved in
      ap (λ (z : ℕ). fault.Rule z at) j.0 ∙ ap (λ (z : Place). fault.Rule s z) j.1

  -- a stage behind them has one answer where it has one in models that agree
  pub rooted_one : {B : Type 0} (Same : B → B → Type 0) (stage : RootedModel → Result B RuleFault → Type 0)
      → ((x y : Model) (m n : RootedModel) → Reads text x → Reads text y → IsRootedIn x main m → IsRootedIn y main n
      → AreKept text_rules (BreaksTextRule y main n.declared) → (a b : Result B RuleFault) → stage m a → stage n b
      → SameAnswer Same a b)
      → (x y : Model) (a b : Result B RuleFault) → Reads text x → Reads text y → Then (Tables main) stage x a
      → Then (Tables main) stage y b → SameAnswer Same a b
  rooted_one Same stage one x y _ _ h i (refuses {r = r} t) (refuses {r = s} u) =
      tables_one x y (Err r) (Err s) h i t u
  rooted_one Same stage one x y _ b h i (refuses {r = r} t) (passes n u k) =
      absurd (tables_one x y (Err r) (Ok n) h i t u)
  rooted_one Same stage one x y a _ h i (passes m t k) (refuses {r = r} u) =
      absurd (tables_one x y (Ok m) (Err r) h i t u)
  rooted_one Same stage one x y a b h i (passes m (rooted p g) k) (passes n (rooted q l) j) =
      one x y m n h i p q l a b k j
