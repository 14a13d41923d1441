-- What a command demands of a system it demands of one that is alike: the static fragment, and a gate table that is not
-- too large.
use Rattle.std.proofs.Common.{◌≡◌, ℕ, Option, List, Err, refl, sym, ◌∙◌, ap, subst}
use Rattle.ar_base.specs.Stages.{Where}
use Rattle.ar_base.specs.Texts.{text_at}
use Rattle.ar_firing.specs.Rules.{rule_number, Spot, AtEvent, AtUnit, AtVariable, AtObserver, AtWhole, IsFirstBroken, IsAskedUpTo, KeepsUpTo}
use Rattle.ar_firing.proofs.ImageRules.{first_broken_there, keeps_asked_there}
use Rattle.ar_meaning.specs.TraceText.{Naming}
use Rattle.eq_core.specs.Gates.{Table}
use Rattle.hierarchy.specs.Units.{Thing}
use Rattle.gts_flatten.specs.Elaborating.{Elaborated}
use Rattle.job_inputs.specs.declared.wanting.Wanted.{Wanted}
use Rattle.run_words.specs.declared.jobs.Asked.{Asked}
use Rattle.run_words.specs.declared.verbs.Verb.{Verb}
use Rattle.table_text.specs.Texts.{IsTableFor}
use Rattle.job_stages.specs.Stages.{Ready, spot_path, is_static, Static, keeps, outside, has_table, IsTableOf, Tabled, fits, exceeds, Asks, Demands, Readies}
use Rattle.job_stages.specs.declared.refusals.Refusal.TheVariants.{Outside}
use Rattle.source_laws.specs.Declarations.{IsSameThing}
use Rattle.source_laws.specs.Sources.{SameSource}
use Rattle.job_laws.specs.Ready.{SameReady}
use Rattle.job_laws.proofs.ReadyAsking.{asks_carries}
use Rattle.job_laws.proofs.Carrying.{Carries, then_carries, where_carries}
use Rattle.job_laws.proofs.Shared.{Share}
use Rattle.job_laws.proofs.Tables.{table_there}

module _ (x y : Elaborated) (s : Share x y) where
  spot_same : (spot : Spot) → spot_path x spot ≡ spot_path y spot
  spot_same (AtEvent n) = ap (λ (z : Naming). text_at z.events n) s.naming
  spot_same (AtUnit n) = ap (λ (z : List (List ℕ)). text_at z n) s.unit_paths
  spot_same (AtVariable n) = ap (λ (z : Naming). text_at z.variables n) s.naming
  spot_same (AtObserver n) = ap (λ (z : Naming). text_at z.observers n) s.naming
  spot_same AtWhole = refl

  pub table_of_there : (dropped : List ℕ) (wanted : Wanted) (table : Table) → IsTableOf x dropped wanted table
      → IsTableOf y dropped wanted table
  table_of_there dropped wanted table h =
      subst (λ (z : List Thing). IsTableFor z y.system dropped wanted.observer wanted.value table) s.variables
      (table_there _ x.system y.system s.system dropped wanted.observer wanted.value table h)

module _ (shared : (x y : Elaborated) → SameSource x y → Share x y) where
  static_carries : Carries SameReady SameReady Static
  static_carries w v same _ (keeps h) =
      let there = keeps_asked_there IsSameThing w.source.system v.source.system same.source.system w.dropped h in
      let kept = subst (λ (z : List ℕ). KeepsUpTo w.order v.source.system z) same.dropped there in
      (v, keeps (subst (λ (o : Option ℕ). KeepsUpTo o v.source.system v.dropped) same.order kept), same)
  static_carries w v same _ (outside {rule = r} {spot = a} q h) =
      let there = first_broken_there IsSameThing w.source.system v.source.system same.source.system w.dropped h in
      subst (λ (z : List ℕ). Static v (Err (Outside (rule_number r) z)))
      (sym (spot_same w.source v.source (shared w.source v.source same.source) a))
      (outside (subst (λ (o : Option ℕ). IsAskedUpTo o r) same.order q)
      (subst (λ (z : List ℕ). IsFirstBroken v.source.system z r a) same.dropped there))

  table_at : (w v : Ready) → SameReady w v → (wanted : Wanted) (table : Table)
      → IsTableOf w.source w.dropped wanted table → IsTableOf v.source v.dropped wanted table
  table_at w v same wanted table h =
      subst (λ (z : List ℕ). IsTableOf v.source z wanted table) same.dropped
      (table_of_there w.source v.source (shared w.source v.source same.source) w.dropped wanted table h)

  tabled_carries : Carries SameReady SameReady Tabled
  tabled_carries w v same _ (fits {wanted = a} {table = t} e h less) =
      (v, fits (sym same.wanted ∙ e) (table_at w v same a t h) less, same)
  tabled_carries w v same _ (exceeds {wanted = a} {table = t} e h less) =
      exceeds (sym same.wanted ∙ e) (table_at w v same a t h) less

  demands_carry : (command : Verb) → Carries SameReady SameReady (Demands command)
  demands_carry command =
      then_carries SameReady SameReady SameReady (Where (is_static command) Static) (Where (has_table command) Tabled)
      (where_carries SameReady Static (is_static command) static_carries)
      (where_carries SameReady Tabled (has_table command) tabled_carries)

  -- from the system on
  pub readies_carry : (asked : Asked) (texts : List (List ℕ)) → Carries SameSource SameReady (Readies asked texts)
  readies_carry asked texts =
      then_carries SameSource SameReady SameReady (Asks asked texts) (Demands asked.job.command)
      (asks_carries shared asked texts) (demands_carry asked.job.command)
