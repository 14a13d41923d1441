-- The same by the numbers of a flat system's ways.
use Rattle.std.specs.Prelude.{◌≡◌, ℕ, List, map, length}
use Rattle.ar_base.specs.Lists.{Stands}
use Rattle.ar_base.specs.NumbersInside.{EventId}
use Rattle.domains.specs.declared.Value.{Value}
use Rattle.typed_expr.specs.declared.expr.Expr.{Expr}
use Rattle.ar_meaning.specs.Systems.{System}
use Rattle.ar_meaning.specs.Runs.{Label}
use Rattle.gts_core.specs.declared.bound.Chain.{Chain}
use Rattle.gts_core.specs.declared.system.GtsParts.{GtsParts}
use Rattle.job_inputs.specs.Chains.{chain_labels}
use Rattle.cut_check.specs.Verdicts.{Said, IsGood, Fails, Holds, IsSaid}
use Rattle.cut_check.specs.declared.checking.Verdict.{Verdict}
use Rattle.cut_check.specs.declared.checking.Verdict.TheVariants as verdict

-- the lines of these chains
abbrev pub chain_lines : GtsParts → List Chain → List (List Label)
chain_lines p chains = map (λ (c : Chain). chain_labels p c.ways.items) chains

-- the numbers of these events
abbrev pub flat_event_numbers : List EventId → List ℕ
flat_event_numbers events = map (λ (e : EventId). e.n) events

-- the verdict says so, a line that is held by its number in the list
abbrev pub TellsVerdict : List Chain → Verdict → Said → Type 0
TellsVerdict chains verdict.Good said = said ≡ IsGood
TellsVerdict chains verdict.Fails said = said ≡ Fails
TellsVerdict chains (verdict.Holds line) said = (k : ℕ) × (c : Chain) × Stands chains k c × (c.line ≡ line) × (said ≡ Holds k)

-- the verdict is what is said of line n, by the chains of the lines
abbrev pub IsVerdict : System ℕ → List ℕ → Expr ℕ → Value → List (List Label) → List Chain → ℕ → Verdict → Type 0
IsVerdict sys dropped observer wanted lines chains n v =
    (said : Said) × TellsVerdict chains v said × IsSaid sys dropped observer wanted lines n said

-- a verdict for each chain, in order
pub record AreVerdicts (p : GtsParts) (sys : System ℕ) (dropped : List ℕ) (observer : Expr ℕ) (wanted : Value)
    (chains : List Chain) (all : List Verdict) : Type 0 where
  pub long : length all ≡ length chains
  pub each : (n : ℕ) (v : Verdict) → Stands all n v
      → IsVerdict sys dropped observer wanted (chain_lines p chains) chains n v
