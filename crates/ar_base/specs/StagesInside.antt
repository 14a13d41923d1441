-- Definitions beside those of Stages, of which clauses inside the program speak: what the whole program promises does
-- not rest on them.
use Rattle.std.specs.Prelude.{ℕ, Option, Some, None, Result, Ok, Err}
use Rattle.ar_base.specs.declared.faults.RuleFault.{RuleFault}
use Rattle.ar_base.specs.declared.faults.RuleFault.TheVariants.{Rule, Limit, Memory}
use Rattle.ar_base.specs.declared.places.Place.{Place}

-- the answer of the test of one rule, given the place where it is broken, if it is
abbrev pub kept_rule : ℕ → Option Place → Result (Unit {0}) RuleFault
kept_rule r (Some p) = Err (Rule r p)
kept_rule r None = Ok tt

-- the stage refuses so, or nothing is asked where the refusal is none of a stage's
abbrev pub IsRefusal : {B R : Type 0} → (Result B R → Type 0) → Option R → Type 0
IsRefusal stage (Some r) = stage (Err r)
IsRefusal stage None = Unit {0}

-- a call that stands for a stage: what it gives stands for what the stage gives, its refusal is the stage's, and memory
-- may be refused
-- (told: the stage's refusal that an error of the call tells, None for want of memory)
abbrev pub IsStage : {B R X E : Type 0} → (E → Option R) → (B → X → Type 0) → (Result B R → Type 0) → Result X E
    → Type 0
IsStage {B = B} told stands stage (Ok x) = (b : B) × stage (Ok b) × stands b x
IsStage told stands stage (Err e) = IsRefusal stage (told e)

-- what a refusal of rules and limits tells
abbrev pub rule_told : RuleFault → Option RuleFault
rule_told (Rule r p) = Some (Rule r p)
rule_told (Limit n) = Some (Limit n)
rule_told Memory = None

-- a call that stands for a stage of rules and limits, over what it is given
abbrev pub Meets : {A B X : Type 0} → (A → Result B RuleFault → Type 0) → (B → X → Type 0) → A → Result X RuleFault
    → Type 0
Meets stage stands a answer = IsStage rule_told stands (stage a) answer
