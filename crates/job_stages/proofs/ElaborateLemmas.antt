-- From a text to its system, as the calls of the stages answer.
use Rattle.std.proofs.Common.{◌≡◌, ℕ, List, Option, Result, Ok, Err, refl, sym, ◌∙◌, ap, subst}
use Rattle.ar_base.specs.Breach.{AreKept}
use Rattle.ar_base.specs.Stages.{passes, kept, fits}
use Rattle.ar_base.specs.StagesInside.{IsRefusal, rule_told, Meets}
use Rattle.ar_base.specs.declared.faults.RuleFault.{RuleFault}
use Rattle.ar_base.specs.declared.faults.RuleFault.TheVariants.{Rule, Limit, Memory}
use Rattle.ar_base.specs.declared.places.Place.{Place}
use Rattle.ar_syntax.specs.declared.items.Model.{Model}
use Rattle.ar_parser.specs.Models.{HasFaultAt, SyntaxStandsAt, DepthStandsAt}
use Rattle.ar_parser.specs.declared.fault.ParseFault.{ParseFault}
use Rattle.ar_parser.specs.declared.fault.ParseFault.TheVariants as parse
use Rattle.class_table.specs.Declaring.{Declared, IsDeclared}
use Rattle.class_table.specs.Rules.{BreaksTextRule, text_rules}
use Rattle.class_table.specs.Tabling.{Tabulates, table, breach}
use Rattle.class_table.specs.declared.tables.Classes.{Classes}
use Rattle.hierarchy.specs.Listing.{Unfolded}
use Rattle.hierarchy.specs.Models.{RootedModel, IsRootedIn}
use Rattle.hierarchy.specs.ModelsInside.{IsKeptTable}
use Rattle.hierarchy.specs.Tie.{IsTreeOf}
use Rattle.hierarchy.specs.declared.tree.Tree.{Tree}
use Rattle.gts_core.specs.declared.system.GtsParts.{GtsParts}
use Rattle.gts_flatten.specs.Elaborating.{Elaborated, Flattens, has}
use Rattle.gts_flatten.specs.Flat.{IsFlat}
use Rattle.source_meaning.specs.Systems.{Declarations, AreOf, Binds, declares}
use Rattle.job_stages.specs.Elaborates.{Parses, no_tokens, no_reading, too_deep, Tables, Ruled}
use Rattle.job_stages.specs.Elaborates as elaborates
use Rattle.job_stages.specs.Passing.{stop_of_parse, stop_of_rules, IsStageOf, IsFlattened}
use Rattle.job_stages.specs.declared.refusals.Refusal.{Refusal}
use Rattle.job_stages.specs.declared.stops.Stop.{Stop}

-- The grammar

-- what a refusal of the grammar tells
pub record Unparsed (text : List ℕ) (e : ParseFault) : Type 0 where
  pub lex : (p : Place) → e ≡ parse.Lex p → HasFaultAt text p
  pub syntax_at : (p : Place) → e ≡ parse.Syntax p → SyntaxStandsAt text p
  pub depth : (p : Place) → e ≡ parse.Depth p → DepthStandsAt text p

pub parse_stops : (text : List ℕ) (r : Result Model Stop) (d : Stop) (e : ParseFault) → r ≡ Err d → d ≡ stop_of_parse e
    → Unparsed text e
    → IsStageOf (λ (m model : Model). model ≡ m) (Parses text) r
parse_stops text r d e i j h =
    subst (λ (z : Result Model Stop). IsStageOf (λ (m model : Model). model ≡ m) (Parses text) z) (sym (i ∙ ap Err j))
    (go e h)
  where
    go : (e : ParseFault) → Unparsed text e
        → IsStageOf {X = Model} (λ (m model : Model). model ≡ m) (Parses text) (Err (stop_of_parse e))
    go (parse.Lex p) h = no_tokens (h.lex p refl)
    go (parse.Syntax p) h = no_reading (h.syntax_at p refl)
    go (parse.Depth p) h = too_deep (h.depth p refl)
    go parse.Memory h = tt

-- Rules and limits

module _ {A B X : Type 0} (stage : A → Result B RuleFault → Type 0) (stands : B → X → Type 0) (a : A) where
  -- a stage of rules and limits stops, and with it the job
  pub ruled_stops : (d : Stop) (e : RuleFault) → d ≡ stop_of_rules e → IsRefusal (stage a) (rule_told e)
      → IsStageOf {X = X} stands (Ruled stage a) (Err d)
  ruled_stops d e j h = subst (λ (z : Stop). IsStageOf {X = X} stands (Ruled stage a) (Err z)) (sym j) (go e h)
    where
      go : (e : RuleFault) → IsRefusal (stage a) (rule_told e)
          → IsStageOf {X = X} stands (Ruled stage a) (Err (stop_of_rules e))
      go (Rule r p) h = elaborates.breaks h
      go (Limit count) h = elaborates.exceeds h
      go Memory h = tt

  -- it is passed
  pub ruled_passes : (x : X) → Meets stage stands a (Ok x) → IsStageOf stands (Ruled stage a) (Ok x)
  ruled_passes x h = (h.0, elaborates.passes h.1, h.2)

-- The table

module _ (main : Option (List ℕ)) (model : Model) where
  table_refused : (e : RuleFault) → IsRefusal (Tabulates main model) (rule_told e)
      → IsRefusal (Tables main model) (rule_told e)
  table_refused (Rule r p) (breach d is b) = elaborates.breach d is b
  table_refused (Limit count) h = elim h [ ]
  table_refused Memory h = tt

  -- the table is refused, and with it the model
  pub table_stops : (r : Result Classes RuleFault) (d e : RuleFault) → r ≡ Err d → d ≡ e
      → IsRefusal (Tabulates main model) (rule_told e)
      → Meets (Tables main) IsKeptTable model r
  table_stops r d e i j h =
      subst (λ (z : Result Classes RuleFault). Meets (Tables main) IsKeptTable model z) (sym (i ∙ ap Err j))
      (table_refused e h)

  -- the table is that of the model seen from its main block, which keeps the rules
  module _ (one : (d e : Declared) → IsDeclared model d → IsDeclared model e → d ≡ e) where
    kept_rooted : (c : Classes) (m : RootedModel) → Tabulates main model (Ok c) → IsRootedIn model main m
        → AreKept text_rules (BreaksTextRule model main m.declared)
    kept_rooted c m (table d is k) rooted =
        subst (λ (z : Declared). AreKept text_rules (BreaksTextRule model main z))
        (one d m.declared is.declared rooted.declared) k

    pub table_stands : (c x : Classes) → Tabulates main model (Ok c) → x ≡ c
        → (m : RootedModel) × IsRootedIn model main m × IsKeptTable m c
        → Meets (Tables main) IsKeptTable model (Ok x)
    table_stands c x h e r = (r.0, elaborates.rooted r.1 (kept_rooted c r.0 h r.1), subst (IsKeptTable r.0) (sym e) r.2)

-- The system

-- the declarations are those of the units
pub declared_of : (t : Unfolded) (d : Declarations) → Binds t (Ok d) → AreOf t.model t.units d
declared_of t d (passes u (kept k) (declares of)) = of

-- what is elaborated has these declarations
elaborated_of : (d : Declarations) (x : Elaborated) → Flattens d (Ok x) → x.declarations ≡ d
elaborated_of d x (passes e (kept k) (passes y (has i h) (passes z (fits l) (passes w (fits m) (fits n))))) = i

-- the tree and the flat system are those of one source
pub flattened : (t : Unfolded) (d : Declarations) (x : Elaborated) (tree : Tree) (p : GtsParts)
    → IsTreeOf t.model t.units tree → AreOf t.model t.units d
    → Flattens d (Ok x) → IsFlat x p → IsFlattened x (record { tree = tree; system = p })
flattened t d x tree p is of f flat =
    let e = elaborated_of d x f in
    let m = of.model in
    let u = of.units_are in
    let i = ap (λ (z : Declarations). z.model) e ∙ m in
    let j = ap (λ (z : Declarations). z.units) e ∙ u in
    record {
      is_tree =
          subst (λ z. IsTreeOf z x.declarations.units tree) (sym i) (subst (λ z. IsTreeOf t.model z tree) (sym j) is);
      flat = flat;
    }

-- a last stage stops
pub last_stops : {A B X : Type 0} (stage : A → Result B RuleFault → Type 0) (stands : B → X → Type 0) (a : A)
    (r : Result X RuleFault) (d e : RuleFault)
    → r ≡ Err d → d ≡ e
    → IsRefusal (stage a) (rule_told e) → Meets stage stands a r
last_stops {X = X} stage stands a r d e i j h =
    subst (λ (z : Result X RuleFault). Meets stage stands a z) (sym (i ∙ ap Err j)) h

-- a call of the job stops so
pub at_stop : {B X : Type 0} (stands : B → X → Type 0) (stage : Result B Refusal → Type 0) (r : Result X Stop)
    (d : Stop)
    → r ≡ Err d → IsStageOf {X = X} stands stage (Err d)
    → IsStageOf stands stage r
at_stop {X = X} stands stage r d i h = subst (λ (z : Result X Stop). IsStageOf stands stage z) (sym i) h
