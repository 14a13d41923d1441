-- What the command demands of the system: the static fragment, and a gate table that is not too large.
use Rattle.std.proofs.Common.{◌≡◌, ℕ, Bool, true, false, List, Some, Result, Ok, Err, length, refl, sym, ◌∙◌, ap, subst, arith}
use Rattle.ar_base.specs.Stages.{Then, passes, Where}
use Rattle.ar_firing.specs.Rules.{Rule, Spot, KeepsUpTo, rule_number}
use Rattle.ar_firing.specs.Static.{IsKeyedStatic}
use Rattle.ar_firing.proofs.RulesHold.{excludes, first_broken_same, asked_static}
use Rattle.eq_core.specs.Gates.{Table}
use Rattle.hierarchy.specs.Listing.{variables}
use Rattle.run_words.specs.Commands.{shape_of}
use Rattle.run_words.proofs.Reaches.{table_to_forest}
use Rattle.run_words.specs.declared.jobs.Asked.{Asked}
use Rattle.job_inputs.specs.declared.wanting.Wanted.{Wanted}
use Rattle.job_stages.specs.Stages.{Ready, is_static, spot_path, Static, keeps, outside, has_table, IsTableOf, Tabled, fits, exceeds, Asks, Demands, Readies}
use Rattle.job_stages.specs.declared.refusals.Refusal.{Refusal}
use Rattle.job_stages.specs.declared.refusals.Refusal.TheVariants.{Outside}
use Rattle.job_laws.specs.Definite.{IsDefinite}
use Rattle.job_laws.proofs.Asking.{OfDefinite, OneList, asks_one, asks_on, same_some}
use Rattle.job_laws.proofs.Stages.{IsOne, PassesOn, then_one, then_on, where_one, where_on, same_ok}
use Rattle.table_text.proofs.OneTable.{table_one}

-- its system without the dropped events keeps the rules
abbrev pub IsKeptBy : Ready → Type 0
IsKeptBy w = KeepsUpTo w.order w.source.system w.dropped

-- its source is definite, and it keeps the rules
abbrev pub IsFit : Ready → Type 0
IsFit w = IsDefinite w.source × IsKeptBy w

pub keyed_static : (w : Ready) → IsFit w → IsKeyedStatic w.source.system w.dropped
keyed_static w fit = record { keyed = fit.0.keyed; static = asked_static w.order w.source.system w.dropped fit.1 }

-- The static fragment

told_as : (w : Ready) (r q : Rule) (a b : Spot) → r ≡ q → a ≡ b
    → ◌≡◌ {A = Result Ready Refusal} (Err (Outside (rule_number r) (spot_path w.source a)))
    (Err (Outside (rule_number q) (spot_path w.source b)))
told_as w r q a b e f =
    ap (λ (z : Rule). Err (Outside (rule_number z) (spot_path w.source a))) e
    ∙ ap (λ (z : Spot). Err (Outside (rule_number q) (spot_path w.source z))) f

static_one : IsOne OfDefinite Static
static_one w is x y (keeps h) (keeps k) = refl
static_one w is x y (keeps h) (outside {rule = r} {spot = a} q b) =
    absurd (excludes w.source.system w.dropped r a (h.each r q) b.breaks)
static_one w is x y (outside {rule = r} {spot = a} q b) (keeps h) =
    absurd (excludes w.source.system w.dropped r a (h.each r q) b.breaks)
static_one w is x y (outside {rule = r} {spot = a} i h) (outside {rule = q} {spot = b} j k) =
    let e = first_broken_same w.source.system w.dropped h k in told_as w r q a b e.0 e.1

static_on : PassesOn OfDefinite Static IsFit
static_on w v is (keeps h) = (is, h)

static_passes : PassesOn OfDefinite Static OfDefinite
static_passes w v is (keeps h) = is

-- The gate table

-- what is asked for has one table
one_length : (w : Ready) → IsFit w → (a b : Wanted) (t u : Table) → w.wanted ≡ Some a → w.wanted ≡ Some b
    → IsTableOf w.source w.dropped a t → IsTableOf w.source w.dropped b u → length t.gates ≡ length u.gates
one_length w fit a b t u e f h k =
    let x = w.source in
    let same : b ≡ a = same_some w.wanted b a f e in
    let there = subst (λ (z : Wanted). IsTableOf x w.dropped z u) same k in
    let things = variables x.declarations.model x.declarations.units in
    ap (λ (z : Table). length z.gates)
    (table_one things x.system w.dropped (keyed_static w fit) a.observer a.value t u h there)

tabled_one : IsOne IsFit Tabled
tabled_one w fit x y (fits e h l) (fits f k m) = refl
tabled_one w fit x y (fits {wanted = a} {table = t} e h l) (exceeds {wanted = b} {table = u} f k m) =
    let i = one_length w fit a b t u e f h k in absurd (omega (arith, i, l, m))
tabled_one w fit x y (exceeds {wanted = b} {table = u} f k m) (fits {wanted = a} {table = t} e h l) =
    let i = one_length w fit a b t u e f h k in absurd (omega (arith, i, l, m))
tabled_one w fit x y (exceeds e h l) (exceeds f k m) = refl

tabled_on : PassesOn IsFit Tabled IsFit
tabled_on w v fit (fits e h l) = fit

-- Both

module _ (s t : Bool) where
  abbrev Both : Ready → Result Ready Refusal → Type 0
  Both = Then (Where s Static) (Where t Tabled)

both_one : (s t : Bool) → (t ≡ true → s ≡ true) → IsOne OfDefinite (Both s t)
both_one true true f w is x y h k =
    then_one OfDefinite IsFit Static Tabled static_one static_on tabled_one w is x y h k
both_one s false f w is x y h k =
    then_one OfDefinite OfDefinite (Where s Static) (Where false Tabled) (where_one OfDefinite Static s static_one)
    (where_on OfDefinite Static s static_passes) (λ v p a b i j. i ∙ sym j) w is x y h k
both_one false true f w is x y h k = let e : false ≡ true = f refl in cc

-- its source is definite, and where this is asked it keeps the rules
abbrev pub IsFitWhere : Bool → Ready → Type 0
IsFitWhere s w = IsDefinite w.source × (s ≡ true → IsKeptBy w)

static_where : (s : Bool) (w v : Ready) → OfDefinite w → Where s Static w (Ok v) → IsFitWhere s v
static_where true w v is (keeps h) = (is, λ e. h)
static_where false w v is h = (subst OfDefinite (sym (same_ok v w h)) is, λ e. let k : false ≡ true = e in cc)

table_same : (t : Bool) (w v : Ready) → Where t Tabled w (Ok v) → v ≡ w
table_same true w v (fits e h l) = refl
table_same false w v h = same_ok v w h

both_on : (s t : Bool) → PassesOn OfDefinite (Both s t) (IsFitWhere s)
both_on s t w v is (passes u h k) = subst (IsFitWhere s) (sym (table_same t u v k)) (static_where s w u is h)

-- All stages behind the source

module _ (asked : Asked) (texts : List (List ℕ)) where
  pub readies_one : OneList → IsOne IsDefinite (Readies asked texts)
  readies_one one_list x is a b h k =
      then_one IsDefinite OfDefinite (Asks asked texts) (Demands asked.job.command) (asks_one asked texts one_list)
      (asks_on asked texts) (both_one (is_static asked.job.command) (has_table asked.job.command) (table_to_forest (shape_of asked.job.command).reach)) x
      is a b h k

  pub readies_on : PassesOn IsDefinite (Readies asked texts) (IsFitWhere (is_static asked.job.command))
  readies_on x w is h =
      then_on IsDefinite OfDefinite (Asks asked texts) (Demands asked.job.command) (IsFitWhere (is_static asked.job.command))
      (asks_on asked texts) (both_on (is_static asked.job.command) (has_table asked.job.command)) x w is h
