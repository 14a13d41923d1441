-- A written expression has one meaning, and a parameter one value.
use Rattle.std.proofs.Common.{◌≡◌, ℕ, Bool, true, false, List, [], ◌∷◌, ◌++◌, Option, Some, None, refl, sym, ◌∙◌, ap, subst}
use Rattle.ar_base.specs.Lists.{Stands, AreDifferent}
use Rattle.ar_syntax.specs.declared.paths.Path.{Path}
use Rattle.ar_syntax.specs.declared.paths.PathStart.{PathStart}
use Rattle.ar_syntax.specs.declared.paths.PathStart.TheVariants.{Here}
use Rattle.ar_syntax.specs.declared.expressions.RawExpr.{RawExpr}
use Rattle.domains.specs.declared.Value.{Value}
use Rattle.domains.specs.declared.Value.TheVariants.{Symbol}
use Rattle.typed_expr.specs.Yields.{Level}
use Rattle.typed_expr.specs.Renames.{Renames, All_rename, Parts_rename, Cases_rename}
use Rattle.typed_expr.specs.Renames as r
use Rattle.typed_expr.specs.declared.expr.Expr.{Expr, out-Expr}
use Rattle.typed_expr.specs.declared.expr.Expr.TheOpen.{Constant}
use Rattle.typed_expr.proofs.Renaming.{carries}
use Rattle.class_table.specs.Members.{MemberKind, Variable, Parameter, Kept, Inner, Clone, Alias, Event, Observer}
use Rattle.hierarchy.specs.Models.{RootedModel}
use Rattle.hierarchy.specs.Units.{UnitPath, Thing, kind_at, start_of, numbers}
use Rattle.hierarchy.specs.Walks.{Reaches, NamesLead, arrives, Finds, LeadsTo, PassesTest, is_variable}
use Rattle.hierarchy.specs.Settings.{Attribute}
use Rattle.hierarchy.proofs.Outcomes.{walks_same, unit_of_reaches}
use Rattle.source_meaning.specs.Means.{Means, All_mean, Parts_mean, Cases_mean, ValueOf, is_valued, IsSymbol, no_facts}
use Rattle.written_forms.specs.Operands.{RawLevel, level_of}
use Rattle.source_meaning.specs.Means as means
use Rattle.typed_expr.proofs.OneValue.{yields_one}

-- Things

-- two lists of the same names have the same last name and the same names before it
fronts_same : (xs ys : List ℕ) (x y : ℕ) → xs ++ x ∷ [] ≡ ys ++ y ∷ [] → xs ≡ ys
fronts_same [] [] x y e = refl
fronts_same [] (b ∷ []) x y e = cc
fronts_same [] (b ∷ c ∷ ys) x y e = cc
fronts_same (a ∷ []) [] x y e = cc
fronts_same (a ∷ b ∷ xs) [] x y e = cc
fronts_same (a ∷ xs) (b ∷ ys) x y e =
    let tails : xs ++ x ∷ [] ≡ ys ++ y ∷ [] = cc in
    let heads : a ≡ b = cc in
    let fronts : xs ≡ ys = fronts_same xs ys x y tails in
    cc

lasts_same : (xs ys : List ℕ) (x y : ℕ) → xs ++ x ∷ [] ≡ ys ++ y ∷ [] → x ≡ y
lasts_same [] [] x y e = cc
lasts_same [] (b ∷ []) x y e = cc
lasts_same [] (b ∷ c ∷ ys) x y e = cc
lasts_same (a ∷ []) [] x y e = cc
lasts_same (a ∷ b ∷ xs) [] x y e = cc
lasts_same (a ∷ xs) (b ∷ ys) x y e =
    let tails : xs ++ x ∷ [] ≡ ys ++ y ∷ [] = cc in
    lasts_same xs ys x y tails

abbrev named : UnitPath → ℕ → Thing
named u x = record { unit = u; name = x }

thing_same : {t s : Thing} → t.unit ≡ s.unit → t.name ≡ s.name → t ≡ s
thing_same {t = t} {s = s} p q = ap (λ u. named u t.name) p ∙ ap (named s.unit) q

pub leads_same : {m : RootedModel} {u : UnitPath} {start : PathStart} {names : List ℕ} {t s : Thing}
    → LeadsTo m u start names t → LeadsTo m u start names s → t ≡ s
leads_same {m = m} {u = u} {start = start} {t = t} {s = s} d e =
    let joined : d.front ++ t.name ∷ [] ≡ e.front ++ s.name ∷ [] = sym d.split ∙ e.split in
    let fronts = fronts_same d.front e.front t.name s.name joined in
    let there = subst (λ xs. NamesLead m [] (start_of start u) xs (Reaches s.unit)) (sym fronts) e.reaches in
    thing_same (unit_of_reaches (walks_same d.reaches there)) (lasts_same d.front e.front t.name s.name joined)

-- a variable is no parameter
pub apart : (w : MemberKind) → is_variable w ≡ true → is_valued w ≡ true → ⊥
apart (Variable d settings) p q = cc
apart (Inner b from) p q = cc
apart (Clone l) p q = cc
apart (Alias l) p q = cc
apart (Parameter t e) p q = cc
apart Kept p q = cc
apart Event p q = cc
apart (Observer t e) p q = cc

same_what : {o : Option MemberKind} {v w : MemberKind} → o ≡ Some v → o ≡ Some w → v ≡ w
same_what p q = cc

pub never_both : {m : RootedModel} {t s : Thing} → t ≡ s → PassesTest m is_variable t → PassesTest m is_valued s → ⊥
never_both {m = m} {t = t} {s = s} e h k =
    let there = subst (λ (x : Thing). kind_at m x.unit x.name ≡ Some k.kind) (sym e) k.is in
    let one = same_what h.is there in
    apart k.kind (subst (λ w. is_variable w ≡ true) one h.passes) k.passes

-- a single name of which the unit knows nothing names no thing of a unit
given_nothing : {o : Option MemberKind} {w : MemberKind} → o ≡ None → o ≡ Some w → ⊥
given_nothing p q = cc

one_name : (xs : List ℕ) {x y : ℕ} → x ∷ [] ≡ xs ++ y ∷ [] → (xs ≡ []) × (x ≡ y)
one_name [] e = (refl, cc e)
one_name (a ∷ []) e = cc
one_name (a ∷ b ∷ xs) e = cc

goes_nowhere : {m : RootedModel} {u v : UnitPath} → NamesLead m [] (Some u) [] (Reaches v) → u ≡ v
goes_nowhere arrives = refl

-- a path that is one name names what the unit gives that name
pub single_found : {m : RootedModel} {u : UnitPath} (p : Path) {x : ℕ} {test : MemberKind → Bool} {t : Thing}
    → (f : Finds m test u p t) → p.start ≡ Here → numbers p.names.items ≡ x ∷ []
    → kind_at m u x ≡ Some f.has.kind
single_found {m = m} {u = u} p {x = x} {t = t} f here single =
    let names : x ∷ [] ≡ f.leads.front ++ t.name ∷ [] = sym single ∙ f.leads.split in
    let split = one_name f.leads.front names in
    let at_front = subst (λ xs. NamesLead m [] (start_of p.start u) xs (Reaches t.unit)) split.0 f.leads.reaches in
    let from_here = subst (λ b. NamesLead m [] (start_of b u) [] (Reaches t.unit)) here at_front in
    let known = subst (λ (v : UnitPath). kind_at m v t.name ≡ Some f.has.kind) (sym (goes_nowhere from_here))
    f.has.is in
    subst (λ z. kind_at m u z ≡ Some f.has.kind) (sym split.1) known

pub no_symbol : {m : RootedModel} {u : UnitPath} {p : Path} {k : ℕ} {test : MemberKind → Bool} {t : Thing}
    → Finds m test u p t → IsSymbol m u p k → ⊥
no_symbol {p = p} f s = given_nothing s.not_given (single_found p f s.here s.single)

-- Symbols

first_same : {x y : ℕ} → x ∷ [] ≡ y ∷ [] → x ≡ y
first_same e = cc

symbol_same : {m : RootedModel} {u : UnitPath} {p : Path} {j k : ℕ} → AreDifferent m.declared.symbols → IsSymbol m u p j
    → IsSymbol m u p k → j ≡ k
symbol_same {m = m} {j = j} {k = k} d s t =
    let name = first_same (sym t.single ∙ s.single) in
    d.one j k s.name s.stands (subst (λ x. Stands m.declared.symbols k x) name t.stands)

-- Expressions

constant_same : {v w : Value} → v ≡ w → Renames (λ (x y : Thing). x ≡ y) (Constant v) (Constant w)
constant_same {v = v} e = subst (λ w. Renames (λ (x y : Thing). x ≡ y) (Constant v) (Constant w)) e r.constant

no_fact : (x : Thing) (v w : Value) → no_facts x v → no_facts x w → v ≡ w
no_fact x v w h k = absurd h

kept : (x y : Thing) (v : Value) → x ≡ y → no_facts x v → no_facts y v
kept x y v e h = h

same_attribute : {o : Option Attribute} {a b : Attribute} → o ≡ Some a → o ≡ Some b → a ≡ b
same_attribute p q = cc

module _ (m : RootedModel) (different : AreDifferent m.declared.symbols) where
  mutual
    pub means_same : {u : UnitPath} {e : RawLevel} {l k : Level Thing} → Means m u e l → Means m u e k
        → Renames (λ (x y : Thing). x ≡ y) l k
    means_same means.truth means.truth = r.constant
    means_same means.whole means.whole = r.constant
    means_same (means.variable f) (means.variable g) = r.variable (leads_same f.leads g.leads)
    means_same (means.variable f) (means.parameter t g v) = absurd (never_both (leads_same f.leads g.leads) f.has g.has)
    means_same (means.variable f) (means.symbol s) = absurd (no_symbol f s)
    means_same (means.parameter t g v) (means.variable f) = absurd (never_both (leads_same f.leads g.leads) f.has g.has)
    means_same (means.parameter t g v) (means.parameter {v = w} t' g' v') =
        constant_same (value_same v (subst (λ s. ValueOf m s w) (sym (leads_same g.leads g'.leads)) v'))
    means_same (means.parameter t g v) (means.symbol s) = absurd (no_symbol g s)
    means_same (means.symbol s) (means.variable f) = absurd (no_symbol f s)
    means_same (means.symbol s) (means.parameter t g v) = absurd (no_symbol g s)
    means_same (means.symbol s) (means.symbol t) = constant_same (ap Symbol (symbol_same different s t))
    means_same (means.opposite d) (means.opposite e) = r.opposite (means_same d e)
    means_same (means.negative {parts = ps} x d p) (means.negative {parts = qs} y e q) =
        r.sum (subst (λ zs. Parts_rename (λ (x y : Thing). x ≡ y) zs qs.items) (sym p)
        (subst (λ zs. Parts_rename (λ (x y : Thing). x ≡ y) ((false, x) ∷ []) zs) (sym q)
        (r.part (means_same d e) r.no_part)))
    means_same (means.all d) (means.all e) = r.all (all_same d e)
    means_same (means.any d) (means.any e) = r.any (all_same d e)
    means_same (means.compared d e) (means.compared d' e') = r.compared (means_same d d') (means_same e e')
    means_same (means.sum d) (means.sum e) = r.sum (parts_same d e)
    means_same (means.product d) (means.product e) = r.product (all_same d e)
    means_same (means.least d) (means.least e) = r.least (all_same d e)
    means_same (means.greatest d) (means.greatest e) = r.greatest (all_same d e)
    means_same (means.count d) (means.count e) = r.count (all_same d e)
    means_same (means.choice d e) (means.choice d' e') = r.choice (cases_same d d') (means_same e e')

    all_same : {u : UnitPath} {es : List RawExpr} {ls ks : List (Expr Thing)} → All_mean m u es ls → All_mean m u es ks
        → All_rename (λ (x y : Thing). x ≡ y) ls ks
    all_same means.none means.none = r.none
    all_same (means.one_and d ds) (means.one_and e es) = r.one_and (means_same d e) (all_same ds es)

    parts_same : {u : UnitPath} {es : List (Bool × RawExpr)} {ls ks : List (Bool × Expr Thing)} → Parts_mean m u es ls
        → Parts_mean m u es ks → Parts_rename (λ (x y : Thing). x ≡ y) ls ks
    parts_same means.no_part means.no_part = r.no_part
    parts_same (means.part d ds) (means.part e es) = r.part (means_same d e) (parts_same ds es)

    cases_same : {u : UnitPath} {es : List (RawExpr × RawExpr)} {ls ks : List (Expr Thing × Expr Thing)}
        → Cases_mean m u es ls → Cases_mean m u es ks → Cases_rename (λ (x y : Thing). x ≡ y) ls ks
    cases_same means.no_case means.no_case = r.no_case
    cases_same (means.case_and d e ds) (means.case_and d' e' es) =
        r.case_and (means_same d d') (means_same e e') (cases_same ds es)

    pub value_same : {t : Thing} {v w : Value} → ValueOf m t v → ValueOf m t w → v ≡ w
    value_same {v = v} {w = w} (means.value a e i d y) (means.value b f j g z) =
        let there = subst (λ (x : Attribute). Means m x.unit (level_of x.value) (out-Expr Thing f))
        (sym (same_attribute i j)) g in
        let carried = carries Thing Thing no_facts no_facts (λ x y. x ≡ y) kept y (means_same d there) in
        yields_one Thing no_facts no_fact carried z
