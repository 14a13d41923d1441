-- In models that agree expressions that agree mean the same, and parameters have the same values.
use Rattle.std.specs.Prelude.{◌≡◌, ℕ, Bool, List, ◌∷◌}
use Rattle.std.proofs.Common.{refl, sym, ap, subst, ◌∙◌}
use Rattle.ar_base.specs.Lists.{Along, Stands}
use Rattle.ar_base.specs.Lists as along
use Rattle.ar_base.specs.Numbers.{NameId}
use Rattle.ar_syntax.specs.declared.expressions.RawExpr.{RawExpr}
use Rattle.ar_syntax.specs.declared.expressions.RawForm.{out-RawForm}
use Rattle.ar_syntax.specs.declared.members.Member.{Member, out-Member}
use Rattle.ar_syntax.specs.declared.paths.Path.{Path}
use Rattle.ar_syntax.specs.declared.paths.PathStart.{PathStart}
use Rattle.domains.specs.declared.Value.{Value}
use Rattle.typed_expr.specs.Yields.{Level}
use Rattle.typed_expr.specs.declared.expr.Expr.{Expr, out-Expr}
use Rattle.parser_laws.specs.Expressions.{SamePath, SameExpr}
use Rattle.parser_laws.specs.Members.{SameMember}
use Rattle.parser_laws.specs.Opened.{SameForm, SameKind}
use Rattle.class_table.specs.Members.{MemberKind}
use Rattle.hierarchy.specs.Models.{RootedModel}
use Rattle.hierarchy.specs.Units.{UnitPath, Thing, numbers}
use Rattle.hierarchy.specs.Walks.{LeadsTo, IsThingAt, Finds, is_variable}
use Rattle.source_laws.specs.Named.{SameMeant}
use Rattle.source_laws.specs.Named as meant
use Rattle.source_laws.specs.Tables.{SameRooted}
use Rattle.source_laws.proofs.Forced.{leads_to_there, thing_there, in_force_same}
use Rattle.source_laws.proofs.Leading.{variable_same, kind_same}
use Rattle.source_laws.proofs.Ruled.{none_there}
use Rattle.source_laws.proofs.Settled.{other_of}
use Rattle.written_forms.specs.Operands.{RawLevel, level_of}
use Rattle.source_meaning.specs.Means.{Means, All_mean, Parts_mean, Cases_mean, ValueOf, is_valued, IsSymbol}
use Rattle.source_meaning.specs.Means as means
use Rattle.source_laws.proofs.Levels.{SameTerm, SameCase, SameLevels, level_there}
use Rattle.source_laws.proofs.Levels as same

pub valued_same : {k l : MemberKind} → SameMeant k l → is_valued k ≡ is_valued l
valued_same meant.inner = refl
valued_same (meant.clone s) = refl
valued_same (meant.alias s) = refl
valued_same (meant.variable s) = refl
valued_same (meant.parameter s) = refl
valued_same meant.kept = refl
valued_same meant.event = refl
valued_same (meant.observer s) = refl

module _ (forms : (e f : RawExpr) → SameExpr e f → SameForm (out-RawForm e.form) (out-RawForm f.form))
    (kinds : (m n : Member) → SameMember m n → SameKind (out-Member m) (out-Member n)) (m n : RootedModel)
    (agree : SameRooted m n) where
  -- Paths

  pub path_leads_there : {u : UnitPath} {p q : Path} {t : Thing} → SamePath p q
      → LeadsTo m u p.start (numbers p.names.items) t → LeadsTo n u q.start (numbers q.names.items) t
  path_leads_there {u = u} {p = p} {q = q} {t = t} s h =
      subst (λ (z : List NameId). LeadsTo n u q.start (numbers z) t) s.names
      (subst (λ (z : PathStart). LeadsTo n u z (numbers p.names.items) t) s.start (leads_to_there kinds m n agree h))

  pub finds_there : (test : MemberKind → Bool) → ((k l : MemberKind) → SameMeant k l → test k ≡ test l)
      → {u : UnitPath} {p q : Path} {t : Thing} → SamePath p q → Finds m test u p t → Finds n test u q t
  finds_there test one {u = u} {p = p} {q = q} {t = t} s h =
      subst (λ (z : List NameId). IsThingAt n test u q.start (numbers z) t) s.names
      (subst (λ (z : PathStart). IsThingAt n test u z (numbers p.names.items) t) s.start
      (thing_there kinds m n agree test one u p.start (numbers p.names.items) t h))

  pub variable_found : {u : UnitPath} {p q : Path} {t : Thing} → SamePath p q → Finds m is_variable u p t
      → Finds n is_variable u q t
  variable_found s h = finds_there is_variable (λ k l r. variable_same r) s h

  pub valued_found : {u : UnitPath} {p q : Path} {t : Thing} → SamePath p q → Finds m is_valued u p t
      → Finds n is_valued u q t
  valued_found s h = finds_there is_valued (λ k l r. valued_same r) s h

  pub symbol_there : {u : UnitPath} {p q : Path} {k : ℕ} → SamePath p q → IsSymbol m u p k → IsSymbol n u q k
  symbol_there {u = u} {k = k} s h = record {
    name = h.name;
    here = sym s.start ∙ h.here;
    single = ap numbers (sym s.names) ∙ h.single;
    not_given = none_there (kind_same kinds m n agree u h.name) h.not_given;
    stands = subst (λ (z : List ℕ). Stands z k h.name) agree.declared.symbols h.stands;
  }

  -- Expressions

  mutual
    -- an expression means the same
    pub means_there : {u : UnitPath} {l k : RawLevel} {e : Level Thing} → SameLevels l k → Means m u l e → Means n u k e
    means_there same.truth means.truth = means.truth
    means_there same.whole means.whole = means.whole
    means_there (same.path s) (means.variable f) = means.variable (variable_found s f)
    means_there (same.path s) (means.parameter t f v) = means.parameter t (valued_found s f) (value_there v)
    means_there (same.path s) (means.symbol h) = means.symbol (symbol_there s h)
    means_there (same.opposite {a = a} {b = b} s) (means.opposite d) =
        means.opposite (means_there (level_there forms a.value b.value s) d)
    means_there (same.negative {a = a} {b = b} s) (means.negative e d i) =
        means.negative e (means_there (level_there forms a.value b.value s) d) i
    means_there (same.all s) (means.all d) = means.all (all_there s d)
    means_there (same.any s) (means.any d) = means.any (all_there s d)
    means_there (same.compared {a = a} {b = b} {c = c} {d = g} s r) (means.compared d e) =
        means.compared (means_there (level_there forms a.value c.value s) d)
        (means_there (level_there forms b.value g.value r) e)
    means_there (same.sum s) (means.sum d) = means.sum (parts_there s d)
    means_there (same.product s) (means.product d) = means.product (all_there s d)
    means_there (same.least s) (means.least d) = means.least (all_there s d)
    means_there (same.greatest s) (means.greatest d) = means.greatest (all_there s d)
    means_there (same.count s) (means.count d) = means.count (all_there s d)
    means_there (same.choice {a = a} {b = b} s r) (means.choice d e) =
        means.choice (cases_there s d) (means_there (level_there forms a.value b.value r) e)

    all_there : {u : UnitPath} {rs qs : List RawExpr} {es : List (Expr Thing)} → Along SameExpr rs qs
        → All_mean m u rs es → All_mean n u qs es
    all_there along.none means.none = means.none
    all_there (along.one_and {a = r} {b = q} s more) (means.one_and d ds) =
        means.one_and (means_there (level_there forms r q s) d) (all_there more ds)

    parts_there : {u : UnitPath} {rs qs : List (Bool × RawExpr)} {es : List (Bool × Expr Thing)}
        → Along SameTerm rs qs → Parts_mean m u rs es → Parts_mean n u qs es
    parts_there along.none means.no_part = means.no_part
    parts_there {u = u} (along.one_and {b = q} {ys = qs} s more)
        (means.part {plus = plus} {r = r} {e = e} {es = es} d ds) =
        subst (λ (b : Bool). Parts_mean n u (q ∷ qs) ((b, e) ∷ es)) (sym s.0)
        (means.part (means_there (level_there forms r q.1 s.1) d) (parts_there more ds))

    cases_there : {u : UnitPath} {rs qs : List (RawExpr × RawExpr)} {es : List (Expr Thing × Expr Thing)}
        → Along SameCase rs qs → Cases_mean m u rs es → Cases_mean n u qs es
    cases_there along.none means.no_case = means.no_case
    cases_there (along.one_and {b = c} s more) (means.case_and {q = q} {r = r} d e ds) =
        means.case_and (means_there (level_there forms q c.0 s.0) d) (means_there (level_there forms r c.1 s.1) e)
        (cases_there more ds)

    -- a thing has the same value
    pub value_there : {t : Thing} {v : Value} → ValueOf m t v → ValueOf n t v
    value_there {t = t} (means.value a e i d y) =
        let o = other_of (in_force_same kinds m n agree t) a i in
        means.value o.0 e o.1
        (subst (λ (w : UnitPath). Means n w (level_of o.0.value) (out-Expr Thing e)) o.2.unit
        (means_there (level_there forms a.value o.0.value o.2.value) d)) y
