-- What the expression of a value comes to is the value.
use Rattle.std.proofs.Common.{◌≡◌, ℕ, ◌+◌, ◌<◌, ◌≤◌, inl, inr, zero, suc, false, option_map, take, length, List, [], ◌∷◌, ◌++◌, Option, Some, refl, sym, ◌∙◌, ap, subst, arith}
use Rattle.std.proofs.lemmas.List.{take_all}
use Rattle.ar_base.specs.Lists.{Stands, Along}
use Rattle.ar_base.specs.Lists as along
use Rattle.ar_base.specs.Numbers.{VarId}
use Rattle.ar_base.specs.declared.places.Place.{Place}
use Rattle.ar_base.proofs.Standing.{along_on, stands_none}
use Rattle.ar_base.proofs.Comparing.{side}
use Rattle.ar_syntax.specs.declared.expressions.RawExpr.{RawExpr}
use Rattle.ar_syntax.specs.declared.paths.Path.{Path}
use Rattle.class_table.proofs.Taken.{take_next}
use Rattle.class_table.specs.Members.{NamedMember}
use Rattle.domains.specs.declared.Value.{Value}
use Rattle.domains.specs.declared.Value.TheVariants.{Truth}
use Rattle.typed_expr.specs.Kinds.{kind_of}
use Rattle.typed_expr.specs.Total.{value_of}
use Rattle.typed_expr.specs.declared.expr.Expr.{Expr}
use Rattle.typed_expr.specs.declared.expr.ValueKind.{ValueKind}
use Rattle.typed_expr.proofs.Renaming.{carries, renames_turned}
use Rattle.hierarchy.specs.Models.{RootedModel}
use Rattle.hierarchy.specs.Units.{UnitPath, Thing, kind_at}
use Rattle.hierarchy.specs.Walks.{PassesTest}
use Rattle.hierarchy.specs.Listing.{parameters}
use Rattle.hierarchy.specs.Settings.{Attribute, in_force}
use Rattle.hierarchy.specs.Tie.{IsParameterNode, HasAttribute}
use Rattle.hierarchy.specs.declared.tree.ParNode.{ParNode}
use Rattle.bind_scopes.proofs.NamedPaths.{kind_one}
use Rattle.written_forms.specs.Operands.{level_of, OfKind, AnyKind, PathIn}
use Rattle.written_forms.specs.Wrong.{IsMistyped, itself, real, empty, inside}
use Rattle.written_forms.specs.Translating.{BecomesBy}
use Rattle.written_forms.specs.declared.naming.Leaf.{Leaf}
use Rattle.written_forms.specs.declared.naming.Leaf.TheVariants as stands
use Rattle.bind_scopes.specs.Scopes.{AreScopes, named_in}
use Rattle.bind_scopes.specs.declared.scopes.Scopes.{Scopes}
use Rattle.bind_scopes.proofs.Kinding.{variable_kind, valued_kind}
use Rattle.source_meaning.specs.Means.{is_valued, no_facts}
use Rattle.source_meaning.specs.Means as means
use Rattle.source_meaning.specs.Kinds.{HasKindAt, IsOfKind}
use Rattle.source_meaning.specs.Tested as s
use Rattle.source_meaning.specs.Tested.{IsReadable, of_variable, of_parameter, Tested, MayName, scope_of}
use Rattle.source_meaning.specs.Rules as rules
use Rattle.source_meaning.specs.BoundExpressions.{IsLeafFor, IsBoundExpression, IsNumberOfVariable}
use Rattle.source_meaning.proofs.BoundMeaning.{bound_meaning}
use Rattle.source_meaning.proofs.Attributed.{valued_attribute}
use Rattle.bind_names.specs.Leaves.{leaf_of}
use Rattle.bind_names.specs.Values.{AreNamesKept, IsValue, IsParameterValue, AreFirst, NamesBefore}
use Rattle.bind_names.proofs.Leafing.{Knows, constant_leaf}
use Rattle.bind_names.proofs.Yielding.{whole_valued}
use Rattle.gts_core.proofs.Reading.{read_value}

-- Lists

module _ {A : Type 0} where
  pub take_stands : (xs : List A) (n k : ℕ) (a : A) → k < n → Stands xs k a → Stands (take n xs) k a
  take_stands [] n k a l h = absurd (stands_none k a h)
  take_stands (x ∷ xs) zero k a l h = absurd (omega (arith, l))
  take_stands (x ∷ xs) (suc n) zero a l h = h
  take_stands (x ∷ xs) (suc n) (suc k) a l h = take_stands xs n k a (omega (arith, l)) h

module _ {A B : Type 0} {R : A → B → Type 0} where
  along_more : {xs : List A} {ys : List B} (a : A) (b : B) → Along R xs ys → R a b
      → Along R (xs ++ a ∷ []) (ys ++ b ∷ [])
  along_more a b along.none h = along.one_and h along.none
  along_more a b (along.one_and r rs) h = along.one_and r (along_more a b rs h)

  -- one item more
  pub along_next : (xs : List A) (k : ℕ) (a : A) (ys : List B) (b : B) → Stands xs k a → R a b → Along R (take k xs) ys
      → Along R (take (k + 1) xs) (ys ++ b ∷ [])
  along_next xs k a ys b s h r = subst (λ (zs : List A). Along R zs (ys ++ b ∷ [])) (sym (take_next xs k a s))
      (along_more a b r h)

  -- all items
  pub along_end : (xs : List A) (k : ℕ) (ys : List B) → length xs ≤ k → Along R (take k xs) ys → Along R xs ys
  along_end xs k ys l r = subst (λ (zs : List A). Along R zs ys) (take_all k xs l) r

-- Answers

-- Values

-- what is wrong where any kind is wanted is wrong where one is
any_wrong : {names : Path → ValueKind → Type 0} {e : RawExpr} {at : Place} (k : ValueKind)
    → IsMistyped names AnyKind e at → IsMistyped names (OfKind k) e at
any_wrong k (itself j want h w n) = elim w [ ]
any_wrong k (real q) = real q
any_wrong k (empty n) = empty n
any_wrong k (inside o i h) = inside o i h

module _ {m : RootedModel} {units : List UnitPath} {table : Scopes} (are : AreScopes m units table) where
  -- the kind of a thing that has a value
  pub value_kind : (t : Thing) → IsReadable m units t → (k : ValueKind) × IsOfKind m t k
  value_kind t (of_variable o) = let w = variable_kind are.is_tree o.place t o.stands in (w.0, w.2)
  value_kind t (of_parameter o h) = let w = valued_kind are.is_tree o.place t o.stands h in (w.0, w.2)

  module _ (kept : AreNamesKept m units) (t : Thing) (has : IsReadable m units t) (n : ℕ) (vs : List Value)
      (first : AreFirst m units n vs) (names : NamesBefore m units t n)
      (a : Attribute) (force : in_force m t ≡ Some a) (number : ℕ) (at : Stands units number a.unit) where
    abbrev stand : Path → Leaf
    stand p = leaf_of vs (named_in table number p)

    tested : (k : ValueKind) → IsOfKind m t k → Tested m units a.unit (scope_of t.name a.setting) k a.value
    tested k i = s.value t a has force i

    may : (p : Path) → PathIn p (level_of a.value) → (MayName m a.unit (scope_of t.name a.setting) p → ⊥) → ⊥
    may p i never =
        let w = value_kind t has in
        kept.naming p.at (rules.in_expression (scope_of t.name a.setting) w.0 a.value (tested w.0 w.1)
        (record { path = p; is_in = i; not = never; place = refl }))

    knows : (p : Path) → PathIn p (level_of a.value) → Knows m units a.unit p vs
    knows p i r k f st =
        let l : k < n = elim (side n k) [ inr l ↦ l | inl g ↦ absurd (may p i (λ h. let l = names.before a p r k force h f st in omega (arith, l, g))) ] in
        let b = along_on (take n (parameters m units)) vs first k r (take_stands (parameters m units) n k r l st) in
        subst (λ (z : Value). IsValue m r z) (sym (read_value vs k b.0 b.1)) (b.2.value f.has)

    constant : (p : Path) → PathIn p (level_of a.value)
        → (v : Value) × (stand p ≡ stands.Constant v) × HasKindAt m a.unit p (kind_of v)
        × IsLeafFor m [] a.unit p (stand p)
    constant p i = constant_leaf are number a.unit at vs p (knows p i) t.name a.setting (may p i)

    typed : (k : ValueKind) → IsOfKind m t k → (at : Place) → IsMistyped (HasKindAt m a.unit) (OfKind k) a.value at → ⊥
    typed k i at h = kept.kinds at (rules.in_expression (scope_of t.name a.setting) k a.value (tested k i) h)

    right_of : (e : Expr VarId) → BecomesBy stand a.value e → IsValue m t (value_of (λ _. Truth false) e)
    right_of e b = go (value_kind t has)
      where
        none : VarId → Value → Type 0
        none x v = ⊥

        meant : (k : ValueKind) → IsOfKind m t k → IsBoundExpression m [] a.unit a.value e
        meant k i = bound_meaning m [] a.unit stand a.value e (λ p j. (constant p j).3)
            (λ q h. typed k i q (any_wrong k h)) b

        go : (k : ValueKind) × IsOfKind m t k → IsValue m t (value_of (λ _. Truth false) e)
        go (k, i) =
            let y = whole_valued (HasKindAt m a.unit) stand none (λ _. Truth false) a.value e k (λ p j. let c = constant p j in record { value = c.0; is = c.1; kind = c.2 }) (typed k i) b in
            let w = meant k i in
            let z = carries VarId Thing none no_facts (λ x r. IsNumberOfVariable m [] r x) (λ x r v q h. absurd h) y.0
            (renames_turned (IsNumberOfVariable m []) w.numbers) in
            record {
              value = means.value a w.meaning force w.means z;
              kind = subst (λ (j : ValueKind). IsOfKind m t j) (sym y.1) i;
            }

    pub value_right : (w : RawExpr) (e : Expr VarId) (v : Value) → a.value ≡ w → BecomesBy stand w e
        → v ≡ value_of (λ _. Truth false) e → IsValue m t v
    value_right w e v q b i = subst (λ (z : Value). IsValue m t z) (sym i)
        (right_of e (subst (λ (z : RawExpr). BecomesBy stand z e) (sym q) b))

-- all values are the first ones
pub all_first : (m : RootedModel) (units : List UnitPath) (vs : List Value)
    → Along (IsParameterValue m) (parameters m units) vs → AreFirst m units (length (parameters m units)) vs
all_first m units vs r = subst (λ (z : List Thing). Along (IsParameterValue m) z vs)
    (sym (take_all (length (parameters m units)) (parameters m units) (omega arith))) r

pub parameter_attribute : (m : RootedModel) (units : List UnitPath) (t : Thing) (d : ParNode) → IsParameterNode m units
    t d → PassesTest m is_valued t → HasAttribute m units t d.value
parameter_attribute m units t d h v =
    let e : kind_at m t.unit t.name ≡ Some h.given.kind =
    ap (λ (o : Option NamedMember). option_map (λ (z : NamedMember). z.kind) o) h.node.is in
    valued_attribute m units t h.given.kind d.value (sym (ap is_valued (kind_one v.is e)) ∙ v.passes) h.value
