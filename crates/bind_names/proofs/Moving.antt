-- Breaches by what a table of names tells, and by what the definitions say.
use Rattle.std.proofs.Common.{◌≡◌, true, false, List, Option, refl}
use Rattle.ar_base.specs.declared.places.Place.{Place}
use Rattle.ar_syntax.specs.declared.expressions.RawExpr.{RawExpr}
use Rattle.ar_syntax.specs.declared.paths.Path.{Path}
use Rattle.typed_expr.specs.declared.expr.ValueKind.{ValueKind}
use Rattle.written_forms.specs.Operands.{RawLevel, level_of, Demand, OfKind}
use Rattle.written_forms.specs.Forms.{HasForm, own, path, choice}
use Rattle.written_forms.specs.Wrong.{IsMisnamed, IsMistyped, itself, real, empty, inside, IsWantedKind, this, that_of}
use Rattle.written_forms.specs.WrongInside.{NamesKind, IsNamedPath}
use Rattle.written_forms.proofs.MisnamedForms.{misnamed_move}
use Rattle.written_forms.specs.Parts.{InstrForm}
use Rattle.written_forms.specs.PartsInside.{BreaksInside}
use Rattle.written_forms.specs.Breaches.{MisnamesItself, MistypesItself, MisplacedInAction, MisplacedInAssertion}
use Rattle.written_forms.specs.BreachesInside.{IsSort, IsTarget}
use Rattle.written_forms.specs.Breaches as b
use Rattle.class_table.specs.Earliest.{IsEarliest}
use Rattle.class_table.proofs.FirstPlaces.{earliest_same}
use Rattle.hierarchy.specs.Models.{RootedModel}
use Rattle.hierarchy.specs.Units.{UnitPath}
use Rattle.hierarchy.specs.Settings.{is_state_variable, is_flow_variable}
use Rattle.source_meaning.specs.Kinds.{HasKindAt}
use Rattle.source_meaning.specs.Rules.{IsNot, Is}
use Rattle.source_meaning.specs.Tested as s
use Rattle.bind_scopes.specs.Naming.{kind_in, sort_in}
use Rattle.bind_scopes.specs.declared.naming.Sort.TheVariants.{States, Flows}
use Rattle.bind_scopes.specs.declared.naming.UnitNames.{UnitNames}
use Rattle.bind_scopes.proofs.Kinding.{AreNamesOf, named_may, may_named, kind_names, names_kind, target_names, names_target, no_state, state_no, no_flow, flow_no, is_flow_named, named_flow}

module _ {names other : Path → ValueKind → Type 0} (to : (p : Path) (k : ValueKind) → names p k → other p k) where
  form_move : {l : RawLevel} {k : ValueKind} → HasForm names l k → HasForm other l k
  form_move (own e) = own e
  form_move (path {p = p} {k = k} h) = path (to p k h)
  form_move (choice h) = choice (form_move h)

  wanted_move : {d : Demand} {k : ValueKind} → IsWantedKind names d k → IsWantedKind other d k
  wanted_move this = this
  wanted_move (that_of h) = that_of (form_move h)

  mistyped_move : {d : Demand} {e : RawExpr} {at : Place} → IsMistyped names d e at → IsMistyped other d e at
  mistyped_move (itself k want h w n) = itself k want (form_move h) (wanted_move w) n
  mistyped_move (real q) = real q
  mistyped_move (empty n) = empty n
  mistyped_move (inside o i h) = inside o i (mistyped_move h)

  mistypes_move : {i : InstrForm} {at : Place} → MistypesItself names i at → MistypesItself other i at
  mistypes_move (b.test h) = b.test (mistyped_move h)
  mistypes_move (b.value {p = p} k n h) = b.value k (to p k n) (mistyped_move h)
  mistypes_move (b.tied {p = p} {q = q} j k n l d) = b.tied j k (to p j n) (to q k l) d

misnames_move : {may other is its : Path → Type 0} {i : InstrForm} {at : Place} → ((p : Path) → other p → may p)
    → ((p : Path) → its p → is p) → MisnamesItself may is i at → MisnamesItself other its i at
misnames_move f g (b.test h) = b.test (misnamed_move f h)
misnames_move f g (b.value h) = b.value (misnamed_move f h)
misnames_move f g (b.target {p = p} n) = b.target (λ v. n (g p v))
misnames_move f g (b.left {p = p} n) = b.left (λ v. n (g p v))
misnames_move f g (b.right {q = q} n) = b.right (λ v. n (g q v))

acts_move : {no other : Path → Type 0} {i : InstrForm} {at : Place} → ((p : Path) → no p → other p)
    → MisplacedInAction no i at → MisplacedInAction other i at
acts_move f (b.assigns {p = p} h) = b.assigns (f p h)
acts_move f b.ties = b.ties

asserts_move : {no other is its : Path → Type 0} {i : InstrForm} {at : Place} → ((p : Path) → no p → other p)
    → ((p : Path) → is p → its p) → MisplacedInAssertion no is i at → MisplacedInAssertion other its i at
asserts_move f g (b.assigns {p = p} h) = b.assigns (f p h)
asserts_move f g (b.left {p = p} h) = b.left (f p h)
asserts_move f g (b.right {p = p} {q = q} h k) = b.right (g p h) (f q k)

inside_move : {P Q : InstrForm → Place → Type 0} {whole : InstrForm} {at : Place} → ((i : InstrForm) → P i at → Q i at)
    → BreaksInside P whole at → BreaksInside Q whole at
inside_move f h = record { part = h.part; is_part = h.is_part; broken = f h.part h.broken }

module _ {m : RootedModel} {units : List UnitPath} {u : UnitPath} {names : UnitNames} where
  pub expression_named : {meant : s.Scope} → AreNamesOf m units u meant names → (e : RawExpr) (r : Option Place)
      → IsEarliest (IsMisnamed (IsNamedPath (kind_in names)) (level_of e)) r
      → IsEarliest (IsMisnamed (s.MayName m u meant) (level_of e)) r
  expression_named h e r k = earliest_same r (λ p x. misnamed_move (λ q may. may_named h q may) x)
      (λ p x. misnamed_move (λ q n. named_may h q n) x) k

  module _ (h : AreNamesOf m units u s.Everything names) where
    pub expression_typed : (kind : ValueKind) (e : RawExpr) (r : Option Place)
        → IsEarliest (IsMistyped (NamesKind (kind_in names)) (OfKind kind) e) r
        → IsEarliest (IsMistyped (HasKindAt m u) (OfKind kind) e) r
    expression_typed kind e r k = earliest_same r (λ p x. mistyped_move (λ q j n. kind_names h q j n) x)
        (λ p x. mistyped_move (λ q j n. names_kind h q refl j n) x) k

    pub inside_named : (i : InstrForm) (r : Option Place)
        → IsEarliest (BreaksInside (MisnamesItself (IsNamedPath (kind_in names)) (IsTarget (sort_in names))) i) r
        → IsEarliest (BreaksInside (MisnamesItself (s.MayName m u s.Everything) (s.NamesVariable m u)) i) r
    inside_named i r k = earliest_same r
        (λ p x. inside_move (λ j y. misnames_move (λ q may. may_named h q may) (λ q v. names_target h q v) y) x)
        (λ p x. inside_move (λ j y. misnames_move (λ q n. named_may h q n) (λ q v. target_names h q v) y) x) k

    pub inside_typed : (i : InstrForm) (r : Option Place)
        → IsEarliest (BreaksInside (MistypesItself (NamesKind (kind_in names))) i) r
        → IsEarliest (BreaksInside (MistypesItself (HasKindAt m u)) i) r
    inside_typed i r k = earliest_same r
        (λ p x. inside_move (λ j y. mistypes_move (λ q l n. kind_names h q l n) y) x)
        (λ p x. inside_move (λ j y. mistypes_move (λ q l n. names_kind h q refl l n) y) x) k

    pub inside_acted : names.sort ≡ States → (i : InstrForm) (r : Option Place)
        → IsEarliest (BreaksInside (MisplacedInAction (IsSort (sort_in names) false)) i) r
        → IsEarliest (BreaksInside (MisplacedInAction (IsNot m is_state_variable u)) i) r
    inside_acted e i r k = earliest_same r
        (λ p x. inside_move (λ j y. acts_move (λ q n. no_state h q e n) y) x)
        (λ p x. inside_move (λ j y. acts_move (λ q n. state_no h q e n) y) x) k

    pub inside_asserted : names.sort ≡ Flows → (i : InstrForm) (r : Option Place)
        → IsEarliest (BreaksInside (MisplacedInAssertion (IsSort (sort_in names) true) (IsSort (sort_in names) false))
        i) r
        → IsEarliest (BreaksInside (MisplacedInAssertion (IsNot m is_flow_variable u) (Is m is_flow_variable u)) i) r
    inside_asserted e i r k = earliest_same r
        (λ p x. inside_move (λ j y. asserts_move (λ q n. no_flow h q e n) (λ q n. is_flow_named h q e n) y) x)
        (λ p x. inside_move (λ j y. asserts_move (λ q n. flow_no h q e n) (λ q n. named_flow h q e n) y) x) k
