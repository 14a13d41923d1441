-- The observers that paths name.
use Rattle.std.proofs.Common.{◌≡◌, ◌<◌, ℕ, List, [], length, Option, Some, None, sym, ◌∙◌, ap, subst, arith}
use Rattle.ar_base.specs.Lists.{Stands, AreDifferent}
use Rattle.ar_base.specs.Numbers.{NameId}
use Rattle.ar_base.proofs.Standing.{stands_one, stands_within, along_on, along_length}
use Rattle.ar_meaning.specs.TraceText.{Naming}
use Rattle.ar_syntax.specs.declared.paths.PathStart.TheVariants.{Here}
use Rattle.class_table.specs.Members.{MemberKind, Observer as IsObserver}
use Rattle.domains.specs.declared.Value.{Value}
use Rattle.typed_expr.specs.declared.expr.ValueKind.{ValueKind}
use Rattle.gts_core.specs.declared.system.GtsParts.{GtsParts}
use Rattle.gts_core.specs.declared.system.Observer.{Observer}
use Rattle.gts_flatten.specs.Elaborating.{Elaborated}
use Rattle.gts_flatten.specs.Flat.{IsFlat, naming_of}
use Rattle.source_meaning.specs.Numbering.{HasObserverKind, kind}
use Rattle.source_meaning.specs.Kinds.{kind_of_type}
use Rattle.hierarchy.specs.Listing.{observers}
use Rattle.hierarchy.specs.Tie.{AnswersThing}
use Rattle.hierarchy.specs.Units.{Thing, numbers, kind_at}
use Rattle.hierarchy.specs.Walks.{IsThingAt, is_observer}
use Rattle.hierarchy.specs.declared.tree.Tree.{Tree}
use Rattle.job_inputs.specs.Flat.{IsOfTree}
use Rattle.job_inputs.specs.Labels.{Spells}
use Rattle.job_inputs.proofs.EventLemmas.{one_spelling}
use Rattle.job_inputs.specs.Wanting.{NamesObserver, IsObserverOfKind, IsWanted, Wants}
use Rattle.job_inputs.specs.Answers.{AnswersObserver}

module _ {x : Elaborated} {tree : Tree} {p : GtsParts} (of : IsOfTree x tree p) where
  names_alike : tree.classes.names ≡ x.declarations.model.names
  names_alike = of.is_tree.table.table.names

  -- the observer of the names that a text spells
  pub names_observer : (text : List ℕ) (names : List NameId) (answer : Option ℕ) → AreDifferent tree.classes.names
      → Spells tree.classes.names text (numbers names)
      → AnswersThing x.declarations.model (observers x.declarations.model x.declarations.units) is_observer [] Here
      (numbers names) answer
      → AnswersObserver x text answer
  names_observer text names (Some n) different spelled a = record {
    thing = a.0;
    is_thing = record {
      names = numbers names;
      spells = subst (λ (t : List (List ℕ)). Spells t text (numbers names)) names_alike spelled;
      is_thing = a.2;
    };
    number = a.1;
  }
  names_observer text names None different spelled a = λ n b.
      let own : AreDifferent x.declarations.model.names = subst AreDifferent names_alike different in
      let same : b.is_thing.names ≡ numbers names =
      one_spelling x.declarations.model.names own b.is_thing.spells
      (subst (λ (t : List (List ℕ)). Spells t text (numbers names)) names_alike spelled) in
      a b.thing
      (subst (λ (ns : List ℕ). IsThingAt x.declarations.model is_observer [] Here ns b.thing) same b.is_thing.is_thing)

  -- a text that spells no names
  pub no_observer_named : (text : List ℕ) → ((names : List ℕ) → Spells tree.classes.names text names → ⊥)
      → AnswersObserver x text None
  no_observer_named text h = λ n b.
      h b.is_thing.names (subst (λ (t : List (List ℕ)). Spells t text b.is_thing.names) (sym names_alike)
      b.is_thing.spells)

module _ {x : Elaborated} {p : GtsParts} (flat : IsFlat x p) where
  -- an observer that is named stands among the parts
  pub inside : {text : List ℕ} {n : ℕ} → NamesObserver x text n → n < length p.observers.items
  inside {n = n} named =
      let all = observers x.declarations.model x.declarations.units in
      let w = stands_within all n named.thing named.number in
      let e = along_length all p.observers.items flat.kinds in
      omega (arith, w, e)

  -- and its kind is that of its declared type
  pub of_kind : {text : List ℕ} {n : ℕ} (o : Observer) → NamesObserver x text n → Stands p.observers.items n o
      → IsObserverOfKind x n o.kind
  of_kind {n = n} o named stands =
      let all = observers x.declarations.model x.declarations.units in
      let r = along_on all p.observers.items flat.kinds n named.thing named.number in
      let same : r.0 ≡ o = stands_one p.observers.items n r.0 o r.1 stands in
      told (subst (λ (z : Observer). HasObserverKind x.declarations.model named.thing z) same r.2)
    where
      told : HasObserverKind x.declarations.model named.thing o → IsObserverOfKind x n o.kind
      told (kind type e is is_kind) = record {
        thing = named.thing;
        number = named.number;
        type = type;
        written = e;
        is = is;
        kind_is = is_kind;
      }

  -- no other kind is that of its type
  pub one_kind : {n : ℕ} {j k : ValueKind} → IsObserverOfKind x n j → IsObserverOfKind x n k → j ≡ k
  one_kind {n = n} a b =
      let all = observers x.declarations.model x.declarations.units in
      let m = x.declarations.model in
      let same : a.thing ≡ b.thing = stands_one all n a.thing b.thing a.number b.number in
      let there : kind_at m a.thing.unit a.thing.name ≡ Some (IsObserver b.type b.written)
      = ap (λ (t : Thing). kind_at m t.unit t.name) same ∙ b.is in
      types (sym a.is ∙ there) a.kind_is b.kind_is
    where
      types : {j k : ValueKind} → ◌≡◌ {A = Option MemberKind} (Some (IsObserver a.type a.written))
          (Some (IsObserver b.type b.written))
          → kind_of_type x.declarations.model a.type ≡ Some j → kind_of_type x.declarations.model b.type ≡ Some k
          → j ≡ k
      types e f g = cc

  symbols_alike : p.symbols.items ≡ (naming_of x.declarations).symbols
  symbols_alike = ap (λ (z : Naming). z.symbols) flat.names

  -- the value that is asked for
  pub is_wanted : {text : List ℕ} {word : Option (List ℕ)} {n : ℕ} (o : Observer) (v : Value) → NamesObserver x text n
      → Stands p.observers.items n o → Wants p.symbols.items word o.kind v → IsWanted x text word n v
  is_wanted {word = word} o v named stands wants = record {
    names = named;
    kind = o.kind;
    of_kind = of_kind o named stands;
    wants = subst (λ (z : List (List ℕ)). Wants z word o.kind v) symbols_alike wants;
  }

  -- no value is asked for where none is of the parts' kind
  pub wants_none : {text : List ℕ} {word : Option (List ℕ)} {n : ℕ} (o : Observer) → NamesObserver x text n
      → Stands p.observers.items n o → ((v : Value) → Wants p.symbols.items word o.kind v → ⊥) → (v : Value)
      → IsWanted x text word n v → ⊥
  wants_none {word = word} o named stands none v w =
      let same : w.kind ≡ o.kind = one_kind w.of_kind (of_kind o named stands) in
      none v (subst (λ (k : ValueKind). Wants p.symbols.items word k v) same
      (subst (λ (z : List (List ℕ)). Wants z word w.kind v) (sym symbols_alike) w.wants))
