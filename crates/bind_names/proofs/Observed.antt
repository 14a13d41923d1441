-- Observers by numbers.
use Rattle.std.proofs.Common.{◌≡◌, List, Option, Some, None, option_map, refl, sym, ap, subst}
use Rattle.ar_base.specs.Lists.{IsOneOf}
use Rattle.ar_base.specs.Numbers.{NameId}
use Rattle.ar_base.specs.declared.places.Place.{Place}
use Rattle.ar_base.proofs.Standing.{along_back, one_here}
use Rattle.ar_syntax.specs.declared.expressions.RawExpr.{RawExpr}
use Rattle.ar_syntax.specs.declared.items.DomainBody.{DomainBody}
use Rattle.ar_syntax.specs.declared.members.Member.{Member, out-Member}
use Rattle.ar_syntax.specs.declared.members.Member.TheOpen as member
use Rattle.ar_syntax.specs.declared.members.TypeForm.{TypeForm}
use Rattle.ar_syntax.specs.declared.members.TypeForm.TheVariants as form
use Rattle.ar_syntax.specs.declared.members.TypeName.{TypeName}
use Rattle.gts_core.specs.declared.system.Observer as flat
use Rattle.gts_core.proofs.Numbering.{source_numbered}
use Rattle.class_table.specs.Declaring.{MemberForm}
use Rattle.class_table.specs.Members.{Site, Observer, owned_at, own_at, domain_named}
use Rattle.class_table.specs.Rules.{IsNoDomainName, named, Misnames, observer, l2}
use Rattle.class_table.specs.TablesInside.{site_of}
use Rattle.class_table.specs.declared.tables.Owned.{Owned}
use Rattle.class_table.specs.declared.tables.Owned.TheVariants.{Plain, Nested}
use Rattle.hierarchy.specs.Models.{RootedModel}
use Rattle.hierarchy.specs.ModelsInside.{KeepsTextRules}
use Rattle.hierarchy.specs.Units.{UnitPath, Thing, kind_at}
use Rattle.hierarchy.specs.Walks.{PassesTest, is_observer}
use Rattle.hierarchy.specs.Listing.{observers, variables}
use Rattle.hierarchy.specs.Paths.{thing_path}
use Rattle.hierarchy.specs.Tie.{IsTreeOf}
use Rattle.hierarchy.specs.declared.tree.MemNode.{MemNode}
use Rattle.hierarchy.specs.declared.tree.Tree.{Tree}
use Rattle.source_meaning.specs.Numbering as has
use Rattle.source_meaning.specs.BoundExpressions.{IsBoundExpression}
use Rattle.source_meaning.specs.Kinds.{kind_of_type, kind_of_body}
use Rattle.bind_names.specs.Typed.{IsTypedIn}
use Rattle.bind_names.specs.Owning.{observed_form, observed_in}
use Rattle.bind_names.proofs.Valued.{observer_has, observer_there}
use Rattle.bind_names.specs.ListBound.{IsBoundObserver}

-- what is listed among the observers is one
pub listed_observer : (m : RootedModel) (units : List UnitPath) (t : Thing) → KeepsTextRules m → IsOneOf (observers m
    units) t → PassesTest m is_observer t
listed_observer m units t kept o = observer_has m units kept o.place t o.stands

-- the type of an observer has a kind, where the rule of type names is kept
module _ {m : RootedModel} (kept : KeepsTextRules m) (site : Site) where
  -- a domain's name
  named_kind : (x : NameId) (t : TypeName) (y : NameId) (p : Place) (e : RawExpr) (w : Member)
      → owned_at m.declared site ≡ Some (Plain w) → out-Member w ≡ member.Observer t y p e → t.form ≡ form.Named x
      → (d : Option DomainBody) → domain_named m.declared x.n ≡ d → None ≡ option_map kind_of_body d → ⊥
  named_kind x t y p e w o i f (Some d) q n = cc
  named_kind x t y p e w o i f None q n =
      let no_domain = subst (IsNoDomainName m.declared) (sym f) (named q) in
      let misnamed = subst (λ (z : MemberForm). Misnames m.declared z t.at) (sym i) (observer no_domain) in
      kept.kept.kept 2 t.at (record { place = 1; stands = refl })
      (l2 (record {
        body = site.body;
        member = w;
        stands = one_here (own_at m.declared site.body) site.place (Plain w) o;
        misnames = misnamed;
      }))

  form_kind : (f : TypeForm) (t : TypeName) (y : NameId) (p : Place) (e : RawExpr) (w : Member)
      → owned_at m.declared site ≡ Some (Plain w) → out-Member w ≡ member.Observer t y p e → t.form ≡ f
      → None ≡ kind_of_type m f → ⊥
  form_kind form.Boolean t y p e w o i f n = cc
  form_kind form.Integer t y p e w o i f n = cc
  form_kind (form.Named x) t y p e w o i f n = named_kind x t y p e w o i f (domain_named m.declared x.n) refl n

  abbrev form_of_some : Option (TypeForm × RawExpr) → TypeForm → TypeForm
  form_of_some None f = f
  form_of_some (Some z) f = z.0

  member_kind : (w : Member) (g : MemberForm) → out-Member w ≡ g → owned_at m.declared site ≡ Some (Plain w)
      → (f : TypeForm) (e : RawExpr) → observed_form g ≡ Some (f, e) → None ≡ kind_of_type m f → ⊥
  member_kind w (member.Observer t y p x) i o f e q n = form_kind f t y p x w o i (ap (λ z. form_of_some z f) q) n
  member_kind w g i o f e q n = cc

  owned_kind : (o : Option Owned) → owned_at m.declared site ≡ o → (f : TypeForm) (e : RawExpr)
      → observed_in o ≡ Some (f, e) → None ≡ kind_of_type m f → ⊥
  owned_kind None i f e q n = cc
  owned_kind (Some (Plain w)) i f e q n = member_kind w (out-Member w) refl i f e q n
  owned_kind (Some (Nested x at b)) i f e q n = cc

-- the observer of a node of the tree is declared, with a type that has a kind
module _ (m : RootedModel) (units : List UnitPath) (tree : Tree) (tied : IsTreeOf m units tree) (d : MemNode) where
  abbrev pub observed_there : Option (TypeForm × RawExpr)
  observed_there = observed_in (owned_at m.declared (site_of (d.source.body, d.source.member)))

  pub node_declared : IsOneOf tree.observers.items d → None ≡ observed_there → ⊥
  node_declared one e =
      let w = along_back (observers m units) tree.observers.items tied.observers_are one.place d one.stands in
      observer_there m units w.0 d w.2 (observer_has m units tied.table.kept one.place w.0 w.1) e

  pub node_kind : (f : TypeForm) (e : RawExpr) → Some (f, e) ≡ observed_there → None ≡ kind_of_type m f → ⊥
  node_kind f e q n =
      let site = site_of (d.source.body, d.source.member) in
      owned_kind tied.table.kept site (owned_at m.declared site) refl f e (sym q) n

-- the observer, by its parts
pub bound_observer : (m : RootedModel) (units : List UnitPath) (tree : Tree) (t : Thing) (o : flat.Observer)
    (type : TypeForm) (written : RawExpr) → kind_at m t.unit t.name ≡ Some (Observer type written)
    → Some o.kind ≡ kind_of_type m type → IsBoundExpression m units t.unit written o.value
    → IsTypedIn tree o.value o.kind → o.path ≡ thing_path m t → IsBoundObserver m units tree t o
bound_observer m units tree t o type written is kind e typed path = record {
  meaning = e.meaning;
  is = record { type = type; written = written; is = is; means = e.means };
  numbers = record { renames = source_numbered (variables m units) e.meaning o.value e.numbers };
  kind = has.kind type written is (sym kind);
  path = path;
  typed = typed;
}
