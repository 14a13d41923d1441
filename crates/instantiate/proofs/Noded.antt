-- Nodes of members, one after the other.
use Rattle.std.proofs.Common.{◌≡◌, ℕ, Bool, true, false, is_some, List, [], ◌∷◌, ◌++◌, map, filter, Option, Some, None, option_map, option_and_then, refl, sym, ◌∙◌, ap, append_assoc}
use Rattle.std.proofs.lemmas.List.Elements.{filter-append}
use Rattle.ar_base.specs.Lists.{Along, none as along_none, one_and as along_and}
use Rattle.hierarchy.specs.Models.{RootedModel}
use Rattle.hierarchy.specs.Units.{UnitPath, Thing}
use Rattle.hierarchy.specs.Tie.{IsPlainNode}
use Rattle.ar_base.specs.Numbers.{NameId}
use Rattle.ar_base.specs.NumbersInside.{UnitId}
use Rattle.ar_base.specs.declared.places.Place.{Place}
use Rattle.ar_syntax.specs.declared.members.Member.TheOpen as member
use Rattle.ar_syntax.specs.declared.members.Setting.{Setting}
use Rattle.ar_syntax.specs.declared.members.TypeForm.{TypeForm}
use Rattle.ar_syntax.specs.declared.members.TypeForm.TheVariants as form
use Rattle.class_table.specs.Declaring.{MemberForm, NamedType, DomainType, ClassType, Declared}
use Rattle.class_table.specs.Members.{Site, NamedMember, MemberKind, Variable, Inner, type_named, member_kind_of, domain_body, declared_kind, all_named, names_of_form}
use Rattle.class_table.proofs.Taken.{map_join}
use Rattle.hierarchy.specs.declared.tree.MemNode.{MemNode}
use Rattle.instantiate.specs.declared.nodes.Listed.{Listed}
use Rattle.instantiate.specs.declared.nodes.Listed.TheVariants.{Variables, Parameters, Events, Observers}
use Rattle.instantiate.specs.Nodes.{test_of, declares_so, single_of, node_at, nodes_of_members, node_named, name_node, names_nodes, IsNodeSo}

module _ (unit : UnitId) where
  pub nodes_join : (test : MemberKind → Bool) (xs ys : List NamedMember)
      → nodes_of_members unit test (xs ++ ys) ≡ nodes_of_members unit test xs ++ nodes_of_members unit test ys
  nodes_join test xs ys = ap (map (node_at unit)) (filter-append (λ (g : NamedMember). test g.kind) xs ys)
      ∙ map_join (node_at unit) (filter (λ (g : NamedMember). test g.kind) xs)
      (filter (λ (g : NamedMember). test g.kind) ys)

  module _ (s : Site) where
    all_nodes : (test : MemberKind → Bool) (kind : MemberKind) (names : List (NameId × Place)) → test kind ≡ true
        → nodes_of_members unit test (all_named s (Some kind) names) ≡ names_nodes unit s names
    all_nodes test kind [] e = refl
    all_nodes test kind (n ∷ ns) e = rw e
        (ap (λ (ds : List MemNode). name_node unit s n ∷ ds) (all_nodes test kind ns e))

    no_nodes : (test : MemberKind → Bool) (kind : MemberKind) (names : List (NameId × Place)) → test kind ≡ false
        → nodes_of_members unit test (all_named s (Some kind) names) ≡ []
    no_nodes test kind [] e = refl
    no_nodes test kind (n ∷ ns) e = rw e (no_nodes test kind ns e)

    module _ (d : Declared) (settings : List Setting) (names : List (NameId × Place)) where
      variables_true : (f : TypeForm) → declares_so Variables d f ≡ true
          → nodes_of_members unit (test_of Variables) (all_named s (declared_kind d s f settings) names)
          ≡ names_nodes unit s names
      variables_true form.Boolean e = all_nodes (test_of Variables) (Variable form.Boolean settings) names refl
      variables_true form.Integer e = cc
      variables_true (form.Named x) e = by (type_named d x.n) e
        where
          by : (t : Option NamedType) → is_some (option_and_then domain_body t) ≡ true
              → nodes_of_members unit (test_of Variables)
              (all_named s (option_map (λ (u : NamedType). member_kind_of s (form.Named x) u settings) t) names)
              ≡ names_nodes unit s names
          by None e = cc
          by (Some (DomainType b)) e = all_nodes (test_of Variables) (Variable (form.Named x) settings) names refl
          by (Some (ClassType b)) e = cc

      variables_false : (f : TypeForm) → declares_so Variables d f ≡ false
          → nodes_of_members unit (test_of Variables) (all_named s (declared_kind d s f settings) names) ≡ []
      variables_false form.Boolean e = cc
      variables_false form.Integer e = refl
      variables_false (form.Named x) e = by (type_named d x.n) e
        where
          by : (t : Option NamedType) → is_some (option_and_then domain_body t) ≡ false
              → nodes_of_members unit (test_of Variables)
              (all_named s (option_map (λ (u : NamedType). member_kind_of s (form.Named x) u settings) t) names) ≡ []
          by None e = refl
          by (Some (DomainType b)) e = cc
          by (Some (ClassType b)) e = no_nodes (test_of Variables) (Inner b (Some s)) names refl

      others : (test : MemberKind → Bool) → ((f : TypeForm) → test (Variable f settings) ≡ false)
          → ((b : ℕ) → test (Inner b (Some s)) ≡ false) → (f : TypeForm)
          → nodes_of_members unit test (all_named s (declared_kind d s f settings) names) ≡ []
      others test v i form.Boolean = no_nodes test (Variable form.Boolean settings) names (v form.Boolean)
      others test v i form.Integer = refl
      others test v i (form.Named x) = by (type_named d x.n)
        where
          by : (t : Option NamedType) → nodes_of_members unit test
              (all_named s (option_map (λ (u : NamedType). member_kind_of s (form.Named x) u settings) t) names) ≡ []
          by None = refl
          by (Some (DomainType b)) = no_nodes test (Variable (form.Named x) settings) names (v (form.Named x))
          by (Some (ClassType b)) = no_nodes test (Inner b (Some s)) names (i b)

      -- a declaration that gives things of the kind, and one that gives none
      pub declared_nodes : (listed : Listed) (f : TypeForm) → declares_so listed d f ≡ true
          → nodes_of_members unit (test_of listed) (all_named s (declared_kind d s f settings) names) ≡ names_nodes unit s names
      declared_nodes Variables f e = variables_true f e
      declared_nodes Parameters f e = cc
      declared_nodes Events f e = cc
      declared_nodes Observers f e = cc

      pub declared_none : (listed : Listed) (f : TypeForm) → declares_so listed d f ≡ false
          → nodes_of_members unit (test_of listed) (all_named s (declared_kind d s f settings) names) ≡ []
      declared_none Variables f e = variables_false f e
      declared_none Parameters f e = others (test_of Parameters) (λ g. refl) (λ b. refl) f
      declared_none Events f e = others (test_of Events) (λ g. refl) (λ b. refl) f
      declared_none Observers f e = others (test_of Observers) (λ g. refl) (λ b. refl) f

    -- the one name of a member
    pub singles : (d : Declared) (listed : Listed) (f : MemberForm) (x : NameId) → single_of listed f ≡ Some x
        → nodes_of_members unit (test_of listed) (names_of_form d s f) ≡ node_named unit s x ∷ []
    singles d Variables f x e = cc
    singles d Parameters (member.Parameter t y at v) x e = let i : y ≡ x = cc in ap (λ (z : NameId). node_named unit s z ∷ []) i
    singles d Parameters (member.Kept y at span) x e = let i : y ≡ x = cc in ap (λ (z : NameId). node_named unit s z ∷ []) i
    singles d Parameters f x e = cc
    singles d Events (member.Event y at span) x e = let i : y ≡ x = cc in ap (λ (z : NameId). node_named unit s z ∷ []) i
    singles d Events f x e = cc
    singles d Observers (member.Observer t y at v) x e = let i : y ≡ x = cc in ap (λ (z : NameId). node_named unit s z ∷ []) i
    singles d Observers f x e = cc

-- what a list has grown by
pub grown : {A : Type 0} (old mid new xs ys zs : List A) → mid ≡ old ++ xs → new ≡ mid ++ ys → zs ≡ xs ++ ys
    → new ≡ old ++ zs
grown {A = A} old mid new xs ys zs e f g =
    f ∙ (ap (λ (us : List A). us ++ ys) e ∙ (append_assoc old xs ys ∙ ap (λ (us : List A). old ++ us) (sym g)))

-- the nodes of things are such nodes
pub plain_nodes : (m : RootedModel) (units : List UnitPath) (test : MemberKind → Bool) (ts : List Thing)
    (ds : List MemNode) → Along (IsNodeSo m units test) ts ds → Along (IsPlainNode m units) ts ds
plain_nodes m units test ts ds along_none = along_none
plain_nodes m units test ts ds (along_and {xs = us} {ys = es} h r) =
    along_and (record { given = h.given; node = h.node }) (plain_nodes m units test us es r)
