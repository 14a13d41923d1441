-- What instructions become in a unit, where they break no rule of names, kinds and targets.
use Rattle.std.proofs.Common.{◌≡◌, inl, inr, Bool, true, false, List, [], ◌∷◌, Option, Some, None, option_map, Box, Global, refl, sym, ◌∙◌, ap, subst}
use Rattle.ar_base.specs.Lists.{Stands, IsOneOf}
use Rattle.ar_base.specs.Numbers.{VarId}
use Rattle.ar_base.specs.declared.places.Place.{Place}
use Rattle.ar_base.proofs.Standing.{one_none, one_cases, one_first, one_rest, along_on}
use Rattle.ar_syntax.specs.declared.expressions.RawExpr.{RawExpr}
use Rattle.ar_syntax.specs.declared.expressions.RawForm.TheOpen as raw
use Rattle.ar_syntax.specs.declared.instructions.Instr.{Instr, out-Instr}
use Rattle.ar_syntax.specs.declared.instructions.Instr.TheOpen as instr
use Rattle.ar_syntax.specs.declared.paths.Path.{Path}
use Rattle.typed_expr.specs.Kinds.{HasKind}
use Rattle.typed_expr.specs.Kinds as kind
use Rattle.typed_expr.specs.Yields.{Level}
use Rattle.typed_expr.specs.declared.expr.Expr.{Expr, out-Expr}
use Rattle.typed_expr.specs.declared.expr.Expr.TheOpen.{Variable}
use Rattle.typed_expr.specs.declared.expr.ValueKind.{ValueKind}
use Rattle.typed_expr.specs.declared.expr.ValueKind.TheVariants.{Truth}
use Rattle.gts_core.specs.Sound.{kind_of_domain}
use Rattle.gts_core.specs.declared.bound.Act.{Act, out-Act}
use Rattle.gts_core.specs.declared.bound.Act.TheOpen.{Act-F}
use Rattle.gts_core.specs.declared.bound.Act.TheOpen as act
use Rattle.class_table.specs.Members.{MemberKind}
use Rattle.class_table.specs.Members as given
use Rattle.hierarchy.specs.Models.{RootedModel}
use Rattle.hierarchy.specs.Units.{UnitPath, Thing, kind_at}
use Rattle.hierarchy.specs.Walks.{Finds, is_variable}
use Rattle.hierarchy.specs.Listing.{variables}
use Rattle.hierarchy.specs.Settings.{is_state_variable, is_flow_variable}
use Rattle.hierarchy.specs.declared.tree.VarNode.{VarNode}
use Rattle.hierarchy.specs.declared.tree.Tree.{Tree}
use Rattle.hierarchy.proofs.TargetWords.{no_state}
use Rattle.source_meaning.specs.Kinds.{HasKindAt}
use Rattle.source_meaning.specs.Kinds as k
use Rattle.source_meaning.specs.Rules.{IsNot, Is}
use Rattle.source_meaning.specs.Tested as s
use Rattle.source_meaning.specs.BoundActs.{IsExpressionOf, IsAssignedPath, AreLeaves, IsBoundInstruction}
use Rattle.source_meaning.specs.BoundActs as of
use Rattle.source_meaning.proofs.BoundInstructions.{bound_instruction}
use Rattle.written_forms.specs.Operands.{level_of, AnyKind}
use Rattle.written_forms.specs.Wrong.{IsMisnamed, IsMistyped}
use Rattle.written_forms.specs.Translating.{StandsFor, Becomes, BecomesBy, leaf_level}
use Rattle.written_forms.specs.Translating as t
use Rattle.written_forms.specs.declared.naming.Leaf.TheVariants as leaf
use Rattle.written_forms.proofs.RightForms.{same_kind}
use Rattle.written_forms.specs.Parts.{InstrForm, IsPartOf}
use Rattle.written_forms.specs.Parts as part
use Rattle.written_forms.specs.Breaches.{MisnamesItself, MistypesItself}
use Rattle.written_forms.specs.Breaches as b
use Rattle.written_forms.specs.Assigning.{SetsTo, SetsBoth}
use Rattle.written_forms.specs.Acting.{ActsAs, ElseActs, All_act}
use Rattle.written_forms.specs.Acting as acts
use Rattle.bind_scopes.specs.Naming.{sort_in}
use Rattle.bind_scopes.specs.declared.naming.Sort.TheVariants.{States}
use Rattle.bind_scopes.proofs.NamedPaths.{kind_one}
use Rattle.bind_scopes.proofs.Kinding.{may_named, kind_names, target_names, names_target, variable_kind, listed_sort}
use Rattle.bind_names.specs.Leaves.{leaf_in}
use Rattle.bind_names.specs.declared.leaves.UnitLeaves.{UnitLeaves}
use Rattle.bind_names.specs.Keeping.{IsMisplaced, KeepsRules, KeepsInside}
use Rattle.bind_names.specs.Typed as typed
use Rattle.bind_names.specs.Typed.{kind_of_node, IsSoundIn}
use Rattle.bind_names.proofs.FormLeafing.{AreLeavesOf, names_for, tree_for, names_of, leaf_for, leaf_variable}
use Rattle.bind_names.proofs.Rights.{any_mistyped, variables_in, symbols_in, path_leaf, expression_typed}

no_state_variable : (g : MemberKind) → is_flow_variable g ≡ true → is_state_variable g ≡ false
no_state_variable (given.Variable type settings) e = no_state settings e
no_state_variable (given.Parameter type v) e = refl
no_state_variable given.Kept e = refl
no_state_variable given.Event e = refl
no_state_variable (given.Observer type v) e = refl
no_state_variable (given.Inner c o) e = refl
no_state_variable (given.Clone p) e = refl
no_state_variable (given.Alias p) e = refl

module _ {m : RootedModel} {units : List UnitPath} {u : UnitPath} {leaves : UnitLeaves}
    (h : AreLeavesOf m units u leaves) where
  abbrev tree : Tree
  tree = tree_for leaves

  abbrev Acts : InstrForm → Act → Type 0
  Acts i a = ActsAs (leaf_in leaves) i a

  target_by : (p : Path) → ((s.NamesVariable m u p → ⊥) → ⊥) → (r : Option Bool)
      → sort_in (names_for leaves States) p ≡ r → s.NamesVariable m u p
  target_by p nn (Some c) e = target_names (names_of h States) p (c, e)
  target_by p nn None e = absurd (nn (λ v. let w = names_target (names_of h States) p v in let o = w.1 in cc))

  target_named : (p : Path) → ((s.NamesVariable m u p → ⊥) → ⊥) → s.NamesVariable m u p
  target_named p nn = target_by p nn (sort_in (names_for leaves States) p) refl

  target_kind : (p : Path) → s.NamesVariable m u p → (j : ValueKind) × HasKindAt m u p j
  target_kind p v =
      let w = may_named (names_of h States) p (s.variable v.thing v.finds) in
      (w.0, kind_names (names_of h States) p w.0 w.1)

  misnames : {i : InstrForm} {p : Path} → IsAssignedPath p i → (s.NamesVariable m u p → ⊥)
      → MisnamesItself (s.MayName m u s.Everything) (s.NamesVariable m u) i p.at
  misnames of.assigned n = b.target n
  misnames of.left n = b.left n
  misnames of.right n = b.right n

  misnames_in : {i : InstrForm} {e : RawExpr} {at : Place} → IsExpressionOf e i
      → IsMisnamed (s.MayName m u s.Everything) (level_of e) at → MisnamesItself (s.MayName m u s.Everything)
      (s.NamesVariable m u) i at
  misnames_in of.test n = b.test n
  misnames_in of.value n = b.value n

  module _ (to_state : Bool) where
    named_target : {i : InstrForm} {p : Path} → KeepsRules m u to_state i → IsAssignedPath p i → s.NamesVariable m u p
    named_target {p = p} r x = target_named p (λ n. r.naming p.at (misnames x n))

    right_in : {i : InstrForm} {e : RawExpr} {at : Place} → KeepsRules m u to_state i → IsExpressionOf e i
        → IsMistyped (HasKindAt m u) AnyKind e at → ⊥
    right_in {at = at} r of.test n = r.kinds at (b.test (any_mistyped Truth n))
    right_in {at = at} r (of.value {p = p}) n =
        let v = target_kind p (named_target r of.assigned) in
        r.kinds at (b.value v.0 v.1 (any_mistyped v.0 n))

    -- the leaves of an instruction are right
    pub leaves_right : (whole : InstrForm) → KeepsInside m u to_state whole → AreLeaves m units u (leaf_in leaves) whole
    leaves_right whole r = record {
      targets = λ i p is_part x. named_target (r.keeps i is_part) x;
      of_targets = λ i p is_part x. let v = named_target (r.keeps i is_part) x in leaf_for h p (s.variable v.thing v.finds);
      of_expressions = λ i e p is_part x j. leaf_for h p
          (path_leaf h e (λ at n. (r.keeps i is_part).naming at (misnames_in x n)) p j);
      right = λ i e at is_part x n. right_in (r.keeps i is_part) x n;
    }

    pub instruction_bound : (whole : InstrForm) (a : Act) → KeepsInside m u to_state whole → Acts whole a
        → IsBoundInstruction m units u whole a
    instruction_bound whole a r x = bound_instruction m units u (leaf_in leaves) whole a (leaves_right whole r) x

    -- what is known of a target
    record Target (p : Path) (x : VarId) : Type 0 where
      thing : Thing
      finds : Finds m is_variable u p thing
      node : VarNode
      stands : Stands tree.variables.items x.n node
      kind : HasKindAt m u p (kind_of_domain node.domain)
      member : MemberKind
      is : kind_at m thing.unit thing.name ≡ Some member
      sort : node.is_state ≡ is_state_variable member

    target_at : (p : Path) (x : VarId) → leaf_in leaves p ≡ leaf.Variable x → Target p x
    target_at p x e =
        let v = leaf_variable h p x e in
        let a = along_on (variables m units) tree.variables.items h.are.is_tree.variables_are x.n v.0 v.2 in
        let w = variable_kind h.are.is_tree x.n v.0 v.2 in
        let o = listed_sort h.are.is_tree States x.n v.0 v.2 in
        let q : kind_of_domain a.0.domain ≡ w.0 =
        kind_one (ap (λ (o : Option VarNode). option_map (λ (d : VarNode). kind_of_domain d.domain) o) a.1)
        w.1 in
        record {
          thing = v.0;
          finds = v.1;
          node = a.0;
          stands = a.1;
          kind = subst (λ (z : ValueKind). HasKindAt m u p z) (sym q) (k.thing v.0 v.1.leads w.2);
          member = o.0;
          is = o.1;
          sort = kind_one (ap (λ (o : Option VarNode). option_map (λ (d : VarNode). d.is_state) o) a.1) o.2;
        }

    -- the path names a variable of the wrong sort
    abbrev IsWrong : Bool → Path → Type 0
    IsWrong true p = IsNot m is_state_variable u p
    IsWrong false p = IsNot m is_flow_variable u p

    sorted_by : {p : Path} {x : VarId} (g : Target p x) (c : Bool) → (IsWrong c p → ⊥) → (r : Bool)
        → is_state_variable g.member ≡ r → (f : Bool) → is_flow_variable g.member ≡ f → is_state_variable g.member ≡ c
    sorted_by g true n true e f i = e
    sorted_by g true n false e f i = absurd
        (n (record { thing = g.thing; finds = g.finds; member = g.member; is = g.is; fails = e }))
    sorted_by g false n r e true i = no_state_variable g.member i
    sorted_by g false n r e false i = absurd
        (n (record { thing = g.thing; finds = g.finds; member = g.member; is = g.is; fails = i }))

    -- a target that is not of the wrong sort is of the right one
    sorted : {p : Path} {x : VarId} (g : Target p x) → (IsWrong to_state p → ⊥) → g.node.is_state ≡ to_state
    sorted g n = g.sort ∙ sorted_by g to_state n (is_state_variable g.member) refl (is_flow_variable g.member) refl

    -- the forms of what is sound
    as_act : (a : Act) (x : Act-F Act) → out-Act a ≡ x → IsSoundIn tree to_state x → IsSoundIn tree to_state (out-Act a)
    as_act a x q n = subst (IsSoundIn tree to_state) (sym q) n

    -- the target of an assignment is of the right sort
    set_right : (c : Bool) (p : Path) (e : RawExpr) → ((at : Place) → IsMisplaced m u c (instr.Assign p e) at → ⊥)
        → IsWrong c p → ⊥
    set_right true p e n w = n p.at (b.assigns w)
    set_right false p e n w = n p.at (b.assigns w)

    -- the value of an assignment has the kind of its target
    assign_sound : (p : Path) (r : RawExpr) (a : Act) (x : VarId) (e : Expr VarId) → leaf_in leaves p ≡ leaf.Variable x
        → BecomesBy (leaf_in leaves) r e → out-Act a ≡ act.Set x e p.at
        → KeepsRules m u to_state (instr.Assign p r) → IsSoundIn tree to_state (out-Act a)
    assign_sound p r a x e l d q n =
        let g = target_at p x l in
        as_act a (act.Set x e p.at) q (typed.set g.node g.stands (sorted g (set_right to_state p r n.targets))
        (expression_typed h r e (kind_of_domain g.node.domain) (λ at z. n.naming at (b.value z))
        (λ at z. n.kinds at (b.value (kind_of_domain g.node.domain) g.kind z)) d))

    -- an assignment of a variable to another one of its kind
    copy_sound : (p q : Path) (x y : VarId) (at : Place) (a : Act) (g : Target p x) (o : Target q y)
        → leaf_in leaves q ≡ leaf.Variable y → kind_of_domain o.node.domain ≡ kind_of_domain g.node.domain
        → g.node.is_state ≡ to_state → SetsTo x at y a → IsSoundIn tree to_state (out-Act a)
    copy_sound p q x y at a g o l same is_sort z =
        let d : Becomes (StandsFor (leaf_in leaves)) (raw.Path q) (out-Expr VarId z.value) =
        subst (λ (w : Level VarId). Becomes (StandsFor (leaf_in leaves)) (raw.Path q) w) (sym z.names)
        (t.path (ap leaf_level l)) in
        let w : typed.kind_of_number tree y ≡ kind_of_domain g.node.domain = ap kind_of_node o.stands ∙ same in
        as_act a (act.Set x z.value at) z.is (typed.set g.node g.stands is_sort (record {
          typed = subst (λ (w : Level VarId). HasKind (typed.kind_of_number tree) w (kind_of_domain g.node.domain))
              (sym z.names) (subst (λ (k : ValueKind). HasKind (typed.kind_of_number tree) (Variable y) k) w kind.variable);
          variables = λ v w. variables_in h d v w;
          symbols = λ v w. symbols_in h d v w;
        }))

    -- the two targets of a `:=:` are flows of one kind
    record AreFlows (p q : Path) (x y : VarId) (left : Target p x) (right : Target q y) : Type 0 where
      same : kind_of_domain right.node.domain ≡ kind_of_domain left.node.domain
      first : left.node.is_state ≡ to_state
      second : right.node.is_state ≡ to_state

    flow_of : (p : Path) (x : VarId) (g : Target p x) → (IsNot m is_flow_variable u p → ⊥) → (f : Bool)
        → is_flow_variable g.member ≡ f → Is m is_flow_variable u p
    flow_of p x g n true e = record {
      thing = g.thing;
      finds = record { leads = g.finds.leads; has = record { kind = g.member; is = g.is; passes = e } };
    }
    flow_of p x g n false e = absurd (n
        (record { thing = g.thing; finds = g.finds; member = g.member; is = g.is; fails = e }))

    tie_left : (c : Bool) (p q : Path) → ((at : Place) → IsMisplaced m u c (instr.Tie p q) at → ⊥) → IsWrong c p → ⊥
    tie_left true p q n w = n p.at b.ties
    tie_left false p q n w = n p.at (b.left w)

    tie_right : (c : Bool) (p q : Path) (x : VarId) → Target p x
        → ((at : Place) → IsMisplaced m u c (instr.Tie p q) at → ⊥) → IsWrong c q → ⊥
    tie_right true p q x g n w = n p.at b.ties
    tie_right false p q x g n w = n q.at
        (b.right (flow_of p x g (λ z. n p.at (b.left z)) (is_flow_variable g.member) refl) w)

    tie_kinds : (p q : Path) (j k : ValueKind) → HasKindAt m u p j → HasKindAt m u q k
        → ((at : Place) → MistypesItself (HasKindAt m u) (instr.Tie p q) at → ⊥) → k ≡ j
    tie_kinds p q j k f g n = elim (same_kind k j) [ inl e ↦ e | inr d ↦ absurd (n q.at (b.tied j k f g d)) ]

    tie_flows : (p q : Path) (x y : VarId) (left : Target p x) (right : Target q y)
        → KeepsRules m u to_state (instr.Tie p q) → AreFlows p q x y left right
    tie_flows p q x y left right n = record {
      same = tie_kinds p q (kind_of_domain left.node.domain) (kind_of_domain right.node.domain) left.kind right.kind
          n.kinds;
      first = sorted left (tie_left to_state p q n.targets);
      second = sorted right (tie_right to_state p q x left n.targets);
    }

    both_sound : (es : List Act) (first second : Act) → es ≡ first ∷ second ∷ []
        → IsSoundIn tree to_state (out-Act first) → IsSoundIn tree to_state (out-Act second) → (a : Act) → IsOneOf es a
        → IsSoundIn tree to_state (out-Act a)
    both_sound es first second q f g a i =
        elim (one_cases first (second ∷ []) a (subst (λ (z : List Act). IsOneOf z a) q i)) [
          | inl e ↦ subst (λ (z : Act). IsSoundIn tree to_state (out-Act z)) e f
          | inr j ↦ elim (one_cases second [] a j)
              [ inl e ↦ subst (λ (z : Act). IsSoundIn tree to_state (out-Act z)) e g | inr k ↦ absurd (one_none a k) ]
        ]

    tie_sound : (p q : Path) (a : Act) (x y : VarId) → leaf_in leaves p ≡ leaf.Variable x
        → leaf_in leaves q ≡ leaf.Variable y → SetsBoth x p.at y q.at a → KeepsRules m u to_state (instr.Tie p q)
        → IsSoundIn tree to_state (out-Act a)
    tie_sound p q a x y l o z n =
        let left = target_at p x l in
        let right = target_at q y o in
        let w = tie_flows p q x y left right n in
        as_act a (act.All z.acts) z.is (typed.all
        (both_sound z.acts.items z.first z.second z.are
        (copy_sound p q x y p.at z.first left right o w.same w.first z.sets_first)
        (copy_sound q p y x q.at z.second right left l (sym w.same) w.second z.sets_second)))

    -- what stands in an instruction keeps the rules too
    keeps_part : (whole i : InstrForm) → ((j : InstrForm) → IsPartOf j i → IsPartOf j whole)
        → KeepsInside m u to_state whole → KeepsInside m u to_state i
    keeps_part whole i f n = record { keeps = λ j p. n.keeps j (f j p) }

    mutual
      sound : {i : InstrForm} {a : Act} → Acts i a → KeepsInside m u to_state i → IsSoundIn tree to_state (out-Act a)
      sound (acts.skip {a = a} q) n = as_act a act.Skip q typed.skip
      sound (acts.assign {p = p} {r = r} {a = a} x e l d q) n =
          assign_sound p r a x e l d q (n.keeps (instr.Assign p r) part.itself)
      sound (acts.no_target {a = a} v l q) n = as_act a act.Skip q typed.skip
      sound (acts.tie {p = p} {q = q} {a = a} x y l o z) n =
          tie_sound p q a x y l o z (n.keeps (instr.Tie p q) part.itself)
      sound (acts.no_left {a = a} v l q) n = as_act a act.Skip q typed.skip
      sound (acts.no_right {a = a} v l q) n = as_act a act.Skip q typed.skip
      sound (acts.conditional {r = r} {first = first} {second = second} {a = a} e c d k q x y) n =
          let g = n.keeps (instr.If r first second) part.itself in
          as_act a (act.If e c d) q (typed.conditional
          (expression_typed h r e Truth (λ at z. g.naming at (b.test z)) (λ at z. g.kinds at (b.test z)) k)
          (sound x (keeps_part (instr.If r first second) (out-Instr first.value) (λ j p. part.first p) n))
          (else_sound y n))
      sound (acts.all {is = is} {a = a} es q x) n =
          as_act a (act.All es) q (typed.all
          (λ c i. all_sound x (λ j o. keeps_part (instr.All is) (out-Instr j) (λ z p. part.item j o p) n) c i))

      else_sound : {r : RawExpr} {first : Box Instr Global} {second : Option (Box Instr Global)} {a : Act}
          → ElseActs (leaf_in leaves) second a → KeepsInside m u to_state (instr.If r first second)
          → IsSoundIn tree to_state (out-Act a)
      else_sound (acts.no_branch {a = a} q) n = as_act a act.Skip q typed.skip
      else_sound {r = r} {first = first} (acts.branch {i = i} x) n =
          sound x (keeps_part (instr.If r first (Some i)) (out-Instr i.value) (λ j p. part.second p) n)

      all_sound : {is : List Instr} {es : List Act} → All_act (leaf_in leaves) is es
          → ((j : Instr) → IsOneOf is j → KeepsInside m u to_state (out-Instr j)) → (a : Act) → IsOneOf es a
          → IsSoundIn tree to_state (out-Act a)
      all_sound acts.none f a i = absurd (one_none a i)
      all_sound (acts.one_and {i = j} {is = is} {a = c} {acts = es} x xs) f a i = elim (one_cases c es a i) [
        | inl q ↦ subst (λ (z : Act). IsSoundIn tree to_state (out-Act z)) q (sound x (f j (one_first j is)))
        | inr o ↦ all_sound xs (λ z k. f z (one_rest j is z k)) a o
      ]

    pub instruction_sound : (whole : InstrForm) (a : Act) → KeepsInside m u to_state whole → Acts whole a
        → IsSoundIn tree to_state (out-Act a)
    instruction_sound whole a n x = sound x n
