-- A bound instruction has the assignments of the written one, where each path in it became what it stands for.
use Rattle.std.proofs.Common.{◌≡◌, ℕ, Bool, true, false, List, [], ◌∷◌, ◌++◌, map, Option, Box, Global, refl, sym, ap, ◌∙◌, subst}
use Rattle.std.specs.List.{flat_map}
use Rattle.ar_base.specs.Lists.{Stands, IsOneOf, Along}
use Rattle.ar_base.specs.Lists as along
use Rattle.ar_base.specs.Numbers.{VarId}
use Rattle.ar_base.specs.declared.places.Place.{Place}
use Rattle.ar_base.proofs.Standing.{one_first, one_rest}
use Rattle.ar_base.proofs.Items.{along_append}
use Rattle.ar_syntax.specs.declared.expressions.RawExpr.{RawExpr}
use Rattle.ar_syntax.specs.declared.instructions.Instr.{Instr, out-Instr}
use Rattle.ar_syntax.specs.declared.instructions.Instr.TheOpen as instr
use Rattle.ar_syntax.specs.declared.paths.Path.{Path}
use Rattle.domains.specs.declared.Value.{Value}
use Rattle.typed_expr.specs.Renames.{Renames}
use Rattle.typed_expr.specs.Renames as r
use Rattle.typed_expr.specs.declared.expr.Expr.{Expr, out-Expr, roll-Expr, out-roll-Expr}
use Rattle.typed_expr.specs.declared.expr.Expr.TheOpen.{Variable}
use Rattle.ar_meaning.specs.Systems as s
use Rattle.ar_meaning.specs.Image.{Assign_renames, Conditions_rename}
use Rattle.ar_meaning.specs.Image as i
use Rattle.gts_core.specs.View.{numbered}
use Rattle.gts_core.specs.Bound as g
use Rattle.gts_core.specs.Bound.{act_step, assigns_under, places_of_act}
use Rattle.gts_core.proofs.Numbering.{source_numbered}
use Rattle.gts_core.proofs.ActForms.{placed, each_placed}
use Rattle.gts_core.specs.declared.bound.Act.{Act, out-Act}
use Rattle.gts_core.specs.declared.bound.Act.TheOpen as act
use Rattle.gts_core.specs.declared.bound.Act.TheOpen.{Act-F}
use Rattle.gts_core.specs.declared.bound.Act.TheFolds.{fold_out-Act, map-Act}
use Rattle.class_table.proofs.Taken.{map_join}
use Rattle.written_forms.specs.Translating.{BecomesBy}
use Rattle.written_forms.specs.declared.naming.Leaf.{Leaf}
use Rattle.written_forms.specs.declared.naming.Leaf.TheVariants as leaf
use Rattle.written_forms.specs.Parts.{InstrForm, IsPartOf}
use Rattle.written_forms.specs.Parts as part
use Rattle.written_forms.specs.Assigning.{SetsBoth}
use Rattle.written_forms.specs.Acting.{ActsAs, ElseActs, All_act}
use Rattle.written_forms.specs.Acting as acts
use Rattle.hierarchy.specs.Models.{RootedModel}
use Rattle.hierarchy.specs.Units.{UnitPath, Thing}
use Rattle.hierarchy.specs.Walks.{Finds, is_variable}
use Rattle.hierarchy.specs.Listing.{variables}
use Rattle.source_meaning.specs.Acts.{Conditions, Placed, sets, assigns_of, places_of, Sets, Sets_else, Sets_all}
use Rattle.source_meaning.specs.Acts as a
use Rattle.source_meaning.specs.Tested.{NamesVariable}
use Rattle.source_meaning.specs.BoundExpressions.{IsLeafFor, IsBoundExpression}
use Rattle.source_meaning.specs.BoundExpressions as stands
use Rattle.source_meaning.specs.BoundActs.{IsExpressionOf, test, value, assigned, left, right, AreLeaves, IsBoundInstruction}
use Rattle.source_meaning.proofs.OneMeaning.{leads_same, never_both, no_symbol}
use Rattle.source_meaning.proofs.BoundMeaning.{bound_meaning}

-- The assignments and places of bound instructions, by their forms

pub under : (b : Act) (x : Act-F Act) → out-Act b ≡ x → (ds : g.NumberedConditions)
    → assigns_under b ds ≡ act_step (map-Act Act (g.NumberedConditions → List (s.Assign ℕ)) assigns_under x) ds
under b x e ds =
    ap (λ (h : g.NumberedConditions → List (s.Assign ℕ)). h ds)
    (fold_out-Act (g.NumberedConditions → List (s.Assign ℕ)) act_step b
    ∙ ap (λ (y : Act-F Act). act_step (map-Act Act (g.NumberedConditions → List (s.Assign ℕ)) assigns_under y)) e)

pub each_under : (bs : List Act) (ds : g.NumberedConditions)
    → flat_map (λ (f : g.NumberedConditions → List (s.Assign ℕ)). f ds) (map assigns_under bs)
    ≡ flat_map (λ (b : Act). assigns_under b ds) bs
each_under [] ds = refl
each_under (b ∷ bs) ds = ap (λ z. assigns_under b ds ++ z) (each_under bs ds)

module _ (m : RootedModel) (units : List UnitPath) (u : UnitPath) (leaves : Path → Leaf) where
  -- the number stands for the variable
  abbrev R : Thing → ℕ → Type 0
  R t n = Stands (variables m units) n t

  more : {cs : Conditions} {ds : g.NumberedConditions} (e : Expr Thing) (f : Expr ℕ) (b : Bool) → Conditions_rename R cs
      ds → Renames R (out-Expr Thing e) (out-Expr ℕ f)
      → Conditions_rename R (cs ++ (e, b) ∷ []) (ds ++ (f, b) ∷ [])
  more e f b i.none q = i.one_and q i.none
  more e f b (i.one_and p cs) q = i.one_and p (more e f b cs q)

  -- the assignments under these conditions, here and there
  record Bound (cs : Conditions) (ds : g.NumberedConditions) (whole : InstrForm) (b : Act) : Type 0 where
    placed : List Placed
    are_sets : Sets m u cs whole placed
    numbers : Along (Assign_renames R) (assigns_of placed) (assigns_under b ds)
    places : places_of placed ≡ places_of_act b

  record BoundElse (cs : Conditions) (ds : g.NumberedConditions) (whole : Option (Box Instr Global))
      (b : Act) : Type 0 where
    placed : List Placed
    are_sets : Sets_else m u cs whole placed
    numbers : Along (Assign_renames R) (assigns_of placed) (assigns_under b ds)
    places : places_of placed ≡ places_of_act b

  record BoundAll (cs : Conditions) (ds : g.NumberedConditions) (is : List Instr) (bs : List Act) : Type 0 where
    placed : List Placed
    are_sets : Sets_all m u cs is placed
    numbers : Along (Assign_renames R) (assigns_of placed) (flat_map (λ (b : Act). assigns_under b ds) bs)
    places : places_of placed ≡ flat_map places_of_act bs

  -- Parts

  inner : {whole part_of : InstrForm} → ((j : InstrForm) → IsPartOf j part_of → IsPartOf j whole)
      → AreLeaves m units u leaves whole → AreLeaves m units u leaves part_of
  inner f l = record {
    targets = λ j p k t. l.targets j p (f j k) t;
    of_targets = λ j p k t. l.of_targets j p (f j k) t;
    of_expressions = λ j e p k t. l.of_expressions j e p (f j k) t;
    right = λ j e at k t. l.right j e at (f j k) t;
  }

  -- a variable by its number
  record Numbered (p : Path) (x : VarId) : Type 0 where
    thing : Thing
    finds : Finds m is_variable u p thing
    stands_for : R thing x.n

  by_leaf : (p : Path) (y : Leaf) (x : VarId) → IsLeafFor m units u p y → y ≡ leaf.Variable x → Numbered p x
  by_leaf p y x (stands.variable {x = z} t f k) e =
      let same : z ≡ x = cc e in
      record { thing = t; finds = f; stands_for = subst (λ (w : VarId). R t w.n) same k }
  by_leaf p y x (stands.parameter t f k) e = cc
  by_leaf p y x (stands.symbol k h) e = cc

  no_value : (p : Path) (y : Leaf) (v : Value) → NamesVariable m u p → IsLeafFor m units u p y → y ≡ leaf.Constant v → ⊥
  no_value p y v n (stands.variable t f k) e = cc
  no_value p y v n (stands.parameter t f k) e = never_both (leads_same n.finds.leads f.leads) n.finds.has f.has
  no_value p y v n (stands.symbol k h) e = no_symbol n.finds h

  -- an expression of the instruction
  one : (whole : InstrForm) (e : RawExpr) (f : Expr VarId) → AreLeaves m units u leaves whole → IsExpressionOf e whole
      → BecomesBy leaves e f → IsBoundExpression m units u e f
  one whole e f l k b = bound_meaning m units u leaves e f (λ p h. l.of_expressions whole e p part.itself k h)
      (λ at h. l.right whole e at part.itself k h) b

  by_number : (e : RawExpr) (f : Expr VarId) (b : IsBoundExpression m units u e f)
      → Renames R (out-Expr Thing b.meaning) (out-Expr ℕ (numbered f))
  by_number e f b = source_numbered (variables m units) b.meaning f b.numbers

  -- the variable itself as a value
  named : Thing → Expr Thing
  named t = roll-Expr Thing (Variable t)

  named_is : (t : Thing) → out-Expr Thing (named t) ≡ Variable t
  unfolding named
  named_is t = out-roll-Expr Thing (Variable t)

  named_number : (t : Thing) (y : VarId) (f : Expr VarId) → R t y.n → out-Expr VarId f ≡ Variable y
      → Renames R (out-Expr Thing (named t)) (out-Expr ℕ (numbered f))
  named_number t y f k e =
      source_numbered (variables m units) (named t) f
      (subst (λ z. Renames (λ (v : Thing) (x : VarId). R v x.n) z (out-Expr VarId f)) (sym (named_is t))
      (subst (λ z. Renames (λ (v : Thing) (x : VarId). R v x.n) (Variable t) z) (sym e) (r.variable k)))

  -- one assignment
  one_assign : (t : Thing) (cs : Conditions) (e : Expr Thing) (at : Place) (x : VarId) (ds : g.NumberedConditions)
      (f : Expr VarId) → R t x.n → Conditions_rename R cs ds
      → Renames R (out-Expr Thing e) (out-Expr ℕ (numbered f))
      → Assign_renames R ((sets t cs e at).assign) (record { target = x.n; conditions = ds; value = numbered f })
  one_assign t cs e at x ds f k c v = record { target = k; conditions = c; value = v }

  -- nothing
  nothing : (cs : Conditions) (ds : g.NumberedConditions) (whole : InstrForm) (b : Act) → Sets m u cs whole []
      → out-Act b ≡ act.Skip → Bound cs ds whole b
  nothing cs ds whole b h e = record {
    placed = [];
    are_sets = h;
    numbers = subst (λ z. Along (Assign_renames R) [] z) (sym (under b act.Skip e ds)) along.none;
    places = sym (placed b act.Skip e);
  }

  both_numbers : (acts_of : List Act) (b c : Act) (ds : g.NumberedConditions) (xs : List (s.Assign Thing))
      → acts_of ≡ b ∷ c ∷ [] → Along (Assign_renames R) xs (assigns_under b ds ++ (assigns_under c ds ++ []))
      → Along (Assign_renames R) xs (flat_map (λ (d : Act). assigns_under d ds) acts_of)
  both_numbers acts_of b c ds xs e h =
      subst (λ (z : List Act). Along (Assign_renames R) xs (flat_map (λ (d : Act). assigns_under d ds) z)) (sym e) h

  -- a `:=:`
  tied : (cs : Conditions) (ds : g.NumberedConditions) (p q : Path) (b : Act) (x y : VarId) → Conditions_rename R cs ds
      → Numbered p x → Numbered q y → SetsBoth x p.at y q.at b → Bound cs ds (instr.Tie p q) b
  tied cs ds p q b x y w f h k =
      let first = k.sets_first in
      let second = k.sets_second in
      let e = named h.thing in
      let d = named f.thing in
      let at_first : assigns_under k.first ds
      ≡ record { target = x.n; conditions = ds; value = numbered first.value } ∷ [] =
      under k.first (act.Set x first.value p.at) first.is ds in
      let at_second : assigns_under k.second ds
      ≡ record { target = y.n; conditions = ds; value = numbered second.value } ∷ [] =
      under k.second (act.Set y second.value q.at) second.is ds in
      let one_of = one_assign f.thing cs e p.at x ds first.value f.stands_for w
      (named_number h.thing y first.value h.stands_for first.names) in
      let other_of = one_assign h.thing cs d q.at y ds second.value h.stands_for w
      (named_number f.thing x second.value f.stands_for second.names) in
      let xs = assigns_of (sets f.thing cs e p.at ∷ sets h.thing cs d q.at ∷ []) in
      let joined = subst (λ z. Along (Assign_renames R) xs (z ++ (assigns_under k.second ds ++ []))) (sym at_first)
      (subst (λ z. Along (Assign_renames R) xs
      ((record { target = x.n; conditions = ds; value = numbered first.value } ∷ []) ++ (z ++ []))) (sym at_second)
      (along.one_and one_of (along.one_and other_of along.none))) in
      let whole = under b (act.All k.acts) k.is ds ∙ each_under k.acts.items ds in
      let place_first = placed k.first (act.Set x first.value p.at) first.is in
      let place_second = placed k.second (act.Set y second.value q.at) second.is in
      let places_joined = ap (λ z. z ++ (places_of_act k.second ++ [])) place_first
      ∙ ap (λ z. (p.at ∷ []) ++ (z ++ [])) place_second in
      let places_all = placed b (act.All k.acts) k.is
      ∙ (each_placed k.acts.items ∙ (ap (λ (z : List Act). flat_map places_of_act z) k.are ∙ places_joined)) in
      record {
        placed = sets f.thing cs e p.at ∷ sets h.thing cs d q.at ∷ [];
        are_sets = a.tie f.finds h.finds (named_is f.thing) (named_is h.thing);
        numbers = subst (λ z. Along (Assign_renames R) xs z) (sym whole)
            (both_numbers k.acts.items k.first k.second ds xs k.are joined);
        places = sym places_all;
      }

  -- two lists of assignments, one after the other
  joined_numbers : (xs ys : List Placed) (vs ws : List (s.Assign ℕ)) → Along (Assign_renames R) (assigns_of xs) vs
      → Along (Assign_renames R) (assigns_of ys) ws
      → Along (Assign_renames R) (assigns_of (xs ++ ys)) (vs ++ ws)
  joined_numbers xs ys vs ws h k = subst (λ z. Along (Assign_renames R) z (vs ++ ws))
      (sym (map_join (λ (p : Placed). p.assign) xs ys)) (along_append h k)

  joined_places : (xs ys : List Placed) (ps qs : List Place) → places_of xs ≡ ps → places_of ys ≡ qs
      → places_of (xs ++ ys) ≡ ps ++ qs
  joined_places xs ys ps qs h k = map_join (λ (p : Placed). p.at) xs ys
      ∙ (ap (λ z. z ++ places_of ys) h ∙ ap (λ z. ps ++ z) k)

  mutual
    bound : {whole : InstrForm} {b : Act} → ActsAs leaves whole b → AreLeaves m units u leaves whole
        → (cs : Conditions) (ds : g.NumberedConditions) → Conditions_rename R cs ds → Bound cs ds whole b
    bound {b = b} (acts.skip e) l cs ds w = nothing cs ds instr.Skip b a.skip e
    bound {b = b} (acts.assign {p = p} {r = v} x f k h e) l cs ds w =
        let t = by_leaf p (leaves p) x (l.of_targets (instr.Assign p v) p part.itself assigned) k in
        let n = one (instr.Assign p v) v f l value h in
        record {
          placed = sets t.thing cs n.meaning p.at ∷ [];
          are_sets = a.assign t.finds n.means;
          numbers = subst (λ z. Along (Assign_renames R) (assigns_of (sets t.thing cs n.meaning p.at ∷ [])) z)
              (sym (under b (act.Set x f p.at) e ds))
              (along.one_and (one_assign t.thing cs n.meaning p.at x ds f t.stands_for w (by_number v f n)) along.none);
          places = sym (placed b (act.Set x f p.at) e);
        }
    bound (acts.no_target {p = p} {r = v} c k e) l cs ds w =
        absurd (no_value p (leaves p) c (l.targets (instr.Assign p v) p part.itself assigned)
        (l.of_targets (instr.Assign p v) p part.itself assigned) k)
    bound {b = b} (acts.tie {p = p} {q = q} x y h k both) l cs ds w =
        tied cs ds p q b x y w (by_leaf p (leaves p) x (l.of_targets (instr.Tie p q) p part.itself left) h)
        (by_leaf q (leaves q) y (l.of_targets (instr.Tie p q) q part.itself right) k) both
    bound (acts.no_left {p = p} {q = q} c k e) l cs ds w =
        absurd (no_value p (leaves p) c (l.targets (instr.Tie p q) p part.itself left)
        (l.of_targets (instr.Tie p q) p part.itself left) k)
    bound (acts.no_right {p = p} {q = q} c k e) l cs ds w =
        absurd (no_value q (leaves q) c (l.targets (instr.Tie p q) q part.itself right)
        (l.of_targets (instr.Tie p q) q part.itself right) k)
    bound {b = b} (acts.conditional {r = v} {first = first} {second = second} f c d h e k o) l cs ds w =
        let n = one (instr.If v first second) v f l test h in
        let q = by_number v f n in
        let x = bound k (inner (λ j p. part.first p) l) (cs ++ (n.meaning, true) ∷ []) (ds ++ (numbered f, true) ∷ [])
        (more n.meaning (numbered f) true w q) in
        let y = bound_else v first o l (cs ++ (n.meaning, false) ∷ []) (ds ++ (numbered f, false) ∷ [])
        (more n.meaning (numbered f) false w q) in
        record {
          placed = x.placed ++ y.placed;
          are_sets = a.conditional n.meaning n.means x.are_sets y.are_sets;
          numbers = subst (λ z. Along (Assign_renames R) (assigns_of (x.placed ++ y.placed)) z)
              (sym (under b (act.If f c d) e ds))
              (joined_numbers x.placed y.placed _ _ x.numbers y.numbers);
          places = joined_places x.placed y.placed _ _ x.places y.places ∙ sym (placed b (act.If f c d) e);
        }
    bound {b = b} (acts.all {is = is} bs e h) l cs ds w =
        let x = bound_all is.items h (λ j o. inner (λ k p. part.item j o p) l) cs ds w in
        record {
          placed = x.placed;
          are_sets = a.all x.are_sets;
          numbers = subst (λ z. Along (Assign_renames R) (assigns_of x.placed) z)
              (sym (under b (act.All bs) e ds ∙ each_under bs.items ds)) x.numbers;
          places = x.places ∙ sym (placed b (act.All bs) e ∙ each_placed bs.items);
        }

    bound_else : (v : RawExpr) (first : Box Instr Global) {second : Option (Box Instr Global)} {b : Act}
        → ElseActs leaves second b → AreLeaves m units u leaves (instr.If v first second) → (cs : Conditions)
        (ds : g.NumberedConditions) → Conditions_rename R cs ds → BoundElse cs ds second b
    bound_else v first {b = b} (acts.no_branch e) l cs ds w = record {
      placed = [];
      are_sets = a.no_branch;
      numbers = subst (λ z. Along (Assign_renames R) [] z) (sym (under b act.Skip e ds)) along.none;
      places = sym (placed b act.Skip e);
    }
    bound_else v first (acts.branch h) l cs ds w =
        let x = bound h (inner (λ j p. part.second p) l) cs ds w in
        record { placed = x.placed; are_sets = a.branch x.are_sets; numbers = x.numbers; places = x.places }

    bound_all : (is : List Instr) {bs : List Act} → All_act leaves is bs
        → ((j : Instr) → IsOneOf is j → AreLeaves m units u leaves (out-Instr j))
        → (cs : Conditions) (ds : g.NumberedConditions)
        → Conditions_rename R cs ds → BoundAll cs ds is bs
    bound_all [] acts.none l cs ds w = record { placed = []; are_sets = a.none; numbers = along.none; places = refl }
    bound_all (j ∷ js) (acts.one_and h hs) l cs ds w =
        let x = bound h (l j (one_first j js)) cs ds w in
        let y = bound_all js hs (λ k o. l k (one_rest j js k o)) cs ds w in
        record {
          placed = x.placed ++ y.placed;
          are_sets = a.one_and x.are_sets y.are_sets;
          numbers = joined_numbers x.placed y.placed _ _ x.numbers y.numbers;
          places = joined_places x.placed y.placed _ _ x.places y.places;
        }

  pub bound_instruction : (whole : InstrForm) (b : Act) → AreLeaves m units u leaves whole → ActsAs leaves whole b
      → IsBoundInstruction m units u whole b
  bound_instruction whole b l h =
      let x = bound h l [] [] i.none in
      record { placed = x.placed; sets = x.are_sets; numbers = x.numbers; places = x.places }
