-- The nodes of the assignments of an instruction, form by form.
use Rattle.std.proofs.Common.{◌≡◌, ℕ, ◌+◌, Bool, true, false, List, [], ◌∷◌, ◌++◌, map, take, Vec, Box, Global, refl, sym, ap, ◌∙◌, append_assoc, min, arith}
use Rattle.std.proofs.lemmas.List.{append-nil}
use Rattle.std.specs.List.{flat_map}
use Rattle.ar_base.specs.Lists.{Stands}
use Rattle.ar_base.specs.Numbers.{VarId}
use Rattle.ar_base.specs.declared.places.Place.{Place}
use Rattle.typed_expr.specs.declared.expr.Expr.{Expr}
use Rattle.ar_meaning.specs.Systems.{Assign}
use Rattle.gts_core.specs.Bound.{NumberedConditions, act_step, assigns_under}
use Rattle.gts_core.specs.View.{numbered}
use Rattle.gts_core.specs.declared.bound.Act.{Act, Skip, Set, out-Act}
use Rattle.gts_core.specs.declared.bound.Act.TheOpen as form
use Rattle.gts_core.specs.declared.bound.Act.TheOpen.{Act-F}
use Rattle.gts_core.specs.declared.bound.Act.TheFolds.{fold_out-Act, map-Act}
use Rattle.gts_core.specs.declared.bound.Act.TheViews.{If, All, outs-If, outs-All}
use Rattle.gts_core.proofs.ActForms.{opened_skip, opened_set}
use Rattle.sync_expand.proofs.Placed.{take_next}
use Rattle.gts_flatten.specs.Sizes.{nodes_of, condition_nodes, assigns_nodes}
use Rattle.gts_flatten.proofs.Renamed.{numbered_nodes}

arm : (act : Act) (x : Act-F Act) → out-Act act ≡ x
    → assigns_under act ≡ act_step (map-Act Act (NumberedConditions → List (Assign ℕ)) assigns_under x)
arm act x e = fold_out-Act (NumberedConditions → List (Assign ℕ)) act_step act
    ∙ ap (λ (y : Act-F Act). act_step (map-Act Act (NumberedConditions → List (Assign ℕ)) assigns_under y)) e

at_conditions : {f g : NumberedConditions → List (Assign ℕ)} → f ≡ g → (cs : NumberedConditions) → f cs ≡ g cs
at_conditions e cs = ap (λ h. h cs) e

-- joined lists
conditions_append : (cs ds : NumberedConditions) → condition_nodes (cs ++ ds) ≡ condition_nodes cs + condition_nodes ds
conditions_append [] ds = omega arith
conditions_append (c ∷ cs) ds = let i = conditions_append cs ds in omega (arith, i)

assigns_append : (xs ys : List (Assign ℕ)) → assigns_nodes (xs ++ ys) ≡ assigns_nodes xs + assigns_nodes ys
assigns_append [] ys = omega arith
assigns_append (x ∷ xs) ys = let i = assigns_append xs ys in omega (arith, i)

pub skip_nodes : (act : Act) → act ≡ Skip → (cs : NumberedConditions) → assigns_nodes (assigns_under act cs) ≡ 0
skip_nodes act e cs = ap assigns_nodes (at_conditions (arm act form.Skip (ap out-Act e ∙ opened_skip)) cs)

pub set_nodes : (act : Act) (x : VarId) (e : Expr VarId) (p : Place) → act ≡ Set x e p → (cs : NumberedConditions)
    → assigns_nodes (assigns_under act cs) ≡ condition_nodes cs + nodes_of e
set_nodes act x e p j cs =
    let i = ap assigns_nodes (at_conditions (arm act (form.Set x e p) (ap out-Act j ∙ opened_set x e p)) cs) in
    let n = numbered_nodes e in
    omega (arith, i, n)

-- one condition more
pub inner_nodes : (cs : NumberedConditions) (t : Expr VarId) (b : Bool) (above n inner : ℕ)
    → above ≡ min 1000001 (condition_nodes cs) → n ≡ min 1000001 (nodes_of t) → inner ≡ min 1000001 (above + n)
    → inner ≡ min 1000001 (condition_nodes (cs ++ (numbered t, b) ∷ []))
inner_nodes cs t b above n inner i j k =
    let a = conditions_append cs ((numbered t, b) ∷ []) in
    let m = numbered_nodes t in
    omega (arith, a, m, i, j, k)

pub if_nodes : (act : Act) (t : Expr VarId) (a b : Box Act Global) → act ≡ If t a b → (cs : NumberedConditions)
    → assigns_nodes (assigns_under act cs)
    ≡ assigns_nodes (assigns_under a.value (cs ++ (numbered t, true) ∷ [])) + assigns_nodes
    (assigns_under b.value (cs ++ (numbered t, false) ∷ []))
if_nodes act t a b j cs =
    ap assigns_nodes (at_conditions (arm act (form.If t a b) (ap out-Act j ∙ outs-If t a b)) cs)
    ∙ assigns_append (assigns_under a.value (cs ++ (numbered t, true) ∷ []))
    (assigns_under b.value (cs ++ (numbered t, false) ∷ []))

each_is : (acts : List Act) (cs : NumberedConditions)
    → flat_map (λ (f : NumberedConditions → List (Assign ℕ)). f cs) (map assigns_under acts)
    ≡ flat_map (λ (a : Act). assigns_under a cs) acts
each_is [] cs = refl
each_is (a ∷ acts) cs = ap (λ z. assigns_under a cs ++ z) (each_is acts cs)

pub all_nodes : (act : Act) (es : Vec Act Global) → act ≡ All es → (cs : NumberedConditions)
    → assigns_nodes (assigns_under act cs) ≡ assigns_nodes (flat_map (λ (a : Act). assigns_under a cs) es.items)
all_nodes act es j cs = ap assigns_nodes
    (at_conditions (arm act (form.All es) (ap out-Act j ∙ outs-All es)) cs ∙ each_is es.items cs)

flat_append : (acts bs : List Act) (cs : NumberedConditions)
    → flat_map (λ (a : Act). assigns_under a cs) (acts ++ bs)
    ≡ flat_map (λ (a : Act). assigns_under a cs) acts ++ flat_map (λ (a : Act). assigns_under a cs) bs
flat_append [] bs cs = refl
flat_append (a ∷ acts) bs cs = ap (λ z. assigns_under a cs ++ z) (flat_append acts bs cs)
    ∙ sym (append_assoc (assigns_under a cs) (flat_map (λ (x : Act). assigns_under x cs) acts)
    (flat_map (λ (x : Act). assigns_under x cs) bs))

-- one instruction more
pub acts_next : (acts : List Act) (i : ℕ) (a : Act) (cs : NumberedConditions) (old n new : ℕ) → Stands acts i a
    → old ≡ min 1000001 (assigns_nodes (flat_map (λ (x : Act). assigns_under x cs) (take i acts)))
    → n ≡ min 1000001 (assigns_nodes (assigns_under a cs)) → new ≡ min 1000001 (old + n)
    → new ≡ min 1000001 (assigns_nodes (flat_map (λ (x : Act). assigns_under x cs) (take (i + 1) acts)))
acts_next acts i a cs old n new s j k h =
    let t = ap (λ (xs : List Act). assigns_nodes (flat_map (λ (x : Act). assigns_under x cs) xs))
    (take_next acts i a s) in
    let f = ap assigns_nodes (flat_append (take i acts) (a ∷ []) cs
    ∙ ap (λ (ys : List (Assign ℕ)). flat_map (λ (x : Act). assigns_under x cs) (take i acts) ++ ys)
    (append-nil (assigns_under a cs))) in
    let g = assigns_append (flat_map (λ (x : Act). assigns_under x cs) (take i acts)) (assigns_under a cs) in
    omega (arith, t, f, g, j, k, h)
