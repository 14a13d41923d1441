-- The effects of a way are those of the local ways that take part.
use Rattle.std.proofs.Common.{◌≡◌, ℕ, zero, suc, Bool, true, false, List, [], ◌∷◌, map, Vec, Global, refl, sym, ap, subst}
use Rattle.ar_base.specs.Lists.{Stands, IsOneOf}
use Rattle.ar_base.proofs.Standing.{stands_map, stands_map_back, stands_within}
use Rattle.domains.specs.declared.Value.{Value}
use Rattle.typed_expr.specs.Yields.{Yields}
use Rattle.typed_expr.specs.declared.expr.Expr.{Expr, out-Expr}
use Rattle.ar_meaning.specs.Systems as s
use Rattle.ar_meaning.specs.Facts.{PassesConditions}
use Rattle.ar_meaning.specs.Found.{IsAnswer}
use Rattle.ar_meaning.specs.Numbered.{Acts, Joins, Means_way, leaf, joint, Mean_parts, no_part, part}
use Rattle.ar_meaning.specs.Ways.{Can, Effects, acts, by_part, Part_effects, by_must, by_may, by_later}
use Rattle.ar_meaning.proofs.OneRun.{means_same}
use Rattle.ar_base.specs.Numbers.{VarId, WayId}
use Rattle.gts_core.specs.View.{numbered, way_bodies, body_of_way, of_body, part_of, assign_of}
use Rattle.gts_core.specs.Sound.{IsSound}
use Rattle.gts_core.specs.declared.system.Assign.{Assign}
use Rattle.gts_core.specs.declared.system.Way.{Way}
use Rattle.gts_core.specs.declared.system.WayBody.{WayBody}
use Rattle.gts_core.specs.declared.system.WayBody.TheVariants as body
use Rattle.gts_core.specs.declared.system.GtsParts.{GtsParts}
use Rattle.way_flags.specs.Parts.{flag_at}
use Rattle.way_flags.specs.Ways.{parts_of}
use Rattle.way_flags.specs.Taking.{takes_part, TakesPart}
use Rattle.way_flags.specs.Taking as takes
use Rattle.gts_core.proofs.Tests.{is_true, answer_true}
use Rattle.ar_base.proofs.Standing.{one_first, one_rest}

module _ (p : GtsParts) (K : ℕ → Value → Type 0) (flags : List Bool) (top : ℕ)
    (right : (n : ℕ) (u : s.Way ℕ) → Means_way (way_bodies p) n u → IsAnswer (flag_at flags n) (Can K u)) where
  -- an assignment of a local way that takes part gives the variable this value
  pub record Acted (x : ℕ) (v : Value) : Type 0 where
    pub number : ℕ
    pub taken : TakesPart p flags top number
    pub way : Way
    pub stands : Stands p.ways.items number way
    pub guard : Expr VarId
    pub action : Vec Assign Global
    pub is_local : way.body ≡ body.Local guard action
    pub assign : Assign
    pub is_one : IsOneOf action.items assign
    pub passes : PassesConditions K (assign_of assign).conditions
    pub yields : Yields K (out-Expr ℕ (assign_of assign).value) v
    pub target : assign.target.n ≡ x

  -- what a local way that takes part does
  acted_leaf : (n : ℕ) (way : Way) (b : WayBody) (d : s.Transition ℕ) (a : s.Assign ℕ) (v : Value)
      → TakesPart p flags top n → Stands p.ways.items n way → way.body ≡ b → of_body b ≡ Acts d
      → IsOneOf d.action a → PassesConditions K a.conditions → Yields K (out-Expr ℕ a.value) v → Acted a.target v
  acted_leaf n way (body.Sync ps) d a v tk st e i one pa y = cc
  acted_leaf n way (body.Local guard action) d a v tk st e i one pa y =
      let same : d ≡ record { guard = numbered guard; action = map assign_of action.items } = cc in
      let acts_here : d.action ≡ map assign_of action.items = ap (λ (z : s.Transition ℕ). z.action) same in
      let back = stands_map_back assign_of action.items one.place a
      (subst (λ (z : List (s.Assign ℕ)). Stands z one.place a) acts_here one.stands) in
      let is : assign_of back.0 ≡ a = back.2 in
      record {
        number = n;
        taken = tk;
        way = way;
        stands = st;
        guard = guard;
        action = action;
        is_local = e;
        assign = back.0;
        is_one = record { place = one.place; stands = back.1 };
        passes = subst (λ (z : s.Assign ℕ). PassesConditions K z.conditions) (sym is) pa;
        yields = subst (λ (z : s.Assign ℕ). Yields K (out-Expr ℕ z.value) v) (sym is) y;
        target = ap (λ (z : s.Assign ℕ). z.target) is;
      }

  -- a part of a way that takes part, and takes part itself
  taken_part : (n : ℕ) (way : Way) (ps : List (Bool × WayId)) (q : Bool × WayId) → TakesPart p flags top n
      → Stands p.ways.items n way → parts_of way.body ≡ ps → IsOneOf ps q → takes_part flags q ≡ true
      → TakesPart p flags top q.1.n
  taken_part n way ps q tk st e one h =
      takes.part q tk (record {
        way = way;
        stands = st;
        is_part = subst (λ (z : List (Bool × WayId)). IsOneOf z q) (sym e) one;
      }) h refl

  parts_here : (b : WayBody) (qs : List (Bool × ℕ)) → of_body b ≡ Joins qs → map part_of (parts_of b) ≡ qs
  parts_here (body.Local guard action) qs e = cc
  parts_here (body.Sync ps) qs e = cc

  mutual
    pub acted : {u : s.Way ℕ} {x : ℕ} {v : Value} (n : ℕ) → TakesPart p flags top n → Means_way (way_bodies p) n u
        → Effects K u x v → Acted x v
    acted n tk (leaf {l = l} st) (acts {v = v} a one pa y) =
        let back = stands_map_back body_of_way p.ways.items n (Acts l) st in
        acted_leaf n back.0 back.0.body l a v tk back.1 refl back.2 one pa y
    acted n tk (joint {parts = qs} {bs = bs} st m) (by_part e) =
        let back = stands_map_back body_of_way p.ways.items n (Joins qs) st in
        let here : map part_of (parts_of back.0.body) ≡ qs = parts_here back.0.body qs back.2 in
        acted_parts (parts_of back.0.body) bs
        (λ q one h. taken_part n back.0 (parts_of back.0.body) q tk back.1 refl one h)
        (subst (λ (z : List (Bool × ℕ)). Mean_parts (way_bodies p) z bs) (sym here) m) e

    acted_parts : {x : ℕ} {v : Value} (ps : List (Bool × WayId)) (bs : s.Branches (s.Transition ℕ))
        → ((q : Bool × WayId) → IsOneOf ps q → takes_part flags q ≡ true → TakesPart p flags top q.1.n)
        → Mean_parts (way_bodies p) (map part_of ps) bs → Part_effects K bs x v → Acted x v
    acted_parts [] s.Empty tk no_part e = elim e [ ]
    acted_parts [] (s.Branch must u bs) tk m e = elim m [ ]
    acted_parts (q ∷ ps) s.Empty tk m e = elim e [ ]
    acted_parts ((true, id) ∷ ps) (s.Branch must u bs) tk (part m ms) (by_must e) =
        acted id.n (tk (true, id) (one_first (true, id) ps) refl) m e
    acted_parts ((false, id) ∷ ps) (s.Branch must u bs) tk (part m ms) (by_may c e) =
        acted id.n (tk (false, id) (one_first (false, id) ps)
        (is_true (flag_at flags id.n) (Can K u) (right id.n u m) c)) m e
    acted_parts (q ∷ ps) (s.Branch must u bs) tk (part m ms) (by_later e) =
        acted_parts ps bs (λ r one h. tk r (one_rest q ps r one) h) ms e

  -- the effects of a part that takes part
  part_effect : {x : ℕ} {v : Value} (ps : List (Bool × WayId)) (bs : s.Branches (s.Transition ℕ))
      → Mean_parts (way_bodies p) (map part_of ps) bs → (k : ℕ) (q : Bool × WayId) → Stands ps k q
      → takes_part flags q ≡ true
      → (u : s.Way ℕ) → Means_way (way_bodies p) q.1.n u → Effects K u x v → Part_effects K bs x v
  part_effect [] s.Empty no_part zero q st h u m e = cc
  part_effect [] s.Empty no_part (suc k) q st h u m e = cc
  part_effect [] (s.Branch must w bs) m k q st h u n e = elim m [ ]
  part_effect (r ∷ ps) s.Empty m k q st h u n e = elim m [ ]
  part_effect {x = x} {v = v} ((true, id) ∷ ps) (s.Branch must w bs) (part m ms) zero q st h u n e =
      let same : q ≡ (true, id) = cc in
      let there : Means_way (way_bodies p) id.n u =
      subst (λ (z : Bool × WayId). Means_way (way_bodies p) z.1.n u) same n in
      by_must (subst (λ (z : s.Way ℕ). Effects K z x v) (means_same (way_bodies p) there m) e)
  part_effect {x = x} {v = v} ((false, id) ∷ ps) (s.Branch must w bs) (part m ms) zero q st h u n e =
      let same : q ≡ (false, id) = cc in
      let there : Means_way (way_bodies p) id.n u =
      subst (λ (z : Bool × WayId). Means_way (way_bodies p) z.1.n u) same n in
      let set : takes_part flags (false, id) ≡ true = subst (λ (z : Bool × WayId). takes_part flags z ≡ true) same h in
      by_may (answer_true (flag_at flags id.n) (Can K w) set (right id.n w m))
      (subst (λ (z : s.Way ℕ). Effects K z x v) (means_same (way_bodies p) there m) e)
  part_effect (r ∷ ps) (s.Branch must w bs) (part m ms) (suc k) q st h u n e =
      by_later (part_effect ps bs ms k q st h u n e)

  joint_effect : {x : ℕ} {v : Value} (n : ℕ) (w : s.Way ℕ) → Means_way (way_bodies p) n w → (way : Way) (b : WayBody)
      → Stands p.ways.items n way → way.body ≡ b → (q : Bool × WayId) → IsOneOf (parts_of b) q
      → takes_part flags q ≡ true
      → (u : s.Way ℕ) → Means_way (way_bodies p) q.1.n u → Effects K u x v → Effects K w x v
  joint_effect n w m way (body.Local guard action) st e q one h u k d = absurd (nothing one.place one.stands)
    where
      nothing : (k : ℕ) → Stands [] k q → ⊥
      nothing zero j = cc
      nothing (suc k) j = cc
  joint_effect n (s.Leaf l) (leaf j) way (body.Sync ps) st e q one h u k d =
      let there : Stands (way_bodies p) n (body_of_way way) = stands_map body_of_way p.ways.items n way st in
      let is : body_of_way way ≡ Joins (map part_of ps.items) = ap of_body e in cc
  joint_effect n (s.Joint bs) (joint {parts = qs} j m) way (body.Sync ps) st e q one h u k d =
      let there : Stands (way_bodies p) n (body_of_way way) = stands_map body_of_way p.ways.items n way st in
      let is : body_of_way way ≡ Joins (map part_of ps.items) = ap of_body e in
      let same : qs ≡ map part_of ps.items = cc in
      by_part (part_effect ps.items bs (subst (λ (z : List (Bool × ℕ)). Mean_parts (way_bodies p) z bs) same m)
      one.place
      q one.stands h u k d)

  -- the effects of a way that takes part are effects of the way that is fired
  pub taken_effect : IsSound p → {x : ℕ} {v : Value} (fired : s.Way ℕ) → Means_way (way_bodies p) top fired → (n : ℕ)
      → TakesPart p flags top n → (u : s.Way ℕ) → Means_way (way_bodies p) n u → Effects K u x v → Effects K fired x v
  taken_effect sound {x = x} {v = v} fired f n takes.itself u m e =
      subst (λ (z : s.Way ℕ). Effects K z x v) (means_same (way_bodies p) m f) e
  taken_effect sound fired f n (takes.part {n = k} q tk has h i) u m e =
      let tree = sound.trees k (stands_within p.ways.items k has.way has.stands) in
      let there : Means_way (way_bodies p) q.1.n u = subst (λ (z : ℕ). Means_way (way_bodies p) z u) (sym i) m in
      taken_effect sound fired f k tk tree.0 tree.1
      (joint_effect k tree.0 tree.1 has.way has.way.body has.stands refl q has.is_part h u there e)
