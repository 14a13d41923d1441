-- Whether a way can fire, by the flags of its parts.
use Rattle.std.proofs.Common.{◌≡◌, ℕ, Bool, true, false, cond, List, [], ◌∷◌, map, refl, sym, subst}
use Rattle.ar_base.specs.Lists.{Stands, IsOneOf}
use Rattle.ar_base.proofs.Standing.{stands_map}
use Rattle.domains.specs.declared.Value.{Value}
use Rattle.domains.specs.declared.Value.TheVariants.{Truth}
use Rattle.typed_expr.specs.Yields.{Yields}
use Rattle.typed_expr.specs.declared.expr.Expr.{out-Expr}
use Rattle.ar_meaning.specs.Systems as s
use Rattle.ar_meaning.specs.Facts.{HasValue}
use Rattle.ar_meaning.specs.Found.{IsAnswer}
use Rattle.ar_meaning.specs.Numbered.{Acts, Joins, Means_way, leaf, joint, Mean_parts, no_part, part}
use Rattle.ar_meaning.specs.Ways.{Can, guard_holds, all_musts, some_may, Musts_can, Some_can, has_must}
use Rattle.ar_meaning.specs.Ways as w
use Rattle.ar_base.specs.Numbers.{WayId}
use Rattle.gts_core.specs.View.{numbered, net_of, way_bodies, body_of_way, of_body, part_of, assign_of}
use Rattle.gts_core.specs.Sound.{IsSound}
use Rattle.gts_core.specs.declared.system.Way.{Way}
use Rattle.gts_core.specs.declared.system.WayBody.{WayBody}
use Rattle.gts_core.specs.declared.system.WayBody.TheVariants as body
use Rattle.gts_core.specs.declared.system.GtsParts.{GtsParts}
use Rattle.gts_core.specs.Readings.{is_met}
use Rattle.gts_core.specs.Readings.{IsTotal}
use Rattle.way_flags.specs.Parts.{flag_at, musts_by, some_by, has_must_in}
use Rattle.way_flags.specs.Ways.{parts_of, can_by}
use Rattle.gts_core.proofs.Tests.{and_answer, or_answer, turned_answer}
use Rattle.ar_base.proofs.Standing.{one_first, one_rest}
use Rattle.gts_core.proofs.Reading.{met_answer}

module _ (p : GtsParts) (K : ℕ → Value → Type 0) (flags : List Bool) where
  -- the flags of these parts are right
  abbrev pub AreRight : List (Bool × WayId) → Type 0
  AreRight ps = (q : Bool × WayId) → IsOneOf ps q → (u : s.Way ℕ) → Means_way (way_bodies p) q.1.n u
      → IsAnswer (flag_at flags q.1.n) (Can K u)

  must_first : {u : s.Way ℕ} {bs : s.Branches (s.Transition ℕ)} → Musts_can K (s.Branch true u bs) → Can K u
  must_first (w.must c m) = c

  must_rest : {u : s.Way ℕ} {bs : s.Branches (s.Transition ℕ)} → Musts_can K (s.Branch true u bs) → Musts_can K bs
  must_rest (w.must c m) = m

  may_rest : {u : s.Way ℕ} {bs : s.Branches (s.Transition ℕ)} → Musts_can K (s.Branch false u bs) → Musts_can K bs
  may_rest (w.may m) = m

  none_can : {b : Bool} {u : s.Way ℕ} {bs : s.Branches (s.Transition ℕ)} → (Can K u → ⊥) → (Some_can K bs → ⊥)
      → Some_can K (s.Branch b u bs) → ⊥
  none_can n m (w.this c) = n c
  none_can n m (w.later c) = m c

  no_some : Some_can K s.Empty → ⊥
  no_some h = elim h [ ]

  pub musts_answer : (ps : List (Bool × WayId)) (bs : s.Branches (s.Transition ℕ))
      → Mean_parts (way_bodies p) (map part_of ps) bs → AreRight ps → IsAnswer (musts_by flags ps) (Musts_can K bs)
  musts_answer [] s.Empty no_part right = w.no_part
  musts_answer [] (s.Branch must u bs) m right = elim m [ ]
  musts_answer ((false, id) ∷ ps) s.Empty m right = elim m [ ]
  musts_answer ((true, id) ∷ ps) s.Empty m right = elim m [ ]
  musts_answer ((true, id) ∷ ps) (s.Branch must u bs) (part m ms) right =
      and_answer (flag_at flags id.n) (musts_by flags ps) (Can K u) (Musts_can K bs) (Musts_can K (s.Branch true u bs))
      (λ c k. w.must c k) must_first must_rest
      (right (true, id) (one_first (true, id) ps) u m)
      (musts_answer ps bs ms (λ q h. right q (one_rest (true, id) ps q h)))
  musts_answer ((false, id) ∷ ps) (s.Branch must u bs) (part m ms) right =
      turned_answer (musts_by flags ps) (Musts_can K bs) (Musts_can K (s.Branch false u bs)) (λ k. w.may k) may_rest
      (musts_answer ps bs ms (λ q h. right q (one_rest (false, id) ps q h)))

  pub some_answer : (ps : List (Bool × WayId)) (bs : s.Branches (s.Transition ℕ))
      → Mean_parts (way_bodies p) (map part_of ps) bs → AreRight ps → IsAnswer (some_by flags ps) (Some_can K bs)
  some_answer [] s.Empty no_part right = no_some
  some_answer [] (s.Branch must u bs) m right = elim m [ ]
  some_answer (q ∷ ps) s.Empty m right = elim m [ ]
  some_answer (q ∷ ps) (s.Branch must u bs) (part m ms) right =
      or_answer (flag_at flags q.1.n) (some_by flags ps) (Can K u) (Some_can K bs) (Some_can K (s.Branch q.0 u bs))
      (λ c. w.this c) (λ k. w.later k) none_can
      (right q (one_first q ps) u m) (some_answer ps bs ms (λ r h. right r (one_rest q ps r h)))

  pub has_must_same : (ps : List (Bool × WayId)) (bs : s.Branches (s.Transition ℕ))
      → Mean_parts (way_bodies p) (map part_of ps) bs → has_must_in ps ≡ has_must bs
  has_must_same [] s.Empty no_part = refl
  has_must_same [] (s.Branch must u bs) m = elim m [ ]
  has_must_same ((false, id) ∷ ps) s.Empty m = elim m [ ]
  has_must_same ((true, id) ∷ ps) s.Empty m = elim m [ ]
  has_must_same ((true, id) ∷ ps) (s.Branch must u bs) (part m ms) = refl
  has_must_same ((false, id) ∷ ps) (s.Branch must u bs) (part m ms) = has_must_same ps bs ms

  joint_answer : (h musts some : Bool) (bs : s.Branches (s.Transition ℕ)) → h ≡ has_must bs
      → IsAnswer musts (Musts_can K bs) → IsAnswer some (Some_can K bs)
      → IsAnswer (cond h musts some) (Can K (s.Joint bs))
  joint_answer true musts some bs e m n =
      turned_answer musts (Musts_can K bs) (Can K (s.Joint bs)) (all_musts (sym e)) opened m
    where
      opened : Can K (s.Joint bs) → Musts_can K bs
      opened (all_musts j h) = h
      opened (some_may j h) = cc
  joint_answer false musts some bs e m n =
      turned_answer some (Some_can K bs) (Can K (s.Joint bs)) (some_may (sym e)) opened n
    where
      opened : Can K (s.Joint bs) → Some_can K bs
      opened (all_musts j h) = cc
      opened (some_may j h) = h

  -- a synchronised way
  pub sync_answer : (ps : List (Bool × WayId)) (n : ℕ) (u : s.Way ℕ) → Stands (way_bodies p) n (Joins (map part_of ps))
      → Means_way (way_bodies p) n u → AreRight ps
      → IsAnswer (cond (has_must_in ps) (musts_by flags ps) (some_by flags ps)) (Can K u)
  sync_answer ps n (s.Leaf d) st (leaf k) right = cc
  sync_answer ps n (s.Joint bs) st (joint {parts = qs} k m) right =
      let same : qs ≡ map part_of ps = cc in
      let ms : Mean_parts (way_bodies p) (map part_of ps) bs =
      subst (λ (z : List (Bool × ℕ)). Mean_parts (way_bodies p) z bs) same m in
      joint_answer (has_must_in ps) (musts_by flags ps) (some_by flags ps) bs (has_must_same ps bs ms)
      (musts_answer ps bs ms right) (some_answer ps bs ms right)

  -- a local way
  pub leaf_answer : (d : s.Transition ℕ) (b : Bool) (n : ℕ) (u : s.Way ℕ) → Stands (way_bodies p) n (Acts d)
      → Means_way (way_bodies p) n u → IsAnswer b (Yields K (out-Expr ℕ d.guard) (Truth true)) → IsAnswer b (Can K u)
  leaf_answer d b n (s.Leaf e) st (leaf k) h =
      let same : d ≡ e = cc in
      turned_answer b (Yields K (out-Expr ℕ e.guard) (Truth true)) (Can K (s.Leaf e)) guard_holds opened
      (subst (λ (z : s.Transition ℕ). IsAnswer b (Yields K (out-Expr ℕ z.guard) (Truth true))) same h)
    where
      opened : Can K (s.Leaf e) → Yields K (out-Expr ℕ e.guard) (Truth true)
      opened (guard_holds y) = y
  leaf_answer d b n (s.Joint bs) st (joint k m) h = cc

-- a way of the system
pub can_answer : (p : GtsParts) → IsSound p → (t : List Value) → IsTotal p t
    → (flags : List Bool) (n : ℕ) (way : Way) (u : s.Way ℕ) → Stands p.ways.items n way → Means_way (way_bodies p) n u
    → AreRight p (HasValue (net_of p) t) flags (parts_of way.body)
    → IsAnswer (can_by t flags way.body) (Can (HasValue (net_of p) t) u)
can_answer p sound t total flags n way u st m right = go way.body refl right
    (stands_map body_of_way p.ways.items n way st)
  where
    K : ℕ → Value → Type 0
    K = HasValue (net_of p) t

    go : (b : WayBody) → way.body ≡ b → AreRight p (HasValue (net_of p) t) flags (parts_of b)
        → Stands (way_bodies p) n (of_body b) → IsAnswer (can_by t flags b) (Can (HasValue (net_of p) t) u)
    go (body.Local guard action) e r k =
        leaf_answer p (HasValue (net_of p) t) flags
        (record { guard = numbered guard; action = map assign_of action.items }) (is_met t (guard, true)) n u k m
        (met_answer p t total guard (sound.guards n way guard action st e) true)
    go (body.Sync ps) e r k = sync_answer p (HasValue (net_of p) t) flags ps.items n u k m r
