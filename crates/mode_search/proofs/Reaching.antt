-- What is reached, one look after the other.
use Rattle.std.proofs.Common.{◌≡◌, ℕ, ◌+◌, ◌<◌, ◌≤◌, ◌⊎◌, inl, inr, Bool, true, false, ◌||◌, List, [], ◌∷◌, ◌++◌, map, length, get_or, Contains, refl, sym, ap, ◌∙◌, subst, arith}
use Rattle.std.proofs.lemmas.List.{append-nil, map-append}
use Rattle.ar_base.specs.Lists.{Stands, IsOneOf, AreDifferent}
use Rattle.ar_base.proofs.Standing.{stands_one, stands_within, stands_none, stands_left, stands_split, stands_next, stands_map_back, one_here, one_first, one_none, one_cases, one_split, one_left, one_right, different_more, at_most, only_item, stands_get}
use Rattle.ar_base.proofs.Items.{single as last_place}
use Rattle.domains.specs.declared.Value.{Value}
use Rattle.gts_core.specs.declared.system.GtsParts.{GtsParts}
use Rattle.mode_search.specs.EdgeAdding.{AddsEdge}
use Rattle.mode_search.specs.declared.moves.Move.{Move}
use Rattle.mode_search.specs.declared.moves.Move.TheVariants.{Still, To, Wrong}
use Rattle.mode_search.specs.declared.kept.KeptWay.{KeptWay}
use Rattle.mode_trees.specs.declared.forests.Edge.{Edge}
use Rattle.mode_search.specs.declared.searching.Reach.{Reach}
use Rattle.mode_search.specs.Reached.{AreDifferentWays, Leads, IsMoveOf, Setting, IsEdgeOf, IsReachable, here, along, EntersAgain, HasModeAgain, IsFirstModeAlone, AddsMove, IsLookedAt, IsRecorded, Records, IsFoundEdge, IsReaching, Expands}

abbrev to_of : Edge → Value
to_of e = e.to

done_cases : (next i j q : ℕ) → IsLookedAt next (i + 1) j q → IsLookedAt next i j q ⊎ ((j ≡ next) × (q ≡ i))
done_cases next i j q (inl h) = inl (inl h)
done_cases next i j q (inr h) = elim (at_most q i h.1) [ inl k ↦ inl (inr (h.0, k)) | inr k ↦ inr (h.0, k) ]

done_more : (next i j q : ℕ) → IsLookedAt next i j q → IsLookedAt next (i + 1) j q
done_more next i j q (inl h) = inl h
done_more next i j q (inr h) = inr (h.0, omega (arith, h.1))

-- what is reached grows
record Grows (old new : Reach) : Type 0 where
  modes : (m : Value) → IsOneOf old.modes.items m → IsOneOf new.modes.items m
  edges : (e : Edge) → IsOneOf old.edges.items e → IsOneOf new.edges.items e
  wrong : old.wrong ≡ true → new.wrong ≡ true

recorded_grows : (way : KeptWay) (mode : Value) (move : Move) (old new : Reach) → Grows old new
    → IsRecorded way mode move old → IsRecorded way mode move new
recorded_grows way mode Still old new g h = h
recorded_grows way mode Wrong old new g h = g.wrong h
recorded_grows way mode (To v) old new g h =
    (g.modes v h.0, g.edges (record { from = mode; event = way.event; way = way.way; to = v }) h.1)

again_more : (first : Value) (edges : List Edge) (e : Edge) → EntersAgain first edges
    → EntersAgain first (edges ++ e ∷ [])
again_more first edges e h = record {
  place = h.place;
  edge = h.edge;
  stands = stands_left edges (e ∷ []) h.place h.edge h.stands;
  again = elim h.again [ inl a ↦ inl a | inr a ↦ inr (a.0, a.1, a.2, stands_left edges (e ∷ []) a.0 a.1 a.3, a.4) ];
}

-- the edge enters a mode that is there
again_known : (first : Value) (modes : List Value) (edges : List Edge) (e : Edge) (b : Bool)
    → HasModeAgain first modes edges b → IsOneOf modes e.to → EntersAgain first (edges ++ e ∷ [])
again_known first modes edges e true h o = again_more first edges e h
again_known first modes edges e false h o = record {
  place = length edges;
  edge = e;
  stands = stands_next edges e [];
  again = elim (one_cases first (map to_of edges) e.to (subst (λ (z : List Value). IsOneOf z e.to) h o)) [
    | inl i ↦ inl (sym i)
    | inr r ↦ (let k = stands_map_back to_of edges r.place e.to r.stands in inr (r.place, k.0, stands_within edges r.place k.0 k.1, stands_left edges (e ∷ []) r.place k.0 k.1, k.2))
  ];
}

again_fresh : (first : Value) (modes : List Value) (edges : List Edge) (e : Edge) (b : Bool)
    → HasModeAgain first modes edges b → HasModeAgain first (modes ++ e.to ∷ []) (edges ++ e ∷ []) b
again_fresh first modes edges e true h = again_more first edges e h
again_fresh first modes edges e false h =
    ap (λ (z : List Value). z ++ e.to ∷ []) h
    ∙ ap (λ (z : List Value). first ∷ z) (sym (map-append to_of edges (e ∷ [])))

module _ (s : Setting) (first : Value) where
  pub start_reaching : (r : Reach) → Contains s.domain first → IsFirstModeAlone first r → IsReaching s first 0 0 r
  start_reaching r c h = record {
    begins = subst (λ (z : List Value). Stands z 0 first) (sym h.modes) refl;
    different = subst (λ (z : List Value). AreDifferent z) (sym h.modes) (record { one = λ m n a p q. let u = last_place first a m p in let v = last_place first a n q in omega (arith, u.0, v.0) });
    inside = λ m o. subst (λ (z : Value). Contains s.domain z) (single m o) c;
    modes = λ m o. subst (λ (z : Value). IsReachable s first z) (single m o) here;
    edges = λ e o. absurd (one_none e (subst (λ (z : List Edge). IsOneOf z e) h.edges o));
    records = λ j q mode way d st sw. elim d
        [ inl k ↦ absurd (omega (arith, k)) | inr k ↦ absurd (omega (arith, k.1)) ];
    apart = λ j k e f p q i l. absurd (stands_none j e (subst (λ (z : List Edge). Stands z j e) h.edges p));
    wrong = λ e. let f = h.wrong in cc;
    again = by r.again h.again;
  }
    where
      single : (m : Value) → IsOneOf r.modes.items m → first ≡ m
      single m o = only_item first m (subst (λ (z : List Value). IsOneOf z m) h.modes o)

      by : (b : Bool) → b ≡ false → HasModeAgain first r.modes.items r.edges.items b
      by true e = absurd (cc e)
      by false e = h.modes ∙ ap (λ (z : List Edge). first ∷ map to_of z) (sym h.edges)

  -- one way more at a mode
  module _ (next i : ℕ) (old : Reach) (mode : Value) (way : KeptWay) (ways_apart : AreDifferentWays s.ways)
      (at_mode : Stands old.modes.items next mode) (at_way : Stands s.ways i way)
      (r : IsReaching s first next i old) where
    abbrev edge_of : Value → Edge
    edge_of to = record { from = mode; event = way.event; way = way.way; to = to }

    records_more : (new : Reach) (move : Move) → Grows old new
        → ((j : ℕ) (m : Value) → j ≤ next → Stands new.modes.items j m → Stands old.modes.items j m)
        → IsMoveOf s.parts s.number s.domain way.way.n mode move → IsRecorded way mode move new
        → (j q : ℕ) (m : Value) (k : KeptWay) → IsLookedAt next (i + 1) j q → Stands new.modes.items j m → Stands s.ways q k
        → Records s k m new
    records_more new move g back is recorded j q m k d st sw = elim (done_cases next i j q d) [
      | inl h ↦ (let o = r.records j q m k h (back j m (low j q h) st) sw in record { move = o.move; is = o.is; recorded = recorded_grows k m o.move old new g o.recorded })
      | inr h ↦ (let same_mode : m ≡ mode = stands_one old.modes.items next m mode (subst (λ (z : ℕ). Stands old.modes.items z m) h.0 (back j m (omega (arith, h.0)) st)) at_mode in
          let same_way : k ≡ way = stands_one s.ways i k way (subst (λ (z : ℕ). Stands s.ways z k) h.1 sw) at_way in
          subst (λ (z : Value). Records s k z new) (sym same_mode)
          (subst (λ (z : KeptWay). Records s z mode new) (sym same_way)
          (record { move = move; is = is; recorded = recorded })))
    ]
      where
        low : (j q : ℕ) → IsLookedAt next i j q → j ≤ next
        low j q (inl h) = omega (arith, h)
        low j q (inr h) = omega (arith, h.0)

    found_more : (e : Edge) → IsFoundEdge s next i old e → IsFoundEdge s next (i + 1) old e
    found_more e f = record {
      is_edge = f.is_edge;
      place = f.place;
      from = f.from;
      done = done_more next i f.place f.is_edge.place f.done;
    }

    step_still : (new : Reach) → new ≡ old → IsMoveOf s.parts s.number s.domain way.way.n mode Still
        → IsReaching s first next (i + 1) new
    step_still new e is = subst (λ (z : Reach). IsReaching s first next (i + 1) z) (sym e) (record {
      begins = r.begins;
      different = r.different;
      inside = r.inside;
      modes = r.modes;
      edges = λ f o. found_more f (r.edges f o);
      records = records_more old Still (record { modes = λ m o. o; edges = λ f o. o; wrong = λ w. w }) (λ j m d st. st)
          is tt;
      apart = r.apart;
      wrong = r.wrong;
      again = r.again;
    })

    step_wrong : (new : Reach) → new ≡ record old { wrong = true }
        → Leads s.parts s.number s.domain way.way.n mode Wrong → IsReaching s first next (i + 1) new
    step_wrong new e is = subst (λ (z : Reach). IsReaching s first next (i + 1) z) (sym e) (record {
      begins = r.begins;
      different = r.different;
      inside = r.inside;
      modes = r.modes;
      edges = λ f o. let g = r.edges f o in record { is_edge = g.is_edge; place = g.place; from = g.from; done = done_more next i g.place g.is_edge.place g.done };
      records = records_more (record old { wrong = true }) Wrong
          (record { modes = λ m o. o; edges = λ f o. o; wrong = λ w. refl }) (λ j m d st. st) is refl;
      apart = r.apart;
      wrong = λ w. record {
        mode = mode;
        reachable = r.modes mode (one_here old.modes.items next mode at_mode);
        place = i;
        way = way;
        stands = at_way;
        leads = is;
      };
      again = r.again;
    })

    module _ (to : Value) (leads : Leads s.parts s.number s.domain way.way.n mode (To to)) where
      abbrev is_edge : IsEdgeOf s (edge_of to)
      is_edge = record { place = i; way = way; stands = at_way; is_event = refl; is_way = refl; leads = leads }

      -- the new edge is found at the mode
      found_new : (new : Reach) (rest : List Value) → new.modes.items ≡ old.modes.items ++ rest
          → new.edges.items ≡ old.edges.items ++ edge_of to ∷ [] → (e : Edge) → IsOneOf new.edges.items e
          → IsFoundEdge s next (i + 1) new e
      found_new new rest em ee e o = elim
          (one_split old.edges.items (edge_of to ∷ []) e (subst (λ (z : List Edge). IsOneOf z e) ee o)) [
            | inl k ↦ (let g = r.edges e k in record {
              is_edge = g.is_edge;
              place = g.place;
              from = subst (λ (z : List Value). Stands z g.place e.from) (sym em)
                  (stands_left old.modes.items rest g.place e.from g.from);
              done = done_more next i g.place g.is_edge.place g.done;
            })
            | inr k ↦ subst (λ (z : Edge). IsFoundEdge s next (i + 1) new z) (only_item (edge_of to) e k) (record {
              is_edge = is_edge;
              place = next;
              from = subst (λ (z : List Value). Stands z next mode) (sym em)
                  (stands_left old.modes.items rest next mode at_mode);
              done = inr (refl, omega arith);
            })
          ]

      -- no earlier edge leaves the mode by the way
      new_apart : (j : ℕ) (e : Edge) → Stands old.edges.items j e → e.from ≡ mode → e.way ≡ way.way → ⊥
      new_apart j e st i_from i_way =
          let g = r.edges e (one_here old.edges.items j e st) in
          let at : g.place ≡ next = r.different.one g.place next mode
          (subst (λ (z : Value). Stands old.modes.items g.place z) i_from g.from) at_mode in
          let same : g.is_edge.place ≡ i =
          ways_apart.one g.is_edge.place i g.is_edge.way way g.is_edge.stands at_way
          (sym g.is_edge.is_way ∙ i_way) in
          elim g.done [ inl k ↦ omega arith | inr k ↦ omega (arith, k.1) ]

      edges_apart : (j k : ℕ) (e f : Edge) → Stands (old.edges.items ++ edge_of to ∷ []) j e
          → Stands (old.edges.items ++ edge_of to ∷ []) k f → e.from ≡ f.from → e.way ≡ f.way → j ≡ k
      edges_apart j k e f p q i_from i_way =
          by (stands_split old.edges.items (edge_of to ∷ []) j e p)
          (stands_split old.edges.items (edge_of to ∷ []) k f q)
        where
          by : Stands old.edges.items j e ⊎ ((n : ℕ) × (j ≡ length old.edges.items + n) × Stands (edge_of to ∷ []) n e)
              → Stands old.edges.items k f ⊎ ((n : ℕ) × (k ≡ length old.edges.items + n) × Stands (edge_of to ∷ []) n f)
              → j ≡ k
          by (inl a) (inl b) = r.apart j k e f a b i_from i_way
          by (inl a) (inr b) =
              let l = (last_place (edge_of to) f b.0 b.2).1 in
              absurd (new_apart j e a (i_from ∙ ap (λ (z : Edge). z.from) (sym l))
              (i_way ∙ ap (λ (z : Edge). z.way) (sym l)))
          by (inr a) (inl b) =
              let l = (last_place (edge_of to) e a.0 a.2).1 in
              absurd (new_apart k f b (sym i_from ∙ ap (λ (z : Edge). z.from) (sym l))
              (sym i_way ∙ ap (λ (z : Edge). z.way) (sym l)))
          by (inr a) (inr b) = let u = (last_place (edge_of to) e a.0 a.2).0 in let v = (last_place (edge_of to) f b.0 b.2).0 in omega (arith, a.1, b.1)

      back_to : (new : Reach) (rest : List Value) → new.modes.items ≡ old.modes.items ++ rest → (j : ℕ) (m : Value)
          → j ≤ next → Stands new.modes.items j m → Stands old.modes.items j m
      back_to new rest em j m l st = elim
          (stands_split old.modes.items rest j m (subst (λ (z : List Value). Stands z j m) em st)) [
            | inl k ↦ k
            | inr k ↦ (let w = stands_within old.modes.items next mode at_mode in absurd (omega (arith, k.1)))
          ]

      new_edge : (new : Reach) → new.edges.items ≡ old.edges.items ++ edge_of to ∷ []
          → IsOneOf new.edges.items (edge_of to)
      new_edge new ee = subst (λ (z : List Edge). IsOneOf z (edge_of to)) (sym ee)
          (one_right old.edges.items (edge_of to ∷ []) (edge_of to) (one_first (edge_of to) []))

      grows_by : (new : Reach) (rest : List Value) → new.modes.items ≡ old.modes.items ++ rest
          → new.edges.items ≡ old.edges.items ++ edge_of to ∷ [] → new.wrong ≡ old.wrong → Grows old new
      grows_by new rest em ee ew = record {
        modes = λ m o. subst (λ (z : List Value). IsOneOf z m) (sym em) (one_left old.modes.items rest m o);
        edges = λ e o. subst (λ (z : List Edge). IsOneOf z e) (sym ee) (one_left old.edges.items (edge_of to ∷ []) e o);
        wrong = λ w. ew ∙ w;
      }

      in_domain : Contains s.domain to
      in_domain = leads.is.in_domain

      step_known : (new : Reach) → IsOneOf old.modes.items to → new.modes.items ≡ old.modes.items
          → new.edges.items ≡ old.edges.items ++ edge_of to ∷ [] → new.wrong ≡ old.wrong → new.again ≡ true
          → IsReaching s first next (i + 1) new
      step_known new o em ee ew ea =
          let em_nil : new.modes.items ≡ old.modes.items ++ [] = em ∙ sym (append-nil old.modes.items) in
          let g = grows_by new [] em_nil ee ew in record {
            begins = subst (λ (z : List Value). Stands z 0 first) (sym em) r.begins;
            different = subst (λ (z : List Value). AreDifferent z) (sym em) r.different;
            inside = λ m p. r.inside m (subst (λ (z : List Value). IsOneOf z m) em p);
            modes = λ m p. r.modes m (subst (λ (z : List Value). IsOneOf z m) em p);
            edges = found_new new [] em_nil ee;
            records = records_more new (To to) g (back_to new [] em_nil) leads (g.modes to o, new_edge new ee);
            apart = λ j k e f p q. edges_apart j k e f (subst (λ (z : List Edge). Stands z j e) ee p)
                (subst (λ (z : List Edge). Stands z k f) ee q);
            wrong = λ w. r.wrong (sym ew ∙ w);
            again = subst (λ (z : Bool). HasModeAgain first new.modes.items new.edges.items z) (sym ea)
                (subst (λ (z : List Edge). EntersAgain first z) (sym ee)
                (again_known first old.modes.items old.edges.items (edge_of to) old.again r.again o));
          }

      step_fresh : (new : Reach) → (IsOneOf old.modes.items to → ⊥) → new.modes.items ≡ old.modes.items ++ to ∷ []
          → new.edges.items ≡ old.edges.items ++ edge_of to ∷ [] → new.wrong ≡ old.wrong → new.again ≡ old.again
          → IsReaching s first next (i + 1) new
      step_fresh new n em ee ew ea =
          let g = grows_by new (to ∷ []) em ee ew in record {
            begins = subst (λ (z : List Value). Stands z 0 first) (sym em)
                (stands_left old.modes.items (to ∷ []) 0 first r.begins);
            different = subst (λ (z : List Value). AreDifferent z) (sym em)
                (different_more old.modes.items to r.different
                (record {
                  has_not = λ k a p q. n
                      (subst (λ (z : Value). IsOneOf old.modes.items z) q (one_here old.modes.items k a p));
                }));
            inside = λ m p. elim (one_split old.modes.items (to ∷ []) m (subst (λ (z : List Value). IsOneOf z m) em p)) [
              | inl k ↦ r.inside m k
              | inr k ↦ subst (λ (z : Value). Contains s.domain z) (only_item to m k) in_domain
            ];
            modes = λ m p. elim (one_split old.modes.items (to ∷ []) m (subst (λ (z : List Value). IsOneOf z m) em p)) [
              | inl k ↦ r.modes m k
              | inr k ↦ subst (λ (z : Value). IsReachable s first z) (only_item to m k)
                  (along (edge_of to) (r.modes mode (one_here old.modes.items next mode at_mode)) is_edge)
            ];
            edges = found_new new (to ∷ []) em ee;
            records = records_more new (To to) g (back_to new (to ∷ []) em) leads (
              subst (λ (z : List Value). IsOneOf z to) (sym em)
                  (one_right old.modes.items (to ∷ []) to (one_first to [])),
              new_edge new ee,
            );
            apart = λ j k e f p q. edges_apart j k e f (subst (λ (z : List Edge). Stands z j e) ee p)
                (subst (λ (z : List Edge). Stands z k f) ee q);
            wrong = λ w. r.wrong (sym ew ∙ w);
            again = subst (λ (z : Bool). HasModeAgain first new.modes.items new.edges.items z) (sym ea)
                (subst (λ (z : List Value). HasModeAgain first z new.edges.items old.again) (sym em)
                (subst (λ (z : List Edge). HasModeAgain first (old.modes.items ++ to ∷ []) z old.again) (sym ee)
                (again_fresh first old.modes.items old.edges.items (edge_of to) old.again r.again)));
          }

      step_edge : (new : Reach) (known : Bool)
          → AddsEdge (edge_of to) old.modes.items old.edges.items known new.modes.items new.edges.items
          → new.wrong ≡ old.wrong → new.again ≡ (known || old.again) → IsReaching s first next (i + 1) new
      step_edge new true a ew ea = step_known new a.0 a.1 a.2 ew ea
      step_edge new false a ew ea = step_fresh new a.0 a.1 a.2 ew ea

    pub step : (move : Move) (new : Reach) → IsMoveOf s.parts s.number s.domain way.way.n mode move
        → AddsMove way mode move old new → IsReaching s first next (i + 1) new
    step Still new is e = step_still new e is
    step Wrong new is e = step_wrong new e is
    step (To to) new is e = step_edge to is new e.known e.adds e.wrong e.again

    -- the mode stands where it stood
    pub stays : (move : Move) (new : Reach) → AddsMove way mode move old new → Stands new.modes.items next mode
    stays Still new e = subst (λ (z : Reach). Stands z.modes.items next mode) (sym e) at_mode
    stays Wrong new e = subst (λ (z : Reach). Stands z.modes.items next mode) (sym e) at_mode
    stays (To to) new e = by e.known e.adds
      where
        by : (known : Bool)
            → AddsEdge (edge_of to) old.modes.items old.edges.items known new.modes.items new.edges.items
            → Stands new.modes.items next mode
        by true a = subst (λ (z : List Value). Stands z next mode) (sym a.1) at_mode
        by false a = subst (λ (z : List Value). Stands z next mode) (sym a.1)
            (stands_left old.modes.items (to ∷ []) next mode at_mode)

  -- all ways were looked at, at the mode of a place
  pub reaching_next : (next : ℕ) (r : Reach) → IsReaching s first next (length s.ways) r
      → IsReaching s first (next + 1) 0 r
  reaching_next next r h = record {
    begins = h.begins;
    different = h.different;
    inside = h.inside;
    modes = h.modes;
    edges = λ e o. let g = h.edges e o in record { is_edge = g.is_edge; place = g.place; from = g.from; done = elim g.done [ inl k ↦ inl (omega arith) | inr k ↦ inl (omega (arith, k.0)) ] };
    records = λ j q mode way d st sw. h.records j q mode way (by j q way d sw) st sw;
    apart = h.apart;
    wrong = h.wrong;
    again = h.again;
  }
    where
      at : (j q : ℕ) (way : KeptWay) → Stands s.ways q way → (j < next) ⊎ (j ≡ next) → IsLookedAt next (length s.ways) j q
      at j q way sw (inl k) = inl k
      at j q way sw (inr k) = inr (k, stands_within s.ways q way sw)

      by : (j q : ℕ) (way : KeptWay) → IsLookedAt (next + 1) 0 j q → Stands s.ways q way → IsLookedAt next (length s.ways) j q
      by j q way (inl k) sw = at j q way sw (at_most j next k)
      by j q way (inr k) sw = absurd (omega (arith, k.1))

-- one way more at the mode
pub expands_start : (p : GtsParts) (n : ℕ) (domain : List Value) (ways : List KeptWay) (mode : Value) (found : Reach)
    → Expands p n domain ways mode 0 found found
expands_start p n domain ways mode found = record { on = λ first next apart st r. (st, r) }

pub expands_more : (p : GtsParts) (n : ℕ) (domain : List Value) (ways : List KeptWay) (mode : Value) (i : ℕ)
    (d : KeptWay) (old now new : Reach) (led : Move) → i < length ways → Expands p n domain ways mode i old now
    → IsMoveOf p n domain (get_or ways i d).way.n mode led → AddsMove (get_or ways i d) mode led now new
    → Expands p n domain ways mode (i + 1) old new
expands_more p n domain ways mode i d old now new led h e is adds = record {
  on = λ first next apart st r.
      let k = e.on first next apart st r in
      let way = stands_get ways i d h in
      let s : Setting = record { parts = p; number = n; domain = domain; ways = ways } in (
        stays s first next i now mode (get_or ways i d) apart k.0 way k.1 led new adds,
        step s first next i now mode
            (get_or ways i d) apart k.0 way k.1 led new is adds,
      );
}

pub expands_all : (p : GtsParts) (n : ℕ) (domain : List Value) (ways : List KeptWay) (mode : Value) (i j : ℕ)
    (old now : Reach) → i ≡ j → Expands p n domain ways mode i old now → Expands p n domain ways mode j old now
expands_all p n domain ways mode i j old now e h = subst (λ (z : ℕ). Expands p n domain ways mode z old now) e h
