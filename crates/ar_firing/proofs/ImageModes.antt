-- A system and its image have the same modes, edges, paths, firable sets and forests.
use Rattle.std.proofs.Common.{◌≡◌, ℕ, zero, suc, Bool, List, Some, Contains, inl, inr, refl, sym, ◌∙◌, ap, subst}
use Rattle.ar_base.specs.Lists.{Stands, IsOneOf, IsFirst, HasNo, Along}
use Rattle.ar_base.specs.Lists as l
use Rattle.ar_base.proofs.Standing.{stands_one, along_length}
use Rattle.domains.specs.declared.Value.{Value}
use Rattle.typed_expr.specs.PairsInside.{turned_pairs}
use Rattle.typed_expr.specs.Renames.{Renames}
use Rattle.typed_expr.specs.declared.expr.Expr.{Expr, out-Expr}
use Rattle.typed_expr.proofs.Renaming.{Mentioned, mentions_carry}
use Rattle.ar_meaning.specs.Systems.{Assign, Variable, Way, System}
use Rattle.ar_meaning.specs.Ways.{Can, Effects}
use Rattle.ar_meaning.specs.Runs.{Label}
use Rattle.ar_meaning.specs.Image.{Conditions_rename, Assign_renames, Variable_renames, Way_renames, leaves, Event_renames}
use Rattle.ar_meaning.specs.ImageInside.{IsImage}
use Rattle.ar_meaning.specs.Image as i
use Rattle.ar_meaning.proofs.ImageTurned.{image_turned, way_turned}
use Rattle.ar_meaning.proofs.Dependence.{tests_there}
use Rattle.ar_meaning.proofs.ImageFlows.{partner, first_there, none_there, can_there, effects_there}
use Rattle.ar_firing.specs.Fragment.{Involves, as_target, as_source, GuardNames, guard, ActionNames, action, WayNames, in_guard, in_action, IsKept, IsStateOf, IsNamedStateOf, IsModeOf, named, first, At, Edge, Path, root, edge, IsReached, IsLive}
use Rattle.ar_firing.specs.Cuts.{IsFirable}
use Rattle.ar_firing.specs.Forest.{firing_line, HasTransitions, IsModeVariable, Row, Under, no_more, next, ModeTree, IsModeTree, IsForest, IsLine}

-- the condition at the same place
pub record Condition_there {V W : Type 0} (same : V → W → Type 0) (fs : List (Expr W × Bool)) (n : ℕ) (e : Expr V)
    (b : Bool) : Type 0 where
  pub expr : Expr W
  pub stands : Stands fs n (expr, b)
  pub renames : Renames same (out-Expr V e) (out-Expr W expr)

pub condition_there : {V W : Type 0} {same : V → W → Type 0} {es : List (Expr V × Bool)} {fs : List (Expr W × Bool)}
    → Conditions_rename same es fs → (n : ℕ) (e : Expr V) (b : Bool) → Stands es n (e, b)
    → Condition_there same fs n e b
condition_there i.none n e b s = cc
condition_there {V = V} {W = W} {same = same} (i.one_and {e = d} {f = f} {b = c} {fs = fs} q qs) zero e b s =
    let p : ◌≡◌ {A = Expr V × Bool} (d, c) (e, b) = cc in
    let j : d ≡ e = ap (λ (z : Expr V × Bool). z.0) p in
    let k : c ≡ b = ap (λ (z : Expr V × Bool). z.1) p in
    record {
      expr = f;
      stands = ap (λ z. Some (f, z)) k;
      renames = subst (λ z. Renames same (out-Expr V z) (out-Expr W f)) j q;
    }
condition_there (i.one_and q qs) (suc n) e b s =
    let r = condition_there qs n e b s in
    record { expr = r.expr; stands = r.stands; renames = r.renames }

module _ {V W : Type 0} (same : V → W → Type 0) (x : V) where
  pub guard_there : {v : Way V} {w : Way W} → Way_renames same v w → GuardNames x v
      → Mentioned same x (λ y. GuardNames y w)
  guard_there (leaves q) (guard m) =
      let n = mentions_carry same x m q.guard in
      record { other = n.other; related = n.related; stands = guard n.stands }
  guard_there (i.joints q) h = elim h [ ]

  assign_there : {a : Assign V} {b : Assign W} → Assign_renames same a b → Involves x a
      → Mentioned same x (λ y. Involves y b)
  assign_there {b = b} q (as_target e) = record {
    other = b.target;
    related = subst (λ z. same z b.target) e q.target;
    stands = as_target refl;
  }
  assign_there q (as_source (inl m)) =
      let n = mentions_carry same x m q.value in
      record { other = n.other; related = n.related; stands = as_source (inl n.stands) }
  assign_there q (as_source (inr m)) =
      let n = tests_there q.conditions m in
      record { other = n.other; related = n.related; stands = as_source (inr n.stands) }

  pub action_there : {v : Way V} {w : Way W} → Way_renames same v w → ActionNames x v
      → Mentioned same x (λ y. ActionNames y w)
  action_there (leaves q) (action a o m) =
      let b = partner q.action o.place a o.stands in
      let n = assign_there b.related m in
      record {
        other = n.other;
        related = n.related;
        stands = action b.item (record { place = o.place; stands = b.stands }) n.stands;
      }
  action_there (i.joints q) h = elim h [ ]

  way_there : {v : Way V} {w : Way W} → Way_renames same v w → WayNames x v → Mentioned same x (λ y. WayNames y w)
  way_there q (in_guard m) =
      let n = guard_there q m in
      record { other = n.other; related = n.related; stands = in_guard n.stands }
  way_there q (in_action m) =
      let n = action_there q m in
      record { other = n.other; related = n.related; stands = in_action n.stands }

-- one way
module _ {V W : Type 0} (same : V → W → Type 0) (here : System V) (there : System W) (image : IsImage same here there)
    (dropped : List ℕ) where
  pub record KeptThere (l : Label) (v : Way V) (unit : ℕ) : Type 0 where
    pub way : Way W
    pub is_kept : IsKept there dropped l way
    pub is_unit : is_kept.is_way.event.unit ≡ unit
    pub related : Way_renames same v way

  pub kept_there : {l : Label} {v : Way V} → (o : IsKept here dropped l v) → KeptThere l v o.is_way.event.unit
  kept_there {l = l} {v = v} o =
      let e = partner image.events l.event o.is_way.event o.is_way.is_event in
      let w = partner e.related.ways l.way v o.is_way.is_way in
      record {
        way = w.item;
        is_kept = record {
          is_way = record { event = e.item; is_event = e.stands; is_way = w.stands };
          stays = o.stays;
        };
        is_unit = sym e.related.unit;
        related = w.related;
      }

  pub transitions_there : (unit : ℕ) → HasTransitions here dropped unit → HasTransitions there dropped unit
  transitions_there unit h =
      let k = kept_there h.is_kept in
      record { label = h.label; way = k.way; is_kept = k.is_kept; is_unit = k.is_unit ∙ h.is_unit }

  pub mode_variable_there : (n : ℕ) → IsModeVariable here dropped n → IsModeVariable there dropped n
  mode_variable_there n h =
      let p = partner image.net.variables n h.variable h.stands in
      record {
        variable = p.item;
        stands = p.stands;
        is_state = sym p.related.is_state ∙ h.is_state;
        moves = subst (λ z. HasTransitions there dropped z) p.related.unit
            (transitions_there h.variable.unit h.moves);
      }

  state_there : (unit : ℕ) (x : Variable V) (y : Variable W) → Variable_renames same x y → IsStateOf unit x
      → IsStateOf unit y
  state_there unit x y r h = record { is_state = sym r.is_state ∙ h.is_state; is_unit = sym r.unit ∙ h.is_unit }

  named_there : (unit : ℕ) {v : Way V} {w : Way W} → Way_renames same v w → (x : Variable V) (y : Variable W)
      → Variable_renames same x y → IsNamedStateOf unit v x → IsNamedStateOf unit w y
  named_there unit {w = w} q x y r h =
      let n = way_there same x.key q h.named in
      record {
        is_state = sym r.is_state ∙ h.is_state;
        is_unit = sym r.unit ∙ h.is_unit;
        named = subst (λ z. WayNames z w) (image.net.one x.key n.other y.key n.related r.key) n.stands;
      }

  at_there : (x : V) (y : W) (m : Value) → same x y → (z : V) (u : W) (v : Value) → same z u → At x m z v → At y m u v
  at_there x y m s z u v r h = record { key = image.net.one x u y (subst (λ k. same k u) h.key r) s; value = h.value }

-- both ways
module _ {V W : Type 0} (same : V → W → Type 0) (here : System V) (there : System W) (image : IsImage same here there)
    (dropped : List ℕ) where
  pub is_mode_there : (unit : ℕ) {v : Way V} {w : Way W} {n : ℕ} → Way_renames same v w → IsModeOf here unit v n
      → IsModeOf there unit w n
  is_mode_there unit {v = v} {w = w} q h =
      let behind = image_turned same image in
      let on = named_there same here there image dropped unit q in
      let off = named_there (turned_pairs same) there here behind dropped unit (way_turned same q) in
      let on' = state_there same here there image dropped unit in
      let off' = state_there (turned_pairs same) there here behind dropped unit in
      elim h [
        | named f ↦ named (first_there image.net.variables behind.net.variables on off f)
        | first k f ↦
            first (none_there image.net.variables behind.net.variables on off k)
            (first_there image.net.variables behind.net.variables on' off' f)
      ]

  pub can_at_there : {v : Way V} {w : Way W} (x : V) (y : W) (m : Value) → Way_renames same v w → same x y
      → Can (At x m) v → Can (At y m) w
  can_at_there x y m q s c =
      can_there V W (At x m) (At y m) same
      (λ z u d r h. at_there same here there image dropped x y m s z u d r h) image.net.one q c

  pub effects_at_there : {v : Way V} {w : Way W} (x : V) (y : W) (m d : Value) → Way_renames same v w → same x y
      → Effects (At x m) v x d → Effects (At y m) w y d
  effects_at_there x y m d q s e =
      effects_there V W (At x m) (At y m) same
      (λ z u d r h. at_there same here there image dropped x y m s z u d r h) image.net.one q s e

module _ {V W : Type 0} (same : V → W → Type 0) (here : System V) (there : System W) (image : IsImage same here there)
    (dropped : List ℕ) where
  pub effects_at_back : {v : Way V} {w : Way W} (x : V) (y : W) (m d : Value) → Way_renames same v w → same x y
      → Effects (At y m) w y d → Effects (At x m) v x d
  effects_at_back x y m d q s e =
      effects_at_there (turned_pairs same) there here (image_turned same image) dropped y x m d (way_turned same q) s e

  pub edge_there : {l : Label} {n : ℕ} {from to : Value} → Edge here dropped l n from to
      → Edge there dropped l n from to
  edge_there {l = l} {n = n} {from = from} {to = to} e =
      let k = e.is_open.is_kept in
      let p = partner image.events l.event k.is_way.event k.is_way.is_event in
      let w = partner p.related.ways l.way e.way k.is_way.is_way in
      let x = partner image.net.variables n e.variable e.is_variable in
      record {
        way = w.item;
        is_open =
            record {
              is_kept = record {
                is_way = record { event = p.item; is_event = p.stands; is_way = w.stands };
                stays = k.stays;
              };
              visible = sym p.related.hidden ∙ e.is_open.visible;
            };
        variable = x.item;
        is_variable = x.stands;
        is_mode =
            is_mode_there same here there image dropped p.item.unit w.related
            (subst (λ z. IsModeOf here z e.way n) p.related.unit e.is_mode);
        can = can_at_there same here there image dropped e.variable.key x.item.key from w.related x.related.key e.can;
        gives =
            effects_at_there same here there image dropped e.variable.key x.item.key from to w.related x.related.key
            e.gives;
        one = λ v d. e.one v (effects_at_back e.variable.key x.item.key from v w.related x.related.key d);
        in_domain = subst (λ d. Contains d to) x.related.domain e.in_domain;
      }

  pub path_there : {n : ℕ} {ls : List Label} {m : Value} → Path here dropped n ls m → Path there dropped n ls m
  path_there {n = n} (root {x = x} s i e) =
      let p = partner image.net.variables n x s in
      root p.stands (sym p.related.is_state ∙ i) (sym p.related.value ∙ e)
  path_there (edge p e) = edge (path_there p) (edge_there e)

  pub reached_there : {n : ℕ} {m : Value} → IsReached here dropped n m → IsReached there dropped n m
  reached_there r = record { labels = r.labels; path = path_there r.path }

  pub live_there : {l : Label} {n : ℕ} {from to : Value} → IsLive here dropped l n from to
      → IsLive there dropped l n from to
  live_there h = record { reached = reached_there h.reached; edge = edge_there h.edge }

module _ {V W : Type 0} (same : V → W → Type 0) (here : System V) (there : System W) (image : IsImage same here there)
    (dropped : List ℕ) where
  edge_back : {l : Label} {n : ℕ} {from to : Value} → Edge there dropped l n from to → Edge here dropped l n from to
  edge_back e = edge_there (turned_pairs same) there here (image_turned same image) dropped e

  under_there : {n low : ℕ} {m : Value} {rows : List Row} → Under here dropped n m low rows
      → Under there dropped n m low rows
  under_there (no_more h) = no_more (λ l to b e. h l to b (edge_back e))
  under_there (next b e h d f) =
      next b (edge_there same here there image dropped e) (λ k u i j g. h k u i j (edge_back g)) (under_there d)
      (under_there f)

  pub mode_tree_there : (tree : ModeTree) → IsModeTree here dropped tree → IsModeTree there dropped tree
  mode_tree_there tree h =
      let p = partner image.net.variables tree.variable h.is_mode.variable h.is_mode.stands in
      let m = mode_variable_there same here there image dropped tree.variable h.is_mode in
      let e : p.item ≡ m.variable = stands_one there.net.variables tree.variable p.item m.variable p.stands m.stands in
      record { is_mode = m; first = h.first ∙ (p.related.value ∙ ap (λ z. z.value) e); edges = under_there h.edges }

  pub forest_there : {trees : List ModeTree} → IsForest here dropped trees → IsForest there dropped trees
  forest_there f = record {
    sound = λ k t s. mode_tree_there t (f.sound k t s);
    whole = λ n m. f.whole n (mode_variable_there (turned_pairs same) there here (image_turned same image) dropped n m);
    ascends = f.ascends;
  }

  pub firable_there : {set : List ℕ} {t : List Value} → IsFirable here dropped set t → IsFirable there dropped set t
  firable_there f =
      let behind = image_turned same image in
      record {
        long = f.long ∙ along_length here.net.variables there.net.variables image.net.variables;
        path = f.path;
        walks = λ n y s k.
            let p = partner behind.net.variables n y s in
            let w = f.walks n p.item p.stands (sym p.related.is_state ∙ k) in
            (w.0, w.1, path_there same here there image dropped w.2);
        sound = λ n y s k.
            let p = partner behind.net.variables n y s in f.sound n p.item p.stands (sym p.related.is_state ∙ k);
        whole = λ e o.
            let w = f.whole e o in
            let p = partner image.net.variables w.0 w.1 w.3 in
            (w.0, p.item, w.2, p.stands, sym p.related.is_state ∙ w.4, w.5, w.6);
      }

  line_same : (n : ℕ) {xs : List (Variable V)} {ys : List (Variable W)} (path : ℕ → List Label)
      → Along (Variable_renames same) xs ys → firing_line n xs path ≡ firing_line n ys path
  line_same n path l.none = refl
  line_same n path (l.one_and r rs) = let i = line_same (suc n) path rs in let j = r.is_state in cc

  pub line_there : {set : List ℕ} {ls : List Label} → IsLine here dropped set ls → IsLine there dropped set ls
  unfolding firable_there
  line_there h = record {
    values = h.values;
    is_firable = firable_there h.is_firable;
    is = h.is ∙ line_same 0 h.is_firable.path image.net.variables;
  }
