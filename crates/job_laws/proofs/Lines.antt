-- The lines of a flat text, for parts that call each number alike.
use Rattle.std.proofs.Common.{◌≡◌, ℕ, zero, suc, ◌+◌, Bool, true, if◌then◌else◌, List, [], ◌∷◌, ◌++◌, map, length, codes, decimal, Option, Some, slice_get, Vec, Global, refl, sym, ap, ◌∙◌, subst, arith}
use Rattle.std.specs.List.{concat}
use Rattle.std.proofs.lemmas.List.{length-map}
use Rattle.ar_base.specs.Lists.{Stands, Along}
use Rattle.ar_base.specs.Lists as l
use Rattle.ar_base.specs.Numbers.{VarId, WayId}
use Rattle.ar_base.specs.Texts.{separated}
use Rattle.ar_base.specs.declared.places.Place.{Place}
use Rattle.ar_base.proofs.Standing.{stands_one, stands_map}
use Rattle.typed_expr.specs.declared.expr.Expr.{Expr}
use Rattle.ar_meaning.specs.Systems.{Transition, Tree, Leaf, Joint}
use Rattle.ar_meaning.specs.Image.{Conditions_rename, Assign_renames, Transition_renames, Way_renames, leaves, joints, Expr_renames}
use Rattle.ar_meaning.specs.Image as image
use Rattle.ar_meaning.specs.Numbered.{Acts, Joins, leaf, joint}
use Rattle.ar_meaning.specs.TraceText.{Naming}
use Rattle.gts_core.specs.Printed.{path_of_found, path_at, expr_text, condition_text, set_text, action_text, event_path, label_of, label_found, part_text, body_text, way_line, assert_lines, flat_observer_line}
use Rattle.gts_core.specs.View.{numbered, condition_of, assign_of, part_of, of_body, body_of_way, way_bodies, IsWayAt}
use Rattle.gts_core.specs.declared.system.Assign.{Assign}
use Rattle.gts_core.specs.declared.system.Event.{Event}
use Rattle.gts_core.specs.declared.system.GtsParts.{GtsParts}
use Rattle.gts_core.specs.declared.system.Observer.{Observer}
use Rattle.gts_core.specs.declared.system.Variable.{Variable}
use Rattle.gts_core.specs.declared.system.Way.{Way}
use Rattle.gts_core.specs.declared.system.WayBody.{WayBody}
use Rattle.gts_core.specs.declared.system.WayBody.TheVariants.{Local, Sync}
use Rattle.gts_flatten.specs.Flat.{naming_of_parts}
use Rattle.job_laws.proofs.Expressions.{Same, items_one, expr_one}

-- Lists

-- lists of one length whose items at each place give one text give one list of texts
pub maps_one : {A B C : Type 0} (f : A → C) (g : B → C) (xs : List A) (ys : List B) → length xs ≡ length ys
    → ((n : ℕ) (a : A) (b : B) → Stands xs n a → Stands ys n b → f a ≡ g b) → map f xs ≡ map g ys
maps_one f g [] [] e h = refl
maps_one f g [] (y ∷ ys) e h = absurd (omega (arith, e))
maps_one f g (x ∷ xs) [] e h = absurd (omega (arith, e))
maps_one f g (x ∷ xs) (y ∷ ys) e h =
    items_one (h 0 x y refl refl) (maps_one f g xs ys (omega (arith, e)) (λ n a b s t. h (suc n) a b s t))

-- lists that one function maps to one list are of one length
pub maps_long : {A B : Type 0} (f : A → B) (xs ys : List A) → map f xs ≡ map f ys → length xs ≡ length ys
maps_long f xs ys e = sym (length-map xs f) ∙ ap length e ∙ length-map ys f

-- and it maps the items at one place to one item
pub maps_there : {A B : Type 0} (f : A → B) (xs ys : List A) → map f xs ≡ map f ys → (n : ℕ) (a b : A)
    → Stands xs n a → Stands ys n b → f a ≡ f b
maps_there {B = B} f xs ys e n a b s t =
    stands_one (map f ys) n (f a) (f b) (subst (λ (z : List B). Stands z n (f a)) e (stands_map f xs n a s))
    (stands_map f ys n b t)

-- what is read of the item at a number, where that is one in both lists
reads_one : {A B : Type 0} (f : A → B) (read : Option A → B) → ((a : A) → read (Some a) ≡ f a) → (xs ys : List A)
    → map f xs ≡ map f ys → (n : ℕ) → read (slice_get xs n) ≡ read (slice_get ys n)
reads_one f read is [] [] e n = refl
reads_one f read is [] (y ∷ ys) e n = cc
reads_one f read is (x ∷ xs) [] e n = cc
reads_one f read is (x ∷ xs) (y ∷ ys) e zero = let h : f x ≡ f y = cc in is x ∙ h ∙ sym (is y)
reads_one f read is (x ∷ xs) (y ∷ ys) e (suc n) = reads_one f read is xs ys (cc) n

-- Ways

-- ways of one event with one number, whose parts, where both are synchronised, have the same numbers
pub record AreAlike (v w : Way) : Type 0 where
  pub event : v.event.n ≡ w.event.n
  pub number : v.number ≡ w.number
  pub parts : (ps qs : Vec (Bool × WayId) Global) → v.body ≡ Sync ps → w.body ≡ Sync qs
      → map part_of ps.items ≡ map part_of qs.items

-- the body is that of the way: a transition of this kind, or some parts
abbrev pub IsBody : WayBody → Tree (Transition ℕ) → Type 0
IsBody body (Leaf d) = of_body body ≡ Acts d
IsBody body (Joint bs) = (parts : List (Bool × ℕ)) × (of_body body ≡ Joins parts)

-- the body of the way that stands at a number is that of the way that the number stands for
pub body_there : (p : GtsParts) (n : ℕ) (w : Way) (t : Tree (Transition ℕ)) → Stands p.ways.items n w → IsWayAt p n t
    → IsBody w.body t
body_there p n w t s (leaf {l = d} h) =
    stands_one (way_bodies p) n (body_of_way w) (Acts d) (stands_map body_of_way p.ways.items n w s) h
body_there p n w t s (joint {parts = parts} h ds) =
    (parts, stands_one (way_bodies p) n (body_of_way w) (Joins parts) (stands_map body_of_way p.ways.items n w s) h)

-- a transition over plain numbers
abbrev transition : Expr VarId → Vec Assign Global → Transition ℕ
transition guard action = record { guard = numbered guard; action = map assign_of action.items }

-- Texts

-- the line of an assignment with this text, of an assertion's that stands here
abbrev placed_line : ℕ → Place → List ℕ → List ℕ
placed_line n place text =
    codes "assert " ++ decimal n ++ codes " at " ++ decimal place.line ++ codes ":" ++ decimal place.column ++ codes " "
    ++ text ++ codes "\n"

-- the line of a way with this label, of which this tells what it does
abbrev labelled_line : Bool → List ℕ → List ℕ → List ℕ
labelled_line hidden label body =
    (if hidden then codes "hidden " else []) ++ codes "way " ++ label ++ codes ": " ++ body ++ codes "\n"

module _ (p q : GtsParts) (names : naming_of_parts p ≡ naming_of_parts q) where
  pub symbols_one : p.symbols.items ≡ q.symbols.items
  symbols_one = ap (λ (z : Naming). z.symbols) names

  pub variables_one : map (λ (x : Variable). x.path) p.variables.items
      ≡ map (λ (x : Variable). x.path) q.variables.items
  variables_one = ap (λ (z : Naming). z.variables) names

  pub events_one : map (λ (e : Event). e.path) p.events.items ≡ map (λ (e : Event). e.path) q.events.items
  events_one = ap (λ (z : Naming). z.events) names

  paths_one : (n : ℕ) → path_at p n ≡ path_at q n
  paths_one n =
      reads_one (λ (x : Variable). x.path) path_of_found (λ x. refl) p.variables.items q.variables.items variables_one n

  event_paths_one : (n : ℕ) → event_path (slice_get p.events.items n) ≡ event_path (slice_get q.events.items n)
  event_paths_one n =
      reads_one (λ (e : Event). e.path) event_path (λ e. refl) p.events.items q.events.items events_one n

  text_one : (e f : Expr VarId) → Expr_renames Same (numbered e) (numbered f) → expr_text p e ≡ expr_text q f
  text_one e f d = expr_one p q symbols_one paths_one e f d.renames

  -- Assignments

  conditions_one : (cs ds : List (Expr VarId × Bool))
      → Conditions_rename Same (map condition_of cs) (map condition_of ds)
      → map (condition_text p) cs ≡ map (condition_text q) ds
  conditions_one [] [] d = refl
  conditions_one [] (c ∷ ds) d = elim d [ ]
  conditions_one (c ∷ cs) [] d = elim d [ ]
  conditions_one ((e, a) ∷ cs) ((f, b) ∷ ds) (image.one_and d more) =
      items_one (ap (λ (z : List ℕ). (if a then codes " when " else codes " unless ") ++ z)
      (text_one e f (record { renames = d }))) (conditions_one cs ds more)

  set_one : (a b : Assign) → Assign_renames Same (assign_of a) (assign_of b) → set_text p a ≡ set_text q b
  set_one a b d =
      let path : path_at p a.target.n ≡ path_at q b.target.n = paths_one a.target.n ∙ ap (path_at q) d.target in
      let value = text_one a.value b.value (record { renames = d.value }) in
      ap (λ (z : List ℕ). z ++ codes " := " ++ expr_text p a.value ++ concat (map (condition_text p) a.when.items)) path
      ∙ ap (λ (z : List ℕ). path_at q b.target.n ++ codes " := " ++ z
      ++ concat (map (condition_text p) a.when.items)) value
      ∙ ap (λ (z : List (List ℕ)). path_at q b.target.n ++ codes " := " ++ expr_text q b.value ++ concat z)
      (conditions_one a.when.items b.when.items d.conditions)

  sets_one : (xs ys : List Assign) → Along (Assign_renames Same) (map assign_of xs) (map assign_of ys)
      → map (set_text p) xs ≡ map (set_text q) ys
  sets_one [] [] d = refl
  sets_one [] (y ∷ ys) d = elim d [ ]
  sets_one (x ∷ xs) [] d = elim d [ ]
  sets_one (x ∷ xs) (y ∷ ys) (l.one_and d ds) = items_one (set_one x y d) (sets_one xs ys ds)

  action_one : (xs ys : List Assign) → Along (Assign_renames Same) (map assign_of xs) (map assign_of ys)
      → action_text p xs ≡ action_text q ys
  action_one [] [] d = refl
  action_one [] (y ∷ ys) d = elim d [ ]
  action_one (x ∷ xs) [] d = elim d [ ]
  action_one (x ∷ xs) (y ∷ ys) d = ap (separated true (codes ", ")) (sets_one (x ∷ xs) (y ∷ ys) d)

  pub asserts_one : (k : ℕ) (xs ys : List Assign) → map (λ (a : Assign). a.at) xs ≡ map (λ (a : Assign). a.at) ys
      → Along (Assign_renames Same) (map assign_of xs) (map assign_of ys) → assert_lines p k xs ≡ assert_lines q k ys
  asserts_one k [] [] e d = refl
  asserts_one k [] (y ∷ ys) e d = cc
  asserts_one k (x ∷ xs) [] e d = cc
  asserts_one k (x ∷ xs) (y ∷ ys) e (l.one_and d ds) =
      let place : x.at ≡ y.at = cc in
      let more : map (λ (a : Assign). a.at) xs ≡ map (λ (a : Assign). a.at) ys = cc in
      ap (λ (z : Place). placed_line (k + 1) z (set_text p x) ++ assert_lines p (k + 1) xs) place
      ∙ ap (λ (z : List ℕ). placed_line (k + 1) y.at z ++ assert_lines p (k + 1) xs) (set_one x y d)
      ∙ ap (λ (z : List ℕ). placed_line (k + 1) y.at (set_text q y) ++ z) (asserts_one (k + 1) xs ys more ds)

  pub observers_one : (xs ys : List Observer)
      → map (λ (o : Observer). o.path) xs ≡ map (λ (o : Observer). o.path) ys
      → Along (Expr_renames Same) (map (λ (o : Observer). numbered o.value) xs)
      (map (λ (o : Observer). numbered o.value) ys)
      → map (flat_observer_line p) xs ≡ map (flat_observer_line q) ys
  observers_one [] [] e d = refl
  observers_one [] (y ∷ ys) e d = cc
  observers_one (x ∷ xs) [] e d = cc
  observers_one (x ∷ xs) (y ∷ ys) e (l.one_and d ds) =
      let path : x.path ≡ y.path = cc in
      let more : map (λ (o : Observer). o.path) xs ≡ map (λ (o : Observer). o.path) ys = cc in
      items_one
      (ap (λ (z : List ℕ). codes "observer " ++ z ++ codes " = " ++ expr_text p x.value ++ codes "\n") path
      ∙ ap (λ (z : List ℕ). codes "observer " ++ y.path ++ codes " = " ++ z ++ codes "\n")
      (text_one x.value y.value d))
      (observers_one xs ys more ds)

  -- Ways

  label_one : (v w : Way) → v.event.n ≡ w.event.n → v.number ≡ w.number → label_of p v ≡ label_of q w
  label_one v w e f =
      ap (λ (z : List ℕ). z ++ codes "#" ++ decimal v.number)
      (event_paths_one v.event.n ∙ ap (λ (n : ℕ). event_path (slice_get q.events.items n)) e)
      ∙ ap (λ (n : ℕ). event_path (slice_get q.events.items w.event.n) ++ codes "#" ++ decimal n) f

  labels_one : {vs ws : List Way} → Along AreAlike vs ws → (n : ℕ)
      → label_found p (slice_get vs n) ≡ label_found q (slice_get ws n)
  labels_one l.none zero = refl
  labels_one l.none (suc n) = refl
  labels_one (l.one_and {a = v} {b = w} d ds) zero = label_one v w d.event d.number
  labels_one (l.one_and d ds) (suc n) = labels_one ds n

  acts_one : (v w : WayBody) (d e : Transition ℕ) → Transition_renames Same d e → of_body v ≡ Acts d
      → of_body w ≡ Acts e → body_text p v ≡ body_text q w
  acts_one (Local g a) (Local h b) d e r i j =
      let here : transition g a ≡ d = cc in
      let there : transition h b ≡ e = cc in
      let moved = subst (λ (z : Transition ℕ). Transition_renames Same z e) (sym here) r in
      let same = subst (λ (z : Transition ℕ). Transition_renames Same (transition g a) z) (sym there) moved in
      ap (λ (z : List ℕ). z ++ codes " -> " ++ action_text p a.items) (text_one g h (record { renames = same.guard }))
      ∙ ap (λ (z : List ℕ). expr_text q h ++ codes " -> " ++ z) (action_one a.items b.items same.action)
  acts_one (Local g a) (Sync qs) d e r i j = cc
  acts_one (Sync ps) w d e r i j = cc

  module _ (alike : Along AreAlike p.ways.items q.ways.items) where
    parts_one : (ps qs : List (Bool × WayId)) → map part_of ps ≡ map part_of qs
        → map (part_text p) ps ≡ map (part_text q) qs
    parts_one [] [] e = refl
    parts_one [] (b ∷ qs) e = cc
    parts_one (a ∷ ps) [] e = cc
    parts_one (a ∷ ps) (b ∷ qs) e =
        let first : part_of a ≡ part_of b = cc in
        let more : map part_of ps ≡ map part_of qs = cc in
        items_one
        (ap (λ (z : Bool). (if z then codes "!" else codes "?") ++ label_found p (slice_get p.ways.items a.1.n))
        (ap (λ (z : Bool × ℕ). z.0) first)
        ∙ ap (λ (z : List ℕ). (if b.0 then codes "!" else codes "?") ++ z) (labels_one alike a.1.n
        ∙ ap (λ (z : Bool × ℕ). label_found q (slice_get q.ways.items z.1)) first))
        (parts_one ps qs more)

    joins_one : (v w : WayBody) (ms ns : List (Bool × ℕ)) → of_body v ≡ Joins ms → of_body w ≡ Joins ns
        → ((ps qs : Vec (Bool × WayId) Global) → v ≡ Sync ps → w ≡ Sync qs
        → map part_of ps.items ≡ map part_of qs.items)
        → body_text p v ≡ body_text q w
    joins_one (Sync ps) (Sync qs) ms ns i j same =
        ap (separated true (codes " & ")) (parts_one ps.items qs.items (same ps qs refl refl))
    joins_one (Sync ps) (Local h b) ms ns i j same = cc
    joins_one (Local g a) w ms ns i j same = cc

    body_one : (v w : Way) {t u : Tree (Transition ℕ)} → AreAlike v w → Way_renames Same t u → IsBody v.body t
        → IsBody w.body u → body_text p v.body ≡ body_text q w.body
    body_one v w same (leaves {d = d} {e = e} r) f g = acts_one v.body w.body d e r f g
    body_one v w same (joints r) f g = joins_one v.body w.body f.0 g.0 f.1 g.1 same.parts

    pub way_one : (v w : Way) {t u : Tree (Transition ℕ)} (a b : Bool) → a ≡ b → AreAlike v w → Way_renames Same t u
        → IsBody v.body t → IsBody w.body u → way_line p a v ≡ way_line q b w
    way_one v w a b e same r f g =
        ap (λ (z : Bool). labelled_line z (label_of p v) (body_text p v.body)) e
        ∙ ap (λ (z : List ℕ). labelled_line b z (body_text p v.body)) (label_one v w same.event same.number)
        ∙ ap (labelled_line b (label_of q w)) (body_one v w same r f g)
