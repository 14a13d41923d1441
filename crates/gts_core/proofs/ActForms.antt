-- The assignments of an instruction, form by form.
use Rattle.std.proofs.Common.{◌≡◌, ℕ, ◌+◌, ◌-◌, arith, ◌<◌, Bool, true, false, List, [], ◌∷◌, ◌++◌, map, take, length, get_or, Vec, Box, Global, refl, sym, ap, ◌∙◌, subst, append-nil}
use Rattle.std.specs.List.{flat_map}
use Rattle.std.specs.Borrow.{Bor}
use Rattle.std.proofs.lemmas.List.{take_more, length-append}
use Rattle.std.proofs.Math.Seq.{take-append_seam}
use Rattle.std.proofs.lemmas.Grind.{flat_map-append}
use Rattle.ar_base.specs.Lists.{Along}
use Rattle.ar_base.specs.Lists as l
use Rattle.ar_base.specs.declared.places.Place.{Place}
use Rattle.typed_expr.specs.Renames.{Renames}
use Rattle.typed_expr.specs.declared.expr.Expr.{Expr, out-Expr}
use Rattle.typed_expr.specs.PairsInside.{turned_pairs}
use Rattle.typed_expr.proofs.Renaming.{renames_turned, renames_joined}
use Rattle.ar_meaning.specs.Systems as s
use Rattle.ar_meaning.specs.Image.{Assign_renames}
use Rattle.ar_meaning.specs.Image as i
use Rattle.gts_core.specs.declared.bound.Act.{Act, Skip, Set, out-Act, roll-Act, out-roll-Act}
use Rattle.gts_core.specs.declared.bound.Act.TheOpen as form
use Rattle.gts_core.specs.declared.bound.Act.TheOpen.{Act-F}
use Rattle.gts_core.specs.declared.bound.Act.TheFolds.{fold_out-Act, map-Act}
use Rattle.gts_core.specs.declared.bound.Act.TheViews.{If, All, outs-If, outs-All}
use Rattle.gts_core.specs.declared.system.Assign.{Assign}
use Rattle.ar_base.specs.Numbers.{VarId}
use Rattle.ar_base.proofs.Items.{along_append}
use Rattle.gts_core.specs.View.{numbered, assign_of}
use Rattle.gts_core.specs.Copies.{IsCopy}
use Rattle.gts_core.specs.Bound.{NumberedConditions, act_step, assigns_under, AreNumberedConditions, AreAssigns, place_step, places_of_act, places_in, GivesAssigns, GiveAll, AreConditionCopies, conditions_in}
use Rattle.gts_core.proofs.Numbering.{IsNumber, renames_numbered, copy_numbered}

arm : (act : Act) (x : Act-F Act) → out-Act act ≡ x
    → assigns_under act ≡ act_step (map-Act Act (NumberedConditions → List (s.Assign ℕ)) assigns_under x)
arm act x e = fold_out-Act (NumberedConditions → List (s.Assign ℕ)) act_step act
    ∙ ap (λ (y : Act-F Act). act_step (map-Act Act (NumberedConditions → List (s.Assign ℕ)) assigns_under y)) e

pub opened_skip : out-Act Skip ≡ form.Skip
unfolding roll-Act out-Act denote.Hole.Carrier.roll
opened_skip = out-roll-Act form.Skip

pub opened_set : (x : VarId) (e : Expr VarId) (p : Place) → out-Act (Set x e p) ≡ form.Set x e p
unfolding roll-Act out-Act denote.Hole.Carrier.roll
opened_set x e p = out-roll-Act (form.Set x e p)

at_conditions : {f g : NumberedConditions → List (s.Assign ℕ)} → f ≡ g → (cs : NumberedConditions) → f cs ≡ g cs
at_conditions e cs = ap (λ h. h cs) e

skip_is : (act : Act) → act ≡ Skip → (cs : NumberedConditions) → assigns_under act cs ≡ []
skip_is act e cs = at_conditions (arm act form.Skip (ap out-Act e ∙ opened_skip)) cs

set_is : (act : Act) (x : VarId) (e : Expr VarId) (p : Place) → act ≡ Set x e p → (cs : NumberedConditions)
    → assigns_under act cs ≡ record { target = x.n; conditions = cs; value = numbered e } ∷ []
set_is act x e p j cs = at_conditions (arm act (form.Set x e p) (ap out-Act j ∙ opened_set x e p)) cs

if_is : (act : Act) (t : Expr VarId) (a b : Box Act Global) → act ≡ If t a b → (cs : NumberedConditions)
    → assigns_under act cs ≡ assigns_under a.value (cs ++ (numbered t, true) ∷ []) ++ assigns_under b.value
    (cs ++ (numbered t, false) ∷ [])
if_is act t a b j cs = at_conditions (arm act (form.If t a b) (ap out-Act j ∙ outs-If t a b)) cs

each_is : (acts : List Act) (cs : NumberedConditions)
    → flat_map (λ (f : NumberedConditions → List (s.Assign ℕ)). f cs) (map assigns_under acts)
    ≡ flat_map (λ (a : Act). assigns_under a cs) acts
each_is [] cs = refl
each_is (a ∷ acts) cs = ap (λ z. assigns_under a cs ++ z) (each_is acts cs)

all_is : (act : Act) (es : Vec Act Global) → act ≡ All es → (cs : NumberedConditions)
    → assigns_under act cs ≡ flat_map (λ (a : Act). assigns_under a cs) es.items
all_is act es j cs = at_conditions (arm act (form.All es) (ap out-Act j ∙ outs-All es)) cs ∙ each_is es.items cs

-- places
pub placed : (act : Act) (x : Act-F Act) → out-Act act ≡ x
    → places_of_act act ≡ place_step (map-Act Act (List Place) places_of_act x)
placed act x e = fold_out-Act (List Place) place_step act
    ∙ ap (λ (y : Act-F Act). place_step (map-Act Act (List Place) places_of_act y)) e

pub each_placed : (acts : List Act)
    → flat_map (λ (ps : List Place). ps) (map places_of_act acts) ≡ flat_map places_of_act acts
each_placed [] = refl
each_placed (a ∷ acts) = ap (λ z. places_of_act a ++ z) (each_placed acts)

skip_placed : (act : Act) → act ≡ Skip → places_of_act act ≡ []
skip_placed act e = placed act form.Skip (ap out-Act e ∙ opened_skip)

set_placed : (act : Act) (x : VarId) (e : Expr VarId) (p : Place) → act ≡ Set x e p → places_of_act act ≡ p ∷ []
set_placed act x e p j = placed act (form.Set x e p) (ap out-Act j ∙ opened_set x e p)

if_placed : (act : Act) (t : Expr VarId) (a b : Box Act Global) → act ≡ If t a b
    → places_of_act act ≡ places_of_act a.value ++ places_of_act b.value
if_placed act t a b j = placed act (form.If t a b) (ap out-Act j ∙ outs-If t a b)

all_placed : (act : Act) (es : Vec Act Global) → act ≡ All es → places_of_act act ≡ flat_map places_of_act es.items
all_placed act es j = placed act (form.All es) (ap out-Act j ∙ outs-All es) ∙ each_placed es.items

places_append : (xs ys : List Assign) → places_in (xs ++ ys) ≡ places_in xs ++ places_in ys
places_append [] ys = refl
places_append (x ∷ xs) ys = ap (λ z. x.at ∷ z) (places_append xs ys)

both_placed : (xs ys : List Assign) (ps qs : List Place) → places_in xs ≡ ps → places_in ys ≡ qs
    → places_in (xs ++ ys) ≡ ps ++ qs
both_placed xs ys ps qs i j = places_append xs ys ∙ (ap (λ z. z ++ places_in ys) i ∙ ap (λ z. ps ++ z) j)

-- conditions
same_numbered : (e : Expr VarId) → Renames (λ (m n : ℕ). m ≡ n) (out-Expr ℕ (numbered e)) (out-Expr ℕ (numbered e))
same_numbered e = renames_joined (turned_pairs IsNumber) IsNumber (λ (m n : ℕ). m ≡ n) (λ m x n j k. sym j ∙ k)
    (renames_turned IsNumber (renames_numbered e)) (renames_numbered e)

numbers_copied : {cs : NumberedConditions} {when copies : List (Expr VarId × Bool)} → AreConditionCopies when copies
    → AreNumberedConditions cs when → AreNumberedConditions cs copies
numbers_copied i.none k = k
numbers_copied (i.one_and {e = x} {f = y} r rs) (i.one_and q qs) =
    i.one_and (renames_joined (λ (m n : ℕ). m ≡ n) (λ (m n : ℕ). m ≡ n) (λ (m n : ℕ). m ≡ n) (λ a b c j k. j ∙ k) q
    (copy_numbered x y r)) (numbers_copied rs qs)

numbers_more : (cs : NumberedConditions) (when : List (Expr VarId × Bool)) (t : Expr VarId) (b : Bool) → AreNumberedConditions cs
    when → AreNumberedConditions (cs ++ (numbered t, b) ∷ []) (when ++ (t, b) ∷ [])
numbers_more [] [] t b i.none = i.one_and (same_numbered t) i.none
numbers_more (c ∷ cs) ((e, d) ∷ when) t b (i.one_and q qs) = i.one_and q (numbers_more cs when t b qs)
numbers_more [] (e ∷ when) t b k = elim k [ ]
numbers_more (c ∷ cs) [] t b k = elim k [ ]

pub copies_more : {es fs : List (Expr VarId × Bool)} (a b : Expr VarId) (c : Bool) → AreConditionCopies es fs
    → IsCopy a b → AreConditionCopies (es ++ (a, c) ∷ []) (fs ++ (b, c) ∷ [])
copies_more a b c i.none k = i.one_and k i.none
copies_more a b c (i.one_and q qs) k = i.one_and q (copies_more a b c qs k)

pub conditions_start : (ys : List (Expr VarId × Bool)) → ys ≡ [] → AreConditionCopies [] ys
conditions_start ys j = subst (λ z. AreConditionCopies [] z) (sym j) i.none

conditions_more : (when : List (Bor (Expr VarId) × Bool)) (x : Bor (Expr VarId) × Bool)
    → conditions_in (when ++ x ∷ []) ≡ conditions_in when ++ (x.0.now, x.1) ∷ []
conditions_more [] x = refl
conditions_more (y ∷ ys) x = ap (λ z. (y.0.now, y.1) ∷ z) (conditions_more ys x)

pub borrowed_next : (when : List (Bor (Expr VarId) × Bool)) (n : ℕ) (x : Bor (Expr VarId) × Bool) (y : Expr VarId)
    (ys zs : List (Expr VarId × Bool)) → n < length when → x ≡ get_or when n x
    → AreConditionCopies (conditions_in (take n when)) ys → IsCopy x.0.now y → zs ≡ ys ++ (y, x.1) ∷ []
    → AreConditionCopies (conditions_in (take (n + 1) when)) zs
borrowed_next when n x y ys zs h e k c j =
    subst (λ z. AreConditionCopies (conditions_in (take (n + 1) when)) z) (sym j)
    (subst (λ z. AreConditionCopies z (ys ++ (y, x.1) ∷ []))
    (sym (ap conditions_in (take_more when n x h ∙ ap (λ z. take n when ++ z ∷ []) (sym e))
    ∙ conditions_more (take n when) x)) (copies_more x.0.now y x.1 k c))

-- an instruction under one more borrowed condition
pub gives_under : (act : Act) (when stack pushed : List (Bor (Expr VarId) × Bool)) (t : Bor (Expr VarId)) (b : Bool)
    (x : Act) (old new : List Assign) → stack ≡ when → pushed ≡ stack ++ (t, b) ∷ [] → x ≡ act
    → GivesAssigns x (conditions_in pushed) old new → GivesAssigns act (conditions_in when ++ (t.now, b) ∷ []) old new
gives_under act when stack pushed t b x old new i j e g =
    subst (λ z. GivesAssigns z (conditions_in when ++ (t.now, b) ∷ []) old new) e
    (subst (λ z. GivesAssigns x z old new) (ap conditions_in j ∙ (conditions_more stack (t, b)
    ∙ ap (λ w. conditions_in w ++ (t.now, b) ∷ []) i)) g)

-- a stack with one more and one less
pub popped : {A : Type 0} (old pushed back new : List A) (x : A) (n : ℕ) → pushed ≡ old ++ x ∷ [] → back ≡ pushed
    → n ≡ length back → new ≡ take (n - 1) back → new ≡ old
popped {A} old pushed back new x n i j k l =
    let e : length (old ++ x ∷ []) - 1 ≡ length old = omega (arith, length-append old (x ∷ [])) in
    l ∙ (ap (λ m. take (m - 1) back) k ∙ (ap (λ (z : List A). take (length z - 1) z) (j ∙ i)
    ∙ (ap (λ m. take m (old ++ x ∷ [])) e ∙ take-append_seam old (x ∷ []))))

-- lists
map_append : (xs ys : List Assign) → map assign_of (xs ++ ys) ≡ map assign_of xs ++ map assign_of ys
map_append [] ys = refl
map_append (x ∷ xs) ys = ap (λ z. assign_of x ∷ z) (map_append xs ys)

assoc : (xs ys zs : List Assign) → (xs ++ ys) ++ zs ≡ xs ++ (ys ++ zs)
assoc [] ys zs = refl
assoc (x ∷ xs) ys zs = ap (λ z. x ∷ z) (assoc xs ys zs)

assigns_append : {xs us : List (s.Assign ℕ)} (ys vs : List Assign) → AreAssigns xs ys → AreAssigns us vs
    → AreAssigns (xs ++ us) (ys ++ vs)
assigns_append {xs = xs} {us = us} ys vs a b =
    subst (λ z. Along (Assign_renames (λ (m n : ℕ). m ≡ n)) (xs ++ us) z) (sym (map_append ys vs)) (along_append a b)

both_added : (old mid new first second : List Assign) → mid ≡ old ++ first → new ≡ mid ++ second
    → new ≡ old ++ (first ++ second)
both_added old mid new first second j k = k ∙ (ap (λ z. z ++ second) j ∙ assoc old first second)

-- what each form gives
module _ (act : Act) (when : List (Expr VarId × Bool)) (old : List Assign) where
  pub gives_skip : act ≡ Skip → GivesAssigns act when old old
  gives_skip e = record {
    added = [];
    is = sym (append-nil old);
    are = λ cs k. subst (λ z. AreAssigns z []) (sym (skip_is act e cs)) l.none;
    places = sym (skip_placed act e);
  }

  pub gives_set : (x : VarId) (e f : Expr VarId) (p : Place) (copies : Vec (Expr VarId × Bool) Global)
      (new : List Assign) → act ≡ Set x e p → AreConditionCopies when copies.items → IsCopy e f
      → new ≡ old ++ record { target = x; when = copies; value = f; at = p } ∷ [] → GivesAssigns act when old new
  gives_set x e f p copies new j c d k = record {
    added = record { target = x; when = copies; value = f; at = p } ∷ [];
    is = k;
    are = λ cs n. subst (λ z. AreAssigns z (record { target = x; when = copies; value = f; at = p } ∷ []))
        (sym (set_is act x e p j cs))
        (l.one_and (record { target = refl; conditions = numbers_copied c n; value = copy_numbered e f d }) l.none);
    places = sym (set_placed act x e p j);
  }

  pub gives_if : (t : Expr VarId) (a b : Box Act Global) (mid new : List Assign) → act ≡ If t a b
      → GivesAssigns a.value (when ++ (t, true) ∷ []) old mid → GivesAssigns b.value (when ++ (t, false) ∷ []) mid new
      → GivesAssigns act when old new
  gives_if t a b mid new j g h = record {
    added = g.added ++ h.added;
    is = both_added old mid new g.added h.added g.is h.is;
    are = λ cs n. subst (λ z. AreAssigns z (g.added ++ h.added)) (sym (if_is act t a b j cs))
        (assigns_append g.added h.added (g.are (cs ++ (numbered t, true) ∷ []) (numbers_more cs when t true n))
        (h.are (cs ++ (numbered t, false) ∷ []) (numbers_more cs when t false n)));
    places = both_placed g.added h.added (places_of_act a.value) (places_of_act b.value) g.places h.places
        ∙ sym (if_placed act t a b j);
  }

  pub gives_all : (es : Vec Act Global) (acts : List Act) (new : List Assign) → act ≡ All es → acts ≡ es.items
      → GiveAll acts when old new → GivesAssigns act when old new
  gives_all es acts new j k g = record {
    added = g.added;
    is = g.is;
    are = λ cs n. subst (λ z. AreAssigns z g.added) (sym (all_is act es j cs))
        (subst (λ (xs : List Act). AreAssigns (flat_map (λ (a : Act). assigns_under a cs) xs) g.added) k (g.are cs n));
    places = g.places ∙ (ap (λ (xs : List Act). flat_map places_of_act xs) k ∙ sym (all_placed act es j));
  }

pub give_none : (when : List (Expr VarId × Bool)) (old : List Assign) → GiveAll [] when old old
give_none when old = record { added = []; is = sym (append-nil old); are = λ cs k. l.none; places = refl }

pub give_next : (acts : List Act) (n : ℕ) (act : Act) (when : List (Expr VarId × Bool)) (old mid new : List Assign)
    → n < length acts → act ≡ get_or acts n act → GiveAll (take n acts) when old mid
    → GivesAssigns act when mid new → GiveAll (take (n + 1) acts) when old new
give_next acts n act when old mid new h e g k =
    subst (λ z. GiveAll z when old new) (sym (take_more acts n act h ∙ ap (λ z. take n acts ++ z ∷ []) (sym e)))
    (record {
      added = g.added ++ k.added;
      is = both_added old mid new g.added k.added g.is k.is;
      are = λ cs m. let F : Act → List (s.Assign ℕ) = λ a. assigns_under a cs in
          subst (λ z. AreAssigns z (g.added ++ k.added))
          (sym (flat_map-append F (take n acts) (act ∷ [])
          ∙ ap (λ z. flat_map F (take n acts) ++ z) (append-nil (assigns_under act cs))))
          (assigns_append g.added k.added (g.are cs m) (k.are cs m));
      places = both_placed g.added k.added (flat_map places_of_act (take n acts)) (places_of_act act) g.places k.places
          ∙ sym (flat_map-append places_of_act (take n acts) (act ∷ [])
          ∙ ap (λ z. flat_map places_of_act (take n acts) ++ z) (append-nil (places_of_act act)));
    })

pub give_whole : (act : Act) (when : List (Expr VarId × Bool)) (old new : List Assign) → when ≡ [] → old ≡ []
    → GivesAssigns act when old new → AreAssigns (assigns_under act []) new
give_whole act when old new e j g =
    subst (λ z. AreAssigns (assigns_under act []) z) (sym (g.is ∙ ap (λ z. z ++ g.added) j))
    (g.are [] (subst (λ z. AreNumberedConditions [] z) (sym e) i.none))

pub give_places : (act : Act) (when : List (Expr VarId × Bool)) (old new : List Assign) → old ≡ []
    → GivesAssigns act when old new → places_in new ≡ places_of_act act
give_places act when old new j g = ap places_in (g.is ∙ ap (λ z. z ++ g.added) j) ∙ g.places
