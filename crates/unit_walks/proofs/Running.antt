-- The walk of one statement, and of those that have to be walked before it.
use Rattle.std.proofs.Common.{◌≡◌, ◌<◌, ◌+◌, ◌-◌, ◌*◌, ◌^◌, ◌++◌, inl, ℕ, Bool, true, false, List, [], ◌∷◌, Option, Some, None, option_map, length, slice_get, refl, sym, ◌∙◌, ap, subst, arith, Result, Ok, Err, OnOk}
use Rattle.std.specs.Borrow.{Bor}
use Rattle.ar_base.specs.Lists.{Stands}
use Rattle.ar_base.specs.Numbers.{NameId, BodyId}
use Rattle.ar_syntax.specs.declared.paths.Path.{Path}
use Rattle.class_table.specs.TablesInside.{site_of}
use Rattle.hierarchy.specs.Models.{RootedModel}
use Rattle.hierarchy.specs.Units.{UnitPath, start_of, kind_at, numbers}
use Rattle.unit_walks.specs.Ends.{NameEnds, NamesEnd, IsStatement, nowhere}
use Rattle.unit_walks.specs.Forms.{member_kind_in, IsFormsFor, IsLookedUp, form_at}
use Rattle.unit_walks.specs.Tables.{known_at, unit_level, table_paths, StandsIf, EndsAt, EntryMeans, IsWalkTable, IsEntrySet, IsForgotten, IsEntered, KeepsKnown}
use Rattle.unit_walks.specs.Walking.{IsFrame, IsAtStart, Chain, bottom, above, IsWalking, IsTopAnswered, IsPathKept, After, StepsFrom, weight, Weighs, IsRun, IsNameKnown, IsWalkReady}
use Rattle.unit_walks.specs.declared.forms.Forms.{Forms}
use Rattle.unit_walks.specs.declared.forms.UnitForm.{UnitForm}
use Rattle.unit_walks.specs.declared.forms.UnitForm.TheVariants as form
use Rattle.unit_walks.specs.declared.tables.Table.{Table}
use Rattle.unit_walks.specs.declared.tables.Frame.{Frame}
use Rattle.unit_walks.specs.declared.tables.Met.{Met}
use Rattle.unit_walks.specs.declared.tables.Known.{Known}
use Rattle.unit_walks.specs.declared.tables.Known.TheVariants.{Following, ToUnit, Nothing}
use Rattle.unit_walks.specs.declared.walking.Step.{Step}
use Rattle.unit_walks.specs.declared.walking.Step.TheVariants.{On, Into, Done}
use Rattle.ar_base.proofs.Standing.{stands_one}
use Rattle.ar_base.proofs.Items.{last_one}
use Rattle.unit_walks.proofs.LookUps.{looked_up}
use Rattle.unit_walks.proofs.TableSteps.{IsWider, extends_both, extends_none, extends_forgotten, table_forgotten, means_forgotten, set_wide, set_extends, grown_wide, grown_extends, grown_stands, frame_wide, table_set, table_grown, met_there}
use Rattle.unit_walks.proofs.Stepping.{none_some, looked_none, looked_inner, looked_clone, looked_alias, entered_level, starts_none, none_ends}

-- the walk of the top frame is under way, and what was known stays known
pub record IsUnderWay (s : RootedModel) (below : List Frame) (top : Frame) (old new : Table) : Type 0 where
  pub walking : IsWalking s below top new
  pub extends : KeepsKnown old new

-- the names that are to go in these frames, and one more for each
abbrev pub load : List Frame → ℕ
load [] = 0
load (f ∷ fs) = length f.rest.now + 1 + load fs

pub load_push : (fs : List Frame) (f : Frame) → load (fs ++ f ∷ []) ≡ load fs + (length f.rest.now + 1)
load_push [] f = omega arith
load_push (g ∷ fs) f = let h = load_push fs f in omega arith

cons_same : {A : Type 0} {a b : A} {xs ys : List A} → a ≡ b → xs ≡ ys → a ∷ xs ≡ b ∷ ys
cons_same p q = cc

chain_pop : {s : RootedModel} {paths : List UnitPath} {all below : List Frame} {f : Frame} {v : UnitPath} {y : ℕ}
    → Chain s paths all v y → all ≡ below ++ f ∷ []
    → (u : UnitPath) × (here : UnitPath) × IsFrame s paths f u here × Chain s paths below u f.name.n
chain_pop {below = []} bottom e = cc
chain_pop {below = g ∷ gs} bottom e = cc
chain_pop {s = s} {paths = paths} {below = below} {f = f} (above {below = lower} {f = g} {u = u} {v = v} e i r c) e' =
    let h = last_one lower below g f (sym e ∙ e') in (
      u,
      v,
      subst (λ f. IsFrame s paths f u v) h.1 i,
      subst (λ f. Chain s paths below u f.name.n) h.1
          (subst (λ fs. Chain s paths fs u g.name.n) h.0 c),
    )

-- the walk of the frame below goes on
pub popped : (s : RootedModel) (all below : List Frame) (top next : Frame) (t : Table) → IsTopAnswered s all top t
    → all ≡ below ++ next ∷ [] → IsWalking s below next t
popped s all below top next t a e = let p = chain_pop a.chain e in
    record { from = p.0; here = p.1; frame = p.2; chain = p.3; table = subst (λ fs. IsWalkTable s fs t) e a.table }

-- no frame is left
pub finished : (s : RootedModel) (all : List Frame) (top : Frame) (first old t : Table) → IsTopAnswered s all top t
    → all ≡ [] → KeepsKnown first old → KeepsKnown old t → IsRun s first t
finished s all top first old t a e x y =
    record { table = subst (λ fs. IsWalkTable s fs t) e a.table; extends = extends_both x y }

pub went_on : (s : RootedModel) (below : List Frame) (top next : Frame) (old new : Table) (r : Step) → r ≡ On next
    → StepsFrom s below top old new r → IsWalking s below next new
went_on s below top next old new r e t = subst (λ r. After s below top new r) e t.after

pub went_into : (s : RootedModel) (below all : List Frame) (top next : Frame) (old new : Table) (r : Step)
    → r ≡ Into next → all ≡ below ++ top ∷ [] → StepsFrom s below top old new r → IsWalking s all next new
went_into s below all top next old new r e a t =
    subst (λ fs. IsWalking s fs next new) (sym a) (subst (λ r. After s below top new r) e t.after)

pub went_done : (s : RootedModel) (below : List Frame) (top : Frame) (old new : Table) (r : Step) → r ≡ Done
    → StepsFrom s below top old new r → IsTopAnswered s below top new
went_done s below top old new r e t = subst (λ r. After s below top new r) e t.after

-- the top statement is answered, and it may be kept how far its path leads
pub kept_after : (s : RootedModel) (below : List Frame) (top : Frame) (old mid new : Table) (r : Step) → r ≡ Done
    → IsWalking s below top old → StepsFrom s below top old mid r
    → ((u v : UnitPath) → IsFrame s (table_paths mid) top u v → IsTopAnswered s below top mid → IsPathKept s below top mid new)
    → IsPathKept s below top mid new
kept_after s below top old mid new r e w t k =
    let wide : IsWider (table_paths old) (table_paths mid) = record { keeps = t.extends.units } in
    k w.from w.here (frame_wide wide w.frame) (went_done s below top old mid r e t)

pub into_smaller : (below all : List Frame) (top next : Frame) (old new : Table) (r : Step) → r ≡ Into next
    → all ≡ below ++ top ∷ [] → Weighs top old new r
    → weight new + load all + length next.rest.now < weight old + load below + length top.rest.now
into_smaller below all top next old new r e a w =
    let h = subst (λ r. Weighs top old new r) e w in let k = ap load a in let l = load_push below top in omega (arith, h, k, l)

pub done_smaller : (below all : List Frame) (top next : Frame) (old mid new : Table) (r : Step) → r ≡ Done
    → below ≡ all ++ next ∷ [] → Weighs top old mid r → new.count ≡ mid.count
    → weight new + load all + length next.rest.now < weight old + load below + length top.rest.now
done_smaller below all top next old mid new r e a w c =
    let h = subst (λ r. Weighs top old mid r) e w in
    let same : weight new ≡ weight mid = ap (λ n. (16777216 - n) * 2 ^ 65) c in
    let k = ap load a in let l = load_push all next in omega (arith, h, k, l, same)

pub none_left : {A : Type 0} (xs : List A) → length xs ≡ 0 → xs ≡ []
none_left [] e = refl
none_left (x ∷ xs) e = absurd (omega arith)

-- the first statement is entered as being followed
pub started : (s : RootedModel) (f : Frame) (old new : Table) → IsWalkReady s f old
    → IsEntrySet old new f.unit f.name.n Following 1 → IsWalking s [] f new
started s f old new w i = let wide = set_wide i in record {
  from = w.from;
  here = w.here;
  frame = frame_wide wide w.frame;
  chain = bottom;
  table = table_set [] (f ∷ []) w.table i w.frame.unit (inl (refl, refl)) (λ b y n h. absurd h);
}

-- the answer is in the table
pub found : (s : RootedModel) (old new : Table) (a x : ℕ) (c : Known) → IsWalkTable s [] new → KeepsKnown old new
    → Some c ≡ known_at new a x → IsNameKnown s old new a x c
found s old new a x c t e h = record { table = t; extends = e; known = λ u p. t.known a x c u p (sym h) }

pub run_found : (s : RootedModel) (old mid new : Table) (a x : ℕ) (c d : Known) → IsEntrySet old mid a x d 1
    → IsRun s mid new → Some c ≡ known_at new a x → IsNameKnown s old new a x c
run_found s old mid new a x c d i r h = found s old new a x c r.table (extends_both (set_extends i) r.extends) h

pub run_missing : (s : RootedModel) (old mid new : Table) (a x : ℕ) (d : Known) {P : Type 0} → IsEntrySet old mid a x d 1
    → IsRun s mid new → None ≡ known_at new a x → P
run_missing s old mid new a x d i r h = let k = r.extends.known a x d i.here in absurd (none_some k.0 (h ∙ k.1))

-- the answer was in the table
pub known_before : (s : RootedModel) (t : Table) (a x : ℕ) (c : Known) → IsWalkTable s [] t → Some c ≡ known_at t a x
    → IsNameKnown s t t a x c
known_before s t a x c k h = found s t t a x c k (extends_none t) h

-- it was found, and is forgotten
pub known_forgotten : (s : RootedModel) (old mid new : Table) (a x : ℕ) (c : Known) → None ≡ known_at old a x
    → IsNameKnown s old mid a x c → IsForgotten mid new a x → IsNameKnown s old new a x c
known_forgotten s old mid new a x c not_yet k i = record {
  table = table_forgotten [] k.table i;
  extends = extends_forgotten (sym not_yet) k.extends i;
  known = λ u p. means_forgotten s u c i k.known p;
}

-- what the forms have of the name
module _ (s : RootedModel) (forms : Forms) (t : Table) (a : ℕ) (u : UnitPath) (d : Met) (x : ℕ) (f : IsFormsFor s forms)
    (k : IsWalkTable s [] t) (p : Stands (table_paths t) a u) (e : Some d ≡ slice_get t.units.items a) where
  here_looked : (o : Option UnitForm) → o ≡ form_at forms d.body.n x → IsLookedUp o (kind_at s u x)
  here_looked o g =
      let m = met_there s [] t k a u d p e in
      let h : IsLookedUp (form_at forms d.body.n x) (member_kind_in s d.body.n x) = looked_up s forms f d.body.n x in
      subst (λ o. IsLookedUp o (kind_at s u x)) (sym g)
      (subst (λ b. IsLookedUp (form_at forms d.body.n x) (member_kind_in s b x)) (sym m.body) h)

  same_unit : (v : UnitPath) → Stands (table_paths t) a v → u ≡ v
  same_unit v q = stands_one (table_paths t) a u v p q

  pub fresh_absent : None ≡ form_at forms d.body.n x → IsNameKnown s t t a x Nothing
  fresh_absent g = record {
    table = k;
    extends = extends_none t;
    known = λ v q. subst (λ v. EntryMeans s (table_paths t) [] a v x Nothing) (same_unit v q)
        (record { height = 0; ends = looked_none (kind_at s u x) (here_looked None g) });
  }

  pub fresh_clone : (q : Bor Path) → Some (form.Clone q) ≡ form_at forms d.body.n x
      → IsStatement q.now true (kind_at s u x)
  fresh_clone q g = looked_clone (here_looked (Some (form.Clone q)) g)

  pub fresh_alias : (q : Bor Path) → Some (form.Alias q) ≡ form_at forms d.body.n x
      → IsStatement q.now false (kind_at s u x)
  fresh_alias q g = looked_alias (here_looked (Some (form.Alias q)) g)

  pub fresh_inner : (new : Table) (c : Met) (n : ℕ) (name : NameId) (id : BodyId) (at : Option (BodyId × ℕ))
      → name.n ≡ x → Some (form.Inner id at) ≡ form_at forms d.body.n x
      → c ≡ record { owner = Some a; name = name; body = id; set_at = at } → IsEntered t new a c n
      → IsNameKnown s t new a x (ToUnit n)
  fresh_inner new c n name id at z g q i =
      let v = entered_level a name id at c q in
      let o = v.0 in
      let h = looked_inner {s = s} {u = u} {x = x} (here_looked (Some (form.Inner id at)) g) in
      let lv : record { name = x; body = id.n; set_at = option_map site_of at } ≡ unit_level c =
      ap (λ x. record { name = x; body = id.n; set_at = option_map site_of at }) (sym z) ∙ sym v.2 in
      let ends = subst (λ l. NameEnds s 0 u x (kind_at s u x) (Some (l ∷ u))) lv h in
      let wide = grown_wide u i.grown o p in
      let m : EndsAt s (table_paths i.mid) u x n =
      record { path = unit_level c ∷ u; stands = grown_stands u i.grown o p; height = 0; ends = ends } in
      let named : c.name.n ≡ x = v.1 ∙ z in
      let set = subst (λ y. IsEntrySet i.mid new a y (ToUnit n) 1) named i.set in
      let r = table_set [] [] (table_grown [] u k i.grown o p) set (wide.keeps a u p) m (λ b y n h. h) in
      found s t new a x (ToUnit n) r (extends_both (grown_extends u i.grown o p) (set_extends set)) (sym set.here)

-- the path of a statement starts nowhere
pub starts_nowhere : (s : RootedModel) (old new : Table) (a x : ℕ) (u : UnitPath) (z : Bool) (p : Path)
    → IsWalkTable s [] old → Stands (table_paths old) a u → IsEntrySet old new a x Nothing 1
    → IsStatement p z (kind_at s u x) → StandsIf (table_paths old) None (start_of p.start u)
    → IsNameKnown s old new a x Nothing
starts_nowhere s old new a x u z p t h i j f =
    let e = starts_none (table_paths old) (start_of p.start u) f in
    found s old new a x Nothing (table_set [] [] t i h
    (record {
      height = 1;
      ends = none_ends j
          (subst (λ o. NamesEnd s 0 o (numbers p.names.items) None) (sym e) nowhere);
    }) (λ b y n h. h))
    (set_extends i) (sym i.here)

pub ready : (s : RootedModel) (t : Table) (first next : Frame) (u : UnitPath) (p : Path) → IsWalkTable s [] t
    → Stands (table_paths t) first.unit u → first.rest.now ≡ p.names.items → first.start ≡ None
    → IsStatement p first.is_clone (kind_at s u first.name.n) → StandsIf (table_paths t) (Some first.at) (start_of p.start u)
    → (IsAtStart s (table_paths t) first u p → (v : UnitPath) × IsFrame s (table_paths t) next u v) → IsWalkReady s next t
ready s t first next u p k h d e j q f =
    let v = f (record { unit = h; is = j; at = q; names = d; fresh = e }) in
    record { from = u; here = v.0; frame = v.1; table = k }

-- the answer for one name is that for the same name
pub known_of : (s : RootedModel) (old new : Table) {a b x y : ℕ} (c : Known) → a ≡ b → x ≡ y
    → IsNameKnown s old new a x c → IsNameKnown s old new b y c
known_of s old new {a = a} {b = b} {x = x} {y = y} c e f k =
    subst (λ y. IsNameKnown s old new b y c) f (subst (λ a. IsNameKnown s old new a x c) e k)

pub on_ok : {T E : Type 0} (r : Result T E) {P Q : Type 0} → (P → Q) → OnOk r P → OnOk r Q
on_ok (Ok x) k h = k h
on_ok (Err e) k h = tt
