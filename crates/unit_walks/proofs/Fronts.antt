-- How the nodes grow by those of a unit, name by name.
use Rattle.std.proofs.Common.{◌≡◌, ◌<◌, ◌≤◌, ◌+◌, ◌++◌, ℕ, zero, suc, Bool, true, false, List, [], ◌∷◌, Option, Some, None, Result, Ok, Err, IfErr, length, length-append, slice_get, get_or, drop, add-one, map, refl, sym, ◌∙◌, ap, subst, arith, append_assoc}
use Rattle.std.proofs.lemmas.List.{drop_all, append-nil}
use Rattle.ar_base.specs.Counts.{limit_of}
use Rattle.ar_base.specs.Lists.{Stands, Along, one_and}
use Rattle.ar_base.specs.Lists as l
use Rattle.ar_base.specs.NumbersInside.{UnitId}
use Rattle.ar_base.specs.declared.counts.Count.TheVariants.{Depth, Units}
use Rattle.ar_base.specs.declared.faults.RuleFault.{RuleFault}
use Rattle.ar_base.specs.declared.faults.RuleFault.TheVariants.{Rule, Limit, Memory}
use Rattle.ar_base.proofs.Standing.{stands_left, stands_one, stands_none, stands_get, along_on, along_length}
use Rattle.class_table.specs.Members.{MemberKind, NamedMember, Inner, Clone, Alias}
use Rattle.hierarchy.specs.Models.{RootedModel}
use Rattle.hierarchy.specs.Units.{UnitPath, UnitLevel, Thing, body_of, set_at_of, bodies_of, has_number, kind_at, names_at}
use Rattle.hierarchy.specs.UnitsInside.{names_in}
use Rattle.hierarchy.specs.Walks.{WalkOutcome, Reaches, NameLeads, clones, inner, cloned}
use Rattle.hierarchy.specs.Walks as g
use Rattle.hierarchy.specs.Listing.{ListsUnits, Insides, MakesUnit, MakesNone, is_inner, unit, none, cut, makes, makes_cut, passes}
use Rattle.hierarchy.specs.Listing as h
use Rattle.hierarchy.specs.Tie.{IsOwner, IsOutline, of_main, of_unit, IsNameOfUnit, IsSetAt}
use Rattle.hierarchy.proofs.Outcomes.{unit_of_reaches}
use Rattle.unit_walks.specs.Ends.{AreHigher, AreEndless}
use Rattle.unit_walks.specs.Forms.{may_be_unit, only_units, IsUnitName, IsKeptForm, IsFormsFor, list_at}
use Rattle.unit_walks.specs.Forms as f
use Rattle.unit_walks.specs.Tables.{table_paths, IsWalkTable, EntryMeans, EndsAt, EndsNowhere}
use Rattle.unit_walks.specs.Walking.{IsRun, IsNameKnown}
use Rattle.unit_walks.specs.Unfolding.{AreShallow, deep, many, depth}
use Rattle.unit_walks.specs.UnfoldingInside.{RefusesUnits}
use Rattle.unit_walks.specs.Unfolding as o
use Rattle.unit_walks.specs.UnfoldingInside as refuses
use Rattle.unit_walks.specs.Growing.{MakesInnerUnit, IsMadeBy, IsNodeOfUnit, Tied, AllShallow, GainsUnitNodes, Over, OnLimit, HasGrown, HasGrownInside, HasPassed, HasPassedInside, IsUnfolded}
use Rattle.unit_walks.specs.declared.forms.Forms.{Forms}
use Rattle.unit_walks.specs.declared.forms.UnitForm.TheVariants as form
use Rattle.unit_walks.specs.declared.forms.UnitName.{UnitName}
use Rattle.unit_walks.specs.declared.tables.Table.{Table}
use Rattle.unit_walks.specs.declared.tables.Met.{Met}
use Rattle.unit_walks.specs.declared.tables.Known.{Known}
use Rattle.unit_walks.specs.declared.tables.Known.TheVariants as c
use Rattle.unit_walks.specs.declared.growing.Node.{Node}
use Rattle.unit_walks.specs.declared.growing.Unfolded.{Unfolded}
use Rattle.unit_walks.proofs.EndsLead.{ends_gives}
use Rattle.unit_walks.proofs.LookUps.{list_along, only_kind, units_back}
use Rattle.unit_walks.proofs.TableSteps.{IsWider, wider, stands_last, extends_both, extends_none, met_there}

-- What the table says, in the words of the definition

pub none_followed : (s : RootedModel) (n : ℕ) → AreHigher s [] n
none_followed s n = record { higher = λ x k u o i d. cc }

pub leads_to : (s : RootedModel) (paths : List UnitPath) (u : UnitPath) (x k : ℕ) (e : EndsAt s paths u x k)
    → NameLeads s [] u x (kind_at s u x) (Reaches e.path)
leads_to s paths u x k e = ends_gives [] e.ends refl (none_followed s e.height)

pub leads_nowhere : (s : RootedModel) (u : UnitPath) (x : ℕ) → EndsNowhere s u x
    → NameLeads s [] u x (kind_at s u x) g.Nothing
leads_nowhere s u x e = ends_gives [] e.ends refl (none_followed s e.height)

pub none_endless : (s : RootedModel) → AreEndless s []
none_endless s = record { endless = λ x k u o i d. cc }

-- what gives a name makes, read off the table
module _ (s : RootedModel) (old new : Table) (a x : ℕ) (r : Known) (u : UnitPath) (n : NamedMember)
    (k : IsNameKnown s old new a x r) (p : Stands (table_paths old) a u) (named : n.name ≡ x)
    (kind : kind_at s u n.name ≡ Some n.kind) (own : is_inner n.kind ≡ true) where
  run : IsRun s old new
  run = record { table = k.table; extends = k.extends }

  means : (q : Known) → r ≡ q → EntryMeans s (table_paths new) [] a u x q
  means q e = subst (λ r. EntryMeans s (table_paths new) [] a u x r) e (k.known u (k.extends.units a u p))

  here : (o : WalkOutcome) → NameLeads s [] u x (kind_at s u x) o → NameLeads s [] u n.name (Some n.kind) o
  here o d = subst (λ m. NameLeads s [] u n.name m o) kind
      (subst (λ y. NameLeads s [] u y (kind_at s u y) o) (sym named) d)

  pub made_unit : (j : ℕ) → r ≡ c.ToUnit j → IsMadeBy s old new u n (Some j)
  made_unit j e = let m = means (c.ToUnit j) e in
      record {
        run = run;
        made = (
          m.path,
          m.stands,
          record
              { inner = own; leads = here (Reaches m.path) (leads_to s (table_paths new) u x j m) },
        );
      }

  pub made_nothing : r ≡ c.Nothing → IsMadeBy s old new u n None
  made_nothing e = record { run = run; made = h.nothing (here g.Nothing (leads_nowhere s u x (means c.Nothing e))) }

  pub made_loops : r ≡ c.Loops → IsMadeBy s old new u n None
  made_loops e = record { run = run; made = h.loops (here g.Loops ((means c.Loops e).loops [] (none_endless s))) }

  pub made_following : r ≡ c.Following → {P : Type 0} → P
  made_following e = absurd (means c.Following e)

pub alias_none : (s : RootedModel) (t : Table) (u : UnitPath) (n : UnitName) (g : NamedMember) {p : _} → IsWalkTable s [] t
    → IsUnitName n g → n.form ≡ form.Alias p → IsMadeBy s t t u g None
alias_none s t u n g k i e = record {
  run = record { table = k; extends = extends_none t };
  made = h.no_inner (not_inner (subst (λ f. IsKeptForm f g.kind) e i.form));
}
  where
    not_inner : {kept : _} {m : MemberKind} → IsKeptForm (form.Alias kept) m → is_inner m ≡ false
    not_inner (f.alias q) = refl

pub inner_own : (n : UnitName) (g : NamedMember) {b : _} {at : _} → IsUnitName n g
    → n.form ≡ form.Inner b at → is_inner g.kind ≡ true
inner_own n g i e = is_own (subst (λ f. IsKeptForm f g.kind) e i.form)
  where
    is_own : {b : _} {at : _} {m : MemberKind} → IsKeptForm (form.Inner b at) m → is_inner m ≡ true
    is_own (f.inner p q) = refl

pub clone_own : (n : UnitName) (g : NamedMember) {p : _} → IsUnitName n g → n.form ≡ form.Clone p
    → is_inner g.kind ≡ true
clone_own n g i e = is_own (subst (λ f. IsKeptForm f g.kind) e i.form)
  where
    is_own : {p : _} {m : MemberKind} → IsKeptForm (form.Clone p) m → is_inner m ≡ true
    is_own (f.clone q) = refl

-- the clone of a path that leads to nothing makes no unit
pub clone_lost : (s : RootedModel) (t : Table) (a : ℕ) (u : UnitPath) (n : UnitName) (g : NamedMember) {p : _}
    → IsWalkTable s [] t → Stands (table_paths t) a u → IsUnitName n g → kind_at s u g.name ≡ Some g.kind
    → n.form ≡ form.Clone p → (kind_at s u g.name ≡ Some (Clone p.now) → EndsNowhere s u g.name)
    → IsMadeBy s t t u g None
clone_lost s t a u n g {p} k stands i kind e lost =
    made_nothing s t t a g.name c.Nothing u g
    (record {
      table = k;
      extends = extends_none t;
      known = λ v q. subst (λ (z : UnitPath). EndsNowhere s z g.name) (stands_one (table_paths t) a u v stands q) nowhere;
    }) stands refl kind (clone_own n g i e) refl
  where
    path_of : {m : MemberKind} → IsKeptForm (form.Clone p) m → m ≡ Clone p.now
    path_of (f.clone q) = ap Clone (sym q)

    nowhere : EndsNowhere s u g.name
    nowhere = lost (kind ∙ ap Some (path_of (subst (λ f. IsKeptForm f g.kind) e i.form)))

-- Nodes

owner_more : (all more : List UnitPath) (u : UnitPath) (o : Option UnitId) → IsOwner all u o → IsOwner (all ++ more) u o
owner_more all more [] None of_main = of_main
owner_more all more [] (Some id) w = elim w [ ]
owner_more all more (l ∷ u) None w = elim w [ ]
owner_more all more (l ∷ u) (Some id) (of_unit p) = of_unit (stands_left all more id.n u p)

node_more : (s : RootedModel) (all more paths : List UnitPath) (u : UnitPath) (d : Node) → IsNodeOfUnit s all paths u d
    → IsNodeOfUnit s (all ++ more) paths u d
node_more s all more paths u d i = record {
  outline = record {
    owner = owner_more all more u d.outline.owner i.outline.owner;
    name = i.outline.name;
    body = i.outline.body;
    set_at = i.outline.set_at;
  };
  unit = i.unit;
}

along_to : {A B : Type 0} {R S : A → B → Type 0} (xs : List A) (ys : List B) → ((a : A) (b : B) → R a b → S a b)
    → Along R xs ys → Along S xs ys
along_to [] [] k l.none = l.none
along_to [] (y ∷ ys) k w = elim w [ ]
along_to (x ∷ xs) [] k w = elim w [ ]
along_to (x ∷ xs) (y ∷ ys) k (one_and r rest) = one_and (k x y r) (along_to xs ys k rest)

along_both : {A B : Type 0} {R : A → B → Type 0} (xs us : List A) (ys vs : List B) → Along R xs ys → Along R us vs
    → Along R (xs ++ us) (ys ++ vs)
along_both [] us [] vs l.none d = d
along_both [] us (y ∷ ys) vs w d = elim w [ ]
along_both (x ∷ xs) us [] vs w d = elim w [ ]
along_both (x ∷ xs) us (y ∷ ys) vs (one_and r rest) d = one_and r (along_both xs us ys vs rest d)

tied_more : (s : RootedModel) (all more paths us : List UnitPath) (ds : List Node) → Tied s all paths us ds
    → Tied s (all ++ more) paths us ds
tied_more s all more paths us ds t = along_to us ds (λ u d i. node_more s all more paths u d i) t

tied_wide : (s : RootedModel) (all : List UnitPath) {paths more : List UnitPath} (us : List UnitPath) (ds : List Node)
    → IsWider paths more → Tied s all paths us ds → Tied s all more us ds
tied_wide s all us ds w t = along_to us ds (λ u d i. record { outline = i.outline; unit = w.keeps d.unit u i.unit }) t

shallow_both : (us vs : List UnitPath) → AllShallow us → AllShallow vs → AllShallow (us ++ vs)
shallow_both [] vs h k = k
shallow_both (u ∷ us) vs (p, h) k = (p, shallow_both us vs h k)

pub are_shallow : (us : List UnitPath) → AllShallow us → AreShallow us
are_shallow us h = record { each = λ u i. go us i.place u h i.stands }
  where
    go : (us : List UnitPath) (n : ℕ) (u : UnitPath) → AllShallow us → Stands us n u → depth u ≤ limit_of Depth
    go [] n u h p = absurd (stands_none n u p)
    go (v ∷ us) zero u (q, h) p = let e = ap length (stands_one (v ∷ us) 0 v u refl p) in omega arith
    go (v ∷ us) (suc n) u (q, h) p = go us n u h p

-- Fronts

-- what the rest of the names make completes what all of them make
abbrev pub Front : RootedModel → UnitPath → List NamedMember → List NamedMember → List UnitPath → Type 0
Front s u all rest us = (whole : Bool) (vs : List UnitPath) → Insides s whole u rest vs
    → Insides s whole u all (us ++ vs)

front_none : (s : RootedModel) (before paths : List UnitPath) (u : UnitPath) (all : List NamedMember) (old : List Node)
    → GainsUnitNodes s before paths (Front s u all all) old old
front_none s before paths u all old =
    record { units = []; are = λ w vs d. d; shallow = tt; nodes = []; grown = sym (append-nil old); tied = l.none }

front_pass : {s : RootedModel} {before paths more : List UnitPath} {u : UnitPath} {all ms : List NamedMember}
    {m : NamedMember} {old new : List Node}
    → IsWider paths more → MakesNone s u m → GainsUnitNodes s before paths (Front s u all (m ∷ ms)) old new
    → GainsUnitNodes s before more (Front s u all ms) old new
front_pass {s = s} {before = before} w n g = record {
  units = g.units;
  are = λ w vs d. g.are w vs (passes n d);
  shallow = g.shallow;
  nodes = g.nodes;
  grown = g.grown;
  tied = tied_wide s (before ++ g.units) g.units g.nodes w g.tied;
}

front_makes : {s : RootedModel} {before paths more : List UnitPath} {u : UnitPath} {all ms : List NamedMember}
    {m : NamedMember} {old mid new : List Node} (v : UnitPath) → IsWider paths more
    → MakesUnit s u m v → (g : GainsUnitNodes s before paths (Front s u all (m ∷ ms)) old mid)
    → GainsUnitNodes s (before ++ g.units) more (ListsUnits s true v) mid new → GainsUnitNodes s before more (Front s u all ms) old new
front_makes {s = s} {before = before} {more = more} {u = u} {all = all} {old = old} v x k g h = record {
  units = g.units ++ h.units;
  are = λ w vs d. subst (λ ws. Insides s w u all ws) (sym (append_assoc g.units h.units vs))
      (g.are w (h.units ++ vs) (makes k h.are d));
  shallow = shallow_both g.units h.units g.shallow h.shallow;
  nodes = g.nodes ++ h.nodes;
  grown = h.grown ∙ ap (λ xs. xs ++ h.nodes) g.grown ∙ append_assoc old g.nodes h.nodes;
  tied = subst (λ all. Tied s all more (g.units ++ h.units) (g.nodes ++ h.nodes)) (append_assoc before g.units h.units)
      (along_both g.units h.units g.nodes h.nodes
      (tied_more s (before ++ g.units) h.units more g.units g.nodes
      (tied_wide s (before ++ g.units) g.units g.nodes x g.tied)) h.tied);
}

front_all : {s : RootedModel} {before paths : List UnitPath} {u : UnitPath} {all : List NamedMember}
    {old new : List Node}
    → GainsUnitNodes s before paths (Front s u all []) old new → GainsUnitNodes s before paths (Insides s true u all) old new
front_all {s = s} {u = u} {all = all} g = record {
  units = g.units;
  are = subst (λ ws. Insides s true u all ws) (append-nil g.units) (g.are true [] none);
  shallow = g.shallow;
  nodes = g.nodes;
  grown = g.grown;
  tied = g.tied;
}

-- names that can be no units make none
head_same : {s : RootedModel} {whole : Bool} {u : UnitPath} {g : NamedMember} {xs gs us : _}
    → ((w : Bool) (vs : List UnitPath) → Insides s w u xs vs → Insides s w u gs vs) → Insides s whole u (g ∷ xs) us
    → Insides s whole u (g ∷ gs) us
head_same k cut = cut
head_same k (makes {whole = w} {vs = vs} m d ds) = makes m d (k w vs ds)
head_same k (makes_cut m d) = makes_cut m d
head_same k (passes {whole = w} {us = us} n ds) = passes n (k w us ds)

not_inner : (k : MemberKind) → may_be_unit k ≡ false → is_inner k ≡ false
not_inner (Inner b s) e = cc
not_inner (Clone p) e = cc
not_inner _ e = refl

pub insides_only : (s : RootedModel) (u : UnitPath) (gs : List NamedMember) (whole : Bool) (us : List UnitPath)
    → Insides s whole u (only_units gs) us → Insides s whole u gs us
insides_only s u [] whole us d = d
insides_only s u (g ∷ gs) whole us d = go (λ w vs. insides_only s u gs w vs) (may_be_unit g.kind) refl
  where
    go : ((w : Bool) (vs : List UnitPath) → Insides s w u (only_units gs) vs → Insides s w u gs vs) → (b : Bool)
        → may_be_unit g.kind ≡ b → Insides s whole u (g ∷ gs) us
    go k true e = let q = rw e at d in head_same k q
    go k false e = let q = rw e at d in passes (h.no_inner (not_inner g.kind e)) (k whole us q)

-- a unit's own node and those inside it
unit_grows : {s : RootedModel} {before paths : List UnitPath} {old new : List Node} (v : UnitPath) (d : Node)
    → length v < 64 → IsOutline s before v d.outline → Stands paths d.unit v
    → GainsUnitNodes s (before ++ v ∷ []) paths (Insides s true v (names_at s v)) (old ++ d ∷ []) new
    → GainsUnitNodes s before paths (ListsUnits s true v) old new
unit_grows {s = s} {before = before} {paths = paths} {old = old} v d l o n g = record {
  units = v ∷ g.units;
  are = unit g.are;
  shallow = (l, g.shallow);
  nodes = d ∷ g.nodes;
  grown = g.grown ∙ append_assoc old (d ∷ []) g.nodes;
  tied = one_and (node_more s before (v ∷ g.units) paths v d (record { outline = o; unit = n }))
      (subst (λ all. Tied s all paths g.units g.nodes) (append_assoc before (v ∷ []) g.units) g.tied);
}

head_is : (x g : NamedMember) (gs : List NamedMember) → x ≡ g → x ∷ gs ≡ g ∷ gs
head_is x g gs e = cc

drop_from : (gs : List NamedMember) (i : ℕ) (g : NamedMember) → Stands gs i g → drop i gs ≡ g ∷ drop (suc i) gs
drop_from [] i g p = absurd (stands_none i g p)
drop_from (x ∷ gs) zero g p = head_is x g gs (stands_one (x ∷ gs) 0 x g refl p)
drop_from (x ∷ gs) (suc i) g p = drop_from gs i g p

drop_here : (gs : List NamedMember) (i : ℕ) (g : NamedMember) → Stands gs i g → drop i gs ≡ g ∷ drop (i + 1) gs
drop_here gs i g p = drop_from gs i g p ∙ ap (λ k. g ∷ drop k gs) (sym (add-one i))

front_item : {s : RootedModel} {before paths : List UnitPath} {u : UnitPath} {gs : List NamedMember}
    {old mid : List Node} (i : ℕ) (g : NamedMember) → Stands gs i g
    → GainsUnitNodes s before paths (Front s u gs (drop i gs)) old mid
    → GainsUnitNodes s before paths (Front s u gs (g ∷ drop (i + 1) gs)) old mid
front_item {s = s} {before = before} {paths = paths} {u = u} {gs = gs} {old = old} {mid = mid} i g p h =
    subst (λ r. GainsUnitNodes s before paths (Front s u gs r) old mid) (drop_here gs i g p) h

more_length : (s : RootedModel) (before paths : List UnitPath) (old mid : List Node) (us : List UnitPath)
    (ds : List Node) → length before ≡ length old → mid ≡ old ++ ds → Tied s (before ++ us) paths us ds
    → length (before ++ us) ≡ length mid
more_length s before paths old mid us ds l e t =
    length-append before us ∙ ap (λ n. n + length us) l ∙ ap (λ n. length old + n) (along_length us ds t)
    ∙ sym (length-append old ds) ∙ ap length (sym e)

clone_inside : (s : RootedModel) (u v : UnitPath) (x : ℕ) (r : WalkOutcome) → Reaches v ≡ cloned s u x r
    → (l : UnitLevel) × (v ≡ l ∷ u)
clone_inside s u v x g.Nothing e = cc
clone_inside s u v x g.Loops e = cc
clone_inside s u v x (Reaches t) e = go (has_number (bodies_of s u) (body_of s t)) refl
  where
    go : (b : Bool) → has_number (bodies_of s u) (body_of s t) ≡ b → (l : UnitLevel) × (v ≡ l ∷ u)
    go true h = let k = rw h at e in absurd (cc k)
    go false h = let k = rw h at e in (record { name = x; body = body_of s t; set_at = set_at_of t }, unit_of_reaches k)

inside_of : (s : RootedModel) (f : List Thing) (u v : UnitPath) (x : ℕ) (m : MemberKind) → is_inner m ≡ true
    → NameLeads s f u x (Some m) (Reaches v) → (l : UnitLevel) × (v ≡ l ∷ u)
inside_of s f u v x (Inner b a) o inner = (record { name = x; body = b; set_at = a }, refl)
inside_of s f u v x (Clone p) o (clones {o = r} n d e) = clone_inside s u v x r e
inside_of s f u v x (Alias p) o d = cc
inside_of s f u v x _ o d = cc

pub made_inside : (s : RootedModel) (u v : UnitPath) (m : NamedMember) → MakesUnit s u m v
    → (l : UnitLevel) × (v ≡ l ∷ u)
made_inside s u v m k = inside_of s [] u v m.name m.kind k.inner k.leads

owner_inside : (all : List UnitPath) (u v : UnitPath) (l : UnitLevel) (id : UnitId) → v ≡ l ∷ u → Stands all id.n u
    → IsOwner all v (Some id)
owner_inside all u v l id e p = subst (λ v. IsOwner all v (Some id)) (sym e) (of_unit p)

-- a unit inside another is one deeper
pub made_depth : (s : RootedModel) (u v : UnitPath) (m : NamedMember) (room : ℕ) → MakesUnit s u m v
    → length u + 1 + room ≡ 64 → length v + room ≡ 64
made_depth s u v m room k d = let w = made_inside s u v m k in let e = ap length w.1 in omega arith

-- The loop over the names of a unit

-- it has come to place i
pub record Fronts (s : RootedModel) (first now : Table) (old mid : List Node) (u : UnitPath) (at : ℕ)
    (gs : List NamedMember) (i : ℕ) : Type 0 where
  pub run : IsRun s first now
  pub front : (before : List UnitPath) → length before ≡ length old → Stands before at u
      → GainsUnitNodes s before (table_paths now) (Front s u gs (drop i gs)) old mid

pub fronts_none : (s : RootedModel) (t : Table) (old : List Node) (u : UnitPath) (at : ℕ) (gs : List NamedMember)
    → IsWalkTable s [] t → Fronts s t t old old u at gs 0
fronts_none s t old u at gs k = record {
  run = record { table = k; extends = extends_none t };
  front = λ before l p. front_none s before (table_paths t) u gs old;
}

run_both : {s : RootedModel} {old mid new : Table} → IsRun s old mid → IsRun s mid new → IsRun s old new
run_both a b = record { table = b.table; extends = extends_both a.extends b.extends }

pub fronts_passed : (s : RootedModel) (first now next : Table) (old mid : List Node) (u : UnitPath) (at : ℕ)
    (gs : List NamedMember) (i : ℕ) (g : NamedMember) (o : Option ℕ) → Stands gs i g
    → IsMadeBy s now next u g o → o ≡ None → Fronts s first now old mid u at gs i
    → Fronts s first next old mid u at gs (i + 1)
fronts_passed s first now next old mid u at gs i g o p d n w = record {
  run = run_both w.run d.run;
  front = λ before l q. front_pass (wider d.run.extends) (subst (λ o. MakesInnerUnit s (table_paths next) u g o) n d.made)
      (front_item i g p (w.front before l q));
}

pub fronts_grown : (s : RootedModel) (first now next last : Table) (old mid new : List Node) (u : UnitPath)
    (at : UnitId) (gs : List NamedMember) (i k : ℕ) (g : NamedMember) (o : Option ℕ) → Stands gs i g
    → (d : IsMadeBy s now next u g o) → o ≡ Some k
    → ((v : UnitPath) → Stands (table_paths next) k v → MakesUnit s u g v → HasGrown s v (Some at) next last mid new)
    → Fronts s first now old mid u at.n gs i → Fronts s first last old new u at.n gs (i + 1)
fronts_grown s first now next last old mid new u at gs i k g o p d n call w =
    let m = subst (λ o. MakesInnerUnit s (table_paths next) u g o) n d.made in
    let grown = call m.0 m.1 m.2 in
    let e = made_inside s u m.0 g m.2 in
    record {
      run = run_both w.run (run_both d.run grown.run);
      front = λ before l q.
          let h = front_item i g p (w.front before l q) in
          let up = owner_inside (before ++ h.units) u m.0 e.0 at e.1 (stands_left before h.units at.n u q) in
          front_makes m.0 (wider (extends_both d.run.extends grown.run.extends)) m.2 h
          (grown.grows (before ++ h.units)
          (more_length s before (table_paths now) old mid h.units h.nodes l h.grown h.tied) up);
    }

pub fronts_all : (s : RootedModel) (first now : Table) (old mid : List Node) (u : UnitPath) (at i : ℕ)
    → length (only_units (names_at s u)) ≤ i → Fronts s first now old mid u at (only_units (names_at s u)) i
    → HasGrownInside s u at first now old mid
fronts_all s first now old mid u at i e w = record {
  run = w.run;
  grows = λ before l p.
      let g = front_all (subst (λ r. GainsUnitNodes s before (table_paths now) (Front s u (only_units (names_at s u)) r) old mid)
      (drop_all i (only_units (names_at s u)) e) (w.front before l p)) in
      record {
        units = g.units;
        are = insides_only s u (names_at s u) true g.units g.are;
        shallow = g.shallow;
        nodes = g.nodes;
        grown = g.grown;
        tied = g.tied;
      };
}

on_limit : (e : RuleFault) {P Q : Type 0} → (P → Q) → OnLimit e P → OnLimit e Q
on_limit (Limit c) k h = k h
on_limit (Rule r p) k h = h
on_limit Memory k h = h

pub if_limit : {T : Type 0} (r : Result T RuleFault) {P Q : RuleFault → Type 0} → ((e : RuleFault) → P e → Q e)
    → IfErr r P → IfErr r Q
if_limit (Ok x) k h = tt
if_limit (Err e) k h = k e h

-- a limit is passed inside the unit of a name
pub fronts_over : (s : RootedModel) (e : RuleFault) (first now next : Table) (old mid : List Node) (u : UnitPath)
    (at : UnitId) (i k : ℕ) (g : NamedMember) (o : Option ℕ) → Stands (only_units (names_at s u)) i g
    → (d : IsMadeBy s now next u g o) → o ≡ Some k
    → ((v : UnitPath) → Stands (table_paths next) k v → MakesUnit s u g v → HasPassed s v (Some at) mid e)
    → Fronts s first now old mid u at.n (only_units (names_at s u)) i → HasPassedInside s u at.n old e
fronts_over s e first now next old mid u at i k g o p d n call w =
    let m = subst (λ o. MakesInnerUnit s (table_paths next) u g o) n d.made in
    let v = made_inside s u m.0 g m.2 in
    on_limit e (λ passed before l sh q.
    let h = front_item i g p (w.front before l q) in
    let up = owner_inside (before ++ h.units) u m.0 v.0 at v.1 (stands_left before h.units at.n u q) in
    let t = passed (before ++ h.units) (more_length s before (table_paths now) old mid h.units h.nodes l h.grown h.tied)
    (shallow_both before h.units sh h.shallow) up in
    record {
      units = h.units ++ t.units;
      are = insides_only s u (names_at s u) false (h.units ++ t.units) (h.are false t.units (makes_cut m.2 t.are));
      over = subst (λ us. Over e us) (append_assoc before h.units t.units) t.over;
    })
    (call m.0 m.1 m.2)

-- A unit

long_more : (before : List UnitPath) (v : UnitPath) (old mid : List Node) (d : Node) → mid ≡ old ++ d ∷ []
    → length before ≡ length old → length (before ++ v ∷ []) ≡ length mid
long_more before v old mid d e l = length-append before (v ∷ []) ∙ ap (λ n. n + 1) l ∙ sym (length-append old (d ∷ []))
    ∙ ap length (sym e)

-- the node of a unit, read off the table
pub outline_of : (s : RootedModel) (t : Table) (a : ℕ) (u : UnitPath) (d : Met) (n : Node) (before : List UnitPath)
    → IsWalkTable s [] t → Stands (table_paths t) a u → Some d ≡ slice_get t.units.items a
    → n.outline.name ≡ d.name → n.outline.body ≡ d.body → n.outline.set_at ≡ d.set_at → IsOwner before u n.outline.owner
    → IsOutline s before u n.outline
outline_of s t a u d n before k p e x b z o =
    let m = met_there s [] t k a u d p e in
    record {
      owner = o;
      name = subst (λ x. IsNameOfUnit u x) (sym x) m.name;
      body = ap (λ b. b.n) b ∙ sym m.body;
      set_at = subst (λ at. IsSetAt (set_at_of u) at) (sym z) m.set_at;
    }

pub unit_grown : (s : RootedModel) (first last : Table) (v : UnitPath) (old mid new : List Node) (d : Node) (at : ℕ)
    → mid ≡ old ++ d ∷ [] → at ≡ length old → length v < 64
    → ((before : List UnitPath) → IsOwner before v d.outline.owner → IsOutline s before v d.outline)
    → Stands (table_paths first) d.unit v
    → HasGrownInside s v at first last mid new → HasGrown s v d.outline.owner first last old new
unit_grown s first last v old mid new d at e a sh o n w = record {
  run = w.run;
  grows = λ before l owner.
      let g = w.grows (before ++ v ∷ []) (long_more before v old mid d e l) (stands_last before v at (a ∙ sym l)) in
      unit_grows v d sh (o before owner) (w.run.extends.units d.unit v n)
      (subst (λ mid. GainsUnitNodes s (before ++ v ∷ []) (table_paths last) (Insides s true v (names_at s v)) mid new) e g);
}

-- a limit is passed at the unit itself
pub unit_many : (s : RootedModel) (v : UnitPath) (owner : Option UnitId) (old : List Node) → length old ≡ 16384
    → length v < 64 → HasPassed s v owner old (Limit Units)
unit_many s v owner old n h before l sh o = record {
  units = v ∷ [];
  are = unit cut;
  over = many (are_shallow (before ++ v ∷ []) (shallow_both before (v ∷ []) sh (h, tt)))
      (length-append before (v ∷ []) ∙ ap (λ n. n + 1) (l ∙ n));
}

pub unit_deep : (s : RootedModel) (v : UnitPath) (owner : Option UnitId) (old : List Node) → length old ≤ 16384
    → length v ≡ 64 → HasPassed s v owner old (Limit Depth)
unit_deep s v owner old n h before l sh o = record { units = v ∷ []; are = unit cut; over = deep before v (are_shallow before sh) (let k = n in omega arith) (ap (λ n. n + 1) h) }

-- inside it
pub unit_over : (s : RootedModel) (e : RuleFault) (v : UnitPath) (owner : Option UnitId) (old mid : List Node)
    (d : Node) (at : ℕ) → mid ≡ old ++ d ∷ [] → at ≡ length old → length v < 64
    → HasPassedInside s v at mid e → HasPassed s v owner old e
unit_over s e v owner old mid d at p a h w = on_limit e (λ passed before l sh o.
    let t = passed (before ++ v ∷ []) (long_more before v old mid d p l) (shallow_both before (v ∷ []) sh (h, tt))
    (stands_last before v at (a ∙ sym l)) in
    record {
      units = v ∷ t.units;
      are = unit t.are;
      over = subst (λ us. Over e us) (append_assoc before (v ∷ []) t.units) t.over;
    }) w

-- The names of a unit

pub record IsNameAt (s : RootedModel) (u : UnitPath) (n : UnitName) (i : ℕ) : Type 0 where
  pub member : NamedMember
  pub stands : Stands (only_units (names_at s u)) i member
  pub is_name : IsUnitName n member
  pub kind : kind_at s u member.name ≡ Some member.kind

pub name_there : (s : RootedModel) (f : Forms) (u : UnitPath) (b : ℕ) (names : List UnitName) (i : ℕ) (n : UnitName)
    → IsFormsFor s f → b ≡ body_of s u → names ≡ list_at f b → i < length names → n ≡ get_or names i n
    → IsNameAt s u n i
name_there s f u b names i n k e q l j =
    let at : Stands names i n = subst (λ x. Stands names i x) (sym j) (stands_get names i n l) in
    let along = subst (λ b. Along IsUnitName (list_at f b) (only_units (names_in s b))) e (list_along s f k b) in
    let here = subst (λ ns. Stands ns i n) (q ∙ ap (list_at f) e) at in
    let g = along_on (list_at f (body_of s u)) (only_units (names_at s u)) along i n here in
    let back = units_back (names_at s u) i g.0 g.1 in
    record { member = g.0; stands = g.1; is_name = g.2; kind = only_kind s f k (body_of s u) back.0.0 g.0 back.0.1 }

pub names_length : (s : RootedModel) (f : Forms) (u : UnitPath) (b : ℕ) (names : List UnitName) → IsFormsFor s f
    → b ≡ body_of s u → names ≡ list_at f b → length (only_units (names_at s u)) ≡ length names
names_length s f u b names k e q =
    let along = subst (λ b. Along IsUnitName (list_at f b) (only_units (names_in s b))) e (list_along s f k b) in
    sym (along_length (list_at f (body_of s u)) (only_units (names_at s u)) along)
    ∙ ap length (sym (q ∙ ap (list_at f) e))

-- All units

pub depth_first : (s : RootedModel) (first : Table) → IsWalkTable s [] first → (path : UnitPath)
    → Stands (table_paths first) 0 path → length path + 64 ≡ 64
depth_first s first k path p = let h = ap length (stands_one (table_paths first) 0 path [] p k.main) in omega arith

pub refused : (m : RootedModel) (e : RuleFault) (old : List Node) → old ≡ [] → HasPassed m [] None old e
    → RefusesUnits m e
refused m (Limit c) old z w = let p = w [] (ap length (sym z)) tt of_main in refuses.limit (o.over p.are p.over)
refused m (Rule r p) old z w = absurd w
refused m Memory old z w = refuses.memory

outlines_along : (m : RootedModel) (all paths us : List UnitPath) (ds : List Node) → Tied m all paths us ds
    → Along (IsOutline m all) us (map (λ (n : Node). n.outline) ds)
outlines_along m all paths [] [] l.none = l.none
outlines_along m all paths [] (d ∷ ds) w = elim w [ ]
outlines_along m all paths (u ∷ us) [] w = elim w [ ]
outlines_along m all paths (u ∷ us) (d ∷ ds) (one_and i rest) =
    one_and i.outline (outlines_along m all paths us ds rest)

pub unfolded : (m : RootedModel) (first : Table) (old : List Node) (r : Unfolded) → old ≡ []
    → length r.nodes.items ≤ 16384 → r.outlines.items ≡ map (λ (n : Node). n.outline) r.nodes.items
    → IsFormsFor m r.forms
    → HasGrown m [] None first r.table old r.nodes.items → (units : List UnitPath) × IsUnfolded m units r
unfolded m first old r z small e f w =
    let g = w.grows [] (ap length (sym z)) of_main in
    let n : r.nodes.items ≡ g.nodes = g.grown ∙ ap (λ ds. ds ++ g.nodes) z in
    let t = subst (λ ds. Tied m g.units (table_paths r.table) g.units ds) (sym n) g.tied in (
      g.units,
      record {
        are_units = g.are;
        shallow = are_shallow g.units g.shallow;
        few = let k = along_length g.units r.nodes.items t in omega (arith, k, small);
        outlines = subst (λ os. Along (IsOutline m g.units) g.units os) (sym e)
            (outlines_along m g.units (table_paths r.table) g.units r.nodes.items t);
        nodes = t;
        forms = f;
        table = w.run.table;
      },
    )
