-- One step of a walk.
use Rattle.std.proofs.Common.{◌≡◌, ◌<◌, ◌+◌, ◌-◌, ◌*◌, ◌^◌, ◌++◌, length, ◌⊎◌, inl, inr, ℕ, suc, Bool, true, false, List, [], ◌∷◌, Option, Some, None, option_map, slice_get, refl, sym, Result, Ok, Err, IfOk, ◌∙◌, ap, subst, arith, append_assoc, length-append, drop}
use Rattle.std.specs.Borrow.{Bor}
use Rattle.std.proofs.lemmas.Option.{same_Some}
use Rattle.ar_base.specs.Lists.{Stands}
use Rattle.ar_base.specs.Numbers.{NameId, BodyId}
use Rattle.ar_base.proofs.Standing.{stands_one}
use Rattle.ar_syntax.specs.declared.paths.Path.{Path}
use Rattle.class_table.specs.Members.{Site, MemberKind, Inner, Clone, Alias, Variable, Parameter, Kept, Event, Observer}
use Rattle.class_table.specs.TablesInside.{site_of}
use Rattle.hierarchy.specs.Models.{RootedModel}
use Rattle.hierarchy.specs.Units.{UnitPath, UnitLevel, start_of, body_of, set_at_of, bodies_of, has_number, kind_at, numbers}
use Rattle.hierarchy.specs.Walks.{is_unitless}
use Rattle.hierarchy.specs.Tie.{IsSetAt, none, some}
use Rattle.unit_walks.specs.Ends.{NameEnds, NamesEnd, NeverEnds, Reached, IsStatement, clone, alias, inner, clones, clones_none, embeds, no_unit, absent, nowhere, arrives, on, stops}
use Rattle.unit_walks.specs.Forms.{member_kind_in, may_be_unit, IsFormsFor, IsLookedUp, form_at}
use Rattle.unit_walks.specs.Forms as l
use Rattle.unit_walks.specs.Tables.{known_at, end_at, unit_level, table_paths, StandsIf, HasFrame, EndsAt, EndsNowhere, EntryMeans, PathLeads, IsUnitMet, IsWalkTable, IsEntrySet, IsGrown, IsEntered, KeepsEnd}
use Rattle.unit_walks.specs.Walking.{IsFrame, IsAtStart, Chain, bottom, above, IsWalking, IsTopAnswered, IsPathKept, After, IsWalkStep, IsNameStep, IsStatementStep, StepsFrom, weight, Weighs}
use Rattle.unit_walks.specs.declared.forms.Forms.{Forms}
use Rattle.unit_walks.specs.declared.forms.UnitForm.{UnitForm}
use Rattle.unit_walks.specs.declared.forms.UnitForm.TheVariants as form
use Rattle.unit_walks.specs.declared.tables.Table.{Table}
use Rattle.unit_walks.specs.declared.tables.Frame.{Frame}
use Rattle.unit_walks.specs.declared.tables.Reach.{Reach}
use Rattle.unit_walks.specs.declared.tables.Met.{Met}
use Rattle.unit_walks.specs.declared.tables.Known.{Known}
use Rattle.unit_walks.specs.declared.tables.Known.TheVariants.{Following, ToUnit, Nothing, Loops}
use Rattle.unit_walks.specs.declared.walking.Step.{Step}
use Rattle.unit_walks.specs.declared.walking.Step.TheVariants.{On, Into, Done}
use Rattle.unit_walks.proofs.LookUps.{looked_up}
use Rattle.unit_walks.proofs.TableSteps.{set_wide, set_extends, grown_wide, grown_extends, grown_stands, kept_wide, kept_extends, extends_both, extends_none, table_set, table_grown, table_kept, chain_wide, frame_wide, met_there, means_frames}
use Rattle.unit_walks.proofs.Looping.{Waits, Leads, here, runs_on, waits_doomed, cycle_doomed, above_doomed, leads_on}

-- the statements of a longer list of frames
pub has_more : (below : List Frame) (top : Frame) (b y : ℕ) → HasFrame below b y → HasFrame (below ++ top ∷ []) b y
has_more [] top b y h = absurd h
has_more (f ∷ fs) top b y (inl h) = inl h
has_more (f ∷ fs) top b y (inr h) = inr (has_more fs top b y h)

pub has_last : (below : List Frame) (top : Frame) (b y : ℕ) → top.unit ≡ b → top.name.n ≡ y
    → HasFrame (below ++ top ∷ []) b y
has_last [] top b y p q = inl (p, q)
has_last (f ∷ fs) top b y p q = inr (has_last fs top b y p q)

pub has_split : (below : List Frame) (top : Frame) (b y : ℕ) → HasFrame (below ++ top ∷ []) b y
    → HasFrame below b y ⊎ ((top.unit ≡ b) × (top.name.n ≡ y))
has_split [] top b y (inl h) = inr h
has_split [] top b y (inr h) = absurd h
has_split (f ∷ fs) top b y (inl h) = inl (inl h)
has_split (f ∷ fs) top b y (inr h) = elim (has_split fs top b y h) [ inl k ↦ inl (inr k) | inr k ↦ inr k ]

frame_off : (below : List Frame) (top : Frame) (b y : ℕ) → ((b ≡ top.unit) × (y ≡ top.name.n) → ⊥)
    → HasFrame (below ++ top ∷ []) b y → HasFrame below b y
frame_off below top b y n h = elim (has_split below top b y h) [ inl k ↦ k | inr k ↦ absurd (n (sym k.0, sym k.1)) ]

-- the next frame has the same statement
frame_kept : (below : List Frame) (top next : Frame) → next.unit ≡ top.unit → next.name.n ≡ top.name.n → (b y : ℕ)
    → HasFrame (below ++ top ∷ []) b y → HasFrame (below ++ next ∷ []) b y
frame_kept below top next p q b y h =
    elim (has_split below top b y h) [
      | inl k ↦ has_more below next b y k
      | inr k ↦ has_last below next b y (p ∙ k.0) (q ∙ k.1)
    ]

set_weight : {old new : Table} {a x : ℕ} {c : Known} → IsEntrySet old new a x c 0 → weight new ≡ weight old
set_weight {old = old} {new = new} i = let e : new.count ≡ old.count = i.count ∙ (omega arith) in ap (λ n. (16777216 - n) * 2 ^ 65) e

pub answered_weighs : (top : Frame) {old new : Table} {a x : ℕ} {c : Known} (r : Step) → r ≡ Done
    → IsEntrySet old new a x c 0 → Weighs top old new r
answered_weighs top {old = old} {new = new} r e i = subst (λ r. Weighs top old new r) (sym e) (let h = set_weight i in omega (arith, h))

-- the top frame's statement is answered by c
pub answered : {s : RootedModel} {below : List Frame} {top : Frame} {old new : Table} (c : Known) (r : Step)
    → (w : IsWalking s below top old) → r ≡ Done → IsEntrySet old new top.unit top.name.n c 0
    → EntryMeans s (table_paths old) below top.unit w.from top.name.n c → StepsFrom s below top old new r
answered {s = s} {below = below} {top = top} {old = old} {new = new} c r w e i m = record {
  after = subst (λ r. After s below top new r) (sym e) (record {
    from = w.from;
    stands = (set_wide i).keeps top.unit w.from w.frame.unit;
    chain = chain_wide (set_wide i) w.chain;
    table = table_set (below ++ top ∷ []) below w.table i w.frame.unit m (λ b y n h. frame_off below top b y n h);
  });
  extends = set_extends i;
}

-- the walk is under way as before, with a unit more
walking_grown : {s : RootedModel} {below : List Frame} {top : Frame} {old new : Table} {d : Met} {a n : ℕ}
    (u : UnitPath) → IsWalking s below top old → IsGrown old new d n → d.owner ≡ Some a → Stands (table_paths old) a u
    → IsWalking s below top new
walking_grown {below = below} {top = top} u w g o h = let wide = grown_wide u g o h in record {
  from = w.from;
  here = w.here;
  frame = frame_wide wide w.frame;
  chain = chain_wide wide w.chain;
  table = table_grown (below ++ top ∷ []) u w.table g o h;
}

-- or with an entry more
walking_set : {s : RootedModel} {below : List Frame} {top : Frame} {old new : Table} {a x k : ℕ} {c : Known}
    (u : UnitPath) → IsWalking s below top old → IsEntrySet old new a x c k → Stands (table_paths old) a u
    → EntryMeans s (table_paths old) (below ++ top ∷ []) a u x c → IsWalking s below top new
walking_set {below = below} {top = top} u w i h m = let wide = set_wide i in record {
  from = w.from;
  here = w.here;
  frame = frame_wide wide w.frame;
  chain = chain_wide wide w.chain;
  table = table_set (below ++ top ∷ []) (below ++ top ∷ []) w.table i h m (λ b y n k. k);
}

alias_ends : {s : RootedModel} {u : UnitPath} {x n : ℕ} {p : Path} {m : Option MemberKind} {o : Option UnitPath}
    → IsStatement p false m → NamesEnd s n (start_of p.start u) (numbers p.names.items) o → NameEnds s (suc n) u x m o
alias_ends alias r = embeds r

clone_ends : {s : RootedModel} {u t : UnitPath} {x n : ℕ} {p : Path} {m : Option MemberKind} → IsStatement p true m
    → NamesEnd s n (start_of p.start u) (numbers p.names.items) (Some t)
    → has_number (bodies_of s u) (body_of s t) ≡ false
    → NameEnds s (suc n) u x m (Some (record { name = x; body = body_of s t; set_at = set_at_of t } ∷ u))
clone_ends clone r h = clones r h

pub none_ends : {s : RootedModel} {u : UnitPath} {x n : ℕ} {p : Path} {b : Bool} {m : Option MemberKind}
    → IsStatement p b m → NamesEnd s n (start_of p.start u) (numbers p.names.items) None → NameEnds s (suc n) u x m None
none_ends alias r = embeds r
none_ends clone r = clones_none r

-- the path of a statement has been walked to its end
whole : {s : RootedModel} {u v : UnitPath} {x : ℕ} {b : Bool} (r : Reached s u x b v [])
    → NamesEnd s (r.height + 0) (start_of r.path.start u) (numbers r.path.names.items) (Some v)
whole {s = s} {u = u} {v = v} r = subst (λ xs. NamesEnd s (r.height + 0) (start_of r.path.start u) xs (Some v))
    (sym r.names) (runs_on r.ran arrives)

reached_end : {s : RootedModel} {u v : UnitPath} {x : ℕ} {b c : Bool} {xs : List ℕ} → b ≡ c → xs ≡ []
    → Reached s u x b v xs → Reached s u x c v []
reached_end {s = s} {u = u} {v = v} {x = x} {b = b} e f r = let P : Bool → List ℕ → Type 0 = λ b xs. Reached s u x b v xs in subst (λ b. P b []) e (subst (λ xs. P b xs) f r)

none_to_go : (xs : List NameId) → xs ≡ [] → numbers xs ≡ []
none_to_go xs e = ap numbers e

length_numbers : (xs : List NameId) → length (numbers xs) ≡ length xs
length_numbers [] = refl
length_numbers (x ∷ xs) = ap suc (length_numbers xs)

-- the names behind the first ones
pub names_behind : (xs : List NameId) (before rest : List ℕ) → numbers xs ≡ before ++ rest
    → numbers (drop (length xs - length rest) xs) ≡ rest
names_behind xs before rest e =
    subst (λ n. numbers (drop n xs) ≡ rest) (sym count) (behind xs before e)
  where
    behind : (xs : List NameId) (before : List ℕ) → numbers xs ≡ before ++ rest → numbers (drop (length before) xs) ≡ rest
    behind xs [] e = e
    behind [] (b ∷ bs) e = cc
    behind (x ∷ xs) (b ∷ bs) e = behind xs bs (cc e)

    count : length xs - length rest ≡ length before
    count = let a = length_numbers xs in let b = ap length e in let c = length-append before rest in omega (arith, a, b, c)

pub starts_none : (paths : List UnitPath) (o : Option UnitPath) → StandsIf paths None o → o ≡ None
starts_none paths None h = refl
starts_none paths (Some u) h = absurd h

pub starts_some : (paths : List UnitPath) (n : ℕ) (o : Option UnitPath) → StandsIf paths (Some n) o
    → (v : UnitPath) × (o ≡ Some v) × Stands paths n v
starts_some paths n None h = absurd h
starts_some paths n (Some v) h = (v, refl, h)

-- nothing is kept of how far the path leads, and all is as before
pub kept_nothing : {s : RootedModel} {below : List Frame} {top : Frame} {t : Table} → IsTopAnswered s below top t
    → IsPathKept s below top t t
kept_nothing {t = t} a = record { answered = a; extends = extends_none t }

-- it is kept how far the path leads
pub kept_end : {s : RootedModel} {below : List Frame} {top : Frame} {old new : Table} {u v : UnitPath} (d : Met) (a : ℕ)
    (k : Reach) → IsFrame s (table_paths old) top u v → IsTopAnswered s below top old → top.start ≡ Some a
    → Some d ≡ slice_get old.units.items top.unit → k.unit ≡ top.at → k.rest ≡ length top.rest.now
    → KeepsEnd old new d.body.n top.name.n a k → IsPathKept s below top old new
kept_end {s = s} {below = below} {top = top} {old = old} {u = u} {v = v} d a k f w g e at to_go i =
    let q = f.reached in
    let m = met_there s below old w.table top.unit u d f.unit e in
    let first = starts_some (table_paths old) a (start_of q.path.start u) (f.start q.path a g q.is) in
    let is : IsStatement q.path top.is_clone (member_kind_in s (body_of s u) top.name.n) = q.is in
    let h : PathLeads s (table_paths old) d.body.n top.name.n a k = record {
      path = q.path;
      is_clone = top.is_clone;
      is = subst (λ b. IsStatement q.path top.is_clone (member_kind_in s b top.name.n)) m.body is;
      first = first.0;
      last = v;
      starts = first.2;
      stands = subst (λ n. Stands (table_paths old) n v) (sym at) f.at;
      before = q.before;
      rest = numbers top.rest.now;
      names = q.names;
      to_go = length_numbers top.rest.now ∙ sym to_go;
      height = q.height;
      ends = subst (λ o. NamesEnd s q.height o q.before (Some v)) first.1 q.ran;
    } in
    let wide = kept_wide i in
    record {
      answered = record {
        from = w.from;
        stands = wide.keeps top.unit w.from w.stands;
        chain = chain_wide wide w.chain;
        table = table_kept below w.table i h;
      };
      extends = kept_extends i;
    }

-- an answer leaves no more to look at, and a name that leads to a unit leaves fewer names
pub answer_weighs : (top : Frame) (old new : Table) (a x : ℕ) (c : Known) (r : Step) → r ≡ Done
    → IsEntrySet old new a x c 0 → Weighs top old new r
answer_weighs top old new a x c r e s = rw e (omega (arith, same))
  where
    count : new.count ≡ old.count
    count = let k = s.count in omega (arith, k)

    same : weight new ≡ weight old
    same = ap (λ n. (16777216 - n) * 2 ^ 65) count

pub unit_weighs : (n : ℕ) (names rest : List NameId) (x : NameId) → names ≡ x ∷ rest
    → n + length rest < n + length names
unit_weighs n names rest x e = let k = ap length e in omega (arith, k)

pub arrived_alias : (top : Frame) (old new : Table) (r : Step) → top.is_clone ≡ false → top.rest.now ≡ [] → r ≡ Done
    → IsEntrySet old new top.unit top.name.n (ToUnit top.at) 0 → IsWalkStep top old new r
arrived_alias top old new r a over e i s below w =
    let q = reached_end a (none_to_go top.rest.now over) w.frame.reached in
    answered (ToUnit top.at) r w e i (record
    { path = w.here; stands = w.frame.at; height = suc (q.height + 0); ends = alias_ends q.is (whole q) })

-- the unit that the top frame's walk has come to
pub walking_met : (top : Frame) (t : Table) (d : Met) → Some d ≡ slice_get t.units.items top.at
    → (s : RootedModel) (below : List Frame) (w : IsWalking s below top t) → IsUnitMet s (table_paths t) w.here d
walking_met top t d e s below w = met_there s (below ++ top ∷ []) t w.table top.at w.here d w.frame.at e

pub arrived_above : (top : Frame) (old new : Table) (r : Step) (d : Met) → top.is_clone ≡ true → top.rest.now ≡ []
    → r ≡ Done → IsEntrySet old new top.unit top.name.n Loops 0 → Some d ≡ slice_get old.units.items top.at
    → ((s : RootedModel) (frames : List Frame) (u : UnitPath) → IsWalkTable s frames old → Stands (table_paths old) top.unit u
    → true ≡ has_number (bodies_of s u) d.body.n) → IsWalkStep top old new r
arrived_above top old new r d a over e i f h s below w =
    let q = walking_met top old d f s below w in
    let z = h s (below ++ top ∷ []) w.from w.table w.frame.unit in
    answered Loops r w e i (above_doomed (reached_end a (none_to_go top.rest.now over) w.frame.reached)
    (subst (λ b. has_number (bodies_of s w.from) b ≡ true) (sym q.body) (sym z)))

site_same : (a b c d : ℕ) → a ≡ b → c ≡ d
    → ◌≡◌ {A = Option Site} (Some (record { body = b; place = d })) (Some (record { body = a; place = c }))
site_same a b c d p q = cc

set_at_same : (o : Option Site) (at : Option (BodyId × ℕ)) → IsSetAt o at → o ≡ option_map site_of at
set_at_same None None none = refl
set_at_same None (Some at) h = elim h [ ]
set_at_same (Some site) None h = elim h [ ]
set_at_same (Some site) (Some at) (some p q) = site_same at.0.n site.body at.1 site.place p q

level_same : (x a b : ℕ) (o p : Option Site) → a ≡ b → o ≡ p
    → ◌≡◌ {A = UnitLevel} (record { name = x; body = a; set_at = o }) (record { name = x; body = b; set_at = p })
level_same x a b o p e f = cc

pub arrived_clone : (top : Frame) (old mid new : Table) (r : Step) (d c : Met) (n : ℕ) → top.is_clone ≡ true
    → top.rest.now ≡ [] → r ≡ Done
    → c ≡ record { owner = Some top.unit; name = top.name; body = d.body; set_at = d.set_at } → IsGrown old mid c n
    → IsEntrySet mid new top.unit top.name.n (ToUnit n) 0 → Some d ≡ slice_get old.units.items top.at
    → ((s : RootedModel) (frames : List Frame) (u : UnitPath) → IsWalkTable s frames old → Stands (table_paths old) top.unit u
    → false ≡ has_number (bodies_of s u) d.body.n) → IsWalkStep top old new r
unfolding walking_grown
arrived_clone top old mid new r d c n a over e is g i f h s below w =
    let q = reached_end a (none_to_go top.rest.now over) w.frame.reached in
    let y = walking_met top old d f s below w in
    let z = h s (below ++ top ∷ []) w.from w.table w.frame.unit in
    let o : c.owner ≡ Some top.unit = ap (λ c. c.owner) is in
    let named = clone_ends q.is (whole q)
    (subst (λ b. has_number (bodies_of s w.from) b ≡ false) (sym y.body) (sym z)) in
    let lv = level_same top.name.n (body_of s w.here) d.body.n (set_at_of w.here) (option_map site_of d.set_at) y.body
    (set_at_same (set_at_of w.here) d.set_at y.set_at) ∙ ap unit_level (sym is) in
    let ends = subst (λ l. NameEnds s (suc (q.height + 0)) w.from top.name.n (kind_at s w.from top.name.n)
    (Some (l ∷ w.from))) lv named in
    let v = walking_grown w.from w g o w.frame.unit in
    let k = answered (ToUnit n) r v e i
    (record {
      path = unit_level c ∷ w.from;
      stands = grown_stands w.from g o w.frame.unit;
      height = suc (q.height + 0);
      ends = ends;
    }) in
    record { after = k.after; extends = extends_both (grown_extends w.from g o w.frame.unit) k.extends }

pub clone_weighs : (top : Frame) {old mid new : Table} {d : Met} {n a x : ℕ} {c : Known} (r : Step) → r ≡ Done
    → IsGrown old mid d n → IsEntrySet mid new a x c 0 → Weighs top old new r
clone_weighs top {old = old} {mid = mid} {new = new} r e g i = subst (λ r. Weighs top old new r) (sym e) (let h = set_weight i in let k : weight mid ≡ weight old = ap (λ n. (16777216 - n) * 2 ^ 65) g.count in omega (arith, h, k))

pub none_some : {A : Type 0} (x : A) → None ≡ Some x → ⊥
none_some x e = cc

pub if_ok : {T E : Type 0} (r : Result T E) {P Q : T → Type 0} → ((x : T) → P x → Q x) → IfOk r P → IfOk r Q
if_ok (Ok x) k h = k x h
if_ok (Err e) k h = tt

waits_of : {s : RootedModel} {paths : List UnitPath} {f : Frame} {u v : UnitPath} {y : ℕ} (more : List ℕ)
    → IsFrame s paths f u v → numbers f.rest.now ≡ y ∷ more → Waits s u f.name.n v y
waits_of {s = s} {f = f} {u = u} {v = v} more i e =
    record {
      is_clone = f.is_clone;
      more = more;
      reached = subst (λ xs. Reached s u f.name.n f.is_clone v xs) e i.reached;
    }

nothing_waits : {s : RootedModel} {u v : UnitPath} {x y n : ℕ} → Waits s u x v y → NameEnds s n v y (kind_at s v y) None
    → EndsNowhere s u x
nothing_waits {s = s} {u = u} {n = n} w d =
    let r = w.reached in
    record {
      height = suc (r.height + n);
      ends = none_ends r.is (subst (λ xs. NamesEnd s (r.height + n) (start_of r.path.start u) xs None) (sym r.names)
          (runs_on r.ran (stops d)));
    }

-- the next name is nothing
pub next_nothing : (s : RootedModel) (below : List Frame) (top : Frame) (old new : Table) (y : ℕ) (more : List ℕ)
    (r : Step) → (w : IsWalking s below top old) → numbers top.rest.now ≡ y ∷ more → r ≡ Done
    → IsEntrySet old new top.unit top.name.n Nothing 0 → EndsNowhere s w.here y → StepsFrom s below top old new r
next_nothing s below top old new y more r w e d i n =
    answered Nothing r w d i (nothing_waits (waits_of more w.frame e) n.ends)

-- the next name is a statement that loops
pub next_loops : (s : RootedModel) (below : List Frame) (top : Frame) (old new : Table) (y : ℕ) (more : List ℕ)
    (r : Step) → (w : IsWalking s below top old) → numbers top.rest.now ≡ y ∷ more → r ≡ Done
    → IsEntrySet old new top.unit top.name.n Loops 0 → NeverEnds s w.here y → StepsFrom s below top old new r
next_loops s below top old new y more r w e d i n = answered Loops r w d i (waits_doomed (waits_of more w.frame e) n)

-- a statement that waits, and leads to the end of the chain
record Led (s : RootedModel) (w : UnitPath) (z : ℕ) (v : UnitPath) (y : ℕ) : Type 0 where
  unit : UnitPath
  name : ℕ
  first : Waits s w z unit name
  rest : Leads s unit name v y

chain_leads : {s : RootedModel} {paths : List UnitPath} {frames : List Frame} {v w : UnitPath} {y : ℕ} (a z : ℕ)
    → Chain s paths frames v y → HasFrame frames a z → Stands paths a w → Led s w z v y
chain_leads a z bottom h k = absurd h
chain_leads {s = s} {paths = paths} {v = v} {w = w} {y = y} a z
    (above {below = below} {f = f} {u = u} {more = more} e i r c) h k =
    elim (has_split below f a z (subst (λ fs. HasFrame fs a z) e h)) [
      | inl j ↦ let l = chain_leads a z c j k in record { unit = l.unit; name = l.name; first = l.first; rest = leads_on l.rest (waits_of more i r) }
      | inr j ↦ let g : u ≡ w = stands_one paths a u w (subst (λ a. Stands paths a u) j.0 i.unit) k in
          let P : UnitPath → ℕ → Type 0 = λ u x. Waits s u x v y in
          record {
            unit = v;
            name = y;
            first = subst (λ u. P u z) g (subst (λ x. P u x) j.1 (waits_of more i r));
            rest = here;
          }
    ]

-- the next name is a statement that is being followed
pub next_following : (s : RootedModel) (below : List Frame) (top : Frame) (old new : Table) (y : ℕ) (more : List ℕ)
    (r : Step) → (w : IsWalking s below top old) → numbers top.rest.now ≡ y ∷ more → r ≡ Done
    → IsEntrySet old new top.unit top.name.n Loops 0 → HasFrame (below ++ top ∷ []) top.at y → StepsFrom s below top old new r
next_following s below top old new y more r w e d i n =
    let l = chain_leads top.at y (above refl w.frame e w.chain) n w.frame.at in
    next_loops s below top old new y more r w e d i (cycle_doomed l.first l.rest)

-- the next name is a unit
pub next_unit : (s : RootedModel) (below : List Frame) (top next : Frame) (t : Table) (y : ℕ) (more : List ℕ)
    → (w : IsWalking s below top t) → numbers top.rest.now ≡ y ∷ more
    → next.unit ≡ top.unit → next.name.n ≡ top.name.n → next.is_clone ≡ top.is_clone → numbers next.rest.now ≡ more
    → next.start ≡ top.start → EndsAt s (table_paths t) w.here y next.at → StepsFrom s below top t t (On next)
next_unit s below top next t y more w e a b c d o i = record {
  after = record {
    from = w.from;
    here = i.path;
    frame = record {
      unit = subst (λ n. Stands (table_paths t) n w.from) (sym a) w.frame.unit;
      at = i.stands;
      reached = moved;
      start = λ p n g is. w.frame.start p n (sym o ∙ g)
          (subst (λ x. IsStatement p top.is_clone (kind_at s w.from x)) b
          (subst (λ z. IsStatement p z (kind_at s w.from next.name.n)) c is));
    };
    chain = subst (λ x. Chain s (table_paths t) below w.from x) (sym b) w.chain;
    table = record {
      main = w.table.main;
      units = w.table.units;
      within = w.table.within;
      ends = w.table.ends;
      known = λ n x c u p q. means_frames s (table_paths t) u n x (below ++ top ∷ []) (below ++ next ∷ []) c
          (frame_kept below top next a b n x) (w.table.known n x c u p q);
    };
  };
  extends = extends_none t;
}
  where
    r : Reached s w.from top.name.n top.is_clone w.here (y ∷ more)
    r = subst (λ xs. Reached s w.from top.name.n top.is_clone w.here xs) e w.frame.reached

    step_on : Reached s w.from top.name.n top.is_clone i.path more
    step_on = record {
      path = r.path;
      is = r.is;
      before = r.before ++ y ∷ [];
      height = r.height + i.height;
      names = r.names ∙ sym (append_assoc r.before (y ∷ []) more);
      ran = runs_on r.ran (on i.height 0 i.path i.ends arrives (omega arith));
    }

    moved : Reached s w.from next.name.n next.is_clone i.path (numbers next.rest.now)
    moved =
        let P : ℕ → Bool → List ℕ → Type 0 = λ x b xs. Reached s w.from x b i.path xs in
        subst (λ x. P x next.is_clone (numbers next.rest.now)) (sym b)
        (subst (λ z. P top.name.n z (numbers next.rest.now)) (sym c)
        (subst (λ xs. P top.name.n top.is_clone xs) (sym d) step_on))

-- What is found for the next name

pub unitless : (k : MemberKind) → may_be_unit k ≡ false → is_unitless k ≡ true
unitless (Inner b s) e = cc
unitless (Clone p) e = cc
unitless (Alias p) e = cc
unitless (Variable t s) e = refl
unitless (Parameter t v) e = refl
unitless Kept e = refl
unitless Event e = refl
unitless (Observer t v) e = refl

pub looked_none : {s : RootedModel} {u : UnitPath} {x : ℕ} (k : Option MemberKind) → IsLookedUp None k
    → NameEnds s 0 u x k None
looked_none (Some k) (l.no_unit e) = no_unit (unitless k e)
looked_none None l.absent = absent

inner_same : {s : RootedModel} {u : UnitPath} {x b : ℕ} {z : Option Site} (c : ℕ) (y : Option Site) → c ≡ b → y ≡ z
    → NameEnds s 0 u x (Some (Inner b z)) (Some (record { name = x; body = c; set_at = y } ∷ u))
inner_same {s = s} {u = u} {x = x} {b = b} {z = z} c y p q =
    subst (λ l. NameEnds s 0 u x (Some (Inner b z)) (Some (l ∷ u))) (level_same x b c z y (sym p) (sym q)) inner

pub looked_inner : {s : RootedModel} {u : UnitPath} {x : ℕ} {id : BodyId} {at : Option (BodyId × ℕ)}
    {k : Option MemberKind} → IsLookedUp (Some (form.Inner id at)) k
    → NameEnds s 0 u x k (Some (record { name = x; body = id.n; set_at = option_map site_of at } ∷ u))
looked_inner {id = id} {at = at} (l.is (l.inner p q)) = inner_same id.n (option_map site_of at) p q

pub looked_clone : {p : Bor Path} {k : Option MemberKind} → IsLookedUp (Some (form.Clone p)) k
    → IsStatement p.now true k
looked_clone (l.is (l.clone {p = q} e)) = subst (λ z. IsStatement z true (Some (Clone q))) (sym e) clone

pub looked_alias : {p : Bor Path} {k : Option MemberKind} → IsLookedUp (Some (form.Alias p)) k
    → IsStatement p.now false k
looked_alias (l.is (l.alias {p = q} e)) = subst (λ z. IsStatement z false (Some (Alias q))) (sym e) alias

pub entered_level : (a : ℕ) (name : NameId) (body : BodyId) (at : Option (BodyId × ℕ)) (d : Met)
    → d ≡ record { owner = Some a; name = name; body = body; set_at = at }
    → (d.owner ≡ Some a) × (d.name.n ≡ name.n)
    × (◌≡◌ {A = UnitLevel} (unit_level d) (record { name = name.n; body = body.n; set_at = option_map site_of at }))
entered_level a name body at d e = (ap (λ d. d.owner) e, ap (λ d. d.name.n) e, ap unit_level e)

-- the next name is a unit that was not met yet
pub next_entered : (s : RootedModel) (below : List Frame) (top : Frame) (old new : Table) (d : Met) (n : ℕ)
    (more : List ℕ) → (w : IsWalking s below top old) → d.owner ≡ Some top.at → IsEntered old new top.at d n
    → NameEnds s 0 w.here d.name.n (kind_at s w.here d.name.n) (Some (unit_level d ∷ w.here))
    → StepsFrom s below top old new (On top)
unfolding walking_grown
next_entered s below top old new d n more w o i e =
    let g = walking_grown w.here w i.grown o w.frame.at in
    let wide = grown_wide w.here i.grown o w.frame.at in
    record {
      after = walking_set w.here g i.set (wide.keeps top.at w.here w.frame.at)
          (record {
            path = unit_level d ∷ w.here;
            stands = grown_stands w.here i.grown o w.frame.at;
            height = 0;
            ends = e;
          });
      extends = extends_both (grown_extends w.here i.grown o w.frame.at) (set_extends i.set);
    }

-- what the forms have of the next name
module _ (forms : Forms) (top : Frame) (old : Table) (d : Met) (y : ℕ)
    (e : Some d ≡ slice_get old.units.items top.at) where
  looked : (o : Option UnitForm) → o ≡ form_at forms d.body.n y → (s : RootedModel) (below : List Frame)
      → IsFormsFor s forms → (w : IsWalking s below top old) → IsLookedUp o (kind_at s w.here y)
  looked o g s below f w =
      let m = walking_met top old d e s below w in
      let h : IsLookedUp (form_at forms d.body.n y) (member_kind_in s d.body.n y) = looked_up s forms f d.body.n y in
      subst (λ o. IsLookedUp o (kind_at s w.here y)) (sym g)
      (subst (λ b. IsLookedUp (form_at forms d.body.n y) (member_kind_in s b y)) (sym m.body) h)

  pub look_absent : (new : Table) (r : Step) → None ≡ form_at forms d.body.n y → r ≡ Done
      → IsEntrySet old new top.unit top.name.n Nothing 0 → IsNameStep forms top y old new r
  look_absent new r g q i s below more f w k =
      next_nothing s below top old new y more r w k q i
      (record { height = 0; ends = looked_none (kind_at s w.here y) (looked None g s below f w) })

  pub look_inner : (new : Table) (c : Met) (n : ℕ) (name : NameId) (id : BodyId) (at : Option (BodyId × ℕ)) → name.n ≡ y
      → Some (form.Inner id at) ≡ form_at forms d.body.n y
      → c ≡ record { owner = Some top.at; name = name; body = id; set_at = at } → IsEntered old new top.at c n
      → IsNameStep forms top y old new (On top)
  look_inner new c n name id at z g q i s below more f w k =
      let v = entered_level top.at name id at c q in
      let h = looked_inner {s = s} {u = w.here} {x = y} (looked (Some (form.Inner id at)) g s below f w) in
      let lv : record { name = y; body = id.n; set_at = option_map site_of at } ≡ unit_level c =
      ap (λ x. record { name = x; body = id.n; set_at = option_map site_of at }) (sym z) ∙ sym v.2 in
      let P : ℕ → UnitLevel → Type 0 = λ x l. NameEnds s 0 w.here x (kind_at s w.here x) (Some (l ∷ w.here)) in
      next_entered s below top old new c n more w v.0 i
      (subst (λ x. P x (unit_level c)) (sym z ∙ sym v.1) (subst (λ l. P y l) lv h))

  pub look_clone : (new : Table) (r : Step) (p : Bor Path) → Some (form.Clone p) ≡ form_at forms d.body.n y
      → IsStatementStep top y true p.now old new r → IsNameStep forms top y old new r
  look_clone new r p g i s below more f w k =
      i s below more w k (looked_clone (looked (Some (form.Clone p)) g s below f w))

  pub look_alias : (new : Table) (r : Step) (p : Bor Path) → Some (form.Alias p) ≡ form_at forms d.body.n y
      → IsStatementStep top y false p.now old new r → IsNameStep forms top y old new r
  look_alias new r p g i s below more f w k =
      i s below more w k (looked_alias (looked (Some (form.Alias p)) g s below f w))

-- the statement's path starts nowhere
pub follow_nowhere : (top : Frame) (old new : Table) (y : ℕ) (z : Bool) (p : Path) → IsEntrySet old new top.at y Nothing 1
    → ((s : RootedModel) (frames : List Frame) (u : UnitPath) → IsWalkTable s frames old → Stands (table_paths old) top.at u
    → StandsIf (table_paths old) None (start_of p.start u)) → IsStatementStep top y z p old new (On top)
follow_nowhere top old new y z p i f s below more w k j =
    let e = starts_none (table_paths old) (start_of p.start w.here) (f s (below ++ top ∷ []) w.here w.table w.frame.at) in
    record {
      after = walking_set w.here w i w.frame.at
          (record {
            height = 1;
            ends = none_ends j
                (subst (λ o. NamesEnd s 0 o (numbers p.names.items) None) (sym e) nowhere);
          });
      extends = set_extends i;
    }

-- the path of a statement is one
one_path : {p q : Path} {a b : Bool} {k : Option MemberKind} → IsStatement p a k → IsStatement q b k → p ≡ q
one_path clone clone = refl
one_path alias alias = refl

-- where the walk of a statement begins
module _ (s : RootedModel) (frames : List Frame) (t : Table) (k : IsWalkTable s frames t) (f : Frame) (u : UnitPath)
    (p : Path) (i : IsAtStart s (table_paths t) f u p) where
  from_start : (v : UnitPath) × (start_of p.start u ≡ Some v) × Stands (table_paths t) f.at v
  from_start = starts_some (table_paths t) f.at (start_of p.start u) i.at

  first_reached : Reached s u f.name.n f.is_clone from_start.0 (numbers f.rest.now)
  first_reached = record {
    path = p;
    is = i.is;
    before = [];
    height = 0;
    names = sym (ap numbers i.names);
    ran = subst (λ o. NamesEnd s 0 o [] (Some from_start.0)) (sym from_start.1) arrives;
  }

  pub begins_first : (v : UnitPath) × IsFrame s (table_paths t) f u v
  begins_first = (
    from_start.0,
    record {
      unit = i.unit;
      at = from_start.2;
      reached = first_reached;
      start = λ q a e is. absurd (none_some a (sym i.fresh ∙ e));
    },
  )

  pub begins_long : (v : UnitPath) × IsFrame s (table_paths t) (record {
    unit = f.unit;
    name = f.name;
    is_clone = f.is_clone;
    at = f.at;
    rest = f.rest;
    start = Some f.at;
  }) u v
  begins_long = (
    from_start.0,
    record {
      unit = i.unit;
      at = from_start.2;
      reached = first_reached;
      start = λ q a e is. subst (λ q. StandsIf (table_paths t) (Some a) (start_of q.start u)) (one_path i.is is)
          (subst (λ a. StandsIf (table_paths t) (Some a) (start_of p.start u)) (same_Some _ _ e) i.at);
    },
  )

  pub begins_far : (d : Met) (n : Reach) (g : Frame) → Some d ≡ slice_get t.units.items f.unit
      → Some n ≡ end_at t d.body.n f.name.n f.at → g.unit ≡ f.unit → g.name ≡ f.name → g.is_clone ≡ f.is_clone
      → g.at ≡ n.unit
      → ((before rest : List ℕ) → numbers f.rest.now ≡ before ++ rest → length rest ≡ n.rest
      → numbers g.rest.now ≡ rest)
      → g.start ≡ None → (v : UnitPath) × IsFrame s (table_paths t) g u v
  begins_far d n g e h a b c j over fresh =
      let m = met_there s frames t k f.unit u d i.unit e in
      let q = k.ends d.body.n f.name.n f.at n (sym h) in
      let is : IsStatement q.path q.is_clone (member_kind_in s (body_of s u) f.name.n) =
      subst (λ b. IsStatement q.path q.is_clone (member_kind_in s b f.name.n)) (sym m.body) q.is in
      let same : q.path ≡ p = one_path is i.is in
      let first : q.first ≡ from_start.0 = stands_one (table_paths t) f.at q.first from_start.0 q.starts from_start.2 in
      let P : ℕ → Bool → List ℕ → Type 0 = λ x z xs. Reached s u x z q.last xs in
      let names : numbers p.names.items ≡ q.before ++ q.rest = ap (λ (p : Path). numbers p.names.items) (sym same) ∙ q.names in
      let to_go : numbers g.rest.now ≡ q.rest = over q.before q.rest (ap numbers i.names ∙ names) q.to_go in
      let reached : P f.name.n f.is_clone q.rest = record {
        path = p;
        is = i.is;
        before = q.before;
        height = q.height;
        names = names;
        ran = subst (λ o. NamesEnd s q.height o q.before (Some q.last)) (ap Some first ∙ sym from_start.1) q.ends;
      } in (
        q.last,
        record {
          unit = subst (λ n. Stands (table_paths t) n u) (sym a) i.unit;
          at = subst (λ n. Stands (table_paths t) n q.last) (sym j) q.stands;
          reached = subst (λ x. P x g.is_clone (numbers g.rest.now)) (sym (ap (λ (x : NameId). x.n) b))
              (subst (λ z. P f.name.n z (numbers g.rest.now)) (sym c)
              (subst (λ xs. P f.name.n f.is_clone xs) (sym to_go) reached));
          start = λ q a e is. absurd (none_some a (sym fresh ∙ e));
        },
      )

pub follow_into : (top first next : Frame) (old new : Table) (y : ℕ) (z : Bool) (p : Path)
    → IsEntrySet old new top.at y Following 1
    → ((s : RootedModel) (frames : List Frame) (u : UnitPath) → IsWalkTable s frames old → Stands (table_paths old) top.at u
    → StandsIf (table_paths old) (Some first.at) (start_of p.start u))
    → first.unit ≡ top.at → first.name.n ≡ y → first.is_clone ≡ z → first.rest.now ≡ p.names.items
    → first.start ≡ None
    → ((s : RootedModel) (frames : List Frame) (u : UnitPath) (p : Path) → IsWalkTable s frames old
    → IsAtStart s (table_paths old) first u p → (v : UnitPath) × IsFrame s (table_paths old) next u v)
    → next.unit ≡ first.unit → next.name ≡ first.name → IsStatementStep top y z p old new (Into next)
follow_into top first next old new y z p i f a b c d e g unit name s below more w k j =
    let P : ℕ → Bool → Type 0 = λ x z. IsStatement p z (kind_at s w.here x) in
    let at : IsAtStart s (table_paths old) first w.here p = record {
      unit = subst (λ n. Stands (table_paths old) n w.here) (sym a) w.frame.at;
      is = subst (λ x. P x first.is_clone) (sym b) (subst (λ z. P y z) (sym c) j);
      at = f s (below ++ top ∷ []) w.here w.table w.frame.at;
      names = d;
      fresh = e;
    } in
    let v = g s (below ++ top ∷ []) w.here p w.table at in
    let wide = set_wide i in
    let named : next.name.n ≡ y = ap (λ (x : NameId). x.n) name ∙ b in
    record {
      after = record {
        from = w.here;
        here = v.0;
        frame = frame_wide wide v.1;
        chain = subst (λ x. Chain s (table_paths new) (below ++ top ∷ []) w.here x) (sym named)
            (above refl (frame_wide wide w.frame) k (chain_wide wide w.chain));
        table = table_set (below ++ top ∷ []) ((below ++ top ∷ []) ++ next ∷ []) w.table i w.frame.at
            (has_last (below ++ top ∷ []) next top.at y (unit ∙ a) named)
            (λ n x q h. has_more (below ++ top ∷ []) next n x h);
      };
      extends = set_extends i;
    }

-- what the table has of the next name
module _ (s : RootedModel) (below : List Frame) (top : Frame) (old : Table) (y : ℕ) (more : List ℕ)
    (w : IsWalking s below top old) (k : numbers top.rest.now ≡ y ∷ more) where
  entry_means : (c : Known) → known_at old top.at y ≡ Some c
      → EntryMeans s (table_paths old) (below ++ top ∷ []) top.at w.here y c
  entry_means c e = w.table.known top.at y c w.here w.frame.at e

  pub step_unit : (next : Frame) → known_at old top.at y ≡ Some (ToUnit next.at) → next.unit ≡ top.unit
      → next.name.n ≡ top.name.n → next.is_clone ≡ top.is_clone → numbers next.rest.now ≡ more
      → next.start ≡ top.start → StepsFrom s below top old old (On next)
  step_unit next e a b c d o = next_unit s below top next old y more w k a b c d o (entry_means (ToUnit next.at) e)

  pub step_nothing : (new : Table) (r : Step) → known_at old top.at y ≡ Some Nothing → r ≡ Done
      → IsEntrySet old new top.unit top.name.n Nothing 0 → StepsFrom s below top old new r
  step_nothing new r e d i = next_nothing s below top old new y more r w k d i (entry_means Nothing e)

  pub step_loops : (new : Table) (r : Step) → known_at old top.at y ≡ Some Loops → r ≡ Done
      → IsEntrySet old new top.unit top.name.n Loops 0 → StepsFrom s below top old new r
  step_loops new r e d i = next_loops s below top old new y more r w k d i (entry_means Loops e)

  pub step_following : (new : Table) (r : Step) → known_at old top.at y ≡ Some Following → r ≡ Done
      → IsEntrySet old new top.unit top.name.n Loops 0 → StepsFrom s below top old new r
  step_following new r e d i = next_following s below top old new y more r w k d i (entry_means Following e)
