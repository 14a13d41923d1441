-- Walks without an end loop.
use Rattle.std.proofs.Common.{◌≡◌, ◌<◌, ◌+◌, ◌++◌, ℕ, suc, Bool, true, false, List, [], ◌∷◌, Option, Some, None, refl, sym, subst, arith}
use Rattle.std.proofs.lemmas.Option.{same_Some}
use Rattle.ar_syntax.specs.declared.paths.Path.{Path}
use Rattle.class_table.specs.Members.{MemberKind}
use Rattle.hierarchy.specs.Models.{RootedModel}
use Rattle.hierarchy.specs.Units.{UnitPath, Thing, start_of, body_of, bodies_of, has_number, is_among, kind_at, numbers}
use Rattle.hierarchy.specs.Walks.{WalkOutcome, Reaches, Loops, NameLeads, NamesLead, thing, cloned}
use Rattle.hierarchy.specs.Walks as g
use Rattle.unit_walks.specs.Ends.{NameEnds, NamesEnd, AreEndless, NeverEnds, Reached, IsStatement, clone, alias, clones, clones_none, embeds, no_unit, arrives, on, stops}
use Rattle.unit_walks.proofs.EndsLead.{ends_same, runs_same, endless_more, higher_endless, among_first, among_more, runs_goes}

-- a front of a run, and the rest
pub runs_on : {s : RootedModel} {n k : ℕ} {u : Option UnitPath} {v : UnitPath} {xs ys : List ℕ} {o : Option UnitPath}
    → NamesEnd s n u xs (Some v) → NamesEnd s k (Some v) ys o → NamesEnd s (n + k) u (xs ++ ys) o
runs_on {s = s} {k = k} {v = v} {ys = ys} {o = o} arrives r = let e : k ≡ 0 + k = omega arith in subst (λ n. NamesEnd s n (Some v) ys o) e r
runs_on {k = k'} (on n k w d r e) q = on n (k + k') w d (runs_on r q) (omega arith)

-- a run goes on from where a front of it has come to
pub record Rest (s : RootedModel) (n : ℕ) (v : UnitPath) (ys : List ℕ) (o : Option UnitPath) (m : ℕ) : Type 0 where
  pub height : ℕ
  pub total : m ≡ n + height
  pub run : NamesEnd s height (Some v) ys o

pub runs_rest : {s : RootedModel} {n m : ℕ} {u : Option UnitPath} {v : UnitPath} {xs : List ℕ} (ys : List ℕ)
    {o : Option UnitPath} → NamesEnd s n u xs (Some v) → NamesEnd s m u (xs ++ ys) o → Rest s n v ys o m
runs_rest {m = m} ys arrives r = record { height = m; total = omega arith; run = r }
runs_rest {s = s} {xs = x ∷ xs} ys {o = o} (on n k w d r e) (on n' k' w' d' r' e') =
    let a = ends_same d d' in
    let b = runs_rest ys r (subst (λ z. NamesEnd s k' z (xs ++ ys) o) (sym a.1) r') in
    let h = b.total in let i = a.0 in
    record { height = b.height; total = omega arith; run = b.run }
runs_rest ys (on n k w d r e) (stops d') = absurd (cc (ends_same d d').1)

pub goes_on : {s : RootedModel} {f : List Thing} {u : Option UnitPath} {v : UnitPath} {xs ys : List ℕ} {o : WalkOutcome}
    → NamesLead s f u xs (Reaches v) → NamesLead s f (Some v) ys o → NamesLead s f u (xs ++ ys) o
goes_on g.arrives r = r
goes_on (g.on w d r) q = g.on w d (goes_on r q)

-- the walk of a statement that ends is the run of its path
pub record Path_run (s : RootedModel) (p : Path) (u : UnitPath) (n : ℕ) : Type 0 where
  pub height : ℕ
  pub below : height < n
  pub end : Option UnitPath
  pub run : NamesEnd s height (start_of p.start u) (numbers p.names.items) end

path_run : {s : RootedModel} {n : ℕ} {u : UnitPath} {x : ℕ} {m : Option MemberKind} {p : Path} {b : Bool}
    {o : Option UnitPath} → IsStatement p b m → NameEnds s n u x m o → Path_run s p u n
path_run clone (clones {n = n} {t = t} r h) = record { height = n; below = omega arith; end = Some t; run = r }
path_run clone (no_unit y) = cc
path_run clone (clones_none {n = n} r) = record { height = n; below = omega arith; end = None; run = r }
path_run alias (no_unit y) = cc
path_run {o = o} alias (embeds {n = n} r) = record { height = n; below = omega arith; end = o; run = r }

-- the first name of a run ends too
pub record First_end (s : RootedModel) (n : ℕ) (v : UnitPath) (y : ℕ) : Type 0 where
  pub height : ℕ
  pub below : height < n
  pub end : Option UnitPath
  pub ends : NameEnds s height v y (kind_at s v y) end

first_end : {s : RootedModel} {n : ℕ} {v : UnitPath} {y : ℕ} {ys : List ℕ} {o : Option UnitPath}
    → NamesEnd s n (Some v) (y ∷ ys) o → First_end s (suc n) v y
first_end {n = m} (on n k w d r e) = record { height = n; below = omega arith; end = Some w; ends = d }
first_end {n = n} (stops d) = record { height = n; below = omega arith; end = None; ends = d }

-- the statement x in u waits for the name y in v
pub record Waits (s : RootedModel) (u : UnitPath) (x : ℕ) (v : UnitPath) (y : ℕ) : Type 0 where
  pub is_clone : Bool
  pub more : List ℕ
  pub reached : Reached s u x is_clone v (y ∷ more)

-- a statement that ends waits for one that ends lower
pub waits_end : {s : RootedModel} {n : ℕ} {u v : UnitPath} {x y : ℕ} {o : Option UnitPath} → Waits s u x v y
    → NameEnds s n u x (kind_at s u x) o → First_end s n v y
waits_end {s = s} {n = n} {u = u} w d =
    let r = w.reached in
    let p = path_run r.is d in
    let q = runs_rest (_ ∷ w.more) r.ran
    (subst (λ xs. NamesEnd s p.height (start_of r.path.start u) xs p.end) r.names p.run) in
    let e = first_end q.run in
    let h = q.total in let i = p.below in let j = e.below in
    record { height = e.height; below = omega arith; end = e.end; ends = e.ends }

statement_loops : {s : RootedModel} {f : List Thing} {u : UnitPath} {x : ℕ} {p : Path} {b : Bool}
    {m : Option MemberKind} → IsStatement p b m → is_among f (thing u x) ≡ false
    → NamesLead s (thing u x ∷ f) (start_of p.start u) (numbers p.names.items) Loops → NameLeads s f u x m Loops
statement_loops clone n r = g.clones n r refl
statement_loops alias n r = g.embeds n r

statement_again : {s : RootedModel} {f : List Thing} {u : UnitPath} {x : ℕ} {p : Path} {b : Bool}
    {m : Option MemberKind} → IsStatement p b m → is_among f (thing u x) ≡ true → NameLeads s f u x m Loops
statement_again clone n = g.clones_again n
statement_again alias n = g.embeds_again n

-- a statement without an end that waits for one that loops
waits_loop : {s : RootedModel} {u v : UnitPath} {x y : ℕ} (f : List Thing) → Waits s u x v y
    → ((n : ℕ) (o : Option UnitPath) → NameEnds s n u x (kind_at s u x) o → ⊥) → AreEndless s f
    → (AreEndless s (thing u x ∷ f) → NameLeads s (thing u x ∷ f) v y (kind_at s v y) Loops)
    → NameLeads s f u x (kind_at s u x) Loops
waits_loop {s = s} {u = u} {x = x} f w never a next = go (is_among f (thing u x)) refl
  where
    go : (b : Bool) → is_among f (thing u x) ≡ b → NameLeads s f u x (kind_at s u x) Loops
    go true e = statement_again w.reached.is e
    go false e =
        let r = w.reached in
        let more = endless_more a never in
        let front = runs_goes (thing u x ∷ f) r.ran (higher_endless r.height more) in
        statement_loops r.is e (subst (λ xs. NamesLead s (thing u x ∷ f) (start_of r.path.start u) xs Loops)
        (sym r.names)
        (goes_on front (g.loops (next more))))

waits_never : {s : RootedModel} {u v : UnitPath} {x y : ℕ} → Waits s u x v y → NeverEnds s v y
    → (n : ℕ) (o : Option UnitPath) → NameEnds s n u x (kind_at s u x) o → ⊥
waits_never w d n o e = let i = waits_end w e in d.never i.height i.end i.ends

-- a statement that waits for a doomed one is doomed
pub waits_doomed : {s : RootedModel} {u v : UnitPath} {x y : ℕ} → Waits s u x v y → NeverEnds s v y → NeverEnds s u x
waits_doomed {s = s} {u = u} {x = x} w d =
    record { never = waits_never w d; loops = λ f a. waits_loop f w (waits_never w d) a (d.loops (thing u x ∷ f)) }

-- a chain of statements, each of which waits for the next
pub data Leads (s : RootedModel) : UnitPath → ℕ → UnitPath → ℕ → Type 0 where
  here : {u : UnitPath} {x : ℕ} → Leads s u x u x
  waits : {u v w : UnitPath} {x y z : ℕ} → Waits s u x v y → Leads s v y w z → Leads s u x w z

pub leads_on : {s : RootedModel} {u v w : UnitPath} {x y z : ℕ} → Leads s u x v y → Waits s v y w z → Leads s u x w z
leads_on here w = waits w here
leads_on (waits v l) w = waits v (leads_on l w)

leads_end : {s : RootedModel} {u v : UnitPath} {x y : ℕ} → Leads s u x v y → (n : ℕ) (o : Option UnitPath)
    → NameEnds s n u x (kind_at s u x) o → First_end s (suc n) v y
leads_end here n o d = record { height = n; below = omega arith; end = o; ends = d }
leads_end (waits w l) n o d =
    let i = waits_end w d in let j = leads_end l i.height i.end i.ends in
    let h = i.below in let k = j.below in
    record { height = j.height; below = omega arith; end = j.end; ends = j.ends }

leads_never : {s : RootedModel} {u v : UnitPath} {x y : ℕ} → Leads s u x v y
    → ((n : ℕ) (o : Option UnitPath) → NameEnds s n v y (kind_at s v y) o → ⊥) → (n : ℕ) (o : Option UnitPath)
    → NameEnds s n u x (kind_at s u x) o → ⊥
leads_never l never n o e = let j = leads_end l n o e in never j.height j.end j.ends

leads_loop : {s : RootedModel} {u v w : UnitPath} {x y z : ℕ} → Leads s u x v y → (f : List Thing)
    → ((n : ℕ) (o : Option UnitPath) → NameEnds s n v y (kind_at s v y) o → ⊥) → AreEndless s f
    → is_among f (thing v y) ≡ true → Waits s v y w z → NameLeads s f u x (kind_at s u x) Loops
leads_loop here f never a e w = statement_again w.reached.is e
leads_loop {s = s} {u = u} {v = v} {x = x} {y = y} (waits k l) f never a e w =
    waits_loop f k (leads_never (waits k l) never) a
    (λ more. leads_loop l (thing u x ∷ f) never more (among_more f (thing u x) (thing v y) e) w)

cycle_never : {s : RootedModel} {u v : UnitPath} {x y : ℕ} → Waits s u x v y → Leads s v y u x
    → (n : ℕ) (o : Option UnitPath) → NameEnds s n u x (kind_at s u x) o → ⊥
cycle_never w l n o e =
    let i = waits_end w e in let j = leads_end l i.height i.end i.ends in
    let q = (ends_same e j.ends).0 in let h = i.below in let k = j.below in omega arith

-- a statement that waits for one that leads back to it is doomed
pub cycle_doomed : {s : RootedModel} {u v : UnitPath} {x y : ℕ} → Waits s u x v y → Leads s v y u x → NeverEnds s u x
cycle_doomed {s = s} {u = u} {x = x} w l = record {
  never = cycle_never w l;
  loops = λ f a. waits_loop f w (cycle_never w l) a
      (λ more. leads_loop l (thing u x ∷ f) (cycle_never w l) more (among_first f (thing u x)) w);
}

cloned_loops : (s : RootedModel) (u t : UnitPath) (x : ℕ) → has_number (bodies_of s u) (body_of s t) ≡ true
    → Loops ≡ cloned s u x (Reaches t)
cloned_loops s u t x h = rw h refl

-- a clone of a unit that has the body of a unit above it
clone_never : {s : RootedModel} {u t : UnitPath} {x h : ℕ} {p : Path} {m : Option MemberKind} → IsStatement p true m
    → NamesEnd s h (start_of p.start u) (numbers p.names.items) (Some t)
    → has_number (bodies_of s u) (body_of s t) ≡ true
    → (n : ℕ) (o : Option UnitPath) → NameEnds s n u x m o → ⊥
clone_never clone r h n o (clones {t = t} q k) = let e = same_Some _ _ (runs_same r q).1 in cc
clone_never clone r h n o (clones_none q) = cc (runs_same r q).1
clone_never clone r h n o (no_unit y) = cc

clone_loops : {s : RootedModel} {f : List Thing} {u t : UnitPath} {x : ℕ} {p : Path} {m : Option MemberKind}
    → IsStatement p true m → is_among f (thing u x) ≡ false
    → NamesLead s (thing u x ∷ f) (start_of p.start u) (numbers p.names.items) (Reaches t)
    → has_number (bodies_of s u) (body_of s t) ≡ true → NameLeads s f u x m Loops
clone_loops {s = s} {u = u} {t = t} {x = x} clone n r h = g.clones n r (cloned_loops s u t x h)

pub above_doomed : {s : RootedModel} {u t : UnitPath} {x : ℕ} → Reached s u x true t []
    → has_number (bodies_of s u) (body_of s t) ≡ true → NeverEnds s u x
above_doomed {s = s} {u = u} {t = t} {x = x} r h =
    record { never = never; loops = λ f a. go f a (is_among f (thing u x)) refl }
  where
    whole : NamesEnd s (r.height + 0) (start_of r.path.start u) (numbers r.path.names.items) (Some t)
    whole = subst (λ xs. NamesEnd s (r.height + 0) (start_of r.path.start u) xs (Some t)) (sym r.names)
        (runs_on r.ran arrives)

    never : (n : ℕ) (o : Option UnitPath) → NameEnds s n u x (kind_at s u x) o → ⊥
    never = clone_never r.is whole h

    go : (f : List Thing) → AreEndless s f → (b : Bool) → is_among f (thing u x) ≡ b
        → NameLeads s f u x (kind_at s u x) Loops
    go f a true e = statement_again r.is e
    go f a false e = clone_loops r.is e
        (runs_goes (thing u x ∷ f) whole (higher_endless (r.height + 0) (endless_more a never))) h
