-- Bodies that are laid one after the other.
use Rattle.std.proofs.Common.{◌≡◌, ℕ, ◌+◌, ◌<◌, List, [], ◌∷◌, ◌++◌, length, set, get_or, Vec, false, refl, sym, ◌∙◌, ap, subst, arith, append_assoc, length-append}
use Rattle.std.proofs.lemmas.List.{append-nil}
use Rattle.std.specs.Global.{Global}
use Rattle.ar_base.specs.Lists.{Along, none as along_none, one_and as along_and}
use Rattle.ar_base.specs.Numbers.{NameId, BodyId}
use Rattle.ar_base.specs.declared.places.Place.{Place}
use Rattle.ar_base.proofs.Standing.{along_length}
use Rattle.ar_syntax.specs.declared.members.Member.{Member, out-Member, roll-Member, roll-out-Member}
use Rattle.ar_syntax.specs.declared.members.Member.TheOpen as member
use Rattle.ar_syntax.specs.declared.members.Member.TheViews as view
use Rattle.ar_syntax.specs.declared.members.Unit.{Unit as UnitTree}
use Rattle.class_table.proofs.Taken.{set_between, get_between}
use Rattle.class_table.specs.Declaring.{MemberForm, TextBody, is_block, Lays, Lays_one, none, one_and, plain, block}
use Rattle.class_table.specs.TablesInside.{IsBodyOf}
use Rattle.class_table.specs.Laying.{LaysUnit, LaysMember, AddsMember, KeepsOwn}
use Rattle.class_table.specs.declared.tables.Body.{Body}
use Rattle.class_table.specs.declared.tables.Owned.{Owned}
use Rattle.class_table.specs.declared.tables.Owned.TheVariants.{Plain, Nested}

-- items related one after the other
pub along_append : {A B : Type 0} {R : A → B → Type 0} (xs : List A) (ys : List B) (us : List A) (vs : List B)
    → Along R xs ys → Along R us vs → Along R (xs ++ us) (ys ++ vs)
along_append xs ys us vs along_none k = k
along_append xs ys us vs (along_and {xs = as1} {ys = bs} r h) k = along_and r (along_append as1 bs us vs h k)

-- members laid after others
pub lays_append : (n m : ℕ) (ms ns : List Member) (os ps : List Owned) (bs cs : List TextBody) → m ≡ n + length bs
    → Lays n ms os bs → Lays m ns ps cs → Lays n (ms ++ ns) (os ++ ps) (bs ++ cs)
lays_append n m ms ns os ps bs cs e none k = let i : m ≡ n = omega (arith, e) in subst (λ (z : ℕ). Lays z ns ps cs) i k
lays_append n m ms ns os ps bs cs e (one_and {m = x} {ms = xs} {o = o} {os = qs} {bs = ds} {cs = es} h r) k =
    let i : m ≡ (n + length ds) + length es = let l = length-append ds es in omega (arith, e, l) in
    let rest = lays_append (n + length ds) m xs ns qs ps es cs i r k in
    subst (Lays n (x ∷ xs ++ ns) (o ∷ qs ++ ps)) (sym (append_assoc ds es cs)) (one_and h rest)

-- the bodies of a unit so far: its own one, whose members come last, and those of the blocks in it
pub record LaysSoFar (name : NameId) (at : Place) (ms : List Member) (own : List Owned) (old new : List Body) : Type
    0 where
  pub head : Body
  pub has_name : head.name ≡ name
  pub has_place : head.at ≡ at
  pub rest : List Body
  pub inner : List TextBody
  pub joined : new ≡ old ++ head ∷ rest
  pub as_text : Along IsBodyOf rest inner
  pub lays : Lays (length old + 1) ms own inner

pub so_far_start : (name : NameId) (at : Place) (own : List Owned) (old new : List Body) (b : Body) → own ≡ []
    → b.name ≡ name → b.at ≡ at → new ≡ old ++ b ∷ [] → LaysSoFar name at [] own old new
so_far_start name at own old new b e f g h = record {
  head = b;
  has_name = f;
  has_place = g;
  rest = [];
  inner = [];
  joined = h;
  as_text = along_none;
  lays = subst (λ (os : List Owned). Lays (length old + 1) [] os []) (sym e) none;
}

pub so_far_next : (name : NameId) (at : Place) (ms : List Member) (own own' : List Owned) (old mid new : List Body)
    (m : Member) (o : Owned) → own' ≡ own ++ o ∷ [] → LaysSoFar name at ms own old mid
    → LaysMember m o mid new → LaysSoFar name at (ms ++ m ∷ []) own' old new
so_far_next name at ms own own' old mid new m o e s l = record {
  head = s.head;
  has_name = s.has_name;
  has_place = s.has_place;
  rest = s.rest ++ l.bodies;
  inner = s.inner ++ l.inner;
  joined = l.joined ∙ (ap (λ (bs : List Body). bs ++ l.bodies) s.joined ∙ append_assoc old (s.head ∷ s.rest) l.bodies);
  as_text = along_append _ _ _ _ s.as_text l.as_text;
  lays = subst (λ (os : List Owned). Lays (length old + 1) (ms ++ m ∷ []) os (s.inner ++ l.inner)) (sym e)
      (lays_append _ _ _ _ _ _ _ _ at_next s.lays last);
}
  where
    at_next : length mid ≡ (length old + 1) + length s.inner
    at_next =
        let a = ap (λ (bs : List Body). length bs) s.joined in
        let b = length-append old (s.head ∷ s.rest) in
        let c = along_length s.rest s.inner s.as_text in
        omega (arith, a, b, c)

    last : Lays (length mid) (m ∷ []) (o ∷ []) l.inner
    last = subst (Lays (length mid) (m ∷ []) (o ∷ [])) (append-nil l.inner) (one_and l.lays none)

-- the own one is there
pub so_far_there : (name : NameId) (at : Place) (ms : List Member) (own : List Owned) (old new : List Body)
    → LaysSoFar name at ms own old new → length old < length new
so_far_there name at ms own old new s =
    let a = ap (λ (bs : List Body). length bs) s.joined in
    let b = length-append old (s.head ∷ s.rest) in
    omega (arith, a, b)

pub so_far_end : (u : UnitTree) (own : Vec Owned Global) (old mid new : List Body) (place : ℕ) → place ≡ length old
    → LaysSoFar u.name u.at u.members.items own.items old mid → KeepsOwn own mid new place → LaysUnit u old new
so_far_end u own old mid new place p s k = record {
  bodies = record s.head { own = own } ∷ s.rest;
  joined = k.kept old s.rest s.head s.joined p;
  own = own.items;
  inner = s.inner;
  as_text = along_and (record { name = s.has_name; at = s.has_place; own = refl }) s.as_text;
  lays = s.lays;
}

-- a block is laid by its unit
pub member_block : (u : UnitTree) (id : BodyId) (old new : List Body) → id.n ≡ length old → LaysUnit u old new
    → (f : MemberForm) (m : Member) → f ≡ member.Block u → out-Member m ≡ f → LaysMember m (Nested u.name u.at id) old new
member_block u id old new n l f m e i = record {
  bodies = l.bodies;
  joined = l.joined;
  inner = record { name = u.name; at = u.at; own = l.own } ∷ l.inner;
  as_text = l.as_text;
  lays = subst (λ (g : MemberForm). Lays_one (length old) m g (Nested u.name u.at id)
      (record { name = u.name; at = u.at; own = l.own } ∷ l.inner)) (sym (i ∙ e)) (block n l.lays);
}

-- any other member stays
pub member_plain : (m : Member) (old : List Body) → is_block (out-Member m) ≡ false → LaysMember m (Plain m) old old
member_plain m old e = record {
  bodies = [];
  joined = sym (append-nil old);
  inner = [];
  as_text = along_none;
  lays = plain e;
}

-- a member that is no block
pub not_block : (m : Member) → ((u : UnitTree) → m ≡ view.Block u → ⊥) → is_block (out-Member m) ≡ false
not_block m n = by (out-Member m) refl
  where
    back : (u : UnitTree) → out-Member m ≡ member.Block u → m ≡ view.Block u
    back u e = sym (roll-out-Member m)
        ∙ (ap roll-Member (e ∙ sym (view.outs-Block u)) ∙ roll-out-Member (view.Block u))

    by : (f : MemberForm) → out-Member m ≡ f → is_block f ≡ false
    by (member.Block u) e = absurd (n u (back u e))
    by f e = refl

-- the members of a body between two parts are written
pub keep_kept : (own : Vec Owned Global) (bodies : List Body) (place : ℕ) (d : Body)
    → KeepsOwn own bodies (set bodies place (record (get_or bodies place d) { own = own })) place
keep_kept own bodies place d = record { kept = λ front rest b e p. kept front rest b e p }
  where
    kept : (front rest : List Body) (b : Body) → bodies ≡ front ++ b ∷ rest → place ≡ length front
        → set bodies place (record (get_or bodies place d) { own = own }) ≡ front ++ record b { own = own } ∷ rest
    kept front rest b e p =
        let base = ap (λ (x : Body). set (front ++ b ∷ rest) (length front) (record x { own = own }))
        (get_between front rest b d) ∙ set_between front rest b (record b { own = own }) in
        subst (λ (bs : List Body). set bs place (record (get_or bs place d) { own = own })
        ≡ front ++ record b { own = own } ∷ rest) (sym e)
        (subst (λ (n : ℕ). set (front ++ b ∷ rest) n (record (get_or (front ++ b ∷ rest) n d) { own = own })
        ≡ front ++ record b { own = own } ∷ rest) (sym p) base)

-- a loop over the members of a unit: those that are done, and those that are left
pub record LayingOn (u : UnitTree) (rest : List Member) (len : ℕ) (own : List Owned) (old new : List Body) : Type
    0 where
  pub done : List Member
  pub all : done ++ rest ≡ u.members.items
  pub count : len ≡ length rest
  pub so_far : LaysSoFar u.name u.at done own old new

pub on_start : (u : UnitTree) (rest : List Member) (len : ℕ) (own : List Owned) (old new : List Body) (b : Body)
    → rest ≡ u.members.items → len ≡ length rest → own ≡ [] → b.name ≡ u.name → b.at ≡ u.at → new ≡ old ++ b ∷ []
    → LayingOn u rest len own old new
on_start u rest len own old new b e c f g h i =
    record { done = []; all = e; count = c; so_far = so_far_start u.name u.at own old new b f g h i }

pub on_next : (u : UnitTree) (rest rest' : List Member) (len len' : ℕ) (own own' : List Owned) (old mid new : List Body)
    (m : Member) → rest ≡ m ∷ rest' → len' + 1 ≡ len → LayingOn u rest len own old mid → AddsMember m own own' mid new
    → LayingOn u rest' len' own' old new
on_next u rest rest' len len' own own' old mid new m e c h l = record {
  done = h.done ++ m ∷ [];
  all = append_assoc h.done (m ∷ []) rest' ∙ (ap (λ (ms : List Member). h.done ++ ms) (sym e) ∙ h.all);
  count = let a = ap (λ (ms : List Member). length ms) e in let b = h.count in omega (arith, a, b, c);
  so_far = so_far_next u.name u.at h.done own own' old mid new m l.kept l.added h.so_far l.laid;
}

pub on_end : (u : UnitTree) (rest : List Member) (len : ℕ) (own : Vec Owned Global) (old mid new : List Body)
    (place : ℕ) → len ≡ 0 → place ≡ length old → LayingOn u rest len own.items old mid → KeepsOwn own mid new place
    → LaysUnit u old new
on_end u rest len own old mid new place e p h k =
    so_far_end u own old mid new place p
    (subst (λ (ms : List Member). LaysSoFar u.name u.at ms own.items old mid) all h.so_far) k
  where
    empty : (ms : List Member) → 0 ≡ length ms → ms ≡ []
    empty [] f = refl
    empty (x ∷ xs) f = absurd (omega (arith, f))

    all : h.done ≡ u.members.items
    all = sym (append-nil h.done) ∙ (ap (λ (ms : List Member). h.done ++ ms) (sym (empty rest (sym e ∙ h.count)))
        ∙ h.all)
