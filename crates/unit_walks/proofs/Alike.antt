-- Units with the same names and bodies: a name ends in them alike, whatever declarations their settings come from.
use Rattle.std.proofs.Common.{◌≡◌, ℕ, suc, Bool, true, false, List, [], ◌∷◌, Option, Some, None, refl, sym, ap, subst, arith, ◌==◌}
use Rattle.std.proofs.lemmas.Bool.Decides.{nat_tests}
use Rattle.ar_syntax.specs.declared.paths.PathStart.{PathStart}
use Rattle.ar_syntax.specs.declared.paths.PathStart.TheVariants.{Here, Owner, Main}
use Rattle.class_table.specs.Members.{MemberKind}
use Rattle.hierarchy.specs.Models.{RootedModel}
use Rattle.hierarchy.specs.Units.{UnitPath, UnitLevel, same_unit, body_of, set_at_of, bodies_of, has_number, kind_at, start_of, numbers}
use Rattle.unit_walks.specs.Forms.{member_kind_in}
use Rattle.unit_walks.specs.Ends.{NameEnds, NamesEnd, inner, clones, clones_none, embeds, no_unit, absent, nowhere, arrives, on, stops}

-- the same names and bodies
pub data Alike : UnitPath → UnitPath → Type 0 where
  main : Alike [] []
  level : {l k : UnitLevel} {u w : UnitPath} → l.name ≡ k.name → l.body ≡ k.body → Alike u w → Alike (l ∷ u) (k ∷ w)

-- the same of what may be no unit
pub data AlikeIf : Option UnitPath → Option UnitPath → Type 0 where
  none : AlikeIf None None
  some : {u w : UnitPath} → Alike u w → AlikeIf (Some u) (Some w)

is_equal : (a b : ℕ) → (a == b) ≡ true → a ≡ b
is_equal a b e = grind (arith, nat_tests)

pub same_alike : (u w : UnitPath) → same_unit u w ≡ true → Alike u w
same_alike [] [] e = main
same_alike [] (k ∷ w) e = cc
same_alike (l ∷ u) [] e = cc
same_alike (l ∷ u) (k ∷ w) e = go (same_alike u w) (l.name == k.name) (l.body == k.body) refl refl
  where
    go : (same_unit u w ≡ true → Alike u w) → (a b : Bool) → (l.name == k.name) ≡ a → (l.body == k.body) ≡ b
        → Alike (l ∷ u) (k ∷ w)
    go r true true p q = let h = rw (p, q) at e in level (is_equal l.name k.name p) (is_equal l.body k.body q) (r h)
    go r true false p q = let h = rw (p, q) at e in cc
    go r false b p q = let h = rw p at e in cc

pub alike_sym : {u w : UnitPath} → Alike u w → Alike w u
alike_sym main = main
alike_sym (level p q a) = level (sym p) (sym q) (alike_sym a)

body_alike : (s : RootedModel) {u w : UnitPath} → Alike u w → body_of s u ≡ body_of s w
body_alike s main = refl
body_alike s (level p q a) = q

cons_same : {a b : ℕ} {xs ys : List ℕ} → a ≡ b → xs ≡ ys → a ∷ xs ≡ b ∷ ys
cons_same p q = cc

bodies_alike : (s : RootedModel) {u w : UnitPath} → Alike u w → bodies_of s u ≡ bodies_of s w
bodies_alike s main = refl
bodies_alike s (level p q a) = cons_same q (bodies_alike s a)

pub kind_alike : (s : RootedModel) (x : ℕ) {u w : UnitPath} → Alike u w → kind_at s u x ≡ kind_at s w x
kind_alike s x a = ap (λ b. member_kind_in s b x) (body_alike s a)

start_alike : (start : PathStart) {u w : UnitPath} → Alike u w → AlikeIf (start_of start u) (start_of start w)
start_alike Here a = some a
start_alike Owner main = none
start_alike Owner (level p q a) = some a
start_alike Main a = some main

none_alike : {o : Option UnitPath} → AlikeIf None o → o ≡ None
none_alike none = refl

some_alike : {u : UnitPath} {o : Option UnitPath} → AlikeIf (Some u) o → (w : UnitPath) × (o ≡ Some w) × Alike u w
some_alike (some {w = w} a) = (w, refl, a)

mutual
  pub ends_alike : {s : RootedModel} {n : ℕ} {u w : UnitPath} {x : ℕ} {m : Option MemberKind} {o : Option UnitPath}
      → Alike u w → NameEnds s n u x m o
      → (r : Option UnitPath) × NameEnds s n w x m r × AlikeIf o r
  ends_alike {w = w} {x = x} a (inner {b = b} {a = z}) =
      (Some (record { name = x; body = b; set_at = z } ∷ w), inner, some (level refl refl a))
  ends_alike {s = s} {n = suc n} {u = u} {w = w} {x = x} a (clones {t = t} {p = p} r h) =
      let q = runs_alike (start_alike p.start a) r in
      let v = some_alike q.2 in
      let run = subst (λ o. NamesEnd s n (start_of p.start w) (numbers p.names.items) o) v.1 q.1 in
      let free : has_number (bodies_of s w) (body_of s v.0) ≡ false =
      subst (λ b. has_number (bodies_of s w) b ≡ false) (body_alike s v.2)
      (subst (λ bs. has_number bs (body_of s t) ≡ false) (bodies_alike s a) h) in (
        Some (record { name = x; body = body_of s v.0; set_at = set_at_of v.0 } ∷ w),
        clones run free,
        some
            (level refl (body_alike s v.2) a),
      )
  ends_alike {s = s} {n = suc n} {w = w} a (clones_none {p = p} r) =
      let q = runs_alike (start_alike p.start a) r in (
        None,
        clones_none (subst (λ o. NamesEnd s n (start_of p.start w) (numbers p.names.items) o) (none_alike q.2)
            q.1),
        none,
      )
  ends_alike a (embeds {p = p} r) = let q = runs_alike (start_alike p.start a) r in (q.0, embeds q.1, q.2)
  ends_alike a (no_unit e) = (None, no_unit e, none)
  ends_alike a absent = (None, absent, none)

  pub runs_alike : {s : RootedModel} {n : ℕ} {u w : Option UnitPath} {xs : List ℕ} {o : Option UnitPath} → AlikeIf u w
      → NamesEnd s n u xs o
      → (r : Option UnitPath) × NamesEnd s n w xs r × AlikeIf o r
  runs_alike none nowhere = (None, nowhere, none)
  runs_alike (some {w = w} a) arrives = (Some w, arrives, some a)
  runs_alike {s = s} {xs = x ∷ xs} (some {u = u} {w = w} a) (on n k v d r e) =
      let q = ends_alike a d in
      let t = some_alike q.2 in
      let d' : NameEnds s n w x (kind_at s w x) (Some t.0) =
      subst (λ m. NameEnds s n w x m (Some t.0)) (kind_alike s x a)
      (subst (λ o. NameEnds s n w x (kind_at s u x) o) t.1 q.1) in
      let y = runs_alike (some t.2) r in
      (y.0, on n k t.0 d' y.1 e, y.2)
  runs_alike {s = s} {n = n} {xs = x ∷ xs} (some {u = u} {w = w} a) (stops d) =
      let q = ends_alike a d in
      let d' : NameEnds s n w x (kind_at s w x) None =
      subst (λ m. NameEnds s n w x m None) (kind_alike s x a)
      (subst (λ o. NameEnds s n w x (kind_at s u x) o) (none_alike q.2) q.1) in
      (None, stops d', none)
