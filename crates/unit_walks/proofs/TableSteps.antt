-- How a table changes, and what stays true.
use Rattle.std.proofs.Common.{◌≡◌, ◌<◌, ◌+◌, ◌++◌, ◌⊎◌, inl, inr, ℕ, zero, suc, true, false, List, [], ◌∷◌, Option, Some, None, length, length-append, slice_get, nat_eq, ◌==◌, refl, sym, ◌∙◌, ap, subst, arith, option_map}
use Rattle.std.proofs.lemmas.Bool.{cases_eq, and_left, and_right}
use Rattle.std.proofs.lemmas.Bool.Decides.{nat_tests}
use Rattle.std.proofs.lemmas.Option.{same_Some}
use Rattle.std.specs.HashMap.{get}
use Rattle.ar_base.specs.Lists.{Stands}
use Rattle.ar_base.specs.Numbers.{BodyId}
use Rattle.ar_base.proofs.Standing.{stands_left, stands_one, stands_within, stands_some, stands_none}
use Rattle.ar_syntax.specs.declared.paths.PathStart.TheVariants.{Owner}
use Rattle.class_table.specs.TablesInside.{site_of}
use Rattle.hierarchy.specs.Models.{RootedModel}
use Rattle.hierarchy.specs.Units.{UnitPath, UnitLevel, body_of, bodies_of, has_number, start_of}
use Rattle.hierarchy.specs.Tie.{IsSetAt, none, some}
use Rattle.unit_walks.specs.Forms.{same_pair}
use Rattle.unit_walks.specs.Tables.{known_at, same_triple, end_at, unit_level, path_below, path_met, paths_from, table_paths, Above, StandsIf, HasFrame, EndsAt, EntryMeans, PathLeads, IsUnitMet, IsWalkTable, IsEntrySet, IsForgotten, IsGrown, KeepsEnd, KeepsKnown}
use Rattle.unit_walks.specs.Walking.{IsFrame, Chain, bottom, above}
use Rattle.unit_walks.specs.declared.tables.Table.{Table}
use Rattle.unit_walks.specs.declared.tables.Met.{Met}
use Rattle.unit_walks.specs.declared.tables.Frame.{Frame}
use Rattle.unit_walks.specs.declared.tables.Reach.{Reach}
use Rattle.unit_walks.specs.declared.tables.Known.{Known}
use Rattle.unit_walks.specs.declared.tables.Known.TheVariants.{Following, ToUnit, Nothing, Loops}

pub stands_last : {A : Type 0} (xs : List A) (x : A) (n : ℕ) → n ≡ length xs → Stands (xs ++ x ∷ []) n x
stands_last [] x n e = rw e refl
stands_last (a ∷ xs) x n e = rw e (stands_last xs x (length xs) refl)

pub stands_split : {A : Type 0} (xs : List A) (y : A) (n : ℕ) (a : A) → Stands (xs ++ y ∷ []) n a
    → Stands xs n a ⊎ ((n ≡ length xs) × (a ≡ y))
stands_split [] y zero a h = inr (refl, cc)
stands_split [] y (suc n) a h = cc
stands_split (x ∷ xs) y zero a h = inl h
stands_split (x ∷ xs) y (suc n) a h = elim (stands_split xs y n a h) [ inl k ↦ inl k | inr k ↦ inr (ap suc k.0, k.1) ]

pub paths_push : (paths : List UnitPath) (ds : List Met) (d : Met)
    → paths_from paths (ds ++ d ∷ []) ≡ paths_from paths ds ++ path_met (paths_from paths ds) d.owner (unit_level d) ∷ []
paths_push paths [] d = refl
paths_push paths (e ∷ ds) d = paths_push (paths ++ path_met paths e.owner (unit_level e) ∷ []) ds d

pub paths_length : (paths : List UnitPath) (ds : List Met) → length (paths_from paths ds) ≡ length paths + length ds
paths_length paths [] = omega arith
paths_length paths (d ∷ ds) = let h = paths_length (paths ++ path_met paths d.owner (unit_level d) ∷ []) ds in let k = length-append paths (path_met paths d.owner (unit_level d) ∷ []) in omega arith

pub count_paths : (t : Table) → length (table_paths t) ≡ length t.units.items
count_paths t = let h = paths_length [] t.units.items in omega arith

-- each unit of the one list is in the other, under its number
pub record IsWider (paths more : List UnitPath) : Type 0 where
  pub keeps : (n : ℕ) (u : UnitPath) → Stands paths n u → Stands more n u

pub unit_wide : {s : RootedModel} {paths more : List UnitPath} {u : UnitPath} {x k : ℕ} → IsWider paths more
    → EndsAt s paths u x k → EndsAt s more u x k
unit_wide {k = k} w i = record { path = i.path; stands = w.keeps k i.path i.stands; height = i.height; ends = i.ends }

pub means_wide : (s : RootedModel) {paths more : List UnitPath} (u : UnitPath) (a x : ℕ) (frames : List Frame)
    (c : Known) → IsWider paths more → EntryMeans s paths frames a u x c → EntryMeans s more frames a u x c
means_wide s u a x frames (ToUnit k) w m = unit_wide w m
means_wide s u a x frames Nothing w m = m
means_wide s u a x frames Loops w m = m
means_wide s u a x frames Following w m = m

pub means_frames : (s : RootedModel) (paths : List UnitPath) (u : UnitPath) (a x : ℕ) (frames more : List Frame)
    (c : Known) → (HasFrame frames a x → HasFrame more a x) → EntryMeans s paths frames a u x c → EntryMeans s paths more a u x c
means_frames s paths u a x frames more (ToUnit k) f m = m
means_frames s paths u a x frames more Nothing f m = m
means_frames s paths u a x frames more Loops f m = m
means_frames s paths u a x frames more Following f m = f m

pub starts_wide : {paths more : List UnitPath} (a : ℕ) (o : Option UnitPath) → IsWider paths more
    → StandsIf paths (Some a) o → StandsIf more (Some a) o
starts_wide a None w h = h
starts_wide a (Some u) w h = w.keeps a u h

pub ends_wide : {s : RootedModel} {paths more : List UnitPath} {b x a : ℕ} {k : Reach} → IsWider paths more
    → PathLeads s paths b x a k → PathLeads s more b x a k
ends_wide {a = a} {k = k} w i = record {
  path = i.path;
  is_clone = i.is_clone;
  is = i.is;
  first = i.first;
  last = i.last;
  starts = w.keeps a i.first i.starts;
  stands = w.keeps k.unit i.last i.stands;
  before = i.before;
  rest = i.rest;
  names = i.names;
  to_go = i.to_go;
  height = i.height;
  ends = i.ends;
}

-- where paths lead is kept as before
ends_stay : {s : RootedModel} {old : Table} (new : Table) (frames : List Frame) → IsWalkTable s frames old
    → IsWider (table_paths old) (table_paths new) → new.ends ≡ old.ends → (b x a : ℕ) (k : Reach)
    → end_at new b x a ≡ Some k → PathLeads s (table_paths new) b x a k
ends_stay new frames t w e b x a k q = ends_wide w
    (t.ends b x a k (subst (λ ends. get same_triple ends (b, x, a) ≡ Some k) e q))

pub frame_wide : {s : RootedModel} {paths more : List UnitPath} {f : Frame} {u v : UnitPath} → IsWider paths more
    → IsFrame s paths f u v → IsFrame s more f u v
frame_wide {f = f} {u = u} {v = v} w i =
    record {
      unit = w.keeps f.unit u i.unit;
      at = w.keeps f.at v i.at;
      reached = i.reached;
      start = λ p a e is. starts_wide a (start_of p.start u) w (i.start p a e is);
    }

pub chain_wide : {s : RootedModel} {paths more : List UnitPath} {frames : List Frame} {v : UnitPath} {y : ℕ}
    → IsWider paths more → Chain s paths frames v y → Chain s more frames v y
chain_wide w bottom = bottom
chain_wide w (above e f r c) = above e (frame_wide w f) r (chain_wide w c)

pub above_wide : {paths more : List UnitPath} (u : UnitPath) (o : Option ℕ) → IsWider paths more → Above paths u o
    → Above more u o
above_wide [] o w h = h
above_wide (l ∷ up) o w (n, e, h) = (n, e, w.keeps n up h)

pub set_paths : {old new : Table} {a x k : ℕ} {c : Known} → IsEntrySet old new a x c k → table_paths new ≡ table_paths old
set_paths i = ap (paths_from []) i.units

pub met_wide : {s : RootedModel} {paths more : List UnitPath} {u : UnitPath} {d : Met} → IsWider paths more
    → IsUnitMet s paths u d → IsUnitMet s more u d
met_wide {u = u} {d = d} w i = record
    { name = i.name; body = i.body; set_at = i.set_at; owner = above_wide u d.owner w i.owner }

pub set_wide : {old new : Table} {a x k : ℕ} {c : Known} → IsEntrySet old new a x c k → IsWider (table_paths old) (table_paths new)
set_wide i = record { keeps = λ n w p. subst (λ paths. Stands paths n w) (sym (set_paths i)) p }

pub table_set : {s : RootedModel} {old new : Table} {a x k : ℕ} {u : UnitPath} {c : Known} (frames more : List Frame)
    → IsWalkTable s frames old → IsEntrySet old new a x c k → Stands (table_paths old) a u
    → EntryMeans s (table_paths old) more a u x c
    → ((b y : ℕ) → ((b ≡ a) × (y ≡ x) → ⊥) → HasFrame frames b y → HasFrame more b y) → IsWalkTable s more new
table_set {s = s} {old = old} {new = new} {a = a} {x = x} {u = u} {c = c} frames more t i h m f = record {
  main = (set_wide i).keeps 0 [] t.main;
  units = λ n d w p q. met_wide (set_wide i) (t.units n d w (subst (λ ds. Stands ds n d) i.units p) (old_at n w q));
  known = λ b y d w p q. subst (λ paths. EntryMeans s paths more b w y d) (sym e)
      (go b y d w (old_at b w p) q (cases_eq b a) (cases_eq y x));
  within = λ b y d q. subst (λ ds. b < length ds) (sym i.units) (in_range b y d q (cases_eq b a) (cases_eq y x));
  ends = ends_stay new frames t (set_wide i) i.ends;
}
  where
    in_range : (b y : ℕ) (d : Known) → known_at new b y ≡ Some d → (b ≡ a) ⊎ (b ≡ a → ⊥) → (y ≡ x) ⊎ (y ≡ x → ⊥)
        → b < length old.units.items
    in_range b y d q (inl g) (inl l) = let j = stands_within (table_paths old) a u h in let k = count_paths old in omega arith
    in_range b y d q (inl g) (inr l) = t.within b y d (sym (i.other b y (λ z. l z.1)) ∙ q)
    in_range b y d q (inr g) l = t.within b y d (sym (i.other b y (λ z. g z.0)) ∙ q)

    e : table_paths new ≡ table_paths old
    e = set_paths i

    old_at : (n : ℕ) (w : UnitPath) → Stands (table_paths new) n w → Stands (table_paths old) n w
    old_at n w p = subst (λ paths. Stands paths n w) e p

    apart : (b y : ℕ) (d : Known) (w : UnitPath) → Stands (table_paths old) b w → known_at new b y ≡ Some d
        → ((b ≡ a) × (y ≡ x) → ⊥) → EntryMeans s (table_paths old) more b w y d
    apart b y d w p q n = means_frames s (table_paths old) w b y frames more d (f b y n)
        (t.known b y d w p (sym (i.other b y n) ∙ q))

    same : (b y : ℕ) (d : Known) (w : UnitPath) → Stands (table_paths old) b w → known_at new b y ≡ Some d → b ≡ a → y ≡ x
        → EntryMeans s (table_paths old) more b w y d
    same b y d w p q g l =
        let k : w ≡ u = stands_one (table_paths old) a w u (subst (λ b. Stands (table_paths old) b w) g p) h in
        let r : known_at new a x ≡ Some d =
        subst (λ y. known_at new a y ≡ Some d) l (subst (λ b. known_at new b y ≡ Some d) g q) in
        let j : c ≡ d = same_Some _ _ (sym i.here ∙ r) in
        let P : ℕ → UnitPath → ℕ → Known → Type 0 = λ b w y d. EntryMeans s (table_paths old) more b w y d in
        subst (λ b. P b w y d) (sym g) (subst (λ w. P a w y d) (sym k)
        (subst (λ y. P a u y d) (sym l) (subst (λ d. P a u x d) j m)))

    go : (b y : ℕ) (d : Known) (w : UnitPath) → Stands (table_paths old) b w → known_at new b y ≡ Some d
        → (b ≡ a) ⊎ (b ≡ a → ⊥) → (y ≡ x) ⊎ (y ≡ x → ⊥) → EntryMeans s (table_paths old) more b w y d
    go b y d w p q (inl g) (inl l) = same b y d w p q g l
    go b y d w p q (inl g) (inr l) = apart b y d w p q (λ z. l z.1)
    go b y d w p q (inr g) l = apart b y d w p q (λ z. g z.0)

pub set_extends : {old new : Table} {a x k : ℕ} {c : Known} → IsEntrySet old new a x c k → KeepsKnown old new
set_extends {old = old} {new = new} {a = a} {x = x} {c = c} i =
    record { units = (set_wide i).keeps; known = λ b y d q. go b y d q (cases_eq b a) (cases_eq y x) }
  where
    go : (b y : ℕ) (d : Known) → known_at old b y ≡ Some d → (b ≡ a) ⊎ (b ≡ a → ⊥) → (y ≡ x) ⊎ (y ≡ x → ⊥)
        → (e : Known) × (known_at new b y ≡ Some e)
    go b y d q (inl g) (inl l) = (
      c,
      subst (λ b. known_at new b y ≡ Some c) (sym g)
          (subst (λ y. known_at new a y ≡ Some c) (sym l) i.here),
    )
    go b y d q (inl g) (inr l) = (d, i.other b y (λ z. l z.1) ∙ q)
    go b y d q (inr g) l = (d, i.other b y (λ z. g z.0) ∙ q)

-- an entry is forgotten

forgotten_paths : {old new : Table} {a x : ℕ} → IsForgotten old new a x → table_paths new ≡ table_paths old
forgotten_paths i = ap (paths_from []) i.units

forgotten_wide : {old new : Table} {a x : ℕ} → IsForgotten old new a x → IsWider (table_paths old) (table_paths new)
forgotten_wide i = record { keeps = λ n w p. subst (λ paths. Stands paths n w) (sym (forgotten_paths i)) p }

kept_before : {old new : Table} {a x : ℕ} → IsForgotten old new a x → (b y : ℕ) (d : Known)
    → known_at new b y ≡ Some d → known_at old b y ≡ Some d
kept_before {old = old} {new = new} {a = a} {x = x} i b y d q = go (cases_eq b a) (cases_eq y x)
  where
    gone : None ≡ Some d → known_at old b y ≡ Some d
    gone e = cc

    go : (b ≡ a) ⊎ (b ≡ a → ⊥) → (y ≡ x) ⊎ (y ≡ x → ⊥) → known_at old b y ≡ Some d
    go (inl g) (inl l) =
        gone (sym i.here ∙ subst (λ y. known_at new a y ≡ Some d) l (subst (λ b. known_at new b y ≡ Some d) g q))
    go (inl g) (inr l) = sym (i.other b y (λ z. l z.1)) ∙ q
    go (inr g) l = sym (i.other b y (λ z. g z.0)) ∙ q

pub table_forgotten : {s : RootedModel} {old new : Table} {a x : ℕ} (frames : List Frame) → IsWalkTable s frames old
    → IsForgotten old new a x → IsWalkTable s frames new
table_forgotten {s = s} {old = old} {new = new} frames t i = record {
  main = (forgotten_wide i).keeps 0 [] t.main;
  units = λ n d w p q. met_wide (forgotten_wide i)
      (t.units n d w (subst (λ ds. Stands ds n d) i.units p) (old_at n w q));
  known = λ b y d w p q. subst (λ paths. EntryMeans s paths frames b w y d) (sym (forgotten_paths i))
      (t.known b y d w (old_at b w p) (kept_before i b y d q));
  within = λ b y d q. subst (λ ds. b < length ds) (sym i.units) (t.within b y d (kept_before i b y d q));
  ends = ends_stay new frames t (forgotten_wide i) i.ends;
}
  where
    old_at : (n : ℕ) (w : UnitPath) → Stands (table_paths new) n w → Stands (table_paths old) n w
    old_at n w p = subst (λ paths. Stands paths n w) (forgotten_paths i) p

-- where nothing was known of it before, all that was known stays known
pub extends_forgotten : {old mid new : Table} {a x : ℕ} → known_at old a x ≡ None → KeepsKnown old mid
    → IsForgotten mid new a x → KeepsKnown old new
extends_forgotten {old = old} {new = new} {a = a} {x = x} not_yet e i = record {
  units = λ n u p. (forgotten_wide i).keeps n u (e.units n u p);
  known = λ b y d q. go b y d q (cases_eq b a) (cases_eq y x);
}
  where
    gone : (b y : ℕ) (d : Known) → None ≡ Some d → (k : Known) × (known_at new b y ≡ Some k)
    gone b y d e = cc

    apart : (b y : ℕ) (d : Known) → known_at old b y ≡ Some d → ((b ≡ a) × (y ≡ x) → ⊥)
        → (k : Known) × (known_at new b y ≡ Some k)
    apart b y d q n = let w = e.known b y d q in (w.0, i.other b y n ∙ w.1)

    go : (b y : ℕ) (d : Known) → known_at old b y ≡ Some d → (b ≡ a) ⊎ (b ≡ a → ⊥) → (y ≡ x) ⊎ (y ≡ x → ⊥)
        → (k : Known) × (known_at new b y ≡ Some k)
    go b y d q (inl g) (inl l) = gone b y d
        (sym not_yet ∙ subst (λ y. known_at old a y ≡ Some d) l (subst (λ b. known_at old b y ≡ Some d) g q))
    go b y d q (inl g) (inr l) = apart b y d q (λ z. l z.1)
    go b y d q (inr g) l = apart b y d q (λ z. g z.0)

pub means_forgotten : (s : RootedModel) {old new : Table} {a x : ℕ} (u : UnitPath) (c : Known)
    → IsForgotten old new a x
    → ((v : UnitPath) → Stands (table_paths old) a v → EntryMeans s (table_paths old) [] a v x c) → Stands (table_paths new) a u
    → EntryMeans s (table_paths new) [] a u x c
means_forgotten s {a = a} {x = x} u c i f p =
    subst (λ paths. EntryMeans s paths [] a u x c) (sym (forgotten_paths i))
    (f u (subst (λ paths. Stands paths a u) (forgotten_paths i) p))

pub extends_none : (t : Table) → KeepsKnown t t
extends_none t = record { units = λ n u p. p; known = λ a x c p. (c, p) }

pub extends_both : {old mid new : Table} → KeepsKnown old mid → KeepsKnown mid new → KeepsKnown old new
extends_both e f = record { units = λ n u p. f.units n u (e.units n u p); known = λ a x c p. let q = e.known a x c p in f.known a x q.0 q.1 }

pub wider : {old new : Table} → KeepsKnown old new → IsWider (table_paths old) (table_paths new)
wider e = record { keeps = e.units }

-- It is kept where a path leads to

pub kept_wide : {old new : Table} {b x a : ℕ} {k : Reach} → KeepsEnd old new b x a k → IsWider (table_paths old) (table_paths new)
kept_wide {new = new} i = record
    { keeps = λ n w p. subst (λ paths. Stands paths n w) (sym (ap (paths_from []) i.units)) p }

pub kept_extends : {old new : Table} {b x a : ℕ} {k : Reach} → KeepsEnd old new b x a k → KeepsKnown old new
kept_extends i = record { units = (kept_wide i).keeps; known = λ c y d q. (d, i.known c y ∙ q) }

pub table_kept : {s : RootedModel} {old new : Table} {b x a : ℕ} {k : Reach} (frames : List Frame)
    → IsWalkTable s frames old → KeepsEnd old new b x a k → PathLeads s (table_paths old) b x a k → IsWalkTable s frames new
table_kept {s = s} {old = old} {new = new} {b = b} {x = x} {a = a} {k = k} frames t i h = record {
  main = (kept_wide i).keeps 0 [] t.main;
  units = λ n d w p q. met_wide (kept_wide i) (t.units n d w (subst (λ ds. Stands ds n d) i.units p) (old_at n w q));
  known = λ c y d w p q. means_wide s w c y frames d (kept_wide i)
      (t.known c y d w (old_at c w p) (sym (i.known c y) ∙ q));
  within = λ c y d q. subst (λ ds. c < length ds) (sym i.units) (t.within c y d (sym (i.known c y) ∙ q));
  ends = λ c y n j q. ends_wide (kept_wide i) (go c y n j q (cases_eq c b) (cases_eq y x) (cases_eq n a));
}
  where
    old_at : (n : ℕ) (w : UnitPath) → Stands (table_paths new) n w → Stands (table_paths old) n w
    old_at n w p = subst (λ paths. Stands paths n w) (ap (paths_from []) i.units) p

    apart : (c y n : ℕ) (j : Reach) → end_at new c y n ≡ Some j → ((c ≡ b) × (y ≡ x) × (n ≡ a) → ⊥)
        → PathLeads s (table_paths old) c y n j
    apart c y n j q f = t.ends c y n j (sym (i.other c y n f) ∙ q)

    same : (c y n : ℕ) (j : Reach) → end_at new c y n ≡ Some j → c ≡ b → y ≡ x → n ≡ a
        → PathLeads s (table_paths old) c y n j
    same c y n j q e f g =
        let r : end_at new b x a ≡ Some j =
        subst (λ n. end_at new b x n ≡ Some j) g
        (subst (λ y. end_at new b y n ≡ Some j) f (subst (λ c. end_at new c y n ≡ Some j) e q)) in
        let P : ℕ → ℕ → ℕ → Reach → Type 0 = λ c y n j. PathLeads s (table_paths old) c y n j in
        subst (λ c. P c y n j) (sym e) (subst (λ y. P b y n j) (sym f)
        (subst (λ n. P b x n j) (sym g) (subst (λ j. P b x a j) (same_Some _ _ (sym i.here ∙ r)) h)))

    go : (c y n : ℕ) (j : Reach) → end_at new c y n ≡ Some j → (c ≡ b) ⊎ (c ≡ b → ⊥) → (y ≡ x) ⊎ (y ≡ x → ⊥)
        → (n ≡ a) ⊎ (n ≡ a → ⊥) → PathLeads s (table_paths old) c y n j
    go c y n j q (inl e) (inl f) (inl g) = same c y n j q e f g
    go c y n j q (inr e) f g = apart c y n j q (λ z. e z.0)
    go c y n j q (inl e) (inr f) g = apart c y n j q (λ z. f z.1)
    go c y n j q (inl e) (inl f) (inr g) = apart c y n j q (λ z. g z.2)

-- A unit is added

grown_paths : {old new : Table} {d : Met} {n a : ℕ} (u : UnitPath) → IsGrown old new d n → d.owner ≡ Some a
    → Stands (table_paths old) a u → table_paths new ≡ table_paths old ++ (unit_level d ∷ u) ∷ []
grown_paths {old = old} {d = d} u g o h =
    ap (paths_from []) g.units ∙ paths_push [] old.units.items d
    ∙ ap (λ o. table_paths old ++ path_met (table_paths old) o (unit_level d) ∷ []) o
    ∙ ap (λ o. table_paths old ++ path_below o (unit_level d) ∷ []) h

pub grown_wide : {old new : Table} {d : Met} {n a : ℕ} (u : UnitPath) → IsGrown old new d n → d.owner ≡ Some a
    → Stands (table_paths old) a u → IsWider (table_paths old) (table_paths new)
grown_wide {old = old} {d = d} u g o h =
    record {
      keeps = λ k w p. subst (λ paths. Stands paths k w) (sym (grown_paths u g o h))
          (stands_left (table_paths old) ((unit_level d ∷ u) ∷ []) k w p);
    }

pub grown_extends : {old new : Table} {d : Met} {n a : ℕ} (u : UnitPath) → IsGrown old new d n → d.owner ≡ Some a
    → Stands (table_paths old) a u → KeepsKnown old new
grown_extends u g o h = record { units = (grown_wide u g o h).keeps; known = λ a x c p. (c, g.known a x ∙ p) }

pub grown_stands : {old new : Table} {d : Met} {n a : ℕ} (u : UnitPath) → IsGrown old new d n → d.owner ≡ Some a
    → Stands (table_paths old) a u → Stands (table_paths new) n (unit_level d ∷ u)
grown_stands {old = old} {d = d} {n = n} u g o h =
    let l : UnitPath = unit_level d ∷ u in
    subst (λ paths. Stands paths n l) (sym (grown_paths u g o h))
    (stands_last (table_paths old) l n (g.at ∙ sym (count_paths old)))

set_at_kept : (at : Option (BodyId × ℕ)) → IsSetAt (option_map site_of at) at
set_at_kept None = none
set_at_kept (Some at) = some refl refl

level_met : (s : RootedModel) (paths : List UnitPath) (u : UnitPath) (d : Met) (a : ℕ) → d.owner ≡ Some a
    → Stands paths a u → IsUnitMet s paths (unit_level d ∷ u) d
level_met s paths u d a o h = record { name = refl; body = refl; set_at = set_at_kept d.set_at; owner = (a, o, h) }

pub table_grown : {s : RootedModel} {old new : Table} {d : Met} {n a : ℕ} (frames : List Frame) (u : UnitPath)
    → IsWalkTable s frames old → IsGrown old new d n → d.owner ≡ Some a → Stands (table_paths old) a u → IsWalkTable s frames new
table_grown {s = s} {old = old} {new = new} {d = m} {a = owner} frames u t g o h = record {
  main = wide.keeps 0 [] t.main;
  units = λ k d w p q. both k d w (λ r j. met_wide wide (t.units k d w r j))
      (λ r j. subst (λ w. IsUnitMet s (table_paths new) w d) (sym j)
      (subst (λ d. IsUnitMet s (table_paths new) l d) (sym r)
      (level_met s (table_paths new) u m owner o (wide.keeps owner u h)))) p q;
  known = known;
  within = λ a x c q. let i = t.within a x c (sym (g.known a x) ∙ q) in subst (λ ds. a < length ds) (sym g.units) (let k = length-append old.units.items (m ∷ []) in omega arith);
  ends = ends_stay new frames t wide g.ends;
}
  where
    wide : IsWider (table_paths old) (table_paths new)
    wide = grown_wide u g o h

    l : UnitPath
    l = unit_level m ∷ u

    both : (k : ℕ) (d : Met) (w : UnitPath) {P : Type 0} → (Stands old.units.items k d → Stands (table_paths old) k w → P)
        → (d ≡ m → w ≡ l → P) → Stands new.units.items k d → Stands (table_paths new) k w → P
    both k d w f j p q =
        elim (stands_split old.units.items m k d (subst (λ ds. Stands ds k d) g.units p)) [
          | inl a ↦ elim (stands_split (table_paths old) l k w (subst (λ ws. Stands ws k w) (grown_paths u g o h) q)) [
            | inl b ↦ f a b
            | inr b ↦ let i = stands_within old.units.items k d a in let e = count_paths old in absurd (omega (arith, b.0))
          ]
          | inr a ↦ elim (stands_split (table_paths old) l k w (subst (λ ws. Stands ws k w) (grown_paths u g o h) q)) [
            | inl b ↦ let i = stands_within (table_paths old) k w b in let e = count_paths old in absurd (omega (arith, a.0))
            | inr b ↦ j a.1 b.1
          ]
        ]

    known : (a x : ℕ) (c : Known) (w : UnitPath) → Stands (table_paths new) a w → known_at new a x ≡ Some c
        → EntryMeans s (table_paths new) frames a w x c
    known a x c w p q =
        elim (stands_split (table_paths old) l a w (subst (λ ws. Stands ws a w) (grown_paths u g o h) p)) [
          | inl b ↦ means_wide s w a x frames c wide (t.known a x c w b (sym (g.known a x) ∙ q))
          | inr b ↦ let i = t.within a x c (sym (g.known a x) ∙ q) in let e = count_paths old in absurd (omega (arith, b.0))
        ]

-- What stands in a table

module _ (s : RootedModel) (frames : List Frame) (t : Table) (k : IsWalkTable s frames t) where
  pub unit_within : (n : ℕ) (u : UnitPath) → Stands (table_paths t) n u → n < length t.units.items
  unit_within n u h = let i = stands_within (table_paths t) n u h in let e = count_paths t in omega arith

  pub entry_there : (n : ℕ) (u : UnitPath) → Stands (table_paths t) n u → (d : Met) × Stands t.units.items n d
  entry_there n u h = stands_some t.units.items n (unit_within n u h)

  pub unit_there : (n : ℕ) (u : UnitPath) → Stands (table_paths t) n u → None ≡ slice_get t.units.items n → ⊥
  unit_there n u h e = let i = entry_there n u h in let f : None ≡ Some i.0 = e ∙ i.1 in cc

  pub met_there : (n : ℕ) (u : UnitPath) (d : Met) → Stands (table_paths t) n u → Some d ≡ slice_get t.units.items n
      → IsUnitMet s (table_paths t) u d
  met_there n u d h e = k.units n d u (sym e) h

  pub owner_start : (n : ℕ) (u : UnitPath) (d : Met) → Stands (table_paths t) n u → Some d ≡ slice_get t.units.items n
      → StandsIf (table_paths t) d.owner (start_of Owner u)
  owner_start n [] d h e = let i = met_there n [] d h e in subst (λ o. StandsIf (table_paths t) o None) (sym i.owner) tt
  owner_start n (l ∷ up) d h e = let i = met_there n (l ∷ up) d h e in subst (λ o. StandsIf (table_paths t) o (Some up)) (sym i.owner.1) i.owner.2

-- a unit that is above one has a lesser number

pub paths_keep : (ds : List Met) (paths : List UnitPath) (n : ℕ) (u : UnitPath) → Stands paths n u
    → Stands (paths_from paths ds) n u
paths_keep [] paths n u h = h
paths_keep (d ∷ ds) paths n u h =
    let more : UnitPath = path_met paths d.owner (unit_level d) in
    paths_keep ds (paths ++ more ∷ []) n u (stands_left paths (more ∷ []) n u h)

below_is : (paths : List UnitPath) (o : Option UnitPath) (k : ℕ) (x l : UnitLevel) (w : UnitPath) → slice_get paths k
    ≡ o → path_below o x ≡ l ∷ w → k < length paths
below_is paths None k x l w g e = cc
below_is paths (Some u) k x l w g e = stands_within paths k u g

met_before : (paths : List UnitPath) (d : Met) (k : ℕ) (l : UnitLevel) (w : UnitPath) → d.owner ≡ Some k
    → path_met paths d.owner (unit_level d) ≡ l ∷ w → k < length paths
met_before paths d k l w o e = below_is paths (slice_get paths k) k (unit_level d) l w refl
    (sym (ap (λ (q : Option ℕ). path_met paths q (unit_level d)) o) ∙ e)

pub above_before : (ds : List Met) (paths : List UnitPath) (n i k : ℕ) (d : Met) (l : UnitLevel) (w : UnitPath)
    → i ≡ length paths + n → Stands ds n d → Stands (paths_from paths ds) i (l ∷ w) → d.owner ≡ Some k → k < i
above_before [] paths n i k d l w e h p o = absurd (stands_none n d h)
above_before (m ∷ ds) paths zero i k d l w e h p o =
    let q : UnitPath = path_met paths m.owner (unit_level m) in
    let at : Stands (paths_from (paths ++ q ∷ []) ds) i q =
    paths_keep ds (paths ++ q ∷ []) i q (stands_last paths q i (omega (arith, e))) in
    let same : q ≡ l ∷ w = stands_one (paths_from (paths ++ q ∷ []) ds) i q (l ∷ w) at p in
    let is : m ≡ d = same_Some _ _ h in
    let lt : k < length paths = met_before paths m k l w (ap (λ (x : Met). x.owner) is ∙ o) same in
    omega (arith, e, lt)
above_before (m ∷ ds) paths (suc n) i k d l w e h p o =
    let q : UnitPath = path_met paths m.owner (unit_level m) in
    above_before ds (paths ++ q ∷ []) n i k d l w (let g = length-append paths (q ∷ []) in omega (arith, e, g)) h p o

-- The search for a body in a unit and those above it

-- it has come up to number at
pub record IsUp (s : RootedModel) (paths : List UnitPath) (u : UnitPath) (at body : ℕ) : Type 0 where
  pub path : UnitPath
  pub stands : Stands paths at path
  pub same : has_number (bodies_of s u) body ≡ has_number (bodies_of s path) body

has_here : (s : RootedModel) (w : UnitPath) (b : ℕ) → body_of s w ≡ b → has_number (bodies_of s w) b ≡ true
has_here s [] b e = let q : (s.main == b) ≡ true = grind (arith, nat_tests) in rw q refl
has_here s (l ∷ w) b e = let q : (l.body == b) ≡ true = grind (arith, nat_tests) in rw q refl

has_not : (s : RootedModel) (w : UnitPath) (b : ℕ) → w ≡ [] → (body_of s w ≡ b → ⊥)
    → has_number (bodies_of s w) b ≡ false
has_not s [] b i e = let q : (s.main == b) ≡ false = grind (arith, nat_tests) in rw q refl
has_not s (l ∷ w) b i e = cc

has_up : (s : RootedModel) (l : UnitLevel) (w : UnitPath) (b : ℕ) → (l.body ≡ b → ⊥)
    → has_number (bodies_of s (l ∷ w)) b ≡ has_number (bodies_of s w) b
has_up s l w b e = let q : (l.body == b) ≡ false = grind (arith, nat_tests) in rw q refl

module _ (s : RootedModel) (frames : List Frame) (t : Table) (k : IsWalkTable s frames t) (u : UnitPath) (at body : ℕ)
    (d : Met) (up : IsUp s (table_paths t) u at body)
    (e : Some d ≡ slice_get t.units.items at) where
  here : IsUnitMet s (table_paths t) up.path d
  here = met_there s frames t k at up.path d up.stands e

  pub up_found : d.body.n ≡ body → true ≡ has_number (bodies_of s u) body
  up_found z = sym (up.same ∙ has_here s up.path body (here.body ∙ z))

  pub up_none : (d.body.n ≡ body → ⊥) → d.owner ≡ None → false ≡ has_number (bodies_of s u) body
  up_none n o = sym (up.same ∙ has_not s up.path body
      (top up.path (subst (λ o. Above (table_paths t) up.path o) o here.owner)) (λ z. n (sym here.body ∙ z)))
    where
      top : (w : UnitPath) → Above (table_paths t) w None → w ≡ []
      top [] h = refl
      top (l ∷ w) h = cc h.1

  -- the unit above stands before it
  pub up_before : (m : ℕ) → d.owner ≡ Some m → m < at
  up_before m o = go up.path up.stands (subst (λ o. Above (table_paths t) up.path o) o here.owner)
    where
      go : (w : UnitPath) → Stands (table_paths t) at w → Above (table_paths t) w (Some m) → m < at
      go [] p h = cc
      go (l ∷ w) p h = above_before t.units.items [] at at m d l w (omega arith) (sym e) p o

  pub up_on : (m : ℕ) → (d.body.n ≡ body → ⊥) → d.owner ≡ Some m → IsUp s (table_paths t) u m body
  up_on m n o = go up.path up.stands up.same here.body (subst (λ o. Above (table_paths t) up.path o) o here.owner)
    where
      go : (w : UnitPath) → Stands (table_paths t) at w → has_number (bodies_of s u) body ≡ has_number (bodies_of s w) body
          → body_of s w ≡ d.body.n → Above (table_paths t) w (Some m) → IsUp s (table_paths t) u m body
      go [] p q r h = cc
      go (l ∷ w) p q r (j, z, h) = record {
        path = w;
        stands = subst (λ j. Stands (table_paths t) j w) (sym (same_Some _ _ z)) h;
        same = q
            ∙ has_up s l w body (λ y. n (sym r ∙ y));
      }

-- Entries

pub pair_apart : (a x b y : ℕ) → ((b ≡ a) × (y ≡ x) → ⊥) → same_pair (a, x) (b, y) ≡ false
pair_apart a x b y n = go (cases_eq b a) (cases_eq y x)
  where
    go : (b ≡ a) ⊎ (b ≡ a → ⊥) → (y ≡ x) ⊎ (y ≡ x → ⊥) → same_pair (a, x) (b, y) ≡ false
    go (inl g) (inl l) = absurd (n (g, l))
    go (inl g) (inr l) = let q : nat_eq x y ≡ false = grind (arith, nat_tests) in and_right (nat_eq a b) (nat_eq x y) q
    go (inr g) l = let q : nat_eq a b ≡ false = grind (arith, nat_tests) in and_left (nat_eq a b) (nat_eq x y) q

pub triple_apart : (b x a c y n : ℕ) → ((c ≡ b) × (y ≡ x) × (n ≡ a) → ⊥) → same_triple (b, x, a) (c, y, n) ≡ false
triple_apart b x a c y n f = go (cases_eq n a)
  where
    go : (n ≡ a) ⊎ (n ≡ a → ⊥) → same_triple (b, x, a) (c, y, n) ≡ false
    go (inl e) = and_left (same_pair (b, x) (c, y)) (nat_eq a n) (pair_apart b x c y (λ z. f (z.0, z.1, e)))
    go (inr e) = let q : nat_eq a n ≡ false = grind (arith, nat_tests) in
        and_right (same_pair (b, x) (c, y)) (nat_eq a n) q

pub table_started : (s : RootedModel) (t : Table) (d : Met) → t.units.items ≡ d ∷ [] → d.owner ≡ None
    → d.body.n ≡ s.main → d.set_at ≡ None → ((a x : ℕ) → known_at t a x ≡ None)
    → ((c x a : ℕ) → end_at t c x a ≡ None) → IsWalkTable s [] t
table_started s t d e o b z f g = record {
  main = subst (λ ds. Stands (paths_from [] ds) 0 []) (sym e) (main_only d o);
  units = λ n c u p q. let h = one n c u p q in subst (λ u. IsUnitMet s (table_paths t) u c) (sym h.1) (subst (λ c. IsUnitMet s (table_paths t) [] c) (sym h.0) main_met);
  known = λ a x c u p q. nothing (sym (f a x) ∙ q);
  within = λ a x c q. nothing (sym (f a x) ∙ q);
  ends = λ c x a k q. nothing (sym (g c x a) ∙ q);
}
  where
    main_met : IsUnitMet s (table_paths t) [] d
    main_met = record { name = tt; body = sym b; set_at = subst (λ at. IsSetAt None at) (sym z) none; owner = o }

    main_only : (d : Met) → d.owner ≡ None → Stands (paths_from [] (d ∷ [])) 0 []
    main_only d o = ap (λ o. Some (path_met [] o (unit_level d))) o

    nothing : {A P : Type 0} {c : A} → None ≡ Some c → P
    nothing e = cc

    one : (n : ℕ) (c : Met) (u : UnitPath) → Stands t.units.items n c → Stands (table_paths t) n u → (c ≡ d) × (u ≡ [])
    one n c u p q = both n (subst (λ ds. Stands ds n c) e p) (subst (λ ds. Stands (paths_from [] ds) n u) e q)
      where
        both : (n : ℕ) → Stands (d ∷ []) n c → Stands (paths_from [] (d ∷ [])) n u → (c ≡ d) × (u ≡ [])
        both zero p q = (
          sym (same_Some _ _ p),
          sym
              (same_Some _ _ (sym (ap (λ o. Some (path_met [] o (unit_level d))) o) ∙ q)),
        )
        both (suc n) p q = cc
