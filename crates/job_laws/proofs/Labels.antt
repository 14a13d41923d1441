-- Labels and paths: what each names is one thing.
use Rattle.std.proofs.Common.{◌≡◌, ◌+◌, ◌<◌, ◌^◌, ◌==◌, ◌||◌, ℕ, zero, suc, Bool, true, false, if◌then◌else◌, List, [], ◌∷◌, ◌++◌, length, decimal, refl, sym, ◌∙◌, ap, subst, arith}
use Rattle.std.proofs.lemmas.Bool.{eqb-true}
use Rattle.std.proofs.lemmas.Fmt.{decimal_injective}
use Rattle.ar_base.specs.Lists.{Stands, AreDifferent, Along, none, one_and}
use Rattle.ar_base.proofs.Standing.{stands_none, stands_one, along_on}
use Rattle.ar_meaning.specs.Runs.{Label}
use Rattle.ar_meaning.specs.Systems.{Event}
use Rattle.ar_syntax.specs.declared.paths.PathStart.TheVariants.{Here}
use Rattle.class_table.specs.Members.{MemberKind}
use Rattle.gts_flatten.specs.Elaborating.{Elaborated}
use Rattle.hierarchy.specs.Listing.{events}
use Rattle.hierarchy.specs.Models.{RootedModel}
use Rattle.hierarchy.specs.Units.{UnitPath, Thing}
use Rattle.hierarchy.specs.Walks.{IsThingAt, is_event}
use Rattle.job_inputs.specs.CutListsInside.{HaveOneMeaning}
use Rattle.job_inputs.specs.Labels.{is_dot, Spells, NamesOne, NamesEvent, NamesVisible, IsLabel, path, numbered, NeedsWay}
use Rattle.job_inputs.specs.Lines.{onto_first, pieces}
use Rattle.job_inputs.specs.Reads.{has_mark}
use Rattle.job_inputs.proofs.EventLemmas.{one_thing, one_spelling}
use Rattle.job_inputs.proofs.MarkLemmas.{decimal_unmarked, last_mark, unmarked}
use Rattle.job_laws.specs.Named.{NamesOnce}

-- a relation that gives one item each gives one list
pub along_one : {A B : Type 0} {R : A → B → Type 0} → ((a : A) (b c : B) → R a b → R a c → b ≡ c) → {xs : List A}
    {ys zs : List B} → Along R xs ys → Along R xs zs → ys ≡ zs
along_one one none none = refl
along_one one (one_and {a = a} {b = b} r rs) (one_and {b = c} s ss) =
    let i : b ≡ c = one a b c r s in
    let j = along_one one rs ss in
    cc

-- Marks

-- the parts of a text, none of which has a `#`
abbrev AreUnmarked : List (List ℕ) → Type 0
AreUnmarked ps = (n : ℕ) (p : List ℕ) → Stands ps n p → has_mark p ≡ false

-- a byte that is a dot is no `#`
dot_unmarked : (b : ℕ) → (b == 46) ≡ true → (b == 35) ≡ false
dot_unmarked b e = subst (λ (z : ℕ). (z == 35) ≡ false) (sym (eqb-true b 46 e)) refl

-- neither of two is true where none is
first_false : (p q : Bool) → (p || q) ≡ false → (p ≡ false) × (q ≡ false)
first_false true q e = cc
first_false false q e = (refl, e)

both_false : (p q : Bool) → p ≡ false → q ≡ false → (p || q) ≡ false
both_false true q e f = cc
both_false false q e f = f

-- the byte in front of the first part has no mark, and the parts behind it have none
behind_first : (b : ℕ) (ps : List (List ℕ)) → AreUnmarked (onto_first b ps) → ((b == 35) ≡ false) × AreUnmarked ps
behind_first b [] h = ((first_false (b == 35) false (h 0 (b ∷ []) refl)).0, λ n p s. absurd (stands_none n p s))
behind_first b (piece ∷ more) h = ((first_false (b == 35) (has_mark piece) (h 0 (b ∷ piece) refl)).0, rest)
  where
    rest : AreUnmarked (piece ∷ more)
    rest zero p s =
        let e : piece ≡ p = stands_one (piece ∷ more) 0 piece p refl s in
        subst (λ (z : List ℕ). has_mark z ≡ false) e (first_false (b == 35) (has_mark piece) (h 0 (b ∷ piece) refl)).1
    rest (suc n) p s = h (suc n) p s

-- a text whose parts between its dots have no mark has none
parts_unmarked : (text : List ℕ) → AreUnmarked (pieces is_dot text) → has_mark text ≡ false
parts_unmarked [] h = refl
parts_unmarked (b ∷ bs) h = go (b == 46) refl h (parts_unmarked bs)
  where
    go : (c : Bool) → (b == 46) ≡ c
        → AreUnmarked (if c then [] ∷ pieces is_dot bs else onto_first b (pieces is_dot bs))
        → (AreUnmarked (pieces is_dot bs) → has_mark bs ≡ false) → has_mark (b ∷ bs) ≡ false
    go true e k more =
        both_false (b == 35) (has_mark bs) (dot_unmarked b e) (more (λ n p s. k (suc n) p s))
    go false e k more =
        let r = behind_first b (pieces is_dot bs) k in both_false (b == 35) (has_mark bs) r.0 (more r.1)

-- Paths

module _ {x : Elaborated} (is : NamesOnce x) where
  -- a path has no mark
  path_unmarked : (text : List ℕ) (names : List ℕ) → Spells x.declarations.model.names text names
      → has_mark text ≡ false
  path_unmarked text names s =
      parts_unmarked text
      (λ n p stands. (let r = along_on (pieces is_dot text) names s n p stands in is.unmarked r.0 p r.2))

  -- a text names one thing of a listing in which none stands twice
  pub one_named : (test : MemberKind → Bool) (listing : RootedModel → List UnitPath → List Thing)
      → AreDifferent (listing x.declarations.model x.declarations.units)
      → (text : List ℕ) (m n : ℕ) → NamesOne x test listing text m → NamesOne x test listing text n → m ≡ n
  one_named test listing different text m n a b =
      let model = x.declarations.model in
      let spelled : b.is_thing.names ≡ a.is_thing.names =
      one_spelling model.names is.names b.is_thing.spells a.is_thing.spells in
      let there = subst (λ (ns : List ℕ). IsThingAt model test [] Here ns b.thing) spelled b.is_thing.is_thing in
      let same : b.thing ≡ a.thing = one_thing test a.is_thing.names b.thing a.thing there a.is_thing.is_thing in
      let number = subst (λ (t : Thing). Stands (listing model x.declarations.units) n t) same b.number in
      different.one m n a.thing a.number number

  pub one_event : (text : List ℕ) (m n : ℕ) → NamesEvent x text m → NamesEvent x text n → m ≡ n
  one_event text m n a b = one_named is_event events is.events text m n a b

  -- a visible event, and how many ways it has
  one_visible : (text : List ℕ) (e f v w : ℕ) → NamesVisible x text e v → NamesVisible x text f w → (e ≡ f) × (v ≡ w)
  one_visible text e f v w a b =
      let i : e ≡ f = one_event text e f a.names b.names in
      let same : a.event ≡ b.event = stands_one x.system.events e a.event b.event a.stands
      (subst (λ (n : ℕ). Stands x.system.events n b.event) (sym i) b.stands) in
      (i, sym a.count ∙ ap (λ (z : Event Thing). length z.ways) same ∙ b.count)

  visible_unmarked : (text : List ℕ) (e w : ℕ) → NamesVisible x text e w → has_mark text ≡ false
  visible_unmarked text e w a = path_unmarked text a.names.is_thing.names a.names.is_thing.spells

  -- an event has few ways
  few_ways : (text : List ℕ) (e w : ℕ) → NamesVisible x text e w → w < 2 ^ 64
  few_ways text e w a = let l = is.few e a.event a.stands in let c = a.count in omega (arith, l, c)

  -- Labels

  label : ℕ → ℕ → Label
  label e k = record { event = e; way = k }

  both_numbered : (text p q : List ℕ) (e f j k v w : ℕ) → text ≡ p ++ (35 ∷ decimal (j + 1)) → NamesVisible x p e v
      → j < v → text ≡ q ++ (35 ∷ decimal (k + 1)) → NamesVisible x q f w → k < w
      → ◌≡◌ {A = Label} (record { event = e; way = j }) (record { event = f; way = k })
  both_numbered text p q e f j k v w s a l t b m =
      let r = last_mark p q (decimal (j + 1)) (decimal (k + 1)) (sym s ∙ t) (decimal_unmarked (j + 1))
      (decimal_unmarked (k + 1)) in
      let i : e ≡ f = (one_visible p e f v w a (subst (λ (z : List ℕ). NamesVisible x z f w) (sym r.0) b)).0 in
      let y = few_ways p e v a in
      let z = few_ways q f w b in
      let n : j + 1 ≡ k + 1 = decimal_injective (j + 1) (k + 1) (omega (arith, l, y)) (omega (arith, m, z)) r.1 in
      let o : j ≡ k = omega (arith, n) in
      cc

  label_one : (text : List ℕ) (l m : Label) → IsLabel x text l → IsLabel x text m → l ≡ m
  label_one text l m (path {e = e} a) (path {e = f} b) = let i : e ≡ f = (one_visible text e f 1 1 a b).0 in cc
  label_one text l m (path {e = e} a) (numbered {k = k} p w s b h) =
      absurd (unmarked text p (decimal (k + 1)) (visible_unmarked text e 1 a) s)
  label_one text l m (numbered {k = k} p w s b h) (path {e = e} a) =
      absurd (unmarked text p (decimal (k + 1)) (visible_unmarked text e 1 a) s)
  label_one text l m (numbered {e = e} {k = j} p v s a h) (numbered {e = f} {k = k} q w t b i) =
      both_numbered text p q e f j k v w s a h t b i

  label_needs_none : (text : List ℕ) (l : Label) → IsLabel x text l → NeedsWay x text → ⊥
  label_needs_none text l (path {e = e} a) n =
      let r = (one_visible text e n.event 1 n.ways a n.names).1 in
      let m = n.many in
      absurd (omega (arith, r, m))
  label_needs_none text l (numbered {k = k} p w s b h) n =
      unmarked text p (decimal (k + 1)) (visible_unmarked text n.event n.ways n.names) s

  pub one_meaning : HaveOneMeaning x
  one_meaning = record { one = label_one; needs_none = label_needs_none }
