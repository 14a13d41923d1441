-- Laws of checks of lists.
use Rattle.std.proofs.Common.{◌≡◌, ℕ, ◌-◌, ◌<◌, ◌⊎◌, inl, inr, List, [], ◌∷◌, Option, length, reverse, refl, sym, ap, ◌∙◌, subst, arith}
use Rattle.std.proofs.lemmas.Bool.{cases_lt}
use Rattle.std.proofs.lemmas.List.{length-reverse, reverse-reverse, get_or-reverse}
use Rattle.std.proofs.lemmas.Option.{get_or_from_slice_get}
use Rattle.ar_base.specs.Lists.{Stands, IsOneOf}
use Rattle.ar_base.specs.Sets.{Within}
use Rattle.ar_base.proofs.Standing.{stands_one, stands_within, stands_get, one_here, one_none, one_cases, one_first, one_rest}
use Rattle.domains.specs.declared.Value.{Value}
use Rattle.typed_expr.specs.PairsInside.{turned_pairs}
use Rattle.typed_expr.specs.declared.expr.Expr.{Expr}
use Rattle.typed_expr.proofs.Renaming.{carries, renames_turned}
use Rattle.ar_meaning.specs.Systems.{System}
use Rattle.ar_meaning.specs.Facts.{HasValue}
use Rattle.ar_meaning.specs.Runs.{Label}
use Rattle.ar_meaning.specs.Image.{Expr_renames}
use Rattle.ar_meaning.specs.ImageInside.{IsImage}
use Rattle.ar_meaning.proofs.ImageFlows.{value_there}
use Rattle.ar_meaning.proofs.ImageTurned.{image_turned}
use Rattle.ar_firing.specs.Cuts.{AreEvents, Makes, IsLeast, Cut}
use Rattle.ar_firing.specs.CutsInside.{UpTo}
use Rattle.ar_firing.proofs.ImageCuts.{reaches_there, cut_there, cut_back}
use Rattle.ar_firing.proofs.LeastSets.{decided, Left, least_refuted, within_then}
use Rattle.ar_firing.proofs.SmallSets.{part_up_to}
use Rattle.cut_check.specs.Verdicts.{events_of, IsTrueLine, ContainsLine, HoldsLine, Said, IsGood, Fails, Holds, IsSaid, fails, holds, good, IsListed, IsMissing}
use Rattle.cut_check.specs.VerdictsInside.{IsRight, AreTheCuts}

-- Images

module _ {V W : Type 0} (same : V → W → Type 0) (here : System V) (there : System W) (image : IsImage same here there)
    (dropped : List ℕ)
    (observer : Expr V) (other : Expr W) (q : Expr_renames same observer other) (wanted : Value) where
  pub line_there : (ls : List Label) → IsTrueLine here dropped observer wanted ls
      → IsTrueLine there dropped other wanted ls
  line_there ls h = record {
    once = h.once;
    values = h.values;
    reaches = reaches_there same here there image dropped h.reaches;
    shows =
        carries V W (HasValue here.net h.values) (HasValue there.net h.values) same
        (λ x y v s k. value_there same here.net there.net image.net h.values x y v s k) h.shows q.renames;
  }

module _ {V W : Type 0} (same : V → W → Type 0) (here : System V) (there : System W) (image : IsImage same here there)
    (dropped : List ℕ)
    (observer : Expr V) (other : Expr W) (q : Expr_renames same observer other) (wanted : Value) where
  pub line_back : (ls : List Label) → IsTrueLine there dropped other wanted ls
      → IsTrueLine here dropped observer wanted ls
  line_back ls h = line_there (turned_pairs same) there here (image_turned same image) dropped other observer
      (record { renames = renames_turned same q.renames }) wanted ls h

  pub said_there : (lines : List (List Label)) (n : ℕ) (said : Said) → IsSaid here dropped observer wanted lines n said
      → IsSaid there dropped other wanted lines n said
  said_there lines n Fails (fails {ls = ls} s untrue) = fails s (λ h. untrue (line_back ls h))
  said_there lines n (Holds k) (holds {ls = ls} s h may) =
      holds s (line_there same here there image dropped observer other q wanted ls h) may
  said_there lines n IsGood (good {ls = ls} s h none) =
      good s (line_there same here there image dropped observer other q wanted ls h) none

  pub said_back : (lines : List (List Label)) (n : ℕ) (said : Said) → IsSaid there dropped other wanted lines n said
      → IsSaid here dropped observer wanted lines n said
  said_back lines n Fails (fails {ls = ls} s untrue) =
      fails s (λ h. untrue (line_there same here there image dropped observer other q wanted ls h))
  said_back lines n (Holds k) (holds {ls = ls} s h may) = holds s (line_back ls h) may
  said_back lines n IsGood (good {ls = ls} s h none) = good s (line_back ls h) none

  pub missing_there : (lines : List (List Label)) (set : List ℕ) → IsMissing here dropped observer wanted lines set
      → IsMissing there dropped other wanted lines set
  missing_there lines set m = record {
    is_cut = cut_there same here there image dropped observer other q wanted set
        m.is_cut;
    unlisted = m.unlisted;
  }

  pub missing_back : (lines : List (List Label)) (set : List ℕ) → IsMissing there dropped other wanted lines set
      → IsMissing here dropped observer wanted lines set
  missing_back lines set m = record {
    is_cut = cut_back same here there image dropped observer other q wanted set
        m.is_cut;
    unlisted = m.unlisted;
  }

-- One verdict

module _ {V : Type 0} (sys : System V) (dropped : List ℕ) (observer : Expr V) (wanted : Value)
    (lines : List (List Label)) where
  pub held_once : (n j k : ℕ) → HoldsLine lines n j → HoldsLine lines n k → j ≡ k
  held_once n j k a b = elim (cases_lt j k) [
    | inl h ↦ absurd (b.least j h a.may)
    | inr h ↦ elim (cases_lt k j) [ inl i ↦ absurd (a.least k i b.may) | inr i ↦ omega (arith, h, i) ]
  ]

  line_as : (n : ℕ) (ls ms : List Label) → Stands lines n ls → Stands lines n ms
      → IsTrueLine sys dropped observer wanted ls → IsTrueLine sys dropped observer wanted ms
  line_as n ls ms s t h = subst (λ (z : List Label). IsTrueLine sys dropped observer wanted z)
      (stands_one lines n ls ms s t) h

  pub said_once : (n : ℕ) (a b : Said) → IsSaid sys dropped observer wanted lines n a
      → IsSaid sys dropped observer wanted lines n b → a ≡ b
  said_once n Fails Fails a b = refl
  said_once n Fails (Holds k) (fails {ls = ms} s untrue) (holds {ls = ls} t h may) =
      absurd (untrue (line_as n ls ms t s h))
  said_once n Fails IsGood (fails {ls = ms} s untrue) (good {ls = ls} t h none) =
      absurd (untrue (line_as n ls ms t s h))
  said_once n (Holds k) Fails (holds {ls = ls} t h may) (fails {ls = ms} s untrue) =
      absurd (untrue (line_as n ls ms t s h))
  said_once n (Holds j) (Holds k) (holds s h may) (holds t i its) = ap (λ z. Holds z) (held_once n j k may its)
  said_once n (Holds k) IsGood (holds s h may) (good t i none) = absurd (none k may.may)
  said_once n IsGood Fails (good {ls = ls} t h none) (fails {ls = ms} s untrue) =
      absurd (untrue (line_as n ls ms t s h))
  said_once n IsGood (Holds k) (good t i none) (holds s h may) = absurd (none k may.may)
  said_once n IsGood IsGood a b = refl

-- Orders from behind

reversed_stands : {A : Type 0} (xs : List A) (k : ℕ) (a : A) → Stands (reverse xs) k a
    → (k < length xs) × Stands xs (length xs - 1 - k) a
reversed_stands xs k a s =
    let lt : k < length xs = (let w = stands_within (reverse xs) k a s in omega (arith, w, length-reverse xs)) in
    let e = sym (get_or-reverse xs k a lt) ∙ get_or_from_slice_get (reverse xs) k a a s in
    (lt, subst (λ z. Stands xs (length xs - 1 - k) z) e (stands_get xs (length xs - 1 - k) a (omega arith)))

events_reversed : (ls : List Label) (set : List ℕ) → AreEvents ls set → AreEvents (reverse ls) set
events_reversed ls set a = record {
  sound = λ k l s. let t = reversed_stands ls k l s in a.sound (length ls - 1 - k) l t.1;
  whole = λ e o.
      let w = a.whole e o in
      let t = reversed_stands (reverse ls) w.1.place w.0
      (subst (λ (z : List Label). Stands z w.1.place w.0) (sym (reverse-reverse ls)) w.1.stands) in
      (w.0, one_here (reverse ls) (length (reverse ls) - 1 - w.1.place) w.0 t.1, w.2);
  once = λ j k l m s t e.
      let p = reversed_stands ls j l s in
      let q = reversed_stands ls k m t in
      let i = a.once (length ls - 1 - j) (length ls - 1 - k) l m p.1 q.1 e in
      omega (arith, i, p.0, q.0);
}

-- Right lists

listed_rest : (ls : List Label) (lines : List (List Label)) (set : List ℕ) → IsListed lines set
    → IsListed (ls ∷ lines) set
listed_rest ls lines set h = record
    { line = h.line; is_line = one_rest ls lines h.line h.is_line; within = h.within; whole = h.whole }

-- whether a set is listed
listed_told : (lines : List (List Label)) (set : List ℕ) → IsListed lines set ⊎ (IsListed lines set → ⊥)
listed_told [] set = inr (λ h. one_none h.line h.is_line)
listed_told (ls ∷ lines) set = go (decided (events_of ls) set) (decided set (events_of ls)) (listed_told lines set)
  where
    other : ((Within (events_of ls) set) → Within set (events_of ls) → ⊥) → (IsListed lines set → ⊥)
        → IsListed (ls ∷ lines) set → ⊥
    other here none h = elim (one_cases ls lines h.line h.is_line) [
      | inl e ↦ here (subst (λ (z : List Label). Within (events_of z) set) (sym e) h.within)
          (subst (λ (z : List Label). Within set (events_of z)) (sym e) h.whole)
      | inr o ↦ none (record { line = h.line; is_line = o; within = h.within; whole = h.whole })
    ]

    go : (Within (events_of ls) set ⊎ Left (events_of ls) set) → (Within set (events_of ls) ⊎ Left set (events_of ls))
        → (IsListed lines set ⊎ (IsListed lines set → ⊥)) → IsListed (ls ∷ lines) set ⊎ (IsListed (ls ∷ lines) set → ⊥)
    go a b (inl h) = inl (listed_rest ls lines set h)
    go (inl a) (inl b) (inr n) = inl (record { line = ls; is_line = one_first ls lines; within = a; whole = b })
    go (inr a) b (inr n) = inr (other (λ w x. a.is_not (w.each a.event a.is_one)) n)
    go (inl a) (inr b) (inr n) = inr (other (λ w x. b.is_not (x.each b.event b.is_one)) n)

module _ {V : Type 0} (sys : System V) (dropped : List ℕ) (observer : Expr V) (wanted : Value)
    (lines : List (List Label)) where
  line_makes : (ls : List Label) → IsTrueLine sys dropped observer wanted ls
      → Makes sys dropped observer wanted (events_of ls)
  line_makes ls h = record {
    values = h.values;
    order = record { labels = reverse ls; events = events_reversed ls (events_of ls) h.once; reaches = h.reaches };
    shows = h.shows;
  }

  good_true : {n : ℕ} {ls : List Label} → Stands lines n ls → IsSaid sys dropped observer wanted lines n IsGood
      → IsTrueLine sys dropped observer wanted ls
  good_true {n = n} {ls = ls} s (good {ls = ms} t h none) =
      subst (λ (z : List Label). IsTrueLine sys dropped observer wanted z) (stands_one lines n ms ls t s) h

  good_free : {n : ℕ} → IsSaid sys dropped observer wanted lines n IsGood → (k : ℕ) → ContainsLine lines n k → ⊥
  good_free (good t h none) = none

  module _ (order : Option ℕ) (small : (n : ℕ) (ls : List Label) → Stands lines n ls → UpTo order (events_of ls))
      (right : IsRight order sys dropped observer wanted lines) where
    cut_listed : (set : List ℕ) → UpTo order set → Cut sys dropped observer wanted set → IsListed lines set
    cut_listed set u c = elim (listed_told lines set)
        [ inl h ↦ h | inr n ↦ absurd (right.whole set u (record { is_cut = c; unlisted = n })) ]

    -- a part of a good line that makes the value has all its events
    line_least : (n : ℕ) (ls : List Label) → Stands lines n ls → (part : List ℕ) → Within part (events_of ls)
        → Makes sys dropped observer wanted part → Within (events_of ls) part
    line_least n ls s part w m = elim (decided (events_of ls) part) [
      | inl h ↦ h
      | inr l ↦ absurd (least_refuted (Makes sys dropped observer wanted) part (none l.event l.is_one l.is_not) m)
    ]
      where
        none : (e : ℕ) → IsOneOf (events_of ls) e → (IsOneOf part e → ⊥) → (set : List ℕ) → Within set part
            → IsLeast (Makes sys dropped observer wanted) set → ⊥
        none e one not set v c =
            let k = cut_listed set (part_up_to order (within_then v w) (small n ls s)) c in
            good_free (right.good n ls s) k.is_line.place (record {
              line = ls;
              is_line = s;
              held = k.line;
              is_held = k.is_line.stands;
              within = within_then k.within (within_then v w);
              earlier = λ x. absurd (not (v.each e (k.within.each e (x.each e one))));
            })

    pub right_cuts : AreTheCuts order sys dropped observer wanted lines
    right_cuts = record {
      true_lines = λ n ls s. good_true s (right.good n ls s);
      sound = λ n ls s. record { has = line_makes ls (good_true s (right.good n ls s)); least = line_least n ls s };
      whole = cut_listed;
      once = λ j k ls ms s t w x. elim (cases_lt j k) [
        | inl h ↦ absurd (good_free (right.good k ms t) j
            (record { line = ms; is_line = t; held = ls; is_held = s; within = w; earlier = λ y. h }))
        | inr h ↦ elim (cases_lt k j) [
          | inl i ↦ absurd (good_free (right.good j ls s) k
              (record { line = ls; is_line = s; held = ms; is_held = t; within = x; earlier = λ y. i }))
          | inr i ↦ omega (arith, h, i)
        ]
      ];
    }

  pub cuts_right : (order : Option ℕ) → AreTheCuts order sys dropped observer wanted lines
      → IsRight order sys dropped observer wanted lines
  cuts_right order c = record {
    good = λ n ls s. good s (c.true_lines n ls s) (free n);
    whole = λ set u m. m.unlisted (c.whole set u m.is_cut);
  }
    where
      free : (n k : ℕ) → ContainsLine lines n k → ⊥
      free n k m =
          let all = (c.sound n m.line m.is_line).least (events_of m.held) m.within (c.sound k m.held m.is_held).has in
          let lt = m.earlier all in
          let e = c.once n k m.line m.held m.is_line m.is_held all m.within in
          omega (arith, lt, e)
