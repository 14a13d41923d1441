-- A search among bodies.
use Rattle.std.proofs.Common.{◌≡◌, ℕ, zero, suc, ◌+◌, ◌<◌, ◌≤◌, Bool, true, false, List, [], ◌∷◌, ◌++◌, length, set, get_or, replicate, Option, Some, None, refl, sym, ◌∙◌, ap, subst, inl, inr, arith, append_assoc, length-append}
use Rattle.std.proofs.lemmas.Option.{same_Some}
use Rattle.std.proofs.lemmas.List.{append-nil}
use Rattle.ar_base.specs.Lists.{Stands, IsOneOf, Along}
use Rattle.ar_base.specs.declared.places.Place.{Place}
use Rattle.ar_base.proofs.Standing.{stands_none, stands_split, stands_within, one_here, one_left, one_right, one_split, one_first, one_none, one_cases}
use Rattle.ar_base.proofs.Comparing.{lt_or_same}
use Rattle.class_table.specs.Declaring.{Declared}
use Rattle.class_table.specs.TablesInside.{IsBodyOf}
use Rattle.class_table.specs.Rules.{HasInside, IsWithin, itself, further}
use Rattle.class_table.specs.Shown.{put_inside}
use Rattle.class_table.specs.Searching.{count_of_marked, IsSeen, OpensOne, Opens, OpensInside}
use Rattle.class_table.specs.declared.tables.Body.{Body}
use Rattle.class_table.specs.declared.tables.Owned.{Owned}
use Rattle.class_table.proofs.Taken.{stands_set, set_there, set_same}
use Rattle.class_table.proofs.OwnAt.{own_shown, shown_back}
use Rattle.class_table.proofs.Enclosing.{inside_owned, owned_inside, within_then}

-- one more is marked
pub marked-set : (seen : List Bool) (b : ℕ) → b < length seen → get_or seen b false ≡ false
    → count_of_marked (set seen b true) ≡ count_of_marked seen + 1
marked-set [] b l e = absurd (omega (arith, l))
marked-set (true ∷ xs) zero l e = cc
marked-set (false ∷ xs) zero l e = refl
marked-set (true ∷ xs) (suc b) l e = ap (λ (n : ℕ). n + 1) (marked-set xs b (omega (arith, l)) e)
marked-set (false ∷ xs) (suc b) l e = marked-set xs b (omega (arith, l)) e

pub marked-le-length : (seen : List Bool) → count_of_marked seen ≤ length seen
marked-le-length [] = omega arith
marked-le-length (true ∷ xs) = let h = marked-le-length xs in omega arith
marked-le-length (false ∷ xs) = let h = marked-le-length xs in omega arith

-- a body that is none
pub opens_past : (b : ℕ) (old : List ℕ) (seen : List Bool) → length seen ≤ b → IsSeen seen old
    → OpensOne b old old seen
opens_past b old seen l h = record {
  added = [];
  joined = sym (append-nil old);
  only = λ c o. absurd (one_none c o);
  is_open = λ m. absurd (omega (arith, l, m));
  is_seen = h;
}

-- a body that is seen is open
pub opens_seen : (b : ℕ) (old : List ℕ) (seen : List Bool) → IsSeen seen old → Stands seen b true
    → OpensOne b old old seen
opens_seen b old seen h s = record {
  added = [];
  joined = sym (append-nil old);
  only = λ c o. absurd (one_none c o);
  is_open = λ m. h.is_open b s;
  is_seen = h;
}

-- a body that is not is opened
pub opens_new : (b : ℕ) (old new : List ℕ) (seen : List Bool) → b < length seen → get_or seen b false ≡ false
    → new ≡ old ++ b ∷ [] → IsSeen seen old → OpensOne b old new (set seen b true)
opens_new b old new seen l n e h = record {
  added = b ∷ [];
  joined = e;
  only = λ c o. elim (one_cases b [] c o) [ inl i ↦ sym i | inr i ↦ absurd (one_none c i) ];
  is_open = λ m. is_last;
  is_seen = record {
    no_more =
        let c = marked-set seen b l n in let k = h.no_more in let f = ap length e in
        let g = length-append old (b ∷ []) in omega arith;
    has_seen = λ c o. elim (one_split old (b ∷ []) c (subst (λ (xs : List ℕ). IsOneOf xs c) e o)) [
      | inl i ↦ set_same seen b true c (h.has_seen c i)
      | inr i ↦ elim (one_cases b [] c i)
          [ inl j ↦ subst (λ (k : ℕ). Stands (set seen b true) k true) j (set_there seen b true l) | inr j ↦ absurd (one_none c j) ]
    ];
    is_open = λ c s. elim (stands_set seen b true c true s) [
      | inl i ↦ subst (IsOneOf new) (sym i.0) is_last
      | inr i ↦ subst (λ (xs : List ℕ). IsOneOf xs c) (sym e) (one_left old (b ∷ []) c (h.is_open c i))
    ];
  };
}
  where
    is_last : IsOneOf new b
    is_last = subst (λ (xs : List ℕ). IsOneOf xs b) (sym e) (one_right old (b ∷ []) b (one_first b []))

-- members that put nothing inside
pub opens_none : (d : Declared) (own : List Owned) (old : List ℕ) (seen : List Bool)
    → ((o : Owned) → IsOneOf own o → put_inside d o ≡ None) → IsSeen seen old → Opens d own old old seen
opens_none d own old seen n h = record {
  added = [];
  joined = sym (append-nil old);
  only = λ c o. absurd (one_none c o);
  are_open = λ o b at s e m. let g = n o s in cc;
  is_seen = h;
}

-- a member that puts one inside
pub opens_some : (d : Declared) (o : Owned) (b : ℕ) (at : Option Place) (old new : List ℕ) (seen : List Bool)
    → put_inside d o ≡ Some (b, at) → OpensOne b old new seen → Opens d (o ∷ []) old new seen
opens_some d o b at old new seen e h = record {
  added = h.added;
  joined = h.joined;
  only = λ c i. (o, at, one_first o [], e ∙ ap (λ (x : ℕ). Some (x, at)) (sym (h.only c i)));
  are_open = λ q c p s f m. let same : c ≡ b = sym (ap (λ (z : ℕ × Option Place). z.0) (same_Some _ _ (sym e ∙ (ap (put_inside d) (is_it q s) ∙ f)))) in subst (IsOneOf new) (sym same) (h.is_open (subst (λ (x : ℕ). x < length seen) same m));
  is_seen = h.is_seen;
}
  where
    is_it : (q : Owned) → IsOneOf (o ∷ []) q → o ≡ q
    is_it q s = elim (one_cases o [] q s) [ inl i ↦ i | inr i ↦ absurd (one_none q i) ]

-- members after others
pub opens_next : (d : Declared) (os ps : List Owned) (old mid new : List ℕ) (s t : List Bool) → length t ≡ length s
    → Opens d os old mid s → Opens d ps mid new t → Opens d (os ++ ps) old new t
opens_next d os ps old mid new s t n h k = record {
  added = h.added ++ k.added;
  joined = k.joined ∙ (ap (λ (xs : List ℕ). xs ++ k.added) h.joined ∙ append_assoc old h.added k.added);
  only = λ b i. elim (one_split h.added k.added b i) [
    | inl j ↦ let w = h.only b j in (w.0, w.1, one_left os ps w.0 w.2, w.3)
    | inr j ↦ let w = k.only b j in (w.0, w.1, one_right os ps w.0 w.2, w.3)
  ];
  are_open = λ o b at i e l. elim (one_split os ps o i) [
    | inl j ↦ subst (λ (xs : List ℕ). IsOneOf xs b) (sym k.joined) (one_left mid k.added b (h.are_open o b at j e (omega (arith, l, n))))
    | inr j ↦ k.are_open o b at j e l
  ];
  is_seen = k.is_seen;
}

module _ (d : Declared) (bodies : List Body) (shown : Along IsBodyOf bodies d.bodies) where
  -- the members of a body, or no body
  pub inside_all : (k : ℕ) (b : Body) (old new : List ℕ) (seen : List Bool) → Stands bodies k b
      → Opens d b.own.items old new seen → OpensInside d k old new seen
  inside_all k b old new seen s h = record {
    added = h.added;
    joined = h.joined;
    only = λ c i. let w = h.only c i in owned_inside d k c w.0 w.1 (subst (λ (os : List Owned). IsOneOf os w.0) (sym (own_shown d bodies shown k b s)) w.2) w.3;
    are_open = λ c i l. let w = inside_owned d k c i in h.are_open w.0 c w.1 (subst (λ (os : List Owned). IsOneOf os w.0) (own_shown d bodies shown k b s) w.2) w.3 l;
    is_seen = h.is_seen;
  }

  -- where something is inside a body, there is the body
  pub has_body : (a c : ℕ) → HasInside d a c → a < length bodies
  has_body a c i = let w = inside_owned d a c i in let v = shown_back d bodies shown a w.0 w.2 in stands_within bodies a v.0 v.1

  pub inside_no : (k : ℕ) (old : List ℕ) (seen : List Bool) → length bodies ≤ k → IsSeen seen old
      → OpensInside d k old old seen
  inside_no k old seen l h = record {
    added = [];
    joined = sym (append-nil old);
    only = λ c i. absurd (one_none c i);
    are_open = λ c i n. let m = has_body k c i in absurd (omega (arith, l));
    is_seen = h;
  }

-- at first none is seen
pub none_seen : (seen : List Bool) (n : ℕ) → seen ≡ replicate n false → (k : ℕ) → Stands seen k true → ⊥
none_seen seen n e k s = none n k (subst (λ (xs : List Bool). Stands xs k true) e s)
  where
    none : (n k : ℕ) → Stands (replicate n false) k true → ⊥
    none zero k s = stands_none k true s
    none (suc n) zero s = cc
    none (suc n) (suc k) s = none n k s

-- where a search among n bodies stands: the bodies from the first on are open, those before the next one are done
pub record Search (d : Declared) (n first to next : ℕ) (found : List ℕ) (seen : List Bool) : Type 0 where
  pub room : length seen ≡ n
  pub is_seen : IsSeen seen found
  pub start : first < n → IsOneOf found first
  pub within : (b : ℕ) → IsOneOf found b → IsWithin d first b
  pub done : (k b : ℕ) → k < next → Stands found k b
      → (b ≡ to → ⊥) × ((c : ℕ) → HasInside d b c → c < n → IsOneOf found c)

-- nothing is marked and nothing is open
pub none_open : (n : ℕ) (seen : List Bool) (found : List ℕ) → seen ≡ replicate n false → found ≡ [] → IsSeen seen found
none_open n seen found e f = record {
  is_open = λ b s. absurd (none_seen seen n e b s);
  has_seen = λ b o. absurd (one_none b (subst (λ (xs : List ℕ). IsOneOf xs b) f o));
  no_more = let l = ap length f in omega arith;
}

pub search_start : (d : Declared) (n first to : ℕ) (old found : List ℕ) (seen : List Bool) → length seen ≡ n
    → old ≡ [] → OpensOne first old found seen → Search d n first to 0 found seen
search_start d n first to old found seen r e o = record {
  room = r;
  is_seen = o.is_seen;
  start = λ l. o.is_open (omega (arith, l, r));
  within = λ b i. elim (one_split old o.added b (subst (λ (xs : List ℕ). IsOneOf xs b) o.joined i)) [ inl f ↦ absurd (one_none b (subst (λ (xs : List ℕ). IsOneOf xs b) e f)) | inr f ↦ subst (IsWithin d first) (sym (o.only b f)) itself ];
  done = λ k b l s. absurd (omega (arith, l));
}

pub search_next : (d : Declared) (n first to next body : ℕ) (old new : List ℕ) (s t : List Bool)
    → Search d n first to next old s → Stands old next body → (body ≡ to → ⊥) → length t ≡ length s
    → OpensInside d body old new t → Search d n first to (next + 1) new t
search_next d n first to next body old new s t h at not_to e o = record {
  room = e ∙ h.room;
  is_seen = o.is_seen;
  start = λ l. more first (h.start l);
  within = λ b i. elim (one_split old o.added b (subst (λ (xs : List ℕ). IsOneOf xs b) o.joined i)) [
    | inl j ↦ h.within b j
    | inr j ↦ within_then d first body b (h.within body (one_here old next body at)) (o.only b j)
  ];
  done = λ k b l i. elim (lt_or_same k next (omega (arith, l))) [
    | inl m ↦ let w = h.done k b m (before k b m i) in (w.0, λ c j q. more c (w.1 c j q))
    | inr same_place ↦
        let same : b ≡ body = here k b same_place i in
        (λ f. not_to (sym same ∙ f), λ c j q. let r = h.room in o.are_open c (subst (λ (x : ℕ). HasInside d x c) same j) (omega (arith, q, e, r)))
  ];
}
  where
    more : (b : ℕ) → IsOneOf old b → IsOneOf new b
    more b i = subst (λ (xs : List ℕ). IsOneOf xs b) (sym o.joined) (one_left old o.added b i)

    in_old : (k b : ℕ) → k ≤ next → Stands new k b → Stands old k b
    in_old k b l i = elim (stands_split old o.added k b (subst (λ (xs : List ℕ). Stands xs k b) o.joined i)) [
      | inl j ↦ j
      | inr j ↦ let m = stands_within old next body at in absurd (omega (arith, l, m, j.1))
    ]

    before : (k b : ℕ) → k < next → Stands new k b → Stands old k b
    before k b l i = in_old k b (omega (arith, l)) i

    here : (k b : ℕ) → k ≡ next → Stands new k b → b ≡ body
    here k b e i = let j = in_old k b (omega (arith, e)) i in let m = subst (λ (x : ℕ). Stands old x b) e j in cc

-- a search that is through has met all bodies that are within
pub search_end : (d : Declared) (n first to next : ℕ) (found : List ℕ) (seen : List Bool)
    → ((a c : ℕ) → HasInside d a c → a < n) → to < n → length found ≤ next
    → Search d n first to next found seen → IsWithin d first to → ⊥
search_end d n first to next found seen bodies in_range l h w =
    let i = closed first to h.start w in_range in let m = stands_within found i.place to i.stands in
    (h.done i.place to (omega arith) i.stands).0 refl
  where
    closed : (a b : ℕ) → (a < n → IsOneOf found a) → IsWithin d a b → b < n → IsOneOf found b
    closed a b i itself q = i q
    closed a b i (further c e v) q =
        let j = i (bodies a c e) in
        let m = stands_within found j.place a j.stands in
        closed c b ((h.done j.place a (omega arith) j.stands).1 c e) v q

-- no more bodies are open than there are
pub search_fits : (d : Declared) (n first to next : ℕ) (found : List ℕ) (seen : List Bool)
    → Search d n first to next found seen → length found ≤ n
search_fits d n first to next found seen h =
    let a = h.is_seen.no_more in let b = marked-le-length seen in let c = h.room in omega arith
