-- Sets, a value at a time.
use Rattle.std.proofs.Common.{◌≡◌, ℕ, ◌+◌, ◌<◌, ◌≤◌, Bool, true, false, IsTrue, List, [], ◌∷◌, ◌++◌, length, take, drop, Contains, get_or, Option, Some, None, Result, Ok, Err, IsErrAnd, refl, sym, ap, ◌∙◌, subst, ◌⊎◌, inl, inr, arith}
use Rattle.std.proofs.lemmas.List.{take_more, take_all, take-append-drop}
use Rattle.std.specs.List.Sorted.{IsPermutation}
use Rattle.std.proofs.lemmas.List.Elements.{Contains-append_left, Contains-append_right, Contains-append_cases, Contains-push, Contains-push_cases}
use Rattle.std.proofs.lemmas.List.Sorted.{Contains-permutation, IsPermutation-sym}
use Rattle.domains.specs.Values.{IsAscending, whole_of}
use Rattle.domains.specs.declared.Value.{Value}
use Rattle.domains.specs.declared.Value.TheVariants.{Truth, Whole}
use Rattle.domains.proofs.Members.{contains-head, contains-cons, contains-cases, nothing-in, contains-one}
use Rattle.domains.proofs.Order.{ascends-from, ascends-length}
use Rattle.typed_expr.specs.Folds.{next_of}
use Rattle.typed_expr.specs.Sets.{HasExactly, AtLimit, KeepsLimit, Gathers, Stopped, AddsValue, Inserts, RefusesValue}
use Rattle.typed_expr.specs.Sizes.{HasMoreThan}
use Rattle.typed_expr.specs.Evaluating.{IsTruth, IsNextOperand, SomeRelated}
use Rattle.typed_expr.specs.declared.fold.Step.{Step}
use Rattle.typed_expr.specs.declared.expr.Relation.{Relation}
use Rattle.typed_expr.specs.declared.value_set.Stop.{Stop}
use Rattle.typed_expr.specs.declared.value_set.Stop.TheVariants.{TooMany, NoMemory}

-- an error that is passed on
pub err-same : {T E : Type 0} (Q : Result T E → Type 0) (r : Result T E) (x : E) → IsErrAnd r (λ e. e ≡ x) → Q (Err x)
    → Q r
err-same Q (Ok v) x h q = elim h [ ]
err-same {T} {E} Q (Err e) x h q = let P : E → Type 0 = λ z. Q (Err z) in subst P (sym h) q

-- more values, more than so many
pub more-than : {n : ℕ} {P Q : Value → Type 0} → ((v : Value) → P v → Q v) → HasMoreThan n P → HasMoreThan n Q
more-than f h = record { values = h.values; ascend = h.ascend; more = h.more; each = λ v m. f v (h.each v m) }

pub at-limit : (most : Option ℕ) {P Q : ℕ → Type 0} → ((n : ℕ) → P n → Q n) → AtLimit most P → AtLimit most Q
at-limit None f h = h
at-limit (Some n) f h = f n h

pub stopped-up : (most : Option ℕ) (C D : ℕ → Type 0) → ((n : ℕ) → C n → D n) → (stop : Stop) → Stopped most C stop
    → Stopped most D stop
stopped-up None C D f TooMany h = h
stopped-up (Some n) C D f TooMany h = f n h
stopped-up most C D f (NoMemory memory) h = tt

-- the same gathered under another description
pub gathers-as : (most : Option ℕ) (r : Result (List Value) Stop) {P Q : Value → Type 0} → ((v : Value) → P v → Q v)
    → ((v : Value) → Q v → P v) → Gathers most r P → Gathers most r Q
gathers-as most (Ok set) f g h =
    (record { sound = λ v m. f v (h.0.sound v m); complete = λ v q. h.0.complete v (g v q) }, h.1)
gathers-as most (Err TooMany) {P} {Q} f g h =
    at-limit most {P = λ n. HasMoreThan n P} {Q = λ n. HasMoreThan n Q} (λ n. more-than f) h
gathers-as most (Err (NoMemory memory)) f g h = tt

-- where the set has exactly the values of P and another goes in
pub exactly-put : (set new : List Value) (v : Value) (P Q : Value → Type 0) → HasExactly set P → AddsValue set v new
    → ((d : Value) → P d → Q d) → Q v
    → ((d : Value) → Q d → P d ⊎ (d ≡ v)) → HasExactly new Q
exactly-put set new v P Q h a up here down = record {
  sound = λ d m. elim (a.only d m) [ inl k ↦ up d (h.sound d k) | inr e ↦ subst Q (sym e) here ];
  complete = λ d q.
      elim
      (down d q) [ inl p ↦ a.kept d (h.complete d p) | inr e ↦ subst (λ (z : Value). Contains new z) (sym e) a.added ];
}

-- where one more is refused, there are too many
pub refused-put : (most : Option ℕ) (set : List Value) (v : Value) (stop : Stop) (P Q : Value → Type 0)
    → HasExactly set P → RefusesValue most set v stop → ((d : Value) → P d → Q d) → Q v
    → Gathers most (Err stop) Q
refused-put None set v TooMany P Q h r up here = r
refused-put (Some n) set v TooMany P Q h (new, a, s, l) up here = record {
  values = new;
  ascend = s;
  more = l;
  each = λ d m. elim (a.only d m) [ inl k ↦ up d (h.sound d k) | inr e ↦ subst Q (sym e) here ];
}
refused-put most set v (NoMemory memory) P Q h r up here = tt

-- a set of exactly the values of P within the limit: they are not too many
pub not-more : (most : Option ℕ) (set : List Value) (P : Value → Type 0) → IsAscending set → HasExactly set P
    → KeepsLimit most set → AtLimit most (λ n. HasMoreThan n P) → ⊥
not-more None set P a h k m = m
not-more (Some n) set P a h k m =
    let l =
    ascends-length m.values set (ascends-from m.values m.ascend) (ascends-from set a)
    (λ d i. h.complete d (m.each d i)) in
    let g = m.more in
    absurd (omega arith)

-- items of the first places of a list, one place on
pub take-cases : {X : Type 0} (xs : List X) (i : ℕ) (d x : X) → i < length xs → Contains (take (i + 1) xs) x
    → Contains (take i xs) x ⊎ (x ≡ get_or xs i d)
take-cases {X} xs i d x h m =
    elim
    (Contains-push_cases (take i xs) (get_or xs i d) x (subst (λ (l : List X). Contains l x) (take_more xs i d h) m))
    [ inl k ↦ inl k | inr e ↦ inr (sym e) ]

pub take-keeps : {X : Type 0} (xs : List X) (i : ℕ) (d x : X) → i < length xs → Contains (take i xs) x
    → Contains (take (i + 1) xs) x
take-keeps {X} xs i d x h m =
    subst (λ (l : List X). Contains l x) (sym (take_more xs i d h))
    (Contains-append_left (take i xs) (get_or xs i d ∷ []) x m)

pub take-has : {X : Type 0} (xs : List X) (i : ℕ) (d : X) → i < length xs → Contains (take (i + 1) xs) (get_or xs i d)
take-has {X} xs i d h =
    subst (λ (l : List X). Contains l (get_or xs i d)) (sym (take_more xs i d h))
    (Contains-push (take i xs) (get_or xs i d))

pub take-within : {X : Type 0} (xs : List X) (i : ℕ) (x : X) → Contains (take i xs) x → Contains xs x
take-within {X} xs i x m =
    subst (λ (l : List X). Contains l x) (take-append-drop i xs) (Contains-append_left (take i xs) (drop i xs) x m)

-- the set has exactly the values of P and keeps the limit
abbrev pub SoFar : Option ℕ → List Value → (Value → Type 0) → Type 0
SoFar most set P = HasExactly set P × KeepsLimit most set

-- with the values of a list put in, as far as place i
abbrev pub JoinedTo : List Value → List Value → ℕ → Value → Type 0
JoinedTo set values i v = Contains set v ⊎ Contains (take i values) v

pub joined-start : (most : Option ℕ) (set values : List Value) → KeepsLimit most set
    → SoFar most set (JoinedTo set values 0)
joined-start most set values k =
    (record { sound = λ v m. inl m; complete = λ v m. elim m [ inl h ↦ h | inr h ↦ absurd (nothing-in v h) ] }, k)

pub joined-more : (most : Option ℕ) (old set new values : List Value) (i : ℕ) (d : Value) → i < length values
    → SoFar most set (JoinedTo old values i)
    → Inserts most set (get_or values i d) new → SoFar most new (JoinedTo old values (i + 1))
joined-more most old set new values i d h s a = (
  exactly-put set new (get_or values i d) (JoinedTo old values i) (JoinedTo old values (i + 1)) s.0 a.0
      (λ v m. elim m [ inl k ↦ inl k | inr k ↦ inr (take-keeps values i d v h k) ])
      (inr (take-has values i d h))
      (λ v m. elim m [
        | inl k ↦ inl (inl k)
        | inr k ↦ elim (take-cases values i d v h k) [ inl l ↦ inl (inr l) | inr e ↦ inr e ]
      ]),
  a.1 s.1,
)

pub joined-refused : (most : Option ℕ) (old set values : List Value) (i : ℕ) (d : Value) (stop : Stop)
    → i < length values → SoFar most set (JoinedTo old values i)
    → RefusesValue most set (get_or values i d) stop → Gathers most (Err stop) (λ v. Contains old v ⊎ Contains values v)
joined-refused most old set values i d stop h s r =
    refused-put most set (get_or values i d) stop (JoinedTo old values i)
    (λ v. Contains old v ⊎ Contains values v) s.0 r
    (λ v m. elim m [ inl k ↦ inl k | inr k ↦ inr (take-within values i v k) ])
    (inr (take-within values (i + 1) (get_or values i d) (take-has values i d h)))

pub joined-end : (most : Option ℕ) (old set values : List Value) (i : ℕ) → length values ≤ i
    → SoFar most set (JoinedTo old values i)
    → Gathers most (Ok set) (λ v. Contains old v ⊎ Contains values v)
joined-end most old set values i h s =
    let P : List Value → Type 0 = λ l. SoFar most set (λ v. Contains old v ⊎ Contains l v) in
    subst P (take_all i values h) s

-- one number with the first places of the values
abbrev pub SteppedTo : Step → Bool → Value → List Value → List Value → ℕ → Value → Type 0
SteppedTo s first n old values i v = Contains old v ⊎ IsNextOperand s first (n ∷ []) (take i values) v

next-more : (s : Step) (first : Bool) (ns values : List Value) (i : ℕ) (d v : Value) → i < length values
    → IsNextOperand s first ns (take i values) v → IsNextOperand s first ns (take (i + 1) values) v
next-more s first ns values i d v h m = record {
  number = m.number;
  value = m.value;
  in_numbers = m.in_numbers;
  in_values = take-keeps values i d m.value h m.in_values;
  is = m.is;
}

next-within : (s : Step) (first : Bool) (ns values : List Value) (i : ℕ) (v : Value)
    → IsNextOperand s first ns (take i values) v → IsNextOperand s first ns values v
next-within s first ns values i v m = record {
  number = m.number;
  value = m.value;
  in_numbers = m.in_numbers;
  in_values = take-within values i m.value m.in_values;
  is = m.is;
}

next-here : (s : Step) (first : Bool) (n : Value) (values : List Value) (i : ℕ) (d : Value) → i < length values
    → IsNextOperand s first (n ∷ []) (take (i + 1) values) (Whole (next_of s first (whole_of n) (get_or values i d)))
next-here s first n values i d h = record {
  number = n;
  value = get_or values i d;
  in_numbers = contains-head n [];
  in_values = take-has values i d h;
  is = refl;
}

next-cases : (s : Step) (first : Bool) (n : Value) (values : List Value) (i : ℕ) (d v : Value) → i < length values
    → IsNextOperand s first (n ∷ []) (take (i + 1) values) v
    → IsNextOperand s first (n ∷ []) (take i values) v ⊎ (v ≡ Whole (next_of s first (whole_of n) (get_or values i d)))
next-cases s first n values i d v h m =
    elim (take-cases values i d m.value h m.in_values) [
      | inl k ↦ inl (record { number = m.number; value = m.value; in_numbers = m.in_numbers; in_values = k; is = m.is })
      | inr e ↦
          inr
          (m.is ∙ ap (λ z. Whole (next_of s first (whole_of z) m.value)) (sym (contains-one n m.number m.in_numbers))
          ∙ ap (λ z. Whole (next_of s first (whole_of n) z)) e)
    ]

pub stepped-start : (most : Option ℕ) (s : Step) (first : Bool) (n : Value) (set values : List Value)
    → KeepsLimit most set → SoFar most set (SteppedTo s first n set values 0)
stepped-start most s first n set values k = (
  record {
    sound = λ v m. inl m;
    complete = λ v m. elim m
        [ inl h ↦ h | inr h ↦ absurd (nothing-in h.value h.in_values) ];
  },
  k,
)

pub stepped-more : (most : Option ℕ) (s : Step) (first : Bool) (n x : Value) (old set new values : List Value) (i : ℕ)
    (d : Value)
    → i < length values
    → SoFar most set (SteppedTo s first n old values i) → x ≡ Whole (next_of s first (whole_of n) (get_or values i d))
    → Inserts most set x new
    → SoFar most new (SteppedTo s first n old values (i + 1))
stepped-more most s first n x old set new values i d h t e a = (
  exactly-put set new x (SteppedTo s first n old values i) (SteppedTo s first n old values (i + 1)) t.0 a.0
      (λ v m. elim m [ inl k ↦ inl k | inr k ↦ inr (next-more s first (n ∷ []) values i d v h k) ])
      (inr (subst (IsNextOperand s first (n ∷ []) (take (i + 1) values)) (sym e) (next-here s first n values i d h)))
      (λ v m. elim m [
        | inl k ↦ inl (inl k)
        | inr k ↦ elim (next-cases s first n values i d v h k) [ inl l ↦ inl (inr l) | inr q ↦ inr (q ∙ sym e) ]
      ]),
  a.1 t.1,
)

pub stepped-refused : (most : Option ℕ) (s : Step) (first : Bool) (n x : Value) (old set values : List Value) (i : ℕ)
    (d : Value) (stop : Stop)
    → i < length values
    → SoFar most set (SteppedTo s first n old values i) → x ≡ Whole (next_of s first (whole_of n) (get_or values i d))
    → RefusesValue most set x stop
    → Gathers most (Err stop) (λ v. Contains old v ⊎ IsNextOperand s first (n ∷ []) values v)
stepped-refused most s first n x old set values i d stop h t e r =
    refused-put most set x stop (SteppedTo s first n old values i)
    (λ v. Contains old v ⊎ IsNextOperand s first (n ∷ []) values v) t.0 r
    (λ v m. elim m [ inl k ↦ inl k | inr k ↦ inr (next-within s first (n ∷ []) values i v k) ])
    (inr (subst (IsNextOperand s first (n ∷ []) values) (sym e)
    (next-within s first (n ∷ []) values (i + 1) _ (next-here s first n values i d h))))

pub stepped-end : (most : Option ℕ) (s : Step) (first : Bool) (n : Value) (old set values : List Value) (i : ℕ)
    → length values ≤ i → SoFar most set (SteppedTo s first n old values i)
    → Gathers most (Ok set) (λ v. Contains old v ⊎ IsNextOperand s first (n ∷ []) values v)
stepped-end most s first n old set values i h t =
    let P : List Value → Type 0 = λ l. SoFar most set (λ v. Contains old v ⊎ IsNextOperand s first (n ∷ []) l v) in
    subst P (take_all i values h) t

numbers_up : (s : Step) (first : Bool) (ns values set : List Value) (i : ℕ) (d n : Value) → i < length ns
    → n ≡ get_or ns i d
    → ((v : Value) → Contains set v → IsNextOperand s first (take i ns) values v) → (v : Value)
    → Contains set v ⊎ IsNextOperand s first (n ∷ []) values v
    → IsNextOperand s first (take (i + 1) ns) values v
numbers_up s first ns values set i d n h e t v (inl k) =
    let m = t v k in
    record {
      number = m.number;
      value = m.value;
      in_numbers = take-keeps ns i d m.number h m.in_numbers;
      in_values = m.in_values;
      is = m.is;
    }
numbers_up s first ns values set i d n h e t v (inr m) = record {
  number = m.number;
  value = m.value;
  in_values = m.in_values;
  is = m.is;
  in_numbers =
      subst (λ (z : Value). Contains (take (i + 1) ns) z) (sym e ∙ contains-one n m.number m.in_numbers)
      (take-has ns i d h);
}

numbers_down : (s : Step) (first : Bool) (ns values set : List Value) (i : ℕ) (d n : Value) → i < length ns
    → n ≡ get_or ns i d
    → ((v : Value) → IsNextOperand s first (take i ns) values v → Contains set v) → (v : Value)
    → IsNextOperand s first (take (i + 1) ns) values v
    → Contains set v ⊎ IsNextOperand s first (n ∷ []) values v
numbers_down s first ns values set i d n h e t v m =
    elim (take-cases ns i d m.number h m.in_numbers) [
      | inl k ↦
          inl (t v (record { number = m.number; value = m.value; in_numbers = k; in_values = m.in_values; is = m.is }))
      | inr q ↦
          inr
          (record {
            number = m.number;
            value = m.value;
            in_values = m.in_values;
            is = m.is;
            in_numbers = subst (λ (z : Value). Contains (n ∷ []) z) (e ∙ sym q) (contains-head n []);
          })
    ]

-- one more number
pub numbers-more : (most : Option ℕ) (s : Step) (first : Bool) (ns values set new : List Value) (i : ℕ) (d n : Value)
    → i < length ns → n ≡ get_or ns i d
    → HasExactly set (IsNextOperand s first (take i ns) values)
    → Gathers most (Ok new) (λ v. Contains set v ⊎ IsNextOperand s first (n ∷ []) values v)
    → SoFar most new (IsNextOperand s first (take (i + 1) ns) values)
numbers-more most s first ns values set new i d n h e t g =
    gathers-as most (Ok new) {P = λ v. Contains set v ⊎ IsNextOperand s first (n ∷ []) values v}
    (numbers_up s first ns values set i d n h e t.sound) (numbers_down s first ns values set i d n h e t.complete) g

pub numbers-refused : (most : Option ℕ) (s : Step) (first : Bool) (ns values set : List Value) (i : ℕ) (d n : Value)
    (stop : Stop)
    → i < length ns → n ≡ get_or ns i d
    → HasExactly set (IsNextOperand s first (take i ns) values)
    → Gathers most (Err stop) (λ v. Contains set v ⊎ IsNextOperand s first (n ∷ []) values v)
    → Gathers most (Err stop) (IsNextOperand s first ns values)
numbers-refused None s first ns values set i d n TooMany h e t g = g
numbers-refused (Some k) s first ns values set i d n TooMany h e t g =
    more-than (λ v m. let u = numbers_up s first ns values set i d n h e t.sound v m in
    record {
      number = u.number;
      value = u.value;
      in_numbers = take-within ns (i + 1) u.number u.in_numbers;
      in_values = u.in_values;
      is = u.is;
    }) g
numbers-refused most s first ns values set i d n (NoMemory memory) h e t g = tt

pub numbers-start : (most : Option ℕ) (s : Step) (first : Bool) (ns values set : List Value) → set ≡ []
    → SoFar most set (IsNextOperand s first (take 0 ns) values)
numbers-start None s first ns values set e = (
  record {
    sound = λ v m. absurd (nothing-in v (subst (λ (l : List Value). Contains l v) e m));
    complete = λ v m. absurd (nothing-in m.number m.in_numbers);
  },
  tt,
)
numbers-start (Some k) s first ns values set e = (
  record {
    sound = λ v m. absurd (nothing-in v (subst (λ (l : List Value). Contains l v) e m));
    complete = λ v m. absurd (nothing-in m.number m.in_numbers);
  },
  rw e (omega arith),
)

pub numbers-end : (most : Option ℕ) (s : Step) (first : Bool) (ns values set : List Value) (i : ℕ) → length ns ≤ i
    → SoFar most set (IsNextOperand s first (take i ns) values)
    → Gathers most (Ok set) (IsNextOperand s first ns values)
numbers-end most s first ns values set i h t =
    let P : List Value → Type 0 = λ l. SoFar most set (IsNextOperand s first l values) in
    subst P (take_all i ns h) t

pub keeps-nothing : (most : Option ℕ) (set : List Value) → set ≡ [] → KeepsLimit most set
keeps-nothing None set e = tt
keeps-nothing (Some k) set e = rw e (omega arith)

-- what gathers from nothing and a list gathers the list
pub gathered-as : (most : Option ℕ) (set values : List Value) (r : Result (List Value) Stop) → set ≡ []
    → Gathers most r (λ v. Contains set v ⊎ Contains values v) → Gathers most r (Contains values)
gathered-as most set values r e g = gathers-as most r {P = λ v. Contains set v ⊎ Contains values v}
    (λ v m. elim m [ inl h ↦ absurd (nothing-in v (subst (λ (l : List Value). Contains l v) e h)) | inr k ↦ k ])
    (λ v m. inr m) g

pub truths-none : (most : Option ℕ) (r : Result (List Value) Stop) → Gathers most r (Contains [])
    → Gathers most r (IsTruth false false)
truths-none most r g =
    gathers-as most r {P = Contains []} (λ v m. absurd (nothing-in v m)) (λ v m. elim m [ inl h ↦ cc | inr h ↦ cc ]) g

pub truths-false : (most : Option ℕ) (r : Result (List Value) Stop) → Gathers most r (Contains (Truth false ∷ []))
    → Gathers most r (IsTruth true false)
truths-false most r g = gathers-as most r {P = Contains (Truth false ∷ [])}
    (λ v m. inl (refl, sym (contains-one (Truth false) v m)))
    (λ v m. elim m [
      | inl h ↦ subst (λ (z : Value). Contains (Truth false ∷ []) z) (sym h.1)
          (contains-head (Truth false) [])
      | inr h ↦ cc
    ]) g

pub truths-true : (most : Option ℕ) (r : Result (List Value) Stop) → Gathers most r (Contains (Truth true ∷ []))
    → Gathers most r (IsTruth false true)
truths-true most r g = gathers-as most r {P = Contains (Truth true ∷ [])}
    (λ v m. inr (refl, sym (contains-one (Truth true) v m)))
    (λ v m. elim m [
      | inl h ↦ cc
      | inr h ↦ subst (λ (z : Value). Contains (Truth true ∷ []) z) (sym h.1)
          (contains-head (Truth true) [])
    ]) g

pub truths-both : (most : Option ℕ) (r : Result (List Value) Stop)
    → Gathers most r (Contains (Truth false ∷ Truth true ∷ [])) → Gathers most r (IsTruth true true)
truths-both most r g = gathers-as most r {P = Contains (Truth false ∷ Truth true ∷ [])}
    (λ v m. elim (contains-cases (Truth false) v (Truth true ∷ []) m)
    [ inl e ↦ inl (refl, sym e) | inr k ↦ inr (refl, sym (contains-one (Truth true) v k)) ])
    (λ v m. elim m [
      | inl h ↦
          subst (λ (z : Value). Contains (Truth false ∷ Truth true ∷ []) z) (sym h.1)
          (contains-head (Truth false) (Truth true ∷ []))
      | inr h ↦
          subst (λ (z : Value). Contains (Truth false ∷ Truth true ∷ []) z) (sym h.1)
          (contains-cons (Truth false) (Truth true) (Truth true ∷ []) (contains-head (Truth true) []))
    ]) g

-- no value so far is so related, and neither is the next
pub left-more : (r : Relation) (us bs : List Value) (wanted : Bool) (i : ℕ) (d : Value) → i < length us
    → (SomeRelated r (take i us) bs wanted → ⊥)
    → (SomeRelated r (get_or us i d ∷ []) bs wanted → ⊥) → SomeRelated r (take (i + 1) us) bs wanted → ⊥
left-more r us bs wanted i d h f n s =
    elim (take-cases us i d s.left h s.in_left) [
      | inl k ↦ f (record { left = s.left; right = s.right; in_left = k; in_right = s.in_right; related = s.related })
      | inr q ↦ n (record {
        left = s.left;
        right = s.right;
        in_right = s.in_right;
        related = s.related;
        in_left = subst (λ (z : Value). Contains (get_or us i d ∷ []) z) (sym q) (contains-head (get_or us i d) []);
      })
    ]

pub wanted-as : (most : Option ℕ) (set more values : List Value) (wanted : Bool) (r : Result (List Value) Stop)
    → wanted ≡ true → values ≡ more
    → Gathers most r (λ v. Contains set v ⊎ Contains values v)
    → Gathers most r (λ v. Contains set v ⊎ (IsTrue wanted × Contains more v))
wanted-as most set more values wanted r w e g = gathers-as most r {P = λ v. Contains set v ⊎ Contains values v}
    (λ v m. elim m [ inl h ↦ inl h | inr k ↦ inr (w, subst (λ (l : List Value). Contains l v) e k) ])
    (λ v m. elim m [ inl h ↦ inl h | inr k ↦ inr (subst (λ (l : List Value). Contains l v) (sym e) k.1) ]) g

-- Results made in runs and sorted

adds-push : (xs : List Value) (v : Value) → AddsValue xs v (xs ++ v ∷ [])
adds-push xs v = record {
  kept = λ d m. Contains-append_left xs (v ∷ []) d m;
  added = Contains-push xs v;
  only = λ d m. elim (Contains-push_cases xs v d m) [ inl k ↦ inl k | inr e ↦ inr (sym e) ];
}

-- what is in a list is in it in another order
pub exactly-sorted : (all sorted : List Value) (P : Value → Type 0) → HasExactly all P → IsPermutation all sorted
    → HasExactly sorted P
exactly-sorted all sorted P h p = record {
  sound = λ v m. h.sound v (Contains-permutation sorted all v (IsPermutation-sym all sorted p) m);
  complete = λ v q. Contains-permutation all sorted v p (h.complete v q);
}

-- the values of one list and then those of another
pub exactly-both : (set values all : List Value) → all ≡ set ++ values
    → HasExactly all (λ v. Contains set v ⊎ Contains values v)
exactly-both set values all e = record {
  sound = λ v m. Contains-append_cases set values v (subst (λ (l : List Value). Contains l v) e m);
  complete = λ v m. subst (λ (l : List Value). Contains l v) (sym e)
      (elim m [ inl k ↦ Contains-append_left set values v k | inr k ↦ Contains-append_right set values v k ]);
}

-- what gathers a list that has exactly the values of P gathers these
pub gathered-exactly : (most : Option ℕ) (all : List Value) (r : Result (List Value) Stop) (P : Value → Type 0)
    → HasExactly all P → Gathers most r (Contains all) → Gathers most r P
gathered-exactly most all r P h g = gathers-as most r {P = Contains all} h.sound h.complete g

-- the results of the first numbers with one value, behind those of before
abbrev pub ResultsTo : Step → Bool → List Value → Value → List Value → ℕ → Value → Type 0
ResultsTo s first numbers v old i w = Contains old w ⊎ IsNextOperand s first (take i numbers) (v ∷ []) w

pub results-start : (s : Step) (first : Bool) (numbers : List Value) (v : Value) (old : List Value)
    → HasExactly old (ResultsTo s first numbers v old 0)
results-start s first numbers v old = record {
  sound = λ w m. inl m;
  complete = λ w m. elim m [ inl h ↦ h | inr h ↦ absurd (nothing-in h.number h.in_numbers) ];
}

result-here : (s : Step) (first : Bool) (numbers : List Value) (v : Value) (i : ℕ) (d : Value) → i < length numbers
    → IsNextOperand s first (take (i + 1) numbers) (v ∷ []) (Whole (next_of s first (whole_of (get_or numbers i d)) v))
result-here s first numbers v i d h = record {
  number = get_or numbers i d;
  value = v;
  in_numbers = take-has numbers i d h;
  in_values = contains-head v [];
  is = refl;
}

result-more : (s : Step) (first : Bool) (numbers : List Value) (v : Value) (i : ℕ) (d w : Value) → i < length numbers
    → IsNextOperand s first (take i numbers) (v ∷ []) w → IsNextOperand s first (take (i + 1) numbers) (v ∷ []) w
result-more s first numbers v i d w h k = record {
  number = k.number;
  value = k.value;
  in_numbers = take-keeps numbers i d k.number h k.in_numbers;
  in_values = k.in_values;
  is = k.is;
}

result-cases : (s : Step) (first : Bool) (numbers : List Value) (v : Value) (i : ℕ) (d w : Value) → i < length numbers
    → IsNextOperand s first (take (i + 1) numbers) (v ∷ []) w
    → IsNextOperand s first (take i numbers) (v ∷ []) w ⊎ (w ≡ Whole (next_of s first (whole_of (get_or numbers i d)) v))
result-cases s first numbers v i d w h k =
    elim (take-cases numbers i d k.number h k.in_numbers) [
      | inl l ↦
          inl (record { number = k.number; value = k.value; in_numbers = l; in_values = k.in_values; is = k.is })
      | inr q ↦
          inr
          (k.is ∙ (ap (λ z. Whole (next_of s first (whole_of z) k.value)) q
          ∙ ap (λ z. Whole (next_of s first (whole_of (get_or numbers i d)) z))
          (sym (contains-one v k.value k.in_values))))
    ]

pub results-more : (s : Step) (first : Bool) (numbers : List Value) (v x : Value) (old set new : List Value) (i : ℕ)
    (d : Value) → i < length numbers → HasExactly set (ResultsTo s first numbers v old i)
    → x ≡ Whole (next_of s first (whole_of (get_or numbers i d)) v) → new ≡ set ++ x ∷ []
    → HasExactly new (ResultsTo s first numbers v old (i + 1))
results-more s first numbers v x old set new i d h t e j =
    subst (λ (l : List Value). HasExactly l (ResultsTo s first numbers v old (i + 1))) (sym j)
    (exactly-put set (set ++ x ∷ []) x (ResultsTo s first numbers v old i) (ResultsTo s first numbers v old (i + 1)) t
    (adds-push set x)
    (λ w m. elim m [ inl k ↦ inl k | inr k ↦ inr (result-more s first numbers v i d w h k) ])
    (inr (subst (IsNextOperand s first (take (i + 1) numbers) (v ∷ [])) (sym e) (result-here s first numbers v i d h)))
    (λ w m. elim m [
      | inl k ↦ inl (inl k)
      | inr k ↦ elim (result-cases s first numbers v i d w h k) [ inl l ↦ inl (inr l) | inr q ↦ inr (q ∙ sym e) ]
    ]))

pub results-end : (s : Step) (first : Bool) (numbers : List Value) (v : Value) (old set : List Value) (i : ℕ)
    → length numbers ≤ i → HasExactly set (ResultsTo s first numbers v old i)
    → HasExactly set (λ w. Contains old w ⊎ IsNextOperand s first numbers (v ∷ []) w)
results-end s first numbers v old set i h t =
    let P : List Value → Type 0 = λ l. HasExactly set (λ w. Contains old w ⊎ IsNextOperand s first l (v ∷ []) w) in
    subst P (take_all i numbers h) t

pub runs-start : (s : Step) (first : Bool) (numbers values set : List Value) → set ≡ []
    → HasExactly set (IsNextOperand s first numbers (take 0 values))
runs-start s first numbers values set e = record {
  sound = λ v m. absurd (nothing-in v (subst (λ (l : List Value). Contains l v) e m));
  complete = λ v m. absurd (nothing-in m.value m.in_values);
}

run_up : (s : Step) (first : Bool) (numbers values set : List Value) (i : ℕ) (d v : Value) → i < length values
    → v ≡ get_or values i d → ((w : Value) → Contains set w → IsNextOperand s first numbers (take i values) w) → (w : Value)
    → Contains set w ⊎ IsNextOperand s first numbers (v ∷ []) w → IsNextOperand s first numbers (take (i + 1) values) w
run_up s first numbers values set i d v h e t w (inl k) =
    let m = t w k in
    record {
      number = m.number;
      value = m.value;
      in_numbers = m.in_numbers;
      in_values = take-keeps values i d m.value h m.in_values;
      is = m.is;
    }
run_up s first numbers values set i d v h e t w (inr m) = record {
  number = m.number;
  value = m.value;
  in_numbers = m.in_numbers;
  is = m.is;
  in_values =
      subst (λ (z : Value). Contains (take (i + 1) values) z) (sym e ∙ contains-one v m.value m.in_values)
      (take-has values i d h);
}

run_down : (s : Step) (first : Bool) (numbers values set : List Value) (i : ℕ) (d v : Value) → i < length values
    → v ≡ get_or values i d → ((w : Value) → IsNextOperand s first numbers (take i values) w → Contains set w) → (w : Value)
    → IsNextOperand s first numbers (take (i + 1) values) w → Contains set w ⊎ IsNextOperand s first numbers (v ∷ []) w
run_down s first numbers values set i d v h e t w m =
    elim (take-cases values i d m.value h m.in_values) [
      | inl k ↦
          inl
          (t w (record { number = m.number; value = m.value; in_numbers = m.in_numbers; in_values = k; is = m.is }))
      | inr q ↦
          inr
          (record {
            number = m.number;
            value = m.value;
            in_numbers = m.in_numbers;
            is = m.is;
            in_values = subst (λ (z : Value). Contains (v ∷ []) z) (e ∙ sym q) (contains-head v []);
          })
    ]

-- one more run
pub runs-more : (s : Step) (first : Bool) (numbers values set new : List Value) (i : ℕ) (d v : Value)
    → i < length values → v ≡ get_or values i d → HasExactly set (IsNextOperand s first numbers (take i values))
    → HasExactly new (λ w. Contains set w ⊎ IsNextOperand s first numbers (v ∷ []) w)
    → HasExactly new (IsNextOperand s first numbers (take (i + 1) values))
runs-more s first numbers values set new i d v h e t g = record {
  sound = λ w m. run_up s first numbers values set i d v h e t.sound w (g.sound w m);
  complete = λ w m. g.complete w (run_down s first numbers values set i d v h e t.complete w m);
}

pub runs-end : (s : Step) (first : Bool) (numbers values all sorted : List Value) (i : ℕ) → length values ≤ i
    → HasExactly all (IsNextOperand s first numbers (take i values)) → IsPermutation all sorted
    → HasExactly sorted (IsNextOperand s first numbers values)
runs-end s first numbers values all sorted i h t p =
    exactly-sorted all sorted (IsNextOperand s first numbers values)
    (let P : List Value → Type 0 = λ l. HasExactly all (IsNextOperand s first numbers l) in subst P (take_all i values h) t) p
