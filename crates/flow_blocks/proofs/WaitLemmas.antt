-- How a state of waiting changes.
use Rattle.std.proofs.Common.{◌≡◌, ◌≢◌, ℕ, zero, suc, ◌<◌, ◌⊎◌, ◌↔◌, inl, inr, Bool, true, false, true≢false, List, [], ◌∷◌, ◌++◌, Vec, Global, length, set, replicate, refl, sym, ap, ◌∙◌, subst, arith}
use Rattle.std.proofs.lemmas.Bool.{cases_eq}
use Rattle.std.proofs.lemmas.List.{length-set}
use Rattle.std.specs.Vec.{with_item}
use Rattle.std.specs.BTreeSet.{BTreeSet}
use Rattle.std.specs.BTreeMap.{is_at}
use Rattle.std.specs.List.{list_any}
use Rattle.std.specs.Ordering.{nat_cmp}
use Rattle.ar_base.specs.Lists.{Stands, IsOneOf}
use Rattle.ar_base.proofs.Standing.{stands_none, stands_left, stands_next, stands_split, one_rest, one_cases, one_first}
use Rattle.flow_blocks.specs.Bits.{row_of}
use Rattle.flow_blocks.specs.Waits.{Crosses, IsClassReady, WasGiven, IsWaiting, IsClassTaken}
use Rattle.flow_blocks.specs.declared.giving.Waiting.{Waiting}
use Rattle.flow_blocks.proofs.RowLemmas.{row_set_same, row_set_other}
use Rattle.flow_blocks.proofs.TableLemmas.{the_one}
use Rattle.flow_blocks.proofs.UseLemmas.{set_stands, set_keeps}

-- what the targets of a class are when those that were given, and the class itself, may be dropped
pub record AreTrimmed (old new : List (Vec ℕ Global)) (given : List Bool) : Type 0 where
  pub long : length new ≡ length old
  pub fewer : (e d : ℕ) → IsOneOf (row_of new e) d → IsOneOf (row_of old e) d
  pub kept : (e d : ℕ) → IsOneOf (row_of old e) d → (d ≡ e) ⊎ (WasGiven given d ⊎ IsOneOf (row_of new e) d)

module _ (count : ℕ) (uses : List (ℕ × ℕ)) (class_of : List ℕ) (w v : Waiting) (class : ℕ) (pending : List ℕ)
    (waits : IsWaiting count uses class_of w (class ∷ pending))
    (given : v.given.items ≡ w.given.items) (trimmed : AreTrimmed w.targets.items v.targets.items w.given.items) where
  own : (class < count) × (WasGiven w.given.items class → ⊥)
  own = waits.to_look_at class (one_first class pending)

  back : (e : ℕ) → WasGiven v.given.items e → WasGiven w.given.items e
  back e g = subst (λ (l : List Bool). WasGiven l e) given g

  forth : (e : ℕ) → WasGiven w.given.items e → WasGiven v.given.items e
  forth e g = subst (λ (l : List Bool). WasGiven l e) (sym given) g

  left_on : (e d : ℕ) → (WasGiven v.given.items e → ⊥) → Crosses uses class_of e d
      → (d ≡ e) ⊎ (WasGiven v.given.items d ⊎ IsOneOf (row_of v.targets.items e) d)
  left_on e d not_given crosses = elim (waits.left e d (λ g. not_given (forth e g)) crosses) [
    | inl same ↦ inl same
    | inr more ↦ elim more [
      | inl g ↦ inr (inl (forth d g))
      | inr one ↦ elim (trimmed.kept e d one)
          [ inl same ↦ inl same | inr rest ↦ elim rest [ inl g ↦ inr (inl (forth d g)) | inr there ↦ inr (inr there) ] ]
    ]
  ]

  closed_on : (e d : ℕ) → WasGiven v.given.items e → Crosses uses class_of e d → (d ≡ e) ⊎ WasGiven v.given.items d
  closed_on e d g crosses = elim (waits.closed e d (back e g) crosses)
      [ inl same ↦ inl same | inr there ↦ inr (forth d there) ]

  pending_on : (e : ℕ) → IsOneOf pending e → (e < count) × (WasGiven v.given.items e → ⊥)
  pending_on e one = let h = waits.to_look_at e (one_rest class pending e one) in (h.0, λ g. h.1 (back e g))

  -- the class watches another one
  pub watches_now : (target : ℕ) → IsOneOf (row_of w.targets.items class) target → target ≢ class
      → (WasGiven w.given.items target → ⊥) → v.ready ≡ w.ready
      → length v.watchers.items ≡ length w.watchers.items
      → ((d e : ℕ) → IsOneOf (row_of v.watchers.items d) e
      → IsOneOf (row_of w.watchers.items d) e ⊎ ((d ≡ target) × (e ≡ class)))
      → ((d e : ℕ) → IsOneOf (row_of w.watchers.items d) e → IsOneOf (row_of v.watchers.items d) e)
      → IsOneOf (row_of v.watchers.items target) class
      → IsWaiting count uses class_of v pending
  watches_now target is_target other not_given same_ready long watched kept now = record {
    long_targets = trimmed.long ∙ waits.long_targets;
    long_watchers = long ∙ waits.long_watchers;
    long_given = ap length given ∙ waits.long_given;
    crossed = waits.crossed;
    each = λ e lt free. elim (waits.each e lt (λ g. free (forth e g))) [
      | inl ready ↦ inl (subst (λ r. IsClassReady r e) (sym same_ready) ready)
      | inr more ↦ elim more [
        | inl waiting ↦ inr (inl (
          waiting.0,
          record
              { watches = kept waiting.0 e waiting.1.watches; not_given = λ g. waiting.1.not_given (back waiting.0 g) },
        ))
        | inr one ↦ elim (one_cases class pending e one) [
          | inl is ↦ inr (inl (
            target,
            record {
              watches = subst (λ (k : ℕ). IsOneOf (row_of v.watchers.items target) k) is now;
              not_given = λ g. not_given (back target g);
            },
          ))
          | inr rest ↦ inr (inr rest)
        ]
      ]
    ];
    ready = λ e r. let h = waits.ready e (subst (λ s. IsClassReady s e) same_ready r) in
        (h.0, λ g. h.1 (back e g), λ d crosses. elim (h.2 d crosses) [ inl same ↦ inl same | inr g ↦ inr (forth d g) ]);
    watching = λ d e one. elim (watched d e one) [
      | inl old ↦ waits.watching d e old
      | inr new ↦
          let crosses : Crosses uses class_of class target = waits.targets class target is_target in (
            subst (λ (k : ℕ). k < count) (sym new.1) own.0,
            subst (λ (k : ℕ). Crosses uses class_of k d) (sym new.1)
                (subst (λ (k : ℕ). Crosses uses class_of class k) (sym new.0) crosses),
            λ same. other (sym new.0 ∙ same ∙ new.1),
          )
    ];
    targets = λ e d one. waits.targets e d (trimmed.fewer e d one);
    left = left_on;
    closed = closed_on;
    to_look_at = pending_on;
  }

  -- the class may be given
  pub ready_now : ((d : ℕ) → IsOneOf (row_of w.targets.items class) d → (d ≡ class) ⊎ WasGiven w.given.items d)
      → ((e : ℕ) → IsClassReady v.ready e ↔ (IsClassReady w.ready e ⊎ (e ≡ class)))
      → v.watchers.items ≡ w.watchers.items → IsWaiting count uses class_of v pending
  ready_now none_left added same_watchers = record {
    long_targets = trimmed.long ∙ waits.long_targets;
    long_watchers = ap length same_watchers ∙ waits.long_watchers;
    long_given = ap length given ∙ waits.long_given;
    crossed = waits.crossed;
    each = λ e lt free. elim (waits.each e lt (λ g. free (forth e g))) [
      | inl ready ↦ inl ((added e).1 (inl ready))
      | inr more ↦ elim more [
        | inl waiting ↦ inr (inl (
          waiting.0,
          record {
            watches = subst (λ (l : List (Vec ℕ Global)). IsOneOf (row_of l waiting.0) e) (sym same_watchers)
                waiting.1.watches;
            not_given = λ g. waiting.1.not_given (back waiting.0 g);
          },
        ))
        | inr one ↦ elim (one_cases class pending e one) [
          | inl is ↦ inl ((added e).1 (inr (sym is)))
          | inr rest ↦ inr (inr rest)
        ]
      ]
    ];
    ready = λ e r. elim ((added e).0 r) [
      | inl old ↦ let h = waits.ready e old in (h.0, λ g. h.1 (back e g), λ d crosses. elim (h.2 d crosses) [ inl same ↦ inl same | inr g ↦ inr (forth d g) ])
      | inr is ↦ (
        subst (λ (k : ℕ). k < count) (sym is) own.0,
        λ g. own.1 (back class (subst (λ (k : ℕ). WasGiven v.given.items k) is g)),
        λ d crosses. elim (waits.left class d own.1 (subst (λ (k : ℕ). Crosses uses class_of k d) is crosses)) [
          | inl same ↦ inl (same ∙ sym is)
          | inr more ↦ elim more [
            | inl g ↦ inr (forth d g)
            | inr one ↦ elim (none_left d one) [ inl same ↦ inl (same ∙ sym is) | inr g ↦ inr (forth d g) ]
          ]
        ],
      )
    ];
    watching = λ d e one. waits.watching d e
        (subst (λ (l : List (Vec ℕ Global)). IsOneOf (row_of l d) e) same_watchers one);
    targets = λ e d one. waits.targets e d (trimmed.fewer e d one);
    left = left_on;
    closed = closed_on;
    to_look_at = pending_on;
  }

-- a class is given, and those that wait for it are still to be looked at
module _ (count : ℕ) (uses : List (ℕ × ℕ)) (class_of : List ℕ) (w v : Waiting) (class : ℕ)
    (waits : IsWaiting count uses class_of w (class ∷ []))
    (taken : IsClassTaken uses class_of w class) (given : v.given.items ≡ set w.given.items class true)
    (same_targets : v.targets.items ≡ w.targets.items) (same_ready : v.ready ≡ w.ready)
    (long : length v.watchers.items ≡ length w.watchers.items)
    (cleared : (e : ℕ) → IsOneOf (row_of v.watchers.items class) e → ⊥)
    (kept : (d e : ℕ) → (d ≡ class → ⊥) → IsOneOf (row_of v.watchers.items d) e
    ↔ IsOneOf (row_of w.watchers.items d) e) where
  inside : class < length w.given.items
  inside = let h = (waits.to_look_at class (one_first class [])).0 in omega (arith, h, waits.long_given)

  free : WasGiven w.given.items class → ⊥
  free = (waits.to_look_at class (one_first class [])).1

  more_given : (e : ℕ) → WasGiven w.given.items e → WasGiven v.given.items e
  more_given e g = subst (λ (l : List Bool). WasGiven l e) (sym given)
      (set_keeps w.given.items class e true (λ same. free (subst (λ (k : ℕ). WasGiven w.given.items k) same g)) ∙ g)

  now_given : WasGiven v.given.items class
  now_given = subst (λ (l : List Bool). WasGiven l class) (sym given) (set_stands w.given.items class true inside)

  given_before : (e : ℕ) → WasGiven v.given.items e → (e ≡ class) ⊎ WasGiven w.given.items e
  given_before e g = elim (cases_eq e class) [
    | inl same ↦ inl same
    | inr other ↦ inr
        (sym (set_keeps w.given.items class e true other) ∙ subst (λ (l : List Bool). WasGiven l e) given g)
  ]

  closed_now : (e d : ℕ) → WasGiven v.given.items e → Crosses uses class_of e d → (d ≡ e) ⊎ WasGiven v.given.items d
  closed_now e d g crosses = elim (given_before e g) [
    | inl is ↦ elim (taken.all_given d (subst (λ (k : ℕ). Crosses uses class_of k d) is crosses))
        [ inl same ↦ inl (same ∙ sym is) | inr there ↦ inr (more_given d there) ]
    | inr before ↦ elim (waits.closed e d before crosses) [ inl same ↦ inl same | inr there ↦ inr (more_given d there) ]
  ]

  pub gives_now : IsWaiting count uses class_of v (row_of w.watchers.items class)
  gives_now = record {
    long_targets = ap length same_targets ∙ waits.long_targets;
    long_watchers = long ∙ waits.long_watchers;
    long_given = ap length given ∙ length-set w.given.items class true ∙ waits.long_given;
    crossed = waits.crossed;
    each = λ e lt not_now. elim (waits.each e lt (λ g. not_now (more_given e g))) [
      | inl ready ↦ inl (subst (λ r. IsClassReady r e) (sym same_ready) ready)
      | inr more ↦ elim more [
        | inl waiting ↦ elim (cases_eq waiting.0 class) [
          | inl is ↦ inr (inr (subst (λ (k : ℕ). IsOneOf (row_of w.watchers.items k) e) is waiting.1.watches))
          | inr other ↦ inr (inl (
            waiting.0,
            record {
              watches = (kept waiting.0 e other).1 waiting.1.watches;
              not_given = λ g. elim (given_before waiting.0 g)
                  [ inl is ↦ other is | inr before ↦ waiting.1.not_given before ];
            },
          ))
        ]
        | inr one ↦ elim (one_cases class [] e one) [
          | inl is ↦ absurd (not_now (subst (λ (k : ℕ). WasGiven v.given.items k) is now_given))
          | inr none ↦ absurd (stands_none none.place e none.stands)
        ]
      ]
    ];
    ready = λ e r. let h = waits.ready e (subst (λ s. IsClassReady s e) same_ready r) in (
      h.0,
      λ g. elim (given_before e g) [
        | inl is ↦ taken.not_ready (subst (λ (k : ℕ). IsClassReady w.ready k) is (subst (λ s. IsClassReady s e) same_ready r))
        | inr before ↦ h.1 before
      ],
      λ d crosses. elim (h.2 d crosses)
          [ inl same ↦ inl same | inr g ↦ inr (more_given d g) ],
    );
    watching = λ d e one. elim (cases_eq d class) [
      | inl is ↦ absurd (cleared e (subst (λ (k : ℕ). IsOneOf (row_of v.watchers.items k) e) is one))
      | inr other ↦ waits.watching d e ((kept d e other).0 one)
    ];
    targets = λ e d one. waits.targets e d
        (subst (λ (l : List (Vec ℕ Global)). IsOneOf (row_of l e) d) same_targets one);
    left = λ e d not_now crosses. elim (waits.left e d (λ g. not_now (more_given e g)) crosses) [
      | inl same ↦ inl same
      | inr more ↦ elim more [
        | inl g ↦ inr (inl (more_given d g))
        | inr one ↦ inr (inr (subst (λ (l : List (Vec ℕ Global)). IsOneOf (row_of l e) d) (sym same_targets) one))
      ]
    ];
    closed = closed_now;
    to_look_at = λ e one. let h = waits.watching class e one in (
      h.0,
      λ g. elim (given_before e g) [
        | inl is ↦ h.2 (sym is)
        | inr before ↦ elim (waits.closed e class before h.1) [ inl same ↦ h.2 same | inr there ↦ free there ]
      ],
    );
  }

-- the targets of one class are trimmed
pub trimmed_set : (lists : List (Vec ℕ Global)) (class : ℕ) (v : Vec ℕ Global) (given : List Bool)
    → class < length lists → ((d : ℕ) → IsOneOf v.items d → IsOneOf (row_of lists class) d)
    → ((d : ℕ) → IsOneOf (row_of lists class) d → (d ≡ class) ⊎ (WasGiven given d ⊎ IsOneOf v.items d))
    → AreTrimmed lists (set lists class v) given
trimmed_set lists class v given lt fewer kept = record {
  long = length-set lists class v;
  fewer = λ e d one. elim (cases_eq e class) [
    | inl is ↦ subst (λ (k : ℕ). IsOneOf (row_of lists k) d) (sym is)
        (fewer d (subst (λ (l : List ℕ). IsOneOf l d) (row_set_same lists class v lt)
        (subst (λ (k : ℕ). IsOneOf (row_of (set lists class v) k) d) is one)))
    | inr other ↦ subst (λ (l : List ℕ). IsOneOf l d) (row_set_other lists class e v other) one
  ];
  kept = λ e d one. elim (cases_eq e class) [
    | inl is ↦ elim (kept d (subst (λ (k : ℕ). IsOneOf (row_of lists k) d) is one)) [
      | inl own ↦ inl (own ∙ sym is)
      | inr more ↦ elim more [
        | inl g ↦ inr (inl g)
        | inr there ↦ inr (inr (subst (λ (k : ℕ). IsOneOf (row_of (set lists class v) k) d) (sym is)
            (subst (λ (l : List ℕ). IsOneOf l d) (sym (row_set_same lists class v lt)) there)))
      ]
    ]
    | inr other ↦ inr (inr (subst (λ (l : List ℕ). IsOneOf l d) (sym (row_set_other lists class e v other)) one))
  ];
}

-- one more item in one list
module _ (lists : List (Vec ℕ Global)) (target class : ℕ) (v : Vec ℕ Global) (lt : target < length lists)
    (pushed : v.items ≡ row_of lists target ++ class ∷ []) where
  row_now : row_of (set lists target v) target ≡ row_of lists target ++ class ∷ []
  row_now = row_set_same lists target v lt ∙ pushed

  pub pushed_new : IsOneOf (row_of (set lists target v) target) class
  pushed_new = subst (λ (l : List ℕ). IsOneOf l class) (sym row_now)
      (record { place = length (row_of lists target); stands = stands_next (row_of lists target) class [] })

  pub pushed_kept : (d e : ℕ) → IsOneOf (row_of lists d) e → IsOneOf (row_of (set lists target v) d) e
  pushed_kept d e one = elim (cases_eq d target) [
    | inl is ↦
        let there : IsOneOf (row_of lists target) e = subst (λ (k : ℕ). IsOneOf (row_of lists k) e) is one in
        subst (λ (k : ℕ). IsOneOf (row_of (set lists target v) k) e) (sym is)
        (subst (λ (l : List ℕ). IsOneOf l e) (sym row_now)
        (record {
          place = there.place;
          stands = stands_left (row_of lists target) (class ∷ []) there.place e
              there.stands;
        }))
    | inr other ↦ subst (λ (l : List ℕ). IsOneOf l e) (sym (row_set_other lists target d v other)) one
  ]

  pub pushed_split : (d e : ℕ) → IsOneOf (row_of (set lists target v) d) e
      → IsOneOf (row_of lists d) e ⊎ ((d ≡ target) × (e ≡ class))
  pushed_split d e one = elim (cases_eq d target) [
    | inl is ↦
        let there = subst (λ (l : List ℕ). IsOneOf l e) row_now
        (subst (λ (k : ℕ). IsOneOf (row_of (set lists target v) k) e) is one) in
        elim (stands_split (row_of lists target) (class ∷ []) there.place e there.stands) [
          | inl old ↦ inl (subst (λ (k : ℕ). IsOneOf (row_of lists k) e) (sym is)
              (record { place = there.place; stands = old }))
          | inr last ↦ inr (is, (the_one class e last.0 last.2).1)
        ]
    | inr other ↦ inl (subst (λ (l : List ℕ). IsOneOf l e) (row_set_other lists target d v other) one)
  ]

-- a list that is emptied
pub emptied : (lists : List (Vec ℕ Global)) (class : ℕ) (v : Vec ℕ Global) → class < length lists → v.items ≡ []
    → (e : ℕ) → IsOneOf (row_of (set lists class v) class) e → ⊥
emptied lists class v lt none e one = let there = subst (λ (l : List ℕ). IsOneOf l e) (row_set_same lists class v lt ∙ none) one in stands_none there.place e there.stands

pub others_kept : (lists : List (Vec ℕ Global)) (class : ℕ) (v : Vec ℕ Global) (d e : ℕ) → (d ≡ class → ⊥)
    → IsOneOf (row_of (set lists class v) d) e ↔ IsOneOf (row_of lists d) e
others_kept lists class v d e other = let row = row_set_other lists class d v other in ((λ one. subst (λ (l : List ℕ). IsOneOf l e) row one), (λ one. subst (λ (l : List ℕ). IsOneOf l e) (sym row) one))

-- the state in which the class was given and its watchers were taken
abbrev pub after_giving : Waiting → ℕ → Vec ℕ Global → Waiting
after_giving w class empty = record {
  targets = w.targets;
  watchers = with_item w.watchers class empty;
  given = with_item w.given class true;
  ready = w.ready;
}

pub given_state : (count : ℕ) (uses : List (ℕ × ℕ)) (class_of : List ℕ) (w : Waiting) (class : ℕ) (empty : Vec ℕ Global)
    (watchers : List ℕ) → IsWaiting count uses class_of w (class ∷ []) → IsClassTaken uses class_of w class
    → empty.items ≡ [] → watchers ≡ row_of w.watchers.items class
    → IsWaiting count uses class_of (after_giving w class empty) watchers
given_state count uses class_of w class empty watchers waits taken none is =
    let lt = (waits.to_look_at class (one_first class [])).0 in
    let inside : class < length w.watchers.items = omega (arith, lt, waits.long_watchers) in
    subst (λ (l : List ℕ). IsWaiting count uses class_of (after_giving w class empty) l) (sym is)
    (gives_now count uses class_of w (after_giving w class empty) class waits taken refl refl refl
    (length-set w.watchers.items class empty)
    (emptied w.watchers.items class empty inside none) (others_kept w.watchers.items class empty))

-- nothing is ready at first
pub none_ready : (s : BTreeSet ℕ) (e : ℕ) → s.keys ≡ [] → IsClassReady s e → ⊥
none_ready s e is r = true≢false (sym r ∙ ap (λ (ks : List ℕ). list_any (is_at (nat_cmp e)) ks) is)
