-- The least class that may be given comes next.
use Rattle.std.proofs.Common.{◌≡◌, ◌≢◌, ℕ, zero, suc, ◌<◌, ◌≤◌, ◌⊎◌, ◌↔◌, inl, inr, Bool, true, List, [], ◌∷◌, ◌++◌, length, set, refl, sym, ◌∙◌, subst, arith}
use Rattle.std.specs.BTreeSet.{BTreeSet}
use Rattle.std.proofs.lemmas.Bool.{cases_eq}
use Rattle.ar_base.specs.Lists.{Stands, IsOneOf}
use Rattle.ar_base.proofs.Standing.{stands_none, stands_one, stands_left, stands_next, stands_split, stands_within, stands_some, one_first}
use Rattle.flow_blocks.specs.Blocks.{Depends, directly, through, Together, same, each_other, IsGiven, MayBeGiven, IsNext}
use Rattle.flow_blocks.specs.BlocksInside.{AreUsesBelow}
use Rattle.flow_blocks.specs.Table.{IsClassTable}
use Rattle.flow_blocks.specs.Waits.{Crosses, IsClassReady, WasGiven, IsWaiting, IsClassTaken, AreGivenTogether}
use Rattle.flow_blocks.specs.declared.giving.Waiting.{Waiting}
use Rattle.flow_blocks.proofs.ClassLemmas.{together_on, together_back}
use Rattle.flow_blocks.proofs.TableLemmas.{the_one}
use Rattle.flow_blocks.proofs.UseLemmas.{set_stands, set_keeps}

module _ (count : ℕ) (uses : List (ℕ × ℕ)) (classes : List (List ℕ)) (class_of : List ℕ)
    (table : IsClassTable count uses classes class_of) (low : AreUsesBelow count uses) where
  -- each number below count has a class
  pub some_class : (n : ℕ) → n < count → (c : ℕ) × Stands class_of n c
  some_class n lt = stands_some class_of n (omega (arith, lt, table.long))

  pub below_count : (n c : ℕ) → Stands class_of n c → n < count
  below_count n c p = let within = stands_within class_of n c p in omega (arith, within, table.long)

  -- numbers of one class are together
  pub same_class : (a b c : ℕ) → Stands class_of a c → Stands class_of b c → Together uses a b
  same_class a b c p q =
      let in_a = table.member_of_class a c p in
      let in_b = table.member_of_class b c q in
      let e : in_b.0 ≡ in_a.0 = stands_one classes c in_b.0 in_a.0 in_b.1 in_a.1 in
      let cl = table.are_classes c in_a.0 in_a.1 in
      together_on (together_back (cl.only a in_a.2)) (cl.only b (subst (λ (l : List ℕ). IsOneOf l b) e in_b.2))

  -- numbers that are together have one class
  pub one_class : (a b c d : ℕ) → Together uses a b → Stands class_of a c → Stands class_of b d → d ≡ c
  one_class a b c d t p q =
      let in_a = table.member_of_class a c p in
      let cl = table.are_classes c in_a.0 in_a.1 in
      let there = cl.all b (below_count b d q) (together_on (cl.only a in_a.2) t) in
      stands_one class_of b d c q (table.class_of_member c b in_a.0 in_a.1 there)

  crossing : (a b c d : ℕ) → IsOneOf uses (a, b) → Stands class_of a c → Stands class_of b d → Crosses uses class_of c d
  crossing a b c d one p q = record { from = a; to = b; is_use = one; class_from = p; class_to = q }

  module _ (w : Waiting) (lists : List (List ℕ)) (waits : IsWaiting (length classes) uses class_of w [])
      (rel : AreGivenTogether class_of w.given.items lists) where
    -- what a given number depends on was given
    given_on : {a b : ℕ} → (c : ℕ) → Stands class_of a c → WasGiven w.given.items c → Depends uses a b → IsGiven lists b
    given_on {a} {b} c p g (directly one) =
        let d = some_class b (low a b one).1 in
        elim (waits.closed c d.0 g (crossing a b c d.0 one p d.1)) [
          | inl is ↦ rel.number b d.0 d.1 (subst (λ (k : ℕ). WasGiven w.given.items k) (sym is) g)
          | inr there ↦ rel.number b d.0 d.1 there
        ]
    given_on {a} {b} c p g (through {b = x} one rest) =
        let d = some_class x (low a x one).1 in
        elim (waits.closed c d.0 g (crossing a x c d.0 one p d.1)) [
          | inl is ↦ given_on d.0 d.1 (subst (λ (k : ℕ). WasGiven w.given.items k) (sym is) g) rest
          | inr there ↦ given_on d.0 d.1 there rest
        ]

    -- what a number of a ready class depends on is of the class or was given
    ready_on : {a b : ℕ} → (c : ℕ) → IsClassReady w.ready c → Stands class_of a c → Depends uses a b
        → Stands class_of b c ⊎ IsGiven lists b
    ready_on {a} {b} c ready p (directly one) =
        let d = some_class b (low a b one).1 in
        elim ((waits.ready c ready).2 d.0 (crossing a b c d.0 one p d.1)) [
          | inl is ↦ inl (subst (λ (k : ℕ). Stands class_of b k) is d.1)
          | inr there ↦ inr (rel.number b d.0 d.1 there)
        ]
    ready_on {a} {b} c ready p (through {b = x} one rest) =
        let d = some_class x (low a x one).1 in
        elim ((waits.ready c ready).2 d.0 (crossing a x c d.0 one p d.1)) [
          | inl is ↦ ready_on c ready (subst (λ (k : ℕ). Stands class_of x k) is d.1) rest
          | inr there ↦ inr (given_on d.0 d.1 there rest)
        ]

    -- a class that may be given is ready
    is_ready : (n c : ℕ) → Stands class_of n c → (WasGiven w.given.items c → ⊥) → MayBeGiven uses lists n
        → IsClassReady w.ready c
    is_ready n c p free may =
        let found = table.member_of_class n c p in
        elim (waits.each c (stands_within classes c found.0 found.1) free) [
          | inl ready ↦ ready
          | inr more ↦ elim more [
            | inl waiting ↦
                let d = waiting.0 in
                let watch = waits.watching d c waiting.1.watches in
                let x = watch.1 in
                elim (may x.from x.to (same_class n x.from c p x.class_from) (directly x.is_use)) [
                  | inl t ↦ absurd (watch.2 (one_class n x.to c d t p x.class_to))
                  | inr given ↦ absurd (waiting.1.not_given (rel.class x.to d x.class_to given))
                ]
            | inr none ↦ absurd (stands_none none.place c none.stands)
          ]
        ]

    -- the first of a class is its least
    first_least : (c m n : ℕ) (members : List ℕ) → Stands classes c members → Stands members 0 m → IsOneOf members n
        → m ≤ n
    first_least c m n members st first one = by one.place one.stands
      where
        by : (k : ℕ) → Stands members k n → m ≤ n
        by zero p = let e : m ≡ n = stands_one members 0 m n first p in omega arith
        by (suc k) p = let lt = (table.are_classes c members st).ascending.ascends 0 (suc k) m n (omega arith) first p in omega arith

    pub next_class : (c : ℕ) (members : List ℕ) → Stands classes c members → IsClassReady w.ready c
        → ((e : ℕ) → IsClassReady w.ready e → c ≤ e) → IsNext count uses lists members
    next_class c members st ready least = record {
      is_class = table.are_classes c members st;
      is_new = λ n one given. (waits.ready c ready).1 (rel.class n c (table.class_of_member c n members st one) given);
      may = λ n one b k t d.
          let p = table.class_of_member c n members st one in
          let q = some_class b (by_together n b c p t) in
          let in_c : Stands class_of b c = subst (λ (j : ℕ). Stands class_of b j) (one_class n b c q.0 t p q.1) q.1 in
          elim (ready_on c ready in_c d) [ inl there ↦ inl (same_class n k c p there) | inr given ↦ inr given ];
      least = λ m n first lt free may.
          let e = some_class n lt in
          let ready_e = is_ready n e.0 e.1 (λ g. free (rel.number n e.0 e.1 g)) may in
          let found = table.member_of_class n e.0 e.1 in
          let le = least e.0 ready_e in
          elim (cases_eq c e.0) [
            | inl is ↦
                let same_list : found.0 ≡ members =
                stands_one classes c found.0 members
                (subst (λ (j : ℕ). Stands classes j found.0) (sym is) found.1) st in
                first_least c m n members st first (subst (λ (l : List ℕ). IsOneOf l n) same_list found.2)
            | inr other ↦
                let head = head_of found.0 n found.2 in
                let before = table.ascend c e.0 m head.0 members found.0 (omega arith) st found.1 first head.1 in
                let after = first_least e.0 head.0 n found.0 found.1 head.1 found.2 in
                omega arith
          ];
    }
      where
        head_of : (xs : List ℕ) (n : ℕ) → IsOneOf xs n → (k : ℕ) × Stands xs 0 k
        head_of [] n one = absurd (stands_none one.place n one.stands)
        head_of (x ∷ xs) n one = (x, refl)

        source_below : {a b : ℕ} → Depends uses a b → a < count
        source_below {a} {b} (directly one) = (low a b one).0
        source_below {a} {b} (through {b = x} one rest) = (low a x one).0

        by_together : (n b c : ℕ) → Stands class_of n c → Together uses n b → b < count
        by_together n b c p same = below_count n c p
        by_together n b c p (each_other f g) = source_below g

    -- the least class is taken out of those that may be given
    pub taken_state : (c : ℕ) (rest : BTreeSet ℕ) → IsClassReady w.ready c
        → ((e : ℕ) → IsClassReady rest e ↔ (IsClassReady w.ready e × (e ≢ c)))
        → IsWaiting (length classes) uses class_of
        (record { targets = w.targets; watchers = w.watchers; given = w.given; ready = rest }) (c ∷ [])
        × IsClassTaken uses class_of (record { targets = w.targets; watchers = w.watchers; given = w.given; ready = rest }) c
    taken_state c rest ready left = (
      record {
        long_targets = waits.long_targets;
        long_watchers = waits.long_watchers;
        long_given = waits.long_given;
        crossed = waits.crossed;
        each = λ e lt free. elim (waits.each e lt free) [
          | inl r ↦ elim (cases_eq e c) [
            | inl is ↦ inr
                (inr (subst (λ (k : ℕ). IsOneOf (c ∷ []) k) (sym is) (one_first c [])))
            | inr other ↦ inl ((left e).1 (r, other))
          ]
          | inr more ↦ elim more [
            | inl waiting ↦ inr (inl waiting)
            | inr none ↦ absurd (stands_none none.place e none.stands)
          ]
        ];
        ready = λ e r. waits.ready e ((left e).0 r).0;
        watching = waits.watching;
        targets = waits.targets;
        left = waits.left;
        closed = waits.closed;
        to_look_at = λ e one. let is = (the_one c e one.place one.stands).1 in let h = waits.ready c ready in (
          subst (λ (k : ℕ). k < length classes) (sym is) h.0,
          λ g. h.1
              (subst (λ (k : ℕ). WasGiven w.given.items k) is g),
        );
      },
      record { all_given = (waits.ready c ready).2; not_ready = λ r. ((left c).0 r).1 refl },
    )

    -- the numbers given after one class more
    pub given_more : (c : ℕ) (members : List ℕ) (given : List Bool) → Stands classes c members
        → c < length w.given.items → given ≡ set w.given.items c true
        → AreGivenTogether class_of given (lists ++ members ∷ [])
    given_more c members given st lt is = record {
      number = λ n e p g. elim (cases_eq e c) [
        | inl same_c ↦
            let found = table.member_of_class n e p in
            let l : found.0 ≡ members = stands_one classes c found.0 members
            (subst (λ (k : ℕ). Stands classes k found.0) same_c found.1) st in
            record {
              members = members;
              is_one = record { place = length lists; stands = stands_next lists members [] };
              is_member = subst (λ (l : List ℕ). IsOneOf l n) l found.2;
            }
        | inr other ↦
            let before = rel.number n e p (sym (set_keeps w.given.items c e true other)
            ∙ subst (λ (l : List Bool). WasGiven l e) is g) in
            record {
              members = before.members;
              is_one = record {
                place = before.is_one.place;
                stands = stands_left lists (members ∷ []) before.is_one.place before.members before.is_one.stands;
              };
              is_member = before.is_member;
            }
      ];
      class = λ n e p given_n. elim (stands_split lists (members ∷ []) given_n.is_one.place given_n.members
          given_n.is_one.stands) [
            | inl old ↦
                let before = rel.class n e p (record {
                  members = given_n.members;
                  is_one = record { place = given_n.is_one.place; stands = old };
                  is_member = given_n.is_member;
                }) in
                elim (cases_eq e c) [
                  | inl same_c ↦ subst (λ (l : List Bool). WasGiven l e) (sym is)
                      (subst (λ (k : ℕ). WasGiven (set w.given.items c true) k) (sym same_c)
                      (set_stands w.given.items c true lt))
                  | inr other ↦ subst (λ (l : List Bool). WasGiven l e) (sym is)
                      (set_keeps w.given.items c e true other ∙ before)
                ]
            | inr last ↦
                let l = (the_one members given_n.members last.0 last.2).1 in
                let e_is : e ≡ c = stands_one class_of n e c p
                (table.class_of_member c n members st (subst (λ (l : List ℕ). IsOneOf l n) l given_n.is_member)) in
                subst (λ (l : List Bool). WasGiven l e) (sym is)
                (subst (λ (k : ℕ). WasGiven (set w.given.items c true) k) (sym e_is)
                (set_stands w.given.items c true lt))
          ];
    }
