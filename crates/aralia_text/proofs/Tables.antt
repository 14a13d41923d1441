-- The two last lines of a table.
use Rattle.std.proofs.Common.{◌≡◌, ℕ, ◌<◌, true, false, true≢false, List, [], ◌∷◌, ◌++◌, codes, length, refl, sym, ap, ◌∙◌, subst, append_assoc, append-nil, arith}
use Rattle.std.proofs.lemmas.List.{append_cancel_left}
use Rattle.eq_core.specs.Gates.{Operand, Always, Never, EventIs, GateIs}
use Rattle.aralia_text.specs.Texts.{operand_text}
use Rattle.aralia_text.specs.Fronts.{PathStops, IsAny, IsEnd, BeginAlike, begins_with, IsRead, part, IsStuck, IsStuckIn, IsOperandAt, IsLastAt, Last, last_of, AreLast, last_text}
use Rattle.aralia_text.proofs.Stuck.{alike_first, alike_behind, Inside, stuck_behind, stuck_here}

module _ (gates : ℕ) (events : List (List ℕ)) where
  -- an operand that is neither always nor never true
  last_operand : (o : Operand) → IsOperandAt gates events o → IsLastAt gates events o
  last_operand Always is = absurd is.earlier
  last_operand Never is = absurd is.earlier
  last_operand (EventIs e s) is = record { below = tt; named = is.named }
  last_operand (GateIs g s) is = record { below = is.earlier; named = tt }

  always_at : IsLastAt gates events Always
  always_at = record { below = tt; named = tt }

  never_at : IsLastAt gates events Never
  never_at = record { below = tt; named = tt }

  module _ (rest : List ℕ) where
    pub always_read : (left : List ℕ) → rest ≡ codes "true" ++ left
        → IsRead (IsLastAt gates events) (operand_text events) PathStops rest Always left
    always_read left e = record {
      sought = always_at;
      joined = e;
      only = λ o back other is stop alike f. by o back other f;
    }
      where
        by : (o : Operand) (back other : List ℕ) → codes "true" ++ other ≡ operand_text events o ++ back
            → (o ≡ Always) × (back ≡ other)
        by Always back other f = (refl, append_cancel_left (codes "true") back other (sym f))
        by Never back other f = absurd (true≢false (ap (begins_with 116) f))
        by (EventIs n true) back other f = absurd (true≢false (ap (begins_with 116) f))
        by (EventIs n false) back other f = absurd (true≢false (ap (begins_with 116) f))
        by (GateIs n true) back other f = absurd (true≢false (ap (begins_with 116) f))
        by (GateIs n false) back other f = absurd (true≢false (ap (begins_with 116) f))

    pub never_read : (left : List ℕ) → rest ≡ codes "false" ++ left
        → IsRead (IsLastAt gates events) (operand_text events) PathStops rest Never left
    never_read left e = record {
      sought = never_at;
      joined = e;
      only = λ o back other is stop alike f. by o back other f;
    }
      where
        by : (o : Operand) (back other : List ℕ) → codes "false" ++ other ≡ operand_text events o ++ back
            → (o ≡ Never) × (back ≡ other)
        by Never back other f = (refl, append_cancel_left (codes "false") back other (sym f))
        by Always back other f = absurd (true≢false (ap (begins_with 102) f))
        by (EventIs n true) back other f = absurd (true≢false (ap (begins_with 102) f))
        by (EventIs n false) back other f = absurd (true≢false (ap (begins_with 102) f))
        by (GateIs n true) back other f = absurd (true≢false (ap (begins_with 102) f))
        by (GateIs n false) back other f = absurd (true≢false (ap (begins_with 102) f))

    pub always_stuck : begins_with 116 rest ≡ true → (n : ℕ) → IsStuckIn (codes "true") rest n
        → IsStuck (IsLastAt gates events) (operand_text events) PathStops rest n
    always_stuck here n k =
        stuck_here (λ u. Unit {0}) (λ u. codes "true") IsAny (IsLastAt gates events) (operand_text events) PathStops rest n
        (λ u is. record { b = Always; more = []; sought = always_at; is = refl })
        (λ o back other is stop alike e. by o back other (alike_first 116 rest other alike ∙ here) e) k
      where
        by : (o : Operand) (back other : List ℕ) → begins_with 116 other ≡ true → other ≡ operand_text events o ++ back
            → Inside {A = Unit {0}} (λ u. Unit {0}) (λ u. codes "true") IsAny (IsLastAt gates events)
            (operand_text events) PathStops other
        by Always back other first e = record { a = tt; back = back; sought = tt; ends = tt; is = e }
        by Never back other first e = absurd (true≢false (sym first ∙ ap (begins_with 116) e))
        by (EventIs n true) back other first e = absurd (true≢false (sym first ∙ ap (begins_with 116) e))
        by (EventIs n false) back other first e = absurd (true≢false (sym first ∙ ap (begins_with 116) e))
        by (GateIs n true) back other first e = absurd (true≢false (sym first ∙ ap (begins_with 116) e))
        by (GateIs n false) back other first e = absurd (true≢false (sym first ∙ ap (begins_with 116) e))

    pub never_stuck : begins_with 102 rest ≡ true → (n : ℕ) → IsStuckIn (codes "false") rest n
        → IsStuck (IsLastAt gates events) (operand_text events) PathStops rest n
    never_stuck here n k =
        stuck_here (λ u. Unit {0}) (λ u. codes "false") IsAny (IsLastAt gates events) (operand_text events) PathStops rest n
        (λ u is. record { b = Never; more = []; sought = never_at; is = refl })
        (λ o back other is stop alike e. by o back other (alike_first 102 rest other alike ∙ here) e) k
      where
        by : (o : Operand) (back other : List ℕ) → begins_with 102 other ≡ true → other ≡ operand_text events o ++ back
            → Inside {A = Unit {0}} (λ u. Unit {0}) (λ u. codes "false") IsAny (IsLastAt gates events)
            (operand_text events) PathStops other
        by Never back other first e = record { a = tt; back = back; sought = tt; ends = tt; is = e }
        by Always back other first e = absurd (true≢false (sym first ∙ ap (begins_with 102) e))
        by (EventIs n true) back other first e = absurd (true≢false (sym first ∙ ap (begins_with 102) e))
        by (EventIs n false) back other first e = absurd (true≢false (sym first ∙ ap (begins_with 102) e))
        by (GateIs n true) back other first e = absurd (true≢false (sym first ∙ ap (begins_with 102) e))
        by (GateIs n false) back other first e = absurd (true≢false (sym first ∙ ap (begins_with 102) e))

    module _ (no_t : begins_with 116 rest ≡ false) (no_f : begins_with 102 rest ≡ false) where
      narrow : (o : Operand) (back other : List ℕ) → BeginAlike rest other → IsLastAt gates events o
          → other ≡ operand_text events o ++ back → IsOperandAt gates events o
      narrow Always back other alike is f =
          absurd (true≢false (sym (ap (begins_with 116) f) ∙ alike_first 116 rest other alike ∙ no_t))
      narrow Never back other alike is f =
          absurd (true≢false (sym (ap (begins_with 102) f) ∙ alike_first 102 rest other alike ∙ no_f))
      narrow (EventIs e s) back other alike is f = record { earlier = tt; named = is.named }
      narrow (GateIs g s) back other alike is f = record { earlier = is.below; named = tt }

      pub other_read : (o : Operand) (left : List ℕ)
          → IsRead (IsOperandAt gates events) (operand_text events) PathStops rest o left
          → IsRead (IsLastAt gates events) (operand_text events) PathStops rest o left
      other_read o left r = record {
        sought = last_operand o r.sought;
        joined = r.joined;
        only = λ p back other is stop alike f.
            r.only p back other
            (narrow p back (operand_text events o ++ other)
            (subst (λ (z : List ℕ). BeginAlike z (operand_text events o ++ other)) (sym r.joined)
            (alike_behind (operand_text events o) left other alike)) is f)
            stop alike f;
      }

      pub other_stuck : (n : ℕ) → IsStuck (IsOperandAt gates events) (operand_text events) PathStops rest n
          → IsStuck (IsLastAt gates events) (operand_text events) PathStops rest n
      other_stuck n k =
          stuck_here (IsOperandAt gates events) (operand_text events) PathStops (IsLastAt gates events)
          (operand_text events) PathStops rest n
          (λ o is. record {
            b = o;
            more = [];
            sought = last_operand o is;
            is = sym (append-nil (operand_text events o));
          })
          (λ p back other is stop alike f. record
          { a = p; back = back; sought = narrow p back other alike is f; ends = stop; is = f }) k

    -- The two last lines, piece by piece

    abbrev begin : List ℕ
    begin = codes "conflict := "

    abbrev middle : List ℕ
    middle = codes ";\ntop := "

    abbrev behind_conflict : Operand → List ℕ
    behind_conflict t = middle ++ (operand_text events t ++ codes ";\n")

    always_last : (c : Operand) → IsLastAt gates events c → AreLast gates events (last_of c Always)
    always_last c is = record { conflict = is; top = always_at }

    pub no_conflict : (n : ℕ) → IsStuckIn (codes "conflict := ") rest n
        → IsStuck (AreLast gates events) (last_text events) IsEnd rest n
    no_conflict n k =
        stuck_here (λ u. Unit {0}) (λ u. begin) IsAny (AreLast gates events) (last_text events) IsEnd rest n
        (λ u is. record {
          b = last_of Always Always;
          more = operand_text events Always ++ behind_conflict Always;
          sought = always_last Always always_at;
          is = refl;
        })
        (λ l back other is end alike e. record {
          a = tt;
          back = (operand_text events l.conflict ++ behind_conflict l.top) ++ back;
          sought = tt;
          ends = tt;
          is = e;
        }) k

    module _ (one : List ℕ) (begun : rest ≡ codes "conflict := " ++ one) where
      at_conflict : (l : Last) (back other : List ℕ) → begin ++ other ≡ last_text events l ++ back
          → other ≡ operand_text events l.conflict ++ (behind_conflict l.top ++ back)
      at_conflict l back other e =
          append_cancel_left begin other ((operand_text events l.conflict ++ behind_conflict l.top) ++ back) e
          ∙ append_assoc (operand_text events l.conflict) (behind_conflict l.top) back

      pub conflict_stuck : (n : ℕ) → IsStuck (IsLastAt gates events) (operand_text events) PathStops one n
          → IsStuck (AreLast gates events) (last_text events) IsEnd rest n
      conflict_stuck n k =
          stuck_behind (IsLastAt gates events) (operand_text events) PathStops (AreLast gates events) (last_text events)
          IsEnd rest begin one n begun
          (part (last_of Always Always) (operand_text events Always ++ behind_conflict Always)
          (always_last Always always_at) refl)
          (λ o is. record { b = last_of o Always; more = behind_conflict Always; sought = always_last o is; is = refl })
          (λ l back other is end alike e. record {
            a = l.conflict;
            back = behind_conflict l.top ++ back;
            sought = is.conflict;
            ends = refl;
            is = at_conflict l back other e;
          }) k

      module _ (c : Operand) (two : List ℕ)
          (first : IsRead (IsLastAt gates events) (operand_text events) PathStops one c two) where
        at_top : (l : Last) (back other : List ℕ) → AreLast gates events l → BeginAlike two other
            → begin ++ (operand_text events c ++ other) ≡ last_text events l ++ back
            → (l.conflict ≡ c) × (behind_conflict l.top ++ back ≡ other)
        at_top l back other is alike e = first.only l.conflict (behind_conflict l.top ++ back) other is.conflict refl
            alike (at_conflict l back (operand_text events c ++ other) e)

        two_there : rest ≡ (begin ++ operand_text events c) ++ two
        two_there = begun ∙ ap (λ (z : List ℕ). begin ++ z) first.joined

        pub no_top : (n : ℕ) → IsStuckIn (codes ";\ntop := ") two n
            → IsStuck (AreLast gates events) (last_text events) IsEnd rest n
        no_top n k =
            stuck_behind (λ u. Unit {0}) (λ u. middle) IsAny (AreLast gates events) (last_text events) IsEnd rest
            (begin ++ operand_text events c) two n two_there
            (part (last_of c Always) (behind_conflict Always) (always_last c first.sought) refl)
            (λ u is. record {
              b = last_of c Always;
              more = operand_text events Always ++ codes ";\n";
              sought = always_last c first.sought;
              is = refl;
            })
            (λ l back other is end alike e. record {
              a = tt;
              back = (operand_text events l.top ++ codes ";\n") ++ back;
              sought = tt;
              ends = tt;
              is = sym (at_top l back other is alike e).1;
            }) k

        module _ (three : List ℕ) (topped : two ≡ codes ";\ntop := " ++ three) where
          abbrev to_top : List ℕ
          to_top = begin ++ (operand_text events c ++ middle)

          split_top : (back : List ℕ) → to_top ++ back ≡ begin ++ (operand_text events c ++ (middle ++ back))
          split_top back = ap (λ (z : List ℕ). begin ++ z) (append_assoc (operand_text events c) middle back)

          at_end : (l : Last) (back other : List ℕ) → AreLast gates events l → BeginAlike three other
              → to_top ++ other ≡ last_text events l ++ back
              → (l.conflict ≡ c) × (other ≡ operand_text events l.top ++ (codes ";\n" ++ back))
          at_end l back other is alike e =
              let t = at_top l back (middle ++ other) is
              (subst (λ (z : List ℕ). BeginAlike z (middle ++ other)) (sym topped) refl)
              (sym (split_top other) ∙ e) in (
                t.0,
                append_cancel_left middle other ((operand_text events l.top ++ codes ";\n") ++ back) (sym t.1)
                    ∙ append_assoc (operand_text events l.top) (codes ";\n") back,
              )

          three_there : rest ≡ to_top ++ three
          three_there = two_there ∙ ap (λ (z : List ℕ). begin ++ (operand_text events c ++ z)) topped
              ∙ sym (split_top three)

          pub top_stuck : (n : ℕ) → IsStuck (IsLastAt gates events) (operand_text events) PathStops three n
              → IsStuck (AreLast gates events) (last_text events) IsEnd rest n
          top_stuck n k =
              stuck_behind (IsLastAt gates events) (operand_text events) PathStops (AreLast gates events) (last_text events)
              IsEnd rest to_top three n three_there
              (part (last_of c Always) (operand_text events Always ++ codes ";\n") (always_last c first.sought)
              (sym (split_top (operand_text events Always ++ codes ";\n"))))
              (λ o is. record {
                b = last_of c o;
                more = codes ";\n";
                sought = record { conflict = first.sought; top = is };
                is =
                    sym (split_top (operand_text events o ++ codes ";\n"));
              })
              (λ l back other is end alike e. record {
                a = l.top;
                back = codes ";\n" ++ back;
                sought = is.top;
                ends = refl;
                is = (at_end l back other is alike e).1;
              }) k

          module _ (t : Operand) (four : List ℕ)
              (second : IsRead (IsLastAt gates events) (operand_text events) PathStops three t four) where
            abbrev to_end : List ℕ
            to_end = to_top ++ operand_text events t

            both_at : AreLast gates events (last_of c t)
            both_at = record { conflict = first.sought; top = second.sought }

            split_end : (back : List ℕ) → to_end ++ back ≡ to_top ++ (operand_text events t ++ back)
            split_end back = append_assoc to_top (operand_text events t) back

            four_there : rest ≡ to_end ++ four
            four_there = three_there ∙ ap (λ (z : List ℕ). to_top ++ z) second.joined ∙ sym (split_end four)

            whole_is : last_text events (last_of c t) ≡ to_end ++ codes ";\n"
            whole_is = sym (split_top (operand_text events t ++ codes ";\n")) ∙ sym (split_end (codes ";\n"))

            behind_end : (l : Last) (back other : List ℕ) → AreLast gates events l → BeginAlike four other
                → to_end ++ other ≡ last_text events l ++ back
                → (l ≡ last_of c t) × (other ≡ codes ";\n" ++ back)
            behind_end l back other is alike e =
                let at = at_end l back (operand_text events t ++ other) is
                (subst (λ (z : List ℕ). BeginAlike z (operand_text events t ++ other)) (sym second.joined)
                (alike_behind (operand_text events t) four other alike)) (sym (split_end other) ∙ e) in
                let u = second.only l.top (codes ";\n" ++ back) other is.top refl alike at.1 in
                (ap (λ (z : Operand). last_of z l.top) at.0 ∙ ap (λ (z : Operand). last_of c z) u.0, sym u.1)

            pub no_end : (n : ℕ) → IsStuckIn (codes ";\n") four n
                → IsStuck (AreLast gates events) (last_text events) IsEnd rest n
            no_end n k =
                stuck_behind (λ u. Unit {0}) (λ u. codes ";\n") IsAny (AreLast gates events) (last_text events) IsEnd
                rest to_end four n four_there
                (part (last_of c t) (codes ";\n") both_at whole_is)
                (λ u is. record { b = last_of c t; more = []; sought = both_at; is = whole_is })
                (λ l back other is end alike e. record
                { a = tt; back = back; sought = tt; ends = tt; is = (behind_end l back other is alike e).1 }) k

            module _ (five : List ℕ) (ended : four ≡ codes ";\n" ++ five) where
              five_there : rest ≡ last_text events (last_of c t) ++ five
              five_there =
                  four_there ∙ ap (λ (z : List ℕ). to_end ++ z) ended ∙ sym (append_assoc to_end (codes ";\n") five)
                  ∙ ap (λ (z : List ℕ). z ++ five) (sym whole_is)

              all_read : (l : Last) (back other : List ℕ) → AreLast gates events l
                  → last_text events (last_of c t) ++ other ≡ last_text events l ++ back
                  → (l ≡ last_of c t) × (back ≡ other)
              all_read l back other is e =
                  let text : to_end ++ (codes ";\n" ++ other) ≡ last_text events l ++ back =
                  sym (append_assoc to_end (codes ";\n") other) ∙ ap (λ (z : List ℕ). z ++ other) (sym whole_is) ∙ e in
                  let b = behind_end l back (codes ";\n" ++ other) is
                  (subst (λ (z : List ℕ). BeginAlike z (codes ";\n" ++ other)) (sym ended) refl) text in
                  (b.0, append_cancel_left (codes ";\n") back other (sym b.1))

              pub more_behind : 0 < length five
                  → IsStuck (AreLast gates events) (last_text events) IsEnd rest (length five)
              more_behind some = record {
                front = last_text events (last_of c t);
                left = five;
                joined = five_there;
                count = refl;
                begun = part (last_of c t) [] both_at (sym (append-nil (last_text events (last_of c t))));
                wrong = λ l back other is end alike e. longer five other some alike
                    (sym (all_read l back other is e).1 ∙ end);
              }
                where
                  longer : (x other : List ℕ) → 0 < length x → BeginAlike x other → other ≡ [] → ⊥
                  longer [] other h alike i = omega (arith, h)
                  longer (b ∷ bs) other h alike i = subst (BeginAlike (b ∷ bs)) i alike

              pub both_read : length five ≡ 0
                  → IsRead (AreLast gates events) (last_text events) IsEnd rest (last_of c t) []
              both_read nothing = record {
                sought = both_at;
                joined = five_there ∙ ap (λ (z : List ℕ). last_text events (last_of c t) ++ z) (no_bytes five nothing);
                only = λ l back other is end alike e. all_read l back other is e;
              }
                where
                  no_bytes : (x : List ℕ) → length x ≡ 0 → x ≡ []
                  no_bytes [] h = refl
                  no_bytes (b ∷ bs) h = absurd (omega (arith, h))
