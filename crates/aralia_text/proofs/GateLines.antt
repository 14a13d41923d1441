-- The operands of a gate, one behind the other.
use Rattle.std.proofs.Common.{◌≡◌, ℕ, ◌+◌, ◌≤◌, inl, inr, Bool, true, false, true≢false, List, [], ◌∷◌, ◌++◌, codes, length, refl, sym, ap, ◌∙◌, subst, append_assoc, append-nil, arith}
use Rattle.std.proofs.lemmas.List.{append_cancel_left, length-append}
use Rattle.ar_base.specs.Lists.{IsOneOf}
use Rattle.ar_base.proofs.Standing.{one_first, one_rest, one_right, one_split, one_cases, one_none}
use Rattle.eq_core.specs.Gates.{Operand, Gate}
use Rattle.aralia_text.specs.Texts.{operand_text, joint_text, more_text, operands_text, gate_name, gate_line}
use Rattle.aralia_text.specs.Fronts.{PathStops, IsAny, BeginAlike, begins_with, IsRead, AreBegun, part, IsStuck, IsStuckIn, IsOperandAt, HasOperand, IsSoughtJoint, next_text, IsGateAt, header_text, operands_line}
use Rattle.aralia_text.proofs.Stuck.{alike_behind, alike_first, Inside, stuck_behind, stuck_here}

-- what ends a line, and what stands behind it
abbrev pub ended : List ℕ → List ℕ
ended back = codes ";\n" ++ back

more_stops : (events : List (List ℕ)) (both : Bool) (os : List Operand) (back : List ℕ)
    → PathStops (more_text events both os ++ ended back)
more_stops events both [] back = refl
more_stops events true (o ∷ os) back = refl
more_stops events false (o ∷ os) back = refl

-- a gate goes on so behind these operands
pub record GoesOn (events : List (List ℕ)) (both : Bool) (os : List Operand) (left : List ℕ) (gate : Gate)
    (back : List ℕ) : Type 0 where
  pub more : List Operand
  pub both_is : gate.both ≡ both
  pub os_is : gate.operands ≡ os ++ more
  pub left_is : left ≡ more_text events both more ++ ended back

-- so far these operands were read, and each gate that begins with them goes on behind them
pub record IsSoFar (gates : ℕ) (events : List (List ℕ)) (rest : List ℕ) (both : Bool) (os : List Operand)
    (left : List ℕ) : Type 0 where
  pub each : (o : Operand) → IsOneOf os o → IsOperandAt gates events o
  pub two : 2 ≤ length os
  pub joined : rest ≡ operands_text events both os ++ left
  pub only : (gate : Gate) (back other : List ℕ) → IsGateAt gates events gate → BeginAlike left other
      → operands_text events both os ++ other ≡ operands_text events gate.both gate.operands ++ ended back
      → GoesOn events both os other gate back

module _ (gates : ℕ) (events : List (List ℕ)) where
  -- a gate begins with an operand and another
  record Begins (other : List ℕ) (gate : Gate) (back : List ℕ) : Type 0 where
    pub first : Operand
    pub second : Operand
    pub more : List Operand
    pub os_is : gate.operands ≡ first ∷ second ∷ more
    pub first_at : IsOperandAt gates events first
    pub second_at : IsOperandAt gates events second
    pub first_text : other ≡ operand_text events first ++ (more_text events gate.both (second ∷ more) ++ ended back)

  begins : (other : List ℕ) (gate : Gate) (back : List ℕ) → IsGateAt gates events gate
      → other ≡ operands_text events gate.both gate.operands ++ ended back → Begins other gate back
  begins other gate back is e = by gate.operands refl
    where
      by : (os : List Operand) → gate.operands ≡ os → Begins other gate back
      by [] i = let n : length gate.operands ≡ 0 = ap length i in absurd (let t = is.two in omega (arith, n, t))
      by (x ∷ []) i = let n : length gate.operands ≡ 1 = ap length i in absurd (let t = is.two in omega (arith, n, t))
      by (x ∷ y ∷ more) i = record {
        first = x;
        second = y;
        more = more;
        os_is = i;
        first_at = is.each x (subst (λ (z : List Operand). IsOneOf z x) (sym i) (one_first x (y ∷ more)));
        second_at = is.each y (subst (λ (z : List Operand). IsOneOf z y) (sym i)
            (one_rest x (y ∷ more) y (one_first y more)));
        first_text =
            e ∙ ap (λ (z : List Operand). operands_text events gate.both z ++ ended back) i
            ∙ append_assoc (operand_text events x) (more_text events gate.both (y ∷ more)) (ended back);
      }

  next_assoc : (both : Bool) (y : Operand) (more : List Operand) (back : List ℕ)
      → more_text events both (y ∷ more) ++ ended back
      ≡ next_text events both y ++ (more_text events both more ++ ended back)
  next_assoc both y more back = append_assoc (next_text events both y) (more_text events both more) (ended back)

  -- the line of a gate and what stands behind it
  line_assoc : (gate : Gate) (back : List ℕ)
      → operands_line events gate ++ back ≡ operands_text events gate.both gate.operands ++ ended back
  line_assoc gate back = append_assoc (operands_text events gate.both gate.operands) (codes ";\n") back

  abbrev two_of : Bool → Operand → Operand → Gate
  two_of both a c = record { both = both; operands = a ∷ c ∷ [] }

  two_at : (both : Bool) (a c : Operand) → IsOperandAt gates events a → IsOperandAt gates events c
      → IsGateAt gates events (two_of both a c)
  two_at both a c p q = record {
    two = omega arith;
    each = λ o one. elim (one_cases a (c ∷ []) o one) [
      | inl i ↦ subst (IsOperandAt gates events) i p
      | inr other ↦ elim (one_cases c [] o other)
          [ inl i ↦ subst (IsOperandAt gates events) i q | inr lacks ↦ absurd (one_none o lacks) ]
    ];
  }

  two_text : (both : Bool) (a c : Operand)
      → operands_line events (two_of both a c)
      ≡ (operand_text events a ++ joint_text both) ++ (operand_text events c ++ codes ";\n")
  two_text both a c =
      append_assoc (operand_text events a) (next_text events both c ++ []) (codes ";\n")
      ∙ ap (λ (z : List ℕ). operand_text events a ++ z)
      (ap (λ (z : List ℕ). z ++ codes ";\n") (append-nil (next_text events both c))
      ∙ append_assoc (joint_text both) (operand_text events c) (codes ";\n"))
      ∙ sym (append_assoc (operand_text events a) (joint_text both) (operand_text events c ++ codes ";\n"))

  one_text : (both : Bool) (a c : Operand)
      → operands_line events (two_of both a c)
      ≡ operand_text events a ++ (joint_text both ++ (operand_text events c ++ codes ";\n"))
  one_text both a c = two_text both a c
      ∙ append_assoc (operand_text events a) (joint_text both) (operand_text events c ++ codes ";\n")

  module _ (rest : List ℕ) where
    -- the first operand is none
    pub no_first : (n : ℕ) → IsStuck (IsOperandAt gates events) (operand_text events) PathStops rest n
        → IsStuck (IsGateAt gates events) (operands_line events) IsAny rest n
    no_first n k =
        stuck_here (IsOperandAt gates events) (operand_text events) PathStops (IsGateAt gates events) (operands_line events)
        IsAny rest n
        (λ o is. record {
          b = two_of true o o;
          more = joint_text true ++ (operand_text events o ++ codes ";\n");
          sought = two_at true o o is is;
          is = one_text true o o;
        })
        (λ gate back other is any alike e.
        let b = begins other gate back is (e ∙ line_assoc gate back) in
        record {
          a = b.first;
          back = more_text events gate.both (b.second ∷ b.more) ++ ended back;
          sought = b.first_at;
          ends = more_stops events gate.both (b.second ∷ b.more) back;
          is = b.first_text;
        }) k

    module _ (a : Operand) (left : List ℕ)
        (first : IsRead (IsOperandAt gates events) (operand_text events) PathStops rest a left) where
      record Seconds (other : List ℕ) (gate : Gate) (back : List ℕ)
          (b : Begins (operand_text events a ++ other) gate back) : Type 0 where
        pub first_is : b.first ≡ a
        pub left_is : other ≡ next_text events gate.both b.second ++ (more_text events gate.both b.more ++ ended back)

      seconds : (other : List ℕ) (gate : Gate) (back : List ℕ) (b : Begins (operand_text events a ++ other) gate back)
          → BeginAlike left other → Seconds other gate back b
      seconds other gate back b alike =
          let one = first.only b.first (more_text events gate.both (b.second ∷ b.more) ++ ended back) other b.first_at
          (more_stops events gate.both (b.second ∷ b.more) back) alike b.first_text in
          record { first_is = one.0; left_is = sym one.1 ∙ next_assoc gate.both b.second b.more back }

      -- the operand is not joined to another
      pub no_joint : (n : ℕ) → IsStuck IsSoughtJoint joint_text IsAny left n
          → IsStuck (IsGateAt gates events) (operands_line events) IsAny rest n
      no_joint n k =
          stuck_behind IsSoughtJoint joint_text IsAny (IsGateAt gates events) (operands_line events) IsAny rest
          (operand_text events a) left n first.joined
          (part (two_of true a a) (joint_text true ++ (operand_text events a ++ codes ";\n"))
          (two_at true a a first.sought first.sought) (one_text true a a))
          (λ both is. record {
            b = two_of both a a;
            more = operand_text events a ++ codes ";\n";
            sought = two_at both a a first.sought first.sought;
            is = one_text both a a;
          })
          (λ gate back other is any alike e.
          let b = begins (operand_text events a ++ other) gate back is (e ∙ line_assoc gate back) in
          let s = seconds other gate back b alike in
          record {
            a = gate.both;
            back = operand_text events b.second ++ (more_text events gate.both b.more ++ ended back);
            sought = tt;
            ends = tt;
            is = s.left_is ∙ append_assoc (joint_text gate.both) (operand_text events b.second)
                (more_text events gate.both b.more ++ ended back);
          }) k

      module _ (both : Bool) (behind : List ℕ) (joint : IsRead IsSoughtJoint joint_text IsAny left both behind) where
        record Thirds (other : List ℕ) (gate : Gate) (back : List ℕ) : Type 0 where
          pub second : Operand
          pub more : List Operand
          pub both_is : gate.both ≡ both
          pub os_is : gate.operands ≡ a ∷ second ∷ more
          pub second_at : IsOperandAt gates events second
          pub left_is : other ≡ operand_text events second ++ (more_text events both more ++ ended back)

        thirds : (other : List ℕ) (gate : Gate) (back : List ℕ) → IsGateAt gates events gate → BeginAlike behind other
            → operand_text events a ++ (joint_text both ++ other)
            ≡ operands_text events gate.both gate.operands ++ ended back → Thirds other gate back
        thirds other gate back is alike e =
            let b = begins (operand_text events a ++ (joint_text both ++ other)) gate back is e in
            let s = seconds (joint_text both ++ other) gate back b
            (subst (λ (z : List ℕ). BeginAlike z (joint_text both ++ other)) (sym joint.joined)
            (alike_behind (joint_text both) behind other alike)) in
            let j = joint.only gate.both (operand_text events
            b.second ++ (more_text events gate.both b.more ++ ended back)) other tt tt alike
            (s.left_is ∙ append_assoc (joint_text gate.both) (operand_text events b.second)
            (more_text events gate.both b.more ++ ended back)) in
            record {
              second = b.second;
              more = b.more;
              both_is = j.0;
              os_is = b.os_is ∙ ap (λ (z : Operand). z ∷ b.second ∷ b.more) s.first_is;
              second_at = b.second_at;
              left_is = sym j.1 ∙ ap (λ (z : Bool). operand_text events
                  b.second ++ (more_text events z b.more ++ ended back)) j.0;
            }

        begun_text : rest ≡ (operand_text events a ++ joint_text both) ++ behind
        begun_text = first.joined ∙ ap (λ (z : List ℕ). operand_text events a ++ z) joint.joined
            ∙ sym (append_assoc (operand_text events a) (joint_text both) behind)

        -- the second operand is none
        pub no_second : (n : ℕ) → IsStuck (IsOperandAt gates events) (operand_text events) PathStops behind n
            → IsStuck (IsGateAt gates events) (operands_line events) IsAny rest n
        no_second n k =
            stuck_behind (IsOperandAt gates events) (operand_text events) PathStops (IsGateAt gates events)
            (operands_line events) IsAny rest (operand_text events a ++ joint_text both) behind n begun_text
            (part (two_of both a a) (operand_text events a ++ codes ";\n") (two_at both a a first.sought first.sought)
            (two_text both a a))
            (λ o is. record {
              b = two_of both a o;
              more = codes ";\n";
              sought = two_at both a o first.sought is;
              is = two_text both a o;
            })
            (λ gate back other is any alike e.
            let t = thirds other gate back is alike
            (sym (append_assoc (operand_text events a) (joint_text both) other) ∙ e ∙ line_assoc gate back) in
            record {
              a = t.second;
              back = more_text events both t.more ++ ended back;
              sought = t.second_at;
              ends = more_stops events both t.more back;
              is = t.left_is;
            }) k

        two_assoc : (c : Operand) (other : List ℕ)
            → operands_text events both (a ∷ c ∷ []) ++ other
            ≡ operand_text events a ++ (joint_text both ++ (operand_text events c ++ other))
        two_assoc c other =
            append_assoc (operand_text events a) (next_text events both c ++ []) other
            ∙ ap (λ (z : List ℕ). operand_text events a ++ z)
            (ap (λ (z : List ℕ). z ++ other) (append-nil (next_text events both c))
            ∙ append_assoc (joint_text both) (operand_text events c) other)

        -- two operands were read
        pub two_read : (c : Operand) (last : List ℕ)
            → IsRead (IsOperandAt gates events) (operand_text events) PathStops behind c last
            → IsSoFar gates events rest both (a ∷ c ∷ []) last
        two_read c last second = record {
          each = (two_at both a c first.sought second.sought).each;
          two = omega arith;
          joined =
              first.joined ∙ ap (λ (z : List ℕ). operand_text events a ++ z)
              (joint.joined ∙ ap (λ (z : List ℕ). joint_text both ++ z) second.joined)
              ∙ sym (two_assoc c last);
          only = λ gate back other is alike e.
              let t = thirds (operand_text events c ++ other) gate back is
              (subst (λ (z : List ℕ). BeginAlike z (operand_text events c ++ other)) (sym second.joined)
              (alike_behind (operand_text events c) last other alike))
              (sym (two_assoc c other) ∙ e) in
              let two = second.only t.second (more_text events both t.more ++ ended back) other t.second_at
              (more_stops events both t.more back) alike t.left_is in
              record {
                more = t.more;
                both_is = t.both_is;
                os_is = t.os_is ∙ ap (λ (z : Operand). a ∷ z ∷ t.more) two.0;
                left_is = sym two.1;
              };
        }

    more_append : (both : Bool) (os : List Operand) (o : Operand)
        → more_text events both (os ++ o ∷ []) ≡ more_text events both os ++ next_text events both o
    more_append both [] o = append-nil (next_text events both o)
    more_append both (x ∷ os) o =
        ap (λ (z : List ℕ). next_text events both x ++ z) (more_append both os o)
        ∙ sym (append_assoc (next_text events both x) (more_text events both os) (next_text events both o))

    operands_append : (both : Bool) (os : List Operand) (o : Operand) → 2 ≤ length os
        → operands_text events both (os ++ o ∷ []) ≡ operands_text events both os ++ next_text events both o
    operands_append both [] o h = absurd (omega (arith, h))
    operands_append both (x ∷ os) o h =
        ap (λ (z : List ℕ). operand_text events x ++ z) (more_append both os o)
        ∙ sym (append_assoc (operand_text events x) (more_text events both os) (next_text events both o))

    module _ (both : Bool) (os : List Operand) (left : List ℕ) (far : IsSoFar gates events rest both os left) where
      abbrev so_far : Gate
      so_far = record { both = both; operands = os }

      so_far_at : IsGateAt gates events so_far
      so_far_at = record { two = far.two; each = far.each }

      begun_so_far : AreBegun (IsGateAt gates events) (operands_line events) (operands_text events both os)
      begun_so_far = part so_far (codes ";\n") so_far_at refl

      -- a further operand stands there
      record Further (other : List ℕ) (gate : Gate) (back : List ℕ) : Type 0 where
        pub next : Operand
        pub more : List Operand
        pub both_is : gate.both ≡ both
        pub os_is : gate.operands ≡ os ++ (next ∷ more)
        pub next_at : IsOperandAt gates events next
        pub left_is : other ≡ next_text events both next ++ (more_text events both more ++ ended back)

      module _ (not_end : begins_with 59 left ≡ false) where
        further : (other : List ℕ) (gate : Gate) (back : List ℕ) → IsGateAt gates events gate → BeginAlike left other
            → GoesOn events both os other gate back → Further other gate back
        further other gate back is alike g = by g.more g.os_is g.left_is
          where
            by : (more : List Operand) → gate.operands ≡ os ++ more → other ≡ more_text events both more ++ ended back
                → Further other gate back
            by [] i e = absurd (true≢false (sym (ap (begins_with 59) e) ∙ alike_first 59 left other alike ∙ not_end))
            by (m ∷ more) i e = record {
              next = m;
              more = more;
              both_is = g.both_is;
              os_is = i;
              next_at = is.each m (subst (λ (z : List Operand). IsOneOf z m) (sym i)
                  (one_right os (m ∷ more) m (one_first m more)));
              left_is = e ∙ next_assoc both m more back;
            }

        one_more_text : (o : Operand) (other : List ℕ)
            → operands_text events both os ++ (next_text events both o ++ other)
            ≡ operands_text events both (os ++ o ∷ []) ++ other
        one_more_text o other =
            sym (append_assoc (operands_text events both os) (next_text events both o) other)
            ∙ ap (λ (z : List ℕ). z ++ other) (sym (operands_append both os o far.two))

        -- a further operand was read
        pub one_more : (o : Operand) (behind : List ℕ)
            → IsRead (IsOperandAt gates events) (next_text events both) PathStops left o behind
            → IsSoFar gates events rest both (os ++ o ∷ []) behind
        one_more o behind r = record {
          each = λ p one. elim (one_split os (o ∷ []) p one) [
            | inl there ↦ far.each p there
            | inr last ↦ elim (one_cases o [] p last)
                [ inl i ↦ subst (IsOperandAt gates events) i r.sought | inr lacks ↦ absurd (one_none p lacks) ]
          ];
          two = let n : length (os ++ o ∷ []) ≡ length os + 1 = length-append os (o ∷ []) in let t = far.two in omega (arith, n, t);
          joined =
              far.joined ∙ ap (λ (z : List ℕ). operands_text events both os ++ z) r.joined
              ∙ sym (append_assoc (operands_text events both os) (next_text events both o) behind)
              ∙ ap (λ (z : List ℕ). z ++ behind) (sym (operands_append both os o far.two));
          only = λ gate back other is alike e.
              let as_one : BeginAlike left (next_text events both o ++ other) =
              subst (λ (z : List ℕ). BeginAlike z (next_text events both o ++ other)) (sym r.joined)
              (alike_behind (next_text events both o) behind other alike) in
              let f = further (next_text events both o ++ other) gate back is as_one
              (far.only gate back (next_text events both o ++ other) is as_one (one_more_text o other ∙ e)) in
              let same = r.only f.next (more_text events both f.more ++ ended back) other f.next_at
              (more_stops events both f.more back) alike f.left_is in
              record {
                more = f.more;
                both_is = f.both_is;
                os_is = f.os_is ∙ ap (λ (z : Operand). os ++ (z ∷ f.more)) same.0
                    ∙ sym (append_assoc os (o ∷ []) f.more);
                left_is = sym same.1;
              };
        }

        -- no further operand stands there
        pub no_more : (n : ℕ) → IsStuck (IsOperandAt gates events) (next_text events both) PathStops left n
            → IsStuck (IsGateAt gates events) (operands_line events) IsAny rest n
        no_more n k =
            stuck_behind (IsOperandAt gates events) (next_text events both) PathStops (IsGateAt gates events)
            (operands_line events) IsAny rest (operands_text events both os) left n far.joined begun_so_far
            (λ o is. record {
              b = record { both = both; operands = os ++ o ∷ [] };
              more = codes ";\n";
              sought = record {
                two = let m : length (os ++ o ∷ []) ≡ length os + 1 = length-append os (o ∷ []) in let t = far.two in omega (arith, m, t);
                each = λ p one. elim (one_split os (o ∷ []) p one) [
                  | inl there ↦ far.each p there
                  | inr last ↦ elim (one_cases o [] p last)
                      [ inl i ↦ subst (IsOperandAt gates events) i is | inr lacks ↦ absurd (one_none p lacks) ]
                ];
              };
              is = ap (λ (z : List ℕ). z ++ codes ";\n") (operands_append both os o far.two)
                  ∙ append_assoc (operands_text events both os) (next_text events both o) (codes ";\n");
            })
            (λ gate back other is any alike e.
            let f = further other gate back is alike (far.only gate back other is alike (e ∙ line_assoc gate back)) in
            record {
              a = f.next;
              back = more_text events both f.more ++ ended back;
              sought = f.next_at;
              ends = more_stops events both f.more back;
              is = f.left_is;
            }) k

      -- the line is begun to end, and does not
      pub no_end : begins_with 59 left ≡ true → (n : ℕ) → IsStuckIn (codes ";\n") left n
          → IsStuck (IsGateAt gates events) (operands_line events) IsAny rest n
      no_end an_end n k =
          stuck_behind (λ u. Unit {0}) (λ u. codes ";\n") IsAny (IsGateAt gates events) (operands_line events) IsAny
          rest (operands_text events both os) left n far.joined begun_so_far
          (λ u is. record { b = so_far; more = []; sought = so_far_at; is = refl })
          (λ gate back other is any alike e. let g = far.only gate back other is alike (e ∙ line_assoc gate back) in by back other alike g.more g.left_is) k
        where
          head : (both : Bool) (m : Operand) (more : List Operand) (back : List ℕ)
              → begins_with 59 (more_text events both (m ∷ more) ++ ended back) ≡ false
          head true m more back = refl
          head false m more back = refl

          by : (back other : List ℕ) → BeginAlike left other → (more : List Operand)
              → other ≡ more_text events both more ++ ended back
              → Inside {A = Unit {0}} (λ u. Unit {0}) (λ u. codes ";\n") IsAny (IsGateAt gates events)
              (operands_line events) IsAny other
          by back other alike [] i = record { a = tt; back = back; sought = tt; ends = tt; is = i }
          by back other alike (m ∷ more) i =
              absurd (true≢false (sym (alike_first 59 left other alike ∙ an_end) ∙ ap (begins_with 59) i
              ∙ head both m more back))

      -- the line ends here
      pub line_ends : (behind : List ℕ) → left ≡ codes ";\n" ++ behind
          → IsRead (IsGateAt gates events) (operands_line events) IsAny rest so_far behind
      line_ends behind end = record {
        sought = so_far_at;
        joined = far.joined ∙ ap (λ (z : List ℕ). operands_text events both os ++ z) end
            ∙ sym (append_assoc (operands_text events both os) (codes ";\n") behind);
        only = λ gate back other is any alike e.
            by gate back other
            (far.only gate back (ended other) is (subst (λ (z : List ℕ). BeginAlike z (ended other)) (sym end) refl)
            (sym (append_assoc (operands_text events both os) (codes ";\n") other) ∙ e ∙ line_assoc gate back));
      }
        where
          last : (gate : Gate) (back other : List ℕ) (more : List Operand) (b : Bool) → gate.operands ≡ os ++ more
              → ended other ≡ more_text events b more ++ ended back
              → (gate.operands ≡ os) × (back ≡ other)
          last gate back other [] b j e = (j ∙ append-nil os, append_cancel_left (codes ";\n") back other (sym e))
          last gate back other (m ∷ more) true j e = absurd (true≢false (ap (begins_with 59) e))
          last gate back other (m ∷ more) false j e = absurd (true≢false (ap (begins_with 59) e))

          same_gate : (gate : Gate) → gate.both ≡ both → gate.operands ≡ os
              → gate ≡ record { both = both; operands = os }
          same_gate gate i j = ap (λ (z : Bool). record { both = z; operands = gate.operands }) i
              ∙ ap (λ (z : List Operand). record { both = both; operands = z }) j

          by : (gate : Gate) (back other : List ℕ) → GoesOn events both os (ended other) gate back
              → (gate ≡ record { both = both; operands = os }) × (back ≡ other)
          by gate back other g =
              let ends = last gate back other g.more both g.os_is g.left_is in
              (same_gate gate g.both_is ends.0, ends.1)

    -- The line of a gate

    module _ (n : ℕ) where
      line_is : (gate : Gate) → gate_line events n gate ≡ header_text n ++ operands_line events gate
      line_is gate = sym (append_assoc (gate_name n) (codes " := ") (operands_line events gate))

      line_cut : (gate : Gate) (back : List ℕ)
          → gate_line events n gate ++ back ≡ header_text n ++ (operands_line events gate ++ back)
      line_cut gate back = ap (λ (z : List ℕ). z ++ back) (line_is gate)
          ∙ append_assoc (header_text n) (operands_line events gate) back

      pub no_header : (k : ℕ) → HasOperand gates events → IsStuckIn (header_text n) rest k
          → IsStuck (IsGateAt gates events) (gate_line events n) IsAny rest k
      no_header k some stuck =
          stuck_here (λ u. Unit {0}) (λ u. header_text n) IsAny (IsGateAt gates events) (gate_line events n) IsAny rest
          k
          (λ u is. record {
            b = two_of true some.0 some.0;
            more = operands_line events (two_of true some.0 some.0);
            sought = two_at true some.0 some.0 some.1 some.1;
            is = line_is (two_of true some.0 some.0);
          })
          (λ gate back other is any alike e. record
          { a = tt; back = operands_line events gate ++ back; sought = tt; ends = tt; is = e ∙ line_cut gate back })
          stuck

      module _ (behind : List ℕ) (header : rest ≡ header_text n ++ behind) where
        pub line_read : (gate : Gate) (left : List ℕ)
            → IsRead (IsGateAt gates events) (operands_line events) IsAny behind gate left
            → IsRead (IsGateAt gates events) (gate_line events n) IsAny rest gate left
        line_read gate left r = record {
          sought = r.sought;
          joined = header ∙ ap (λ (z : List ℕ). header_text n ++ z) r.joined ∙ sym (line_cut gate left);
          only = λ b back other is any alike e.
              r.only b back other is tt alike
              (append_cancel_left (header_text n) (operands_line events gate ++ other) (operands_line events b ++ back)
              (sym (line_cut gate other) ∙ e ∙ line_cut b back));
        }

        pub line_stuck : (k : ℕ) → HasOperand gates events
            → IsStuck (IsGateAt gates events) (operands_line events) IsAny behind k
            → IsStuck (IsGateAt gates events) (gate_line events n) IsAny rest k
        line_stuck k some stuck =
            stuck_behind (IsGateAt gates events) (operands_line events) IsAny (IsGateAt gates events)
            (gate_line events n) IsAny rest (header_text n) behind k header
            (part (two_of true some.0 some.0) (operands_line events (two_of true some.0 some.0))
            (two_at true some.0 some.0 some.1 some.1) (line_is (two_of true some.0 some.0)))
            (λ gate is. record {
              b = gate;
              more = [];
              sought = is;
              is = line_is gate
                  ∙ ap (λ (z : List ℕ). header_text n ++ z) (sym (append-nil (operands_line events gate)));
            })
            (λ gate back other is any alike e. record {
              a = gate;
              back = back;
              sought = is;
              ends = tt;
              is = append_cancel_left (header_text n) other (operands_line events gate ++ back)
                  (e ∙ line_cut gate back);
            }) stuck
