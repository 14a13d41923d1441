-- The rounds of a block, at one set and with the gates of the whole table: each reading holds what the one before it
-- gives.
use Rattle.std.proofs.Common.{◌≡◌, ◌↔◌, ℕ, zero, suc, ◌<◌, ◌⊎◌, inl, inr, Bool, true, false, nat_eq, List, ◌∷◌, refl, sym, ◌∙◌, subst, arith}
use Rattle.std.specs.Cmp.{unsigned_Decides}
use Rattle.ar_base.specs.Lists.{IsOneOf, Along}
use Rattle.ar_base.specs.Lists as l
use Rattle.ar_base.proofs.Standing.{one_cases, one_first, one_rest, one_none}
use Rattle.domains.specs.declared.Value.{Value}
use Rattle.typed_expr.specs.Kinds.{kind_of}
use Rattle.typed_expr.specs.declared.expr.ValueKind.{ValueKind}
use Rattle.ar_meaning.specs.Systems.{Net}
use Rattle.ar_meaning.specs.Facts.{Allows}
use Rattle.gts_core.specs.Lawful.{IsLawful}
use Rattle.eq_core.specs.Gates.{Gate}
use Rattle.eq_core.specs.Values.{value_at}
use Rattle.eq_core.specs.ValuesInside.{GainsGates}
use Rattle.eq_core.proofs.Telling.{grows_on, tells_kept}
use Rattle.eq_build.specs.Entries.{Entry, operand_for}
use Rattle.eq_build.specs.Tells.{AreEntries}
use Rattle.eq_build.proofs.EntriesTell.{entries_kept, entries_as, entry_tells}
use Rattle.table_laws.specs.Known.{ReadingHolds, AssignsValue}
use Rattle.eq_build.specs.Steps.{Reading, Threads, RoundOf, updated, Rounds, no_round, round_and}
use Rattle.table_laws.proofs.Growing.{rounds_more}
use Rattle.table_laws.proofs.AssignsTell.{Comes, round_tells}

-- what a reading holds at a set, with these gates
abbrev pub held : List ℕ → List Gate → Reading → ℕ → Value → Bool
held set gates read x d = value_at gates (operand_for (read x) d) set

-- entries that tell of something at some gates tell of what they hold with more gates
pub to_held : {set : List ℕ} {g h : List Gate} {es : List Entry} {P : Value → Type 0} → GainsGates g h
    → AreEntries set g es P → AreEntries set g es (λ d. value_at h (operand_for es d) set ≡ true)
to_held s a = entries_as (λ d p. let t = tells_kept s (entry_tells a d) in t.so_true p)
    (λ d e. let t = tells_kept s (entry_tells a d) in t.true_so e) a

pub held_is : {set : List ℕ} {g h : List Gate} {es : List Entry} {P : Value → Type 0} → GainsGates g h
    → AreEntries set g es P → (d : Value) → (value_at h (operand_for es d) set ≡ true) ↔ P d
held_is s a d = let t = tells_kept s (entry_tells a d) in (t.true_so, t.so_true)

-- what an updated reading has for a variable: the block's new entries, or what it had
pub data IsUpdated (P : ℕ → List Entry → Type 0) (read : Reading) (block : List ℕ) (rows : List (List Entry)) (x : ℕ)
    : Type 0 where
  in_block : IsOneOf block x → P x (updated read block rows x) → IsUpdated P read block rows x
  outside : (IsOneOf block x → ⊥) → updated read block rows x ≡ read x → IsUpdated P read block rows x

pub is_updated : (P : ℕ → List Entry → Type 0) (read : Reading) {block : List ℕ} {rows : List (List Entry)}
    → Along P block rows → (x : ℕ) → IsUpdated P read block rows x
is_updated P read l.none x = outside (λ o. one_none x o) refl
is_updated P read (l.one_and {a = n} {b = row} {xs = ns} {ys = rows} p t) x =
    go (nat_eq n x) refl (is_updated P read t x)
  where
    first : nat_eq n x ≡ true → n ≡ x
    first e = (unsigned_Decides n x).0 e

    go : (b : Bool) → nat_eq n x ≡ b → IsUpdated P read ns rows x → IsUpdated P read (n ∷ ns) (row ∷ rows) x
    go true e r =
        let q : updated read (n ∷ ns) (row ∷ rows) x ≡ row = rw e refl in
        in_block (subst (λ z. IsOneOf (n ∷ ns) z) (first e) (one_first n ns))
        (subst (λ z. P x z) (sym q) (subst (λ z. P z row) (first e) p))
    go false e (in_block o q) =
        let i : updated read (n ∷ ns) (row ∷ rows) x ≡ updated read ns rows x = rw e refl in
        in_block (one_rest n ns x o) (subst (λ z. P x z) (sym i) q)
    go false e (outside o q) =
        let i : updated read (n ∷ ns) (row ∷ rows) x ≡ updated read ns rows x = rw e refl in
        outside
        (λ m. elim (one_cases n ns x m) [ inl j ↦ (let k = (unsigned_Decides n x).1 j in cc) | inr k ↦ o k ]) (i ∙ q)

module _ (set : List ℕ) (kinds : ℕ → ValueKind) (net : Net ℕ) (lawful : IsLawful net kinds) (gates : List Gate) where
  -- a reading that tells of what it holds, each value of its variable's domain
  pub record IsSound (g : List Gate) (read : Reading) : Type 0 where
    pub each : (x : ℕ) → AreEntries set g (read x) (ReadingHolds (held set gates read) x)
    pub allowed : (x : ℕ) (d : Value) → held set gates read x d ≡ true → Allows net x d

  -- one reading follows on another
  pub record Follows (block : List ℕ) (read next : Reading) : Type 0 where
    pub sound : (x : ℕ) (d : Value) → IsOneOf block x → held set gates next x d ≡ true
        → AssignsValue net (ReadingHolds (held set gates read)) x d
    pub whole : (x : ℕ) (d : Value) → IsOneOf block x → Allows net x d → AssignsValue net (ReadingHolds (held set gates read)) x d
        → held set gates next x d ≡ true
    pub outside : (x : ℕ) → IsOneOf block x ⊎ (next x ≡ read x)

  pub record RoundHolds (g h : List Gate) (block : List ℕ) (read next : Reading) : Type 0 where
    pub grown : GainsGates g h
    pub is_sound : IsSound h next
    pub follows : Follows block read next

  pub round_holds : {g h : List Gate} {block : List ℕ} {read : Reading} {rows : List (List Entry)}
      → Threads (RoundOf net read) g block rows h → IsSound g read → GainsGates h gates
      → RoundHolds g h block read (updated read block rows)
  round_holds {g = g} {h = h} {block = block} {read = read} {rows = rows} c s top =
      let facts : ℕ → Value → Type 0 = ReadingHolds (held set gates read) in
      let kept : (x : ℕ) (d : Value) → facts x d → kind_of d ≡ kinds x =
      λ x d e. lawful.of_kind x d (s.allowed x d e) in
      let r = round_tells set kinds facts kept read net lawful c (record { each = s.each }) in
      let P : ℕ → List Entry → Type 0 = λ n es. AreEntries set h es (Comes set kinds facts kept read net lawful n) in
      let at : (x : ℕ) → IsUpdated P read block rows x = λ x. is_updated P read r.tell x in
      record {
        grown = r.grown;
        is_sound = record {
          each = λ x. elim (at x) [
            | in_block o a ↦ to_held top a
            | outside o i ↦ subst (λ z. AreEntries set h z (λ d. value_at gates (operand_for z d) set ≡ true)) (sym i)
                (entries_kept r.grown (s.each x))
          ];
          allowed = λ x d e. elim (at x) [
            | in_block o a ↦ (let p = (held_is top a d).0 e in p.allowed)
            | outside o i ↦ s.allowed x d (subst (λ z. value_at gates (operand_for z d) set ≡ true) i e)
          ];
        };
        follows = record {
          sound = λ x d m e. elim (at x) [
            | in_block o a ↦ (let p = (held_is top a d).0 e in p.gives)
            | outside o i ↦ absurd (o m)
          ];
          whole = λ x d m p q. elim (at x) [
            | in_block o a ↦ (held_is top a d).1 (record { gives = q; allowed = p })
            | outside o i ↦ absurd (o m)
          ];
          outside = λ x. elim (at x) [ in_block o a ↦ inl o | outside o i ↦ inr i ];
        };
      }

  -- the readings of the rounds, by number; the last one stays
  abbrev pub reading_at : {block : List ℕ} {n : ℕ} {g h : List Gate} {read last : Reading}
      → Rounds net block n g read last h → ℕ → Reading
  reading_at (no_round {read = read}) k = read
  reading_at (round_and {read = read} c d) zero = read
  reading_at (round_and {read = read} c d) (suc k) = reading_at d k

  pub reading_first : {block : List ℕ} {n : ℕ} {g h : List Gate} {read last : Reading}
      (r : Rounds net block n g read last h) → reading_at r zero ≡ read
  reading_first no_round = refl
  reading_first (round_and c d) = refl

  pub reading_last : {block : List ℕ} {n : ℕ} {g h : List Gate} {read last : Reading}
      (r : Rounds net block n g read last h) → reading_at r n ≡ last
  reading_last no_round = refl
  reading_last (round_and c d) = reading_last d

  -- the rounds of a block
  pub record RoundsHold (block : List ℕ) (n : ℕ) (h : List Gate) (read last : Reading) (at : ℕ → Reading)
      : Type 0 where
    pub is_sound : IsSound h last
    pub follows : (k : ℕ) → k < n → Follows block (at k) (at (suc k))
    pub outside : (x : ℕ) → IsOneOf block x ⊎ ((k : ℕ) → at k x ≡ read x)
    pub allowed : (k : ℕ) (x : ℕ) (d : Value) → held set gates (at k) x d ≡ true → Allows net x d

  pub rounds_hold : {block : List ℕ} {n : ℕ} {g h : List Gate} {read last : Reading}
      (r : Rounds net block n g read last h) → IsSound g read → GainsGates h gates
      → RoundsHold block n h read last (reading_at r)
  rounds_hold no_round s top = record {
    is_sound = s;
    follows = λ k l. absurd (omega (arith, l));
    outside = λ x. inr (λ k. refl);
    allowed = λ k x d e. s.allowed x d e;
  }
  rounds_hold {block = block} (round_and {k = k0} {h = h0} {i = i0} {read = read} {last = last} {rows = rows} c d) s
      top =
      let m = round_holds c s (grows_on (rounds_more d) top) in
      let n = rounds_hold d m.is_sound top in
      record {
        is_sound = n.is_sound;
        follows = follow m.follows n;
        outside = λ x. keeps m.follows n x;
        allowed = allow n;
      }
    where
      Rest : Type 0
      Rest = RoundsHold block k0 i0 (updated read block rows) last (reading_at d)

      at : ℕ → Reading
      at = reading_at (round_and c d)

      follow : Follows block read (updated read block rows) → Rest → (k : ℕ) → k < suc k0
          → Follows block (at k) (at (suc k))
      follow m n zero l = subst (λ z. Follows block read z) (sym (reading_first d)) m
      follow m n (suc k) l = n.follows k (omega (arith, l))

      keeps : Follows block read (updated read block rows) → Rest → (x : ℕ)
          → IsOneOf block x ⊎ ((k : ℕ) → at k x ≡ read x)
      keeps m n x = go (m.outside x) (n.outside x)
        where
          every : updated read block rows x ≡ read x → ((k : ℕ) → reading_at d k x ≡ updated read block rows x)
              → (k : ℕ) → at k x ≡ read x
          every e f zero = refl
          every e f (suc k) = f k ∙ e

          go : IsOneOf block x ⊎ (updated read block rows x ≡ read x)
              → IsOneOf block x ⊎ ((k : ℕ) → reading_at d k x ≡ updated read block rows x)
              → IsOneOf block x ⊎ ((k : ℕ) → at k x ≡ read x)
          go (inl o) q = inl o
          go (inr e) (inl o) = inl o
          go (inr e) (inr f) = inr (every e f)

      allow : Rest → (k : ℕ) (x : ℕ) (v : Value) → held set gates (at k) x v ≡ true → Allows net x v
      allow n zero x v e = s.allowed x v e
      allow n (suc k) x v e = n.allowed k x v e
