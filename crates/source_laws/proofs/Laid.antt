-- Members that agree are laid alike.
use Rattle.std.proofs.Common.{◌≡◌, ℕ, suc, ◌+◌, List, [], ◌∷◌, ◌++◌, length, refl, sym, ap, subst, ◌∙◌}
use Rattle.ar_base.specs.Lists.{Along}
use Rattle.ar_base.specs.Lists as along
use Rattle.parser_laws.specs.Members.{SameMember}
use Rattle.parser_laws.specs.Opened.{SameKind}
use Rattle.ar_syntax.specs.declared.members.Member.{Member, out-Member}
use Rattle.ar_syntax.specs.declared.members.Member.TheOpen as member
use Rattle.class_table.specs.Declaring.{MemberForm, TextBody, is_block, Lays, Lays_one}
use Rattle.class_table.specs.Declaring.Lays.{none as no_members, one_and as member_and}
use Rattle.class_table.specs.Declaring.Lays_one.{plain as one_plain, block as one_block}
use Rattle.class_table.specs.declared.tables.Owned.{Owned}
use Rattle.source_laws.specs.Tables.{SameOwned, SameText}
use Rattle.source_laws.specs.Views.{SameForms}
use Rattle.source_laws.specs.Views as same

-- the members lay what agrees with these
pub record LaidThere (n : ℕ) (ms : List Member) (os : List Owned) (bs : List TextBody) : Type 0 where
  pub own : List Owned
  pub bodies : List TextBody
  pub lays : Lays n ms own bodies
  pub same_own : Along SameOwned os own
  pub same_bodies : Along SameText bs bodies

-- so does one member
record OneThere (n : ℕ) (m : Member) (f : MemberForm) (o : Owned) (bs : List TextBody) : Type 0 where
  own : Owned
  bodies : List TextBody
  lays : Lays_one n m f own bodies
  same_own : SameOwned o own
  same_bodies : Along SameText bs bodies

-- Lists item by item

pub along_long : {A B : Type 0} {R : A → B → Type 0} {xs : List A} {ys : List B} → Along R xs ys → length xs ≡ length ys
along_long along.none = refl
along_long (along.one_and r more) = ap suc (along_long more)

pub along_joined : {A B : Type 0} {R : A → B → Type 0} {xs us : List A} {ys vs : List B} → Along R xs ys → Along R us vs
    → Along R (xs ++ us) (ys ++ vs)
along_joined along.none more = more
along_joined (along.one_and r rs) more = along.one_and r (along_joined rs more)

-- Members

-- both are blocks, or neither is
blocks_alike : {f g : MemberForm} → SameForms f g → is_block f ≡ is_block g
blocks_alike same.extends = refl
blocks_alike (same.declares i s) = refl
blocks_alike (same.block s) = refl
blocks_alike (same.clones s) = refl
blocks_alike (same.embeds s) = refl
blocks_alike (same.parameter s) = refl
blocks_alike same.kept = refl
blocks_alike same.event = refl
blocks_alike (same.observer s) = refl
blocks_alike (same.hides s) = refl
blocks_alike (same.local s r) = refl
blocks_alike (same.sync s) = refl
blocks_alike (same.asserts s) = refl

-- members that agree, kind by kind
pub viewed : (f g : MemberForm) → SameKind f g → SameForms f g
viewed (member.Extends n a) (member.Extends m b) s =
    subst (λ z. SameForms (member.Extends n a) (member.Extends z b)) s.0
    (subst (λ z. SameForms (member.Extends n a) (member.Extends n z)) s.1 same.extends)
viewed (member.Declare t v s) (member.Declare u w r) h =
    subst (λ z. SameForms (member.Declare t v s) (member.Declare z w r)) h.0 (same.declares h.1 h.2)
viewed (member.Block u) (member.Block w) s = same.block s
viewed (member.Clones p n a) (member.Clones q m b) s =
    subst (λ z. SameForms (member.Clones p n a) (member.Clones q z b)) s.1
    (subst (λ z. SameForms (member.Clones p n a) (member.Clones q n z)) s.2 (same.clones s.0))
viewed (member.Embeds p n a) (member.Embeds q m b) s =
    subst (λ z. SameForms (member.Embeds p n a) (member.Embeds q z b)) s.1
    (subst (λ z. SameForms (member.Embeds p n a) (member.Embeds q n z)) s.2 (same.embeds s.0))
viewed (member.Parameter t n a e) (member.Parameter u m b f) s =
    subst (λ z. SameForms (member.Parameter t n a e) (member.Parameter z m b f)) s.0
    (subst (λ z. SameForms (member.Parameter t n a e) (member.Parameter t z b f)) s.1
    (subst (λ z. SameForms (member.Parameter t n a e) (member.Parameter t n z f)) s.2 (same.parameter s.3)))
viewed (member.Kept n a s) (member.Kept m b r) h =
    subst (λ z. SameForms (member.Kept n a s) (member.Kept z b r)) h.0
    (subst (λ z. SameForms (member.Kept n a s) (member.Kept n z r)) h.1
    (subst (λ z. SameForms (member.Kept n a s) (member.Kept n a z)) h.2 same.kept))
viewed (member.Event n a s) (member.Event m b r) h =
    subst (λ z. SameForms (member.Event n a s) (member.Event z b r)) h.0
    (subst (λ z. SameForms (member.Event n a s) (member.Event n z r)) h.1
    (subst (λ z. SameForms (member.Event n a s) (member.Event n a z)) h.2 same.event))
viewed (member.Observer t n a e) (member.Observer u m b f) s =
    subst (λ z. SameForms (member.Observer t n a e) (member.Observer z m b f)) s.0
    (subst (λ z. SameForms (member.Observer t n a e) (member.Observer t z b f)) s.1
    (subst (λ z. SameForms (member.Observer t n a e) (member.Observer t n z f)) s.2 (same.observer s.3)))
viewed (member.Hide p) (member.Hide q) s = same.hides s
viewed (member.Local n a e i) (member.Local m b f j) s =
    subst (λ z. SameForms (member.Local n a e i) (member.Local z b f j)) s.0
    (subst (λ z. SameForms (member.Local n a e i) (member.Local n z f j)) s.1 (same.local s.2 s.3))
viewed (member.Sync n a v) (member.Sync m b w) s =
    subst (λ z. SameForms (member.Sync n a v) (member.Sync z b w)) s.0
    (subst (λ z. SameForms (member.Sync n a v) (member.Sync n z w)) s.1 (same.sync s.2))
viewed (member.Assert i) (member.Assert j) s = same.asserts s
viewed _ _ s = absurd s

-- Bodies

module _ (opens : (m n : Member) → SameMember m n → SameKind (out-Member m) (out-Member n)) where
  mutual
    -- members that agree are laid alike
    pub laid_there : (n : ℕ) (ms ns : List Member) (os : List Owned) (bs : List TextBody) → Along SameMember ms ns
        → Lays n ms os bs → LaidThere n ns os bs
    laid_there n [] [] os bs along.none no_members =
        record { own = []; bodies = []; lays = no_members; same_own = along.none; same_bodies = along.none }
    laid_there n [] (k ∷ ks) os bs s no_members = elim s [ ]
    laid_there n _ _ _ _ (along.one_and {a = m} {b = k} {xs = ms} {ys = ks} s more)
        (member_and {o = o} {os = os} {bs = bs} {cs = cs} h rest) =
        let here = one_there n m k (out-Member m) (out-Member k) o bs s (viewed (out-Member m) (out-Member k) (opens m k s)) h in
        let on = laid_there (n + length bs) ms ks os cs more rest in
        record {
          own = here.own ∷ on.own;
          bodies = here.bodies ++ on.bodies;
          lays = member_and here.lays (subst (λ (i : ℕ). Lays (n + i) ks on.own on.bodies) (along_long here.same_bodies) on.lays);
          same_own = along.one_and here.same_own on.same_own;
          same_bodies = along_joined here.same_bodies on.same_bodies;
        }

    -- a member that agrees is laid alike, and so are the blocks in it
    one_there : (n : ℕ) (m k : Member) (f g : MemberForm) (o : Owned) (bs : List TextBody) → SameMember m k
        → SameForms f g → Lays_one n m f o bs → OneThere n k g o bs
    one_there n m k f g o bs s v (one_plain e) =
        record { own = _; bodies = []; lays = one_plain (sym (blocks_alike v) ∙ e); same_own = s; same_bodies = along.none }
    one_there n m k _ _ o bs s (same.block {u = u} {w = w} i) (one_block {id = id} {own = own} {bs = inner} j h) =
        let on = laid_there (n + 1) u.members.items w.members.items own inner i.members h in
        record {
          own = _;
          bodies = _;
          lays = one_block j on.lays;
          same_own = (i.name, i.place, refl);
          same_bodies = along.one_and (record { name = i.name; place = i.place; own = on.same_own }) on.same_bodies;
        }
