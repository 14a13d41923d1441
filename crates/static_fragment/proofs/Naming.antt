-- What guards and actions of kept ways name beside their mode variables.
use Rattle.std.proofs.Common.{◌≡◌, ℕ, Bool, true, false, List, refl, sym, ◌∙◌, subst}
use Rattle.ar_meaning.specs.Systems as s
use Rattle.ar_meaning.specs.Systems.{System, Way as Ways}
use Rattle.ar_meaning.specs.Runs.{Label}
use Rattle.ar_firing.specs.Fragment.{GuardNames, ActionNames}
use Rattle.ar_firing.specs.Rules.{KeepsS1, KeepsS2, HasModeVariable, BreaksS3, BreaksS4, names, Spot, S3, BreaksStaticRule, s3}
use Rattle.gts_core.specs.View.{variable_of}
use Rattle.gts_core.specs.declared.system.GtsParts.{GtsParts}
use Rattle.mode_search.specs.Modes.{NamesOther, NamesAlone}
use Rattle.mode_search.specs.Kept.{OtherInGuard, OtherInAction}
use Rattle.mode_search.specs.declared.kept.KeptWay.{KeptWay}
use Rattle.static_fragment.specs.Setting.{AreKeptWays}
use Rattle.static_fragment.proofs.Ways.{leaf_at, key_at, has_mode, tie, label_at, mode_at, found}

-- where another number has P, the flag says so
other_of : (P : ℕ → Type 0) (n : ℕ) (b : Bool) → NamesAlone P n b → (y : ℕ) → P y → (y ≡ n → ⊥) → b ≡ false
other_of P n true h y q d = absurd (d (h y q))
other_of P n false h y q d = refl

module _ {p : GtsParts} {system : System ℕ} {dropped : List ℕ} {kept : List KeptWay}
    (c : AreKeptWays p system dropped kept) where
  pub guard_breaks : (n : ℕ) → OtherInGuard kept n → BreaksS3 system dropped n
  guard_breaks n h =
      let l = label_at c h.is_one.place h.way h.is_one.stands in
      let t = tie c l.0 h.way l.2 in
      let o : NamesOther (λ y. GuardNames y (leaf_at l.2)) h.way.mode.variable.n =
      subst (λ (b : Bool). NamesAlone (λ y. GuardNames y (leaf_at l.2)) h.way.mode.variable.n b) h.other
      l.2.is.mode.guard in
      subst (BreaksS3 system dropped) h.number (record {
        label = l.0;
        way = leaf_at l.2;
        variable = variable_of h.way.mode.variable.n t.variable;
        mode = has_mode c t;
        other = o.other;
        named = o.named;
        differs = o.differs;
      })

  pub action_breaks : (n : ℕ) → OtherInAction kept n → BreaksS4 system dropped n
  action_breaks n h =
      let l = label_at c h.is_one.place h.way h.is_one.stands in
      let t = tie c l.0 h.way l.2 in
      let o : NamesOther (λ y. ActionNames y (leaf_at l.2)) h.way.mode.variable.n =
      subst (λ (b : Bool). NamesAlone (λ y. ActionNames y (leaf_at l.2)) h.way.mode.variable.n b) h.other
      l.2.is.mode.action in
      subst (BreaksS4 system dropped) h.number
      (names l.0 (leaf_at l.2) (variable_of h.way.mode.variable.n t.variable) (has_mode c t) o.other o.named o.differs)

  module _ (k1 : KeepsS1 system) (k2 : KeepsS2 system dropped) where
    pub guard_other : (n : ℕ) → BreaksS3 system dropped n → OtherInGuard kept n
    guard_other n b =
        let h = found c k1 k2 b.label b.way b.mode.is_kept in
        let e = mode_at c b.label b.way n b.mode.is_kept b.mode.is_mode h in
        record {
          way = h.way;
          is_one = record { place = h.place; stands = h.stands };
          number = e;
          other = other_of (λ y. GuardNames y (leaf_at h.at)) h.way.mode.variable.n h.way.mode.guard_alone
              h.at.is.mode.guard b.other
              (subst (λ (z : Ways ℕ). GuardNames b.other z) (sym h.is) b.named)
              (λ i. b.differs (i ∙ (e ∙ sym (key_at c n b.variable b.mode.stands))));
        }

    pub action_other : (l : Label) (w : Ways ℕ) (n : ℕ) (x : s.Variable ℕ) → HasModeVariable system dropped l w n x
        → (y : ℕ) → ActionNames y w
        → (y ≡ x.key → ⊥) → OtherInAction kept n
    action_other l w n x m y a d =
        let h = found c k1 k2 l w m.is_kept in
        let e = mode_at c l w n m.is_kept m.is_mode h in
        record {
          way = h.way;
          is_one = record { place = h.place; stands = h.stands };
          number = e;
          other = other_of (λ z. ActionNames z (leaf_at h.at)) h.way.mode.variable.n h.way.mode.action_alone
              h.at.is.mode.action y
              (subst (λ (z : Ways ℕ). ActionNames y z) (sym h.is) a)
              (λ i. d (i ∙ (e ∙ sym (key_at c n x m.stands))));
        }

    pub unbroken_s3 : ((n : ℕ) → OtherInGuard kept n → ⊥) → (spot : Spot) → BreaksStaticRule system dropped S3 spot → ⊥
    unbroken_s3 none spot (s3 {n = n} h) = none n (guard_other n h)
