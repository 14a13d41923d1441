-- The one system that sound parts stand for.
use Rattle.std.proofs.Common.{◌≡◌, ℕ, suc, Bool, List, [], ◌∷◌, refl, sym, ◌∙◌}
use Rattle.ar_base.specs.Lists as l
use Rattle.ar_base.specs.Lists.{Stands, Along}
use Rattle.ar_base.proofs.Standing.{stands_within}
use Rattle.typed_expr.specs.declared.expr.Expr.{Expr}
use Rattle.ar_meaning.specs.Systems.{System, Net, Event as Meant, Way as Ways}
use Rattle.ar_meaning.proofs.OneRun.{means_same}
use Rattle.ar_base.specs.Numbers.{WayId}
use Rattle.gts_core.specs.View.{IsWayAt, IsEventView, Views, net_of, way_bodies, observers_of}
use Rattle.gts_core.specs.Sound.{IsSound}
use Rattle.gts_core.specs.declared.system.Event.{Event}
use Rattle.gts_core.specs.declared.system.GtsParts.{GtsParts}

-- a relation that holds of something for each item of a list holds along the list and another
along_some : {A B : Type 0} (R : A → B → Type 0) (xs : List A) → ((k : ℕ) (x : A) → Stands xs k x → (b : B) × R x b)
    → (bs : List B) × Along R xs bs
along_some R [] each = ([], l.none)
along_some R (x ∷ xs) each =
    let first = each 0 x refl in
    let more = along_some R xs (λ k y s. each (suc k) y s) in
    (first.0 ∷ more.0, l.one_and first.1 more.1)

-- it holds along one list where it holds of one thing for each item
pub along_one : {A B : Type 0} (R : A → B → Type 0) → ((x : A) (b c : B) → R x b → R x c → b ≡ c)
    → {xs : List A} {bs cs : List B} → Along R xs bs → Along R xs cs → bs ≡ cs
along_one R single l.none l.none = refl
along_one R single (l.one_and {a = x} {b = b} r rs) (l.one_and {b = c} s ss) = let i : b ≡ c = single x b c r s in let j = along_one R single rs ss in cc

module _ (p : GtsParts) where
  -- an event that stands for an event of the parts
  some_event : IsSound p → (n : ℕ) (e : Event) → Stands p.events.items n e → (m : Meant ℕ) × IsEventView p e m
  some_event sound n e s =
      let ways = along_some (λ (id : WayId) (w : Ways ℕ). IsWayAt p id.n w) e.ways.items (λ k id t.
      let listed = sound.event_ways n k e id s t in
      let tree = sound.trees id.n (stands_within p.ways.items id.n listed.way listed.stands) in
      (tree.0, tree.1)) in (
        record { unit = e.unit.n; hidden = e.hidden; ways = ways.0 },
        record
            { unit = refl; hidden = refl; ways = ways.1 },
      )

  -- it is the only one
  one_event : (e : Event) (a b : Meant ℕ) → IsEventView p e a → IsEventView p e b → a ≡ b
  one_event e a b f g = go a.unit b.unit a.hidden b.hidden a.ways b.ways (f.unit ∙ sym g.unit) (f.hidden ∙ sym g.hidden)
      (along_one (λ (id : WayId) (w : Ways ℕ). IsWayAt p id.n w) (λ id v w i j. means_same (way_bodies p) i j) f.ways
      g.ways)
    where
      go : (u v : ℕ) (h k : Bool) (ws xs : List (Ways ℕ)) → u ≡ v → h ≡ k → ws ≡ xs
          → ◌≡◌ {A = Meant ℕ} (record { unit = u; hidden = h; ways = ws }) (record { unit = v; hidden = k; ways = xs })
      go u v h k ws xs c d i = cc

  -- sound parts stand for a system
  pub some_system : IsSound p → (system : System ℕ) × Views p system
  some_system sound =
      let events = along_some (IsEventView p) p.events.items (some_event sound) in (
        record { net = net_of p; events = events.0; observers = observers_of p },
        record
            { net = refl; events = events.1; observers = refl },
      )

  -- parts stand for one system
  pub one_system : (a b : System ℕ) → Views p a → Views p b → a ≡ b
  one_system a b f g = go a.net b.net a.events b.events a.observers b.observers (f.net ∙ sym g.net)
      (along_one (IsEventView p) one_event f.events g.events) (f.observers ∙ sym g.observers)
    where
      go : (m n : Net ℕ) (es fs : List (Meant ℕ)) (os qs : List (Expr ℕ)) → m ≡ n → es ≡ fs → os ≡ qs
          → ◌≡◌ {A = System ℕ} (record { net = m; events = es; observers = os })
          (record { net = n; events = fs; observers = qs })
      go m n es fs os qs c d i = cc
