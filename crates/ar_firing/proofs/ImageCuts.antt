-- A system and its image have the same firing orders, cuts and conflict sets.
use Rattle.std.proofs.Common.{ℕ, List, sym, ◌∙◌, subst}
use Rattle.domains.specs.declared.Value.{Value}
use Rattle.typed_expr.specs.PairsInside.{turned_pairs}
use Rattle.typed_expr.specs.declared.expr.Expr.{Expr}
use Rattle.typed_expr.proofs.Renaming.{carries}
use Rattle.ar_meaning.specs.Systems.{Way, System}
use Rattle.ar_meaning.specs.Facts.{HasValue}
use Rattle.ar_meaning.specs.Flows.{FlowFault, Flows, Fails, Total}
use Rattle.ar_meaning.specs.Runs.{Label}
use Rattle.ar_meaning.specs.Image.{Way_renames, Expr_renames}
use Rattle.ar_meaning.specs.ImageInside.{IsImage}
use Rattle.ar_meaning.proofs.ImageTurned.{image_turned}
use Rattle.typed_expr.proofs.Renaming.{renames_turned}
use Rattle.ar_meaning.proofs.ImageFlows.{partner, value_there, flows_there, step_there}
use Rattle.ar_meaning.proofs.ImageRuns.{first_values_there}
use Rattle.ar_firing.specs.Fragment.{IsOpen}
use Rattle.ar_firing.specs.Cuts.{Reaches, Conflicts, start, fire, HasOrder, Makes, MeetsConflict, IsLeast, Cut, ConflictSet}
use Rattle.ar_firing.specs.Cuts as cuts
use Rattle.ar_firing.proofs.LeastSets.{least_on}

module _ {V W : Type 0} (same : V → W → Type 0) (here : System V) (there : System W) (image : IsImage same here there)
    (dropped : List ℕ) where
  -- the way of the same label
  pub record OpenThere (l : Label) (v : Way V) : Type 0 where
    pub way : Way W
    pub is_open : IsOpen there dropped l way
    pub related : Way_renames same v way

  pub open_there : {l : Label} {v : Way V} → IsOpen here dropped l v → OpenThere l v
  open_there {l = l} {v = v} o =
      let k = o.is_kept in
      let e = partner image.events l.event k.is_way.event k.is_way.is_event in
      let w = partner e.related.ways l.way v k.is_way.is_way in
      record {
        way = w.item;
        is_open =
            record {
              is_kept = record {
                is_way = record { event = e.item; is_event = e.stands; is_way = w.stands };
                stays = k.stays;
              };
              visible = sym e.related.hidden ∙ o.visible;
            };
        related = w.related;
      }

  pub reaches_there : {ls : List Label} {t : List Value} → Reaches here dropped ls t → Reaches there dropped ls t
  reaches_there (start {t = t} f) =
      start
      (subst (λ z. Flows there.net z (Total t)) (first_values_there same here there image image.net.variables)
      (flows_there same here.net there.net image.net f))
  reaches_there (fire w r o s) =
      let p = open_there o in
      fire p.way (reaches_there r) p.is_open (step_there same here.net there.net image.net p.related s)

  pub conflicts_there : {ls : List Label} {f : FlowFault} → Conflicts here dropped ls f → Conflicts there dropped ls f
  conflicts_there (cuts.start {f = k} f) =
      cuts.start
      (subst (λ z. Flows there.net z (Fails k)) (first_values_there same here there image image.net.variables)
      (flows_there same here.net there.net image.net f))
  conflicts_there (cuts.fire w r o s) =
      let p = open_there o in
      cuts.fire p.way (reaches_there r) p.is_open (step_there same here.net there.net image.net p.related s)

  pub order_there : {set : List ℕ} {t : List Value} → HasOrder here dropped set t → HasOrder there dropped set t
  order_there o = record { labels = o.labels; events = o.events; reaches = reaches_there o.reaches }

  pub meets_there : {set : List ℕ} → MeetsConflict here dropped set → MeetsConflict there dropped set
  meets_there m = record {
    labels = m.labels;
    events = m.events;
    fault = m.fault;
    conflicts = conflicts_there m.conflicts;
  }

  pub makes_there : (observer : Expr V) (other : Expr W) → Expr_renames same observer other
      → (wanted : Value) (set : List ℕ) → Makes here dropped observer wanted set → Makes there dropped other wanted set
  makes_there observer other q wanted set m = record {
    values = m.values;
    order = order_there m.order;
    shows =
        carries V W (HasValue here.net m.values) (HasValue there.net m.values) same
        (λ x y v s h. value_there same here.net there.net image.net m.values x y v s h) m.shows q.renames;
  }

module _ {V W : Type 0} (same : V → W → Type 0) (here : System V) (there : System W) (image : IsImage same here there)
    (dropped : List ℕ) where
  pub makes_back : (observer : Expr V) (other : Expr W) → Expr_renames same observer other
      → (wanted : Value) (set : List ℕ) → Makes there dropped other wanted set → Makes here dropped observer wanted set
  makes_back observer other q wanted set m =
      makes_there (turned_pairs same) there here (image_turned same image) dropped other observer
      (record { renames = renames_turned same q.renames }) wanted set m

  pub cut_there : (observer : Expr V) (other : Expr W) → Expr_renames same observer other
      → (wanted : Value) (set : List ℕ) → Cut here dropped observer wanted set → Cut there dropped other wanted set
  cut_there observer other q wanted set c =
      least_on (Makes there dropped other wanted) (Makes here dropped observer wanted)
      (λ s m. makes_back observer other q wanted s m)
      (λ s l. makes_there same here there image dropped observer other q wanted s l.has) c

  pub conflict_set_there : (set : List ℕ) → ConflictSet here dropped set → ConflictSet there dropped set
  conflict_set_there set c =
      least_on (MeetsConflict there dropped) (MeetsConflict here dropped)
      (λ s m. meets_there (turned_pairs same) there here (image_turned same image) dropped m)
      (λ s l. meets_there same here there image dropped l.has) c

  pub cut_back : (observer : Expr V) (other : Expr W) → Expr_renames same observer other
      → (wanted : Value) (set : List ℕ) → Cut there dropped other wanted set → Cut here dropped observer wanted set
  cut_back observer other q wanted set c =
      least_on (Makes here dropped observer wanted) (Makes there dropped other wanted)
      (λ s m. makes_there same here there image dropped observer other q wanted s m)
      (λ s l. makes_back observer other q wanted s l.has) c
