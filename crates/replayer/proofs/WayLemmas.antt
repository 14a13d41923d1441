-- The ways that commands fire.
use Rattle.std.proofs.Common.{◌≡◌, ◌<◌, ℕ, List, map, length, refl, subst}
use Rattle.ar_base.specs.Lists.{Stands}
use Rattle.ar_base.specs.Numbers.{WayId}
use Rattle.ar_base.proofs.Standing.{stands_map_back}
use Rattle.ar_meaning.specs.Systems as s
use Rattle.ar_meaning.specs.Runs.{Label, IsWay, Fire}
use Rattle.ar_meaning.specs.RunsInside.{FiresWays}
use Rattle.gts_core.specs.View.{Views}
use Rattle.gts_core.specs.Sound.{IsSound}
use Rattle.gts_core.specs.declared.system.GtsParts.{GtsParts}
use Rattle.job_inputs.specs.Flat.{command_of, AreFirable, IsWayOfSystem}
use Rattle.job_inputs.specs.declared.commands.Command.{Command}
use Rattle.job_inputs.specs.declared.commands.Command.TheVariants as code
use Rattle.text_pieces.specs.WayLabels.{numbered_label}
use Rattle.text_pieces.proofs.Ways.{way_named}

module _ (p : GtsParts) (sys : s.System ℕ) (views : Views p sys) where
  fires_one : IsSound p → (c : Command) (k : Label) → ((w : WayId) → c ≡ code.Fire w → w.n < length p.ways.items)
      → command_of p c ≡ Fire k → (w : s.Way ℕ) × IsWay sys k w
  fires_one sound (code.Fire w) k h e =
      let named = way_named p sys views sound w.n (h w refl) in
      let same : numbered_label p w.n ≡ k = cc in
      (named.way, subst (λ (z : Label). IsWay sys z named.way) same named.is_way)
  fires_one sound code.Back k h e = absurd (cc e)
  fires_one sound code.Show k h e = absurd (cc e)
  fires_one sound code.Enabled k h e = absurd (cc e)

  -- commands whose ways are those of the system fire ways of the system
  pub fires_ways : IsSound p → (cs : List Command) → AreFirable p cs → FiresWays sys (map (command_of p) cs)
  fires_ways sound cs firable = record {
    each = λ k o.
        let from = stands_map_back (command_of p) cs o.place (Fire k) o.stands in
        fires_one sound from.0 k
        (λ w e. firable.each w (record { place = o.place; stands = subst (λ z. Stands cs o.place z) e from.1 })) from.2;
  }

-- a command that stands among them
pub firable_at : (p : GtsParts) (cs : List Command) (i : ℕ) (c : Command) → AreFirable p cs → Stands cs i c
    → IsWayOfSystem p c
firable_at p cs i (code.Fire w) h s = h.each w (record { place = i; stands = s })
firable_at p cs i code.Back h s = tt
firable_at p cs i code.Show h s = tt
firable_at p cs i code.Enabled h s = tt
