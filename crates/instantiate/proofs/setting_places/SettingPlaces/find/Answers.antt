use Rattle.std.proofs.Common.{ℕ, ◌∷◌, Option, map, sym, ◌∙◌, ap, subst}
use Rattle.class_table.specs.TablesInside.{site_of}
use Rattle.hierarchy.specs.Settings.{target_word_of, settings_at}
use Rattle.unit_rules.specs.Repeats.{code_of}
use Rattle.instantiate.specs.SettingPlaces.{SetsAt}
use Rattle.instantiate.proofs.setting_places.SettingPlaces.find.Goals as goal

pub returns : goal.returns
returns c = λ m u tells.
    let s = site_of c.args.site in
    subst (λ (o : Option ℕ). SetsAt u s (settings_at m s) (map target_word_of c.args.target.now) o)
    (sym c.get.ensures.value ∙ sym c.copied.ensures)
    ((tells.at s).each u (map target_word_of c.args.target.now) c.in_ok-key.key
    (c.in_ok-key.ensures
    ∙ (ap (λ (b : ℕ). b ∷ c.from-2.result ∷ map code_of (map target_word_of c.args.target.now)) c.from.ensures
    ∙ ap (λ (k : ℕ). c.args.site.0.n ∷ k ∷ map code_of (map target_word_of c.args.target.now)) c.from-2.ensures)))
