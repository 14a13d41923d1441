use Rattle.std.proofs.Common.{[], map, sym, subst}
use Rattle.zdd_nodes.specs.Nodes.{family}
use Rattle.gate_modules.specs.Forms.{AreOfDifferentUnits, PassesTaken, AddsForms}
use Rattle.gate_modules.specs.ShortenedInside.{module_of, short_form_of}
use Rattle.gate_modules.proofs.Choosing.{different, shortened, fit_root}
use Rattle.gate_modules.proofs.Standing.{stand_for}
use Rattle.gate_modules.proofs.shortening.shorten.Goals as goal

pub add_forms-requires-clause-units : goal.add_forms-requires-clause-units
add_forms-requires-clause-units c =
    subst AreOfDifferentUnits (sym c.deref.ensures.value)
    (different (family c.args.family.now.store c.args.family.now.root.n) c.args.ranges.now c.requires.ranges
    c.choose.new.chosen.items (map module_of c.choose.new.modules.items) c.in_ok-choose.ensures)

pub add_forms-requires-clause-fit : goal.add_forms-requires-clause-fit
add_forms-requires-clause-fit c =
    subst (λ z. PassesTaken z [] (family c.args.family.now.store c.args.family.now.root.n)) (sym c.deref.ensures.value)
    (fit_root c.args.family.now.store c.len.ensures.sound c.args.family.now.root.n c.requires.root c.args.ranges.now
    c.choose.new.chosen.items c.in_ok-choose.ensures.sound)

pub returns : goal.returns
returns c =
    let f = family c.args.family.now.store c.args.family.now.root.n in
    let is =
    shortened f c.args.ranges.now c.requires.ranges c.choose.new.chosen.items (map module_of c.choose.new.modules.items)
    c.in_ok-choose.ensures (map short_form_of c.add_forms.new.forms.items)
    (subst (λ z. AddsForms z [] f [] (map short_form_of c.add_forms.new.forms.items)) c.deref.ensures.value
    (subst (λ z. AddsForms c.deref.result.now [] f (map short_form_of z)
    (map short_form_of c.add_forms.new.forms.items))
    c.new-sets.ensures.items c.in_ok-add_forms.ensures)) in
    record {
      short = is;
      stands = stand_for f (c.len.ensures.sound.families c.args.family.now.root.n c.requires.root) c.args.ranges.now
          c.requires.ranges
          (map module_of c.choose.new.modules.items) (map short_form_of c.add_forms.new.forms.items) is;
    }
