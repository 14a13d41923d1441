use Rattle.std.proofs.Common.{sym, subst}
use Rattle.std.proofs.Common.{unwrap_or}
use Rattle.unit_walks.specs.Settling.{IsLed}
use Rattle.unit_walks.specs.declared.settling.Led.TheVariants as led
use Rattle.unit_walks.proofs.settling.Walks.outcome.Goals as goal

pub returns-in-None : goal.returns-in-None
returns-in-None c = λ m units u k p. subst (λ o. IsLed m units u c.args.name.n (unwrap_or o led.Nothing))
    (sym c.in-None.ensures.value) (k.each c.args.unit.n c.args.name.n u p)

pub returns-in-Some : goal.returns-in-Some
returns-in-Some c = λ m units u k p. subst (λ o. IsLed m units u c.args.name.n (unwrap_or o led.Nothing))
    (sym c.in-Some.ensures.value) (k.each c.args.unit.n c.args.name.n u p)
