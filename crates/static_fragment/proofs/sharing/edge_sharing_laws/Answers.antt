use Rattle.std.proofs.lemmas.Bool.{cases_eq}
use Rattle.ar_firing.proofs.Unbroken.{keeps_s5, keeps_s6}
use Rattle.static_fragment.proofs.Listing.{shared_breaks, breaks_shared, unbroken_s5, many_break, few_keep}
use Rattle.static_fragment.proofs.Entering.{again_breaks, breaks_again, unbroken_s6}
use Rattle.static_fragment.proofs.sharing.edge_sharing_laws.Goals as goal

pub returns-clause-sharing_breaks : goal.returns-clause-sharing_breaks
returns-clause-sharing_breaks c = λ p system dropped kept reaches live d k1 k2 n h. shared_breaks d k1 k2 n h

pub returns-clause-sharing_broken : goal.returns-clause-sharing_broken
returns-clause-sharing_broken c = λ p system dropped kept reaches live d k1 k2 n h. breaks_shared d k1 k2 n h

pub returns-clause-sharing_keeps : goal.returns-clause-sharing_keeps
returns-clause-sharing_keeps c = λ p system dropped kept reaches live d k1 k2 none. keeps_s5 cases_eq system dropped
    (unbroken_s5 d k1 k2 none)

pub returns-clause-entering_breaks : goal.returns-clause-entering_breaks
returns-clause-entering_breaks c = λ p system dropped kept reaches a n h. again_breaks a n h

pub returns-clause-entering_broken : goal.returns-clause-entering_broken
returns-clause-entering_broken c = λ p system dropped kept reaches a k1 k2 n h. breaks_again a k1 k2 n h

pub returns-clause-entering_keeps : goal.returns-clause-entering_keeps
returns-clause-entering_keeps c = λ p system dropped kept reaches a k1 k2 none. keeps_s6 cases_eq system dropped
    (unbroken_s6 a k1 k2 none)

pub returns-clause-counted_breaks : goal.returns-clause-counted_breaks
returns-clause-counted_breaks c = λ p system dropped kept reaches live d count s h many. many_break d count s h many

pub returns-clause-counted_keeps : goal.returns-clause-counted_keeps
returns-clause-counted_keeps c = λ p system dropped kept reaches live d k1 k2 count s h few. few_keep d k1 k2 count s h few
