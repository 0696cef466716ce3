use Rattle.ns_roster.proofs.ClosingLemmas.{device_value-spells}
use Rattle.ns_roster.proofs.closing.device_value.Goals as goal

pub returns-in-Some-clause-spells : goal.returns-in-Some-clause-spells
returns-in-Some-clause-spells c =
    device_value-spells c.args.device c.eui_scalar.ensures.fits c.eui_scalar-2.ensures.fits (rw c.in-Some.is c.nonce_scalar.ensures.fits)

pub returns-in-None-clause-spells : goal.returns-in-None-clause-spells
returns-in-None-clause-spells c = device_value-spells c.args.device c.eui_scalar.ensures.fits c.eui_scalar-2.ensures.fits (rw c.in-None.is tt)
