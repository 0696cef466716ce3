use Rattle.ns_forwarder.proofs.TxpkLemmas.{frequency-value}
use Rattle.ns_forwarder.proofs.downlink.megahertz.Goals as goal

pub returns-clause-finite : goal.returns-clause-finite
returns-clause-finite c = rw c.from.ensures (frequency-value c.args.freq c.requires.lowest c.requires.highest)
