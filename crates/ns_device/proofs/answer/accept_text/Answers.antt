use Rattle.ns_roster.proofs.HexLemmas.{hex_bytes-encode_lower}
use Rattle.ns_device.proofs.answer.accept_text.Goals as goal

pub returns-clause-reads_back : goal.returns-clause-reads_back
returns-clause-reads_back c = (c.told-accept, hex_bytes-encode_lower c.args.accept.now 17 c.told-accept c.fits-accept)
