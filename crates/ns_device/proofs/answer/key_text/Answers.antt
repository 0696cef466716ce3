use Rattle.ns_roster.proofs.HexLemmas.{hex_bytes-encode_lower}
use Rattle.ns_device.proofs.answer.key_text.Goals as goal

pub returns-clause-reads_back : goal.returns-clause-reads_back
returns-clause-reads_back c = (c.told-key, hex_bytes-encode_lower c.args.key.now 16 c.told-key c.fits-key)
