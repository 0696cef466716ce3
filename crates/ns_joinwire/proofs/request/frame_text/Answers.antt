use Rattle.ns_roster.proofs.HexLemmas.{hex_bytes-encode_lower}
use Rattle.ns_joinwire.proofs.request.frame_text.Goals as goal

pub returns-clause-reads_back : goal.returns-clause-reads_back
returns-clause-reads_back c = hex_bytes-encode_lower c.args.frame.now 23 c.told-frame c.fits-frame
