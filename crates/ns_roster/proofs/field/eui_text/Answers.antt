use Rattle.ns_roster.proofs.HexLemmas.{eui-read}
use Rattle.ns_roster.proofs.field.eui_text.Goals as goal

pub returns-clause-reads_back : goal.returns-clause-reads_back
returns-clause-reads_back c = eui-read c.args.eui c.ranges.eui.fits
