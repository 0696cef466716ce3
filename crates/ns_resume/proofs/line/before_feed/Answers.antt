use Rattle.std.proofs.Common.{◌<◌, length, arith}
use Rattle.ns_resume.proofs.Lines.{no_feed_before}
use Rattle.ns_resume.proofs.line.before_feed.Goals as goal

pub returns-in-Some-clause-no_feed : goal.returns-in-Some-clause-no_feed
returns-in-Some-clause-no_feed c =
    let found = c.in-Some.ensures in
    let within : c.in-Some.at < length c.args.shown.now = found.0.high in
    no_feed_before c.args.shown.now c.in-Some.at (omega (arith, within)) found.0.before

pub returns-in-None-clause-no_feed : goal.returns-in-None-clause-no_feed
returns-in-None-clause-no_feed c = no_feed_before c.args.shown.now (length c.args.shown.now) (omega arith) c.in-None.ensures
