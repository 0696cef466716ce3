use Rattle.ns_events.proofs.NoticeLemmas.{join-line, ack-line}
use Rattle.ns_events.proofs.laws.notices_have_no_line_feed.Goals as goal

pub returns-clause-joins : goal.returns-clause-joins
returns-clause-joins c = join-line

pub returns-clause-acks : goal.returns-clause-acks
returns-clause-acks c = ack-line
