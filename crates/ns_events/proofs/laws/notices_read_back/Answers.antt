use Rattle.ns_events.proofs.NoticeLemmas.{join-read-back, ack-read-back}
use Rattle.ns_events.proofs.laws.notices_read_back.Goals as goal

pub returns-clause-joins : goal.returns-clause-joins
returns-clause-joins c = join-read-back

pub returns-clause-acks : goal.returns-clause-acks
returns-clause-acks c = ack-read-back
