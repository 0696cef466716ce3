use Rattle.ns_forwarder.proofs.MessageLemmas.{messages-exactly}
use Rattle.ns_forwarder.proofs.laws.messages_exactly.Goals as goal

pub returns : goal.returns
returns c = messages-exactly
