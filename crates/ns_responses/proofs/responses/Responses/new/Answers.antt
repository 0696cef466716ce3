use Rattle.std.proofs.Common.{◌++◌, ap}
use Rattle.ns_responses.specs.Held.{HeldBytes}
use Rattle.ns_responses.specs.Plain.{with_front, plain_of}
use Rattle.ns_responses.proofs.responses.Responses.new.Goals as goal

pub returns-clause-plain : goal.returns-clause-plain
returns-clause-plain g c bytes = ap (λ (h : HeldBytes). with_front h.ready (plain_of 16 (h.unread ++ bytes))) c.new.ensures
