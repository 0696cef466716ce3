use Rattle.std.proofs.Common.{rules, nat_eq}
use Rattle.std.specs.HashMap.{get}
use Rattle.ns_roster.proofs.TextLemmas.{device_with-push}
use Rattle.ns_roster.proofs.ValidLemmas.{AreDevices-push}
use Rattle.ns_roster.proofs.reading.add.Goals as goal

pub returns-clause-indexed : goal.returns-clause-indexed
returns-clause-indexed c = λ q. rw c.in_ok-push.ensures.items
    (device_with-push c.args.devices.now.items c.args.device (get nat_eq c.args.by_eui.now) (get nat_eq c.insert.new.self)
    (search rules) c.requires.indexed c.in_ok-insert.ensures.updates.0 q)

pub returns-clause-valid : goal.returns-clause-valid
returns-clause-valid c = rw c.in_ok-push.ensures.items
    (AreDevices-push c.args.devices.now.items c.args.device c.requires.valid c.requires.slot (search rules))
