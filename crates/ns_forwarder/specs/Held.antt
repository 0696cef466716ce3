-- What a value of the code stands for.
use Rattle.std.specs.Prelude.{map}
use Rattle.ns_forwarder.specs.declared.item.Item as code
use Rattle.ns_forwarder.specs.declared.push.Push as code_push
use Rattle.ns_forwarder.specs.Rxpk.{Item}
use Rattle.ns_forwarder.specs.Push.{Push}

abbrev pub item_view : code.Item → Item
item_view i = record { counter = i.counter; freq = i.freq; dr = i.dr; rssi = i.rssi; snr = i.snr; frame = i.frame.items }

abbrev pub push_view : code_push.Push → Push
push_view p = record { items = map item_view p.items.items; left_out = map (λ l. l.fault) p.left_out.items }
