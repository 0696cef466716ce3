-- What the runs of one device have in common: its network, who hears it, its Join-Requests, and what a join server answers.
use Rattle.std.specs.Prelude.{ℕ, List, Option, [], ◌∷◌, None, Some, pos, negsuc}
use Rattle.ns_types.specs.declared.identity.DevEui.{DevEui}
use Rattle.ns_types.specs.declared.identity.DevAddr.{DevAddr}
use Rattle.ns_types.specs.declared.identity.GatewayId.{GatewayId}
use Rattle.ns_types.specs.declared.identity.Key.{Key}
use Rattle.ns_types.specs.declared.identity.WindowName.{WindowName}
use Rattle.ns_types.specs.declared.heard.Heard.{Heard}
use Rattle.ns_types.specs.declared.ticket.Ticket.{Ticket}
use Rattle.ns_roster.specs.declared.Device.{Device}
use Rattle.ns_roster.specs.Network.{Network}
use Rattle.ns_calls.specs.declared.call.JoinAns.{JoinAns}
use Rattle.ns_calls.specs.declared.call.Reply.{Reply}
use Rattle.ns_calls.specs.declared.answer.Answer.{Answer}
use Rattle.ns_calls.specs.declared.answer.Downlink.{Downlink}
use Rattle.ns_calls.specs.declared.call.Reply.TheVariants.{Accepted}
use Rattle.ns_calls.specs.declared.accept.JoinAccept.TheVariants.{Plain}

abbrev pub eui : DevEui
eui = record { 0 = 0x0d }

abbrev pub device : Device
device = record { eui = eui; join_eui = record { 0 = 0x0102030401020304 }; slot = 1998321; last_nonce = None }

abbrev pub network : Network
network = record { net_id = record { 0 = 0x24 }; rx1_offset = 0; rx_delay = 1; devices = device ∷ [] }

abbrev pub address : DevAddr
address = record { 0 = 0x49be7df1 }

-- the gateway a1: -95.0 dBm and 7.5 dB
abbrev pub heard_1 : Heard
heard_1 = record { gateway = record { 0 = 0xa1 }; moment = 1000000; freq = 868100000; dr = 5; rssi = negsuc 949; snr = pos 75 }

-- the gateway a2: -100.0 dBm and 8.0 dB, so this copy is the better
abbrev pub heard_2 : Heard
heard_2 = record { gateway = record { 0 = 0xa2 }; moment = 1001000; freq = 868100000; dr = 5; rssi = negsuc 999; snr = pos 80 }

-- the Join-Requests of nonces 1, 5 and 6, and one of a device that the network doesn't have
abbrev pub join_1 : Ticket
join_1 = record { 0 = (0x00 ∷ 0x04 ∷ 0x03 ∷ 0x02 ∷ 0x01 ∷ 0x04 ∷ 0x03 ∷ 0x02 ∷ 0x01 ∷ 0x0d ∷ 0x00 ∷ 0x00 ∷ 0x00 ∷ 0x00 ∷ 0x00 ∷ 0x00 ∷ 0x00 ∷ 0x01 ∷ 0x00 ∷ 0x01 ∷ 0x00 ∷ 0x00 ∷ 0x00 ∷ []) }

abbrev pub join_5 : Ticket
join_5 = record { 0 = (0x00 ∷ 0x04 ∷ 0x03 ∷ 0x02 ∷ 0x01 ∷ 0x04 ∷ 0x03 ∷ 0x02 ∷ 0x01 ∷ 0x0d ∷ 0x00 ∷ 0x00 ∷ 0x00 ∷ 0x00 ∷ 0x00 ∷ 0x00 ∷ 0x00 ∷ 0x05 ∷ 0x00 ∷ 0x05 ∷ 0x00 ∷ 0x00 ∷ 0x00 ∷ []) }

abbrev pub join_6 : Ticket
join_6 = record { 0 = (0x00 ∷ 0x04 ∷ 0x03 ∷ 0x02 ∷ 0x01 ∷ 0x04 ∷ 0x03 ∷ 0x02 ∷ 0x01 ∷ 0x0d ∷ 0x00 ∷ 0x00 ∷ 0x00 ∷ 0x00 ∷ 0x00 ∷ 0x00 ∷ 0x00 ∷ 0x06 ∷ 0x00 ∷ 0x06 ∷ 0x00 ∷ 0x00 ∷ 0x00 ∷ []) }

abbrev pub join_other : Ticket
join_other = record { 0 = (0x00 ∷ 0x04 ∷ 0x03 ∷ 0x02 ∷ 0x01 ∷ 0x04 ∷ 0x03 ∷ 0x02 ∷ 0x01 ∷ 0x0e ∷ 0x00 ∷ 0x00 ∷ 0x00 ∷ 0x00 ∷ 0x00 ∷ 0x00 ∷ 0x00 ∷ 0x01 ∷ 0x00 ∷ 0x01 ∷ 0x00 ∷ 0x00 ∷ 0x00 ∷ []) }

-- the NwkSKey of the first session and that of the second, and the AppSKey
abbrev pub nwk_1 : Key
nwk_1 = record { 0 = (0x44 ∷ 0x02 ∷ 0x42 ∷ 0x41 ∷ 0xed ∷ 0x4c ∷ 0xe9 ∷ 0xa6 ∷ 0x8c ∷ 0x6a ∷ 0x8b ∷ 0xc0 ∷ 0x55 ∷ 0x23 ∷ 0x3f ∷ 0xd3 ∷ []) }

abbrev pub nwk_2 : Key
nwk_2 = record { 0 = (0x2b ∷ 0x7e ∷ 0x15 ∷ 0x16 ∷ 0x28 ∷ 0xae ∷ 0xd2 ∷ 0xa6 ∷ 0xab ∷ 0xf7 ∷ 0x15 ∷ 0x88 ∷ 0x09 ∷ 0xcf ∷ 0x4f ∷ 0x3c ∷ []) }

abbrev pub app_1 : Key
app_1 = record { 0 = (0xec ∷ 0x92 ∷ 0x58 ∷ 0x02 ∷ 0xae ∷ 0x43 ∷ 0x0c ∷ 0xa7 ∷ 0x7f ∷ 0xd3 ∷ 0xdd ∷ 0x73 ∷ 0xcb ∷ 0x2c ∷ 0xc5 ∷ 0x88 ∷ []) }

abbrev pub join_accept : List ℕ
join_accept = (0x20 ∷ 0x00 ∷ 0x01 ∷ 0x02 ∷ 0x03 ∷ 0x04 ∷ 0x05 ∷ 0x06 ∷ 0x07 ∷ 0x08 ∷ 0x09 ∷ 0x0a ∷ 0x0b ∷ 0x0c ∷ 0x0d ∷ 0x0e ∷ 0x0f ∷ [])

-- what the join server answers, with this NwkSKey and perhaps an AppSKey
abbrev pub join_ans : Key → Option Key → JoinAns
join_ans nwk app = record { accept = Plain join_accept; nwk = nwk; app = app }

-- the first window of an uplink
abbrev pub name : ℕ → ℕ → WindowName
name session fcnt = record { eui = eui; session = session; fcnt = fcnt; round = 1 }

-- an answer with which nothing goes out
abbrev pub quiet : Reply → Answer
quiet reply = record { reply = reply; uplink = None; downlink = None }

-- the frame that goes out at a gateway and a moment, on the frequency and at the data rate of all copies
abbrev pub sent_by : GatewayId → ℕ → List ℕ → Downlink
sent_by gateway moment frame = record { target = record { gateway = gateway; moment = moment; freq = 868100000; dr = 5 }; frame = frame }

-- a join that is accepted
abbrev pub accepted : ℕ → GatewayId → ℕ → Answer
accepted session gateway moment = record { reply = Accepted eui session address; uplink = None; downlink = Some (sent_by gateway moment join_accept) }
