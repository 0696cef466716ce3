-- A network of three devices, copies of their frames, and their joins.
use Rattle.std.specs.Prelude.{ℕ, List, [], ◌∷◌, None, Some, pos, negsuc}
use Rattle.ns_types.specs.declared.identity.DevEui.{DevEui}
use Rattle.ns_types.specs.declared.identity.DevAddr.{DevAddr}
use Rattle.ns_types.specs.declared.identity.WindowName.{WindowName}
use Rattle.ns_types.specs.declared.heard.Heard.{Heard}
use Rattle.ns_types.specs.declared.ticket.Ticket.{Ticket}
use Rattle.ns_roster.specs.declared.Device.{Device}
use Rattle.ns_roster.specs.Network.{Network}
use Rattle.ns_calls.specs.declared.call.JoinAns.{JoinAns}
use Rattle.ns_calls.specs.declared.call.Reply.{Reply}
use Rattle.ns_calls.specs.declared.answer.Answer.{Answer}
use Rattle.ns_calls.specs.declared.call.Reply.TheVariants.{Accepted}
use Rattle.ns_calls.specs.declared.accept.JoinAccept.TheVariants.{Plain}

abbrev pub eui_0d : DevEui
eui_0d = record { 0 = 0x0d }

abbrev pub eui_1d : DevEui
eui_1d = record { 0 = 0x1d }

abbrev pub device_of : ℕ → ℕ → Device
device_of eui slot = record { eui = record { 0 = eui }; join_eui = record { 0 = 9 }; slot = slot; last_nonce = None }

-- the devices 1d and 0d have one address. RX1DROffset is 5; RxDelay 0 means one second
abbrev pub network : Network
network = record { net_id = record { 0 = 0x24 }; rx1_offset = 5; rx_delay = 0; devices = device_of 0x1d 1998321 ∷ device_of 0x0d 1998321 ∷ device_of 0x2d 5 ∷ [] }

abbrev pub address : DevAddr
address = record { 0 = 0x49be7df1 }

-- copies: by SNR d and f are the best, and of these f by RSSI
abbrev pub copy_a : Heard
copy_a = record { gateway = record { 0 = 160 }; moment = 0; freq = 868100000; dr = 0; rssi = negsuc 899; snr = pos 50 }

abbrev pub copy_b : Heard
copy_b = record { gateway = record { 0 = 161 }; moment = 1000; freq = 868100001; dr = 1; rssi = negsuc 898; snr = pos 60 }

abbrev pub copy_c : Heard
copy_c = record { gateway = record { 0 = 162 }; moment = 2000; freq = 868100002; dr = 2; rssi = negsuc 897; snr = negsuc 9 }

abbrev pub copy_d : Heard
copy_d = record { gateway = record { 0 = 163 }; moment = 18446744073709551615; freq = 868100003; dr = 3; rssi = negsuc 899; snr = pos 75 }

abbrev pub copy_f : Heard
copy_f = record { gateway = record { 0 = 165 }; moment = 5000; freq = 868100005; dr = 5; rssi = negsuc 897; snr = pos 75 }

-- a Join-Request of the device 0d with nonce 3, and one of the device 1d
abbrev pub join_3 : Ticket
join_3 = record { 0 = (0x00 ∷ 0x09 ∷ 0x00 ∷ 0x00 ∷ 0x00 ∷ 0x00 ∷ 0x00 ∷ 0x00 ∷ 0x00 ∷ 0x0d ∷ 0x00 ∷ 0x00 ∷ 0x00 ∷ 0x00 ∷ 0x00 ∷ 0x00 ∷ 0x00 ∷ 0x03 ∷ 0x00 ∷ 0x02 ∷ 0x00 ∷ 0x00 ∷ 0x00 ∷ []) }

abbrev pub join_1d : Ticket
join_1d = record { 0 = (0x00 ∷ 0x09 ∷ 0x00 ∷ 0x00 ∷ 0x00 ∷ 0x00 ∷ 0x00 ∷ 0x00 ∷ 0x00 ∷ 0x1d ∷ 0x00 ∷ 0x00 ∷ 0x00 ∷ 0x00 ∷ 0x00 ∷ 0x00 ∷ 0x00 ∷ 0x07 ∷ 0x00 ∷ 0x00 ∷ 0x00 ∷ 0x00 ∷ 0x00 ∷ []) }

abbrev pub join_accept : List ℕ
join_accept = (0x20 ∷ 0x00 ∷ 0x00 ∷ 0x00 ∷ 0x00 ∷ 0x00 ∷ 0x00 ∷ 0x00 ∷ 0x00 ∷ 0x00 ∷ 0x00 ∷ 0x00 ∷ 0x00 ∷ 0x00 ∷ 0x00 ∷ 0x00 ∷ 0x00 ∷ [])

-- what the join server answers: for the device 0d, and for the device 1d with no AppSKey
abbrev pub answer_0d : JoinAns
answer_0d = record { accept = Plain join_accept; nwk = record { 0 = (0x10 ∷ 0x11 ∷ 0x12 ∷ 0x13 ∷ 0x14 ∷ 0x15 ∷ 0x16 ∷ 0x17 ∷ 0x18 ∷ 0x19 ∷ 0x1a ∷ 0x1b ∷ 0x1c ∷ 0x1d ∷ 0x1e ∷ 0x1f ∷ []) }; app = Some (record { 0 = (0x20 ∷ 0x21 ∷ 0x22 ∷ 0x23 ∷ 0x24 ∷ 0x25 ∷ 0x26 ∷ 0x27 ∷ 0x28 ∷ 0x29 ∷ 0x2a ∷ 0x2b ∷ 0x2c ∷ 0x2d ∷ 0x2e ∷ 0x2f ∷ []) }) }

abbrev pub answer_1d : JoinAns
answer_1d = record { accept = Plain join_accept; nwk = record { 0 = (0x00 ∷ 0x01 ∷ 0x02 ∷ 0x03 ∷ 0x04 ∷ 0x05 ∷ 0x06 ∷ 0x07 ∷ 0x08 ∷ 0x09 ∷ 0x0a ∷ 0x0b ∷ 0x0c ∷ 0x0d ∷ 0x0e ∷ 0x0f ∷ []) }; app = None }

-- a window in the first session of a device
abbrev pub name : DevEui → ℕ → WindowName
name eui fcnt = record { eui = eui; session = 1; fcnt = fcnt; round = 1 }

-- an answer with which nothing goes out
abbrev pub quiet : Reply → Answer
quiet reply = record { reply = reply; uplink = None; downlink = None }

-- a first join that is accepted, five seconds after the copy
abbrev pub accepted : DevEui → Heard → ℕ → Answer
accepted eui copy moment = record { reply = Accepted eui 1 address; uplink = None; downlink = Some (record { target = record { gateway = copy.gateway; moment = moment; freq = copy.freq; dr = copy.dr }; frame = join_accept }) }
