-- Texts: a roster, what a join server is asked about a Join-Request, and what it answers.
use Rattle.std.specs.Prelude.{◌≡◌, ℕ, List, [], ◌∷◌, ◌++◌, None, Some, Ok, Err, codes, take, length, ◌-◌}
use Rattle.ns_roster.specs.declared.fault.RosterFault.TheVariants.{NotJson, Field, Twice, Slot, NetId}
use Rattle.ns_exchange.specs.declared.answer.AnsFault.TheVariants as fault
use Rattle.ns_roster.specs.Text.{roster_of}
use Rattle.ns_exchange.specs.Front.{code_of}
use Rattle.ns_joinwire.specs.JoinReq.{joinreq}
use Rattle.ns_joinwire.specs.JoinAns.{joinans}
use Rattle.example_runs.specs.OneDevice.{network, device, join_1, nwk_1, app_1, join_ans}

-- ---- rosters

-- a roster with this NetID and these devices
abbrev pub roster_text : List ℕ → List ℕ → List ℕ
roster_text net_id devices = codes "{\"version\":1,\"net_id\":\"" ++ net_id ++ codes "\",\"rx1_offset\":0,\"rx_delay\":1,\"devices\":[" ++ devices ++ codes "]}"

-- the device 0d, with this slot
abbrev pub device_text : List ℕ → List ℕ
device_text slot = codes "{\"dev_eui\":\"000000000000000d\",\"join_eui\":\"0102030401020304\",\"slot\":" ++ slot ++ codes "}"

abbrev pub slot_text : List ℕ
slot_text = codes "1998321"

abbrev pub Rosters : Type 0
Rosters =
    (roster_of (roster_text (codes "000024") (device_text slot_text)) ≡ Ok network)
    × (roster_of (roster_text (codes "0x000024") (device_text slot_text)) ≡ Ok network)
    × (roster_of (roster_text (codes "000024") []) ≡ Ok (record network { devices = [] }))
    × (roster_of (roster_text (codes "000024") (device_text (codes "2097151"))) ≡ Ok (record network { devices = record device { slot = 2097151 } ∷ [] }))

-- no JSON; no devices; a NetID of type 1; a slot of more than 21 bits; one DevEUI twice
abbrev pub RosterFaults : Type 0
RosterFaults =
    (roster_of (codes "[") ≡ Err NotJson)
    × (roster_of (codes "{\"version\":1,\"net_id\":\"000024\",\"rx1_offset\":0,\"rx_delay\":1}") ≡ Err Field)
    × (roster_of (roster_text (codes "200024") (device_text slot_text)) ≡ Err NetId)
    × (roster_of (roster_text (codes "000024") (device_text (codes "2097152"))) ≡ Err Slot)
    × (roster_of (roster_text (codes "000024") (device_text slot_text ++ codes "," ++ device_text slot_text)) ≡ Err Twice)

-- ---- what a join server is asked

abbrev pub request_text : List ℕ
request_text = codes "{\"DLSettings\":\"00\",\"DevAddr\":\"49be7df1\",\"DevEUI\":\"000000000000000d\",\"MACVersion\":\"1.0.4\",\"MessageType\":\"JoinReq\",\"PHYPayload\":\"0004030201040302010d00000000000000010001000000\",\"ProtocolVersion\":\"1.0\",\"ReceiverID\":\"0102030401020304\",\"RxDelay\":1,\"SenderID\":\"000024\",\"TransactionID\":1}"

abbrev pub Request : Type 0
Request = (joinreq network device join_1 ≡ request_text) × (length request_text ≡ 281)

-- ---- what it answers

-- a key, and the label of the key that wraps it
abbrev pub envelope : List ℕ → List ℕ → List ℕ
envelope key label = codes "{\"AESKey\":\"" ++ key ++ codes "\",\"KEKLabel\":\"" ++ label ++ codes "\"}"

abbrev pub answer_text : List ℕ → List ℕ → List ℕ → List ℕ → List ℕ
answer_text app nwk frame code =
    codes "{\"AppSKey\":" ++ app ++ codes ",\"MessageType\":\"JoinAns\",\"NwkSKey\":" ++ nwk ++ codes ",\"PHYPayload\":\"" ++ frame
    ++ codes "\",\"Result\":{\"ResultCode\":\"" ++ code ++ codes "\"},\"TransactionID\":1}"

abbrev pub app_text : List ℕ
app_text = codes "ec925802ae430ca77fd3dd73cb2cc588"

abbrev pub nwk_text : List ℕ
nwk_text = codes "44024241ed4ce9a68c6a8bc055233fd3"

abbrev pub frame_text : List ℕ
frame_text = codes "20000102030405060708090a0b0c0d0e0f"

abbrev pub success : List ℕ
success = codes "Success"

abbrev pub whole_answer : List ℕ
whole_answer = answer_text (envelope app_text []) (envelope nwk_text []) frame_text success

-- as it is; with hex in upper case, behind 0x; and with an AppSKey that is wrapped, which is left out
abbrev pub Answers : Type 0
Answers =
    (length whole_answer ≡ 267)
    × (joinans whole_answer 1 ≡ Ok (join_ans nwk_1 (Some app_1)))
    × (joinans (answer_text (envelope (codes "0xEC925802AE430CA77FD3DD73CB2CC588") []) (envelope (codes "0x44024241ED4CE9A68C6A8BC055233FD3") []) (codes "0x20000102030405060708090A0B0C0D0E0F") success) 1 ≡ Ok (join_ans nwk_1 (Some app_1)))
    × (joinans (answer_text (envelope app_text (codes "k1")) (envelope nwk_text []) frame_text success) 1 ≡ Ok (join_ans nwk_1 None))

-- without its last byte; to another transaction; refused; with a frame that is no Join-Accept; with a NwkSKey that is wrapped
abbrev pub AnswerFaults : Type 0
AnswerFaults =
    (joinans (take (length whole_answer - 1) whole_answer) 1 ≡ Err fault.NotJson)
    × (joinans whole_answer 2 ≡ Err fault.AnotherMessage)
    × (joinans (answer_text (envelope app_text []) (envelope nwk_text []) frame_text (codes "MICFailed")) 1 ≡ Err (fault.Refused (code_of (codes "MICFailed"))))
    × (joinans (answer_text (envelope app_text []) (envelope nwk_text []) (codes "40000102030405060708090a0b0c0d0e0f") success) 1 ≡ Err fault.NoJoinAccept)
    × (joinans (answer_text (envelope app_text []) (envelope nwk_text (codes "k1")) frame_text success) 1 ≡ Err fault.NwkSKey)
