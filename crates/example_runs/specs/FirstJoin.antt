-- A device joins, sends a frame that two gateways hear, and joins again. A join of another device is unknown, an answer that comes
-- twice finds no ticket, a window that is closed twice is gone, and an answer to a nonce below an accepted one is stale.
use Rattle.std.specs.Prelude.{◌≡◌, ℕ, ◌++◌, List, [], ◌∷◌, None, Some, false, flat_map, Ok, codes}
use Rattle.ns_calls.specs.declared.call.Call.{Call}
use Rattle.ns_calls.specs.declared.answer.Answer.{Answer}
use Rattle.ns_calls.specs.declared.call.Call.TheVariants as call
use Rattle.ns_calls.specs.declared.call.Outcome.TheVariants.{Success}
use Rattle.ns_calls.specs.declared.call.Reply.TheVariants.{Opened, Copied, Old, Ask, JoinCopied, NonceOld, NoDevice, JoinStale, NoTicket, Closed, NoWindow}
use Rattle.ns_calls.specs.Runs.{answers_of}
use Rattle.ns_lines.specs.Text.{text}
use Rattle.ns_calls.specs.Steps.{datagram_call}
use Rattle.example_runs.specs.OneDevice.{eui, network, address, heard_1, heard_2, join_1, join_5, join_6, join_other, nwk_1, nwk_2, app_1, join_ans, name, quiet, accepted}

-- an Unconfirmed Data Up of counter 2
abbrev pub frame : List ℕ
frame = (0x40 ∷ 0xf1 ∷ 0x7d ∷ 0xbe ∷ 0x49 ∷ 0x00 ∷ 0x02 ∷ 0x00 ∷ 0x01 ∷ 0x95 ∷ 0x43 ∷ 0x78 ∷ 0x76 ∷ 0x2b ∷ 0x11 ∷ 0xff ∷ 0x0d ∷ [])

abbrev pub calls : List Call
calls =
    call.Join join_1 heard_1 ∷ call.Join join_1 heard_2 ∷ call.Join join_other heard_1
    ∷ call.JoinReply join_1 (Success (join_ans nwk_1 (Some app_1))) ∷ call.JoinReply join_1 (Success (join_ans nwk_1 (Some app_1)))
    ∷ call.Uplink frame heard_1 ∷ call.Uplink frame heard_2
    ∷ call.Close (name 1 2) ∷ call.Close (name 1 2) ∷ call.Uplink frame heard_1
    ∷ call.Join join_1 heard_1 ∷ call.Join join_5 heard_1 ∷ call.Join join_6 heard_1
    ∷ call.JoinReply join_6 (Success (join_ans nwk_2 (Some app_1))) ∷ call.JoinReply join_5 (Success (join_ans nwk_1 (Some app_1))) ∷ []

-- what goes out as the window is closed
abbrev pub closed : Answer
closed = record {
  reply = Closed (name 1 2) None;
  uplink = Some (record { window = name 1 2; addr = address; confirmed = false; fctrl = 0; port = Some 1; fopts = []; sealed = false; payload = (0x74 ∷ 0x65 ∷ 0x73 ∷ 0x74 ∷ []); copies = record { items = heard_1 ∷ heard_2 ∷ [] } });
  downlink = None;
}

abbrev pub answers : List Answer
answers =
    quiet (Ask join_1) ∷ quiet (JoinCopied 2) ∷ quiet NoDevice
    ∷ accepted 1 heard_2.gateway 6001000 ∷ quiet NoTicket
    ∷ quiet (Opened (name 1 2)) ∷ quiet (Copied (name 1 2) 2)
    ∷ closed ∷ quiet NoWindow ∷ quiet (Old eui 1 2)
    ∷ quiet (NonceOld (record { 0 = 1 })) ∷ quiet (Ask join_5) ∷ quiet (Ask join_6)
    ∷ accepted 2 heard_1.gateway 6000000 ∷ quiet (JoinStale (record { 0 = 6 })) ∷ []

-- the answers of the run
abbrev pub FirstJoin : Type 0
FirstJoin = answers_of network calls ≡ answers

-- the lines of these answers
abbrev pub lines : List (List ℕ)
lines =
    codes "ask 0004030201040302010d00000000000000010001000000"
    ∷ codes "joincopied 2"
    ∷ codes "nodevice"
    ∷ codes "accepted 000000000000000d 1 49be7df1"
    ∷ codes "down 00000000000000a2 6001000 868100000 5 20000102030405060708090a0b0c0d0e0f"
    ∷ codes "noticket"
    ∷ codes "opened 000000000000000d 1 2"
    ∷ codes "copied 000000000000000d 1 2 2"
    ∷ codes "closed 000000000000000d 1 2 -"
    ∷ codes "up 000000000000000d 1 2 1 plain - 74657374 2 00000000000000a1,00000000000000a2"
    ∷ codes "nowindow"
    ∷ codes "old 000000000000000d 1 2"
    ∷ codes "nonceold 1"
    ∷ codes "ask 0004030201040302010d00000000000000050005000000"
    ∷ codes "ask 0004030201040302010d00000000000000060006000000"
    ∷ codes "accepted 000000000000000d 2 49be7df1"
    ∷ codes "down 00000000000000a1 6000000 868100000 5 20000102030405060708090a0b0c0d0e0f"
    ∷ codes "joinstale 6"
    ∷ []

abbrev pub FirstJoinLines : Type 0
FirstJoinLines = flat_map text answers ≡ lines

-- the datagrams of a Join-Request and of an uplink, and the calls that they make
abbrev pub FirstJoinDatagrams : Type 0
FirstJoinDatagrams =
    (datagram_call ((0x01 ∷ 0x01 ∷ 0x00 ∷ 0x00 ∷ 0x00 ∷ 0x00 ∷ 0x00 ∷ 0x00 ∷ 0x00 ∷ 0xa1 ∷ 0x00 ∷ 0x00 ∷ 0x00 ∷ 0x00 ∷ 0x00 ∷ 0x0f ∷ 0x42 ∷ 0x40 ∷ 0x33 ∷ 0xbe ∷ 0x27 ∷ 0xa0 ∷ 0x05 ∷ 0xfc ∷ 0x4a ∷ 0x00 ∷ 0x4b ∷ []) ++ 0x17 ∷ join_1.0) ≡ Ok (call.Join join_1 heard_1))
    × (datagram_call ((0x01 ∷ 0x01 ∷ 0x00 ∷ 0x00 ∷ 0x00 ∷ 0x00 ∷ 0x00 ∷ 0x00 ∷ 0x00 ∷ 0xa2 ∷ 0x00 ∷ 0x00 ∷ 0x00 ∷ 0x00 ∷ 0x00 ∷ 0x0f ∷ 0x46 ∷ 0x28 ∷ 0x33 ∷ 0xbe ∷ 0x27 ∷ 0xa0 ∷ 0x05 ∷ 0xfc ∷ 0x18 ∷ 0x00 ∷ 0x50 ∷ []) ++ 0x17 ∷ join_1.0) ≡ Ok (call.Join join_1 heard_2))
    × (datagram_call ((0x01 ∷ 0x01 ∷ 0x00 ∷ 0x00 ∷ 0x00 ∷ 0x00 ∷ 0x00 ∷ 0x00 ∷ 0x00 ∷ 0xa2 ∷ 0x00 ∷ 0x00 ∷ 0x00 ∷ 0x00 ∷ 0x00 ∷ 0x0f ∷ 0x46 ∷ 0x28 ∷ 0x33 ∷ 0xbe ∷ 0x27 ∷ 0xa0 ∷ 0x05 ∷ 0xfc ∷ 0x18 ∷ 0x00 ∷ 0x50 ∷ []) ++ 0x11 ∷ frame) ≡ Ok (call.Uplink frame heard_2))
