-- A device sends a confirmed uplink again, since it heard no acknowledgement: each round is acknowledged with the next number, and the
-- uplink is handed out once. A frame of other bytes at that counter is acknowledged too; once a higher counter is opened, nothing is. The
-- frames were made in Python.
use Rattle.std.specs.Prelude.{◌≡◌, ℕ, List, Option, [], ◌∷◌, None, Some, false, true, flat_map, codes}
use Rattle.ns_types.specs.declared.heard.Heard.{Heard}
use Rattle.ns_types.specs.declared.identity.WindowName.{WindowName}
use Rattle.ns_calls.specs.declared.call.Call.{Call}
use Rattle.ns_calls.specs.declared.call.Entry.{Entry}
use Rattle.ns_calls.specs.declared.answer.Answer.{Answer}
use Rattle.ns_calls.specs.declared.answer.Uplink.{Uplink}
use Rattle.ns_calls.specs.declared.call.Call.TheVariants as call
use Rattle.ns_calls.specs.declared.call.Outcome.TheVariants.{Success}
use Rattle.ns_calls.specs.declared.call.Reply.TheVariants.{Opened, Copied, Old, Ask, Accepted, Closed, Again}
use Rattle.ns_calls.specs.Runs.{answers_of, answers_after}
use Rattle.ns_lines.specs.Text.{text}
use Rattle.example_runs.specs.OneDevice.{eui, network, address, heard_1, heard_2, join_1, nwk_1, app_1, join_ans, name, quiet, sent_by, accepted}

-- Confirmed Data Up on port 1, of counters 2 and 3
abbrev pub confirmed_2 : List ℕ
confirmed_2 = (0x80 ∷ 0xf1 ∷ 0x7d ∷ 0xbe ∷ 0x49 ∷ 0x00 ∷ 0x02 ∷ 0x00 ∷ 0x01 ∷ 0x95 ∷ 0x43 ∷ 0x78 ∷ 0x76 ∷ 0x67 ∷ 0x23 ∷ 0xab ∷ 0xef ∷ [])

abbrev pub confirmed_3 : List ℕ
confirmed_3 = (0x80 ∷ 0xf1 ∷ 0x7d ∷ 0xbe ∷ 0x49 ∷ 0x00 ∷ 0x03 ∷ 0x00 ∷ 0x01 ∷ 0x4b ∷ 0xd4 ∷ 0x6e ∷ 0xce ∷ 0x87 ∷ 0xba ∷ 0x77 ∷ 0x8a ∷ [])

-- another of counter 2, on port 2
abbrev pub other_2 : List ℕ
other_2 = (0x80 ∷ 0xf1 ∷ 0x7d ∷ 0xbe ∷ 0x49 ∷ 0x00 ∷ 0x02 ∷ 0x00 ∷ 0x02 ∷ 0x8e ∷ 0x52 ∷ 0x63 ∷ 0x67 ∷ 0x39 ∷ 0x17 ∷ 0x2d ∷ 0xed ∷ 0xf9 ∷ [])

-- the window of counter 2 in a round
abbrev pub in_round : ℕ → WindowName
in_round round = record (name 1 2) { round = round }

abbrev pub calls : List Call
calls =
    call.Join join_1 heard_1 ∷ call.JoinReply join_1 (Success (join_ans nwk_1 (Some app_1)))
    ∷ call.Uplink confirmed_2 heard_1 ∷ call.Close (in_round 1)
    ∷ call.Uplink confirmed_2 heard_1 ∷ call.Uplink confirmed_2 heard_2 ∷ call.Close (in_round 2)
    ∷ call.Uplink confirmed_2 heard_1 ∷ call.Uplink other_2 heard_1 ∷ call.Close (in_round 3)
    ∷ call.Uplink other_2 heard_1 ∷ call.Uplink confirmed_3 heard_1 ∷ call.Uplink confirmed_2 heard_1 ∷ []

abbrev pub uplink : Uplink
uplink = record { window = in_round 1; addr = address; confirmed = true; fctrl = 0; port = Some 1; fopts = []; sealed = false; payload = (0x74 ∷ 0x65 ∷ 0x73 ∷ 0x74 ∷ []); copies = record { items = heard_1 ∷ [] } }

-- a closing with the acknowledgement of this number, at a gateway and a moment; the first one hands out the uplink
abbrev pub closed : ℕ → ℕ → Option Uplink → Heard → ℕ → List ℕ → Answer
closed round number uplink heard moment frame = record { reply = Closed (in_round round) (Some number); uplink = uplink; downlink = Some (sent_by heard.gateway moment frame) }

abbrev pub answers : List Answer
answers =
    quiet (Ask join_1) ∷ accepted 1 heard_1.gateway 6000000
    ∷ quiet (Opened (in_round 1))
    ∷ closed 1 0 (Some uplink) heard_1 2000000 (0x60 ∷ 0xf1 ∷ 0x7d ∷ 0xbe ∷ 0x49 ∷ 0x20 ∷ 0x00 ∷ 0x00 ∷ 0x1c ∷ 0x02 ∷ 0x17 ∷ 0xfb ∷ [])
    ∷ quiet (Again (in_round 2)) ∷ quiet (Copied (in_round 2) 2)
    ∷ closed 2 1 None heard_2 2001000 (0x60 ∷ 0xf1 ∷ 0x7d ∷ 0xbe ∷ 0x49 ∷ 0x20 ∷ 0x01 ∷ 0x00 ∷ 0x32 ∷ 0x72 ∷ 0xb7 ∷ 0x6e ∷ [])
    ∷ quiet (Again (in_round 3)) ∷ quiet (Old eui 1 2)
    ∷ closed 3 2 None heard_1 2000000 (0x60 ∷ 0xf1 ∷ 0x7d ∷ 0xbe ∷ 0x49 ∷ 0x20 ∷ 0x02 ∷ 0x00 ∷ 0xdc ∷ 0xe6 ∷ 0x9f ∷ 0xa8 ∷ [])
    ∷ quiet (Again (in_round 4)) ∷ quiet (Opened (name 1 3)) ∷ quiet (Old eui 1 2) ∷ []

abbrev pub SentAgain : Type 0
SentAgain = answers_of network calls ≡ answers

-- the lines of these answers
abbrev pub lines : List (List ℕ)
lines =
    codes "ask 0004030201040302010d00000000000000010001000000"
    ∷ codes "accepted 000000000000000d 1 49be7df1"
    ∷ codes "down 00000000000000a1 6000000 868100000 5 20000102030405060708090a0b0c0d0e0f"
    ∷ codes "opened 000000000000000d 1 2"
    ∷ codes "closed 000000000000000d 1 2 0"
    ∷ codes "up 000000000000000d 1 2 1 plain - 74657374 1 00000000000000a1"
    ∷ codes "down 00000000000000a1 2000000 868100000 5 60f17dbe492000001c0217fb"
    ∷ codes "again 000000000000000d 1 2:2"
    ∷ codes "copied 000000000000000d 1 2:2 2"
    ∷ codes "closed 000000000000000d 1 2:2 1"
    ∷ codes "down 00000000000000a2 2001000 868100000 5 60f17dbe492001003272b76e"
    ∷ codes "again 000000000000000d 1 2:3"
    ∷ codes "old 000000000000000d 1 2"
    ∷ codes "closed 000000000000000d 1 2:3 2"
    ∷ codes "down 00000000000000a1 2000000 868100000 5 60f17dbe49200200dce69fa8"
    ∷ codes "again 000000000000000d 1 2:4"
    ∷ codes "opened 000000000000000d 1 3"
    ∷ codes "old 000000000000000d 1 2"
    ∷ []

abbrev pub SentAgainLines : Type 0
SentAgainLines = flat_map text answers ≡ lines

-- ---- the last round: the entries up to the one before it are given

abbrev pub last : ℕ
last = 4294967295

abbrev pub before : List Entry
before =
    record { number = 0; call = call.Join join_1 heard_1; reply = Ask join_1 }
    ∷ record { number = 1; call = call.JoinReply join_1 (Success (join_ans nwk_1 (Some app_1))); reply = Accepted eui 1 address }
    ∷ record { number = 2; call = call.Uplink confirmed_2 heard_1; reply = Opened (in_round 1) }
    ∷ record { number = 3; call = call.Close (in_round 1); reply = Closed (in_round 1) (Some 0) }
    ∷ record { number = 4; call = call.Uplink confirmed_2 heard_1; reply = Again (in_round 4294967294) }
    ∷ record { number = 5; call = call.Close (in_round 4294967294); reply = Closed (in_round 4294967294) (Some 1) }
    ∷ []

abbrev pub last_calls : List Call
last_calls = call.Uplink confirmed_2 heard_1 ∷ call.Close (in_round last) ∷ call.Uplink confirmed_2 heard_1 ∷ []

abbrev pub LastRound : Type 0
LastRound = answers_after network before last_calls
    ≡ quiet (Again (in_round last)) ∷ closed last 2 None heard_1 2000000 (0x60 ∷ 0xf1 ∷ 0x7d ∷ 0xbe ∷ 0x49 ∷ 0x20 ∷ 0x02 ∷ 0x00 ∷ 0xdc ∷ 0xe6 ∷ 0x9f ∷ 0xa8 ∷ []) ∷ quiet (Old eui 1 2) ∷ []
