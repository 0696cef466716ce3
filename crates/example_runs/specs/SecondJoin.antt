-- A device joins again while it has a session. Acknowledgements are numbered in the order of closing; both sessions live until the
-- first uplink of the new one; a payload whose key isn't known stays sealed; a counter passes 65535. The frames were made by OpenSSL.
use Rattle.std.specs.Prelude.{◌≡◌, ℕ, List, [], ◌∷◌, None, Some, true, false}
use Rattle.ns_types.specs.declared.identity.WindowName.{WindowName}
use Rattle.ns_calls.specs.declared.call.Call.{Call}
use Rattle.ns_calls.specs.declared.answer.Answer.{Answer}
use Rattle.ns_calls.specs.declared.answer.Uplink.{Uplink}
use Rattle.ns_calls.specs.declared.call.Call.TheVariants as call
use Rattle.ns_calls.specs.declared.call.Outcome.TheVariants.{Success}
use Rattle.ns_calls.specs.declared.call.Reply.TheVariants.{Opened, Copied, Old, NoSession, Ask, Closed}
use Rattle.ns_calls.specs.Runs.{answers_of}
use Rattle.example_runs.specs.OneDevice.{eui, network, address, heard_1, join_1, join_5, nwk_1, nwk_2, app_1, join_ans, name, quiet, sent_by, accepted}

-- of session 1: Confirmed Data Up of counter 4 on port 1, of counter 5 on port 0 and of counter 6 on port 7
abbrev pub confirmed_4 : List ℕ
confirmed_4 = (0x80 ∷ 0xf1 ∷ 0x7d ∷ 0xbe ∷ 0x49 ∷ 0x00 ∷ 0x04 ∷ 0x00 ∷ 0x01 ∷ 0x69 ∷ 0x32 ∷ 0xdd ∷ 0xfb ∷ 0xda ∷ 0x4d ∷ [])

abbrev pub confirmed_5 : List ℕ
confirmed_5 = (0x80 ∷ 0xf1 ∷ 0x7d ∷ 0xbe ∷ 0x49 ∷ 0x00 ∷ 0x05 ∷ 0x00 ∷ 0x00 ∷ 0x5d ∷ 0x25 ∷ 0x68 ∷ 0x92 ∷ 0x78 ∷ [])

abbrev pub confirmed_6 : List ℕ
confirmed_6 = (0x80 ∷ 0xf1 ∷ 0x7d ∷ 0xbe ∷ 0x49 ∷ 0x00 ∷ 0x06 ∷ 0x00 ∷ 0x07 ∷ 0x98 ∷ 0x7d ∷ 0x6e ∷ 0x32 ∷ 0x55 ∷ 0xd0 ∷ 0xb1 ∷ 0xaf ∷ 0x26 ∷ [])

-- of session 1: Unconfirmed Data Up of counters 7 and 8, with no port
abbrev pub bare_7 : List ℕ
bare_7 = (0x40 ∷ 0xf1 ∷ 0x7d ∷ 0xbe ∷ 0x49 ∷ 0x00 ∷ 0x07 ∷ 0x00 ∷ 0x7d ∷ 0xc4 ∷ 0xe2 ∷ 0xdd ∷ [])

abbrev pub bare_8 : List ℕ
bare_8 = (0x40 ∷ 0xf1 ∷ 0x7d ∷ 0xbe ∷ 0x49 ∷ 0x00 ∷ 0x08 ∷ 0x00 ∷ 0x5e ∷ 0xd9 ∷ 0x61 ∷ 0x80 ∷ [])

-- of session 2: Unconfirmed Data Up of counter 65535, and of counter 65536, whose low half is 0, with an option
abbrev pub second_65535 : List ℕ
second_65535 = (0x40 ∷ 0xf1 ∷ 0x7d ∷ 0xbe ∷ 0x49 ∷ 0x00 ∷ 0xff ∷ 0xff ∷ 0x01 ∷ 0x05 ∷ 0x27 ∷ 0xaf ∷ 0xfa ∷ 0x13 ∷ 0x78 ∷ 0xfc ∷ [])

abbrev pub second_65536 : List ℕ
second_65536 = (0x40 ∷ 0xf1 ∷ 0x7d ∷ 0xbe ∷ 0x49 ∷ 0x01 ∷ 0x00 ∷ 0x00 ∷ 0x02 ∷ 0x01 ∷ 0xac ∷ 0x94 ∷ 0xc6 ∷ 0x0d ∷ 0x38 ∷ 0x85 ∷ 0x21 ∷ [])

abbrev pub calls : List Call
calls =
    call.Join join_1 heard_1 ∷ call.JoinReply join_1 (Success (join_ans nwk_1 (Some app_1)))
    ∷ call.Uplink confirmed_4 heard_1 ∷ call.Uplink confirmed_5 heard_1
    ∷ call.Close (name 1 5) ∷ call.Close (name 1 4)
    ∷ call.Uplink confirmed_6 heard_1
    ∷ call.Join join_5 heard_1 ∷ call.JoinReply join_5 (Success (join_ans nwk_2 None))
    ∷ call.Uplink bare_7 heard_1 ∷ call.Uplink second_65535 heard_1 ∷ call.Uplink bare_8 heard_1
    ∷ call.Close (name 1 6) ∷ call.Uplink second_65536 heard_1 ∷ call.Close (name 2 65536)
    ∷ call.Uplink second_65536 heard_1 ∷ call.Uplink second_65535 heard_1 ∷ []

-- an uplink that one gateway heard: a confirmed one without options under the AppSKey or the NwkSKey
abbrev pub uplink : WindowName → ℕ → List ℕ → Uplink
uplink window port payload =
    record { window = window; addr = address; confirmed = true; fctrl = 0; port = Some port; fopts = []; sealed = false; payload = payload; copies = record { items = heard_1 ∷ [] } }

-- the uplink of counter 5 is closed first, so it gets the acknowledgement 0; and that of counter 4 gets 1
abbrev pub closed_5 : Answer
closed_5 = record {
  reply = Closed (name 1 5) (Some 0);
  uplink = Some (uplink (name 1 5) 0 (0x02 ∷ []));
  downlink = Some (sent_by heard_1.gateway 2000000 (0x60 ∷ 0xf1 ∷ 0x7d ∷ 0xbe ∷ 0x49 ∷ 0x20 ∷ 0x00 ∷ 0x00 ∷ 0x1c ∷ 0x02 ∷ 0x17 ∷ 0xfb ∷ []));
}

abbrev pub closed_4 : Answer
closed_4 = record {
  reply = Closed (name 1 4) (Some 1);
  uplink = Some (uplink (name 1 4) 1 (0x68 ∷ 0x69 ∷ []));
  downlink = Some (sent_by heard_1.gateway 2000000 (0x60 ∷ 0xf1 ∷ 0x7d ∷ 0xbe ∷ 0x49 ∷ 0x20 ∷ 0x01 ∷ 0x00 ∷ 0x32 ∷ 0x72 ∷ 0xb7 ∷ 0x6e ∷ []));
}

-- session 1 has ended, so there is no acknowledgement; its keys still decipher
abbrev pub closed_6 : Answer
closed_6 = record { reply = Closed (name 1 6) None; uplink = Some (uplink (name 1 6) 7 (0x6c ∷ 0x61 ∷ 0x74 ∷ 0x65 ∷ 0x72 ∷ [])); downlink = None }

-- session 2 has no AppSKey
abbrev pub closed_65536 : Answer
closed_65536 = record {
  reply = Closed (name 2 65536) None;
  uplink = Some (record { window = name 2 65536; addr = address; confirmed = false; fctrl = 1; port = Some 1; fopts = (0x02 ∷ []); sealed = true; payload = (0xac ∷ 0x94 ∷ 0xc6 ∷ []); copies = record { items = heard_1 ∷ [] } });
  downlink = None;
}

abbrev pub answers : List Answer
answers =
    quiet (Ask join_1) ∷ accepted 1 heard_1.gateway 6000000
    ∷ quiet (Opened (name 1 4)) ∷ quiet (Opened (name 1 5))
    ∷ closed_5 ∷ closed_4
    ∷ quiet (Opened (name 1 6))
    ∷ quiet (Ask join_5) ∷ accepted 2 heard_1.gateway 6000000
    ∷ quiet (Opened (name 1 7)) ∷ quiet (Opened (name 2 65535)) ∷ quiet NoSession
    ∷ closed_6 ∷ quiet (Opened (name 2 65536)) ∷ closed_65536
    ∷ quiet (Old eui 2 65536) ∷ quiet (Copied (name 2 65535) 2) ∷ []

abbrev pub SecondJoin : Type 0
SecondJoin = answers_of network calls ≡ answers
