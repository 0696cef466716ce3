-- The last counter of a session. It takes 65,536 frames to get there, so the entries before are given: the join, and the uplink whose
-- counter is 65,536 below the last.
use Rattle.std.specs.Prelude.{◌≡◌, ℕ, List, [], ◌∷◌, None, Some, false}
use Rattle.ns_calls.specs.declared.call.Call.{Call}
use Rattle.ns_calls.specs.declared.call.Entry.{Entry}
use Rattle.ns_calls.specs.declared.answer.Answer.{Answer}
use Rattle.ns_calls.specs.declared.call.Call.TheVariants as call
use Rattle.ns_calls.specs.declared.call.Outcome.TheVariants.{Success}
use Rattle.ns_calls.specs.declared.call.Reply.TheVariants.{Opened, Old, NoSession, Ask, Accepted, Closed}
use Rattle.ns_calls.specs.Runs.{answers_after}
use Rattle.example_runs.specs.OneDevice.{eui, network, address, heard_1, join_1, nwk_1, app_1, join_ans, name, quiet}

abbrev pub second_last : ℕ
second_last = 4294901759

abbrev pub last : ℕ
last = 4294967295

-- Unconfirmed Data Up on port 1, both of the low half 65535: the one before the last, and the last
abbrev pub frame_before : List ℕ
frame_before = (0x40 ∷ 0xf1 ∷ 0x7d ∷ 0xbe ∷ 0x49 ∷ 0x00 ∷ 0xff ∷ 0xff ∷ 0x01 ∷ 0xba ∷ 0x7b ∷ 0x47 ∷ 0x70 ∷ 0x05 ∷ 0x66 ∷ 0xc0 ∷ [])

abbrev pub last_frame : List ℕ
last_frame = (0x40 ∷ 0xf1 ∷ 0x7d ∷ 0xbe ∷ 0x49 ∷ 0x00 ∷ 0xff ∷ 0xff ∷ 0x01 ∷ 0xe3 ∷ 0x62 ∷ 0xaf ∷ 0x14 ∷ 0x9b ∷ 0x7e ∷ 0x23 ∷ [])

-- the low half 0, with the MIC of counter 0
abbrev pub zero_frame : List ℕ
zero_frame = (0x40 ∷ 0xf1 ∷ 0x7d ∷ 0xbe ∷ 0x49 ∷ 0x00 ∷ 0x00 ∷ 0x00 ∷ 0x01 ∷ 0x21 ∷ 0x38 ∷ 0x0d ∷ 0x1d ∷ 0x90 ∷ 0x3a ∷ 0x4a ∷ [])

abbrev pub before : List Entry
before =
    record { number = 0; call = call.Join join_1 heard_1; reply = Ask join_1 }
    ∷ record { number = 1; call = call.JoinReply join_1 (Success (join_ans nwk_1 (Some app_1))); reply = Accepted eui 1 address }
    ∷ record { number = 2; call = call.Uplink frame_before heard_1; reply = Opened (name 1 second_last) }
    ∷ record { number = 3; call = call.Close (name 1 second_last); reply = Closed (name 1 second_last) None }
    ∷ []

abbrev pub calls : List Call
calls = call.Uplink last_frame heard_1 ∷ call.Close (name 1 last) ∷ call.Uplink last_frame heard_1 ∷ call.Uplink zero_frame heard_1 ∷ []

abbrev pub closed : Answer
closed = record {
  reply = Closed (name 1 last) None;
  uplink = Some (record { window = name 1 last; addr = address; confirmed = false; fctrl = 0; port = Some 1; fopts = []; sealed = false; payload = (0x65 ∷ 0x6e ∷ 0x64 ∷ []); copies = record { items = heard_1 ∷ [] } });
  downlink = None;
}

abbrev pub answers : List Answer
answers = quiet (Opened (name 1 last)) ∷ closed ∷ quiet (Old eui 1 last) ∷ quiet NoSession ∷ []

abbrev pub LastCounter : Type 0
LastCounter = answers_after network before calls ≡ answers
