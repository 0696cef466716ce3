-- Two devices at one address, the second of the roster heard first. The acknowledgement's moment passes 2^64 microseconds. A window of
-- a device that never joined isn't there. A confirmed uplink that is sent again is acknowledged again.
use Rattle.std.specs.Prelude.{◌≡◌, ℕ, List, [], ◌∷◌, None, Some, true, false}
use Rattle.ns_calls.specs.declared.call.Call.{Call}
use Rattle.ns_calls.specs.declared.answer.Answer.{Answer}
use Rattle.ns_calls.specs.declared.call.Call.TheVariants as call
use Rattle.ns_calls.specs.declared.call.Outcome.TheVariants.{Success}
use Rattle.ns_calls.specs.declared.call.Reply.TheVariants.{Opened, Copied, Again, Ask, Closed, NoWindow}
use Rattle.ns_calls.specs.Runs.{answers_of}
use Rattle.example_runs.specs.ThreeDevices.{eui_0d, eui_1d, network, address, copy_a, copy_b, copy_c, copy_d, copy_f, join_3, join_1d, answer_0d, answer_1d, name, quiet, accepted}

-- of the device 0d: a Confirmed Data Up of counter 65535, with no port
abbrev pub frame_0d : List ℕ
frame_0d = (0x80 ∷ 0xf1 ∷ 0x7d ∷ 0xbe ∷ 0x49 ∷ 0x00 ∷ 0xff ∷ 0xff ∷ 0x18 ∷ 0x5b ∷ 0x98 ∷ 0x2d ∷ [])

-- of the device 1d: an Unconfirmed Data Up of counter 0, on port 3
abbrev pub frame_1d : List ℕ
frame_1d = (0x40 ∷ 0xf1 ∷ 0x7d ∷ 0xbe ∷ 0x49 ∷ 0x00 ∷ 0x00 ∷ 0x00 ∷ 0x03 ∷ 0x73 ∷ 0x72 ∷ 0x05 ∷ 0x4f ∷ 0x95 ∷ 0xd7 ∷ 0xb9 ∷ [])

abbrev pub calls : List Call
calls =
    call.Join join_3 copy_a ∷ call.JoinReply join_3 (Success answer_0d)
    ∷ call.Join join_1d copy_b ∷ call.JoinReply join_1d (Success answer_1d)
    ∷ call.Uplink frame_0d copy_c ∷ call.Uplink frame_0d copy_d ∷ call.Uplink frame_1d copy_f
    ∷ call.Close (name eui_0d 65535) ∷ call.Uplink frame_0d copy_a
    ∷ call.Close (name eui_1d 0) ∷ call.Close (name (record { 0 = 0x2d }) 0) ∷ []

abbrev pub closed_0d : Answer
closed_0d = record {
  reply = Closed (name eui_0d 65535) (Some 0);
  uplink = Some (record { window = name eui_0d 65535; addr = address; confirmed = true; fctrl = 0; port = None; fopts = []; sealed = false; payload = []; copies = record { items = copy_c ∷ copy_d ∷ [] } });
  downlink = Some (record { target = record { gateway = copy_d.gateway; moment = 999999; freq = 868100003; dr = 0 }; frame = (0x60 ∷ 0xf1 ∷ 0x7d ∷ 0xbe ∷ 0x49 ∷ 0x20 ∷ 0x00 ∷ 0x00 ∷ 0x2f ∷ 0xe4 ∷ 0xe1 ∷ 0x08 ∷ []) });
}

abbrev pub closed_1d : Answer
closed_1d = record {
  reply = Closed (name eui_1d 0) None;
  uplink = Some (record { window = name eui_1d 0; addr = address; confirmed = false; fctrl = 0; port = Some 3; fopts = []; sealed = true; payload = (0x73 ∷ 0x72 ∷ 0x05 ∷ []); copies = record { items = copy_f ∷ [] } });
  downlink = None;
}

abbrev pub answers : List Answer
answers =
    quiet (Ask join_3) ∷ accepted eui_0d copy_a 5000000
    ∷ quiet (Ask join_1d) ∷ accepted eui_1d copy_b 5001000
    ∷ quiet (Opened (name eui_0d 65535)) ∷ quiet (Copied (name eui_0d 65535) 2) ∷ quiet (Opened (name eui_1d 0))
    ∷ closed_0d ∷ quiet (Again (record (name eui_0d 65535) { round = 2 }))
    ∷ closed_1d ∷ quiet NoWindow ∷ []

abbrev pub SharedAddress : Type 0
SharedAddress = answers_of network calls ≡ answers
