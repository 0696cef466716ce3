-- What goes out with what came of a call.
use Rattle.std.specs.Prelude.{ℕ, Option, None, option_map, option_and_then}
use Rattle.ns_types.specs.Heard.{best}
use Rattle.ns_roster.specs.Network.{Network}
use Rattle.ns_calls.specs.declared.call.Reply.{Reply}
use Rattle.ns_calls.specs.declared.call.Reply.TheVariants as reply
use Rattle.ns_calls.specs.declared.answer.Uplink.{Uplink}
use Rattle.ns_calls.specs.declared.answer.Downlink.{Downlink}
use Rattle.ns_calls.specs.declared.answer.Answer.{Answer}
use Rattle.ns_calls.specs.Out.{ack_at}
use Rattle.ns_windows.specs.declared.window.Window.{Window}
use Rattle.ns_uplinks.specs.Uplinks.{first_uplink_from}
use Rattle.ns_shard.specs.declared.event.Ended.{Ended}
use Rattle.ns_shard.specs.declared.event.Ended.TheVariants.{Answered, Closed}
use Rattle.ns_shard.specs.declared.packed.Lain.{Lain}
use Rattle.ns_shard.specs.declared.packed.Lain.TheVariants as lain
use Rattle.ns_shard.specs.declared.event.Event.{Event}
use Rattle.ns_shard.specs.declared.event.Event.TheVariants as event

-- ---- of a window that was closed

-- the acknowledgement with this number, at RX1 of the best copy
abbrev pub ack_from : Network → Window → ℕ → Option Downlink
ack_from net w n = option_map (ack_at net w.frame w.nwk n) (best w.copies.items)

-- ---- of any call

abbrev pub ended_reply : Ended → Reply
ended_reply (Answered r downlink) = r
ended_reply (Closed w ack) = reply.Closed w.name ack

abbrev pub reply_of : Event → Reply
reply_of (event.Quiet r) = r
reply_of (event.Opened r) = r
reply_of (event.Ended what) = ended_reply what

abbrev pub uplink_of : Event → Option Uplink
uplink_of (event.Ended (Closed w ack)) = first_uplink_from w
uplink_of _ = None

abbrev pub downlink_of : Network → Event → Option Downlink
downlink_of net (event.Ended (Answered r downlink)) = downlink
downlink_of net (event.Ended (Closed w ack)) = option_and_then (ack_from net w) ack
downlink_of net _ = None

abbrev pub answer_of : Network → Event → Answer
answer_of net e = record { reply = reply_of e; uplink = uplink_of e; downlink = downlink_of net e }

-- ---- of an answer that is kept

abbrev pub lain_uplink : Lain → Uplink
lain_uplink (lain.Window u) = u
lain_uplink (lain.Packed u) = u
