-- The lines of joins and acknowledgements.
use Rattle.std.specs.Prelude.{◌≡◌, ℕ, List, Option, Some}
use Rattle.ns_calls.specs.declared.answer.Downlink.{Downlink}
use Rattle.ns_calls.specs.declared.call.Reply.{Reply}
use Rattle.ns_calls.specs.declared.call.Reply.TheVariants.{Accepted, Closed}
use Rattle.ns_output.specs.declared.times.Utc.{Utc}
use Rattle.ns_events.specs.Notice.{join_json, ack_json}
use Rattle.ns_outside.specs.declared.receipt.Receipt.{Receipt}

-- the object of a reply with what goes down: that of the session of an accepted join, and that of an acknowledgement, whose gateway is
-- that of the downlink
abbrev pub IsNoticeAs : Option Utc → Reply → Option Downlink → List ℕ → Type 0
IsNoticeAs time (Accepted eui session addr) down text = text ≡ join_json time eui.0 addr.0 session
IsNoticeAs time (Closed w ack) down text = (d : Downlink) × (addr : ℕ) × (down ≡ Some d) × (text ≡ ack_json time w addr d.target.gateway.0)
IsNoticeAs time _ down text = ⊥

abbrev pub IsNoticeOf : Option Utc → Receipt → List ℕ → Type 0
IsNoticeOf time r text = IsNoticeAs time r.entry.reply r.downlink text
