-- Which counter each reply and each refusal has.
use Rattle.std.specs.Prelude.{ℕ, ◌+◌}
use Rattle.ns_calls.specs.declared.call.Reply.{Reply}
use Rattle.ns_calls.specs.declared.call.Reply.TheVariants.{Opened, Copied, Crowded, Old, NoSession, Busy, Ask, JoinCopied, JoinCrowded, NonceOld, NoDevice, JoinBusy, Accepted, JoinRefused, JoinStale, NoTicket, Closed, NoWindow, Again}
use Rattle.ns_link.specs.declared.LinkFault.TheVariants.{Short, Version, Kind, Length, Frequency, DataRate, Buffer}
use Rattle.ns_views.specs.Faults.{number}
use Rattle.ns_outside.specs.declared.fault.Refused.{Refused}
use Rattle.ns_outside.specs.declared.fault.Refused.TheVariants.{Link, View}

-- the place of a reply's counter, in the order of the log line of counts
abbrev pub reply_place : Reply → ℕ
reply_place (Opened window) = 0
reply_place (Copied window place) = 1
reply_place (Crowded window) = 2
reply_place (Old eui session fcnt) = 3
reply_place NoSession = 4
reply_place (Busy eui) = 5
reply_place (Ask ticket) = 6
reply_place (JoinCopied place) = 7
reply_place JoinCrowded = 8
reply_place (NonceOld greatest) = 9
reply_place NoDevice = 10
reply_place JoinBusy = 11
reply_place (Accepted eui session addr) = 12
reply_place JoinRefused = 13
reply_place (JoinStale greatest) = 14
reply_place NoTicket = 15
reply_place (Closed window ack) = 16
reply_place NoWindow = 17
reply_place (Again window) = 18

-- the place of a refusal's counter, G1 to G6 and then V1 to V6. No datagram that comes is refused for its buffer (G7): it has the
-- place behind the last
abbrev pub refusal_place : Refused → ℕ
refusal_place (Link Short) = 0
refusal_place (Link Version) = 1
refusal_place (Link Kind) = 2
refusal_place (Link Length) = 3
refusal_place (Link Frequency) = 4
refusal_place (Link DataRate) = 5
refusal_place (Link Buffer) = 12
refusal_place (View fault) = number fault + 5
