-- The places of counters.
use Rattle.std.specs.Prelude.{ℕ}
use Rattle.ns_forwarder.specs.declared.head.Kind.{Kind}
use Rattle.ns_forwarder.specs.declared.head.Kind.TheVariants.{PushData, PullData, TxAck}
use Rattle.ns_forwarder.specs.declared.outcome.Outcome.{Outcome}
use Rattle.ns_forwarder.specs.declared.outcome.Outcome.TheVariants.{Sent, TooLate, TooEarly, CollisionPacket, CollisionBeacon, TxFreq, TxPower, GpsUnlocked, Other}

abbrev pub kind_place : Kind → ℕ
kind_place PushData = 0
kind_place PullData = 1
kind_place TxAck = 2

abbrev pub outcome_place : Outcome → ℕ
outcome_place Sent = 0
outcome_place TooLate = 1
outcome_place TooEarly = 2
outcome_place CollisionPacket = 3
outcome_place CollisionBeacon = 4
outcome_place TxFreq = 5
outcome_place TxPower = 6
outcome_place GpsUnlocked = 7
outcome_place Other = 8
