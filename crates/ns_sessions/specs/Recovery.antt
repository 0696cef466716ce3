-- The counter at which an uplink is tried in a session. (LoRaWAN L2 1.0.4, 4.3.1.5)
use Rattle.std.specs.Prelude.{ℕ, Option}
use Rattle.ns_secure.specs.Counter.{above, below}
use Rattle.ns_sessions.specs.declared.recovery.Recovery.{Recovery}
use Rattle.ns_sessions.specs.declared.recovery.Recovery.TheVariants.{Above, Below}

-- by the greatest counter that was opened, and the counter's low half
abbrev pub recovery_counter : Recovery → Option ℕ → ℕ → Option ℕ
recovery_counter Above = above
recovery_counter Below = below
