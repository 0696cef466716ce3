-- The first receive window of an acknowledgement, and the best of equal copies.
use Rattle.std.specs.Prelude.{◌≡◌, ℕ, [], ◌∷◌, Some, pos, negsuc}
use Rattle.ns_types.specs.declared.heard.Heard.{Heard}
use Rattle.ns_types.specs.declared.heard.Target.{Target}
use Rattle.ns_roster.specs.Network.{Network}
use Rattle.ns_types.specs.Heard.{best, rx1}
use Rattle.ns_roster.specs.Network.{ack_delay}

-- heard in the last microsecond that a gateway's clock can tell, at DR3
abbrev pub last_moment : Heard
last_moment = record { gateway = record { 0 = 0xa1 }; moment = 18446744073709551615; freq = 868100000; dr = 3; rssi = negsuc 949; snr = pos 75 }

-- just as strong, by another gateway
abbrev pub as_strong : Heard
as_strong = record last_moment { gateway = record { 0 = 0xa2 } }

abbrev pub network_with : ℕ → ℕ → Network
network_with rx1_offset rx_delay = record { net_id = record { 0 = 0x24 }; rx1_offset = rx1_offset; rx_delay = rx_delay; devices = [] }

abbrev pub acknowledged : Heard → ℕ → ℕ → Target
acknowledged heard rx1_offset rx_delay = rx1 heard rx1_offset (ack_delay (network_with rx1_offset rx_delay))

abbrev pub FirstWindow : Type 0
FirstWindow =
    (acknowledged last_moment 0 0 ≡ record { gateway = record { 0 = 0xa1 }; moment = 999999; freq = 868100000; dr = 3 })
    × (acknowledged last_moment 0 1 ≡ record { gateway = record { 0 = 0xa1 }; moment = 999999; freq = 868100000; dr = 3 })
    × (acknowledged last_moment 5 15 ≡ record { gateway = record { 0 = 0xa1 }; moment = 14999999; freq = 868100000; dr = 0 })
    × (best (last_moment ∷ as_strong ∷ []) ≡ Some last_moment)
    × (best (as_strong ∷ last_moment ∷ []) ≡ Some as_strong)
