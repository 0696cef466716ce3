-- The data rates of EU868 (RP002).
use Rattle.std.specs.Prelude.{ℕ, ◌-◌, ◌==◌, nat_lt, Option, None, Some, if◌then◌else◌}
use Rattle.ns_events.specs.declared.lora.Lora.{Lora}

-- what a data rate is, where it is LoRa: SF12 to SF7 at 125 kHz, and SF7 at 250 kHz
abbrev pub lora_of : ℕ → Option Lora
lora_of dr =
    if nat_lt dr 6 then Some (record { factor = 12 - dr; bandwidth = 125000 })
    else if dr == 6 then Some (record { factor = 7; bandwidth = 250000 })
    else None
