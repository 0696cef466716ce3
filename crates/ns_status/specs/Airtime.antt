-- How long downlinks are on air, in microseconds (Semtech AN1200.13 for LoRa; RP002 for the data rates of EU868).
use Rattle.std.specs.Prelude.{ℕ, ◌+◌, ◌-◌, ◌*◌, ◌/◌, ◌%◌, ◌^◌, ◌==◌, min, nat_lt, List, [], ◌∷◌, set, get_or, if◌then◌else◌}
use Rattle.std.specs.Int.{div_ceil}
use Rattle.ns_status.specs.declared.airtime.Slot.{Slot}

-- the spreading factor of DR0 to DR6, and a quarter of a symbol: 2 ^ factor chips of 125 or, at DR6, 250 kHz
abbrev pub factor_of : ℕ → ℕ
factor_of dr = if dr == 6 then 7 else 12 - dr

abbrev pub quarter_us : ℕ → ℕ
quarter_us dr =
    if dr == 0 then 8192
    else if dr == 1 then 4096
    else if dr == 2 then 2048
    else if dr == 3 then 1024
    else if dr == 4 then 512
    else if dr == 5 then 256
    else 128

-- the bits that a block of symbols carries: with the low data rate optimization of DR0 and DR1 two fewer each
abbrev pub block_bits : ℕ → ℕ
block_bits dr = if nat_lt dr 2 then 4 * factor_of dr - 8 else 4 * factor_of dr

-- the symbols of a payload with a header and no CRC, at coding rate 4/5
abbrev pub symbols_of : ℕ → ℕ → ℕ
symbols_of dr len = 8 + div_ceil ((8 * len + 28) - 4 * factor_of dr) (block_bits dr) * 5

-- LoRa: 8 symbols of preamble and 4.25 behind it, in quarters of a symbol; FSK: 11 bytes round the payload, at 50,000 bits in a second
abbrev pub airtime_within : ℕ → ℕ → ℕ
airtime_within dr len =
    if nat_lt 6 dr then (11 + len) * 160
    else quarter_us dr * (4 * symbols_of dr len + 49)

abbrev pub airtime_us : ℕ → ℕ → ℕ
airtime_us dr len = airtime_within dr (min len 255)

-- the slot of five minutes at a moment
abbrev pub slot_of : ℕ → ℕ
slot_of now = min (now / 300_000) (2 ^ 32 - 1)

-- a slot with a downlink more: what is of an earlier hour goes
abbrev pub one_more : Slot → ℕ → ℕ → Slot
one_more slot number us = record { number = number; us = min ((if slot.number == number then slot.us else 0) + us) (2 ^ 32 - 1) }

abbrev pub no_slot : Slot
no_slot = record { number = 0; us = 0 }

-- the twelve slots of an hour with a downlink more
abbrev pub added_at : List Slot → ℕ → ℕ → List Slot
added_at slots number us = set slots (number % 12) (one_more (get_or slots (number % 12) no_slot) number us)

-- what counts of a slot at another, and of all slots beside what is spent already: their sum, in 64 bits
abbrev pub recent : ℕ → Slot → ℕ
recent now slot = if nat_lt now (slot.number + 12) then slot.us else 0

abbrev pub spent_with : ℕ → ℕ → List Slot → ℕ
spent_with now spent [] = spent
spent_with now spent (slot ∷ slots) = spent_with now (min (spent + recent now slot) (2 ^ 64 - 1)) slots

abbrev pub spent_at : List Slot → ℕ → ℕ
spent_at slots now = spent_with now 0 slots
