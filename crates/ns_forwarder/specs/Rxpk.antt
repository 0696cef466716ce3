-- What an item of a PUSH_DATA's list `rxpk` says of a frame, or why it is left out (Semtech UDP protocol; EU868, RP002).
use Rattle.std.specs.Prelude.{ℕ, ◌^◌, ◌==◌, ◌&&◌, ◌||◌, Bool, ⊤, nat_lt, nat_le, int_le, ℤ, pos, negsuc, List, length, bytes_eq, codes, Option, Some, None, option_map, option_and_then, Result, Ok, Err, if◌then◌else◌}
use Rattle.std.specs.Int.{w32}
use Rattle.std.specs.Option.{ok_or, option_map_or}
use Rattle.std.specs.Result.{result_ok}
use Rattle.std.specs.Float.{Float, binary64, float_to_unsigned, float_to_signed, round_ties_even}
use Rattle.std.specs.Float.Ieee.{lt, mul}
use Rattle.serde_json.specs.Data.{Data}
use Rattle.serde_json.specs.Find.{get, as_number, as_i64, to_float}
use Rattle.base64.specs.Engines.{standard_pad_indifferent}
use Rattle.base64.specs.GeneralPurpose.{decode_of}
use Rattle.ns_types.specs.Results.{◌>>=◌}
use Rattle.ns_link.specs.Datagram.{lowest_frequency, highest_frequency}
use Rattle.ns_roster.specs.Field.{is_missing, text_at, whole_at}
use Rattle.ns_forwarder.specs.declared.item.TheConstants.{FAR, FAR_BELOW, MILLION, TEN}
use Rattle.ns_forwarder.specs.declared.fault.ForwarderFault.{ForwarderFault}
use Rattle.ns_forwarder.specs.declared.fault.ForwarderFault.TheVariants.{Field, BadCrc, NoCrc, Outside}

-- a number at a key, as the nearest binary64, which is less than 10^9 in size
abbrev pub level_from : Float → Option Float
level_from x = if lt FAR_BELOW x && lt x FAR then Some x else None

abbrev pub level_at : List ℕ → Data → Option Float
level_at key d = option_and_then level_from (option_map to_float (option_and_then as_number (get key d)))

-- the product in binary64, rounded to a whole number, and halfway between two to the even one
abbrev pub times : Float → Float → Float
times x factor = round_ties_even binary64 (mul binary64 x factor)

-- `freq`: the frequency, in MHz; here in Hz
abbrev pub hertz_from : Float → ℕ
hertz_from x = float_to_unsigned w32 (times x MILLION)

abbrev pub hertz_of : Data → Option ℕ
hertz_of d = option_map hertz_from (level_at (codes "freq") d)

-- a level in tenths, of 16 bits
abbrev pub tenths_from : ℤ → Option ℤ
tenths_from z = if int_le (negsuc 32767) z && int_le z (pos 32767) then Some z else None

abbrev pub tenths_at : List ℕ → Data → Option ℤ
tenths_at key d = option_and_then (λ x. tenths_from (float_to_signed w32 (times x TEN))) (level_at key d)

-- `stat`: 1 where the CRC fits, 0 where there is none, -1 where it does not fit
abbrev pub crc_from : ℤ → Result ⊤ ForwarderFault
crc_from (pos n) = if n == 1 then Ok tt else (if n == 0 then Err NoCrc else Err Field)
crc_from (negsuc n) = if n == 0 then Err BadCrc else Err Field

abbrev pub crc_of : Data → Result ⊤ ForwarderFault
crc_of d = ok_or (option_and_then as_i64 (option_and_then as_number (get (codes "stat") d))) Field >>= crc_from

-- the data rate of a name of LoRa
abbrev pub lora_rate : List ℕ → Option ℕ
lora_rate name =
    if bytes_eq name (codes "SF12BW125") then Some 0
    else if bytes_eq name (codes "SF11BW125") then Some 1
    else if bytes_eq name (codes "SF10BW125") then Some 2
    else if bytes_eq name (codes "SF9BW125") then Some 3
    else if bytes_eq name (codes "SF8BW125") then Some 4
    else if bytes_eq name (codes "SF7BW125") then Some 5
    else if bytes_eq name (codes "SF7BW250") then Some 6
    else None

-- `modu` and `datr`: the data rate; FSK is that of 50,000 bits in a second
abbrev pub fsk_rate : ℕ → Result ℕ ForwarderFault
fsk_rate bits = if bits == 50000 then Ok 7 else Err Outside

abbrev pub rate_under : List ℕ → Data → Result ℕ ForwarderFault
rate_under modulation d =
    if bytes_eq modulation (codes "LORA") then (ok_or (text_at (codes "datr") d) Field >>= λ name. ok_or (lora_rate name) Outside)
    else if bytes_eq modulation (codes "FSK") then (ok_or (whole_at (codes "datr") d) Field >>= fsk_rate)
    else Err Outside

abbrev pub rate_of : Data → Result ℕ ForwarderFault
rate_of d = ok_or (text_at (codes "modu") d) Field >>= λ modulation. rate_under modulation d

-- `lsnr`: the strength over the noise, which FSK may leave out
abbrev pub snr_of : Data → ℕ → Option ℤ
snr_of d dr = if (dr == 7) && is_missing (codes "lsnr") d then Some (pos 0) else tenths_at (codes "lsnr") d

-- `size`: the number of the frame's bytes, or missing
abbrev pub is_size_of : ℕ → Data → Bool
is_size_of len d = option_map_or (λ size. size == len) (whole_at (codes "size") d) (is_missing (codes "size") d)

-- `data`: the frame's bytes in base64 (RFC 4648), with padding or without
abbrev pub frame_from : List ℕ → Data → Result (List ℕ) ForwarderFault
frame_from frame d = if nat_le (length frame) 255 && is_size_of (length frame) d then Ok frame else Err Field

abbrev pub frame_of : Data → Result (List ℕ) ForwarderFault
frame_of d = ok_or (text_at (codes "data") d) Field >>= λ text. ok_or (result_ok (decode_of standard_pad_indifferent text)) Field >>= λ frame. frame_from frame d

-- `tmst`: the gateway's counter, of 32 bits
abbrev pub counter_of : Data → Option ℕ
counter_of d = option_and_then (λ n. if nat_lt n (2 ^ 32) then Some n else None) (whole_at (codes "tmst") d)

-- what an item says of a frame
pub record Item : Type 0 where
  pub counter : ℕ
  pub freq : ℕ
  pub dr : ℕ
  pub rssi : ℤ
  pub snr : ℤ
  pub frame : List ℕ

abbrev pub in_band : ℕ → Result ⊤ ForwarderFault
in_band freq = if nat_lt freq lowest_frequency || nat_lt highest_frequency freq then Err Outside else Ok tt

-- what an item says, or its first fault
unfoldable pub item_of : Data → Result Item ForwarderFault
item_of d = do
  _ ← crc_of d
  freq ← ok_or (hertz_of d) Field
  dr ← rate_of d
  _ ← in_band freq
  rssi ← ok_or (tenths_at (codes "rssi") d) Field
  snr ← ok_or (snr_of d dr) Field
  frame ← frame_of d
  counter ← ok_or (counter_of d) Field
  Ok (record { counter = counter; freq = freq; dr = dr; rssi = rssi; snr = snr; frame = frame })
