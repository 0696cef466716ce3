-- The numbers of an uplink are numbers of JSON.
use Rattle.std.proofs.Common.{◌≡◌, ℕ, ℤ, pos, zero, suc, ◌/◌, ◌%◌, ◌^◌, ◌-◌, ◌<◌, ◌≤◌, ◌==◌, Bool, true, false, cond, List, [], ◌∷◌, ◌++◌, length, get_or, Option, None, Some, refl, ap, append_assoc, append-nil, arith}
use Rattle.std.specs.Prelude.{codes, decimal, int_lt, nat_lt, unsigned_abs}
use Rattle.std.specs.List.{AllByRecursion}
use Rattle.std.proofs.lemmas.Fmt.{decimal_is_IsNumeral, decimal_digit, first_decimal}
use Rattle.std.specs.Float.Numeral.{Parts}
use Rattle.json.specs.Json.{Members, number, member, no_members}
use Rattle.json.specs.Print.{IsNumber}
use Rattle.json.specs.Word.{after_number}
use Rattle.json.specs.Tree.{depth, HasNumbers, ItemsHaveNumbers, MembersHaveNumbers, members_depth, items_depth}
use Rattle.json.proofs.Printed.Decimals.{IsNumber-decimal}
use Rattle.json.proofs.Printed.Floats.{IsNumber-plain}
use Rattle.ns_types.specs.declared.heard.Heard.{Heard}
use Rattle.ns_calls.specs.declared.answer.Uplink.{Uplink}
use Rattle.ns_events.specs.declared.lora.Lora.{Lora}
use Rattle.ns_output.specs.declared.times.Times.{Times}
use Rattle.ns_events.specs.Lora.{lora_of}
use Rattle.ns_events.specs.Uplink.{tenths_text}
use Rattle.ns_events.specs.Value.{with_rate, with_rate_as, with_port, copy_members, copy_values, control_members, uplink_members, uplink_value, HeardFits, PortFits, UplinkFits}

lone_zero : (n : ℕ) → n < 2 ^ 64 → get_or (decimal n) 0 0 ≡ 48 → length (decimal n) ≡ 1
lone_zero zero fits first = ap length (decimal_digit 0 (omega arith))
lone_zero (suc n) fits first = absurd (omega (arith, first_decimal (suc n) (omega arith) fits))

-- a whole part and one digit behind a point
abbrev tenths_parts : ℕ → Parts
tenths_parts n = record {
  whole = decimal (n / 10);
  point = true;
  fraction = decimal (n % 10);
  exponent_negative = false;
  exponent = [];
  len = length (decimal (n / 10) ++ ((46 ∷ decimal (n % 10)) ++ []));
}

pub IsNumber-tenths : (z : ℤ) → unsigned_abs z < 2 ^ 16 → IsNumber (tenths_text z)
unfolding tenths_text
IsNumber-tenths z fits =
    let n = unsigned_abs z in
    let whole = decimal_is_IsNumeral (n / 10) (omega arith) in
    let tenth = decimal_is_IsNumeral (n % 10) (omega arith) in
    IsNumber-plain _ (
      int_lt z (pos 0),
      tenths_parts n,
      simp (append_assoc, append-nil),
      record {
        well_formed = record { whole_digits = whole.0.1; fraction_digits = tenth.0.1; exponent_digits = tt; no_point = λ e. cc; no_exponent = λ e. refl; len_is = refl };
        whole = whole.0.0;
        no_leading_zero = lone_zero (n / 10) (omega arith);
        fraction = λ e. tenth.0.0;
        marked = λ e. cc;
      },
    )

-- with a rate before them, members have numbers where they do
rate_numbers : (dr : ℕ) (ms : Members) → MembersHaveNumbers ms → MembersHaveNumbers (with_rate dr ms)
unfolding after_number
rate_numbers dr ms numbers = lora (nat_lt dr 6) (dr == 6)
  where
    fsk : (b : Bool) → MembersHaveNumbers (cond b (member (codes "bitRate") (number (codes "50000")) ms) ms)
    fsk true = (refl, numbers)
    fsk false = numbers

    lora : (slow wide : Bool)
        → MembersHaveNumbers (with_rate_as (cond slow (Some (record { factor = 12 - dr; bandwidth = 125000 })) (cond wide (Some (record { factor = 7; bandwidth = 250000 })) None)) dr ms)
    lora true wide = (IsNumber-decimal (12 - dr) (omega arith), (IsNumber-decimal 125000 (omega arith), numbers))
    lora false true = (IsNumber-decimal 7 (omega arith), (IsNumber-decimal 250000 (omega arith), numbers))
    lora false false = fsk (dr == 7)

copy_numbers : (h : Heard) → HeardFits h → MembersHaveNumbers (copy_members h)
copy_numbers h (moment, freq, dr, rssi, snr) = (
  tt,
  (
    IsNumber-decimal h.moment moment,
    (
      IsNumber-decimal h.freq (omega arith),
      (
        IsNumber-decimal h.dr (omega arith),
        rate_numbers h.dr _ (IsNumber-tenths h.rssi rssi, (IsNumber-tenths h.snr snr, tt)),
      ),
    ),
  ),
)

copies_numbers : (hs : List Heard) → AllByRecursion HeardFits hs → ItemsHaveNumbers (copy_values hs)
copies_numbers [] fit = tt
copies_numbers (h ∷ hs) fit = (copy_numbers h fit.0, copies_numbers hs fit.1)

port_numbers : (port : Option ℕ) (ms : Members) → PortFits port → MembersHaveNumbers ms → MembersHaveNumbers (with_port port ms)
port_numbers None ms fits numbers = numbers
port_numbers (Some port) ms fits numbers = (IsNumber-decimal port (omega arith), numbers)

uplink_numbers : (u : Uplink) → UplinkFits u → MembersHaveNumbers (uplink_members u)
uplink_numbers u fits = (
  tt,
  (
    tt,
    (
      IsNumber-decimal u.window.session (omega (arith, fits.session)),
      (
        IsNumber-decimal u.window.fcnt (omega (arith, fits.fcnt)),
        port_numbers u.port (control_members u) fits.port
            (tt, (tt, (tt, (tt, (tt, (tt, (tt, (tt, (tt, (copies_numbers u.copies.items fits.copies, tt)))))))))),
      ),
    ),
  ),
)

pub value_numbers : (times : Option Times) (u : Uplink) → UplinkFits u → HasNumbers (uplink_value times u)
value_numbers None u fits = uplink_numbers u fits
value_numbers (Some t) u fits = (tt, (tt, uplink_numbers u fits))

-- ---- an object, in it an array, in it objects

rate_depth : (dr : ℕ) (ms : Members) → members_depth ms ≤ 0 → members_depth (with_rate dr ms) ≤ 0
rate_depth dr ms shallow = lora (lora_of dr)
  where
    fsk : (b : Bool) → members_depth (cond b (member (codes "bitRate") (number (codes "50000")) ms) ms) ≤ 0
    fsk true = omega (arith, shallow)
    fsk false = shallow

    lora : (o : Option Lora) → members_depth (with_rate_as o dr ms) ≤ 0
    lora (Some rate) = omega (arith, shallow)
    lora None = fsk (dr == 7)

copies_depth : (hs : List Heard) → items_depth (copy_values hs) ≤ 1
copies_depth [] = omega arith
copies_depth (h ∷ hs) =
    omega (arith, rate_depth h.dr (member (codes "rssi") (number (tenths_text h.rssi)) (member (codes "snr") (number (tenths_text h.snr)) no_members)) (omega arith), copies_depth hs)

port_depth : (port : Option ℕ) (ms : Members) → members_depth (with_port port ms) ≡ members_depth ms
port_depth None ms = refl
port_depth (Some port) ms = omega arith

pub value_depth : (times : Option Times) (u : Uplink) → depth (uplink_value times u) ≤ 128
value_depth None u = omega (arith, port_depth u.port (control_members u), copies_depth u.copies.items)
value_depth (Some t) u = omega (arith, port_depth u.port (control_members u), copies_depth u.copies.items)
