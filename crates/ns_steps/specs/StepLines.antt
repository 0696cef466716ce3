-- The step lines of a text: what stands between line feeds, and the step that each line asks for.
use Rattle.std.specs.Prelude.{ℕ, ◌+◌, ◌-◌, ◌*◌, ◌^◌, Bool, ◌&&◌, ◌==◌, nat_le, nat_lt, List, [], ◌∷◌, ◌++◌, length, take, drop, map, position, fold, slice_index, codes, bytes_eq, Option, None, Some, option_map, if◌then◌else◌}
use Rattle.std.specs.List.{list_all, slice_split}
use Rattle.std.specs.Result.{result_ok}
use Rattle.std.specs.Int.{w64, from_be_bytes}
use Rattle.hex.specs.Hex.{decode_of, decode_sized}
use Rattle.ns_types.specs.Cases.{when}
use Rattle.ns_types.specs.Options.{◌>>=◌}
use Rattle.ns_types.specs.declared.identity.DevEui.{DevEui}
use Rattle.ns_types.specs.declared.identity.WindowName.{WindowName}
use Rattle.ns_types.specs.declared.ticket.Ticket.{Ticket}
use Rattle.ns_acts.specs.declared.step.Act.{Act}
use Rattle.ns_acts.specs.declared.step.Act.TheVariants.{Datagram, Answer, Lost, Close}
use Rattle.ns_acts.specs.declared.step.Step.{Step}

-- ---- lines

-- the parts, but for an empty last one
abbrev pub without_empty_last : List (List ℕ) → List (List ℕ)
without_empty_last [] = []
without_empty_last (x ∷ []) = if length x == 0 then [] else x ∷ []
without_empty_last (x ∷ y ∷ more) = x ∷ without_empty_last (y ∷ more)

-- what stands between line feeds; what follows the last one is a line where it isn't empty
unfoldable pub raw_lines : List ℕ → List (List ℕ)
raw_lines text = without_empty_last (slice_split (λ b. b == 10) text)

-- a line with its line feed
abbrev pub ended : List ℕ → List ℕ
ended line = line ++ 10 ∷ []

-- the line without one carriage return at its end
unfoldable pub without_return : List ℕ → List ℕ
without_return line = if slice_index line (length line - 1) == 13 then take (length line - 1) line else line

-- ---- words

-- the text before the first such byte and the text behind it, where there is one
unfoldable pub split_by : ℕ → List ℕ → Option (List ℕ × List ℕ)
split_by byte text = option_map (λ i. (take i text, drop (i + 1) text)) (position (λ b. b == byte) text)

-- words, parted by one space
abbrev pub split_words : List ℕ → Option (List ℕ × List ℕ)
split_words text = split_by 32 text

abbrev pub is_digit : ℕ → Bool
is_digit b = nat_le 48 b && nat_le b 57

abbrev pub decimal_value : List ℕ → ℕ
decimal_value = fold (λ n digit. n * 10 + (digit - 48)) 0

-- one or more decimal digits whose value fits 32 bits
unfoldable pub number : List ℕ → Option ℕ
number text = when (nat_lt 0 (length text) && list_all is_digit text && nat_lt (decimal_value text) (2 ^ 32)) (decimal_value text)

-- 16 hex digits
abbrev pub eui : List ℕ → Option DevEui
eui text = option_map (λ bytes. record { 0 = from_be_bytes w64 bytes }) (result_ok (decode_sized text 8))

-- 46 hex digits
abbrev pub ticket : List ℕ → Option Ticket
ticket text = option_map (λ bytes. record { 0 = bytes }) (result_ok (decode_sized text 23))

-- ---- steps

-- `heard HEX`: one byte or more
unfoldable pub datagram_step : List ℕ → Option Act
datagram_step text = do
  bytes ← result_ok (decode_of text)
  when (nat_lt 0 (length bytes)) (Datagram bytes)

-- `answer TICKET TEXT`
unfoldable pub answer_step : List ℕ → Option Act
answer_step text = do
  words ← split_words text
  t ← ticket words.0
  Some (Answer t words.1)

-- `lost TICKET`
unfoldable pub lost_step : List ℕ → Option Act
lost_step text = option_map Lost (ticket text)

-- a round above 1
unfoldable pub later_round : List ℕ → Option ℕ
later_round text = do
  round ← number text
  when (nat_lt 1 round) round

-- a counter in round 1, or a counter and a round, by the texts before and behind a colon
abbrev pub counter_by : List ℕ → Option (List ℕ × List ℕ) → Option (ℕ × ℕ)
counter_by text None = option_map (λ fcnt. (fcnt, 1)) (number text)
counter_by text (Some parts) = do
  fcnt ← number parts.0
  round ← later_round parts.1
  Some (fcnt, round)

-- `FCNT` or `FCNT:ROUND`
unfoldable pub counter : List ℕ → Option (ℕ × ℕ)
counter text = counter_by text (split_by 58 text)

-- a device's window, by `SESSION FCNT` or `SESSION FCNT:ROUND`
unfoldable pub window : DevEui → List ℕ → Option WindowName
window device text = do
  words ← split_words text
  session ← number words.0
  counter ← counter words.1
  Some (record { eui = device; session = session; fcnt = counter.0; round = counter.1 })

-- `close EUI SESSION FCNT` or `close EUI SESSION FCNT:ROUND`
unfoldable pub close_step : List ℕ → Option Act
close_step text = do
  words ← split_words text
  device ← eui words.0
  name ← window device words.1
  Some (Close name)

-- the step that a first word asks for, with the text behind it
unfoldable pub act : List ℕ → List ℕ → Option Act
act word text =
    if bytes_eq word (codes "heard") then datagram_step text
    else if bytes_eq word (codes "answer") then answer_step text
    else if bytes_eq word (codes "lost") then lost_step text
    else if bytes_eq word (codes "close") then close_step text
    else None

-- the step that a line asks for, where it is a step line
unfoldable pub step : List ℕ → Option Act
step line = do
  words ← split_words (without_return line)
  act words.0 words.1

-- the steps of a text, in order, and nothing for each line that is no step line
abbrev pub steps : List ℕ → List (Option Act)
steps text = map step (raw_lines text)

-- the step of a line, made by the one worker of a recorded run
abbrev pub step_of : Act → Step
step_of act = record { worker = 0; act = act }
