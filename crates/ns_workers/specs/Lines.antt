-- What goes out with receipts.
use Rattle.std.specs.Prelude.{ℕ, ◌≡◌, List, [], ◌∷◌, ◌++◌, Option, None, Some, option_to_list, flat_map}
use Rattle.std.specs.Io.KnownBytes.{Appends}
use Rattle.ns_types.specs.Streams.{AppendsFront}
use Rattle.ns_calls.specs.declared.answer.Uplink.{Uplink}
use Rattle.ns_calls.specs.declared.answer.Downlink.{Downlink}
use Rattle.ns_lines.specs.Text.{up_text}
use Rattle.ns_output.specs.declared.output.Output.{Output}
use Rattle.ns_output.specs.declared.times.Times.{Times}
use Rattle.ns_events.specs.Output.{line_of}
use Rattle.ns_outside.specs.declared.receipt.Receipt.{Receipt}

-- the line of an uplink with its line feed, if there is one, as the output asks
abbrev pub uplink_line : Output → Option Times → Option Uplink → List ℕ
uplink_line output times None = []
uplink_line output times (Some uplink) = line_of output times uplink ++ 10 ∷ []

-- a text is the lines of receipts, in order, each with some times, which `lines` does not tell
abbrev pub AreLines : Output → List Receipt → List ℕ → Type 0
AreLines output [] text = text ≡ []
AreLines output (r ∷ receipts) text =
    (times : Option Times) × (rest : List ℕ) × (text ≡ uplink_line output times r.uplink ++ rest) × AreLines output receipts rest

-- known bytes grow by the line of an uplink with some times, and by a front of it
abbrev pub AppendsLine : Output → Option (List ℕ) → Option (List ℕ) → Option Uplink → Type 0
AppendsLine output old new uplink = (times : Option Times) × Appends old new (uplink_line output times uplink)

abbrev pub AppendsLineFront : Output → Option (List ℕ) → Option (List ℕ) → Option Uplink → Type 0
AppendsLineFront output old new uplink = (times : Option Times) × AppendsFront old new (uplink_line output times uplink)

-- known bytes grow by the lines of receipts, and by a front of them
abbrev pub AppendsLines : Output → Option (List ℕ) → Option (List ℕ) → List Receipt → Type 0
AppendsLines output old new receipts = (text : List ℕ) × AreLines output receipts text × Appends old new text

abbrev pub AppendsLinesFront : Output → Option (List ℕ) → Option (List ℕ) → List Receipt → Type 0
AppendsLinesFront output old new receipts = (text : List ℕ) × AreLines output receipts text × AppendsFront old new text

-- the `up` lines of receipts, in order: the only text that is their lines as `lines`
abbrev pub up_line : Option Uplink → List ℕ
up_line None = []
up_line (Some uplink) = up_text uplink ++ 10 ∷ []

abbrev pub up_lines : List Receipt → List ℕ
up_lines receipts = flat_map (λ r. up_line r.uplink) receipts

-- their downlinks, in order
abbrev pub downlinks_of : List Receipt → List Downlink
downlinks_of receipts = flat_map (λ r. option_to_list r.downlink) receipts
