-- The lines of a text, and the step that a line spells, said without an order of tests.
use Rattle.std.specs.Prelude.{ℕ, ◌≡◌, ◌-◌, ◌<◌, ◌==◌, ◌⊎◌, false, List, [], ◌∷◌, ◌++◌, length, slice_index, codes, Some, Ok}
use Rattle.std.specs.List.{All}
use Rattle.std.specs.Int.{w64, from_be_bytes}
use Rattle.hex.specs.Hex.{decode_of, decode_sized}
use Rattle.ns_types.specs.declared.identity.WindowName.{WindowName}
use Rattle.ns_types.specs.declared.ticket.Ticket.{Ticket}
use Rattle.ns_acts.specs.declared.step.Act.{Act}
use Rattle.ns_acts.specs.declared.step.Act.TheVariants.{Datagram, Answer, Lost, Close}
use Rattle.ns_steps.specs.StepLines.{number}

-- the text is these lines, each with a line feed behind it, but perhaps a last one, which is not empty; no line has a line feed
abbrev pub AreLines : List ℕ → List (List ℕ) → Type 0
AreLines text [] = text ≡ []
AreLines text (line ∷ more) =
    All (λ b. (b == 10) ≡ false) line
    × (((rest : List ℕ) × (text ≡ line ++ 10 ∷ rest) × AreLines rest more) ⊎ ((text ≡ line) × (0 < length line) × (more ≡ [])))

-- what a line says: the line, without the one carriage return that may end it
abbrev pub Says : List ℕ → List ℕ → Type 0
Says line words = (line ≡ words ++ 13 ∷ []) ⊎ ((line ≡ words) × ((slice_index words (length words - 1) == 13) ≡ false))

-- hex digits of a ticket
abbrev pub SpellsTicket : List ℕ → Ticket → Type 0
SpellsTicket hex ticket = decode_sized hex 23 ≡ Ok ticket.0

-- a counter in round 1, or a counter, a colon and a round above 1
abbrev pub SpellsCounter : List ℕ → ℕ → ℕ → Type 0
SpellsCounter text fcnt round =
    ((number text ≡ Some fcnt) × (round ≡ 1))
    ⊎ ((first : List ℕ) × (second : List ℕ) × (text ≡ first ++ (58 ∷ second)) × (number first ≡ Some fcnt) × (number second ≡ Some round) × (1 < round))

-- `SESSION FCNT` or `SESSION FCNT:ROUND` behind the hex digits of a DevEUI
pub record SpellsWindow (words : List ℕ) (window : WindowName) : Type 0 where
  pub eui : List ℕ
  pub session : List ℕ
  pub fcnt : List ℕ
  pub are : words ≡ eui ++ (32 ∷ session ++ (32 ∷ fcnt))
  pub bytes : List ℕ
  pub hex : decode_sized eui 8 ≡ Ok bytes
  pub is_eui : from_be_bytes w64 bytes ≡ window.eui.0
  pub is_session : number session ≡ Some window.session
  pub is_fcnt : SpellsCounter fcnt window.fcnt window.round

-- the words spell a step: `heard HEX`, `answer TICKET TEXT`, `lost TICKET`, `close EUI SESSION FCNT` or `close EUI SESSION FCNT:ROUND`
abbrev pub SpellsStep : List ℕ → Act → Type 0
SpellsStep words (Datagram bytes) = (hex : List ℕ) × (words ≡ codes "heard " ++ hex) × (decode_of hex ≡ Ok bytes) × (0 < length bytes)
SpellsStep words (Answer ticket text) = (hex : List ℕ) × (words ≡ codes "answer " ++ (hex ++ (32 ∷ text))) × SpellsTicket hex ticket
SpellsStep words (Lost ticket) = (hex : List ℕ) × (words ≡ codes "lost " ++ hex) × SpellsTicket hex ticket
SpellsStep words (Close window) = (rest : List ℕ) × (words ≡ codes "close " ++ rest) × SpellsWindow rest window

-- the line spells the step
abbrev pub Spells : List ℕ → Act → Type 0
Spells line act = (words : List ℕ) × Says line words × SpellsStep words act
