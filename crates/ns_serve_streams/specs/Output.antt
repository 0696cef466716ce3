-- What an output has been told.
use Rattle.std.specs.Prelude.{ℕ, ◌≡◌, List, [], ◌∷◌, ◌++◌, Option, option_to_list, codes, decimal}
use Rattle.std.specs.Io.KnownBytes.{Appends, append_known}
use Rattle.ns_calls.specs.declared.answer.Downlink.{Downlink}
use Rattle.ns_serve_parts.specs.Lines.{line}
use Rattle.ns_serve_streams.specs.declared.output.Output.{Output}
use Rattle.ns_outside.specs.Grown as grown

-- the line that tells how many entries there are, the last one where no closing roster follows
abbrev pub settled_line : ℕ → List ℕ
settled_line total = line (codes "settled " ++ decimal total)

-- a line at the start, for the text of an address
abbrev pub address_line : List ℕ → List ℕ → List ℕ
address_line word addr = line (word ++ codes " " ++ addr)

-- known bytes have grown by some text, or by some text and then this one
abbrev pub Grows : Option (List ℕ) → Option (List ℕ) → Type 0
Grows old new = (text : List ℕ) × Appends old new text

abbrev pub EndsIn : Option (List ℕ) → Option (List ℕ) → List ℕ → Type 0
EndsIn old new text = (before : List ℕ) × Appends old new (before ++ text)

-- the downlinks that a sender was given have grown by one, if there is one
abbrev pub Sends : Option (List Downlink) → Option (List Downlink) → Option Downlink → Type 0
Sends old new downlink = grown.Grows old new (option_to_list downlink)

-- of an output: before it was told these lines and since, when its writer had all that it was told
pub record IsPut {W : Type 0} (taken : W → Option (List ℕ)) (lines : List ℕ) : Type 0 where
  pub before : Output W
  pub after : Output W
  pub written : Appends (append_known (taken before.writer) before.lines.items) (taken after.writer) lines
  pub empty : after.lines.items ≡ []
