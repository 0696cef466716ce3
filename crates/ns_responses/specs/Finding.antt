-- The search of the end of a section, in bytes that come in pieces.
use Rattle.std.specs.Prelude.{◌≡◌, ℕ, ◌+◌, ◌≤◌, ◌⊎◌, false, List, ◌++◌, length, drop, Option, Some, None}
use Rattle.std.specs.Option.{option_map}
use Rattle.std.specs.Io.KnownBytes.{IsAtEnd}
use Rattle.ns_responses.specs.declared.section.Search.{Search}
use Rattle.ns_responses.specs.Lines.{section_length, section_of}

-- a search has looked at the first bytes: the section ends where it does by what follows them
pub record IsSearchOf (search : Search) (bytes : List ℕ) : Type 0 where
  pub within : search.at ≤ length bytes
  pub goes_on : (more : List ℕ) → section_length false (bytes ++ more)
      ≡ option_map (λ n. search.at + n) (section_length search.has_text (drop search.at bytes ++ more))

-- the first empty line ends behind so many bytes, whatever follows
abbrev pub EndsSection : List ℕ → ℕ → Type 0
EndsSection bytes n = (n ≤ length bytes) × ((more : List ℕ) → section_length false (bytes ++ more) ≡ Some n)

-- a section that begins with a text stands at the front of the bytes, or none does, whatever follows
abbrev pub HasSection : List ℕ → List ℕ → Option ℕ → Type 0
HasSection text bytes (Some n) = (n ≤ length bytes) × ((more : List ℕ) → section_of text (bytes ++ more) ≡ Some n)
HasSection text bytes None = (more : List ℕ) → section_of text (bytes ++ more) ≡ None

-- the same, or none does since the stream has ended
abbrev pub FindsSection : List ℕ → List ℕ → Option (List ℕ) → Option ℕ → Type 0
FindsSection text bytes left found =
    HasSection text bytes found ⊎ (IsAtEnd left × (section_of text bytes ≡ None) × (found ≡ None))
