-- The lines of a message, and the empty line that ends a section of them (RFC 9112, sections 2.1 and 2.2).
use Rattle.std.specs.Prelude.{ℕ, suc, ◌==◌, ◌||◌, not, Bool, false, List, [], ◌∷◌, if◌then◌else◌, take, Option, Some, None, nat_eq}
use Rattle.std.specs.List.{starts_with}
use Rattle.std.specs.Option.{option_map}
use Rattle.httparse.specs.Ascii.{line_feed, carriage_return}

-- the byte in front of the first line, which it is part of
abbrev pub onto_line : ℕ → List (List ℕ) → List (List ℕ)
onto_line b [] = (b ∷ []) ∷ []
onto_line b (line ∷ lines) = (b ∷ line) ∷ lines

-- the lines, each with the LF that ends it; the last may have none
abbrev pub lines_of : List ℕ → List (List ℕ)
lines_of [] = []
lines_of (b ∷ bytes) = if b == line_feed then (b ∷ []) ∷ lines_of bytes else onto_line b (lines_of bytes)

-- How many bytes there are up to the end of the first empty line, if there is one. A line ends in LF, and CR is no text
-- of it. `has_text` says whether the line that the bytes go on has text already.
abbrev pub section_length : Bool → List ℕ → Option ℕ
section_length has_text [] = None
section_length has_text (b ∷ bytes) =
    if b == line_feed
    then (if has_text then option_map suc (section_length false bytes) else Some 1)
    else option_map suc (section_length (has_text || not (b == carriage_return)) bytes)

-- the length of a section of at most 4,096 bytes that begins with a text, if the bytes begin with one
abbrev pub section_of : List ℕ → List ℕ → Option ℕ
section_of text bytes = if starts_with nat_eq bytes text then section_length false (take 4096 bytes) else None
