-- The one line of a head that frames the body.
use Rattle.std.specs.Prelude.{◌≡◌, ◌≢◌, ℕ, ◌≤◌, List, [], ◌∷◌, ◌++◌, length, take, drop, slice_range, Option, Some, None}
use Rattle.ns_responses.specs.declared.head.Line.{Line}
use Rattle.ns_responses.specs.Head.{framing_lines, unframed}

-- just one line of the head frames the body, and stands there; or none does, or several do
abbrev pub IsFraming : List ℕ → Option Line → Type 0
IsFraming head None = length (framing_lines head) ≢ 1
IsFraming head (Some line) =
    (line.start ≤ line.end) × (line.end ≤ length head)
    × (framing_lines head ≡ slice_range head line.start line.end ∷ [])
    × (unframed head ≡ take line.start head ++ drop line.end head)
