-- The copies of a Join-Request that a device's record keeps: how many there were, and the best of them.
use Rattle.std.specs.Prelude.{ℕ, ◌+◌, List, length, Option, Some}
use Rattle.ns_types.specs.declared.heard.Heard.{Heard}
use Rattle.ns_types.specs.Heard.{best, better}

pub record CopiesRecord : Type 0 where
  pub count : ℕ
  pub best : Option Heard

-- what is kept of these copies
abbrev pub copies_record : List Heard → CopiesRecord
copies_record copies = record { count = length copies; best = best copies }

-- one more copy
abbrev pub with_one_more : Heard → CopiesRecord → CopiesRecord
with_one_more heard c = record { count = c.count + 1; best = Some (better c.best heard) }
