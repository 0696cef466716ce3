-- When a server compacts its record.
use Rattle.std.specs.Prelude.{ℕ, Bool, nat_le, ◌&&◌, ◌*◌}

-- steps of so many bytes, of which the last compaction left so many: 4 MiB at least, and eight times what was left
abbrev pub is_due : ℕ → ℕ → Bool
is_due left bytes = nat_le 4_194_304 bytes && nat_le (left * 8) bytes
