use Rattle.std.proofs.Common.{◌≡◌, List, ◌++◌, length, reverse}
use Rattle.ns_calls.specs.declared.call.Entry.{Entry}
use Rattle.ns_keep.specs.Tables.{AreOf, numbers_kept}
use Rattle.ns_keep.specs.Private.Marks.{AreMarks}
use Rattle.ns_keep.proofs.walk.numbers_kept.Given as goal

-- the marks are those of the entries walked over, and the numbers those that are kept of them, the last first
abbrev pub invariant-walk : goal.invariant-walk
invariant-walk g l = (after : List Entry) × (l.rest ++ after ≡ l.entries) × AreMarks (g.D.DeviceTable.has_ticket l.devices) l.marks after
    × ((h : List Entry) → AreOf h (g.D.DeviceTable.lives l.devices) (g.D.DeviceTable.has_ticket l.devices) l.windows → reverse l.numbers.items ≡ numbers_kept h after)

abbrev pub decreases-walk : goal.decreases-walk
decreases-walk g l = length l.rest
