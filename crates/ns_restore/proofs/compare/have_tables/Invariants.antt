use Rattle.std.proofs.Common.{◌≡◌, length}
use Rattle.ns_restore.specs.Tables.{tables_of}
use Rattle.ns_restore.proofs.compare.have_tables.Given as goal

-- all devices have these tables if those that are left have the tables that are left
abbrev pub invariant-ours : goal.invariant-ours
invariant-ours l = l.rest ≡ tables_of l.ours → l.tables ≡ tables_of l.devices

abbrev pub decreases-ours : goal.decreases-ours
decreases-ours l = length l.ours
