use Rattle.std.proofs.Common.{sym}
use Rattle.ns_server.proofs.Standing.{found_for, laws_of, fits_there, stands_found, stands_other}
use Rattle.ns_server.proofs.check.stands_in.Goals as goal

pub sends-requires : goal.sends-requires
sends-requires c =
    let s = c.args.shard.now in
    let r = c.args.receipt.now in
    let is = c.made-made.ensures.state in
    let es_is = c.entries-entries.ensures.entries in
    let it = found_for s is r _ _ c.index-entries-place.result es_is c.made-made.ensures.made c.requires.from_mark c.if-number-made.false (sym c.index-entries-place.is) in
    let laws = laws_of s.roster (c.windows_open_once.ensures s.roster) (c.limits_hold.ensures s.roster) in
    rw es_is (fits_there s is laws r _ c.index-entries-place.result it (c.is_entry.ensures.0 c.if-is_entry.true))

pub returns-then-is_entry : goal.returns-then-is_entry
returns-then-is_entry c =
    let s = c.args.shard.now in
    let r = c.args.receipt.now in
    let is = c.made-made.ensures.state in
    let es_is = c.entries-entries.ensures.entries in
    let it = found_for s is r _ _ c.index-entries-place.result es_is c.made-made.ensures.made c.requires.from_mark c.if-number-made.false (sym c.index-entries-place.is) in
    let laws = laws_of s.roster (c.windows_open_once.ensures s.roster) (c.limits_hold.ensures s.roster) in
    stands_found s is laws r _ c.index-entries-place.result c.sends.result it (c.is_entry.ensures.0 c.if-is_entry.true) (rw (es_is, ← c.requires.set_up) at c.sends.ensures)

pub returns-else-is_entry : goal.returns-else-is_entry
returns-else-is_entry c =
    let s = c.args.shard.now in
    let r = c.args.receipt.now in
    let is = c.made-made.ensures.state in
    let es_is = c.entries-entries.ensures.entries in
    let it = found_for s is r _ _ c.index-entries-place.result es_is c.made-made.ensures.made c.requires.from_mark c.if-number-made.false (sym c.index-entries-place.is) in
    stands_other s is r _ c.index-entries-place.result c.is_entry.result it c.is_entry.ensures c.if-is_entry.false
