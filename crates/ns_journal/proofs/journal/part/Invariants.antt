use Rattle.std.proofs.Common.{◌≡◌, ◌+◌, ◌≤◌, length, take, drop, vec_len, vec_capacity}
use Rattle.ns_journal.specs.State.{with_numbers, without_numbers}
use Rattle.ns_journal.proofs.journal.part.Given as goal

-- the entries so far are parted, and those that are left stand where they stood
abbrev pub invariant-entries : goal.invariant-entries
invariant-entries l = record {
  kept : l.kept.items ≡ with_numbers l.stay (take l.place l.fn.entries.items);
  met : length l.kept.items ≡ l.next;
  count : vec_len l.kept ≡ l.next;
  out : take l.out l.entries.items ≡ without_numbers l.stay (take l.place l.fn.entries.items);
  parted : l.out + l.next ≡ l.place;
  rest : drop l.place l.entries.items ≡ drop l.place l.fn.entries.items;
  len : length l.entries.items ≡ length l.fn.entries.items;
  capacity : vec_capacity l.fn.kept ≤ vec_capacity l.kept;
}
