use Rattle.std.proofs.Common.{◌≡◌, ◌≤◌, length, take, drop, vec_len, vec_capacity}
use Rattle.ns_journal.specs.State.{with_numbers}
use Rattle.ns_journal.proofs.journal.gather.Given as goal

-- the entries so far that stay are at the front, and those that are left stand where they stood
abbrev pub invariant-entries : goal.invariant-entries
invariant-entries l = record {
  front : take l.next l.entries.items ≡ with_numbers l.stay (take l.place (take l.len l.fn.entries.items));
  met : length (with_numbers l.stay (take l.place (take l.len l.fn.entries.items))) ≡ l.next;
  within : l.next ≤ l.place;
  rest : drop l.place l.entries.items ≡ drop l.place l.fn.entries.items;
  len : length l.entries.items ≡ length l.fn.entries.items;
  same_len : vec_len l.entries ≡ vec_len l.fn.entries;
  capacity : vec_capacity l.fn.entries ≤ vec_capacity l.entries;
}
