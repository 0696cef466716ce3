-- Closing the windows that are still open.
use Rattle.std.specs.Prelude.{ℕ, ◌≡◌, ◌<◌, true, List, set, Some, None, slice_get}
use Rattle.ns_types.specs.declared.identity.WindowName.{WindowName}
use Rattle.ns_types.specs.Identity.{shard_of}
use Rattle.ns_calls.specs.declared.call.Call.TheVariants.{Close}
use Rattle.ns_calls.specs.declared.call.Entry.{Entry}
use Rattle.ns_calls.specs.Entries.{Opening, says, opened}
use Rattle.ns_calls.specs.Laws.{closing_count}
use Rattle.ns_shard.specs.State.{State, remains, after_call, oldest_in, finds_open}
use Rattle.ns_kept.specs.Left.{Leaves}
use Rattle.ns_outside.specs.declared.receipt.Receipt.{Receipt}
use Rattle.ns_server.specs.Receipts.{receipt_for}

-- no shard has an open window
abbrev pub NoneOpen : List State → Type 0
NoneOpen states = (k : ℕ) (s : State) → slice_get states k ≡ Some s → oldest_in s ≡ None

-- the window that was opened first, of the first shard that has one, is closed by one entry, and this is its receipt
pub record Drains (old : List State) (r : Receipt) (new : List State) : Type 0 where
  pub state : State
  pub window : WindowName
  pub shard : slice_get old r.shard ≡ Some state
  pub oldest_of : oldest_in state ≡ Some window
  pub first : (j : ℕ) (s : State) → j < r.shard → slice_get old j ≡ Some s → oldest_in s ≡ None
  pub receipt : r ≡ receipt_for state (Close window)
  pub after : new ≡ set old r.shard (after_call state (Close window))

-- in each history that leaves what is left of a shard, each entry that opened a window has exactly one entry that closed it
abbrev pub EachIsClosed : List State → Type 0
EachIsClosed states =
    (k : ℕ) (s : State) → slice_get states k ≡ Some s → (h : List Entry) → Leaves s.roster h (remains s)
    → (n : ℕ) (e : Entry) (o : Opening) → slice_get h n ≡ Some e → says opened e ≡ Some o
    → closing_count h o.window ≡ 1

-- the shard at this place has the window as the one that was opened first, and those before it have no open window
pub record OpensFirst (states : List State) (i : ℕ) (window : WindowName) : Type 0 where
  pub state : State
  pub shard : slice_get states i ≡ Some state
  pub oldest_of : oldest_in state ≡ Some window
  pub own : shard_of window.eui ≡ state.index
  pub is_open : finds_open state (Close window) ≡ true
  pub first : (j : ℕ) (s : State) → j < i → slice_get states j ≡ Some s → oldest_in s ≡ None
