use Rattle.std.proofs.Common.{◌≡◌, ℕ, take}
use Rattle.std.specs.HashSet.{contains}
use Rattle.std.specs.List.{list_any}
use Rattle.ns_types.specs.declared.identity.WindowName.{WindowName}
use Rattle.ns_types.specs.contracts.identity.WindowNamePartialEq.TheImpl as name_eq
use Rattle.ns_types.specs.Identity.{same_window}
use Rattle.ns_keep.specs.Private.Marks.{same_key, is_of}
use Rattle.ns_keep.proofs.windows.OpenWindows.new.Given as goal

-- the sets are those of the names so far
abbrev pub invariant-loop-window : goal.invariant-loop-window
invariant-loop-window l = record {
  windows : (w : WindowName) → contains (name_eq.ghosts).eq l.names w ≡ list_any (λ n. same_window n w) (take l.window-index l.windows);
  sessions : (k : ℕ × ℕ) → contains same_key l.sessions k ≡ list_any (λ n. is_of k n) (take l.window-index l.windows);
}
