-- The journal with one more entry, and the history that it keeps.
use Rattle.std.proofs.Common.{◌≡◌, ◌+◌, true, cond, List, [], ◌∷◌, ◌++◌, length, length-append, find, Option, Some, IfSome, option_map, refl, sym, ap, subst, ◌∙◌}
use Rattle.std.specs.Option.{is_some}
use Rattle.std.specs.List.{list_any}
use Rattle.ns_types.specs.Identity.{same_window}
use Rattle.ns_roster.specs.Network.{Network}
use Rattle.ns_calls.specs.declared.call.Call.{Call}
use Rattle.ns_calls.specs.declared.call.Call.TheVariants as call
use Rattle.ns_calls.specs.declared.call.Reply.{Reply}
use Rattle.ns_calls.specs.declared.call.Entry.{Entry}
use Rattle.ns_calls.specs.Reply.{reply_to}
use Rattle.ns_calls.specs.Legal.{entry_of, entry_for, with_call}
use Rattle.ns_calls.specs.Out.{answer}
use Rattle.ns_calls.specs.Queries.{first}
use Rattle.ns_calls.specs.Entries.{Opening, open_windows}
use Rattle.ns_calls.specs.History.{open_window, same_ticket}
use Rattle.ns_calls.specs.Headline.{oldest}
use Rattle.ns_kept.specs.Left as left
use Rattle.ns_kept.specs.Left.{Leaves}
use Rattle.ns_kept.proofs.Law.{leaves-alike, leaves-answer, leaves-more}
use Rattle.ns_calls.proofs.NameLemmas.{same_window-refl}
use Rattle.ns_journal.specs.State.{JournalState, next_entry}
use Rattle.ns_shard.specs.State.{State, Keeps, remains, ends_open, finds_open, answer_in, oldest_in, after_call}

-- where the reply is the plain server's, the entry is the call's
pub pushed-is : (net : Network) (before : List Entry) (j : JournalState) (entries : List Entry) (call : Call) (r : Reply) → r ≡ reply_to net before call → entries ≡ j.entries ++ next_entry j call r ∷ [] →
    entries ≡ j.entries ++ entry_for net before j.made call ∷ []
pushed-is net before j entries call r is pushed = pushed ∙ ap (λ x. j.entries ++ entry_of j.made call x ∷ []) is

-- ---- a state and the history that it keeps

-- the answer in a state is that after the history
pub answer-is : (history : List Entry) (s : State) (call : Call) → Keeps history s → answer_in s call ≡ answer s.roster history call
answer-is history s call keeps = leaves-answer s.roster history (remains s) keeps.left call

pub oldest-is : (history : List Entry) (s : State) → Keeps history s → oldest_in s ≡ oldest history
oldest-is history s keeps = ap (λ os. option_map (λ (o : Opening). o.window) (first os)) (leaves-alike s.roster history (remains s) keeps.left).windows

-- the window that was opened first is open
pub oldest-open : (h : List Entry) → IfSome (oldest h) (λ w. is_some (open_window h w) ≡ true)
oldest-open h = step (open_windows h)
  where
    step : (os : List Opening) → IfSome (option_map (λ (o : Opening). o.window) (first os)) (λ w. is_some (find (λ (x : Opening). same_window x.window w) os) ≡ true)
    step [] = tt
    step (o ∷ os) = ap (λ b. is_some (cond {A = Option Opening} b (Some o) (find (λ (x : Opening). same_window x.window o.window) os))) (same_window-refl o.window)

-- what is open in a state is open after the history
pub finds_open-is : (history : List Entry) (s : State) (call : Call) → Keeps history s → finds_open s call ≡ ends_open history call
finds_open-is history s (call.Uplink frame heard) keeps = refl
finds_open-is history s (call.Join ticket heard) keeps = refl
finds_open-is history s (call.JoinReply ticket outcome) keeps = ap (list_any (same_ticket ticket)) (leaves-alike s.roster history (remains s) keeps.left).tickets
finds_open-is history s (call.Close window) keeps = ap (λ os. is_some (find (λ (o : Opening). same_window o.window window) os)) (leaves-alike s.roster history (remains s) keeps.left).windows

-- a call adds its entry to both
pub keeps-more : (history : List Entry) (s : State) (call : Call) → Keeps history s → Keeps (with_call s.roster history (length history) call) (after_call s call)
keeps-more history s call keeps = record {
  made = ap (λ n. n + 1) keeps.made ∙ sym (length-append history (entry_for s.roster history (length history) call ∷ []));
  left =
      subst (λ n. Leaves s.roster (with_call s.roster history (length history) call) (left.with_call s.roster n (remains s) call)) (sym keeps.made)
      (leaves-more s.roster history (remains s) keeps.left call);
}
