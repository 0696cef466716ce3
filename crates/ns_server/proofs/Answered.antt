-- What a receipt of a call says.
use Rattle.std.proofs.Common.{◌≡◌, ℕ, List, ◌++◌, refl, ap, sym, ◌∙◌, subst}
use Rattle.ns_roster.specs.Network.{Network}
use Rattle.ns_calls.specs.declared.call.Call.{Call}
use Rattle.ns_calls.specs.declared.call.Entry.{Entry}
use Rattle.ns_calls.specs.declared.answer.Answer.{Answer}
use Rattle.ns_calls.specs.Legal.{IsHistory}
use Rattle.ns_calls.specs.Reply.{reply_to}
use Rattle.ns_calls.specs.Out.{answer}
use Rattle.ns_calls.specs.Shards.{shard_of_call}
use Rattle.ns_shard.specs.State.{State, Keeps}
use Rattle.ns_shard.proofs.Entries.{answer-is}
use Rattle.ns_outside.specs.declared.receipt.Receipt.{Receipt}
use Rattle.ns_server.specs.Kept.{IsStateOf}
use Rattle.ns_server.specs.Begun.{BeganAs}
use Rattle.ns_outside.specs.Receipts.{receipt_of}
use Rattle.ns_outside.specs.Answered.{Sends, HasHistory}
use Rattle.ns_server.specs.Receipts.{receipt_for, AnswersFrom}

-- the receipt of a call has each history of which the shard had what it keeps
history_of : (net : Network) (shard : ℕ) (s : State) (call : Call) (r : Receipt) (h : List Entry) → r ≡ receipt_for s call → s.roster ≡ net → IsHistory net shard h → Keeps h s →
    (has : HasHistory net shard r) × (has.before ≡ h)
history_of net shard s call r h made set_up is keeps =
    let answered = answer-is h s call keeps ∙ ap (λ n. answer n h call) set_up in
    let tells : r ≡ receipt_of (shard_of_call call) s.made call (answer net h call) = made ∙ ap (λ (a : Answer). receipt_of (shard_of_call call) s.made call a) answered in (
      record {
        before = h;
        is_history = is;
        number = sym keeps.made ∙ ap (λ (q : Receipt). q.entry.number) (sym tells);
        reply = subst (λ (q : Receipt). q.entry.reply ≡ reply_to net h q.entry.call) (sym tells) refl;
        sent = subst (λ (q : Receipt). Sends net h q) (sym tells) (record { uplink = refl; downlink = refl });
      },
      refl,
    )

-- so it has one
pub has_history : (net : Network) (shard : ℕ) (s : State) (call : Call) (r : Receipt) → r ≡ receipt_for s call → IsStateOf net shard s → HasHistory net shard r
has_history net shard s call r made is =
    (history_of net shard s call r is.state.history made is.set_up (rw (is.set_up, is.index) at is.state.is_history) is.state.keeps).0

-- and one that begins with each with which the shard began
pub answers_from : (net : Network) (first : State) (shard : ℕ) (s : State) (call : Call) (r : Receipt) → r ≡ receipt_for s call → IsStateOf net shard s → BeganAs first s → AnswersFrom net first shard r
answers_from net first shard s call r made is began h legal keeps =
    let was = began.goes_on h legal keeps in
    let has = history_of net shard s call r (h ++ was.more) made is.set_up (rw (is.set_up, is.index) at was.is_history) was.keeps in
    (was.more, has.0, has.1)
