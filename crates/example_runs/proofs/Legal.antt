-- A run, call by call.
use Rattle.std.proofs.Common.{◌≡◌, List, [], ◌∷◌, ◌++◌, length, map, refl}
use Rattle.std.proofs.lemmas.List.{append_assoc, append-nil, map_push}
use Rattle.ns_roster.specs.Network.{Network}
use Rattle.ns_calls.specs.declared.call.Call.{Call}
use Rattle.ns_calls.specs.declared.call.Entry.{Entry}
use Rattle.ns_calls.specs.Legal.{IsLegal, entry_for, with_call}
use Rattle.ns_calls.specs.Runs.{answers_after, history_after}
use Rattle.ns_calls.proofs.LegalLemmas.{IsLegal-push}
use Rattle.example_runs.specs.Legal.{IsRunOf}

legal_after : (net : Network) (before : List Entry) (calls : List Call) → IsLegal net before → IsLegal net (history_after net before calls)
legal_after net before [] legal = legal
legal_after net before (call ∷ calls) legal =
    legal_after net (with_call net before (length before) call) calls (IsLegal-push net before (entry_for net before (length before) call) legal refl)

calls_after : (net : Network) (before : List Entry) (calls : List Call) → map (λ e. e.call) (history_after net before calls) ≡ map (λ e. e.call) before ++ calls
calls_after net before [] = rw append-nil refl
calls_after net before (call ∷ calls) = rw (map_push, append_assoc) at (calls_after net (with_call net before (length before) call) calls)

replies_after : (net : Network) (before : List Entry) (calls : List Call) → map (λ e. e.reply) (history_after net before calls) ≡ map (λ e. e.reply) before ++ map (λ a. a.reply) (answers_after net before calls)
replies_after net before [] = rw append-nil refl
replies_after net before (call ∷ calls) = rw (map_push, append_assoc) at (replies_after net (with_call net before (length before) call) calls)

pub runs_are_legal : (net : Network) (calls : List Call) → IsRunOf net calls
runs_are_legal net calls = record {
  legal = legal_after net [] calls (λ n e at. absurd (cc at));
  in_order = calls_after net [] calls;
  replies = replies_after net [] calls;
}
