-- Trims in worked runs of one device. Frames and what goes out with them are those of the runs that are not trimmed.
use Rattle.std.specs.Prelude.{◌≡◌, ℕ, ◌+◌, List, [], ◌∷◌, map, length, Some}
use Rattle.ns_roster.specs.Network.{Network}
use Rattle.ns_calls.specs.declared.call.Call.{Call}
use Rattle.ns_calls.specs.declared.call.Entry.{Entry}
use Rattle.ns_calls.specs.declared.answer.Answer.{Answer}
use Rattle.ns_calls.specs.declared.call.Call.TheVariants as call
use Rattle.ns_calls.specs.declared.call.Outcome.TheVariants.{Success}
use Rattle.ns_calls.specs.declared.call.Reply.TheVariants.{Opened, Again, Old, NonceOld, Closed, NoWindow}
use Rattle.ns_calls.specs.Out.{answer}
use Rattle.ns_calls.specs.Runs.{history_of}
use Rattle.ns_kept.specs.Kept.{Remains, whole, reading, keep}
use Rattle.ns_kept.specs.Left.{with_call}
use Rattle.example_runs.specs.FirstJoin.{frame, closed}
use Rattle.example_runs.specs.SecondJoin.{confirmed_4, confirmed_5, confirmed_6}
use Rattle.example_runs.specs.SentAgain.{confirmed_2, in_round}
use Rattle.example_runs.specs.OneDevice.{eui, network, heard_1, heard_2, join_1, join_5, join_6, nwk_1, nwk_2, app_1, join_ans, name, quiet}

-- the answers to calls over what is kept, so many entries being made
abbrev pub answers_over : Network → ℕ → Remains → List Call → List Answer
answers_over net made k [] = []
answers_over net made k (c ∷ cs) = answer net (reading k) c ∷ answers_over net (made + 1) (with_call net made k c) cs

-- what a trim leaves of the run of these calls
abbrev pub trimmed : List Call → Remains
trimmed calls = let h = history_of network calls in keep (length h) (whole h)

abbrev pub numbers : Remains → List ℕ
numbers k = map (λ (e : Entry). e.number) k.entries

-- a join, and an uplink that two gateways hear
abbrev pub open_run : List Call
open_run =
    call.Join join_1 heard_1 ∷ call.Join join_1 heard_2
    ∷ call.JoinReply join_1 (Success (join_ans nwk_1 (Some app_1))) ∷ call.JoinReply join_1 (Success (join_ans nwk_1 (Some app_1)))
    ∷ call.Uplink frame heard_1 ∷ call.Uplink frame heard_2 ∷ []

-- the same, the closing of the window, and a second join
abbrev pub long_run : List Call
long_run =
    call.Join join_1 heard_1 ∷ call.Join join_1 heard_2
    ∷ call.JoinReply join_1 (Success (join_ans nwk_1 (Some app_1))) ∷ call.JoinReply join_1 (Success (join_ans nwk_1 (Some app_1)))
    ∷ call.Uplink frame heard_1 ∷ call.Uplink frame heard_2
    ∷ call.Close (name 1 2) ∷ call.Close (name 1 2) ∷ call.Uplink frame heard_1
    ∷ call.Join join_1 heard_1 ∷ call.Join join_5 heard_1 ∷ call.Join join_6 heard_1
    ∷ call.JoinReply join_6 (Success (join_ans nwk_2 (Some app_1))) ∷ call.JoinReply join_5 (Success (join_ans nwk_1 (Some app_1))) ∷ []

-- of 14 entries two acceptances and the last opening stay; no window is open
pub record LongRun : Type 0 where
  pub numbers : numbers (trimmed long_run) ≡ 2 ∷ 4 ∷ 12 ∷ []
  pub mark : (trimmed long_run).mark ≡ 14
  pub windows : (trimmed long_run).windows ≡ []
  pub answers : answers_over network 14 (trimmed long_run) (call.Uplink frame heard_1 ∷ call.Join join_1 heard_1 ∷ call.Close (name 1 2) ∷ [])
      ≡ quiet (Old eui 1 2) ∷ quiet (NonceOld (record { 0 = 6 })) ∷ quiet NoWindow ∷ []

-- of six entries the acceptance, the opening and the copy stay; the window is open, and closes with both copies
pub record OpenRun : Type 0 where
  pub numbers : numbers (trimmed open_run) ≡ 2 ∷ 4 ∷ 5 ∷ []
  pub windows : (trimmed open_run).windows ≡ name 1 2 ∷ []
  pub answers : answers_over network 6 (trimmed open_run) (call.Close (name 1 2) ∷ call.Close (name 1 2) ∷ []) ≡ closed ∷ quiet NoWindow ∷ []

-- two acknowledgements
abbrev pub acknowledged_run : List Call
acknowledged_run =
    call.Join join_1 heard_1 ∷ call.JoinReply join_1 (Success (join_ans nwk_1 (Some app_1)))
    ∷ call.Uplink confirmed_4 heard_1 ∷ call.Uplink confirmed_5 heard_1
    ∷ call.Close (name 1 5) ∷ call.Close (name 1 4) ∷ []

-- the last acknowledging closing stays, so the next number is 2
pub record AcknowledgedRun : Type 0 where
  pub numbers : numbers (trimmed acknowledged_run) ≡ 1 ∷ 3 ∷ 5 ∷ []
  pub replies : map (λ (a : Answer). a.reply) (answers_over network 6 (trimmed acknowledged_run) (call.Uplink confirmed_4 heard_1 ∷ call.Uplink confirmed_6 heard_1 ∷ call.Close (name 1 6) ∷ []))
      ≡ Old eui 1 4 ∷ Opened (name 1 6) ∷ Closed (name 1 6) (Some 2) ∷ []

-- a confirmed uplink that is sent again, and both its windows are closed
abbrev pub run_sent_again : List Call
run_sent_again =
    call.Join join_1 heard_1 ∷ call.JoinReply join_1 (Success (join_ans nwk_1 (Some app_1)))
    ∷ call.Uplink confirmed_2 heard_1 ∷ call.Close (in_round 1)
    ∷ call.Uplink confirmed_2 heard_1 ∷ call.Uplink confirmed_2 heard_2 ∷ call.Close (in_round 2) ∷ []

-- the opening, the last window that was opened again and the last acknowledging closing stay, so the next round is 3 and the next number 2
pub record RunSentAgain : Type 0 where
  pub numbers : numbers (trimmed run_sent_again) ≡ 1 ∷ 2 ∷ 4 ∷ 6 ∷ []
  pub replies : map (λ (a : Answer). a.reply) (answers_over network 7 (trimmed run_sent_again) (call.Uplink confirmed_2 heard_1 ∷ call.Close (in_round 3) ∷ []))
      ≡ Again (in_round 3) ∷ Closed (in_round 3) (Some 2) ∷ []
