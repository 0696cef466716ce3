-- A run is a legal history, so all that is promised of legal histories holds of it.
use Rattle.std.specs.Prelude.{◌≡◌, List, map}
use Rattle.ns_roster.specs.Network.{Network}
use Rattle.ns_calls.specs.declared.call.Call.{Call}
use Rattle.ns_calls.specs.Legal.{IsLegal}
use Rattle.ns_calls.specs.Runs.{answers_of, history_of}

-- it has the run's calls, in order, and the replies of the run's answers
pub record IsRunOf (net : Network) (calls : List Call) : Type 0 where
  pub legal : IsLegal net (history_of net calls)
  pub in_order : map (λ e. e.call) (history_of net calls) ≡ calls
  pub replies : map (λ e. e.reply) (history_of net calls) ≡ map (λ a. a.reply) (answers_of net calls)
