-- A shard among sixteen closes a window.
use Rattle.std.proofs.Common.{◌⊎◌, inl, inr, ◌≡◌, ℕ, zero, suc, ◌<◌, List, [], ◌∷◌, set, Some, refl, ap, sym, ◌∙◌, subst}
use Rattle.std.specs.Prelude.{slice_get}
use Rattle.ns_types.specs.declared.identity.WindowName.{WindowName}
use Rattle.ns_roster.specs.Network.{Network}
use Rattle.ns_calls.specs.declared.call.Call.TheVariants.{Close}
use Rattle.ns_shard.specs.State.{State, IsState, after_call, oldest_in}
use Rattle.ns_outside.specs.declared.receipt.Receipt.{Receipt}
use Rattle.ns_server.specs.Receipts.{receipt_for}
use Rattle.ns_server.specs.Kept.{IsStateOf}
use Rattle.ns_server.specs.Settled.{AreStates}
use Rattle.ns_server.specs.Drain.{Drains, OpensFirst}

-- what stands at a place of a list in which one place is written
get_set : (ss : List State) (i k : ℕ) (new s : State) → slice_get (set ss i new) k ≡ Some s → ((k ≡ i) × (new ≡ s)) ⊎ (slice_get ss k ≡ Some s)
get_set [] i k new s at = inr at
get_set (x ∷ ss) zero zero new s at = inl (refl, cc)
get_set (x ∷ ss) zero (suc k) new s at = inr at
get_set (x ∷ ss) (suc i) zero new s at = inr at
get_set (x ∷ ss) (suc i) (suc k) new s at =
    elim (get_set ss i k new s at) [
      | inl same ↦ inl (ap suc same.0, same.1)
      | inr there ↦ inr there
    ]

-- the states with one of them after a call of its own
pub states_set : (net : Network) (ss : List State) (i : ℕ) (new : State) → AreStates net ss → IsStateOf net i new → AreStates net (set ss i new)
states_set net ss i new are is k s at =
    elim (get_set ss i k new s at) [
      | inl same ↦ subst (λ n. IsStateOf net n s) (sym same.0) (subst (IsStateOf net i) same.1 is)
      | inr there ↦ are k s there
    ]

-- a state after a call of its shard
pub state_after : (net : Network) (i : ℕ) (w : WindowName) (old new : State) → IsStateOf net i old → new ≡ after_call old (Close w) → IsState new → IsStateOf net i new
state_after net i w old new was is state = record {
  set_up = ap (λ (s : State). s.roster) is ∙ was.set_up;
  index = ap (λ (s : State). s.index) is ∙ was.index;
  state = state;
}

-- the window that was opened first, of the first shard that has one, is closed
pub drains : (net : Network) (states ss : List State) (i : ℕ) (w : WindowName) (old new : State) (r : Receipt) → ss ≡ states → AreStates net ss → slice_get ss i ≡ Some old → OpensFirst ss i w
    → new ≡ after_call old (Close w) → r ≡ receipt_for old (Close w) → Drains states r (set ss i new)
drains net states ss i w old new r seen are at first is receipt =
    let same : first.state ≡ old = cc (first.shard, at) in
    let place : r.shard ≡ i = ap (λ (q : Receipt). q.shard) receipt ∙ first.own ∙ ap (λ (s : State). s.index) same ∙ (are i old at).index in
    subst (λ l. Drains l r (set ss i new)) seen (record {
      state = old;
      window = w;
      shard = ap (slice_get ss) place ∙ at;
      oldest_of = ap (λ (s : State). oldest_in s) (sym same) ∙ first.oldest_of;
      first = λ j s lt found. first.first j s (subst (λ n. j < n) place lt) found;
      receipt = receipt;
      after = ap (λ n. set ss n new) (sym place) ∙ ap (set ss r.shard) is;
    })
