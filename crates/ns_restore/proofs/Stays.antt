-- Calls and a trim leave a shard's roster and number.
use Rattle.std.proofs.Common.{◌≡◌, List, [], ◌∷◌, refl, sym, subst}
use Rattle.ns_calls.specs.declared.call.Call.{Call}
use Rattle.ns_shard.specs.State.{State, after_call, after_trim}
use Rattle.ns_shard.specs.Rounds.{after_calls}
use Rattle.ns_restore.specs.Tables.{AreOfOneShard}

pub calls_stay : (s : State) (cs : List Call) → AreOfOneShard (after_calls s cs) s
calls_stay s [] = record { roster = refl; index = refl }
calls_stay s (c ∷ cs) = let r = calls_stay (after_call s c) cs in record { roster = r.roster; index = r.index }

pub jump_stays : (new old : State) (cs : List Call) → new ≡ after_trim (after_calls old cs) → AreOfOneShard new old
jump_stays new old cs e =
    let r = calls_stay old cs in
    let P : State → Type 0 = λ s. AreOfOneShard s old in
    subst P (sym e) (record { roster = r.roster; index = r.index })
