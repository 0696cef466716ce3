-- Where no window is open each opening has exactly one closing.
use Rattle.std.proofs.lemmas.Bool.{cond-true}
use Rattle.ns_calls.proofs.Lists.{count-cons}
use Rattle.std.specs.List.{cons_option}
use Rattle.std.proofs.Common.{◌≡◌, ℕ, zero, suc, ◌<◌, ◌≤◌, Bool, true, List, [], ◌∷◌, Some, None, refl, ap, sym, ◌∙◌, subst, arith}
use Rattle.std.specs.Prelude.{slice_get, count_by, filter_map, Option, option_map}
use Rattle.ns_types.specs.declared.identity.WindowName.{WindowName}
use Rattle.ns_types.specs.Identity.{same_window}
use Rattle.ns_calls.specs.declared.call.Entry.{Entry}
use Rattle.ns_calls.specs.Queries.{first}
use Rattle.ns_calls.specs.Entries.{Opening, open_windows}
use Rattle.ns_calls.proofs.Says.{window_in}
use Rattle.ns_calls.specs.Legal.{IsLegal}
use Rattle.ns_roster.specs.Network.{Network}
use Rattle.ns_kept.specs.Kept.{Remains, reading}
use Rattle.ns_kept.specs.Left.{Leaves}
use Rattle.ns_shard.specs.State.{State, remains, seen}
use Rattle.ns_server.specs.Settled.{AreStates}
use Rattle.ns_server.specs.Drain.{NoneOpen, EachIsClosed}
use Rattle.ns_calls.proofs.NameLemmas.{same_window-refl}
use Rattle.ns_calls.specs.Laws.{opening_count, closing_count, WindowsOpenOnce}

-- one element more in front leaves no fewer that pass
more_pass : (test : Opening → Bool) (q : Option Opening) (os : List Opening) → count_by test os ≤ count_by test (cons_option q os)
more_pass test None os = omega arith
more_pass test (Some o) os = omega (arith, count-cons test o os)

-- one that passes in front is counted
front_passes : (test : Opening → Bool) (o : Opening) (os : List Opening) → test o ≡ true → 0 < count_by test (o ∷ os)
front_passes test o os passes = omega (arith, cond-true {A = ℕ} (test o) 1 0 passes, count-cons test o os)

-- an entry that opens a window is counted
opened_counts : (h : List Entry) (n : ℕ) (e : Entry) (o : Opening) → slice_get h n ≡ Some e → window_in e.call e.reply ≡ Some o → 0 < opening_count h o.window
opened_counts [] n e o at opens = absurd cc
opened_counts (x ∷ h) zero e o at opens =
    let same : x ≡ e = cc in
    let test = λ (q : Opening). same_window q.window o.window in
    let rest = filter_map (λ (y : Entry). window_in y.call y.reply) h in
    let is : window_in x.call x.reply ≡ Some o = ap (λ (y : Entry). window_in y.call y.reply) same ∙ opens in
    subst (λ q. 0 < count_by test (cons_option q rest)) (sym is) (front_passes test o rest (same_window-refl o.window))
opened_counts (x ∷ h) (suc n) e o at opens =
    let test = λ (q : Opening). same_window q.window o.window in
    omega (arith, opened_counts h n e o at opens, more_pass test (window_in x.call x.reply) (filter_map (λ (y : Entry). window_in y.call y.reply) h))

-- no window is the oldest, so none is open
none_first : (os : List Opening) → option_map (λ (o : Opening). o.window) (first os) ≡ None → os ≡ []
none_first [] none = refl
none_first (o ∷ os) none = absurd (cc none)

-- where nothing is left open, in a history each name is closed as often as it is opened
abbrev pub Drained : Network → Type 0
Drained net = (h : List Entry) (k : Remains) → Leaves net h k → open_windows (reading k) ≡ [] → (w : WindowName) → closing_count h w ≡ opening_count h w

-- where no shard has an open window, each opening has one closing
pub each_closed : (net : Network) (states : List State) → ((h : List Entry) → IsLegal net h → WindowsOpenOnce h) → Drained net → AreStates net states → NoneOpen states → EachIsClosed states
each_closed net states once drained are none k s at h leaves n e o stands opens =
    let there : Leaves net h (remains s) = subst (λ m. Leaves m h (remains s)) (are k s at).set_up leaves in
    let all = drained h (remains s) there (none_first (open_windows (seen s)) (none k s at)) o.window in
    omega (arith, opened_counts h n e o stands opens, all, (once h there.legal).opens o.window)
