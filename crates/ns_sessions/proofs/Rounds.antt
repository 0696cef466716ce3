-- The rounds of a device's sessions, with one more entry.
use Rattle.std.proofs.Common.{◌≡◌, ℕ, ◌+◌, ◌^◌, ◌≤◌, ◌==◌, false, ◌&&◌, List, [], ◌∷◌, ◌++◌, filter, map, nat_lt, Option, None, Some, IfSome, refl, ap, ◌∙◌, arith}
use Rattle.std.specs.Option.{option_map_or}
use Rattle.std.proofs.lemmas.Bool.Decides.{nat_tests}
use Rattle.ns_types.specs.declared.identity.DevEui.{DevEui}
use Rattle.ns_types.specs.declared.identity.WindowName.{WindowName}
use Rattle.ns_types.specs.Cases.{when}
use Rattle.ns_types.specs.Identity.{same_uplink}
use Rattle.ns_secure.specs.Counter.{Exceeds}
use Rattle.ns_roster.specs.Network.{Network}
use Rattle.ns_calls.specs.declared.call.Entry.{Entry}
use Rattle.ns_calls.specs.Queries.{maximum}
use Rattle.ns_calls.specs.Entries.{Opening, openings, same_device}
use Rattle.ns_calls.proofs.Says.{window_in}
use Rattle.ns_calls.specs.History.{first_window, last_round, greatest_counter}
use Rattle.ns_calls.specs.Headline.{session_round}
use Rattle.ns_calls.specs.Reply.{Fit, window_of, is_greatest}
use Rattle.ns_calls.specs.Legal.{IsLegal}
use Rattle.ns_calls.proofs.Lists.{IfSome-weaker}
use Rattle.ns_calls.proofs.RoundLemmas.{last_round-new, last_round-other, rounds_are_counted}

-- the round of a greatest counter
abbrev round_at : List Entry → DevEui → ℕ → Option ℕ → ℕ
round_at h eui n greatest = option_map_or (λ m. last_round h (first_window eui n m)) greatest 0

abbrev counter_in : ℕ → List Opening → Option ℕ
counter_in n os = maximum (map (λ (o : Opening). o.window.fcnt) (filter (λ (o : Opening). o.window.session == n) os))

-- where no window is opened of a session, its rounds stay
stays_in : (h : List Entry) (e : Entry) (eui : DevEui) (n : ℕ) → IfSome (window_in e.call e.reply) (λ o. (same_device o.window.eui eui && (o.window.session == n)) ≡ false) → (greatest : Option ℕ) → round_at (h ++ e ∷ []) eui n greatest ≡ round_at h eui n greatest
stays_in h e eui n other None = refl
stays_in h e eui n other (Some m) =
    last_round-other h e (first_window eui n m)
    (IfSome-weaker (λ (o : Opening). (same_device o.window.eui eui && (o.window.session == n)) ≡ false) (λ (o : Opening). same_uplink o.window (first_window eui n m) ≡ false) (window_in e.call e.reply)
    (λ o apart. ap (λ b. b && (o.window.fcnt == m)) apart) other)

pub session_round-stays : (h : List Entry) (e : Entry) (eui : DevEui) (n : ℕ) → counter_in n (openings (h ++ e ∷ []) eui) ≡ counter_in n (openings h eui)
    → IfSome (window_in e.call e.reply) (λ o. (same_device o.window.eui eui && (o.window.session == n)) ≡ false) → session_round (h ++ e ∷ []) eui n ≡ session_round h eui n
session_round-stays h e eui n same other = ap (round_at (h ++ e ∷ []) eui n) same ∙ stays_in h e eui n other (greatest_counter h eui n)

-- where no window of the device is opened, all its rounds stay
pub rounds-stay : (h : List Entry) (e : Entry) (eui : DevEui) → openings (h ++ e ∷ []) eui ≡ openings h eui → IfSome (window_in e.call e.reply) (λ o. same_device o.window.eui eui ≡ false) → session_round (h ++ e ∷ []) eui ≡ session_round h eui
rounds-stay h e eui same other =
    λ i n. session_round-stays h e eui n (ap (counter_in n) same)
    (IfSome-weaker (λ (o : Opening). same_device o.window.eui eui ≡ false) (λ (o : Opening). (same_device o.window.eui eui && (o.window.session == n)) ≡ false) (window_in e.call e.reply) (λ o apart. ap (λ b. b && (o.window.session == n)) apart) other) i

-- the round of the window that is opened is that of its session
pub session_round-new : (h : List Entry) (e : Entry) (o : Opening) → window_in e.call e.reply ≡ Some o → counter_in o.window.session (openings (h ++ e ∷ []) o.window.eui) ≡ Some o.window.fcnt
    → last_round h o.window ≤ o.window.round → session_round (h ++ e ∷ []) o.window.eui o.window.session ≡ o.window.round
session_round-new h e o says counter most = ap (round_at (h ++ e ∷ []) o.window.eui o.window.session) counter ∙ last_round-new h e o says most

-- a counter above the greatest has no round yet
pub new-below : (net : Network) (h : List Entry) → IsLegal net h → (w : WindowName) → Exceeds (greatest_counter h w.eui w.session) w.fcnt → last_round h w ≤ w.round
new-below net h legal w exceeds = (let none = (rounds_are_counted net h legal).new w exceeds in omega (arith, none))

-- the next round of a counter, by the round of the greatest one
pub next_round-by : (h : List Entry) (f : Fit) (greatest : Option ℕ) →
    (let round : ℕ = round_at h f.eui f.session greatest + 1 in when (is_greatest greatest f.counter && nat_lt round (2 ^ 32)) round)
    ≡ (let round : ℕ = last_round h (window_of f) + 1 in when (is_greatest greatest f.counter && nat_lt round (2 ^ 32)) round)
next_round-by h f greatest = grind (arith, nat_tests)
