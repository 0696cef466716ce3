-- Live sessions as a list, and what one more acceptance, opening or closing makes of it.
use Rattle.std.proofs.Common.{◌≡◌, ℕ, ◌+◌, ◌==◌, false, cond, List, [], ◌∷◌, ◌++◌, filter, filter_map, map, find, unwrap_or, Option, None, Some, IfSome, option_map, refl, arith}
use Rattle.std.specs.List.{AllByRecursion, list_any}
use Rattle.std.specs.Option.{option_or}
use Rattle.std.proofs.lemmas.List.{append-nil, map-append}
use Rattle.std.proofs.lemmas.List.Elements.{filter-append, filter_map-append}
use Rattle.std.proofs.lemmas.List.Folds.{find-append}
use Rattle.std.proofs.lemmas.Bool.Decides.{nat_tests}
use Rattle.ns_calls.specs.declared.call.JoinAns.{JoinAns}
use Rattle.ns_calls.specs.Queries.{last, greater, maximum}
use Rattle.ns_calls.specs.Entries.{Acceptance, Opening, Closing}
use Rattle.ns_calls.specs.History.{first_and_other}
use Rattle.ns_calls.proofs.QueryLemmas.{maximum-push}
use Rattle.ns_sessions.specs.declared.session.Session.{Session}
use Rattle.ns_sessions.proofs.Basics.{greater-none}
use Rattle.ns_calls.proofs.Lists.{All-weaker, filter_map-same}

-- ---- a device's sessions, from its acceptances, openings and closings

abbrev pub join_by : List Acceptance → ℕ → Option JoinAns
join_by accepted n = option_map (λ (a : Acceptance). a.join_ans) (find (λ (a : Acceptance). a.session == n) accepted)

abbrev pub counter_by : List Opening → ℕ → Option ℕ
counter_by opened n = maximum (map (λ (o : Opening). o.window.fcnt) (filter (λ (o : Opening). o.window.session == n) opened))

abbrev pub greatest_ack_by : List Closing → ℕ → Option ℕ
greatest_ack_by closed n = maximum (filter_map (λ (c : Closing). c.ack) (filter (λ (c : Closing). c.window.session == n) closed))

abbrev pub next_ack_by : Option ℕ → ℕ
next_ack_by greatest = unwrap_or (option_map (λ m. m + 1) greatest) 0

abbrev pub session_of : ℕ → Option ℕ → ℕ → ℕ → JoinAns → Session
session_of n counter round ack join = record { number = n; nwk = join.nwk; app = join.app; greatest_counter = counter; round = round; next_ack = ack }

-- rounds says the last round of each session's greatest counter
abbrev pub session_by : List Acceptance → List Opening → (ℕ → ℕ) → List Closing → ℕ → Option Session
session_by accepted opened rounds closed n = option_map (session_of n (counter_by opened n) (rounds n) (next_ack_by (greatest_ack_by closed n))) (join_by accepted n)

abbrev pub active_by : List Opening → Option ℕ
active_by opened = option_map (λ (o : Opening). o.window.session) (last opened)

abbrev pub newest_by : List Acceptance → Option ℕ
newest_by accepted = option_map (λ (a : Acceptance). a.session) (last accepted)

abbrev pub sessions_by : List Acceptance → List Opening → (ℕ → ℕ) → List Closing → List Session
sessions_by accepted opened rounds closed = filter_map (session_by accepted opened rounds closed) (first_and_other (active_by opened) (newest_by accepted))

-- ---- one more element

pub counter-push : (os : List Opening) (o : Opening) (n : ℕ) → counter_by (os ++ o ∷ []) n ≡ cond (o.window.session == n) (greater (counter_by os n) (Some o.window.fcnt)) (counter_by os n)
counter-push os o n = grind (arith, filter-append, map-append, maximum-push, append-nil)

pub ack-push : (cs : List Closing) (c : Closing) (n : ℕ) → greatest_ack_by (cs ++ c ∷ []) n ≡ cond (c.window.session == n) (greater (greatest_ack_by cs n) c.ack) (greatest_ack_by cs n)
ack-push cs c n = grind (arith, filter-append, filter_map-append, maximum-push, append-nil, greater-none)

pub join-push : (joins : List Acceptance) (a : Acceptance) (n : ℕ) → join_by (joins ++ a ∷ []) n ≡ option_or (join_by joins n) (cond (a.session == n) (Some a.join_ans) None)
join-push joins a n = grind (arith, find-append)

-- ---- lists of sessions by their numbers

-- what a number gives is a session of that number
abbrev pub Numbered : (ℕ → Option Session) → Type 0
Numbered f = (n : ℕ) → IfSome (f n) (λ s. s.number ≡ n)

pub session_by-numbered : (joins : List Acceptance) (os : List Opening) (rs : ℕ → ℕ) (cs : List Closing) → Numbered (session_by joins os rs cs)
session_by-numbered joins os rs cs n = grind arith

-- no number stands twice
abbrev pub AreApart : List ℕ → Type 0
AreApart [] = Unit {0}
AreApart (x ∷ xs) = AllByRecursion (λ y. (y == x) ≡ false) xs × AreApart xs

pub live-apart : (a b : Option ℕ) → AreApart (first_and_other a b)
live-apart None None = tt
live-apart None (Some y) = (tt, tt)
live-apart (Some x) None = (tt, tt)
live-apart (Some x) (Some y) = grind (arith, nat_tests)

-- what differs from s keeps its session
pub others_same : (f g : ℕ → Option Session) (s : ℕ) → ((n : ℕ) → (n == s) ≡ false → f n ≡ g n) → (xs : List ℕ) → AllByRecursion (λ n. (n == s) ≡ false) xs → filter_map f xs ≡ filter_map g xs
others_same f g s same xs others = filter_map-same f g xs (All-weaker (λ n. (n == s) ≡ false) (λ n. f n ≡ g n) same xs others)

-- the session of a number in the list
pub found_by_number : (f : ℕ → Option Session) → Numbered f → (s : ℕ) (xs : List ℕ) → find (λ x. x.number == s) (filter_map f xs) ≡ cond (list_any (λ n. n == s) xs) (f s) None
found_by_number f numbered s [] = refl
found_by_number f numbered s (x ∷ xs) = grind (arith, nat_tests, numbered x, found_by_number f numbered s xs)
