-- Which ticket is answered next.
use Rattle.std.specs.Prelude.{ℕ, zero, suc, ◌+◌, ◌-◌, ◌^◌, min, nat_le, nat_lt, cond, List, [], ◌∷◌, Option, None, Some}
use Rattle.ns_outside.specs.declared.job.AskJob.{AskJob}

-- the join server is not asked about a ticket of more than 4,500 ms
abbrev pub most_age : ℕ
most_age = 4500

-- how many of the tickets at the front are due
abbrev pub due_front : ℕ → List AskJob → ℕ
due_front now [] = 0
due_front now (job ∷ jobs) = cond (nat_le job.due now) (suc (due_front now jobs)) 0

-- the place before one, if there is one
abbrev pub place_before : ℕ → Option ℕ
place_before zero = None
place_before (suc place) = Some place

-- the place of the ticket that is answered next, the oldest being first: the first, where it is too old; else the last of those that are due
abbrev pub next_place : ℕ → List AskJob → Option ℕ
next_place now [] = None
next_place now (job ∷ jobs) = cond (nat_lt (job.since + most_age) now) (Some 0) (place_before (due_front now (job ∷ jobs)))

-- in how many milliseconds a ticket is due, or too old to be asked about; no time is above 2^64 - 1
abbrev pub wait_ms : ℕ → AskJob → ℕ
wait_ms now job = min job.due (min (job.since + most_age + 1) (2 ^ 64 - 1)) - now
