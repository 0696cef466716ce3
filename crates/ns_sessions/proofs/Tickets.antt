-- The first ticket of equal bytes in a list.
use Rattle.std.proofs.Common.{◌≡◌, ℕ, zero, suc, ◌+◌, ◌<◌, Bool, true, false, List, [], ◌∷◌, length, set, get_or, None, Some, refl, sym, ap, arith}
use Rattle.std.specs.List.{position, position_from, remove}
use Rattle.std.proofs.lemmas.List.Quantifiers.{position-Some}
use Rattle.std.proofs.lemmas.Iterator.Adapters.{position_from-zero}
use Rattle.ns_types.specs.declared.heard.Heard.{Heard}
use Rattle.ns_types.specs.declared.ticket.Ticket.{Ticket}
use Rattle.ns_calls.specs.History.{same_ticket}
use Rattle.ns_sessions.specs.declared.ticket.OpenTicket.{OpenTicket}
use Rattle.ns_sessions.specs.declared.decision.JoinDecision.{JoinDecision}
use Rattle.ns_sessions.specs.Copies.{with_one_more}
use Rattle.ns_sessions.specs.Record.{ticket_among, copy_decision, with_copy, tickets_after_copy, tickets_after_join, without}

abbrev pub is_of : Ticket → OpenTicket → Bool
is_of t o = same_ticket t o.ticket

-- o stands at i, and is the first of equal bytes
abbrev pub FirstAt : Ticket → List OpenTicket → ℕ → OpenTicket → Type 0
FirstAt t [] i o = ⊥
FirstAt t (x ∷ xs) zero o = (x ≡ o) × (is_of t x ≡ true)
FirstAt t (x ∷ xs) (suc i) o = (is_of t x ≡ false) × FirstAt t xs i o

first_at : (t : Ticket) (xs : List OpenTicket) (i : ℕ) (o : OpenTicket) → i < length xs → is_of t (get_or xs i o) ≡ true →
    ((k : ℕ) → k < i → is_of t (get_or xs k o) ≡ false) → FirstAt t xs i (get_or xs i o)
first_at t [] i o lt is before = absurd (omega (arith, lt))
first_at t (x ∷ xs) zero o lt is before = (refl, is)
first_at t (x ∷ xs) (suc i) o lt is before =
    (before zero (omega arith), first_at t xs i o (omega (arith, lt)) is (λ k less. before (suc k) (omega (arith, less))))

pub first_found : (t : Ticket) (xs : List OpenTicket) (i : ℕ) (o : OpenTicket) → position (is_of t) xs ≡ Some i → FirstAt t xs i (get_or xs i o)
first_found t xs i o at =
    let found = position-Some (is_of t) xs i o at in
    first_at t xs i o found.0 found.1 found.2

none_from : (t : Ticket) (i : ℕ) (xs : List OpenTicket) → position_from (is_of t) i xs ≡ None → (ticket_among t xs ≡ None) × (without t xs ≡ xs)
none_from t i [] none = (refl, refl)
none_from t i (x ∷ xs) none = grind (arith, none_from t (i + 1) xs)

pub none_found : (t : Ticket) (xs : List OpenTicket) → position (is_of t) xs ≡ None → (ticket_among t xs ≡ None) × (without t xs ≡ xs)
none_found t xs none = none_from t 0 xs (cc (position_from-zero (is_of t) xs))

pub among-first : (t : Ticket) (xs : List OpenTicket) (i : ℕ) (o : OpenTicket) → FirstAt t xs i o → ticket_among t xs ≡ Some o
among-first t [] i o at = absurd at
among-first t (x ∷ xs) zero o at = cc
among-first t (x ∷ xs) (suc i) o at = cc (among-first t xs i o at.1)

copied-first : (t : Ticket) (heard : Heard) (xs : List OpenTicket) (i : ℕ) (o : OpenTicket) → FirstAt t xs i o → set xs i (record o { copies = with_one_more heard o.copies }) ≡ tickets_after_copy t heard xs
copied-first t heard [] i o at = absurd at
copied-first t heard (x ∷ xs) zero o at = cc
copied-first t heard (x ∷ xs) (suc i) o at = cc (copied-first t heard xs i o at.1)

same-first : (t : Ticket) (xs : List OpenTicket) (i : ℕ) (o : OpenTicket) → FirstAt t xs i o → set xs i o ≡ xs
same-first t [] i o at = absurd at
same-first t (x ∷ xs) zero o at = ap (λ y. y ∷ xs) (sym at.0)
same-first t (x ∷ xs) (suc i) o at = ap (λ ys. x ∷ ys) (same-first t xs i o at.1)

-- what came of one more copy of the ticket that stands there
pub asked-first : (decision : JoinDecision) (t : Ticket) (heard : Heard) (xs : List OpenTicket) (i : ℕ) (o : OpenTicket) → FirstAt t xs i o → decision ≡ copy_decision o →
    set xs i (with_copy decision heard o) ≡ tickets_after_join decision t heard xs
asked-first decision t heard xs i o at is = grind (arith, copied-first t heard xs i o at, same-first t xs i o at)

pub without-first : (t : Ticket) (xs : List OpenTicket) (i : ℕ) (o : OpenTicket) → FirstAt t xs i o → remove xs i ≡ without t xs
without-first t [] i o at = absurd at
without-first t (x ∷ xs) zero o at = cc
without-first t (x ∷ xs) (suc i) o at = cc (without-first t xs i o at.1)
