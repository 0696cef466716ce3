-- What holds of the empty history, and stays with each call, holds of every legal history.
use Rattle.std.proofs.Common.{◌≡◌, ℕ, zero, suc, List, [], ◌∷◌, ◌++◌, length, take, slice_get, Some, refl, sym, ap, subst, ◌∙◌}
use Rattle.std.proofs.lemmas.List.{append_assoc, append-nil}
use Rattle.ns_roster.specs.Network.{Network}
use Rattle.ns_calls.specs.declared.call.Call.{Call}
use Rattle.ns_calls.specs.declared.call.Reply.{Reply}
use Rattle.ns_calls.specs.declared.call.Entry.{Entry}
use Rattle.ns_calls.specs.Reply.{reply_to}
use Rattle.ns_calls.specs.Legal.{IsLegal, entry_for, with_call}

entry-is : (net : Network) (before : List Entry) (e : Entry) → e.reply ≡ reply_to net before e.call → e ≡ entry_for net before e.number e.call
entry-is net before e is = ap (λ (r : Reply). let x : Entry = record { number = e.number; call = e.call; reply = r } in x) is

-- what stays with each call
abbrev pub Stays : Network → (List Entry → Type 0) → Type 0
Stays net P = (h : List Entry) (number : ℕ) (call : Call) → IsLegal net h → P h → P (with_call net h number call)

get_front : (xs ys : List Entry) (n : ℕ) (e : Entry) → slice_get xs n ≡ Some e → (slice_get (xs ++ ys) n ≡ Some e) × (take n (xs ++ ys) ≡ take n xs)
get_front [] ys n e at = absurd (cc at)
get_front (x ∷ xs) ys zero e at = (at, refl)
get_front (x ∷ xs) ys (suc n) e at = (let rest = get_front xs ys n e at in (rest.0, ap (λ (l : List Entry). x ∷ l) rest.1))

-- the front of a legal history is legal
pub legal-front : (net : Network) (f ys : List Entry) → IsLegal net (f ++ ys) → IsLegal net f
legal-front net f ys legal n e at =
    let there = get_front f ys n e at in
    legal n e there.0 ∙ ap (λ l. reply_to net l e.call) there.1

pub get_seam : (xs ys : List Entry) (e : Entry) → (slice_get (xs ++ e ∷ ys) (length xs) ≡ Some e) × (take (length xs) (xs ++ e ∷ ys) ≡ xs)
get_seam [] ys e = (refl, refl)
get_seam (x ∷ xs) ys e = (let rest = get_seam xs ys e in (rest.0, ap (λ (l : List Entry). x ∷ l) rest.1))

-- the reply of an entry is the one after the entries before it
pub legal-next : (net : Network) (f ys : List Entry) (e : Entry) → IsLegal net (f ++ e ∷ ys) → e.reply ≡ reply_to net f e.call
legal-next net f ys e legal =
    let there = get_seam f ys e in
    legal (length f) e there.0 ∙ ap (λ l. reply_to net l e.call) there.1

-- what holds of the front and stays with each call holds of the whole
pub legal_on : (net : Network) (P : List Entry → Type 0) → Stays net P → (f ys : List Entry) → IsLegal net (f ++ ys) → P f → P (f ++ ys)
legal_on net P stays f [] legal holds = rw append-nil holds
legal_on net P stays f (e ∷ ys) legal holds =
    let ok : IsLegal net f = legal-front net f (e ∷ ys) legal in
    let is : e ≡ entry_for net f e.number e.call = entry-is net f e (legal-next net f ys e legal) in
    let next : P (f ++ e ∷ []) = subst (λ (x : Entry). P (f ++ x ∷ [])) (sym is) (stays f e.number e.call ok holds) in
    let whole : IsLegal net ((f ++ e ∷ []) ++ ys) = rw append_assoc legal in
    rw append_assoc at (legal_on net P stays (f ++ e ∷ []) ys whole next)

pub legal_induction : (net : Network) (P : List Entry → Type 0) → P [] → Stays net P → (h : List Entry) → IsLegal net h → P h
legal_induction net P empty stays h legal = legal_on net P stays [] h legal empty
