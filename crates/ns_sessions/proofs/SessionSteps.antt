-- What an opening, a closing and an acceptance make of the live sessions.
use Rattle.std.proofs.Common.{◌≡◌, ◌⊎◌, ℕ, ◌==◌, Bool, true, false, cond, List, [], ◌∷◌, ◌++◌, filter, filter_map, Option, None, Some, IfSome, option_map, refl, arith}
use Rattle.std.specs.Prelude.{is_some}
use Rattle.std.specs.List.{list_any}
use Rattle.std.proofs.lemmas.Bool.Decides.{nat_tests}
use Rattle.ns_calls.specs.History.{first_and_other}
use Rattle.ns_sessions.specs.declared.session.Session.{Session}
use Rattle.ns_sessions.specs.Record.{sessions_after_uplink, change_session}
use Rattle.ns_sessions.proofs.Sessions.{Numbered, AreApart, others_same}

abbrev pub with_counter : ℕ → Session → Session
with_counter counter s = record s { greatest_counter = Some counter; round = 1 }

-- the numbers from this one on
abbrev pub from : ℕ → List ℕ → List ℕ
from s [] = []
from s (x ∷ xs) = cond (x == s) (x ∷ xs) (from s xs)

-- an opening in session s
pub opened_from : (f g : ℕ → Option Session) (s counter : ℕ) → Numbered f → ((n : ℕ) → (n == s) ≡ false → f n ≡ g n) → is_some (f s) ≡ true → g s ≡ option_map (with_counter counter) (f s) →
    (xs : List ℕ) → AreApart xs → filter_map g (from s xs) ≡ sessions_after_uplink s counter (filter_map f xs)
opened_from f g s counter numbered same known now [] apart = refl
opened_from f g s counter numbered same known now (x ∷ xs) apart =
    grind (arith, nat_tests, numbered x, apart.0, others_same f g s same xs, opened_from f g s counter numbered same known now xs apart.1)

-- the session of the last opening comes first
pub live_opened : (a b : Option ℕ) (s : ℕ) → list_any (λ n. n == s) (first_and_other a b) ≡ true → first_and_other (Some s) b ≡ from s (first_and_other a b)
live_opened a b s lives = grind (arith, nat_tests)

-- a change of session s
pub changed_in : (change : Session → Session) (f g : ℕ → Option Session) (s : ℕ) → Numbered f → ((n : ℕ) → (n == s) ≡ false → f n ≡ g n) → g s ≡ option_map change (f s) →
    (xs : List ℕ) → AreApart xs → filter_map g xs ≡ change_session s change (filter_map f xs)
changed_in change f g s numbered same now [] apart = refl
changed_in change f g s numbered same now (x ∷ xs) apart =
    grind (arith, nat_tests, numbered x, same x, apart.0, others_same f g s same xs, changed_in change f g s numbered same now xs apart.1)

-- ---- a join that is accepted

abbrev has_counter : Session → Bool
has_counter s = is_some s.greatest_counter

-- what a number gives has a counter, or has none
abbrev pub Counts : Bool → Option Session → Type 0
Counts b o = IfSome o (λ s. is_some s.greatest_counter ≡ b)

-- The active session stays, the newest one, where it is another, ends, and the new one comes last.
pub joined : (f g : ℕ → Option Session) (new : ℕ) (r : Session) → ((n : ℕ) → (n == new) ≡ false → f n ≡ g n) → g new ≡ Some r → (a b : Option ℕ) →
    IfSome a (λ x. ((x == new) ≡ false) × Counts true (f x)) → IfSome b (λ y. option_map (λ x. x == y) a ≡ Some true ⊎ Counts false (f y)) →
    filter_map g (first_and_other a (Some new)) ≡ filter has_counter (filter_map f (first_and_other a b)) ++ r ∷ []
joined f g new r same now None b active newest = grind arith
joined f g new r same now (Some x) b active newest = grind (arith, same x)
