-- The numbers of all entries are numbers of these.
use Rattle.std.proofs.Common.{◌≡◌, ℕ, suc, ◌==◌, true, List, [], ◌∷◌, map, slice_get, Some, refl, ap}
use Rattle.std.specs.List.{list_any}
use Rattle.ns_calls.specs.declared.call.Entry.{Entry}
use Rattle.ns_journal.specs.State.{with_numbers, AreNumbersOf}
use Rattle.ns_journal.proofs.Parting.{got_any}

all_stay : (stay : List ℕ) (entries : List Entry) → ((i n : ℕ) → slice_get (map (λ e. e.number) entries) i ≡ Some n → list_any (λ m. m == n) stay ≡ true)
    → with_numbers stay entries ≡ entries
all_stay stay [] among = refl
all_stay stay (e ∷ entries) among = rw (among 0 e.number refl, all_stay stay entries (λ i n got. among (suc i) n got)) refl

pub all_numbers : (entries : List Entry) → AreNumbersOf entries (map (λ e. e.number) entries)
all_numbers entries =
    let numbers : List ℕ = map (λ e. e.number) entries in
    ap (map (λ e. e.number)) (all_stay numbers entries (got_any numbers))
