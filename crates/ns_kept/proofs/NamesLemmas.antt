-- The windows that are open in what is read are those of the openings that count.
use Rattle.std.proofs.Common.{◌≡◌, ℕ, ◌<◌, Bool, true, false, not, ◌||◌, cond, List, [], ◌∷◌, ◌++◌, map, nat_le, Option, None, Some, refl, ap, ◌∙◌, arith, inl, inr}
use Rattle.std.specs.List.{AllByRecursion, list_any}
use Rattle.std.specs.Option.{option_and_then}
use Rattle.std.proofs.lemmas.Bool.Decides.{nat_tests}
use Rattle.ns_types.specs.Cases.{when}
use Rattle.ns_types.specs.declared.identity.WindowName.{WindowName}
use Rattle.ns_calls.specs.declared.call.Entry.{Entry}
use Rattle.ns_calls.specs.Entries.{still_open, Opening, closes, open_windows}
use Rattle.ns_calls.proofs.Says.{window_in}
use Rattle.ns_calls.specs.Laws.{Rises}
use Rattle.ns_calls.proofs.Lists.{All-weaker, All-map}
use Rattle.ns_calls.proofs.NameLemmas.{same_window-refl}
use Rattle.ns_kept.specs.Kept.{Remains, closing_entry, counts, closing_of, with_closings, reading, counted_windows}
use Rattle.ns_kept.proofs.WindowsKept.{named, Unadded, closers-with_closings, opened_by}
use Rattle.std.proofs.lemmas.Bool.{or_cases}

abbrev counting : ℕ → List WindowName → ℕ → Option Opening → Option Opening
counting mark names number o = option_and_then (λ (p : Opening). when (counts mark names number p.window) p) o

first_part : (mark : ℕ) (names : List WindowName) (x : Entry) (xs : List Entry) → AllByRecursion (λ e. x.number < e.number) xs → (o : Option Opening) →
    opened_by o (closing_of mark names x.number o ++ with_closings mark names xs) ++ open_windows (closing_of mark names x.number o ++ with_closings mark names xs) ≡ opened_by (counting mark names x.number o) xs ++ open_windows (with_closings mark names xs)
first_part mark names x xs rises None = refl
first_part mark names x xs rises (Some o) = by (counts mark names x.number o.window) refl
  where
    r : List Entry
    r = with_closings mark names xs

    by : (b : Bool) → counts mark names x.number o.window ≡ b →
        opened_by (Some o) (cond b [] (closing_entry x.number o.window ∷ []) ++ with_closings mark names xs) ++ open_windows (cond b [] (closing_entry x.number o.window ∷ []) ++ with_closings mark names xs) ≡ opened_by (when b o) xs ++ open_windows (with_closings mark names xs)
    by false is = ap (λ b. cond {A = List Opening} (not (b || list_any (closes o.window) (with_closings mark names xs))) (o ∷ []) [] ++ open_windows (with_closings mark names xs)) (same_window-refl o.window)
    by true is =
        let unadded : Unadded mark names o.window xs = elim (or_cases (nat_le mark x.number) (named names o.window) is) [
          | inr name ↦ inl name
          | inl above ↦ inr (All-weaker (λ (e : Entry). x.number < e.number) (λ (e : Entry). nat_le mark e.number ≡ true) (λ e less. grind (arith, nat_tests)) xs rises)
        ] in
        ap (λ b. cond {A = List Opening} (not b) (o ∷ []) [] ++ open_windows (with_closings mark names xs)) (closers-with_closings mark names o.window xs unadded)

counted-with_closings : (mark : ℕ) (names : List WindowName) (es : List Entry) → Rises (map (λ e. e.number) es) →
    open_windows (with_closings mark names es) ≡ still_open (λ e. counting mark names e.number (window_in e.call e.reply)) (λ (o : Opening) e. closes o.window e) es
counted-with_closings mark names [] rises = refl
counted-with_closings mark names (x ∷ xs) rises =
    first_part mark names x xs (All-map (λ n. x.number < n) (λ (e : Entry). e.number) xs rises.0) (window_in x.call x.reply)
    ∙ ap (λ os. opened_by (counting mark names x.number (window_in x.call x.reply)) xs ++ os) (counted-with_closings mark names xs rises.1)

pub counted-open : (k : Remains) → Rises (map (λ e. e.number) k.entries) → open_windows (reading k) ≡ counted_windows k
counted-open k rises = counted-with_closings k.mark k.windows k.entries rises
