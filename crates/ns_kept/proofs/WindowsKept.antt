-- The windows that are open after a trim.
use Rattle.std.proofs.Common.{◌≡◌, ℕ, ◌+◌, ◌≤◌, Bool, true, false, not, ◌||◌, cond, List, [], ◌∷◌, ◌++◌, filter, filter_map, find, map, nat_le, Option, None, Some, option_to_list, refl, sym, ap, subst, ◌∙◌, arith, inl, inr, ◌⊎◌}
use Rattle.std.specs.Prelude.{is_some}
use Rattle.std.specs.List.{AllByRecursion, list_any}
use Rattle.ns_types.specs.declared.identity.WindowName.{WindowName}
use Rattle.ns_types.specs.Identity.{same_window}
use Rattle.ns_roster.specs.Network.{Network}
use Rattle.ns_calls.specs.declared.call.Entry.{Entry}
use Rattle.ns_calls.specs.Entries.{Opening, Closing, closes, open_windows, closed}
use Rattle.ns_calls.specs.History.{open_window}
use Rattle.ns_calls.proofs.Says.{window_in, closing_in, window_copy_in, opening-copy}
use Rattle.ns_calls.specs.Legal.{IsLegal}
use Rattle.ns_calls.specs.Laws.{opening_count, closing_count, open_count, WindowsOpenOnce}
use Rattle.ns_calls.proofs.LocalLemmas.{bool_tells}
use Rattle.ns_calls.proofs.Lists.{All-weaker, count-found, at_some}
use Rattle.ns_calls.proofs.NameLemmas.{same_window-refl, same_window-eq}
use Rattle.ns_calls.proofs.WindowLemmas.{windows_open_once}
use Rattle.ns_kept.specs.Kept.{closing_entry, counts, closing_of, with_closings, filter_before, is_kept}
use Rattle.ns_kept.proofs.Within.{Within, filter_before-Within, All-end, find-any, any-weaker, any-map, each-found}
use Rattle.ns_kept.proofs.Dropped.{dropped}
use Rattle.ns_kept.proofs.TicketsKept.{any-within}
use Rattle.std.proofs.lemmas.Bool.{or_right, or_parts, false_from_ne_true, both_ways}
use Rattle.ns_kept.proofs.Says.{any-said}

-- ---- names

abbrev pub named : List WindowName → WindowName → Bool
named names w = list_any (same_window w) names

abbrev pub names_of : List Opening → List WindowName
names_of os = map (λ (o : Opening). o.window) os

pub named-found : (os : List Opening) (w : WindowName) → named (names_of os) w ≡ true → is_some (find (λ (o : Opening). same_window o.window w) os) ≡ true
named-found os w is =
    find-any (λ (o : Opening). same_window o.window w) os
    ∙ any-weaker (λ (o : Opening). same_window w o.window) (λ (o : Opening). same_window o.window w)
    (λ o same. subst (λ (v : WindowName). same_window v w ≡ true) (same_window-eq w o.window same) (same_window-refl w)) os (sym (any-map (same_window w) (λ (o : Opening). o.window) os) ∙ is)

each-named : (os : List Opening) → AllByRecursion (λ o. named (names_of os) o.window ≡ true) os
each-named os =
    All-weaker (λ (o : Opening). list_any (λ (p : Opening). same_window o.window p.window) os ≡ true) (λ (o : Opening). named (names_of os) o.window ≡ true)
    (λ o there. any-map (same_window o.window) (λ (p : Opening). p.window) os ∙ there) os (each-found (λ (o p : Opening). same_window o.window p.window) (λ o. same_window-refl o.window) os)

closes-count : (w : WindowName) (xs : List Entry) → list_any (closes w) xs ≡ true → 1 ≤ closing_count xs w
closes-count w xs is =
    let test : Closing → Bool = λ c. same_window c.window w in
    let cs : List Closing = filter_map (λ (e : Entry). closing_in e.call e.reply) xs in
    count-found test cs (find-any test cs ∙ (sym (any-said closed test xs) ∙ is))

-- a window that was closed isn't among those that are open
closed_unnamed : (net : Network) (h : List Entry) → IsLegal net h → (w : WindowName) → list_any (closes w) h ≡ true → named (names_of (open_windows h)) w ≡ false
closed_unnamed net h legal w is =
    let once : WindowsOpenOnce h = windows_open_once net h legal in
    false_from_ne_true _ (λ still.
    let one : 1 ≤ open_count h w = count-found (λ (o : Opening). same_window o.window w) (open_windows h) (named-found (open_windows h) w still) in
    let two : 1 ≤ closing_count h w = closes-count w h is in
    let most : opening_count h w ≤ 1 = once.opens w in
    let sums : closing_count h w + open_count h w ≡ opening_count h w = once.closes w in
    omega (arith, one, two, most, sums))

-- ---- the last entries of a history

abbrev IsClosed : List WindowName → List Entry → Type 0
IsClosed names xs = (w : WindowName) → list_any (closes w) xs ≡ true → named names w ≡ false

abbrev AreNamed : List WindowName → List Entry → Type 0
AreNamed names xs = AllByRecursion (λ o. named names o.window ≡ true) (open_windows xs)

-- no closing of the window is added to these entries
abbrev pub Unadded : ℕ → List WindowName → WindowName → List Entry → Type 0
Unadded mark names w es = (named names w ≡ true) ⊎ AllByRecursion (λ e. nat_le mark e.number ≡ true) es

unadded-rest : (mark : ℕ) (names : List WindowName) (w : WindowName) (e : Entry) (es : List Entry) → Unadded mark names w (e ∷ es) → Unadded mark names w es
unadded-rest mark names w e es (inl name) = inl name
unadded-rest mark names w e es (inr all) = inr all.1

pub closers-with_closings : (mark : ℕ) (names : List WindowName) (w : WindowName) (es : List Entry) → Unadded mark names w es → list_any (closes w) (with_closings mark names es) ≡ list_any (closes w) es
closers-with_closings mark names w [] none = refl
closers-with_closings mark names w (e ∷ es) none =
    ap (λ b. closes w e || b)
    (step (window_in e.call e.reply) none ∙ closers-with_closings mark names w es (unadded-rest mark names w e es none))
  where
    step : (o : Option Opening) → Unadded mark names w (e ∷ es) → list_any (closes w) (closing_of mark names e.number o ++ with_closings mark names es) ≡ list_any (closes w) (with_closings mark names es)
    step None un = refl
    step (Some o) un = by (counts mark names e.number o.window) refl
      where
        by : (b : Bool) → counts mark names e.number o.window ≡ b → list_any (closes w) (cond b [] (closing_entry e.number o.window ∷ []) ++ with_closings mark names es) ≡ list_any (closes w) (with_closings mark names es)
        by true is = refl
        by false is =
            let fails = or_parts (nat_le mark e.number) (named names o.window) is in
            ap (λ b. b || list_any (closes w) (with_closings mark names es)) (false_from_ne_true _ (λ same. elim un [
              | inr all ↦ both_ways _ fails.0 all.0
              | inl name ↦ both_ways _ fails.1 (subst (λ (v : WindowName). named names v ≡ true) (sym (same_window-eq o.window w same)) name)
            ]))

-- what one entry opens that stays open, as it reads and as it is
record Reads (h : List Entry) (mark : ℕ) (names : List WindowName) (x : Entry) (xs : List Entry) : Type 0 where
  below : nat_le mark x.number ≡ false
  closed_there : IsClosed names (x ∷ xs)
  open_there : AreNamed names (x ∷ xs)
  found : (w : WindowName) → named names w ≡ true → is_some (open_window h w) ≡ true

abbrev pub opened_by : Option Opening → List Entry → List Opening
opened_by o after = filter (λ (p : Opening). not (list_any (closes p.window) after)) (option_to_list o)

named-here : (names : List WindowName) (x : Entry) (xs : List Entry) (o : Opening) → window_in x.call x.reply ≡ Some o → AreNamed names (x ∷ xs) → list_any (closes o.window) xs ≡ false → named names o.window ≡ true
named-here names x xs o says all lasts =
    (subst (λ b. AllByRecursion (λ (p : Opening). named names p.window ≡ true) (cond {A = List Opening} (not b) (o ∷ []) [] ++ open_windows xs)) lasts
    (subst (λ s. AllByRecursion (λ (p : Opening). named names p.window ≡ true) (opened_by s xs ++ open_windows xs)) says all)).0

kept_part : (h : List Entry) (mark : ℕ) (names : List WindowName) (x : Entry) (xs ks : List Entry) → Reads h mark names x xs → Within (is_kept h) ks xs → open_windows (with_closings mark names ks) ≡ open_windows xs → (o : Option Opening) → window_in x.call x.reply ≡ o →
    opened_by o (closing_of mark names x.number o ++ with_closings mark names ks) ++ open_windows (closing_of mark names x.number o ++ with_closings mark names ks) ≡ opened_by o xs ++ open_windows xs
kept_part h mark names x xs ks reads within later None says = later
kept_part h mark names x xs ks reads within later (Some o) says =
    elim (bool_tells (list_any (closes o.window) xs)) [
      | inl ended ↦
          (let unnamed : named names o.window ≡ false = reads.closed_there o.window (or_right (closes o.window x) _ ended) in
          let passed : counts mark names x.number o.window ≡ false = ap (λ b. b || named names o.window) reads.below ∙ unnamed in
          ap by passed
          ∙ (ap (λ b. cond {A = List Opening} (not (b || list_any (closes o.window) r)) (o ∷ []) [] ++ open_windows r) (same_window-refl o.window)
          ∙ (later ∙ sym (ap (λ b. cond {A = List Opening} (not b) (o ∷ []) [] ++ open_windows xs) ended))))
      | inr lasts ↦
          (let name : named names o.window ≡ true = named-here names x xs o says reads.open_there lasts in
          let still : counts mark names x.number o.window ≡ true = or_right (nat_le mark x.number) _ name in
          let quiet : list_any (closes o.window) r ≡ false = closers-with_closings mark names o.window ks (inl name) ∙ any-within (is_kept h) (closes o.window) ks xs within lasts in
          ap by still
          ∙ (ap (λ b. cond {A = List Opening} (not b) (o ∷ []) [] ++ open_windows r) (quiet ∙ sym lasts)
          ∙ ap (λ os. cond {A = List Opening} (not (list_any (closes o.window) xs)) (o ∷ []) [] ++ os) later))
    ]
  where
    r : List Entry
    r = with_closings mark names ks

    by : Bool → List Opening
    by b = opened_by (Some o) (cond b [] (closing_entry x.number o.window ∷ []) ++ with_closings mark names ks) ++ open_windows (cond b [] (closing_entry x.number o.window ∷ []) ++ with_closings mark names ks)

gone_part : (h : List Entry) (mark : ℕ) (names : List WindowName) (x : Entry) (xs : List Entry) → Reads h mark names x xs → is_kept h x xs ≡ false → (o : Option Opening) → window_in x.call x.reply ≡ o → opened_by o xs ≡ []
gone_part h mark names x xs reads is None says = refl
gone_part h mark names x xs reads is (Some o) says =
    elim (bool_tells (list_any (closes o.window) xs)) [
      | inl ended ↦ ap (λ b. cond {A = List Opening} (not b) (o ∷ []) []) ended
      | inr lasts ↦
          (let name : named names o.window ≡ true = named-here names x xs o says reads.open_there lasts in
          let copy = at_some (λ (p : Opening). window_copy_in x.call x.reply ≡ Some (p.window, p.heard)) (window_in x.call x.reply) o says (opening-copy x.call x.reply) in
          absurd (both_ways _ ((dropped h x xs is).window_copy (o.window, o.heard) copy) (reads.found o.window name)))
    ]

windows-of : (h : List Entry) (mark : ℕ) (names : List WindowName) → ((w : WindowName) → named names w ≡ true → is_some (open_window h w) ≡ true) →
    (xs : List Entry) → AllByRecursion (λ e. nat_le mark e.number ≡ false) xs → IsClosed names xs → AreNamed names xs → open_windows (with_closings mark names (filter_before (is_kept h) xs)) ≡ open_windows xs
windows-of h mark names found [] below closed_there open_there = refl
windows-of h mark names found (x ∷ xs) below closed_there open_there =
    step (windows-of h mark names found xs below.1 (λ w any. closed_there w (or_right (closes w x) _ any)) (All-end _ (opened_by (window_in x.call x.reply) xs) (open_windows xs) open_there)) (is_kept h x xs) refl
  where
    reads : Reads h mark names x xs
    reads = record { below = below.0; closed_there = closed_there; open_there = open_there; found = found }

    step : open_windows (with_closings mark names (filter_before (is_kept h) xs)) ≡ open_windows xs → (b : Bool) → is_kept h x xs ≡ b → open_windows (with_closings mark names (cond b (x ∷ filter_before (is_kept h) xs) (filter_before (is_kept h) xs))) ≡ open_windows (x ∷ xs)
    step later true is = kept_part h mark names x xs (filter_before (is_kept h) xs) reads (filter_before-Within (is_kept h) xs) later (window_in x.call x.reply) refl
    step later false is = later ∙ sym (ap (λ os. os ++ open_windows xs) (gone_part h mark names x xs reads is (window_in x.call x.reply) refl))

pub windows-kept : (net : Network) (h : List Entry) → IsLegal net h → (mark : ℕ) → AllByRecursion (λ e. nat_le mark e.number ≡ false) h → open_windows (with_closings mark (names_of (open_windows h)) (filter_before (is_kept h) h)) ≡ open_windows h
windows-kept net h legal mark below =
    windows-of h mark (names_of (open_windows h)) (λ w is. named-found (open_windows h) w is) h below (closed_unnamed net h legal) (each-named (open_windows h))
