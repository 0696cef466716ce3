-- The answers over what is left are those over the whole history.
use Rattle.std.proofs.Common.{◌≡◌, ◌⊎◌, ℕ, zero, suc, ◌+◌, ◌<◌, ◌≤◌, Bool, true, false, not, List, [], ◌∷◌, ◌++◌, length, take, drop, filter, count_by, map, nat_le, Some, slice_get, refl, sym, ap, subst, ◌∙◌, arith, append_assoc, length-append, take-append-drop, inl, inr}
use Rattle.std.specs.List.{AllByRecursion}
use Rattle.ns_types.specs.declared.identity.DevEui.{DevEui}
use Rattle.ns_types.specs.Identity.{same_window}
use Rattle.std.proofs.lemmas.List.{take-append-le, append-nil, drop-append-le, drop_all}
use Rattle.std.proofs.Math.Seq.{take-length}
use Rattle.std.proofs.lemmas.Bool.Decides.{nat_tests}
use Rattle.ns_types.specs.declared.identity.WindowName.{WindowName}
use Rattle.ns_types.specs.declared.ticket.Ticket.{Ticket}
use Rattle.ns_roster.specs.Network.{Network}
use Rattle.ns_roster.specs.Valid.{IsRoster}
use Rattle.ns_calls.specs.declared.call.Call.{Call}
use Rattle.ns_calls.specs.declared.call.Reply.{Reply}
use Rattle.ns_calls.specs.declared.call.Entry.{Entry}
use Rattle.ns_calls.specs.declared.answer.Answer.{Answer}
use Rattle.ns_calls.specs.Entries.{is_ended, Opening, closes, open_windows}
use Rattle.ns_calls.specs.History.{ends_ticket, open_tickets, greatest_nonce}
use Rattle.ns_calls.proofs.Says.{window_in, asking_in}
use Rattle.ns_calls.specs.Reply.{reply_to}
use Rattle.ns_calls.specs.Legal.{IsLegal, IsNumbered, entry_for}
use Rattle.ns_calls.specs.Legal as calls
use Rattle.ns_calls.specs.Out.{answer}
use Rattle.ns_calls.specs.Runs.{answers_after}
use Rattle.ns_calls.specs.Laws.{Rises, opening_count, closing_count, open_count}
use Rattle.ns_calls.proofs.WindowLemmas.{windows_open_once}
use Rattle.ns_calls.specs.Merges.{MergesAreLegal, out}
use Rattle.ns_calls.proofs.LegalLemmas.{IsLegal-push, get_push}
use Rattle.ns_calls.proofs.Merges.{merges_are_legal, by_place, at_place, All-take}
use Rattle.ns_kept.specs.Kept.{Remains, whole, closing_of, with_closings, reading, filter_before, is_kept, keep}
use Rattle.ns_kept.specs.Left.{followed_by, left_of, first_entries, Leaves, with_call, Act, made, trimmed, answers_over, calls_in, AreLeft}
use Rattle.ns_kept.proofs.Within.{Within, filter_before-Within}
use Rattle.ns_kept.proofs.ReadLemmas.{reading-whole, with_closings-above}
use Rattle.ns_kept.proofs.Alike.{Alike, reply-alike, answer-alike, out-alike}
use Rattle.ns_kept.proofs.KeptQueries.{alike-within}
use Rattle.ns_kept.proofs.TicketsKept.{tickets-kept, still_open-append}
use Rattle.ns_kept.proofs.WindowsKept.{names_of, windows-kept}
use Rattle.ns_calls.proofs.Induction.{legal-front}
use Rattle.ns_kept.proofs.Again.{kept-within, keep-within, keep-alike}

-- ---- numbers

take-at : (m : ℕ) (xs : List Entry) (n : ℕ) (e : Entry) → slice_get (take m xs) n ≡ Some e → (slice_get xs n ≡ Some e) × (n < m)
take-at zero xs n e at = absurd (cc at)
take-at (suc m) [] n e at = absurd (cc at)
take-at (suc m) (x ∷ xs) zero e at = (at, omega arith)
take-at (suc m) (x ∷ xs) (suc n) e at = (let rest = take-at m xs n e at in (rest.0, (let less = rest.1 in omega (arith, less))))

-- the place in the whole history, and what is before it there
drop-place : (m : ℕ) (xs : List Entry) (j : ℕ) (e : Entry) → slice_get (drop m xs) j ≡ Some e → (p : ℕ) × (slice_get xs p ≡ Some e) × (m ≤ p) × (take p xs ≡ take m xs ++ take j (drop m xs))
drop-place zero xs j e at = (j, at, omega arith, refl)
drop-place (suc m) [] j e at = absurd (cc at)
drop-place (suc m) (x ∷ xs) j e at =
    (let rest = drop-place m xs j e at in (suc rest.0, rest.1, (let le = rest.2 in omega (arith, le)), ap (λ (l : List Entry). x ∷ l) rest.3))

front-below : (m : ℕ) (h : List Entry) → IsNumbered h → AllByRecursion (λ e. nat_le m e.number ≡ false) (take m h)
front-below m h numbered =
    by_place (λ e. nat_le m e.number ≡ false) (take m h)
    (λ n e at.
    let there = take-at m h n e at in
    let is : e.number ≡ n = numbered n e there.0 in
    let less : n < m = there.1 in
    grind (arith, nat_tests))

rest-above : (m : ℕ) (h : List Entry) → IsNumbered h → AllByRecursion (λ e. nat_le m e.number ≡ true) (drop m h)
rest-above m h numbered =
    by_place (λ e. nat_le m e.number ≡ true) (drop m h)
    (λ n e at.
    let there = drop-place m h n e at in
    let is : e.number ≡ there.0 = numbered there.0 e there.1 in
    let le : m ≤ there.0 = there.2 in
    grind (arith, nat_tests))

-- ---- what is read of more entries

with_closings-append : (mark : ℕ) (names : List WindowName) (xs ys : List Entry) → with_closings mark names (xs ++ ys) ≡ with_closings mark names xs ++ with_closings mark names ys
with_closings-append mark names [] ys = refl
with_closings-append mark names (x ∷ xs) ys =
    ap (λ (es : List Entry). x ∷ closing_of mark names x.number (window_in x.call x.reply) ++ es) (with_closings-append mark names xs ys)
    ∙ ap (λ (es : List Entry). x ∷ es) (sym (append_assoc (closing_of mark names x.number (window_in x.call x.reply)) (with_closings mark names xs) (with_closings mark names ys)))

-- ---- a trim, and what came since

abbrev kept_of : List Entry → List Entry
kept_of f = filter_before (is_kept f) f

left-alike : (net : Network) (f ys : List Entry) (mark : ℕ) → IsLegal net (f ++ ys) → AllByRecursion (λ e. nat_le mark e.number ≡ false) f → AllByRecursion (λ e. nat_le mark e.number ≡ true) ys →
    Alike net (with_closings mark (names_of (open_windows f)) (kept_of f ++ ys)) (f ++ ys)
left-alike net f ys mark legal below above =
    let names : List WindowName = names_of (open_windows f) in
    let front : IsLegal net f = legal-front net f ys legal in
    let reads : with_closings mark names (kept_of f ++ ys) ≡ with_closings mark names (kept_of f) ++ ys = with_closings-append mark names (kept_of f) ys ∙ ap (λ es. with_closings mark names (kept_of f) ++ es) (with_closings-above mark names ys above) in
    let windows : open_windows (with_closings mark names (kept_of f ++ ys)) ≡ open_windows (f ++ ys) =
    ap open_windows reads
    ∙ (still_open-append (λ (e : Entry). window_in e.call e.reply) (λ (o : Opening) e. closes o.window e) (with_closings mark names (kept_of f)) ys
    ∙ (ap (λ os. filter (λ (o : Opening). not (is_ended (λ (p : Opening) e. closes p.window e) ys o)) os ++ open_windows ys) (windows-kept net f front mark below)
    ∙ sym (still_open-append (λ (e : Entry). window_in e.call e.reply) (λ (o : Opening) e. closes o.window e) f ys))) in
    let tickets : open_tickets (kept_of f ++ ys) ≡ open_tickets (f ++ ys) =
    still_open-append (λ (e : Entry). asking_in e.call e.reply) ends_ticket (kept_of f) ys
    ∙ (ap (λ ts. filter (λ (t : Ticket). not (is_ended ends_ticket ys t)) ts ++ open_tickets ys) (tickets-kept net f front)
    ∙ sym (still_open-append (λ (e : Entry). asking_in e.call e.reply) ends_ticket f ys)) in
    alike-within net (f ++ ys) legal mark names (kept_of f ++ ys) (kept-within net f ys legal) windows tickets

-- what is left, as it reads
reading-left : (mark : ℕ) (h : List Entry) → reading (left_of mark h) ≡ with_closings mark (names_of (open_windows (take mark h))) (kept_of (take mark h) ++ drop mark h)
reading-left mark h = ap (λ (g : List Entry). with_closings mark (names_of (open_windows g)) (filter_before (is_kept g) (take mark h) ++ drop mark h)) (reading-whole (take mark h))

pub leaves-alike : (net : Network) (h : List Entry) (k : Remains) → Leaves net h k → Alike net (reading k) h
leaves-alike net h k leaves =
    let m : ℕ = k.mark in
    let legal : IsLegal net (take m h ++ drop m h) = rw (take-append-drop m h) leaves.legal in
    rw (ap reading leaves.left ∙ reading-left m h)
    (rw (take-append-drop m h) at (left-alike net (take m h) (drop m h) m legal (front-below m h leaves.numbered) (rest-above m h leaves.numbered)))

pub leaves-answer : (net : Network) (h : List Entry) (k : Remains) → Leaves net h k → (c : Call) → answer net (reading k) c ≡ answer net h c
leaves-answer net h k leaves c = answer-alike net (reading k) h (leaves-alike net h k leaves) c

-- ---- what leaves what

pub whole-leaves : (net : Network) (h : List Entry) → IsLegal net h → IsNumbered h → Leaves net h (whole h)
whole-leaves net h legal numbered = record { legal = legal; numbered = numbered; within = omega arith; left = refl }

numbered_more : (h : List Entry) (e : Entry) → e.number ≡ length h → IsNumbered h → IsNumbered (h ++ e ∷ [])
numbered_more h e number numbered n x at =
    elim (get_push h e n x at) [
      | inl was ↦ numbered n x was
      | inr new ↦ subst (λ (y : Entry). y.number ≡ n) new.1 (number ∙ sym new.0)
    ]

left-push : (m : ℕ) (h : List Entry) (e : Entry) → m ≤ length h → followed_by (left_of m h) (e ∷ []) ≡ left_of m (h ++ e ∷ [])
left-push m h e le = rw (take-append-le m h (e ∷ []) le, drop-append-le m h (e ∷ []) le, append_assoc) refl

pub leaves-more : (net : Network) (h : List Entry) (k : Remains) → Leaves net h k → (c : Call) → Leaves net (calls.with_call net h (length h) c) (with_call net (length h) k c)
leaves-more net h k leaves c =
    let e : Entry = entry_for net h (length h) c in
    let reply : reply_to net (reading k) c ≡ reply_to net h c = reply-alike net (reading k) h (leaves-alike net h k leaves) c in
    let same : entry_for net (reading k) (length h) c ≡ e = ap (λ (r : Reply). let x : Entry = record { number = length h; call = c; reply = r } in x) reply in
    let within : k.mark ≤ length h = leaves.within in
    let longer : length (h ++ e ∷ []) ≡ length h + 1 = length-append h (e ∷ []) in
    record {
      legal = IsLegal-push net h e leaves.legal refl;
      numbered = numbered_more h e refl leaves.numbered;
      within = omega (arith, within, longer);
      left = ap (λ (x : Entry). followed_by k (x ∷ [])) same ∙ (ap (λ (l : Remains). followed_by l (e ∷ [])) leaves.left ∙ left-push k.mark h e within);
    }

entries-within : (net : Network) (h : List Entry) (k : Remains) → Leaves net h k → Within (is_kept h) k.entries h
entries-within net h k leaves =
    let m : ℕ = k.mark in
    let legal : IsLegal net (take m h ++ drop m h) = rw (take-append-drop m h) leaves.legal in
    let is : k.entries ≡ kept_of (take m h) ++ drop m h =
    ap (λ (l : Remains). l.entries) leaves.left ∙ ap (λ (g : List Entry). filter_before (is_kept g) (take m h) ++ drop m h) (reading-whole (take m h)) in
    rw is (rw (take-append-drop m h) at (kept-within net (take m h) (drop m h) legal))

-- a trim of what is left is the trim of the whole history
pub keep-left : (net : Network) (h : List Entry) (k : Remains) → Leaves net h k → (n : ℕ) → keep n k ≡ keep n (whole h)
keep-left net h k leaves n =
    let alike : Alike net (reading k) h = leaves-alike net h k leaves in
    let entries : filter_before (is_kept (reading k)) k.entries ≡ kept_of h = keep-alike net (reading k) h alike k.entries ∙ keep-within h k.entries h (entries-within net h k leaves) in
    rw (entries, alike.windows, reading-whole h) refl

left-all : (h : List Entry) → keep (length h) (whole h) ≡ left_of (length h) h
left-all h = rw (take-length h, drop_all (length h) h (omega arith), append-nil) refl

pub leaves-trim : (net : Network) (h : List Entry) (k : Remains) → Leaves net h k → Leaves net h (keep (length h) k)
leaves-trim net h k leaves = record {
  legal = leaves.legal;
  numbered = leaves.numbered;
  within = omega arith;
  left = keep-left net h k leaves (length h) ∙ left-all h;
}

-- ---- whole runs

pub runs-alike : (net : Network) (acts : List Act) (h : List Entry) (k : Remains) → Leaves net h k → answers_over net (length h) k acts ≡ answers_after net h (calls_in acts)
runs-alike net [] h k leaves = refl
runs-alike net (made c ∷ acts) h k leaves =
    let longer : length (calls.with_call net h (length h) c) ≡ length h + 1 = length-append h (entry_for net h (length h) c ∷ []) in
    ap (λ (a : Answer). a ∷ answers_over net (length h + 1) (with_call net (length h) k c) acts) (leaves-answer net h k leaves c)
    ∙ ap (λ (as_after : List Answer). answer net h c ∷ as_after)
    (ap (λ n. answers_over net n (with_call net (length h) k c) acts) (sym longer)
    ∙ runs-alike net acts (calls.with_call net h (length h) c) (with_call net (length h) k c) (leaves-more net h k leaves c))
runs-alike net (trimmed ∷ acts) h k leaves = runs-alike net acts h (keep (length h) k) (leaves-trim net h k leaves)

pub answers_after_trim : (net : Network) (h : List Entry) → IsLegal net h → IsNumbered h → (c : Call) → answer net (reading (keep (length h) (whole h))) c ≡ answer net h c
answers_after_trim net h legal numbered c = leaves-answer net h (keep (length h) (whole h)) (leaves-trim net h (whole h) (whole-leaves net h legal numbered)) c

-- ---- merges

pub merges-of-left : (net : Network) → IsRoster net → (lists : List (List Entry)) (kept : List Remains) → AreLeft net lists kept → MergesAreLegal net lists
merges-of-left net valid lists kept left =
    merges_are_legal net valid lists
    (λ k h at.
    let each = left k h at in
    record { legal = each.1.2.legal; own = each.0; numbered = each.1.2.numbered })

-- ---- the entries from the mark on

at-append : (xs ys : List Entry) (n : ℕ) (e : Entry) → slice_get (xs ++ ys) n ≡ Some e → (slice_get xs n ≡ Some e) ⊎ ((j : ℕ) × (slice_get ys j ≡ Some e) × (take n (xs ++ ys) ≡ xs ++ take j ys))
at-append [] ys n e at = inr (n, at, refl)
at-append (x ∷ xs) ys zero e at = inl at
at-append (x ∷ xs) ys (suc n) e at =
    elim (at-append xs ys n e at) [
      | inl here ↦ inl here
      | inr there ↦ inr (there.0, there.1, ap (λ (l : List Entry). x ∷ l) there.2)
    ]

Within-passed : (P : Entry → Type 0) (test : Entry → List Entry → Bool) (ks xs : List Entry) → Within test ks xs → AllByRecursion P xs → AllByRecursion P ks
Within-passed P test ks [] within all = subst (AllByRecursion P) (sym within) tt
Within-passed P test ks (x ∷ xs) (inl kept) all = subst (AllByRecursion P) (sym kept.1) (all.0, Within-passed P test kept.0 xs kept.2 all.1)
Within-passed P test ks (x ∷ xs) (inr gone) all = Within-passed P test ks xs gone.1 all.1

differs : (m n : ℕ) → m ≤ n → nat_le m n ≡ false → ⊥
differs m n le is = grind (arith, nat_tests)

-- the place of an entry from the mark on in the whole history; what is read before it tells the same as the entries before that place
record StandsAt (net : Network) (h : List Entry) (before : List Entry) (e : Entry) : Type 0 where
  there : slice_get h e.number ≡ Some e
  alike : Alike net before (take e.number h)

left-place : (net : Network) (h : List Entry) (m : ℕ) → IsLegal net h → IsNumbered h → (n : ℕ) (e : Entry) → slice_get (kept_of (take m h) ++ drop m h) n ≡ Some e → m ≤ e.number →
    StandsAt net h (with_closings m (names_of (open_windows (take m h))) (take n (kept_of (take m h) ++ drop m h))) e
left-place net h m legal numbered n e at le =
    let f : List Entry = take m h in
    let names : List WindowName = names_of (open_windows f) in
    elim (at-append (kept_of f) (drop m h) n e at) [
      | inl old ↦
          (let below : AllByRecursion (λ (x : Entry). nat_le m x.number ≡ false) (kept_of f) = Within-passed (λ (x : Entry). nat_le m x.number ≡ false) (is_kept f) (kept_of f) f (filter_before-Within (is_kept f) f) (front-below m h numbered) in
          absurd (differs m e.number le (at_place (λ (x : Entry). nat_le m x.number ≡ false) (kept_of f) below n e old)))
      | inr new ↦
          (let j : ℕ = new.0 in
          let place = drop-place m h j e new.1 in
          let p : ℕ = place.0 in
          let number : e.number ≡ p = numbered p e place.1 in
          let before : take p h ≡ f ++ take j (drop m h) = place.3 in
          let front : IsLegal net (take p h) = legal-front net (take p h) (drop p h) (subst (IsLegal net) (sym (take-append-drop p h)) legal) in
          let ok : IsLegal net (f ++ take j (drop m h)) = subst (IsLegal net) before front in
          let alike : Alike net (with_closings m names (kept_of f ++ take j (drop m h))) (f ++ take j (drop m h)) =
          left-alike net f (take j (drop m h)) m ok (front-below m h numbered) (All-take (λ (x : Entry). nat_le m x.number ≡ true) j (drop m h) (rest-above m h numbered)) in
          record {
            there = ap (slice_get h) number ∙ place.1;
            alike = subst (λ (i : ℕ). Alike net (with_closings m names (take n (kept_of f ++ drop m h))) (take i h)) (sym number)
                (subst (λ (g : List Entry). Alike net (with_closings m names (take n (kept_of f ++ drop m h))) g) (sym before)
                (subst (λ (es : List Entry). Alike net (with_closings m names es) (f ++ take j (drop m h))) (sym new.2) alike));
          })
    ]

stands-at : (net : Network) (h : List Entry) (k : Remains) → Leaves net h k → (n : ℕ) (e : Entry) → slice_get k.entries n ≡ Some e → k.mark ≤ e.number → StandsAt net h (reading (first_entries n k)) e
stands-at net h k leaves n e at le =
    let m : ℕ = k.mark in
    let f : List Entry = take m h in
    let is : k.entries ≡ kept_of f ++ drop m h = ap (λ (l : Remains). l.entries) leaves.left ∙ ap (λ (g : List Entry). filter_before (is_kept g) f ++ drop m h) (reading-whole f) in
    let reads : reading (first_entries n k) ≡ with_closings m (names_of (open_windows f)) (take n (kept_of f ++ drop m h)) =
    ap (λ (l : Remains). reading (first_entries n l)) leaves.left
    ∙ ap (λ (g : List Entry). with_closings m (names_of (open_windows g)) (take n (filter_before (is_kept g) f ++ drop m h))) (reading-whole f) in
    subst (λ (g : List Entry). StandsAt net h g e) (sym reads)
    (left-place net h m leaves.legal leaves.numbered n e (subst (λ (es : List Entry). slice_get es n ≡ Some e) is at) le)

pub legal-from_mark : (net : Network) (h : List Entry) (k : Remains) → Leaves net h k → (n : ℕ) (e : Entry) → slice_get k.entries n ≡ Some e → k.mark ≤ e.number → e.reply ≡ reply_to net (reading (first_entries n k)) e.call
legal-from_mark net h k leaves n e at le =
    let stands = stands-at net h k leaves n e at le in
    leaves.legal e.number e stands.there ∙ sym (reply-alike net (reading (first_entries n k)) (take e.number h) stands.alike e.call)

pub sent-from_mark : (net : Network) (h : List Entry) (k : Remains) → Leaves net h k → (n : ℕ) (e : Entry) → slice_get k.entries n ≡ Some e → k.mark ≤ e.number →
    (slice_get h e.number ≡ Some e) × (out net (reading (first_entries n k)) e ≡ out net (take e.number h) e)
sent-from_mark net h k leaves n e at le =
    let stands = stands-at net h k leaves n e at le in
    (stands.there, out-alike net (reading (first_entries n k)) (take e.number h) stands.alike e (leaves.legal e.number e stands.there))

-- ---- a history with no open window

pub drained-closed : (net : Network) (h : List Entry) (k : Remains) → Leaves net h k → open_windows (reading k) ≡ [] → (w : WindowName) → closing_count h w ≡ opening_count h w
drained-closed net h k leaves none w =
    let still : open_count h w ≡ 0 = ap (λ (os : List Opening). count_by (λ (o : Opening). same_window o.window w) os) (sym (leaves-alike net h k leaves).windows ∙ none) in
    let sums = (windows_open_once net h leaves.legal).closes w in
    omega (arith, still, sums)

-- ---- numbers of what is left rise

rise-from : (m : ℕ) (xs : List Entry) → ((n : ℕ) (e : Entry) → slice_get xs n ≡ Some e → e.number ≡ m + n) → Rises (map (λ e. e.number) xs)
rise-from m [] each = tt
rise-from m (x ∷ xs) each = (
  above xs (λ n e at.
      let is : e.number ≡ m + suc n = each (suc n) e at in
      let first_is : x.number ≡ m + 0 = each 0 x refl in
      omega (arith, is, first_is)),
  rise-from (suc m) xs (λ n e at. (let is : e.number ≡ m + suc n = each (suc n) e at in omega (arith, is))),
)
  where
    above : (ys : List Entry) → ((n : ℕ) (e : Entry) → slice_get ys n ≡ Some e → x.number < e.number) → AllByRecursion (λ n. x.number < n) (map (λ (e : Entry). e.number) ys)
    above [] holds = tt
    above (y ∷ ys) holds = (holds 0 y refl, above ys (λ n e at. holds (suc n) e at))

numbers-passed : (P : ℕ → Type 0) (test : Entry → List Entry → Bool) (ks xs : List Entry) → Within test ks xs → AllByRecursion P (map (λ (e : Entry). e.number) xs) → AllByRecursion P (map (λ (e : Entry). e.number) ks)
numbers-passed P test ks [] within all = subst (λ (es : List Entry). AllByRecursion P (map (λ (e : Entry). e.number) es)) (sym within) tt
numbers-passed P test ks (x ∷ xs) (inl kept) all = subst (λ (es : List Entry). AllByRecursion P (map (λ (e : Entry). e.number) es)) (sym kept.1) (all.0, numbers-passed P test kept.0 xs kept.2 all.1)
numbers-passed P test ks (x ∷ xs) (inr gone) all = numbers-passed P test ks xs gone.1 all.1

rises-within : (test : Entry → List Entry → Bool) (ks xs : List Entry) → Within test ks xs → Rises (map (λ (e : Entry). e.number) xs) → Rises (map (λ (e : Entry). e.number) ks)
rises-within test ks [] within rises = subst (λ (es : List Entry). Rises (map (λ (e : Entry). e.number) es)) (sym within) tt
rises-within test ks (x ∷ xs) (inl kept) rises =
    subst (λ (es : List Entry). Rises (map (λ (e : Entry). e.number) es)) (sym kept.1) (numbers-passed (λ n. x.number < n) test kept.0 xs kept.2 rises.0, rises-within test kept.0 xs kept.2 rises.1)
rises-within test ks (x ∷ xs) (inr gone) rises = rises-within test ks xs gone.1 rises.1

pub leaves-rise : (net : Network) (h : List Entry) (k : Remains) → Leaves net h k → Rises (map (λ e. e.number) k.entries)
leaves-rise net h k leaves =
    rises-within (is_kept h) k.entries h (entries-within net h k leaves) (rise-from 0 h (λ n e at. (let is : e.number ≡ n = leaves.numbered n e at in omega (arith, is))))

-- ---- the greatest nonces

pub leaves-nonces : (net : Network) (h : List Entry) (k : Remains) → Leaves net h k → (eui : DevEui) → greatest_nonce net (reading k) eui ≡ greatest_nonce net h eui
leaves-nonces net h k leaves = (leaves-alike net h k leaves).nonces
