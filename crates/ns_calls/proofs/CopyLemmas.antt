-- The copies of an open window are the first 16 hearings of its frame since it was opened.
use Rattle.std.proofs.Common.{◌≡◌, ◌⊎◌, ℕ, ◌+◌, ◌<◌, ◌≤◌, Bool, true, false, not, cond, nat_lt, List, [], ◌∷◌, ◌++◌, filter, find, map, length, take, min, length-append, Option, None, Some, IfSome, option_map, option_to_list, bytes_eq, refl, sym, ap, subst, ◌∙◌, arith, inl, inr}
use Rattle.ns_calls.proofs.RoundLemmas.{filter-none}
use Rattle.std.specs.List.{AllByRecursion}
use Rattle.std.specs.Option.{option_or, option_and_then}
use Rattle.std.proofs.lemmas.List.{append_assoc, append-nil, take-append-le, take_all, length-take}
use Rattle.std.proofs.lemmas.List.Folds.{find-append}
use Rattle.std.proofs.lemmas.Bool.{false≢true, cond_both, false_from_ne_true}
use Rattle.std.proofs.lemmas.Bool.Decides.{nat_tests}
use Rattle.std.proofs.lemmas.Option.{same_Some}
use Rattle.std.proofs.lemmas.Slice.Eq.{bytes_eq-Decides}
use Rattle.ns_types.specs.declared.identity.WindowName.{WindowName}
use Rattle.ns_types.specs.declared.heard.Heard.{Heard}
use Rattle.ns_types.specs.Cases.{first_case, when}
use Rattle.ns_types.specs.Identity.{same_window, is_first}
use Rattle.ns_secure.specs.Counter.{above, below}
use Rattle.ns_roster.specs.Network.{Network}
use Rattle.ns_calls.specs.declared.answer.Uplink as answer_uplink
use Rattle.ns_calls.specs.declared.call.Call.{Call}
use Rattle.ns_calls.specs.declared.call.Call.TheVariants as call
use Rattle.ns_calls.specs.declared.call.Reply.{Reply}
use Rattle.ns_calls.specs.declared.call.Reply.TheVariants as reply
use Rattle.ns_calls.specs.declared.call.Entry.{Entry}
use Rattle.ns_calls.specs.Entries.{Opening, closes, open_windows, most_copies}
use Rattle.ns_calls.specs.History.{open_window, window_copies, copied}
use Rattle.ns_calls.proofs.Says.{window_in, window_copy_in, opening_of, join-says, answer-says, close-says, opened-is, opening-copy}
use Rattle.ns_calls.specs.Reply.{window_with, window_of, in_round, first_fit, copy_reply, uplink_rule, reply_to, ack_number}
use Rattle.ns_calls.specs.Out.{uplink_of, first_uplink_of, uplink_out, answer}
use Rattle.ns_calls.specs.Legal.{IsLegal}
use Rattle.ns_calls.specs.Open.{IsOpenWindow, hearing_in, hearings, HasJustItsCopies}
use Rattle.ns_calls.proofs.LocalLemmas.{bool_tells}
use Rattle.ns_calls.proofs.Lists.{one_more, says-push, All-option, All-append, All-filter, All-weaker, find-has, find-none, at_some}
use Rattle.ns_calls.proofs.PushLemmas.{open_windows-push, window_copies-push}
use Rattle.ns_calls.proofs.Induction.{legal-front, legal-next}
use Rattle.ns_calls.proofs.UplinkLemmas.{facts_by, uplink-has}
use Rattle.ns_calls.proofs.NameLemmas.{same_window-refl, same_window-eq}
use Rattle.ns_calls.proofs.FreshLemmas.{windows-apart, added, added-other, added-none}
use Rattle.ns_calls.proofs.OpenLemmas.{find-contained, open_window-is}

-- ---- the first so many

-- there is room for one more
take-room : (most : ℕ) (hs cs : List Heard) (x : Heard) → cs ≡ take most hs → length cs + 1 ≤ most → cs ++ x ∷ [] ≡ take most (hs ++ x ∷ [])
take-room most hs cs x is room =
    let long : length cs ≡ min most (length hs) = ap length is ∙ length-take most hs in
    let whole : length (hs ++ x ∷ []) ≤ most = simp length-append (omega (arith, long, room)) in
    ap (λ l. l ++ x ∷ []) (is ∙ take_all most hs (omega (arith, long, room))) ∙ sym (take_all most (hs ++ x ∷ []) whole)

-- there is none
take-full : (most : ℕ) (hs cs : List Heard) (x : Heard) → cs ≡ take most hs → most < length cs + 1 → cs ≡ take most (hs ++ x ∷ [])
take-full most hs cs x is full =
    let long : length cs ≡ min most (length hs) = ap length is ∙ length-take most hs in
    let enough : most ≤ length hs = omega (arith, long, full) in
    is ∙ sym (take-append-le most hs (x ∷ []) enough)

-- ---- what is found while the list changes

-- what is found is still found where it is kept
find-kept : {X : Type 0} (test keep : X → Bool) (xs : List X) (x : X) → find test xs ≡ Some x → keep x ≡ true → find test (filter keep xs) ≡ Some x
find-kept test keep [] x is kept = absurd (cc is)
find-kept {X} test keep (y ∷ ys) x is kept =
    let later = λ (at : find test ys ≡ Some x). find-kept test keep ys x at kept in
    cond_both (keep y) (y ∷ filter keep ys) (filter keep ys) (λ zs. find test zs ≡ Some x)
    (λ _. (elim (test y) as (λ b. cond {A = Option X} b (Some y) (find test ys) ≡ Some x → cond b (Some y) (find test (filter keep ys)) ≡ Some x) [ true ↦ λ at. at | false ↦ later ]) is)
    (λ gone. (elim (test y) as (λ b. cond {A = Option X} b (Some y) (find test ys) ≡ Some x → find test (filter keep ys) ≡ Some x) [
      | true ↦ λ at. absurd (false≢true (sym gone ∙ (ap keep (same_Some y x at) ∙ kept)))
      | false ↦ later
    ]) is)

find-first : {X : Type 0} (test : X → Bool) (xs ys : List X) (x : X) → find test xs ≡ Some x → find test (xs ++ ys) ≡ Some x
find-first {X} test xs ys x is = find-append test xs ys ∙ ap (λ (o : Option X). option_or o (find test ys)) is

-- nothing is found: no element passes
none-passes : {X : Type 0} (test : X → Bool) (xs : List X) → find test xs ≡ None → AllByRecursion (λ x. test x ≡ false) xs
none-passes test [] is = tt
none-passes {X} test (x ∷ xs) is =
    (elim (test x) as (λ b. test x ≡ b → cond {A = Option X} b (Some x) (find test xs) ≡ None → AllByRecursion (λ y. test y ≡ false) (x ∷ xs)) [
      | true ↦ λ _ none. absurd (cc none)
      | false ↦ λ here none. (here, none-passes test xs none)
    ]) refl is

-- an element that passes another test is found by that test, or one before it
found-otherwise : {X : Type 0} (test other : X → Bool) (xs : List X) (x : X) → find test xs ≡ Some x → other x ≡ true → find other xs ≡ None → ⊥
found-otherwise test other xs x is passes none =
    let fails = find-has (λ y. other y ≡ false) test xs (none-passes other xs none) in
    false≢true (sym (at_some (λ y. (other y ≡ false) × (test y ≡ true)) (find test xs) x is fails).0 ∙ passes)

-- ---- an opening

pub opening_is : (c : Call) (r : Reply) (o : Opening) → window_in c r ≡ Some o → (c ≡ call.Uplink o.frame o.heard) × (window_copy_in c r ≡ Some (o.window, o.heard))
opening_is c r o is = (
  at_some (λ (p : Opening). c ≡ call.Uplink p.frame p.heard) (window_in c r) o is (opened-is c r),
  at_some (λ (p : Opening). window_copy_in c r ≡ Some (p.window, p.heard)) (window_in c r) o is (opening-copy c r),
)

same_bytes : (bytes : List ℕ) → bytes_eq bytes bytes ≡ true
same_bytes bytes = (bytes_eq-Decides bytes bytes).1 refl

-- ---- what one call adds

hearings-push : (frame : List ℕ) (es : List Entry) (e : Entry) → hearings frame (es ++ e ∷ []) ≡ hearings frame es ++ option_to_list (hearing_in frame e.call)
hearings-push frame es e = says-push (λ (x : Entry). hearing_in frame x.call) es e

-- the reply opens a window, or adds no copy to w
abbrev Elsewhere : WindowName → List ℕ → Heard → Reply → Type 0
Elsewhere w frame heard r = ((v : WindowName) × (window_in (call.Uplink frame heard) r ≡ Some (opening_of v frame heard)) × (window_copy_in (call.Uplink frame heard) r ≡ Some (v, heard))) ⊎ IfSome (window_copy_in (call.Uplink frame heard) r) (λ x. same_window x.0 w ≡ false)

-- a frame that no open window of the name has adds no copy to it
other_frame : (net : Network) (h : List Entry) (frame : List ℕ) (heard : Heard) (w : WindowName) → AllByRecursion (λ o. same_window o.window w ≡ true → bytes_eq o.frame frame ≡ false) (open_windows h)
    → Elsewhere w frame heard (reply_to net h (call.Uplink frame heard))
other_frame net h frame heard w apart = uplink-has (Elsewhere w frame heard) net h frame (record {
  copied = λ o is room. inr (differs o (at_some (λ (x : Opening). Apart x × (bytes_eq x.frame frame ≡ true)) (window_with h frame) o is (find-has Apart (λ (x : Opening). bytes_eq x.frame frame) (open_windows h) apart)));
  crowded = λ o is full. inr tt;
  opened = λ f none is room. inl (window_of f, refl, refl);
  again = λ f round none is confirmed next room. inl (in_round f round, refl, refl);
  busy = λ recover f is. inr tt;
  old = λ f is. inr tt;
  none = inr tt;
})
  where
    Apart : Opening → Type 0
    Apart o = same_window o.window w ≡ true → bytes_eq o.frame frame ≡ false

    differs : (o : Opening) → Apart o × (bytes_eq o.frame frame ≡ true) → same_window o.window w ≡ false
    differs o both = false_from_ne_true (same_window o.window w) (λ same. false≢true (sym (both.0 same) ∙ both.1))

-- ---- an open window, and what was heard since it was opened

-- whether an open window has the frame of this one
abbrev has_frame : Opening → Opening → Bool
has_frame o x = bytes_eq x.frame o.frame

-- whether a window stays open after an entry
abbrev outlives : Entry → Opening → Bool
outlives e x = not (closes x.window e)

-- whoever has the name of this window is this window
abbrev Only : Opening → Opening → Type 0
Only o x = same_window x.window o.window ≡ true → x ≡ o

record Inv (o : Opening) (g since : List Entry) : Type 0 where
  found : window_with g o.frame ≡ Some o
  only : AllByRecursion (Only o) (open_windows g)
  copies : window_copies g o.window ≡ take most_copies (hearings o.frame since)

-- no second window opens under the name of an open one
name_taken : (net : Network) (g : List Entry) → IsLegal net g → (o : Opening) → window_with g o.frame ≡ Some o → (frame : List ℕ) (heard : Heard) (v : WindowName) → window_in (call.Uplink frame heard) (reply_to net g (call.Uplink frame heard)) ≡ Some (opening_of v frame heard) → same_window v o.window ≡ false
name_taken net g legal o found frame heard v is =
    let none : open_window g v ≡ None = (windows-apart net g legal frame heard v is).name in
    false_from_ne_true (same_window v o.window) (λ same.
    let missing : open_window g o.window ≡ None = subst (λ (x : WindowName). open_window g x ≡ None) (same_window-eq v o.window same) none in
    found-otherwise (λ (x : Opening). bytes_eq x.frame o.frame) (λ (x : Opening). same_window x.window o.window) (open_windows g) o found (same_window-refl o.window) missing)

unchanged : (o : Opening) (g since : List Entry) → Inv o g since → (more : List Heard) (heard : Option Heard) → more ≡ [] → heard ≡ None →
    window_copies g o.window ++ more ≡ take most_copies (hearings o.frame since ++ option_to_list heard)
unchanged o g since inv more heard no_more not_heard =
    ap (λ l. window_copies g o.window ++ l) no_more
    ∙ (append-nil (window_copies g o.window)
    ∙ (inv.copies
    ∙ ap (take most_copies) (sym (append-nil (hearings o.frame since)) ∙ ap (λ (p : Option Heard). hearings o.frame since ++ option_to_list p) (sym not_heard))))

-- a frame of the same bytes is one more copy, while there are fewer than 16
same_frame : (net : Network) (o : Opening) (g since : List Entry) → Inv o g since → (frame : List ℕ) (heard : Heard) → bytes_eq o.frame frame ≡ true →
    window_copies g o.window ++ added o.window (call.Uplink frame heard) (reply_to net g (call.Uplink frame heard)) ≡ take most_copies (hearings o.frame since ++ option_to_list (hearing_in o.frame (call.Uplink frame heard)))
same_frame net o g since inv frame heard same =
    let c : Call = call.Uplink frame heard in
    let is : o.frame ≡ frame = (bytes_eq-Decides o.frame frame).0 same in
    let found : window_with g frame ≡ Some o = subst (λ bytes. window_with g bytes ≡ Some o) is inv.found in
    let copied : reply_to net g c ≡ copy_reply o.window (length (window_copies g o.window)) = ap (λ (p : Option Opening). uplink_rule (facts_by g frame p (first_fit above net g frame) (first_fit below net g frame))) found in
    let heard_it : hearing_in o.frame c ≡ Some heard = ap (λ b. when b heard) same in
    ap (λ r. window_copies g o.window ++ added o.window c r) copied
    ∙ (step (nat_lt (length (window_copies g o.window)) most_copies) refl
    ∙ ap (λ (p : Option Heard). take most_copies (hearings o.frame since ++ option_to_list p)) (sym heard_it))
  where
    step : (b : Bool) → nat_lt (length (window_copies g o.window)) most_copies ≡ b →
        window_copies g o.window ++ added o.window (call.Uplink frame heard) (cond b (reply.Copied o.window (length (window_copies g o.window) + 1)) (reply.Crowded o.window)) ≡ take most_copies (hearings o.frame since ++ heard ∷ [])
    step true fits =
        let less : length (window_copies g o.window) < most_copies = grind (arith, nat_tests, fits) in
        let room : length (window_copies g o.window) + 1 ≤ most_copies = omega (arith, less) in
        ap (λ b. window_copies g o.window ++ map (λ (x : WindowName × Heard). x.1) (cond {A = List (WindowName × Heard)} b ((o.window, heard) ∷ []) [])) (same_window-refl o.window)
        ∙ take-room most_copies (hearings o.frame since) (window_copies g o.window) heard inv.copies room
    step false full =
        let least : most_copies ≤ length (window_copies g o.window) = grind (arith, nat_tests, full) in
        let more : most_copies < length (window_copies g o.window) + 1 = omega (arith, least) in
        append-nil (window_copies g o.window) ∙ take-full most_copies (hearings o.frame since) (window_copies g o.window) heard inv.copies more

another_frame : (net : Network) (o : Opening) (g since : List Entry) → IsLegal net g → Inv o g since → (frame : List ℕ) (heard : Heard) → bytes_eq o.frame frame ≡ false →
    added o.window (call.Uplink frame heard) (reply_to net g (call.Uplink frame heard)) ≡ []
another_frame net o g since legal inv frame heard differs =
    elim (other_frame net g frame heard o.window
    (All-weaker (λ (x : Opening). same_window x.window o.window ≡ true → x ≡ o) (λ (x : Opening). same_window x.window o.window ≡ true → bytes_eq x.frame frame ≡ false)
    (λ x only same. ap (λ (y : Opening). bytes_eq y.frame frame) (only same) ∙ differs) (open_windows g) inv.only)) [
      | inl opens ↦ added-other o.window (call.Uplink frame heard) (reply_to net g (call.Uplink frame heard)) opens.0 heard opens.2 (name_taken net g legal o inv.found frame heard opens.0 opens.1)
      | inr elsewhere ↦
          (let copy : Option (WindowName × Heard) = window_copy_in (call.Uplink frame heard) (reply_to net g (call.Uplink frame heard)) in
          ap (map (λ (x : WindowName × Heard). x.1)) (filter-none (λ (x : WindowName × Heard). same_window x.0 o.window) (option_to_list copy) (All-option (λ (x : WindowName × Heard). same_window x.0 o.window ≡ false) copy elsewhere)))
    ]

copies_now : (net : Network) (o : Opening) (g since : List Entry) → IsLegal net g → Inv o g since → (c : Call) →
    window_copies g o.window ++ added o.window c (reply_to net g c) ≡ take most_copies (hearings o.frame since ++ option_to_list (hearing_in o.frame c))
copies_now net o g since legal inv (call.Join t heard) = let c = call.Join t heard in unchanged o g since inv (added o.window c (reply_to net g c)) None (added-none o.window c (reply_to net g c) (join-says (λ s. copied s ≡ None) t heard refl refl refl (reply_to net g c))) refl
copies_now net o g since legal inv (call.JoinReply t x) = let c = call.JoinReply t x in unchanged o g since inv (added o.window c (reply_to net g c)) None (added-none o.window c (reply_to net g c) (answer-says (λ s. copied s ≡ None) t x (λ n. refl) refl refl (reply_to net g c))) refl
copies_now net o g since legal inv (call.Close w) = let c = call.Close w in unchanged o g since inv (added o.window c (reply_to net g c)) None (added-none o.window c (reply_to net g c) (close-says (λ s. copied s ≡ None) w (λ ack. refl) refl (reply_to net g c))) refl
copies_now net o g since legal inv (call.Uplink frame heard) =
    elim (bool_tells (bytes_eq o.frame frame)) [
      | inl same ↦ same_frame net o g since inv frame heard same
      | inr differs ↦
          unchanged o g since inv (added o.window (call.Uplink frame heard) (reply_to net g (call.Uplink frame heard))) (hearing_in o.frame (call.Uplink frame heard)) (another_frame net o g since legal inv frame heard differs)
          (ap (λ b. when b heard) differs)
    ]

-- an entry that opens a window is the answer to the uplink that opens it
opens_so : (net : Network) (g : List Entry) (e : Entry) (o : Opening) → e.reply ≡ reply_to net g e.call → window_in e.call e.reply ≡ Some o → e.call ≡ call.Uplink o.frame o.heard
    → window_in (call.Uplink o.frame o.heard) (reply_to net g (call.Uplink o.frame o.heard)) ≡ Some o
opens_so net g e o is says uplink = ap (λ (c : Call). window_in c (reply_to net g c)) (sym uplink) ∙ (ap (window_in e.call) (sym is) ∙ says)

-- the window stays open
stays : (net : Network) (o : Opening) (g since : List Entry) (e : Entry) → IsLegal net g → e.reply ≡ reply_to net g e.call → closes o.window e ≡ false → Inv o g since → Inv o (g ++ e ∷ []) (since ++ e ∷ [])
stays net o g since e legal is not_closed inv = record {
  found = ap (find (has_frame o)) (open_windows-push g e) ∙ find-first (has_frame o) (filter (outlives e) (open_windows g)) (option_to_list (window_in e.call e.reply)) o (find-kept (has_frame o) (outlives e) (open_windows g) o inv.found (ap not not_closed));
  only = subst (AllByRecursion (Only o)) (sym (open_windows-push g e)) (All-append (Only o) (filter (outlives e) (open_windows g)) (option_to_list (window_in e.call e.reply)) (All-filter (Only o) (outlives e) (open_windows g) inv.only) (new (window_in e.call e.reply) refl));
  copies =
      window_copies-push g e o.window
      ∙ (ap (λ r. window_copies g o.window ++ added o.window e.call r) is
      ∙ (copies_now net o g since legal inv e.call
      ∙ ap (take most_copies) (sym (hearings-push o.frame since e))));
}
  where
    new : (p : Option Opening) → window_in e.call e.reply ≡ p → AllByRecursion (λ x. same_window x.window o.window ≡ true → x ≡ o) (option_to_list p)
    new None says = tt
    new (Some x) says =
        let opening = opening_is e.call e.reply x says in
        let replied = opens_so net g e x is says opening.0 in
        (λ same. absurd (false≢true (sym (name_taken net g legal o inv.found x.frame x.heard x.window replied) ∙ same)), tt)

-- the window is opened
begins : (net : Network) (o : Opening) (g : List Entry) (e : Entry) → IsLegal net g → e.reply ≡ reply_to net g e.call → window_in e.call e.reply ≡ Some o → Inv o (g ++ e ∷ []) (e ∷ [])
begins net o g e legal is says =
    let opening = opening_is e.call e.reply o says in
    let new = windows-apart net g legal o.frame o.heard o.window (opens_so net g e o is says opening.0) in
    let now : open_windows (g ++ e ∷ []) ≡ filter (outlives e) (open_windows g) ++ o ∷ [] = open_windows-push g e ∙ ap (λ (p : Option Opening). filter (outlives e) (open_windows g) ++ option_to_list p) says in
    let apart : find (has_frame o) (filter (outlives e) (open_windows g)) ≡ None = find-none (has_frame o) (filter (outlives e) (open_windows g)) (All-filter (λ x. has_frame o x ≡ false) (outlives e) (open_windows g) (none-passes (has_frame o) (open_windows g) new.frame_apart)) in
    let no_name : AllByRecursion (Only o) (open_windows g) =
    All-weaker (λ (x : Opening). same_window x.window o.window ≡ false) (Only o) (λ x other same. absurd (false≢true (sym other ∙ same))) (open_windows g) (none-passes (λ (x : Opening). same_window x.window o.window) (open_windows g) new.name) in
    record {
      found =
          ap (find (has_frame o)) now
          ∙ (find-append (has_frame o) (filter (outlives e) (open_windows g)) (o ∷ [])
          ∙ (ap (λ (p : Option Opening). option_or p (find (has_frame o) (o ∷ []))) apart
          ∙ ap (λ b. cond {A = Option Opening} b (Some o) None) (same_bytes o.frame)));
      only = subst (AllByRecursion (Only o)) (sym now) (All-append (Only o) (filter (outlives e) (open_windows g)) (o ∷ []) (All-filter (Only o) (outlives e) (open_windows g) no_name) (λ _. refl, tt));
      copies =
          window_copies-push g e o.window
          ∙ (ap (λ cs. cs ++ added o.window e.call e.reply) new.copies
          ∙ (ap (λ p. map (λ (x : WindowName × Heard). x.1) (filter (λ (x : WindowName × Heard). same_window x.0 o.window) (option_to_list p))) opening.1
          ∙ (ap (λ b. map (λ (x : WindowName × Heard). x.1) (cond {A = List (WindowName × Heard)} b ((o.window, o.heard) ∷ []) [])) (same_window-refl o.window)
          ∙ ap (take most_copies) (sym (one_more (λ (x : Entry). hearing_in o.frame x.call) e ∙ (ap (λ (c : Call). option_to_list (hearing_in o.frame c)) opening.0 ∙ ap (λ b. option_to_list (when b o.heard)) (same_bytes o.frame)))))));
    }

copies_on : (net : Network) (o : Opening) (g since ys : List Entry) → IsLegal net (g ++ ys) → Inv o g since → AllByRecursion (λ e. closes o.window e ≡ false) ys → window_copies (g ++ ys) o.window ≡ take most_copies (hearings o.frame (since ++ ys))
copies_on net o g since [] legal inv is_open =
    ap (λ l. window_copies l o.window) (append-nil g) ∙ (inv.copies ∙ ap (λ l. take most_copies (hearings o.frame l)) (sym (append-nil since)))
copies_on net o g since (e ∷ ys) legal inv is_open =
    let next = stays net o g since e (legal-front net g (e ∷ ys) legal) (legal-next net g ys e legal) is_open.0 inv in
    let same : (g ++ e ∷ []) ++ ys ≡ g ++ e ∷ ys = append_assoc g (e ∷ []) ys in
    let whole = copies_on net o (g ++ e ∷ []) (since ++ e ∷ []) ys (subst (IsLegal net) (sym same) legal) next is_open.1 in
    ap (λ l. window_copies l o.window) (sym same) ∙ (whole ∙ ap (λ l. take most_copies (hearings o.frame l)) (append_assoc since (e ∷ []) ys))

pub open_copies : (net : Network) (h : List Entry) → IsLegal net h → (o : Opening) (is_open : IsOpenWindow h o) → window_copies h o.window ≡ take most_copies (hearings o.frame (is_open.entry ∷ is_open.after))
open_copies net h legal o is_open =
    let cut : h ≡ (is_open.before ++ is_open.entry ∷ []) ++ is_open.after = is_open.is ∙ sym (append_assoc is_open.before (is_open.entry ∷ []) is_open.after) in
    let whole : IsLegal net (is_open.before ++ is_open.entry ∷ is_open.after) = subst (IsLegal net) is_open.is legal in
    let inv = begins net o is_open.before is_open.entry (legal-front net is_open.before (is_open.entry ∷ is_open.after) whole) (legal-next net is_open.before is_open.after is_open.entry whole) is_open.opens in
    ap (λ l. window_copies l o.window) cut ∙ copies_on net o (is_open.before ++ is_open.entry ∷ []) (is_open.entry ∷ []) is_open.after (subst (IsLegal net) cut legal) inv is_open.not_closed

-- ---- what a closing hands out

closed_copies : (net : Network) (h : List Entry) → IsLegal net h → (w : WindowName) (u : answer_uplink.Uplink) (p : Option Opening) → open_window h w ≡ p
    → uplink_out h (call.Close w) (first_case (option_map (λ (o : Opening). reply.Closed w (ack_number h o)) p ∷ []) reply.NoWindow) ≡ Some u → HasJustItsCopies h u
closed_copies net h legal w u None found is = absurd (cc is)
closed_copies net h legal w u (Some o) found is =
    let same : uplink_of h o ≡ u = handed_out (is_first o.window) (sym (ap (option_and_then (first_uplink_of h)) found) ∙ is) in
    let is_open : IsOpenWindow h o = open_window-is h o (find-contained (λ (x : Opening). same_window x.window w) (open_windows h) o found) in
    record {
      opening = o;
      window = ap (λ (x : answer_uplink.Uplink). x.window) same;
      is_open = is_open;
      copies = ap (λ (x : answer_uplink.Uplink). x.copies.items) (sym same) ∙ open_copies net h legal o is_open;
    }
  where
    handed_out : (b : Bool) → when b (uplink_of h o) ≡ Some u → uplink_of h o ≡ u
    handed_out true now = same_Some (uplink_of h o) u now
    handed_out false now = absurd (cc now)

pub just_its_copies : (net : Network) (h : List Entry) → IsLegal net h → (c : Call) (u : answer_uplink.Uplink) → (answer net h c).uplink ≡ Some u → HasJustItsCopies h u
just_its_copies net h legal (call.Close w) u is = closed_copies net h legal w u (open_window h w) refl is
just_its_copies net h legal (call.Uplink frame heard) u is = absurd (cc is)
just_its_copies net h legal (call.Join t heard) u is = absurd (cc is)
just_its_copies net h legal (call.JoinReply t x) u is = absurd (cc is)
