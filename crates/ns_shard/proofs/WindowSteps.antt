-- How the open windows change with one more entry.
use Rattle.std.proofs.Common.{◌≡◌, ℕ, ◌<◌, ◌==◌, Bool, true, false, not, cond, nat_lt, List, [], ◌∷◌, ◌++◌, length, filter, map, Option, None, Some, option_map, option_to_list, refl, sym, ap, ap₂, subst, ◌∙◌, inl, inr}
use Rattle.std.specs.Prelude.{IsSome}
use Rattle.std.specs.List.{AllByRecursion}
use Rattle.std.proofs.lemmas.List.{append-nil, map-append}
use Rattle.ns_types.specs.declared.identity.WindowName.{WindowName}
use Rattle.ns_types.specs.declared.heard.Heard.{Heard}
use Rattle.ns_types.specs.Identity.{same_window}
use Rattle.ns_calls.specs.declared.call.JoinAns.{JoinAns}
use Rattle.ns_calls.specs.declared.call.Call.TheVariants as call
use Rattle.ns_calls.specs.declared.call.Reply.TheVariants as reply
use Rattle.ns_calls.specs.declared.call.Entry.{Entry}
use Rattle.ns_calls.proofs.Says as history
use Rattle.ns_calls.specs.Entries.{Opening, closes, open_windows, most_copies}
use Rattle.ns_calls.specs.History.{open_window, window_count, window_copies, session_join}
use Rattle.ns_calls.proofs.Says.{closing_in, window_copy_in}
use Rattle.ns_calls.proofs.LocalLemmas.{bool_tells, All-each}
use Rattle.ns_calls.proofs.Lists.{All-filter, All-weaker, filter-all}
use Rattle.ns_calls.proofs.PushLemmas.{open_windows-push, window_copies-push}
use Rattle.ns_calls.proofs.KeyLemmas.{session_join-stays}
use Rattle.ns_calls.proofs.NameLemmas.{same_window-refl, same_window-eq}
use Rattle.ns_windows.specs.declared.window.Window.{Window}
use Rattle.ns_windows.specs.Windows.{with_copy, with_copy_in, without, is_named, is_of, window_named, window_of_frame, count}
use Rattle.ns_types.specs.declared.identity.DevEui.{DevEui}
use Rattle.ns_calls.specs.Reply as plain
use Rattle.ns_shard.specs.Tables.{window_from, window_of_opening, windows_in}
use Rattle.ns_shard.proofs.Maps.{map-same, filter-map, map-map, find-map, count-map, some-of}
use Rattle.std.proofs.lemmas.List.Elements.{filter_agree}
use Rattle.ns_windows.proofs.Names.{same_window-sym}
use Rattle.std.proofs.lemmas.Bool.{lt-ltb}

-- the session of each open window has an answer
abbrev pub WindowsHaveJoins : List Entry → Type 0
WindowsHaveJoins h = AllByRecursion (λ o. IsSome (session_join h o.window.eui o.window.session)) (open_windows h)

-- the copies that an entry adds to a window
abbrev pub copies_by : Entry → WindowName → List Heard
copies_by e w = map (λ c. c.1) (filter (λ c. same_window c.0 w) (option_to_list (window_copy_in e.call e.reply)))

-- an open window after one more entry
pub window-push : (h : List Entry) (e : Entry) (o : Opening) → IsSome (session_join h o.window.eui o.window.session) →
    window_of_opening (h ++ e ∷ []) o ≡ window_from o (window_copies h o.window ++ copies_by e o.window) (session_join h o.window.eui o.window.session)
window-push h e o has =
    let (join, is) = some-of (session_join h o.window.eui o.window.session) has in
    ap₂ (window_from o) (window_copies-push h e o.window) (session_join-stays h e o.window.eui o.window.session join is ∙ sym is)

-- the windows that were open, where the entry closes none
closes-none : (h : List Entry) (e : Entry) → closing_in e.call e.reply ≡ None → filter (λ o. not (closes o.window e)) (open_windows h) ≡ open_windows h
closes-none h e none =
    filter_agree (λ (o : Opening). not (closes o.window e)) (λ _. true) (λ o. ap (λ c. not (Rattle.std.specs.Option.option_map_or (λ x. same_window x.window o.window) c false)) none) (open_windows h)
    ∙ filter-all (open_windows h)

-- what is open, where the entry closes and opens nothing
still-open : (h : List Entry) (e : Entry) → closing_in e.call e.reply ≡ None → history.window_in e.call e.reply ≡ None → open_windows (h ++ e ∷ []) ≡ open_windows h
still-open h e closes_none opens_none =
    open_windows-push h e ∙ (ap₂ (λ os o. os ++ option_to_list o) (closes-none h e closes_none) opens_none ∙ append-nil (open_windows h))

-- a window to which an entry adds no copy
window-stays : (h : List Entry) (e : Entry) (o : Opening) → IsSome (session_join h o.window.eui o.window.session) → copies_by e o.window ≡ [] → window_of_opening (h ++ e ∷ []) o ≡ window_of_opening h o
window-stays h e o has none =
    window-push h e o has
    ∙ ap (λ hs. window_from o hs (session_join h o.window.eui o.window.session)) (ap (λ hs. window_copies h o.window ++ hs) none ∙ append-nil (window_copies h o.window))

-- the open windows, where it adds no copy to any
windows-stay : (h : List Entry) (e : Entry) → WindowsHaveJoins h → ((w : WindowName) → copies_by e w ≡ []) → AllByRecursion (λ o. window_of_opening (h ++ e ∷ []) o ≡ window_of_opening h o) (open_windows h)
windows-stay h e joined none =
    All-weaker (λ (o : Opening). IsSome (session_join h o.window.eui o.window.session)) (λ (o : Opening). window_of_opening (h ++ e ∷ []) o ≡ window_of_opening h o)
    (λ o has. window-stays h e o has (none o.window)) (open_windows h) joined

-- the copies that an entry adds where it adds one
one-copy : (e : Entry) (w : WindowName) (heard : Heard) → window_copy_in e.call e.reply ≡ Some (w, heard) → (v : WindowName) → copies_by e v ≡ cond (same_window w v) (heard ∷ []) []
one-copy e w heard is v =
    ap (λ c. map (λ (x : WindowName × Heard). x.1) (filter (λ (x : WindowName × Heard). same_window x.0 v) (option_to_list c))) is
    ∙ elim (same_window w v) as (λ b. map (λ (x : WindowName × Heard). x.1) (cond {A = List (WindowName × Heard)} b ((w, heard) ∷ []) []) ≡ cond b (heard ∷ []) []) [ true ↦ refl | false ↦ refl ]

-- an entry that opens, closes and copies nothing leaves the windows
pub windows-quiet : (h : List Entry) (e : Entry) → WindowsHaveJoins h → closing_in e.call e.reply ≡ None → history.window_in e.call e.reply ≡ None → window_copy_in e.call e.reply ≡ None →
    windows_in (h ++ e ∷ []) ≡ windows_in h
windows-quiet h e joined closes_none opens_none copies_none =
    ap (map (window_of_opening (h ++ e ∷ []))) (still-open h e closes_none opens_none)
    ∙ map-same (window_of_opening (h ++ e ∷ [])) (window_of_opening h) (open_windows h) (windows-stay h e joined none)
  where
    none : (w : WindowName) → copies_by e w ≡ []
    none w = ap (λ c. map (λ (x : WindowName × Heard). x.1) (filter (λ (x : WindowName × Heard). same_window x.0 w) (option_to_list c))) copies_none

-- a copy of an open window that has room is one more copy of it
pub windows-copied : (h : List Entry) (e : Entry) (w : WindowName) (heard : Heard) → WindowsHaveJoins h → closing_in e.call e.reply ≡ None → history.window_in e.call e.reply ≡ None →
    window_copy_in e.call e.reply ≡ Some (w, heard) → length (window_copies h w) < most_copies → windows_in (h ++ e ∷ []) ≡ with_copy_in w heard (windows_in h)
windows-copied h e w heard joined closes_none opens_none copies_is room =
    ap (map (window_of_opening (h ++ e ∷ []))) (still-open h e closes_none opens_none)
    ∙ (map-same (window_of_opening (h ++ e ∷ [])) (λ (o : Opening). change (window_of_opening h o)) (open_windows h)
    (All-weaker (λ (o : Opening). IsSome (session_join h o.window.eui o.window.session)) (λ (o : Opening). window_of_opening (h ++ e ∷ []) o ≡ change (window_of_opening h o)) same (open_windows h) joined)
    ∙ sym (map-map (window_of_opening h) change (open_windows h)))
  where
    change : Window → Window
    change x = cond (is_named w x) (with_copy heard x) x

    has_room : (v : WindowName) → v ≡ w → nat_lt (length (window_copies h v)) most_copies ≡ true
    has_room v is = lt-ltb (length (window_copies h v)) most_copies (subst (λ u. length (window_copies h u) < most_copies) (sym is) room)

    same : (o : Opening) → IsSome (session_join h o.window.eui o.window.session) → window_of_opening (h ++ e ∷ []) o ≡ change (window_of_opening h o)
    same o has =
        let join : Option JoinAns = session_join h o.window.eui o.window.session in
        let here : List Heard = window_copies h o.window in
        window-push h e o has
        ∙ (ap (λ hs. window_from o (here ++ hs) join) (one-copy e w heard copies_is o.window ∙ ap (λ b. cond {A = List Heard} b (heard ∷ []) []) (same_window-sym w o.window))
        ∙ elim (bool_tells (same_window o.window w)) [
          | inl is ↦ rw (is, has_room o.window (same_window-eq o.window w is))
          | inr differs ↦ rw (differs, append-nil here)
        ])

-- a closing takes the window out
pub windows-closed : (h : List Entry) (e : Entry) (w : WindowName) (ack : Option ℕ) → WindowsHaveJoins h → e.call ≡ call.Close w → e.reply ≡ reply.Closed w ack →
    windows_in (h ++ e ∷ []) ≡ without w (windows_in h)
windows-closed h e w ack joined call_is reply_is =
    ap (map (window_of_opening (h ++ e ∷ []))) open_is
    ∙ (map-same (window_of_opening (h ++ e ∷ [])) (window_of_opening h) (filter stays (open_windows h))
    (All-filter (λ (o : Opening). window_of_opening (h ++ e ∷ []) o ≡ window_of_opening h o) stays (open_windows h) (windows-stay h e joined none))
    ∙ sym (filter-map (window_of_opening h) (λ (x : Window). not (is_named w x)) (open_windows h)))
  where
    stays : Opening → Bool
    stays o = not (same_window o.window w)

    open_is : open_windows (h ++ e ∷ []) ≡ filter stays (open_windows h)
    open_is =
        open_windows-push h e
        ∙ (ap₂ (λ os o. os ++ option_to_list o)
        (filter_agree (λ (o : Opening). not (closes o.window e)) stays
        (λ o. ap not (ap₂ (λ c r. Rattle.std.specs.Option.option_map_or (λ x. same_window x.window o.window) (closing_in c r) false) call_is reply_is ∙ same_window-sym w o.window)) (open_windows h))
        (ap₂ history.window_in call_is reply_is)
        ∙ append-nil (filter stays (open_windows h)))

    none : (v : WindowName) → copies_by e v ≡ []
    none v = ap₂ (λ c r. map (λ (x : WindowName × Heard). x.1) (filter (λ (x : WindowName × Heard). same_window x.0 v) (option_to_list (window_copy_in c r)))) call_is reply_is

-- an opening of a name that never opened puts a window with its one copy at the end
pub windows-opened : (h : List Entry) (e : Entry) (o : Opening) → WindowsHaveJoins h → IsSome (session_join h o.window.eui o.window.session) → closing_in e.call e.reply ≡ None →
    history.window_in e.call e.reply ≡ Some o → window_copy_in e.call e.reply ≡ Some (o.window, o.heard) → window_copies h o.window ≡ [] → AllByRecursion (λ x. same_window x.window o.window ≡ false) (open_windows h) →
    windows_in (h ++ e ∷ []) ≡ windows_in h ++ window_from o (o.heard ∷ []) (session_join h o.window.eui o.window.session) ∷ []
windows-opened h e o joined has closes_none opens_is copies_is no_copies apart =
    ap (map (window_of_opening (h ++ e ∷ []))) (open_windows-push h e ∙ ap₂ (λ os x. os ++ option_to_list x) (closes-none h e closes_none) opens_is)
    ∙ (map-append (window_of_opening (h ++ e ∷ [])) (open_windows h) (o ∷ [])
    ∙ ap₂ (λ ws w. ws ++ w ∷ []) (map-same (window_of_opening (h ++ e ∷ [])) (window_of_opening h) (open_windows h) (all_same (open_windows h) joined apart)) new)
  where
    told : (v : WindowName) (b : Bool) → same_window o.window v ≡ b → copies_by e v ≡ cond b (o.heard ∷ []) []
    told v b is = one-copy e o.window o.heard copies_is v ∙ ap (λ c. cond {A = List Heard} c (o.heard ∷ []) []) is

    all_same : (os : List Opening) → AllByRecursion (λ x. IsSome (session_join h x.window.eui x.window.session)) os → AllByRecursion (λ x. same_window x.window o.window ≡ false) os →
        AllByRecursion (λ x. window_of_opening (h ++ e ∷ []) x ≡ window_of_opening h x) os
    all_same [] joins differ = tt
    all_same (x ∷ xs) joins differ =
        (window-stays h e x joins.0 (told x.window false (same_window-sym o.window x.window ∙ differ.0)), all_same xs joins.1 differ.1)

    new : window_of_opening (h ++ e ∷ []) o ≡ window_from o (o.heard ∷ []) (session_join h o.window.eui o.window.session)
    new =
        window-push h e o has
        ∙ ap₂ (λ before more. window_from o (before ++ more) (session_join h o.window.eui o.window.session)) no_copies (told o.window true (same_window-refl o.window))

-- ---- what is asked of the windows

pub windows-framed : (h : List Entry) (frame : List ℕ) → window_of_frame frame (windows_in h) ≡ option_map (window_of_opening h) (plain.window_with h frame)
windows-framed h frame = find-map (window_of_opening h) (is_of frame) (open_windows h)

pub windows-named : (h : List Entry) (w : WindowName) → window_named w (windows_in h) ≡ option_map (window_of_opening h) (open_window h w)
windows-named h w = find-map (window_of_opening h) (is_named w) (open_windows h)

pub windows-count : (h : List Entry) (eui : DevEui) → count eui (windows_in h) ≡ window_count h eui
windows-count h eui = count-map (window_of_opening h) (λ (w : Window). w.name.eui.0 == eui.0) (open_windows h)

-- a window that is full takes no copy
pub copied-full : (h : List Entry) (w : WindowName) (heard : Heard) → nat_lt (length (window_copies h w)) most_copies ≡ false → with_copy_in w heard (windows_in h) ≡ windows_in h
copied-full h w heard full =
    map-map (window_of_opening h) change (open_windows h)
    ∙ map-same (λ (o : Opening). change (window_of_opening h o)) (window_of_opening h) (open_windows h) (All-each (λ (o : Opening). change (window_of_opening h o) ≡ window_of_opening h o) same (open_windows h))
  where
    change : Window → Window
    change x = cond (is_named w x) (with_copy heard x) x

    same : (o : Opening) → change (window_of_opening h o) ≡ window_of_opening h o
    same o =
        elim (bool_tells (same_window o.window w)) [
          | inl is ↦
              (let none : nat_lt (length (window_copies h o.window)) most_copies ≡ false = ap (λ v. nat_lt (length (window_copies h v)) most_copies) (same_window-eq o.window w is) ∙ full in
              rw (is, none))
          | inr differs ↦ rw differs
        ]
