-- Entries, frames and numbers, as a window comes, changes and goes.
use Rattle.std.proofs.Common.{◌≡◌, ℕ, zero, suc, ◌+◌, ◌-◌, ◌≤◌, ◌<◌, nat_lt, ◌==◌, true, false, not, cond, List, [], ◌∷◌, ◌++◌, length, drop, take, slice_get, option_to_list, Option, None, Some, option_map, IfSome, bytes_eq, refl, sym, ap, subst, ◌∙◌, arith, inl, inr}
use Rattle.std.specs.List.{IsDistinct, slice_set}
use Rattle.std.specs.Map.{lookup, keys_of, values_of}
use Rattle.std.specs.Option.{option_map_or}
use Rattle.std.proofs.lemmas.List.{map-append}
use Rattle.std.proofs.lemmas.List.Sums.{count_by-le-length}
use Rattle.indexmap.specs.IndexMap.{set_value_at}
use Rattle.ns_types.specs.declared.identity.WindowName.{WindowName}
use Rattle.ns_types.specs.declared.heard.Heard.{Heard}
use Rattle.ns_types.specs.Identity.{same_window}
use Rattle.ns_calls.specs.Queries.{first}
use Rattle.ns_calls.specs.Entries.{most_copies}
use Rattle.ns_calls.proofs.LocalLemmas.{bool_tells}
use Rattle.ns_calls.proofs.NameLemmas.{same_window-refl}
use Rattle.ns_windows.specs.declared.window.Window.{Window}
use Rattle.ns_windows.specs.Windows.{is_named, is_of, window_named, window_of_frame, with_copy, with_copy_in, addition, added, count, without, AreApart, AreOfFrames}
use Rattle.ns_windows.specs.Places.{open_of, opened, added_by, window_at, leading, passes_at, AreNamed, Agree, count_in, Holds}
use Rattle.ns_windows.proofs.Passing.{none_found}
use Rattle.ns_windows.proofs.Pairs.{NoTwo-filter}
use Rattle.ns_windows.proofs.Names.{of_one_name, name-alike, apart-push, copied-apart, copy-name, keep_name, keep_frame}
use Rattle.ns_windows.proofs.Frames.{of_one_frame, frame-alike, of_frames-push, of_frames-map}
use Rattle.ns_windows.proofs.Opened.{open-push, open-length, passes-there, found-there, open-changed, open-taken}
use Rattle.ns_windows.proofs.Placed.{Entries, AreOwn, leading-within, entries-length}
use Rattle.ns_windows.proofs.Known.{name_of, found-passes, found-named, mapped, known-push, count-push, known-taken, count-taken, known-map, count-map}

-- ---- values and keys

pub values-set : (es : Entries) (i : ℕ) (o : Option Window) → values_of (set_value_at es i o) ≡ slice_set (values_of es) i o
values-set [] i o = refl
values-set (e ∷ es) zero o = refl
values-set (e ∷ es) (suc i) o = ap (λ os. e.1 ∷ os) (values-set es i o)

keys-set : (es : Entries) (i : ℕ) (o : Option Window) → keys_of (set_value_at es i o) ≡ keys_of es
keys-set [] i o = refl
keys-set (e ∷ es) zero o = refl
keys-set (e ∷ es) (suc i) o = ap (λ ks. e.0 ∷ ks) (keys-set es i o)

length-set : (es : Entries) (i : ℕ) (o : Option Window) → length (set_value_at es i o) ≡ length es
length-set [] i o = refl
length-set (e ∷ es) zero o = refl
length-set (e ∷ es) (suc i) o = ap suc (length-set es i o)

own-set : (es : Entries) (i : ℕ) (w v : Window) → window_at (values_of es) i ≡ Some w → v.name ≡ w.name → AreOwn es → AreOwn (set_value_at es i (Some v))
own-set [] i w v at same own = own
own-set (e ∷ es) zero w v at same own = (same ∙ subst (λ o. IfSome o (λ (u : Window). u.name ≡ e.0)) at own.0, own.1)
own-set (e ∷ es) (suc i) w v at same own = (own.0, own-set es i w v at same own.1)

own-emptied : (es : Entries) (i : ℕ) → AreOwn es → AreOwn (set_value_at es i None)
own-emptied [] i own = own
own-emptied (e ∷ es) zero own = (tt, own.1)
own-emptied (e ∷ es) (suc i) own = (own.0, own-emptied es i own.1)

pub values-push : (es : Entries) (k : WindowName) (o : Option Window) → values_of (es ++ (k, o) ∷ []) ≡ values_of es ++ o ∷ []
values-push es k o = map-append (λ (e : WindowName × Option Window). e.1) es ((k, o) ∷ [])

pub value-at : (es : Entries) (i : ℕ) (e : WindowName × Option Window) → slice_get es i ≡ Some e → slice_get (values_of es) i ≡ Some e.1
value-at [] i e at = absurd (cc at)
value-at (d ∷ es) zero e at = by d (cc at)
  where
    by : (x : WindowName × Option Window) → x ≡ e → Some x.1 ≡ Some e.1
    by x is = ap (λ (y : WindowName × Option Window). Some y.1) is
value-at (d ∷ es) (suc i) e at = value-at es i e at

-- what says the same of each device has the same numbers
pub numbers-same : (old new : List (ℕ × ℕ)) → ((q : ℕ) → lookup (λ k. q == k) new ≡ lookup (λ k. q == k) old) → (k : ℕ) → count_in new k ≡ count_in old k
numbers-same old new same k = ap (λ (o : Option ℕ). option_map_or (λ (n : ℕ). n) o 0) (same k)

pub same-some : (v w : Window) → Some v ≡ Some w → v ≡ w
same-some v w same = cc same

pub opened-push : (es : Entries) (k : WindowName) (w : Window) → opened (es ++ (k, Some w) ∷ []) ≡ opened es ++ w ∷ []
opened-push es k w = ap open_of (values-push es k (Some w)) ∙ open-push (values_of es) w

pub added-is : (o : Option Window) → added_by (option_map addition o) ≡ added o
added-is None = refl
added-is (Some w) =
    elim (bool_tells (nat_lt (length w.copies.items) most_copies)) [
      | inl is ↦ rw is refl
      | inr isnt ↦ rw isnt refl
    ]

-- ---- the first window

pub leading-first : (ps : List (Option Window)) → window_at ps (leading ps) ≡ first (open_of ps)
leading-first [] = refl
leading-first (None ∷ ps) = leading-first ps
leading-first (Some w ∷ ps) = refl

leading-push : (ps : List (Option Window)) (w : Window) → leading (ps ++ Some w ∷ []) ≡ leading ps
leading-push [] w = refl
leading-push (None ∷ ps) w = ap suc (leading-push ps w)
leading-push (Some v ∷ ps) w = refl

leading-changed : (ps : List (Option Window)) (i : ℕ) (w v : Window) → window_at ps i ≡ Some w → leading (slice_set ps i (Some v)) ≡ leading ps
leading-changed [] i w v at = refl
leading-changed (None ∷ ps) zero w v at = absurd (cc at)
leading-changed (None ∷ ps) (suc i) w v at = ap suc (leading-changed ps i w v at)
leading-changed (Some u ∷ ps) zero w v at = refl
leading-changed (Some u ∷ ps) (suc i) w v at = refl

leading-taken : (ps : List (Option Window)) (i : ℕ) (w : Window) → window_at ps i ≡ Some w → leading ps + leading (drop (leading ps) (slice_set ps i None)) ≡ leading (slice_set ps i None)
leading-taken [] i w at = absurd (cc at)
leading-taken (None ∷ ps) zero w at = absurd (cc at)
leading-taken (None ∷ ps) (suc i) w at = omega (arith, leading-taken ps i w at)
leading-taken (Some u ∷ ps) i w at = omega arith

-- ---- the windows of places up to one

pub open-took : (ps : List (Option Window)) (i : ℕ) (o : Option Window) → slice_get ps i ≡ Some o → open_of (take (suc i) ps) ≡ open_of (take i ps) ++ option_to_list o
open-took [] i o at = absurd (cc at)
open-took (None ∷ ps) zero o at = ap (λ (u : Option Window). option_to_list u) (by o at)
  where
    by : (u : Option Window) → Some None ≡ Some u → None ≡ u
    by u is = cc is
open-took (Some v ∷ ps) zero o at = ap (λ (u : Option Window). option_to_list u) (by o at)
  where
    by : (u : Option Window) → Some (Some v) ≡ Some u → Some v ≡ u
    by u is = cc is
open-took (None ∷ ps) (suc i) o at = open-took ps i o at
open-took (Some v ∷ ps) (suc i) o at = ap (λ ws. v ∷ ws) (open-took ps i o at)

-- ---- what is found

module _ (es : Entries) (table : List (List ℕ × WindowName)) (a : Agree es table) where
  pub named-there : (name : WindowName) (i : ℕ) (w : Window) → window_at (values_of es) i ≡ Some w → is_named name w ≡ true → window_named name (opened es) ≡ Some w
  named-there name i w at is = found-there (is_named name) of_one_name (name-alike name) (values_of es) i w at is a.apart_names

  pub framed-there : (frame : List ℕ) (i : ℕ) (w : Window) → window_at (values_of es) i ≡ Some w → is_of frame w ≡ true → window_of_frame frame (opened es) ≡ Some w
  framed-there frame i w at is = found-there (is_of frame) of_one_frame (frame-alike frame) (values_of es) i w at is a.apart_frames

  module _ (frame : List ℕ) (name : WindowName) (at : lookup (λ k. bytes_eq frame k) table ≡ Some name) where
    of-name : (w : Window) × (window_of_frame frame (opened es) ≡ Some w) × (w.name ≡ name)
    of-name = mapped (window_of_frame frame (opened es)) name (sym (a.known frame) ∙ at)

    by-name : window_named name (opened es) ≡ Some of-name.0
    by-name = ap (λ n. window_named n (opened es)) (sym of-name.2) ∙ found-named (is_of frame) (opened es) of-name.0 a.apart_names of-name.1

    -- the window of the name that is known for a frame has that frame
    pub framed-place : (i : ℕ) → passes_at (is_named name) i (values_of es) ≡ true → passes_at (is_of frame) i (values_of es) ≡ true
    framed-place i is =
        let there = passes-there (is_named name) (values_of es) i is in
        let same : Some there.0 ≡ Some of-name.0 = sym (named-there name i there.0 there.1 there.2) ∙ by-name in
        ap (λ o. option_map_or (is_of frame) o false) (there.1 ∙ same) ∙ found-passes (is_of frame) (opened es) of-name.0 of-name.1

    pub framed-somewhere : window_named name (opened es) ≡ None → ⊥
    framed-somewhere none = by (sym none ∙ by-name)
      where
        by : None ≡ Some of-name.0 → ⊥
        by is = absurd (cc is)

-- ---- the whole

module _ (es : Entries) (place : ℕ) (table : List (List ℕ × WindowName)) (numbers : List (ℕ × ℕ)) (h : Holds es place table numbers) where
  -- with the same windows at other places
  pub held-same : (fs : Entries) (p : ℕ) → AreNamed fs → opened fs ≡ opened es → p ≡ leading (values_of fs) → Holds fs p table numbers
  held-same fs p named is start = record {
    agree = record {
      named = named;
      apart_names = subst AreApart (sym is) h.agree.apart_names;
      apart_frames = subst AreOfFrames (sym is) h.agree.apart_frames;
      known = λ q. h.agree.known q ∙ ap (λ ws. option_map name_of (window_of_frame q ws)) (sym is);
    };
    first = start;
    counts = λ k. h.counts k ∙ ap (count (record { 0 = k })) (sym is);
  }

  pub held-cleared : (fs gs : Entries) (p : ℕ) (new_table : List (List ℕ × WindowName)) (new_numbers : List (ℕ × ℕ)) → AreNamed fs → opened fs ≡ opened es → p ≡ leading (values_of fs)
      → gs ≡ fs → new_table ≡ table → ((k : ℕ) → count_in new_numbers k ≡ count_in numbers k) → Holds gs p new_table new_numbers
  held-cleared fs gs p new_table new_numbers named is start same_entries same_table same_numbers =
      let held = held-same fs p named is start in
      subst (λ t. Holds gs p t new_numbers) (sym same_table)
      (subst (λ xs. Holds xs p table new_numbers) (sym same_entries) (record { agree = held.agree; first = held.first; counts = λ k. same_numbers k ∙ held.counts k }))

  -- no number is greater than that of the places
  pub numbers-fit : (fs : Entries) (new_numbers : List (ℕ × ℕ)) (k : ℕ) → opened fs ≡ opened es → length fs < 9223372036854775808 → ((j : ℕ) → count_in new_numbers j ≡ count_in numbers j) → count_in new_numbers k + 1 < 18446744073709551616
  numbers-fit fs new_numbers k is fits same =
      omega (arith, same k, h.counts k, count_by-le-length (λ (w : Window). w.name.eui.0 == k) (opened es), ap length is, open-length (values_of fs), entries-length fs, fits)

  -- with a window more
  pub held-pushed : (w : Window) (fs : Entries) (new_table : List (List ℕ × WindowName)) (new_numbers : List (ℕ × ℕ)) → window_named w.name (opened es) ≡ None → window_of_frame w.frame (opened es) ≡ None
      → AreNamed fs → fs ≡ es ++ (w.name, Some w) ∷ [] → ((q : List ℕ) → lookup (λ k. bytes_eq q k) new_table ≡ cond (bytes_eq w.frame q) (Some w.name) (lookup (λ k. bytes_eq q k) table))
      → ((k : ℕ) → count_in new_numbers k ≡ count_in numbers k + cond (w.name.eui.0 == k) 1 0) → Holds fs place new_table new_numbers
  held-pushed w fs new_table new_numbers new_name new_frame named is writes more =
      let at : values_of fs ≡ values_of es ++ Some w ∷ [] = ap values_of is ∙ values-push es w.name (Some w) in
      let windows : opened fs ≡ opened es ++ w ∷ [] = ap open_of at ∙ open-push (values_of es) w in
      record {
        agree = record {
          named = named;
          apart_names = subst AreApart (sym windows) (apart-push (opened es) w h.agree.apart_names (none_found (is_named w.name) (opened es) new_name));
          apart_frames = subst AreOfFrames (sym windows) (of_frames-push (opened es) w h.agree.apart_frames (none_found (is_of w.frame) (opened es) new_frame));
          known = λ q. writes q ∙ ap (λ o. cond (bytes_eq w.frame q) (Some w.name) o) (h.agree.known q) ∙ sym (known-push q (opened es) w new_frame) ∙ ap (λ ws. option_map name_of (window_of_frame q ws)) (sym windows);
        };
        first = h.first ∙ sym (leading-push (values_of es) w) ∙ ap leading (sym at);
        counts = λ k. more k ∙ ap (λ n. n + cond (w.name.eui.0 == k) 1 0) (h.counts k) ∙ sym (count-push (record { 0 = k }) (opened es) w) ∙ ap (count (record { 0 = k })) (sym windows);
      }

  module _ (i : ℕ) (w : Window) (at : window_at (values_of es) i ≡ Some w) where
    -- with a copy more
    module _ (heard : Heard) (fs : Entries) (is : fs ≡ set_value_at es i (option_map (with_copy heard) (window_at (values_of es) i))) where
      set-is : fs ≡ set_value_at es i (Some (with_copy heard w))
      set-is = is ∙ ap (λ o. set_value_at es i (option_map (with_copy heard) o)) at

      values-is : values_of fs ≡ slice_set (values_of es) i (Some (with_copy heard w))
      values-is = ap values_of set-is ∙ values-set es i (Some (with_copy heard w))

      pub copied-open : opened fs ≡ with_copy_in w.name heard (opened es)
      copied-open = ap open_of values-is ∙ open-changed w.name (with_copy heard) (values_of es) i w at (same_window-refl w.name) h.agree.apart_names

      one : Window → Window
      one v = cond (is_named w.name v) (with_copy heard v) v

      pub held-copied : Holds fs place table numbers
      unfolding one
      held-copied = record {
        agree = record {
          named = record {
            own = subst AreOwn (sym set-is) (own-set es i w (with_copy heard w) at (copy-name heard w) h.agree.named.own);
            apart = subst (IsDistinct same_window) (sym (ap keys_of set-is ∙ keys-set es i (Some (with_copy heard w)))) h.agree.named.apart;
          };
          apart_names = subst AreApart (sym copied-open) (copied-apart w.name heard (opened es) h.agree.apart_names);
          apart_frames = subst AreOfFrames (sym copied-open) (of_frames-map one (keep_frame w.name heard) (opened es) h.agree.apart_frames);
          known = λ q. h.agree.known q ∙ sym (known-map one (keep_name w.name heard) (keep_frame w.name heard) q (opened es)) ∙ ap (λ ws. option_map name_of (window_of_frame q ws)) (sym copied-open);
        };
        first = h.first ∙ sym (leading-changed (values_of es) i w (with_copy heard w) at) ∙ ap leading (sym values-is);
        counts = λ k. h.counts k ∙ sym (count-map one (keep_name w.name heard) (record { 0 = k }) (opened es)) ∙ ap (count (record { 0 = k })) (sym copied-open);
      }

    -- with a window less
    module _ (name : WindowName) (named : is_named name w ≡ true) (fs : Entries) (is : fs ≡ set_value_at es i None) where
      values-left : values_of fs ≡ slice_set (values_of es) i None
      values-left = ap values_of is ∙ values-set es i None

      pub taken-open : opened fs ≡ without name (opened es)
      taken-open = ap open_of values-left ∙ open-taken name (values_of es) i w at named h.agree.apart_names

      pub first-within : place ≤ length fs
      first-within = omega (arith, h.first, leading-within (values_of es), entries-length es, length-set es i None, ap length is)

      pub held-taken : (p : ℕ) (new_table : List (List ℕ × WindowName)) (new_numbers : List (ℕ × ℕ)) → p ≡ place + leading (drop place (values_of fs))
          → ((q : List ℕ) → lookup (λ k. bytes_eq q k) new_table ≡ cond (bytes_eq w.frame q) None (lookup (λ k. bytes_eq q k) table))
          → ((k : ℕ) → count_in new_numbers k ≡ count_in numbers k - cond (name.eui.0 == k) 1 0) → w.name ≡ name → Holds fs p new_table new_numbers
      held-taken p new_table new_numbers start writes less own =
          let there = named-there es table h.agree name i w at named in
          let gone : (k : ℕ) → count (record { 0 = k }) (opened fs) ≡ count (record { 0 = k }) (opened es) - cond (name.eui.0 == k) 1 0 =
          λ k. ap (count (record { 0 = k })) taken-open
          ∙ omega (arith, count-taken (record { 0 = k }) name (opened es) w h.agree.apart_names there)
          ∙ ap (λ (n : WindowName). count (record { 0 = k }) (opened es) - cond (n.eui.0 == k) 1 0) own in
          record {
            agree = record {
              named = record {
                own = subst AreOwn (sym is) (own-emptied es i h.agree.named.own);
                apart = subst (IsDistinct same_window) (sym (ap keys_of is ∙ keys-set es i None)) h.agree.named.apart;
              };
              apart_names = subst AreApart (sym taken-open) (NoTwo-filter of_one_name (λ v. not (is_named name v)) (opened es) h.agree.apart_names);
              apart_frames = subst AreOfFrames (sym taken-open) (NoTwo-filter of_one_frame (λ v. not (is_named name v)) (opened es) h.agree.apart_frames);
              known = λ q. writes q ∙ ap (λ o. cond (bytes_eq w.frame q) None o) (h.agree.known q) ∙ sym (known-taken q name (opened es) w h.agree.apart_names h.agree.apart_frames there)
                  ∙ ap (λ ws. option_map name_of (window_of_frame q ws)) (sym taken-open);
            };
            first = start ∙ ap (λ ps. place + leading (drop place ps)) values-left ∙ ap (λ n. n + leading (drop n (slice_set (values_of es) i None))) h.first
                ∙ leading-taken (values_of es) i w at ∙ ap leading (sym values-left);
            counts = λ k. less k ∙ ap (λ n. n - cond (name.eui.0 == k) 1 0) (h.counts k) ∙ sym (gone k);
          }
