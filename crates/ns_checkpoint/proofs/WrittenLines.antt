-- Lines written one after the other.
use Rattle.std.proofs.Common.{◌≡◌, ℕ, ◌+◌, ◌<◌, ◌≤◌, List, [], ◌∷◌, ◌++◌, length, take, get_or, map, flat_map, Option, refl, sym, ap, subst, ◌∙◌, append_assoc, append-nil}
use Rattle.std.specs.Io.KnownBytes.{Appends}
use Rattle.std.proofs.KnownBytes.{Appends-nil, Appends-trans}
use Rattle.std.proofs.lemmas.Grind.{flat_map-append}
use Rattle.std.proofs.lemmas.List.{map-append, take_more, take_all}
use Rattle.ns_aes_cmac.specs.CmacState.{CmacState, state_of}
use Rattle.ns_types.specs.declared.heard.Heard.{Heard}
use Rattle.ns_sessions.specs.declared.ticket.OpenTicket.{OpenTicket}
use Rattle.ns_windows.specs.declared.window.Window.{Window}
use Rattle.ns_checkpoint.specs.declared.tables.Checkpoint.{Checkpoint}
use Rattle.ns_checkpoint.specs.declared.tables.DeviceTable.{DeviceTable}
use Rattle.ns_checkpoint.specs.declared.tables.Tables.{Tables}
use Rattle.ns_checkpoint.specs.Text.{sum_key, checksum, lines_text, head_line, shard_line, device_line, ticket_line, window_line, copy_line, end_line, device_lines, window_lines, tables_lines, shards_lines, checkpoint_text}
use Rattle.ns_checkpoint.proofs.Shards.{shards-taken}
use Rattle.ns_checkpoint.specs.Written.{HasWritten}
use Rattle.ns_checkpoint.proofs.ReadLines.{text-append}

pub written-none : (a : Option (List ℕ)) (x : CmacState) → HasWritten a a x x []
written-none a x = record { text = Appends-nil a; sum = λ text is. is ∙ ap (state_of sum_key) (sym (append-nil text)) }

pub written-then : (a b c : Option (List ℕ)) (x y z : CmacState) (ls ms : List (List ℕ)) → HasWritten a b x y ls → HasWritten b c y z ms → HasWritten a c x z (ls ++ ms)
written-then a b c x y z ls ms p q = record {
  text = subst (Appends a c) (sym (text-append ls ms)) (Appends-trans a b c (lines_text ls) (lines_text ms) p.text q.text);
  sum = λ text is.
      q.sum (text ++ lines_text ls) (p.sum text is)
      ∙ ap (state_of sum_key) (append_assoc text (lines_text ls) (lines_text ms) ∙ ap (λ l. text ++ l) (sym (text-append ls ms)));
}

-- one element more of a list
pub written-element : {X : Type 0} (f : X → List (List ℕ)) (a b c : Option (List ℕ)) (x y z : CmacState) (xs : List X) (i : ℕ) (d : X) → i < length xs
    → HasWritten a b x y (flat_map f (take i xs)) → HasWritten b c y z (f (get_or xs i d)) → HasWritten a c x z (flat_map f (take (i + 1) xs))
written-element f a b c x y z xs i d within p q =
    let t = get_or xs i d in
    let more : flat_map f (take i xs ++ t ∷ []) ≡ flat_map f (take i xs) ++ f t = flat_map-append f (take i xs) (t ∷ []) ∙ ap (λ l. flat_map f (take i xs) ++ l) (append-nil (f t)) in
    subst (HasWritten a c x z) (sym (ap (flat_map f) (take_more xs i d within) ∙ more)) (written-then a b c x y z (flat_map f (take i xs)) (f t) p q)

-- one line more of a list
pub written-line : {X : Type 0} (f : X → List ℕ) (a b c : Option (List ℕ)) (x y z : CmacState) (xs : List X) (i : ℕ) (d : X) → i < length xs
    → HasWritten a b x y (map f (take i xs)) → HasWritten b c y z (f (get_or xs i d) ∷ []) → HasWritten a c x z (map f (take (i + 1) xs))
written-line f a b c x y z xs i d within p q =
    let t = get_or xs i d in
    subst (HasWritten a c x z) (sym (ap (map f) (take_more xs i d within) ∙ map-append f (take i xs) (t ∷ [])))
    (written-then a b c x y z (map f (take i xs)) (f t ∷ []) p q)

-- a line that is this one, and then more
pub written-first : (a b c : Option (List ℕ)) (x y z : CmacState) (line first : List ℕ) (ls : List (List ℕ)) → line ≡ first
    → HasWritten a b x y (line ∷ []) → HasWritten b c y z ls → HasWritten a c x z (first ∷ ls)
written-first a b c x y z line first ls is p q = subst (λ l. HasWritten a c x z (l ∷ ls)) is (written-then a b c x y z (line ∷ []) ls p q)

-- a device and its tickets
pub device-written : (a b c : Option (List ℕ)) (x y z : CmacState) (line : List ℕ) (d : DeviceTable) (v : List OpenTicket) → line ≡ device_line d → v ≡ d.tickets.items
    → HasWritten a b x y (line ∷ []) → HasWritten b c y z (map ticket_line v) → HasWritten a c x z (device_lines d)
device-written a b c x y z line d v is all p q =
    subst (λ l. HasWritten a c x z (device_line d ∷ map ticket_line l)) all (written-first a b c x y z line (device_line d) (map ticket_line v) is p q)

-- a window and its copies
pub window-written : (a b c : Option (List ℕ)) (x y z : CmacState) (line : List ℕ) (w : Window) (v : List Heard) → line ≡ window_line w → v ≡ w.copies.items
    → HasWritten a b x y (line ∷ []) → HasWritten b c y z (map copy_line v) → HasWritten a c x z (window_lines w)
window-written a b c x y z line w v is all p q =
    subst (λ l. HasWritten a c x z (window_line w ∷ map copy_line l)) all (written-first a b c x y z line (window_line w) (map copy_line v) is p q)

-- the tables of a shard
pub tables-written : (a b c d : Option (List ℕ)) (x y z w : CmacState) (n : ℕ) (t : Tables) (line : List ℕ) (devices : List DeviceTable) (windows : List Window)
    → line ≡ shard_line n → devices ≡ t.devices.items → windows ≡ t.windows.items
    → HasWritten a b x y (line ∷ []) → HasWritten b c y z (flat_map device_lines devices) → HasWritten c d z w (flat_map window_lines windows)
    → HasWritten a d x w (tables_lines n t)
tables-written a b c d x y z w n t line devices windows is ds ws p q r =
    let all : HasWritten a d x w (shard_line n ∷ flat_map device_lines devices ++ flat_map window_lines windows) =
    written-first a b d x y w line (shard_line n) (flat_map device_lines devices ++ flat_map window_lines windows) is p
    (written-then b c d y z w (flat_map device_lines devices) (flat_map window_lines windows) q r) in
    subst (λ l. HasWritten a d x w (shard_line n ∷ flat_map device_lines l ++ flat_map window_lines t.windows.items)) ds
    (subst (λ l. HasWritten a d x w (shard_line n ∷ flat_map device_lines devices ++ flat_map window_lines l)) ws all)

-- one shard more
pub shard-written : (a b c : Option (List ℕ)) (x y z : CmacState) (first : List ℕ) (xs : List Tables) (i j : ℕ) (t : Tables) → i < length xs → j ≡ i → t ≡ get_or xs j t
    → HasWritten a b x y (first ∷ shards_lines 0 (take i xs)) → HasWritten b c y z (tables_lines i t) → HasWritten a c x z (first ∷ shards_lines 0 (take (i + 1) xs))
shard-written a b c x y z first xs i j t within place is p q =
    let here : get_or xs i t ≡ t = ap (λ k. get_or xs k t) (sym place) ∙ sym is in
    subst (λ l. HasWritten a c x z (first ∷ l)) (sym (shards-taken xs i t within ∙ ap (λ u. shards_lines 0 (take i xs) ++ tables_lines i u) here))
    (written-then a b c x y z (first ∷ shards_lines 0 (take i xs)) (tables_lines i t) p q)

-- the whole
pub written-whole : (a b c : Option (List ℕ)) (w : CmacState) (k : Checkpoint) (lines i : ℕ) (shards : List Tables) → lines ≡ length (shards_lines 0 shards) → shards ≡ k.shards.items → length k.shards.items ≤ i
    → HasWritten a b (state_of sum_key []) w (head_line (record { lines = lines; ups = k.ups }) ∷ shards_lines 0 (take i k.shards.items))
    → ((text : List ℕ) → w ≡ state_of sum_key text → Appends b c (lines_text (end_line (checksum text) ∷ [])))
    → Appends a c (checkpoint_text k)
written-whole a b c w k lines i shards counted same all p end =
    let is : lines ≡ length (shards_lines 0 k.shards.items) = counted ∙ ap (λ l. length (shards_lines 0 l)) same in
    let tables = shards_lines 0 k.shards.items in
    let ended : HasWritten a b (state_of sum_key []) w (head_line (record { lines = lines; ups = k.ups }) ∷ tables) =
    subst (λ l. HasWritten a b (state_of sum_key []) w (head_line (record { lines = lines; ups = k.ups }) ∷ shards_lines 0 l)) (take_all i k.shards.items all) p in
    let named : HasWritten a b (state_of sum_key []) w (head_line (record { lines = length tables; ups = k.ups }) ∷ tables) =
    subst (λ n. HasWritten a b (state_of sum_key []) w (head_line (record { lines = n; ups = k.ups }) ∷ tables)) is ended in
    let text = lines_text (head_line (record { lines = length tables; ups = k.ups }) ∷ tables) in
    Appends-trans a b c text (lines_text (end_line (checksum text) ∷ [])) named.text (end text (named.sum [] refl))
