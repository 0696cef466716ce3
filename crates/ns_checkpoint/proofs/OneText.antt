-- No two checkpoints have one text.
use Rattle.std.proofs.Common.{◌≡◌, ℕ, ◌+◌, List, [], ◌∷◌, ◌++◌, length, get_or, map, flat_map, refl, sym, ap, subst, ◌∙◌, append_assoc, arith}
use Rattle.std.specs.List.{AllByRecursion}
use Rattle.std.proofs.lemmas.List.{append_cancel_left}
use Rattle.std.proofs.lemmas.List.Folds.{flat_map-map}
use Rattle.ns_types.specs.declared.heard.Heard.{Heard}
use Rattle.ns_sessions.specs.declared.ticket.OpenTicket.{OpenTicket}
use Rattle.ns_windows.specs.declared.window.Window.{Window}
use Rattle.ns_checkpoint.specs.declared.tables.DeviceTable.{DeviceTable}
use Rattle.ns_checkpoint.specs.declared.tables.Tables.{Tables}
use Rattle.ns_checkpoint.specs.declared.tables.Head.{Head}
use Rattle.ns_checkpoint.specs.declared.tables.Checkpoint.{Checkpoint}
use Rattle.ns_checkpoint.specs.Text.{lines_text, head_line, shard_line, device_line, ticket_line, window_line, copy_line, end_line, device_lines, window_lines, tables_lines, shards_lines, summed_lines, checksum, checkpoint_text}
use Rattle.ns_checkpoint.specs.Whole.{IsHead, IsDevice, IsWindow, AreTables, IsCheckpoint, contents}
use Rattle.ns_checkpoint.proofs.ReadLines.{text-append}
use Rattle.ns_checkpoint.proofs.Codes.{Splits, SplitsLine, apart, to-line}
use Rattle.ns_checkpoint.proofs.OneReading.{DeviceParts, device-parts, device-line, are-device-parts, WindowParts, window-parts, window-line, are-window-parts, ticket-split, copy-split, head-split}

letter : List ℕ → ℕ
letter l = get_or l 0 0

-- after the text of a value a text may come whose first letter is of this kind
record SplitsIf {X : Type 0} (C : ℕ → Type 0) (P : X → Type 0) (f : X → List ℕ) : Type 0 where
  split : (x y : X) (r s : List ℕ) → P x → P y → C (letter r) → C (letter s) → f x ++ r ≡ f y ++ s → (x ≡ y) × (r ≡ s)

-- a line with its line feed
ended : List ℕ → List ℕ
ended line = line ++ (10 ∷ [])

ended-split : {X : Type 0} {P : X → Type 0} {f : X → List ℕ} → SplitsLine P f → Splits P (λ x. ended (f x))
unfolding ended
ended-split {f = f} p = record {
  split = λ x y r s hx hy e. p.split x y r s hx hy (apart (f x) (10 ∷ []) r (f y) (10 ∷ []) s e);
}

-- a list of values of one first letter
list-split : {X : Type 0} {C : ℕ → Type 0} {P : X → Type 0} {f : X → List ℕ} (first : ℕ) → C first → ((x : X) (r : List ℕ) → letter (f x ++ r) ≡ first) → SplitsIf C P f
    → SplitsIf (λ n. C n × (n ≡ first → ⊥)) (AllByRecursion P) (flat_map f)
list-split {X = X} {C = C} {P = P} {f = f} first may begins p = record { split = split }
  where
    next : (xs : List X) (r : List ℕ) → C (letter r) → C (letter (flat_map f xs ++ r))
    next [] r h = h
    next (x ∷ xs) r h = subst C (sym (ap letter (append_assoc (f x) (flat_map f xs) r) ∙ begins x (flat_map f xs ++ r))) may

    split : (xs ys : List X) (r s : List ℕ) → AllByRecursion P xs → AllByRecursion P ys → C (letter r) × (letter r ≡ first → ⊥) → C (letter s) × (letter s ≡ first → ⊥)
        → flat_map f xs ++ r ≡ flat_map f ys ++ s → (xs ≡ ys) × (r ≡ s)
    split [] [] r s hx hy hr hs e = (refl, e)
    split [] (y ∷ ys) r s hx hy hr hs e = absurd (hr.1 (ap letter (e ∙ append_assoc (f y) (flat_map f ys) s) ∙ begins y (flat_map f ys ++ s)))
    split (x ∷ xs) [] r s hx hy hr hs e = absurd (hs.1 (ap letter (sym e ∙ append_assoc (f x) (flat_map f xs) r) ∙ begins x (flat_map f xs ++ r)))
    split (x ∷ xs) (y ∷ ys) r s hx hy hr hs e =
        let one = p.split x y (flat_map f xs ++ r) (flat_map f ys ++ s) hx.0 hy.0 (next xs r hr.0) (next ys s hs.0) (apart (f x) (flat_map f xs) r (f y) (flat_map f ys) s e) in
        let (same, rest) = split xs ys r s hx.1 hy.1 hr hs one.1 in
        (ap (λ k. k ∷ xs) one.0 ∙ ap (λ l. y ∷ l) same, rest)

always : {X : Type 0} {P : X → Type 0} {f : X → List ℕ} → Splits P f → SplitsIf (λ n. Unit {0}) P f
always p = record { split = λ x y r s hx hy hr hs e. p.split x y r s hx hy e }

-- a line, and then more
first-split : {X Y : Type 0} {C : ℕ → Type 0} {P : X → Type 0} {Q : Y → Type 0} {f : X → List ℕ} {g : Y → List ℕ} → Splits P f → SplitsIf C Q g
    → SplitsIf C (λ (z : X × Y). P z.0 × Q z.1) (λ z. f z.0 ++ g z.1)
first-split {f = f} {g = g} p q = record {
  split = λ x y r s hx hy hr hs e.
      let first = p.split x.0 y.0 (g x.1 ++ r) (g y.1 ++ s) hx.0 hy.0 (apart (f x.0) (g x.1) r (f y.0) (g y.1) s e) in
      let second = q.split x.1 y.1 r s hx.1 hy.1 hr hs first.1 in
      (ap (λ k. (k, x.1)) first.0 ∙ ap (λ k. (y.0, k)) second.0, second.1);
}

via-if : {X Y : Type 0} {C : ℕ → Type 0} {P : X → Type 0} {f : X → List ℕ} {Q : Y → Type 0} {g : Y → List ℕ} (to : Y → X) (from : X → Y)
    → ((y : Y) → from (to y) ≡ y) → ((y : Y) → g y ≡ f (to y)) → ((y : Y) → Q y → P (to y)) → SplitsIf C P f → SplitsIf C Q g
via-if to from back text whole p = record {
  split = λ x y r s hx hy hr hs e.
      let (same, rest) = p.split (to x) (to y) r s (whole x hx) (whole y hy) hr hs (ap (λ l. l ++ r) (sym (text x)) ∙ e ∙ ap (λ l. l ++ s) (text y)) in
      (sym (back x) ∙ ap from same ∙ back y, rest);
}

-- ---- devices with their tickets

-- a letter that no ticket has
abbrev NoTicket : ℕ → Type 0
NoTicket n = Unit {0} × (n ≡ 116 → ⊥)

abbrev device-text : DeviceTable → List ℕ
device-text d = lines_text (device_lines d)

device-split : SplitsIf NoTicket IsDevice device-text
unfolding ended device_line letter ticket_line
device-split =
    via-if to from (λ d. refl) (λ d. ap (λ l. (device_line d ++ (10 ∷ [])) ++ l) (flat_map-map (λ line. line ++ 10 ∷ []) ticket_line d.tickets.items)) (λ d w. (are-device-parts d w, w.tickets))
    (first-split (ended-split device-line) (list-split 116 tt (λ t r. refl) (always (ended-split (to-line ticket-split)))))
  where
    to : DeviceTable → DeviceParts × List OpenTicket
    to d = (device-parts d, d.tickets.items)

    from : DeviceParts × List OpenTicket → DeviceTable
    from z = record { eui = record { 0 = z.0.0.0.0 }; greatest = z.0.0.0.1; next_session = z.0.0.1; sessions = record { items = z.0.1 }; tickets = record { items = z.1 } }

-- ---- windows with their copies

abbrev NoCopy : ℕ → Type 0
NoCopy n = Unit {0} × (n ≡ 99 → ⊥)

abbrev window-text : Window → List ℕ
window-text w = lines_text (window_lines w)

window-split : SplitsIf NoCopy IsWindow window-text
unfolding ended window_line letter copy_line
window-split =
    via-if to from (λ w. refl) (λ w. ap (λ l. (window_line w ++ (10 ∷ [])) ++ l) (flat_map-map (λ line. line ++ 10 ∷ []) copy_line w.copies.items)) (λ w is. (are-window-parts w is, is.copies))
    (first-split (ended-split window-line) (list-split 99 tt (λ h r. refl) (always (ended-split (to-line copy-split)))))
  where
    to : Window → WindowParts × List Heard
    to w = (window-parts w, w.copies.items)

    from : WindowParts × List Heard → Window
    from z = record {
      name = record { eui = record { 0 = z.0.0.0.0.0.0.0 }; session = z.0.0.0.0.0.0.1; fcnt = z.0.0.0.0.0.1; round = z.0.0.0.0.1 };
      nwk = z.0.0.0.1;
      app = z.0.0.1;
      frame = z.0.1;
      copies = record { items = z.1 };
    }

-- ---- the tables of a shard

devices-split : SplitsIf (λ n. NoTicket n × (n ≡ 100 → ⊥)) (AllByRecursion IsDevice) (flat_map device-text)
unfolding letter device_line
devices-split = list-split 100 (tt, λ e. absurd (omega (arith, e))) (λ d r. refl) device-split

windows-split : SplitsIf (λ n. NoCopy n × (n ≡ 119 → ⊥)) (AllByRecursion IsWindow) (flat_map window-text)
unfolding letter window_line
windows-split = list-split 119 (tt, λ e. absurd (omega (arith, e))) (λ w r. refl) window-split

-- a letter that no line of a table has but that of a shard
record IsAfter (n : ℕ) : Type 0 where
  no_ticket : n ≡ 116 → ⊥
  no_device : n ≡ 100 → ⊥
  no_copy : n ≡ 99 → ⊥
  no_window : n ≡ 119 → ⊥

text-flat : {X : Type 0} (f : X → List (List ℕ)) (xs : List X) → lines_text (flat_map f xs) ≡ flat_map (λ x. lines_text (f x)) xs
text-flat f [] = refl
text-flat f (x ∷ xs) = text-append (f x) (flat_map f xs) ∙ ap (λ l. lines_text (f x) ++ l) (text-flat f xs)

tables-text : (n : ℕ) (t : Tables) → lines_text (tables_lines n t) ≡ (shard_line n ++ (10 ∷ [])) ++ (flat_map device-text t.devices.items ++ flat_map window-text t.windows.items)
tables-text n t =
    let devices = t.devices.items in
    let windows = t.windows.items in
    ap (λ l. (shard_line n ++ (10 ∷ [])) ++ l)
    (text-append (flat_map device_lines devices) (flat_map window_lines windows)
    ∙ ap (λ l. l ++ lines_text (flat_map window_lines windows)) (text-flat device_lines devices)
    ∙ ap (λ l. flat_map device-text devices ++ l) (text-flat window_lines windows))

after-windows : (ws : List Window) (r : List ℕ) → IsAfter (letter r) → NoTicket (letter (flat_map window-text ws ++ r)) × (letter (flat_map window-text ws ++ r) ≡ 100 → ⊥)
unfolding letter window_line
after-windows [] r h = ((tt, h.no_ticket), h.no_device)
after-windows (w ∷ ws) r h = ((tt, λ (e : 119 ≡ 116). absurd (omega (arith, e))), λ (e : 119 ≡ 100). absurd (omega (arith, e)))

abbrev pair : Tables → List DeviceTable × List Window
pair t = (t.devices.items, t.windows.items)

tables-split : (n : ℕ) (t u : Tables) (r s : List ℕ) → AreTables t → AreTables u → IsAfter (letter r) → IsAfter (letter s)
    → lines_text (tables_lines n t) ++ r ≡ lines_text (tables_lines n u) ++ s → (pair t ≡ pair u) × (r ≡ s)
tables-split n t u r s ht hu hr hs e =
    let first = shard_line n ++ (10 ∷ []) in
    let dt = flat_map device-text t.devices.items in
    let du = flat_map device-text u.devices.items in
    let wt = flat_map window-text t.windows.items in
    let wu = flat_map window-text u.windows.items in
    let whole = ap (λ l. l ++ r) (sym (tables-text n t)) ∙ e ∙ ap (λ l. l ++ s) (tables-text n u) in
    let both = append_cancel_left first ((dt ++ wt) ++ r) ((du ++ wu) ++ s) (apart first (dt ++ wt) r first (du ++ wu) s whole) in
    let devices =
    devices-split.split t.devices.items u.devices.items (wt ++ r) (wu ++ s) ht.devices hu.devices (after-windows t.windows.items r hr) (after-windows u.windows.items s hs) (apart dt wt r du wu s both) in
    let windows = windows-split.split t.windows.items u.windows.items r s ht.windows hu.windows ((tt, hr.no_copy), hr.no_window) ((tt, hs.no_copy), hs.no_window) devices.1 in
    (ap (λ l. (l, t.windows.items)) devices.0 ∙ ap (λ l. (u.devices.items, l)) windows.0, windows.1)

-- ---- all shards

after-shards : (n : ℕ) (ts : List Tables) (r : List ℕ) → IsAfter (letter r) → IsAfter (letter (lines_text (shards_lines n ts) ++ r))
unfolding letter shard_line
after-shards n [] r h = h
after-shards n (t ∷ ts) r h = record {
  no_ticket = λ (e : 115 ≡ 116). absurd (omega (arith, e));
  no_device = λ (e : 115 ≡ 100). absurd (omega (arith, e));
  no_copy = λ (e : 115 ≡ 99). absurd (omega (arith, e));
  no_window = λ (e : 115 ≡ 119). absurd (omega (arith, e));
}

shards-split : (n : ℕ) (ts us : List Tables) (r s : List ℕ) → AllByRecursion AreTables ts → AllByRecursion AreTables us → length ts ≡ length us → IsAfter (letter r) → IsAfter (letter s)
    → lines_text (shards_lines n ts) ++ r ≡ lines_text (shards_lines n us) ++ s → (map pair ts ≡ map pair us) × (r ≡ s)
shards-split n [] [] r s ht hu long hr hs e = (refl, e)
shards-split n [] (u ∷ us) r s ht hu long hr hs e = absurd (omega (arith, long))
shards-split n (t ∷ ts) [] r s ht hu long hr hs e = absurd (omega (arith, long))
shards-split n (t ∷ ts) (u ∷ us) r s ht hu long hr hs e =
    let tt1 = lines_text (tables_lines n t) in
    let tu1 = lines_text (tables_lines n u) in
    let mt = lines_text (shards_lines (n + 1) ts) in
    let mu = lines_text (shards_lines (n + 1) us) in
    let whole = ap (λ l. l ++ r) (sym (text-append (tables_lines n t) (shards_lines (n + 1) ts))) ∙ e ∙ ap (λ l. l ++ s) (text-append (tables_lines n u) (shards_lines (n + 1) us)) in
    let one = tables-split n t u (mt ++ r) (mu ++ s) ht.0 hu.0 (after-shards (n + 1) ts r hr) (after-shards (n + 1) us s hs) (apart tt1 mt r tu1 mu s whole) in
    let more = shards-split (n + 1) ts us r s ht.1 hu.1 (omega (arith, long)) hr hs one.1 in
    (ap (λ k. k ∷ map pair ts) one.0 ∙ ap (λ l. pair u ∷ l) more.0, more.1)

after-end : (sum : List ℕ) → IsAfter (letter (lines_text (end_line sum ∷ [])))
unfolding letter end_line
after-end sum = record {
  no_ticket = λ (e : 101 ≡ 116). absurd (omega (arith, e));
  no_device = λ (e : 101 ≡ 100). absurd (omega (arith, e));
  no_copy = λ (e : 101 ≡ 99). absurd (omega (arith, e));
  no_window = λ (e : 101 ≡ 119). absurd (omega (arith, e));
}

abbrev head_of : Checkpoint → Head
head_of c = record { lines = length (shards_lines 0 c.shards.items); ups = c.ups }

is-head : (c : Checkpoint) → IsCheckpoint c → IsHead (head_of c)
is-head c w = record { lines = w.few; ups = w.ups }

pub same-checkpoint : (a b : Checkpoint) → IsCheckpoint a → IsCheckpoint b → checkpoint_text a ≡ checkpoint_text b → (a.ups ≡ b.ups) × (contents a ≡ contents b)
unfolding ended
same-checkpoint a b wa wb e =
    let sa = lines_text (shards_lines 0 a.shards.items) in
    let sb = lines_text (shards_lines 0 b.shards.items) in
    let ea = lines_text (end_line (checksum (lines_text (summed_lines a))) ∷ []) in
    let eb = lines_text (end_line (checksum (lines_text (summed_lines b))) ∷ []) in
    let ha = head_line (head_of a) ++ (10 ∷ []) in
    let hb = head_line (head_of b) ++ (10 ∷ []) in
    let head = (ended-split (to-line head-split)).split (head_of a) (head_of b) (sa ++ ea) (sb ++ eb) (is-head a wa) (is-head b wb) (apart ha sa ea hb sb eb e) in
    let shards = shards-split 0 a.shards.items b.shards.items ea eb wa.shards wb.shards (wa.sixteen ∙ sym wb.sixteen) (after-end _) (after-end _) head.1 in
    (ap (λ (h : Head). h.ups) head.0, shards.0)
