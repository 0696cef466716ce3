-- A shard after a trim: the entries that are cut by their numbers are those that a trim drops.
use Rattle.std.proofs.Common.{◌≡◌, ◌≤◌, ◌*◌, count_by, ℕ, ◌<◌, Bool, true, false, not, ◌||◌, ◌==◌, cond, List, [], ◌∷◌, map, filter, length, refl, sym, ap, subst, ◌∙◌, arith}
use Rattle.std.specs.List.{AllByRecursion, list_any}
use Rattle.std.specs.Arc.{arc_value}
use Rattle.std.proofs.lemmas.List.{length-map}
use Rattle.ns_types.specs.Identity.{shard_count, shard_of}
use Rattle.ns_types.specs.declared.identity.WindowName.{WindowName}
use Rattle.ns_roster.specs.Network.{Network}
use Rattle.ns_calls.specs.declared.call.Entry.{Entry}
use Rattle.ns_calls.specs.Entries.{Opening, open_windows}
use Rattle.ns_calls.specs.History.{same_ticket}
use Rattle.ns_calls.specs.Laws.{Rises}
use Rattle.ns_kept.specs.Kept.{Remains, reading, is_kept, filter_before, keep}
use Rattle.ns_kept.specs.Left.{Leaves}
use Rattle.ns_kept.proofs.Law.{leaves-alike, leaves-rise, leaves-trim, keep-left}
use Rattle.ns_kept.proofs.ShardBound.{shard-keeps-at-most}
use Rattle.ns_kept.specs.Bound.{most_kept}
use Rattle.ns_keep.specs.Tables.{AreOf, numbers_kept}
use Rattle.ns_journal.specs.State.{is_numbered, with_numbers, without_numbers, AreNumbersOf, JournalState}
use Rattle.ns_windows.specs.declared.window.Window.{Window}
use Rattle.ns_devices.specs.declared.own.Own.{Own}
use Rattle.ns_shard.specs.Tables.{window_of_opening}
use Rattle.ns_devices.specs.Devices.{lives_in, has_ticket_in}
use Rattle.ns_shard.specs.State.{State, Keeps, remains, seen, after_trim, dropped}
use Rattle.ns_shard.specs.Private.Parts.{Agrees, AreParts, state_of}
use Rattle.ns_shard.specs.declared.parts.Parts.{Parts}
use Rattle.ns_shard.proofs.Live.{lives-told, tickets-told}
use Rattle.std.proofs.lemmas.Bool.{eq-eqb, ne_eqb}
use Rattle.ns_shard.proofs.Maps.{map-map}

-- ---- entries by their numbers, where numbers rise

module _ (test : Entry → List Entry → Bool) where
  -- the numbers of what passes are above one that all numbers are above
  kept-above : (n : ℕ) (es : List Entry) → AllByRecursion (λ m. n < m) (map (λ (e : Entry). e.number) es) → list_any (λ m. m == n) (map (λ (e : Entry). e.number) (filter_before test es)) ≡ false
  kept-above n [] all = refl
  kept-above n (e ∷ es) all = step (test e es) (kept-above n es all.1)
    where
      step : (b : Bool) → list_any (λ m. m == n) (map (λ (x : Entry). x.number) (filter_before test es)) ≡ false
          → list_any (λ m. m == n) (map (λ (x : Entry). x.number) (cond b (e ∷ filter_before test es) (filter_before test es))) ≡ false
      step false rest = rest
      step true rest = ap (λ b. b || list_any (λ m. m == n) (map (λ (x : Entry). x.number) (filter_before test es))) (ne_eqb e.number n (λ is. omega (arith, is, all.0))) ∙ rest

  -- an entry of a greater number has it among these exactly where it has it among the rest
  filters-same : (n : ℕ) (numbers : List ℕ) (keeps : Bool → Bool) (es : List Entry) → AllByRecursion (λ m. n < m) (map (λ (e : Entry). e.number) es) →
      filter (λ e. keeps (is_numbered (n ∷ numbers) e)) es ≡ filter (λ e. keeps (is_numbered numbers e)) es
  filters-same n numbers keeps [] all = refl
  filters-same n numbers keeps (e ∷ es) all =
      ap (λ b. cond {A = List Entry} (keeps (b || is_numbered numbers e)) (e ∷ filter (λ x. keeps (is_numbered (n ∷ numbers) x)) es) (filter (λ x. keeps (is_numbered (n ∷ numbers) x)) es)) (ne_eqb n e.number (λ is. omega (arith, is, all.0)))
      ∙ ap (λ xs. cond {A = List Entry} (keeps (is_numbered numbers e)) (e ∷ xs) xs) (filters-same n numbers keeps es all.1)

  -- the entries that have the numbers of those that pass are those that pass, and the others are those that fail
  numbered-kept : (keeps : Bool → Bool) (es : List Entry) → Rises (map (λ (e : Entry). e.number) es) →
      filter (λ e. keeps (is_numbered (map (λ (x : Entry). x.number) (filter_before test es)) e)) es ≡ filter_before (λ e after. keeps (test e after)) es
  numbered-kept keeps [] rises = refl
  numbered-kept keeps (e ∷ es) rises = step (test e es) (numbered-kept keeps es rises.1)
    where
      numbers : List ℕ
      numbers = map (λ (x : Entry). x.number) (filter_before test es)

      kept : List Entry
      kept = filter_before (λ x after. keeps (test x after)) es

      step : (b : Bool) → filter (λ x. keeps (is_numbered numbers x)) es ≡ kept →
          filter (λ x. keeps (is_numbered (map (λ (y : Entry). y.number) (cond b (e ∷ filter_before test es) (filter_before test es))) x)) (e ∷ es) ≡ cond (keeps b) (e ∷ kept) kept
      step true rest =
          ap (λ b. cond {A = List Entry} (keeps (b || list_any (λ n. n == e.number) numbers)) (e ∷ filter (λ x. keeps (is_numbered (e.number ∷ numbers) x)) es) (filter (λ x. keeps (is_numbered (e.number ∷ numbers) x)) es)) (eq-eqb e.number e.number refl)
          ∙ ap (λ (xs : List Entry). cond (keeps true) (e ∷ xs) xs) (filters-same e.number numbers keeps es rises.0 ∙ rest)
      step false rest =
          ap (λ b. cond {A = List Entry} (keeps b) (e ∷ filter (λ x. keeps (is_numbered numbers x)) es) (filter (λ x. keeps (is_numbered numbers x)) es)) (kept-above e.number es rises.0)
          ∙ ap (λ (xs : List Entry). cond (keeps false) (e ∷ xs) xs) rest

-- ---- what the shard's tables say

-- the names of the windows are those of the open windows
pub names-told : (net : Network) (index : ℕ) (h : List Entry) (k : Remains) (devices : List Own) (windows : List Window) → Agrees net index h devices windows → Leaves net h k →
    map (λ (w : Window). w.name) windows ≡ map (λ (o : Opening). o.window) (open_windows (reading k))
names-told net index h k devices windows agrees leaves =
    ap (map (λ (w : Window). w.name)) agrees.by_window
    ∙ (map-map (window_of_opening h) (λ (w : Window). w.name) (open_windows h) ∙ ap (map (λ (o : Opening). o.window)) (sym (leaves-alike net h k leaves).windows))

-- the tables are those of the history as it reads
pub tables-are : (net : Network) (index : ℕ) (h : List Entry) (k : Remains) (devices : List Own) (windows : List Window) (names : List WindowName) → Agrees net index h devices windows → Leaves net h k →
    names ≡ map (λ (w : Window). w.name) windows → AreOf (reading k) (lives_in devices) (has_ticket_in devices) names
tables-are net index h k devices windows names agrees leaves named =
    let alike = leaves-alike net h k leaves in
    record {
      sessions = λ eui s.
          ap (λ ds. lives_in ds eui s) agrees.by_device
          ∙ (lives-told net index h agrees.valid agrees.history eui s
          ∙ ap (λ ss. list_any (λ x. x == s) ss) (sym (alike.lives eui)));
      tickets = λ t.
          ap (λ ds. has_ticket_in ds t) agrees.by_device
          ∙ (tickets-told net index h agrees.valid agrees.history t
          ∙ ap (list_any (same_ticket t)) (sym alike.tickets));
      windows = named ∙ names-told net index h k devices windows agrees leaves;
    }

-- ---- the trim

module _ (p : Parts) (are : AreParts p) where
  abbrev net : Network
  net = arc_value p.roster

  abbrev k : Remains
  k = remains (state_of p)

  -- the numbers are those of the entries that a trim keeps
  pub stay-is : (names : List WindowName) (entries : List Entry) (stay : List ℕ) → names ≡ map (λ (w : Window). w.name) p.windows → entries ≡ p.journal.entries
      → ((h : List Entry) → AreOf h (lives_in p.devices) (has_ticket_in p.devices) names → stay ≡ numbers_kept h entries) → stay ≡ numbers_kept (seen (state_of p)) p.journal.entries
  stay-is names entries stay named all gives =
      gives (seen (state_of p)) (tables-are net p.index are.history k p.devices p.windows names are.agrees are.keeps.left named) ∙ ap (numbers_kept (seen (state_of p))) all

  rises : Rises (map (λ (e : Entry). e.number) p.journal.entries)
  rises = leaves-rise net are.history k are.keeps.left

  pub numbers-of-entries : (stay : List ℕ) → stay ≡ numbers_kept (seen (state_of p)) p.journal.entries → AreNumbersOf p.journal.entries stay
  numbers-of-entries stay is =
      ap (λ ns. map (λ (e : Entry). e.number) (with_numbers ns p.journal.entries)) is
      ∙ (ap (map (λ (e : Entry). e.number)) (numbered-kept (is_kept (seen (state_of p))) (λ b. b) p.journal.entries rises) ∙ sym is)

  pub entries-kept : (stay : List ℕ) → stay ≡ numbers_kept (seen (state_of p)) p.journal.entries → with_numbers stay p.journal.entries ≡ (after_trim (state_of p)).entries
  entries-kept stay is = ap (λ ns. with_numbers ns p.journal.entries) is ∙ numbered-kept (is_kept (seen (state_of p))) (λ b. b) p.journal.entries rises

  pub entries-dropped : (stay : List ℕ) → stay ≡ numbers_kept (seen (state_of p)) p.journal.entries → without_numbers stay p.journal.entries ≡ dropped (state_of p)
  entries-dropped stay is = ap (λ ns. without_numbers ns p.journal.entries) is ∙ numbered-kept (is_kept (seen (state_of p))) not p.journal.entries rises

  pub count-kept : (stay : List ℕ) → stay ≡ numbers_kept (seen (state_of p)) p.journal.entries → length stay ≡ length (after_trim (state_of p)).entries
  count-kept stay is = ap length is ∙ length-map (after_trim (state_of p)).entries (λ (e : Entry). e.number)

  -- the names are those that a trim keeps
  pub names-kept : (names : List WindowName) → names ≡ map (λ (w : Window). w.name) p.windows → names ≡ (after_trim (state_of p)).windows
  names-kept names named = named ∙ names-told net p.index are.history k p.devices p.windows are.agrees are.keeps.left

  -- the state of parts that were trimmed
  pub state-trimmed : (j : JournalState) (mark : ℕ) (names : List WindowName) → j.made ≡ p.journal.made → j.entries ≡ (after_trim (state_of p)).entries
      → mark ≡ p.journal.made → names ≡ (after_trim (state_of p)).windows →
      let s : State = record { roster = arc_value p.roster; index = p.index; made = j.made; mark = mark; windows = names; entries = j.entries } in s ≡ after_trim (state_of p)
  state-trimmed j mark names made entries marked windows =
      (λ i. let s : State = record { roster = arc_value p.roster; index = p.index; made = made i; mark = marked i; windows = windows i; entries = entries i } in s)

  -- the history leaves what the trim kept
  keeps-trim : Keeps are.history (after_trim (state_of p))
  keeps-trim = record {
    made = are.keeps.made;
    left = subst (λ n. Leaves net are.history (keep n k)) (sym are.keeps.made) (leaves-trim net are.history k are.keeps.left);
  }

  -- parts that were trimmed
  pub parts-trimmed : (q : Parts) → state_of q ≡ after_trim (state_of p) → q.devices ≡ p.devices → q.windows ≡ p.windows → q.journal.reserved ≡ p.journal.reserved → AreParts q
  parts-trimmed q state devices windows reserved =
      let held : Agrees net p.index are.history q.devices q.windows = rw (devices, windows) are.agrees in
      record {
        small = subst (λ (s : State). s.index < shard_count) (sym state) are.small;
        history = are.history;
        keeps = subst (Keeps are.history) (sym state) keeps-trim;
        agrees = subst (λ (s : State). Agrees s.roster s.index are.history q.devices q.windows) (sym state) held;
        reserved = reserved ∙ are.reserved;
      }

  -- a trim keeps few entries of each device
  pub few-kept : length (after_trim (state_of p)).entries ≤ most_kept * count_by (λ d. shard_of d.eui == p.index) (arc_value p.roster).devices
  few-kept =
      subst (λ (x : Remains). length x.entries ≤ most_kept * count_by (λ d. shard_of d.eui == p.index) (arc_value p.roster).devices) (sym (keep-left net are.history k are.keeps.left p.journal.made))
      (shard-keeps-at-most net are.agrees.valid p.index are.history are.agrees.history p.journal.made)
