-- What the entries after a place have said.
use Rattle.std.specs.Prelude.{◌≡◌, ℕ, Bool, true, ◌==◌, ◌&&◌, List, [], filter_map, Option, is_some, nat_eq}
use Rattle.std.specs.List.{list_any}
use Rattle.std.specs.Ordering.{nat_cmp}
use Rattle.std.specs.Cmp.Lexicographic.{slice_cmp}
use Rattle.std.specs.HashSet as hash
use Rattle.std.specs.BTreeSet as tree
use Rattle.ns_types.specs.declared.identity.DevEui.{DevEui}
use Rattle.ns_types.specs.declared.identity.WindowName.{WindowName}
use Rattle.ns_types.specs.declared.ticket.Ticket.{Ticket}
use Rattle.ns_calls.specs.declared.call.Entry.{Entry}
use Rattle.ns_calls.specs.Entries.{Said, says, accepted, first_opened, closed}
use Rattle.ns_calls.specs.History.{asks_for}
use Rattle.ns_kept.specs.Kept.{repeated}
use Rattle.ns_keep.specs.declared.marks.Marks.{Marks}

-- a session by its device and its number
abbrev pub same_key : ℕ × ℕ → ℕ × ℕ → Bool
same_key p q = nat_eq p.0 q.0 && nat_eq p.1 q.1

abbrev pub key_of : WindowName → ℕ × ℕ
key_of w = (w.eui.0, w.session)

abbrev pub is_of : ℕ × ℕ → WindowName → Bool
is_of k w = same_key (key_of w) k

-- ---- what is marked

abbrev pub is_accepted : Marks → DevEui → Bool
is_accepted m eui = hash.contains nat_eq m.accepted eui.0

abbrev pub is_opened : Marks → DevEui → Bool
is_opened m eui = hash.contains nat_eq m.opened eui.0

abbrev pub is_opened_in : Marks → WindowName → Bool
is_opened_in m w = hash.contains same_key m.opened_in (key_of w)

abbrev pub is_repeated_in : Marks → WindowName → Bool
is_repeated_in m w = hash.contains same_key m.repeated_in (key_of w)

abbrev pub is_acknowledged : Marks → WindowName → Bool
is_acknowledged m w = hash.contains same_key m.acknowledged (key_of w)

abbrev pub is_asked : Marks → Ticket → Bool
is_asked m t = tree.contains (slice_cmp nat_cmp) m.asked t.0

-- ---- one more mark

abbrev pub MarksAccepted : DevEui → Marks → Marks → Type 0
MarksAccepted eui m n = hash.Updates nat_eq m.accepted n.accepted eui.0 true × (n ≡ record m { accepted = n.accepted })

abbrev pub MarksOpened : WindowName → Marks → Marks → Type 0
MarksOpened w m n = hash.Updates nat_eq m.opened n.opened w.eui.0 true × hash.Updates same_key m.opened_in n.opened_in (key_of w) true × (n ≡ record m { opened = n.opened; opened_in = n.opened_in })

abbrev pub MarksRepeated : WindowName → Marks → Marks → Type 0
MarksRepeated w m n = hash.Updates same_key m.repeated_in n.repeated_in (key_of w) true × (n ≡ record m { repeated_in = n.repeated_in })

abbrev pub MarksAcknowledged : WindowName → Marks → Marks → Type 0
MarksAcknowledged w m n = hash.Updates same_key m.acknowledged n.acknowledged (key_of w) true × (n ≡ record m { acknowledged = n.acknowledged })

abbrev pub MarksAsked : Ticket → Marks → Marks → Type 0
MarksAsked t m n = tree.Updates (slice_cmp nat_cmp) m.asked n.asked t.0 true × (n ≡ record m { asked = n.asked })

-- ---- what the marks mean

-- whether one of these entries says such a thing
abbrev pub one_says : {Y : Type 0} → (Said → Option Y) → (Y → Bool) → List Entry → Bool
one_says part test es = list_any test (filter_map (says part) es)

-- the marks are what these entries say; of tickets that is so of the open ones
pub record AreMarks (has_ticket : Ticket → Bool) (m : Marks) (es : List Entry) : Type 0 where
  pub accepted : (k : ℕ) → hash.contains nat_eq m.accepted k ≡ one_says accepted (λ a. a.eui.0 == k) es
  pub opened : (k : ℕ) → hash.contains nat_eq m.opened k ≡ one_says first_opened (λ o. o.window.eui.0 == k) es
  pub opened_in : (k : ℕ × ℕ) → hash.contains same_key m.opened_in k ≡ one_says first_opened (λ o. is_of k o.window) es
  pub repeated_in : (k : ℕ × ℕ) → hash.contains same_key m.repeated_in k ≡ one_says repeated (λ o. is_of k o.window) es
  pub acknowledged : (k : ℕ × ℕ) → hash.contains same_key m.acknowledged k ≡ one_says closed (λ c. is_some c.ack && is_of k c.window) es
  pub asked : (t : Ticket) → has_ticket t ≡ true → is_asked m t ≡ list_any (asks_for t) es

-- nothing is marked
pub record IsUnmarked (m : Marks) : Type 0 where
  pub accepted : (m.accepted).keys ≡ []
  pub opened : (m.opened).keys ≡ []
  pub opened_in : (m.opened_in).keys ≡ []
  pub repeated_in : (m.repeated_in).keys ≡ []
  pub acknowledged : (m.acknowledged).keys ≡ []
  pub asked : (m.asked).keys ≡ []
