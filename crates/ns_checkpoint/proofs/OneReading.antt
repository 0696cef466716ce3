-- Each line has one reading.
use Rattle.std.proofs.Common.{◌≡◌, ℕ, ◌/◌, ◌<◌, ◌^◌, List, [], ◌∷◌, ◌++◌, get_or, flat_map, Option, IfSome, refl, ap, arith, ℤ}
use Rattle.std.specs.Prelude.{codes}
use Rattle.std.specs.Int.{w64, to_be_bytes}
use Rattle.std.specs.List.{AllByRecursion}
use Rattle.arrayvec.specs.ArrayVec.{ArrayVec}
use Rattle.hex.specs.Hex.{encode_with}
use Rattle.ns_types.specs.Bytes.{AreBytes}
use Rattle.ns_types.specs.declared.heard.Heard.{Heard}
use Rattle.ns_types.specs.declared.identity.DevEui.{DevEui}
use Rattle.ns_types.specs.declared.identity.DevNonce.{DevNonce}
use Rattle.ns_types.specs.declared.identity.Key.{Key}
use Rattle.ns_types.specs.declared.identity.WindowName.{WindowName}
use Rattle.ns_sessions.specs.declared.session.Session.{Session}
use Rattle.ns_sessions.specs.declared.ticket.OpenTicket.{OpenTicket}
use Rattle.ns_windows.specs.declared.window.Window.{Window}
use Rattle.ns_checkpoint.specs.declared.tables.DeviceTable.{DeviceTable}
use Rattle.ns_checkpoint.specs.declared.tables.Head.{Head}
use Rattle.ns_checkpoint.specs.Text.{hex_field, field_16, field_32, field_64, key_field, or_dash, session_fields, heard_fields, head_line, device_line, ticket_line, window_line, copy_line}
use Rattle.ns_checkpoint.specs.Whole.{IsKey, IsHeard, IsSession, IsOpenTicket, IsDevice, IsWindow, IsHead, HaveOneLine, HaveOneWindowLine}
use Rattle.ns_checkpoint.proofs.Codes.{Splits, SplitsLine, HasNoDash, both, both-line, after, bytes-split, bytes-dash, bytes-line, bytes_8, each, digit-other, split_8, split_16, split_32, split_64, split_signed, dash_16, dash_32, split-option, all-line, via, one-value}

-- ---- groups of fields

key-split : Splits IsKey key_field
key-split = via (λ (k : Key). k.0) key_of (λ k. refl) (λ k. refl) (λ k w. w) (bytes-split 16)
  where
    key_of : List ℕ → Key
    key_of bytes = record { 0 = bytes }

key-dash : HasNoDash IsKey key_field
key-dash = record { no_dash = λ k r s p e. (bytes-dash 16 (omega arith)).no_dash k.0 r s p e }

nonce-split : Splits (λ (n : DevNonce). n.0 < 2 ^ 16) (λ n. field_16 n.0)
nonce-split = via (λ (n : DevNonce). n.0) nonce_of (λ n. refl) (λ n. refl) (λ n w. w) split_16
  where
    nonce_of : ℕ → DevNonce
    nonce_of n = record { 0 = n }

nonce-dash : HasNoDash (λ (n : DevNonce). n.0 < 2 ^ 16) (λ n. field_16 n.0)
nonce-dash = record { no_dash = λ n r s p e. dash_16.no_dash n.0 r s p e }

heard-parts : Heard → (((((ℕ × ℕ) × ℕ) × ℕ) × ℤ) × ℤ)
heard-parts h = (((((h.gateway.0, h.moment), h.freq), h.dr), h.rssi), h.snr)

heard-of : (((((ℕ × ℕ) × ℕ) × ℕ) × ℤ) × ℤ) → Heard
heard-of z = record { gateway = record { 0 = z.0.0.0.0.0 }; moment = z.0.0.0.0.1; freq = z.0.0.0.1; dr = z.0.0.1; rssi = z.0.1; snr = z.1 }

heard-split : Splits IsHeard heard_fields
unfolding heard_fields heard-parts heard-of
heard-split =
    via heard-parts heard-of (λ h. refl) (λ h. refl) (λ h w. (((((w.gateway, w.moment), w.freq), w.dr), w.rssi), w.snr))
    (both (both (both (both (both split_64 split_64) split_32) split_8) split_signed) split_signed)

heard-dash : HasNoDash IsHeard heard_fields
unfolding heard_fields encode_with
heard-dash = record {
  no_dash = λ h r s p e.
      let byte : get_or (to_be_bytes w64 h.gateway.0) 0 0 < 256 = each (to_be_bytes w64 h.gateway.0) (bytes_8 h.gateway.0).bytes 0 in
      let low : get_or (to_be_bytes w64 h.gateway.0) 0 0 / 16 < 16 = omega (arith, byte) in
      digit-other 45 (get_or (to_be_bytes w64 h.gateway.0) 0 0 / 16) refl low (ap (λ l. get_or l 1 0) e);
}

session-parts : Session → (((((ℕ × Key) × Option Key) × Option ℕ) × ℕ) × ℕ)
session-parts s = (((((s.number, s.nwk), s.app), s.greatest_counter), s.round), s.next_ack)

session-of : (((((ℕ × Key) × Option Key) × Option ℕ) × ℕ) × ℕ) → Session
session-of z = record { number = z.0.0.0.0.0; nwk = z.0.0.0.0.1; app = z.0.0.0.1; greatest_counter = z.0.0.1; round = z.0.1; next_ack = z.1 }

session-split : Splits IsSession session_fields
unfolding session_fields session-parts session-of
session-split =
    via session-parts session-of (λ s. refl) (λ s. refl) (λ s w. (((((w.number, w.nwk), w.app), w.greatest_counter), w.round), w.next_ack))
    (both (both (both (both (both split_32 key-split) (split-option key-split key-dash)) (split-option split_32 dash_32)) split_32) split_64)

session-space : (s : Session) (r : List ℕ) → get_or (session_fields s ++ r) 0 0 ≡ 32
unfolding session_fields
session-space s r = refl

-- ---- lines

pub head-split : Splits IsHead head_line
unfolding head_line
head-split = via (λ (h : Head). (h.lines, h.ups)) head_of (λ h. refl) (λ h. refl) (λ h w. (w.lines, w.ups)) (both (after (codes "checkpoint 1") split_64) split_64)
  where
    head_of : (ℕ × ℕ) → Head
    head_of z = record { lines = z.0; ups = z.1 }

pub head-one : (a b : Head) → IsHead a → IsHead b → head_line a ≡ head_line b → a ≡ b
head-one a b wa wb e = one-value head-split a b wa wb e

pub copy-split : Splits IsHeard copy_line
unfolding copy_line
copy-split = via (λ (h : Heard). h) (λ h. h) (λ h. refl) (λ h. refl) (λ h w. w) (after (codes "copy") heard-split)

pub copy-one : (a b : Heard) → IsHeard a → IsHeard b → copy_line a ≡ copy_line b → a ≡ b
copy-one a b wa wb e = one-value copy-split a b wa wb e

pub ticket-split : Splits IsOpenTicket ticket_line
unfolding ticket_line
ticket-split =
    via ticket-parts ticket-of (λ t. refl) (λ t. refl) (λ t w. ((w.ticket, w.count), w.best))
    (both (both (after (codes "ticket") (bytes-split 23)) split_8) (split-option heard-split heard-dash))
  where
    ticket-parts : OpenTicket → ((List ℕ × ℕ) × Option Heard)
    ticket-parts t = ((t.ticket.0, t.copies.count), t.copies.best)

    ticket-of : ((List ℕ × ℕ) × Option Heard) → OpenTicket
    ticket-of z = record { ticket = record { 0 = z.0.0 }; copies = record { count = z.0.1; best = z.1 } }

pub ticket-one : (a b : OpenTicket) → IsOpenTicket a → IsOpenTicket b → ticket_line a ≡ ticket_line b → a ≡ b
ticket-one a b wa wb e = one-value ticket-split a b wa wb e

abbrev pub DeviceParts : Type 0
DeviceParts = ((ℕ × Option DevNonce) × ℕ) × List Session

abbrev pub device-parts : DeviceTable → DeviceParts
device-parts d = (((d.eui.0, d.greatest), d.next_session), d.sessions.items)

abbrev pub AreDeviceParts : DeviceParts → Type 0
AreDeviceParts z = ((z.0.0.0 < 2 ^ 64 × IfSome z.0.0.1 (λ n. n.0 < 2 ^ 16)) × z.0.1 < 2 ^ 32) × AllByRecursion IsSession z.1

abbrev pub device-code : DeviceParts → List ℕ
device-code z = ((codes "device" ++ field_64 z.0.0.0) ++ or_dash (λ n. field_16 n.0) z.0.0.1) ++ field_32 z.0.1 ++ flat_map session_fields z.1

pub device-line : SplitsLine AreDeviceParts device-code
device-line = both-line (both (both (after (codes "device") split_64) (split-option nonce-split nonce-dash)) split_32) (all-line session-split session-space)

pub are-device-parts : (d : DeviceTable) → IsDevice d → AreDeviceParts (device-parts d)
are-device-parts d w = (((w.eui, w.greatest), w.next_session), w.sessions)

pub device-one : (a b : DeviceTable) → IsDevice a → IsDevice b → device_line a ≡ device_line b → HaveOneLine a b
unfolding device_line
device-one a b wa wb e =
    let same : device-parts a ≡ device-parts b =
    (device-line.split (device-parts a) (device-parts b) [] [] (are-device-parts a wa) (are-device-parts b wb) (ap (λ l. l ++ (10 ∷ [])) e)).0 in
    record {
      eui = ap (λ z. eui_of z.0.0.0) same;
      greatest = ap (λ z. z.0.0.1) same;
      next_session = ap (λ z. z.0.1) same;
      sessions = ap (λ z. sessions_of z.1) same;
    }
  where
    eui_of : ℕ → DevEui
    eui_of n = record { 0 = n }

    sessions_of : List Session → ArrayVec Session
    sessions_of items = record { items = items }

abbrev pub WindowParts : Type 0
WindowParts = (((((ℕ × ℕ) × ℕ) × ℕ) × Key) × Option Key) × List ℕ

abbrev pub window-parts : Window → WindowParts
window-parts w = ((((((w.name.eui.0, w.name.session), w.name.fcnt), w.name.round), w.nwk), w.app), w.frame)

abbrev pub AreWindowParts : WindowParts → Type 0
AreWindowParts z = (((((z.0.0.0.0.0.0 < 2 ^ 64 × z.0.0.0.0.0.1 < 2 ^ 32) × z.0.0.0.0.1 < 2 ^ 32) × z.0.0.0.1 < 2 ^ 32) × IsKey z.0.0.1) × IfSome z.0.1 IsKey) × AreBytes z.1

abbrev pub window-code : WindowParts → List ℕ
window-code z =
    (((((codes "window" ++ field_64 z.0.0.0.0.0.0) ++ field_32 z.0.0.0.0.0.1) ++ field_32 z.0.0.0.0.1) ++ field_32 z.0.0.0.1) ++ key_field z.0.0.1) ++ or_dash key_field z.0.1 ++ hex_field z.1

pub window-line : SplitsLine AreWindowParts window-code
window-line = both-line (both (both (both (both (both (after (codes "window") split_64) split_32) split_32) split_32) key-split) (split-option key-split key-dash)) bytes-line

pub are-window-parts : (w : Window) → IsWindow w → AreWindowParts (window-parts w)
are-window-parts w is = ((((((is.eui, is.session), is.fcnt), is.round), is.nwk), is.app), is.frame)

pub window-one : (a b : Window) → IsWindow a → IsWindow b → window_line a ≡ window_line b → HaveOneWindowLine a b
unfolding window_line
window-one a b wa wb e =
    let same : window-parts a ≡ window-parts b =
    (window-line.split (window-parts a) (window-parts b) [] [] (are-window-parts a wa) (are-window-parts b wb) (ap (λ l. l ++ (10 ∷ [])) e)).0 in
    record { name = ap (λ z. name_of z.0.0.0) same; nwk = ap (λ z. z.0.0.1) same; app = ap (λ z. z.0.1) same; frame = ap (λ z. z.1) same }
  where
    name_of : (((ℕ × ℕ) × ℕ) × ℕ) → WindowName
    name_of z = record { eui = record { 0 = z.0.0.0 }; session = z.0.0.1; fcnt = z.0.1; round = z.1 }
