-- The test of legality decides it.
use Rattle.std.proofs.Common.{◌≡◌, ℕ, true, ◌&&◌, ◌==◌, List, [], ◌∷◌, ◌++◌, Option, None, Some, refl, ap, ap₂, subst}
use Rattle.std.proofs.lemmas.Bool.{and_parts, and_from, eq-eqb, eqb-true}
use Rattle.ns_types.specs.declared.identity.DevEui.{DevEui}
use Rattle.std.proofs.lemmas.Slice.Eq.{bytes_eq-Decides}
use Rattle.ns_types.specs.Identity.{same_window}
use Rattle.ns_roster.specs.Network.{Network}
use Rattle.ns_calls.specs.declared.call.Reply.{Reply}
use Rattle.ns_calls.specs.declared.call.Reply.TheVariants.{Opened, Copied, Crowded, Old, NoSession, Busy, Ask, JoinCopied, JoinCrowded, NonceOld, NoDevice, JoinBusy, Accepted, JoinRefused, JoinStale, NoTicket, Closed, NoWindow, Again}
use Rattle.ns_calls.specs.declared.call.Entry.{Entry}
use Rattle.ns_calls.specs.Reply.{reply_to}
use Rattle.ns_calls.specs.Legal.{IsLegal}
use Rattle.ns_calls.specs.Headline.{IsLegalAfter}
use Rattle.ns_calls.specs.Decided.{same_number, same_reply, is_legal_after, is_legal}
use Rattle.ns_calls.proofs.LegalLemmas.{after-by_place, by_place-after}
use Rattle.ns_calls.proofs.JoinLemmas.{same_device-eq}
use Rattle.ns_calls.proofs.TicketLemmas.{same_ticket-eq}
use Rattle.ns_calls.proofs.NameLemmas.{same_window-eq, same_window-refl}

same_number-eq : (m n : Option ℕ) → same_number m n ≡ true → m ≡ n
same_number-eq None None is = refl
same_number-eq (Some m) (Some n) is = ap Some (eqb-true m n is)
same_number-eq _ _ is = absurd (cc is)

same_number-refl : (m : Option ℕ) → same_number m m ≡ true
same_number-refl None = refl
same_number-refl (Some m) = eq-eqb m m refl

device_and_session : (d e : DevEui) (s t : ℕ) → ((d.0 == e.0) && (s == t)) ≡ true → (d ≡ e) × (s ≡ t)
device_and_session d e s t is = (let parts = and_parts (d.0 == e.0) (s == t) is in (same_device-eq d e parts.0, eqb-true s t parts.1))

pub same_reply-eq : (r s : Reply) → same_reply r s ≡ true → r ≡ s
same_reply-eq (Opened v) (Opened w) is = ap Opened (same_window-eq v w is)
same_reply-eq (Copied v m) (Copied w n) is =
    let parts = and_parts (same_window v w) (m == n) is in
    ap₂ Copied (same_window-eq v w parts.0) (eqb-true m n parts.1)
same_reply-eq (Crowded v) (Crowded w) is = ap Crowded (same_window-eq v w is)
same_reply-eq (Old d s m) (Old e t n) is =
    let outer = and_parts ((d.0 == e.0) && (s == t)) (m == n) is in
    let eui = device_and_session d e s t outer.0 in
    let fcnt : m ≡ n = eqb-true m n outer.1 in
    λ i. Old (eui.0 i) (eui.1 i) (fcnt i)
same_reply-eq NoSession NoSession is = refl
same_reply-eq (Busy d) (Busy e) is = ap Busy (same_device-eq d e is)
same_reply-eq (Ask t) (Ask u) is = ap Ask (same_ticket-eq t u is)
same_reply-eq (JoinCopied m) (JoinCopied n) is = ap JoinCopied (eqb-true m n is)
same_reply-eq JoinCrowded JoinCrowded is = refl
same_reply-eq (NonceOld m) (NonceOld n) is = ap (λ (k : ℕ). NonceOld (record { 0 = k })) (eqb-true m.0 n.0 is)
same_reply-eq NoDevice NoDevice is = refl
same_reply-eq JoinBusy JoinBusy is = refl
same_reply-eq (Accepted d s a) (Accepted e t b) is =
    let outer = and_parts ((d.0 == e.0) && (s == t)) (a.0 == b.0) is in
    let eui = device_and_session d e s t outer.0 in
    let addr : a.0 ≡ b.0 = eqb-true a.0 b.0 outer.1 in
    λ i. Accepted (eui.0 i) (eui.1 i) (record { 0 = addr i })
same_reply-eq JoinRefused JoinRefused is = refl
same_reply-eq (JoinStale m) (JoinStale n) is = ap (λ (k : ℕ). JoinStale (record { 0 = k })) (eqb-true m.0 n.0 is)
same_reply-eq NoTicket NoTicket is = refl
same_reply-eq (Closed v m) (Closed w n) is =
    let parts = and_parts (same_window v w) (same_number m n) is in
    ap₂ Closed (same_window-eq v w parts.0) (same_number-eq m n parts.1)
same_reply-eq NoWindow NoWindow is = refl
same_reply-eq (Again v) (Again w) is = ap Again (same_window-eq v w is)
same_reply-eq _ _ is = absurd (cc is)

pub same_reply-refl : (r : Reply) → same_reply r r ≡ true
same_reply-refl (Opened w) = same_window-refl w
same_reply-refl (Copied w n) = and_from _ _ (same_window-refl w) (eq-eqb n n refl)
same_reply-refl (Crowded w) = same_window-refl w
same_reply-refl (Old e t n) = and_from _ _ (and_from _ _ (eq-eqb e.0 e.0 refl) (eq-eqb t t refl)) (eq-eqb n n refl)
same_reply-refl (Busy e) = eq-eqb e.0 e.0 refl
same_reply-refl (Ask t) = (bytes_eq-Decides t.0 t.0).1 refl
same_reply-refl (JoinCopied n) = eq-eqb n n refl
same_reply-refl (NonceOld n) = eq-eqb n.0 n.0 refl
same_reply-refl (Accepted e t b) = and_from _ _ (and_from _ _ (eq-eqb e.0 e.0 refl) (eq-eqb t t refl)) (eq-eqb b.0 b.0 refl)
same_reply-refl (JoinStale n) = eq-eqb n.0 n.0 refl
same_reply-refl (Closed w n) = and_from _ _ (same_window-refl w) (same_number-refl n)
same_reply-refl (Again w) = same_window-refl w
same_reply-refl _ = refl

tested-legal : (net : Network) (before es : List Entry) → is_legal_after net before es ≡ true → IsLegalAfter net before es
tested-legal net before [] is = tt
tested-legal net before (e ∷ es) is =
    let parts = and_parts (same_reply e.reply (reply_to net before e.call)) (is_legal_after net (before ++ e ∷ []) es) is in
    (same_reply-eq e.reply (reply_to net before e.call) parts.0, tested-legal net (before ++ e ∷ []) es parts.1)

legal-tested : (net : Network) (before es : List Entry) → IsLegalAfter net before es → is_legal_after net before es ≡ true
legal-tested net before [] legal = refl
legal-tested net before (e ∷ es) legal =
    and_from _ _ (subst (λ (r : Reply). same_reply e.reply r ≡ true) legal.0 (same_reply-refl e.reply)) (legal-tested net (before ++ e ∷ []) es legal.1)

pub is_legal-IsLegal : (net : Network) (h : List Entry) → is_legal net h ≡ true → IsLegal net h
is_legal-IsLegal net h is = after-by_place net [] h (tested-legal net [] h is)

pub IsLegal-is_legal : (net : Network) (h : List Entry) → IsLegal net h → is_legal net h ≡ true
IsLegal-is_legal net h legal = legal-tested net [] h (by_place-after net [] h legal)
