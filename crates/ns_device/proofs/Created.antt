-- A device takes a Join-Accept that a creator made, and has its session.
use Rattle.std.proofs.Common.{◌≡◌, ℕ, suc, ◌+◌, ◌-◌, ◌^◌, ◌<◌, ◌⊎◌, Bool, true, false, List, [], ◌∷◌, ◌++◌, length, take, drop, None, is_some, if◌then◌else◌, bytes_eq, eq-eqb, slice_index, inl, inr, refl, ap, ◌∙◌, arith, length-append}
use Rattle.std.proofs.Math.Seq.{take-append_seam, drop-append_seam}
use Rattle.std.proofs.lemmas.Nat.{from_le_bytes-to_le_bytes_4}
use Rattle.std.specs.Int.{w32, to_le_bytes, from_le_bytes}
use Rattle.ns_types.specs.declared.identity.DevNonce.{DevNonce}
use Rattle.ns_aes_cmac.specs.Aes.{IsBlock}
use Rattle.ns_secure.specs.Integrity.{join_mic}
use Rattle.ns_secure.specs.Keys.{nwk_s_key, app_s_key}
use Rattle.ns_creator.specs.declared.join.JoinAcceptCreator.{JoinAcceptCreator}
use Rattle.ns_creator.specs.JoinFrame.{IsJoinAccept, accept_fields, accept_mic, plain_accept, join_accept_frame, cflist_bytes}
use Rattle.ns_device.specs.declared.session.Session.{Session}
use Rattle.ns_device.specs.Accept.{deciphered, accept_fault, has_mic, session_of_accept}
use Rattle.ns_device.specs.Laws.{CreatedAcceptsAreTaken}
use Rattle.ns_device.proofs.Undo.{Undoes, undone, length-accept_cipher}

bytes_same : (xs : List ℕ) → bytes_eq xs xs ≡ true
bytes_same [] = refl
bytes_same (x ∷ xs) = rw (eq-eqb x x refl, bytes_same xs) refl

-- the last four bytes, and those before them
front : (s m : List ℕ) → length m ≡ 4 → take (length (s ++ m) - 4) (s ++ m) ≡ s
front s m h = let e : length (s ++ m) - 4 ≡ length s = omega (arith, length-append s m) in rw e (take-append_seam s m)

back : (s m : List ℕ) → length m ≡ 4 → drop (length (s ++ m) - 4) (s ++ m) ≡ m
back s m h = let e : length (s ++ m) - 4 ≡ length s = omega (arith, length-append s m) in rw e (drop-append_seam s m)

-- the MIC of what a creator made fits
join_mic_fits : (app_key signed : List ℕ) → length (join_mic app_key signed) ≡ 4 → has_mic app_key (signed ++ join_mic app_key signed) ≡ true
join_mic_fits app_key signed h = rw (front signed (join_mic app_key signed) h, back signed (join_mic app_key signed) h) (bytes_same (join_mic app_key signed))

-- ---- the sizes

sizes : (list : Bool) (n : ℕ) → n ≡ (if list then 33 else 17) → (n ≡ 17) ⊎ (n ≡ 33)
sizes true n e = inr e
sizes false n e = inl e

plain_size : (app_key frame : List ℕ) (a : JoinAcceptCreator) → IsJoinAccept app_key frame a → (length (accept_fields a ++ accept_mic app_key a) ≡ 16) ⊎ (length (accept_fields a ++ accept_mic app_key a) ≡ 32)
plain_size app_key frame a h =
    elim (sizes (is_some a.cflist) (5 + length (accept_fields a)) h.size) [
      | inl short ↦ inl (omega (arith, length-append (accept_fields a) (accept_mic app_key a), h.mic, short))
      | inr long ↦ inr (omega (arith, length-append (accept_fields a) (accept_mic app_key a), h.mic, long))
    ]

-- ---- what is deciphered

deciphered_is : Undoes → (app_key frame : List ℕ) (a : JoinAcceptCreator) → IsBlock app_key → IsJoinAccept app_key frame a → deciphered app_key frame ≡ plain_accept app_key a
unfolding deciphered join_accept_frame
deciphered_is undoes app_key frame a k h =
    let plain = accept_fields a ++ accept_mic app_key a in
    rw h.is (ap (λ p. 0x20 ∷ p) (undone undoes app_key plain k h.plain_bytes (plain_size app_key frame a h)))

-- ---- no fault

passes : (app_key frame plain : List ℕ) → (length frame ≡ 17) ⊎ (length frame ≡ 33) → slice_index frame 0 ≡ 0x20 → deciphered app_key frame ≡ plain → has_mic app_key plain ≡ true → accept_fault app_key frame ≡ None
passes app_key frame plain size first is fits =
    elim size [
      | inl short ↦ rw (short, first, is, fits) refl
      | inr long ↦ rw (long, first, is, fits) refl
    ]

frame_size : (app_key frame : List ℕ) (a : JoinAcceptCreator) → IsBlock app_key → IsJoinAccept app_key frame a → (length frame ≡ 17) ⊎ (length frame ≡ 33)
unfolding join_accept_frame
frame_size app_key frame a k h =
    let size = plain_size app_key frame a h in
    let same = length-accept_cipher app_key (accept_fields a ++ accept_mic app_key a) k.0 size in
    elim size [
      | inl short ↦ inl (ap length h.is ∙ ap (λ n. suc n) (same ∙ short))
      | inr long ↦ inr (ap length h.is ∙ ap (λ n. suc n) (same ∙ long))
    ]

pub first_is : (app_key frame : List ℕ) (a : JoinAcceptCreator) → IsJoinAccept app_key frame a → slice_index frame 0 ≡ 0x20
unfolding join_accept_frame
first_is app_key frame a h = rw h.is refl

no_fault : Undoes → (app_key frame : List ℕ) (a : JoinAcceptCreator) → IsBlock app_key → IsJoinAccept app_key frame a → accept_fault app_key frame ≡ None
no_fault undoes app_key frame a k h =
    passes app_key frame (plain_accept app_key a) (frame_size app_key frame a k h) (first_is app_key frame a h) (deciphered_is undoes app_key frame a k h) (join_mic_fits app_key (0x20 ∷ accept_fields a) h.mic)

-- ---- the session

-- a NetID of 24 bits is its three lowest bytes
net_is : (n : ℕ) → n < 2 ^ 24 → from_le_bytes w32 (take 3 (to_le_bytes w32 n) ++ 0 ∷ []) ≡ n
net_is n h = omega arith

session : List ℕ → DevNonce → ℕ → List ℕ → ℕ → Session
session app_key nonce addr join_nonce net_id = record {
  addr = record { 0 = addr };
  nwk = record { 0 = nwk_s_key app_key join_nonce net_id nonce.0 };
  app = record { 0 = app_s_key app_key join_nonce net_id nonce.0 };
}

-- the session in the plain frame of these fields, with a JoinNonce of three bytes
in_plain : (app_key : List ℕ) (nonce : DevNonce) (n o p net addr : ℕ) (rest : List ℕ) → net < 2 ^ 24 → addr < 2 ^ 32 →
    session_of_accept app_key nonce (0x20 ∷ n ∷ o ∷ p ∷ take 3 (to_le_bytes w32 net) ++ to_le_bytes w32 addr ++ rest) ≡ session app_key nonce addr (n ∷ o ∷ p ∷ []) net
unfolding session
in_plain app_key nonce n o p net addr rest small fits =
    ap (λ m. session app_key nonce (from_le_bytes w32 (to_le_bytes w32 addr)) (n ∷ o ∷ p ∷ []) m) (net_is net small)
    ∙ ap (λ b. session app_key nonce b (n ∷ o ∷ p ∷ []) net) (from_le_bytes-to_le_bytes_4 addr fits)

in_made : (app_key : List ℕ) (nonce : DevNonce) (join_nonce : List ℕ) (net addr settings delay : ℕ) (list mic_bytes : List ℕ) → length join_nonce ≡ 3 → net < 2 ^ 24 → addr < 2 ^ 32 →
    session_of_accept app_key nonce (0x20 ∷ (join_nonce ++ take 3 (to_le_bytes w32 net) ++ to_le_bytes w32 addr ++ settings ∷ delay ∷ list) ++ mic_bytes) ≡ session app_key nonce addr join_nonce net
in_made app_key nonce (n ∷ o ∷ p ∷ []) net addr settings delay list mic_bytes e small fits = in_plain app_key nonce n o p net addr (settings ∷ delay ∷ list ++ mic_bytes) small fits
in_made app_key nonce [] net addr settings delay list mic_bytes e small fits = absurd (omega (arith, e))
in_made app_key nonce (n ∷ []) net addr settings delay list mic_bytes e small fits = absurd (omega (arith, e))
in_made app_key nonce (n ∷ o ∷ []) net addr settings delay list mic_bytes e small fits = absurd (omega (arith, e))
in_made app_key nonce (n ∷ o ∷ p ∷ q ∷ xs) net addr settings delay list mic_bytes e small fits = absurd (omega (arith, e))

pub taken : Undoes → CreatedAcceptsAreTaken
unfolding session
taken undoes app_key frame a nonce k h = (
  no_fault undoes app_key frame a k h,
  ap (session_of_accept app_key nonce) (deciphered_is undoes app_key frame a k h)
      ∙ in_made app_key nonce a.join_nonce a.net_id.0 a.addr.0 a.dl_settings a.rx_delay (cflist_bytes a.cflist) (accept_mic app_key a) h.join_nonce h.net_id h.addr,
)
