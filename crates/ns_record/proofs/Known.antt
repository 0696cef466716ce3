-- What is known of an answer that a join server's text spells: its keys and its Join-Accept are bytes, and are read back from their hex.
use Rattle.std.proofs.Common.{◌≡◌, ℕ, ◌+◌, ◌*◌, ◌==◌, ◌<◌, ◌≤◌, ◌&&◌, true, List, length, drop, slice_index, Option, None, Some, option_and_then, refl, sym, ap, subst, ◌∙◌, arith}
use Rattle.std.specs.Prelude.{Ok, if◌then◌else◌}
use Rattle.std.specs.Option.{option_or}
use Rattle.std.proofs.lemmas.Bool.{cond_both}
use Rattle.std.proofs.lemmas.Option.{cond_some, same_Some}
use Rattle.std.proofs.lemmas.List.{length-drop}
use Rattle.hex.specs.Hex.{decode_sized, encode_lower, lower_digits, IsBytes}
use Rattle.hex.proofs.HexLemmas.{decode_of-ok, decode_sized-ok, decode_sized-twice, length-encode_with}
use Rattle.ns_types.proofs.ResultLemmas.{bind-some}
use Rattle.ns_calls.specs.declared.accept.JoinAccept.{JoinAccept}
use Rattle.ns_calls.specs.declared.accept.JoinAccept.TheVariants.{Plain, WithChannels}
use Rattle.ns_calls.specs.Accept.{accept_bytes, accept_of}
use Rattle.ns_roster.specs.Field.{without_0x, hex_bytes}
use Rattle.ns_roster.proofs.HexLemmas.{hex_bytes-encode_lower}
use Rattle.ns_steps.proofs.SpelledLemmas.{ok-is}
use Rattle.ns_joinwire.specs.Parts.{is_join_accept, frame_of, join_accept_of}

-- the bytes that a text of hex spells
pub record AreRead (n : ℕ) (text bytes : List ℕ) : Type 0 where
  pub sized : length bytes ≡ n
  pub spelled : length (without_0x text) ≡ 2 * n
  pub are : IsBytes bytes

sized-read : (n : ℕ) (s bytes : List ℕ) → decode_sized s n ≡ Ok bytes → (length s ≡ 2 * n) × (length bytes ≡ n) × IsBytes bytes
sized-read n s bytes is =
    let long : length s ≡ 2 * n = decode_sized-ok s n bytes is in
    let ok = decode_of-ok s bytes (sym (decode_sized-twice s n long) ∙ is) in
    (long, omega (arith, long, ok.2), ok.3)

pub hex-read : (n : ℕ) (text bytes : List ℕ) → hex_bytes n text ≡ Some bytes → AreRead n text bytes
hex-read n text bytes is =
    let s = sized-read n (without_0x text) bytes (ok-is (decode_sized (without_0x text) n) bytes is) in
    record { sized = s.1; spelled = s.0; are = s.2 }

-- no more than two bytes are left out before hex digits
short : (text : List ℕ) → length text ≤ length (without_0x text) + 2
short text =
    cond_both ((slice_index text 0 == 48) && (slice_index text 1 == 120)) (drop 2 text) text (λ l. length text ≤ length l + 2) (λ _. omega (arith, length-drop 2 text)) (λ _. omega arith)

-- the hex of 33 bytes is not that of 17
other : (bytes : List ℕ) → length bytes ≡ 33 → hex_bytes 17 (encode_lower bytes) ≡ None
other bytes long = by (hex_bytes 17 (encode_lower bytes)) refl
  where
    by : (o : Option (List ℕ)) → hex_bytes 17 (encode_lower bytes) ≡ o → o ≡ None
    by None at = refl
    by (Some found) at =
        let read = hex-read 17 (encode_lower bytes) found at in
        absurd (omega (arith, read.spelled, short (encode_lower bytes), length-encode_with lower_digits bytes, long))

-- ---- the Join-Accept

checked : (o : Option JoinAccept) (accept : JoinAccept) → option_and_then (λ frame. if is_join_accept (accept_bytes frame) then Some frame else None) o ≡ Some accept
    → (o ≡ Some accept) × (is_join_accept (accept_bytes accept) ≡ true)
checked o accept h =
    let (frame, is, kept) = bind-some o _ accept h in
    let (ok, same) = cond_some (is_join_accept (accept_bytes frame)) frame accept kept in
    (is ∙ ap Some same, subst (λ (a : JoinAccept). is_join_accept (accept_bytes a) ≡ true) same ok)

-- the hex of a Join-Accept is read as it
abbrev IsReadBack : JoinAccept → Type 0
IsReadBack accept = (join_accept_of (encode_lower (accept_bytes accept)) ≡ Some accept) × ((i : ℕ) → slice_index (accept_bytes accept) i < 256)

plain-back : (bytes : List ℕ) → length bytes ≡ 17 → IsBytes bytes → is_join_accept bytes ≡ true → IsReadBack (Plain bytes)
plain-back bytes sized are is = (rw (hex_bytes-encode_lower bytes 17 sized are, sized, is) refl, are)

channels-back : (bytes : List ℕ) → length bytes ≡ 33 → IsBytes bytes → is_join_accept bytes ≡ true → IsReadBack (WithChannels bytes)
channels-back bytes sized are is = (rw (other bytes sized, hex_bytes-encode_lower bytes 33 sized are, sized, is) refl, are)

pub accept-back : (text : List ℕ) (accept : JoinAccept) → join_accept_of text ≡ Some accept → IsReadBack accept
accept-back text accept is =
    let c = checked (frame_of text) accept is in
    by (hex_bytes 17 text) refl (hex_bytes 33 text) refl c.0 c.1
  where
    by : (short : Option (List ℕ)) → hex_bytes 17 text ≡ short → (long : Option (List ℕ)) → hex_bytes 33 text ≡ long → option_and_then accept_of (option_or short long) ≡ Some accept → is_join_accept (accept_bytes accept) ≡ true → IsReadBack accept
    by (Some bytes) at long _ found ok =
        let read = hex-read 17 text bytes at in
        let same : Plain bytes ≡ accept = same_Some (Plain bytes) accept (rw read.sized at found) in
        subst IsReadBack same (plain-back bytes read.sized read.are (subst (λ (a : JoinAccept). is_join_accept (accept_bytes a) ≡ true) (sym same) ok))
    by None _ (Some bytes) at found ok =
        let read = hex-read 33 text bytes at in
        let same : WithChannels bytes ≡ accept = same_Some (WithChannels bytes) accept (rw read.sized at found) in
        subst IsReadBack same (channels-back bytes read.sized read.are (subst (λ (a : JoinAccept). is_join_accept (accept_bytes a) ≡ true) (sym same) ok))
    by None _ None _ found ok = absurd (cc found)
