-- How a device reads a Join-Accept (LoRaWAN L2 1.0.4, 6.2.6).
use Rattle.std.specs.Prelude.{ℕ, ◌-◌, ◌/◌, ◌%◌, Bool, ◌||◌, ◌&&◌, not, ◌==◌, List, [], ◌∷◌, ◌++◌, length, take, drop, slice_index, bytes_eq, Option, None, Some, if◌then◌else◌}
use Rattle.std.specs.Int.{w32, from_le_bytes}
use Rattle.ns_types.specs.declared.identity.DevNonce.{DevNonce}
use Rattle.ns_secure.specs.Integrity.{join_mic}
use Rattle.ns_secure.specs.Cipher.{accept_decipher}
use Rattle.ns_secure.specs.Keys.{nwk_s_key, app_s_key}
use Rattle.ns_device.specs.declared.fault.DeviceFault.{DeviceFault}
use Rattle.ns_device.specs.declared.fault.DeviceFault.TheVariants.{Length, FrameType, Mic}
use Rattle.ns_device.specs.declared.session.Session.{Session}

-- the frame with its fields and its MIC plain: all but MHDR is enciphered
unfoldable pub deciphered : List ℕ → List ℕ → List ℕ
deciphered app_key frame = take 1 frame ++ accept_decipher app_key (drop 1 frame)

-- whether a deciphered frame has its MIC, which is over all before it
abbrev pub has_mic : List ℕ → List ℕ → Bool
has_mic app_key plain = bytes_eq (join_mic app_key (take (length plain - 4) plain)) (drop (length plain - 4) plain)

-- the first fault of bytes that are no Join-Accept under this AppKey
abbrev pub accept_fault : List ℕ → List ℕ → Option DeviceFault
accept_fault app_key frame =
    if not ((length frame == 17) || (length frame == 33)) then Some Length
    else if not ((slice_index frame 0 / 32 == 1) && (slice_index frame 0 % 4 == 0)) then Some FrameType
    else if not (has_mic app_key (deciphered app_key frame)) then Some Mic
    else None

-- the session that a deciphered frame begins: JoinNonce, NetID and DevAddr are three, three and four bytes behind MHDR
abbrev pub session_of_accept : List ℕ → DevNonce → List ℕ → Session
session_of_accept app_key nonce plain =
    let join_nonce = take 3 (drop 1 plain) in
    let net_id = from_le_bytes w32 (take 3 (drop 4 plain) ++ 0 ∷ []) in
    record {
      addr = record { 0 = from_le_bytes w32 (take 4 (drop 7 plain)) };
      nwk = record { 0 = nwk_s_key app_key join_nonce net_id nonce.0 };
      app = record { 0 = app_s_key app_key join_nonce net_id nonce.0 };
    }
