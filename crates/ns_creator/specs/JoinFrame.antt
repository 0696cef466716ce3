-- The frames of a join as they are written (LoRaWAN L2 1.0.4, 6.2.5 and 6.2.6). Reserved bits are 0.
use Rattle.std.specs.Prelude.{◌≡◌, ℕ, ◌+◌, ◌^◌, ◌<◌, nat_lt, List, [], ◌∷◌, ◌++◌, length, take, is_some, Option, None, Some, if◌then◌else◌}
use Rattle.std.specs.Int.{w16, w32, w64, to_le_bytes}
use Rattle.ns_types.specs.Bytes.{AreBytes}
use Rattle.ns_views.specs.Grammar.{JoinFields, mhdr, join_request}
use Rattle.ns_secure.specs.Integrity.{join_mic}
use Rattle.ns_secure.specs.Cipher.{accept_cipher}
use Rattle.ns_creator.specs.declared.fault.CreateFault.{CreateFault}
use Rattle.ns_creator.specs.declared.fault.CreateFault.TheVariants.{BufferTooShort}
use Rattle.ns_creator.specs.declared.join.JoinRequestCreator.{JoinRequestCreator}
use Rattle.ns_creator.specs.declared.join.JoinAcceptCreator.{JoinAcceptCreator}

-- ---- the Join-Request (6.2.5)

-- all that its MIC is over
abbrev pub request_before_mic : JoinRequestCreator → List ℕ
request_before_mic r = mhdr join_request 0 ∷ to_le_bytes w64 r.join_eui.0 ++ to_le_bytes w64 r.dev_eui.0 ++ to_le_bytes w16 r.nonce.0

-- its fields as they go out, under AppKey
abbrev pub request_fields : List ℕ → JoinRequestCreator → JoinFields
request_fields app_key r = record { join_eui = r.join_eui.0; dev_eui = r.dev_eui.0; nonce = r.nonce.0; mic = join_mic app_key (request_before_mic r) }

-- the frame
unfoldable pub join_request_frame : List ℕ → JoinRequestCreator → List ℕ
join_request_frame app_key r = request_before_mic r ++ join_mic app_key (request_before_mic r)

-- ---- the Join-Accept (6.2.6)

-- the frame type (4.2.1)
abbrev pub join_accept : ℕ
join_accept = 1

abbrev pub cflist_bytes : Option (List ℕ) → List ℕ
cflist_bytes None = []
cflist_bytes (Some bytes) = bytes

-- its plain fields, one after the other
abbrev pub accept_fields : JoinAcceptCreator → List ℕ
accept_fields a = a.join_nonce ++ take 3 (to_le_bytes w32 a.net_id.0) ++ to_le_bytes w32 a.addr.0 ++ a.dl_settings ∷ a.rx_delay ∷ cflist_bytes a.cflist

-- its MIC, which is over MHDR too
abbrev pub accept_mic : List ℕ → JoinAcceptCreator → List ℕ
accept_mic app_key a = join_mic app_key (mhdr join_accept 0 ∷ accept_fields a)

-- the frame before it is enciphered
abbrev pub plain_accept : List ℕ → JoinAcceptCreator → List ℕ
plain_accept app_key a = mhdr join_accept 0 ∷ accept_fields a ++ accept_mic app_key a

-- the frame: all but MHDR is enciphered
unfoldable pub join_accept_frame : List ℕ → JoinAcceptCreator → List ℕ
join_accept_frame app_key a = mhdr join_accept 0 ∷ accept_cipher app_key (accept_fields a ++ accept_mic app_key a)

-- how many bytes it has
abbrev pub accept_size : JoinAcceptCreator → ℕ
accept_size a = if is_some a.cflist then 33 else 17

-- the bytes are the Join-Accept with these fields, under this AppKey
pub record IsJoinAccept (app_key frame : List ℕ) (a : JoinAcceptCreator) : Type 0 where
  pub is : frame ≡ join_accept_frame app_key a
  pub join_nonce : length a.join_nonce ≡ 3
  pub net_id : a.net_id.0 < 2 ^ 24
  pub addr : a.addr.0 < 2 ^ 32
  pub size : 5 + length (accept_fields a) ≡ accept_size a
  pub mic : length (accept_mic app_key a) ≡ 4
  pub plain_bytes : AreBytes (accept_fields a ++ accept_mic app_key a)

-- ---- both

-- the fault where a frame of this size doesn't fit this room
abbrev pub room_fault : ℕ → ℕ → Option CreateFault
room_fault size room = if nat_lt room size then Some (BufferTooShort size) else None
