-- A join server for tests: what it knows, and what it answers.
use Rattle.std.specs.Prelude.{ℕ, ◌≡◌, ◌≤◌, ◌+◌, ◌==◌, Bool, List, take, drop, bytes_eq, nat_eq, Option, Some, None, if◌then◌else◌}
use Rattle.std.specs.Int.{w32, to_le_bytes}
use Rattle.std.specs.Map.{lookup}
use Rattle.serde_json.specs.Written.{compact_text}
use Rattle.ns_types.specs.declared.identity.DevEui.{DevEui}
use Rattle.ns_types.specs.declared.identity.Key.{Key}
use Rattle.ns_types.specs.declared.ticket.Ticket.{Ticket}
use Rattle.ns_types.specs.Ticket.{dev_eui, nonce}
use Rattle.ns_secure.specs.Integrity.{join_mic}
use Rattle.ns_secure.specs.Keys.{nwk_s_key, app_s_key}
use Rattle.ns_creator.specs.declared.join.JoinAcceptCreator.{JoinAcceptCreator}
use Rattle.ns_creator.specs.JoinFrame.{join_accept_frame}
use Rattle.ns_device.specs.declared.request.JoinReq.{JoinReq}
use Rattle.ns_device.specs.declared.answer.Grant.{Grant}
use Rattle.ns_device.specs.declared.answer.Answer.{Answer}
use Rattle.ns_device.specs.declared.answer.Answer.TheVariants.{Success, MicFailed, Other}
use Rattle.ns_device.specs.Reply.{message, is_success}

-- a join server: the DevEUIs that it knows, each with its AppKey, and the JoinNonce of its next Join-Accept
pub record JoinServer : Type 0 where
  pub app_keys : List (ℕ × Key)
  pub next_join_nonce : ℕ

-- the AppKey of a DevEUI
abbrev pub app_key : JoinServer → ℕ → Option Key
app_key server eui = lookup (nat_eq eui) server.app_keys

-- a JoinNonce is 1 to 16,777,215 (24 bits)
abbrev pub IsJoinNonce : ℕ → Type 0
IsJoinNonce n = (1 ≤ n) × (n ≤ 16777215)

-- the JoinNonce behind this one
abbrev pub join_nonce_after : ℕ → ℕ
join_nonce_after n = if n == 16777215 then 1 else n + 1

-- a device has this AppKey now, and all else is as before
pub record HasAdded (old : JoinServer) (eui : DevEui) (key : Key) (new : JoinServer) : Type 0 where
  pub app_keys : (e : ℕ) → app_key new e ≡ (if eui.0 == e then Some key else app_key old e)
  pub next_join_nonce : new.next_join_nonce ≡ old.next_join_nonce

-- whether the Join-Request's MIC is that of the AppKey (LoRaWAN L2 1.0.4, 6.2.5)
abbrev pub join_mic_fits : Ticket → List ℕ → Bool
join_mic_fits ticket key = bytes_eq (join_mic key (take 19 ticket.0)) (drop 19 ticket.0)

-- JoinNonce as the Join-Accept has it: three bytes, the lowest first
abbrev pub join_nonce_bytes : ℕ → List ℕ
join_nonce_bytes n = take 3 (to_le_bytes w32 n)

-- the Join-Accept's fields: those of the request, and no CFList (LoRaWAN L2 1.0.4, 6.2.6)
abbrev pub accept_of : JoinReq → ℕ → JoinAcceptCreator
accept_of r n = record { join_nonce = join_nonce_bytes n; net_id = r.net_id; addr = r.addr; dl_settings = r.dl_settings; rx_delay = r.rx_delay; cflist = None }

-- what the device with this AppKey is granted, with this JoinNonce
abbrev pub granted : JoinReq → Key → ℕ → Grant
granted r key n = record {
  accept = join_accept_frame key.0 (accept_of r n);
  nwk = record { 0 = nwk_s_key key.0 (join_nonce_bytes n) r.net_id.0 (nonce r.ticket).0 };
  app = record { 0 = app_s_key key.0 (join_nonce_bytes n) r.net_id.0 (nonce r.ticket).0 };
}

-- what is answered to a request, of a device with this AppKey, if any
abbrev pub answer_under : Option Key → ℕ → JoinReq → Answer
answer_under None n r = Other
answer_under (Some key) n r = if join_mic_fits r.ticket key.0 then Success (granted r key n) else MicFailed

abbrev pub answer_to : JoinServer → JoinReq → Answer
answer_to server r = answer_under (app_key server (dev_eui r.ticket).0) server.next_join_nonce r

-- the text of it
abbrev pub answer_text : JoinServer → JoinReq → List ℕ
answer_text server r = compact_text (message (answer_to server r) r.transaction)

-- the server after it: a Join-Accept has used its JoinNonce
abbrev pub after : JoinServer → JoinReq → JoinServer
after server r = if is_success (answer_to server r) then record server { next_join_nonce = join_nonce_after server.next_join_nonce } else server
