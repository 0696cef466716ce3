-- The law of a join, which the contract of a function that does nothing names.
use Rattle.std.specs.Prelude.{◌≡◌, ℕ, List, None}
use Rattle.ns_types.specs.declared.identity.DevNonce.{DevNonce}
use Rattle.ns_aes_cmac.specs.Aes.{IsBlock}
use Rattle.ns_secure.specs.Keys.{nwk_s_key, app_s_key}
use Rattle.ns_creator.specs.declared.join.JoinAcceptCreator.{JoinAcceptCreator}
use Rattle.ns_creator.specs.JoinFrame.{IsJoinAccept}
use Rattle.ns_device.specs.declared.session.Session.{Session}
use Rattle.ns_device.specs.Accept.{deciphered, accept_fault, session_of_accept}

-- the session that a Join-Accept with these fields begins, in answer to the Join-Request with this nonce (6.2.6)
abbrev pub session_of : List ℕ → DevNonce → JoinAcceptCreator → Session
session_of app_key nonce a = record {
  addr = a.addr;
  nwk = record { 0 = nwk_s_key app_key a.join_nonce a.net_id.0 nonce.0 };
  app = record { 0 = app_s_key app_key a.join_nonce a.net_id.0 nonce.0 };
}

-- a device takes each Join-Accept that is made under its AppKey, and has the session of its fields
abbrev pub CreatedAcceptsAreTaken : Type 0
CreatedAcceptsAreTaken = (app_key frame : List ℕ) (a : JoinAcceptCreator) (nonce : DevNonce) → IsBlock app_key → IsJoinAccept app_key frame a →
    (accept_fault app_key frame ≡ None) × (session_of_accept app_key nonce (deciphered app_key frame) ≡ session_of app_key nonce a)
