-- The lines of joins and acknowledgements, by the reply of a receipt.
use Rattle.std.proofs.Common.{◌≡◌, ℕ, List, Option, Some, sym, subst}
use Rattle.ns_types.specs.declared.identity.DevEui.{DevEui}
use Rattle.ns_types.specs.declared.identity.DevAddr.{DevAddr}
use Rattle.ns_types.specs.declared.identity.WindowName.{WindowName}
use Rattle.ns_calls.specs.declared.answer.Downlink.{Downlink}
use Rattle.ns_calls.specs.declared.call.Reply.TheVariants.{Accepted, Closed}
use Rattle.ns_output.specs.declared.times.Utc.{Utc}
use Rattle.ns_events.specs.Notice.{join_json, ack_json}
use Rattle.ns_outside.specs.declared.receipt.Receipt.{Receipt}
use Rattle.ns_serve_events.specs.Notices.{IsNoticeAs, IsNoticeOf}

pub is_join : (time : Option Utc) (r : Receipt) (text : List ℕ) (eui : DevEui) (session : ℕ) (addr : DevAddr)
    → r.entry.reply ≡ Accepted eui session addr → text ≡ join_json time eui.0 addr.0 session → IsNoticeOf time r text
is_join time r text eui session addr is same = subst (λ reply. IsNoticeAs time reply r.downlink text) (sym is) same

pub is_ack : (time : Option Utc) (r : Receipt) (text : List ℕ) (w : WindowName) (ack : Option ℕ) (d : Downlink) (addr : DevAddr)
    → r.entry.reply ≡ Closed w ack → r.downlink ≡ Some d → text ≡ ack_json time w addr.0 d.target.gateway.0 → IsNoticeOf time r text
is_ack time r text w ack d addr is down same = subst (λ reply. IsNoticeAs time reply r.downlink text) (sym is) (d, addr.0, down, same)
