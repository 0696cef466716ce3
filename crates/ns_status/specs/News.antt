-- What a call and its reply tell of a device, and of a gateway.
use Rattle.std.specs.Prelude.{ℕ, Bool, true, false, List, Option, Some, None}
use Rattle.ns_types.specs.declared.identity.GatewayId.{GatewayId}
use Rattle.ns_types.specs.declared.identity.WindowName.{WindowName}
use Rattle.ns_types.specs.declared.heard.Heard.{Heard as heard_copy}
use Rattle.ns_views.specs.Frame.{data_fields}
use Rattle.ns_calls.specs.declared.call.Call.{Call}
use Rattle.ns_calls.specs.declared.call.Call.TheVariants.{Uplink, Join, JoinReply, Close}
use Rattle.ns_calls.specs.declared.call.Reply.{Reply}
use Rattle.ns_calls.specs.declared.call.Reply.TheVariants as reply
use Rattle.ns_status.specs.declared.news.News.{News}
use Rattle.ns_status.specs.declared.news.News.TheVariants.{Joined, Heard}

-- a frame that was heard in a window
abbrev pub heard_in : List ℕ → heard_copy → WindowName → Bool → News
heard_in frame heard window is_new = Heard window (record { 0 = (data_fields frame).addr }) heard.gateway is_new

-- what a frame and the reply to it tell
abbrev pub news_of_frame : List ℕ → heard_copy → Reply → Option News
news_of_frame frame heard (reply.Opened window) = Some (heard_in frame heard window true)
news_of_frame frame heard (reply.Copied window place) = Some (heard_in frame heard window false)
news_of_frame frame heard (reply.Crowded window) = Some (heard_in frame heard window false)
news_of_frame frame heard (reply.Again window) = Some (heard_in frame heard window false)
news_of_frame frame heard _ = None

-- what a call tells whose reply begins no session
abbrev pub news_of_call : Call → Reply → Option News
news_of_call (Uplink frame heard) r = news_of_frame frame heard r
news_of_call _ r = None

-- what a call and its reply tell of a device
abbrev pub news_of : Call → Reply → Option News
news_of call (reply.Accepted eui session addr) = Some (Joined eui session addr)
news_of call r = news_of_call call r

-- the gateway of a call
abbrev pub gateway_of : Call → Option GatewayId
gateway_of (Uplink frame heard) = Some heard.gateway
gateway_of (Join ticket heard) = Some heard.gateway
gateway_of (JoinReply ticket outcome) = None
gateway_of (Close window) = None
