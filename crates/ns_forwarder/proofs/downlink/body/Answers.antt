use Rattle.std.proofs.Common.{◌≡◌, string_bytes}
use Rattle.std.proofs.lemmas.Result.{IfOk-weaker}
use Rattle.std.proofs.lemmas.Str.{IsUtf8-string_bytes}
use Rattle.serde_json.specs.View.{view}
use Rattle.ns_roster.proofs.TextLemmas.{value_of-some}
use Rattle.ns_forwarder.specs.Txpk.{request}
use Rattle.ns_forwarder.proofs.TxpkLemmas.{depth-request}
use Rattle.ns_forwarder.proofs.downlink.body.Goals as goal

pub returns : goal.returns
returns c =
    let t = c.args.target.now in
    let built : view c.in_ok-request.field-0 ≡ request t c.args.power c.args.frame.now = c.in_ok-request.ensures in
    IfOk-weaker c.to_string.result _ _
    (λ s back. value_of-some (string_bytes s) _ (IsUtf8-string_bytes s) (rw (← built) (back (rw built (depth-request t c.args.power c.args.frame.now)))))
    c.to_string.ensures.reads_back
