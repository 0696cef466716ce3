use Rattle.std.proofs.Common.{◌≡◌, arith, rules}
use Rattle.std.proofs.lemmas.Result.{IfOk-weaker}
use Rattle.std.proofs.lemmas.Str.{IsUtf8-string_bytes}
use Rattle.serde_json.specs.View.{view}
use Rattle.ns_joinwire.specs.JoinReq.{fields_of, message}
use Rattle.ns_joinwire.proofs.RequestLemmas.{AsksAbout-message}
use Rattle.ns_joinwire.proofs.request.join_req.Goals as goal

pub returns-clause-asks : goal.returns-clause-asks
returns-clause-asks c =
    let net = c.args.roster.now in
    let built : view c.in_ok-message.field-0 ≡ message (fields_of net c.args.device.now c.args.ticket.now) = search rules in
    IfOk-weaker c.to_string.result _ _ (λ s back. AsksAbout-message net c.args.device.now c.args.ticket.now _ (IsUtf8-string_bytes s) (rw (← built) (back (rw built (omega arith)))) c.in_ok-fields.ensures.frame)
    c.to_string.ensures.reads_back
