use Rattle.std.proofs.Common.{◌≡◌, string_bytes, rules}
use Rattle.std.proofs.lemmas.Result.{IfOk-weaker}
use Rattle.std.proofs.lemmas.Str.{IsUtf8-string_bytes}
use Rattle.serde_json.specs.View.{view}
use Rattle.ns_device.specs.Reply.{message}
use Rattle.ns_device.proofs.Replies.{value_of-read, read-message, depth-message}
use Rattle.ns_device.proofs.answer.Answer.text.Goals as goal

pub returns-clause-read : goal.returns-clause-read
returns-clause-read c =
    let answer = c.args.self.now in
    let t = c.args.transaction in
    let built : view c.in_ok-message.message ≡ message answer t = search rules in
    IfOk-weaker c.to_string.result _ _
    (λ s back. read-message answer (string_bytes s) t c.ranges.transaction.fits
    (value_of-read (string_bytes s) (message answer t) (IsUtf8-string_bytes s) (rw (← built) (back (rw built (depth-message answer t)))))
    c.requires c.in_ok-message.ensures.reads_back)
    c.to_string.ensures.reads_back
