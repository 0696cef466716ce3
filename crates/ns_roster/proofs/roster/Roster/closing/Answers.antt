use Rattle.std.proofs.Common.{◌≡◌, ap, ◌∙◌, map, string_bytes}
use Rattle.std.proofs.lemmas.Result.{IfOk-weaker}
use Rattle.std.proofs.lemmas.Str.{IsUtf8-string_bytes}
use Rattle.serde_json.specs.View.{view, items_of}
use Rattle.ns_roster.specs.Network.{Network}
use Rattle.ns_roster.specs.Closing.{device_value, network_value, with_nonces}
use Rattle.ns_roster.proofs.ClosingLemmas.{has_float-network, depth-network, network-read, IsRoster-with}
use Rattle.ns_roster.proofs.roster.Roster.closing.Goals as goal

-- the value that is written, and what is read of its text
pub returns : goal.returns
returns c =
    let net : Network = with_nonces c.args.self.now c.args.nonces.now in
    let built : view c.in_ok-network_value.field-0 ≡ network_value net (items_of (map device_value net.devices)) = c.in_ok-network_value.ensures ∙ ap (λ ds. network_value net (items_of ds)) (rw c.devices.ensures.are at c.in_ok-devices.ensures.values) in
    let text = IfOk-weaker c.to_string.result _ _ (λ s text. rw built at (text (rw built (has_float-network net net.devices)))) c.to_string.ensures.text in
    let reads_back = IfOk-weaker c.to_string.result _ _
    (λ s back. network-read net (string_bytes s) (IsRoster-with c.args.self.now c.args.nonces.now c.requires c.devices.ensures.valid) (rw c.devices.ensures.are at c.in_ok-devices.ensures.spell) (IsUtf8-string_bytes s)
    (rw built at (back (rw built (depth-network net net.devices)))))
    c.to_string.ensures.reads_back in
    record { text = text; reads_back = reads_back }
