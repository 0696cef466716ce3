use Rattle.std.proofs.Common.{◌≡◌, ◌∷◌, length, get_or, ◌∙◌, rules, string_bytes}
use Rattle.ns_forwarder.proofs.TxpkLemmas.{says, token-is}
use Rattle.ns_forwarder.proofs.downlink.pull_resp.Goals as goal

pub returns-clause-is : goal.returns-clause-is
returns-clause-is c =
    let token = c.args.token in
    let body = string_bytes c.in_ok-text.text in
    let len : length token ≡ 2 = search rules in
    let written : c.extend_from_slice-2.new.self.items ≡ c.args.version ∷ get_or token 0 0 ∷ get_or token 1 0 ∷ 3 ∷ body = search rules in
    record { body = body; parts = written ∙ token-is token len c.args.version (3 ∷ body); is_read = c.in_ok-text.ensures }

pub returns-clause-says : goal.returns-clause-says
returns-clause-says c = says c.args.target.now c.args.power c.args.frame.now (record { lowest = search rules; highest = search rules; dr = search rules; len = c.requires; bytes = λ i. search rules })
