use Rattle.std.proofs.Common.{ap, sym, ◌∙◌, drop}
use Rattle.std.proofs.lemmas.List.{drop_min, take_rest}
use Rattle.ns_responses.specs.Head.{is_chunked_text}
use Rattle.ns_responses.proofs.head.is_chunked.Goals as goal

pub returns-then-is_transfer_encoding : goal.returns-then-is_transfer_encoding
returns-then-is_transfer_encoding c =
    let line = c.args.line.now in
    let text = c.is_chunked_text.ensures ∙ ap is_chunked_text (take_rest line c.min.result ∙ ap (λ n. drop n line) c.min.ensures ∙ drop_min 18 line) in
    rw (sym c.is_transfer_encoding.ensures ∙ c.if-is_transfer_encoding.true) text
