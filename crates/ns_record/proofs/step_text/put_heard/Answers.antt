use Rattle.std.proofs.Common.{rules, ◌≡◌, ℕ, List, ◌++◌, length, ap, ◌∙◌}
use Rattle.std.specs.Prelude.{codes}
use Rattle.hex.specs.Hex.{encode_lower}
use Rattle.ns_record.specs.StepText.{up_header, heard_text}
use Rattle.ns_record.proofs.Pieces.{piece, hex_piece}
use Rattle.ns_record.proofs.step_text.put_heard.Goals as goal

pub returns : goal.returns
unfolding heard_text
returns c =
    let frame : List ℕ = c.args.frame.now in
    let header : List ℕ = up_header c.args.heard.now (length frame) in
    let is : c.header_of.result ≡ header = search rules in
    piece c.args.line.now.bytes (codes "heard ") (encode_lower (header ++ frame))
    (hex_piece c.push_str.new.self.bytes header frame c.put_hex-2.ensures.bytes (c.put_hex.ensures.bytes ∙ ap (λ (l : List ℕ). c.push_str.new.self.bytes ++ encode_lower l) is))
    c.push_str.ensures.bytes
