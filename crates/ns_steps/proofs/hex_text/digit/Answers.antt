-- The table is held against the definition at each of the 256 bytes, by computing.
use Rattle.std.proofs.Common.{get_or, refl, arith}
use Rattle.ns_aes_cmac.proofs.Bytes.{agree_at}
use Rattle.ns_steps.specs.declared.hex_text.TheConstants.{DIGITS}
use Rattle.ns_steps.specs.HexText.{digit_or_16}
use Rattle.ns_steps.proofs.hex_text.digit.Goals as goal

pub returns : goal.returns
returns c = agree_at (λ k. get_or DIGITS k 0) digit_or_16 refl c.args.byte (omega arith)
