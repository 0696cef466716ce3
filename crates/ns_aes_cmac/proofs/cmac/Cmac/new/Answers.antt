use Rattle.std.proofs.Common.{List, ℕ, [], ap, ◌∙◌}
use Rattle.ns_aes_cmac.specs.CmacState.{state_of}
use Rattle.ns_aes_cmac.proofs.Pieces.{empty}
use Rattle.ns_aes_cmac.proofs.cmac.Cmac.new.Goals as goal

pub returns : goal.returns
returns c = empty c.new.result ∙ ap (λ (key : List ℕ). state_of key []) c.new.ensures
