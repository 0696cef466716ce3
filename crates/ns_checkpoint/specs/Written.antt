-- Lines as they are written.
use Rattle.std.specs.Prelude.{◌≡◌, ℕ, List, ◌++◌, Option}
use Rattle.std.specs.Io.KnownBytes.{Appends}
use Rattle.ns_aes_cmac.specs.CmacState.{CmacState, state_of}
use Rattle.ns_checkpoint.specs.Text.{sum_key, lines_text}

-- these lines were written, and the CMAC is that of the text before and of them
pub record HasWritten (old new : Option (List ℕ)) (before after : CmacState) (lines : List (List ℕ)) : Type 0 where
  pub text : Appends old new (lines_text lines)
  pub sum : (text : List ℕ) → before ≡ state_of sum_key text → after ≡ state_of sum_key (text ++ lines_text lines)
