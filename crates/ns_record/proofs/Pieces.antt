-- A text that was put piece by piece, told from its last piece on.
use Rattle.std.proofs.Common.{◌≡◌, ℕ, List, ◌++◌, ap, sym, ◌∙◌, append_assoc}
use Rattle.hex.specs.Hex.{encode_lower, lower_digits}
use Rattle.ns_lines.proofs.HexText.{encode_append}

pub piece : {last b : List ℕ} (a p r : List ℕ) → last ≡ b ++ r → b ≡ a ++ p → last ≡ a ++ (p ++ r)
piece a p r is before = is ∙ (ap (λ (l : List ℕ). l ++ r) before ∙ append_assoc a p r)

pub hex_piece : {last b : List ℕ} (a p r : List ℕ) → last ≡ b ++ encode_lower r → b ≡ a ++ encode_lower p → last ≡ a ++ encode_lower (p ++ r)
hex_piece a p r is before = piece a (encode_lower p) (encode_lower r) is before ∙ ap (λ (l : List ℕ). a ++ l) (sym (encode_append lower_digits p r))
