-- The MIC of a data frame (LoRaWAN L2 1.0.4, 4.4), of a Join-Request (6.2.5) and of a Join-Accept (6.2.6). A MIC is 4 bytes.
use Rattle.std.specs.Prelude.{ℕ, Bool, List, [], ◌∷◌, ◌++◌, length, take, bytes_eq}
use Rattle.std.specs.Int.{w32, to_le_bytes}
use Rattle.ns_aes_cmac.specs.Cmac.{cmac}
use Rattle.ns_views.specs.Frame.{data_fields, signed}
use Rattle.ns_secure.specs.declared.Dir.{Dir}
use Rattle.ns_secure.specs.declared.Dir.TheVariants.{Up, Down}

-- the byte of a direction
abbrev pub dir_byte : Dir → ℕ
dir_byte Up = 0
dir_byte Down = 1

-- the shape of the blocks B0 (4.4) and A i (4.3.3.1): the direction, the address and the whole 32-bit counter between two bytes
abbrev pub frame_block : ℕ → Dir → ℕ → ℕ → ℕ → List ℕ
frame_block first dir addr counter last =
    first ∷ 0 ∷ 0 ∷ 0 ∷ 0 ∷ dir_byte dir ∷ to_le_bytes w32 addr ++ to_le_bytes w32 counter ++ 0 ∷ last ∷ []

-- the block before the frame, whose length without the MIC is len (4.4)
abbrev pub block_b0 : Dir → ℕ → ℕ → ℕ → List ℕ
block_b0 dir addr counter len = frame_block 0x49 dir addr counter len

-- the MIC of a data frame: signed is the frame without it, counter the whole 32-bit counter (4.4)
abbrev pub mic : List ℕ → Dir → ℕ → ℕ → List ℕ → List ℕ
mic key dir addr counter signed = take 4 (cmac key (block_b0 dir addr counter (length signed) ++ signed))

-- whether the MIC of an uplink data frame is that of the key at this counter (4.4)
abbrev pub mic_fits : List ℕ → List ℕ → ℕ → Bool
mic_fits frame key counter = bytes_eq (mic key Up (data_fields frame).addr counter (signed frame)) (data_fields frame).mic

-- the MIC of a Join-Request or a Join-Accept: all plain bytes before it (6.2.5, 6.2.6)
abbrev pub join_mic : List ℕ → List ℕ → List ℕ
join_mic app_key signed = take 4 (cmac app_key signed)
