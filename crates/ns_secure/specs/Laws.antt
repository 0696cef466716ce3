-- Laws of the formulas, which contracts of functions that do nothing name.
use Rattle.std.specs.Prelude.{◌≡◌, ℕ, ◌%◌, ◌<◌, List, length}
use Rattle.std.specs.List.{All}
use Rattle.ns_aes_cmac.specs.Aes.{IsBlock}
use Rattle.ns_secure.specs.declared.Dir.{Dir}
use Rattle.ns_secure.specs.Integrity.{mic, join_mic}
use Rattle.ns_secure.specs.Cipher.{cipher, accept_cipher, accept_decipher}
use Rattle.ns_secure.specs.Keys.{nwk_s_key, app_s_key}

-- to encipher a payload twice gives it back
abbrev pub CipherUndoesItself : Type 0
CipherUndoesItself = (key payload : List ℕ) (dir : Dir) (addr counter : ℕ) → length key ≡ 16 → cipher key dir addr counter (cipher key dir addr counter payload) ≡ payload

-- a cipher keeps the payload's length
abbrev pub CipherKeepsLength : Type 0
CipherKeepsLength = (key payload : List ℕ) (dir : Dir) (addr counter : ℕ) → length key ≡ 16 → length (cipher key dir addr counter payload) ≡ length payload

-- a MIC has 4 bytes
abbrev pub MicHasFourBytes : Type 0
MicHasFourBytes = (key signed : List ℕ) (dir : Dir) (addr counter : ℕ) → length key ≡ 16 → length (mic key dir addr counter signed) ≡ 4

abbrev pub JoinMicHasFourBytes : Type 0
JoinMicHasFourBytes = (app_key signed : List ℕ) → length app_key ≡ 16 → length (join_mic app_key signed) ≡ 4

-- a session's keys have 16 bytes
abbrev pub NwkSKeyHasSixteenBytes : Type 0
NwkSKeyHasSixteenBytes = (app_key join_nonce : List ℕ) (net_id dev_nonce : ℕ) → length app_key ≡ 16 → length join_nonce ≡ 3 → length (nwk_s_key app_key join_nonce net_id dev_nonce) ≡ 16

abbrev pub AppSKeyHasSixteenBytes : Type 0
AppSKeyHasSixteenBytes = (app_key join_nonce : List ℕ) (net_id dev_nonce : ℕ) → length app_key ≡ 16 → length join_nonce ≡ 3 → length (app_s_key app_key join_nonce net_id dev_nonce) ≡ 16

-- whole blocks of bytes
abbrev pub AreBlocks : List ℕ → Type 0
AreBlocks bytes = All (λ b. b < 256) bytes × (length bytes % 16 ≡ 0)

-- what the device does to a Join-Accept undoes what the server did ..
abbrev pub AcceptIsDeciphered : Type 0
AcceptIsDeciphered = (app_key plain : List ℕ) → IsBlock app_key → AreBlocks plain → accept_decipher app_key (accept_cipher app_key plain) ≡ plain

-- .. and the other way round
abbrev pub AcceptIsEnciphered : Type 0
AcceptIsEnciphered = (app_key enciphered : List ℕ) → IsBlock app_key → AreBlocks enciphered → accept_cipher app_key (accept_decipher app_key enciphered) ≡ enciphered
