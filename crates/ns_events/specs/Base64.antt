-- Base64 (RFC 4648, section 4) with its padding.
use Rattle.std.specs.Prelude.{ℕ, List, codes, true}
use Rattle.base64.specs.Rfc4648.{encode}

-- the 64 symbols
abbrev pub symbols : List ℕ
symbols = codes "ABCDEFGHIJKLMNOPQRSTUVWXYZabcdefghijklmnopqrstuvwxyz0123456789+/"

-- the text of some bytes
unfoldable pub base64_text : List ℕ → List ℕ
base64_text bytes = encode symbols 61 true bytes
