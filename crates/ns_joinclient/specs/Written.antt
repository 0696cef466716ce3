-- A response as a plain join server writes it (RFC 9112): status 200, header lines in any order, an empty line and the
-- body.
use Rattle.std.specs.Prelude.{ℕ, ◌≡◌, ◌≤◌, true, false, List, [], ◌∷◌, ◌++◌, All, length, replicate, codes, decimal}
use Rattle.std.specs.List.{flat_map, list_any}
use Rattle.httparse.specs.Grammar.{IsToken, AllPass, is_value_byte}
use Rattle.ns_joinclient.specs.Request.{line}
use Rattle.ns_joinclient.specs.Head.{has_name}

-- The body, and the headers, each a name and a value: one says the body's length, under a name in either case and with
-- zeros before its digits, and others stand before and after it.
pub record Written : Type 0 where
  pub before : List (List ℕ × List ℕ)
  pub length_name : List ℕ
  pub zeros : ℕ
  pub after : List (List ℕ × List ℕ)
  pub body : List ℕ

-- the length of the body in decimal, behind zeros
abbrev pub length_text : Written → List ℕ
length_text w = replicate w.zeros 48 ++ decimal (length w.body)

-- the headers in order
abbrev pub written_headers : Written → List (List ℕ × List ℕ)
written_headers w = w.before ++ (w.length_name, length_text w) ∷ w.after

-- the line of a header: its name, a colon, a space and its value
abbrev pub header_line : List ℕ × List ℕ → List ℕ
header_line header = line (header.0 ++ codes ": " ++ header.1)

-- the head, and then the body
unfoldable pub written_head : Written → List ℕ
written_head w = line (codes "HTTP/1.1 200 OK") ++ flat_map header_line (written_headers w) ++ line []

-- the name is a token, and the value has no control byte but the tab
abbrev pub IsHeader : List ℕ × List ℕ → Type 0
IsHeader header = IsToken header.0 × AllPass is_value_byte header.1

-- one header alone says the length, none that the body is encoded, and all is within the limits
pub record IsWritten (w : Written) : Type 0 where
  pub headers : All IsHeader (written_headers w)
  pub says_length : has_name (codes "Content-Length") (w.length_name, []) ≡ true
  pub no_other : list_any (has_name (codes "Content-Length")) (w.before ++ w.after) ≡ false
  pub not_encoded : list_any (has_name (codes "Transfer-Encoding")) (written_headers w) ≡ false
  pub few : length (written_headers w) ≤ 32
  pub short_head : length (written_head w) ≤ 4096
  pub short_body : length w.body ≤ 8192
