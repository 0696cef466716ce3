-- A response as a server sends it in chunks (RFC 9112, sections 2.1 and 7.1), behind interim responses (RFC 9110, section
-- 15.2).
use Rattle.std.specs.Prelude.{◌≡◌, ℕ, ◌==◌, ◌<◌, ◌≤◌, true, false, List, [], ◌∷◌, ◌++◌, All, length, nat_eq, flat_map}
use Rattle.std.specs.List.{list_any, starts_with, slice_index}
use Rattle.httparse.specs.Ascii.{line_feed, carriage_return, crlf_bytes}
use Rattle.http1.specs.ChunkedBody.{Chunks, AreChunks, print_chunks, content}
use Rattle.ns_responses.specs.Head.{is_framing, is_chunked}
use Rattle.ns_responses.specs.Plain.{version_text, interim_text}

-- a line with its end
abbrev pub line : List ℕ → List ℕ
line text = text ++ crlf_bytes

-- lines, and then an empty one
abbrev pub section : List (List ℕ) → List ℕ
section texts = flat_map line texts ++ line []

-- The lines of the interim heads; the start line, and the field lines before and behind the one that names the coding;
-- the chunks; the lines of the trailers.
pub record Sent : Type 0 where
  pub interim : List (List (List ℕ))
  pub start : List ℕ
  pub before : List (List ℕ)
  pub coding : List ℕ
  pub after : List (List ℕ)
  pub chunks : Chunks
  pub trailers : List (List ℕ)

-- the head of the answer
abbrev pub sent_head : Sent → List ℕ
sent_head s = section ((s.start ∷ s.before) ++ (s.coding ∷ s.after))

-- all that is sent
abbrev pub sent_bytes : Sent → List ℕ
sent_bytes s = flat_map section s.interim ++ (sent_head s ++ (print_chunks s.chunks ++ section s.trailers))

-- the head without the line that names the coding, and the content of the chunks
abbrev pub plain_bytes : Sent → List ℕ
plain_bytes s = section ((s.start ∷ s.before) ++ s.after) ++ content s.chunks

-- the text of a line: it is not empty, has no LF and does not begin with CR
pub record IsText (text : List ℕ) : Type 0 where
  pub some : 0 < length text
  pub one_line : list_any (λ b. b == line_feed) text ≡ false
  pub no_return : (slice_index text 0 == carriage_return) ≡ false

-- an interim head of at most 4,096 bytes
pub record IsInterim (head : List (List ℕ)) : Type 0 where
  pub texts : All IsText head
  pub status : starts_with nat_eq (section head) interim_text ≡ true
  pub short : length (section head) ≤ 4096

-- each part is what it is called, and within the limits
pub record IsSent (s : Sent) : Type 0 where
  pub interim : All IsInterim s.interim
  pub few : length s.interim ≤ 15
  pub texts : All IsText ((s.start ∷ s.before) ++ (s.coding ∷ s.after))
  pub version : starts_with nat_eq (sent_head s) version_text ≡ true
  pub final : starts_with nat_eq (sent_head s) interim_text ≡ false
  pub coding : is_chunked (line s.coding) ≡ true
  pub others : list_any (λ text. is_framing (line text)) ((s.start ∷ s.before) ++ s.after) ≡ false
  pub short : length (sent_head s) ≤ 4096
  pub chunks : AreChunks 65536 s.chunks
  pub few_coded : length (print_chunks s.chunks) ≤ 65536
  pub trailers : All IsText s.trailers
  pub short_trailers : length (section s.trailers) ≤ 4096
