-- The response that is read in the place of one with interim heads or a chunked body.
use Rattle.std.specs.Prelude.{ℕ, suc, zero, ◌&&◌, Bool, true, false, List, [], ◌++◌, take, drop, codes, if◌then◌else◌, is_some, Option, Some, None, nat_eq}
use Rattle.std.specs.List.{starts_with}
use Rattle.http1.specs.declared.chunked.State.{State}
use Rattle.http1.specs.declared.chunked.State.TheVariants.{Start, Size, Blank, Extension, SizeLf, Data, DataCr, DataLf, Done, Failed}
use Rattle.http1.specs.declared.chunked.ChunkedDecoder.{ChunkedDecoder}
use Rattle.http1.specs.ChunkedDecoder.{start, Run, run}
use Rattle.ns_responses.specs.Lines.{section_of}
use Rattle.ns_responses.specs.Head.{is_chunked_head, unframed}

-- the bytes that reads give, and whether the end follows them; else the stream fails behind them
pub record Given : Type 0 where
  pub bytes : List ℕ
  pub whole : Bool

-- these bytes, and then the end
abbrev pub unchanged : List ℕ → Given
unchanged bytes = record { bytes = bytes; whole = true }

-- more bytes in front
abbrev pub with_front : List ℕ → Given → Given
with_front front given = record { bytes = front ++ given.bytes; whole = given.whole }

-- how a HTTP/1.1 response begins, and one whose status is 1xx
abbrev pub version_text : List ℕ
version_text = codes "HTTP/1.1 "

abbrev pub interim_text : List ℕ
interim_text = codes "HTTP/1.1 1"

-- the last chunk was read
abbrev pub is_done : State → Bool
is_done Start = false
is_done (Size size) = false
is_done (Blank size) = false
is_done (Extension size) = false
is_done (SizeLf size) = false
is_done (Data left) = false
is_done DataCr = false
is_done DataLf = false
is_done Done = true
is_done (Failed fault) = false

-- the trailer section stands there, of at most 4,096 bytes
abbrev pub has_trailers : List ℕ → Bool
has_trailers bytes = is_some (section_of [] bytes)

-- What a run over chunks gives, before further bytes: its data, and then the end where the last chunk was read and the
-- trailer section follows.
abbrev pub content_of : Run → List ℕ → Given
content_of run later = record { bytes = run.body; whole = is_done run.ends.state && has_trailers (run.rest ++ later) }

-- the content of chunks that a decoder goes on with, before further bytes
abbrev pub dechunked : ChunkedDecoder → List ℕ → List ℕ → Given
dechunked decoder coded later = content_of (run decoder coded) later

-- a chunked body, of which the chunks take at most 65,536 bytes (RFC 9112, section 7.1)
abbrev pub chunked_body : List ℕ → Given
chunked_body bytes = dechunked (start 65536) (take 65536 bytes) (drop 65536 bytes)

-- What is read in the place of a response that begins with a head of this length: what is read behind an interim head;
-- the head without the field, and the content of the chunks; or the same bytes.
abbrev pub plain_by : (List ℕ → Given) → List ℕ → Option ℕ → Given
plain_by later bytes None = unchanged bytes
plain_by later bytes (Some n) =
    let head = take n bytes in
    if starts_with nat_eq head interim_text then later (drop n bytes)
    else (if is_chunked_head head then with_front (unframed head) (chunked_body (drop n bytes))
    else unchanged bytes)

-- what is read in the place of a response, where so many heads are looked at
unfoldable pub plain_of : ℕ → List ℕ → Given
plain_of zero bytes = unchanged bytes
plain_of (suc heads) bytes = plain_by (plain_of heads) bytes (section_of version_text bytes)
