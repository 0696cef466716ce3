-- What the lines of a head say of the coding of the body (RFC 9112, sections 6.1 to 6.3; RFC 9110, section 15.2).
use Rattle.std.specs.Prelude.{ℕ, ◌==◌, ◌||◌, ◌&&◌, not, Bool, false, List, [], ◌∷◌, length, take, drop, codes, flat_map}
use Rattle.std.specs.List.{filter, list_all}
use Rattle.std.specs.Str.{str_eq_ignore_ascii_case}
use Rattle.httparse.specs.Ascii.{line_feed, carriage_return}
use Rattle.httparse.specs.Grammar.{is_ows, skip_ows}
use Rattle.ns_responses.specs.Lines.{lines_of}

-- whether the line begins with a text, in either case
abbrev pub begins_with : List ℕ → List ℕ → Bool
begins_with text line = str_eq_ignore_ascii_case (take (length text) line) text

-- the field line of a Transfer-Encoding
abbrev pub is_transfer_encoding : List ℕ → Bool
is_transfer_encoding line = begins_with (codes "Transfer-Encoding:") line

-- the field line of a field that frames the body
abbrev pub is_framing : List ℕ → Bool
is_framing line = is_transfer_encoding line || begins_with (codes "Content-Length:") line

-- a byte of white space, or of the end of a line
abbrev pub is_blank : ℕ → Bool
is_blank b = is_ows b || (b == carriage_return || b == line_feed)

-- the text is `chunked`, in either case, with white space around it
abbrev pub is_chunked_text : List ℕ → Bool
is_chunked_text text = begins_with (codes "chunked") (skip_ows text) && list_all is_blank (drop 7 (skip_ows text))

-- the field line of a Transfer-Encoding that names the one coding `chunked`
abbrev pub is_chunked : List ℕ → Bool
is_chunked line = is_transfer_encoding line && is_chunked_text (drop 18 line)

-- there is one line, and it names `chunked`
abbrev pub is_chunked_alone : List (List ℕ) → Bool
is_chunked_alone [] = false
is_chunked_alone (line ∷ []) = is_chunked line
is_chunked_alone (line ∷ second ∷ lines) = false

-- the lines that frame the body
abbrev pub framing_lines : List ℕ → List (List ℕ)
framing_lines head = filter is_framing (lines_of head)

-- The body behind a head is chunked: the one line that frames it names `chunked`. A head with a Content-Length beside
-- it, a second Transfer-Encoding or another coding says something else.
abbrev pub is_chunked_head : List ℕ → Bool
is_chunked_head head = is_chunked_alone (framing_lines head)

-- the head without the lines that frame the body
abbrev pub unframed : List ℕ → List ℕ
unframed head = flat_map (λ line. line) (filter (λ line. not (is_framing line)) (lines_of head))
