-- The heads of responses.
use Rattle.std.specs.Prelude.{ℕ, List, [], ◌++◌, codes, decimal, Option, Some, None}
use Rattle.ns_status.specs.declared.response.Status.{Status}
use Rattle.ns_status.specs.declared.response.Status.TheVariants.{Found, NotModified, Malformed, NotFound, NoMethod, Misdirected, TooLong, NoMemory}
use Rattle.ns_status.specs.declared.response.Content.{Content}
use Rattle.ns_status.specs.declared.response.Content.TheVariants.{Text, Html, Json, Metrics}

-- the number and the words of a status
abbrev pub status_words : Status → List ℕ
status_words Found = codes "200 OK"
status_words NotModified = codes "304 Not Modified"
status_words Malformed = codes "400 Bad Request"
status_words NotFound = codes "404 Not Found"
status_words NoMethod = codes "405 Method Not Allowed"
status_words Misdirected = codes "421 Misdirected Request"
status_words TooLong = codes "431 Request Header Fields Too Large"
status_words NoMemory = codes "503 Service Unavailable"

-- the media type of a body
abbrev pub media_type : Content → List ℕ
media_type Text = codes "text/plain; charset=utf-8"
media_type Html = codes "text/html; charset=utf-8"
media_type Json = codes "application/json"
media_type Metrics = codes "text/plain; version=0.0.4; charset=utf-8"

-- the length of a body, where it is told
abbrev pub length_text : Option ℕ → List ℕ
length_text None = []
length_text (Some len) = codes "\r\nContent-Length: " ++ decimal len

-- the tag of a list, where it has one
abbrev pub tag_text : Option ℕ → List ℕ
tag_text None = []
tag_text (Some tag) = codes "\r\nETag: W/\"" ++ decimal tag ++ codes "\""

-- the fields of each head, and the empty line behind them
unfoldable pub fields_text : List ℕ
fields_text = codes "\r\nAllow: GET, HEAD\r\nCache-Control: no-store\r\nX-Content-Type-Options: nosniff\r\nContent-Security-Policy: default-src 'none'; script-src 'sha256-nfpn4u/agwmbR7fIhNKE1Erb9EYMzXY01sq/KzJ40pQ='; style-src 'sha256-k2OWu7Q3zfUvLXHrBvFTF5s59RCB0x9oo1JwiZz4nUg='; connect-src 'self'; base-uri 'none'; form-action 'none'; frame-ancestors 'none'\r\nConnection: close\r\n\r\n"

-- the head of a response
abbrev pub head_text : Status → Content → Option ℕ → Option ℕ → List ℕ
head_text status content len tag = codes "HTTP/1.1 " ++ status_words status ++ codes "\r\nContent-Type: " ++ media_type content ++ length_text len ++ tag_text tag ++ fields_text
