-- A response as a plain join server writes it is a head of the grammar and its body.
use Rattle.std.proofs.Common.{◌≡◌, ℕ, zero, suc, ◌≤◌, ◌&&◌, ◌||◌, true, false, IsTrue, List, [], ◌∷◌, ◌++◌, length, map, reverse, Some, Ok, refl, sym, ap, subst, ◌∙◌, arith, append_assoc, length-append}
use Rattle.std.specs.Prelude.{replicate, codes, decimal, nat_lt, nat_le}
use Rattle.std.specs.List.{flat_map, list_any, list_all}
use Rattle.std.specs.Char.{is_ascii_digit}
use Rattle.std.specs.Str.Parse.{AllDigits, digits_value}
use Rattle.std.proofs.lemmas.Fmt.{decimal_is_IsNumeral}
use Rattle.std.proofs.lemmas.Str.Parse.{digit_at}
use Rattle.std.proofs.lemmas.List.{map-append, length-map, reverse-append}
use Rattle.std.proofs.lemmas.List.Elements.{All-map, All-weaker, All-cons}
use Rattle.std.proofs.lemmas.List.Folds.{list_any-append, list_all-append}
use Rattle.std.proofs.lemmas.List.Sums.{AllPass-from_list_all}
use Rattle.std.proofs.lemmas.Bool.{and_parts, or_parts}
use Rattle.std.proofs.lemmas.Bool.Decides.{nat_tests}
use Rattle.httparse.specs.Grammar.{crlf, Field, IsField, print_field, is_ows, is_value_byte, skip_ows, trim_ows, ResponseHead, IsResponseHead, print_response}
use Rattle.httparse.specs.Ascii.{crlf_bytes}
use Rattle.httparse.specs.Spans.{name_and_value}
use Rattle.httparse.proofs.TrimLemmas.{skip_ows_no, trim_ows_space}
use Rattle.ns_types.specs.Results.{◌>>=◌}
use Rattle.ns_calls.specs.declared.call.JoinAns.{JoinAns}
use Rattle.ns_joinwire.specs.JoinAns.{joinans}
use Rattle.ns_joinclient.specs.Head.{has_name, values_of, decimal_value, within_limit, content_length, length_by, body_length}
use Rattle.ns_joinclient.specs.Exchange.{Exchange, answered}
use Rattle.ns_joinclient.specs.Written.{Written, length_text, written_headers, header_line, written_head, IsHeader, IsWritten}
use Rattle.ns_joinclient.proofs.HeadLemmas.{values_of-append, values_of-named}
use Rattle.ns_joinclient.proofs.LawLemmas.{whole_answer}

-- the field of a header, and what is seen of it
abbrev field_of : List ℕ × List ℕ → Field
field_of header = record { name = header.0; raw = 32 ∷ header.1; end = crlf }

abbrev trimmed : List ℕ × List ℕ → List ℕ × List ℕ
trimmed header = (header.0, trim_ows (32 ∷ header.1))

-- the head
abbrev tree : Written → ResponseHead
tree w = record { blank = []; minor = 1; digits = codes "200"; reason = Some (codes "OK"); line_end = crlf; fields = map field_of (written_headers w); last = crlf }

line_is : (header : List ℕ × List ℕ) → print_field (field_of header) ≡ header_line header
line_is header = ap (λ l. l ++ crlf_bytes) (sym (append_assoc header.0 (codes ": ") header.1))

lines_are : (headers : List (List ℕ × List ℕ)) → flat_map print_field (map field_of headers) ≡ flat_map header_line headers
lines_are [] = refl
lines_are (header ∷ headers) = ap (λ l. l ++ flat_map print_field (map field_of headers)) (line_is header) ∙ ap (λ l. header_line header ++ l) (lines_are headers)

print_tree : (w : Written) → print_response (tree w) ≡ written_head w
unfolding print_response written_head
print_tree w =
    ap (λ l. codes "HTTP/1.1 200 OK\r\n" ++ (l ++ crlf_bytes)) (lines_are (written_headers w))
    ∙ sym (append_assoc (codes "HTTP/1.1 200 OK\r\n") (flat_map header_line (written_headers w)) crlf_bytes)

-- its parts are of their classes
field_valid : (header : List ℕ × List ℕ) → IsHeader header → IsField (field_of header)
field_valid header is = record { name = is.0; raw = All-cons (λ b. IsTrue (is_value_byte b)) 32 header.1 refl is.1 }

tree_valid : (w : Written) → IsWritten w → IsResponseHead (tree w)
tree_valid w is = record {
  minor = omega arith;
  digits = (refl, AllPass-from_list_all is_ascii_digit (codes "200") refl);
  reason = AllPass-from_list_all is_value_byte (codes "OK") refl;
  fields = All-map IsField field_of (written_headers w) (All-weaker IsHeader (λ header. IsField (field_of header)) field_valid (written_headers w) is.headers);
}

-- the headers of a name
seen : (headers : List (List ℕ × List ℕ)) → map name_and_value (map field_of headers) ≡ map trimmed headers
seen [] = refl
seen (header ∷ headers) = ap (λ l. trimmed header ∷ l) (seen headers)

names_stay : (name : List ℕ) (headers : List (List ℕ × List ℕ)) → list_any (has_name name) (map trimmed headers) ≡ list_any (has_name name) headers
names_stay name [] = refl
names_stay name (header ∷ headers) = ap (λ b. has_name name header || b) (names_stay name headers)

no_values : (name : List ℕ) (headers : List (List ℕ × List ℕ)) → list_any (has_name name) headers ≡ false → values_of name (map trimmed headers) ≡ []
no_values name [] none = refl
no_values name (header ∷ headers) none =
    let p = or_parts (has_name name header) (list_any (has_name name) headers) none in
    rw p.0 (no_values name headers p.1)

one_value : (name : List ℕ) (before after : List (List ℕ × List ℕ)) (header : List ℕ × List ℕ) → has_name name header ≡ true → list_any (has_name name) (before ++ after) ≡ false
    → values_of name (map trimmed (before ++ header ∷ after)) ≡ trim_ows (32 ∷ header.1) ∷ []
one_value name before after header named none =
    let p = or_parts (list_any (has_name name) before) (list_any (has_name name) after) (sym (list_any-append (has_name name) before after) ∙ none) in
    ap (values_of name) (map-append trimmed before (header ∷ after))
    ∙ values_of-append name (map trimmed before) (map trimmed (header ∷ after))
    ∙ ap (λ l. l ++ values_of name (map trimmed (header ∷ after))) (no_values name before p.0)
    ∙ values_of-named name (trimmed header) (map trimmed after) named
    ∙ ap (λ l. trim_ows (32 ∷ header.1) ∷ l) (no_values name after p.1)

-- the length of the body, behind zeros
all_digits : (ds : List ℕ) → AllDigits 10 ds → list_all is_ascii_digit ds ≡ true
all_digits [] all = refl
all_digits (d ∷ ds) all =
    let inside = digit_at (d ∷ ds) 0 all (omega arith) in
    let first : is_ascii_digit d ≡ true = grind (arith, nat_tests, inside) in
    rw first (all_digits ds all.1)

zeros_digits : (n : ℕ) (ds : List ℕ) → list_all is_ascii_digit ds ≡ true → list_all is_ascii_digit (replicate n 48 ++ ds) ≡ true
zeros_digits zero ds all = all
zeros_digits (suc n) ds all = zeros_digits n ds all

zeros_value : (n : ℕ) (ds : List ℕ) → digits_value 10 (replicate n 48 ++ ds) ≡ digits_value 10 ds
zeros_value zero ds = refl
zeros_value (suc n) ds = zeros_value n ds

skip_digits : (ds : List ℕ) → list_all is_ascii_digit ds ≡ true → skip_ows ds ≡ ds
skip_digits [] all = refl
skip_digits (d ∷ ds) all =
    let first = (and_parts (is_ascii_digit d) (list_all is_ascii_digit ds) all).0 in
    let other : is_ows d ≡ false = grind (arith, nat_tests, first) in
    skip_ows_no refl (sym other)

reverse_digits : (ds : List ℕ) → list_all is_ascii_digit ds ≡ true → list_all is_ascii_digit (reverse ds) ≡ true
reverse_digits [] all = refl
reverse_digits (d ∷ ds) all =
    let p = and_parts (is_ascii_digit d) (list_all is_ascii_digit ds) all in
    ap (list_all is_ascii_digit) (reverse-append (d ∷ []) ds) ∙ list_all-append is_ascii_digit (reverse ds) (d ∷ [])
    ∙ ap (λ b. b && list_all is_ascii_digit (d ∷ [])) (reverse_digits ds p.1) ∙ ap (λ b. b && true) p.0

trim_digits : (ds : List ℕ) → list_all is_ascii_digit ds ≡ true → trim_ows (32 ∷ ds) ≡ ds
trim_digits ds all = trim_ows_space ds (skip_digits ds all) (skip_digits (reverse ds) (reverse_digits ds all))

text_digits : (zeros n : ℕ) → n ≤ 8192 → list_all is_ascii_digit (replicate zeros 48 ++ decimal n) ≡ true
text_digits zeros n short = zeros_digits zeros (decimal n) (all_digits (decimal n) (decimal_is_IsNumeral n (omega arith)).0.1)

text_value : (zeros n : ℕ) → n ≤ 8192 → content_length (Some (replicate zeros 48 ++ decimal n)) ≡ Ok (Some n)
text_value zeros n short =
    let text = replicate zeros 48 ++ decimal n in
    let numeral = decimal_is_IsNumeral n (omega arith) in
    let some : nat_lt 0 (length text) ≡ true = grind (arith, nat_tests, length-append (replicate zeros 48) (decimal n), numeral.0.0) in
    let value : decimal_value text ≡ Ok n = rw (some, text_digits zeros n short) (ap Ok (zeros_value zeros (decimal n) ∙ numeral.1)) in
    let within : nat_le n 8192 ≡ true = grind (arith, nat_tests) in
    ap (λ r. r >>= within_limit) value ∙ rw within refl

by_parts : (headers : List (List ℕ × List ℕ)) (text : List ℕ) (n : ℕ) → list_any (has_name (codes "Transfer-Encoding")) headers ≡ false → values_of (codes "Content-Length") headers ≡ text ∷ []
    → content_length (Some text) ≡ Ok (Some n) → length_by 200 headers ≡ Ok (Some n)
unfolding length_by
by_parts headers text n plain one says = rw (plain, one) says

tree_length : (w : Written) → IsWritten w → body_length (tree w) ≡ Ok (Some (length w.body))
tree_length w is =
    let headers = written_headers w in
    let plain : list_any (has_name (codes "Transfer-Encoding")) (map trimmed headers) ≡ false = names_stay (codes "Transfer-Encoding") headers ∙ is.not_encoded in
    let one : values_of (codes "Content-Length") (map trimmed headers) ≡ length_text w ∷ [] =
    one_value (codes "Content-Length") w.before w.after (w.length_name, length_text w) is.says_length is.no_other
    ∙ ap (λ text. text ∷ []) (trim_digits (length_text w) (text_digits w.zeros (length w.body) is.short_body)) in
    ap (length_by 200) (seen headers) ∙ by_parts (map trimmed headers) (length_text w) (length w.body) plain one (text_value w.zeros (length w.body) is.short_body)

-- so it is answered by its body
pub written_answer : (w : Written) (more : List ℕ) (transaction : ℕ) (answer : JoinAns) → IsWritten w → joinans w.body transaction ≡ Ok answer
    → Exchange (written_head w ++ w.body ++ more) transaction (Ok answer)
written_answer w more transaction answer is e =
    let short : length (print_response (tree w)) ≤ 4096 = subst (λ l. length l ≤ 4096) (sym (print_tree w)) is.short_head in
    let few : length (map field_of (written_headers w)) ≤ 32 = rw length-map is.few in
    let whole = whole_answer (tree w) w.body more transaction (tree_valid w is) short few (tree_length w is) in
    subst (λ r. Exchange (written_head w ++ w.body ++ more) transaction r) (ap answered e)
    (subst (λ l. Exchange (l ++ w.body ++ more) transaction (answered (joinans w.body transaction))) (print_tree w) whole)
