-- The text of a JoinAns is read as the answer that it says.
use Rattle.std.proofs.Common.{◌≡◌, ℕ, suc, ◌/◌, ◌%◌, ◌^◌, ◌<◌, ◌≤◌, false, List, [], ◌∷◌, ◌++◌, length, slice_index, codes, Option, None, Some, option_and_then, refl, sym, ap, ◌∙◌, arith, append_assoc, append-nil}
use Rattle.std.specs.Prelude.{decimal}
use Rattle.std.proofs.lemmas.List.Elements.{All-from_recursion}
use Rattle.json.specs.Token.{Token}
use Rattle.json.specs.Lex.{tokens}
use Rattle.json.specs.Json as json
use Rattle.json.specs.Print.{escape, escape_byte, quoted}
use Rattle.json.specs.Tree.{json_tokens, HasNumbers, depth}
use Rattle.json.proofs.Printed.Decimals.{IsNumber-decimal}
use Rattle.json.proofs.Printed.Tokens.{tokens-print}
use Rattle.json.proofs.Printed.Trees.{value-json_tokens, ArePrintable-json_tokens}
use Rattle.serde_json.specs.Data.{Data, number, unsigned, string, object, Members, member, no_members}
use Rattle.serde_json.specs.Read.{read, max_depth, of_json}
use Rattle.serde_json.specs.Written.{compact_text, members_text, outline}
use Rattle.serde_json.proofs.Texts.{print-outline}
use Rattle.serde_json.proofs.Numbers.{number_of-decimal}
use Rattle.hex.specs.Hex.{encode_with, encode_lower, lower_digits}
use Rattle.ns_types.specs.declared.identity.Key.{Key}
use Rattle.ns_calls.specs.declared.accept.JoinAccept.{JoinAccept}
use Rattle.ns_calls.specs.declared.call.JoinAns.{JoinAns}
use Rattle.ns_calls.specs.Accept.{accept_bytes}
use Rattle.ns_record.specs.StepText.{key_text, app_text, accept_text, join_text}

-- ---- the data of the text

abbrev pub key_data : Key → Data
key_data key = object (member (codes "AESKey") (string (encode_lower key.0)) no_members)

abbrev pub result_data : Data
result_data = object (member (codes "ResultCode") (string (codes "Success")) no_members)

abbrev pub rest_data : ℕ → JoinAns → Members
rest_data t join =
    member (codes "MessageType") (string (codes "JoinAns"))
    (member (codes "NwkSKey") (key_data join.nwk)
    (member (codes "PHYPayload") (string (encode_lower (accept_bytes join.accept)))
    (member (codes "Result") result_data
    (member (codes "TransactionID") (number (unsigned t)) no_members))))

abbrev pub with_app : Option Key → Members → Members
with_app None rest = rest
with_app (Some key) rest = member (codes "AppSKey") (key_data key) rest

abbrev pub join_data : ℕ → JoinAns → Data
join_data t join = object (with_app join.app (rest_data t join))

-- ---- hex needs no escapes

digit_alone : (i : ℕ) → i < 16 → escape_byte (slice_index lower_digits i) ≡ slice_index lower_digits i ∷ []
unfolding escape_byte
digit_alone i within =
    All-from_recursion (λ x. escape_byte x ≡ x ∷ []) lower_digits (refl, (refl, (refl, (refl, (refl, (refl, (refl, (refl, (refl, (refl, (refl, (refl, (refl, (refl, (refl, (refl, tt)))))))))))))))) i 0 within

escape-hex : (bytes : List ℕ) → ((i : ℕ) → slice_index bytes i < 256) → escape (encode_lower bytes) ≡ encode_lower bytes
unfolding encode_with
escape-hex [] are = refl
escape-hex (b ∷ bs) are =
    let byte : b < 256 = are 0 in
    rw (digit_alone (b / 16) (omega arith), digit_alone (b % 16) (omega arith)) (ap (λ (l : List ℕ). slice_index lower_digits (b / 16) ∷ slice_index lower_digits (b % 16) ∷ l) (escape-hex bs (λ i. are (suc i))))

-- ---- what is known of the answer that a text gave

pub record IsKey (key : Key) : Type 0 where
  pub sized : length key.0 ≡ 16
  pub bytes : (i : ℕ) → slice_index key.0 i < 256

abbrev pub IsKeyOrNone : Option Key → Type 0
IsKeyOrNone None = Unit {0}
IsKeyOrNone (Some key) = IsKey key

hex_string : (bytes rest : List ℕ) → ((i : ℕ) → slice_index bytes i < 256) → quoted (encode_lower bytes) ++ rest ≡ 34 ∷ (encode_lower bytes ++ 34 ∷ rest)
hex_string bytes rest are =
    ap (λ (l : List ℕ). (34 ∷ (l ++ 34 ∷ [])) ++ rest) (escape-hex bytes are) ∙ ap (λ (l : List ℕ). 34 ∷ l) (append_assoc (encode_lower bytes) (34 ∷ []) rest)

key-compact : (key : Key) (rest : List ℕ) → IsKey key → compact_text (key_data key) ++ rest ≡ key_text key ++ rest
unfolding key_text escape_byte
key-compact key rest is = ap (λ (l : List ℕ). (codes "{\"AESKey\":" ++ l) ++ rest) (hex_string key.0 (125 ∷ []) is.bytes)

accept-right : (t : ℕ) (accept : JoinAccept) → ((i : ℕ) → slice_index (accept_bytes accept) i < 256) → accept_text t accept ≡ codes ",\"PHYPayload\":" ++ (quoted (encode_lower (accept_bytes accept)) ++ (codes ",\"Result\":{\"ResultCode\":\"Success\"},\"TransactionID\":" ++ (decimal t ++ (125 ∷ []))))
unfolding accept_text
accept-right t accept are =
    let hex : List ℕ = encode_lower (accept_bytes accept) in
    let end : List ℕ = decimal t ++ (125 ∷ []) in
    ap (λ (l : List ℕ). codes ",\"PHYPayload\":" ++ (34 ∷ l)) (append_assoc (hex ++ codes "\",\"Result\":{\"ResultCode\":\"Success\"},\"TransactionID\":") (decimal t) (125 ∷ []) ∙ append_assoc hex (codes "\",\"Result\":{\"ResultCode\":\"Success\"},\"TransactionID\":") end)
    ∙ ap (λ (l : List ℕ). codes ",\"PHYPayload\":" ++ l) (sym (hex_string (accept_bytes accept) (codes ",\"Result\":{\"ResultCode\":\"Success\"},\"TransactionID\":" ++ end) are))

rest-compact : (t : ℕ) (join : JoinAns) → IsKey join.nwk → ((i : ℕ) → slice_index (accept_bytes join.accept) i < 256) →
    members_text false (rest_data t join) ≡ codes "\"MessageType\":\"JoinAns\",\"NwkSKey\":" ++ (key_text join.nwk ++ accept_text t join.accept)
unfolding escape_byte
rest-compact t join nwk accept =
    let tail : List ℕ = codes ",\"PHYPayload\":" ++ (quoted (encode_lower (accept_bytes join.accept)) ++ (codes ",\"Result\":{\"ResultCode\":\"Success\"},\"TransactionID\":" ++ (decimal t ++ (125 ∷ [])))) in
    ap (λ (l : List ℕ). codes "\"MessageType\":\"JoinAns\",\"NwkSKey\":" ++ l) (key-compact join.nwk tail nwk ∙ ap (λ (l : List ℕ). key_text join.nwk ++ l) (sym (accept-right t join.accept accept)))

join-compact : (t : ℕ) (join : JoinAns) → IsKeyOrNone join.app → IsKey join.nwk → ((i : ℕ) → slice_index (accept_bytes join.accept) i < 256) → join_text t join ≡ compact_text (join_data t join)
unfolding join_text app_text escape_byte
join-compact t join app nwk accept = by join.app app
  where
    end : List ℕ
    end = key_text join.nwk ++ accept_text t join.accept

    is : codes "\"MessageType\":\"JoinAns\",\"NwkSKey\":" ++ end ≡ members_text false (rest_data t join)
    is = sym (rest-compact t join nwk accept)

    by : (o : Option Key) → IsKeyOrNone o → (((codes "{" ++ app_text o) ++ codes "\"MessageType\":\"JoinAns\",\"NwkSKey\":") ++ key_text join.nwk) ++ accept_text t join.accept ≡ compact_text (object (with_app o (rest_data t join)))
    by None known = ap (λ (l : List ℕ). 123 ∷ l) (append_assoc (codes "\"MessageType\":\"JoinAns\",\"NwkSKey\":") (key_text join.nwk) (accept_text t join.accept) ∙ is)
    by (Some key) known =
        let app : List ℕ = (codes "\"AppSKey\":" ++ key_text key) ++ codes "," in
        ap (λ (l : List ℕ). 123 ∷ l)
        (append_assoc (app ++ codes "\"MessageType\":\"JoinAns\",\"NwkSKey\":") (key_text join.nwk) (accept_text t join.accept)
        ∙ (append_assoc app (codes "\"MessageType\":\"JoinAns\",\"NwkSKey\":") end
        ∙ (ap (λ (l : List ℕ). app ++ l) is
        ∙ (ap (λ (l : List ℕ). codes "\"AppSKey\":" ++ l) (append_assoc (key_text key) (codes ",") (members_text false (rest_data t join)))
        ∙ ap (λ (l : List ℕ). codes "\"AppSKey\":" ++ l) (sym (key-compact key (codes "," ++ members_text false (rest_data t join)) known))))))

-- ---- the text is read

HasNumbers-join : (t : ℕ) (join : JoinAns) (app : Option Key) → t < 2 ^ 64 → HasNumbers (outline (object (with_app app (rest_data t join))))
HasNumbers-join t join None fits = (tt, ((tt, tt), (tt, ((tt, tt), (IsNumber-decimal t fits, tt)))))
HasNumbers-join t join (Some key) fits = ((tt, tt), (tt, ((tt, tt), (tt, ((tt, tt), (IsNumber-decimal t fits, tt))))))

of_json-join : (t : ℕ) (join : JoinAns) (app : Option Key) → t < 2 ^ 64 → of_json (outline (object (with_app app (rest_data t join)))) ≡ Some (object (with_app app (rest_data t join)))
of_json-join t join None fits = rw (number_of-decimal t fits) refl
of_json-join t join (Some key) fits = rw (number_of-decimal t fits) refl

shallow : (t : ℕ) (join : JoinAns) (app : Option Key) → depth (outline (object (with_app app (rest_data t join)))) ≤ max_depth
shallow t join None = omega arith
shallow t join (Some key) = omega arith

abbrev read_whole : Option (json.Json × List Token) → Option Data
read_whole o = option_and_then of_json (option_and_then (λ p. json.if_last p.0 p.1) o)

pub join-read : (t : ℕ) (join : JoinAns) → t < 2 ^ 64 → IsKeyOrNone join.app → IsKey join.nwk → ((i : ℕ) → slice_index (accept_bytes join.accept) i < 256) → read (join_text t join) ≡ Some (join_data t join)
join-read t join fits app nwk accept =
    let j : json.Json = outline (join_data t join) in
    let same : tokens (join_text t join) ≡ json_tokens j =
    ap tokens (join-compact t join app nwk accept ∙ sym (print-outline (join_data t join))) ∙ tokens-print (json_tokens j) (ArePrintable-json_tokens j (HasNumbers-join t join join.app fits)) in
    ap read_whole (ap (json.value max_depth) (same ∙ sym (append-nil (json_tokens j))) ∙ value-json_tokens j max_depth [] (shallow t join join.app)) ∙ of_json-join t join join.app fits
