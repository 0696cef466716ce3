-- What one byte more makes of the place where bytes end in a head; and at each place the head can still be completed, and is not whole.
use Rattle.std.proofs.Common.{◌≡◌, ◌≢◌, ℕ, ◌+◌, ◌-◌, ◌<◌, ◌≤◌, List, [], ◌∷◌, ◌++◌, length, take, drop, get_or, None, Some, refl, sym, ap, subst, ◌∙◌, arith, append_assoc, length-append}
use Rattle.std.specs.Prelude.{codes, IsTrue}
use Rattle.std.specs.List.{flat_map}
use Rattle.std.specs.Char.{is_ascii_digit}
use Rattle.std.proofs.lemmas.Bool.{and_from}
use Rattle.std.proofs.lemmas.List.{append-nil, flat_map_more, take_more}
use Rattle.std.proofs.lemmas.List.Elements.{All-nil, All-push}
use Rattle.std.proofs.lemmas.List.Sums.{AllPass-from_list_all}
use Rattle.std.proofs.Math.Seq.{take-add}
use Rattle.httparse.specs.Ascii.{crlf_bytes}
use Rattle.httparse.specs.Grammar.{LineEnd, crlf, lf, print_end, print_blank, print_version, print_reason, Field, IsField, print_field, is_value_byte, is_token_byte, ResponseHead, IsResponseHead, print_response}
use Rattle.httparse.proofs.GrammarLemmas.{cons-append, response_prefix_free}
use Rattle.ns_joinclient.specs.declared.place.Place.{Place}
use Rattle.ns_joinclient.specs.declared.place.Place.TheVariants.{Blank, BlankReturn, Code, Reason, StatusReturn, Line, Name, Value, ValueReturn, LastReturn, Other}
use Rattle.ns_joinclient.specs.Place.{IsBlank, IsStart, IsCode, IsReason, IsStatus, IsLines, IsName, IsValue, IsBehind, EndsAt, IsInside}

behind_more : (a b c d : List ℕ) → a ≡ b ++ c → a ++ d ≡ b ++ (c ++ d)
behind_more a b c d e = ap (λ l. l ++ d) e ∙ append_assoc b c d

-- a line feed behind a CR ends the line too
pub feed_behind : (P Q : List ℕ → Type 0) → ((front : List ℕ) → P front → Q (front ++ crlf_bytes)) → (text : List ℕ) → IsBehind P text → Q (text ++ 10 ∷ [])
feed_behind P Q whole text at = subst Q (sym (behind_more text at.0 (13 ∷ []) (10 ∷ []) at.2)) (whole at.0 at.1)

-- ---- empty lines

pub blank_end : (end : LineEnd) (text : List ℕ) → IsBlank text → IsBlank (text ++ print_end end)
blank_end end text is =
    (is.0 ++ end ∷ [], ap (λ l. l ++ print_end end) is.1 ∙ flat_map_more print_end [] is.0 end)

-- ---- the status line

pub code_status : (text : List ℕ) → IsCode text → IsStatus text
code_status text is = record { code = text; is_code = is; reason = None; is_phrase = All-nil (λ b. IsTrue (is_value_byte b)); is = sym (append-nil text) }

pub reason_status : (text : List ℕ) → IsReason text → IsStatus text
reason_status text is = record { code = is.code; is_code = is.is_code; reason = Some is.phrase; is_phrase = is.is_phrase; is = is.is }

pub code_reason : (text : List ℕ) → IsCode text → IsReason (text ++ 32 ∷ [])
code_reason text is = record { code = text; is_code = is; phrase = []; is_phrase = All-nil (λ x. IsTrue (is_value_byte x)); is = refl }

pub reason_more : (text : List ℕ) (b : ℕ) → IsTrue (is_value_byte b) → IsReason text → IsReason (text ++ b ∷ [])
reason_more text b fits is = record {
  code = is.code;
  is_code = is.is_code;
  phrase = is.phrase ++ b ∷ [];
  is_phrase = All-push (λ x. IsTrue (is_value_byte x)) is.phrase b is.is_phrase fits;
  is = behind_more text is.code (32 ∷ is.phrase) (b ∷ []) is.is;
}

pub status_end : (end : LineEnd) (text : List ℕ) → IsStatus text → IsLines (text ++ print_end end)
status_end end text is = record { status = text; is_status = is; end = end; fields = []; are_fields = All-nil IsField; is = sym (append-nil (text ++ print_end end)) }

-- ---- headers

pub lines_name : (text : List ℕ) (b : ℕ) → IsTrue (is_token_byte b) → IsLines text → IsName (text ++ b ∷ [])
lines_name text b fits is = record {
  lines = text;
  are_lines = is;
  name = b ∷ [];
  is_name = (omega arith, All-push (λ x. IsTrue (is_token_byte x)) [] b (All-nil (λ x. IsTrue (is_token_byte x))) fits);
  is = refl;
}

pub name_more : (text : List ℕ) (b : ℕ) → IsTrue (is_token_byte b) → IsName text → IsName (text ++ b ∷ [])
name_more text b fits is = record {
  lines = is.lines;
  are_lines = is.are_lines;
  name = is.name ++ b ∷ [];
  is_name = (omega (arith, length-append is.name (b ∷ []), is.is_name.0), All-push (λ x. IsTrue (is_token_byte x)) is.name b is.is_name.1 fits);
  is = behind_more text is.lines is.name (b ∷ []) is.is;
}

pub name_colon : (text : List ℕ) → IsName text → IsValue (text ++ 58 ∷ [])
name_colon text is = record {
  lines = is.lines;
  are_lines = is.are_lines;
  name = is.name;
  is_name = is.is_name;
  raw = [];
  is_raw = All-nil (λ x. IsTrue (is_value_byte x));
  is = behind_more text is.lines is.name (58 ∷ []) is.is;
}

pub value_more : (text : List ℕ) (b : ℕ) → IsTrue (is_value_byte b) → IsValue text → IsValue (text ++ b ∷ [])
value_more text b fits is = record {
  lines = is.lines;
  are_lines = is.are_lines;
  name = is.name;
  is_name = is.is_name;
  raw = is.raw ++ b ∷ [];
  is_raw = All-push (λ x. IsTrue (is_value_byte x)) is.raw b is.is_raw fits;
  is = behind_more text is.lines (is.name ++ 58 ∷ is.raw) (b ∷ []) is.is ∙ ap (λ l. is.lines ++ l) (append_assoc is.name (58 ∷ is.raw) (b ∷ []));
}

value_field : (name raw : List ℕ) → LineEnd → Field
value_field name raw end = record { name = name; raw = raw; end = end }

regroup_field : (l n r e : List ℕ) → l ++ (n ++ 58 ∷ r) ++ e ≡ l ++ (n ++ 58 ∷ r ++ e)
regroup_field l n r e = simp (append_assoc, cons-append)

pub value_end : (end : LineEnd) (text : List ℕ) → IsValue text → IsLines (text ++ print_end end)
unfolding value_field
value_end end text is =
    let lines = is.are_lines in
    let field = value_field is.name is.raw end in
    record {
      status = lines.status;
      is_status = lines.is_status;
      end = lines.end;
      fields = lines.fields ++ field ∷ [];
      are_fields = All-push IsField lines.fields field lines.are_fields (record { name = is.is_name; raw = is.is_raw });
      is =
          ap (λ l. l ++ print_end end) is.is ∙ regroup_field is.lines is.name is.raw (print_end end) ∙ ap (λ l. l ++ print_field field) lines.is
          ∙ flat_map_more print_field (lines.status ++ print_end lines.end) lines.fields field;
    }

-- ---- the head

-- bytes that are not yet the head that they begin
record IsFront (text : List ℕ) : Type 0 where
  next : ℕ
  more : List ℕ
  head : ResponseHead
  valid : IsResponseHead head
  is : text ++ next ∷ more ≡ print_response head

front_shorter : (text : List ℕ) (b : ℕ) (bs : List ℕ) → IsFront (text ++ b ∷ bs) → IsFront text
front_shorter text b bs front = record {
  next = b;
  more = bs ++ front.next ∷ front.more;
  head = front.head;
  valid = front.valid;
  is = sym (append_assoc text (b ∷ bs) (front.next ∷ front.more)) ∙ front.is;
}

inside_front : (text : List ℕ) → IsFront text → IsInside text
inside_front text front = (
  λ h rest reads. let both = response_prefix_free text (front.next ∷ front.more) h front.head rest [] reads (front.valid, front.is ∙ sym (append-nil (print_response front.head))) in
      absurd (omega (arith, ap length both.1, length-append rest (front.next ∷ front.more))),
  (front.next ∷ front.more, front.head, (front.valid, front.is ∙ sym (append-nil (print_response front.head)))),
)

regroup_head : (b v d r e f l : List ℕ) → ((b ++ (v ++ 32 ∷ d)) ++ r) ++ e ++ f ++ l ≡ b ++ v ++ 32 ∷ d ++ r ++ e ++ (f ++ l)
regroup_head b v d r e f l = simp (append_assoc, cons-append)

-- the head of these lines, which the last line end completes
whole_head : (text : List ℕ) → IsLines text → (last : LineEnd) → (h : ResponseHead) × IsResponseHead h × (text ++ print_end last ≡ print_response h)
unfolding print_response
whole_head text is last =
    let status = is.is_status in
    let code = status.is_code in
    let start = code.is_start in
    let head : ResponseHead = record {
      blank = code.is_blank.0;
      minor = start.minor;
      digits = start.digits;
      reason = status.reason;
      line_end = is.end;
      fields = is.fields;
      last = last;
    } in
    let all : text ≡ ((print_blank code.is_blank.0 ++ (print_version start.minor ++ 32 ∷ start.digits)) ++ print_reason status.reason) ++ print_end is.end ++ flat_map print_field is.fields =
    is.is ∙ ap (λ l. l ++ print_end is.end ++ flat_map print_field is.fields) (status.is ∙ ap (λ l. l ++ print_reason status.reason) (code.is ∙ (ap (λ l. l ++ code.start) code.is_blank.1 ∙ ap (λ l. print_blank code.is_blank.0 ++ l) start.is))) in (
      head,
      record { minor = start.minor_is; digits = (start.three, start.all_digits); reason = status.is_phrase; fields = is.are_fields },
      ap (λ l. l ++ print_end last) all ∙ regroup_head (print_blank code.is_blank.0) (print_version start.minor) start.digits (print_reason status.reason) (print_end is.end) (flat_map print_field is.fields) (print_end last),
    )

lines_front : (text : List ℕ) → IsLines text → IsFront text
lines_front text is = let (head, valid, same) = whole_head text is lf in record { next = 10; more = []; head = head; valid = valid; is = same }

last_front : (text : List ℕ) → IsBehind IsLines text → IsFront text
last_front text at =
    let (head, valid, same) = whole_head at.0 at.1 crlf in
    record { next = 10; more = []; head = head; valid = valid; is = behind_more text at.0 (13 ∷ []) (10 ∷ []) at.2 ∙ same }

-- bytes behind which a line feed completes lines
line_front : (text : List ℕ) → IsLines (text ++ 10 ∷ []) → IsFront text
line_front text is = front_shorter text 10 [] (lines_front (text ++ 10 ∷ []) is)

is_start : IsStart (codes "HTTP/1.1 200")
is_start = record { minor = 1; digits = 50 ∷ 48 ∷ 48 ∷ []; minor_is = omega arith; three = refl; all_digits = AllPass-from_list_all is_ascii_digit (codes "200") refl; is = refl }

pub blank_code : (text start : List ℕ) → IsBlank text → IsStart start → IsCode (text ++ start)
blank_code text start is begins = record { blank = text; is_blank = is; start = start; is_start = begins; is = refl }

blank_front : (text : List ℕ) → IsBlank text → IsFront text
blank_front text is = front_shorter text 72 (codes "TTP/1.1 200") (line_front (text ++ codes "HTTP/1.1 200") (status_end lf _ (code_status _ (blank_code text (codes "HTTP/1.1 200") is is_start))))

-- bytes that end at a place are not a whole head, and more can complete it
pub ends_inside : (place : Place) (text : List ℕ) → place ≢ Other → EndsAt place text → IsInside text
ends_inside Blank text other at = inside_front text (blank_front text at)
ends_inside BlankReturn text other at = inside_front text (front_shorter text 10 [] (blank_front (text ++ 10 ∷ []) (feed_behind IsBlank IsBlank (blank_end crlf) text at)))
ends_inside Code text other at = inside_front text (line_front text (status_end lf text (code_status text at)))
ends_inside Reason text other at = inside_front text (line_front text (status_end lf text (reason_status text at)))
ends_inside StatusReturn text other at = inside_front text (line_front text (feed_behind IsStatus IsLines (status_end crlf) text at))
ends_inside Line text other at = inside_front text (lines_front text at)
ends_inside Name text other at = inside_front text (front_shorter text 58 [] (line_front (text ++ 58 ∷ []) (value_end lf (text ++ 58 ∷ []) (name_colon text at))))
ends_inside Value text other at = inside_front text (line_front text (value_end lf text at))
ends_inside ValueReturn text other at = inside_front text (line_front text (feed_behind IsValue IsLines (value_end crlf) text at))
ends_inside LastReturn text other at = inside_front text (last_front text at)
ends_inside Other text other at = absurd (other refl)

pub inside_nil : IsInside []
inside_nil = inside_front [] (blank_front [] ([], refl))

-- ---- the scan

pub start_step : (n m : ℕ) (bytes : List ℕ) → IsBlank (take n bytes) → IsStart (take m (drop n bytes)) → IsCode (take (n + m) bytes)
start_step n m bytes is begins = subst IsCode (sym (take-add n m bytes)) (blank_code (take n bytes) (take m (drop n bytes)) is begins)

-- the five bytes behind `HTTP/1.`
pub five : (tail : List ℕ) → 5 ≤ length tail → take 5 tail ≡ get_or tail 0 0 ∷ get_or tail 1 0 ∷ get_or tail 2 0 ∷ get_or tail 3 0 ∷ get_or tail 4 0 ∷ []
five (a ∷ b ∷ c ∷ d ∷ e ∷ tail) h = refl
five _ h = absurd (omega (arith, h))

-- so they begin with a version, a space and a status
pub start_is : (bytes rest : List ℕ) → take 7 bytes ≡ codes "HTTP/1." → rest ≡ drop 7 bytes → 5 ≤ length rest → 48 ≤ get_or rest 0 0 → get_or rest 0 0 ≤ 49 → get_or rest 1 0 ≡ 32
    → IsTrue (is_ascii_digit (get_or rest 2 0)) → IsTrue (is_ascii_digit (get_or rest 3 0)) → IsTrue (is_ascii_digit (get_or rest 4 0)) → IsStart (take 12 bytes)
start_is bytes rest front behind long low high space a b c =
    let digits = get_or rest 2 0 ∷ get_or rest 3 0 ∷ get_or rest 4 0 ∷ [] in
    let minor = get_or rest 0 0 - 48 in
    record {
      minor = minor;
      digits = digits;
      minor_is = omega arith;
      three = refl;
      all_digits = AllPass-from_list_all is_ascii_digit digits (and_from _ _ a (and_from _ _ b (and_from _ _ c refl)));
      is =
          take-add 7 5 bytes ∙ ap (λ l. l ++ take 5 (drop 7 bytes)) front ∙ ap (λ l. codes "HTTP/1." ++ l) (ap (take 5) (sym behind) ∙ five rest long)
          ∙ ap (λ x. codes "HTTP/1." ++ (x ∷ get_or rest 1 0 ∷ digits)) (let e : get_or rest 0 0 ≡ 48 + minor = omega arith in e)
          ∙ ap (λ x. codes "HTTP/1." ++ ((48 + minor) ∷ x ∷ digits)) space;
    }

-- the place behind one more of some bytes
pub ends_next : (old new : Place) (bytes : List ℕ) (seen : ℕ) → seen < length bytes → EndsAt old (take seen bytes) → ((text : List ℕ) → EndsAt old text → EndsAt new (text ++ get_or bytes seen 0 ∷ [])) → EndsAt new (take (seen + 1) bytes)
ends_next old new bytes seen left at step = subst (EndsAt new) (sym (take_more bytes seen 0 left)) (step (take seen bytes) at)
