-- Where in a head some bytes end, by the parts of the head that they have (RFC 9112, sections 2 to 5).
use Rattle.std.specs.Prelude.{ℕ, ◌≡◌, ◌≤◌, List, [], ◌∷◌, ◌++◌, All, Option, length, take, ⊤}
use Rattle.std.specs.List.{flat_map}
use Rattle.std.specs.Char.{is_ascii_digit}
use Rattle.httparse.specs.Grammar.{LineEnd, print_end, print_blank, print_version, print_reason, reason_phrase, Field, IsField, print_field, IsToken, AllPass, is_value_byte, HasNoResponse, MayBecomeResponse}
use Rattle.ns_joinclient.specs.declared.place.Place.{Place}
use Rattle.ns_joinclient.specs.declared.place.Place.TheVariants.{Blank, BlankReturn, Code, Reason, StatusReturn, Line, Name, Value, ValueReturn, LastReturn, Other}
use Rattle.ns_joinclient.specs.declared.scan.Scan.{Scan}

-- empty lines
abbrev pub IsBlank : List ℕ → Type 0
IsBlank text = (ends : List LineEnd) × (text ≡ print_blank ends)

-- the version, a space and the three digits of the status
pub record IsStart (text : List ℕ) : Type 0 where
  pub minor : ℕ
  pub digits : List ℕ
  pub minor_is : minor ≤ 1
  pub three : length digits ≡ 3
  pub all_digits : AllPass is_ascii_digit digits
  pub is : text ≡ print_version minor ++ 32 ∷ digits

-- the same behind empty lines
pub record IsCode (text : List ℕ) : Type 0 where
  pub blank : List ℕ
  pub is_blank : IsBlank blank
  pub start : List ℕ
  pub is_start : IsStart start
  pub is : text ≡ blank ++ start

-- the same with a space and a phrase
pub record IsReason (text : List ℕ) : Type 0 where
  pub code : List ℕ
  pub is_code : IsCode code
  pub phrase : List ℕ
  pub is_phrase : AllPass is_value_byte phrase
  pub is : text ≡ code ++ 32 ∷ phrase

-- a status line without its end
pub record IsStatus (text : List ℕ) : Type 0 where
  pub code : List ℕ
  pub is_code : IsCode code
  pub reason : Option (List ℕ)
  pub is_phrase : AllPass is_value_byte (reason_phrase reason)
  pub is : text ≡ code ++ print_reason reason

-- a status line and header lines, whole
pub record IsLines (text : List ℕ) : Type 0 where
  pub status : List ℕ
  pub is_status : IsStatus status
  pub end : LineEnd
  pub fields : List Field
  pub are_fields : All IsField fields
  pub is : text ≡ status ++ print_end end ++ flat_map print_field fields

-- whole lines, and then a name
pub record IsName (text : List ℕ) : Type 0 where
  pub lines : List ℕ
  pub are_lines : IsLines lines
  pub name : List ℕ
  pub is_name : IsToken name
  pub is : text ≡ lines ++ name

-- whole lines, and then a name, a colon and a value
pub record IsValue (text : List ℕ) : Type 0 where
  pub lines : List ℕ
  pub are_lines : IsLines lines
  pub name : List ℕ
  pub is_name : IsToken name
  pub raw : List ℕ
  pub is_raw : AllPass is_value_byte raw
  pub is : text ≡ lines ++ (name ++ 58 ∷ raw)

-- such a text, and then a CR
abbrev pub IsBehind : (List ℕ → Type 0) → List ℕ → Type 0
IsBehind is text = (front : List ℕ) × is front × (text ≡ front ++ 13 ∷ [])

-- the bytes end at this place
abbrev pub EndsAt : Place → List ℕ → Type 0
EndsAt Blank text = IsBlank text
EndsAt BlankReturn text = IsBehind IsBlank text
EndsAt Code text = IsCode text
EndsAt Reason text = IsReason text
EndsAt StatusReturn text = IsBehind IsStatus text
EndsAt Line text = IsLines text
EndsAt Name text = IsName text
EndsAt Value text = IsValue text
EndsAt ValueReturn text = IsBehind IsValue text
EndsAt LastReturn text = IsBehind IsLines text
EndsAt Other text = ⊤

-- a head is not whole, and more bytes can complete it
abbrev pub IsInside : List ℕ → Type 0
IsInside bytes = HasNoResponse bytes × MayBecomeResponse bytes

-- a scan has come to its place in these bytes
abbrev pub IsScanOf : Scan → List ℕ → Type 0
IsScanOf scan bytes = (scan.seen ≤ length bytes) × EndsAt scan.place (take scan.seen bytes)
