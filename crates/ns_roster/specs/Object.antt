-- JSON objects by their fields, for writers.
use Rattle.std.specs.Borrow.{Bor}
use Rattle.std.specs.Prelude.{ℕ, List, [], ◌∷◌, option_map, unwrap_or}
use Rattle.serde_json.specs.Data.{Data, null, boolean, number, unsigned, string, object, Members, no_members, put}
use Rattle.serde_json.specs.Find.{of_float}
use Rattle.ns_roster.specs.Field.{hex_number}
use Rattle.ns_roster.specs.declared.object.Scalar.{Scalar}
use Rattle.ns_roster.specs.declared.object.Scalar.TheVariants.{Null, Truth, Whole, Float, Eui, Word, Text}

-- what a scalar says; a number that is not finite is null
abbrev pub scalar_data : Scalar → Data
scalar_data Null = null
scalar_data (Truth b) = boolean b
scalar_data (Whole n) = number (unsigned n)
scalar_data (Float x) = unwrap_or (option_map number (of_float x)) null
scalar_data (Eui eui) = string (hex_number 8 eui)
scalar_data (Word text) = string text.now
scalar_data (Text text) = string text.now

-- the members with these fields put in, one after the other
abbrev pub with_fields : List (Bor (List ℕ) × Scalar) → Members → Members
with_fields [] members = members
with_fields (field ∷ fields) members = with_fields fields (put field.0.now (scalar_data field.1) members)

-- the object with these fields
abbrev pub object_of : List (Bor (List ℕ) × Scalar) → Data
object_of fields = object (with_fields fields no_members)
