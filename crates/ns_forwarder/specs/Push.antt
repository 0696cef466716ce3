-- The body of a PUSH_DATA (Semtech UDP protocol): a JSON object, whose list `rxpk` has the frames that were heard.
use Rattle.std.specs.Prelude.{ℕ, nat_lt, List, [], ◌∷◌, ◌++◌, length, filter_map, codes, Option, None, Some, Result, Ok, Err, if◌then◌else◌}
use Rattle.std.specs.Option.{ok_or, option_map}
use Rattle.std.specs.Result.{result_ok, result_err}
use Rattle.serde_json.specs.Data.{Data}
use Rattle.serde_json.specs.Find.{get, as_array, as_object}
use Rattle.ns_types.specs.Results.{◌>>=◌}
use Rattle.ns_roster.specs.Field.{value_of}
use Rattle.ns_roster.specs.Text.{items_list}
use Rattle.ns_forwarder.specs.declared.fault.ForwarderFault.{ForwarderFault}
use Rattle.ns_forwarder.specs.declared.fault.ForwarderFault.TheVariants.{TooMany, Body}
use Rattle.ns_forwarder.specs.Rxpk.{Item, item_of}

-- the most items of a body that are looked at
abbrev pub most_items : ℕ
most_items = 255

-- what a body says: the frames that are handed on, and why each of the other items is left out, both in the items' order
pub record Push : Type 0 where
  pub items : List Item
  pub left_out : List ForwarderFault

abbrev pub push_from : List Data → Push
push_from ds = record { items = filter_map (λ d. result_ok (item_of d)) ds; left_out = filter_map (λ d. result_err (item_of d)) ds }

-- with what one more item says
abbrev pub with_result : Push → Result Item ForwarderFault → Push
with_result p (Ok i) = record { items = p.items ++ i ∷ []; left_out = p.left_out }
with_result p (Err e) = record { items = p.items; left_out = p.left_out ++ e ∷ [] }

-- the items of an object: none where it has no `rxpk`
abbrev pub rxpk_of : Option Data → Result (List Data) ForwarderFault
rxpk_of None = Ok []
rxpk_of (Some found) = ok_or (option_map items_list (as_array found)) Body

abbrev pub values_of : Data → Result (List Data) ForwarderFault
values_of d = ok_or (as_object d) Body >>= λ _. rxpk_of (get (codes "rxpk") d)

abbrev pub within_limit : List Data → Result Push ForwarderFault
within_limit ds = if nat_lt most_items (length ds) then Err TooMany else Ok (push_from ds)

-- what a body says, or its fault
unfoldable pub push_of : List ℕ → Result Push ForwarderFault
push_of body = do
  d ← ok_or (value_of body) Body
  ds ← values_of d
  within_limit ds
