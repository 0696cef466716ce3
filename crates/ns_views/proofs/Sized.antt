-- A frame of the grammar passes the tests of a view, and bytes that pass them have no fault.
use Rattle.std.proofs.Common.{◌≡◌, ℕ, ◌+◌, ◌-◌, ◌⊎◌, List, [], ◌∷◌, ◌++◌, length, take, drop, ap, Option, None, Some, refl, sym, ◌∙◌, IsTrue, inl, inr, arith, length-append}
use Rattle.std.specs.Int.{w16, w32, to_le_bytes}
use Rattle.std.proofs.lemmas.Bool.Decides.{nat_tests}
use Rattle.std.proofs.lemmas.List.{take-append-drop}
use Rattle.ns_views.specs.Grammar.{DataFields, JoinFields, IsDataUplink, IsJoinRequest, mhdr, ported, frame_before_mic, join_request}
use Rattle.ns_views.specs.Frame.{fopts_len, port_and_payload, ftype_of, data_fields, join_fields, is_join_type, is_data_type, view_fault, parts_fault}
use Rattle.ns_views.proofs.Reading.{frame, ftype-is}
use Rattle.ns_views.specs.Laws.{HasNoReading, PartsCover, FaultsAreExact, PartsFaultsAreExact}
use Rattle.ns_types.specs.Cases.{when, first_of}
use Rattle.ns_views.specs.declared.ViewFault.{ViewFault}
use Rattle.ns_views.specs.declared.ViewFault.TheVariants.{FrameType}
use Rattle.ns_views.proofs.Made.{IsDataSized, IsJoinSized, IsDataUplink-sized, IsJoinRequest-sized, signed-parts, ported-first_byte}

length-frame : (reserved : ℕ) (d : DataFields) → length (frame reserved d) ≡ 8 + length d.fopts + length (ported d.port d.payload) + length d.mic
length-frame reserved d = omega (arith, length-append (frame_before_mic reserved d) d.mic, length-append (mhdr d.ftype reserved ∷ to_le_bytes w32 d.addr) (d.fctrl ∷ to_le_bytes w16 d.fcnt16 ++ d.fopts ++ ported d.port d.payload), length-append (d.fctrl ∷ to_le_bytes w16 d.fcnt16 ++ d.fopts) (ported d.port d.payload), length-append (d.fctrl ∷ to_le_bytes w16 d.fcnt16) d.fopts)

-- an uplink passes the tests of a data frame
pub IsDataSized-uplink : (bytes : List ℕ) (d : DataFields) → IsDataUplink bytes d → IsDataSized bytes
IsDataSized-uplink bytes d h =
    let r = h.0.parts.0 in
    let len = length-frame r d in
    let opts = h.0.fopts in
    let mic = h.0.mic in
    rw h.0.parts.2 (record {
      major = omega arith;
      ftype = elim (h.1) [ inl t ↦ inl (ftype-is r d h.0.parts.1 ∙ t) | inr t ↦ inr (ftype-is r d h.0.parts.1 ∙ t) ];
      least = omega arith;
      options = omega arith;
      most = rw h.0.parts.2 at h.0.size;
    })

-- a Join-Request passes its tests
pub IsJoinSized-request : (bytes : List ℕ) (j : JoinFields) → IsJoinRequest bytes j → IsJoinSized bytes
IsJoinSized-request bytes j h =
    let below = h.parts.1 in
    let mic = h.mic in
    rw h.parts.2 (record { major = omega arith; ftype = omega arith; size = omega arith })

pub view_fault-data : (bytes : List ℕ) → IsDataSized bytes → view_fault bytes ≡ None
view_fault-data bytes h = grind (arith, nat_tests)

pub view_fault-join : (bytes : List ℕ) → IsJoinSized bytes → view_fault bytes ≡ None
view_fault-join bytes h = grind (arith, nat_tests)

-- bytes with no fault pass the tests of a view
join_sized : (bytes : List ℕ) → view_fault bytes ≡ None → ftype_of bytes ≡ join_request → IsJoinSized bytes
join_sized bytes h t = record {
  major = grind (arith, nat_tests);
  ftype = t;
  size = grind (arith, nat_tests);
}

data_sized : (bytes : List ℕ) → view_fault bytes ≡ None → (ftype_of bytes ≡ 2) ⊎ (ftype_of bytes ≡ 4) → IsDataSized bytes
data_sized bytes h t = record {
  major = grind (arith, nat_tests);
  ftype = t;
  least = elim t [ inl e ↦ grind (arith, nat_tests) | inr e ↦ grind (arith, nat_tests) ];
  options = elim t [ inl e ↦ grind (arith, nat_tests) | inr e ↦ grind (arith, nat_tests) ];
  most = elim t [ inl e ↦ grind (arith, nat_tests) | inr e ↦ grind (arith, nat_tests) ];
}

types : (bytes : List ℕ) → view_fault bytes ≡ None → (ftype_of bytes ≡ 0) ⊎ ((ftype_of bytes ≡ 2) ⊎ (ftype_of bytes ≡ 4))
types bytes h = grind (arith, nat_tests)

pub sized-no_fault : (bytes : List ℕ) → view_fault bytes ≡ None → IsDataSized bytes ⊎ IsJoinSized bytes
sized-no_fault bytes h = elim (types bytes h) [ inl join ↦ inr (join_sized bytes h join) | inr other ↦ inl (data_sized bytes h other) ]

-- the types of a data uplink
pub data_type-cases : (bytes : List ℕ) → IsTrue (is_data_type bytes) → (ftype_of bytes ≡ 2) ⊎ (ftype_of bytes ≡ 4)
data_type-cases bytes h = grind (arith, nat_tests)

-- bytes with a fault have no reading
pub no_reading : (bytes : List ℕ) (fault : ViewFault) → view_fault bytes ≡ Some fault → HasNoReading bytes
no_reading bytes fault h = (
  λ d u. let e = view_fault-data bytes (IsDataSized-uplink bytes d u) in cc,
  λ j r. let e = view_fault-join bytes (IsJoinSized-request bytes j r) in cc,
)

-- bytes have no fault exactly where they have a reading
pub view_fault-exact : FaultsAreExact
view_fault-exact bytes b = (
  λ h. elim (sized-no_fault bytes h) [ inl s ↦ inl (IsDataUplink-sized bytes b s) | inr s ↦ inr (IsJoinRequest-sized bytes b s) ],
  λ r. elim r [ inl u ↦ view_fault-data bytes (IsDataSized-uplink bytes (data_fields bytes) u) | inr q ↦ view_fault-join bytes (IsJoinSized-request bytes (join_fields bytes) q) ],
)

-- bytes that are no data uplink have a fault for `parts_mut`
parts_fault-data : (bytes : List ℕ) → IsDataSized bytes → parts_fault bytes ≡ None
parts_fault-data bytes h =
    let e = view_fault-data bytes h in
    rw e (grind (arith, nat_tests))

-- no case holds, so the first one does not
first_of-none : {X : Type 0} (a : Option X) (cases : List (Option X)) → first_of (a ∷ cases) ≡ None → a ≡ None
first_of-none None cases h = refl
first_of-none (Some x) cases h = cc

parts_fault-join : (bytes : List ℕ) → IsJoinSized bytes → parts_fault bytes ≡ Some FrameType
parts_fault-join bytes h =
    let e = view_fault-join bytes h in
    rw e (grind (arith, nat_tests))

pub parts_fault-exact : PartsFaultsAreExact
parts_fault-exact bytes b = (
  λ h. elim (sized-no_fault bytes (first_of-none (view_fault bytes) (when (is_join_type bytes) FrameType ∷ []) h)) [
    | inl s ↦ IsDataUplink-sized bytes b s
    | inr s ↦ let e = parts_fault-join bytes s in absurd cc
  ],
  λ u. parts_fault-data bytes (IsDataSized-uplink bytes (data_fields bytes) u),
)

-- the parts of a data uplink cover it
pub PartsCover-uplink : (bytes : List ℕ) → IsDataUplink bytes (data_fields bytes) → PartsCover bytes
PartsCover-uplink bytes u =
    let s = IsDataSized-uplink bytes (data_fields bytes) u in
    let before = signed-parts bytes s ∙ ap (λ rest. take 8 bytes ++ take (fopts_len bytes) (drop 8 bytes) ++ rest) (sym (ported-first_byte (port_and_payload bytes))) in
    record {
      whole = sym (take-append-drop (length bytes - 4) bytes) ∙ ap (λ front. front ++ drop (length bytes - 4) bytes) before;
      before_mic = before;
    }
