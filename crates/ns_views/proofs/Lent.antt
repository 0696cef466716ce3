-- A call at the parts of a frame, put together from what is known of the parts.
use Rattle.std.proofs.Common.{◌≡◌, ℕ, ◌+◌, ◌-◌, ◌≤◌, List, ◌++◌, length, take, drop, min, refl, sym, ap, ◌∙◌, inl, inr, arith, MutBor}
use Rattle.std.proofs.lemmas.List.{take-take, drop-take, drop-drop, length-take}
use Rattle.std.proofs.Math.ListN.{drop_of_length-le}
use Rattle.std.proofs.lemmas.Bool.{cases_lt}
use Rattle.std.specs.Fn.{Once}
use Rattle.ns_types.specs.Bytes.{AreBytes}
use Rattle.ns_views.specs.Grammar.{IsDataUplink}
use Rattle.ns_views.specs.Frame.{data_fields, fopts_len}
use Rattle.ns_views.specs.Parts.{with_payload}
use Rattle.ns_views.specs.Work.{Lent, lent_header, lent_options, lent_payload, Left, left_of, ShowsParts, WorksOnParts}
use Rattle.ns_views.proofs.Replaced.{IsDataUplink-replaced}

pub WorksOnParts-call : {F R : Type 0} (g : Once F Lent (Left R)) (work : F) (bytes : List ℕ) (r : R) (after : List ℕ) (lent : Lent) (left : MutBor (List ℕ)) →
    IsDataUplink bytes (data_fields bytes) → AreBytes after → g.post work lent (left_of r left) → ShowsParts bytes lent → length left.now ≡ length (data_fields bytes).payload → after ≡ with_payload bytes left.now → WorksOnParts g work bytes r after
WorksOnParts-call g work bytes r after lent left uplink are met shows same_length writes = record {
  written = left.now;
  call = record { lent = lent; shows = shows; payload = left; met = met; is = refl };
  same_length = same_length;
  frame = writes;
  uplink = IsDataUplink-replaced bytes left.now after uplink are same_length writes;
}

-- a part within a front
part_of_front : (o p : ℕ) (bytes : List ℕ) → 8 + o ≤ p → take o (drop 8 (take p bytes)) ≡ take o (drop 8 bytes)
part_of_front o p bytes h =
    let e : p ≡ 8 + (p - 8) = omega arith in
    rw e (ap (take o) (drop-take 8 (p - 8) bytes) ∙ take-take o (p - 8) (drop 8 bytes) (omega arith))

-- the payload stands behind the options and the port, where there is one
pub payload-part : (o p m : ℕ) (bytes : List ℕ) → o ≡ fopts_len bytes → m ≡ length bytes - 4 → p ≡ min m (9 + o) → drop p (take m bytes) ≡ (data_fields bytes).payload
payload-part o p m bytes e h f =
    let s = take m bytes in
    let k = fopts_len bytes in
    let short = length-take m bytes in
    elim (cases_lt m (9 + k)) [
      | inl less ↦ drop_of_length-le s (omega arith) ∙ sym (drop_of_length-le s (omega arith))
      | inr more ↦ let g : p ≡ 8 + k + 1 = omega arith in ap (λ n. drop n s) g
    ] ∙ sym (drop-drop 1 (8 + k) s) ∙ ap (λ n. drop 1 (drop (8 + k) (take n bytes))) h

-- the header, the options and the payload, from two cuts of the frame
module _ (bytes front head : List ℕ) (o p m : ℕ) (front-is : front ≡ take m bytes) (head-is : head ≡ take p front) (order : 8 + o ≤ p) (inside : p ≤ m) where
  header-cut : (part : List ℕ) → part ≡ take 8 head → part ≡ take 8 bytes
  header-cut part e = e ∙ ap (take 8) (head-is ∙ ap (take p) front-is ∙ take-take p m bytes inside) ∙ take-take 8 p bytes (omega arith)

  options-cut : (rest : List ℕ) → rest ≡ drop 8 head → o ≡ fopts_len bytes → take o rest ≡ take (fopts_len bytes) (drop 8 bytes)
  options-cut rest e f =
      ap (take o) (e ∙ ap (drop 8) (head-is ∙ ap (take p) front-is ∙ take-take p m bytes inside)) ∙ part_of_front o p bytes order ∙ ap (λ n. take n (drop 8 bytes)) f

  pub ShowsParts-cuts : (lent : Lent) (rest : List ℕ) → lent_header lent ≡ take 8 head → rest ≡ drop 8 head → lent_options lent ≡ take o rest → lent_payload lent ≡ drop p front → o ≡ fopts_len bytes → drop p (take m bytes) ≡ (data_fields bytes).payload → ShowsParts bytes lent
  ShowsParts-cuts lent rest e f g h i j = record {
    header = header-cut (lent_header lent) e;
    options = g ∙ options-cut rest f i;
    payload = h ∙ ap (drop p) front-is ∙ j;
  }

  pub writes-cut : (written back : List ℕ) → back ≡ drop m bytes → p ≡ length bytes - 4 - length (data_fields bytes).payload → m ≡ length bytes - 4 → (head ++ written) ++ back ≡ with_payload bytes written
  writes-cut written back e f g =
      ap (λ x. (x ++ written) ++ back) (head-is ∙ ap (take p) front-is ∙ take-take p m bytes inside ∙ ap (λ n. take n bytes) f)
      ∙ ap (λ x. (take (length bytes - 4 - length (data_fields bytes).payload) bytes ++ written) ++ x) (e ∙ ap (λ n. drop n bytes) g)
