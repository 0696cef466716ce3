-- The call of `work` that `parts_mut` makes: what it is lent, what it leaves, and what becomes of the frame.
use Rattle.std.specs.Prelude.{◌≡◌, ℕ, List, length}
use Rattle.std.specs.Borrow.{Bor, MutBor}
use Rattle.std.specs.Fn.{Once}
use Rattle.ns_views.specs.Grammar.{IsDataUplink}
use Rattle.ns_views.specs.Frame.{data_fields}
use Rattle.ns_views.specs.Parts.{header, with_payload}

-- what `work` is lent: the header and the options to read, and the payload to write
abbrev pub Lent : Type 0
Lent = Bor (List ℕ) × (Bor (List ℕ) × (MutBor (List ℕ) × Unit {0}))

abbrev pub lent_header : Lent → List ℕ
lent_header lent = lent.0.now

abbrev pub lent_options : Lent → List ℕ
lent_options lent = lent.1.0.now

abbrev pub lent_payload : Lent → List ℕ
lent_payload lent = lent.1.1.0.now

-- what `work` leaves: its result, and the payload as it wrote it
abbrev pub Left : Type 0 → Type 0
Left R = R × (MutBor (List ℕ) × Unit {0})

abbrev pub left_of : {R : Type 0} → R → MutBor (List ℕ) → Left R
left_of r payload = (r, (payload, tt))

-- what is lent shows the parts of the frame
pub record ShowsParts (bytes : List ℕ) (lent : Lent) : Type 0 where
  pub header : lent_header lent ≡ header bytes
  pub options : lent_options lent ≡ (data_fields bytes).fopts
  pub payload : lent_payload lent ≡ (data_fields bytes).payload

-- `work` may be called at the parts of the frame
abbrev pub TakesParts : {F R : Type 0} → Once F Lent (Left R) → F → List ℕ → Type 0
TakesParts g work bytes = (lent : Lent) → ShowsParts bytes lent → g.pre work lent

-- a call of `work` at the parts of the frame may give r and write this payload
pub record GivesAndWrites {F R : Type 0} (g : Once F Lent (Left R)) (work : F) (bytes : List ℕ) (r : R) (written : List ℕ) : Type 0 where
  pub lent : Lent
  pub shows : ShowsParts bytes lent
  pub payload : MutBor (List ℕ)
  pub met : g.post work lent (left_of r payload)
  pub is : payload.now ≡ written

-- a call of `work` at the parts of the frame may give r, and the frame after it has the payload that was written, of the same length: it is
-- a data uplink with that payload, and else the same fields
pub record WorksOnParts {F R : Type 0} (g : Once F Lent (Left R)) (work : F) (bytes : List ℕ) (r : R) (after : List ℕ) : Type 0 where
  pub written : List ℕ
  pub call : GivesAndWrites g work bytes r written
  pub same_length : length written ≡ length (data_fields bytes).payload
  pub frame : after ≡ with_payload bytes written
  pub uplink : IsDataUplink after (record (data_fields bytes) { payload = written })
