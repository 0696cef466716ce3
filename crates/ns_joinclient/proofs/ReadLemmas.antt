-- What the reads of a response add to its bytes.
use Rattle.std.proofs.Common.{◌≡◌, ℕ, ◌<◌, ◌≤◌, ◌+◌, ◌-◌, List, [], ◌++◌, length, take, drop, Option, Bool, true, false, Ok, Err, refl, sym, ap, subst, inl, inr, ◌∙◌, arith, append-nil, append_assoc, length-append, take-take}
use Rattle.std.proofs.Math.Seq.{take-append-add}
use Rattle.std.proofs.lemmas.List.{length-take, length-drop, take-append-le, nil_from_length}
use Rattle.std.proofs.lemmas.Slice.{take-put_mid}
use borrow.Rule.Slice.PartMut.{mid_of, put_mid}
use Rattle.std.specs.Io.KnownBytes.{Consumes, Keeps, IsAtEnd}
use Rattle.std.proofs.KnownBytes.{Consumes-nil, Consumes-trans, Consumes-kept}
use Rattle.ns_types.specs.declared.stream.Failed.{Failed}
use Rattle.ns_exchange.specs.declared.fault.AskFault.TheVariants.{Ended}
use Rattle.ns_joinclient.specs.declared.scan.Scan.{Scan}
use Rattle.ns_joinclient.specs.Exchange.{EndsInHead}
use Rattle.ns_joinclient.specs.Place.{EndsAt, IsInside, IsScanOf}
use Rattle.ns_joinclient.specs.Reading.{ReadsPiece, Fills, Stops, WantsMore}

-- how many bytes stand at the front of a buffer
pub front_length : (bytes text : List ℕ) (filled : ℕ) → take filled bytes ≡ text → filled ≤ length bytes → length text ≡ filled
front_length bytes text filled is fits = omega (arith, ap length is, length-take filled bytes)

-- how long the part of a buffer is that stands behind them
pub room_length : (bytes : List ℕ) (filled end : ℕ) → end ≤ length bytes → length (mid_of filled (end - filled) bytes) ≡ end - filled
room_length bytes filled end fits = omega (arith, length-take (end - filled) (drop filled bytes), length-drop filled bytes)

-- a piece behind the first bytes of a buffer
pub put_behind : (bytes piece text : List ℕ) (filled room n : ℕ) → take filled bytes ≡ text → filled ≤ length bytes → n ≤ length piece → take (filled + n) (put_mid filled room bytes piece) ≡ text ++ take n piece
put_behind bytes piece text filled room n is fits few =
    let all = put_mid filled room bytes piece in
    let whole : take (filled + length piece) all ≡ take filled bytes ++ piece = take-put_mid filled room bytes piece (filled + length piece) refl fits in
    let count : filled ≡ length text = sym (front_length bytes text filled is fits) in
    sym (take-take (filled + n) (filled + length piece) all (omega arith))
    ∙ ap (take (filled + n)) whole
    ∙ ap (λ l. take (filled + n) (l ++ piece)) is
    ∙ ap (λ k. take (k + n) (text ++ piece)) count
    ∙ take-append-add text piece n

-- no read yet
pub fills_none : (left : Option (List ℕ)) (bytes : List ℕ) (end : ℕ) → Fills left left bytes bytes end
fills_none left bytes end = ([], sym (append-nil bytes), Consumes-nil left, omega arith)

-- how long the bytes are behind a read
pub piece_length : (left more : Option (List ℕ)) (old new : List ℕ) (end n : ℕ) → ReadsPiece left more old new end {E = Failed} (Ok n) → length new ≡ length old + n
piece_length left more old new end n piece = omega (arith, ap length piece.1, length-append old piece.0, piece.3)

-- one more read
pub fills_piece : (left mid more : Option (List ℕ)) (old here new : List ℕ) (end n : ℕ) → Fills left mid old here end → ReadsPiece mid more here new end {E = Failed} (Ok n) → Fills left more old new end
fills_piece left mid more old here new end n fills piece = (
  fills.0 ++ piece.0,
  piece.1 ∙ ap (λ l. l ++ piece.0) fills.1 ∙ append_assoc old fills.0 piece.0,
  Consumes-trans left mid more fills.0 piece.0 fills.2 piece.2,
  omega (arith, piece.4),
)

-- one more read, which failed
pub fills_kept : (left mid more : Option (List ℕ)) (old here new : List ℕ) (end : ℕ) → Fills left mid old here end → (new ≡ here) × Keeps mid more → Fills left more old new end
fills_kept left mid more old here new end fills kept =
    (fills.0, kept.0 ∙ fills.1, Consumes-kept left mid more fills.0 fills.2 kept.1, omega (arith, fills.3, ap length kept.0))

-- the bytes that were read, and one more read
pub read_piece : (left mid more : Option (List ℕ)) (old new : List ℕ) (end n : ℕ) → Consumes left mid old → ReadsPiece mid more old new end {E = Failed} (Ok n) → Consumes left more new
read_piece left mid more old new end n read piece = subst (Consumes left more) (sym piece.1) (Consumes-trans left mid more old piece.0 read piece.2)

-- the bytes that were read, and one more read, which failed
pub read_kept : (left mid more : Option (List ℕ)) (old new : List ℕ) → Consumes left mid old → (new ≡ old) × Keeps mid more → Consumes left more new
read_kept left mid more old new read kept = subst (Consumes left more) (sym kept.0) (Consumes-kept left mid more old read kept.1)

-- a read of no byte leaves the bytes
pub read_none : (left more : Option (List ℕ)) (old new : List ℕ) (end n : ℕ) → n ≡ 0 → ReadsPiece left more old new end {E = Failed} (Ok n) → new ≡ old
read_none left more old new end n none piece = piece.1 ∙ ap (λ l. old ++ l) (nil_from_length piece.0 (piece.3 ∙ none)) ∙ append-nil old

-- where a scan has come to stays, whatever is read behind it
pub scan_stays : (scan : Scan) (left more : Option (List ℕ)) (old new : List ℕ) (end n : ℕ) → IsScanOf scan old → ReadsPiece left more old new end {E = Failed} (Ok n) → IsScanOf scan new
scan_stays scan left more old new end n is piece = (
  omega (arith, is.0, piece_length left more old new end n piece),
  subst (EndsAt scan.place) (sym (ap (take scan.seen) piece.1 ∙ take-append-le scan.seen old piece.0 is.0)) is.1,
)

-- a response that a failed read cuts short inside its head
pub head_fails : (old new : List ℕ) (left : Option (List ℕ)) (failed : Bool) → IsInside old → length old < 4096 → new ≡ old → failed ≡ true → Stops new left failed (Err Ended)
head_fails old new left failed inside short e f = inr (inr (f, subst WantsMore (sym e) (inl (inside.0, inside.1, short)), refl))

-- a response that ends inside its head
pub head_ends : (old new : List ℕ) (left : Option (List ℕ)) (failed : Bool) → IsInside old → length old < 4096 → new ≡ old → failed ≡ false → IsAtEnd left → Stops new left failed (Err Ended)
head_ends old new left failed inside short e f end =
    let ends : EndsInHead new = subst EndsInHead (sym e) (inside.0, inside.1, short) in
    inr (inl (f, end, inl ends, inr (inr (ends, refl)), refl))
