-- The steps of the reading, by what is given before and after them.
use Rattle.std.proofs.Common.{◌≡◌, ℕ, ◌+◌, ◌-◌, ◌≤◌, ◌&&◌, true, List, [], ◌++◌, length, take, drop, Option, None, Some, sym, ap, ◌∙◌, arith, append_assoc, inl, inr, take-take, drop-drop, take-append-drop}
use Rattle.std.proofs.Math.Seq.{take-append-add, drop-append-add}
use Rattle.std.specs.Prelude.{is_some}
use Rattle.std.specs.List.{slice_range}
use Rattle.std.specs.Io.KnownBytes.{Consumes}
use Rattle.std.proofs.KnownBytes.{Consumes-nil}
use Rattle.std.proofs.lemmas.List.{append-nil, length-take, length-drop}
use Rattle.httparse.specs.declared.spans.Span.{Span}
use Rattle.http1.specs.declared.chunked.ChunkedDecoder.{ChunkedDecoder}
use Rattle.http1.specs.declared.chunked.State.TheVariants.{Done}
use Rattle.http1.specs.ChunkedDecoder.{start, use_of}
use Rattle.http1.proofs.RunLemmas.{run_stops}
use Rattle.ns_responses.specs.declared.part.Part.{Part}
use Rattle.ns_responses.specs.declared.part.Part.TheVariants.{Unchanged}
use Rattle.ns_responses.specs.Held.{HeldBytes, unready}
use Rattle.ns_responses.specs.Finding.{FindsSection}
use Rattle.ns_responses.specs.Plain.{Given, version_text, unchanged, with_front, is_done, content_of, has_trailers, dechunked, chunked_body, plain_of}
use Rattle.ns_responses.specs.Reading.{goes_on, GivesBy}
use Rattle.ns_responses.proofs.HeldLemmas.{range_take}
use Rattle.ns_responses.proofs.LinesLemmas.{room_taken}
use Rattle.ns_responses.proofs.PlainLemmas.{plain_without, chunked_body-append, gives_always, gives_ended}

-- what is given by a part and what is held
abbrev pub given_by : Part → HeldBytes → List ℕ → Given
given_by part held bytes = with_front held.ready (goes_on part held.unread bytes)

-- where no byte is ready
pub given_unready : (part is : Part) (held : HeldBytes) → part ≡ is → held.ready ≡ [] → (more : List ℕ) → given_by part held more ≡ goes_on is held.unread more
given_unready part is held e none more = λ i. with_front (none i) (goes_on (e i) held.unread more)

pub given_held : (part : Part) (held : HeldBytes) (unread : List ℕ) → held ≡ unready unread → (more : List ℕ) → given_by part held more ≡ goes_on part unread more
given_held part held unread e more = ap (λ h. given_by part h more) e

module _ (before after : Option (List ℕ)) (unread piece : List ℕ) (f g : List ℕ → Given) (read : Consumes before after piece) where
  -- a piece of a head was read
  pub head_read : (heads : ℕ) → ((more : List ℕ) → f more ≡ plain_of heads (unread ++ more)) → ((more : List ℕ) → g more ≡ plain_of heads ((unread ++ piece) ++ more)) → GivesBy before after f g []
  head_read heads old new = gives_always before after f g [] piece read
      (λ more. old (piece ++ more) ∙ ap (plain_of heads) (sym (append_assoc unread piece more)) ∙ sym (new more))

  -- no head stands there
  pub no_head : (heads : ℕ) → ((more : List ℕ) → f more ≡ plain_of heads (unread ++ more)) → ((more : List ℕ) → g more ≡ unchanged ((unread ++ piece) ++ more))
      → FindsSection version_text (unread ++ piece) after None → GivesBy before after f g []
  no_head heads old new (inl none) = gives_always before after f g [] piece read
      (λ more. old (piece ++ more) ∙ ap (plain_of heads) (sym (append_assoc unread piece more)) ∙ plain_without heads ((unread ++ piece) ++ more) (none more) ∙ sym (new more))
  no_head heads old new (inr ended) =
      let all : unread ++ (piece ++ []) ≡ unread ++ piece = ap (λ l. unread ++ l) (append-nil piece) in
      gives_ended before after f g [] piece read ended.0
      (old (piece ++ []) ∙ ap (plain_of heads) all ∙ plain_without heads (unread ++ piece) ended.1 ∙ ap unchanged (sym (append-nil (unread ++ piece))) ∙ sym (new []))

  -- the trailer section stands there
  pub trailers_read : (n : ℕ) → ((more : List ℕ) → f more ≡ record { bytes = []; whole = has_trailers (unread ++ more) }) → ((more : List ℕ) → g more ≡ unchanged [])
      → FindsSection [] (unread ++ piece) after (Some n) → GivesBy before after f g []
  trailers_read n old new (inl has) = gives_always before after f g [] piece read
      (λ more. let whole : has_trailers (unread ++ (piece ++ more)) ≡ true = ap has_trailers (sym (append_assoc unread piece more)) ∙ ap is_some (has.1 more) in
      old (piece ++ more) ∙ (λ i. record { bytes = []; whole = whole i }) ∙ sym (new more))
  trailers_read n old new (inr ended) = cc

  -- a piece of the chunks was read
  pub chunks_read : (decoder : ChunkedDecoder) (room n : ℕ) → length piece ≡ n → n ≤ room
      → ((more : List ℕ) → f more ≡ dechunked decoder (unread ++ take room more) (drop room more))
      → ((more : List ℕ) → g more ≡ dechunked decoder ((unread ++ piece) ++ take (room - n) more) (drop (room - n) more)) → GivesBy before after f g []
  chunks_read decoder room n sized fits old new = gives_always before after f g [] piece read
      (λ more. let taken = room_taken piece more room n sized fits in
      old (piece ++ more)
      ∙ (λ i. dechunked decoder (unread ++ taken.0 i) (taken.1 i))
      ∙ ap (λ l. dechunked decoder l (drop (room - n) more)) (sym (append_assoc unread piece (take (room - n) more)))
      ∙ sym (new more))

-- nothing was read
pub gives_same : (left : Option (List ℕ)) (f g : List ℕ → Given) (front : List ℕ) → ((more : List ℕ) → f more ≡ with_front front (g more)) → GivesBy left left f g front
gives_same left f g front same = gives_always left left f g front [] (Consumes-nil left) same

-- the head without a line, and what lies behind it
module _ (u : List ℕ) (n s e : ℕ) (within : n ≤ length u) (ordered : s ≤ e) (inside : e ≤ length (take n u)) where
  fits : e ≤ n
  fits = omega (arith, inside, length-take n u)

  count : n - (e - s) ≡ length (take s u) + (n - e)
  count = omega (arith, length-take s u, fits, ordered, within)

  pub cut_ready : take (n - (e - s)) (take s u ++ drop e u) ≡ take s (take n u) ++ drop e (take n u)
  cut_ready =
      ap (λ k. take k (take s u ++ drop e u)) count
      ∙ take-append-add (take s u) (drop e u) (n - e)
      ∙ (let first : take s u ≡ take s (take n u) = sym (take-take s n u (omega (arith, fits, ordered))) in
      let rest : take (n - e) (drop e u) ≡ drop e (take n u) = range_take u e n fits in λ i. first i ++ rest i)

  pub cut_unread : drop (n - (e - s)) (take s u ++ drop e u) ≡ drop n u
  cut_unread =
      ap (λ k. drop k (take s u ++ drop e u)) count
      ∙ drop-append-add (take s u) (drop e u) (n - e)
      ∙ drop-drop (n - e) e u
      ∙ (let sum : e + (n - e) ≡ n = omega (arith, fits) in ap (λ k. drop k u) sum)

-- a chunked body behind a head of so many bytes
pub body_behind : (u : List ℕ) (n room : ℕ) (more : List ℕ) → length u ≤ 4096 → room ≡ 65536 - (length u - n)
    → chunked_body (drop n u ++ more) ≡ dechunked (start 65536) (drop n u ++ take room more) (drop room more)
body_behind u n room more short is =
    let behind = length-drop n u in
    let same : 65536 - length (drop n u) ≡ room = ap (λ k. 65536 - k) behind ∙ sym is in
    chunked_body-append (drop n u) more (omega (arith, behind, short)) ∙ ap (λ k. dechunked (start 65536) (drop n u ++ take k more) (drop k more)) same

-- what is held behind data
pub data_held : (u : List ℕ) (span : Span) (skipped released : HeldBytes) → span.start ≤ span.end → skipped ≡ unready (drop span.start u)
    → released ≡ record { ready = take (span.end - span.start) skipped.unread; unread = drop (span.end - span.start) skipped.unread }
    → released ≡ record { ready = slice_range u span.start span.end; unread = drop span.end u }
data_held u span skipped released ordered s r =
    let sum : span.start + (span.end - span.start) ≡ span.end = omega (arith, ordered) in
    r ∙ ap (λ (h : HeldBytes). record { ready = take (span.end - span.start) h.unread; unread = drop (span.end - span.start) h.unread }) s
    ∙ (let unread : drop (span.end - span.start) (drop span.start u) ≡ drop span.end u = drop-drop (span.end - span.start) span.start u ∙ ap (λ k. drop k u) sum in
    λ i. record { ready = slice_range u span.start span.end; unread = unread i })

-- chunks whose last one was read
pub chunks_done : (decoder : ChunkedDecoder) (u more : List ℕ) (room : ℕ) → decoder.state ≡ Done
    → dechunked decoder (u ++ take room more) (drop room more) ≡ record { bytes = []; whole = has_trailers (u ++ more) }
chunks_done decoder u more room done =
    ap (λ r. content_of r (drop room more)) (run_stops decoder (u ++ take room more) (ap use_of done))
    ∙ (let trailers : has_trailers ((u ++ take room more) ++ drop room more) ≡ has_trailers (u ++ more) =
    ap has_trailers (append_assoc u (take room more) (drop room more) ∙ ap (λ l. u ++ l) (take-append-drop room more)) in
    let whole : (is_done decoder.state && has_trailers ((u ++ take room more) ++ drop room more)) ≡ has_trailers (u ++ more) =
    ap (λ s. is_done s && has_trailers ((u ++ take room more) ++ drop room more)) done ∙ trailers in
    λ i. record { bytes = []; whole = whole i })

-- the first of the bytes that are ready were given
pub gives_ready : (left : Option (List ℕ)) (part : Part) (old new : HeldBytes) (n : ℕ) (front : List ℕ) → new ≡ record old { ready = drop n old.ready } → front ≡ take n old.ready
    → GivesBy left left (given_by part old) (given_by part new) front
gives_ready left part old new n front rest is = gives_same left (given_by part old) (given_by part new) front (λ more.
    (let later = goes_on part old.unread more in
    (λ i. record { bytes = (ap (λ l. l ++ later.bytes) (sym (take-append-drop n old.ready)) ∙ append_assoc (take n old.ready) (drop n old.ready) later.bytes) i; whole = later.whole })
    ∙ (λ i. with_front (sym is i) (given_by part (sym rest i) more))))

-- bytes that go through unchanged were made ready
pub gives_released : (left : Option (List ℕ)) (part : Part) (old new : HeldBytes) (n : ℕ) → part ≡ Unchanged → old.ready ≡ [] → new ≡ record { ready = take n old.unread; unread = drop n old.unread }
    → GivesBy left left (given_by part old) (given_by part new) []
gives_released left part old new n e none is = gives_same left (given_by part old) (given_by part new) [] (λ more.
    given_unready part Unchanged old e none more
    ∙ (λ i. record { bytes = (ap (λ l. l ++ more) (sym (take-append-drop n old.unread)) ∙ append_assoc (take n old.unread) (drop n old.unread) more) i; whole = true })
    ∙ (λ i. given_by (sym e i) (sym is i) more))
