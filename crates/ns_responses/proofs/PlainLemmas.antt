-- What is given, by the steps that the reading takes.
use Rattle.std.proofs.Common.{◌≡◌, ℕ, zero, suc, ◌-◌, ◌<◌, ◌≤◌, Bool, true, false, cond, List, [], ◌++◌, length, take, drop, Option, None, Some, IfSome, refl, sym, ap, ◌∙◌, arith, append_assoc, take-append-drop}
use Rattle.std.specs.Prelude.{nat_eq}
use Rattle.std.specs.Option.{option_map}
use Rattle.std.specs.List.{slice_range, starts_with}
use Rattle.std.specs.Io.KnownBytes.{Consumes, IsAtEnd}
use Rattle.std.proofs.lemmas.List.{take-append-le, drop-append-le}
use Rattle.http1.specs.declared.chunked.State.TheVariants.{Failed}
use Rattle.http1.specs.declared.chunked.ChunkError.{ChunkError}
use Rattle.http1.specs.declared.chunked.ChunkedDecoder.{ChunkedDecoder}
use Rattle.httparse.specs.declared.spans.Span.{Span}
use Rattle.http1.specs.ChunkedDecoder.{start, run, Advances, FailsAt, use_of}
use Rattle.http1.proofs.RunLemmas.{run_after, run_stays, run-nil}
use Rattle.ns_responses.specs.Lines.{section_of}
use Rattle.ns_responses.proofs.LinesLemmas.{room_taken}
use Rattle.ns_responses.specs.Head.{is_chunked_head, unframed}
use Rattle.ns_responses.specs.Plain.{Given, version_text, interim_text, unchanged, with_front, is_done, content_of, dechunked, chunked_body, plain_by, plain_of}
use Rattle.ns_responses.specs.Reading.{GivesBy}

pub plain_none : (bytes : List ℕ) → plain_of 0 bytes ≡ unchanged bytes
unfolding plain_of
plain_none bytes = refl

-- where one head is looked at, or more
pub plain_more : (heads : ℕ) (bytes : List ℕ) → 0 < heads → plain_of heads bytes ≡ plain_by (plain_of (heads - 1)) bytes (section_of version_text bytes)
unfolding plain_of
plain_more zero bytes some = absurd (omega arith)
plain_more (suc heads) bytes some = let same : heads ≡ suc heads - 1 = omega arith in ap (λ n. plain_by (plain_of n) bytes (section_of version_text bytes)) same

-- where no head stands at the front
pub plain_without : (heads : ℕ) (bytes : List ℕ) → section_of version_text bytes ≡ None → plain_of heads bytes ≡ unchanged bytes
plain_without zero bytes none = plain_none bytes
plain_without (suc heads) bytes none = plain_more (suc heads) bytes (omega arith) ∙ ap (plain_by (plain_of (suc heads - 1)) bytes) none

module _ (heads : ℕ) (bytes : List ℕ) (n : ℕ) (some : 0 < heads) (within : n ≤ length bytes)
    (ends : (more : List ℕ) → section_of version_text (bytes ++ more) ≡ Some n) where
  by_head : (more : List ℕ) → plain_of heads (bytes ++ more)
      ≡ cond (starts_with nat_eq (take n bytes) interim_text) (plain_of (heads - 1) (drop n bytes ++ more))
      (cond (is_chunked_head (take n bytes)) (with_front (unframed (take n bytes)) (chunked_body (drop n bytes ++ more))) (unchanged (bytes ++ more)))
  by_head more =
      let front = take-append-le n bytes more within in
      let behind = drop-append-le n bytes more within in
      plain_more heads (bytes ++ more) some
      ∙ ap (plain_by (plain_of (heads - 1)) (bytes ++ more)) (ends more)
      ∙ (λ i. cond (starts_with nat_eq (front i) interim_text) (plain_of (heads - 1) (behind i))
      (cond (is_chunked_head (front i)) (with_front (unframed (front i)) (chunked_body (behind i))) (unchanged (bytes ++ more))))

  pub plain_interim : starts_with nat_eq (take n bytes) interim_text ≡ true → (more : List ℕ) → plain_of heads (bytes ++ more) ≡ plain_of (heads - 1) (drop n bytes ++ more)
  plain_interim interim more = rw interim at (by_head more)

  pub plain_chunked : starts_with nat_eq (take n bytes) interim_text ≡ false → is_chunked_head (take n bytes) ≡ true → (more : List ℕ)
      → plain_of heads (bytes ++ more) ≡ with_front (unframed (take n bytes)) (chunked_body (drop n bytes ++ more))
  plain_chunked other chunked more = rw (other, chunked) at (by_head more)

  pub plain_other : starts_with nat_eq (take n bytes) interim_text ≡ false → is_chunked_head (take n bytes) ≡ false → (more : List ℕ)
      → plain_of heads (bytes ++ more) ≡ unchanged (bytes ++ more)
  plain_other other unchunked more = rw (other, unchunked) at (by_head more)

-- a chunked body whose first bytes are there
pub chunked_body-append : (bytes more : List ℕ) → length bytes ≤ 65536
    → chunked_body (bytes ++ more) ≡ dechunked (start 65536) (bytes ++ take (65536 - length bytes) more) (drop (65536 - length bytes) more)
chunked_body-append bytes more fits =
    let taken = room_taken bytes more 65536 (length bytes) refl fits in
    λ i. dechunked (start 65536) (taken.0 i) (taken.1 i)

-- data that a decoder gave
pub decoded : (old new : ChunkedDecoder) (bytes : List ℕ) (span : Span) → Advances old bytes new span → (coded later : List ℕ)
    → dechunked old (bytes ++ coded) later ≡ with_front (slice_range bytes span.start span.end) (dechunked new (drop span.end bytes ++ coded) later)
decoded old new bytes span a coded later =
    let split : bytes ++ coded ≡ take span.end bytes ++ (drop span.end bytes ++ coded) =
    ap (λ l. l ++ coded) (sym (take-append-drop span.end bytes)) ∙ append_assoc (take span.end bytes) (drop span.end bytes) coded in
    ap (λ l. content_of (run old l) later) split
    ∙ ap (λ r. content_of r later) (run_after old new (take span.end bytes) (slice_range bytes span.start span.end) (drop span.end bytes ++ coded) a.reads)

-- chunks that are not lawful stay so
pub not_lawful : (old new : ChunkedDecoder) (bytes : List ℕ) (e : ChunkError) → FailsAt old bytes new e → (coded later : List ℕ) → (dechunked old (bytes ++ coded) later).whole ≡ false
not_lawful old new bytes e f coded later =
    let failed : (run old bytes).ends.state ≡ Failed e = ap (λ d. d.state) f.ends ∙ f.failed in
    let stays = run_stays old bytes coded (ap use_of failed) in
    let unfinished : is_done (run old (bytes ++ coded)).ends.state ≡ false = ap (λ d. is_done d.state) stays ∙ ap is_done failed in
    rw unfinished refl

-- chunks whose last one is not there
pub not_ended : (decoder : ChunkedDecoder) (later : List ℕ) → is_done decoder.state ≡ false → (dechunked decoder [] later).whole ≡ false
not_ended decoder later unfinished =
    let ends : is_done (run decoder []).ends.state ≡ false = ap (λ r. is_done r.ends.state) (run-nil decoder) ∙ unfinished in
    rw ends refl

-- the same, whatever the stream gives
pub gives_always : (before after : Option (List ℕ)) (old new : List ℕ → Given) (front piece : List ℕ) → Consumes before after piece
    → ((more : List ℕ) → old (piece ++ more) ≡ with_front front (new more)) → GivesBy before after old new front
gives_always None after old new front piece read same = tt
gives_always (Some xs) None old new front piece read same = absurd read
gives_always (Some xs) (Some ys) old new front piece read same = ap old read ∙ same ys

-- the same, since the stream has ended
pub gives_ended : (before after : Option (List ℕ)) (old new : List ℕ → Given) (front piece : List ℕ) → Consumes before after piece → IsAtEnd after
    → old (piece ++ []) ≡ with_front front (new []) → GivesBy before after old new front
gives_ended None after old new front piece read ended same = tt
gives_ended (Some xs) None old new front piece read ended same = absurd read
gives_ended (Some xs) (Some ys) old new front piece read ended same = ap old (read ∙ ap (λ l. piece ++ l) ended) ∙ same ∙ ap (λ l. with_front front (new l)) (sym ended)

pub GivesBy-trans : (a b c : Option (List ℕ)) (f g h : List ℕ → Given) (front piece : List ℕ) → GivesBy a b f g front → GivesBy b c g h piece → GivesBy a c f h (front ++ piece)
GivesBy-trans None b c f g h front piece p q = tt
GivesBy-trans (Some xs) None c f g h front piece p q = absurd p
GivesBy-trans (Some xs) (Some ys) None f g h front piece p q = absurd q
GivesBy-trans (Some xs) (Some ys) (Some zs) f g h front piece p q =
    p ∙ ap (with_front front) q ∙ (λ i. record { bytes = sym (append_assoc front piece (h zs).bytes) i; whole = (h zs).whole })

-- a fact of what is given, whatever the stream gives or since it has ended
pub whole_always : (left : Option (List ℕ)) (given : List ℕ → Given) (is : Bool) → ((more : List ℕ) → (given more).whole ≡ is)
    → IfSome (option_map (λ bytes. (given bytes).whole) left) (λ whole. whole ≡ is)
whole_always None given is h = tt
whole_always (Some xs) given is h = h xs

pub whole_ended : (left : Option (List ℕ)) (given : List ℕ → Given) (is : Bool) → IsAtEnd left → (given []).whole ≡ is
    → IfSome (option_map (λ bytes. (given bytes).whole) left) (λ whole. whole ≡ is)
whole_ended None given is ended h = tt
whole_ended (Some xs) given is ended h = ap (λ l. (given l).whole) ended ∙ h

-- the bytes that were given
pub consumed : (before after : Option (List ℕ)) (old new : List ℕ → Given) (front : List ℕ) → GivesBy before after old new front
    → Consumes (option_map (λ bytes. (old bytes).bytes) before) (option_map (λ bytes. (new bytes).bytes) after) front
consumed None after old new front p = tt
consumed (Some xs) None old new front p = absurd p
consumed (Some xs) (Some ys) old new front p = ap (λ g. g.bytes) p
