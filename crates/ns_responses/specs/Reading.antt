-- What the reads of `Responses` will give, by how far it has come, and what a step of it does.
use Rattle.std.specs.Prelude.{◌≡◌, ℕ, ◌+◌, ◌⊎◌, ◌||◌, Bool, true, false, List, [], ◌++◌, length, take, drop, min, ◌==◌, if◌then◌else◌, Option, IfSome}
use Rattle.std.specs.Option.{option_map, IsSomeAnd}
use Rattle.ns_responses.specs.declared.part.Part.{Part}
use Rattle.ns_responses.specs.declared.part.Part.TheVariants.{Head, Unchanged, Chunks, Trailers, Ended}
use Rattle.ns_responses.specs.declared.responses.Responses.{Responses}
use Rattle.ns_responses.specs.Plain.{Given, unchanged, with_front, is_done, has_trailers, dechunked, plain_of}

-- what is given behind a part of the response, of some unread bytes and those that the stream gives
abbrev pub goes_on : Part → List ℕ → List ℕ → Given
goes_on (Head heads) unread bytes = plain_of heads (unread ++ bytes)
goes_on Unchanged unread bytes = unchanged (unread ++ bytes)
goes_on (Chunks decoder room) unread bytes = dechunked decoder (unread ++ take room bytes) (drop room bytes)
goes_on Trailers unread bytes = record { bytes = []; whole = has_trailers (unread ++ bytes) }
goes_on Ended unread bytes = unchanged []

-- what is given where the stream gives these bytes
abbrev pub given_of : {S : Type 0} → Responses S → List ℕ → Given
given_of r bytes = with_front r.held.ready (goes_on r.part r.held.unread bytes)

-- a front was given of what is given for the bytes before, and the rest is what is given for those after
abbrev pub GivesBy : Option (List ℕ) → Option (List ℕ) → (List ℕ → Given) → (List ℕ → Given) → List ℕ → Type 0
GivesBy before after old new front =
    IfSome before (λ bytes. IsSomeAnd after (λ more. old bytes ≡ with_front front (new more)))

-- the bytes that reads will give, where the stream tells its own
abbrev pub left_of : {S : Type 0} → (S → Option (List ℕ)) → Responses S → Option (List ℕ)
left_of left r = option_map (λ bytes. (given_of r bytes).bytes) (left r.stream)

-- whether the end follows them, and no failure
abbrev pub whole_of : {S : Type 0} → (S → Option (List ℕ)) → Responses S → Option Bool
whole_of left r = option_map (λ bytes. (given_of r bytes).whole) (left r.stream)

-- Where the stream tells its bytes: what was given stands at the front of what was to be given.
abbrev pub Gives : {S : Type 0} → (S → Option (List ℕ)) → Responses S → Responses S → List ℕ → Type 0
Gives left old new front = GivesBy (left old.stream) (left new.stream) (given_of old) (given_of new) front

-- whether a read or a write has failed, by whether one of the stream has
abbrev pub has_failed_of : {S : Type 0} → (S → Bool) → Responses S → Bool
has_failed_of failed r = r.unlawful || failed r.stream

-- the stream has failed, or the chunks are not lawful, so that a failure follows what was given
abbrev pub Fails : {S : Type 0} → (S → Option (List ℕ)) → (S → Bool) → Responses S → Type 0
Fails left failed r =
    (failed r.stream ≡ true) ⊎ ((r.unlawful ≡ true) × IfSome (whole_of left r) (λ whole. whole ≡ false))

-- how many steps there are at most until no more is to be looked at
abbrev pub weight_of : Part → List ℕ → ℕ
weight_of (Head heads) unread = 140000 + heads
weight_of Unchanged unread = 0
weight_of (Chunks decoder room) unread = if is_done decoder.state then 2 else 3 + (room + room) + min 1 (length unread)
weight_of Trailers unread = 1
weight_of Ended unread = 0

-- and until bytes are ready
abbrev pub steps_left : {S : Type 0} → Responses S → ℕ
steps_left r = if length r.held.ready == 0 then weight_of r.part r.held.unread else 0
