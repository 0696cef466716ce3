-- Receipts of entries that were made since a trim.
use Rattle.std.proofs.Common.{◌≡◌, ℕ, ◌+◌, ◌-◌, ◌<◌, ◌≤◌, Bool, false, List, length, take, Some, sym, ap, subst, ◌∙◌, arith}
use Rattle.std.specs.Prelude.{slice_get, ◌↔◌, IsTrue, get_or}
use Rattle.std.proofs.lemmas.Option.{slice_get-get_or}
use Rattle.ns_roster.specs.Network.{Network}
use Rattle.ns_calls.specs.declared.call.Entry.{Entry}
use Rattle.ns_calls.specs.Legal.{IsLegal}
use Rattle.ns_calls.specs.Laws.{WindowsOpenOnce}
use Rattle.ns_calls.specs.Headline.{LimitsHold}
use Rattle.ns_calls.specs.Merges.{Sent, out}
use Rattle.ns_kept.specs.Left.{Leaves, first_entries}
use Rattle.ns_sent.specs.Found.{CopiesFit}
use Rattle.ns_shard.specs.State.{State, Keeps, IsState, remains}
use Rattle.ns_outside.specs.declared.receipt.Receipt.{Receipt}
use Rattle.ns_outside.specs.Answered.{Sends}
use Rattle.ns_server.specs.Check.{StandsIn}
use Rattle.ns_server.proofs.Unread.{kept_of, leaves_first, place_left, length_left, out_unread, copies_fit}

-- what is known of the place of an entry since the trim
record Standing (s : State) (h : List Entry) (number place : ℕ) : Type 0 where
  there : slice_get s.entries place ≡ slice_get h number
  first : Leaves s.roster (take number h) (first_entries place (remains s))

standing : (s : State) (h : List Entry) → Keeps h s → (number place : ℕ) → s.mark ≤ number → number < s.made → place + s.made ≡ length s.entries + number → Standing s h number place
standing s h keeps number place since below at =
    let j : ℕ = number - s.mark in
    let number_is : s.mark + j ≡ number = omega (arith, since) in
    let len = length_left s.roster h (remains s) keeps.left in
    let place_is : length (kept_of h s.mark) + j ≡ place = omega (arith, len, at, keeps.made, number_is) in
    let fits : s.mark + j ≤ length h = omega (arith, number_is, below, keeps.made) in
    record {
      there = subst (λ n. slice_get s.entries n ≡ slice_get h number) place_is (place_left s.roster h (remains s) keeps.left j ∙ ap (slice_get h) number_is);
      first =
          subst (λ n. Leaves s.roster (take number h) (first_entries n (remains s))) place_is
          (subst (λ n. Leaves s.roster (take n h) (first_entries (length (kept_of h s.mark) + j) (remains s))) number_is (leaves_first s.roster h (remains s) keeps.left j fits));
    }

sends_too : (net : Network) (g h : List Entry) (r : Receipt) → out net g r.entry ≡ out net h r.entry → Sends net g r → Sends net h r
sends_too net g h r same sends = record { uplink = sym (ap (λ (x : Sent). x.uplink) same) ∙ sends.uplink; downlink = sym (ap (λ (x : Sent). x.downlink) same) ∙ sends.downlink }

-- there are as many entries since the trim as were made since
pub place_fits : (s : State) → IsState s → (number : ℕ) → s.mark ≤ number → number < s.made → (s.made - number ≤ length s.entries) × (length s.entries - (s.made - number) < length s.entries)
place_fits s is number since below =
    let len = length_left s.roster is.history (remains s) is.keeps.left in
    let made = is.keeps.made in
    (omega (arith, len, made, since, below), omega (arith, len, made, since, below))

-- the entry that is read for a receipt, at its place among those that are kept
pub record FoundFor (s : State) (r : Receipt) (place : ℕ) (e : Entry) : Type 0 where
  since : s.mark ≤ r.entry.number
  below : r.entry.number < s.made
  at : place + s.made ≡ length s.entries + r.entry.number
  found : slice_get s.entries place ≡ Some e

pub found_for : (s : State) → IsState s → (r : Receipt) (es : List Entry) (made : ℕ) (e : Entry) → es ≡ s.entries → made ≡ s.made → s.mark ≤ r.entry.number → r.entry.number < made →
    get_or es (length es - (made - r.entry.number)) e ≡ e → FoundFor s r (length s.entries - (made - r.entry.number)) e
found_for s is r es made e es_is made_is since fewer got =
    let place : ℕ = length s.entries - (made - r.entry.number) in
    let below : r.entry.number < s.made = omega (arith, fewer, made_is) in
    let fits = place_fits s is r.entry.number since below in
    let inside : place < length s.entries = omega (arith, fits.0, fits.1, made_is) in
    record {
      since = since;
      below = below;
      at = omega (arith, fits.0, below, made_is);
      found = slice_get-get_or s.entries place e inside ∙ ap Some (rw es_is at got);
    }

-- the laws that are asked of histories
pub record Laws (net : Network) : Type 0 where
  once : (h : List Entry) → IsLegal net h → WindowsOpenOnce h
  limits : (h : List Entry) → IsLegal net h → LimitsHold h

pub laws_of : (net : Network) → ((h : List Entry) → IsLegal net h → WindowsOpenOnce h) → ((h : List Entry) → IsLegal net h → LimitsHold h) → Laws net
laws_of net once limits = record { once = once; limits = limits }

-- the copies of the entries before it fit
pub fits_there : (s : State) → IsState s → Laws s.roster → (r : Receipt) (place : ℕ) (e : Entry) → FoundFor s r place e → e ≡ r.entry → CopiesFit (take place s.entries) r.entry
fits_there s is laws r place e it same =
    let h : List Entry = is.history in
    let st = standing s h is.keeps r.entry.number place it.since it.below it.at in
    let there : slice_get h r.entry.number ≡ Some r.entry = sym st.there ∙ (it.found ∙ ap Some same) in
    copies_fit s.roster (take r.entry.number h) (first_entries place (remains s)) st.first (laws.limits (take r.entry.number h) st.first.legal) r.entry (is.keeps.left.legal r.entry.number r.entry there)

-- the entry is the one at its place, and what goes out is compared
pub stands_found : (s : State) → IsState s → Laws s.roster → (r : Receipt) (place : ℕ) (e : Entry) (b : Bool) → FoundFor s r place e → e ≡ r.entry → (IsTrue b ↔ Sends s.roster (take place s.entries) r) → (IsTrue b ↔ StandsIn s r)
stands_found s is laws r place e b it same sends = (
  (λ t h keeps.
      let st = standing s h keeps r.entry.number place it.since it.below it.at in
      let there : slice_get h r.entry.number ≡ Some r.entry = sym st.there ∙ (it.found ∙ ap Some same) in
      record { entry = there; sent = sends_too s.roster (take place s.entries) (take r.entry.number h) r (goes_out h keeps there) (sends.0 t) }),
  (λ stands.
      let at_own = stands is.history is.keeps in
      sends.1 (sends_too s.roster (take r.entry.number is.history) (take place s.entries) r (sym (goes_out is.history is.keeps at_own.entry)) at_own.sent)),
)
  where
    goes_out : (h : List Entry) → Keeps h s → slice_get h r.entry.number ≡ Some r.entry → out s.roster (take place s.entries) r.entry ≡ out s.roster (take r.entry.number h) r.entry
    goes_out h keeps there =
        let st = standing s h keeps r.entry.number place it.since it.below it.at in
        out_unread s.roster (take r.entry.number h) (first_entries place (remains s)) st.first (laws.once (take r.entry.number h) st.first.legal) r.entry (keeps.left.legal r.entry.number r.entry there)

-- the entry at its place is another
pub stands_other : (s : State) → IsState s → (r : Receipt) (place : ℕ) (e : Entry) (a : Bool) → FoundFor s r place e → (IsTrue a ↔ (e ≡ r.entry)) → a ≡ false → (IsTrue a ↔ StandsIn s r)
stands_other s is r place e a it same failed = (
  (λ t. absurd (cc (t, failed))),
  (λ stands.
      let st = standing s is.history is.keeps r.entry.number place it.since it.below it.at in
      let there : Some e ≡ Some r.entry = sym it.found ∙ (st.there ∙ (stands is.history is.keeps).entry) in
      same.1 (cc there)),
)
