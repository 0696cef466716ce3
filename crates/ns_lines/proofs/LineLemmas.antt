-- No line of an answer holds a line feed.
use Rattle.std.proofs.Common.{◌≡◌, ℕ, zero, suc, ◌+◌, ◌/◌, ◌%◌, ◌==◌, Bool, true, false, ◌||◌, cond, List, [], ◌∷◌, ◌++◌, flat_map, Option, None, Some, option_map, refl, ap, ◌∙◌, arith}
use Rattle.std.specs.Prelude.{codes, decimal, slice_index, nat_lt}
use Rattle.std.specs.List.{AllByRecursion}
use Rattle.std.specs.Option.{option_to_list}
use Rattle.std.specs.Int.{w32, w64, to_be_bytes}
use Rattle.std.specs.Fmt.{digits, digits_onto, digit_glyph}
use Rattle.std.proofs.lemmas.List.Folds.{list_any-append}
use Rattle.std.proofs.lemmas.Bool.{or_parts, or_from}
use Rattle.std.proofs.lemmas.Bool.Decides.{nat_tests}
use Rattle.hex.specs.Hex.{encode_with, encode_lower, lower_digits}
use Rattle.ns_types.specs.declared.identity.WindowName.{WindowName}
use Rattle.ns_types.specs.declared.heard.Heard.{Heard}
use Rattle.ns_calls.specs.declared.answer.Uplink.{Uplink}
use Rattle.ns_calls.specs.declared.answer.Downlink.{Downlink}
use Rattle.ns_calls.specs.declared.answer.Answer.{Answer}
use Rattle.ns_calls.specs.declared.call.Reply.{Reply}
use Rattle.ns_calls.specs.declared.call.Reply.TheVariants.{Opened, Copied, Crowded, Old, Busy, Ask, JoinCopied, NonceOld, Accepted, JoinStale, Closed, Again}
use Rattle.ns_calls.proofs.Lists.{All-append}
use Rattle.ns_lines.specs.Text.{wide, address_text, round_text, window_text, optional_text, reply_text, bytes_text, gateways_text, up_text, down_text, text, has_line_feed}

-- two texts one after the other
pub joined : (xs ys : List ℕ) → has_line_feed xs ≡ false → has_line_feed ys ≡ false → has_line_feed (xs ++ ys) ≡ false
joined xs ys first second = list_any-append (λ b. b == 10) xs ys ∙ (ap (λ b. b || has_line_feed ys) first ∙ second)

pub at_any : (xs : List ℕ) → has_line_feed xs ≡ false → (i : ℕ) → (slice_index xs i == 10) ≡ false
at_any [] none i = refl
at_any (x ∷ xs) none zero = (or_parts (x == 10) (has_line_feed xs) none).0
at_any (x ∷ xs) none (suc i) = at_any xs (or_parts (x == 10) (has_line_feed xs) none).1 i

pub hex-line : (bytes : List ℕ) → has_line_feed (encode_lower bytes) ≡ false
unfolding encode_with
hex-line [] = refl
hex-line (b ∷ bs) =
    or_from _ _ (at_any lower_digits refl (b / 16)) (or_from _ _ (at_any lower_digits refl (b % 16)) (hex-line bs))

glyph : (d : ℕ) → (digit_glyph false d == 10) ≡ false
glyph d = elim (nat_lt d 10) as (λ b. (cond b (48 + d) (87 + d) == 10) ≡ false) [ true ↦ grind (arith, nat_tests) | false ↦ grind (arith, nat_tests) ]

digits-line : (k n : ℕ) (acc : List ℕ) → has_line_feed acc ≡ false → has_line_feed (digits_onto k 10 false n acc) ≡ false
digits-line zero n acc none = none
digits-line (suc k) n acc none =
    let next : List ℕ = digit_glyph false (n % 10) ∷ acc in
    let more : has_line_feed next ≡ false = or_from _ _ (glyph (n % 10)) none in
    elim (n / 10 == 0) as (λ b. has_line_feed (cond b next (digits_onto k 10 false (n / 10) next)) ≡ false) [
      | true ↦ more
      | false ↦ digits-line k (n / 10) next more
    ]

pub decimal-line : (n : ℕ) → has_line_feed (decimal n) ≡ false
unfolding digits
decimal-line n = digits-line 64 n [] refl

pub wide-line : (n : ℕ) → has_line_feed (wide n) ≡ false
unfolding wide
wide-line n = hex-line (to_be_bytes w64 n)

pub address-line : (n : ℕ) → has_line_feed (address_text n) ≡ false
unfolding address_text
address-line n = hex-line (to_be_bytes w32 n)

-- what the parts of a line say of the whole, where the words in between compute
ruleset lines = (list_any-append, decimal-line, wide-line, address-line, hex-line)

round-line : (round : ℕ) → has_line_feed (round_text round) ≡ false
round-line round = elim (nat_lt 1 round) as (λ b. has_line_feed (cond b (codes ":" ++ decimal round) []) ≡ false) [ true ↦ decimal-line round | false ↦ refl ]

window-line : (w : WindowName) → has_line_feed (window_text w) ≡ false
unfolding window_text
window-line w = simp (lines, round-line)

optional-line : (o : Option ℕ) → has_line_feed (optional_text o) ≡ false
optional-line None = refl
optional-line (Some n) = decimal-line n

bytes-line : (bytes : List ℕ) → has_line_feed (bytes_text bytes) ≡ false
unfolding bytes_text
bytes-line [] = refl
bytes-line (b ∷ bs) = hex-line (b ∷ bs)

reply-line : (r : Reply) → has_line_feed (reply_text r) ≡ false
unfolding reply_text
reply-line (Opened w) = window-line w
reply-line (Copied w place) = simp (lines, window-line)
reply-line (Crowded w) = window-line w
reply-line (Old eui session fcnt) = simp lines
reply-line (Busy eui) = wide-line eui.0
reply-line (Ask ticket) = hex-line ticket.0
reply-line (JoinCopied place) = decimal-line place
reply-line (NonceOld greatest) = decimal-line greatest.0
reply-line (Accepted eui session addr) = simp lines
reply-line (JoinStale greatest) = decimal-line greatest.0
reply-line (Closed w ack) = simp (lines, window-line, optional-line)
reply-line (Again w) = window-line w
reply-line _ = refl

more_gateways-line : (hs : List Heard) → has_line_feed (flat_map (λ (c : Heard). codes "," ++ wide c.gateway.0) hs) ≡ false
more_gateways-line [] = refl
more_gateways-line (h ∷ hs) = simp lines (more_gateways-line hs)

gateways-line : (hs : List Heard) → has_line_feed (gateways_text hs) ≡ false
unfolding gateways_text
gateways-line [] = refl
gateways-line (h ∷ hs) = simp (lines, more_gateways-line)

kind-line : (b : Bool) → has_line_feed (cond b (codes " sealed") (codes " plain")) ≡ false
kind-line true = refl
kind-line false = refl

up-line : (u : Uplink) → has_line_feed (up_text u) ≡ false
unfolding up_text
up-line u = simp (lines, window-line, optional-line, bytes-line, gateways-line, kind-line)

down-line : (d : Downlink) → has_line_feed (down_text d) ≡ false
unfolding down_text
down-line d = simp (lines, bytes-line)

-- the line of each thing that may go out
option-lines : {X : Type 0} (line : X → List ℕ) → ((x : X) → has_line_feed (line x) ≡ false) → (o : Option X) → AllByRecursion (λ l. has_line_feed l ≡ false) (option_to_list (option_map line o))
option-lines line each None = tt
option-lines line each (Some x) = (each x, tt)

pub no_line_feed : (a : Answer) → AllByRecursion (λ l. has_line_feed l ≡ false) (text a)
no_line_feed a =
    (reply-line a.reply, All-append (λ l. has_line_feed l ≡ false) (option_to_list (option_map up_text a.uplink)) (option_to_list (option_map down_text a.downlink)) (option-lines up_text up-line a.uplink) (option-lines down_text down-line a.downlink))
