-- The datagrams up to one, and that one.
use Rattle.std.proofs.Common.{◌≡◌, ℕ, ◌+◌, ◌<◌, List, [], ◌∷◌, ◌++◌, length, get_or, drop, map, sym, ap, ◌∙◌, append_assoc}
use Rattle.std.proofs.lemmas.List.{drop_more, map-append}
use Rattle.ns_types.specs.declared.identity.GatewayId.{GatewayId}
use Rattle.ns_forwarder.specs.declared.clock.Clock.{Clock}
use Rattle.ns_forwarder.specs.declared.item.Item as code
use Rattle.ns_forwarder.specs.Clock.{moment_at, clock_after}
use Rattle.ns_forwarder.specs.Uplink.{heard_of}
use Rattle.ns_forwarder.specs.Held.{item_view}
use Rattle.ns_forwarder.specs.Handed.{heard_from, clock_from}

split : (items : List code.Item) (n : ℕ) (i : code.Item) → n < length items → i ≡ get_or items n i → drop n items ≡ i ∷ drop (n + 1) items
split items n i within is = drop_more items n i within ∙ ap (λ first. first ∷ drop (n + 1) items) (sym is)

-- the first of the frames that are left, and the others at the clock that follows it
pub heard_from-next : (items : List code.Item) (n : ℕ) (i : code.Item) (gateway : GatewayId) (clock after : Clock) (moment now : ℕ) → n < length items → i ≡ get_or items n i
    → moment ≡ moment_at clock i.counter now → after ≡ clock_after clock i.counter now
    → heard_from (map item_view (drop n items)) gateway clock now
    ≡ (heard_of (item_view i) gateway moment, i.frame.items) ∷ heard_from (map item_view (drop (n + 1) items)) gateway after now
heard_from-next items n i gateway clock after moment now within is at follows =
    ap (λ left. heard_from (map item_view left) gateway clock now) (split items n i within is)
    ∙ ap (λ m. (heard_of (item_view i) gateway m, i.frame.items) ∷ heard_from (map item_view (drop (n + 1) items)) gateway (clock_after clock i.counter now) now) (sym at)
    ∙ ap (λ c. (heard_of (item_view i) gateway moment, i.frame.items) ∷ heard_from (map item_view (drop (n + 1) items)) gateway c now) (sym follows)

pub clock_from-next : (items : List code.Item) (n : ℕ) (i : code.Item) (clock after : Clock) (now : ℕ) → n < length items → i ≡ get_or items n i → after ≡ clock_after clock i.counter now
    → clock_from (map item_view (drop (n + 1) items)) after now ≡ clock_from (map item_view (drop n items)) clock now
clock_from-next items n i clock after now within is follows =
    ap (λ c. clock_from (map item_view (drop (n + 1) items)) c now) follows
    ∙ sym (ap (λ left. clock_from (map item_view left) clock now) (split items n i within is))

-- one more behind those that were made, and the first of those that are left
pub one-behind : {X Y Z : Type 0} (f : X → Z) (g : Y → Z) (old new : List X) (x : X) (left : List Y) (y : Y) (rest : List Y) (all : List Z)
    → new ≡ old ++ x ∷ [] → left ≡ y ∷ rest → f x ≡ g y → map f old ++ map g left ≡ all → map f new ++ map g rest ≡ all
one-behind f g old new x left y rest all made first same before =
    ap (λ xs. map f xs ++ map g rest) made
    ∙ ap (λ zs. zs ++ map g rest) (map-append f old (x ∷ []))
    ∙ append_assoc (map f old) (f x ∷ []) (map g rest)
    ∙ ap (λ z. map f old ++ z ∷ map g rest) same
    ∙ ap (λ ys. map f old ++ map g ys) (sym first)
    ∙ before
