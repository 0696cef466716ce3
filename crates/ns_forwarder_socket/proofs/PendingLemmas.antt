-- The first datagram that waits, and those behind it.
use Rattle.std.proofs.Common.{◌≡◌, ℕ, ◌+◌, List, ◌∷◌, ◌++◌, length, take, drop, map, min, Some, slice_get, sym, ap, ◌∙◌, arith}
use Rattle.std.proofs.lemmas.List.{drop_more, drop-map, length-take, take_min}
use Rattle.std.proofs.Math.Seq.{take-append_seam}
use Rattle.std.proofs.lemmas.Option.{slice_get_within, get_or_from_slice_get}
use Rattle.ns_forwarder_socket.specs.Pending.{IsGiven}

waits : {X : Type 0} (f : X → List ℕ) (items : List X) (i : ℕ) (x : X) → slice_get items i ≡ Some x → drop i (map f items) ≡ f x ∷ drop (i + 1) (map f items)
waits f items i x at =
    drop-map f i items
    ∙ ap (map f) (drop_more items i x (slice_get_within items i x at) ∙ ap (λ first. first ∷ drop (i + 1) items) (get_or_from_slice_get items i x x at))
    ∙ ap (λ rest. f x ∷ rest) (sym (drop-map f (i + 1) items))

copied : (n : ℕ) (bytes front tail : List ℕ) → n ≡ min 512 (length bytes) → front ≡ take n bytes → take n (front ++ tail) ≡ take 512 bytes
copied n bytes front tail short is =
    let len : length front ≡ n = ap length is ∙ length-take n bytes ∙ fits n (length bytes) short in
    ap (λ k. take k (front ++ tail)) (sym len) ∙ take-append_seam front tail ∙ is ∙ ap (λ k. take k bytes) short ∙ take_min 512 bytes
  where
    fits : (n len : ℕ) → n ≡ min 512 len → min n len ≡ n
    fits n len short = omega (arith, short)

pub IsGiven-first : {X : Type 0} (f : X → List ℕ) (items : List X) (i n : ℕ) (x : X) (front tail : List ℕ) → slice_get items i ≡ Some x → n ≡ min 512 (length (f x)) → front ≡ take n (f x)
    → IsGiven (drop i (map f items)) (drop (i + 1) (map f items)) n (front ++ tail)
IsGiven-first f items i n x front tail at short is = record {
  first = f x;
  next = waits f items i x at;
  front = copied n (f x) front tail short is;
}
