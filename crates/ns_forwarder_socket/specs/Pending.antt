-- The datagrams of a message that wait to be given.
use Rattle.std.specs.Prelude.{◌≡◌, ℕ, List, ◌∷◌, take, drop, map}
use Rattle.ns_forwarder_socket.specs.declared.pending.Pending.{Pending}

-- those that wait, the next first
abbrev pub waiting : Pending → List (List ℕ)
waiting p = drop p.given (map (λ d. d.items) p.datagrams.items)

-- the first of these was put at the front of a buffer, where it is n bytes, and the others still wait
pub record IsGiven (before after : List (List ℕ)) (n : ℕ) (buf : List ℕ) : Type 0 where
  pub first : List ℕ
  pub next : before ≡ first ∷ after
  pub front : take n buf ≡ take 512 first
