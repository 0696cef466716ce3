use Rattle.std.proofs.Common.{◌≡◌, ◌-◌, ◌∷◌, [], List, ℕ, length, get_or, take, drop, inl, inr, sym, ap, subst, ◌∙◌, rules}
use Rattle.std.proofs.lemmas.List.{take_rest}
use Rattle.ns_types.proofs.ByteLemmas.{AreBytes-slice}
use Rattle.ns_types.specs.declared.identity.GatewayId.{GatewayId}
use Rattle.ns_forwarder.specs.declared.head.Head.{Head}
use Rattle.ns_forwarder.specs.declared.head.Kind.{Kind}
use Rattle.ns_forwarder.specs.Message.{IsMessage, head_of, message_of}
use Rattle.ns_forwarder.proofs.MessageLemmas.{IsRead, version-from, IsMessage-read, message_of-read, message_of-message, read}
use Rattle.ns_forwarder.proofs.head.read_message.Goals as goal
use Rattle.ns_forwarder.proofs.head.read_message.Goals.{else-bytes-ne1-via-then-bytes-ne1+else-bytes-ne2, else-bytes-ne1-via-else-bytes-ne1}

-- the tests that were passed
passed : (c : goal.After-body-1) → IsRead c.args.bytes.now c.in_ok-kind.kind
passed c = record {
  most = c.if-bytes-gt-MOST_BYTES.false;
  least = c.if-bytes-lt-HEAD.false;
  version = version-from _ (elim c.else-bytes-ne1.branch [
    | else-bytes-ne1-via-then-bytes-ne1+else-bytes-ne2 w ↦ inr w.if-bytes-ne2.false
    | else-bytes-ne1-via-else-bytes-ne1 w ↦ inl w.if-bytes-ne1.false
  ]);
  kind_is = search rules;
}

abbrev with_gateway : List ℕ → Kind → GatewayId → Head
with_gateway bytes kind g = record { version = get_or bytes 0 0; token = get_or bytes 1 0 ∷ get_or bytes 2 0 ∷ []; kind = kind; gateway = g }

-- what is returned is what the bytes hold
same : (c : goal.After-body-1) → read (with_gateway c.args.bytes.now c.in_ok-kind.kind c.gateway_of-gateway.result) (take (length c.args.bytes.now - 12) (drop 12 c.args.bytes.now)) ≡ message_of c.args.bytes.now
same c =
    let bytes = c.args.bytes.now in
    ap (λ (g : GatewayId). read (with_gateway bytes c.in_ok-kind.kind g) (take (length bytes - 12) (drop 12 bytes))) c.gateway_of-gateway.ensures
    ∙ ap (read (head_of bytes c.in_ok-kind.kind)) (take_rest bytes 12)
    ∙ sym (message_of-read bytes c.in_ok-kind.kind (passed c))

pub returns-clause-found : goal.returns-clause-found
returns-clause-found c =
    let bytes = c.args.bytes.now in
    let kind = c.in_ok-kind.kind in
    let is = IsMessage-read bytes kind (AreBytes-slice bytes (λ i. search rules)) (passed c) in
    subst (λ (body : List ℕ). IsMessage bytes (with_gateway bytes kind c.gateway_of-gateway.result) body) (sym (take_rest bytes 12))
    (subst (λ (g : GatewayId). IsMessage bytes (with_gateway bytes kind g) (drop 12 bytes)) (sym c.gateway_of-gateway.ensures) is)

pub returns-clause-only : goal.returns-clause-only
returns-clause-only c h body is = same c ∙ message_of-message c.args.bytes.now h body is
