use Rattle.std.proofs.Common.{rules, ◌≡◌, ◌++◌, ◌-◌, List, ℕ, length, take, drop, replicate, sym, subst, ap, ◌∙◌, arith}
use Rattle.std.proofs.lemmas.List.{take_at}
use Rattle.ns_views.specs.Grammar.{IsDataUplink}
use Rattle.ns_views.specs.Frame.{data_fields}
use Rattle.ns_views.specs.Parts.{with_payload}
use Rattle.ns_views.proofs.Reading.{data_fields-frame}
use Rattle.ns_calls.specs.Out.{plain_payload}
use Rattle.ns_calls.proofs.BytesLemmas.{behind}
use Rattle.ns_calls.proofs.frame.DataFrame.decipher_payload.Goals as goal
use Rattle.ns_calls.proofs.frame.DataFrame.decipher_payload.Goals.{After-known_parts_mut}

pub known_parts_mut-requires-clause-uplink : goal.known_parts_mut-requires-clause-uplink
known_parts_mut-requires-clause-uplink c =
    let same : take c.from-len.result c.bytes.inside.room ≡ c.self.inside.bytes = ap (λ n. take n c.bytes.inside.room) c.from-len.ensures ∙ c.bytes.view_is in
    subst (λ b. IsDataUplink b (data_fields b)) (sym same) c.self.invariant

before : (c : After-known_parts_mut) → take c.from-len.result c.bytes.inside.room ≡ c.args.self.now
before c = ap (λ n. take n c.bytes.inside.room) c.from-len.ensures ∙ (c.bytes.view_is ∙ c.self.view_is)

same_size : (c : After-known_parts_mut) → length c.known_parts_mut.new.bytes ≡ c.bytes.inside.len
same_size c = c.known_parts_mut.auto.bytes ∙ (ap (λ n. length (take n c.bytes.inside.room)) c.from-len.ensures ∙ c.bytes.invariant.0)

plain : (c : After-known_parts_mut) → c.known_parts_mut.ensures.written ≡ plain_payload c.args.key.now c.args.fcnt c.args.self.now
plain c = search rules

-- the room with others in the place of all bytes in use
room_of : (len n : ℕ) (room after : List ℕ) → (length (take len room) ≡ len) × (room ≡ take len room ++ replicate (255 - len) 0) → n ≡ len → length after ≡ len
    → (length (take len (after ++ drop n room)) ≡ len) × (after ++ drop n room ≡ take len (after ++ drop n room) ++ replicate (255 - len) 0)
room_of len n room after is e size =
    rw (take_at after (drop n room) len size) (size, ap (λ zs. after ++ zs) (behind 255 len n room is (omega (arith, e)) ∙ ap (λ k. replicate (255 - k) 0) e))

pub invariant_of-bytes : goal.invariant_of-bytes
invariant_of-bytes c = room_of c.bytes.inside.len c.from-len.result c.bytes.inside.room c.known_parts_mut.new.bytes c.bytes.invariant c.from-len.ensures (same_size c)

pub invariant_of-self : goal.invariant_of-self
invariant_of-self c =
    let after = c.known_parts_mut.new.bytes in
    let uplink = c.known_parts_mut.ensures.uplink in
    rw (take_at after _ c.bytes.inside.len (same_size c)) (subst (λ d. IsDataUplink after d) (sym (data_fields-frame after _ uplink.0)) uplink)

pub returns-clause-frame : goal.returns-clause-frame
returns-clause-frame c =
    let said = c.known_parts_mut.ensures in
    take_at c.known_parts_mut.new.bytes _ c.bytes.inside.len (same_size c) ∙ (said.frame ∙ (ap (λ b. with_payload b said.written) (before c) ∙ ap (with_payload c.args.self.now) (plain c)))

pub returns-clause-fields : goal.returns-clause-fields
returns-clause-fields c =
    let after = c.known_parts_mut.new.bytes in
    let said = c.known_parts_mut.ensures in
    rw (take_at after _ c.bytes.inside.len (same_size c)) (data_fields-frame after _ said.uplink.0 ∙ (ap (λ b. record (data_fields b) { payload = said.written }) (before c)
    ∙ ap (λ p. record (data_fields c.args.self.now) { payload = p }) (plain c)))
