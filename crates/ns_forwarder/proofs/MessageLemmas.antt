-- Bytes that pass the tests are a message, and a message passes them.
use Rattle.std.proofs.Common.{◌≡◌, ℕ, ◌+◌, ◌<◌, ◌≤◌, List, [], ◌∷◌, ◌++◌, length, get_or, take, drop, Bool, true, false, Option, None, Some, Result, Ok, Err, refl, sym, ap, subst, ◌∙◌, inl, inr, arith, nat_lt}
use Rattle.std.specs.Prelude.{not, ◌||◌, ◌==◌, ◌⊎◌, if◌then◌else◌}
use Rattle.std.specs.Option.{ok_or}
use Rattle.std.specs.Int.{w64, to_be_bytes}
use Rattle.std.proofs.lemmas.Bool.{eqb-true}
use Rattle.std.proofs.lemmas.Bool.Decides.{nat_tests}
use Rattle.std.proofs.lemmas.List.{take-append-drop, drop_more, drop-drop}
use Rattle.std.proofs.lemmas.Nat.{from_be_bytes-to_be_bytes_8}
use Rattle.ns_types.specs.Bytes.{AreBytes}
use Rattle.ns_link.proofs.Parts.{number_of_8, below_8}
use Rattle.ns_types.specs.Results as results
use Rattle.ns_forwarder.specs.declared.head.Kind.{Kind}
use Rattle.ns_forwarder.specs.declared.head.Kind.TheVariants.{PushData, PullData, TxAck}
use Rattle.ns_forwarder.specs.declared.head.Head.{Head}
use Rattle.ns_forwarder.specs.declared.fault.ForwarderFault.{ForwarderFault}
use Rattle.ns_forwarder.specs.declared.fault.ForwarderFault.TheVariants.{TooLong, Short, Version}
use Rattle.ns_forwarder.specs.declared.fault.ForwarderFault.TheVariants as fault
use Rattle.ns_forwarder.specs.Message.{most_bytes, identifier, kind_of, is_version, IsMessage, gateway_of, head_of, message_of}
use Rattle.ns_forwarder.specs.Laws.{MessagesExactly}

-- what the tests of a message say
pub record IsRead (bytes : List ℕ) (kind : Kind) : Type 0 where
  pub most : length bytes ≤ most_bytes
  pub least : 12 ≤ length bytes
  pub version : is_version (get_or bytes 0 0) ≡ true
  pub kind_is : kind_of (get_or bytes 3 0) ≡ Some kind

-- ---- the kinds

kind-is : (b : ℕ) (k : Kind) → kind_of b ≡ Some k → b ≡ identifier k
kind-is b k h = step (b == 0) (b == 2) (b == 5) refl refl refl h
  where
    step : (x y z : Bool) → (b == 0) ≡ x → (b == 2) ≡ y → (b == 5) ≡ z
        → ◌≡◌ {A = Option Kind} (if x then Some PushData else (if y then Some PullData else (if z then Some TxAck else None))) (Some k) → b ≡ identifier k
    step true y z a _ _ h = (let same : PushData ≡ k = cc in eqb-true b 0 a ∙ ap identifier same)
    step false true z _ a _ h = (let same : PullData ≡ k = cc in eqb-true b 2 a ∙ ap identifier same)
    step false false true _ _ a h = (let same : TxAck ≡ k = cc in eqb-true b 5 a ∙ ap identifier same)
    step false false false _ _ _ h = absurd cc

kind-of : (k : Kind) → kind_of (identifier k) ≡ Some k
kind-of PushData = refl
kind-of PullData = refl
kind-of TxAck = refl

-- ---- the versions

version-is : (v : ℕ) → is_version v ≡ true → (v ≡ 1) ⊎ (v ≡ 2)
version-is v h = step (v == 1) (v == 2) refl refl h
  where
    step : (x y : Bool) → (v == 1) ≡ x → (v == 2) ≡ y → (x || y) ≡ true → (v ≡ 1) ⊎ (v ≡ 2)
    step true y a _ h = inl (eqb-true v 1 a)
    step false true _ a h = inr (eqb-true v 2 a)
    step false false _ _ h = absurd cc

pub version-from : (v : ℕ) → (v ≡ 1) ⊎ (v ≡ 2) → is_version v ≡ true
version-from v (inl e) = ap is_version e
version-from v (inr e) = ap is_version e

-- ---- the parts

one_more : (bytes : List ℕ) (from : ℕ) → from < length bytes → drop from bytes ≡ get_or bytes from 0 ∷ drop (from + 1) bytes
one_more bytes from h = drop_more bytes from 0 h

parts-are : (bytes : List ℕ) → 12 ≤ length bytes →
    bytes ≡ get_or bytes 0 0 ∷ get_or bytes 1 0 ∷ get_or bytes 2 0 ∷ get_or bytes 3 0 ∷ (take 8 (drop 4 bytes) ++ drop 12 bytes)
parts-are bytes h =
    let at_4 : drop 4 bytes ≡ take 8 (drop 4 bytes) ++ drop 12 bytes = sym (take-append-drop 8 (drop 4 bytes)) ∙ ap (λ rest. take 8 (drop 4 bytes) ++ rest) (drop-drop 8 4 bytes) in
    let at_3 = one_more bytes 3 (omega arith) ∙ ap (λ rest. get_or bytes 3 0 ∷ rest) at_4 in
    let at_2 = one_more bytes 2 (omega arith) ∙ ap (λ rest. get_or bytes 2 0 ∷ rest) at_3 in
    let at_1 = one_more bytes 1 (omega arith) ∙ ap (λ rest. get_or bytes 1 0 ∷ rest) at_2 in
    one_more bytes 0 (omega arith) ∙ ap (λ rest. get_or bytes 0 0 ∷ rest) at_1

same_parts : (v a b : ℕ) {i i' : ℕ} {g g' : List ℕ} (body : List ℕ) → i ≡ i' → g ≡ g' → v ∷ a ∷ b ∷ i ∷ (g ++ body) ≡ v ∷ a ∷ b ∷ i' ∷ (g' ++ body)
same_parts v a b body e_i e_g = cc

-- bytes that pass the tests are a message
pub IsMessage-read : (bytes : List ℕ) (kind : Kind) → AreBytes bytes → IsRead bytes kind → IsMessage bytes (head_of bytes kind) (drop 12 bytes)
IsMessage-read bytes kind b r =
    let least = r.least in record {
      parts = parts-are bytes least ∙ same_parts (get_or bytes 0 0) (get_or bytes 1 0) (get_or bytes 2 0) (drop 12 bytes) (kind-is (get_or bytes 3 0) kind r.kind_is) (number_of_8 bytes 4 b (omega arith));
      version = version-is (get_or bytes 0 0) r.version;
      token = refl;
      gateway = below_8 bytes 4 b;
      len = r.most;
    }

-- ---- a message passes the tests

two : (token : List ℕ) → length token ≡ 2 → (a : ℕ) × (b : ℕ) × (token ≡ a ∷ b ∷ [])
two [] h = absurd (omega (arith, h))
two (a ∷ []) h = absurd (omega (arith, h))
two (a ∷ b ∷ []) h = (a, b, refl)
two (a ∷ b ∷ c ∷ rest) h = absurd (omega (arith, h))

-- not `abbrev`, so that `cc` sees an application and no record
head : ℕ → List ℕ → Kind → ℕ → Head
head version token kind gateway = record { version = version; token = token; kind = kind; gateway = record { 0 = gateway } }

head-same : {v v' g g' : ℕ} {t t' : List ℕ} {k k' : Kind} → v ≡ v' → t ≡ t' → k ≡ k' → g ≡ g' → head v t k g ≡ head v' t' k' g'
head-same e_v e_t e_k e_g = cc

same_head : (c d : Head) → c.version ≡ d.version → c.token ≡ d.token → c.kind ≡ d.kind → c.gateway.0 ≡ d.gateway.0 → c ≡ d
unfolding head
same_head c d e_v e_t e_k e_g = head-same e_v e_t e_k e_g

pub record Found (bytes : List ℕ) (h : Head) (body : List ℕ) : Type 0 where
  pub read : IsRead bytes h.kind
  pub head_is : head_of bytes h.kind ≡ h
  pub body_is : drop 12 bytes ≡ body

pub IsMessage-found : (bytes : List ℕ) (h : Head) (body : List ℕ) → IsMessage bytes h body → Found bytes h body
IsMessage-found bytes h body is =
    let t = two h.token is.token in
    let a : ℕ = t.0 in
    let b : ℕ = t.1 in
    let parts : bytes ≡ h.version ∷ a ∷ b ∷ identifier h.kind ∷ (to_be_bytes w64 h.gateway.0 ++ body)
    = is.parts ∙ ap (λ (token : List ℕ). h.version ∷ token ++ (identifier h.kind ∷ to_be_bytes w64 h.gateway.0) ++ body) t.2 in
    let kind : get_or bytes 3 0 ≡ identifier h.kind = ap (λ (bytes : List ℕ). get_or bytes 3 0) parts in
    let version : get_or bytes 0 0 ≡ h.version = ap (λ (bytes : List ℕ). get_or bytes 0 0) parts in
    record {
      read = record {
        most = is.len;
        least = rw parts (omega arith);
        version = ap is_version version ∙ version-from h.version is.version;
        kind_is = ap kind_of kind ∙ kind-of h.kind;
      };
      head_is = same_head (head_of bytes h.kind) h version
          (ap (λ (bytes : List ℕ). get_or bytes 1 0 ∷ get_or bytes 2 0 ∷ []) parts ∙ sym t.2)
          refl
          (ap (λ (bytes : List ℕ). (gateway_of bytes).0) parts ∙ from_be_bytes-to_be_bytes_8 h.gateway.0 is.gateway);
      body_is = ap (drop 12) parts;
    }

-- ---- the definition and the tests

abbrev tests : Bool → Bool → Bool → Option Kind → List ℕ → Result (Head × List ℕ) ForwarderFault
tests too_long short known kind bytes =
    if too_long then Err TooLong
    else if short then Err Short
    else if not known then Err Version
    else results.◌>>=◌ (ok_or kind fault.Kind) (λ kind. Ok (head_of bytes kind, drop 12 bytes))

pub message_of-read : (bytes : List ℕ) (kind : Kind) → IsRead bytes kind → message_of bytes ≡ Ok (head_of bytes kind, drop 12 bytes)
message_of-read bytes kind r =
    let most = r.most in
    let least = r.least in
    let long : nat_lt most_bytes (length bytes) ≡ false = grind (arith, nat_tests) in
    let short : nat_lt (length bytes) 12 ≡ false = grind (arith, nat_tests) in
    ap (λ (x : Bool). tests x (nat_lt (length bytes) 12) (is_version (get_or bytes 0 0)) (kind_of (get_or bytes 3 0)) bytes) long
    ∙ ap (λ (x : Bool). tests false x (is_version (get_or bytes 0 0)) (kind_of (get_or bytes 3 0)) bytes) short
    ∙ ap (λ (x : Bool). tests false false x (kind_of (get_or bytes 3 0)) bytes) r.version
    ∙ ap (λ (k : Option Kind). tests false false true k bytes) r.kind_is

abbrev pub read : Head → List ℕ → Result (Head × List ℕ) ForwarderFault
read h body = Ok (h, body)

pub message_of-message : (bytes : List ℕ) (h : Head) (body : List ℕ) → IsMessage bytes h body → message_of bytes ≡ Ok (h, body)
message_of-message bytes h body is =
    let f = IsMessage-found bytes h body is in
    message_of-read bytes h.kind f.read
    ∙ ap (λ (x : Head). read x (drop 12 bytes)) f.head_is
    ∙ ap (read h) f.body_is

-- what is read is a message
message_of-is : (bytes : List ℕ) (h : Head) (body : List ℕ) → AreBytes bytes → message_of bytes ≡ Ok (h, body) → IsMessage bytes h body
message_of-is bytes h body b e = step (nat_lt most_bytes (length bytes)) (nat_lt (length bytes) 12) (is_version (get_or bytes 0 0)) (kind_of (get_or bytes 3 0)) refl refl refl refl e
  where
    step : (x y z : Bool) (k : Option Kind) → nat_lt most_bytes (length bytes) ≡ x → nat_lt (length bytes) 12 ≡ y → is_version (get_or bytes 0 0) ≡ z → kind_of (get_or bytes 3 0) ≡ k
        → tests x y z k bytes ≡ Ok (h, body) → IsMessage bytes h body
    step true y z k _ _ _ _ e = absurd cc
    step false true z k _ _ _ _ e = absurd cc
    step false false false k _ _ _ _ e = absurd cc
    step false false true None _ _ _ _ e = absurd cc
    step false false true (Some kind) long short version known e =
        let made : Head × List ℕ = (head_of bytes kind, drop 12 bytes) in
        let same : made ≡ (h, body) = cc in
        subst (λ (x : Head × List ℕ). IsMessage bytes x.0 x.1) same (IsMessage-read bytes kind b (record {
          most = grind (arith, nat_tests);
          least = grind (arith, nat_tests);
          version = version;
          kind_is = known;
        }))

pub messages-exactly : MessagesExactly
messages-exactly bytes h body b = (message_of-is bytes h body b, message_of-message bytes h body)
