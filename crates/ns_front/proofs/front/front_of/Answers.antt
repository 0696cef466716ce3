use Rattle.std.proofs.Common.{◌≡◌, ◌<◌, ◌≤◌, ◌&&◌, ℕ, Bool, true, false, List, ◌∷◌, length, drop, Option, Some, None, refl, sym, ap, ◌∙◌, IfSome, arith, length-drop}
use Rattle.std.specs.Prelude.{nat_le, nat_lt, is_none}
use Rattle.std.specs.Int.{w64, from_be_bytes}
use Rattle.std.proofs.lemmas.List.{take_rest}
use Rattle.std.proofs.lemmas.Bool.Decides.{nat_tests}
use Rattle.ns_types.specs.Cases.{when, first_of}
use Rattle.ns_views.specs.declared.ViewFault.{ViewFault}
use Rattle.ns_views.specs.declared.ViewFault.TheVariants.{TooShort, Major, FrameType, JoinLength}
use Rattle.ns_views.specs.Frame.{data_fields, is_data_type, view_fault}
use Rattle.ns_link.specs.declared.LinkFault.{LinkFault}
use Rattle.ns_types.specs.Results.{or_fault}
use Rattle.ns_link.specs.Datagram.{heard_of, link_fault}
use Rattle.ns_front.specs.declared.front.FrameName.{FrameName}
use Rattle.ns_front.specs.Front.{name_of, seen_in, front, Agree}
use Rattle.ns_front.proofs.front.front_of.Goals as goal

is_front : (b : List ℕ) (g : ℕ) (n : FrameName) → 40 ≤ length b → g ≡ (heard_of b).gateway.0 → n ≡ name_of (data_fields (drop 28 b)) → Some (g, n) ≡ front b
is_front b g n long eg en =
    let there : nat_le 40 (length b) ≡ true = grind (arith, nat_tests) in
    ap (λ x. Some (x, n)) eg ∙ ap (λ x. Some ((heard_of b).gateway.0, x)) en ∙ sym (ap (λ x. when x ((heard_of b).gateway.0, name_of (data_fields (drop 28 b)))) there)

named : (f : List ℕ) (n : FrameName) → n ≡ name_of (data_fields f) → (test : Bool) → IfSome (when test (name_of (data_fields f))) (λ name. name ≡ n)
named f n en true = sym en
named f n en false = tt

agrees : (b : List ℕ) (g : ℕ) (n : FrameName) → g ≡ (heard_of b).gateway.0 → n ≡ name_of (data_fields (drop 28 b)) → (fault : Option LinkFault)
    → Agree (Some (g, n)) (seen_in (or_fault fault (heard_of b, drop 28 b)))
agrees b g n eg en None = (eg, named (drop 28 b) n en _)
agrees b g n eg en (Some fault) = tt

gateway_is : (c : goal.After-name_in) → c.from_be_bytes-gateway.result ≡ (heard_of c.args.datagram.now).gateway.0
gateway_is c = c.from_be_bytes-gateway.ensures ∙ ap (from_be_bytes w64) c.array_at.ensures

name_is : (c : goal.After-name_in) → c.name_in.result ≡ name_of (data_fields (drop 28 c.args.datagram.now))
name_is c = c.name_in.ensures ∙ ap (λ f. name_of (data_fields f)) (take_rest c.args.datagram.now 28)

-- bytes of a data frame's type with a fault before their length is looked at, or too short, are no frame
no_frame : (a b c d uplink short : Bool) (faults : List (Option ViewFault)) → short ≡ true
    → (is_none (first_of (when a TooShort ∷ when b Major ∷ when c FrameType ∷ when d JoinLength ∷ when (uplink && short) TooShort ∷ faults)) && uplink) ≡ false
no_frame true b c d uplink short faults e = refl
no_frame false true c d uplink short faults e = refl
no_frame false false true d uplink short faults e = refl
no_frame false false false true uplink short faults e = refl
no_frame false false false false true short faults e = ap (λ t. is_none (first_of (when t TooShort ∷ faults)) && true) e
no_frame false false false false false short faults e = elim (is_none (first_of faults)) as (λ t. (t && false) ≡ false) [ true ↦ refl | false ↦ refl ]

short_frame : (f : List ℕ) → length f < 12 → (is_none (view_fault f) && is_data_type f) ≡ false
short_frame f short = no_frame _ _ _ _ (is_data_type f) (nat_lt (length f) 12) _ (grind (arith, nat_tests))

agrees_short : (b : List ℕ) → length b < 40 → (fault : Option LinkFault) → Agree None (seen_in (or_fault fault (heard_of b, drop 28 b)))
agrees_short b short None = ap (λ t. when t (name_of (data_fields (drop 28 b)))) (short_frame (drop 28 b) (omega (arith, short, length-drop {A = ℕ})))
agrees_short b short (Some fault) = tt

pub returns-then-datagram-lt-SHORTEST-clause-agrees : goal.returns-then-datagram-lt-SHORTEST-clause-agrees
returns-then-datagram-lt-SHORTEST-clause-agrees c = agrees_short c.args.datagram.now c.if-datagram-lt-SHORTEST.true (link_fault c.args.datagram.now)

pub returns-clause-places : goal.returns-clause-places
returns-clause-places c = is_front c.args.datagram.now c.from_be_bytes-gateway.result c.name_in.result c.if-datagram-lt-SHORTEST.false (gateway_is c) (name_is c)

pub returns-clause-agrees : goal.returns-clause-agrees
returns-clause-agrees c = agrees c.args.datagram.now c.from_be_bytes-gateway.result c.name_in.result (gateway_is c) (name_is c) (link_fault c.args.datagram.now)
