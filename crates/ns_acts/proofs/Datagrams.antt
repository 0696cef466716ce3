-- The call of a datagram, by what is read of it.
use Rattle.std.proofs.Common.{◌≡◌, ℕ, ◌==◌, false, cond, List, None, Some, Option, Ok, Err, sym, ap, ap₂, subst, ◌∙◌, arith, inl, inr}
use Rattle.std.proofs.lemmas.Bool.{eq-eqb, ne_eqb}
use Rattle.ns_types.specs.declared.heard.Heard.{Heard}
use Rattle.ns_types.specs.declared.ticket.Ticket.{Ticket}
use Rattle.ns_views.specs.declared.ViewFault.{ViewFault}
use Rattle.ns_views.specs.declared.phy.PhyView.{PhyView}
use Rattle.ns_views.specs.declared.phy.PhyView.TheVariants as phy
use Rattle.ns_views.specs.Grammar.{JoinFields, IsJoinRequest, join_request}
use Rattle.ns_views.specs.Frame.{view_fault, ftype_of}
use Rattle.ns_views.specs.Views.{IsViewOf}
use Rattle.ns_link.specs.declared.LinkFault.{LinkFault}
use Rattle.ns_link.specs.Datagram.{datagram_of}
use Rattle.ns_calls.specs.declared.call.Call.{Call}
use Rattle.ns_calls.specs.declared.call.Call.TheVariants as call
use Rattle.ns_calls.specs.Steps.{link, view, frame_call, unless_fault, content_call, datagram_call}

join-typed : (frame : List ℕ) (j : JoinFields) → IsJoinRequest frame j → ftype_of frame ≡ join_request
join-typed frame j is =
    let small = is.parts.1 in
    ap (λ (b : List ℕ). ftype_of b) is.parts.2 ∙ omega arith

pub link-call : (bytes : List ℕ) (fault : LinkFault) → Err fault ≡ datagram_of bytes → Err (link fault) ≡ datagram_call bytes
link-call bytes fault told = ap (λ d. content_call d) told

module _ (bytes : List ℕ) (d : Heard × List ℕ) (told : Ok d ≡ datagram_of bytes) {frame : List ℕ} (same : frame ≡ d.1) where
  held : (o : Option ViewFault) → view_fault frame ≡ o → unless_fault o (frame_call d.0 d.1) ≡ datagram_call bytes
  held o fault =
      ap (λ (x : Option ViewFault). unless_fault x (frame_call d.0 d.1)) (sym fault ∙ ap (λ (f : List ℕ). view_fault f) same) ∙ ap (λ x. content_call x) told

  pub view-call : (fault : ViewFault) → view_fault frame ≡ Some fault → Err (view fault) ≡ datagram_call bytes
  view-call fault is = held (Some fault) is

  pub join-call : {heard : Heard} {v : List ℕ} {p : PhyView} {ticket : Ticket} → heard ≡ d.0 → view_fault frame ≡ None → p ≡ phy.Join v → IsViewOf frame p → ticket.0 ≡ v → Ok (call.Join ticket heard) ≡ datagram_call bytes
  join-call {heard} {v} {p} {ticket} heard_is no_fault what found read =
      let seen = subst (IsViewOf frame) what found in
      let typed : ftype_of d.1 ≡ join_request = ap (λ (f : List ℕ). ftype_of f) (sym same) ∙ join-typed frame _ seen.1 in
      ap₂ (λ (b : List ℕ) (h : Heard). Ok (call.Join (record { 0 = b }) h)) (read ∙ (seen.0 ∙ same)) heard_is
      ∙ (ap (λ b. Ok (cond {A = Call} b (call.Join (record { 0 = d.1 }) d.0) (call.Uplink d.1 d.0))) (sym (eq-eqb (ftype_of d.1) join_request typed))
      ∙ held None no_fault)

  pub frame-call : {heard : Heard} {v of : List ℕ} {p : PhyView} → heard ≡ d.0 → view_fault frame ≡ None → p ≡ phy.Frame v → IsViewOf frame p → of ≡ v → Ok (call.Uplink of heard) ≡ datagram_call bytes
  frame-call {heard} {v} {of} {p} heard_is no_fault what found read =
      let seen = subst (IsViewOf frame) what found in
      let typed : (ftype_of d.1 == join_request) ≡ false =
      ap (λ (f : List ℕ). ftype_of f == join_request) (sym same)
      ∙ elim seen.1.1 [ inl two ↦ ne_eqb _ _ (λ e. omega (arith, two, e)) | inr four ↦ ne_eqb _ _ (λ e. omega (arith, four, e)) ] in
      ap₂ (λ (b : List ℕ) (h : Heard). Ok (call.Uplink b h)) (read ∙ (seen.0 ∙ same)) heard_is
      ∙ (ap (λ b. Ok (cond {A = Call} b (call.Join (record { 0 = d.1 }) d.0) (call.Uplink d.1 d.0))) (sym typed)
      ∙ held None no_fault)
