-- The marks of the entries walked over, with those of one more.
use Rattle.std.proofs.Common.{◌≡◌, ℕ, Bool, true, false, ◌||◌, nat_eq, cond, List, [], ◌∷◌, Some, refl, sym, ap, subst, ◌∙◌, inl, inr, arith}
use Rattle.std.specs.Ordering.{nat_cmp, is_eq}
use Rattle.std.specs.Cmp.Lexicographic.{slice_cmp}
use Rattle.std.specs.List.{list_any}
use Rattle.std.specs.HashSet as hash
use Rattle.std.specs.BTreeSet as tree
use Rattle.std.proofs.lemmas.Bool.{false≢true, false_from_ne_true}
use Rattle.std.proofs.lemmas.Map.Text.{is_eq-slice_cmp}
use Rattle.ns_types.specs.declared.ticket.Ticket.{Ticket}
use Rattle.ns_calls.specs.declared.call.Call.{Call}
use Rattle.ns_calls.specs.declared.call.Call.TheVariants as call
use Rattle.ns_calls.specs.declared.call.Outcome.TheVariants as outcome
use Rattle.ns_calls.specs.declared.call.Reply.{Reply}
use Rattle.ns_calls.specs.declared.call.Reply.TheVariants as reply
use Rattle.ns_calls.specs.declared.call.Entry.{Entry}
use Rattle.ns_calls.specs.History.{same_ticket, asks_for}
use Rattle.ns_calls.specs.Legal.{entry_of}
use Rattle.ns_calls.proofs.LocalLemmas.{bool_tells}
use Rattle.ns_calls.proofs.TicketLemmas.{same_ticket-eq}
use Rattle.ns_keep.specs.declared.marks.Marks.{Marks}
use Rattle.ns_keep.specs.Private.Said.{said_in}
use Rattle.ns_keep.specs.Private.Marks.{same_key, is_asked, AreMarks, IsUnmarked, MarksAsked}
use Rattle.ns_keep.specs.Private.Keeps.{MarksSaid}
use Rattle.ns_kept.proofs.TicketsKept.{same_ticket-refl}

-- no marks are those of no entries
pub unmarked : (has_ticket : Ticket → Bool) (m : Marks) → IsUnmarked m → AreMarks has_ticket m []
unmarked has_ticket m none = record {
  accepted = λ k. ap (λ keys. list_any (nat_eq k) keys) none.accepted;
  opened = λ k. ap (λ keys. list_any (nat_eq k) keys) none.opened;
  opened_in = λ k. ap (λ keys. list_any (same_key k) keys) none.opened_in;
  repeated_in = λ k. ap (λ keys. list_any (same_key k) keys) none.repeated_in;
  acknowledged = λ k. ap (λ keys. list_any (same_key k) keys) none.acknowledged;
  asked = λ t asked. ap (λ keys. list_any (λ u. is_eq (slice_cmp nat_cmp t.0 u)) keys) none.asked;
}

added : (b : Bool) {had was : Bool} → had ≡ was → cond b true had ≡ (b || was)
added b e = grind (arith, e)

-- an open ticket is another than one that is not open
other_ticket : (has_ticket : Ticket → Bool) (t u : Ticket) → has_ticket t ≡ false → has_ticket u ≡ true → same_ticket u t ≡ false
other_ticket has_ticket t u closed asks =
    false_from_ne_true _ (λ same. false≢true (sym closed ∙ (sym (ap has_ticket (same_ticket-eq u t same)) ∙ asks)))

same_ticket-sym : (t u : Ticket) → same_ticket t u ≡ same_ticket u t
same_ticket-sym t u =
    elim (bool_tells (same_ticket t u)) [
      | inl same ↦ same ∙ sym (ap (same_ticket u) (same_ticket-eq t u same) ∙ same_ticket-refl u)
      | inr differs ↦ differs ∙ sym (false_from_ne_true _ (λ same. false≢true (sym differs ∙ (ap (same_ticket t) (same_ticket-eq u t same) ∙ same_ticket-refl t))))
    ]

asked_more : (has_ticket : Ticket → Bool) (m n : Marks) (after : List Entry) → AreMarks has_ticket m after → (t : Ticket)
    → (has_ticket t ≡ true → MarksAsked t m n) × (has_ticket t ≡ false → n ≡ m)
    → (u : Ticket) → has_ticket u ≡ true → is_asked n u ≡ (same_ticket u t || list_any (asks_for u) after)
asked_more has_ticket m n after are t step u asks =
    elim (bool_tells (has_ticket t)) [
      | inl opened ↦
          (step.0 opened).0.0 u.0
          ∙ (ap (λ b. cond b true (is_asked m u)) (is_eq-slice_cmp t.0 u.0)
          ∙ (ap (λ b. cond b true (is_asked m u)) (same_ticket-sym t u)
          ∙ added (same_ticket u t) (are.asked u asks)))
      | inr closed ↦
          ap (λ x. is_asked x u) (step.1 closed)
          ∙ (are.asked u asks ∙ ap (λ b. b || list_any (asks_for u) after) (sym (other_ticket has_ticket t u closed asks)))
    ]

-- the marks with what an entry says are those with that entry
pub marked_more : (has_ticket : Ticket → Bool) (m n : Marks) (after : List Entry) → AreMarks has_ticket m after
    → (number : ℕ) (c : Call) (r : Reply) → MarksSaid has_ticket (said_in c r) m n → AreMarks has_ticket n (entry_of number c r ∷ after)
marked_more has_ticket m n after are number (call.JoinReply ticket (outcome.Success join)) (reply.Accepted eui session addr) step =
    let same = step.1 in record {
      accepted = λ k. step.0.0 k ∙ added _ (are.accepted k);
      opened = λ k. ap (λ (x : Marks). hash.contains nat_eq x.opened k) same ∙ are.opened k;
      opened_in = λ k. ap (λ (x : Marks). hash.contains same_key x.opened_in k) same ∙ are.opened_in k;
      repeated_in = λ k. ap (λ (x : Marks). hash.contains same_key x.repeated_in k) same ∙ are.repeated_in k;
      acknowledged = λ k. ap (λ (x : Marks). hash.contains same_key x.acknowledged k) same ∙ are.acknowledged k;
      asked = λ t asked. ap (λ (x : Marks). is_asked x t) same ∙ are.asked t asked;
    }
marked_more has_ticket m n after are number (call.Uplink frame heard) (reply.Opened w) step =
    let same = step.2 in record {
      accepted = λ k. ap (λ (x : Marks). hash.contains nat_eq x.accepted k) same ∙ are.accepted k;
      opened = λ k. step.0.0 k ∙ added _ (are.opened k);
      opened_in = λ k. step.1.0 k ∙ added _ (are.opened_in k);
      repeated_in = λ k. ap (λ (x : Marks). hash.contains same_key x.repeated_in k) same ∙ are.repeated_in k;
      acknowledged = λ k. ap (λ (x : Marks). hash.contains same_key x.acknowledged k) same ∙ are.acknowledged k;
      asked = λ t asked. ap (λ (x : Marks). is_asked x t) same ∙ are.asked t asked;
    }
marked_more has_ticket m n after are number (call.Uplink frame heard) (reply.Again w) step =
    let same = step.1 in record {
      accepted = λ k. ap (λ (x : Marks). hash.contains nat_eq x.accepted k) same ∙ are.accepted k;
      opened = λ k. ap (λ (x : Marks). hash.contains nat_eq x.opened k) same ∙ are.opened k;
      opened_in = λ k. ap (λ (x : Marks). hash.contains same_key x.opened_in k) same ∙ are.opened_in k;
      repeated_in = λ k. step.0.0 k ∙ added _ (are.repeated_in k);
      acknowledged = λ k. ap (λ (x : Marks). hash.contains same_key x.acknowledged k) same ∙ are.acknowledged k;
      asked = λ t asked. ap (λ (x : Marks). is_asked x t) same ∙ are.asked t asked;
    }
marked_more has_ticket m n after are number (call.Close w) (reply.Closed closed (Some ack)) step =
    let same = step.1 in record {
      accepted = λ k. ap (λ (x : Marks). hash.contains nat_eq x.accepted k) same ∙ are.accepted k;
      opened = λ k. ap (λ (x : Marks). hash.contains nat_eq x.opened k) same ∙ are.opened k;
      opened_in = λ k. ap (λ (x : Marks). hash.contains same_key x.opened_in k) same ∙ are.opened_in k;
      repeated_in = λ k. ap (λ (x : Marks). hash.contains same_key x.repeated_in k) same ∙ are.repeated_in k;
      acknowledged = λ k. step.0.0 k ∙ added _ (are.acknowledged k);
      asked = λ t asked. ap (λ (x : Marks). is_asked x t) same ∙ are.asked t asked;
    }
marked_more has_ticket m n after are number (call.Join ticket heard) (reply.Ask asked) step =
    record {
      accepted = λ k. asked_keeps (λ x. hash.contains nat_eq x.accepted k) (λ xs. refl) ∙ are.accepted k;
      opened = λ k. asked_keeps (λ x. hash.contains nat_eq x.opened k) (λ xs. refl) ∙ are.opened k;
      opened_in = λ k. asked_keeps (λ x. hash.contains same_key x.opened_in k) (λ xs. refl) ∙ are.opened_in k;
      repeated_in = λ k. asked_keeps (λ x. hash.contains same_key x.repeated_in k) (λ xs. refl) ∙ are.repeated_in k;
      acknowledged = λ k. asked_keeps (λ x. hash.contains same_key x.acknowledged k) (λ xs. refl) ∙ are.acknowledged k;
      asked = asked_more has_ticket m n after are ticket step;
    }
  where
    asked_keeps : (read : Marks → Bool) → ((xs : tree.BTreeSet (List ℕ)) → read (record m { asked = xs }) ≡ read m) → read n ≡ read m
    asked_keeps read apart =
        elim (bool_tells (has_ticket ticket)) [
          | inl opened ↦ ap read (step.0 opened).1 ∙ apart n.asked
          | inr closed ↦ ap read (step.1 closed)
        ]
marked_more has_ticket m n after are number (call.JoinReply ticket outcome.Failed) (reply.Accepted eui session addr) step =
    subst (λ (x : Marks). AreMarks has_ticket x (entry_of number (call.JoinReply ticket outcome.Failed) (reply.Accepted eui session addr) ∷ after)) (sym step)
    (record { accepted = are.accepted; opened = are.opened; opened_in = are.opened_in; repeated_in = are.repeated_in; acknowledged = are.acknowledged; asked = are.asked })
marked_more has_ticket m n after are number c r step =
    subst (λ (x : Marks). AreMarks has_ticket x (entry_of number c r ∷ after)) (sym step)
    (record { accepted = are.accepted; opened = are.opened; opened_in = are.opened_in; repeated_in = are.repeated_in; acknowledged = are.acknowledged; asked = are.asked })
