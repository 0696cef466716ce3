-- What the walk keeps of an entry is what a trim keeps.
use Rattle.std.proofs.Common.{◌≡◌, ℕ, Bool, not, ◌||◌, ◌&&◌, ◌==◌, List, Option, Some, is_some, refl, sym, ap, ◌∙◌, inl, inr, None, arith}
use Rattle.std.specs.List.{list_any}
use Rattle.ns_types.specs.declared.identity.DevEui.{DevEui}
use Rattle.ns_types.specs.declared.identity.WindowName.{WindowName}
use Rattle.ns_types.specs.declared.ticket.Ticket.{Ticket}
use Rattle.ns_types.specs.Identity.{same_window}
use Rattle.ns_types.specs.Ticket.{dev_eui}
use Rattle.ns_calls.specs.declared.call.Outcome.TheVariants as outcome
use Rattle.ns_calls.specs.declared.call.Entry.{Entry}
use Rattle.ns_calls.specs.Entries as entries
use Rattle.ns_calls.specs.Entries.{Opening, same_device, open_windows, closed, first_opened}
use Rattle.ns_calls.specs.History.{is_live, is_ticket_open, asks_for, open_window}
use Rattle.ns_calls.proofs.LocalLemmas.{bool_tells}
use Rattle.ns_kept.specs.Kept as kept
use Rattle.ns_kept.specs.Kept.{none_says, same_session, repeated}
use Rattle.ns_keep.specs.declared.marks.Marks.{Marks}
use Rattle.ns_keep.specs.declared.windows.OpenWindows.{OpenWindows}
use Rattle.ns_keep.specs.Tables.{AreOf}
use Rattle.ns_keep.specs.Private.Said.{looked_at}
use Rattle.ns_keep.specs.Private.Open.{is_named, has_session, IsOf}
use Rattle.ns_keep.specs.Private.Marks.{key_of, is_of, is_opened, is_opened_in, is_repeated_in, is_acknowledged, is_asked, AreMarks}
use Rattle.ns_keep.specs.Private.Keeps.{keeps_said}
use Rattle.ns_kept.proofs.Within.{any-map, find-any}

-- ---- what is marked and lives

same_test : {a b lives live : Bool} → a ≡ b → lives ≡ live → (not a && lives) ≡ (live && not b)
same_test same alive = grind (arith, same, alive)

same_tests : {a b c d lives live : Bool} → a ≡ c → b ≡ d → lives ≡ live → (not a || (not b && lives)) ≡ (not c || (live && not d))
same_tests first second alive = grind (arith, first, second, alive)

-- ---- what is open

module _ (h : List Entry) (lives : DevEui → ℕ → Bool) (has_ticket : Ticket → Bool) (names : List WindowName) (table : AreOf h lives has_ticket names)
    (o : OpenWindows) (windows : IsOf o names) (m : Marks) (after : List Entry) (marks : AreMarks has_ticket m after) where
  named : (w : WindowName) → is_named o w ≡ is_some (open_window h w)
  named w =
      windows.windows w
      ∙ (ap (list_any (λ n. same_window n w)) table.windows
      ∙ (any-map (λ n. same_window n w) (λ (p : Opening). p.window) (open_windows h)
      ∙ sym (find-any (λ (p : Opening). same_window p.window w) (open_windows h))))

  of_session : (eui : DevEui) (session : ℕ) → has_session o eui session ≡ list_any (λ p. same_device p.window.eui eui && (p.window.session == session)) (open_windows h)
  of_session eui session =
      windows.sessions (eui.0, session)
      ∙ (ap (list_any (is_of (eui.0, session))) table.windows
      ∙ any-map (is_of (eui.0, session)) (λ (p : Opening). p.window) (open_windows h))

  last_asked : (t : Ticket) → (has_ticket t && not (is_asked m t)) ≡ (is_ticket_open h t && not (list_any (asks_for t) after))
  last_asked t =
      elim (bool_tells (has_ticket t)) [
        | inl asked ↦ cc (table.tickets t, marks.asked t asked)
        | inr closed ↦ cc (table.tickets t)
      ]

  last_opened : (w : WindowName) → (not (is_opened m w.eui) || (not (is_opened_in m w) && lives w.eui w.session)) ≡
      (none_says first_opened (λ p. same_device p.window.eui w.eui) after || (is_live h w.eui w.session && none_says first_opened (λ p. same_session p.window w) after))
  last_opened w = same_tests (marks.opened w.eui.0) (marks.opened_in (key_of w)) (table.sessions w.eui w.session)

  last_repeated : (w : WindowName) → (not (is_repeated_in m w) && lives w.eui w.session) ≡
      (is_live h w.eui w.session && none_says repeated (λ p. same_session p.window w) after)
  last_repeated w = same_test (marks.repeated_in (key_of w)) (table.sessions w.eui w.session)

  last_acknowledged : (w : WindowName) → (not (is_acknowledged m w) && lives w.eui w.session) ≡
      (is_live h w.eui w.session && none_says closed (λ d. is_some d.ack && same_session d.window w) after)
  last_acknowledged w = same_test (marks.acknowledged (key_of w)) (table.sessions w.eui w.session)

  closing_kept : (w : WindowName) (ack : Option ℕ) → keeps_said lives has_ticket o m (looked_at (entries.Closes (record { window = w; ack = ack }))) ≡ kept.keeps_said h (entries.Closes (record { window = w; ack = ack })) after
  closing_kept w (Some ack) = (let same = last_acknowledged w in grind (arith, same))
  closing_kept w None = refl

  -- the walk's test of an entry is that of a trim
  pub kept_here : (s : entries.Said) → keeps_said lives has_ticket o m (looked_at s) ≡ kept.keeps_said h s after
  kept_here (entries.Accepts ticket session (outcome.Success join)) =
      (let last = marks.accepted (dev_eui ticket).0 in let live = table.sessions (dev_eui ticket) session in let opens = of_session (dev_eui ticket) session in grind (arith, last, live, opens))
  kept_here (entries.Opens p) = (let last = last_opened p.window in let opens = named p.window in grind (arith, last, opens))
  kept_here (entries.OpensAgain p) = (let last = last_repeated p.window in let opens = named p.window in grind (arith, last, opens))
  kept_here (entries.Copies w heard) = (let opens = named w in grind (arith, opens))
  kept_here (entries.Closes c) = closing_kept c.window c.ack
  kept_here (entries.Asks ticket heard) = last_asked ticket
  kept_here (entries.CopiesJoin ticket heard) = last_asked ticket
  kept_here _ = refl
