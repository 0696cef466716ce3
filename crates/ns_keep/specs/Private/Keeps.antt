-- Whether an entry is kept, by what it says and by the marks of the entries after it.
use Rattle.std.specs.Prelude.{◌≡◌, ℕ, Bool, true, false, not, ◌&&◌, ◌||◌}
use Rattle.ns_types.specs.declared.identity.DevEui.{DevEui}
use Rattle.ns_types.specs.declared.ticket.Ticket.{Ticket}
use Rattle.ns_keep.specs.declared.said.Said.{Said}
use Rattle.ns_keep.specs.declared.said.Said.TheVariants as said
use Rattle.ns_keep.specs.declared.marks.Marks.{Marks}
use Rattle.ns_keep.specs.declared.windows.OpenWindows.{OpenWindows}
use Rattle.ns_keep.specs.Private.Open.{is_named, has_session}
use Rattle.ns_keep.specs.Private.Marks.{is_accepted, is_opened, is_opened_in, is_repeated_in, is_acknowledged, is_asked, MarksAccepted, MarksOpened, MarksRepeated, MarksAcknowledged, MarksAsked}

module _ (lives : DevEui → ℕ → Bool) (has_ticket : Ticket → Bool) (o : OpenWindows) (m : Marks) where
  abbrev pub keeps_said : Said → Bool
  keeps_said (said.Accepted eui session) = not (is_accepted m eui) || lives eui session || has_session o eui session
  keeps_said (said.Opened w) = not (is_opened m w.eui) || (not (is_opened_in m w) && lives w.eui w.session) || is_named o w
  keeps_said (said.Repeated w) = (not (is_repeated_in m w) && lives w.eui w.session) || is_named o w
  keeps_said (said.Copied w) = is_named o w
  keeps_said (said.Acknowledged w) = not (is_acknowledged m w) && lives w.eui w.session
  keeps_said (said.Asked t) = has_ticket t && not (is_asked m t)
  keeps_said (said.JoinCopied t) = has_ticket t && not (is_asked m t)
  keeps_said said.Nothing = false

-- the marks with what it says: of tickets the open ones are marked
abbrev pub MarksSaid : (Ticket → Bool) → Said → Marks → Marks → Type 0
MarksSaid has_ticket (said.Accepted eui session) m n = MarksAccepted eui m n
MarksSaid has_ticket (said.Opened w) m n = MarksOpened w m n
MarksSaid has_ticket (said.Repeated w) m n = MarksRepeated w m n
MarksSaid has_ticket (said.Acknowledged w) m n = MarksAcknowledged w m n
MarksSaid has_ticket (said.Asked t) m n = (has_ticket t ≡ true → MarksAsked t m n) × (has_ticket t ≡ false → n ≡ m)
MarksSaid has_ticket _ m n = n ≡ m
