-- What the plain server reads of single entries.
use Rattle.std.specs.Prelude.{ℕ, Bool, false, Option, option_and_then}
use Rattle.std.specs.Option.{option_map_or}
use Rattle.ns_types.specs.declared.identity.DevEui.{DevEui}
use Rattle.ns_types.specs.declared.ticket.Ticket.{Ticket}
use Rattle.ns_types.specs.Ticket.{nonce}
use Rattle.ns_calls.specs.declared.call.Entry.{Entry}
use Rattle.ns_types.specs.Cases.{when}
use Rattle.ns_calls.specs.Entries.{same_device, says, accepted}
use Rattle.ns_calls.specs.History.{same_ticket, join_copied}

-- the nonce of a device's join that an entry accepts
abbrev pub accepted_nonce : DevEui → Entry → Option ℕ
accepted_nonce eui e = option_and_then (λ a. when (same_device a.eui eui) (nonce a.ticket).0) (says accepted e)

-- whether an entry adds a copy to a ticket
abbrev pub adds_copy : Ticket → Entry → Bool
adds_copy ticket e = option_map_or (λ c. same_ticket ticket c.0) (says join_copied e) false
