-- What of an entry a trim looks at.
use Rattle.std.specs.Option.{option_map_or}
use Rattle.ns_types.specs.Ticket.{dev_eui}
use Rattle.ns_calls.specs.declared.call.Outcome.TheVariants.{Success}
use Rattle.ns_calls.specs.declared.call.Call.{Call}
use Rattle.ns_calls.specs.declared.call.Reply.{Reply}
use Rattle.ns_calls.specs.Entries as entries
use Rattle.ns_keep.specs.declared.said.Said.{Said}
use Rattle.ns_keep.specs.declared.said.Said.TheVariants as said

abbrev pub looked_at : entries.Said → Said
looked_at (entries.Opens o) = said.Opened o.window
looked_at (entries.OpensAgain o) = said.Repeated o.window
looked_at (entries.Copies window heard) = said.Copied window
looked_at (entries.Closes c) = option_map_or (λ n. said.Acknowledged c.window) c.ack said.Nothing
looked_at (entries.Asks ticket heard) = said.Asked ticket
looked_at (entries.CopiesJoin ticket heard) = said.JoinCopied ticket
looked_at (entries.Accepts ticket session (Success join)) = said.Accepted (dev_eui ticket) session
looked_at _ = said.Nothing

abbrev pub said_in : Call → Reply → Said
said_in call reply = looked_at (entries.said call reply)
