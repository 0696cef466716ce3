-- The open tickets that a shard's entries asked for.
use Rattle.std.proofs.Common.{◌≡◌, Bool, List, ap, refl, ◌∙◌}
use Rattle.std.specs.Prelude.{filter_map, map}
use Rattle.std.specs.Arc.{arc_value}
use Rattle.ns_types.specs.Cases.{when}
use Rattle.ns_types.specs.declared.ticket.Ticket.{Ticket}
use Rattle.ns_windows.specs.declared.window.Window.{Window}
use Rattle.ns_calls.specs.declared.call.Reply.{Reply}
use Rattle.ns_calls.specs.declared.call.Reply.TheVariants.{Ask}
use Rattle.ns_calls.specs.declared.call.Entry.{Entry}
use Rattle.ns_calls.specs.History.{is_ticket_open}
use Rattle.ns_calls.proofs.Lists.{filter_map-same}
use Rattle.ns_devices.specs.Devices.{has_ticket_in}
use Rattle.ns_shard.specs.State.{remains, seen, asked_in, open_tickets_in}
use Rattle.ns_shard.specs.declared.parts.Parts.{Parts}
use Rattle.ns_shard.specs.Private.Parts.{AreParts, state_of}
use Rattle.ns_shard.proofs.Trimmed.{tables-are}
use Rattle.ns_calls.proofs.LocalLemmas.{All-each}

module _ (f g : Ticket → Bool) (same : (t : Ticket) → f t ≡ g t) where
  asked-same : (r : Reply) → asked_in f r ≡ asked_in g r
  asked-same (Ask t) = ap (λ b. when b t) (same t)
  asked-same _ = refl

  pub asked-alike : (es : List Entry) → filter_map (λ e. asked_in f e.reply) es ≡ filter_map (λ e. asked_in g e.reply) es
  asked-alike es = filter_map-same (λ e. asked_in f e.reply) (λ e. asked_in g e.reply) es (All-each (λ (e : Entry). asked_in f e.reply ≡ asked_in g e.reply) (λ e. asked-same e.reply) es)

-- the tickets that are open by what the shard keeps of its devices are those that are open after its entries
pub asked-is : (p : Parts) → AreParts p → (entries : List Entry) → entries ≡ p.journal.entries → filter_map (λ e. asked_in (has_ticket_in p.devices) e.reply) entries ≡ open_tickets_in (state_of p)
asked-is p are entries all =
    ap (filter_map (λ e. asked_in (has_ticket_in p.devices) e.reply)) all
    ∙ asked-alike (has_ticket_in p.devices) (is_ticket_open (seen (state_of p)))
    (tables-are (arc_value p.roster) p.index are.history (remains (state_of p)) p.devices p.windows (map (λ (w : Window). w.name) p.windows) are.agrees are.keeps.left refl).tickets p.journal.entries
