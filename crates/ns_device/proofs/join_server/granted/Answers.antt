use Rattle.std.proofs.Common.{◌≡◌, sym, subst, ◌∙◌, rules}
use Rattle.ns_types.specs.Ticket.{nonce}
use Rattle.ns_creator.specs.JoinFrame.{IsJoinAccept, join_accept_frame}
use Rattle.ns_device.specs.Server.{accept_of}
use Rattle.ns_device.proofs.Created.{first_is}
use Rattle.ns_device.proofs.join_server.granted.Goals as goal

pub returns-clause-taken : goal.returns-clause-taken
returns-clause-taken c =
    let key = c.args.app_key.now.0 in
    let fields = accept_of c.args.request.now c.args.nonce in
    let frame : c.write_into.new.buf ≡ join_accept_frame key fields = search rules in
    let made : IsJoinAccept key (join_accept_frame key fields) fields = search rules in
    let taken = c.created_accepts_are_taken.ensures key c.write_into.new.buf fields (nonce c.args.request.now.ticket) (search rules) (subst (λ f. IsJoinAccept key f fields) (sym frame) made) in
    record { no_fault = taken.0; session = taken.1 ∙ search rules }

pub returns-clause-mhdr : goal.returns-clause-mhdr
returns-clause-mhdr c =
    let key = c.args.app_key.now.0 in
    let fields = accept_of c.args.request.now c.args.nonce in
    let frame : c.write_into.new.buf ≡ join_accept_frame key fields = search rules in
    let made : IsJoinAccept key (join_accept_frame key fields) fields = search rules in
    first_is key c.write_into.new.buf fields (subst (λ f. IsJoinAccept key f fields) (sym frame) made)
