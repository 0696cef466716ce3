-- What the parts of a message in the code stand for.
use Rattle.std.specs.Prelude.{option_map, string_bytes}
use Rattle.ns_joinwire.specs.declared.envelope.KeyEnvelope as code_envelope
use Rattle.ns_joinwire.specs.declared.answer.Head as code_head
use Rattle.ns_joinwire.specs.declared.answer.Body as code_body
use Rattle.ns_joinwire.specs.declared.request.Fields as code_fields
use Rattle.ns_joinwire.specs.Parts.{KeyEnvelope, Head, Body}
use Rattle.ns_joinwire.specs.JoinReq.{Fields}

abbrev pub envelope_view : code_envelope.KeyEnvelope → KeyEnvelope
envelope_view e = record { key = e.key.now; label = e.label.now }

abbrev pub head_view : code_head.Head → Head
head_view h = record { message_type = h.message_type.now; transaction = h.transaction; result_code = h.result_code.now }

abbrev pub body_view : code_body.Body → Body
body_view b = record { phy_payload = b.phy_payload.now; nwk = envelope_view b.nwk; app = option_map envelope_view b.app }

abbrev pub fields_view : code_fields.Fields → Fields
fields_view f = record {
  settings = string_bytes f.settings;
  dev_addr = string_bytes f.dev_addr;
  dev_eui = string_bytes f.dev_eui;
  frame = string_bytes f.frame;
  join_eui = string_bytes f.join_eui;
  rx_delay = f.rx_delay;
  net_id = string_bytes f.net_id;
  transaction = f.transaction;
}
