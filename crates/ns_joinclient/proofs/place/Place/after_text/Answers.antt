use Rattle.std.proofs.Common.{subst, sym}
use Rattle.ns_joinclient.specs.Place.{EndsAt}
use Rattle.ns_joinclient.proofs.PlaceLemmas.{code_reason, reason_more, lines_name, name_more, name_colon, value_more}
use Rattle.ns_joinclient.proofs.place.Place.after_text.Goals as goal

pub returns-in-Name : goal.returns-in-Name
returns-in-Name c = λ text at. name_more text c.args.byte (sym c.if-is_header_name_token-2.ensures) (subst (λ p. EndsAt p text) c.in-Name.is at)

pub returns-in-Value : goal.returns-in-Value
returns-in-Value c = λ text at. value_more text c.args.byte (sym c.if-is_header_value_token-2.ensures) (subst (λ p. EndsAt p text) c.in-Value.is at)

pub returns-in_default : goal.returns-in_default
returns-in_default c = λ text at. tt

pub returns-in_default-2 : goal.returns-in_default-2
returns-in_default-2 c = λ text at. tt

pub returns-in_default-3 : goal.returns-in_default-3
returns-in_default-3 c = λ text at. tt

pub returns-in_default-4 : goal.returns-in_default-4
returns-in_default-4 c = λ text at. tt

pub returns-in_default-5 : goal.returns-in_default-5
returns-in_default-5 c = λ text at. tt

pub returns-in_default-6 : goal.returns-in_default-6
returns-in_default-6 c = λ text at. tt

pub returns-in-Code : goal.returns-in-Code
returns-in-Code c = λ text at. rw c.if-byte-eq32.true (code_reason text (subst (λ p. EndsAt p text) c.in-Code.is at))

pub returns-in-Reason : goal.returns-in-Reason
returns-in-Reason c = λ text at. reason_more text c.args.byte (sym c.if-is_header_value_token.ensures) (subst (λ p. EndsAt p text) c.in-Reason.is at)

pub returns-in-Line : goal.returns-in-Line
returns-in-Line c = λ text at. lines_name text c.args.byte (sym c.if-is_header_name_token.ensures) (subst (λ p. EndsAt p text) c.in-Line.is at)

pub returns-in-Name-2 : goal.returns-in-Name-2
returns-in-Name-2 c = λ text at. rw c.if-byte-eq58.true (name_colon text (subst (λ p. EndsAt p text) c.in-Name.is at))
