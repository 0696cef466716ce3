use Rattle.std.proofs.Common.{subst, inl, inr}
use Rattle.httparse.specs.Grammar.{crlf, lf}
use Rattle.ns_joinclient.specs.Place.{EndsAt, IsBlank, IsStatus, IsLines, IsValue}
use Rattle.ns_joinclient.proofs.PlaceLemmas.{feed_behind, blank_end, code_status, reason_status, status_end, value_end}
use Rattle.ns_joinclient.proofs.place.Place.after_feed.Goals as goal

pub returns-in-Blank : goal.returns-in-Blank
returns-in-Blank c = λ text at. elim c.in-Blank.is [
  | inl e ↦ blank_end lf text (subst (λ p. EndsAt p text) e at)
  | inr e ↦ feed_behind IsBlank IsBlank (blank_end crlf) text (subst (λ p. EndsAt p text) e at)
]

pub returns-in-Code : goal.returns-in-Code
returns-in-Code c = λ text at. elim c.in-Code.is [
  | inl e ↦ status_end lf text (code_status text (subst (λ p. EndsAt p text) e at))
  | inr (inl e) ↦ status_end lf text (reason_status text (subst (λ p. EndsAt p text) e at))
  | inr (inr e) ↦ feed_behind IsStatus IsLines (status_end crlf) text (subst (λ p. EndsAt p text) e at)
]

pub returns-in-Value : goal.returns-in-Value
returns-in-Value c = λ text at. elim c.in-Value.is [
  | inl e ↦ value_end lf text (subst (λ p. EndsAt p text) e at)
  | inr e ↦ feed_behind IsValue IsLines (value_end crlf) text (subst (λ p. EndsAt p text) e at)
]
