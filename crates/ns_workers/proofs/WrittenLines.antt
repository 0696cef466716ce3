-- The line of one uplink, as each output asks.
use Rattle.std.proofs.Common.{◌≡◌, ℕ, List, [], ◌∷◌, ◌++◌, Option, None, Some, refl, ap, ◌∙◌}
use Rattle.std.specs.Io.KnownBytes.{Appends}
use Rattle.std.proofs.KnownBytes.{Appends-nil}
use Rattle.ns_types.specs.Streams.{AppendsFront}
use Rattle.ns_calls.specs.declared.answer.Uplink.{Uplink}
use Rattle.ns_lines.specs.Text.{up_text}
use Rattle.ns_output.specs.declared.output.Output.{Output}
use Rattle.ns_output.specs.declared.output.Output.TheVariants.{Lines, Json}
use Rattle.ns_output.specs.declared.times.Times.{Times}
use Rattle.ns_events.specs.Uplink.{uplink_json}
use Rattle.ns_outside.specs.declared.receipt.Receipt.{Receipt}
use Rattle.ns_workers.specs.Lines.{AppendsLine, AppendsLineFront, AreLines, uplink_line, up_line, up_lines}

pub line_none : (out : Output) (a : Option (List ℕ)) → AppendsLine out a a None
line_none out a = (None, Appends-nil a)

pub front_none : (out : Output) (a : Option (List ℕ)) → AppendsLineFront out a a None
front_none out a = (None, ([], [], refl, Appends-nil a))

pub line_up : (a b : Option (List ℕ)) (u : Uplink) → Appends a b (up_text u ++ 10 ∷ []) → AppendsLine Lines a b (Some u)
line_up a b u appended = (None, appended)

pub front_up : (a b : Option (List ℕ)) (u : Uplink) → AppendsFront a b (up_text u ++ 10 ∷ []) → AppendsLineFront Lines a b (Some u)
front_up a b u front = (None, front)

pub line_object : (a b : Option (List ℕ)) (times : Option Times) (u : Uplink) → Appends a b (uplink_json times u ++ 10 ∷ []) → AppendsLine Json a b (Some u)
line_object a b times u appended = (times, appended)

pub front_object : (a b : Option (List ℕ)) (times : Option Times) (u : Uplink) → AppendsFront a b (uplink_json times u ++ 10 ∷ []) → AppendsLineFront Json a b (Some u)
front_object a b times u front = (times, front)

line-up : (times : Option Times) (uplink : Option Uplink) → uplink_line Lines times uplink ≡ up_line uplink
line-up times None = refl
line-up times (Some u) = refl

pub lines-up : (receipts : List Receipt) (text : List ℕ) → AreLines Lines receipts text → text ≡ up_lines receipts
lines-up [] text is = is
lines-up (r ∷ rs) text is =
    let (times, rest, split, others) = is in
    split ∙ ap (λ l. l ++ rest) (line-up times r.uplink) ∙ ap (λ l. up_line r.uplink ++ l) (lines-up rs rest others)
