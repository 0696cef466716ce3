-- What a run answers, line by line.
use Rattle.ns_roster.specs.Closing.{network_text}
use Rattle.std.specs.Prelude.{◌≡◌, ℕ, List, [], ◌∷◌, ◌++◌, flat_map, codes, decimal, Option, Some, None, Bool, map, option_map, if◌then◌else◌}
use Rattle.std.specs.Option.{option_to_list}
use Rattle.ns_link.specs.Faults as link_fault
use Rattle.ns_views.specs.Faults as view_fault
use Rattle.ns_roster.specs.Network.{Network}
use Rattle.ns_calls.specs.declared.answer.Answer.{Answer}
use Rattle.ns_lines.specs.Text.{reply_text, down_text}
use Rattle.ns_output.specs.declared.output.Output.{Output}
use Rattle.ns_events.specs.Output.{line_of}
use Rattle.ns_acts.specs.declared.step.Step.{Step}
use Rattle.ns_runs.specs.declared.run.Taken.{Taken}
use Rattle.ns_runs.specs.declared.run.Taken.TheVariants.{Link, View, Made}
use Rattle.ns_runs.specs.Steps.{all_taken}
use Rattle.ns_runs.specs.Lines.{steps_in, told_of}
use Rattle.ns_runs.specs.Whole.{IsRun}
use Rattle.ns_shard.specs.State.{State}
use Rattle.ns_runs.specs.NextRun.{closing_roster}
use Rattle.ns_steps.specs.StepLines.{steps, step_of, ended}

-- the line of a refusal
abbrev pub refusal_text : List ℕ → Option ℕ → List ℕ
refusal_text word None = word
refusal_text word (Some number) = word ++ decimal number

-- the lines of an answer: that of the reply, that of the uplink as the output asks, and that of the downlink
abbrev pub answer_lines : Output → Answer → List (List ℕ)
answer_lines uplinks a = reply_text a.reply ∷ option_to_list (option_map (line_of uplinks None) a.uplink) ++ option_to_list (option_map down_text a.downlink)

-- the lines that are written of it
unfoldable pub lines_of : Output → Option Taken → List (List ℕ)
lines_of uplinks None = refusal_text (codes "refused line") None ∷ []
lines_of uplinks (Some (Link fault)) = refusal_text (codes "refused G") (Some (link_fault.number fault)) ∷ []
lines_of uplinks (Some (View fault)) = refusal_text (codes "refused V") (Some (view_fault.number fault)) ∷ []
lines_of uplinks (Some (Made shard number answer)) = answer_lines uplinks answer

abbrev pub text_of : Output → Option Taken → List ℕ
text_of uplinks taken = flat_map ended (lines_of uplinks taken)

-- the lines of a text, each with its step, where it is a step line
abbrev pub step_lines : List ℕ → List (Option Step)
step_lines input = map (option_map step_of) (steps input)

-- the steps of a text of step lines
abbrev pub steps_of : List ℕ → List Step
steps_of input = steps_in (step_lines input)

-- the closing roster after steps, with a line feed, where it is asked for
abbrev pub closing_line : Bool → Network → List Step → List ℕ
closing_line closing net done = if closing then ended (network_text (closing_roster net done)) else []

-- the lines of what came of the steps of a text, and the refusals of its other lines, in order; then the closing roster
abbrev pub text_for : Output → Bool → Network → List ℕ → List Taken → List ℕ
text_for uplinks closing net input taken = flat_map (text_of uplinks) (told_of (step_lines input) taken) ++ closing_line closing net (steps_of input)

-- what is written for a text of step lines
abbrev pub output : Output → Bool → Network → List ℕ → List ℕ
output uplinks closing net input = text_for uplinks closing net input (all_taken net [] (steps_of input))

-- What is written is the text of a run of the steps that were read, of which the whole promise of a run holds.
pub record IsReplay (uplinks : Output) (closing : Bool) (net : Network) (input written : List ℕ) : Type 0 where
  pub taken : List Taken
  pub whole : List State
  pub run : IsRun net (steps_of input) taken whole
  pub text : written ≡ text_for uplinks closing net input taken
