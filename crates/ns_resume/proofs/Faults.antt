-- Why a line is not run, and which line a fault names.
use Rattle.std.proofs.Common.{◌≡◌, ℕ, List, ◌++◌, Option, None, Some, Result, Ok, Err, refl, sym, ap, ◌∙◌, subst}
use Rattle.std.specs.Prelude.{flat_map, IfSome}
use Rattle.std.specs.Result.{IfErr, IsErrAnd}
use Rattle.std.specs.Io.KnownBytes.{Consumes}
use Rattle.ns_roster.specs.Network.{Network}
use Rattle.ns_calls.specs.declared.call.Call.{Call}
use Rattle.ns_calls.specs.declared.call.Entry.{Entry}
use Rattle.ns_calls.specs.Out.{answer}
use Rattle.ns_calls.specs.Shards.{shard_of_call}
use Rattle.ns_recorded.specs.Recorded.{matters}
use Rattle.ns_acts.specs.declared.step.Step.{Step}
use Rattle.ns_shard.specs.State.{State}
use Rattle.ns_runs.specs.KeptSteps.{AreKeptFrom}
use Rattle.ns_runs.specs.Steps.{call_taken_from, shard_history_from, no_starts}
use Rattle.ns_runs.proofs.RunHistories.{no_histories}
use Rattle.std.proofs.KnownBytes.{Consumes-nil}
use Rattle.ns_shard.proofs.Entries.{answer-is}
use Rattle.ns_steps.specs.StepLines.{ended}
use Rattle.ns_record.specs.StepText.{ReadsBack}
use Rattle.ns_resume.specs.declared.fault.RecordFault.{RecordFault}
use Rattle.ns_resume.specs.declared.fault.RecordFault.TheVariants.{NoStep, NoFit}
use Rattle.ns_resume.specs.declared.run.Running.{Running}
use Rattle.ns_resume.specs.declared.head.RecordHead.TheVariants.{Steps}
use Rattle.ns_resume.specs.Resumed.{fits, NamesLineFrom, NamesLine}
use Rattle.ns_resume.specs.Private.Running.{HasRun, RunsUpTo}
use Rattle.ns_resume.specs.Private.Faults.{NamesNoLine, DoesNotMatter, RefusesLine}

-- the error that a call gave is handed on
pub from_err : {A : Type 0} (r : Result A RecordFault) (P : RecordFault → Type 0) (e : RecordFault) → P e → IsErrAnd r (λ f. f ≡ e) → IfErr r P
from_err (Ok a) P e holds is = absurd is
from_err (Err f) P e holds is = subst P (sym is) holds

pub refused-answer : (net : Network) (starts : ℕ → List Entry) (steps : List Step) (line : List ℕ) (number : ℕ) (shards : List State) (c : Call) (e : RecordFault) → AreKeptFrom net starts steps shards
    → ReadsBack line c → DoesNotMatter shards c number e → RefusesLine net starts steps line number e
refused-answer net starts steps line number shards c (NoStep n) are back is = absurd is
refused-answer net starts steps line number shards c (NoFit n) are back (same, found) =
    let (s, at, silent) = found in
    let (act, reads, made) = back in
    let own : ℕ = shard_of_call c in
    let h : List Entry = shard_history_from net starts own steps in
    let at_own = are.each own s at in (
      same,
      (
        act,
        reads,
        ap (λ r. fits (call_taken_from net starts steps r)) made
            ∙ (ap (λ a. matters a.reply) (sym (answer-is h s c at_own.keeps ∙ ap (λ n. answer n h c) at_own.roster)) ∙ silent),
      ),
    )
refused-answer net starts steps line number shards c _ are back is = tt

pub names-none : (net : Network) (starts : ℕ → List Entry) (start : ℕ) (known : Option (List ℕ)) (e : RecordFault) → NamesNoLine e → NamesLineFrom net starts start known e
names-none net starts start known (NoStep n) is = absurd is
names-none net starts start known (NoFit n) is = absurd is
names-none net starts start known _ is = tt

-- a fault before the first line
pub names-early : (net : Network) (known : Option (List ℕ)) (e : RecordFault) → NamesNoLine e → NamesLine net known e
names-early net known e is = record {
  head = Steps;
  starts = no_starts;
  begun = record { histories = no_histories net; tell = refl };
  rest = known;
  consumed = Consumes-nil known;
  names = names-none net no_starts 1 known e is;
}

-- the line stands behind the others in what a source has
stands : (first now next : Option (List ℕ)) (lines line : List ℕ) → Consumes first now lines → Consumes now next line → IfSome first (λ text. (rest : List ℕ) × (text ≡ lines ++ (line ++ rest)))
stands None now next lines line read more = tt
stands (Some xs) None next lines line read more = absurd read
stands (Some xs) (Some ys) None lines line read more = absurd more
stands (Some xs) (Some ys) (Some zs) lines line read more = (zs, read ∙ ap (λ l. lines ++ l) more)

pub names-line : (net : Network) (starts : ℕ → List Entry) (start before number : ℕ) (first now next ups_first ups_now : Option (List ℕ)) (run : Running) (line : List ℕ) (e : RecordFault)
    → RunsUpTo net starts start before number first now ups_first ups_now run → Consumes now next (ended line)
    → ((n : Network) (b : ℕ → List Entry) (m : ℕ) (steps : List Step) (read : List ℕ) → HasRun n b m steps read run → RefusesLine n b steps line number e) → NamesLineFrom net starts start first e
names-line net starts start before number first now next ups_first ups_now run line e up_to more refuses = by e (refuses net starts before up_to.steps up_to.read up_to.has_run)
  where
    begins : IfSome first (λ text. (rest : List ℕ) × (text ≡ flat_map ended up_to.lines ++ (ended line ++ rest)))
    begins = stands first now next (flat_map ended up_to.lines) (ended line) up_to.consumed more

    by : (f : RecordFault) → RefusesLine net starts up_to.steps line number f → NamesLineFrom net starts start first f
    by (NoStep n) is = record { lines = up_to.lines; line = line; begins = begins; steps = up_to.steps; are_steps = up_to.are_steps; fit = up_to.has_run.fit; numbered = up_to.numbered ∙ sym is.0; refused = is.1 }
    by (NoFit n) is = record { lines = up_to.lines; line = line; begins = begins; steps = up_to.steps; are_steps = up_to.are_steps; fit = up_to.has_run.fit; numbered = up_to.numbered ∙ sym is.0; refused = is.1 }
    by _ is = tt
