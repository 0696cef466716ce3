-- One line more of a run.
use Rattle.std.proofs.Common.{◌≡◌, false, ℕ, ◌+◌, ◌≤◌, ◌<◌, arith, List, [], ◌∷◌, ◌++◌, length, length-append, Option, Some, refl, subst, sym, ap, ◌∙◌, append-nil}
use Rattle.std.proofs.KnownBytes.{Consumes-nil, Consumes-trans}
use Rattle.std.proofs.lemmas.List.{map-append, length-map}
use Rattle.std.specs.Prelude.{map, flat_map}
use Rattle.std.specs.Io.KnownBytes.{Consumes}
use Rattle.std.specs.Option.{option_map_or}
use Rattle.ns_roster.specs.Network.{Network}
use Rattle.ns_calls.proofs.Lists.{All-push}
use Rattle.ns_calls.specs.declared.call.Call.{Call}
use Rattle.ns_calls.specs.declared.call.Entry.{Entry}
use Rattle.ns_calls.specs.declared.answer.Answer.{Answer}
use Rattle.ns_lines.specs.Text.{up_text, has_line_feed}
use Rattle.ns_calls.specs.Shards.{shard_of_call}
use Rattle.ns_acts.specs.declared.step.Step.{Step}
use Rattle.ns_runs.specs.KeptSteps.{AreKeptFrom}
use Rattle.ns_runs.specs.Steps.{shard_history_from, step_taken_from}
use Rattle.ns_runs.specs.declared.run.Taken.TheVariants.{Made}
use Rattle.ns_steps.specs.StepLines.{ended, step, step_of}
use Rattle.ns_record.specs.StepText.{ReadsBack}
use Rattle.ns_resume.specs.declared.run.Resumed.{Resumed}
use Rattle.ns_resume.specs.declared.run.Running.{Running}
use Rattle.ns_resume.specs.Resumed.{IsAllOf, HasRunFrom, AreUps, ups_since_from}
use Rattle.ns_resume.specs.Private.Ups.{GoOn}
use Rattle.ns_resume.specs.Private.Running.{HasAnswered, HasRun, RunsOn, RunsUpTo}
use Rattle.ns_resume.proofs.Lines.{known-then}
use Rattle.ns_resume.proofs.Steps.{kept-answered, taken-is, fit-push, ups-push, ups-first, flat_map-push}

-- the shards after a line, and what fits, whatever `up` lines it implies
module _ (net : Network) (starts : ℕ → List Entry) (before : ℕ) (steps : List Step) (line read : List ℕ) (old new : Running) (c : Call) (a : Answer)
    (run : HasRun net starts before steps read old) (back : ReadsBack line c) (answered : HasAnswered old.shards.items new.shards.items c a) where
  abbrev made_step : Step
  made_step = step_of back.0

  abbrev place : ℕ
  place = length (shard_history_from net starts (shard_of_call c) steps)

  taken : step_taken_from net starts steps made_step ≡ Made (shard_of_call c) place a
  taken = taken-is net starts steps made_step old.shards.items new.shards.items c a run.shards back.2 answered

  has-run : (there : List ℕ) → AreUps there (ups_since_from net starts before (steps ++ made_step ∷ [])) new.ups.missing.items new.ups.torn → HasRun net starts before (steps ++ made_step ∷ []) there new
  has-run there ups = record {
    shards = kept-answered net starts steps made_step old.shards.items new.shards.items c a run.shards back.2 answered;
    fit = fit-push net starts steps made_step (shard_of_call c) place a run.fit taken answered.matters;
    ups = ups;
  }

  -- a line whose `up` line is held against what is there
  pub runs-on : (then now : Option (List ℕ)) → before ≤ length steps
      → ((there ups : List ℕ) → AreUps there ups old.ups.missing.items old.ups.torn → GoOn then now there (ups ++ option_map_or (λ u. ended (up_text u)) a.uplink []) new.ups)
      → RunsOn then now net starts before steps line read new
  runs-on then now within goes =
      let (bytes, consumed, ups) = goes read (ups_since_from net starts before steps) run.ups in
      record {
        step = made_step;
        is_step = back.1;
        bytes = bytes;
        consumed = consumed;
        has_run = has-run (read ++ bytes) (rw (ups-push net starts before steps made_step (shard_of_call c) place a within taken) ups);
      }

  -- one of the first lines
  pub runs-on-first : (then : Option (List ℕ)) → length steps < before → new.ups ≡ old.ups → RunsOn then then net starts before steps line read new
  runs-on-first then within same =
      let longer : length (steps ++ made_step ∷ []) ≡ length steps + 1 = length-append steps (made_step ∷ []) in
      let none : ups_since_from net starts before (steps ++ made_step ∷ []) ≡ ups_since_from net starts before steps =
      ups-first net starts before (steps ++ made_step ∷ []) (omega (arith, longer, within)) ∙ sym (ups-first net starts before steps (omega (arith, within))) in
      record {
        step = made_step;
        is_step = back.1;
        bytes = [];
        consumed = Consumes-nil then;
        has_run = has-run (read ++ []) (rw (append-nil read, none, same) run.ups);
      }

-- ---- the lines so far

pub up-to-none : (net : Network) (starts : ℕ → List Entry) (start before : ℕ) (first ups_first : Option (List ℕ)) (r : Running) → AreKeptFrom net starts [] r.shards.items
    → r.ups.missing.items ≡ [] → r.ups.torn ≡ 0 → RunsUpTo net starts start before start first first ups_first ups_first r
up-to-none net starts start before first ups_first r are none torn = record {
  lines = [];
  numbered = omega arith;
  whole = tt;
  consumed = Consumes-nil first;
  steps = [];
  are_steps = refl;
  read = [];
  ups_consumed = Consumes-nil ups_first;
  has_run = record {
    shards = are;
    fit = tt;
    ups = subst (λ l. AreUps [] l r.ups.missing.items r.ups.torn) (sym (ups-first net starts before [] (omega arith)))
        (record { front = []; rest = []; more = []; are_there = refl; are_all = sym none; begins = none; bytes = sym torn });
  };
}

-- as many steps were run as lines
steps-long : (lines : List (List ℕ)) (steps : List Step) → map step lines ≡ map (λ (s : Step). Some s.act) steps → length steps ≡ length lines
steps-long lines steps are = sym (length-map steps (λ (s : Step). Some s.act)) ∙ (ap length (sym are) ∙ length-map lines step)

pub steps-so-far : (net : Network) (starts : ℕ → List Entry) (start before number : ℕ) (first now ups_first ups_now : Option (List ℕ)) (run : Running)
    → (up_to : RunsUpTo net starts start before number first now ups_first ups_now run) → length up_to.steps + start ≡ number
steps-so-far net starts start before number first now ups_first ups_now run up_to =
    ap (λ n. n + start) (steps-long up_to.lines up_to.steps up_to.are_steps) ∙ up_to.numbered

pub up-to-more : (net : Network) (starts : ℕ → List Entry) (start before number : ℕ) (first now next ups_first ups_now ups_next : Option (List ℕ)) (old new : Running) (line : List ℕ)
    → (run : RunsUpTo net starts start before number first now ups_first ups_now old) → Consumes now next (line ++ 10 ∷ []) → has_line_feed line ≡ false
    → RunsOn ups_now ups_next net starts before run.steps line run.read new
    → RunsUpTo net starts start before (number + 1) first next ups_first ups_next new
up-to-more net starts start before number first now next ups_first ups_now ups_next old new line run consumed no_feed on =
    record {
      lines = run.lines ++ line ∷ [];
      numbered = omega (arith, length-append run.lines (line ∷ []), run.numbered);
      whole = All-push (λ l. has_line_feed l ≡ false) run.lines line run.whole no_feed;
      consumed = subst (Consumes first next) (sym (flat_map-push ended run.lines line)) (Consumes-trans first now next (flat_map ended run.lines) (ended line) run.consumed consumed);
      steps = run.steps ++ on.step ∷ [];
      are_steps =
          map-append step run.lines (line ∷ []) ∙ (ap (λ l. l ++ step line ∷ []) run.are_steps ∙ (ap (λ o. map (λ (s : Step). Some s.act) run.steps ++ o ∷ []) on.is_step
          ∙ sym (map-append (λ (s : Step). Some s.act) run.steps (on.step ∷ []))));
      read = run.read ++ on.bytes;
      ups_consumed = Consumes-trans ups_first ups_now ups_next run.read on.bytes run.ups_consumed on.consumed;
      has_run = on.has_run;
    }

pub up-to-end : (net : Network) (starts : ℕ → List Entry) (start before number : ℕ) (first now ups_first ups_now : Option (List ℕ)) (run : Running) (torn : List ℕ) (r : Resumed)
    → RunsUpTo net starts start before number first now ups_first ups_now run → before + start ≤ number → has_line_feed torn ≡ false → IsAllOf now torn → IsAllOf ups_now []
    → r.shards.items ≡ run.shards.items → r.lines + start ≡ number → r.torn ≡ length torn → r.missing.items ≡ run.ups.missing.items → r.up_torn ≡ run.ups.torn
    → (text : List ℕ) × (there : List ℕ) × IsAllOf first text × IsAllOf ups_first there × HasRunFrom net starts before text there r
up-to-end net starts start before number first now ups_first ups_now run torn r up_to enough no_feed all ups_all shards many torn_bytes missing up_torn =
    let text : List ℕ = flat_map ended up_to.lines ++ torn in
    let numbered : length up_to.lines + start ≡ number = up_to.numbered in (
      text,
      up_to.read ++ [],
      known-then first now (flat_map ended up_to.lines) torn up_to.consumed all,
      known-then ups_first ups_now up_to.read [] up_to.ups_consumed ups_all,
      record {
        lines = up_to.lines;
        torn = torn;
        cut = record { joined = refl; whole = up_to.whole; no_feed = no_feed };
        torn_bytes = torn_bytes;
        many = omega (arith, many, numbered);
        enough = omega (arith, enough, numbered);
        steps = up_to.steps;
        are_steps = up_to.are_steps;
        fit = up_to.has_run.fit;
        shards = subst (AreKeptFrom net starts up_to.steps) (sym shards) up_to.has_run.shards;
        ups = rw (append-nil up_to.read, missing, up_torn) up_to.has_run.ups;
      },
    )
