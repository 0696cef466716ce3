-- The lines of a run, of which some ask for a step, and what comes of each.
use Rattle.std.specs.Prelude.{◌≡◌, Bool, true, false, List, [], ◌∷◌, ◌++◌, filter_map, Option, None, Some}
use Rattle.ns_acts.specs.declared.step.Step.{Step}
use Rattle.ns_acts.specs.Lent.{step_lent}
use Rattle.ns_runs.specs.declared.lines.LentStep.{LentStep}
use Rattle.ns_runs.specs.declared.run.Taken.{Taken}

-- the step that is lent
abbrev pub lent : LentStep → Step
lent step = step_lent step.worker step.act

-- the steps of lines, in order
abbrev pub steps_in : List (Option Step) → List Step
steps_in lines = filter_map (λ line. line) lines

-- what came of each line: nothing where it asks for no step, and else the next of what came of the steps
abbrev pub told_of : List (Option Step) → List Taken → List (Option Taken)
told_of [] taken = []
told_of (None ∷ lines) taken = None ∷ told_of lines taken
told_of (Some step ∷ lines) [] = []
told_of (Some step ∷ lines) (t ∷ taken) = Some t ∷ told_of lines taken

-- these lines were given of those that were left, and the others are left now, where that is known
abbrev pub Gives : Option (List (Option Step)) → Option (List (Option Step)) → List (Option Step) → Type 0
Gives None left given = Unit {0}
Gives (Some lines) None given = ⊥
Gives (Some lines) (Some rest) given = lines ≡ given ++ rest

-- these are all the lines that were left, where that is known
abbrev pub HasAll : Option (List (Option Step)) → List (Option Step) → Type 0
HasAll None lines = Unit {0}
HasAll (Some left) lines = left ≡ lines

-- this line was the next one, or there was none
abbrev pub Advances : Option (List (Option Step)) → Option (List (Option Step)) → Bool → Option Step → Type 0
Advances old new true line = Gives old new (line ∷ [])
Advances old new false line = HasAll old []
