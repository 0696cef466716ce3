use Rattle.std.proofs.Common.{ℕ, Option, None, Some, IfSome, IfNone, sym, ◌∙◌}
use Rattle.ns_windows.specs.Windows.{window_of_frame}
use Rattle.ns_windows.specs.Places.{opened}
use Rattle.ns_windows.proofs.Known.{unmapped}
use Rattle.ns_windows.proofs.Held.{framed-place, framed-somewhere}
use Rattle.ns_windows.proofs.places.place_of.Goals as goal

if_none : {P : Type 0} (o : Option ℕ) → P → IfNone o P
if_none None holds = holds
if_none (Some place) holds = tt

none_map : {P Q : Type 0} (o : Option ℕ) → (P → Q) → IfNone o P → IfNone o Q
none_map None f holds = f holds
none_map (Some place) f holds = tt

some_map : {P Q : ℕ → Type 0} (o : Option ℕ) → ((n : ℕ) → P n → Q n) → IfSome o P → IfSome o Q
some_map None f holds = tt
some_map (Some place) f holds = f place holds

pub returns-in_err-name-in-Frame-clause-none : goal.returns-in_err-name-in-Frame-clause-none
returns-in_err-name-in-Frame-clause-none c =
    let frame = c.in-Frame.frame.now in
    rw c.in-Frame.is (if_none c.from_residual.result (unmapped (window_of_frame frame (opened c.args.names.now.entries)) (sym (c.requires.known frame) ∙ sym c.in_err-name-in-Frame.ensures.value)))

pub returns-in_ok-name-in-Frame-clause-found : goal.returns-in_ok-name-in-Frame-clause-found
returns-in_ok-name-in-Frame-clause-found c =
    let frame = c.in-Frame.frame.now in
    let name = c.in_ok-name-in-Frame.name.now in
    rw c.in-Frame.is
    (some_map c.place_known-in-Frame.result
    (λ place is. framed-place c.args.names.now.entries c.args.frames.now.entries c.requires frame name (sym c.in_ok-name-in-Frame.ensures.value) place is)
    c.place_known-in-Frame.ensures.found)

pub returns-in_ok-name-in-Frame-clause-none : goal.returns-in_ok-name-in-Frame-clause-none
returns-in_ok-name-in-Frame-clause-none c =
    let frame = c.in-Frame.frame.now in
    let name = c.in_ok-name-in-Frame.name.now in
    rw c.in-Frame.is
    (none_map c.place_known-in-Frame.result
    (λ none. absurd (framed-somewhere c.args.names.now.entries c.args.frames.now.entries c.requires frame name (sym c.in_ok-name-in-Frame.ensures.value) none))
    c.place_known-in-Frame.ensures.none)
