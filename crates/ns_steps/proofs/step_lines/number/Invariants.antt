use Rattle.std.proofs.Common.{◌≡◌, ◌<◌, ◌^◌, true, take}
use Rattle.std.specs.List.{list_all}
use Rattle.ns_steps.specs.StepLines.{is_digit, decimal_value}
use Rattle.ns_steps.proofs.step_lines.number.Given as goal

abbrev pub invariant-digits : goal.invariant-digits
invariant-digits l =
    record {
      value : l.value ≡ decimal_value (take l.digit-index l.text);
      digits : list_all is_digit (take l.digit-index l.text) ≡ true;
      small : l.value < 2 ^ 32;
    }
