-- A moment of the wall clock as text (RFC 3339).
use Rattle.std.specs.Prelude.{ℕ, ◌+◌, ◌/◌, ◌%◌, List, [], ◌∷◌, ◌++◌, codes}
use Rattle.ns_output.specs.declared.times.Utc.{Utc}

-- the last digit of a number
abbrev pub last_digit : ℕ → ℕ
last_digit n = 48 + n % 10

-- its last two digits, and its last three
abbrev pub two_digits : ℕ → List ℕ
two_digits n = last_digit (n / 10) ∷ last_digit n ∷ []

abbrev pub three_digits : ℕ → List ℕ
three_digits n = last_digit (n / 100) ∷ two_digits n

-- a day in UTC
abbrev pub date_text : Utc → List ℕ
date_text t = two_digits (t.year / 100) ++ two_digits t.year ++ codes "-" ++ two_digits t.month ++ codes "-" ++ two_digits t.day

-- the time of a day, to the millisecond
abbrev pub time_text : Utc → List ℕ
time_text t = two_digits t.hour ++ codes ":" ++ two_digits t.minute ++ codes ":" ++ two_digits t.second ++ codes "." ++ three_digits t.millisecond

unfoldable pub utc_text : Utc → List ℕ
utc_text t = date_text t ++ codes "T" ++ time_text t ++ codes "Z"
