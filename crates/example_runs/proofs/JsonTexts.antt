-- The definitions read and write the texts so, which the check computes.
use Rattle.std.proofs.Common.{refl}
use lib.Utf8.{encode}
use Rattle.std.specs.Str.{is_utf8, chars}
use Rattle.std.specs.Fmt.{digits}
use Rattle.std.specs.Float.Numeral.{scan_numeral}
use Rattle.hex.specs.Hex.{encode_with, decode_pairs}
use Rattle.json.specs.Print.{escape_byte}
use Rattle.json.specs.Json.{value}
use Rattle.json.specs.Lex.{punctuate, lex}
use Rattle.json.specs.Text.{content}
use Rattle.json.specs.Word.{word, after_number}
use Rattle.serde_json.specs.Read.{number_of}
use Rattle.ns_roster.specs.Text.{outer_of, device_of, roster_of}
use Rattle.ns_joinwire.specs.JoinAns.{joinans}
use Rattle.example_runs.specs.JsonTexts.{Rosters, RosterFaults, Request, Answers, AnswerFaults}

pub rosters : Rosters
unfolding is_utf8 chars encode value punctuate lex content word after_number scan_numeral number_of decode_pairs outer_of device_of roster_of
rosters = (refl, refl, refl, refl)

pub roster_faults : RosterFaults
unfolding is_utf8 chars encode value punctuate lex content word after_number scan_numeral number_of decode_pairs outer_of device_of roster_of
roster_faults = (refl, refl, refl, refl, refl)

pub request : Request
unfolding escape_byte encode_with digits
request = (refl, refl)

pub answers : Answers
unfolding is_utf8 chars encode value punctuate lex content word after_number scan_numeral number_of decode_pairs joinans
answers = (refl, refl, refl, refl)

pub answer_faults : AnswerFaults
unfolding is_utf8 chars encode value punctuate lex content word after_number scan_numeral number_of decode_pairs joinans
answer_faults = (refl, refl, refl, refl, refl)
