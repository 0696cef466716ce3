use Rattle.std.proofs.Common.{refl, subst, arith, take, drop, length-drop}
use Rattle.std.proofs.lemmas.List.{take_rest}
use Rattle.ns_joinclient.specs.Place.{EndsAt, IsStart}
use Rattle.ns_joinclient.proofs.PlaceLemmas.{start_step, ends_next}
use Rattle.ns_joinclient.proofs.scan.Scan.step.Goals as goal

pub returns-else-not-begins_status-clause-scanned : goal.returns-else-not-begins_status-clause-scanned
returns-else-not-begins_status-clause-scanned c =
    let seen = c.args.self.now.seen in
    let bytes = c.args.bytes.now in
    let begins = c.if-not-begins_status.ensures in
    let begins_there : IsStart (take 12 (drop seen bytes)) = subst (λ l. IsStart (take 12 l)) (take_rest bytes seen) (begins.start refl) in
    let long = rw take_rest at (begins.long refl) in
    (omega (arith, long, length-drop seen bytes, c.requires.left), start_step seen 12 bytes (subst (λ p. EndsAt p (take seen bytes)) c.in-Blank.is c.requires.scanned.1) begins_there)

pub returns-then-not-begins_status-clause-scanned : goal.returns-then-not-begins_status-clause-scanned
returns-then-not-begins_status-clause-scanned c = c.requires.scanned

pub returns-in-Line-clause-scanned : goal.returns-in-Line-clause-scanned
returns-in-Line-clause-scanned c = (omega (arith, c.requires.left), ends_next c.args.self.now.place c.after-self.result c.args.bytes.now c.args.self.now.seen c.requires.left c.requires.scanned.1 c.after-self.ensures)

pub returns-in-Line-clause-further : goal.returns-in-Line-clause-further
returns-in-Line-clause-further c = λ q. omega arith

pub returns-in_default-place : goal.returns-in_default-place
returns-in_default-place c = record {
  scanned = (omega (arith, c.requires.left), ends_next c.args.self.now.place c.after-self.result c.args.bytes.now c.args.self.now.seen c.requires.left c.requires.scanned.1 c.after-self.ensures);
  further = λ q. omega arith;
}

pub returns-else-not-begins_status-clause-further : goal.returns-else-not-begins_status-clause-further
returns-else-not-begins_status-clause-further c = λ q. omega arith
