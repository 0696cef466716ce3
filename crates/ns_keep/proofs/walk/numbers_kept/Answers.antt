use Rattle.std.proofs.Common.{◌≡◌, List, [], ◌∷◌, ◌++◌, length, reverse, sym, ap, ◌∙◌, append_assoc, rules}
use Rattle.std.proofs.lemmas.List.{append-nil, nil_from_length}
use Rattle.ns_calls.specs.declared.call.Entry.{Entry}
use Rattle.ns_calls.specs.Entries.{said}
use Rattle.ns_keep.specs.Tables.{numbers_kept}
use Rattle.ns_keep.proofs.Marked.{unmarked, marked_more}
use Rattle.ns_keep.proofs.Kept.{kept_here}
use Rattle.ns_keep.proofs.Numbers.{numbers-kept, numbers-dropped}
use Rattle.ns_keep.proofs.walk.numbers_kept.Goals as goal

whole_more : (entries rest before after : List Entry) (e : Entry) → rest ≡ before ++ e ∷ [] → rest ++ after ≡ entries → before ++ e ∷ after ≡ entries
whole_more entries rest before after e last whole = sym (append_assoc before (e ∷ []) after) ∙ (sym (ap (λ r. r ++ after) last) ∙ whole)

pub walk-init : goal.walk-init
walk-init g c = ([], append-nil c.args.entries.now, unmarked (g.D.DeviceTable.has_ticket c.args.devices.now) c.in_ok-marks.marks c.in_ok-marks.ensures, λ h are. ap reverse c.new-numbers.ensures.items)

pub walk-preserved-in_ok-push : goal.walk-preserved-in_ok-push
walk-preserved-in_ok-push g c =
    let e = c.in-Some.entry.now in
    let i = c.walk.invariant in
    let lives = g.D.DeviceTable.lives c.args.devices.now in
    let has_ticket = g.D.DeviceTable.has_ticket c.args.devices.now in (
      e ∷ i.0,
      whole_more c.args.entries.now c.walk.rest.now c.in-Some.before.now i.0 e c.in-Some.ensures.cases.0 i.1,
      marked_more has_ticket c.walk.marks c.keeps.new.marks i.0 i.2 e.number e.call e.reply c.in_ok-keeps.ensures.marks,
      λ h are.
          ap reverse c.in_ok-push.ensures.items
          ∙ numbers-kept h e i.0 c.walk.numbers.items
          (sym (kept_here h lives has_ticket c.args.windows.now are c.in_ok-open.open c.in_ok-open.ensures c.walk.marks i.0 i.2 (said e.call e.reply))
          ∙ (sym c.in_ok-keeps.ensures.keeps ∙ c.if-branch.true))
          (i.3 h are),
    )

pub walk-preserved : goal.walk-preserved
walk-preserved g c =
    let e = c.in-Some.entry.now in
    let i = c.walk.invariant in
    let lives = g.D.DeviceTable.lives c.args.devices.now in
    let has_ticket = g.D.DeviceTable.has_ticket c.args.devices.now in (
      e ∷ i.0,
      whole_more c.args.entries.now c.walk.rest.now c.in-Some.before.now i.0 e c.in-Some.ensures.cases.0 i.1,
      marked_more has_ticket c.walk.marks c.keeps.new.marks i.0 i.2 e.number e.call e.reply c.in_ok-keeps.ensures.marks,
      λ h are. numbers-dropped h e i.0 c.walk.numbers.items
          (sym (kept_here h lives has_ticket c.args.windows.now are c.in_ok-open.open c.in_ok-open.ensures c.walk.marks i.0 i.2 (said e.call e.reply))
          ∙ (sym c.in_ok-keeps.ensures.keeps ∙ c.if-branch.false))
          (i.3 h are),
    )

none_left : (rest after entries : List Entry) → length rest ≡ 0 → rest ++ after ≡ entries → after ≡ entries
none_left rest after entries empty whole = rw (nil_from_length rest empty) at whole

pub returns : goal.returns
returns g c = λ h are.
    let i = c.walk.invariant in
    c.reverse.ensures.items ∙ (i.3 h are ∙ ap (numbers_kept h) (none_left c.walk.rest.now i.0 c.args.entries.now (search rules) i.1))
