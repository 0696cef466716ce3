use Rattle.std.proofs.Common.{◌≡◌, ◌+◌, ◌<◌, length, nat_eq, vec_len, vec_capacity, get_or, true, [], ◌∷◌, ◌++◌, take, drop, refl, sym, ap, ◌∙◌, arith, rules}
use Rattle.std.specs.List.{list_any}
use Rattle.std.proofs.lemmas.Bool.{false≢true}
use Rattle.std.proofs.lemmas.List.{take_more_set, drop-set-lt, length_push, get_or_read, length-take, get_or-take}
use Rattle.std.proofs.Math.ListN.{length-set}
use Rattle.ns_journal.specs.State.{with_numbers}
use Rattle.ns_journal.proofs.Parting.{got_any, with-more, with-same, goes, same_rest}
use Rattle.ns_journal.proofs.journal.gather.Goals as goal
use Rattle.ns_journal.proofs.journal.gather.Goals.{then-is_next, else-is_next}

pub entries-preserved : goal.entries-preserved
entries-preserved c =
    let i = c.entries.place in
    let e = c.index.result.now in
    let whole = c.args.entries.now.items in
    let old = take c.args.len whole in
    let now = c.entries.entries.items in
    let stay = c.args.stay.now in
    let inv = c.entries.invariant in
    let in_now : i < length now = search rules in
    let below : i < c.args.len = search rules in
    let in_whole : i < length whole = omega (arith, inv.len, in_now) in
    let same = same_rest now whole i e in_now in_whole inv.rest c.index.ensures in
    let in_old : i < length old = omega (arith, below, in_whole, length-take c.args.len whole) in
    let at_old : e ≡ get_or old i e = same.0 ∙ sym (get_or-take c.args.len whole i e below) in
    elim c.if-is_next.branch [
      | then-is_next w ↦
          let moved = w.index-then-is_next.result.now in
          let is : moved ≡ e = get_or_read now i moved in_now w.index-then-is_next.ensures e ∙ sym c.index.ensures in
          let stays : list_any (λ n. nat_eq n e.number) stay ≡ true = got_any stay c.entries.next e.number (w.if-is_next.ensures.0 refl) in
          let next = c.entries.next in
          let front = with-more stay old i e in_old at_old stays in
          record {
            front = ap (λ n. take n c.if-is_next.entries.items) w.next-is ∙ (ap (λ v. take (next + 1) v.items) w.entries-is
                ∙ (take_more_set now next moved (omega (arith, inv.within, in_now)) ∙ (ap (λ x. take next now ++ x ∷ []) is ∙ (ap (λ xs. xs ++ e ∷ []) inv.front ∙ sym front))));
            met = ap length front ∙ (length_push (with_numbers stay (take i old)) e ∙ (ap (λ n. n + 1) inv.met ∙ sym w.next-is));
            within = omega (arith, inv.within, w.next-is);
            rest = ap (λ v. drop (i + 1) v.items) w.entries-is ∙ (drop-set-lt (i + 1) now next moved (omega (arith, inv.within)) ∙ same.1);
            len = ap (λ v. length v.items) w.entries-is ∙ (length-set now next moved ∙ inv.len);
            same_len = ap vec_len w.entries-is ∙ inv.same_len;
            capacity = omega (arith, inv.capacity, ap vec_capacity w.entries-is);
          }
      | else-is_next w ↦
          let differs = goes stay old i e in_old at_old c.requires.numbers c.entries.next inv.met (λ met. false≢true (w.if-is_next.ensures.1 met)) in
          let front = with-same stay old i e in_old at_old differs in
          record {
            front = ap (λ n. take n c.if-is_next.entries.items) w.next-is ∙ (ap (λ v. take c.entries.next v.items) w.entries-is ∙ (inv.front ∙ sym front));
            met = ap length front ∙ (inv.met ∙ sym w.next-is);
            within = omega (arith, inv.within, w.next-is);
            rest = ap (λ v. drop (i + 1) v.items) w.entries-is ∙ same.1;
            len = ap (λ v. length v.items) w.entries-is ∙ inv.len;
            same_len = ap vec_len w.entries-is ∙ inv.same_len;
            capacity = omega (arith, inv.capacity, ap vec_capacity w.entries-is);
          }
    ]
