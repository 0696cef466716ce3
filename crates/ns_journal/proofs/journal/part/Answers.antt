use Rattle.std.proofs.Common.{◌≡◌, ◌+◌, ◌<◌, length, nat_eq, vec_len, vec_capacity, true, [], ◌∷◌, ◌++◌, take, drop, refl, sym, ap, ◌∙◌, arith, rules}
use Rattle.std.specs.List.{list_any}
use Rattle.std.proofs.lemmas.Bool.{false≢true}
use Rattle.std.proofs.lemmas.List.{take_all, take_more_set, drop-set-lt, length_push, length-map}
use Rattle.std.proofs.lemmas.Option.{slice_get_within}
use Rattle.std.proofs.Math.ListN.{length-set}
use Rattle.ns_journal.specs.State.{with_numbers, without_numbers}
use Rattle.ns_journal.proofs.Parting.{got_any, with-more, without-same, with-same, without-more, goes, same_rest}
use Rattle.ns_journal.proofs.journal.part.Goals as goal
use Rattle.ns_journal.proofs.journal.part.Goals.{then-is_next, else-is_next, After-truncate}

pub index-requires : goal.index-requires
index-requires c = omega (arith, c.entries-test.true, c.len-place-end.ensures, c.entries.invariant.len, c.entries.entries.ok.0, c.args.entries.now.ok.0)

pub add-requires : goal.add-requires
add-requires c =
    let inv = c.entries.invariant in
    let stays : c.entries.next < length c.args.stay.now = slice_get_within c.args.stay.now c.entries.next c.index.result.now.number (c.if-is_next.ensures.0 refl) in
    omega (arith, inv.count, stays, c.requires.room, inv.capacity)

pub overflow_add-next : goal.overflow_add-next
overflow_add-next c = omega (arith, c.entries.invariant.parted, c.entries-test.true, c.len-place-end.type_inv)

pub index_mut-requires : goal.index_mut-requires
index_mut-requires c =
    let inv = c.entries.invariant in
    omega (arith, inv.parted, c.entries-test.true, c.len-place-end.ensures, inv.len, c.entries.entries.ok.0, c.args.entries.now.ok.0)

pub overflow_add-out : goal.overflow_add-out
overflow_add-out c = omega (arith, c.entries.invariant.parted, c.entries-test.true, c.len-place-end.type_inv)

pub entries-preserved : goal.entries-preserved
entries-preserved c =
    let i = c.entries.place in
    let e = c.index.result.now in
    let old = c.args.entries.now.items in
    let now = c.entries.entries.items in
    let stay = c.args.stay.now in
    let inv = c.entries.invariant in
    let in_now : i < length now = search rules in
    let in_old : i < length old = omega (arith, inv.len, in_now) in
    let same = same_rest now old i e in_now in_old inv.rest c.index.ensures in
    elim c.if-is_next.branch [
      | then-is_next w ↦
          let stays : list_any (λ n. nat_eq n e.number) stay ≡ true = got_any stay c.entries.next e.number (w.if-is_next.ensures.0 refl) in
          record {
            kept = ap (λ v. v.items) w.kept-is ∙ (w.add.ensures.items ∙ (ap (λ xs. xs ++ e ∷ []) inv.kept ∙ sym (with-more stay old i e in_old same.0 stays)));
            met = ap (λ v. length v.items) w.kept-is ∙ (ap length w.add.ensures.items ∙ (length_push c.entries.kept.items e ∙ (ap (λ n. n + 1) inv.met ∙ sym w.next-is)));
            count = ap vec_len w.kept-is ∙ (w.add.ensures.len ∙ (ap (λ n. n + 1) inv.count ∙ sym w.next-is));
            out = ap (λ n. take n c.if-is_next.entries.items) w.out-is ∙ (ap (λ v. take c.entries.out v.items) w.entries-is ∙ (inv.out ∙ sym (without-same stay old i e in_old same.0 stays)));
            parted = omega (arith, inv.parted, w.next-is, w.out-is);
            rest = ap (λ v. drop (i + 1) v.items) w.entries-is ∙ same.1;
            len = ap (λ v. length v.items) w.entries-is ∙ inv.len;
            capacity = omega (arith, inv.capacity, w.add.ensures.capacity, ap vec_capacity w.kept-is);
          }
      | else-is_next w ↦
          let out = c.entries.out in
          let differs = goes stay old i e in_old same.0 c.requires.numbers c.entries.next (sym (ap length inv.kept) ∙ inv.met) (λ met. false≢true (w.if-is_next.ensures.1 met)) in
          record {
            kept = ap (λ v. v.items) w.kept-is ∙ (inv.kept ∙ sym (with-same stay old i e in_old same.0 differs));
            met = ap (λ v. length v.items) w.kept-is ∙ (inv.met ∙ sym w.next-is);
            count = ap vec_len w.kept-is ∙ (inv.count ∙ sym w.next-is);
            out = ap (λ n. take n c.if-is_next.entries.items) w.out-is ∙ (ap (λ v. take (out + 1) v.items) w.entries-is
                ∙ (take_more_set now out e (omega (arith, inv.parted, in_now)) ∙ (ap (λ xs. xs ++ e ∷ []) inv.out ∙ sym (without-more stay old i e in_old same.0 differs))));
            parted = omega (arith, inv.parted, w.next-is, w.out-is);
            rest = ap (λ v. drop (i + 1) v.items) w.entries-is ∙ (drop-set-lt (i + 1) now out e (omega (arith, inv.parted)) ∙ same.1);
            len = ap (λ v. length v.items) w.entries-is ∙ (length-set now out e ∙ inv.len);
            capacity = omega (arith, inv.capacity, ap vec_capacity w.kept-is);
          }
    ]

all_of : (c : After-truncate) → take c.entries.place c.args.entries.now.items ≡ c.args.entries.now.items
all_of c = take_all c.entries.place c.args.entries.now.items (omega (arith, c.entries-test.false, c.len-place-end.ensures, c.args.entries.now.ok.0))

pub returns-clause-kept : goal.returns-clause-kept
returns-clause-kept c = c.entries.invariant.kept ∙ ap (with_numbers c.args.stay.now) (all_of c)

pub returns-clause-others : goal.returns-clause-others
returns-clause-others c = c.truncate.ensures.items ∙ (c.entries.invariant.out ∙ ap (without_numbers c.args.stay.now) (all_of c))

pub returns-clause-count : goal.returns-clause-count
returns-clause-count c =
    let inv = c.entries.invariant in
    inv.count ∙ (sym inv.met ∙ (ap length (returns-clause-kept c)
    ∙ (sym (length-map (with_numbers c.args.stay.now c.args.entries.now.items) (λ e. e.number)) ∙ ap length c.requires.numbers)))

pub returns-clause-all : goal.returns-clause-all
returns-clause-all c =
    let inv = c.entries.invariant in
    omega (arith, c.truncate.ensures.len, inv.parted, inv.count, inv.len, c.entries-test.false, c.entries.auto.place-end, c.len-place-end.ensures, c.entries.entries.ok.0, c.args.entries.now.ok.0)
