use Rattle.std.proofs.Common.{rules, ◌≡◌, ℕ, ◌+◌, ◌-◌, ◌≤◌, List, length, refl, sym, ap, ◌∙◌, subst, arith}
use Rattle.std.specs.List.{slice_range}
use Rattle.shape_test.specs.Ends.{ends_count}
use Rattle.shape_test.specs.Parts.{ArePartsIn, HaveCome, IsLeastLabel, PartsAgree}
use Rattle.shape_test.specs.declared.parts.Part.{Part}
use Rattle.shape_test.proofs.Agreement.{one_less}
use Rattle.shape_test.proofs.Descent.{each_value, end_sums, next_same, no_value_more, one_value_more, place_same, run_within, same_sums, sums_end, sums_value}
use Rattle.shape_test.proofs.PartSums.{run_one}
use Rattle.shape_test.proofs.RowRemainders.{decides_same}
use Rattle.shape_test.proofs.merging.+sums_agree.Goals as goal

pub returns-then-are_same_slots : goal.returns-then-are_same_slots
returns-then-are_same_slots g t c = (λ y. same_sums c.args.arena.now c.args.whole.now c.args.parts.now c.args.left (c.are_same_slots.ensures.0 c.if-are_same_slots.true), λ S. refl)

pub returns-then-left-eq0 : goal.returns-then-left-eq0
returns-then-left-eq0 g t c =
    decides_same c.ends_merge.result ((bin : ℕ) → ends_count c.args.arena.now c.args.whole.now bin ≡ ends_count c.args.arena.now c.args.parts.now bin) (PartsAgree c.args.arena.now c.args.whole.now c.args.parts.now c.args.left) (sums_end c.args.arena.now c.args.whole.now c.args.parts.now c.args.left c.if-left-eq0.true) (end_sums c.args.arena.now c.args.whole.now c.args.parts.now c.args.left c.if-left-eq0.true) c.ends_merge.ensures

pub returns-then-not-branch : goal.returns-then-not-branch
returns-then-not-branch g t c = (
  λ no. absurd cc,
  λ S.
      let N : IsLeastLabel c.loop-label.from c.in_ok-own.own.items c.loop-label.i c.in_ok-below.below.items c.loop-label.at c.in-Some.label = next_same c.loop-label.from c.loop-label.i c.loop-label.at c.in-Some.label c.as_slice.result.now c.in_ok-own.own.items c.as_slice-in-loop-label.result.now c.in_ok-below.below.items c.as_slice.ensures.value c.as_slice-in-loop-label.ensures.value c.in-Some.ensures in
      let Q : HaveCome (c.in-Some.label + 1) c.in_ok-own.own.items c.end_of_label-own_end.result c.in_ok-below.below.items c.end_of_label-end.result = record { own_place = place_same (c.in-Some.label + 1) c.end_of_label-own_end.result c.as_slice-in-Some.result.now c.in_ok-own.own.items c.as_slice-in-Some.ensures.value c.end_of_label-own_end.ensures.place; below_place = place_same (c.in-Some.label + 1) c.end_of_label-end.result c.as_slice-in-Some-2.result.now c.in_ok-below.below.items c.as_slice-in-Some-2.ensures.value c.end_of_label-end.ensures.place } in
      let all = subst (PartsAgree c.args.arena.now c.args.whole.now c.args.parts.now) (one_less c.args.left c.if-left-eq0.false) S in
      let here = sums_value c.args.arena.now c.args.whole.now c.args.parts.now c.in_ok-own.own.items c.in_ok-below.below.items c.in_ok-own.ensures c.in_ok-below.ensures (c.args.left - 1) c.in-Some.label c.loop-label.i c.end_of_label-own_end.result c.loop-label.at c.end_of_label-end.result c.end_of_label-own_end.ensures.behind c.end_of_label-end.ensures.behind N.come Q (each_value c.args.arena.now c.args.whole.now c.args.parts.now (c.args.left - 1) c.in-Some.label all) in
      let there = subst (λ (ps : List Part). PartsAgree c.args.arena.now (slice_range c.in_ok-own.own.items c.loop-label.i c.end_of_label-own_end.result) (slice_range ps c.loop-label.at c.end_of_label-end.result) (c.args.left - 1)) (sym c.deref-in-Some.ensures.value) here in
      let yes = c.in_ok-sums_agree.ensures.1 (subst (λ (ps : List Part). PartsAgree c.args.arena.now (slice_range ps c.loop-label.i c.end_of_label-own_end.result) (slice_range c.deref-in-Some.result.now c.loop-label.at c.end_of_label-end.result) (c.args.left - 1)) (sym c.deref.ensures.value) there) in
      let no = c.if-not-branch.true in
      absurd cc,
)

pub loop-label-preserved : goal.loop-label-preserved
loop-label-preserved g t c =
    let N : IsLeastLabel c.loop-label.from c.in_ok-own.own.items c.loop-label.i c.in_ok-below.below.items c.loop-label.at c.in-Some.label = next_same c.loop-label.from c.loop-label.i c.loop-label.at c.in-Some.label c.as_slice.result.now c.in_ok-own.own.items c.as_slice-in-loop-label.result.now c.in_ok-below.below.items c.as_slice.ensures.value c.as_slice-in-loop-label.ensures.value c.in-Some.ensures in
    let Q : HaveCome (c.in-Some.label + 1) c.in_ok-own.own.items c.end_of_label-own_end.result c.in_ok-below.below.items c.end_of_label-end.result = record { own_place = place_same (c.in-Some.label + 1) c.end_of_label-own_end.result c.as_slice-in-Some.result.now c.in_ok-own.own.items c.as_slice-in-Some.ensures.value c.end_of_label-own_end.ensures.place; below_place = place_same (c.in-Some.label + 1) c.end_of_label-end.result c.as_slice-in-Some-2.result.now c.in_ok-below.below.items c.as_slice-in-Some-2.ensures.value c.end_of_label-end.ensures.place } in
    let told = c.in_ok-sums_agree.ensures.0 c.if-not-branch.false in
    let there = subst (λ (ps : List Part). PartsAgree c.args.arena.now (slice_range ps c.loop-label.i c.end_of_label-own_end.result) (slice_range c.deref-in-Some.result.now c.loop-label.at c.end_of_label-end.result) (c.args.left - 1)) c.deref.ensures.value told in
    let here = subst (λ (ps : List Part). PartsAgree c.args.arena.now (slice_range c.in_ok-own.own.items c.loop-label.i c.end_of_label-own_end.result) (slice_range ps c.loop-label.at c.end_of_label-end.result) (c.args.left - 1)) c.deref-in-Some.ensures.value there in
    record {
      low = search rules;
      come = subst (λ (n : ℕ). HaveCome (n + 1) c.in_ok-own.own.items c.end_of_label-own_end.result c.in_ok-below.below.items c.end_of_label-end.result) (sym c.from-from.ensures) Q;
      agree = λ m lt. one_value_more c.args.arena.now c.args.whole.now c.args.parts.now c.in_ok-own.own.items c.in_ok-below.below.items c.in_ok-own.ensures c.in_ok-below.ensures (c.args.left - 1) c.loop-label.from c.in-Some.label c.loop-label.i c.end_of_label-own_end.result c.loop-label.at c.end_of_label-end.result c.end_of_label-own_end.ensures.behind c.end_of_label-end.ensures.behind c.loop-label.invariant.agree c.loop-label.invariant.come N Q here m (let f = c.from-from.ensures in omega (arith, f, lt));
    }

pub sums_agree-requires : goal.sums_agree-requires
sums_agree-requires g t c κs within =
    let N : IsLeastLabel c.loop-label.from c.in_ok-own.own.items c.loop-label.i c.in_ok-below.below.items c.loop-label.at c.in-Some.label = next_same c.loop-label.from c.loop-label.i c.loop-label.at c.in-Some.label c.as_slice.result.now c.in_ok-own.own.items c.as_slice-in-loop-label.result.now c.in_ok-below.below.items c.as_slice.ensures.value c.as_slice-in-loop-label.ensures.value c.in-Some.ensures in
    let place = place_same (c.in-Some.label + 1) c.end_of_label-own_end.result c.as_slice-in-Some.result.now c.in_ok-own.own.items c.as_slice-in-Some.ensures.value c.end_of_label-own_end.ensures.place in
    let one = run_one c.args.arena.now c.args.whole.now c.in_ok-own.own.items c.in-Some.label c.loop-label.i c.end_of_label-own_end.result c.in_ok-own.ensures c.requires.one c.end_of_label-own_end.ensures.behind N.come.own_place place in
    let d = c.decreases in
    let n = c.if-left-eq0.false in
    (omega (arith, d, n), (within, (subst (λ (ps : List Part). length (slice_range ps c.loop-label.i c.end_of_label-own_end.result) ≤ 1) (sym c.deref.ensures.value) one, ((subst (λ (ps : List Part). ArePartsIn c.args.arena.now (slice_range ps c.loop-label.i c.end_of_label-own_end.result)) (sym c.deref.ensures.value) (run_within c.args.arena.now c.in_ok-own.own.items c.loop-label.i c.end_of_label-own_end.result c.in_ok-own.ensures.within), subst (λ (ps : List Part). ArePartsIn c.args.arena.now (slice_range ps c.loop-label.at c.end_of_label-end.result)) (sym c.deref-in-Some.ensures.value) (run_within c.args.arena.now c.in_ok-below.below.items c.loop-label.at c.end_of_label-end.result c.in_ok-below.ensures.within)), c.requires.readable))))

pub returns : goal.returns
returns g t c = (
  λ y. subst (PartsAgree c.args.arena.now c.args.whole.now c.args.parts.now) (sym (one_less c.args.left c.if-left-eq0.false)) (no_value_more c.args.arena.now c.args.whole.now c.args.parts.now c.in_ok-own.own.items c.in_ok-below.below.items c.in_ok-own.ensures c.in_ok-below.ensures (c.args.left - 1) c.loop-label.from c.loop-label.i c.loop-label.at c.loop-label.invariant.agree c.loop-label.invariant.come (c.in_default.ensures.0 ∙ ap length c.as_slice.ensures.value) (c.in_default.ensures.1 ∙ ap length c.as_slice-in-loop-label.ensures.value)),
  λ S. refl,
)
