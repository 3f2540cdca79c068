use Rattle.std.proofs.Common.{◌≡◌, ◌+◌, List, Option, Ok, Err, ◌∷◌, [], ◌∙◌, ap, sym, subst, drop, length, arith, length-append, ℕ}
use Rattle.std.specs.Prelude.{◌==◌}
use Rattle.std.proofs.lemmas.Bool.{false≢true}
use Rattle.std.proofs.lemmas.List.{drop_all, length-take-le, map-append, take_all}
use Rattle.reply_sums.proofs.RowSums.{drop_at}
use Rattle.reply_json.specs.declared.reply.Reply.{Reply}
use Rattle.share_replies.specs.Refusals.{total_of_sum, totals_of}
use Rattle.share_replies.specs.declared.summed.Summed.{Summed}
use Rattle.share_replies.proofs.LineSums.{no_items, some_items}
use Rattle.share_replies.proofs.ShareLines.{HasRead, at_line, line_of, nothing_left, read_all, read_more, read_none, read_wrong, totals_at}
use Rattle.share_replies.proofs.TextSums.{Going, going_all, going_first, going_on, line_adds, take_at_item}
use Rattle.share_replies.proofs.text.add_text.Goals as goal

pub returns-in-Err-clause-law : goal.returns-in-Err-clause-law
returns-in-Err-clause-law c schema g s all share =
    let added =
    line_adds schema g s c.args.asked.now c.args.sums.now c.loop-i.i c.loop-i.next c.loop-i.rest.now c.index-asked-i.result c.index-sums-i.result c.index-asked-i.is c.index-sums-i.is (omega arith) (omega (arith, c.requires.size))
    (c.loop-i.invariant.law schema g s all share) (Err c.in-Err.fault) c.in-Err.ensures.law
    in
    (tt, c.fault_after.ensures.innocent added.1)

pub loop-i-preserved : goal.loop-i-preserved
loop-i-preserved c = record {
  law = λ schema g s all share.
      let asked = c.args.asked.now in
      let sums = c.args.sums.now in
      let i = c.loop-i.i in
      let p = c.index-asked-i.result in
      let sum = c.index-sums-i.result in
      let going = c.loop-i.invariant.law schema g s all share in
      let added = (line_adds schema g s asked sums i c.loop-i.next c.loop-i.rest.now p sum c.index-asked-i.is c.index-sums-i.is (omega arith) (omega (arith, c.requires.size)) going (Ok c.in-Ok.field-0) c.in-Ok.ensures.law).0 in
      subst (λ (next : List (Option Summed)). Going schema g s asked sums (i + 1) next c.in-Ok.field-0.rest.now) (sym c.in_ok-add-in-Ok.ensures.added)
      (going_on schema g s asked sums i c.loop-i.next c.loop-i.rest.now p sum c.index-asked-i.is c.index-sums-i.is (omega arith) (omega (arith, c.requires.size)) going c.in-Ok.field-0.sum c.in-Ok.field-0.rest.now added.0 added.1);
  read =
      let asked = c.args.asked.now in
      let sums = c.args.sums.now in
      let i = c.loop-i.i in
      let added = c.in-Ok.field-0 in
      let passes = c.in-Ok.ensures.right in
      let second = drop_at sums i c.index-sums-i.result c.index-sums-i.is (omega (arith, c.requires.size)) in
      let front = take_at_item asked i c.index-asked-i.result c.index-asked-i.is (omega arith) in
      subst (λ (next : List (Option Summed)). HasRead asked (totals_of sums) c.args.text.now (i + 1) (totals_of next) added.rest.now) (sym c.in_ok-add-in-Ok.ensures.added)
      (subst (λ (nexts : List (Option Reply)). HasRead asked (totals_of sums) c.args.text.now (i + 1) nexts added.rest.now) (sym (map-append total_of_sum c.loop-i.next (added.sum ∷ [])))
      (read_more asked (totals_of sums) c.args.text.now i (totals_of c.loop-i.next) c.loop-i.rest.now c.loop-i.invariant.read c.index-asked-i.result (total_of_sum c.index-sums-i.result) passes.0 (total_of_sum added.sum) added.rest.now
      front (length-take-le i asked (omega arith)) (totals_at sums i c.index-sums-i.result second) passes.1 passes.2 passes.3));
  size = omega (arith, ap length c.in_ok-add-in-Ok.ensures.added, length-append c.loop-i.next (c.in-Ok.field-0.sum ∷ []), c.loop-i.invariant.size);
}

pub returns-else-is_empty-clause-law : goal.returns-else-is_empty-clause-law
returns-else-is_empty-clause-law c schema g s all share =
    let going = c.loop-i.invariant.law schema g s all share in
    let none = (going_all schema g s c.args.asked.now c.args.sums.now c.loop-i.i c.loop-i.next c.loop-i.rest.now (omega arith) going).1 in
    (tt, c.fault_after-else-is_empty.ensures.innocent (false≢true (sym c.if-is_empty.false ∙ c.is_empty.ensures ∙ ap (λ (xs : List ℕ). length xs == 0) none)))

pub loop-i-init : goal.loop-i-init
loop-i-init c = record {
  law = λ schema g s all share. subst (λ (next : List (Option Summed)). Going schema g s c.args.asked.now c.args.sums.now 0 next c.args.text.now) (sym c.new-next.ensures) (going_first schema g s c.args.asked.now c.args.sums.now c.args.text.now all share);
  read = subst (λ (next : List (Option Summed)). HasRead c.args.asked.now (totals_of c.args.sums.now) c.args.text.now 0 (totals_of next) c.args.text.now) (sym c.new-next.ensures) (read_none c.args.asked.now (totals_of c.args.sums.now) c.args.text.now);
  size = ap length c.new-next.ensures;
}

pub returns-in-Err-clause-wrong : goal.returns-in-Err-clause-wrong
returns-in-Err-clause-wrong c number w e =
    let asked = c.args.asked.now in
    let sums = c.args.sums.now in
    let i = c.loop-i.i in
    let at = c.fault_after.ensures.at number w (at_line c.fault_after.result number w e) in
    let first = drop_at asked i c.index-asked-i.result c.index-asked-i.is (omega arith) in
    let second = totals_at sums i c.index-sums-i.result (drop_at sums i c.index-sums-i.result c.index-sums-i.is (omega (arith, c.requires.size))) in
    read_wrong asked (totals_of sums) c.args.text.now i (totals_of c.loop-i.next) c.loop-i.rest.now c.loop-i.invariant.read number w at.0
    (line_of (drop i asked) (drop i (totals_of sums)) c.index-asked-i.result (drop (i + 1) asked) (total_of_sum c.index-sums-i.result) (drop (i + 1) (totals_of sums)) c.loop-i.rest.now w first second (c.in-Err.ensures.wrong w (ap (λ f. Err f) at.1)))

pub returns-else-is_empty-clause-wrong : goal.returns-else-is_empty-clause-wrong
returns-else-is_empty-clause-wrong c number w e =
    let asked = c.args.asked.now in
    let i = c.loop-i.i in
    let at = c.fault_after-else-is_empty.ensures.at number w (at_line c.fault_after-else-is_empty.result number w e) in
    let line_is : number ≡ i + 1 = omega (arith, at.0) in
    read_wrong asked (totals_of c.args.sums.now) c.args.text.now i (totals_of c.loop-i.next) c.loop-i.rest.now c.loop-i.invariant.read number w line_is
    (nothing_left (drop i asked) (drop i (totals_of c.args.sums.now)) c.loop-i.rest.now w (drop_all i asked (omega arith)) (some_items c.loop-i.rest.now c.is_empty.result c.is_empty.ensures c.if-is_empty.false) at.1)

pub returns-then-is_empty-clause-right : goal.returns-then-is_empty-clause-right
returns-then-is_empty-clause-right c =
    read_all c.args.asked.now (totals_of c.args.sums.now) c.args.text.now c.loop-i.i (totals_of c.loop-i.next) c.loop-i.rest.now c.loop-i.invariant.read (take_all c.loop-i.i c.args.asked.now (omega arith))
    (no_items c.loop-i.rest.now c.is_empty.result c.is_empty.ensures c.if-is_empty.true)
