use Rattle.std.proofs.Common.{◌≡◌, refl, ℕ, ◌<◌, true, false, List, [], length, get_or, take, map, below_more, arith}
use Rattle.std.specs.List.{zip}
use Rattle.std.proofs.lemmas.List.{take_all}
use Rattle.cube_view.specs.declared.category.Category.{Category}
use Rattle.feed_reader.specs.Rows.{is_unknown, texts_at, value_of}
use Rattle.feed_reader.proofs.Lists.{position_found, position_none}
use Rattle.feed_reader.proofs.Values.{at_most_four, known_length, no_pair, padded_next, pair_at, pairs_length, values_next}
use Rattle.feed_reader.proofs.row.values.Goals as goal

pub returns-in-None : goal.returns-in-None
returns-in-None c =
    let pairs = zip c.args.categories.now (texts_at c.args.fields.now c.args.places.now) in
    let size = pairs_length c.args.categories.now c.args.fields.now c.args.places.now c.requires.each in
    let pair = pair_at c.args.categories.now c.args.fields.now c.args.places.now c.loop-k.k no_pair c.get.result.now c.requires.each c.loop-k-test.true c.get.ensures in
    let unknown = rw c.field.ensures at c.in-None.ensures.unknown in
    let here : is_unknown (get_or pairs c.loop-k.k no_pair) ≡ true = rw (pair, unknown) refl in
    rw (position_found is_unknown pairs no_pair c.loop-k.k (omega (arith, size, c.loop-k-test.true)) (λ j h. c.loop-k.invariant.known j no_pair h) here) refl

pub loop-k-preserved : goal.loop-k-preserved
loop-k-preserved c =
    let pairs = zip c.args.categories.now (texts_at c.args.fields.now c.args.places.now) in
    let size = pairs_length c.args.categories.now c.args.fields.now c.args.places.now c.requires.each in
    let p : Category × List ℕ = (c.get.result.now, get_or c.args.fields.now (get_or c.args.places.now c.loop-k.k 0) []) in
    let pair = λ (d : Category × List ℕ). pair_at c.args.categories.now c.args.fields.now c.args.places.now c.loop-k.k d c.get.result.now c.requires.each c.loop-k-test.true c.get.ensures in
    let known = rw c.field.ensures at c.in-Some.ensures.known in
    let found = rw c.field.ensures at c.in-Some.ensures.unknown in
    let within : c.loop-k.k < length pairs = omega (arith, size, c.loop-k-test.true) in
    record {
      known = λ j d h. below_more (λ i. is_unknown (get_or pairs i d) ≡ false) c.loop-k.k (λ i l. c.loop-k.invariant.known i d l) (rw (pair d, found) refl) j h;
      values = rw (c.loop-k.invariant.values, known, values_next pairs c.loop-k.k p within (pair p))
          (padded_next (map value_of (take c.loop-k.k pairs)) c.loop-k.k (value_of p) (known_length pairs c.loop-k.k (omega arith))
          (omega (arith, at_most_four c.args.categories.now c.requires.in_range, c.requires.each, c.loop-k-test.true)));
    }

pub returns : goal.returns
returns c =
    let pairs = zip c.args.categories.now (texts_at c.args.fields.now c.args.places.now) in
    let size = pairs_length c.args.categories.now c.args.fields.now c.args.places.now c.requires.each in
    let all : take c.loop-k.k pairs ≡ pairs = take_all c.loop-k.k pairs (omega (arith, size, c.loop-k-test.false)) in (
      rw (position_none is_unknown pairs no_pair (λ j h. c.loop-k.invariant.known j no_pair (omega (arith, size, h, c.loop-k-test.false)))) refl,
      rw all at c.loop-k.invariant.values,
    )
