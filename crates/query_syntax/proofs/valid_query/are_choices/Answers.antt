use Rattle.std.proofs.Common.{ℕ, ◌+◌, ◌<◌, Bool, ◌&&◌, length, get_or, drop, ◌∙◌, ap, arith}
use Rattle.query_syntax.specs.Queries.{are_choices, is_choice}
use Rattle.query_syntax.proofs.ChoicesAt.{choices_more}
use Rattle.query_syntax.proofs.valid_query.are_choices.Goals as goal

pub loop-k-preserved : goal.loop-k-preserved
loop-k-preserved c =
    let categories = c.args.schema.now.categories in
    let sets = c.args.sets.now in
    let choice = c.index-sets-k.result in
    let within : c.loop-k.k < length sets = omega arith in
    choices_more categories sets c.loop-k.k choice (are_choices categories sets) c.is_choice.result within c.loop-k.invariant
    (c.is_choice.ensures ∙ ap (λ (n : ℕ). is_choice n (get_or sets c.loop-k.k choice)) c.value_count.ensures.count)
    ∙ ap (λ (b : Bool). b && are_choices (drop (c.loop-k.k + 1) categories) (drop (c.loop-k.k + 1) sets)) c.if-not-is_choice.false
