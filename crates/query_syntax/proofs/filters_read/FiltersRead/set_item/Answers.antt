use Rattle.std.proofs.Common.{ap, ◌∙◌, length, arith}
use Rattle.std.specs.Prelude.{List, Option, Some, slice_set}
use Rattle.std.proofs.lemmas.List.{length-set}
use Rattle.query_syntax.specs.FilterParts.{said_if}
use Rattle.query_syntax.specs.Filters.{Filters}
use Rattle.query_syntax.proofs.PrintedFilters.{filters_with}
use Rattle.query_syntax.specs.declared.query.Choice.{Choice}
use Rattle.query_syntax.proofs.SaidParts.{sets_said-set, choices-set}
use Rattle.query_syntax.proofs.filters_read.FiltersRead.set_item.Goals as goal

pub invariant_of-self : goal.invariant_of-self
invariant_of-self c =
    let old = c.self.inside in
    let are = c.self.invariant in
    record {
      tile = are.tile;
      choices = choices-set old.has_sets old.sets c.args.k c.args.choice (omega (arith, are.flags, c.requires)) (omega (arith, are.four, c.requires)) are.choices;
      span = are.span;
      four = length-set old.sets c.args.k c.args.choice ∙ are.four;
      flags = length-set old.has_sets c.args.k _ ∙ are.flags;
    }

pub returns : goal.returns
returns c =
    let old = c.self.inside in
    let are = c.self.invariant in
    ap (λ (sets : List (Option Choice)). filters_with (said_if old.has_region old.region) sets (said_if old.has_time old.time)) (sets_said-set old.has_sets old.sets c.args.k c.args.choice (omega (arith, are.flags, c.requires)) (omega (arith, are.four, c.requires)))
    ∙ ap (λ (said : Filters). filters_with said.region (slice_set said.sets c.args.k (Some c.args.choice)) said.time) c.self.view_is
