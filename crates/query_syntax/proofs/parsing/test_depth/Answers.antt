use Rattle.std.proofs.Common.{◌≡◌, ℕ, ◌∙◌, sym, ap, false}
use Rattle.std.specs.Prelude.{unwrap_or}
use Rattle.query_syntax.specs.Queries.{is_too_deep, whole_space}
use Rattle.query_syntax.proofs.Validity.{valid_query}
use Rattle.query_syntax.proofs.parsing.test_depth.Goals as goal

pub returns-else-is_map_too_deep-clause-valid : goal.returns-else-is_map_too_deep-clause-valid
returns-else-is_map_too_deep-clause-valid c =
    let schema = c.args.schema.now in
    let verb = c.args.verb in
    let deep : is_too_deep schema.depth (unwrap_or c.args.filters.now.region whole_space).z verb ≡ false =
    ap (λ (z : ℕ). is_too_deep schema.depth z verb) (sym c.level.ensures) ∙ (sym c.is_map_too_deep.ensures ∙ c.if-is_map_too_deep.false) in
    valid_query schema verb c.args.filters.now c.requires.range c.requires.fits deep
