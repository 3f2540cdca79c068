use Rattle.std.proofs.Common.{ℕ, true, false, refl, sym, ◌∙◌, ap}
use Rattle.query_syntax.specs.Queries.{filters_fit_verb, is_span, is_too_deep, verb_in_range}
use Rattle.query_syntax.specs.Tiles.{is_tile}
use Rattle.query_syntax.proofs.ChoicesAt.{valid_is, valid_sets}
use Rattle.query_syntax.proofs.valid_query.is_valid_query.Goals as goal

pub returns-then-not-are_choices : goal.returns-then-not-are_choices
returns-then-not-are_choices c = valid_sets c.args.schema.now c.args.query.now (sym c.are_choices.ensures.fit ∙ c.if-not-are_choices.true)

pub returns-then-not-is_in_range : goal.returns-then-not-is_in_range
returns-then-not-is_in_range c =
    let s = c.args.schema.now in
    let q = c.args.query.now in
    valid_is s q false (is_tile s.depth q.region) (is_too_deep s.depth q.region.z q.verb) true (is_span q.time) (filters_fit_verb q) c.are_choices.ensures.four
    (sym c.if-not-is_in_range.true ∙ c.is_in_range.ensures ∙ ap (λ (n : ℕ). verb_in_range s.depth n q.verb) c.len.ensures) refl refl (sym c.if-not-are_choices.false ∙ c.are_choices.ensures.fit) refl refl

pub returns-then-not-is_tile : goal.returns-then-not-is_tile
returns-then-not-is_tile c =
    let s = c.args.schema.now in
    let q = c.args.query.now in
    valid_is s q true false (is_too_deep s.depth q.region.z q.verb) true (is_span q.time) (filters_fit_verb q) c.are_choices.ensures.four
    (sym c.if-not-is_in_range.false ∙ c.is_in_range.ensures ∙ ap (λ (n : ℕ). verb_in_range s.depth n q.verb) c.len.ensures) (sym c.if-not-is_tile.true ∙ c.is_tile.ensures) refl (sym c.if-not-are_choices.false ∙ c.are_choices.ensures.fit) refl refl

pub returns-then-is_map_too_deep : goal.returns-then-is_map_too_deep
returns-then-is_map_too_deep c =
    let s = c.args.schema.now in
    let q = c.args.query.now in
    valid_is s q true true true true (is_span q.time) (filters_fit_verb q) c.are_choices.ensures.four
    (sym c.if-not-is_in_range.false ∙ c.is_in_range.ensures ∙ ap (λ (n : ℕ). verb_in_range s.depth n q.verb) c.len.ensures) (sym c.if-not-is_tile.false ∙ c.is_tile.ensures) (sym c.if-is_map_too_deep.true ∙ c.is_map_too_deep.ensures) (sym c.if-not-are_choices.false ∙ c.are_choices.ensures.fit) refl refl

pub returns-then-not-is_span : goal.returns-then-not-is_span
returns-then-not-is_span c =
    let s = c.args.schema.now in
    let q = c.args.query.now in
    valid_is s q true true false true false (filters_fit_verb q) c.are_choices.ensures.four
    (sym c.if-not-is_in_range.false ∙ c.is_in_range.ensures ∙ ap (λ (n : ℕ). verb_in_range s.depth n q.verb) c.len.ensures) (sym c.if-not-is_tile.false ∙ c.is_tile.ensures) (sym c.if-is_map_too_deep.false ∙ c.is_map_too_deep.ensures) (sym c.if-not-are_choices.false ∙ c.are_choices.ensures.fit) (sym c.if-not-is_span.true ∙ c.is_span.ensures) refl

pub returns : goal.returns
returns c =
    let s = c.args.schema.now in
    let q = c.args.query.now in
    valid_is s q true true false true true c.fits_verb.result c.are_choices.ensures.four
    (sym c.if-not-is_in_range.false ∙ c.is_in_range.ensures ∙ ap (λ (n : ℕ). verb_in_range s.depth n q.verb) c.len.ensures) (sym c.if-not-is_tile.false ∙ c.is_tile.ensures) (sym c.if-is_map_too_deep.false ∙ c.is_map_too_deep.ensures) (sym c.if-not-are_choices.false ∙ c.are_choices.ensures.fit) (sym c.if-not-is_span.false ∙ c.is_span.ensures) (c.fits_verb.ensures)
