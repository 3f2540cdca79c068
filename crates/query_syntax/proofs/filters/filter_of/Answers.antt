use Rattle.std.proofs.Common.{◌∙◌, sym}
use Rattle.std.proofs.lemmas.Result.{IfOk-weaker}
use Rattle.query_syntax.proofs.FilterSteps.{reads_on_from, region_begins, item_begins, time_begins}
use Rattle.query_syntax.proofs.filters.filter_of.Goals as goal

pub returns-else-has_region-clause-reads : goal.returns-else-has_region-clause-reads
returns-else-has_region-clause-reads c =
    reads_on_from _ _ c.region_filter.result _
    (region_begins c.args.schema.now c.args.verb c.args.filters.now c.args.number c.args.word.now _ (sym c.may_have_filters.ensures ∙ c.if-not-may_have_filters.false) (sym c.is_text.ensures ∙ c.if-is_text.true) (sym c.has_own_tiles.ensures ∙ c.if-has_own_tiles.false) (sym c.has_region.ensures ∙ c.if-has_region.false))
    (c.region_filter.ensures.reads c.args.verb)

pub returns-then-is_text-2-clause-reads : goal.returns-then-is_text-2-clause-reads
returns-then-is_text-2-clause-reads c =
    reads_on_from _ _ c.category_filter.result _
    (item_begins c.args.schema.now c.args.verb c.args.filters.now c.args.number c.args.word.now _ (sym c.may_have_filters.ensures ∙ c.if-not-may_have_filters.false) (sym c.is_text.ensures ∙ c.if-is_text.false) (sym c.is_text-else-is_text.ensures ∙ c.if-is_text-2.true))
    (c.category_filter.ensures.reads c.args.verb)

pub returns-else-has_time-clause-reads : goal.returns-else-has_time-clause-reads
returns-else-has_time-clause-reads c =
    reads_on_from _ _ c.time_filter.result _
    (time_begins c.args.schema.now c.args.verb c.args.filters.now c.args.number c.args.word.now _ (sym c.may_have_filters.ensures ∙ c.if-not-may_have_filters.false) (sym c.is_text.ensures ∙ c.if-is_text.false) (sym c.is_text-else-is_text.ensures ∙ c.if-is_text-2.false) (sym c.is_text-else-is_text-2.ensures ∙ c.if-is_text-3.true) (sym c.has_own_bins.ensures ∙ c.if-has_own_bins.false) (sym c.has_time.ensures ∙ c.if-has_time.false))
    (c.time_filter.ensures.reads c.args.verb)

pub returns-else-has_region-clause-fits : goal.returns-else-has_region-clause-fits
returns-else-has_region-clause-fits c =
    IfOk-weaker c.region_filter.result _ _ (λ _ h. h c.args.verb (sym c.may_have_filters.ensures ∙ c.if-not-may_have_filters.false) (sym c.has_own_tiles.ensures ∙ c.if-has_own_tiles.false) c.requires.fits) c.region_filter.ensures.fits

pub returns-then-is_text-2-clause-fits : goal.returns-then-is_text-2-clause-fits
returns-then-is_text-2-clause-fits c =
    IfOk-weaker c.category_filter.result _ _ (λ _ h. h c.args.verb (sym c.may_have_filters.ensures ∙ c.if-not-may_have_filters.false) c.requires.fits) c.category_filter.ensures.fits

pub returns-else-has_time-clause-fits : goal.returns-else-has_time-clause-fits
returns-else-has_time-clause-fits c =
    IfOk-weaker c.time_filter.result _ _ (λ _ h. h c.args.verb (sym c.may_have_filters.ensures ∙ c.if-not-may_have_filters.false) (sym c.has_own_bins.ensures ∙ c.if-has_own_bins.false) c.requires.fits) c.time_filter.ensures.fits
