use Rattle.std.proofs.Common.{map, refl, sym, ◌∙◌}
use Rattle.std.specs.Prelude.{string_bytes}
use Rattle.run_files.specs.Outside.{at, of_place, of_sink}
use Rattle.add_replies.specs.Statuses.{EndsInStatus}
use Rattle.share_replies.specs.declared.status.Status.TheVariants.{Usage}
use Rattle.add_replies.proofs.Forms.{claim_none, claim_of, form_none, form_some, no_usage}
use Rattle.add_replies.proofs.program.add_replies.Goals as goal

pub returns-in-Some-clause-ends : goal.returns-in-Some-clause-ends
returns-in-Some-clause-ends g c =
    let said = c.add_shares.ensures in
    claim_of (map string_bytes c.args.words.now) c.share_names.result c.share_names.ensures c.in-Some.names
    (EndsInStatus (of_place g.P.Place) (of_sink g.O.Sink) (at c.args.place.now c.args.out.now) (at c.add_shares.new.place c.add_shares.new.out) c.status_of.result)
    c.in-Some.is (c.add_shares.result, record { law = said.law; says = said.shares; causes = said.causes; opens = said.opens; sink = said.sink }, c.status_of.ensures)

pub returns-in-None-clause-ends : goal.returns-in-None-clause-ends
returns-in-None-clause-ends g c =
    claim_none (map string_bytes c.args.words.now) c.share_names.result c.share_names.ensures
    (EndsInStatus (of_place g.P.Place) (of_sink g.O.Sink) (at c.args.place.now c.args.out.now) (at c.args.place.now c.args.out.now) Usage) c.in-None.is

pub returns-in-Some-clause-usage : goal.returns-in-Some-clause-usage
returns-in-Some-clause-usage g c =
    let words = map string_bytes c.args.words.now in
    (λ e. absurd (no_usage c.add_shares.result (sym c.status_of.ensures ∙ e)), λ none. absurd (form_some words c.share_names.result c.share_names.ensures c.in-Some.names c.in-Some.is none))

pub returns-in-None-clause-usage : goal.returns-in-None-clause-usage
returns-in-None-clause-usage g c = (λ e. form_none (map string_bytes c.args.words.now) c.share_names.result c.share_names.ensures c.in-None.is, λ none. refl)

pub returns-in-Some-clause-silent : goal.returns-in-Some-clause-silent
returns-in-Some-clause-silent g c e = absurd (no_usage c.add_shares.result (sym c.status_of.ensures ∙ e))
