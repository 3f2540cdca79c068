use Rattle.std.proofs.Common.{sym, ap, subst, ◌∙◌}
use Rattle.time_table.specs.Totals.{counts_from}
use Rattle.time_table.specs.Places.{added_run, more_run}
use Rattle.time_table.specs.Forms.{IsSingle, IsForm, form_entries}
use Rattle.time_table.specs.Fews.{few_rows}
use Rattle.time_table.proofs.Runs.{counts_from-added_run}
use Rattle.time_table.proofs.form.Form.merge.Goals.{in-Few+in_ok-widened-in-Few+in_ok-rows-in-Few, in-Single+in_ok-rows-in-Single}
use Rattle.time_table.proofs.form.Form.merge.Goals as goal

pub returns-clause-added : goal.returns-clause-added
returns-clause-added g c =
    let run = c.args.run.now in
    elim c.match-self.branch [
      | in-Few+in_ok-widened-in-Few+in_ok-rows-in-Few w ↦ (
          let few = few_rows w.in-Few.few in
          let single : IsSingle few = subst IsForm w.in-Few.is c.requires.form in
          ap (λ r. counts_from 0 r.items) w.rows-is
          ∙ ap (counts_from 0) (w.in_ok-rows-in-Few.ensures.merged ∙ ap (added_run run) w.in_ok-widened-in-Few.ensures)
          ∙ counts_from-added_run run few c.requires.run.some single.rise
          ∙ ap (more_run run) (ap form_entries (sym w.in-Few.is)))
      | in-Single+in_ok-rows-in-Single w ↦ (
          let rows = w.in-Single.rows.items in
          let single : IsSingle rows = subst IsForm w.in-Single.is c.requires.form in
          ap (λ r. counts_from 0 r.items) w.rows-is
          ∙ ap (counts_from 0) w.in_ok-rows-in-Single.ensures.merged
          ∙ counts_from-added_run run rows c.requires.run.some single.rise
          ∙ ap (more_run run) (ap form_entries (sym w.in-Single.is)))
    ]
