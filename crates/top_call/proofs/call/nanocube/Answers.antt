use Rattle.std.proofs.Common.{◌≡◌, Global, List, Option, Some, ℕ, IfSome, map, string_bytes, subst}
use Rattle.program_forms.specs.Forms.{Form, form_of}
use Rattle.program_forms.specs.Seen.{form_seen}
use Rattle.run_files.specs.Outside.{of_place, of_sink}
use Rattle.top_call.proofs.FormEnds.{form_causes, form_usage}
use Rattle.top_call.specs.Forms.{FormEnds}
use Rattle.top_call.proofs.call.nanocube.Goals as goal

pub returns-in-Some : goal.returns-in-Some
returns-in-Some g c =
    let p = of_place g.P.Place in
    let s = of_sink g.O.Sink in
    let form = form_seen c.in-Some.form in
    let words : List (List ℕ) = map (string_bytes {Z = Global}) c.args.words.now in
    let is : Some form ≡ form_of words = c.in-Some.ensures.form in
    let status = c.run_form.result in
    let usage = form_usage p s c.args.place.now c.run_form.new.place c.args.out.now c.run_form.new.out status words form is c.run_form.ensures in
    record {
      usage = usage.0;
      untouched = usage.1;
      ends = subst (λ (o : Option Form). IfSome o (FormEnds p s c.args.place.now c.run_form.new.place c.args.out.now c.run_form.new.out status)) is c.run_form.ensures;
      causes = form_causes p s c.args.place.now c.run_form.new.place c.args.out.now c.run_form.new.out status form c.run_form.ensures;
    }
