use Rattle.std.proofs.Common.{◌≡◌, List, ℕ, Result, Ok, Err, IfOk, OnOk, ◌∙◌, subst, false}
use Rattle.cube_crew.specs.Crewed.{IsCrewed}
use Rattle.cube_crew.specs.declared.jobs.Crewed.{Crewed}
use Rattle.cube_store.specs.Numbers.{OwnsAllButRoot}
use Rattle.cube_view.specs.declared.schema.Schema.{Schema}
use Rattle.outer_io.specs.Memory.{StillOutput}
use Rattle.big_run.proofs.PrintedRuns.{came_back, printed-found}
use Rattle.big_run.specs.Printed.{printed}
use Rattle.big_run.specs.Sources.{left_in, no_faults, still_ends, still_faults, still_held, still_name}
use Rattle.big_run.specs.Text.{big_text}
use Rattle.big_run.specs.declared.source.RunSource.{RunSource}
use Rattle.big_run.proofs.run.big_text.Goals as goal

-- a text that is printed where memory was found is the run's
text_found : {E : Type 0} (count : ℕ) (c : Crewed RunSource StillOutput) (r : Result (List ℕ) E) → (c.starved ≡ false → printed c ≡ big_text count) → IfOk r (λ text. text ≡ printed c) → OnOk r (c.starved ≡ false) → IfOk r (λ text. text ≡ big_text count)
text_found count c (Ok text) is prints found = prints ∙ is found
text_found count c (Err e) is prints found = prints

pub print_run-requires : goal.print_run-requires
print_run-requires g c =
    let jobs = c.in_ok-jobs.jobs in
    let crewed = c.in-Ok.crewed in
    let leaves = subst (λ (s : Schema). IsCrewed still_ends OwnsAllButRoot s jobs crewed) c.in_ok-first.ensures.schema c.in-Ok.ensures.crewed in
    came_back OwnsAllButRoot c.args.rows jobs crewed c.in_ok-jobs.ensures leaves

pub returns-in-Ok : goal.returns-in-Ok
returns-in-Ok g c =
    let jobs = c.in_ok-jobs.jobs in
    let crewed = c.in-Ok.crewed in
    let leaves = subst (λ (s : Schema). IsCrewed still_ends OwnsAllButRoot s jobs crewed) c.in_ok-first.ensures.schema c.in-Ok.ensures.crewed in
    let is = printed-found OwnsAllButRoot c.args.rows jobs crewed c.in_ok-jobs.ensures leaves c.interleaving_laws.ensures.table in
    text_found c.args.rows crewed c.print_run.result is c.print_run.ensures.printed c.print_run.ensures.found
