use Rattle.std.proofs.Common.{◌≡◌, vec_len}
use Rattle.cube_crew.specs.Opened.{AreMails}
use Rattle.cube_crew.proofs.opening.open_mails.Given as goal

abbrev pub invariant-loop : goal.invariant-loop
invariant-loop g l = record {
  mails : AreMails l.publisher.published.book l.ins l.outs.items;
  count : vec_len l.outs ≡ l.counter;
}
