use Rattle.std.proofs.Common.{◌≤◌, ◌∷◌, [], arith, refl, sym, ap, ◌∙◌, length, take, length-append}
use Rattle.std.proofs.lemmas.List.{take-append-le, take_all}
use Rattle.block_list.proofs.blocks.BlockList.cut.Goals as goal

pub loop-self-preserved : goal.loop-self-preserved
loop-self-preserved g c =
    let rest = c.pop-dropped.new.self in
    let one = c.pop-dropped.result ∷ [] in
    let size = ap length c.pop-dropped.ensures ∙ length-append rest one in
    let count = c.self.invariant.1 ∙ ap length c.self.view_is in
    let more = c.loop-self-test.true in
    let enough : c.args.n ≤ length rest = omega arith in
    record {
      kept = sym (take-append-le c.args.n rest one enough) ∙ ap (λ xs. take c.args.n xs) (sym c.pop-dropped.ensures) ∙ c.loop-self.invariant.kept;
      enough = enough;
      same = refl;
    }

pub returns : goal.returns
returns g c =
    let count = c.self.invariant.1 ∙ ap length c.self.view_is in
    let done = c.loop-self-test.false in
    sym (take_all c.args.n c.loop-self.self (omega arith)) ∙ c.loop-self.invariant.kept
