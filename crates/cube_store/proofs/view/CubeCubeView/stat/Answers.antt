use Rattle.std.proofs.Common.{◌<◌, ◌^◌, length, sym, ◌∙◌, arith}
use Rattle.cube_store.proofs.Numbers.{numbers_in_memory}
use Rattle.cube_store.proofs.view.CubeCubeView.stat.Goals as goal

pub returns : goal.returns
returns c =
    let few : length c.args.self.now.arena < 2 ^ 64 = omega (arith, c.len-slots.ensures, c.len-slots.type_inv) in
    c.stat.ensures.numbers ∙ sym (numbers_in_memory c.args.self.now.arena c.stat.ensures.in_order few)
