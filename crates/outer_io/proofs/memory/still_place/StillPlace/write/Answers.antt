use Rattle.std.proofs.Common.{refl}
use Rattle.outer_io.specs.Memory.{StillInput}
use Rattle.outer_io.specs.Places.{StillFiles, after_still_write, whole_piece}
use Rattle.outer_io.proofs.ByName.{put_holds, put_others}
use Rattle.outer_io.proofs.memory.still_place.StillPlace.write.Goals as goal

pub returns-clause-holds : goal.returns-clause-holds
returns-clause-holds c =
    let file : StillInput = record { left = c.args.bytes; piece = whole_piece } in
    put_holds (λ (p : StillFiles). p.sources) (λ s. s.left) c.put_file.result c.args.self.now c.put_file.new.self (after_still_write c.args.self.now c.args.name.now c.args.bytes) c.args.name.now file refl c.put_file.ensures.put

pub returns-clause-others : goal.returns-clause-others
returns-clause-others c =
    let file : StillInput = record { left = c.args.bytes; piece = whole_piece } in
    put_others (λ (p : StillFiles). p.sources) (λ s. s.left) c.put_file.result c.args.self.now c.put_file.new.self (after_still_write c.args.self.now c.args.name.now c.args.bytes) c.args.name.now file refl c.put_file.ensures.put c.put_file.ensures.unchanged
