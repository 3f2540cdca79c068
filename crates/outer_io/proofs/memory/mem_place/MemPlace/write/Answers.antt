use Rattle.std.proofs.Common.{refl}
use Rattle.outer_io.specs.Places.{MemFiles, after_put_file, written_file}
use Rattle.outer_io.proofs.ByName.{put_holds, put_others}
use Rattle.outer_io.proofs.memory.mem_place.MemPlace.write.Goals as goal

pub returns-clause-holds : goal.returns-clause-holds
returns-clause-holds c =
    let file = written_file c.args.bytes in
    put_holds (λ (p : MemFiles). p.files) (λ f. f.bytes) _ c.args.self.now c.put_file.new.self (after_put_file c.args.self.now c.args.name.now file) c.args.name.now file refl (rw c.new-fails.ensures at c.put_file.ensures.put)

pub returns-clause-others : goal.returns-clause-others
returns-clause-others c =
    let file = written_file c.args.bytes in
    put_others (λ (p : MemFiles). p.files) (λ f. f.bytes) _ c.args.self.now c.put_file.new.self (after_put_file c.args.self.now c.args.name.now file) c.args.name.now file refl (rw c.new-fails.ensures at c.put_file.ensures.put) c.put_file.ensures.unchanged
