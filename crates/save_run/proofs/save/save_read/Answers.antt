use Rattle.std.proofs.Common.{ℕ, List, ap, Result, Err, refl, sym, subst}
use Rattle.run_files.specs.Outside.{at, of_place, of_sink, Puts}
use Rattle.run_files.specs.Saying.{SaysText}
use Rattle.run_files.specs.declared.stop.Stop.{Stop}
use Rattle.image_run.specs.declared.end.ImageEnd.{ImageEnd}
use Rattle.run_files.proofs.Apart.{residual_is}
use Rattle.save_run.proofs.ImageLineFaults.{image_unsaid, long_unsaid}
use Rattle.save_run.specs.Lines.{saved_text}
use Rattle.save_run.specs.Writing.{SavesCube, Writes}
use Rattle.save_run.proofs.save.save_read.Goals as goal

pub returns-in_err-say_saved-in-Ok : goal.returns-in_err-say_saved-in-Ok
returns-in_err-say_saved-in-Ok g c =
    let p = of_place g.P.Place in
    let s = of_sink g.O.Sink in
    let a = c.args in
    let k = c.in_err-say_saved-in-Ok.field-0.0 in
    subst (λ (r : Result ImageEnd Stop). SavesCube p s (at a.place.now a.out.now) (at c.write_file.new.place c.say_saved.new.out) a.plan.now (a.cube.now, a.counts.now) a.image.now r) (sym (residual_is c.from_residual-in_err-say_saved-in-Ok.result k c.from_residual-in_err-say_saved-in-Ok.ensures.1))
    (image_unsaid p s a.place.now c.write_file.new.place a.out.now c.say_saved.new.out a.plan.now a.cube.now a.counts.now a.image.now k c.in-Ok.bytes (λ h counted records. (c.in-Ok.ensures.image h counted records).0) c.in-Ok.ensures.least
    (subst (λ (bytes : List ℕ). Writes p a.place.now c.write_file.new.place a.image.now bytes) c.as_slice.ensures c.in_ok-write_file-in-Ok.ensures)
    (subst (λ (n : ℕ). SaysText {T = Unit {0}} s a.out.now c.say_saved.new.out (saved_text a.plan.now a.counts.now n) (Err k)) c.len.ensures c.in_err-say_saved-in-Ok.ensures))

pub returns-in_ok-say_saved-in-Ok : goal.returns-in_ok-say_saved-in-Ok
returns-in_ok-say_saved-in-Ok g c =
    let p = of_place g.P.Place in
    let s = of_sink g.O.Sink in
    let a = c.args in
    record {
      bytes = c.in-Ok.bytes;
      of_cube = λ h counted records. (c.in-Ok.ensures.image h counted records).0;
      of_least = c.in-Ok.ensures.least;
      writes = subst (λ (bytes : List ℕ). Writes p a.place.now c.write_file.new.place a.image.now bytes) c.as_slice.ensures c.in_ok-write_file-in-Ok.ensures;
      says = subst (λ (n : ℕ). Puts s a.out.now c.say_saved.new.out (saved_text a.plan.now a.counts.now n)) c.len.ensures c.in_ok-say_saved-in-Ok.ensures.puts;
    }

pub returns-in_err-refuse_image-in-Err-TooLong : goal.returns-in_err-refuse_image-in-Err-TooLong
returns-in_err-refuse_image-in-Err-TooLong g c =
    let p = of_place g.P.Place in
    let s = of_sink g.O.Sink in
    let a = c.args in
    let k = c.in_err-refuse_image-in-Err-TooLong.field-0.0 in
    let said = c.in_err-refuse_image-in-Err-TooLong.ensures in
    subst (λ (r : Result ImageEnd Stop). SavesCube p s (at a.place.now a.out.now) (at a.place.now c.refuse_image.new.out) a.plan.now (a.cube.now, a.counts.now) a.image.now r) (sym (residual_is c.from_residual-in_err-refuse_image-in-Err-TooLong.result k c.from_residual-in_err-refuse_image-in-Err-TooLong.ensures.1))
    (long_unsaid p s a.place.now a.place.now a.out.now c.refuse_image.new.out a.plan.now a.cube.now a.counts.now a.image.now k (c.in-Err-TooLong.ensures.too_long (ap (λ f. Err f) c.in-Err-TooLong.field-0-is)) said)

pub returns-in_ok-refuse_image-in-Err-TooLong : goal.returns-in_ok-refuse_image-in-Err-TooLong
returns-in_ok-refuse_image-in-Err-TooLong g c =
    record { long = c.in-Err-TooLong.ensures.too_long (ap (λ f. Err f) c.in-Err-TooLong.field-0-is); same = refl; says = c.in_ok-refuse_image-in-Err-TooLong.ensures.puts }
