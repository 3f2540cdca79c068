use Rattle.std.proofs.Common.{◌++◌, Result, Ok, Err, OnErr}
use Rattle.outer_io.proofs.TakenLaws.{Takes-append}
use Rattle.outer_io.proofs.whole.read_up_to.Goals as goal

-- what holds in any case holds of an error
on_err : {T E : Type 0} (r : Result T E) (P : Type 0) → P → OnErr r P
on_err (Ok _) P h = tt
on_err (Err _) P h = h

pub returns-in_err-n-clause-part : goal.returns-in_err-n-clause-part
returns-in_err-n-clause-part g c =
    on_err c.from_residual.result _ (c.reads.bytes.items ++ c.in_err-n.ensures.part.0, Takes-append _ _ _ _ _ c.reads.invariant.taken c.in_err-n.ensures.part.1)
