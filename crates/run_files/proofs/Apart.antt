-- Answers and ends: which one it is, and which it is not.
use Rattle.std.proofs.Common.{◌≡◌, Some, None, Result, Ok, Err, refl, ap}
use Rattle.outer_io.specs.declared.fault.IoFault.{IoFault}
use Rattle.outer_io.specs.declared.fault.IoFault.TheVariants as fault
use Rattle.run_files.specs.Stops.{read_end}
use Rattle.run_files.specs.declared.stop.Stop.{Stop}
use Rattle.std.specs.Result.{IsErrAnd, result_err}
use Rattle.run_files.specs.declared.stop.Stop.TheVariants.{NoMemory, PlanRefused, ReadFault, WriteFault, FeedRefused}

pub ok_not_err : {T E : Type 0} (x : T) (e : E) → Ok x ≡ Err e → ⊥
ok_not_err x e is = cc

abbrev pub err_of : (T : Type 0) → IoFault → Result T IoFault
err_of T fault = Err fault

pub failed_fault : {T : Type 0} (f : IoFault) → f ≡ fault.Failed → err_of T f ≡ err_of T fault.NoMemory → ⊥
failed_fault f is e = cc

pub lacked_fault : {T : Type 0} (f : IoFault) → f ≡ fault.NoMemory → err_of T f ≡ err_of T fault.Failed → ⊥
lacked_fault f is e = cc

-- an answer that has this error
pub residual_is : {T E : Type 0} (r : Result T E) (e : E) → IsErrAnd r (λ f. f ≡ e) → r ≡ Err e
residual_is (Ok x) e bad = absurd bad
residual_is (Err f) e is = ap (λ k. Err k) is

-- an end that came so, and two that are the same
abbrev pub stopped : (T : Type 0) → Stop → Result T Stop
stopped T stop = Err stop

pub err_is : {T : Type 0} (a b : Stop) → stopped T a ≡ stopped T b → a ≡ b
err_is a b e = cc

pub none_not_some : {A : Type 0} (x : A) → None ≡ Some x → ⊥
none_not_some x is = cc

pub lacked_not_read : Some NoMemory ≡ Some ReadFault → ⊥
lacked_not_read is = cc

pub read_not_refused : Some ReadFault ≡ Some FeedRefused → ⊥
read_not_refused is = cc

pub read_not_write : Some ReadFault ≡ Some WriteFault → ⊥
read_not_write is = cc

pub read_not_plan : Some ReadFault ≡ Some PlanRefused → ⊥
read_not_plan is = cc

-- the end that is said to be this one is it
pub same_stop : (a b : Stop) → Some a ≡ Some b → a ≡ b
same_stop a b is = cc

-- a read fault ends a run exactly where a read failed
pub read_failed : {T : Type 0} (r : Result T IoFault) → result_err (read_end r) ≡ Some ReadFault → r ≡ Err fault.Failed
read_failed (Ok x) e = absurd (none_not_some _ e)
read_failed (Err fault.Failed) e = refl
read_failed (Err fault.NoMemory) e = absurd (lacked_not_read e)

pub failed_read : {T : Type 0} (r : Result T IoFault) → r ≡ Err fault.Failed → result_err (read_end r) ≡ Some ReadFault
failed_read r e = ap (λ r. result_err (read_end r)) e
