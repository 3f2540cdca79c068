-- What an end that several joined ends have says of them, and what a count that rose says of the place.
use Rattle.std.proofs.Common.{◌≡◌, ◌≢◌, ◌⊎◌, inl, inr, ◌+◌, ◌≤◌, nat_lt, ℕ, zero, suc, Bool, true, false, cond, List, [], ◌∷◌, ◌++◌, All, map, Option, Some, None, Result, Ok, Err, refl, ap, arith}
use Rattle.std.specs.Prelude.{Contains, fold}
use Rattle.std.proofs.lemmas.List.Elements.{All-head, All-tail, Contains-append_right, Contains-get_or}
use Rattle.outer_io.specs.Faults.{Rose}
use Rattle.outer_io.specs.declared.cutter.CutFault.{CutFault}
use Rattle.outer_io.specs.declared.cutter.CutFault.TheVariants as cut
use Rattle.outer_io.specs.declared.fault.IoFault.{IoFault}
use Rattle.outer_io.specs.declared.fault.IoFault.TheVariants as io
use Rattle.run_files.proofs.FaultRises.{faulty-cons}
use Rattle.run_files.specs.GivingBack.{faulty}
use Rattle.run_files.specs.Stops.{joined_ends, rank_of, write_end}
use Rattle.run_files.specs.declared.stop.Stop.{Stop}
use Rattle.run_files.specs.declared.stop.Stop.TheVariants.{PlanRefused, ReadFault, WriteFault}
use Rattle.session_core.specs.declared.fault.SessionFault.{SessionFault}
use Rattle.session_core.specs.declared.fault.SessionFault.TheVariants as fault
use Rattle.plan_run.proofs.WellEnds.{End, ended}
use Rattle.plan_run.specs.ThreadEnds.{all_ends, feed_end, session_end}

-- it holds of some item
abbrev pub AnyOf : {A : Type 0} → (A → Type 0) → List A → Type 0
AnyOf Q [] = ⊥
AnyOf Q (x ∷ xs) = Q x ⊎ AnyOf Q xs

pub any_with : {A : Type 0} (Q P R : A → Type 0) (xs : List A) → ((x : A) → Q x → P x → R x) → AnyOf Q xs → All P xs → AnyOf R xs
any_with Q P R [] f any all = any
any_with Q P R (x ∷ xs) f (inl q) all = inl (f x q (All-head P x xs all))
any_with Q P R (x ∷ xs) f (inr any) all = inr (any_with Q P R xs f any (All-tail P x xs all))

pub any_mapped : {A B : Type 0} (g : A → B) (R : B → Type 0) (xs : List A) → AnyOf (λ x. R (g x)) xs → AnyOf R (map g xs)
any_mapped g R [] any = any
any_mapped g R (x ∷ xs) (inl r) = inl r
any_mapped g R (x ∷ xs) (inr any) = inr (any_mapped g R xs any)

pub any_left : {A : Type 0} (Q : A → Type 0) (xs ys : List A) → AnyOf Q xs → AnyOf Q (xs ++ ys)
any_left Q [] ys any = absurd any
any_left Q (x ∷ xs) ys (inl q) = inl q
any_left Q (x ∷ xs) ys (inr any) = inr (any_left Q xs ys any)

pub any_right : {A : Type 0} (Q : A → Type 0) (xs ys : List A) → AnyOf Q ys → AnyOf Q (xs ++ ys)
any_right Q [] ys any = any
any_right Q (x ∷ xs) ys any = inr (any_right Q xs ys any)

pub any_in : {A : Type 0} (Q : A → Type 0) (xs : List A) → AnyOf Q xs → (x : A) × Contains xs x × Q x
any_in Q [] any = absurd any
any_in Q (x ∷ xs) (inl q) = (x, Contains-get_or (x ∷ xs) 0 x (omega arith), q)
any_in Q (x ∷ xs) (inr any) =
    let later = any_in Q xs any in
    (later.0, Contains-append_right (x ∷ []) xs later.0 later.1, later.2)

chosen_of : (b : Bool) (one other e : Stop) → cond b other one ≡ e → (one ≡ e) ⊎ (other ≡ e)
chosen_of true one other e is = inr is
chosen_of false one other e is = inl is

joined_err : (a b : End) (e : Stop) → joined_ends a b ≡ Err e → (a ≡ Err e) ⊎ (b ≡ Err e)
joined_err (Ok x) b e is = inr is
joined_err (Err one) (Ok x) e is = inl is
joined_err (Err one) (Err other) e is = by (chosen_of (nat_lt (rank_of other) (rank_of one)) one other e (cc is))
  where
    by : (one ≡ e) ⊎ (other ≡ e) → (ended one ≡ ended e) ⊎ (ended other ≡ ended e)
    by (inl same) = inl (ap ended same)
    by (inr same) = inr (ap ended same)

folded_err : (ends : List End) (acc : End) (e : Stop) → fold joined_ends acc ends ≡ Err e → (acc ≡ Err e) ⊎ AnyOf (λ end. end ≡ Err e) ends
folded_err [] acc e is = inl is
folded_err (x ∷ xs) acc e is = by (folded_err xs (joined_ends acc x) e is)
  where
    either : (acc ≡ Err e) ⊎ (x ≡ Err e) → (acc ≡ Err e) ⊎ AnyOf (λ end. end ≡ Err e) (x ∷ xs)
    either (inl a) = inl a
    either (inr b) = inr (inl b)

    by : (joined_ends acc x ≡ Err e) ⊎ AnyOf (λ end. end ≡ Err e) xs → (acc ≡ Err e) ⊎ AnyOf (λ end. end ≡ Err e) (x ∷ xs)
    by (inl a) = either (joined_err acc x e a)
    by (inr b) = inr (inr b)

-- the end of several is that of one
pub all_err : (ends : List End) (e : Stop) → all_ends ends ≡ Err e → AnyOf (λ end. end ≡ Err e) ends
all_err ends e is = by (folded_err ends (Ok tt) e is)
  where
    none : End
    none = Ok tt

    by : (none ≡ ended e) ⊎ AnyOf (λ end. end ≡ Err e) ends → AnyOf (λ end. end ≡ Err e) ends
    by (inl bad) = absurd (cc bad)
    by (inr any) = any

pub any_unmapped : {A B : Type 0} (g : A → B) (R : B → Type 0) (xs : List A) → AnyOf R (map g xs) → AnyOf (λ x. R (g x)) xs
any_unmapped g R [] any = any
any_unmapped g R (x ∷ xs) (inl r) = inl r
any_unmapped g R (x ∷ xs) (inr any) = inr (any_unmapped g R xs any)

-- ---- which faults an end is of

pub feed_read_end : (f : Option CutFault) → feed_end f ≡ Err ReadFault → f ≡ Some cut.Read
feed_read_end None is = absurd (cc is)
feed_read_end (Some cut.Read) is = refl
feed_read_end (Some cut.TooMuch) is = absurd (cc is)
feed_read_end (Some cut.NoMemory) is = absurd (cc is)

pub feed_not_write : (f : Option CutFault) → feed_end f ≢ Err WriteFault
feed_not_write None is = cc is
feed_not_write (Some cut.Read) is = cc is
feed_not_write (Some cut.TooMuch) is = cc is
feed_not_write (Some cut.NoMemory) is = cc is

pub session_read_end : (f : Option SessionFault) → session_end f ≡ Err ReadFault → f ≡ Some fault.Read
session_read_end None is = absurd (cc is)
session_read_end (Some fault.Read) is = refl
session_read_end (Some fault.Write) is = absurd (cc is)
session_read_end (Some fault.TooMuch) is = absurd (cc is)
session_read_end (Some fault.NoMemory) is = absurd (cc is)

pub session_write_end : (f : Option SessionFault) → session_end f ≡ Err WriteFault → f ≡ Some fault.Write
session_write_end None is = absurd (cc is)
session_write_end (Some fault.Read) is = absurd (cc is)
session_write_end (Some fault.Write) is = refl
session_write_end (Some fault.TooMuch) is = absurd (cc is)
session_write_end (Some fault.NoMemory) is = absurd (cc is)

pub write_not_read : (r : Result (Unit {0}) IoFault) → write_end r ≢ Err ReadFault
write_not_read (Ok x) is = cc is
write_not_read (Err io.Failed) is = cc is
write_not_read (Err io.NoMemory) is = cc is

pub write_not_plan : (r : Result (Unit {0}) IoFault) → write_end r ≢ Err PlanRefused
write_not_plan (Ok x) is = cc is
write_not_plan (Err io.Failed) is = cc is
write_not_plan (Err io.NoMemory) is = cc is

pub write_failed : (r : Result (Unit {0}) IoFault) → write_end r ≡ Err WriteFault → r ≡ Err io.Failed
write_failed (Ok x) is = absurd (cc is)
write_failed (Err io.Failed) is = refl
write_failed (Err io.NoMemory) is = absurd (cc is)

-- ---- counts

pub some_faulty : (counts : List ℕ) → AnyOf (λ n. Rose 0 n) counts → 1 ≤ faulty counts
some_faulty [] any = absurd any
some_faulty (zero ∷ counts) (inl rose) = absurd (omega (arith, rose.1))
some_faulty (suc n ∷ counts) (inl rose) = grind (arith, faulty-cons (suc n) counts)
some_faulty (n ∷ counts) (inr any) = omega (arith, faulty-cons n counts, some_faulty counts any)

-- ---- ends of parts

pub feed_not_plan : (f : Option CutFault) → feed_end f ≢ Err PlanRefused
feed_not_plan None is = cc is
feed_not_plan (Some cut.Read) is = cc is
feed_not_plan (Some cut.TooMuch) is = cc is
feed_not_plan (Some cut.NoMemory) is = cc is

pub session_not_plan : (f : Option SessionFault) → session_end f ≢ Err PlanRefused
session_not_plan None is = cc is
session_not_plan (Some fault.Read) is = cc is
session_not_plan (Some fault.Write) is = cc is
session_not_plan (Some fault.TooMuch) is = cc is
session_not_plan (Some fault.NoMemory) is = cc is
