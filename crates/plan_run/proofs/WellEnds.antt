-- What ends that are joined say of each.
use Rattle.std.proofs.Common.{◌≡◌, Bool, true, false, List, [], ◌∷◌, All, map, Option, Some, None, Result, Ok, Err, refl}
use Rattle.std.specs.Prelude.{fold}
use Rattle.std.proofs.lemmas.List.Elements.{All-cons, All-head, All-nil, All-tail}
use Rattle.outer_io.specs.declared.cutter.CutFault.{CutFault}
use Rattle.outer_io.specs.declared.fault.IoFault.{IoFault}
use Rattle.outer_io.specs.declared.fault.IoFault.TheVariants as io
use Rattle.run_files.specs.Stops.{joined_ends, write_end}
use Rattle.run_files.specs.declared.stop.Stop.{Stop}
use Rattle.session_core.specs.declared.fault.SessionFault.{SessionFault}
use Rattle.plan_run.specs.ThreadEnds.{all_ends, feed_end, session_end, starved_end}

abbrev pub End : Type 0
End = Result (Unit {0}) Stop

-- an end by this cause
abbrev pub ended : Stop → End
ended stop = Err stop

-- all is well
abbrev pub IsWell : End → Type 0
IsWell end = end ≡ Ok tt

joined_well : (a b : End) → joined_ends a b ≡ Ok tt → IsWell a × IsWell b
joined_well (Ok x) b e = (refl, e)
joined_well (Err one) (Ok x) e = absurd (cc e)
joined_well (Err one) (Err other) e = absurd (cc e)

folded_well : (ends : List End) (acc : End) → fold joined_ends acc ends ≡ Ok tt → IsWell acc × All IsWell ends
folded_well [] acc e = (e, All-nil IsWell)
folded_well (x ∷ xs) acc e =
    let later = folded_well xs (joined_ends acc x) e in
    let both = joined_well acc x later.0 in
    (both.0, All-cons IsWell x xs both.1 later.1)

-- ends that are well together are well each
pub all_well : (ends : List End) → all_ends ends ≡ Ok tt → All IsWell ends
all_well ends e = (folded_well ends (Ok tt) e).1

-- what is said of mapped items is said of each
pub All-unmapped : {A B : Type 0} (f : A → B) (P : B → Type 0) (xs : List A) → All P (map f xs) → All (λ x. P (f x)) xs
All-unmapped f P [] all = All-nil (λ x. P (f x))
All-unmapped f P (x ∷ xs) all = All-cons (λ x. P (f x)) x xs (All-head P (f x) (map f xs) all) (All-unmapped f P xs (All-tail P (f x) (map f xs) all))

pub feed_well : (fault : Option CutFault) → IsWell (feed_end fault) → fault ≡ None
feed_well None e = refl
feed_well (Some fault) e = absurd (cc e)

pub session_well : (fault : Option SessionFault) → IsWell (session_end fault) → fault ≡ None
session_well None e = refl
session_well (Some fault) e = absurd (cc e)

pub starved_well : (starved : Bool) → IsWell (starved_end starved) → starved ≡ false
starved_well true e = absurd (cc e)
starved_well false e = refl

pub written_well : (answer : Result (Unit {0}) IoFault) → IsWell (write_end answer) → answer ≡ Ok tt
written_well (Ok x) e = refl
written_well (Err io.Failed) e = absurd (cc e)
written_well (Err io.NoMemory) e = absurd (cc e)
