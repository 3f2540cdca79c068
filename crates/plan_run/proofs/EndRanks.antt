-- The end that several ends have together comes no later in the order of causes than each of them.
use Rattle.std.proofs.Common.{◌≡◌, ◌≢◌, inl, inr, ◌≤◌, ℕ, Bool, true, false, nat_lt, cond, List, [], ◌∷◌, All, Option, Some, Ok, Err, refl, subst, arith}
use Rattle.std.specs.Prelude.{fold}
use Rattle.std.proofs.lemmas.Bool.{ltb-false, ltb-true}
use Rattle.std.proofs.lemmas.List.Elements.{All-cons, All-nil, All-weaker}
use Rattle.outer_io.specs.declared.cutter.CutFault.{CutFault}
use Rattle.outer_io.specs.declared.cutter.CutFault.TheVariants as cut
use Rattle.run_files.specs.Stops.{joined_ends, rank_of}
use Rattle.run_files.specs.declared.stop.Stop.{Stop}
use Rattle.run_files.specs.declared.stop.Stop.TheVariants.{NoMemory, PlanRefused, ReadFault, WriteFault, FeedRefused}
use Rattle.session_core.specs.declared.fault.SessionFault.{SessionFault}
use Rattle.session_core.specs.declared.fault.SessionFault.TheVariants as fault
use Rattle.plan_run.proofs.WellEnds.{End}
use Rattle.plan_run.specs.Interrupted.{IsReadOrLacking}
use Rattle.plan_run.specs.ThreadEnds.{all_ends, feed_end, session_end}

-- the place of an end in that order, where no cause comes last
abbrev pub rank_end : End → ℕ
rank_end (Ok x) = 5
rank_end (Err stop) = rank_of stop

rank_most : (e : End) → rank_end e ≤ 5
rank_most (Ok x) = omega arith
rank_most (Err NoMemory) = omega arith
rank_most (Err PlanRefused) = omega arith
rank_most (Err ReadFault) = omega arith
rank_most (Err WriteFault) = omega arith
rank_most (Err FeedRefused) = omega arith

abbrev BothAfter : Stop → Stop → Stop → Type 0
BothAfter one other e = (rank_of e ≤ rank_of one) × (rank_of e ≤ rank_of other)

chosen_ranked : (one other : Stop) (b : Bool) → nat_lt (rank_of other) (rank_of one) ≡ b → BothAfter one other (cond b other one)
chosen_ranked one other true is = let less = ltb-true (rank_of other) (rank_of one) is in (omega (arith, less), omega arith)
chosen_ranked one other false is = let less = ltb-false (rank_of other) (rank_of one) is in (omega arith, omega (arith, less))

joined_ranked : (a b : End) → (rank_end (joined_ends a b) ≤ rank_end a) × (rank_end (joined_ends a b) ≤ rank_end b)
joined_ranked (Ok x) b = (rank_most b, omega arith)
joined_ranked (Err one) (Ok x) = (omega arith, rank_most (Err one))
joined_ranked (Err one) (Err other) = chosen_ranked one other (nat_lt (rank_of other) (rank_of one)) refl

-- an end that comes no later than those of the list
abbrev pub ComesFirst : ℕ → List End → Type 0
ComesFirst n ends = All (λ (end : End). n ≤ rank_end end) ends

folded_ranked : (ends : List End) (acc : End) → (rank_end (fold joined_ends acc ends) ≤ rank_end acc) × ComesFirst (rank_end (fold joined_ends acc ends)) ends
folded_ranked [] acc = (omega arith, All-nil (λ (end : End). rank_end acc ≤ rank_end end))
folded_ranked (x ∷ xs) acc =
    let later = folded_ranked xs (joined_ends acc x) in
    let both = joined_ranked acc x in
    let n = rank_end (fold joined_ends (joined_ends acc x) xs) in (
      omega (arith, later.0, both.0),
      All-cons (λ (end : End). n ≤ rank_end end) x xs (omega (arith, later.0, both.1)) later.1,
    )

-- the end of several
pub all_ranked : (ends : List End) → ComesFirst (rank_end (all_ends ends)) ends
all_ranked ends = (folded_ranked ends (Ok tt)).1

-- an end that comes no later than several together comes no later than each
pub within : (n : ℕ) (ends : List End) → n ≤ rank_end (all_ends ends) → ComesFirst n ends
within n ends first = All-weaker (λ (e : End). rank_end (all_ends ends) ≤ rank_end e) (λ (e : End). n ≤ rank_end e) (λ e less. omega (arith, first, less)) ends (all_ranked ends)

-- an end before all others is by want of memory
pub lacking : (e : End) → rank_end e ≤ 0 → e ≡ Err NoMemory
lacking (Ok x) first = absurd (omega (arith, first))
lacking (Err NoMemory) first = refl
lacking (Err PlanRefused) first = absurd (omega (arith, first))
lacking (Err ReadFault) first = absurd (omega (arith, first))
lacking (Err WriteFault) first = absurd (omega (arith, first))
lacking (Err FeedRefused) first = absurd (omega (arith, first))

-- one that is no later than a read fault, and by no refused plan, is by that fault or by want of memory
pub reading : (e : End) → e ≢ Err PlanRefused → rank_end e ≤ 2 → IsReadOrLacking e
reading (Ok x) other first = absurd (omega (arith, first))
reading (Err NoMemory) other first = inr refl
reading (Err PlanRefused) other first = absurd (other refl)
reading (Err ReadFault) other first = inl refl
reading (Err WriteFault) other first = absurd (omega (arith, first))
reading (Err FeedRefused) other first = absurd (omega (arith, first))

-- ---- by the fault of a feed, and of a session

module _ (e : End) (planned : e ≢ Err PlanRefused) where
  pub feed_read : (f : Option CutFault) → rank_end e ≤ rank_end (feed_end f) → f ≡ Some cut.Read → IsReadOrLacking e
  feed_read f first is = reading e planned (subst (λ f. rank_end e ≤ rank_end (feed_end f)) is first)

  pub feed_lacking : (f : Option CutFault) → rank_end e ≤ rank_end (feed_end f) → f ≡ Some cut.NoMemory → e ≡ Err NoMemory
  feed_lacking f first is = lacking e (subst (λ f. rank_end e ≤ rank_end (feed_end f)) is first)

  pub session_read : (f : Option SessionFault) → rank_end e ≤ rank_end (session_end f) → f ≡ Some fault.Read → IsReadOrLacking e
  session_read f first is = reading e planned (subst (λ f. rank_end e ≤ rank_end (session_end f)) is first)

  pub session_lacking : (f : Option SessionFault) → rank_end e ≤ rank_end (session_end f) → f ≡ Some fault.NoMemory → e ≡ Err NoMemory
  session_lacking f first is = lacking e (subst (λ f. rank_end e ≤ rank_end (session_end f)) is first)
