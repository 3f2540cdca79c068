-- Asks that are created and replies that are opened, one after another.
use Rattle.std.proofs.Common.{All, arith, Err, List, None, Ok, Option, Result, Some, [], ap, drop, get_or, inl, length, map, refl, subst, sym, take, ℕ, ◌+◌, ◌<◌, ◌++◌, ◌∷◌, ◌≡◌, ◌≢◌, ◌∙◌}
use Rattle.std.proofs.Math.Seq.{take-append_seam}
use Rattle.std.proofs.lemmas.Bool.{false≢true}
use Rattle.std.proofs.lemmas.List.{append-nil, map-append, take-append-drop, take-map, take_more}
use Rattle.std.proofs.lemmas.List.Elements.{All-cons, All-nil}
use Rattle.std.specs.List.{AllZip}
use Rattle.std.specs.Prelude.{IfOk, IsSome}
use Rattle.std.specs.Result.{result_err}
use Rattle.outer_io.specs.Asking.{Notes}
use Rattle.outer_io.specs.Faults.{HasCause, Rose}
use Rattle.outer_io.specs.Files.{Files, file_or_empty}
use Rattle.outer_io.specs.Told.{Told}
use Rattle.outer_io.specs.declared.fault.IoFault.{IoFault}
use Rattle.outer_io.specs.declared.fault.IoFault.TheVariants as fault
use Rattle.recount.proofs.AuditTexts.{fails_one}
use Rattle.run_files.proofs.Apart.{failed_fault, lacked_fault, lacked_not_read, none_not_some, ok_not_err, read_not_plan, read_not_refused, read_not_write}
use Rattle.run_files.proofs.EmptyFiles.{told_still}
use Rattle.run_files.proofs.Lists.{AllZip-more}
use Rattle.run_files.proofs.SourceReturns.{leaves_given_back}
use Rattle.run_files.proofs.Stages.{KeepsOthers-itself, fails_on, leaves_and_creates, leaves_as_before, leaves_ended, leaves_more, leaves_not, leaves_one, leaves_reading, leaves_then, leaves_unmade, made_after, made_on, nothing_made, same_created, same_files}
use Rattle.run_files.specs.GivingBack.{TakesSinks, TakesSources}
use Rattle.run_files.specs.Leaving.{LeavesPlace}
use Rattle.run_files.specs.Outside.{PlaceSeen, SinkSeen, file_of}
use Rattle.run_files.specs.Scripted.{IsOutput, OpensScripts}
use Rattle.run_files.specs.Stops.{read_end}
use Rattle.run_files.specs.declared.stop.Stop.{Stop}
use Rattle.run_files.specs.declared.stop.Stop.TheVariants.{NoMemory, PlanRefused, ReadFault, WriteFault, FeedRefused}
use Rattle.live_sums.specs.Opening.{NoneRead}
use Rattle.live_sums.specs.declared.replies.Replies.{Replies}

-- the names of the runs up to a place and of the one there
pub names_next : {A : Type 0} (f : A → List ℕ) (xs : List A) (i : ℕ) (d : A) → i < length xs → take (i + 1) (map f xs) ≡ take i (map f xs) ++ f (get_or xs i d) ∷ []
names_next f xs i d lt = take-map f (i + 1) xs ∙ ap (map f) (take_more xs i d lt) ∙ map-append f (take i xs) (get_or xs i d ∷ []) ∙ ap (λ front. front ++ f (get_or xs i d) ∷ []) (sym (take-map f i xs))

-- the bytes of a file that is told
pub told_file : (files : Option Files) (name : List ℕ) (left : Option (List ℕ)) → Told files (λ fs. left ≡ Some (file_or_empty fs name)) → Told (file_of files name) (λ bytes. left ≡ Some bytes)
told_file None name left told = tt
told_file (Some files) name left told = told

-- what holds of what was read holds where it is answered as a stage answers it
pub ok_read : {T : Type 0} (r : Result T IoFault) (s : Result T Stop) (Q R : T → Type 0) → s ≡ read_end r → ((x : T) → Q x → R x) → IfOk r Q → IfOk s R
ok_read {T = T} r s Q R is step h = subst (λ (k : Result T Stop). IfOk k R) (sym is) (here r h)
  where
    here : (r : Result T IoFault) → IfOk r Q → IfOk (read_end r) R
    here (Ok x) h = step x h
    here (Err fault.Failed) h = tt
    here (Err fault.NoMemory) h = tt

-- what holds of the front of a list of that length, where it is this one
pub holds_in_front : {X : Type 0} (Holds : List X → Type 0) (xs ys : List X) (n : ℕ) → n ≡ length xs → Holds (take n (xs ++ ys)) → Holds xs
holds_in_front Holds xs ys n len = subst Holds (ap (λ k. take k (xs ++ ys)) len ∙ take-append_seam xs ys)

module _ {P : Type 0} (p : PlaceSeen P) where
  -- a stage that reads one name alone, and ends so
  opens_by : (a b : P) (name : List ℕ) (stop : Option Stop) (leaves : LeavesPlace p a b (name ∷ []) [] stop) → (stop ≡ Some ReadFault → p.opened b ≡ p.opened a ++ name ∷ []) → (stop ≡ Some WriteFault → ⊥) → (stop ≢ Some PlanRefused) × (stop ≢ Some FeedRefused) → OpensScripts p a b (name ∷ []) [] stop
  opens_by a b name stop leaves opened write ends = record {
    leaves = leaves;
    first = λ e. fails_one p a b name stop leaves (opened e);
    made = inl (nothing_made p a b (name ∷ []) stop leaves);
    write = λ e. absurd (write e);
    ends = ends;
  }

  -- what asking for one leaves
  pub opens_asked : {T : Type 0} (a b : P) (name : List ℕ) (r : Result T IoFault) → Notes (p.opened a) (p.opened b) name r → HasCause (p.read_faults a) (p.read_faults b) r fault.Failed → p.files b ≡ p.files a → (p.write_faults b ≡ p.write_faults a) × (p.created b ≡ p.created a) → OpensScripts p a b (name ∷ []) [] (result_err (read_end r))
  opens_asked a b name (Ok x) notes cause files writing =
      opens_by a b name None (leaves_one p a b name None (notes.noted (ok_not_err _ _)) writing.1 writing.0 files (λ e. absurd (none_not_some _ e)) (λ _. cause.quiet (ok_not_err _ _)))
      (λ e. absurd (none_not_some _ e)) (none_not_some _) (none_not_some _, none_not_some _)
  opens_asked a b name (Err fault.Failed) notes cause files writing =
      let noted = notes.noted (failed_fault fault.Failed refl) in
      opens_by a b name (Some ReadFault) (leaves_one p a b name (Some ReadFault) noted writing.1 writing.0 files (λ _. cause.rose refl) (λ other. absurd (other refl)))
      (λ _. noted) read_not_write (read_not_plan, read_not_refused)
  opens_asked a b name (Err fault.NoMemory) notes cause files writing =
      opens_by a b name (Some NoMemory) (leaves_not p a b name (notes.unnoted refl) writing.1 writing.0 files (cause.quiet (lacked_fault fault.NoMemory refl)))
      (λ e. absurd (lacked_not_read e)) (λ e. cc) (λ e. cc, λ e. cc)

  -- none was opened or created
  pub opens_none : (a b : P) → b ≡ a → OpensScripts p a b [] [] None
  unfolding leaves_reading
  opens_none a b same = subst (λ (c : P). OpensScripts p a c [] [] None) (sym same) (record {
    leaves = leaves_reading p a a [] [] [] None refl (sym (append-nil _)) (λ _. refl) refl refl refl (λ e. absurd (none_not_some _ e)) (λ _. refl);
    first = λ e. absurd (none_not_some _ e);
    made = inl refl;
    write = λ e. absurd (none_not_some _ e);
    ends = (none_not_some _, none_not_some _);
  })

  -- none of these was opened or created, for want of memory
  pub opens_lacked : (a b : P) (inputs outputs : List (List ℕ)) → b ≡ a → OpensScripts p a b inputs outputs (Some NoMemory)
  unfolding leaves_as_before
  opens_lacked a b inputs outputs same = subst (λ (c : P). OpensScripts p a c inputs outputs (Some NoMemory)) (sym same) (record {
    leaves = leaves_as_before p a inputs outputs NoMemory (λ e. cc);
    first = λ e. absurd (lacked_not_read e);
    made = inl refl;
    write = λ e. cc;
    ends = (λ e. cc, λ e. cc);
  })

  -- no sink was given back
  pub gives_nothing : {O : Type 0} (s : SinkSeen O) (a : P) → TakesSinks p s a a [] (Ok tt)
  gives_nothing s a = record {
    opened = refl;
    created = refl;
    answers = [];
    one_each = refl;
    read_faults = refl;
    result_is = refl;
    quiet = λ _. refl;
    none = λ _. refl;
    lands = λ _ _. tt;
    failed = λ h. absurd (omega (arith, h.1));
    grows = omega arith;
    others = KeepsOthers-itself _ [];
    met = λ sink h. absurd (omega (arith, h.1));
    write = λ e. absurd (ok_not_err tt WriteFault e);
    still_empty = λ _ _ _ has. has;
    only = (ok_not_err tt PlanRefused, ok_not_err tt ReadFault, ok_not_err tt FeedRefused);
  }

  -- the next of the names is opened, or refused
  opens_next : (a b c : P) (first : List (List ℕ)) (name : List ℕ) (stop : Option Stop) → OpensScripts p a b first [] None → OpensScripts p b c (name ∷ []) [] stop → OpensScripts p a c (first ++ name ∷ []) [] stop
  unfolding leaves_then
  opens_next a b c first name stop one two = record {
    leaves = leaves_then p a b c first (name ∷ []) [] stop one.leaves two.leaves;
    first = λ e. fails_on p a b one.leaves.opens two.leaves.opens one.leaves.opened (one.leaves.read_quiet (none_not_some _)) (two.first e);
    made = made_after p a b two.leaves.makes (same_created p a b first None one.leaves) (one.leaves.unwritten (nothing_made p a b first None one.leaves)) two.made;
    write = λ e. subst (λ n. Rose n (p.write_faults c)) (one.leaves.unwritten (nothing_made p a b first None one.leaves)) (two.write e);
    ends = two.ends;
  }

  pub opens_more : (a b c : P) (names : List (List ℕ)) (i : ℕ) (name : List ℕ) → take (i + 1) names ≡ take i names ++ name ∷ [] → OpensScripts p a b (take i names) [] None → OpensScripts p b c (name ∷ []) [] None → OpensScripts p a c (take (i + 1) names) [] None
  opens_more a b c names i name more one two = subst (λ (ns : List (List ℕ)). OpensScripts p a c ns [] None) (sym more) (opens_next a b c (take i names) name None one two)

  -- a refused one leaves the further ones unopened
  pub opens_ended : {T : Type 0} (a b c : P) (names : List (List ℕ)) (i : ℕ) (name : List ℕ) (r : Result T Stop) (stop : Stop) → take (i + 1) names ≡ take i names ++ name ∷ [] → r ≡ Err stop → OpensScripts p a b (take i names) [] None → OpensScripts p b c (name ∷ []) [] (Some stop) → OpensScripts p a c names [] (result_err r)
  unfolding leaves_more
  opens_ended a b c names i name r stop more is one two =
      let all = opens_next a b c (take i names) name (Some stop) one two in
      subst (λ (k : Option Stop). OpensScripts p a c names [] k) (sym (ap result_err is))
      (subst (λ (ns : List (List ℕ)). OpensScripts p a c ns [] (Some stop)) (ap (λ (front : List (List ℕ)). front ++ drop (i + 1) names) (sym more) ∙ take-append-drop (i + 1) names)
      (record { leaves = leaves_more p a c (take i names ++ name ∷ []) (drop (i + 1) names) [] stop all.leaves; first = all.first; made = inl refl; write = all.write; ends = all.ends }))

  -- the next of the names is created, or refused
  creates_next : (a b c : P) (first : List (List ℕ)) (name : List ℕ) (stop : Option Stop) → stop ≢ Some ReadFault → OpensScripts p a b [] first None → OpensScripts p b c [] (name ∷ []) stop → OpensScripts p a c [] (first ++ name ∷ []) stop
  unfolding leaves_and_creates
  creates_next a b c first name stop no_read one two =
      let same = one.leaves.write_quiet (none_not_some _) (none_not_some _) in
      record {
        leaves = leaves_and_creates p a b c [] first (name ∷ []) stop no_read one.leaves two.leaves;
        first = λ e. absurd (no_read e);
        made = made_on p a b one.leaves.makes two.leaves.makes one.leaves.created same one.made two.made;
        write = λ e. subst (λ n. Rose n (p.write_faults c)) same (two.write e);
        ends = two.ends;
      }

  pub creates_more : (a b c : P) (names : List (List ℕ)) (i : ℕ) (name : List ℕ) → take (i + 1) names ≡ take i names ++ name ∷ [] → OpensScripts p a b [] (take i names) None → OpensScripts p b c [] (name ∷ []) None → OpensScripts p a c [] (take (i + 1) names) None
  creates_more a b c names i name more one two = subst (λ (ns : List (List ℕ)). OpensScripts p a c [] ns None) (sym more) (creates_next a b c (take i names) name None (none_not_some _) one two)

  -- a refused one leaves the further ones uncreated
  pub creates_ended : {T : Type 0} (a b c : P) (names : List (List ℕ)) (i : ℕ) (name : List ℕ) (r : Result T Stop) (stop : Stop) → take (i + 1) names ≡ take i names ++ name ∷ [] → r ≡ Err stop → Some stop ≢ Some ReadFault → OpensScripts p a b [] (take i names) None → OpensScripts p b c [] (name ∷ []) (Some stop) → OpensScripts p a c [] names (result_err r)
  unfolding leaves_unmade
  creates_ended a b c names i name r stop more is no_read one two =
      let all = creates_next a b c (take i names) name (Some stop) no_read one two in
      subst (λ (k : Option Stop). OpensScripts p a c [] names k) (sym (ap result_err is))
      (subst (λ (ns : List (List ℕ)). OpensScripts p a c [] ns (Some stop)) (ap (λ (front : List (List ℕ)). front ++ drop (i + 1) names) (sym more) ∙ take-append-drop (i + 1) names)
      (record { leaves = leaves_unmade p a c [] (take i names ++ name ∷ []) (drop (i + 1) names) stop all.leaves; first = all.first; made = all.made; write = all.write; ends = all.ends }))

  -- what was opened is given back
  pub opens_given_back : (a b c : P) (inputs : List (List ℕ)) (stop : Option Stop) (counts : List ℕ) → OpensScripts p a b inputs [] stop → TakesSources p b c counts → All (λ n. n ≡ 0) counts → OpensScripts p a c inputs [] stop
  unfolding leaves_given_back
  opens_given_back a b c inputs stop counts one back none = record {
    leaves = leaves_given_back p a b c inputs [] stop counts one.leaves back none;
    write = λ e. subst (λ n. Rose (p.write_faults a) n) (sym back.write_faults) (one.write e);
    ends = one.ends;
    made = one.made;
    first = one.first;
  }

  -- also one that was opened, where memory is wanted then
  pub opens_lacking : (a b c : P) (name : List ℕ) (count : ℕ) → OpensScripts p a b (name ∷ []) [] None → TakesSources p b c (count ∷ []) → count ≡ 0 → OpensScripts p a c (name ∷ []) [] (Some NoMemory)
  opens_lacking a b c name count one back none =
      opens_given_back a b c (name ∷ []) (Some NoMemory) (count ∷ [])
      (opens_by a b name (Some NoMemory) (leaves_ended p a b (name ∷ []) (Some NoMemory) lacked_not_read one.leaves) (λ e. absurd (lacked_not_read e)) (λ e. cc) (λ e. cc, λ e. cc))
      back (All-cons (λ n. n ≡ 0) count [] none (All-nil (λ n. n ≡ 0)))

  -- one ask more
  pub outputs_more : {O : Type 0} (s : SinkSeen O) (a b : P) (names : List (List ℕ)) (sinks : List O) (i : ℕ) (name : List ℕ) (sink : O) → take (i + 1) names ≡ take i names ++ name ∷ [] → OpensScripts p a b [] (take i names) None → AllZip (IsOutput s (p.files a)) (take i names) sinks → IsOutput s (p.files b) name sink → AllZip (IsOutput s (p.files a)) (take (i + 1) names) (sinks ++ sink ∷ [])
  outputs_more s a b names sinks i name sink more so_far all made =
      let told = told_still (p.files a) (p.files b) so_far.leaves.makes so_far.leaves.others in
      subst (λ (ns : List (List ℕ)). AllZip (IsOutput s (p.files a)) ns (sinks ++ sink ∷ [])) (sym more)
      (AllZip-more (IsOutput s (p.files a)) (take i names) sinks name sink all (record { name_is = made.name_is; fresh = made.fresh; holds_nothing = before (p.files a) (p.files b) told made.holds_nothing }))
    where
      before : (was now : Option Files) → (IsSome was → IsSome now) → Told now (λ _. s.held sink ≡ Some []) → Told was (λ _. s.held sink ≡ Some [])
      before None now told holds = tt
      before (Some files) None told holds = absurd (false≢true (told refl))
      before (Some files) (Some after) told holds = holds

  -- the replies of one run more
  pub unread_more : {S : Type 0} (left : S → Option (List ℕ)) (faults : S → ℕ) (a b : P) (names : List (List ℕ)) (runs : List (Replies S)) (i : ℕ) (name : List ℕ) (run : Replies S) → take (i + 1) names ≡ take i names ++ name ∷ [] → OpensScripts p a b (take i names) [] None
      → AllZip (NoneRead left faults (p.files a)) (take i names) runs → NoneRead left faults (p.files b) name run → AllZip (NoneRead left faults (p.files a)) (take (i + 1) names) (runs ++ run ∷ [])
  unread_more left faults a b names runs i name run more so_far all one =
      subst (λ (ns : List (List ℕ)). AllZip (NoneRead left faults (p.files a)) ns (runs ++ run ∷ [])) (sym more)
      (AllZip-more (NoneRead left faults (p.files a)) (take i names) runs name run all (subst (λ (fs : Option Files). NoneRead left faults fs name run) (same_files p a b (take i names) None so_far.leaves) one))

-- replies that were just opened
pub none_read : {S : Type 0} (left : S → Option (List ℕ)) (faults : S → ℕ) (files : Option Files) (name : List ℕ) (source : S) (run : Replies S) → Told (file_of files name) (λ bytes. left source ≡ Some bytes) → faults source ≡ 0 → run.source ≡ source
    → run.held.items ≡ [] → (run.marks.seen ≡ 0) × (run.marks.told ≡ 0) → NoneRead left faults files name run
none_read left faults files name source run has fresh is held marks = record {
  left_is = subst (λ s. Told (file_of files name) (λ bytes. left s ≡ Some bytes)) (sym is) has;
  fresh = ap faults is ∙ fresh;
  none_held = held;
  no_marks = marks;
}
