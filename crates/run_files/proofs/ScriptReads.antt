-- Scripts that are opened, and outputs that are created, one after another.
use Rattle.std.proofs.Common.{All, Err, List, None, Ok, Option, Result, Some, [], ap, append_assoc, inl, inr, map, refl, subst, sym, ℕ, ◌++◌, ◌∙◌, ◌∷◌, ◌≡◌, ◌≢◌}
use Rattle.std.proofs.lemmas.Bool.{false≢true}
use Rattle.std.proofs.lemmas.List.Elements.{All-cons, All-nil}
use Rattle.std.proofs.lemmas.List.{append-nil, map-append}
use Rattle.outer_io.specs.Told.{Told}
use Rattle.std.specs.List.{AllZip}
use Rattle.std.specs.Prelude.{IsErrAnd, IsSome}
use Rattle.std.specs.Result.{result_err}
use Rattle.outer_io.specs.Cutting.{Cutter}
use Rattle.outer_io.specs.Faults.{Rose}
use Rattle.outer_io.specs.Files.{ChangesOnly, Files, HasFile}
use Rattle.run_files.proofs.EmptyFiles.{told_still}
use Rattle.run_files.proofs.Lists.{AllZip-more}
use Rattle.run_files.proofs.Apart.{lacked_not_read}
use Rattle.run_files.proofs.Stages.{KeepsOthers-one, fails_at, fails_made, fails_on, leaves_and_creates, leaves_as_before, leaves_more, leaves_not, leaves_reading, leaves_then, leaves_unmade, made_after, made_on, nothing_made, same_created}
use Rattle.run_files.proofs.SourceReturns.{leaves_given_back}
use Rattle.run_files.specs.GivingBack.{TakesSources}
use Rattle.run_files.specs.Leaving.{LeavesPlace}
use Rattle.run_files.specs.Outside.{file_of, PlaceSeen, SinkSeen}
use Rattle.run_files.specs.Scripted.{IsOutput, IsScript, OpensScripts}
use Rattle.run_files.specs.declared.stop.Stop.{Stop}
use Rattle.run_files.specs.declared.stop.Stop.TheVariants.{NoMemory, PlanRefused, ReadFault, WriteFault, FeedRefused}

pub lacked_not_write : Some NoMemory ≡ Some WriteFault → ⊥
lacked_not_write e = cc

pub write_not_read : Some WriteFault ≡ Some ReadFault → ⊥
write_not_read e = cc

pub lacked_ends : (Some NoMemory ≡ Some PlanRefused → ⊥) × (Some NoMemory ≡ Some FeedRefused → ⊥)
lacked_ends = (λ e. cc, λ e. cc)

pub read_ends : (Some ReadFault ≡ Some PlanRefused → ⊥) × (Some ReadFault ≡ Some FeedRefused → ⊥)
read_ends = (λ e. cc, λ e. cc)

pub write_ends : (Some WriteFault ≡ Some PlanRefused → ⊥) × (Some WriteFault ≡ Some FeedRefused → ⊥)
write_ends = (λ e. cc, λ e. cc)

pub none_ends : (None ≡ Some PlanRefused → ⊥) × (None ≡ Some FeedRefused → ⊥)
none_ends = (λ e. cc, λ e. cc)

told_before : (before now : Option Files) (A : Type 0) → (IsSome before → IsSome now) → Told now (λ _. A) → Told before (λ _. A)
told_before None now A told h = tt
told_before (Some files) None A told h = absurd (false≢true (told refl))
told_before (Some files) (Some x) A told h = h

module _ {P : Type 0} (p : PlaceSeen P) where
  pub scripts_none : (a : P) → OpensScripts p a a [] [] None
  unfolding leaves_reading
  scripts_none a = record {
    leaves = leaves_reading p a a [] [] [] None refl (sym (append-nil _)) (λ _. refl) refl refl refl (λ e. cc) (λ _. refl);
    first = λ e. cc;
    made = inl refl;
    write = λ e. cc;
    ends = none_ends;
  }

  -- nothing is opened or created, for want of memory
  pub scripts_nothing : (a : P) (inputs outputs : List (List ℕ)) → OpensScripts p a a inputs outputs (Some NoMemory)
  unfolding leaves_as_before
  scripts_nothing a inputs outputs = record { leaves = leaves_as_before p a inputs outputs NoMemory (λ e. cc); first = λ e. absurd (lacked_not_read e); made = inl refl; write = λ e. absurd (lacked_not_write e); ends = lacked_ends }

  -- the scripts that were opened are given back
  pub scripts_given_back : (a b c : P) (inputs outputs : List (List ℕ)) (stop : Option Stop) (counts : List ℕ) → OpensScripts p a b inputs outputs stop → TakesSources p b c counts → All (λ n. n ≡ 0) counts → OpensScripts p a c inputs outputs stop
  unfolding leaves_given_back
  scripts_given_back a b c inputs outputs stop counts one back none = record {
    leaves = leaves_given_back p a b c inputs outputs stop counts one.leaves back none;
    first = one.first;
    made = one.made;
    write = λ e. subst (λ n. Rose (p.write_faults a) n) (sym back.write_faults) (one.write e);
    ends = one.ends;
  }

  -- one script is opened
  pub script_one : (a b : P) (name : List ℕ) (stop : Option Stop) → stop ≢ Some WriteFault → (stop ≢ Some PlanRefused) × (stop ≢ Some FeedRefused) → p.opened b ≡ p.opened a ++ name ∷ [] → p.created b ≡ p.created a → p.write_faults b ≡ p.write_faults a → p.files b ≡ p.files a
      → (stop ≡ Some ReadFault → Rose (p.read_faults a) (p.read_faults b)) → (stop ≢ Some ReadFault → p.read_faults b ≡ p.read_faults a) → OpensScripts p a b (name ∷ []) [] stop
  unfolding leaves_reading
  script_one a b name stop other ends opened created write files read quiet = record {
    leaves = leaves_reading p a b (name ∷ []) (name ∷ []) [] stop refl opened (λ _. refl) created write files read quiet;
    first = λ _. fails_at p a name;
    made = inl refl;
    write = λ e. absurd (other e);
    ends = ends;
  }

  -- or not, for want of memory
  pub script_not : (a b : P) (name : List ℕ) → p.opened b ≡ p.opened a → p.created b ≡ p.created a → p.write_faults b ≡ p.write_faults a → p.files b ≡ p.files a → p.read_faults b ≡ p.read_faults a → OpensScripts p a b (name ∷ []) [] (Some NoMemory)
  script_not a b name opened created write files quiet = record { leaves = leaves_not p a b name opened created write files quiet; first = λ e. absurd (lacked_not_read e); made = inl (nothing_made p a b (name ∷ []) (Some NoMemory) (leaves_not p a b name opened created write files quiet)); write = λ e. absurd (lacked_not_write e); ends = lacked_ends }

  -- one stage that reads alone and another are one
  pub scripts_then : (a b c : P) (first inputs outputs : List (List ℕ)) (stop : Option Stop) → OpensScripts p a b first [] None → OpensScripts p b c inputs outputs stop → OpensScripts p a c (first ++ inputs) outputs stop
  unfolding leaves_then
  scripts_then a b c first inputs outputs stop one two = record {
    leaves = leaves_then p a b c first inputs outputs stop one.leaves two.leaves;
    first = λ e. fails_on p a b one.leaves.opens two.leaves.opens one.leaves.opened (one.leaves.read_quiet (λ e. cc)) (two.first e);
    made = made_after p a b two.leaves.makes (same_created p a b first None one.leaves) (one.leaves.unwritten (nothing_made p a b first None one.leaves)) two.made;
    write = λ e. subst (λ n. Rose n (p.write_faults c)) (one.leaves.unwritten (nothing_made p a b first None one.leaves)) (two.write e);
    ends = two.ends;
  }

  -- and so are one and another that creates alone
  pub scripts_and_creates : (a b c : P) (inputs first outputs : List (List ℕ)) (stop : Option Stop) → stop ≢ Some ReadFault → OpensScripts p a b inputs first None → OpensScripts p b c [] outputs stop → OpensScripts p a c inputs (first ++ outputs) stop
  unfolding leaves_and_creates
  scripts_and_creates a b c inputs first outputs stop no_read one two = record {
    leaves = leaves_and_creates p a b c inputs first outputs stop no_read one.leaves two.leaves;
    first = λ e. absurd (no_read e);
    made = made_on p a b one.leaves.makes two.leaves.makes one.leaves.created (one.leaves.write_quiet (λ e. cc) (λ e. cc)) one.made two.made;
    write = λ e. subst (λ n. Rose n (p.write_faults c)) (one.leaves.write_quiet (λ e. cc) (λ e. cc)) (two.write e);
    ends = two.ends;
  }

  -- the first trouble leaves the further scripts unopened
  pub scripts_more : (a b : P) (inputs more outputs : List (List ℕ)) (stop : Stop) → OpensScripts p a b inputs [] (Some stop) → OpensScripts p a b (inputs ++ more) outputs (Some stop)
  unfolding leaves_more
  scripts_more a b inputs more outputs stop one = record { leaves = leaves_more p a b inputs more outputs stop one.leaves; first = one.first; made = inl refl; write = one.write; ends = one.ends }

  -- and the further outputs not created
  pub scripts_unmade : (a b : P) (inputs outputs more : List (List ℕ)) (stop : Stop) → OpensScripts p a b inputs outputs (Some stop) → OpensScripts p a b inputs (outputs ++ more) (Some stop)
  unfolding leaves_unmade
  scripts_unmade a b inputs outputs more stop one = record { leaves = leaves_unmade p a b inputs outputs more stop one.leaves; first = one.first; made = one.made; write = one.write; ends = one.ends }

  -- the first trouble, where `?` hands it on
  pub scripts_residual : {T : Type 0} (a b : P) (names first more outputs : List (List ℕ)) (r : Result T Stop) (stop : Stop) → names ≡ first ++ more → IsErrAnd r (λ e. e ≡ stop) → OpensScripts p a b first [] (Some stop) → OpensScripts p a b names outputs (result_err r)
  scripts_residual a b names first more outputs (Ok x) stop are bad one = absurd bad
  scripts_residual a b names first more outputs (Err e) stop are is one =
      subst (λ (k : Stop). OpensScripts p a b names outputs (Some k)) (sym is) (subst (λ (ns : List (List ℕ)). OpensScripts p a b ns outputs (Some stop)) (sym are) (scripts_more a b first more outputs stop one))

  pub creates_residual : {T : Type 0} (a b : P) (names first more : List (List ℕ)) (r : Result T Stop) (stop : Stop) → names ≡ first ++ more → IsErrAnd r (λ e. e ≡ stop) → OpensScripts p a b [] first (Some stop) → OpensScripts p a b [] names (result_err r)
  creates_residual a b names first more (Ok x) stop are bad one = absurd bad
  creates_residual a b names first more (Err e) stop are is one =
      subst (λ (k : Stop). OpensScripts p a b [] names (Some k)) (sym is) (subst (λ (ns : List (List ℕ)). OpensScripts p a b [] ns (Some stop)) (sym are) (scripts_unmade a b [] first more stop one))

  -- one output is asked for, and noted
  pub creates_one : (a b : P) (name : List ℕ) (stop : Option Stop) → p.created b ≡ p.created a ++ name ∷ [] → p.opened b ≡ p.opened a → p.read_faults b ≡ p.read_faults a → ChangesOnly (p.files a) (p.files b) name
      → ((stop ≢ None → ¬ Rose (p.write_faults a) (p.write_faults b)) → HasFile (p.files b) name []) → stop ≢ Some ReadFault → (stop ≡ Some WriteFault → Rose (p.write_faults a) (p.write_faults b)) → (stop ≢ Some WriteFault → p.write_faults b ≡ p.write_faults a) → (stop ≢ Some PlanRefused) × (stop ≢ Some FeedRefused)
      → OpensScripts p a b [] (name ∷ []) stop
  creates_one a b name stop created opened read others empty no_read write quiet ends = record {
    leaves = record {
      opens = [];
      unopened = [];
      inputs_are = refl;
      opened = opened ∙ sym (append-nil _);
      opens_all = λ _. refl;
      makes = name ∷ [];
      unmade = [];
      outputs_are = refl;
      created = created;
      makes_all = λ _. refl;
      opens_first = inr refl;
      read_first = λ e. absurd (no_read e);
      emptied = λ quiet _. All-cons (λ n. HasFile (p.files b) n []) name [] (empty quiet) (All-nil (λ n. HasFile (p.files b) n []));
      read = λ e. absurd (no_read e);
      read_quiet = λ _. read;
      unwritten = λ e. cc;
      write_quiet = λ e _. quiet e;
      untouched = λ e. cc;
      others = KeepsOthers-one _ _ name others;
    };
    first = λ e. absurd (no_read e);
    made = inr (fails_made p a name);
    write = write;
    ends = ends;
  }

  -- one output is not created, for want of memory
  pub creates_not : (a b : P) (name : List ℕ) → p.created b ≡ p.created a → p.opened b ≡ p.opened a → p.read_faults b ≡ p.read_faults a → p.files b ≡ p.files a → p.write_faults b ≡ p.write_faults a → OpensScripts p a b [] (name ∷ []) (Some NoMemory)
  unfolding leaves_reading
  creates_not a b name created opened read files write =
      scripts_unmade a b [] [] (name ∷ []) NoMemory
      (record { leaves = leaves_reading p a b [] [] [] (Some NoMemory) refl (opened ∙ sym (append-nil _)) (λ _. refl) created write files (λ e. cc) (λ _. read); first = λ e. absurd (lacked_not_read e); made = inl refl; write = λ e. absurd (lacked_not_write e); ends = lacked_ends })

module _ {S : Type 0} (left : S → Option (List ℕ)) (faults : S → ℕ) (files : Option Files) where
  -- one script more is opened of the same files
  pub scripted_more : (now : Option Files) (names : List (List ℕ)) (scripts : List (Cutter S)) (name : List ℕ) (script : Cutter S) → now ≡ files
      → AllZip (λ n. IsScript left faults (file_of files n)) names scripts → IsScript left faults (file_of now name) script → AllZip (λ n. IsScript left faults (file_of files n)) (names ++ name ∷ []) (scripts ++ script ∷ [])
  scripted_more now names scripts name script same all more =
      AllZip-more (λ n. IsScript left faults (file_of files n)) names scripts name script all (subst (λ (fs : Option Files). IsScript left faults (file_of fs name) script) same more)

module _ {P : Type 0} (p : PlaceSeen P) where
  -- scripts that are opened leave the files as they were
  pub same_files : (a b : P) (names : List (List ℕ)) → OpensScripts p a b names [] None → p.files b ≡ p.files a
  same_files a b names one = one.leaves.untouched (nothing_made p a b names None one.leaves)

  -- files that were told are told after outputs were created
  pub still_told : (a b : P) (names : List (List ℕ)) → OpensScripts p a b [] names None → IsSome (p.files a) → IsSome (p.files b)
  still_told a b names one = told_still (p.files a) (p.files b) one.leaves.makes one.leaves.others

  -- the names of the sinks are those that were created, with one more
  pub created_more : {O : Type 0} (s : SinkSeen O) (a b c : P) (sinks : List O) (sink : O) (name : List ℕ) → p.created b ≡ p.created a ++ map s.name sinks → s.name sink ≡ name → OpensScripts p b c [] (name ∷ []) None
      → p.created c ≡ p.created a ++ map s.name (sinks ++ sink ∷ [])
  created_more s a b c sinks sink name so_far is one =
      let all : name ∷ [] ≡ one.leaves.makes = one.leaves.outputs_are ∙ (ap (λ u. one.leaves.makes ++ u) (one.leaves.makes_all refl) ∙ append-nil _) in
      one.leaves.created ∙ (ap (λ m. p.created b ++ m) (sym all) ∙ (ap (λ o. o ++ name ∷ []) so_far ∙ (append_assoc (p.created a) (map s.name sinks) (name ∷ []) ∙ ap (λ m. p.created a ++ m)
      (ap (λ n. map s.name sinks ++ n ∷ []) (sym is) ∙ sym (map-append s.name sinks (sink ∷ []))))))

  -- and are from the front of those that were created, where the next one is not given
  pub created_part : {O : Type 0} (s : SinkSeen O) (a b c : P) (sinks : List O) (names : List (List ℕ)) (stop : Option Stop) → p.created b ≡ p.created a ++ map s.name sinks → OpensScripts p b c [] names stop
      → (rest : List (List ℕ)) × (p.created c ≡ p.created a ++ (map s.name sinks ++ rest))
  created_part s a b c sinks names stop so_far one = (one.leaves.makes, one.leaves.created ∙ (ap (λ o. o ++ one.leaves.makes) so_far ∙ append_assoc (p.created a) (map s.name sinks) one.leaves.makes))

-- a sink that was made over files that are told where these are holds nothing where these are told
pub output_later : {O : Type 0} (s : SinkSeen O) (before now : Option Files) (name : List ℕ) (sink : O) → (IsSome before → IsSome now) → IsOutput s now name sink → IsOutput s before name sink
output_later s before now name sink told made = record { name_is = made.name_is; fresh = made.fresh; holds_nothing = told_before before now (s.held sink ≡ Some []) told made.holds_nothing }
