-- What one stage of a run leaves, and two after each other.
use Rattle.std.proofs.Common.{All, ◌≡◌, ◌≢◌, ℕ, List, [], ◌∷◌, ◌++◌, ◌⊎◌, length, take, lit<, Option, Some, None, Result, Ok, Err, inl, inr, refl, sym, ◌∙◌, ap, subst, append_assoc}
use Rattle.std.proofs.Math.Seq.{take-append_seam}
use Rattle.std.proofs.lemmas.List.{append-nil}
use Rattle.std.proofs.lemmas.List.Elements.{All-nil, Contains-append_left, Contains-append_right}
use Rattle.std.specs.Prelude.{IsSome}
use Rattle.std.specs.Result.{result_err}
use Rattle.outer_io.specs.Faults.{Rose}
use Rattle.outer_io.specs.Files.{ChangesOnly, Files, HasFile}
use Rattle.run_files.proofs.EmptyFiles.{emptied_after, told_still}
use Rattle.run_files.specs.Leaving.{FailsAtLast, FailsAtLastMade, KeepsOthers, LeavesNames, LeavesPlace}
use Rattle.run_files.specs.Outside.{PlaceSeen}
use Rattle.run_files.specs.declared.stop.Stop.{Stop}
use Rattle.run_files.specs.declared.stop.Stop.TheVariants.{NoMemory, ReadFault}

pub KeepsOthers-itself : (files : Option Files) (names : List (List ℕ)) → KeepsOthers files files names
KeepsOthers-itself None names = tt
KeepsOthers-itself (Some files) names = λ other apart. refl

-- files that are as before keep all others
pub KeepsOthers-same : (before after : Option Files) (names : List (List ℕ)) → after ≡ before → KeepsOthers before after names
KeepsOthers-same before after names same = subst (λ files. KeepsOthers before files names) (sym same) (KeepsOthers-itself before names)

-- and so do two that keep others after each other
pub KeepsOthers-after : (before now after : Option Files) (names : List (List ℕ)) → now ≡ before → KeepsOthers now after names → KeepsOthers before after names
KeepsOthers-after before now after names same kept = subst (λ files. KeepsOthers files after names) same kept

-- and so do two of which the second keeps all
pub KeepsOthers-then : (before now after : Option Files) (names : List (List ℕ)) → KeepsOthers before now names → after ≡ now → KeepsOthers before after names
KeepsOthers-then before now after names kept same = subst (λ files. KeepsOthers before files names) (sym same) kept

-- files of which one name alone changed keep the others of it
pub KeepsOthers-one : (before after : Option Files) (name : List ℕ) → ChangesOnly before after name → KeepsOthers before after (name ∷ [])
KeepsOthers-one None after name h = tt
KeepsOthers-one (Some files) None name h = absurd h
KeepsOthers-one (Some files) (Some now) name h = λ other apart. h other (λ e. apart (0, lit< tt, sym e))

-- an answer that is not this fault
pub not_err : {T : Type 0} (r : Result T Stop) (e : Stop) → r ≢ Err e → result_err r ≢ Some e
not_err (Ok x) e other = λ is. cc
not_err (Err f) e other = λ is. other (cc)

pub front_nil : {A : Type 0} (xs ys : List A) → [] ≡ xs ++ ys → xs ≡ []
front_nil [] ys e = refl
front_nil (x ∷ xs) ys e = cc

pub back_nil : {A : Type 0} (xs ys : List A) → xs ++ ys ≡ [] → ys ≡ []
back_nil [] ys e = e
back_nil (x ∷ xs) ys e = cc

-- two that keep the others of their names keep the others of all
pub KeepsOthers-more : (before now after : Option Files) (names more : List (List ℕ)) → KeepsOthers before now names → KeepsOthers now after more → KeepsOthers before after (names ++ more)
KeepsOthers-more None now after names more one two = tt
KeepsOthers-more (Some files) None after names more one two = absurd one
KeepsOthers-more (Some files) (Some now) None names more one two = absurd two
KeepsOthers-more (Some files) (Some now) (Some last) names more one two =
    λ other apart. two other (λ c. apart (Contains-append_right names more other c)) ∙ one other (λ c. apart (Contains-append_left names more other c))

module _ {P : Type 0} (p : PlaceSeen P) where
  -- a stage that has nothing to create creates nothing
  pub nothing_made : (a b : P) (inputs : List (List ℕ)) (stop : Option Stop) (stage : LeavesPlace p a b inputs [] stop) → stage.makes ≡ []
  nothing_made a b inputs stop stage = front_nil stage.makes stage.unmade stage.outputs_are

  -- so it leaves the files, and what was created
  pub same_files : (a b : P) (inputs : List (List ℕ)) (stop : Option Stop) → LeavesPlace p a b inputs [] stop → p.files b ≡ p.files a
  same_files a b inputs stop stage = stage.untouched (nothing_made a b inputs stop stage)

  pub same_created : (a b : P) (inputs : List (List ℕ)) (stop : Option Stop) → LeavesPlace p a b inputs [] stop → p.created b ≡ p.created a
  same_created a b inputs stop stage = stage.created ∙ (ap (λ m. p.created a ++ m) (nothing_made a b inputs stop stage) ∙ append-nil _)

  -- what it opened is a front of the names
  pub opened_front : (a b : P) (inputs : List (List ℕ)) (stop : Option Stop) → LeavesPlace p a b inputs [] stop → (k : ℕ) × (p.opened b ≡ p.opened a ++ take k inputs)
  opened_front a b inputs stop stage =
      (length stage.opens, stage.opened ∙ ap (λ ns. p.opened a ++ ns) (sym (ap (take (length stage.opens)) stage.inputs_are ∙ take-append_seam stage.opens stage.unopened)))

  -- a stage after which the run goes on opened all its inputs
  pub all_opened : (a b : P) (inputs outputs : List (List ℕ)) (stage : LeavesPlace p a b inputs outputs None) → inputs ≡ stage.opens
  all_opened a b inputs outputs stage = stage.inputs_are ∙ (ap (λ u. stage.opens ++ u) (stage.opens_all refl) ∙ append-nil _)

  -- one after which the run goes on created all its outputs
  pub all_made : (a b : P) (inputs outputs : List (List ℕ)) (stage : LeavesPlace p a b inputs outputs None) → outputs ≡ stage.makes
  all_made a b inputs outputs stage = stage.outputs_are ∙ (ap (λ u. stage.makes ++ u) (stage.makes_all refl) ∙ append-nil _)

  -- and these are empty
  pub all_empty : (a b : P) (inputs outputs : List (List ℕ)) → LeavesPlace p a b inputs outputs None → IsSome (p.files a) → All (λ name. HasFile (p.files b) name []) outputs
  all_empty a b inputs outputs stage told = subst (λ names. All (λ name. HasFile (p.files b) name []) names) (sym (all_made a b inputs outputs stage)) (stage.emptied (λ other. absurd (other refl)) told)

  -- a read fails first at a name that is opened
  pub fails_at : (a : P) (name : List ℕ) → FailsAtLast p a (name ∷ [])
  fails_at a name = record { earlier = []; last = name; opens_are = refl; reached = a; opened = sym (append-nil _); quiet = refl }

  -- also where others were opened before, and no read failed
  pub fails_on : (a b : P) (first opens : List (List ℕ)) → p.opened b ≡ p.opened a ++ first → p.read_faults b ≡ p.read_faults a → FailsAtLast p b opens → FailsAtLast p a (first ++ opens)
  fails_on a b first opens opened quiet one = record {
    earlier = first ++ one.earlier;
    last = one.last;
    opens_are = ap (λ o. first ++ o) one.opens_are ∙ sym (append_assoc first one.earlier (one.last ∷ []));
    reached = one.reached;
    opened = one.opened ∙ (ap (λ o. o ++ one.earlier) opened ∙ append_assoc (p.opened a) first one.earlier);
    quiet = one.quiet ∙ quiet;
  }

  -- a write fails first at a name that is created
  pub fails_made : (a : P) (name : List ℕ) → FailsAtLastMade p a (name ∷ [])
  fails_made a name = record { earlier = []; last = name; makes_are = refl; reached = a; created = sym (append-nil _); quiet = refl }

  -- also where others were created before, and no write failed
  pub made_on : (a b : P) (first makes : List (List ℕ)) → p.created b ≡ p.created a ++ first → p.write_faults b ≡ p.write_faults a → (first ≡ []) ⊎ FailsAtLastMade p a first → (makes ≡ []) ⊎ FailsAtLastMade p b makes
      → (first ++ makes ≡ []) ⊎ FailsAtLastMade p a (first ++ makes)
  made_on a b first makes created quiet before (inl none) = subst (λ ns. (ns ≡ []) ⊎ FailsAtLastMade p a ns) (sym (ap (λ m. first ++ m) none ∙ append-nil first)) before
  made_on a b first makes created quiet before (inr one) = inr (record {
    earlier = first ++ one.earlier;
    last = one.last;
    makes_are = ap (λ m. first ++ m) one.makes_are ∙ sym (append_assoc first one.earlier (one.last ∷ []));
    reached = one.reached;
    created = one.created ∙ (ap (λ m. m ++ one.earlier) created ∙ append_assoc (p.created a) first one.earlier);
    quiet = one.quiet ∙ quiet;
  })

  -- and where nothing was
  pub made_after : (a b : P) (makes : List (List ℕ)) → p.created b ≡ p.created a → p.write_faults b ≡ p.write_faults a → (makes ≡ []) ⊎ FailsAtLastMade p b makes → (makes ≡ []) ⊎ FailsAtLastMade p a makes
  made_after a b makes created quiet = made_on a b [] makes (created ∙ sym (append-nil _)) quiet (inl refl)

  -- the names that a stage leaves
  unfoldable pub names_of : (a b : P) (inputs outputs : List (List ℕ)) (stop : Option Stop) → LeavesPlace p a b inputs outputs stop → LeavesNames p a b inputs outputs
  names_of a b inputs outputs stop stage = record {
    opens = stage.opens;
    unopened = stage.unopened;
    inputs_are = stage.inputs_are;
    opened = stage.opened;
    makes = stage.makes;
    unmade = stage.unmade;
    outputs_are = stage.outputs_are;
    created = stage.created;
    opens_first = stage.opens_first;
    others = stage.others;
  }

  -- a stage that reads alone, and opened these of its names
  unfoldable pub leaves_reading : (a b : P) (inputs opens unopened : List (List ℕ)) (stop : Option Stop) → inputs ≡ opens ++ unopened → p.opened b ≡ p.opened a ++ opens → (stop ≡ None → unopened ≡ [])
      → p.created b ≡ p.created a → p.write_faults b ≡ p.write_faults a → p.files b ≡ p.files a
      → (stop ≡ Some ReadFault → Rose (p.read_faults a) (p.read_faults b)) → (stop ≢ Some ReadFault → p.read_faults b ≡ p.read_faults a) → LeavesPlace p a b inputs [] stop
  leaves_reading a b inputs opens unopened stop are opened all created write files read quiet = record {
    opens = opens;
    unopened = unopened;
    inputs_are = are;
    opened = opened;
    opens_all = all;
    makes = [];
    unmade = [];
    outputs_are = refl;
    created = created ∙ sym (append-nil _);
    makes_all = λ _. refl;
    opens_first = inl refl;
    read_first = λ _. refl;
    emptied = λ _ _. All-nil (λ n. HasFile (p.files b) n []);
    read = read;
    read_quiet = quiet;
    unwritten = λ _. write;
    write_quiet = λ _ _. write;
    untouched = λ _. files;
    others = KeepsOthers-same _ _ [] files;
  }

  -- a stage that opened its one name
  pub leaves_one : (a b : P) (name : List ℕ) (stop : Option Stop) → p.opened b ≡ p.opened a ++ name ∷ [] → p.created b ≡ p.created a → p.write_faults b ≡ p.write_faults a → p.files b ≡ p.files a
      → (stop ≡ Some ReadFault → Rose (p.read_faults a) (p.read_faults b)) → (stop ≢ Some ReadFault → p.read_faults b ≡ p.read_faults a) → LeavesPlace p a b (name ∷ []) [] stop
  leaves_one a b name stop opened = leaves_reading a b (name ∷ []) (name ∷ []) [] stop refl opened (λ _. refl)

  -- a stage that did not open its one name, for want of memory
  pub leaves_not : (a b : P) (name : List ℕ) → p.opened b ≡ p.opened a → p.created b ≡ p.created a → p.write_faults b ≡ p.write_faults a → p.files b ≡ p.files a → p.read_faults b ≡ p.read_faults a
      → LeavesPlace p a b (name ∷ []) [] (Some NoMemory)
  leaves_not a b name opened created write files quiet = leaves_reading a b (name ∷ []) [] (name ∷ []) (Some NoMemory) refl (opened ∙ sym (append-nil _)) (λ e. cc) created write files (λ e. cc) (λ _. quiet)

  -- a stage that leaves the same where something else ends the run with it
  pub leaves_ended : (a b : P) (inputs : List (List ℕ)) (stop : Option Stop) → stop ≢ Some ReadFault → LeavesPlace p a b inputs [] None → LeavesPlace p a b inputs [] stop
  leaves_ended a b inputs stop other one =
      let nothing = front_nil one.makes one.unmade one.outputs_are in
      leaves_reading a b inputs one.opens one.unopened stop one.inputs_are one.opened (λ _. one.opens_all refl) (one.created ∙ (ap (λ m. p.created a ++ m) nothing ∙ append-nil _))
      (one.unwritten nothing) (one.untouched nothing) (λ e. absurd (other e)) (λ _. one.read_quiet (λ e. cc))

  -- a stage that opens nothing and creates nothing, where the place is as before
  unfoldable pub leaves_as_before : (a : P) (inputs outputs : List (List ℕ)) (stop : Stop) → stop ≢ ReadFault → LeavesPlace p a a inputs outputs (Some stop)
  leaves_as_before a inputs outputs stop other = record {
    opens = [];
    unopened = inputs;
    inputs_are = refl;
    opened = sym (append-nil _);
    opens_all = λ e. cc;
    makes = [];
    unmade = outputs;
    outputs_are = refl;
    created = sym (append-nil _);
    makes_all = λ e. cc;
    opens_first = inl refl;
    read_first = λ _. refl;
    emptied = λ _ _. All-nil (λ n. HasFile (p.files a) n []);
    read = λ e. absurd (other (cc));
    read_quiet = λ _. refl;
    unwritten = λ _. refl;
    write_quiet = λ _ _. refl;
    untouched = λ _. refl;
    others = KeepsOthers-same _ _ [] refl;
  }

  -- after a stage that reads alone, and goes on, another leaves what both leave
  unfoldable pub leaves_then : (a b c : P) (first inputs outputs : List (List ℕ)) (stop : Option Stop) → LeavesPlace p a b first [] None → LeavesPlace p b c inputs outputs stop → LeavesPlace p a c (first ++ inputs) outputs stop
  leaves_then a b c first inputs outputs stop one two =
      let nothing = front_nil one.makes one.unmade one.outputs_are in
      let whole = all_opened a b first [] one in
      record {
        opens = one.opens ++ two.opens;
        unopened = two.unopened;
        inputs_are = ap (λ f. f ++ inputs) whole ∙ (ap (λ i. one.opens ++ i) two.inputs_are ∙ sym (append_assoc one.opens two.opens two.unopened));
        opened = two.opened ∙ (ap (λ o. o ++ two.opens) one.opened ∙ append_assoc (p.opened a) one.opens two.opens);
        opens_all = two.opens_all;
        makes = two.makes;
        unmade = two.unmade;
        outputs_are = two.outputs_are;
        created = two.created ∙ ap (λ m. m ++ two.makes) (one.created ∙ (ap (λ m. p.created a ++ m) nothing ∙ append-nil _));
        makes_all = two.makes_all;
        opens_first = two.opens_first;
        read_first = two.read_first;
        emptied = λ quiet told. two.emptied (λ other. subst (λ n. ¬ Rose n (p.write_faults c)) (sym (one.unwritten nothing)) (quiet other)) (subst (λ (files : Option Files). IsSome files) (sym (one.untouched nothing)) told);
        read = λ e. subst (λ n. Rose n (p.read_faults c)) (one.read_quiet (λ e. cc)) (two.read e);
        read_quiet = λ e. two.read_quiet e ∙ one.read_quiet (λ e. cc);
        unwritten = λ e. two.unwritten e ∙ one.unwritten nothing;
        write_quiet = λ e f. two.write_quiet e f ∙ one.unwritten nothing;
        untouched = λ e. two.untouched e ∙ one.untouched nothing;
        others = KeepsOthers-after _ _ _ _ (one.untouched nothing) two.others;
      }

  -- a stage that ends the run has also opened those from the front of more names, and created those of more, where
  -- nothing was created before
  unfoldable pub leaves_more : (a b : P) (inputs more outputs : List (List ℕ)) (stop : Stop) → LeavesPlace p a b inputs [] (Some stop) → LeavesPlace p a b (inputs ++ more) outputs (Some stop)
  leaves_more a b inputs more outputs stop one =
      let nothing = front_nil one.makes one.unmade one.outputs_are in
      record {
        opens = one.opens;
        unopened = one.unopened ++ more;
        inputs_are = ap (λ i. i ++ more) one.inputs_are ∙ append_assoc one.opens one.unopened more;
        opened = one.opened;
        opens_all = λ e. cc;
        makes = [];
        unmade = outputs;
        outputs_are = refl;
        created = one.created ∙ ap (λ m. p.created a ++ m) nothing;
        makes_all = λ e. cc;
        opens_first = inl refl;
        read_first = λ _. refl;
        emptied = λ _ _. All-nil (λ n. HasFile (p.files b) n []);
        read = one.read;
        read_quiet = one.read_quiet;
        unwritten = λ _. one.unwritten nothing;
        write_quiet = one.write_quiet;
        untouched = λ _. one.untouched nothing;
        others = KeepsOthers-same _ _ [] (one.untouched nothing);
      }

  -- after stages that opened all, and go on, another that only creates leaves what they leave together
  unfoldable pub leaves_and_creates : (a b c : P) (inputs first outputs : List (List ℕ)) (stop : Option Stop) → stop ≢ Some ReadFault → LeavesPlace p a b inputs first None → LeavesPlace p b c [] outputs stop → LeavesPlace p a c inputs (first ++ outputs) stop
  leaves_and_creates a b c inputs first outputs stop no_read one two =
      let none_opened = front_nil two.opens two.unopened two.inputs_are in
      let whole = all_made a b inputs first one in
      let same : p.write_faults b ≡ p.write_faults a = one.write_quiet (λ e. cc) (λ e. cc) in
      record {
        opens = one.opens;
        unopened = one.unopened;
        inputs_are = one.inputs_are;
        opened = two.opened ∙ (ap (λ o. p.opened b ++ o) none_opened ∙ (append-nil _ ∙ one.opened));
        opens_all = λ _. one.opens_all refl;
        makes = one.makes ++ two.makes;
        unmade = two.unmade;
        outputs_are = ap (λ f. f ++ outputs) whole ∙ (ap (λ o. one.makes ++ o) two.outputs_are ∙ sym (append_assoc one.makes two.makes two.unmade));
        created = two.created ∙ (ap (λ o. o ++ two.makes) one.created ∙ append_assoc (p.created a) one.makes two.makes);
        makes_all = two.makes_all;
        opens_first = inr (one.opens_all refl);
        read_first = λ e. absurd (no_read e);
        emptied = λ quiet told.
            let then_told = told_still (p.files a) (p.files b) one.makes one.others told in
            emptied_after (p.files b) (p.files c) one.makes two.makes then_told two.others (one.emptied (λ other. absurd (other refl)) told) (two.emptied (λ other. subst (λ n. ¬ Rose n (p.write_faults c)) (sym same) (quiet other)) then_told);
        read = λ e. subst (λ n. Rose n (p.read_faults c)) (one.read_quiet (λ e. cc)) (two.read e);
        read_quiet = λ e. two.read_quiet e ∙ one.read_quiet (λ e. cc);
        unwritten = λ e. two.unwritten (back_nil one.makes two.makes e) ∙ same;
        write_quiet = λ e f. two.write_quiet e f ∙ same;
        untouched = λ e. two.untouched (back_nil one.makes two.makes e) ∙ one.untouched (front_nil one.makes two.makes (sym e));
        others = KeepsOthers-more _ _ _ one.makes two.makes one.others two.others;
      }

  -- a stage that ends the run has created those from the front of more names
  unfoldable pub leaves_unmade : (a b : P) (inputs outputs more : List (List ℕ)) (stop : Stop) → LeavesPlace p a b inputs outputs (Some stop) → LeavesPlace p a b inputs (outputs ++ more) (Some stop)
  leaves_unmade a b inputs outputs more stop one = record {
    opens = one.opens;
    unopened = one.unopened;
    inputs_are = one.inputs_are;
    opened = one.opened;
    opens_all = one.opens_all;
    makes = one.makes;
    unmade = one.unmade ++ more;
    outputs_are = ap (λ o. o ++ more) one.outputs_are ∙ append_assoc one.makes one.unmade more;
    created = one.created;
    makes_all = λ e. cc;
    opens_first = one.opens_first;
    read_first = one.read_first;
    emptied = one.emptied;
    read = one.read;
    read_quiet = one.read_quiet;
    unwritten = one.unwritten;
    write_quiet = one.write_quiet;
    untouched = one.untouched;
    others = one.others;
  }
