-- Sources that are given back one after another.
use Rattle.std.proofs.Common.{◌≡◌, ℕ, zero, suc, ◌+◌, ◌==◌, not, List, [], ◌∷◌, ◌++◌, Option, refl, sym, ◌∙◌, subst, arith, All, cond, lit<}
use Rattle.std.proofs.lemmas.List.Sums.{sum_by-append}
use Rattle.std.proofs.lemmas.List.Elements.{All-get_or}
use Rattle.run_files.proofs.Lists.{All-front, All-back}
use Rattle.outer_io.proofs.CountLaws.{RoseBy-zero, RoseBy-add}
use Rattle.outer_io.specs.Faults.{Rose, RoseBy}
use Rattle.outer_io.specs.Files.{Files, HasFile}
use Rattle.run_files.specs.GivingBack.{faulty, TakesSources}
use Rattle.run_files.proofs.Stages.{KeepsOthers-then}
use Rattle.run_files.specs.Leaving.{LeavesPlace}
use Rattle.run_files.specs.Outside.{PlaceSeen}
use Rattle.run_files.specs.declared.stop.Stop.{Stop}

faulty-push : (counts : List ℕ) (n : ℕ) → faulty (counts ++ n ∷ []) ≡ faulty counts + faulty (n ∷ [])
faulty-push counts n = sum_by-append (λ n. cond (not (n == 0)) 1 0) counts (n ∷ [])

-- the count rose once more for one that met faults
rose_on : (counts : List ℕ) (n a b c : ℕ) → RoseBy (faulty counts) a b → (Rose 0 n → Rose b c) → (n ≡ 0 → c ≡ b) → RoseBy (faulty (counts ++ n ∷ [])) a c
rose_on counts zero a b c so_far rose quiet = grind (arith, faulty-push counts 0)
rose_on counts (suc n) a b c so_far rose quiet = grind (arith, faulty-push counts (suc n), RoseBy-add (faulty counts) 1 a b c so_far (rose (omega arith, omega arith)))

module _ {P : Type 0} (p : PlaceSeen P) where
  pub takes_none : (a : P) → TakesSources p a a []
  takes_none a = record { rose = RoseBy-zero _; quiet = λ _. refl; files = refl; opened = refl; created = refl; write_faults = refl }

  -- one source more was given back
  pub takes_more : (a b c : P) (counts : List ℕ) (n : ℕ) → TakesSources p a b counts → (Rose 0 n → Rose (p.read_faults b) (p.read_faults c)) → (n ≡ 0 → p.read_faults c ≡ p.read_faults b)
      → p.files c ≡ p.files b → p.opened c ≡ p.opened b → (p.write_faults c ≡ p.write_faults b) × (p.created c ≡ p.created b) → TakesSources p a c (counts ++ n ∷ [])
  takes_more a b c counts n so_far rose quiet files opened writing = record {
    rose = rose_on counts n _ _ _ so_far.rose rose quiet;
    quiet = λ none. quiet (All-get_or (λ m. m ≡ 0) (n ∷ []) 0 0 (lit< tt) (All-back (λ m. m ≡ 0) counts (n ∷ []) none)) ∙ so_far.quiet (All-front (λ m. m ≡ 0) counts (n ∷ []) none);
    files = files ∙ so_far.files;
    opened = opened ∙ so_far.opened;
    created = writing.1 ∙ so_far.created;
    write_faults = writing.0 ∙ so_far.write_faults;
  }

  -- a stage that ends the run and gives back sources that met no faults leaves what it left
  unfoldable pub leaves_given_back : (a b c : P) (inputs outputs : List (List ℕ)) (stop : Option Stop) (counts : List ℕ) → LeavesPlace p a b inputs outputs stop → TakesSources p b c counts → All (λ n. n ≡ 0) counts → LeavesPlace p a c inputs outputs stop
  leaves_given_back a b c inputs outputs stop counts stage back none = record {
    opens = stage.opens;
    unopened = stage.unopened;
    inputs_are = stage.inputs_are;
    opened = back.opened ∙ stage.opened;
    opens_all = stage.opens_all;
    makes = stage.makes;
    unmade = stage.unmade;
    outputs_are = stage.outputs_are;
    created = back.created ∙ stage.created;
    makes_all = stage.makes_all;
    opens_first = stage.opens_first;
    read_first = stage.read_first;
    emptied = λ quiet told.
        subst (λ (files : Option Files). All (λ n. HasFile files n []) stage.makes) (sym back.files)
        (stage.emptied (λ other. subst (λ n. ¬ Rose (p.write_faults a) n) back.write_faults (quiet other)) told);
    read = λ e. subst (λ n. Rose (p.read_faults a) n) (sym (back.quiet none)) (stage.read e);
    read_quiet = λ e. back.quiet none ∙ stage.read_quiet e;
    unwritten = λ e. back.write_faults ∙ stage.unwritten e;
    write_quiet = λ e f. back.write_faults ∙ stage.write_quiet e f;
    untouched = λ e. back.files ∙ stage.untouched e;
    others = KeepsOthers-then _ _ _ _ stage.others back.files;
  }
