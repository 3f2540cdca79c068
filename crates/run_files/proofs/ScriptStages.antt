-- Scripts opened and outputs created, both after each other, and given back.
use Rattle.std.proofs.Common.{All, Some, ◌≡◌, ◌≢◌, ℕ, List, [], ◌∷◌, ◌++◌, map, Option, None, Result, Err, inl, inr, refl, sym, ◌∙◌, ap, append_assoc}
use Rattle.std.specs.List.{AllZip}
use Rattle.std.specs.Prelude.{IsSome}
use Rattle.std.proofs.lemmas.Bool.{false≢true}
use Rattle.std.proofs.lemmas.List.Elements.{All-cons, All-nil}
use Rattle.outer_io.specs.Files.{Files}
use Rattle.run_files.proofs.ScriptReads.{output_later}
use Rattle.run_files.proofs.Stages.{all_made}
use Rattle.run_files.proofs.SinkReturns.{ends_with}
use Rattle.run_files.specs.Outside.{PlaceSeen, SinkSeen}
use Rattle.run_files.specs.Scripted.{IsOutput, OpensScripts}
use Rattle.run_files.specs.Stops.{joined_ends}
use Rattle.run_files.specs.declared.stop.Stop.{Stop}
use Rattle.run_files.specs.declared.stop.Stop.TheVariants.{ReadFault}

-- the sinks have the names that they were created with
pub names_of : {O : Type 0} (s : SinkSeen O) (files : Option Files) (names : List (List ℕ)) (sinks : List O) → AllZip (IsOutput s files) names sinks → map s.name sinks ≡ names
names_of s files [] [] all = refl
names_of s files [] (k ∷ sinks) all = absurd all
names_of s files (n ∷ names) [] all = absurd all
names_of s files (n ∷ names) (k ∷ sinks) all = ap (λ m. m ∷ map s.name sinks) all.0.name_is ∙ ap (λ ms. n ∷ ms) (names_of s files names sinks all.1)

-- a run that was to end, not by a read fault, ends by none after sinks were given back
pub ended_not_read : (one other : Stop) (gave : Result (Unit {0}) Stop) → one ≢ ReadFault → gave ≢ Err ReadFault → joined_ends (Err one) gave ≡ Err other → other ≢ ReadFault
ended_not_read one other gave no_read none is = λ e. elim (ends_with one other gave is) [ inl same ↦ no_read (same ∙ e) | inr given ↦ none (given ∙ ap (λ k. Err k) e) ]

module _ {P : Type 0} (p : PlaceSeen P) where
  -- what a stage created that goes on
  pub created_all : (a b : P) (names : List (List ℕ)) → OpensScripts p a b [] names None → p.created b ≡ p.created a ++ names
  created_all a b names one =
      one.leaves.created ∙ ap (λ m. p.created a ++ m) (sym (all_made p a b [] names one.leaves))

  -- and what the one after it created
  pub created_both : {O : Type 0} (s : SinkSeen O) (files files' : Option Files) (a b c : P) (first second last : List (List ℕ)) (xs ys : List O) (stop : Option Stop) → OpensScripts p a b [] (first ++ second) None → OpensScripts p b c [] last stop
      → AllZip (IsOutput s files) first xs → AllZip (IsOutput s files') second ys → (rest : List (List ℕ)) × (p.created c ≡ p.created a ++ (map s.name xs ++ (map s.name ys ++ rest)))
  created_both s files files' a b c first second last xs ys stop one two all_xs all_ys =
      let rest = two.leaves.makes in
      let xs_are = names_of s files first xs all_xs in
      let ys_are = names_of s files' second ys all_ys in (
        rest,
        two.leaves.created ∙ (ap (λ m. m ++ rest) (created_all a b (first ++ second) one) ∙ (append_assoc (p.created a) (first ++ second) rest
            ∙ ap (λ m. p.created a ++ m) (append_assoc first second rest ∙ (ap (λ m. m ++ (second ++ rest)) (sym xs_are) ∙ ap (λ m. map s.name xs ++ (m ++ rest)) (sym ys_are))))),
      )

-- sinks that were made over files that are told where these are hold nothing where these are told
pub outputs_later : {O : Type 0} (s : SinkSeen O) (before now : Option Files) (names : List (List ℕ)) (sinks : List O) → (IsSome before → IsSome now) → AllZip (IsOutput s now) names sinks → AllZip (IsOutput s before) names sinks
outputs_later s before now [] [] told all = tt
outputs_later s before now [] (k ∷ sinks) told all = absurd all
outputs_later s before now (n ∷ names) [] told all = absurd all
outputs_later s before now (n ∷ names) (k ∷ sinks) told all = (output_later s before now n k told all.0, outputs_later s before now names sinks told all.1)

-- and so do those that were made over files that are told
pub outputs_hold_nothing : {O : Type 0} (s : SinkSeen O) (files : Option Files) (names : List (List ℕ)) (sinks : List O) → AllZip (IsOutput s files) names sinks → IsSome files → All (λ sink. s.held sink ≡ Some []) sinks
outputs_hold_nothing s None names sinks all told = absurd (false≢true told)
outputs_hold_nothing s (Some files) [] [] all told = All-nil (λ sink. s.held sink ≡ Some [])
outputs_hold_nothing s (Some files) [] (k ∷ sinks) all told = absurd all
outputs_hold_nothing s (Some files) (n ∷ names) [] all told = absurd all
outputs_hold_nothing s (Some files) (n ∷ names) (k ∷ sinks) all told =
    All-cons (λ sink. s.held sink ≡ Some []) k sinks all.0.holds_nothing (outputs_hold_nothing s (Some files) names sinks all.1 told)
