-- What the files of outputs hold once their sinks were given back, where no writing failed.
use Rattle.std.proofs.Common.{◌≡◌, ◌≢◌, ◌⊎◌, inl, inr, ◌≤◌, ℕ, List, [], ◌∷◌, All, map, Option, Some, Result, Ok, Err, IsSomeAnd, refl, sym, subst, ◌∙◌, arith}
use Rattle.std.specs.Prelude.{AllPairs, Contains}
use Rattle.std.specs.FinMap.{get}
use Rattle.std.specs.List.{AllZip}
use Rattle.std.proofs.lemmas.List.Elements.{All-cons, All-contains_itself, All-head, All-nil, All-tail, All-weaker}
use Rattle.outer_io.proofs.ToldLaws.{Told-each, Told-some}
use Rattle.outer_io.specs.Faults.{Rose}
use Rattle.outer_io.specs.Files.{Files, SameBut}
use Rattle.outer_io.specs.Told.{Told}
use Rattle.outer_io.specs.declared.fault.IoFault.{IoFault}
use Rattle.outer_io.specs.declared.fault.IoFault.TheVariants as io
use Rattle.plan_run.proofs.WellEnds.{All-unmapped, End}
use Rattle.plan_run.proofs.OutputFiles.{some_is}
use Rattle.plan_run.proofs.EndRanks.{all_ranked, lacking, rank_end}
use Rattle.run_files.specs.GivingBack.{Lands, TakesSinks}
use Rattle.run_files.specs.Outside.{PlaceSeen, SinkSeen}
use Rattle.run_files.specs.Stops.{write_end}
use Rattle.run_files.specs.declared.stop.Stop.{Stop}
use Rattle.run_files.specs.declared.stop.Stop.TheVariants.{NoMemory}

abbrev Answer : Type 0
Answer = Result (Unit {0}) IoFault

abbrev failed : Answer
failed = Err io.Failed

-- the file of the sink's name holds what the sink held, or nothing where want of memory kept it from being given back
abbrev pub LandsAs : {O : Type 0} → SinkSeen O → Result (Unit {0}) Stop → Files → O → Type 0
LandsAs s end after sink = Told (s.held sink) (λ bytes. get after (s.name sink) ≡ Some bytes) ⊎ ((end ≡ Err NoMemory) × (get after (s.name sink) ≡ Some []))

module _ {P O : Type 0} (p : PlaceSeen P) (s : SinkSeen O) (end : Result (Unit {0}) Stop) (journal : List ℕ) (now f g : Files) where
  abbrev WasEmpty : O → Type 0
  WasEmpty sink = get now (s.name sink) ≡ Some []

  lands_as : (b : Option Files) (sink : O) (answer : Answer) → b ≡ Some f → SameBut f g journal → s.name sink ≢ journal → answer ≢ failed → rank_end end ≤ rank_end (write_end answer) → WasEmpty sink → Lands (Some now) b (s.name sink) (s.held sink) answer → LandsAs s end g sink
  lands_as b sink (Ok x) told same other fine first empty lands =
      inl (Told-each (s.held sink) _ _ (λ bytes has. same (s.name sink) other ∙ Told-some b f (λ now. get now (s.name sink) ≡ Some bytes) told has) lands)
  lands_as b sink (Err io.Failed) told same other fine first empty lands = absurd (fine refl)
  lands_as b sink (Err io.NoMemory) told same other fine first empty lands =
      let kept : get f (s.name sink) ≡ get now (s.name sink) = subst (λ o. IsSomeAnd o (λ after. get after (s.name sink) ≡ get now (s.name sink))) told lands in
      inr (lacking end first, same (s.name sink) other ∙ kept ∙ empty)

  abbrev Fine : Answer → Type 0
  Fine answer = (answer ≢ failed) × (rank_end end ≤ rank_end (write_end answer))

  abbrev Placed : O → Type 0
  Placed sink = (s.name sink ≢ journal) × WasEmpty sink

  all_land : (b : Option Files) (sinks : List O) (answers : List Answer) → b ≡ Some f → SameBut f g journal → All Placed sinks → All Fine answers → AllZip (λ sink answer. Lands (Some now) b (s.name sink) (s.held sink) answer) sinks answers → All (LandsAs s end g) sinks
  all_land b [] answers told same placed fine lands = All-nil (LandsAs s end g)
  all_land b (k ∷ sinks) [] told same placed fine lands = absurd lands
  all_land b (k ∷ sinks) (a ∷ answers) told same placed fine lands =
      let here = All-head Placed k sinks placed in
      let good = All-head Fine a answers fine in
      All-cons (LandsAs s end g) k sinks (lands_as b k a told same here.0 good.0 good.1 here.1 lands.0)
      (all_land b sinks answers told same (All-tail Placed k sinks placed) (All-tail Fine a answers fine) lands.1)

  pub all_landed_as : (a b : P) (sinks : List O) (given : End) → p.files a ≡ Some now → p.files b ≡ Some f → SameBut f g journal → All (λ sink. s.name sink ≢ journal) sinks → All WasEmpty sinks → AllPairs (λ n m. n ≢ m) (map s.name sinks)
      → TakesSinks p s a b sinks given → ¬ Rose (p.write_faults a) (p.write_faults b) → rank_end end ≤ rank_end given → All (LandsAs s end g) sinks
  all_landed_as a b sinks given told told' same others empty apart back quiet first =
      let ranked = All-unmapped write_end (λ (e : End). rank_end given ≤ rank_end e) back.answers (subst (λ (e : End). All (λ (x : End). rank_end e ≤ rank_end x) (map write_end back.answers)) (sym back.result_is) (all_ranked (map write_end back.answers))) in
      let later : All (λ (x : Answer). rank_end end ≤ rank_end (write_end x)) back.answers = All-weaker (λ (x : Answer). rank_end given ≤ rank_end (write_end x)) (λ (x : Answer). rank_end end ≤ rank_end (write_end x)) (λ x less. omega (arith, first, less)) back.answers ranked in
      let fine : All (λ (x : Answer). x ≢ failed) back.answers = All-weaker (Contains back.answers) (λ (x : Answer). x ≢ failed) (λ x among is. quiet (back.failed (subst (Contains back.answers) is among))) back.answers (All-contains_itself back.answers) in
      all_land (p.files b) sinks back.answers told' same (λ k d within. (others k d within, empty k d within)) (λ k d within. (fine k d within, later k d within))
      (subst (λ o. AllZip (λ sink answer. Lands o (p.files b) (s.name sink) (s.held sink) answer) sinks back.answers) told (back.lands (some_is (p.files a) now told) apart))
