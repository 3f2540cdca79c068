-- A file that was created, written and given back, and one that was not created.
use Rattle.std.proofs.Common.{◌≡◌, ◌≢◌, ℕ, List, [], ◌∷◌, ◌++◌, Option, Some, None, Result, Ok, Err, IsSomeAnd, OnOk, inl, inr, refl, sym, ◌∙◌, ap, subst, lit<}
use Rattle.std.proofs.lemmas.List.{append-nil}
use Rattle.std.specs.FinMap.{get}
use Rattle.outer_io.proofs.ToldLaws.{Told-both, Told-each}
use Rattle.outer_io.specs.Asking.{CountsPart}
use Rattle.outer_io.specs.Bytes.{Gains}
use Rattle.outer_io.specs.Faults.{HasCause, Rose}
use Rattle.outer_io.specs.Files.{Files, ChangesOnly, HasFile}
use Rattle.outer_io.specs.Told.{Told}
use Rattle.outer_io.specs.declared.fault.IoFault.{IoFault}
use Rattle.outer_io.specs.declared.fault.IoFault.TheVariants as fault
use Rattle.run_files.proofs.Lists.{not_grown}
use Rattle.run_files.proofs.Stages.{all_made, front_nil, KeepsOthers-itself, KeepsOthers-more}
use Rattle.run_files.specs.Leaving.{KeepsOthers}
use Rattle.run_files.specs.Outside.{PlaceSeen, SinkSeen}
use Rattle.run_files.specs.Scripted.{IsOutput, OpensScripts}
use Rattle.run_files.specs.Stops.{joined_ends, write_end}
use Rattle.run_files.specs.declared.stop.Stop.{Stop}
use Rattle.run_files.specs.declared.stop.Stop.TheVariants as stop
use Rattle.save_run.proofs.Lists.{one_front}
use Rattle.save_run.specs.Writing.{MayWrite, WritesFile}

abbrev Answer : Type 0
Answer = Result (Unit {0}) IoFault

-- what is told holds where it is some value
some_of : {A : Type 0} (o : Option A) (P Q : A → Type 0) → IsSomeAnd o P → Told o Q → IsSomeAnd o Q
some_of None P Q some told = absurd some
some_of (Some x) P Q some told = told

-- the others of a file are kept where it alone changed afterwards
kept_on : (before now after : Option Files) (name : List ℕ) → KeepsOthers before now (name ∷ []) → ChangesOnly now after name → KeepsOthers before after (name ∷ [])
kept_on None now after name one two = tt
kept_on (Some files) None after name one two = absurd one
kept_on (Some files) (Some now) None name one two = absurd two
kept_on (Some files) (Some now) (Some last) name one two =
    λ other apart. two other (λ (e : other ≡ name). apart (0, lit< tt, sym e)) ∙ one other apart

module _ {P : Type 0} (p : PlaceSeen P) where
  -- nothing was done
  pub writes_nothing : (a : P) (name : List ℕ) → MayWrite p a a name
  writes_nothing a name = record { created = inl refl; untouched = λ e. refl; others = KeepsOthers-itself (p.files a) (name ∷ []); opened = refl; read_faults = refl }

  -- creating the file ended the run
  may_create : (a b : P) (name : List ℕ) (k : Stop) → OpensScripts p a b [] (name ∷ []) (Some k) → k ≢ stop.ReadFault → MayWrite p a b name
  may_create a b name k opens other =
      let l = opens.leaves in
      let nothing : l.opens ≡ [] = front_nil l.opens l.unopened l.inputs_are in
      record {
        created = elim (one_front name l.makes l.unmade l.outputs_are) [
          | inl none ↦ inl (l.created ∙ ap (λ m. p.created a ++ m) none ∙ append-nil _)
          | inr one ↦ inr (l.created ∙ ap (λ m. p.created a ++ m) one)
        ];
        untouched = λ same. elim (one_front name l.makes l.unmade l.outputs_are) [
          | inl none ↦ l.untouched none
          | inr one ↦ absurd (not_grown (p.created a) (p.created b) name (l.created ∙ ap (λ m. p.created a ++ m) one) same)
        ];
        others = subst (λ (ns : List (List ℕ)). KeepsOthers (p.files a) (p.files b) ns) (sym l.outputs_are) (KeepsOthers-more (p.files a) (p.files b) (p.files b) l.makes l.unmade l.others (KeepsOthers-itself (p.files b) l.unmade));
        opened = l.opened ∙ ap (λ o. p.opened a ++ o) nothing ∙ append-nil _;
        read_faults = l.read_quiet (λ e. other (cc));
      }

  pub not_created : (a b : P) (name bytes : List ℕ) (k : Stop) → OpensScripts p a b [] (name ∷ []) (Some k) → k ≢ stop.ReadFault → WritesFile p a b name bytes (Err k)
  not_created a b name bytes stop.NoMemory opens other = may_create a b name stop.NoMemory opens other
  not_created a b name bytes stop.PlanRefused opens other = absurd (opens.ends.0 refl)
  not_created a b name bytes stop.ReadFault opens other = absurd (other refl)
  not_created a b name bytes stop.WriteFault opens other = (may_create a b name stop.WriteFault opens other, opens.write refl)
  not_created a b name bytes stop.FeedRefused opens other = absurd (opens.ends.1 refl)

  -- the file was created, one put was made, and its sink was given back
  module _ {O : Type 0} (s : SinkSeen O) (a b c : P) (name bytes : List ℕ) (sink sink' : O) (opens : OpensScripts p a b [] (name ∷ []) None) (output : IsOutput s (p.files a) name sink) where
    -- what the put did
    pub record PutsOnce (put : Answer) : Type 0 where
      pub gains : OnOk put (Gains (s.held sink) (s.held sink') bytes)
      pub cause : HasCause (s.faults sink) (s.faults sink') put fault.Failed
      pub kept_name : s.name sink' ≡ s.name sink

    -- and what giving the sink back did
    pub record GivesBack (kept : Answer) : Type 0 where
      pub holds : OnOk kept (Told (s.held sink') (HasFile (p.files c) (s.name sink')))
      pub others : ChangesOnly (p.files b) (p.files c) (s.name sink')
      pub counts : CountsPart (p.write_faults b) (p.write_faults c) (s.faults sink') kept
      pub created : p.created c ≡ p.created b
      pub reading : (p.read_faults c ≡ p.read_faults b) × (p.opened c ≡ p.opened b)

    module _ (put kept : Answer) (puts : PutsOnce put) (gives : GivesBack kept) where
      made : p.created c ≡ p.created a ++ name ∷ []
      made = gives.created ∙ opens.leaves.created ∙ ap (λ m. p.created a ++ m) (sym (all_made p a b [] (name ∷ []) opens.leaves))

      named : s.name sink' ≡ name
      named = puts.kept_name ∙ output.name_is

      others : KeepsOthers (p.files a) (p.files c) (name ∷ [])
      others = kept_on (p.files a) (p.files b) (p.files c) name
          (subst (λ (ns : List (List ℕ)). KeepsOthers (p.files a) (p.files b) ns) (sym (all_made p a b [] (name ∷ []) opens.leaves)) opens.leaves.others)
          (subst (λ (n : List ℕ). ChangesOnly (p.files b) (p.files c) n) named gives.others)

      same_writes : p.write_faults b ≡ p.write_faults a
      same_writes = opens.leaves.write_quiet (λ e. cc) (λ e. cc)

      keeps : MayWrite p a c name
      keeps = record {
        created = inr made;
        untouched = λ same. absurd (not_grown (p.created a) (p.created c) name made same);
        others = others;
        opened = gives.reading.1 ∙ opens.leaves.opened ∙ ap (λ o. p.opened a ++ o) (front_nil opens.leaves.opens opens.leaves.unopened opens.leaves.inputs_are) ∙ append-nil _;
        read_faults = gives.reading.0 ∙ opens.leaves.read_quiet (λ e. cc);
      }

      -- a count that rose while it was given back rose from the start
      rose : Rose (p.write_faults b) (p.write_faults c) → Rose (p.write_faults a) (p.write_faults c)
      rose r = subst (λ (n : ℕ). Rose n (p.write_faults c)) same_writes r

      put_failed : put ≡ Err fault.Failed → Rose (p.write_faults a) (p.write_faults c)
      put_failed is = rose (gives.counts.rose (subst (λ (n : ℕ). Rose n (s.faults sink')) output.fresh (puts.cause.rose is)))

      -- the sink met no fault where the put went well
      clean : (x : Unit {0}) → put ≡ Ok x → s.faults sink' ≡ 0
      clean x is = puts.cause.quiet (λ e. cc) ∙ output.fresh

      keeping_failed : (x : Unit {0}) → put ≡ Ok x → kept ≡ Err fault.Failed → Rose (p.write_faults a) (p.write_faults c)
      keeping_failed x is failed = rose ((gives.counts.cause (clean x is)).rose failed)

      quiet : (x y : Unit {0}) → put ≡ Ok x → kept ≡ Ok y → p.write_faults c ≡ p.write_faults a
      quiet x y is well = (gives.counts.cause (clean x is)).quiet (λ e. cc) ∙ same_writes

    -- it has the bytes
    landed : (x y : Unit {0}) → PutsOnce (Ok x) → GivesBack (Ok y) → KeepsOthers (p.files a) (p.files c) (name ∷ []) → Told (p.files a) (λ files. IsSomeAnd (p.files c) (λ now. get now name ≡ Some bytes))
    landed x y puts gives others =
        Told-each (p.files a) _ _
        (λ files both.
        let holds : s.held sink' ≡ Some bytes = subst (λ (h : Option (List ℕ)). Gains h (s.held sink') bytes) both.0 puts.gains in
        let has : HasFile (p.files c) (s.name sink') bytes = subst (λ (h : Option (List ℕ)). Told h (HasFile (p.files c) (s.name sink'))) holds gives.holds in
        some_of (p.files c) _ (λ now. get now name ≡ Some bytes) both.1 (subst (λ (n : List ℕ). HasFile (p.files c) n bytes) (puts.kept_name ∙ output.name_is) has))
        (Told-both (p.files a) (λ files. s.held sink ≡ Some []) _ output.holds_nothing others)

    pub written : (put kept : Answer) → PutsOnce put → GivesBack kept → WritesFile p a c name bytes (joined_ends (write_end put) (write_end kept))
    written (Ok x) (Ok y) puts gives = record {
      keeps = keeps (Ok x) (Ok y) puts gives;
      created = made (Ok x) (Ok y) puts gives;
      holds = landed x y puts gives (others (Ok x) (Ok y) puts gives);
      write_faults = quiet (Ok x) (Ok y) puts gives x y refl refl;
    }
    written (Ok x) (Err fault.Failed) puts gives = (keeps (Ok x) (Err fault.Failed) puts gives, keeping_failed (Ok x) (Err fault.Failed) puts gives x refl refl)
    written (Ok x) (Err fault.NoMemory) puts gives = keeps (Ok x) (Err fault.NoMemory) puts gives
    written (Err fault.Failed) (Ok y) puts gives = (keeps (Err fault.Failed) (Ok y) puts gives, put_failed (Err fault.Failed) (Ok y) puts gives refl)
    written (Err fault.Failed) (Err fault.Failed) puts gives = (keeps (Err fault.Failed) (Err fault.Failed) puts gives, put_failed (Err fault.Failed) (Err fault.Failed) puts gives refl)
    written (Err fault.Failed) (Err fault.NoMemory) puts gives = keeps (Err fault.Failed) (Err fault.NoMemory) puts gives
    written (Err fault.NoMemory) (Ok y) puts gives = keeps (Err fault.NoMemory) (Ok y) puts gives
    written (Err fault.NoMemory) (Err fault.Failed) puts gives = keeps (Err fault.NoMemory) (Err fault.Failed) puts gives
    written (Err fault.NoMemory) (Err fault.NoMemory) puts gives = keeps (Err fault.NoMemory) (Err fault.NoMemory) puts gives
