-- What the files of outputs hold once their sinks were given back.
use Rattle.std.proofs.Common.{◌≡◌, ◌≢◌, ℕ, suc, List, [], ◌∷◌, ◌++◌, All, map, Option, Some, None, Result, Ok, IsSomeAnd, refl, sym, subst, ◌∙◌, arith}
use Rattle.std.specs.Prelude.{AllPairs, IsSome}
use Rattle.std.specs.FinMap.{get}
use Rattle.std.specs.List.{AllZip}
use Rattle.std.proofs.lemmas.List.Elements.{All-cons, All-head, All-nil, All-tail}
use Rattle.std.proofs.lemmas.List.Kept.{AllPairs-cons}
use Rattle.outer_io.proofs.ToldLaws.{Told-some}
use Rattle.outer_io.specs.Files.{Files, HasFile, SameBut}
use Rattle.outer_io.specs.Told.{Told}
use Rattle.outer_io.specs.declared.fault.IoFault.{IoFault}
use Rattle.plan_run.proofs.WellEnds.{All-unmapped, IsWell, all_well, written_well}
use Rattle.run_files.proofs.Lists.{All-back, All-front}
use Rattle.run_files.specs.GivingBack.{Lands, TakesSinks}
use Rattle.run_files.specs.Outside.{PlaceSeen, SinkSeen}
use Rattle.run_files.specs.Stops.{write_end}

abbrev Answer : Type 0
Answer = Result (Unit {0}) IoFault

-- a claim of a told value and one that goes with it
pub told_pair : {A B : Type 0} (a : Option A) (b : Option B) (x : A) (R : A → B → Type 0) → a ≡ Some x → Told a (λ v. IsSomeAnd b (R v)) → (y : B) × (b ≡ Some y) × R x y
told_pair a None x R is both = absurd (Told-some a x (λ v. ⊥) is both)
told_pair a (Some y) x R is both = (y, refl, Told-some a x (λ v. R v y) is both)

pub some_is : {A : Type 0} (a : Option A) (x : A) → a ≡ Some x → IsSome a
some_is a x is = subst IsSome (sym is) refl

-- what holds of each first where the second is well
firsts_well : {A : Type 0} (R : A → Answer → Type 0) (Q : A → Type 0) (xs : List A) (answers : List Answer) → ((x : A) → R x (Ok tt) → Q x) → AllZip R xs answers → All (λ a. a ≡ Ok tt) answers → All Q xs
firsts_well R Q [] [] f z all = All-nil Q
firsts_well R Q [] (a ∷ answers) f z all = absurd z
firsts_well R Q (x ∷ xs) [] f z all = absurd z
firsts_well R Q (x ∷ xs) (a ∷ answers) f z all =
    All-cons Q x xs (f x (subst (R x) (All-head (λ a. a ≡ Ok tt) a answers all) z.0)) (firsts_well R Q xs answers f z.1 (All-tail (λ a. a ≡ Ok tt) a answers all))

answers_well : (answers : List Answer) → All (λ a. IsWell (write_end a)) answers → All (λ a. a ≡ Ok tt) answers
answers_well [] all = All-nil (λ a. a ≡ Ok tt)
answers_well (a ∷ answers) all =
    All-cons (λ a. a ≡ Ok tt) a answers (written_well a (All-head (λ a. IsWell (write_end a)) a answers all)) (answers_well answers (All-tail (λ a. IsWell (write_end a)) a answers all))

module _ {P O : Type 0} (p : PlaceSeen P) (s : SinkSeen O) where
  -- where all sinks were given back well, each one's file has what it held
  pub all_landed : (a b : P) (sinks : List O) → IsSome (p.files a) → AllPairs (λ n m. n ≢ m) (map s.name sinks) → TakesSinks p s a b sinks (Ok tt) → All (λ sink. Told (s.held sink) (HasFile (p.files b) (s.name sink))) sinks
  all_landed a b sinks told apart back =
      let well = answers_well back.answers (All-unmapped write_end IsWell back.answers (all_well (map write_end back.answers) (sym back.result_is))) in
      firsts_well (λ sink answer. Lands (p.files a) (p.files b) (s.name sink) (s.held sink) answer) (λ sink. Told (s.held sink) (HasFile (p.files b) (s.name sink))) sinks back.answers (λ sink has. has) (back.lands told apart) well

-- a file that is not the one that changed
pub kept_file : (b c : Option Files) (f g : Files) (journal name bytes : List ℕ) → b ≡ Some f → c ≡ Some g → SameBut f g journal → name ≢ journal → HasFile b name bytes → get g name ≡ Some bytes
kept_file b c f g journal name bytes before after same other has = same name other ∙ Told-some b f (λ now. get now name ≡ Some bytes) before has

-- ---- names that differ

pub AllPairs-tail : {X : Type 0} (R : X → X → Type 0) (x : X) (xs : List X) → AllPairs R (x ∷ xs) → AllPairs R xs
AllPairs-tail R x xs all = λ i j d before within. all (suc i) (suc j) d (omega arith) (omega arith)

pub AllPairs-head : {X : Type 0} (R : X → X → Type 0) (x : X) (xs : List X) → AllPairs R (x ∷ xs) → All (R x) xs
AllPairs-head R x xs all = λ k d within. all 0 (suc k) d (omega arith) (omega arith)

pub AllPairs-back : {X : Type 0} (R : X → X → Type 0) (xs ys : List X) → AllPairs R (xs ++ ys) → AllPairs R ys
AllPairs-back R [] ys all = all
AllPairs-back R (x ∷ xs) ys all = AllPairs-back R xs ys (AllPairs-tail R x (xs ++ ys) all)

pub AllPairs-front : {X : Type 0} (R : X → X → Type 0) (xs ys : List X) → AllPairs R (xs ++ ys) → AllPairs R xs
AllPairs-front R [] ys all = λ i j d before within. absurd (omega arith)
AllPairs-front R (x ∷ xs) ys all = AllPairs-cons R x xs (All-front (R x) xs ys (AllPairs-head R x (xs ++ ys) all)) (AllPairs-front R xs ys (AllPairs-tail R x (xs ++ ys) all))

-- each item before the last goes with the last
pub AllPairs-last : {X : Type 0} (R : X → X → Type 0) (xs : List X) (y : X) → AllPairs R (xs ++ y ∷ []) → All (λ x. R x y) xs
AllPairs-last R [] y all = All-nil (λ x. R x y)
AllPairs-last R (x ∷ xs) y all =
    All-cons (λ x. R x y) x xs (All-head (R x) y [] (All-back (R x) xs (y ∷ []) (AllPairs-head R x (xs ++ y ∷ []) all))) (AllPairs-last R xs y (AllPairs-tail R x (xs ++ y ∷ []) all))
