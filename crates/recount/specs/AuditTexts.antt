-- Texts that are read whole, of which none may have more than 2^30 bytes.
use Rattle.std.specs.Prelude.{◌≡◌, ◌≢◌, ◌⊎◌, ℕ, ◌≤◌, ◌<◌, List, [], ◌∷◌, length, Some, Result, Err, IfOk}
use Rattle.std.specs.Result.{result_err}
use Rattle.outer_io.specs.Files.{Files, file_or_empty}
use Rattle.outer_io.specs.Lines.{input_limit}
use Rattle.outer_io.specs.Told.{Told}
use Rattle.run_files.specs.Leaving.{FailsAtLast, LeavesPlace}
use Rattle.run_files.specs.Outside.{file_of, PlaceSeen}
use Rattle.run_files.specs.declared.stop.Stop.{Stop}
use Rattle.run_files.specs.declared.stop.Stop.TheVariants.{PlanRefused, ReadFault, WriteFault, FeedRefused}
use Rattle.recount.specs.declared.text_reading.Texts.{Texts}

-- each of the three has at most 2^30 bytes
abbrev pub AreShort : List ℕ → List ℕ → List ℕ → Type 0
AreShort journal script replies = (length journal ≤ input_limit) × (length script ≤ input_limit) × (length replies ≤ input_limit)

-- one of them has more
abbrev pub IsOneLong : List ℕ → List ℕ → List ℕ → Type 0
IsOneLong journal script replies = (input_limit < length journal) ⊎ (input_limit < length script) ⊎ (input_limit < length replies)

module _ {P : Type 0} (p : PlaceSeen P) (place place' : P) where
  -- What reading the named file as a text leaves and answers
  pub record ReadsText (name : List ℕ) (result : Result (List ℕ) Stop) : Type 0 where
    -- it is opened, and nothing is created
    pub leaves : LeavesPlace p place place' (name ∷ []) [] (result_err result)
    -- where it could not be read it was opened
    pub first : result ≡ Err ReadFault → FailsAtLast p place leaves.opens
    -- the answer is the whole file, where it is told, and is short
    pub whole : IfOk result (λ bytes. Told (file_of (p.files place) name) (λ all. bytes ≡ all) × (length bytes ≤ input_limit))
    -- it is refused only where it is long
    pub long : result ≡ Err FeedRefused → Told (file_of (p.files place) name) (λ all. input_limit < length all)
    -- no other end comes than those of the place and want of memory
    pub ends : (result ≢ Err PlanRefused) × (result ≢ Err WriteFault)

  -- the claim holds of the bytes of the named files, where the place tells its files
  abbrev pub OfTexts : List ℕ → List ℕ → List ℕ → (List ℕ → List ℕ → List ℕ → Type 0) → Type 0
  OfTexts journal script replies Claim = (files : Files) → p.files place ≡ Some files → Claim (file_or_empty files journal) (file_or_empty files script) (file_or_empty files replies)

  -- What reading the named files as texts leaves and answers
  pub record ReadsTexts (journal script replies : List ℕ) (result : Result Texts Stop) : Type 0 where
    -- they are opened in order, up to the first trouble, and nothing is created
    pub leaves : LeavesPlace p place place' (journal ∷ script ∷ replies ∷ []) [] (result_err result)
    -- one that could not be read is the last that was opened
    pub first : result ≡ Err ReadFault → FailsAtLast p place leaves.opens
    -- the answer is the whole files, where they are told
    pub whole : IfOk result (λ texts. OfTexts journal script replies (λ j q r. (texts.journal ≡ j) × (texts.script ≡ q) × (texts.replies ≡ r)))
    -- which are short
    pub short : IfOk result (λ texts. AreShort texts.journal texts.script texts.replies)
    -- they are refused only where one is long
    pub long : result ≡ Err FeedRefused → OfTexts journal script replies IsOneLong
    -- no other end comes than those of the place and want of memory
    pub ends : (result ≢ Err PlanRefused) × (result ≢ Err WriteFault)
