-- The forms of the program: which words are one, and what they ask for.
use Rattle.std.specs.Prelude.{ℕ, ◌≤◌, if◌then◌else◌, List, [], ◌∷◌, Option, Some, None, option_and_then, option_map, codes}
use Rattle.std.specs.Str.{bytes_eq}
use Rattle.program_forms.specs.Rows.{generated_rows_of, most_generated_rows}

-- What words ask for: a constructor for each form, with what stands behind its verb
pub data Form : Type 0 where
  -- a feed and a script
  Demo : List ℕ → List ℕ → Form
  -- a plan
  Run : List ℕ → Form
  -- a number of rows
  Big : ℕ → Form
  -- a plan, a journal, a script and replies
  Recount : List ℕ → List ℕ → List ℕ → List ℕ → Form
  -- a plan and an image
  Save : List ℕ → List ℕ → Form
  -- a plan, an image and a script
  Load : List ℕ → List ℕ → List ℕ → Form

-- what is made of the words behind a verb, where there is one
abbrev pub of_one : {A : Type 0} → (List ℕ → A) → List (List ℕ) → Option A
of_one make (a ∷ []) = Some (make a)
of_one make words = None

-- where there are two
abbrev pub of_two : {A : Type 0} → (List ℕ → List ℕ → A) → List (List ℕ) → Option A
of_two make (a ∷ b ∷ []) = Some (make a b)
of_two make words = None

-- where there are three
abbrev pub of_three : {A : Type 0} → (List ℕ → List ℕ → List ℕ → A) → List (List ℕ) → Option A
of_three make (a ∷ b ∷ c ∷ []) = Some (make a b c)
of_three make words = None

-- where there are four
abbrev pub of_four : {A : Type 0} → (List ℕ → List ℕ → List ℕ → List ℕ → A) → List (List ℕ) → Option A
of_four make (a ∷ b ∷ c ∷ d ∷ []) = Some (make a b c d)
of_four make words = None

-- the form of that verb, where the words behind it are right
abbrev pub form_under : List ℕ → List (List ℕ) → Option Form
form_under verb words =
    if bytes_eq verb (codes "demo") then of_two Demo words else
    if bytes_eq verb (codes "run") then of_one Run words else
    if bytes_eq verb (codes "big") then option_and_then (option_map Big) (of_one generated_rows_of words) else
    if bytes_eq verb (codes "recount") then of_four Recount words else
    if bytes_eq verb (codes "save") then of_two Save words else
    if bytes_eq verb (codes "load") then of_three Load words else
    None

-- what the words ask for, if they are a form
abbrev pub form_of : List (List ℕ) → Option Form
form_of [] = None
form_of (verb ∷ words) = form_under verb words

-- a form with a number of rows has no more than the most
abbrev pub HasFewRows : Form → Type 0
HasFewRows (Big rows) = rows ≤ most_generated_rows
HasFewRows form = Unit {0}
