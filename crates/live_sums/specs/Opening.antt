-- The asks and the replies of runs by name, and replies that were opened.
use Rattle.std.specs.Prelude.{◌≡◌, ℕ, List, [], map, Option, Some}
use Rattle.outer_io.specs.Files.{Files}
use Rattle.outer_io.specs.Told.{Told}
use Rattle.run_files.specs.Outside.{file_of}
use Rattle.live_sums.specs.declared.opening.RunNames.{RunNames}
use Rattle.live_sums.specs.declared.replies.Replies.{Replies}

-- the names of the asks of runs
abbrev pub ask_names : List RunNames → List (List ℕ)
ask_names runs = map (λ (run : RunNames). run.ask.now) runs

-- and of their replies
abbrev pub reply_names : List RunNames → List (List ℕ)
reply_names runs = map (λ (run : RunNames). run.replies.now) runs

-- Replies of which none was read: those of the file of this name, where it is told
pub record NoneRead {S : Type 0} (left : S → Option (List ℕ)) (faults : S → ℕ) (files : Option Files) (name : List ℕ) (run : Replies S) : Type 0 where
  pub left_is : Told (file_of files name) (λ bytes. left run.source ≡ Some bytes)
  pub fresh : faults run.source ≡ 0
  pub none_held : run.held.items ≡ []
  -- no number was printed yet
  pub no_marks : (run.marks.seen ≡ 0) × (run.marks.told ≡ 0)
