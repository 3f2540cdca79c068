-- From one answer of a cutter to a header or a row.
use Rattle.std.proofs.Common.{◌≡◌, ℕ, lit≤, List, [], ◌∷◌, Option, Some, None, Result, Ok, Err, ◌∙◌, ap, IfOk, IsSomeAnd}
use Rattle.cube_view.specs.declared.schema.Schema.{Schema}
use Rattle.outer_io.specs.Cuts.{GivesLine}
use Rattle.outer_io.specs.Cutting.{Cutter, lines_left}
use Rattle.outer_io.specs.Lines.{Line, Bytes}
use Rattle.outer_io.proofs.ToldLaws.{Told-each}
use Rattle.feed_reader.specs.Feeds.{head_of_lines}
use Rattle.feed_reader.specs.Headers.{head_of}
use Rattle.feed_reader.specs.Reading.{IsHeadRefused, PassesOneAtMost}
use Rattle.feed_reader.specs.declared.header.HeadFault.{HeadFault}
use Rattle.feed_reader.specs.declared.header.Header.{Header}
use Rattle.feed_reader.proofs.FeedLaws.{head_of_lines-cons}

module _ {S : Type 0} (left : S → Option (List ℕ)) (faults : S → ℕ) (schema : Schema) (a b : Cutter S) (number : ℕ) where
  refused_first : (line : Line) (fault : HeadFault) (rest : Option (List Line)) (all : List Line) → head_of_lines schema (line ∷ []) ≡ Err fault → IsSomeAnd rest (λ more. all ≡ line ∷ more) → head_of_lines schema all ≡ Err fault
  refused_first line fault None all bad first = absurd first
  refused_first line fault (Some more) all bad first = ap (head_of_lines schema) first ∙ head_of_lines-cons schema line more ∙ bad

  -- the line that the cutter gave is refused as a header
  pub refused_line : (line : Line) (fault : HeadFault) → GivesLine left faults a b line number → head_of_lines schema (line ∷ []) ≡ Err fault → IsHeadRefused left schema a fault
  refused_line line fault given bad = Told-each (lines_left left a) _ _ (λ all first. refused_first line fault (lines_left left b) all bad first) given.passed.covers

  -- a cutter that gave a line passed one
  pub passes_one : (line : Line) → GivesLine left faults a b line number → PassesOneAtMost left faults a b
  passes_one line given = (given.goes_on, line ∷ [], given.passed, lit≤ tt)

-- what is so of a header's places, where these are what the line means, is so of the header that was read
pub header_is : {E : Type 0} (schema : Schema) (bytes line : List ℕ) (r : Result Header E) (P : List ℕ → Type 0) → ((places : List ℕ) → head_of_lines schema (Bytes bytes ∷ []) ≡ Ok places → P places) → line ≡ bytes
    → IfOk r (λ header. head_of schema line ≡ Ok header.places) → IfOk r (λ header. P header.places)
header_is schema bytes line (Ok header) P means e is = means header.places (rw (← e) is)
header_is schema bytes line (Err f) P means e is = tt
