-- Laws of a cutter's progress.
use Rattle.std.proofs.Common.{◌≡◌, ℕ, ◌+◌, ◌≤◌, List, [], ◌++◌, length, Option, Some, option_map, refl, ◌∙◌, ap, subst, zero-add}
use Rattle.outer_io.specs.Cutting.{Cutter, IsNew, lines_left, input_size}
use Rattle.outer_io.specs.Lines.{Line, input_limit, lines, lines_from}
use Rattle.outer_io.specs.Progress.{Passes, PassesAll}
use Rattle.outer_io.specs.Told.{Told}
use Rattle.outer_io.proofs.ToldLaws.{Told-again, Told-all, Told-append, Told-each, Told-nil, Told-same, Told-some}

-- a cutter that did nothing passed no line
pub passes_none : {S : Type 0} (left : S → Option (List ℕ)) (faults : S → ℕ) (c : Cutter S) → Passes left faults c c []
passes_none left faults c = record { covers = Told-nil (lines_left left c); size = Told-same (input_size left c); quiet = refl }

-- one stretch of lines after another is passed as one
pub passes_on : {S : Type 0} (left : S → Option (List ℕ)) (faults : S → ℕ) (a b c : Cutter S) (xs ys : List Line) → Passes left faults a b xs → Passes left faults b c ys → Passes left faults a c (xs ++ ys)
passes_on left faults a b c xs ys p q = record {
  covers = Told-append (lines_left left a) (lines_left left b) (lines_left left c) xs ys p.covers q.covers;
  size = Told-again (input_size left a) (input_size left b) (input_size left c) p.size q.size;
  quiet = q.quiet ∙ p.quiet;
}

within_before : (a b : Option ℕ) → Told a (λ size. b ≡ Some size) → Told b (λ size. size ≤ input_limit) → Told a (λ size. size ≤ input_limit)
within_before a b stays within = Told-each a _ _ (λ size e. subst (λ o. Told o (λ n. n ≤ input_limit)) e within) stays

-- a stretch of lines, and then all that is left, are all lines
pub passes_all : {S : Type 0} (left : S → Option (List ℕ)) (faults : S → ℕ) (a b c : Cutter S) (xs ys : List Line) → Passes left faults a b xs → PassesAll left faults b c ys → PassesAll left faults a c (xs ++ ys)
passes_all left faults a b c xs ys p q = record {
  covers = Told-all (lines_left left a) (lines_left left b) xs ys p.covers q.covers;
  size = within_before (input_size left a) (input_size left b) p.size q.size;
  quiet = q.quiet ∙ p.quiet;
}

-- of a new cutter the lines that are left are those of the input
pub lines_left-new : {S : Type 0} (left : S → Option (List ℕ)) (source : S) (c : Cutter S) (bytes : List ℕ) → IsNew source c → left source ≡ Some bytes → lines_left left c ≡ Some (lines bytes)
lines_left-new left source c bytes new told =
    ap (lines_left left) new ∙ ap (λ (o : Option (List ℕ)). option_map (lines_from 0 0) (option_map (λ (more : List ℕ). [] ++ more) o)) told

-- and the input is as large as the source
pub input_size-new : {S : Type 0} (left : S → Option (List ℕ)) (source : S) (c : Cutter S) (bytes : List ℕ) → IsNew source c → left source ≡ Some bytes → input_size left c ≡ Some (length bytes)
input_size-new left source c bytes new told =
    ap (input_size left) new
    ∙ ap (λ (o : Option (List ℕ)). option_map (λ (rest : List ℕ). 0 + length rest) (option_map (λ (more : List ℕ). [] ++ more) o)) told
    ∙ ap (λ n. Some n) (zero-add (length bytes))

-- what is claimed of the lines that a new cutter has left is claimed of the lines of the input
pub of_lines : {S : Type 0} (left : S → Option (List ℕ)) (source : S) (c : Cutter S) (bytes : List ℕ) (P : List Line → Type 0) → IsNew source c → left source ≡ Some bytes → Told (lines_left left c) P → P (lines bytes)
of_lines left source c bytes P new told h = Told-some (lines_left left c) (lines bytes) P (lines_left-new left source c bytes new told) h

-- what is claimed of the size of a new cutter's input is claimed of the number of its bytes
pub of_size : {S : Type 0} (left : S → Option (List ℕ)) (source : S) (c : Cutter S) (bytes : List ℕ) (P : ℕ → Type 0) → IsNew source c → left source ≡ Some bytes → Told (input_size left c) P → P (length bytes)
of_size left source c bytes P new told h = Told-some (input_size left c) (length bytes) P (input_size-new left source c bytes new told) h
