-- What is told of a cutter at the start, and of what some value has.
use Rattle.std.proofs.Common.{◌≡◌, ℕ, ◌+◌, List, [], ◌++◌, length, Option, Some, None, option_map, ◌∙◌, ap, subst, zero-add, IsSomeAnd}
use Rattle.outer_io.specs.Cutting.{Cutter, IsNew, lines_left, rest_of}
use Rattle.outer_io.specs.Lines.{Line, lines, lines_from}
use Rattle.outer_io.specs.Told.{Told}

-- what a cutter that gave nothing yet has left is all of the feed
pub lines_at_start : (P : List Line → Type 0) (r : Option (List ℕ)) (taken given : ℕ) → taken ≡ 0 → given ≡ 0 → Told (option_map (lines_from taken given) r) P → Told r (λ feed. P (lines feed))
lines_at_start P None taken given t g p = tt
lines_at_start P (Some feed) taken given t g p = subst (λ (n : ℕ). P (lines_from 0 n feed)) g (subst (λ (n : ℕ). P (lines_from n given feed)) t p)

-- and its size is that of the feed
pub size_at_start : (P : ℕ → Type 0) (r : Option (List ℕ)) (taken : ℕ) (size : Option ℕ) → taken ≡ 0 → Told (option_map (λ rest. taken + length rest) r) (λ n. size ≡ Some n) → Told size P → Told r (λ feed. P (length feed))
size_at_start P None taken size t e p = tt
size_at_start P (Some feed) taken size t e p =
    subst P (ap (λ (n : ℕ). n + length feed) t ∙ zero-add (length feed)) (subst (λ (o : Option ℕ). Told o P) e p)

-- a new cutter has left what its source has, and the lines of it
pub new_rest : {S : Type 0} (left : S → Option (List ℕ)) (c : Cutter S) (source : S) (bytes : List ℕ) → IsNew source c → left source ≡ Some bytes → rest_of left c ≡ Some bytes
new_rest left c source bytes new told = ap (λ k. rest_of left k) new ∙ ap (λ (o : Option (List ℕ)). option_map (λ more. [] ++ more) o) told

pub new_lines : {S : Type 0} (left : S → Option (List ℕ)) (c : Cutter S) (source : S) (bytes : List ℕ) → IsNew source c → left source ≡ Some bytes → lines_left left c ≡ Some (lines bytes)
new_lines left c source bytes new told = ap (λ k. lines_left left k) new ∙ ap (λ (o : Option (List ℕ)). option_map (lines_from 0 0) (option_map (λ more. [] ++ more) o)) told

-- what follows from what some value has
pub some_each : {A : Type 0} (o : Option A) (P Q : A → Type 0) → ((x : A) → P x → Q x) → IsSomeAnd o P → IsSomeAnd o Q
some_each None P Q step h = absurd h
some_each (Some x) P Q step h = step x h

-- and what it has where it is told which value it is
pub some_told : {A : Type 0} (o : Option A) (x : A) (P : A → Type 0) → IsSomeAnd o P → Told o (λ y. y ≡ x) → P x
some_told None x P h told = absurd h
some_told (Some y) x P h told = subst P told h
