-- A script from its front, where its source tells its bytes, and which scripts are refused.
use Rattle.std.proofs.Common.{◌≡◌, ℕ, ◌<◌, ◌≤◌, List, length, true, false, not, ◌&&◌, nat_lt, Option, Some, None, ◌⊎◌, inl, inr, refl, ◌∙◌, ap, Result, Ok, Err, OnOk, arith}
use Rattle.std.proofs.Math.Bool.{and-false}
use Rattle.std.proofs.lemmas.Grind.{common_steps}
use Rattle.cube_view.specs.declared.schema.Schema.{Schema}
use Rattle.outer_io.specs.Cutting.{Cutter, IsNew, lines_left}
use Rattle.outer_io.specs.Lines.{lines, input_limit}
use Rattle.outer_io.specs.Progress.{IsTooLarge, IsWithinLimit}
use Rattle.outer_io.specs.Told.{Told}
use Rattle.outer_io.proofs.ProgressLaws.{of_lines, of_size}
use Rattle.session_core.specs.Scripts.{has_quit, is_script_refused}

over_limit : (n : ℕ) → input_limit < n → nat_lt input_limit n ≡ true
over_limit n large = grind (arith, common_steps)

under_limit : (n : ℕ) → n ≤ input_limit → nat_lt input_limit n ≡ false
under_limit n small = grind (arith, common_steps)

-- a claim of what is told is shown of the value that it is
pub told_by : {A : Type 0} (o : Option A) (P : A → Type 0) → ((x : A) → o ≡ Some x → P x) → Told o P
told_by None P f = tt
told_by (Some x) P f = f x refl

-- what an `Ok` tells by two clauses
pub taken : {T E : Type 0} (r : Result T E) (P Q R : Type 0) → (P → Q → R) → OnOk r P → OnOk r Q → OnOk r R
taken (Ok x) P Q R f p q = f p q
taken (Err e) P Q R f p q = tt

module _ {S : Type 0} (left : S → Option (List ℕ)) (source : S) (c : Cutter S) (bytes : List ℕ) where
  -- a script that went to its end or to `quit` is not refused
  pub script_taken : (schema : Schema) → IsNew source c → left source ≡ Some bytes → IsWithinLimit left c ⊎ Told (lines_left left c) (λ all. has_quit schema all ≡ true) → is_script_refused schema bytes ≡ false
  unfolding is_script_refused
  script_taken schema new told (inl within) =
      ap (λ b. b && not (has_quit schema (lines bytes))) (under_limit (length bytes) (of_size left source c bytes (λ n. n ≤ input_limit) new told within))
  script_taken schema new told (inr quit) =
      ap (λ b. nat_lt input_limit (length bytes) && not b) (of_lines left source c bytes (λ all. has_quit schema all ≡ true) new told quit) ∙ and-false (nat_lt input_limit (length bytes))

  -- one with too much and no `quit` is refused
  pub script_refused : (schema : Schema) → IsNew source c → left source ≡ Some bytes → IsTooLarge left c → Told (lines_left left c) (λ all. has_quit schema all ≡ false) → is_script_refused schema bytes ≡ true
  unfolding is_script_refused
  script_refused schema new told large none =
      ap (λ b. b && not (has_quit schema (lines bytes))) (over_limit (length bytes) (of_size left source c bytes (λ n. input_limit < n) new told large))
      ∙ ap (λ b. not b) (of_lines left source c bytes (λ all. has_quit schema all ≡ false) new told none)
