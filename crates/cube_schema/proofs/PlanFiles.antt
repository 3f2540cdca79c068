-- The files of a plan that can be printed.
use Rattle.std.proofs.Common.{◌≡◌, ◌≢◌, ℕ, ◌≤◌, Bool, true, false, not, List, [], ◌∷◌, ◌++◌, length, sym, ap, ◌∙◌, subst, append_assoc}
use Rattle.std.specs.Prelude.{AllPairs}
use Rattle.std.specs.List.{AllByRecursion, IsDistinct, list_all, list_any}
use Rattle.std.specs.List.Sorted.{IsPermutation}
use Rattle.std.proofs.lemmas.Bool.{and_parts, or_parts, not-true, false≢true}
use Rattle.std.proofs.lemmas.Cmp.{nat_list_cmp_total, eq_by_cmp_equiv}
use Rattle.std.proofs.lemmas.List.Sorted.{IsPermutation-sym, IsPermutation-to_front, IsPermutation-append_right}
use Rattle.std.proofs.lemmas.Map.Keys.{apart_from_distinct, IsDistinct-IsPermutation}
use Rattle.cube_view.specs.Limits.{is_between, same_text, has_text, all_distinct}
use Rattle.cube_schema.specs.declared.plan.Plan.{Plan}
use Rattle.cube_schema.specs.Drafts.{draft_of}
use Rattle.cube_schema.specs.Files.{input_names, output_names, NamesFiles}
use Rattle.cube_schema.specs.Meaning.{IsPrintable}
use Rattle.cube_schema.specs.Ranges.{is_file_name, are_files}
use Rattle.cube_schema.specs.Repeats.{outputs, file_names}
use Rattle.cube_schema.proofs.InRange.{are_in_range}
use Rattle.cube_view.proofs.SchemaBounds.{between_low, between_high}
use Rattle.cube_schema.proofs.Distinct.{same_text-sym, files_are_distinct}

-- where no element passes, each fails
each_fails : (p : List ℕ → Bool) (texts : List (List ℕ)) → list_any p texts ≡ false → AllByRecursion (λ t. p t ≡ false) texts
each_fails p [] e = tt
each_fails p (t ∷ texts) e =
    let both = or_parts (p t) (list_any p texts) e in
    (both.0, each_fails p texts both.1)

is_distinct : (texts : List (List ℕ)) → all_distinct texts ≡ true → IsDistinct same_text texts
unfolding IsDistinct
is_distinct [] e = tt
is_distinct (t ∷ texts) e =
    let both = and_parts (not (has_text texts t)) (all_distinct texts) e in
    (each_fails (same_text t) texts (not-true _ both.0), is_distinct texts both.1)

differ : (s t : List ℕ) → same_text s t ≡ false → s ≢ t
differ s t e same = false≢true (sym e ∙ (ap (same_text s) (sym same) ∙ (eq_by_cmp_equiv nat_list_cmp_total).refl s))

are_apart : (texts : List (List ℕ)) → IsDistinct same_text texts → AllPairs (λ s t. s ≢ t) texts
are_apart texts h i j d lt within = differ _ _ (apart_from_distinct same_text texts i j d h lt within)

grouped : (feeds asks finals rest : List (List ℕ)) → feeds ++ (asks ++ (finals ++ rest)) ≡ (feeds ++ (asks ++ finals)) ++ rest
grouped feeds asks finals rest = sym (simp append_assoc)

-- the files in the order of the test, and in the order in which they are opened
reordered : (plan : Plan) → IsPermutation (file_names (draft_of plan)) (input_names plan ++ output_names plan)
reordered plan =
    let written = outputs plan.asks ++ outputs plan.finals in
    let last : IsPermutation (plan.journal ∷ written) (written ++ plan.journal ∷ []) = IsPermutation-sym _ _ (IsPermutation-to_front written plan.journal) in
    subst (λ (names : List (List ℕ)). IsPermutation names (input_names plan ++ output_names plan)) (sym (grouped plan.feeds plan.asks plan.finals (plan.journal ∷ written)))
    (IsPermutation-append_right (input_names plan) _ _ last)

some_files : (least : ℕ) (names : List (List ℕ)) → are_files least names ≡ true → (least ≤ length names) × (length names ≤ 8)
some_files least names e =
    let count = (and_parts (is_between least 8 (length names)) (list_all is_file_name names) e).0 in
    (between_low least 8 (length names) count, between_high least 8 (length names) count)

pub names_files : (plan : Plan) → IsPrintable plan → NamesFiles plan
names_files plan is =
    let ranges = are_in_range (draft_of plan) is.0 in
    record {
      feeds = some_files 1 plan.feeds ranges.feeds;
      few_asks = (some_files 0 plan.asks ranges.asks).1;
      few_finals = (some_files 0 plan.finals ranges.finals).1;
      apart = are_apart _ (IsDistinct-IsPermutation same_text same_text-sym _ _ (reordered plan) (is_distinct _ (files_are_distinct (draft_of plan) is.1)));
    }
