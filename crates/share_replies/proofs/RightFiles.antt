-- Files of shares that are right, up to the first that is wrong.
use Rattle.std.proofs.Common.{◌≡◌, ℕ, ◌+◌, ◌<◌, ◌≤◌, List, [], ◌∷◌, ◌++◌, length, map, take, take_all, get_or, Option, Some, None, Result, Err, refl, sym, ◌∙◌, ap, subst, arith}
use Rattle.std.proofs.lemmas.List.{get_or-map, length-map, map-append, take-map}
use Rattle.outer_io.specs.Files.{Files, file_or_empty}
use Rattle.outer_io.specs.Told.{Told}
use Rattle.query_syntax.specs.declared.query.Parsed.{Parsed}
use Rattle.reply_json.specs.declared.reply.Reply.{Reply}
use Rattle.run_files.specs.Outside.{file_of}
use Rattle.share_replies.specs.Refusals.{AreRight, IsFirstWrong, IsRight, IsWrongAt, totals_of}
use Rattle.share_replies.specs.declared.fault.FileFault.{FileFault}
use Rattle.share_replies.specs.declared.fault.FileFault.TheVariants as file
use Rattle.share_replies.specs.declared.fault.SharesFault.{SharesFault}
use Rattle.share_replies.specs.declared.fault.SharesFault.TheVariants as shares
use Rattle.share_replies.specs.declared.fault.WrongReply.{WrongReply}
use Rattle.share_replies.specs.declared.summed.Summed.{Summed}

-- a bytes' file is what was read of it
pub told_keep : (P : List ℕ → Type 0) (file : Option (List ℕ)) (bytes own : List ℕ) → own ≡ bytes → Told file (λ all. bytes ≡ all) → P own → Told file P
told_keep P None bytes own same is h = tt
told_keep P (Some all) bytes own same is h = subst P (same ∙ is) h

-- one right text more
texts_more : (ps : List Parsed) (first : List (Option Reply)) (texts : List (List ℕ)) (text : List ℕ) (last next : List (Option Reply)) → AreRight ps first texts last → IsRight ps last text next → AreRight ps first (texts ++ text ∷ []) next
texts_more ps first [] text last next are is = (next, subst (λ ts. IsRight ps ts text next) are is, refl)
texts_more ps first (t ∷ texts) text last next are is = (are.0, are.1, texts_more ps are.0 texts text last next are.2 is)

-- the answer that a share is wrong
abbrev of_shares : (T : Type 0) → SharesFault → Result T SharesFault
of_shares T fault = Err fault

pub at_share : {T : Type 0} (fault : SharesFault) (k line : ℕ) (w : WrongReply) → of_shares T fault ≡ of_shares T (shares.Wrong k line w) → fault ≡ shares.Wrong k line w
at_share fault k line w e = cc

abbrev of_file : (T : Type 0) → FileFault → Result T FileFault
of_file T fault = Err fault

pub at_file : {T : Type 0} (fault : FileFault) (line : ℕ) (w : WrongReply) → of_file T fault ≡ of_file T (file.Wrong line w) → fault ≡ file.Wrong line w
at_file fault line w e = cc

pub told_none : (told : Option Files) (ps : List Parsed) (first : List (Option Reply)) → Told told (λ files. first ≡ first)
told_none None ps first = tt
told_none (Some files) ps first = refl

module _ {A : Type 0} (ps : List Parsed) (first : List (Option Reply)) (g : A → List ℕ) (names : List A) where
  -- the texts of the first names are right
  abbrev SoFar : Option Files → ℕ → List (Option Summed) → Type 0
  SoFar told i sums = Told told (λ files. AreRight ps first (map (file_or_empty files) (map g (take i names))) (totals_of sums))

  pub right_all : (told : Option Files) (i : ℕ) (sums : List (Option Summed)) → length names ≤ i → SoFar told i sums → Told told (λ files. AreRight ps first (map (file_or_empty files) (map g names)) (totals_of sums))
  right_all told i sums end = subst (λ (xs : List A). Told told (λ files. AreRight ps first (map (file_or_empty files) (map g xs)) (totals_of sums))) (take_all i names end)

  module _ (i : ℕ) (n : A) (told now : Option Files) (name : List ℕ) (sums : List (Option Summed)) (same : now ≡ told) (is : name ≡ g n) where
    pub right_more : (next : List (Option Summed)) → take (i + 1) names ≡ take i names ++ n ∷ [] → SoFar told i sums → Told (file_of now name) (λ text. IsRight ps (totals_of sums) text (totals_of next)) → SoFar told (i + 1) next
    right_more next at before here = more told before (subst (λ (o : Option Files). Told (file_of o name) (λ text. IsRight ps (totals_of sums) text (totals_of next))) same here)
      where
        more : (told : Option Files) → SoFar told i sums → Told (file_of told name) (λ text. IsRight ps (totals_of sums) text (totals_of next)) → SoFar told (i + 1) next
        more None before here = tt
        more (Some files) before here =
            let f = file_or_empty files in
            subst (λ (texts : List (List ℕ)). AreRight ps first texts (totals_of next)) (sym (ap (λ xs. map f (map g xs)) at ∙ (ap (map f) (map-append g (take i names) (n ∷ [])) ∙ map-append f (map g (take i names)) (map g (n ∷ [])))))
            (texts_more ps first (map f (map g (take i names))) (f (g n)) (totals_of sums) (totals_of next) before (subst (λ b. IsRight ps (totals_of sums) (f b) (totals_of next)) is here))

    -- or the next is the first that is wrong
    pub first_wrong : (line : ℕ) (w : WrongReply) → n ≡ get_or names i n → i < length names → SoFar told i sums → Told (file_of now name) (λ text. IsWrongAt ps (totals_of sums) text line w) → Told told (λ files. IsFirstWrong ps first (map (file_or_empty files) (map g names)) i line w)
    first_wrong line w item lt before here = at told before (subst (λ (o : Option Files). Told (file_of o name) (λ text. IsWrongAt ps (totals_of sums) text line w)) same here)
      where
        at : (told : Option Files) → SoFar told i sums → Told (file_of told name) (λ text. IsWrongAt ps (totals_of sums) text line w) → Told told (λ files. IsFirstWrong ps first (map (file_or_empty files) (map g names)) i line w)
        at None before here = tt
        at (Some files) before here =
            let f = file_or_empty files in
            let size = length-map names g in
            let all = length-map (map g names) f in
            let lt_names : i < length (map g names) = omega (arith, lt, size) in
            let text : get_or (map f (map g names)) i [] ≡ f (g n) = get_or-map f (map g names) i [] [] lt_names ∙ ap f (get_or-map g names i n [] lt ∙ ap g (sym item)) in
            record {
              totals = totals_of sums;
              right = subst (λ (texts : List (List ℕ)). AreRight ps first texts (totals_of sums)) (sym (take-map f i (map g names) ∙ ap (map f) (take-map g i names))) before;
              within = omega (arith, lt, size, all);
              wrong = subst (λ t. IsWrongAt ps (totals_of sums) t line w) (sym text) (subst (λ b. IsWrongAt ps (totals_of sums) (f b) line w) is here);
            }

  pub same_share : (told : Option Files) (k i line : ℕ) (w : WrongReply) → k ≡ i → Told told (λ files. IsFirstWrong ps first (map (file_or_empty files) (map g names)) i line w) → Told told (λ files. IsFirstWrong ps first (map (file_or_empty files) (map g names)) k line w)
  same_share told k i line w same = subst (λ j. Told told (λ files. IsFirstWrong ps first (map (file_or_empty files) (map g names)) j line w)) (sym same)
