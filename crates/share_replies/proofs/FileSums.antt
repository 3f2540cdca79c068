-- The shares of files, one after another.
use Rattle.std.proofs.Common.{◌≡◌, ℕ, ◌+◌, List, [], ◌∷◌, ◌++◌, map, take, drop, Option, Some, Result, IfOk, refl, sym, ◌∙◌, ap, subst, arith, append_assoc}
use Rattle.std.proofs.lemmas.List.{append-nil, map-append, take-append-drop}
use Rattle.std.specs.Prelude.{IfErr}
use Rattle.cube_view.specs.declared.schema.Schema.{Schema}
use Rattle.outer_io.specs.Files.{Files, file_or_empty}
use Rattle.outer_io.specs.Told.{Told}
use Rattle.query_syntax.specs.declared.query.Parsed.{Parsed}
use Rattle.run_files.specs.Outside.{file_of}
use Rattle.share_replies.specs.Shares.{AreShares, IsShare, Share, joined_shares, nothing, together}
use Rattle.share_replies.specs.Sums.{AddsFile, IsInnocentFile, SumsOver}
use Rattle.share_replies.specs.declared.fault.FileFault.{FileFault}
use Rattle.share_replies.specs.declared.summed.Summed.{Summed}

-- a file that is told is what was read of it
pub told_is : (file : Option (List ℕ)) (bytes all : List ℕ) → Told file (λ own. bytes ≡ own) → file ≡ Some all → bytes ≡ all
told_is file bytes all told is = let own = subst (λ (f : Option (List ℕ)). Told f (λ own. bytes ≡ own)) is told in own

-- shares joined in any order of joining
pub joined-assoc : (s t u : Share) → joined_shares s (joined_shares t u) ≡ joined_shares (joined_shares s t) u
joined-assoc s t u = let told : s.told + (t.told + u.told) ≡ (s.told + t.told) + u.told = omega arith in λ i. record { points = sym (append_assoc s.points t.points u.points) i; told = told i }

pub joined-nothing : (s : Share) → joined_shares s nothing ≡ joined_shares nothing s
joined-nothing s = let told : s.told + 0 ≡ 0 + s.told = omega arith in λ i. record { points = append-nil s.points i; told = told i }

module _ (schema : Schema) (ps : List Parsed) where
  -- The shares before the last, and the last
  pub record LastShare (shares : List Share) (texts : List (List ℕ)) (text : List ℕ) : Type 0 where
    pub before : List Share
    pub last : Share
    pub are : AreShares schema ps before texts
    pub is : IsShare schema ps last text
    pub all : together shares ≡ joined_shares (together before) last

  pub last_share : (shares : List Share) (texts : List (List ℕ)) (text : List ℕ) → AreShares schema ps shares (texts ++ text ∷ []) → LastShare shares texts text
  last_share [] [] text are = absurd are
  last_share [] (t ∷ texts) text are = absurd are
  last_share (s ∷ []) [] text are = record { before = []; last = s; are = tt; is = are.0; all = joined-nothing s }
  last_share (s ∷ t ∷ shares) [] text are = absurd are.1
  last_share (s ∷ shares) (t ∷ texts) text are =
      let rest = last_share shares texts text are.1 in
      record { before = s ∷ rest.before; last = rest.last; are = (are.0, rest.are); is = rest.is; all = ap (joined_shares s) rest.all ∙ joined-assoc s (together rest.before) rest.last }

  -- the shares of the first texts
  pub front_shares : (shares : List Share) (texts more : List (List ℕ)) → AreShares schema ps shares (texts ++ more) → (front : List Share) × AreShares schema ps front texts
  front_shares shares [] more are = ([], tt)
  front_shares [] (t ∷ texts) more are = absurd are
  front_shares (s ∷ shares) (t ∷ texts) more are = let rest = front_shares shares texts more are.1 in (s ∷ rest.0, (are.0, rest.1))

  -- no texts are of no points
  pub no_shares : (shares : List Share) → AreShares schema ps shares [] → together shares ≡ nothing
  no_shares [] are = refl
  no_shares (s ∷ shares) are = absurd are

-- texts of names, and of more names
texts-append : {A : Type 0} (f : List ℕ → List ℕ) (g : A → List ℕ) (xs ys : List A) → map f (map g (xs ++ ys)) ≡ map f (map g xs) ++ map f (map g ys)
texts-append f g xs ys = ap (map f) (map-append g xs ys) ∙ map-append f (map g xs) (map g ys)

module _ {A : Type 0} (schema : Schema) (ps : List Parsed) (f : List ℕ → List ℕ) (g : A → List ℕ) (names : List A) (i : ℕ) (n : A) (at : take (i + 1) names ≡ take i names ++ n ∷ []) where
  -- of the shares of so many names and one more, the last
  pub last_of : (shares : List Share) → AreShares schema ps shares (map f (map g (take (i + 1) names))) → LastShare schema ps shares (map f (map g (take i names))) (f (g n))
  last_of shares are = last_share schema ps shares (map f (map g (take i names))) (f (g n)) (subst (AreShares schema ps shares) (ap (λ xs. map f (map g xs)) at ∙ texts-append f g (take i names) (n ∷ [])) are)

  -- of the shares of all names, those of so many and one more
  pub front_of : (shares : List Share) → AreShares schema ps shares (map f (map g names)) → (front : List Share) × AreShares schema ps front (map f (map g (take (i + 1) names)))
  front_of shares are =
      front_shares schema ps shares (map f (map g (take (i + 1) names))) (map f (map g (drop (i + 1) names)))
      (subst (AreShares schema ps shares) (ap (λ xs. map f (map g xs)) (sym (take-append-drop (i + 1) names)) ∙ texts-append f g (take (i + 1) names) (drop (i + 1) names)) are)

-- what the replies of one share more leave, in files that are told
module _ {A : Type 0} (schema : Schema) (ps : List Parsed) (files : Files) (g : A → List ℕ) (names : List A) (i : ℕ) (n : A) (at : take (i + 1) names ≡ take i names ++ n ∷ []) where
  pub file_adds : (shares : List Share) (sums own : List (Option Summed)) (now : Option Files) (name : List ℕ) (result : Result (List (Option Summed)) FileFault) → own ≡ sums → now ≡ Some files → name ≡ g n
      → AreShares schema ps shares (map (file_or_empty files) (map g (take (i + 1) names))) → ((before : List Share) → AreShares schema ps before (map (file_or_empty files) (map g (take i names))) → SumsOver schema (together before) ps sums)
      → AddsFile schema ps own (file_of now name) result → IfOk result (SumsOver schema (together shares) ps) × IfErr result IsInnocentFile
  file_adds shares sums own now name result same told is are so_far adds =
      let last = last_of schema ps (file_or_empty files) g names i n at shares are in
      let before = subst (λ (sums : List (Option Summed)). SumsOver schema (together last.before) ps sums) (sym same) (so_far last.before last.are) in
      let here : file_of now name ≡ Some (file_or_empty files (g n)) = λ j. file_of (told j) (is j) in
      let added = adds (together last.before) last.last (file_or_empty files (g n)) here before last.is in
      (subst (λ (s : Share). IfOk result (SumsOver schema s ps)) (sym last.all) added.0, added.1)
