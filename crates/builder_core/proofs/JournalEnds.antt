-- What a builder begins with, and what it gives back.
use Rattle.std.proofs.Common.{◌≡◌, ℕ, ◌≤◌, eqb, eq-eqb, ne_eqb, Bool, false, List, [], ◌∷◌, ◌++◌, length, length-append, append-nil, take, drop, sym, refl, ap, ◌∙◌, subst, ⊎_elim, arith}
use Rattle.std.specs.Prelude.{IsTrue, ◌↔◌, Result, Ok, Err, IfErr, MatchResult}
use Rattle.std.proofs.lemmas.Bool.{cases_eq}
use Rattle.std.proofs.lemmas.List.{length-take}
use Rattle.cube_view.specs.Points.{Point}
use Rattle.cube_view.specs.declared.schema.Schema.{Schema}
use Rattle.published_pair.specs.Rules.{Known}
use Rattle.world_core.specs.Interleaving.{entry_points}
use Rattle.world_core.specs.PairFact.{IsPrefix}
use Rattle.world_core.specs.declared.entry.Entry.{Entry}
use Rattle.world_core.proofs.Entries.{IsPrefix-entry_points}
use Rattle.world_core.proofs.Prefixes.{IsPrefix-then}
use Rattle.feed_queue.specs.Items.{entries_in}
use Rattle.feed_queue.specs.declared.item.Item.{Item}
use Rattle.builder_core.specs.Builder.{BuilderState, KeepsJournal, IsBuilder, builder_state, pair_state}
use Rattle.builder_core.specs.Endings.{all_ended, EachEnded}
use Rattle.builder_core.proofs.FeederEnds.{count_ended-none, count_ended-most, all_ended-whole, all_ended-part, each_ended, each_tested}

-- a list that is a front of none is empty
pub nothing_published : {A : Type 0} (appended noted since published : List A) → appended ≡ [] → appended ≡ noted ++ since → take (length published) noted ≡ published → published ≡ []
nothing_published appended noted since [] none joined within = refl
nothing_published appended noted since (p ∷ ps) none joined within =
    let all = ap length joined in let parts = length-append noted since in let empty = ap length none in
    let front = ap length within in let taken = length-take (length (p ∷ ps)) noted in
    absurd (omega (arith, all, parts, empty, front, taken))

-- a builder that has taken nothing
pub keeps-new : (f bt : ℕ) (taken : List Item) (es : List Entry) (p : Known) (app : List Point) (z : Schema) (v : ℕ)
    → taken ≡ [] → es ≡ [] → p.points ≡ [] → app ≡ [] → (1 ≤ f) × (f ≤ 8) → 1 ≤ bt → IsBuilder (builder_state f bt taken es 0 false (pair_state p app z v)) 0
keeps-new f bt taken es p app z v et ee ep ea few batch =
    subst (λ (s : BuilderState). IsBuilder s 0) (λ i. builder_state f bt (sym et i) (sym ee i) 0 false (pair_state p (sym ea i) z v)) (record {
      journal = record {
        published = ep;
        appended = refl;
        whole = λ opened. refl;
        prefix = ([], refl);
        few = λ opened. omega (arith, batch);
        settled = λ opened all. refl;
      };
      feeders = few;
      from = λ k d less. absurd (omega arith);
      numbers = λ g. omega arith;
      ends = sym (count_ended-none f);
    })

-- the Ends counted tell whether each feeder's End was taken
pub ended_test : (b : BuilderState) (n : ℕ) → IsBuilder b n → eqb n b.feeders ≡ all_ended b.feeders b.taken
ended_test b n keeps = ⊎_elim
    (λ (e : n ≡ b.feeders). eq-eqb n b.feeders e ∙ sym (all_ended-whole b.feeders b.taken (sym keeps.ends ∙ e)))
    (λ (ne : n ≡ b.feeders → ⊥). ne_eqb n b.feeders ne ∙ sym (all_ended-part b.feeders b.taken (let most = count_ended-most b.feeders b.taken in let is = keeps.ends in omega (arith, most, is, ne))))
    (cases_eq n b.feeders)

pub ended_of : (a b : BuilderState) (n : ℕ) → a ≡ b → IsBuilder a n → eqb n a.feeders ≡ all_ended b.feeders b.taken
ended_of a b n e keeps = ended_test a n keeps ∙ ap (λ (s : BuilderState). all_ended s.feeders s.taken) e

pub each_of : (test : Bool) (n : ℕ) (items : List Item) → test ≡ all_ended n items → IsTrue test ↔ EachEnded n items
each_of test n items e = (λ is. each_ended n items (sym e ∙ is), λ each. e ∙ each_tested n items each)

-- what is given back, by the fields
pub given_back : {T E : Type 0} (r : Result T E) (b : BuilderState) (es got : List Entry) (n : ℕ) → take n es ++ drop n es ≡ b.journal ++ b.pending → take n es ≡ b.journal → es ≡ take n es ++ drop n es
    → MatchResult r (λ _. got ≡ es) (λ _. got ≡ take n es) → MatchResult r (λ _. got ≡ b.journal ++ b.pending) (λ _. got ≡ b.journal)
given_back (Ok x) b es got n both front parts is = is ∙ (parts ∙ both)
given_back (Err x) b es got n both front parts is = is ∙ front

-- all entries taken, where the builder is not spent
pub given_whole : {T E : Type 0} (r : Result T E) (b : BuilderState) (got : List Entry) → KeepsJournal b → EachEnded b.feeders b.taken
    → MatchResult r (λ _. got ≡ b.journal ++ b.pending) (λ _. got ≡ b.journal) → b.spent ≡ false → got ≡ entries_in b.taken
given_whole (Ok x) b got keeps each is open_ = is ∙ keeps.whole open_
given_whole (Err x) b got keeps each is open_ =
    is ∙ (sym (append-nil b.journal) ∙ (ap (λ es. b.journal ++ es) (sym (keeps.settled open_ (each_tested b.feeders b.taken each))) ∙ keeps.whole open_))

-- and a prefix of them in each case
pub given_prefix : {T E : Type 0} (r : Result T E) (b : BuilderState) (got : List Entry) → KeepsJournal b → MatchResult r (λ _. got ≡ b.journal ++ b.pending) (λ _. got ≡ b.journal) → IsPrefix got (entries_in b.taken)
given_prefix (Ok x) b got keeps is = subst (λ (es : List Entry). IsPrefix es (entries_in b.taken)) (sym is) keeps.prefix
given_prefix (Err x) b got keeps is = subst (λ (es : List Entry). IsPrefix es (entries_in b.taken)) (sym is) (IsPrefix-then b.journal (b.journal ++ b.pending) (entries_in b.taken) (b.pending, refl) keeps.prefix)

-- what was published of what was appended is a prefix of what was taken
pub given_up_within : {T E : Type 0} (r : Result T E) (IsOf : E → Type 0) (points : E → List Point) (b : BuilderState) → KeepsJournal b → IfErr r (λ e. IsOf e × IsPrefix (points e) b.appended)
    → IfErr r (λ e. IsOf e × IsPrefix (points e) (entry_points (entries_in b.taken)))
given_up_within (Ok x) IsOf points b keeps is = tt
given_up_within (Err e) IsOf points b keeps is = (
  is.0,
  IsPrefix-then (points e) b.appended (entry_points (entries_in b.taken)) is.1
      (subst (λ (l : List Point). IsPrefix l (entry_points (entries_in b.taken))) (sym keeps.appended) (IsPrefix-entry_points (b.journal ++ b.pending) (entries_in b.taken) keeps.prefix)),
)
