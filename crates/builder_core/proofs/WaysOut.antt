-- What each way out of taking an item leaves.
use Rattle.std.proofs.Common.{◌≡◌, ℕ, ◌+◌, ◌≤◌, ◌<◌, eqb, eq-eqb, ne_eqb, Bool, true, false, true≢false, not, ◌&&◌, cond, [], ◌∷◌, ◌++◌, length, sym, refl, ap, ◌∙◌, subst, inl, inr, arith}
use Rattle.std.specs.Prelude.{IsTrue, nat_lt, Result, Ok, Err}
use Rattle.std.proofs.Math.Bool.{and-false}
use Rattle.std.proofs.lemmas.Bool.{lt-ltb}
use Rattle.world_core.specs.declared.entry.Entry.{Entry}
use Rattle.feed_queue.specs.declared.item.Item.{Item}
use Rattle.feed_queue.specs.declared.item.Item.TheVariants.{One, End}
use Rattle.builder_core.specs.Builder.{BuilderState, MayBeTaken, IsBuilder}
use Rattle.builder_core.specs.Endings.{all_ended}
use Rattle.builder_core.specs.Taking.{having_appended, having_published, having_spent, having_taken, fills_batch, IsSameRun, IsTaking}
use Rattle.builder_core.specs.declared.taken.Taken.{Taken}
use Rattle.builder_core.specs.declared.taken.Taken.TheVariants.{Kept, Published, LastEnd}
use Rattle.builder_core.proofs.BuilderRule.{counting, IsNext, is_next}

-- what leaves feeders, batch and pair as they are
same_run : (b left after : BuilderState) → after ≡ left → IsSameRun b left → IsSameRun b after
same_run b left after e same = subst (IsSameRun b) (sym e) same

module _ (b after : BuilderState) (e : Entry) where
  same-appended : after ≡ counting (having_appended b e) (One e) → IsSameRun b after
  same-appended left = same_run b _ after left (record { feeders = refl; batch = refl; book = refl; schema = refl; viewers = refl })

  same-published : after ≡ counting (having_published (having_appended b e)) (One e) → IsSameRun b after
  same-published left = same_run b _ after left (record { feeders = refl; batch = refl; book = refl; schema = refl; viewers = refl })

  same-unpublished : after ≡ having_spent (having_appended b e) (One e) → IsSameRun b after
  same-unpublished left = same_run b _ after left (record { feeders = refl; batch = refl; book = refl; schema = refl; viewers = refl })

module _ (b after : BuilderState) (f m : ℕ) where
  same-ended : after ≡ counting b (End f m) → IsSameRun b after
  same-ended left = same_run b _ after left (record { feeders = refl; batch = refl; book = refl; schema = refl; viewers = refl })

  same-ended_published : after ≡ counting (having_published b) (End f m) → IsSameRun b after
  same-ended_published left = same_run b _ after left (record { feeders = refl; batch = refl; book = refl; schema = refl; viewers = refl })

  same-ended_spent : after ≡ having_spent b (End f m) → IsSameRun b after
  same-ended_spent left = same_run b _ after left (record { feeders = refl; batch = refl; book = refl; schema = refl; viewers = refl })

-- the same of the value that the fields are seen as
pub next_of : (a b : BuilderState) (i : Item) → a ≡ b → MayBeTaken b i → IsNext a i
next_of a b i e may = is_next a i (subst (λ x. MayBeTaken x i) (sym e) may)

pub taking_of : {E : Type 0} (a b after : BuilderState) (i : Item) (r : Result Taken E) → a ≡ b → IsTaking a i r after → IsTaking b i r after
taking_of a b after i r e taking = subst (λ x. IsTaking x i r after) e taking

fills-not : (b : BuilderState) → length b.pending + 1 < b.batch → fills_batch b ≡ false
fills-not b less = ap (λ t. not b.spent && t) (ne_eqb (length b.pending + 1) b.batch (λ (e : length b.pending + 1 ≡ b.batch). omega arith)) ∙ and-false (not b.spent)

-- one entry more is as many as are published at once
filled : (b : BuilderState) (k : ℕ) → IsBuilder b k → b.spent ≡ false → b.batch ≤ length b.pending + 1 → fills_batch b ≡ true
filled b k keeps open_ enough =
    let few = keeps.journal.few open_ in
    ap (λ s. not s && eqb (length b.pending + 1) b.batch) open_ ∙ eq-eqb (length b.pending + 1) b.batch (omega (arith, few, enough))

undropped : {A : Type 0} (spent : Bool) (entry : Bool) → spent ≡ false → IsTrue (spent && entry) → A
undropped spent entry open_ dropped = absurd (true≢false (sym dropped ∙ ap (λ s. s && entry) open_))

module _ {E : Type 0} (b after : BuilderState) (k : ℕ) (e : Entry) (keeps : IsBuilder b k) where
  -- an entry that is pending
  pub takes-kept : b.spent ≡ false → length b.pending + 1 < b.batch → after ≡ counting (having_appended b e) (One e) → IsTaking {E = E} b (One e) (Ok Kept) after
  takes-kept open_ less left = let part = fills-not b less in record {
    counted = ap (λ (s : BuilderState). s.taken) left;
    same = same-appended b after e left;
    took = (
      ap (λ t. cond t (Published (length (having_taken b (One e)).journal)) Kept) (sym part),
      left ∙ ap (λ t. record (cond t (having_published (having_appended b e)) (having_appended b e)) { taken = b.taken ++ One e ∷ [] }) (sym part),
    );
    refused = tt;
    dropped = undropped b.spent true open_;
  }

  -- an entry that is published with all that were pending
  pub takes-published : (n : ℕ) → b.spent ≡ false → b.batch ≤ length b.pending + 1 → n ≡ length after.journal → after ≡ counting (having_published (having_appended b e)) (One e) → IsTaking {E = E} b (One e) (Ok (Published n)) after
  takes-published n open_ enough count left =
      let full = filled b k keeps open_ enough in
      let is : after ≡ having_taken b (One e) = left ∙ ap (λ t. record (cond t (having_published (having_appended b e)) (having_appended b e)) { taken = b.taken ++ One e ∷ [] }) (sym full) in
      record {
        counted = ap (λ (s : BuilderState). s.taken) left;
        same = same-published b after e left;
        took = (
          ap Published (count ∙ ap (λ (s : BuilderState). length s.journal) is) ∙ ap (λ t. cond t (Published (length (having_taken b (One e)).journal)) Kept) (sym full),
          is,
        );
        refused = tt;
        dropped = undropped b.spent true open_;
      }

  -- an entry whose publication was refused
  pub takes-unpublished : (err : E) → b.spent ≡ false → b.batch ≤ length b.pending + 1 → after ≡ having_spent (having_appended b e) (One e) → IsTaking b (One e) (Err err) after
  takes-unpublished err open_ enough left = record {
    counted = ap (λ (s : BuilderState). s.taken) left;
    same = same-unpublished b after e left;
    took = tt;
    refused = record { wanted = refl; left = inr (filled b k keeps open_ enough, left) };
    dropped = λ spent. refl;
  }

undropped_end : {A : Type 0} (spent : Bool) → IsTrue (spent && false) → A
undropped_end spent dropped = absurd (true≢false (sym dropped ∙ and-false spent))

module _ {E : Type 0} (b after : BuilderState) (k f m : ℕ) (keeps : IsBuilder b k) where
  -- an End after which others are missing
  pub takes-end : all_ended b.feeders (b.taken ++ End f m ∷ []) ≡ false → after ≡ counting b (End f m) → IsTaking {E = E} b (End f m) (Ok Kept) after
  takes-end part left = record {
    counted = ap (λ (s : BuilderState). s.taken) left;
    same = same-ended b after f m left;
    took = (
      ap (λ t. cond t (LastEnd (length (having_taken b (End f m)).journal)) Kept) (sym part),
      left ∙ sym (ap (λ t. record (cond (not b.spent && t) (having_published b) b) { taken = b.taken ++ End f m ∷ [] }) part ∙ ap (λ t. record (cond t (having_published b) b) { taken = b.taken ++ End f m ∷ [] }) (and-false (not b.spent))),
    );
    refused = tt;
    dropped = undropped_end b.spent;
  }

  lasts : (n : ℕ) → all_ended b.feeders (b.taken ++ End f m ∷ []) ≡ true → n ≡ length after.journal → IsSameRun b after → after ≡ having_taken b (End f m) → IsTaking {E = E} b (End f m) (Ok (LastEnd n)) after
  lasts n all count same is = record {
    counted = ap (λ (s : BuilderState). s.taken) is;
    same = same;
    took = (ap LastEnd (count ∙ ap (λ (s : BuilderState). length s.journal) is) ∙ ap (λ t. cond t (LastEnd (length (having_taken b (End f m)).journal)) Kept) (sym all), is);
    refused = tt;
    dropped = undropped_end b.spent;
  }

  -- the last End to a builder that is spent
  pub takes-last_spent : (n : ℕ) → b.spent ≡ true → all_ended b.feeders (b.taken ++ End f m ∷ []) ≡ true → n ≡ length after.journal → after ≡ counting b (End f m) → IsTaking {E = E} b (End f m) (Ok (LastEnd n)) after
  takes-last_spent n spent all count left = lasts n all count (same-ended b after f m left) (left ∙ sym (ap (λ s. record (cond (not s && all_ended b.feeders (b.taken ++ End f m ∷ [])) (having_published b) b) { taken = b.taken ++ End f m ∷ [] }) spent))

  -- the last End, with what was pending published
  pub takes-last : (n : ℕ) → b.spent ≡ false → all_ended b.feeders (b.taken ++ End f m ∷ []) ≡ true → n ≡ length after.journal → after ≡ counting (having_published b) (End f m) → IsTaking {E = E} b (End f m) (Ok (LastEnd n)) after
  takes-last n open_ all count left = lasts n all count (same-ended_published b after f m left)
      (left ∙ sym (ap (λ s. record (cond (not s && all_ended b.feeders (b.taken ++ End f m ∷ [])) (having_published b) b) { taken = b.taken ++ End f m ∷ [] }) open_ ∙ ap (λ t. record (cond t (having_published b) b) { taken = b.taken ++ End f m ∷ [] }) all))

  -- the last End, whose publication was refused
  pub takes-last_refused : (err : E) → b.spent ≡ false → all_ended b.feeders (b.taken ++ End f m ∷ []) ≡ true → 0 < length b.pending → after ≡ having_spent b (End f m) → IsTaking b (End f m) (Err err) after
  takes-last_refused err open_ all some left = record {
    counted = ap (λ (s : BuilderState). s.taken) left;
    same = same-ended_spent b after f m left;
    took = tt;
    refused = record {
      wanted = ap (λ s. not s && all_ended b.feeders (b.taken ++ End f m ∷ []) && nat_lt 0 (length b.pending)) open_
          ∙ (ap (λ t. t && nat_lt 0 (length b.pending)) all ∙ positive (length b.pending) some);
      left = inl left;
    };
    dropped = λ spent. refl;
  }
    where
      positive : (k : ℕ) → 0 < k → nat_lt 0 k ≡ true
      positive k some = lt-ltb 0 k some
