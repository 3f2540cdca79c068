-- A draft of which no member is out of its range.
use Rattle.std.proofs.Common.{◌≡◌, Bool, true, false, cond, not, List, [], ◌∷◌, find, Some, None, refl}
use Rattle.std.specs.List.{AllByRecursion}
use Rattle.std.proofs.lemmas.Bool.{not-false}
use Rattle.cube_schema.specs.declared.draft.Draft.{Draft}
use Rattle.cube_schema.specs.declared.member.Member.TheVariants.{Asks, Batch, Categories, Depth, Feeds, Finals, Journal, Version, Weight, Width}
use Rattle.cube_schema.specs.Members.{plan_members}
use Rattle.cube_schema.specs.Ranges.{member_in_range, first_out_of_range}

-- where nothing is found, each element fails the test
find_none : {A : Type 0} (p : A → Bool) (xs : List A) → find p xs ≡ None → AllByRecursion (λ x. p x ≡ false) xs
find_none p [] e = tt
find_none p (x ∷ xs) e = here (find_none p xs) (p x) refl e
  where
    here : (find p xs ≡ None → AllByRecursion (λ y. p y ≡ false) xs) → (b : Bool) → p x ≡ b → cond b (Some x) (find p xs) ≡ None → (p x ≡ false) × AllByRecursion (λ y. p y ≡ false) xs
    here later true is e = absurd cc
    here later false is e = (is, later e)

-- each member of the draft is in its range
pub record AreInRange (draft : Draft) : Type 0 where
  pub asks : member_in_range draft Asks ≡ true
  pub batch : member_in_range draft Batch ≡ true
  pub categories : member_in_range draft Categories ≡ true
  pub depth : member_in_range draft Depth ≡ true
  pub feeds : member_in_range draft Feeds ≡ true
  pub finals : member_in_range draft Finals ≡ true
  pub journal : member_in_range draft Journal ≡ true
  pub version : member_in_range draft Version ≡ true
  pub weight : member_in_range draft Weight ≡ true
  pub width : member_in_range draft Width ≡ true

pub are_in_range : (draft : Draft) → first_out_of_range draft ≡ None → AreInRange draft
unfolding first_out_of_range
are_in_range draft e =
    let each = find_none (λ m. not (member_in_range draft m)) plan_members e in
    record {
      asks = not-false _ each.0;
      batch = not-false _ each.1.0;
      categories = not-false _ each.1.1.0;
      depth = not-false _ each.1.1.1.0;
      feeds = not-false _ each.1.1.1.1.0;
      finals = not-false _ each.1.1.1.1.1.0;
      journal = not-false _ each.1.1.1.1.1.1.0;
      version = not-false _ each.1.1.1.1.1.1.1.1.0;
      weight = not-false _ each.1.1.1.1.1.1.1.1.1.0;
      width = not-false _ each.1.1.1.1.1.1.1.1.1.1.0;
    }
