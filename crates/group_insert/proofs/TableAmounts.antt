-- A time table that takes amounts one after another.
use Rattle.std.proofs.Common.{◌≡◌, ℕ, ◌+◌, ◌<◌, true, cond, eqb, List, [], length, refl, sym, ◌∙◌, subst, arith}
use Rattle.node_arena.specs.Slots.{Slot, slot_of, count, is_table}
use Rattle.node_arena.specs.Calls.{table_add_many}
use Rattle.proper_path.specs.Changes.{IsCounted, IsAdded}
use Rattle.proper_path.proofs.Calls.{counts_more}
use Rattle.group_insert.specs.Added.{amount_in}

-- before the first point
pub added_none : (slots : List Slot) (i : ℕ) → i < length slots → is_table (slot_of slots i) ≡ true → IsAdded slots slots i (λ bin. amount_in [] bin)
added_none slots i lt t = record { size = refl; place = lt; kind = t; links = λ j f. refl; here = λ b. same b; old_count = λ j b n. refl; old_kind = λ j. refl }
  where
    same : (b : ℕ) → count (slot_of slots i) b ≡ count (slot_of slots i) b + 0
    same b = omega arith

-- one point more
pub added_more : (old mid new : List Slot) (i bin n : ℕ) (more next : ℕ → ℕ) → IsAdded old mid i more → new ≡ table_add_many mid i bin n → ((b : ℕ) → next b ≡ more b + cond (eqb bin b) n 0) → IsAdded old new i next
added_more old mid new i bin n more next A e sums = subst (λ z. IsAdded old z i next) (sym e) (record {
  size = C.size ∙ A.size;
  place = A.place;
  kind = A.kind;
  links = λ j f. C.links j f ∙ A.links j f;
  here = λ b. let x = C.here b in let y = A.here b in let z = sums b in omega (arith, x, y, z);
  old_count = λ j b d. C.old_count j b d ∙ A.old_count j b d;
  old_kind = λ j. C.old_kind j ∙ A.old_kind j;
})
  where
    C : IsCounted mid (table_add_many mid i bin n) i bin n
    C = counts_more mid i bin n (let a = A.place in let s = A.size in omega (arith, a, s)) (A.old_kind i ∙ A.kind)
