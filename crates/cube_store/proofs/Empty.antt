-- A cube of no points is a root alone.
use Rattle.std.proofs.Common.{◌≡◌, ℕ, zero, suc, ◌<◌, true, ◌↔◌, IsTrue, List, [], ◌∷◌, length, Some, None, Contains, refl, sym, ap, ◌∙◌, subst, arith, true≢false}
use Rattle.std.proofs.lemmas.List.Elements.{All-nil}
use Rattle.cube_view.specs.Places.{time_dim}
use Rattle.cube_view.specs.Points.{spot_of}
use Rattle.cube_view.specs.Validity.{sound}
use Rattle.cube_view.specs.Walks.{Step, down, SpotPath, dimension}
use Rattle.cube_view.specs.declared.schema.Schema.{Schema}
use Rattle.node_arena.specs.declared.link.Link.{Link}
use Rattle.node_arena.specs.Shape.{home_of, HasShape}
use Rattle.node_arena.specs.Slots.{Slot, proper, empty_node, link_of, slot_of, is_table}
use Rattle.node_arena.proofs.Links.{linked-lt}
use Rattle.proper_path.proofs.Grow.{node_empty}
use Rattle.cube_store.specs.Counted.{CountsLeast, CountsPoints}

root_alone : List Slot
root_alone = empty_node ∷ []

no_link : (i : ℕ) (e : Step) (l : Link) → link_of (empty_node ∷ []) i e ≡ Some l → ⊥
no_link zero e l h = let n : None ≡ Some l = sym (node_empty.no_link e) ∙ h in cc
no_link (suc i) e l h = let less = linked-lt (empty_node ∷ []) (suc i) e l h in absurd (omega (arith, less))

nothing_in : (q : SpotPath) → Contains [] q → ⊥
nothing_in q c = let l = c.1 in absurd (omega (arith, l))

no_table : (dims i : ℕ) → 1 < dims → i < 1 → (is_table (slot_of (empty_node ∷ []) i) ≡ true) ↔ (dimension (home_of ([] ∷ []) i) ≡ dims)
no_table dims zero more l = (λ t. absurd (true≢false (sym t)), λ d. absurd (omega (arith, d, more)))
no_table dims (suc i) more l = absurd (omega (arith, l))

empty_shape : (dims : ℕ) → 1 < dims → (lengths : List ℕ) → length lengths ≡ dims → HasShape dims (empty_node ∷ []) ([] ∷ []) []
empty_shape dims more lengths all = record {
  shaped = record {
    has_homes = record {
      owned = record {
        size = refl;
        some = omega arith;
        root = refl;
        distinct = λ i j li lj e. omega (arith, li, lj);
        owner = λ j p l. absurd (omega (arith, p, l));
        at_home = λ i j e h. absurd (no_link i e _ h);
      };
      finer = λ i j e h. absurd (no_link i e _ h);
    };
    has_tables = record { tables = λ i l. no_table dims i more l };
    holds = record {
      needed = λ i e l w. absurd (nothing_in w.spot w.is_in);
      wanted = λ i e l h. absurd (no_link i e l h);
      agrees = λ i e l h q c u. absurd (nothing_in q c);
    };
    counted = record { counts = λ i bin l t. absurd (no_tables i l t) };
  };
  shares = λ i label l O. absurd (no_link i (down label) l O.is);
  alike = record { lengths = lengths; all = all; same = λ q c. absurd (nothing_in q c) };
}
  where
    no_tables : (i : ℕ) → i < 1 → is_table (slot_of (empty_node ∷ []) i) ≡ true → ⊥
    no_tables zero l t = true≢false (sym t)
    no_tables (suc i) l t = absurd (omega (arith, l))

abbrev zeros : ℕ → List ℕ
zeros zero = []
zeros (suc n) = 0 ∷ zeros n

length-zeros : (n : ℕ) → length (zeros n) ≡ n
length-zeros zero = refl
length-zeros (suc n) = ap suc (length-zeros n)

pub counts_none : (z : Schema) (slots : List Slot) (root : ℕ) → slots ≡ empty_node ∷ [] → root ≡ 0 → CountsPoints z slots root 0 []
counts_none z slots root e top = record {
  homes = [] ∷ [];
  shape = subst (λ s. HasShape (time_dim z) s ([] ∷ []) []) (sym e) (empty_shape (time_dim z) (omega arith) (zeros (time_dim z)) (length-zeros (time_dim z)));
  at_top = top;
  all_sound = All-nil (λ p. IsTrue (sound z p));
  all_four = All-nil (λ p. length (spot_of p).values ≡ 4);
  number = refl;
}

-- and it is the least cube of none, since it has no link
pub least_none_counted : (z : Schema) (slots : List Slot) (root : ℕ) → slots ≡ empty_node ∷ [] → root ≡ 0 → CountsLeast z slots root 0 []
least_none_counted z slots root e top = record {
  counts = counts_none z slots root e top;
  least = λ i j step is F. no_link i step (proper j) (subst (λ (s : List Slot). link_of s i step ≡ Some (proper j)) e is);
}
