-- Laws of interleavings.
use Rattle.std.proofs.Common.{◌≡◌, ℕ, ◌+◌, ◌<◌, ◌≤◌, Bool, List, [], ◌∷◌, ◌++◌, All, length, refl, sym, subst, ap, ◌∙◌, arith}
use Rattle.std.specs.List.{sum, sum_by, flat_map, range_with_len}
use Rattle.std.proofs.Math.Seq.{take-append_seam}
use Rattle.std.proofs.lemmas.List.Elements.{All-take}
use Rattle.std.proofs.lemmas.List.Sums.{sum_by-cons, sum_by-append, sum-map}
use Rattle.std.proofs.lemmas.List.Concat.{length-flat_map}
use Rattle.std.proofs.lemmas.Simd.{map-map}
use Rattle.cube_view.specs.Bag.{gives, amount}
use Rattle.cube_view.specs.Points.{Point}
use Rattle.cube_view.specs.declared.spot.Spot.{Spot}
use Rattle.world_core.specs.Interleaving.{entries_of, entry_points, IsInterleaving, sum_of_feeders, lists_joined}
use Rattle.world_core.specs.InterleavingLaws.{PrefixesInterleave, CountsInterleave, ListsAreDetermined, AmountsInterleave, TablesInterleave}
use Rattle.world_core.specs.declared.entry.Entry.{Entry}
use Rattle.world_core.proofs.Entries.{entries_of-append, entry_points-numbered, length-entry_points, front_numbered, front_points}
use Rattle.world_core.proofs.FeederSums.{range_same, sum_by_feeders}
use Rattle.world_core.proofs.SameTables.{table-same}

IsInterleaving-front : (feeders : ℕ) (lists : ℕ → List Point) (front more : List Entry) → IsInterleaving feeders lists (front ++ more) → IsInterleaving feeders (λ f. entry_points (entries_of f front)) front
IsInterleaving-front feeders lists front more is = record {
  known = subst (All (λ (e : Entry). (1 ≤ e.feeder) × (e.feeder ≤ feeders))) (take-append_seam front more) (All-take (λ (e : Entry). (1 ≤ e.feeder) × (e.feeder ≤ feeders)) (length front) (front ++ more) is.known);
  each = λ f low high. front_numbered f 0 (entries_of f front) (entries_of f more) (lists f) (sym (entries_of-append f front more) ∙ is.each f low high);
}

-- a prefix of an interleaving is an interleaving of prefixes
pub prefixes_interleave : PrefixesInterleave
prefixes_interleave feeders lists front more is = (
  λ f. entry_points (entries_of f front),
  IsInterleaving-front feeders lists front more is,
  λ f low high. front_points f 0 (entries_of f front) (entries_of f more) (lists f) (sym (entries_of-append f front more) ∙ is.each f low high),
)

-- the entries determine the lists
pub lists_are_determined : ListsAreDetermined
lists_are_determined feeders lists others entries a b f low high =
    sym (entry_points-numbered f 0 (lists f)) ∙ (ap entry_points (sym (a.each f low high) ∙ b.each f low high) ∙ entry_points-numbered f 0 (others f))

-- a sum over the entries' points is a sum over the entries
sum_by-entry_points : (g : Point → ℕ) (entries : List Entry) → sum_by g (entry_points entries) ≡ sum_by (λ (e : Entry). g e.point) entries
sum_by-entry_points g entries = sym (sum-map g (entry_points entries)) ∙ (ap sum (map-map g (λ (e : Entry). e.point) entries) ∙ sum-map (λ (e : Entry). g e.point) entries)

-- a sum over the entries' points is the sum of the lists' sums
sums_interleave : (g : Point → ℕ) (feeders : ℕ) (lists : ℕ → List Point) (entries : List Entry) → IsInterleaving feeders lists entries → sum_by g (entry_points entries) ≡ sum_of_feeders feeders (λ f. sum_by g (lists f))
sums_interleave g feeders lists entries is =
    let own : (f : ℕ) → 1 ≤ f → f < 1 + feeders → sum_by (λ (e : Entry). g e.point) (entries_of f entries) ≡ sum_by g (lists f) = λ f low high.
    sym (sum_by-entry_points g (entries_of f entries)) ∙ ap (sum_by g) (ap entry_points (is.each f low (omega (arith, high))) ∙ entry_points-numbered f 0 (lists f)) in
    sum_by-entry_points g entries
    ∙ (sum_by_feeders (λ (e : Entry). g e.point) feeders entries is.known
    ∙ range_same (λ f. sum_by (λ (e : Entry). g e.point) (entries_of f entries)) (λ f. sum_by g (lists f)) 1 feeders own)

ones : {X : Type 0} (xs : List X) → length xs ≡ sum_by (λ _. 1) xs
ones [] = refl
ones (x ∷ xs) = let rest = ones xs in let a = sum_by-cons (λ _. 1) x xs in omega (arith, rest, a)

-- the entries are as many as the lists' points together
pub counts_interleave : CountsInterleave
counts_interleave feeders lists entries is =
    let same = range_same (λ f. length (lists f)) (λ f. sum_by (λ _. 1) (lists f)) 1 feeders (λ f low high. ones (lists f)) in
    ones entries ∙ (sym (sum_by-entry_points (λ _. 1) entries) ∙ (sums_interleave (λ _. 1) feeders lists entries is ∙ sym same))

-- an amount of the entries' points is the sum of the lists' amounts
pub amounts_interleave : AmountsInterleave
unfolding amount
amounts_interleave feeders lists entries is test = sums_interleave (gives test) feeders lists entries is

sum_by-flat_map : {X : Type 0} (g : Point → ℕ) (v : X → List Point) (xs : List X) → sum_by g (flat_map v xs) ≡ sum_by (λ x. sum_by g (v x)) xs
sum_by-flat_map g v [] = refl
sum_by-flat_map g v (x ∷ xs) =
    let rest = sum_by-flat_map g v xs in
    let a = sum_by-append g (v x) (flat_map v xs) in
    let b = sum_by-cons (λ y. sum_by g (v y)) x xs in
    omega (arith, rest, a, b)

amount-joined : (test : Spot → Bool) (feeders : ℕ) (lists : ℕ → List Point) → amount test (lists_joined feeders lists) ≡ sum_of_feeders feeders (λ f. amount test (lists f))
unfolding amount
amount-joined test feeders lists = sum_by-flat_map (gives test) lists (range_with_len 1 feeders)

-- a table over the entries' points is the table over the lists one after the other
pub tables_interleave : TablesInterleave
tables_interleave feeders lists entries is schema q = table-same schema q (entry_points entries) (lists_joined feeders lists)
    (λ test. amounts_interleave feeders lists entries is test ∙ sym (amount-joined test feeders lists))
    (length-entry_points entries ∙ (counts_interleave feeders lists entries is ∙ sym (length-flat_map lists (range_with_len 1 feeders))))
