-- Laws of the totals before each of some ends.
use Rattle.std.proofs.Common.{◌≡◌, ℕ, ◌+◌, ◌*◌, List, [], ◌∷◌, map, refl}
use Rattle.std.specs.List.{range_with_len}
use Rattle.cube_view.specs.Bag.{amount}
use Rattle.cube_view.specs.Found.{totals_before}
use Rattle.cube_view.specs.Places.{is_before}
use Rattle.cube_view.specs.Points.{Point}
use Rattle.cube_view.specs.declared.address.Address.{Address}
use Rattle.cube_view.specs.declared.schema.Schema.{Schema}

-- functions that give the same for each number give the same lists
map-alike : (f g : ℕ → ℕ) → ((k : ℕ) → f k ≡ g k) → (ks : List ℕ) → map f ks ≡ map g ks
map-alike f g same [] = refl
map-alike f g same (k ∷ ks) = let first = same k in let rest = map-alike f g same ks in cc

-- what counts before every end what the list has there gives the list's totals
pub totals-alike : (z : Schema) (a : Address) (h : List Point) (f : ℕ → ℕ) → ((e : ℕ) → f e ≡ amount (is_before z a e) h) → (from wide n : ℕ) → map (λ k. f (from + k * wide)) (range_with_len 0 n) ≡ totals_before z a from wide n h
totals-alike z a h f same from wide n =
    map-alike (λ k. f (from + k * wide)) (λ k. amount (is_before z a (from + k * wide)) h) (λ k. same (from + k * wide)) (range_with_len 0 n)
