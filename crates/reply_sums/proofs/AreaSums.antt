-- The rows of two maps, added along one list of tiles and then another.
use Rattle.std.proofs.Common.{◌≡◌, ℕ, zero, suc, ◌+◌, ◌-◌, Bool, true, false, ◌&&◌, leb, ⊎_elim, List, [], ◌∷◌, ◌++◌, length, map, drop, refl, sym, ◌∙◌, ap, append_assoc, arith}
use Rattle.std.specs.List.{cons_option, flat_map, range_with_len}
use Rattle.std.specs.Prelude.{Option, Some, None, if◌then◌else◌}
use Rattle.std.proofs.lemmas.Bool.{ne_eqb}
use Rattle.std.proofs.lemmas.Bool.Decides.{leb_tells}
use Rattle.std.proofs.lemmas.Grind.{flat_map-append}
use Rattle.std.proofs.lemmas.List.{append-nil, drop_all, drop_more}
use Rattle.std.proofs.lemmas.List.FromFn.{map-range_with_len_more}
use Rattle.cube_view.specs.Places.{longer_tile}
use Rattle.cube_view.specs.declared.address.Tile.{Tile}
use Rattle.query_syntax.specs.TileOrder.{quadrants, tiles_inside}
use Rattle.query_syntax.specs.declared.table.RowOut.{RowOut}
use Rattle.reply_sums.specs.Areas.{after_head, areas_of_both, head_total, is_none_left, left_after, row_of_total, sum_areas}

-- an item, if there is one, before two lists
cons_option-append : {X : Type 0} (o : Option X) (xs ys : List X) → cons_option o xs ++ ys ≡ cons_option o (xs ++ ys)
cons_option-append None xs ys = refl
cons_option-append (Some x) xs ys = refl

pub left-append : (ts us : List Tile) (rows : List RowOut) → left_after (ts ++ us) rows ≡ left_after us (left_after ts rows)
unfolding left_after
left-append [] us rows = refl
left-append (t ∷ ts) us rows = left-append ts us (after_head t rows)

pub areas-append : (ts us : List Tile) (rows others : List RowOut) → areas_of_both (ts ++ us) rows others ≡ areas_of_both ts rows others ++ areas_of_both us (left_after ts rows) (left_after ts others)
unfolding left_after areas_of_both
areas-append [] us rows others = refl
areas-append (t ∷ ts) us rows others =
    ap (cons_option (row_of_total t (head_total t rows + head_total t others))) (areas-append ts us (after_head t rows) (after_head t others))
    ∙ sym (cons_option-append (row_of_total t (head_total t rows + head_total t others)) (areas_of_both ts (after_head t rows) (after_head t others)) (areas_of_both us (left_after ts (after_head t rows)) (left_after ts (after_head t others))))

pub left-one : (t : Tile) (rows : List RowOut) → left_after (t ∷ []) rows ≡ after_head t rows
unfolding left_after
left-one t rows = refl

pub areas-one : (t : Tile) (rows others : List RowOut) → areas_of_both (t ∷ []) rows others ≡ cons_option (row_of_total t (head_total t rows + head_total t others)) []
unfolding areas_of_both
areas-one t rows others = refl

pub left-none : (rows : List RowOut) → left_after [] rows ≡ rows
unfolding left_after
left-none rows = refl

pub areas-none : (rows others : List RowOut) → areas_of_both [] rows others ≡ []
unfolding areas_of_both
areas-none rows others = refl

-- the tiles of one quadrant more
pub tiles_more : (inside : Tile → List Tile) (at : ℕ → Tile) (n : ℕ) → flat_map inside (map at (range_with_len 0 (n + 1))) ≡ flat_map inside (map at (range_with_len 0 n)) ++ inside (at n)
tiles_more inside at n =
    ap (flat_map inside) (map-range_with_len_more at 0 n n (omega arith))
    ∙ (flat_map-append inside (map at (range_with_len 0 n)) (at n ∷ [])
    ∙ ap (λ last. flat_map inside (map at (range_with_len 0 n)) ++ last) (append-nil (inside (at n))))

-- the tiles of one quadrant are a part of those of all
pub tiles_part : (inside : Tile → List Tile) (at : ℕ → Tile) (n k : ℕ) → (vs : List Tile) × (flat_map inside (map at (range_with_len 0 (n + 1 + k))) ≡ flat_map inside (map at (range_with_len 0 n)) ++ (inside (at n) ++ vs))
tiles_part inside at n zero =
    let e : n + 1 + 0 ≡ n + 1 = omega arith in
    ([], ap (λ m. flat_map inside (map at (range_with_len 0 m))) e ∙ (tiles_more inside at n ∙ ap (λ last. flat_map inside (map at (range_with_len 0 n)) ++ last) (sym (append-nil (inside (at n))))))
tiles_part inside at n (suc k) =
    let rest = tiles_part inside at n k in
    let e : n + 1 + suc k ≡ n + 1 + k + 1 = omega arith in
    let last = inside (at (n + 1 + k)) in
    let so_far = flat_map inside (map at (range_with_len 0 n)) in (
      rest.0 ++ last,
      ap (λ m. flat_map inside (map at (range_with_len 0 m))) e
          ∙ (tiles_more inside at (n + 1 + k)
          ∙ (ap (λ f. f ++ last) rest.1
          ∙ (append_assoc so_far (inside (at n) ++ rest.0) last
          ∙ ap (λ f. so_far ++ f) (append_assoc (inside (at n)) rest.0 last)))),
    )

-- What has come of the rows along the tiles so far
pub record HasAdded (ts : List Tile) (b r o b' r' o' : List RowOut) : Type 0 where
  pub sums : b' ≡ b ++ areas_of_both ts r o
  pub rows : r' ≡ left_after ts r
  pub others : o' ≡ left_after ts o

-- and along some tiles more
pub added_more : (ts us vs : List Tile) (b r o s r' o' s' r'' o'' : List RowOut) → vs ≡ ts ++ us → HasAdded ts b r o s r' o' → HasAdded us s r' o' s' r'' o'' → HasAdded vs b r o s' r'' o''
added_more ts us vs b r o s r' o' s' r'' o'' is first second = record {
  sums =
      second.sums
      ∙ ap (λ x. x ++ areas_of_both us r' o') first.sums
      ∙ append_assoc b (areas_of_both ts r o) (areas_of_both us r' o')
      ∙ (λ i. b ++ (areas_of_both ts r o ++ areas_of_both us (first.rows i) (first.others i)))
      ∙ ap (λ x. b ++ x) (sym (areas-append ts us r o))
      ∙ ap (λ x. b ++ areas_of_both x r o) (sym is);
  rows = second.rows ∙ ap (left_after us) first.rows ∙ sym (left-append ts us r) ∙ ap (λ x. left_after x r) (sym is);
  others = second.others ∙ ap (left_after us) first.others ∙ sym (left-append ts us o) ∙ ap (λ x. left_after x o) (sym is);
}

-- along no tile nothing has
pub added_none : (b r o : List RowOut) → HasAdded [] b r o b r o
added_none b r o = record {
  sums = sym (append-nil b) ∙ ap (λ x. b ++ x) (sym (areas-none r o));
  rows = sym (left-none r);
  others = sym (left-none o);
}

-- rows from a place on are none exactly where the place is at the end
pub none_left : (rows : List RowOut) (n : ℕ) → leb (length rows) n ≡ is_none_left (drop n rows)
none_left rows n = ⊎_elim
    (λ (b, le). b ∙ sym (ap is_none_left (drop_all n rows le)))
    (λ (b, lt). b ∙ sym (ap is_none_left (drop_more rows n (RowOut.One 0) lt)))
    (leb_tells (length rows) n)

-- a tile without a total adds no row
pub push_none : (t : Tile) (rows others sums : List RowOut) → head_total t rows + head_total t others ≡ 0 → sums ≡ sums ++ areas_of_both (t ∷ []) rows others
push_none t rows others sums is = sym (append-nil sums) ∙ ap (λ x. sums ++ x) (sym (areas-one t rows others ∙ ap (λ n. cons_option (row_of_total t n) []) is))

-- and one with a total adds its own
pub push_some : (t : Tile) (rows others : List RowOut) → (head_total t rows + head_total t others ≡ 0 → ⊥) → areas_of_both (t ∷ []) rows others ≡ RowOut.Area t (head_total t rows + head_total t others) ∷ []
push_some t rows others is = areas-one t rows others ∙ ap (λ b. cons_option (if b then None else Some (RowOut.Area t (head_total t rows + head_total t others))) []) (ne_eqb (head_total t rows + head_total t others) 0 is)

-- the tiles inside a tile are those inside its quadrants
pub tiles_all : (levels : ℕ) (t : Tile) → (levels ≡ 0 → ⊥) → tiles_inside levels t ≡ flat_map (tiles_inside (levels - 1)) (map (longer_tile 1 t) (range_with_len 0 4))
tiles_all zero t is = absurd (is refl)
tiles_all (suc n) t is = let e : n ≡ suc n - 1 = omega arith in ap (λ k. flat_map (tiles_inside k) (quadrants t)) e

-- What is left once the tiles were gone through decides whether there is a sum
module _ (ts : List Tile) (rows others r o : List RowOut) (first : r ≡ left_after ts rows) (second : o ≡ left_after ts others) where
  found : (a b : Bool) → a ≡ is_none_left r → b ≡ is_none_left o → sum_areas ts rows others ≡ (if a && b then Some (areas_of_both ts rows others) else None)
  found a b ea eb = λ i. if sym (ea ∙ ap is_none_left first) i && sym (eb ∙ ap is_none_left second) i then Some (areas_of_both ts rows others) else None

  pub sum_found : (sums : List RowOut) → true ≡ is_none_left r → true ≡ is_none_left o → sums ≡ areas_of_both ts rows others → sum_areas ts rows others ≡ Some sums
  sum_found sums ea eb is = found true true ea eb ∙ ap (λ x. Some x) (sym is)

  pub first_left : false ≡ is_none_left r → sum_areas ts rows others ≡ None
  first_left ea = found false (is_none_left o) ea refl

  pub second_left : false ≡ is_none_left o → sum_areas ts rows others ≡ None
  second_left eb = found (is_none_left r) false refl eb ∙ never (is_none_left r)
    where
      never : (a : Bool) → (if a && false then Some (areas_of_both ts rows others) else None) ≡ None
      never true = refl
      never false = refl
