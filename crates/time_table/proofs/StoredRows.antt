-- Rows as they are stored: the list that contracts see is the stored one, row by row.
use Rattle.std.specs.Prelude.{Option, option_map, slice_get}
use Rattle.std.proofs.Common.{◌≡◌, ℕ, zero, suc, ◌<◌, ◌≤◌, List, [], ◌∷◌, ◌++◌, length, take, drop, map, set, get_or, All, refl, sym, ap, subst, ◌∙◌, arith}
use Rattle.std.specs.List.{insert, remove}
use Rattle.std.proofs.lemmas.List.{map-append, map-set, take-map, drop-map, length-map, get_or-map}
use Rattle.std.proofs.lemmas.List.Elements.{All-map, All-weaker}
use Rattle.std.proofs.lemmas.Option.{slice_get-map}
use Rattle.probe_core.specs.Places.{RisesBy, IsPlace, item_before}
use Rattle.time_table.specs.declared.row.Row.{Row}
use Rattle.time_table.specs.Totals.{row_bin}

pub stored_read : {X : Type 0} (f : X → Row) (xs : List X) (rows : List Row) (i : ℕ) (x : X) (row : Row) → map f xs ≡ rows → i < length rows → x ≡ get_or xs i x → row ≡ f x → row ≡ get_or rows i row
stored_read f xs rows i x row is within at seen =
    let long : length rows ≡ length xs = ap length (sym is) ∙ length-map xs f in
    seen ∙ ap f at ∙ sym (get_or-map f xs i x row (omega (arith, within, long))) ∙ ap (λ ys. get_or ys i row) is

pub stored_insert : {X : Type 0} (f : X → Row) (xs ys : List X) (rows : List Row) (i : ℕ) (x : X) (row : Row) → map f xs ≡ rows → f x ≡ row → ys ≡ insert xs i x → map f ys ≡ insert rows i row
stored_insert f xs ys rows i x row is seen put =
    ap (map f) put
    ∙ map-append f (take i xs) (x ∷ drop i xs)
    ∙ ap (λ zs. zs ++ f x ∷ map f (drop i xs)) (sym (take-map f i xs))
    ∙ ap (λ zs. take i (map f xs) ++ f x ∷ zs) (sym (drop-map f i xs))
    ∙ ap (λ r. insert (map f xs) i r) seen
    ∙ ap (λ zs. insert zs i row) is

map-remove : {X : Type 0} (f : X → Row) (xs : List X) (i : ℕ) → map f (remove xs i) ≡ remove (map f xs) i
map-remove f [] zero = refl
map-remove f [] (suc i) = refl
map-remove f (x ∷ xs) zero = refl
map-remove f (x ∷ xs) (suc i) = ap (λ zs. f x ∷ zs) (map-remove f xs i)

pub stored_remove : {X : Type 0} (f : X → Row) (xs ys : List X) (rows : List Row) (i : ℕ) → map f xs ≡ rows → ys ≡ remove xs i → map f ys ≡ remove rows i
stored_remove f xs ys rows i is put = ap (map f) put ∙ map-remove f xs i ∙ ap (λ zs. remove zs i) is

pub stored_set : {X : Type 0} (f : X → Row) (xs ys : List X) (rows : List Row) (i : ℕ) (x : X) (row : Row) → map f xs ≡ rows → f x ≡ row → ys ≡ set xs i x → map f ys ≡ set rows i row
stored_set f xs ys rows i x row is seen put = ap (map f) put ∙ map-set f xs i x ∙ ap (λ r. set (map f xs) i r) seen ∙ ap (λ zs. set zs i row) is

-- stored rows rise by their keys where the rows that are seen rise by their bins
pub stored_rises : {X : Type 0} (f : X → Row) (key : X → ℕ) → ((x : X) → key x ≡ (f x).bin) → (xs : List X) (rows : List Row) → map f xs ≡ rows → RisesBy row_bin rows → RisesBy key xs
stored_rises f key by xs rows is rise i j d less within =
    let long : length rows ≡ length xs = ap length (sym is) ∙ length-map xs f in
    let r = rise i j (f d) less (omega (arith, within, long)) in
    let a : (get_or rows i (f d)).bin ≡ (f (get_or xs i d)).bin = ap (λ zs. (get_or zs i (f d)).bin) (sym is) ∙ ap row_bin (get_or-map f xs i d (f d) (omega (arith, less, within))) in
    let b : (get_or rows j (f d)).bin ≡ (f (get_or xs j d)).bin = ap (λ zs. (get_or zs j (f d)).bin) (sym is) ∙ ap row_bin (get_or-map f xs j d (f d) within) in
    omega (arith, r, a, b, by (get_or xs i d), by (get_or xs j d))

-- a place among stored rows is one among the rows that are seen
pub stored_place : {X : Type 0} (f : X → Row) (key : X → ℕ) → ((x : X) → key x ≡ (f x).bin) → (from : ℕ) (xs : List X) (rows : List Row) (i : ℕ) → map f xs ≡ rows → IsPlace key from xs i → IsPlace row_bin from rows i
stored_place f key by from xs rows i is place =
    subst (λ (zs : List Row). IsPlace row_bin from zs i) is (record {
      within = let long = length-map xs f in omega (arith, long, place.within);
      lesser = subst (All (λ (r : Row). r.bin < from)) (sym (take-map f i xs)) (All-map (λ (r : Row). r.bin < from) f (take i xs) (All-weaker (λ x. key x < from) (λ x. (f x).bin < from) (λ x less. subst (λ n. n < from) (by x) less) (take i xs) place.lesser));
      others = subst (All (λ (r : Row). from ≤ r.bin)) (sym (drop-map f i xs)) (All-map (λ (r : Row). from ≤ r.bin) f (drop i xs) (All-weaker (λ x. from ≤ key x) (λ x. from ≤ (f x).bin) (λ x less. subst (λ n. from ≤ n) (by x) less) (drop i xs) place.others));
    })

pub stored_before : {X : Type 0} (f : X → Row) (xs : List X) (rows : List Row) (i : ℕ) (o : Option X) (r : Option Row) → map f xs ≡ rows → o ≡ item_before xs i → r ≡ option_map f o → r ≡ item_before rows i
stored_before f xs rows zero o r is at seen = seen ∙ ap (option_map f) at
stored_before f xs rows (suc i) o r is at seen = seen ∙ ap (option_map f) at ∙ sym (slice_get-map f xs i) ∙ ap (λ zs. slice_get zs i) is

pub stored_first : {X : Type 0} (f : X → Row) (xs : List X) (rows : List Row) (i : ℕ) (o : Option X) (r : Option Row) → map f xs ≡ rows → o ≡ slice_get xs i → r ≡ option_map f o → r ≡ slice_get rows i
stored_first f xs rows i o r is at seen = seen ∙ ap (option_map f) at ∙ sym (slice_get-map f xs i) ∙ ap (λ zs. slice_get zs i) is
