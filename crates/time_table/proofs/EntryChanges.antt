-- Entries with more or fewer records in a bin, where the entries are a list of parts.
use Rattle.std.proofs.Common.{◌≡◌, ℕ, ◌+◌, ◌-◌, ◌<◌, Bool, true, false, cond, eqb, List, [], ◌∷◌, ◌++◌, Option, None, All, nat_cmp, refl, sym, ap, inl, inr, ◌∙◌, arith}
use Rattle.std.specs.Option.{unwrap_or}
use Rattle.std.specs.Ordering.{eq_by_cmp}
use Rattle.std.specs.Cmp.{unsigned_tied}
use Rattle.std.specs.FinMap.{find, put}
use Rattle.std.proofs.lemmas.Bool.{cases_order, cases_eq, eq-eqb, ne_eqb, eqb-true}
use Rattle.std.proofs.lemmas.List.Elements.{All-head, All-tail}
use Rattle.time_table.specs.Places.{count_at, del, more, less}
use Rattle.time_table.proofs.Entries.{put_first, put_here, put_later, find_here, find_later, find_before}

abbrev Below : ℕ → List (ℕ × ℕ) → Type 0
Below bin es = All (λ (e : ℕ × ℕ). e.0 < bin) es

abbrev Past : ℕ → List (ℕ × ℕ) → Type 0
Past bin es = All (λ (e : ℕ × ℕ). bin < e.0) es

pub count_later : (bin x w : ℕ) (es : List (ℕ × ℕ)) → x < bin → count_at bin ((x, w) ∷ es) ≡ count_at bin es
count_later bin x w es under = ap (λ o. unwrap_or o 0) (find_later bin x w es under)

count_before' : (bin x w : ℕ) (es : List (ℕ × ℕ)) → bin < x → count_at bin ((x, w) ∷ es) ≡ count_at bin es
count_before' bin x w es over = ap (λ o. unwrap_or o 0) (find_before bin x w es over)

pub count_here : (bin x w : ℕ) (es : List (ℕ × ℕ)) → bin ≡ x → count_at bin ((x, w) ∷ es) ≡ w
count_here bin x w es same = ap (λ o. unwrap_or o 0) (find_here bin x w es same)

pub count_none : (bin : ℕ) (es : List (ℕ × ℕ)) → Past bin es → count_at bin es ≡ 0
count_none bin [] all = refl
count_none bin (e ∷ es) all =
    count_before' bin e.0 e.1 es (All-head (λ (e : ℕ × ℕ). bin < e.0) e es all) ∙ count_none bin es (All-tail (λ (e : ℕ × ℕ). bin < e.0) e es all)

del_ne : (bin x w : ℕ) (es : List (ℕ × ℕ)) → (x ≡ bin → ⊥) → del bin ((x, w) ∷ es) ≡ (x, w) ∷ del bin es
del_ne bin x w es ne = rw (ne_eqb x bin ne)

pub del_here : (bin x w : ℕ) (es : List (ℕ × ℕ)) → x ≡ bin → del bin ((x, w) ∷ es) ≡ del bin es
del_here bin x w es same = rw (eq-eqb x bin same)

pub del_past : (bin : ℕ) (es : List (ℕ × ℕ)) → Past bin es → del bin es ≡ es
del_past bin [] all = refl
del_past bin (e ∷ es) all =
    let over : bin < e.0 = All-head (λ (e : ℕ × ℕ). bin < e.0) e es all in
    del_ne bin e.0 e.1 es (λ same. omega arith) ∙ ap (λ zs. e ∷ zs) (del_past bin es (All-tail (λ (e : ℕ × ℕ). bin < e.0) e es all))

-- past entries of lesser bins
pub more_later : (bin n x w : ℕ) (es : List (ℕ × ℕ)) → x < bin → more bin n ((x, w) ∷ es) ≡ (x, w) ∷ more bin n es
more_later bin n x w es under =
    ap (λ k. put nat_cmp bin (k + n) ((x, w) ∷ es)) (count_later bin x w es under) ∙ put_later bin x (count_at bin es + n) w es under

same_head : (b : Bool) (e : ℕ × ℕ) (xs ys : List (ℕ × ℕ)) → cond b (e ∷ xs) (e ∷ ys) ≡ e ∷ cond b xs ys
same_head true e xs ys = refl
same_head false e xs ys = refl

pub less_later : (bin n x w : ℕ) (es : List (ℕ × ℕ)) → x < bin → less bin n ((x, w) ∷ es) ≡ (x, w) ∷ less bin n es
less_later bin n x w es under =
    ap (λ k. cond (eqb k n) (del bin ((x, w) ∷ es)) (put nat_cmp bin (k - n) ((x, w) ∷ es))) (count_later bin x w es under)
    ∙ ap (λ zs. cond (eqb (count_at bin es) n) zs (put nat_cmp bin (count_at bin es - n) ((x, w) ∷ es))) (del_ne bin x w es (λ same. omega arith))
    ∙ ap (λ zs. cond (eqb (count_at bin es) n) ((x, w) ∷ del bin es) zs) (put_later bin x (count_at bin es - n) w es under)
    ∙ same_head (eqb (count_at bin es) n) (x, w) (del bin es) (put nat_cmp bin (count_at bin es - n) es)

pub count_over : (bin : ℕ) (xs ys : List (ℕ × ℕ)) → Below bin xs → count_at bin (xs ++ ys) ≡ count_at bin ys
count_over bin [] ys all = refl
count_over bin (e ∷ xs) ys all =
    count_later bin e.0 e.1 (xs ++ ys) (All-head (λ (e : ℕ × ℕ). e.0 < bin) e xs all) ∙ count_over bin xs ys (All-tail (λ (e : ℕ × ℕ). e.0 < bin) e xs all)

pub more_over : (bin n : ℕ) (xs ys : List (ℕ × ℕ)) → Below bin xs → more bin n (xs ++ ys) ≡ xs ++ more bin n ys
more_over bin n [] ys all = refl
more_over bin n (e ∷ xs) ys all =
    more_later bin n e.0 e.1 (xs ++ ys) (All-head (λ (e : ℕ × ℕ). e.0 < bin) e xs all)
    ∙ ap (λ zs. e ∷ zs) (more_over bin n xs ys (All-tail (λ (e : ℕ × ℕ). e.0 < bin) e xs all))

pub less_over : (bin n : ℕ) (xs ys : List (ℕ × ℕ)) → Below bin xs → less bin n (xs ++ ys) ≡ xs ++ less bin n ys
less_over bin n [] ys all = refl
less_over bin n (e ∷ xs) ys all =
    less_later bin n e.0 e.1 (xs ++ ys) (All-head (λ (e : ℕ × ℕ). e.0 < bin) e xs all)
    ∙ ap (λ zs. e ∷ zs) (less_over bin n xs ys (All-tail (λ (e : ℕ × ℕ). e.0 < bin) e xs all))

-- in front of entries of greater bins
pub count_front : (bin : ℕ) (xs ys : List (ℕ × ℕ)) → Past bin ys → count_at bin (xs ++ ys) ≡ count_at bin xs
count_front bin [] ys all = count_none bin ys all
count_front bin (e ∷ xs) ys all =
    elim (cases_order bin e.0) [
      | inl same ↦ count_here bin e.0 e.1 (xs ++ ys) same ∙ sym (count_here bin e.0 e.1 xs same)
      | inr (inl under) ↦ count_before' bin e.0 e.1 (xs ++ ys) under ∙ count_front bin xs ys all ∙ sym (count_before' bin e.0 e.1 xs under)
      | inr (inr over) ↦ count_later bin e.0 e.1 (xs ++ ys) over ∙ count_front bin xs ys all ∙ sym (count_later bin e.0 e.1 xs over)
    ]

put_past : (bin v : ℕ) (ys : List (ℕ × ℕ)) → Past bin ys → put nat_cmp bin v ys ≡ (bin, v) ∷ ys
put_past bin v [] all = refl
put_past bin v (e ∷ ys) all = put_first bin e.0 v e.1 ys (All-head (λ (e : ℕ × ℕ). bin < e.0) e ys all)

put_front : (bin v : ℕ) (xs ys : List (ℕ × ℕ)) → Past bin ys → put nat_cmp bin v (xs ++ ys) ≡ put nat_cmp bin v xs ++ ys
put_front bin v [] ys all = put_past bin v ys all
put_front bin v (e ∷ xs) ys all =
    elim (cases_order bin e.0) [
      | inl same ↦ put_here bin e.0 v e.1 (xs ++ ys) same ∙ ap (λ zs. zs ++ ys) (sym (put_here bin e.0 v e.1 xs same))
      | inr (inl under) ↦ put_first bin e.0 v e.1 (xs ++ ys) under ∙ ap (λ zs. zs ++ ys) (sym (put_first bin e.0 v e.1 xs under))
      | inr (inr over) ↦ put_later bin e.0 v e.1 (xs ++ ys) over ∙ ap (λ zs. e ∷ zs) (put_front bin v xs ys all) ∙ ap (λ zs. zs ++ ys) (sym (put_later bin e.0 v e.1 xs over))
    ]

pub more_front : (bin n : ℕ) (xs ys : List (ℕ × ℕ)) → Past bin ys → more bin n (xs ++ ys) ≡ more bin n xs ++ ys
more_front bin n xs ys all =
    ap (λ k. put nat_cmp bin (k + n) (xs ++ ys)) (count_front bin xs ys all) ∙ put_front bin (count_at bin xs + n) xs ys all

del_front : (bin : ℕ) (xs ys : List (ℕ × ℕ)) → Past bin ys → del bin (xs ++ ys) ≡ del bin xs ++ ys
del_front bin [] ys all = del_past bin ys all
del_front bin (e ∷ xs) ys all =
    elim (cases_eq e.0 bin) [
      | inl same ↦ del_here bin e.0 e.1 (xs ++ ys) same ∙ del_front bin xs ys all ∙ ap (λ zs. zs ++ ys) (sym (del_here bin e.0 e.1 xs same))
      | inr ne ↦ del_ne bin e.0 e.1 (xs ++ ys) ne ∙ ap (λ zs. e ∷ zs) (del_front bin xs ys all) ∙ ap (λ zs. zs ++ ys) (sym (del_ne bin e.0 e.1 xs ne))
    ]

same_tail : (b : Bool) (xs zs ys : List (ℕ × ℕ)) → cond b (xs ++ ys) (zs ++ ys) ≡ cond b xs zs ++ ys
same_tail true xs zs ys = refl
same_tail false xs zs ys = refl

pub less_front : (bin n : ℕ) (xs ys : List (ℕ × ℕ)) → Past bin ys → less bin n (xs ++ ys) ≡ less bin n xs ++ ys
less_front bin n xs ys all =
    ap (λ k. cond (eqb k n) (del bin (xs ++ ys)) (put nat_cmp bin (k - n) (xs ++ ys))) (count_front bin xs ys all)
    ∙ ap (λ zs. cond (eqb (count_at bin xs) n) zs (put nat_cmp bin (count_at bin xs - n) (xs ++ ys))) (del_front bin xs ys all)
    ∙ ap (λ zs. cond (eqb (count_at bin xs) n) (del bin xs ++ ys) zs) (put_front bin (count_at bin xs - n) xs ys all)
    ∙ same_tail (eqb (count_at bin xs) n) (del bin xs) (put nat_cmp bin (count_at bin xs - n) xs) ys

tied : (q x : ℕ) → eq_by_cmp nat_cmp q x ≡ true → q ≡ x
tied q x e = eqb-true q x (sym (unsigned_tied q x) ∙ e)

untied : (q x : ℕ) → q ≡ x → eq_by_cmp nat_cmp q x ≡ true
untied q x e = unsigned_tied q x ∙ eq-eqb q x e

either_way : (b : Bool) (o : Option ℕ) → o ≡ cond b o o
either_way true o = refl
either_way false o = refl

-- what is found without a bin
pub find-del : (bin q : ℕ) (es : List (ℕ × ℕ)) → find nat_cmp q (del bin es) ≡ cond (eq_by_cmp nat_cmp q bin) None (find nat_cmp q es)
find-del bin q [] = either_way (eq_by_cmp nat_cmp q bin) None
find-del bin q (e ∷ es) =
    let rest = find-del bin q es in
    elim (cases_eq e.0 bin) [
      | inl same ↦
          elim (cases_eq q bin) [
            | inl at ↦ ap (find nat_cmp q) (del_here bin e.0 e.1 es same) ∙ rest ∙ ap (λ b. cond b None (find nat_cmp q es)) (untied q bin at) ∙ ap (λ b. cond b None (find nat_cmp q (e ∷ es))) (sym (untied q bin at))
            | inr off ↦
                let skip : find nat_cmp q (e ∷ es) ≡ find nat_cmp q es = elim (cases_order q e.0) [
                  | inl on ↦ absurd (off (on ∙ same))
                  | inr (inl under) ↦ find_before q e.0 e.1 es under
                  | inr (inr over) ↦ find_later q e.0 e.1 es over
                ] in
                ap (find nat_cmp q) (del_here bin e.0 e.1 es same) ∙ rest ∙ ap (cond (eq_by_cmp nat_cmp q bin) None) (sym skip)
          ]
      | inr ne ↦
          ap (find nat_cmp q) (del_ne bin e.0 e.1 es ne)
          ∙ elim (cases_order q e.0) [
            | inl on ↦
                let off : eq_by_cmp nat_cmp q bin ≡ false = unsigned_tied q bin ∙ ne_eqb q bin (λ at. ne (sym on ∙ at)) in
                find_here q e.0 e.1 (del bin es) on ∙ sym (find_here q e.0 e.1 es on) ∙ ap (λ b. cond b None (find nat_cmp q (e ∷ es))) (sym off)
            | inr (inl under) ↦ find_before q e.0 e.1 (del bin es) under ∙ rest ∙ ap (cond (eq_by_cmp nat_cmp q bin) None) (sym (find_before q e.0 e.1 es under))
            | inr (inr over) ↦ find_later q e.0 e.1 (del bin es) over ∙ rest ∙ ap (cond (eq_by_cmp nat_cmp q bin) None) (sym (find_later q e.0 e.1 es over))
          ]
    ]
