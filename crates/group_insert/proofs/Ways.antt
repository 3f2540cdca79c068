-- The way of a visit, from step to step.
use Rattle.std.proofs.Common.{◌≡◌, ℕ, zero, suc, ◌+◌, ◌<◌, ◌≤◌, inl, inr, List, ◌∷◌, ◌++◌, Option, Some, None, length, get_or, refl, sym, ap, ap₂, ◌∙◌, subst, arith}
use Rattle.cube_view.specs.Paths.{value_step}
use Rattle.cube_view.specs.Walks.{Step, down, across, Walk, dimension}
use Rattle.node_arena.specs.Shape.{home_of}
use Rattle.node_arena.specs.Slots.{Slot}
use Rattle.proper_path.specs.Paths.{level_of}
use Rattle.group_insert.specs.Ways.{value_gone, way_from, IsOpenIn, IsRootOn, IsWayTo}

-- the way goes by the values of its dimensions alone
way_same : (old new : List (Option ℕ)) (f n : ℕ) → ((k : ℕ) → k ≤ f + n → value_gone new k ≡ value_gone old k) → way_from new f n ≡ way_from old f n
way_same old new f zero same = refl
way_same old new f (suc n) same = ap₂ (λ v w. across ∷ value_step v w) (same (f + suc n) (omega arith)) (way_same old new f n (λ k le. same k (omega (arith, le))))

-- the same way, as slots are added
pub way_kept : (old new : List Slot) (homes homes' : List Walk) (values : List (Option ℕ)) (roots : List ℕ) (level dim i : ℕ) → i < length old → length old ≤ length new → ((j : ℕ) → j < length old → home_of homes' j ≡ home_of homes j) → IsWayTo old homes values roots level dim i → IsWayTo new homes' values roots level dim i
way_kept old new homes homes' values roots level dim i lt le same W f n some e o = record {
  in_range = omega (arith, r.in_range, le);
  in_dim = ap dimension at ∙ r.in_dim;
  at_level = (λ x. ap level_of at ∙ r.at_level.0 x, λ x. ap level_of at ∙ r.at_level.1 x);
  leads = ap (λ z. across ∷ z) (same i lt) ∙ (r.leads ∙ ap (λ z. way_from values f n ++ across ∷ z) (sym at));
}
  where
    r : IsRootOn old homes values level f n (get_or roots f 0) i
    r = W f n some e o

    at : home_of homes' (get_or roots f 0) ≡ home_of homes (get_or roots f 0)
    at = same (get_or roots f 0) r.in_range

-- at a node of space the way begins
pub way_in_space : (slots : List Slot) (homes : List Walk) (values : List (Option ℕ)) (roots : List ℕ) (level i : ℕ) → i < length slots → dimension (home_of homes i) ≡ 1 → level_of (home_of homes i) ≡ level → get_or roots 1 0 ≡ i → IsWayTo slots homes values roots level 1 i
way_in_space slots homes values roots level i lt d l at f (suc n) some e o = absurd (omega (arith, some, e))
way_in_space slots homes values roots level i lt d l at f zero some e o = subst (λ r. IsRootOn slots homes values level f zero r i) (sym (ap (λ z. get_or roots z 0) one ∙ at)) (record {
  in_range = lt;
  in_dim = d ∙ sym one;
  at_level = (λ x. l, λ x. absurd (x one));
  leads = refl;
})
  where
    one : f ≡ 1
    one = omega (arith, e)

-- on to the content, in the next dimension
pub way_across : (slots : List Slot) (homes : List Walk) (values values' : List (Option ℕ)) (roots roots' : List ℕ) (level dim i j : ℕ) → 1 ≤ dim → dimension (home_of homes i) ≡ dim → j < length slots → home_of homes j ≡ across ∷ home_of homes i → value_gone values' (dim + 1) ≡ None → ((k : ℕ) → k ≤ dim → value_gone values' k ≡ value_gone values k) → get_or roots' (dim + 1) 0 ≡ j → ((k : ℕ) → k ≤ dim → get_or roots' k 0 ≡ get_or roots k 0) → IsWayTo slots homes values roots level dim i → IsWayTo slots homes values' roots' level (dim + 1) j
way_across slots homes values values' roots roots' level dim i j pos d lt at new same root others W f zero some e o =
    subst (λ r. IsRootOn slots homes values' level f zero r j) (sym (ap (λ z. get_or roots' z 0) last ∙ root)) (record {
      in_range = lt;
      in_dim = let x = ap dimension at in omega (arith, x, d, last);
      at_level = (λ x. absurd (omega (arith, x, last, pos)), λ x. ap level_of at);
      leads = refl;
    })
  where
    last : f ≡ dim + 1
    last = omega (arith, e)
way_across slots homes values values' roots roots' level dim i j pos d lt at new same root others W f (suc n) some e o =
    subst (λ x. IsRootOn slots homes values' level f (suc n) x j) (sym (others f (omega (arith, e)))) (record {
      in_range = r.in_range;
      in_dim = r.in_dim;
      at_level = r.at_level;
      leads = ap (λ z. across ∷ z) (at ∙ (r.leads ∙ ap (λ z. z ++ across ∷ home_of homes (get_or roots f 0)) (sym way)))
          ∙ ap (λ v. across ∷ (value_step v (way_from values' f n) ++ across ∷ home_of homes (get_or roots f 0))) (sym none);
    })
  where
    open_before : IsOpenIn values' f → IsOpenIn values f
    open_before (inl x) = inl x
    open_before (inr x) = inr (sym (same f (omega (arith, e))) ∙ x)

    r : IsRootOn slots homes values level f n (get_or roots f 0) i
    r = W f n some (omega (arith, e)) (open_before o)

    way : way_from values' f n ≡ way_from values f n
    way = way_same values values' f n (λ k le. same k (omega (arith, le, e)))

    none : value_gone values' (f + suc n) ≡ None
    none = ap (value_gone values') (omega (arith, e)) ∙ new

-- what two equal walks leave before their last step
pub tail_of : {s t : Step} {a b : Walk} → s ∷ a ≡ t ∷ b → a ≡ b
tail_of e = cc

-- down a value of a category, which is then no longer open
pub way_down : (slots : List Slot) (homes : List Walk) (values values' : List (Option ℕ)) (roots : List ℕ) (level dim i j v : ℕ) → 2 ≤ dim → home_of homes j ≡ down v ∷ home_of homes i → value_gone values dim ≡ None → value_gone values' dim ≡ Some v → ((k : ℕ) → k < dim → value_gone values' k ≡ value_gone values k) → IsWayTo slots homes values roots level dim i → IsWayTo slots homes values' roots level dim j
way_down slots homes values values' roots level dim i j v pos at was new same W f zero some e (inl x) = absurd (omega (arith, x, e, pos))
way_down slots homes values values' roots level dim i j v pos at was new same W f zero some e (inr x) =
    let y : value_gone values' f ≡ Some v = ap (value_gone values') (omega (arith, e)) ∙ new in
    absurd cc
way_down slots homes values values' roots level dim i j v pos at was new same W f (suc n) some e o = record {
  in_range = r.in_range;
  in_dim = r.in_dim;
  at_level = r.at_level;
  leads = ap (λ z. across ∷ z) (at ∙ ap (λ z. down v ∷ z) (above_home ∙ ap (λ z. z ++ across ∷ home_of homes (get_or roots f 0)) (sym way)))
      ∙ ap (λ u. across ∷ (value_step u (way_from values' f n) ++ across ∷ home_of homes (get_or roots f 0))) (sym goes);
}
  where
    open_before : IsOpenIn values' f → IsOpenIn values f
    open_before (inl x) = inl x
    open_before (inr x) = inr (sym (same f (omega (arith, e))) ∙ x)

    r : IsRootOn slots homes values level f (suc n) (get_or roots f 0) i
    r = W f (suc n) some e (open_before o)

    none : value_gone values (f + suc n) ≡ None
    none = ap (value_gone values) e ∙ was

    goes : value_gone values' (f + suc n) ≡ Some v
    goes = ap (value_gone values') e ∙ new

    above_home : home_of homes i ≡ way_from values f n ++ across ∷ home_of homes (get_or roots f 0)
    above_home = tail_of (r.leads ∙ ap (λ u. across ∷ (value_step u (way_from values f n) ++ across ∷ home_of homes (get_or roots f 0))) none)

    way : way_from values' f n ≡ way_from values f n
    way = way_same values values' f n (λ k le. same k (omega (arith, le, e)))

-- so a node of a category at level 0 is led to from the root of each open dimension before its own
pub way_leads : (slots : List Slot) (homes : List Walk) (values : List (Option ℕ)) (roots : List ℕ) (level dim i f n : ℕ) → value_gone values dim ≡ None → IsWayTo slots homes values roots level dim i → 1 ≤ f → f + suc n ≡ dim → IsOpenIn values f → home_of homes i ≡ way_from values f n ++ across ∷ home_of homes (get_or roots f 0)
way_leads slots homes values roots level dim i f n was W some e o =
    tail_of ((W f (suc n) some e o).leads ∙ ap (λ u. across ∷ (value_step u (way_from values f n) ++ across ∷ home_of homes (get_or roots f 0))) (ap (value_gone values) e ∙ was))
