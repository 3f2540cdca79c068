-- Slots have homes in one way.
use Rattle.std.proofs.Common.{◌≡◌, ℕ, zero, suc, ◌<◌, List, [], ◌∷◌, length, refl, sym, ◌∙◌, arith}
use Rattle.std.proofs.lemmas.List.{ext_get_or}
use Rattle.cube_view.specs.Walks.{Walk}
use Rattle.node_arena.specs.Shape.{home_of, HasProperLinks}
use Rattle.node_arena.specs.Slots.{proper, Slot}
use Rattle.node_arena.proofs.Links.{linked-lt}
use Rattle.shape_test.specs.Laws.{OneHomes}

-- by the steps of a home
same_at : (slots : List Slot) (homes again : List Walk) → HasProperLinks slots homes → HasProperLinks slots again → (a : Walk) (j : ℕ) → j < length slots → home_of homes j ≡ a → home_of again j ≡ a
same_at slots homes again H K a zero l e = K.root ∙ (sym H.root ∙ e)
same_at slots homes again H K [] (suc j) l e =
    let z = H.distinct (suc j) 0 l H.some (e ∙ sym H.root) in absurd cc
same_at slots homes again H K (s ∷ a) (suc j) l e =
    let o = H.owner (suc j) (omega arith) l in
    let x : o.step ∷ home_of homes o.by ≡ s ∷ a = sym (H.at_home o.by (suc j) o.step o.owns).1 ∙ e in
    let y : home_of homes o.by ≡ a = cc in
    let z : o.step ≡ s = cc in
    let r = same_at slots homes again H K a o.by (linked-lt slots o.by o.step (proper (suc j)) o.owns) y in
    (K.at_home o.by (suc j) o.step o.owns).1 ∙ cc

pub one_home : OneHomes
one_home slots homes again H K =
    ext_get_or [] homes again (H.size ∙ sym K.size) (λ i l. sym (same_at slots homes again H K (home_of homes i) i (let s = H.size in omega (arith, s, l)) refl))
