-- The labels of addresses and those of the spots under them.
use Rattle.std.proofs.Common.{◌≡◌, ℕ, suc, Bool, true, false, cond, ◌&&◌, eqb, eqb-true, List, [], ◌∷◌, Some, None, Option, refl, ap, ap₂, ◌∙◌, subst}
use Rattle.std.specs.List.{list_all}
use Rattle.std.proofs.lemmas.Bool.{and_parts}
use Rattle.cube_view.specs.Walks.{down, across, Walk, SpotPath, Cursor, after_down, after_across, cursor, dimension}
use Rattle.cube_view.specs.declared.schema.Schema.{Schema}
use Rattle.cube_view.proofs.FinerWalks.{begun}
use Rattle.shape_test.specs.Wholes.{paths_along}
use Rattle.shape_test.specs.Labels.{label_fits, labels_fit, paths_fit}

-- the labels that a walk has used, and those that are left
pub record AreFit (schema : Schema) (a : Walk) (c : Cursor) : Type 0 where
  pub used : labels_fit schema a ≡ true
  pub rest : list_all (label_fits schema (dimension a)) c.rest ≡ true
  pub later : paths_fit schema (suc (dimension a)) c.later ≡ true

-- the labels of a spot's walk are the spot's
pub used_fit : (schema : Schema) (q : SpotPath) (a : Walk) (c : Cursor) → paths_fit schema 1 q.paths ≡ true → cursor q a ≡ Some c → AreFit schema a c
used_fit schema q [] c fit h = go q.paths fit h
  where
    go : (paths : List (List ℕ)) → paths_fit schema 1 paths ≡ true → after_across paths ≡ Some c → AreFit schema [] c
    go [] f x = absurd cc
    go (path ∷ paths) f x =
        let e : record { rest = path; later = paths } ≡ c = cc in
        let p = and_parts (list_all (label_fits schema 1) path) (paths_fit schema 2 paths) f in
        subst (AreFit schema []) e (record { used = refl; rest = p.0; later = p.1 })
used_fit schema q (down l ∷ a) c fit h =
    let b = begun (cursor q a) (down l) c h in
    let r = used_fit schema q a b.0 fit b.1 in
    go b.0.rest b.0.later r.used r.rest r.later b.2
  where
    go : (rest : List ℕ) (later : List (List ℕ)) → labels_fit schema a ≡ true → list_all (label_fits schema (dimension a)) rest ≡ true → paths_fit schema (suc (dimension a)) later ≡ true → after_down l rest later ≡ Some c → AreFit schema (down l ∷ a) c
    go [] later u f g x = absurd cc
    go (m ∷ rest) later u f g x = pick (eqb l m) refl x
      where
        pick : (b : Bool) → eqb l m ≡ b → cond {A = Option Cursor} b (Some (record { rest = rest; later = later })) None ≡ Some c → AreFit schema (down l ∷ a) c
        pick false e y = absurd cc
        pick true e y =
            let s : record { rest = rest; later = later } ≡ c = cc in
            let p = and_parts (label_fits schema (dimension a) m) (list_all (label_fits schema (dimension a)) rest) f in
            subst (AreFit schema (down l ∷ a)) s (record { used = ap₂ ◌&&◌ (ap (label_fits schema (dimension a)) (eqb-true l m e) ∙ p.0) u; rest = p.1; later = g })
used_fit schema q (across ∷ a) c fit h =
    let b = begun (cursor q a) across c h in
    let r = used_fit schema q a b.0 fit b.1 in
    go b.0.later r.used r.later b.2
  where
    go : (later : List (List ℕ)) → labels_fit schema a ≡ true → paths_fit schema (suc (dimension a)) later ≡ true → after_across later ≡ Some c → AreFit schema (across ∷ a) c
    go [] u g x = absurd cc
    go (path ∷ later) u g x =
        let e : record { rest = path; later = later } ≡ c = cc in
        let p = and_parts (list_all (label_fits schema (suc (dimension a))) path) (paths_fit schema (suc (suc (dimension a))) later) g in
        subst (AreFit schema (across ∷ a)) e (record { used = u; rest = p.0; later = p.1 })

-- the paths along an address have its labels
pub paths_of_fit : (schema : Schema) (a : Walk) (path : List ℕ) (later : List (List ℕ)) → labels_fit schema a ≡ true → list_all (label_fits schema (dimension a)) path ≡ true → paths_fit schema (suc (dimension a)) later ≡ true → paths_fit schema 1 (paths_along a path later) ≡ true
paths_of_fit schema [] path later u p g = ap₂ ◌&&◌ p g
paths_of_fit schema (down l ∷ a) path later u p g =
    let s = and_parts (label_fits schema (dimension a) l) (labels_fit schema a) u in
    paths_of_fit schema a (l ∷ path) later s.1 (ap₂ ◌&&◌ s.0 p) g
paths_of_fit schema (across ∷ a) path later u p g = paths_of_fit schema a [] (path ∷ later) u refl (ap₂ ◌&&◌ p g)
