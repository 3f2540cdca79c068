-- A spot lies under the whole walk of another of its shape exactly where their paths are the same.
use Rattle.std.proofs.Common.{◌≡◌, ℕ, ◌<◌, Bool, true, false, cond, eqb, List, [], ◌∷◌, ◌++◌, Option, Some, None, length, map, is_some, refl, sym, ap, ◌∙◌, arith, ap₂, eq-eqb, eqb-true, append-nil}
use Rattle.cube_view.specs.Walks.{down, across, Walk, SpotPath, Cursor, after_down, after_across, then_step, cursor, Under, down_all, whole_from, whole_of, whole}
use Rattle.proper_path.specs.Order.{IsAbove, itself, further, shape_of}
use Rattle.proper_path.proofs.Above.{under_above}
use Rattle.proper_path.proofs.Order.{above-trans}

above_down_all : (path : List ℕ) (a : Walk) → IsAbove a (down_all path a)
above_down_all [] a = itself
above_down_all (l ∷ path) a = above-trans (further itself) (above_down_all path (down l ∷ a))

above_whole_from : (later : List (List ℕ)) (a : Walk) → IsAbove a (whole_from later a)
above_whole_from [] a = itself
above_whole_from (path ∷ later) a = above-trans (above-trans (further itself) (above_down_all path (across ∷ a))) (above_whole_from later (down_all path (across ∷ a)))

-- a step down of the spot's own
own_down : (l : ℕ) (rest : List ℕ) (later : List (List ℕ)) → is_some (after_down l rest later) ≡ true → (r : List ℕ) × (rest ≡ l ∷ r) × (after_down l rest later ≡ Some (record { rest = r; later = later }))
own_down l [] later h = absurd cc
own_down l (x ∷ rest) later h = go (eqb l x) refl h
  where
    go : (b : Bool) → eqb l x ≡ b → is_some {T = Cursor} (cond b (Some (record { rest = rest; later = later })) None) ≡ true → (r : List ℕ) × (x ∷ rest ≡ l ∷ r) × (cond {A = Option Cursor} b (Some (record { rest = rest; later = later })) None ≡ Some (record { rest = r; later = later }))
    go true e k = (rest, ap (λ z. z ∷ rest) (sym (eqb-true l x e)), refl)
    go false e k = absurd cc

-- what is left after a whole path
pub record HasWalked (q : SpotPath) (path : List ℕ) (a : Walk) (c : Cursor) : Type 0 where
  pub rest : List ℕ
  pub split : c.rest ≡ path ++ rest
  pub is : cursor q (down_all path a) ≡ Some (record { rest = rest; later = c.later })

walked : (q : SpotPath) (path : List ℕ) (a : Walk) (c : Cursor) → cursor q a ≡ Some c → Under q (down_all path a) → HasWalked q path a c
walked q [] a c h u = record { rest = c.rest; split = refl; is = h }
walked q (l ∷ path) a c h u =
    let v : Under q (down l ∷ a) = under_above (above_down_all path (down l ∷ a)) q u in
    let o = own_down l c.rest c.later (sym (ap (λ (o : Option Cursor). is_some (then_step o (down l))) h) ∙ v) in
    let d : Cursor = record { rest = o.0; later = c.later } in
    let k : cursor q (down l ∷ a) ≡ Some d = ap (λ (o : Option Cursor). then_step o (down l)) h ∙ o.2 in
    let r = walked q path (down l ∷ a) d k u in
    record { rest = r.rest; split = o.1 ∙ ap (λ z. l ∷ z) r.split; is = r.is }

no_more : (path r rest : List ℕ) → rest ≡ path ++ r → length rest ≡ length path → rest ≡ path
no_more [] [] rest e f = e
no_more [] (x ∷ r) rest e f = let g = ap length e in absurd (omega arith)
no_more (l ∷ path) r [] e f = absurd cc
no_more (l ∷ path) r (x ∷ rest) e f =
    let a : x ≡ l = cc in let b : rest ≡ path ++ r = cc in
    ap₂ ◌∷◌ a (no_more path r rest b (omega arith))

same_from : (q : SpotPath) (later mine : List (List ℕ)) (a : Walk) (c : Cursor) → cursor q a ≡ Some c → c.later ≡ mine → map length mine ≡ map length later → Under q (whole_from later a) → mine ≡ later
same_from q [] [] a c h e f u = refl
same_from q [] (m ∷ mine) a c h e f u = absurd cc
same_from q (path ∷ later) [] a c h e f u = absurd cc
same_from q (path ∷ later) (m ∷ mine) a c h e f u =
    let d : Cursor = record { rest = m; later = mine } in
    let k : cursor q (across ∷ a) ≡ Some d = ap (λ (o : Option Cursor). then_step o across) h ∙ ap after_across e in
    let v : Under q (down_all path (across ∷ a)) = under_above (above_whole_from later (down_all path (across ∷ a))) q u in
    let w = walked q path (across ∷ a) d k v in
    let n : length m ≡ length path = cc in
    let g : map length mine ≡ map length later = cc in
    ap₂ ◌∷◌ (no_more path w.rest m w.split n) (same_from q later mine (down_all path (across ∷ a)) (record { rest = w.rest; later = mine }) w.is refl g u)

-- a spot that lies under the whole walk of another of its shape has its paths
pub same_paths : (x q : SpotPath) → shape_of x ≡ shape_of q → Under x (whole q) → x.paths ≡ q.paths
same_paths x q e u = go x.paths q.paths refl e u
  where
    go : (xs qs : List (List ℕ)) → x.paths ≡ xs → map length xs ≡ map length qs → Under x (whole_of qs) → xs ≡ qs
    go [] [] k f u = refl
    go [] (path ∷ later) k f u = absurd cc
    go (m ∷ mine) [] k f u = absurd cc
    go (m ∷ mine) (path ∷ later) k f u =
        let d : Cursor = record { rest = m; later = mine } in
        let c : cursor x [] ≡ Some d = ap after_across k in
        let v : Under x (down_all path []) = under_above (above_whole_from later (down_all path [])) x u in
        let w = walked x path [] d c v in
        let n : length m ≡ length path = cc in
        let g : map length mine ≡ map length later = cc in
        ap₂ ◌∷◌ (no_more path w.rest m w.split n) (same_from x later mine (down_all path []) (record { rest = w.rest; later = mine }) w.is refl g u)

-- and a spot lies under its own whole walk
walk_path : (q : SpotPath) (path rest : List ℕ) (later : List (List ℕ)) (a : Walk) → cursor q a ≡ Some (record { rest = path ++ rest; later = later }) → cursor q (down_all path a) ≡ Some (record { rest = rest; later = later })
walk_path q [] rest later a h = h
walk_path q (l ∷ path) rest later a h =
    walk_path q path rest later (down l ∷ a) (ap (λ (o : Option Cursor). then_step o (down l)) h ∙ ap (λ (b : Bool). cond b (Some (record { rest = path ++ rest; later = later })) None) (eq-eqb l l refl))

walk_from : (q : SpotPath) (later : List (List ℕ)) (rest : List ℕ) (a : Walk) → cursor q a ≡ Some (record { rest = rest; later = later }) → Under q (whole_from later a)
walk_from q [] rest a h = ap is_some h
walk_from q (path ∷ later) rest a h =
    walk_from q later [] (down_all path (across ∷ a)) (walk_path q path [] later (across ∷ a) (ap (λ (o : Option Cursor). then_step o across) h ∙ ap (λ (z : List ℕ). Some (record { rest = z; later = later })) (sym (append-nil path))))

pub under_whole : (q : SpotPath) → (0 < length q.paths) → Under q (whole q)
under_whole q some = go q.paths refl some
  where
    go : (paths : List (List ℕ)) → q.paths ≡ paths → 0 < length paths → Under q (whole_of paths)
    go [] e l = absurd (omega arith)
    go (path ∷ later) e l =
        walk_from q later [] (down_all path []) (walk_path q path [] later [] (ap after_across e ∙ ap (λ (z : List ℕ). Some (record { rest = z; later = later })) (sym (append-nil path))))
