-- Prefixes of lists of several feeders, and their interleavings.
use Rattle.std.proofs.Common.{◌≡◌, ◌-◌, ℕ, zero, suc, Bool, true, false, List, [], ◌∷◌, ◌++◌, length, get_or, refl, subst}
use Rattle.std.specs.List.{AllZip}
use Rattle.cube_crew.specs.Crewed.{answered_over}
use Rattle.cube_view.specs.Points.{Point}
use Rattle.plan_run.specs.Interrupted.{InterleavesFronts}
use Rattle.world_core.proofs.Entries.{IsPrefix-entry_points}
use Rattle.world_core.proofs.Interleavings.{prefixes_interleave}
use Rattle.world_core.proofs.Prefixes.{IsPrefix-itself, IsPrefix-then}
use Rattle.world_core.specs.Interleaving.{IsInterleaving, entry_points, list_of}
use Rattle.world_core.specs.PairFact.{IsPrefix}
use Rattle.world_core.specs.declared.entry.Entry.{Entry}

abbrev Points : Type 0
Points = List Point

nothing : Points
nothing = []

-- prefixes place by place
front_at : (fronts wholes : List Points) → AllZip IsPrefix fronts wholes → (k : ℕ) → IsPrefix (get_or fronts k []) (get_or wholes k [])
front_at [] [] z k = ([], refl)
front_at [] (y ∷ wholes) z k = absurd z
front_at (x ∷ fronts) [] z k = absurd z
front_at (x ∷ fronts) (y ∷ wholes) z zero = z.0
front_at (x ∷ fronts) (y ∷ wholes) z (suc k) = front_at fronts wholes z.1 k

-- a prefix of an interleaving of prefixes is one
pub interleaves_fronts : (lists sent : List Points) (n : ℕ) (entries drawn : List Entry) → n ≡ length lists → AllZip IsPrefix sent lists → IsInterleaving n (list_of sent) drawn → IsPrefix entries drawn → InterleavesFronts lists entries
interleaves_fronts lists sent n entries drawn count fronts order begins =
    let all : IsInterleaving (length lists) (list_of sent) (entries ++ begins.0) = subst (λ k. IsInterleaving k (list_of sent) (entries ++ begins.0)) count (subst (IsInterleaving n (list_of sent)) begins.1 order) in
    let some = prefixes_interleave (length lists) (list_of sent) entries begins.0 all in
    record {
      front = some.0;
      is_front = λ f low high. IsPrefix-then (some.0 f) (list_of sent f) (list_of lists f) (some.2 f low high) (front_at sent lists fronts (f - 1));
      order = some.1;
    }

-- the points over which sessions answered are the first of those that were drawn
pub answered_front : (closed : Bool) (journal drawn : List Entry) → IsPrefix journal drawn → IsPrefix (answered_over closed journal drawn) (entry_points drawn)
answered_front true journal drawn front = IsPrefix-entry_points journal drawn front
answered_front false journal drawn front = IsPrefix-itself (entry_points drawn)
