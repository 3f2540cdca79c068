-- The steps of the pair keep its rule.
use Rattle.std.proofs.Common.{◌≡◌, ◌≢◌, ℕ, List, [], ◌∷◌, ◌++◌, set, Option, Some, None, IfSome, refl, sym, ◌∙◌, ap, subst, ⊎_elim}
use mathlib.Core.Option.{some}
use lib.ListN.{get_elem?}
use Rattle.atomic_table.proofs.Lists.{at_set, at_snoc}
use Rattle.cube_view.specs.Points.{Point}
use Rattle.cube_view.specs.declared.schema.Schema.{Schema}
use Rattle.logbook.specs.Pages.{Book}
use Rattle.world_core.proofs.Prefixes.{IsPrefix-itself, IsPrefix-then}
use Rattle.world_core.specs.PairFact.{IsPrefix}
use Rattle.published_pair.specs.declared.names.Names.{Names}
use Rattle.published_pair.specs.Rules.{Known, first_word_of}
use Rattle.published_pair.specs.Pair.{KeepsPair, Knows, Sees, names}

abbrev KnowsIf : List Point → Known → Schema → Option Names → Type 0
KnowsIf h f z v = IfSome v (Knows h f.book z)

module _ (h : List Point) (f : Known) (z : Schema) (views : List (Option Names)) (kept : KeepsPair h f z views) where
  pub admits : KeepsPair h f z (views ++ None ∷ [])
  admits = record {
    told = kept.told;
    named = λ seat v at. ⊎_elim (kept.named seat v) (λ (e : None ≡ v). subst (KnowsIf h f z) e tt) (at_snoc views None v seat at);
  }

  pub knows_set : (seat : ℕ) (v : Option Names) → KnowsIf h f z v → KeepsPair h f z (set views seat v)
  knows_set seat v knows = record {
    told = kept.told;
    named = λ j u at. ⊎_elim (λ (t : (j ≡ seat) × (v ≡ u)). subst (KnowsIf h f z) t.1 knows) (λ (t : (j ≢ seat) × (get_elem? views j ≡ some u)). kept.named j u t.1) (at_set views seat j v u at);
  }

  pub knows_snoc : (v : Option Names) → KnowsIf h f z v → KeepsPair h f z (views ++ v ∷ [])
  knows_snoc v knows = record {
    told = kept.told;
    named = λ j u at. ⊎_elim (kept.named j u) (λ (e : v ≡ u). subst (KnowsIf h f z) e knows) (at_snoc views v u j at);
  }

pub forks : (h : List Point) (f : Known) (z : Schema) (views : List (Option Names)) (seat : ℕ) (v : Option Names) → KeepsPair h f z views → get_elem? views seat ≡ some v → KeepsPair h f z (set views seat v ++ v ∷ [])
forks h f z views seat v kept at = let k = kept.named seat v at in knows_snoc h f z (set views seat v) (knows_set h f z views kept seat v k) v k

pub merges : (h : List Point) (f : Known) (z : Schema) (views : List (Option Names)) (seat : ℕ) (other : ℕ) (w : Option Names) → KeepsPair h f z views → ¬ (other ≡ seat) → get_elem? (set views seat w) other ≡ some w → KeepsPair h f z (set (set views seat w) other None)
merges h f z views seat other w kept apart there =
    let k : KnowsIf h f z w = ⊎_elim (λ (t : (other ≡ seat) × (w ≡ w)). absurd (apart t.0)) (λ (t : (other ≢ seat) × (get_elem? views other ≡ some w)). kept.named other w t.1) (at_set views seat other w w there) in
    knows_set h f z (set views seat w) (knows_set h f z views kept seat w k) other None tt

-- what an end knows stays so where the copy goes on
pub knows_on : (h h' : List Point) (b b' : Book) (z z' : Schema) → b' ≡ b → z' ≡ z → IsPrefix h h' → (u : Option Names) → IfSome u (Knows h b z) → IfSome u (Knows h' b' z')
knows_on h h' b b' z z' book schema on None k = tt
knows_on h h' b b' z z' book schema on (Some n) k = (k.0 ∙ ap first_word_of (sym book), k.1 ∙ sym schema, IsPrefix-then n.seen h h' k.2 on)

-- the copy becomes one of the same pair that goes on from it, and the end that steps has seen it afterwards
pub turns : (h h' : List Point) (f f' : Known) (z z' : Schema) → f'.book ≡ f.book → z' ≡ z → IsPrefix h h' → h' ≡ f'.points → (views : List (Option Names)) (seat : ℕ) (v : Option Names) → KeepsPair h f z views → get_elem? views seat ≡ some v
    → KeepsPair h' f' z' (set views seat (Some (names f'.book z' h'))) × Sees v h' f' z' (Some (names f'.book z' h'))
turns h h' f f' z z' book schema on told views seat v kept at =
    let moved : (u : Option Names) → KnowsIf h f z u → KnowsIf h' f' z' u = knows_on h h' f.book f'.book z z' book schema on in
    let all : KeepsPair h' f' z' views = record { told = told; named = λ j u e. moved u (kept.named j u e) } in
    (knows_set h' f' z' views all seat (Some (names f'.book z' h')) (refl, refl, IsPrefix-itself h'), record { told = told; before = moved v (kept.named seat v at); after = refl })
