-- The steps of a pair are events of the loading machine.
use Rattle.std.proofs.Common.{◌≡◌, ℕ, suc, List, [], ◌∷◌, ◌++◌, length, Option, Some, None, IfSome, refl, ap, sym, ◌∙◌}
use mathlib.Core.Option.{some}
use lib.ListN.{get_elem?}
use Rattle.std.proofs.lemmas.List.{get_or-set_same}
use Rattle.std.proofs.lemmas.List.Elements.{All-nil, All-cons}
use Rattle.cube_view.specs.Points.{Point}
use Rattle.cube_view.specs.declared.schema.Schema.{Schema}
use Rattle.query_syntax.specs.Tables.{table}
use Rattle.world_core.specs.PairFact.{IsPrefix, pair_fact}
use Rattle.world_core.proofs.Entries.{length-entry_points}
use Rattle.published_pair.specs.Pair.{Knows}
use Rattle.published_pair.specs.PairLaws.{lists_seen, RuleIsPairFact, LookingIsLook}
use Rattle.published_pair.specs.Rules.{Known}
use Rattle.published_pair.specs.declared.names.Names.{Names}

seen_fact : (h : List Point) (f : Known) (z : Schema) (views : List (Option Names)) → ((seat : ℕ) (v : Option Names) → get_elem? views seat ≡ some v → IfSome v (Knows h f.book z)) → pair_fact h (lists_seen views)
seen_fact h f z [] each = All-nil _
seen_fact h f z (None ∷ views) each = seen_fact h f z views (λ seat v at. each (suc seat) v at)
seen_fact h f z (Some n ∷ views) each =
    let k : Knows h f.book z n = each 0 (Some n) refl in
    All-cons (λ (other : List Point). IsPrefix other h) n.seen (lists_seen views) k.2 (seen_fact h f z views (λ seat v at. each (suc seat) v at))

pub rule_is_pair_fact : RuleIsPairFact
rule_is_pair_fact h f z views kept = seen_fact h f z views kept.named

pub looking_is_look : LookingIsLook
looking_is_look schema w s q before None h f z sees is below = tt
looking_is_look schema w s q before (Some n) h f z sees is below =
    let seen : n.seen ≡ h = cc (sees.after) in
    let list = seen ∙ is in
    record {
      list = list;
      seen = get_or-set_same w.seen s (length w.journal) 0 below ∙ sym (ap length list ∙ length-entry_points w.journal);
      shot = ap (λ (l : List Point). w.shots ++ record { session = s; table = table schema q l } ∷ []) (sym list);
    }
