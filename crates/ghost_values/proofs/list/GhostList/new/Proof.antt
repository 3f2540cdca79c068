-- `new` makes the empty struct, with the items that its clause names. Assumes `Logic`.
use Rattle.std.proofs.Common.{[], ◌∷◌, refl}
use Rattle.std.proofs.raw_atomic.Walks.{proved}
use mir.Syntax.{a_type}
use mir.MapTy.{inst_fn}
use types.Kit.{‵, raw, ◌⊛◌, ◌$◌, ◌∵◌, !, qed, move, keep, split, suffices, done}
use types.Run.{enter}
use types.ByLocal.{alloc_all, pass_all, free_all}
use denote.Param.{layouts}
use denote.RattleType.{owns}
use denote.Signature.{types_at}
use denote.Steps.{nothing}
use denote.Triple.Entry.{alive}
use denote.Triple.Walked.{walk_of, says, ends_at}
use Rattle.ghost_values.proofs.Walks.{one, none, made}
use Rattle.ghost_values.specs.contracts.list.GhostList.new as F
use Rattle.ghost_values.specs.contracts.list.GhostList.new.Key.{name as #self}
use Rattle.ghost_values.proofs.list.GhostList.new.Statement.{statement as new_statement}
use Rattle.ghost_values.proofs.list.GhostList.new.Code as code

pub new_spec : {M : Type 1} → new_statement M
new_spec 𝓤 𝓛 𝓜 𝓡 wired A LA =
    let T = F.ended A in
    let c = F.clauses A 𝓛 𝓜.mem 𝓡.returns in
    let args = layouts (a_type ∷ []) (A, tt) in
    proved 𝓛 T tt c 𝓜 𝓡 tt (#self args) (inst_fn args code.function) (code.unfolded 𝓤 𝓛.H 𝓜 𝓡 wired (A, tt))
    (λ κs. tt) (λ κs. tt) (λ κs qs bounds a g are.
    let y : (walk_of 𝓛 T tt c).Ghost = ((κs, qs, bounds, a, tt), g) in
    qed 𝓛 ((raw (alive 𝓛 T.signature κs qs) ⊛ ‵ (owns (types_at T.signature.params κs) a tt)) ∷ raw ((c κs a).requires g) ∷ []) ∵
    keep ! (0 ∷ []) $ split ! $ keep ! (0 ∷ []) $
    enter ! _ _ _ _ _ $ alloc_all ! (λ l. pass_all ! refl tt $
    made ! A refl (tt, tt) refl refl (tt, (tt, tt)) refl $ free_all ! refl $
    suffices ! _ (ends_at 𝓛 T tt c y (one none) (record { marker = record {}; items = [] }) tt tt) $ says ! refl $
    nothing ! $ move ! (2 ∷ 0 ∷ 1 ∷ []) $ done !))
