-- `of` makes the empty struct, with the value that its clause names. Assumes `Logic`.
use Rattle.std.proofs.Common.{[], ◌∷◌, refl}
use Rattle.std.proofs.raw_atomic.Walks.{proved}
use mir.Syntax.{a_type}
use mir.MapTy.{inst_fn}
use types.Kit.{‵, raw, ◌⊛◌, ◌$◌, ◌∵◌, !, qed, move, keep, split, fjoin, suffices, done}
use types.Run.{enter}
use types.ByLocal.{alloc_all, pass_all, free_all}
use denote.Builtin.{RefOf}
use denote.Exit.{yes}
use denote.Param.{param, layouts}
use denote.RattleType.{owns}
use denote.Ref.{shr_vals}
use denote.Signature.{Slot, plain, types_at}
use denote.Steps.{nothing}
use denote.Triple.Entry.{alive}
use denote.Triple.Walked.{Stays, stay_dropped, walk_of, says, ends_at, Goes-dropped}
use Rattle.ghost_values.proofs.Walks.{one, none, made}
use Rattle.ghost_values.specs.contracts.value.GhostValue.of as F
use Rattle.ghost_values.specs.contracts.value.GhostValue.of.Key.{name as #self}
use Rattle.ghost_values.proofs.value.GhostValue.of.Statement.{statement as of_statement}
use Rattle.ghost_values.proofs.value.GhostValue.of.Code as code

pub of_spec : {M : Type 1} → of_statement M
of_spec 𝓤 𝓛 𝓜 𝓡 wired A LA =
    let T = F.ended A in
    let c = F.clauses A 𝓛 𝓜.mem 𝓡.returns in
    let x : Slot 2 = RefOf (0 ∷ []) tt (plain (λ _. param 0 A)) (λ _. tt) in
    let stayed : Stays T.signature.params T.kept = (stay_dropped x yes, tt) in
    let args = layouts (a_type ∷ []) (A, tt) in
    proved 𝓛 T stayed c 𝓜 𝓡 (Goes-dropped 𝓛 2 x yes (λ κs x f. refl), tt)
    (#self args) (inst_fn args code.function) (code.unfolded 𝓤 𝓛.H 𝓜 𝓡 wired (A, tt))
    (λ κs. (shr_vals, tt)) (λ κs. ((λ x vs p. p.0), tt)) (λ κs qs bounds a g are.
    let y : (walk_of 𝓛 T stayed c).Ghost = ((κs, qs, bounds, a, (shr_vals a.0, tt)), g) in
    qed 𝓛 ((raw (alive 𝓛 T.signature κs qs) ⊛ ‵ (owns (types_at T.signature.params κs) a (shr_vals a.0, tt))) ∷ raw ((c κs a).requires g) ∷ []) ∵
    keep ! (0 ∷ []) $ split ! $ keep ! (0 ∷ []) $
    enter ! _ _ _ _ _ $ alloc_all ! (λ l. pass_all ! refl ((tt, tt), tt) $
    made ! A refl (tt, tt) refl refl (tt, (tt, tt)) refl $ free_all ! refl $
    suffices ! _ (ends_at 𝓛 T stayed c y (one none) (record { marker = record {}; value = a.0.now }) (tt, tt) (tt, tt)) $ says ! refl $
    nothing ! $ nothing ! $ fjoin ! $ move ! (2 ∷ 0 ∷ 1 ∷ []) $ done !))
