-- `free` makes one room of what is left and hands it back with the right to free it. Assumes `Logic`.
use Rattle.std.proofs.Common.{◌≡◌, refl, sym, subst, ap, ◌∙◌, ℕ, ◌*◌, ◌^◌, ◌<◌, List, [], ◌∷◌, ◌++◌, length, arith}
use Rattle.std.proofs.raw_atomic.Walks.{proved_at}
use base.Logic.{SProp, ent, id⊢}
use base.Fml.{ftrue, froom, flft, Incl-trans}
use contract.BorrowLft.{◌⊑◌}
use contract.Monad.{fact}
use contract.Running.{tables}
use lib.Dec.{T as Holds}
use mir.MapTy.{inst_fn}
use mir.Raw.{raw as bare}
use mir.Syntax.{Ty, ty_unit, ty_array}
use mir.Val.{Val, vunit, vptr, has_ty, WT}
use prog.Capped.{capped_is, capped_fits}
use prog.Memory.{align, capped}
use prog.RawLaws.{size-raw, align-raw}
use prog.Wp.{WpFn}
use types.Kit.{‵, raw, ◌⊛◌, later, given, at_ret, ◌$◌, ◌∵◌, !, qed, move, keep, drop, use1, use2, use3, split, join, fsplit, fjoin, feq_i, feq_l, rewrite, learn, await, suffices, done}
use types.Part.{whole, sub}
use types.Run.{stop, fld, lit, size_lit, align_word, no_more, and_then, unit_lit, of_opd, bin, first, blocks, exec, returns, enter}
use types.ByLocal.{alloc_all, pass_all, free_all, look_at, get, get_in, sets, lands_last, env}
use denote.Builtin.{RefOf}
use denote.Exit.{yes, no}
use denote.RattleType.{owns}
use denote.RawPtr.{block_ptr}
use denote.Signature.{Slot, plain, types_at}
use denote.Steps.{heard, nothing}
use denote.Triple.Call.{calls_at_last}
use denote.Triple.Table.{framed}
use denote.Triple.Walked.{Stays, stay_dropped, walk_of, ends_at, Goes-dropped}
use Rattle.core.proofs.alloc.Calls.{Gives, at_gives, Gives-goes, Gives-Gives}
use Rattle.core.proofs.ptr.Rows.{one_below}
use Rattle.std_alloc.proofs.RawLayout.{as_raw}
use Rattle.std_alloc.proofs.VecSteps.El.{El, elτ, P, Hd, args, sz}
use Rattle.std_alloc.proofs.VecSteps.Rows.{all_room}
use Rattle.std_alloc.proofs.VecSteps.Shapes.{after}
use Rattle.block_list.proofs.RawMemory.{Rb, Raw, Right, words, raw_had}
use Rattle.block_list.specs.contracts.raw.RawBlock.free as F
use Rattle.block_list.specs.contracts.raw.RawBlock.free.Key.{name as #self}
use Rattle.block_list.proofs.raw.RawBlock.free.Statement.{statement as free_statement}
use Rattle.block_list.proofs.raw.RawBlock.free.Code as code

pub free_spec : {M : Type 1} → free_statement M
free_spec 𝓤 𝓛 𝓜 𝓡 wired X Z LX LZ g d dd met md =
    let E : El = record { row = X; laws = LX; al = record { row = Z; laws = LZ; g = g; d = d; drops = dd } } in
    let T = F.ended X Z g d dd in let c = F.clauses X Z g d dd 𝓛 𝓜.mem 𝓡.returns in
    let 𝓣 = tables 𝓤 𝓛.H 𝓜 𝓡 𝓡.env in
    let self : Slot 3 = plain (λ _. Rb E) in let heap : Slot 3 = RefOf (0 ∷ []) tt (plain (λ _. P E)) (λ _. tt) in
    let stayed : Stays T.signature.params T.kept = (stay_dropped self no, (stay_dropped heap yes, tt)) in
    proved_at 𝓛 T stayed c 𝓜 𝓡 (Goes-dropped 𝓛 3 self no (λ κs x f. refl), (Goes-dropped 𝓛 3 heap yes (λ κs x f. refl), tt))
    (#self (args E)) (inst_fn (args E) code.function) (code.unfolded 𝓤 𝓛.H 𝓜 𝓡 wired (X, (Z, tt)) d dd) (λ y are.
    let κs = y.0.0 in let qs = y.0.1 in let a = y.0.3 in let vss = y.0.4 in
    let κ = κs.0 in let q = qs.0 in let h : Raw E = a.0 in let xs = h.items in let hp : ℕ × ℕ = a.1.0.ref_ptr in let al : Hd E = a.1.0.now in
    let s = sz E in let τ : Ty = ty_array (elτ E) 64 in let Post : Val → SProp 𝓤 = (walk_of 𝓛 T stayed c).post y in
    let Ok : Type 0 = (xs ≡ []) × (h.alloc ≡ al) in
    qed 𝓛 (((‵ (flft κ q) ⊛ ‵ (flft κs.1.0 qs.1.0) ⊛ ‵ (flft κs.1.1.0 qs.1.1.0) ⊛ ‵ ftrue) ⊛ ‵ (owns (types_at T.signature.params κs) a vss))
    ∷ (raw (fact 𝓤 (κs.1.0 ⊑ X.lives)) ⊛ raw (fact 𝓤 (κs.1.1.0 ⊑ Z.lives)) ⊛ raw (fact 𝓤 Ok)) ∷ []) ∵
    move ! (1 ∷ []) $ split ! $ drop ! $ split ! $ heard ! (κs.1.1.0 ⊑ Z.lives) (λ lives. heard ! Ok (λ ok.
    split ! $ split ! $ move ! (2 ∷ []) $ fsplit ! $ raw_had E ! h vss.0 (λ b o at_b own_is fit.
    let none : length xs ≡ 0 = ap length ok.0 in
    let tiny : s < 2 ^ 64 = omega (arith, one_below 64 s (2 ^ 63) (omega arith) fit) in let fm : 64 * s < 2 ^ 64 = omega (arith, fit) in
    use2 𝓛 (‵ (froom τ b o)) (all_room E 𝓛 b o (length xs) 64 xs (omega arith)) $ as_raw ! τ b o $
    rewrite ! 1 (λ (z : Hd E). ‵ (Right E z b o)) ok.1 refl $ move ! (2 ∷ []) $ fsplit ! $ fsplit ! $ feq_l ! (λ heap_is. keep ! (2 ∷ 3 ∷ 0 ∷ 4 ∷ 5 ∷ []) $
    -- [the room; the right to free it; the allocator; the token of κ; the other tokens]
    let us : List Val = words (block_ptr b o) ∷ vptr hp.0 hp.1 ∷ [] in
    let Run : List Val → SProp 𝓤 = λ ws. WpFn 𝓤 𝓛.H 𝓣.C 𝓣.Λ (inst_fn (args E) code.function) ws Post in
    suffices ! (Run us) (subst (λ (ws : List Val). ent 𝓤 (Run us) (Run ws)) (sym (λ j. own_is j ++ (heap_is j ++ []))) (id⊢ 𝓤 (Run us))) $
    enter ! _ _ _ _ _ $ alloc_all ! (λ l. pass_all ! refl ((tt, (tt, (tt, tt))), ((tt, tt), tt)) $
    sets ! (of_opd ! (get_in ! (fld ! refl (stop !)) (sub ! 0 refl (whole !)))) refl (tt, tt) $
    first ! $ blocks ! $ sets ! (of_opd ! (get ! refl)) refl (tt, tt) $
    sets ! (bin ! (lit ! tt) (size_lit ! (record { fits = tiny })) (record { fits = fm })) refl (tt, record { fits = fm }) $
    move ! (2 ∷ 3 ∷ []) $ join ! $ move ! (1 ∷ 2 ∷ 0 ∷ []) $
    let asked = at_gives E.al 𝓛 𝓜.mem 𝓡.returns κ q hp al b o (64 * s) (capped (align (elτ E))) (bare τ) in
    use3 𝓛 (raw ((Gives E.al 𝓛 𝓜.mem 𝓡.returns).pre asked))
    (Gives-goes E.al 𝓛 𝓜.mem 𝓡.returns κ q hp al (Incl-trans y.0.2.0 lives) b o (64 * s) (capped (align (elτ E))) (bare τ) (ap capped (size-raw τ) ∙ capped_is (64 * s) fm) (ap capped (align-raw τ)) fm (capped_fits (align (elτ E)))) $
    calls_at_last ! (framed 𝓤 𝓛.H 𝓜 𝓣) (Gives E.al 𝓛 𝓜.mem 𝓡.returns) (met.deallocate dd) asked
    (and_then ! (get ! refl) (and_then ! (get ! refl) (and_then ! (get ! refl) (and_then ! (align_word !) (no_more !))))) (λ v.
    use1 𝓛 (later (given (v ≡ vunit) (‵ (flft κ q)))) (Gives-Gives E.al 𝓛 𝓜.mem 𝓡.returns κ q hp al b o (64 * s) (capped (align (elτ E))) (bare τ) v) $ await ! tt $ learn ! (λ unit_is.
    lands_last ! refl (subst (λ (u : Val). Holds (has_ty ty_unit u) × WT u) (sym unit_is) (tt, tt)) $
    exec ! 𝓣.C 𝓣.Λ (env (inst_fn (args E) code.function).locals l) (after 2 (inst_fn (args E) code.function).body) (at_ret (env (inst_fn (args E) code.function).locals l) Post) $
    sets ! (of_opd ! (unit_lit !)) refl (tt, tt) $ returns ! (look_at ! 0 refl) $ free_all ! refl $
    suffices ! _ (ends_at 𝓛 T stayed c y vunit tt (tt, (tt, tt)) (tt, (tt, tt))) $
    join ! $ feq_i ! (List Val) (vunit ∷ []) (vunit ∷ []) refl $ nothing ! $ nothing ! $ fjoin ! $ nothing ! $ fjoin ! $ join ! $ move ! (1 ∷ 0 ∷ []) $ join ! $
    nothing ! $ keep ! (1 ∷ 0 ∷ []) $ done !))))))))
