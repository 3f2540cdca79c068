-- `allocate` asks for room for 64 items, and makes a block's memory of it with no item. Assumes `Logic`.
use Rattle.std.proofs.Common.{◌≡◌, refl, ap, ◌∙◌, ℕ, ◌+◌, ◌*◌, ◌^◌, ◌<◌, [], ◌∷◌, true, false, arith}
use Rattle.std.proofs.raw_atomic.Walks.{proved}
use Rattle.std.specs.Prelude.{IfOk}
use base.Logic.{SProp, ent, sep}
use base.Fml.{ftrue, froom, flft, Incl-trans}
use contract.BorrowLft.{◌⊑◌}
use contract.Monad.{fact}
use contract.Running.{tables}
use lib.Dec.{lit<}
use mir.MapTy.{inst_fn}
use mir.Raw.{raw as bare}
use mir.Syntax.{Ty, named, ty_array}
use mir.Val.{Val, vstruct, vcons, vnil, WT}
use prog.Capped.{capped_is, capped_fits}
use prog.Memory.{align, capped}
use prog.RawLaws.{size-raw, align-raw}
use prog.Wp.{Wp, after_seq, at_return, Env}
use types.Logic.{sem}
use types.Kit.{Post as After, any_q, ‵, raw, ◌⊛◌, later, at_ret, ◌$◌, ◌∵◌, !, qed, by, move, keep, drop, use0, use1, use2, split, join, fsplit, fjoin, rewrite, await, suffices, done}
use types.Match.{live, vrt, in_variant}
use types.Part.{whole, agg}
use types.Run.{stop, fld, lit, size_lit, align_word, no_more, and_then, of_opd, bin, first, switches_on, exec, returns, enter}
use types.ByLocal.{alloc_all, pass_all, free_all, look_at, get, get_in, get_tag, sets, sets_last, lands_as, env}
use denote.Builtin.{RefOf}
use denote.Exit.{yes}
use denote.Laws.{Is}
use denote.RattleType.{RattleType, owns}
use denote.RawPtr.{block_ptr}
use denote.Ref.{shr_vals, shr_Tells}
use denote.Signature.{Slot, plain, types_at}
use denote.Steps.{heard, nothing, owned}
use denote.Struct.Laws.{makes}
use denote.Triple.Call.{calls_at}
use denote.Triple.Entry.{Vals, alive}
use denote.Triple.Table.{framed}
use denote.Triple.Walked.{Stays, stay_dropped, walk_of, says, ends_at, Goes-dropped}
use Rattle.core.specs.declared.result.Result.TheVariants.{Ok, Err}
use Rattle.core.specs.contracts.result.Result as result
use Rattle.core.specs.contracts.alloc.AllocError as refusal
use Rattle.core.proofs.alloc.Calls.{Answer-typed, Takes, at_takes, Answered, Takes-goes, Takes-gives, answers}
use Rattle.core.proofs.alloc.Shapes.{after, front, arm_body}
use Rattle.core.proofs.ptr.Rows.{one_below}
use Rattle.std_alloc.proofs.RawLayout.{as_written}
use Rattle.std_alloc.proofs.ResultValues.{ok_of, err_of}
use Rattle.std_alloc.proofs.VecSteps.El.{El, elτ, P, Hd, args, sz}
use Rattle.std_alloc.proofs.VecSteps.Rows.{empty}
use Rattle.block_list.proofs.RawMemory.{Rb, Raw, Items, words, raw_made}
use Rattle.block_list.specs.contracts.raw.RawBlock.allocate as F
use Rattle.block_list.specs.contracts.raw.RawBlock.allocate.Key.{name as #self}
use Rattle.block_list.proofs.raw.RawBlock.allocate.Statement.{statement as allocate_statement}
use Rattle.block_list.proofs.raw.RawBlock.allocate.Code as code

pub allocate_spec : {M : Type 1} → allocate_statement M
allocate_spec 𝓤 𝓛 𝓜 𝓡 wired X Z LX LZ g d dd met md =
    let E : El = record { row = X; laws = LX; al = record { row = Z; laws = LZ; g = g; d = d; drops = dd } } in
    let T = F.ended X Z g d dd in let c = F.clauses X Z g d dd 𝓛 𝓜.mem 𝓡.returns in
    let 𝓣 = tables 𝓤 𝓛.H 𝓜 𝓡 𝓡.env in let H = 𝓛.H in
    let body = (inst_fn (args E) code.function).body in let branch = front (after 2 body) in
    let Out : RattleType = result.the_row (Rb E) refusal.the_row in
    let heap : Slot 3 = RefOf (0 ∷ []) tt (plain (λ _. P E)) (λ _. tt) in
    let stayed : Stays T.signature.params T.kept = (stay_dropped heap yes, tt) in
    proved 𝓛 T stayed c 𝓜 𝓡 (Goes-dropped 𝓛 3 heap yes (λ κs x f. refl), tt)
    (#self (args E)) (inst_fn (args E) code.function) (code.unfolded 𝓤 𝓛.H 𝓜 𝓡 wired (X, (Z, tt)) d dd)
    (λ κs. (shr_vals, tt)) (λ κs. (shr_Tells (named 0) κs.0 (P E), tt)) (λ κs qs bounds a gh are.
    let vss : Vals T.signature κs = (shr_vals a.0, tt) in
    let y : (walk_of 𝓛 T stayed c).Ghost = ((κs, qs, bounds, a, vss), gh) in
    let κ = κs.0 in let q = qs.0 in let hp : ℕ × ℕ = a.0.ref_ptr in let al : Hd E = a.0.now in
    let s = sz E in let τ : Ty = ty_array (elτ E) 64 in let Post : Val → SProp 𝓤 = (walk_of 𝓛 T stayed c).post y in
    let Small : Type 0 = (64 * s < 2 ^ 63) × (64 < 2 ^ 63) in
    let ends : (r : Out.Denot) (v : Val) → IfOk r (λ block. (block.items ≡ []) × (block.alloc ≡ al)) → ent 𝓤 (sep 𝓤 (sem 𝓛 (Out.own_val r (v ∷ []))) (alive 𝓛 T.signature κs qs)) (Post v) = λ r v said.
    (qed 𝓛 (‵ (Out.own_val r (v ∷ [])) ∷ raw (alive 𝓛 T.signature κs qs) ∷ []) ∵
    suffices ! _ (ends_at 𝓛 T stayed c y v r (tt, tt) (tt, tt)) $ says ! said $ nothing ! $ nothing ! $ fjoin ! $ move ! (2 ∷ 0 ∷ 1 ∷ []) $ done !) in
    qed 𝓛 (((‵ (flft κ q) ⊛ ‵ (flft κs.1.0 qs.1.0) ⊛ ‵ (flft κs.1.1.0 qs.1.1.0) ⊛ ‵ ftrue) ⊛ ‵ (owns (types_at T.signature.params κs) a vss))
    ∷ (raw (fact 𝓤 (κs.1.0 ⊑ X.lives)) ⊛ raw (fact 𝓤 (κs.1.1.0 ⊑ Z.lives)) ⊛ raw (fact 𝓤 Small)) ∷ []) ∵
    move ! (1 ∷ []) $ split ! $ drop ! $ split ! $ heard ! (κs.1.1.0 ⊑ Z.lives) (λ lives. heard ! Small (λ small.
    let fit : 64 * s < 2 ^ 63 = small.0 in
    let tiny : s < 2 ^ 64 = omega (arith, one_below 64 s (2 ^ 63) (omega arith) fit) in let fm : 64 * s < 2 ^ 64 = omega (arith, fit) in
    split ! $ split ! $ move ! (2 ∷ []) $ fsplit ! $ fsplit ! $ keep ! (1 ∷ 3 ∷ 4 ∷ []) $
    -- [the allocator; the token of κ; the other tokens]
    enter ! _ _ _ _ _ $ alloc_all ! (λ l. pass_all ! refl ((tt, tt), tt) $
    let En : Env 𝓤 H = env (inst_fn (args E) code.function).locals l in
    let Then : After 𝓤 H = any_q (after_seq 𝓤 H (Wp 𝓤 H 𝓣.C 𝓣.Λ En (after 3 body) (at_return 𝓤 H En Post)) (at_return 𝓤 H En Post)) in
    sets ! (bin ! (lit ! tt) (size_lit ! (record { fits = tiny })) (record { fits = fm })) refl (tt, record { fits = fm }) $
    let asked = at_takes E.al 𝓛 𝓜.mem 𝓡.returns κ q hp al (64 * s) (capped (align (elτ E))) (bare τ) in
    use2 𝓛 (raw ((Takes E.al 𝓛 𝓜.mem 𝓡.returns).pre asked))
    (Takes-goes E.al 𝓛 𝓜.mem 𝓡.returns κ q hp al (Incl-trans bounds.0 lives) (64 * s) (capped (align (elτ E))) (bare τ) (ap capped (size-raw τ) ∙ capped_is (64 * s) fm) (ap capped (align-raw τ)) fm (capped_fits (align (elτ E)))) $
    calls_at ! (framed 𝓤 H 𝓜 𝓣) (Takes E.al 𝓛 𝓜.mem 𝓡.returns) (met.allocate dd) asked (and_then ! (get ! refl) (and_then ! (get ! refl) (and_then ! (align_word !) (no_more !)))) (λ v.
    use1 𝓛 (later (raw (Answered E.al 𝓛 𝓜.mem 𝓡.returns al (bare τ) v) ⊛ ‵ (flft κ q))) (Takes-gives E.al 𝓛 𝓜.mem 𝓡.returns κ q hp al (64 * s) (capped (align (elτ E))) (bare τ) v) $ await ! tt $ split ! $
    move ! (1 ∷ 2 ∷ []) $ join ! $ move ! (1 ∷ []) $ answers E.al ! 𝓜.mem 𝓡.returns al (bare τ) v
    (λ b o answer_is.
    let made : Raw E = record { ptr = block_ptr b o; by = record {}; items = []; alloc = al } in let head : Val = words (block_ptr b o) in
    let first_place : o ≡ o + 0 * s = omega arith in
    let whole_fits : WT (live 0 (vcons head vnil)) = (record { fits = lit< tt }, ((tt, (tt, tt)), tt)) in
    lands_as ! answer_is refl (Answer-typed true b o) $ first ! $ switches_on ! (get_tag ! (vrt ! refl (fld ! refl (stop !))) (whole !)) $ exec ! 𝓣.C 𝓣.Λ En (arm_body 0 branch) Then $
    sets ! (of_opd ! (get_in ! (vrt ! refl (fld ! refl (stop !))) (in_variant ! 0 0 refl refl (whole !)))) refl (tt, tt) $ sets ! (of_opd ! (get ! refl)) refl (tt, tt) $
    sets ! (agg ! (no_more !)) refl (tt, tt) $ sets ! (agg ! (and_then ! (get ! refl) (and_then ! (get ! refl) (no_more !)))) refl (tt, (tt, (tt, tt))) $
    sets_last ! (agg ! (and_then ! (lit ! tt) (and_then ! (get ! refl) (no_more !)))) refl (tt, whole_fits) $
    exec ! 𝓣.C 𝓣.Λ En (after 3 body) (at_ret En Post) $ sets ! (of_opd ! (get ! refl)) refl (tt, whole_fits) $
    as_written ! τ b o $ rewrite ! 0 (λ (k : ℕ). ‵ (froom τ b k)) first_place refl $ use0 𝓛 (‵ (Items E b o [])) (empty E 𝓛 [] b o refl) $
    raw_made E ! made b o refl fit $ use1 𝓛 (‵ (Out.own_val (Ok made) (live 0 (vcons head vnil) ∷ []))) (ok_of 𝓛 (Rb E) refusal.the_row made head) $
    returns ! (look_at ! 0 refl) $ free_all ! refl $ keep ! (0 ∷ 1 ∷ []) $ by ! (ends (Ok made) (live 0 (vcons head vnil)) (refl, refl)))
    (λ answer_is.
    let none : Val = vstruct vnil in
    let none_fits : WT (live 1 (vcons none vnil)) = (record { fits = lit< tt }, (tt, tt)) in
    lands_as ! answer_is refl (Answer-typed false 0 0) $ first ! $ switches_on ! (get_tag ! (vrt ! refl (fld ! refl (stop !))) (whole !)) $ exec ! 𝓣.C 𝓣.Λ En (arm_body 1 branch) Then $
    sets ! (of_opd ! (get_in ! (vrt ! refl (fld ! refl (stop !))) (in_variant ! 1 0 refl refl (whole !)))) refl (tt, tt) $
    sets_last ! (agg ! (and_then ! (lit ! tt) (and_then ! (get ! refl) (no_more !)))) refl (tt, none_fits) $
    exec ! 𝓣.C 𝓣.Λ En (after 3 body) (at_ret En Post) $ sets ! (of_opd ! (get ! refl)) refl (tt, none_fits) $
    owned ! refusal.the_row (Is refusal.the_row) (makes refusal.the_type tt 𝓛) (record {}) (none ∷ []) (tt, (refl, tt)) $
    use1 𝓛 (‵ (Out.own_val (Err (record {})) (live 1 (vcons none vnil) ∷ []))) (err_of 𝓛 (Rb E) refusal.the_row (record {}) none) $
    returns ! (look_at ! 0 refl) $ free_all ! refl $ keep ! (0 ∷ 1 ∷ []) $ by ! (ends (Err (record {})) (live 1 (vcons none vnil)) tt)))))))
