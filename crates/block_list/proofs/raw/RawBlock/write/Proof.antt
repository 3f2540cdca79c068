-- `write` puts an item into the first place that is room. Assumes `Logic`.
use Rattle.std.proofs.Common.{◌≡◌, refl, sym, subst, ℕ, ◌+◌, ◌*◌, ◌^◌, ◌<◌, List, [], ◌∷◌, ◌++◌, length, arith, length-append}
use Rattle.std.proofs.raw_atomic.Walks.{proved_at}
use base.Fraction.{full_share}
use base.Logic.{ent}
use base.Fml.{ftrue, froom, flft}
use contract.BorrowLft.{◌⊑◌}
use contract.Monad.{fact}
use contract.Running.{tables}
use mir.MapTy.{inst_fn}
use mir.Syntax.{w64}
use mir.Val.{Val, vunit, vint, vptr}
use prog.Wp.{WpFn}
use types.Kit.{‵, raw, ◌⊛◌, at_ret, ◌$◌, ◌∵◌, !, qed, move, keep, drop, use1, use2, split, join, fsplit, fsplit3, fjoin, fjoin3, feq_i, rewrite, suffices, done}
use types.Part.{whole, sub, look_in}
use types.Run.{init, stop, fld, load, size_lit, unit_lit, of_opd, bin, assigns_last, first, blocks, exec, returns, enter}
use types.ByLocal.{alloc_all, pass_all, free_all, look_at, get, through, sets, env}
use denote.Array.{Array}
use denote.Builtin.{usize}
use denote.Exit.{yes, no}
use denote.Memory.{part_at}
use denote.RattleType.{owns}
use denote.Signature.{Slot, plain, types_at}
use denote.Steps.{heard, nothing}
use denote.Triple.Entry.{Vals}
use denote.Triple.Walked.{Stays, stay_ref, stay_dropped, walk_of, ends_at, Goes-ref, Goes-dropped}
use Rattle.core.proofs.mem.Facts.{says_two}
use Rattle.core.proofs.mem.Param.{one, lawful}
use Rattle.core.proofs.ptr.Rows.{times_below, one_below}
use Rattle.std_alloc.proofs.VecSteps.El.{El, el_x, elτ, R, args, sz}
use Rattle.std_alloc.proofs.VecSteps.Rows.{el_in, snoc, spare}
use Rattle.std_alloc.proofs.VecSteps.Shapes.{after}
use Rattle.block_list.proofs.RawMemory.{Rb, Raw, Spare, raw_opens, raw_closes}
use Rattle.block_list.specs.contracts.raw.RawBlock.write as F
use Rattle.block_list.specs.contracts.raw.RawBlock.write.Key.{name as #self}
use Rattle.block_list.proofs.raw.RawBlock.write.Statement.{statement as write_statement}
use Rattle.block_list.proofs.raw.RawBlock.write.Code as code

pub write_spec : {M : Type 1} → write_statement M
write_spec 𝓤 𝓛 𝓜 𝓡 wired X Z LX LZ g d dd met md =
    let E : El = record { row = X; laws = LX; al = record { row = Z; laws = LZ; g = g; d = d; drops = dd } } in
    let T = F.ended X Z g d dd in let c = F.clauses X Z g d dd 𝓛 𝓜.mem 𝓡.returns in
    let 𝓣 = tables 𝓤 𝓛.H 𝓜 𝓡 𝓡.env in
    let index : Slot 3 = plain (λ _. usize) in let given : Slot 3 = plain (λ _. R E) in
    let stayed : Stays T.signature.params T.kept = (stay_ref (0 ∷ []) tt (plain (λ _. Rb E)), (stay_dropped index yes, (stay_dropped given no, tt))) in
    let W = walk_of 𝓛 T stayed c in
    proved_at 𝓛 T stayed c 𝓜 𝓡 (Goes-ref 𝓛 3 0 tt (plain (λ _. Rb E)), (Goes-dropped 𝓛 3 index yes (λ κs x f. refl), (Goes-dropped 𝓛 3 given no (λ κs x f. refl), tt)))
    (#self (args E)) (inst_fn (args E) code.function) (code.unfolded 𝓤 𝓛.H 𝓜 𝓡 wired (X, (Z, tt)) d dd) (λ z are.
    let κs = z.0.0 in let qs = z.0.1 in let a = z.0.3 in let xs = a.0.now.items in let s = sz E in
    let κ = κs.0 in let rb = a.0.ref_ptr.0 in let ro = a.0.ref_ptr.1 in let h : Raw E = a.0.now in let n : ℕ = a.1.0 in let x : el_x E = a.1.1.0 in
    let value = one (record { row = X; laws = LX }) z.0.4.1.1.0 ((lawful (record { row = X; laws = LX }) 𝓛).typed x z.0.4.1.1.0 are.1.1.0) in
    let v : Val = value.0 in let tv = value.2 in
    let vss : Vals T.signature κs = (vptr rb ro ∷ [], (vint w64 n ∷ [], (v ∷ [], tt))) in
    let y : W.Ghost = ((κs, qs, z.0.2, a, vss), z.1) in
    let Ok : Type 0 = (n ≡ length xs) × (n < 64) in
    subst (λ (uss : Vals T.signature κs). ent 𝓤 (W.pre ((κs, qs, z.0.2, a, uss), z.1)) (WpFn 𝓤 𝓛.H 𝓣.C 𝓣.Λ (inst_fn (args E) code.function) (W.args ((κs, qs, z.0.2, a, uss), z.1)) (W.post ((κs, qs, z.0.2, a, uss), z.1))))
    (sym (λ j. (are.0.0 j, (are.1.0.0 j, (value.1 j, tt))))) (
    qed 𝓛 (((‵ (flft κ qs.0) ⊛ ‵ (flft κs.1.0 qs.1.0) ⊛ ‵ (flft κs.1.1.0 qs.1.1.0) ⊛ ‵ ftrue) ⊛ ‵ (owns (types_at T.signature.params κs) a vss))
    ∷ (raw (fact 𝓤 (κs.1.0 ⊑ X.lives)) ⊛ raw (fact 𝓤 (κs.1.1.0 ⊑ Z.lives)) ⊛ raw (fact 𝓤 Ok)) ∷ []) ∵
    move ! (1 ∷ []) $ split ! $ drop ! $ split ! $ drop ! $ heard ! Ok (λ ok.
    let more : Raw E = record { ptr = h.ptr; by = h.by; items = xs ++ x ∷ []; alloc = h.alloc } in
    let long : n + 1 ≡ length (xs ++ x ∷ []) = omega (arith, ok.0, length-append xs (x ∷ [])) in
    split ! $ split ! $ move ! (2 ∷ []) $ fsplit3 ! $ fsplit3 ! $ move ! (4 ∷ []) $ fsplit ! $ keep ! (3 ∷ 4 ∷ 6 ∷ 7 ∷ 0 ∷ []) $
    -- [obs; the borrow; the token of κ; the other tokens; what the item owns]
    enter ! _ _ _ _ _ $ alloc_all ! (λ l. pass_all ! refl ((tt, tt), ((tt, record { fits = are.1.0.1 }), (tv, tt))) $
    raw_opens E ! tt h rb ro (λ b o at_b fit.
    let tiny : s < 2 ^ 64 = omega (arith, one_below 64 s (2 ^ 63) (omega arith) fit) in
    let fm : n * s < 2 ^ 64 = omega (arith, times_below n 64 s (2 ^ 63) (omega (arith, ok.1)) fit) in
    let at : ℕ = n * s + o in
    rewrite ! 0 (λ (j : ℕ). ‵ (part_at (Array (R E) j) full_share xs b o)) (sym ok.0) refl $ rewrite ! 1 (λ (j : ℕ). ‵ (Spare E b o j)) (sym ok.0) refl $ move ! (1 ∷ []) $
    use1 𝓛 (‵ (froom (elτ E) b at) ⊛ ‵ (Spare E b o (n + 1))) (spare E 𝓛 b o n 64 ok.1) $ split ! $
    -- [the place; the room after it; the items; the right; the words; the open borrow; obs; auth; the other tokens;
    -- what the item owns]
    first ! $ blocks ! $
    sets ! (of_opd ! (load ! (through ! refl (fld ! refl (stop !))) (look_in ! 4 (sub ! 0 refl (whole !))))) refl (tt, tt) $
    sets ! (bin ! (get ! refl) (size_lit ! (record { fits = tiny })) (record { fits = fm })) refl (tt, record { fits = fm }) $
    sets ! (bin ! (get ! refl) (get ! refl) tt) refl (tt, tt) $ sets ! (of_opd ! (get ! refl)) refl tv $
    assigns_last ! (of_opd ! (get ! refl)) (through ! refl (stop !)) (init ! 0 refl tv) $
    exec ! 𝓣.C 𝓣.Λ (env (inst_fn (args E) code.function).locals l) (after 1 (inst_fn (args E) code.function).body) (at_ret (env (inst_fn (args E) code.function).locals l) (W.post y)) $
    sets ! (of_opd ! (unit_lit !)) refl (tt, tt) $
    move ! (0 ∷ 9 ∷ []) $ use2 𝓛 (‵ (part_at (R E) full_share x b at)) (el_in E 𝓛 full_share x b at v) $ move ! (2 ∷ 0 ∷ []) $
    use2 𝓛 (‵ (part_at (Array (R E) (n + 1)) full_share (xs ++ x ∷ []) b o)) (snoc E 𝓛 b o n xs x) $
    rewrite ! 0 (λ (j : ℕ). ‵ (part_at (Array (R E) j) full_share (xs ++ x ∷ []) b o)) long refl $ rewrite ! 1 (λ (j : ℕ). ‵ (Spare E b o j)) long refl $
    raw_closes E ! tt more b o rb ro at_b fit $ returns ! (look_at ! 0 refl) $ free_all ! refl $
    -- [obs; the borrow; the token of κ; the other tokens]
    suffices ! _ (ends_at 𝓛 T stayed c y vunit tt (more, (tt, (tt, tt))) (tt, (tt, (tt, tt)))) $ says_two ! (refl, record { start = refl; owner = refl }) $
    feq_i ! (List Val) (vptr rb ro ∷ []) (vptr rb ro ∷ []) refl $ fjoin3 ! $ nothing ! $ nothing ! $ fjoin ! $ nothing ! $ fjoin ! $ move ! (1 ∷ 0 ∷ []) $ fjoin ! $
    move ! (1 ∷ 2 ∷ []) $ join ! $ feq_i ! (List Val) (vunit ∷ []) (vunit ∷ []) refl $ keep ! (1 ∷ 2 ∷ 0 ∷ []) $ done !)))))
