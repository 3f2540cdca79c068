-- `read` takes the last item out of its place, which is room from then on. Assumes `Logic`.
use Rattle.std.proofs.Common.{◌≡◌, refl, sym, ap, ◌∙◌, ℕ, suc, ◌+◌, ◌*◌, ◌^◌, ◌<◌, List, [], ◌∷◌, ◌++◌, length, get_or, take, arith, length-take}
use Rattle.std.proofs.raw_atomic.Walks.{proved}
use base.Fraction.{full_share}
use base.Fml.{ftrue, fat, flft}
use contract.BorrowLft.{◌⊑◌}
use contract.Monad.{fact}
use contract.Running.{tables}
use mir.MapTy.{inst_fn}
use mir.Syntax.{w64, named}
use mir.Val.{Val, vptr}
use types.Kit.{‵, raw, ◌⊛◌, some, given, at_ret, ◌$◌, ◌∵◌, !, qed, move, keep, drop, use1, use2, split, join, fsplit, fsplit3, fjoin, fjoin3, feq_i, rewrite, learn, pick, suffices, done}
use types.Part.{whole, sub, look_in}
use types.Run.{look, stop, fld, load, size_lit, of_opd, bin, forget, first, blocks, exec, returns, enter}
use types.ByLocal.{alloc_all, pass_all, free_all, look_at, get, through, sets, sets_last, env}
use denote.Array.{Array}
use denote.Builtin.{usize}
use denote.Exit.{yes}
use denote.Memory.{part_at}
use denote.Plain.{uint_vals, uint_Tells}
use denote.RattleType.{owns}
use denote.Ref.{mut_vals, mut_Tells}
use denote.Signature.{Slot, plain, types_at}
use denote.Steps.{heard, nothing}
use denote.Triple.Entry.{Vals}
use denote.Triple.Walked.{Stays, stay_ref, stay_dropped, walk_of, ends_at, Goes-ref, Goes-dropped}
use Rattle.core.proofs.mem.Facts.{says_two}
use Rattle.core.proofs.ptr.Rows.{hd, take_all, take_snoc, times_below, one_below}
use Rattle.std_alloc.proofs.VecSteps.El.{El, el_x, elτ, el_own, R, args, sz, Good}
use Rattle.std_alloc.proofs.VecSteps.Rows.{el_out, unsnoc, unspare}
use Rattle.std_alloc.proofs.VecSteps.Shapes.{after}
use Rattle.block_list.proofs.RawMemory.{Rb, Raw, Spare, raw_opens, raw_closes}
use Rattle.block_list.specs.contracts.raw.RawBlock.read as F
use Rattle.block_list.specs.contracts.raw.RawBlock.read.Key.{name as #self}
use Rattle.block_list.proofs.raw.RawBlock.read.Statement.{statement as read_statement}
use Rattle.block_list.proofs.raw.RawBlock.read.Code as code

pub read_spec : {M : Type 1} → read_statement M
read_spec 𝓤 𝓛 𝓜 𝓡 wired X Z LX LZ g d dd met md =
    let E : El = record { row = X; laws = LX; al = record { row = Z; laws = LZ; g = g; d = d; drops = dd } } in
    let T = F.ended X Z g d dd in let c = F.clauses X Z g d dd 𝓛 𝓜.mem 𝓡.returns in
    let 𝓣 = tables 𝓤 𝓛.H 𝓜 𝓡 𝓡.env in
    let index : Slot 3 = plain (λ _. usize) in
    let stayed : Stays T.signature.params T.kept = (stay_ref (0 ∷ []) tt (plain (λ _. Rb E)), (stay_dropped index yes, tt)) in
    proved 𝓛 T stayed c 𝓜 𝓡 (Goes-ref 𝓛 3 0 tt (plain (λ _. Rb E)), (Goes-dropped 𝓛 3 index yes (λ κs x f. refl), tt))
    (#self (args E)) (inst_fn (args E) code.function) (code.unfolded 𝓤 𝓛.H 𝓜 𝓡 wired (X, (Z, tt)) d dd)
    (λ κs. (mut_vals, (uint_vals w64, tt))) (λ κs. (mut_Tells (named 0) κs.0 (Rb E), (uint_Tells w64, tt))) (λ κs qs bounds a gh are.
    let vss : Vals T.signature κs = (mut_vals a.0, (uint_vals w64 a.1.0, tt)) in
    let y : (walk_of 𝓛 T stayed c).Ghost = ((κs, qs, bounds, a, vss), gh) in
    let κ = κs.0 in let rb = a.0.ref_ptr.0 in let ro = a.0.ref_ptr.1 in let h : Raw E = a.0.now in let k : ℕ = a.1.0 in
    let xs = h.items in let s = sz E in let Ok : Type 0 = (k + 1 ≡ length xs) × (k < 64) in
    qed 𝓛 (((‵ (flft κ qs.0) ⊛ ‵ (flft κs.1.0 qs.1.0) ⊛ ‵ (flft κs.1.1.0 qs.1.1.0) ⊛ ‵ ftrue) ⊛ ‵ (owns (types_at T.signature.params κs) a vss))
    ∷ (raw (fact 𝓤 (κs.1.0 ⊑ X.lives)) ⊛ raw (fact 𝓤 (κs.1.1.0 ⊑ Z.lives)) ⊛ raw (fact 𝓤 Ok)) ∷ []) ∵
    move ! (1 ∷ []) $ split ! $ drop ! $ split ! $ drop ! $ heard ! Ok (λ ok.
    let within : k < length xs = omega (arith, ok.0) in
    let deflt : el_x E = hd xs (omega (arith, ok.0)) in let x : el_x E = get_or xs k deflt in
    let ys : List (el_x E) = take k xs in let short : length ys ≡ k = omega (arith, length-take k xs) in
    let all : length xs ≡ suc k = omega (arith, ok.0) in
    let parts : xs ≡ ys ++ x ∷ [] = sym (take_all xs) ∙ ap (λ (j : ℕ). take j xs) all ∙ take_snoc xs k deflt within in
    let left : Raw E = record { ptr = h.ptr; by = h.by; items = ys; alloc = h.alloc } in
    split ! $ split ! $ move ! (2 ∷ []) $ fsplit ! $ fsplit3 ! $ keep ! (1 ∷ 2 ∷ 4 ∷ 5 ∷ []) $
    enter ! _ _ _ _ _ $ alloc_all ! (λ l. pass_all ! refl ((tt, tt), ((tt, record { fits = are.1.0.1 }), tt)) $
    raw_opens E ! tt h rb ro (λ b o at_b fit.
    let tiny : s < 2 ^ 64 = omega (arith, one_below 64 s (2 ^ 63) (omega arith) fit) in
    let fm : k * s < 2 ^ 64 = omega (arith, times_below k 64 s (2 ^ 63) (omega (arith, ok.1)) fit) in
    let at : ℕ = k * s + o in
    rewrite ! 0 (λ (zs : List (el_x E)). ‵ (part_at (Array (R E) (length xs)) full_share zs b o)) parts refl $
    use1 𝓛 (‵ (part_at (Array (R E) k) full_share ys b o) ⊛ ‵ (part_at (R E) full_share x b at)) (unsnoc E 𝓛 b o (length xs) k ys x short) $ split ! $ move ! (1 ∷ []) $
    use1 𝓛 (some (λ (v : Val). given (Good E v) (‵ (fat full_share (elτ E) b at v) ⊛ ‵ (el_own E x (v ∷ []))))) (el_out E 𝓛 full_share x b at) $ pick ! (λ v. learn ! (λ tv. split ! $
    -- [the cell; what the item owns; the other items; the room; the right; the words; the open borrow; obs; auth; the
    -- other tokens]
    first ! $ blocks ! $
    sets ! (of_opd ! (load ! (through ! refl (fld ! refl (stop !))) (look_in ! 5 (sub ! 0 refl (whole !))))) refl (tt, tt) $
    sets ! (bin ! (get ! refl) (size_lit ! (record { fits = tiny })) (record { fits = fm })) refl (tt, record { fits = fm }) $
    sets ! (bin ! (get ! refl) (get ! refl) tt) refl (tt, tt) $ sets_last ! (of_opd ! (load ! (through ! refl (stop !)) (look ! 0 refl))) refl tv $
    exec ! 𝓣.C 𝓣.Λ (env (inst_fn (args E) code.function).locals l) (after 1 (inst_fn (args E) code.function).body) (at_ret (env (inst_fn (args E) code.function).locals l) ((walk_of 𝓛 T stayed c).post y)) $
    sets ! (of_opd ! (get ! refl)) refl tv $
    forget ! 0 refl $ move ! (0 ∷ 3 ∷ []) $ rewrite ! 1 (λ (j : ℕ). ‵ (Spare E b o j)) (sym ok.0) refl $
    use2 𝓛 (‵ (Spare E b o k)) (unspare E 𝓛 b o k 64 ok.1) $ move ! (2 ∷ 0 ∷ 3 ∷ 4 ∷ 5 ∷ 6 ∷ 7 ∷ []) $
    rewrite ! 0 (λ (j : ℕ). ‵ (part_at (Array (R E) j) full_share ys b o)) (sym short) refl $ rewrite ! 1 (λ (j : ℕ). ‵ (Spare E b o j)) (sym short) refl $
    raw_closes E ! tt left b o rb ro at_b fit $ returns ! (look_at ! 0 refl) $ free_all ! refl $
    -- [obs; the borrow; the token of κ; what the item owns; the other tokens]
    suffices ! _ (ends_at 𝓛 T stayed c y v x (left, (tt, tt)) (tt, (tt, tt))) $ says_two ! (parts, record { start = refl; owner = refl }) $
    feq_i ! (List Val) (vptr rb ro ∷ []) (vptr rb ro ∷ []) refl $ fjoin3 ! $ nothing ! $ nothing ! $ fjoin ! $ move ! (1 ∷ 0 ∷ []) $ fjoin ! $
    move ! (1 ∷ 3 ∷ []) $ join ! $ keep ! (0 ∷ 1 ∷ 2 ∷ []) $ done !))))))
