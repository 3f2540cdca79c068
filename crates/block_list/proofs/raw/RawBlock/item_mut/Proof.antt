-- `item_mut` lends the i-th item, and the memory follows what is written there. Assumes `Logic`.
use Rattle.std.proofs.Common.{◌≡◌, refl, sym, ℕ, ◌+◌, ◌*◌, ◌^◌, ◌<◌, List, [], ◌∷◌, length, get_or, set, arith, length-set}
use Rattle.std.proofs.raw_atomic.Walks.{proved}
use seplogic.Ra.Ura.{Ura}
use base.Fraction.{full_share}
use base.Logic.{ent, sep}
use base.Fml.{Fml, GName, ftrue, fsep, flft}
use contract.BorrowLft.{◌⊑◌}
use contract.Monad.{fact}
use contract.Running.{tables}
use mir.MapTy.{inst_fn}
use mir.Syntax.{w64, named}
use mir.Val.{Val, vptr}
use types.Logic.{Logic, sem}
use types.Kit.{‵, raw, ◌⊛◌, some, later, given, at_ret, ◌$◌, ◌∵◌, !, qed, move, keep, drop, use1, use2, split, split3, join, fsplit, fsplit3, fjoin, fpack, rewrite, learn, pick, await, frame, group, suffices, done}
use types.Part.{whole, sub, look_in}
use types.Run.{stop, fld, load, addr, size_lit, of_opd, bin, first, blocks, exec, returns, enter}
use types.ByLocal.{alloc_all, pass_all, free_all, look_at, get, through, sets, sets_last, env}
use denote.Array.{Array}
use denote.Builtin.{usize, RefMutOf}
use denote.Exit.{yes, no}
use denote.Follow.{follows, lends_Part}
use denote.Index.{others}
use denote.Memory.{cell_at, part_at, part_of, mem, shares}
use denote.Plain.{uint_vals, uint_Tells}
use denote.RattleType.{owns}
use denote.RawPtr.{block_ptr}
use denote.Ref.{MutRef, mut_vals, mut_Tells}
use denote.Signature.{Slot, plain, types_at}
use denote.Steps.{heard, nothing}
use denote.Triple.Entry.{Vals}
use denote.Triple.Walked.{Stays, stay_dropped, walk_of, ends_at, Goes-dropped, Goes-spent_ref}
use Rattle.core.proofs.mem.Facts.{says_two}
use Rattle.core.proofs.ptr.Rows.{times_below, one_below}
use Rattle.core.proofs.slice.Lists.{hd, any-default}
use Rattle.std_alloc.proofs.VecSteps.El.{El, el_x, R, args, sz}
use Rattle.std_alloc.proofs.VecSteps.Rows.{take_out, put_in}
use Rattle.std_alloc.proofs.VecSteps.Shapes.{after}
use Rattle.block_list.proofs.RawMemory.{Rb, Raw, address_is, Spare, Right, words, raw_made, raw_opens}
use Rattle.block_list.specs.RawLends.{with_item}
use Rattle.block_list.specs.contracts.raw.RawBlock.item_mut as F
use Rattle.block_list.specs.contracts.raw.RawBlock.item_mut.Key.{name as #self}
use Rattle.block_list.proofs.raw.RawBlock.item_mut.Statement.{statement as item_mut_statement}
use Rattle.block_list.proofs.raw.RawBlock.item_mut.Code as code

module _ (E : El) {M : Type 1} {𝓤 : Ura M} (𝓛 : Logic 𝓤) (h : Raw E) (i rb ro b o : ℕ) where
  -- all but the i-th item
  abbrev Besides : Fml
  Besides = fsep (others (shares (R E)) full_share h.items i b o) (fsep (Spare E b o (length h.items)) (fsep (Right E h.alloc b o) (cell_at full_share (Rb E).mir (words (block_ptr b o) ∷ []) rb ro)))

  -- an item in that place makes the memory whole again
  back : h.ptr ≡ block_ptr b o → 64 * sz E < 2 ^ 63 → i < length h.items → (w : el_x E)
      → ent 𝓤 (sep 𝓤 (sem 𝓛 ((mem (R E)).own_at w b (i * sz E + o))) (sem 𝓛 Besides)) (sem 𝓛 ((mem (Rb E)).own_at (with_item h i w) rb ro))
  unfolding part_of
  back at_b fit lt w =
      let n = length h.items in let same : length (set h.items i w) ≡ n = length-set h.items i w in
      qed 𝓛 (‵ (part_at (R E) full_share w b (i * sz E + o)) ∷ ‵ Besides ∷ []) ∵ move ! (1 ∷ []) $ fsplit ! $ move ! (1 ∷ []) $ fsplit ! $ move ! (1 ∷ []) $ fsplit ! $
      -- [the right; the words; the room; the others; w]
      move ! (4 ∷ 3 ∷ []) $ use2 𝓛 (‵ (part_at (Array (R E) n) full_share (set h.items i w) b o)) (put_in E 𝓛 n h.items i w b o lt refl) $ move ! (0 ∷ 3 ∷ 1 ∷ 2 ∷ []) $
      rewrite ! 0 (λ (k : ℕ). ‵ (part_at (Array (R E) k) full_share (set h.items i w) b o)) (sym same) refl $ rewrite ! 1 (λ (k : ℕ). ‵ (Spare E b o k)) (sym same) refl $
      raw_made E ! (with_item h i w) b o at_b fit $ move ! (1 ∷ 0 ∷ []) $ fjoin ! $
      fpack ! (List Val) (λ us. fsep (cell_at full_share (Rb E).mir us rb ro) ((Rb E).own_val (with_item h i w) us)) (words (block_ptr b o) ∷ []) $ done !

pub item_mut_spec : {M : Type 1} → item_mut_statement M
item_mut_spec 𝓤 𝓛 𝓜 𝓡 wired X Z LX LZ g d dd met md =
    let E : El = record { row = X; laws = LX; al = record { row = Z; laws = LZ; g = g; d = d; drops = dd } } in
    let T = F.ended X Z g d dd in let c = F.clauses X Z g d dd 𝓛 𝓜.mem 𝓡.returns in
    let 𝓣 = tables 𝓤 𝓛.H 𝓜 𝓡 𝓡.env in
    let index : Slot 3 = plain (λ _. usize) in
    let stayed : Stays T.signature.params T.kept = (stay_dropped (RefMutOf (0 ∷ []) tt (plain (λ _. Rb E)) (λ _. tt)) no, (stay_dropped index yes, tt)) in
    proved 𝓛 T stayed c 𝓜 𝓡 (Goes-spent_ref 𝓛 3 (0 ∷ []) tt (plain (λ _. Rb E)), (Goes-dropped 𝓛 3 index yes (λ κs x f. refl), tt))
    (#self (args E)) (inst_fn (args E) code.function) (code.unfolded 𝓤 𝓛.H 𝓜 𝓡 wired (X, (Z, tt)) d dd)
    (λ κs. (mut_vals, (uint_vals w64, tt))) (λ κs. (mut_Tells (named 0) κs.0 (Rb E), (uint_Tells w64, tt))) (λ κs qs bounds a gh are.
    let vss : Vals T.signature κs = (mut_vals a.0, (uint_vals w64 a.1.0, tt)) in
    let y : (walk_of 𝓛 T stayed c).Ghost = ((κs, qs, bounds, a, vss), gh) in
    let κ = κs.0 in let rb = a.0.ref_ptr.0 in let ro = a.0.ref_ptr.1 in let γ = a.0.ghost_name in let h : Raw E = a.0.now in let i : ℕ = a.1.0 in
    let xs = h.items in let s = sz E in let Ok : Type 0 = (i < length xs) × (i < 64) in
    qed 𝓛 (((‵ (flft κ qs.0) ⊛ ‵ (flft κs.1.0 qs.1.0) ⊛ ‵ (flft κs.1.1.0 qs.1.1.0) ⊛ ‵ ftrue) ⊛ ‵ (owns (types_at T.signature.params κs) a vss))
    ∷ (raw (fact 𝓤 (κs.1.0 ⊑ X.lives)) ⊛ raw (fact 𝓤 (κs.1.1.0 ⊑ Z.lives)) ⊛ raw (fact 𝓤 Ok)) ∷ []) ∵
    move ! (1 ∷ []) $ split ! $ drop ! $ split ! $ drop ! $ heard ! Ok (λ ok.
    let deflt : el_x E = hd xs (omega (arith, ok.0)) in let x : el_x E = get_or xs i deflt in
    split ! $ split ! $ move ! (2 ∷ []) $ fsplit ! $ fsplit3 ! $ keep ! (1 ∷ 2 ∷ 4 ∷ 5 ∷ []) $
    -- [obs; the borrow; the token of κ; the other tokens]
    enter ! _ _ _ _ _ $ alloc_all ! (λ l. pass_all ! refl ((tt, tt), ((tt, record { fits = are.1.0.1 }), tt)) $
    raw_opens E ! tt h rb ro (λ b o at_b fit.
    let tiny : s < 2 ^ 64 = omega (arith, one_below 64 s (2 ^ 63) (omega arith) fit) in
    let fm : i * s < 2 ^ 64 = omega (arith, times_below i 64 s (2 ^ 63) (omega (arith, ok.1)) fit) in
    let at : ℕ = i * s + o in
    first ! $ blocks ! $
    sets ! (of_opd ! (load ! (through ! refl (fld ! refl (stop !))) (look_in ! 3 (sub ! 0 refl (whole !))))) refl (tt, tt) $
    sets ! (bin ! (get ! refl) (size_lit ! (record { fits = tiny })) (record { fits = fm })) refl (tt, record { fits = fm }) $
    sets ! (bin ! (get ! refl) (get ! refl) tt) refl (tt, tt) $ sets_last ! (addr ! (through ! refl (stop !))) refl (tt, tt) $
    exec ! 𝓣.C 𝓣.Λ (env (inst_fn (args E) code.function).locals l) (after 1 (inst_fn (args E) code.function).body) (at_ret (env (inst_fn (args E) code.function).locals l) ((walk_of 𝓛 T stayed c).post y)) $
    sets ! (of_opd ! (get ! refl)) refl (tt, tt) $
    use1 𝓛 (given (length xs ≡ length xs) (‵ (part_at (R E) full_share x b at) ⊛ ‵ (others (shares (R E)) full_share xs i b o))) (take_out E 𝓛 (length xs) xs i deflt b o ok.0) $ learn ! (λ _. split ! $
    move ! (3 ∷ 4 ∷ []) $ fjoin ! $ move ! (3 ∷ 0 ∷ []) $ fjoin ! $ move ! (2 ∷ 0 ∷ []) $ fjoin ! $ move ! (2 ∷ 3 ∷ 4 ∷ 1 ∷ 0 ∷ []) $ group ! 5 $
    use1 𝓛 (later (some (λ (γ' : GName). ‵ ((MutRef (named 0) κ (R E)).own_val (record { ref_ptr = (b, at); ghost_name = γ'; now = x }) (vptr b at ∷ [])) ⊛ ‵ (flft κ qs.0) ⊛ ‵ (follows (Rb E) (R E) γ γ' (with_item h i)))))
    (lends_Part 𝓛 (Rb E) (R E) (with_item h i) (named 0) κ qs.0 rb ro b at γ (sem 𝓛 (Besides E 𝓛 h i rb ro b o)) (back E 𝓛 h i rb ro b o at_b fit ok.0) ((Rb E).coded.code h) ((Rb E).coded.code h) x) $
    await ! tt $ pick ! (λ γ'. split3 ! $ returns ! (look_at ! 0 refl) $ free_all ! refl $
    -- [the reference; the token of κ; what follows; the other tokens]
    suffices ! _ (ends_at 𝓛 T stayed c y (vptr b at) (record { ref_ptr = (b, at); ghost_name = γ'; now = x }) (tt, (tt, tt)) (tt, (tt, tt))) $
    nothing ! $ nothing ! $ fjoin ! $ nothing ! $ fjoin ! $ join ! $ move ! (1 ∷ 3 ∷ []) $ join ! $ join ! $ frame ! $ says_two ! (any-default xs i deflt x ok.0, address_is (R E) h.ptr b o i at_b) $ keep ! (0 ∷ []) $ done !))))))
