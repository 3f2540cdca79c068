-- `item` hands on the `&` to the i-th item that a `&` to the memory reaches. Assumes `Logic`.
use Rattle.std.proofs.Common.{refl, ℕ, ◌+◌, ◌*◌, ◌^◌, ◌<◌, List, [], ◌∷◌, length, get_or, arith}
use Rattle.std.proofs.raw_atomic.Walks.{proved}
use base.Logic.{fst∗, never}
use base.Fml.{Fml, ftrue, fsep, flft, fhide}
use contract.BorrowLft.{◌⊑◌}
use contract.Monad.{fact}
use contract.Running.{tables}
use mir.MapTy.{inst_fn}
use mir.Syntax.{w64, named}
use mir.Val.{Val, vptr}
use types.Logic.{sem}
use types.Kit.{‵, raw, ◌⊛◌, at_ret, ◌$◌, ◌∵◌, !, qed, move, keep, drop, use1, split, join, fsplit, fjoin, feq_i, flt_l, suffices, done}
use types.Run.{look, stop, fld, load, addr, size_lit, of_opd, bin, first, blocks, exec, returns, enter}
use types.ByLocal.{alloc_all, pass_all, free_all, look_at, get, through, sets, sets_last, env}
use denote.Array.{Array}
use denote.Builtin.{usize, RefOf}
use denote.Exit.{yes}
use denote.Memory.{hidden_shr, shared_of}
use denote.Opens.{unhide, hide}
use denote.Plain.{uint_vals, uint_Tells}
use denote.RattleType.{owns}
use denote.RawPtr.{Ptr, in_block, in_a_block, block_of, count_of, null_ptr}
use denote.Ref.{shr_vals, shr_Tells}
use denote.Signature.{Slot, plain, types_at}
use denote.Steps.{heard, nothing}
use denote.Struct.Lending.{lent_out}
use denote.Struct.Struct.{Struct}
use denote.Struct.Owning.{shape}
use denote.Triple.Entry.{Vals}
use denote.Triple.Walked.{Stays, stay_dropped, walk_of, ends_at, Goes-dropped}
use Rattle.core.proofs.mem.Facts.{says_two}
use Rattle.core.specs.contracts.marker.PhantomData as phantom
use Rattle.core.proofs.ptr.Rows.{times_below, one_below}
use Rattle.core.proofs.slice.Lists.{hd, any-default}
use Rattle.core.proofs.slots.Lent.{pointer_in, pointer_out}
use Rattle.std_alloc.proofs.VecSteps.El.{El, el_x, R, P, args, sz}
use Rattle.std_alloc.proofs.VecSteps.Shapes.{after}
use Rattle.block_list.proofs.RawMemory.{Rb, Raw, address_is, item_seen}
use Rattle.block_list.specs.contracts.raw.RawBlock as C
use Rattle.block_list.specs.contracts.raw.RawBlock.item as F
use Rattle.block_list.specs.contracts.raw.RawBlock.item.Key.{name as #self}
use Rattle.block_list.proofs.raw.RawBlock.item.Statement.{statement as item_statement}
use Rattle.block_list.proofs.raw.RawBlock.item.Code as code

pub item_spec : {M : Type 1} → item_statement M
item_spec 𝓤 𝓛 𝓜 𝓡 wired X Z LX LZ g d dd met md =
    let E : El = record { row = X; laws = LX; al = record { row = Z; laws = LZ; g = g; d = d; drops = dd } } in
    let T = F.ended X Z g d dd in let c = F.clauses X Z g d dd 𝓛 𝓜.mem 𝓡.returns in
    let 𝓣 = tables 𝓤 𝓛.H 𝓜 𝓡 𝓡.env in
    let self : Slot 3 = RefOf (0 ∷ []) tt (plain (λ _. Rb E)) (λ _. tt) in let index : Slot 3 = plain (λ _. usize) in
    let stayed : Stays T.signature.params T.kept = (stay_dropped self yes, (stay_dropped index yes, tt)) in
    proved 𝓛 T stayed c 𝓜 𝓡 (Goes-dropped 𝓛 3 self yes (λ κs x f. refl), (Goes-dropped 𝓛 3 index yes (λ κs x f. refl), tt))
    (#self (args E)) (inst_fn (args E) code.function) (code.unfolded 𝓤 𝓛.H 𝓜 𝓡 wired (X, (Z, tt)) d dd)
    (λ κs. (shr_vals, (uint_vals w64, tt))) (λ κs. (shr_Tells (named 0) κs.0 (Rb E), (uint_Tells w64, tt))) (λ κs qs bounds a gh are.
    let vss : Vals T.signature κs = (shr_vals a.0, (uint_vals w64 a.1.0, tt)) in
    let y : (walk_of 𝓛 T stayed c).Ghost = ((κs, qs, bounds, a, vss), gh) in
    let κ = κs.0 in let rb = a.0.ref_ptr.0 in let ro = a.0.ref_ptr.1 in let h : Raw E = a.0.now in let i : ℕ = a.1.0 in
    let xs = h.items in let s = sz E in let Ok : Type 0 = (i < length xs) × (i < 64) in
    let Lent : Ptr → Fml = λ p. fsep (in_block p ftrue) (shared_of (Array (R E) (length xs)) xs (block_of p) (count_of p) κ) in
    qed 𝓛 (((‵ (flft κ qs.0) ⊛ ‵ (flft κs.1.0 qs.1.0) ⊛ ‵ (flft κs.1.1.0 qs.1.1.0) ⊛ ‵ ftrue) ⊛ ‵ (owns (types_at T.signature.params κs) a vss))
    ∷ (raw (fact 𝓤 (κs.1.0 ⊑ X.lives)) ⊛ raw (fact 𝓤 (κs.1.1.0 ⊑ Z.lives)) ⊛ raw (fact 𝓤 Ok)) ∷ []) ∵
    move ! (1 ∷ []) $ split ! $ drop ! $ split ! $ drop ! $ heard ! Ok (λ ok.
    let deflt : el_x E = hd xs (omega (arith, ok.0)) in let x : el_x E = get_or xs i deflt in
    split ! $ split ! $ move ! (2 ∷ []) $ fsplit ! $ fsplit ! $ drop ! $
    use1 𝓛 (‵ (hidden_shr (Struct (shape (C.the_type (R E) (P E) g))) κ (h.ptr, (tt, tt)) rb ro) ⊛ ‵ (fhide (C.the_lent (R E) (P E) g h h.ptr κ)))
    (lent_out 𝓛 (C.struct (R E) (P E) g) (C.the_codes (el_x E) (P E).Denot (R E).coded (P E).coded (phantom.the_row (P E)).coded) (C.the_heap (R E) (P E) g) (C.the_lent (R E) (P E) g) κ h rb ro) $ split ! $
    move ! (1 ∷ []) $ unhide ! $ fsplit ! $ flt_l ! (λ fit.
    let tiny : s < 2 ^ 64 = omega (arith, one_below 64 s (2 ^ 63) (omega arith) fit) in
    let fm : i * s < 2 ^ 64 = omega (arith, times_below i 64 s (2 ^ 63) (omega (arith, ok.1)) fit) in
    in_a_block ! h.ptr Lent (fst∗ 𝓤 (never 𝓤) (sem 𝓛 (shared_of (Array (R E) (length xs)) xs (block_of null_ptr) (count_of null_ptr) κ))) (λ b o at_b.
    fsplit ! $ drop ! $ fsplit ! $ drop ! $ use1 𝓛 (‵ (shared_of (R E) x b (i * s + o) κ)) (item_seen (R E) 𝓛 κ b s xs o i deflt ok.0) $ hide ! $
    move ! (1 ∷ []) $ unhide ! $ fsplit ! $ fsplit ! $ hide ! $ keep ! (0 ∷ 5 ∷ 6 ∷ 3 ∷ []) $
    -- [the pointer; the token of κ; the other tokens; the item]
    enter ! _ _ _ _ _ $ alloc_all ! (λ l. pass_all ! refl ((tt, tt), ((tt, record { fits = are.1.0.1 }), tt)) $
    first ! $ blocks ! $ pointer_in ! tt h.ptr b o at_b rb (ro + 0) (λ q.
    sets ! (of_opd ! (load ! (through ! refl (fld ! refl (stop !))) (look ! 0 refl))) refl (tt, tt) $
    pointer_out ! tt h.ptr b o at_b rb (ro + 0) $
    sets ! (bin ! (get ! refl) (size_lit ! (record { fits = tiny })) (record { fits = fm })) refl (tt, record { fits = fm }) $
    sets ! (bin ! (get ! refl) (get ! refl) tt) refl (tt, tt) $ sets_last ! (addr ! (through ! refl (stop !))) refl (tt, tt) $
    exec ! 𝓣.C 𝓣.Λ (env (inst_fn (args E) code.function).locals l) (after 1 (inst_fn (args E) code.function).body) (at_ret (env (inst_fn (args E) code.function).locals l) ((walk_of 𝓛 T stayed c).post y)) $
    sets ! (of_opd ! (get ! refl)) refl (tt, tt) $ returns ! (look_at ! 0 refl) $ free_all ! refl $
    suffices ! _ (ends_at 𝓛 T stayed c y (vptr b (i * s + o)) (record { ref_ptr = (b, i * s + o); now = x }) (tt, (tt, tt)) (tt, (tt, tt))) $ says_two ! (any-default xs i deflt x ok.0, address_is (R E) h.ptr b o i at_b) $
    join ! $ move ! (1 ∷ []) $ feq_i ! (List Val) (vptr b (i * s + o) ∷ []) (vptr b (i * s + o) ∷ []) refl $ fjoin ! $ nothing ! $ nothing ! $ fjoin ! $ nothing ! $ fjoin ! $ keep ! (2 ∷ 0 ∷ 1 ∷ []) $ done !))))))
