-- What a block's memory owns and what a `&` to it reaches, taken apart and put together, for the walks of `raw`.
-- Assumes `Logic`.
use Rattle.std.proofs.Common.{◌≡◌, refl, sym, ap, ◌∙◌, ℕ, zero, suc, ◌+◌, ◌-◌, ◌*◌, ◌^◌, ◌<◌, List, [], ◌∷◌, ◌++◌, length, get_or, arith}
use seplogic.Ra.Ura.{Ura}
use base.Fraction.{full_share}
use base.Logic.{ent, id⊢, never}
use base.Stored.{Gv}
use base.Fml.{Lft, GName, Share, Fml, fsep, froom, flt, flft, fobs, fauth, fbor, fobor}
use mir.Syntax.{ty_array}
use mir.Raw.{raw as bare}
use mir.Val.{Val, vptr, vstruct, vcons, vnil, of_list}
use types.Logic.{Logic, sem}
use types.SemTy.{Body}
use types.Kit.{Goal, Soaks, Step, step, Seq, Item, ‵, ◌$◌, ◌∵◌, !, qed, move, drop, keep, use1, rewrite, fsplit, fjoin, fpick, feq_l, flt_l, flt_i, done}
use denote.RattleType.{RattleType}
use denote.Memory.{cell_at, part_at, mem, shared_of, each_shared}
use denote.Array.{Array}
use denote.Index.{place, place_is as nth_place}
use denote.RawPtr.{Ptr, block_ptr, ptr_val, in_block, in_a_block}
use denote.Shadow.{pure_i}
use denote.Steps.{opens, closes}
use denote.Struct.Struct.{Struct}
use denote.Struct.Owning.{shape}
use native.Mathlib.Nat.{add_comm}
use Rattle.std.specs.Mem.{type_size}
use Rattle.core.specs.Allocator.{block_with_items}
use Rattle.core.proofs.alloc.Calls.{token}
use Rattle.std_alloc.proofs.VecSteps.El.{El, el_x, elτ, R, P, Hd, sz}
use Rattle.std_alloc.proofs.VecSteps.Opens.{blk_out, blk_in}
use Rattle.block_list.specs.declared.raw.RawBlock.{RawBlock}
use Rattle.block_list.specs.Addresses.{item_address}
use Rattle.block_list.specs.contracts.raw.RawBlock as C

-- the machine value: the pointer, and the mark of the allocator's type, which has no bytes
abbrev pub words : Ptr → Val
words p = vstruct (vcons (ptr_val p) (vcons (vstruct vnil) vnil))

-- the machine's place of the i-th item is the one that the clauses name
pub address_is : (R : RattleType) (p : Ptr) (b o i : ℕ) → p ≡ block_ptr b o → block_ptr b (i * type_size R + o) ≡ item_address R p i
address_is R p b o i at_b = ap (block_ptr b) (add_comm (i * type_size R) o) ∙ ap (λ (start : Ptr). item_address R start i) (sym at_b)

module _ (E : El) where
  abbrev pub Rb : RattleType
  Rb = C.the_row (R E) (P E) E.al.g

  abbrev pub Raw : Type 0
  Raw = RawBlock (el_x E) (Hd E)

  -- the items, from the offset o of the block b on
  abbrev pub Items : ℕ → ℕ → List (el_x E) → Fml
  Items b o xs = part_at (Array (R E) (length xs)) full_share xs b o

  -- the room after n items
  abbrev pub Spare : ℕ → ℕ → ℕ → Fml
  Spare b o n = froom (ty_array (elτ E) (64 - n)) b (o + n * sz E)

  -- the right to free the room
  abbrev pub Right : Hd E → ℕ → ℕ → Fml
  Right a b o = token E.al a (bare (ty_array (elτ E) 64)) (block_ptr b o)

module _ (E : El) {M : Type 1} {𝓤 : Ura M} {𝓛 : Logic 𝓤} {K : Type 0} {Γ : List (Item 𝓤)} {G : Goal 𝓤 𝓛.H} where
  -- what a value owns: [the items; the room after them; the right to free]
  pub raw_had : K → (d : Raw E) (vs : List Val)
      → ((b o : ℕ) → d.ptr ≡ block_ptr b o → vs ≡ words (block_ptr b o) ∷ [] → 64 * sz E < 2 ^ 63 → Seq K 𝓛 (‵ (Items E b o d.items) ∷ ‵ (Spare E b o (length d.items)) ∷ ‵ (Right E d.alloc b o) ∷ Γ) G)
      → Seq K 𝓛 (‵ ((Rb E).own_val d vs) ∷ Γ) G
  raw_had t d vs k =
      fsplit t $ fpick t (λ vss. fsplit t $ feq_l t (λ all. fsplit t $ feq_l t (λ pointer. fsplit t $ fpick t (λ none. fsplit t $ feq_l t (λ mark. drop t $ drop t $
      fsplit t $ flt_l t (λ fit. in_a_block t d.ptr (λ p. in_block p (block_with_items (token E.al d.alloc) (R E) p (length d.items) 64 d.items)) (id⊢ 𝓤 (never 𝓤)) (λ b o at_b.
      blk_out E t d.alloc b o (length d.items) 64 d.items (omega arith) $
      k b o at_b (all ∙ ((λ i. vstruct (of_list (pointer i ++ (mark i ++ []))) ∷ []) ∙ ap (λ (p : Ptr). words p ∷ []) at_b)) fit)))))))

  pub raw_made : K → (d : Raw E) (b o : ℕ) → d.ptr ≡ block_ptr b o → 64 * sz E < 2 ^ 63
      → Step K 𝓛 (‵ ((Rb E).own_val d (words (block_ptr b o) ∷ [])) ∷ Γ) G (‵ (Items E b o d.items) ∷ ‵ (Spare E b o (length d.items)) ∷ ‵ (Right E d.alloc b o) ∷ Γ) G
  raw_made t d b o at_b fit = step (λ s.
      let Owns : Ptr → Fml = λ p. fsep ((Struct (shape (C.the_type (R E) (P E) E.al.g))).own_val (p, (tt, tt)) (words (block_ptr b o) ∷ [])) (fsep (flt (64 * sz E) (2 ^ 63)) (in_block p (block_with_items (token E.al d.alloc) (R E) p (length d.items) 64 d.items))) in
      blk_in E t d.alloc b o (length d.items) 64 d.items (omega arith) $ flt_i t (64 * sz E) (2 ^ 63) fit $ fjoin t $
      pure_i t ((Struct (shape (C.the_type (R E) (P E) E.al.g))).own_val (block_ptr b o, (tt, tt)) (words (block_ptr b o) ∷ [])) (λ vss. (tt, (tt, ((λ uss. (tt, tt)), tt))))
      ((vptr b o ∷ [], (vstruct vnil ∷ [], tt)), (refl, (refl, ((tt, (refl, tt)), tt)))) $ fjoin t $
      rewrite t 0 (λ (p : Ptr). ‵ (Owns p)) (sym at_b) refl $ s)

module _ (E : El) {M : Type 1} {𝓤 : Ura M} {𝓛 : Logic 𝓤} {K : Type 0} {Γ : List (Item 𝓤)} {G : Goal 𝓤 𝓛.H} where
  -- a `&mut` is opened: [the items; the room; the right; the words; the open borrow; obs; auth]
  pub raw_opens : K → Soaks G → {κ : Lft} {q : Share} {γ : GName} (d : Raw E) (rb ro : ℕ)
      → ((b o : ℕ) → d.ptr ≡ block_ptr b o → 64 * sz E < 2 ^ 63
      → Seq K 𝓛 (‵ (Items E b o d.items) ∷ ‵ (Spare E b o (length d.items)) ∷ ‵ (Right E d.alloc b o) ∷ ‵ (cell_at full_share (Rb E).mir (words (block_ptr b o) ∷ []) rb ro)
      ∷ ‵ (fobor κ q (Body (mem (Rb E)) rb ro γ)) ∷ ‵ (fobs γ ((Rb E).coded.code d)) ∷ ‵ (fauth γ ((Rb E).coded.code d)) ∷ Γ) G)
      → Seq K 𝓛 (‵ (fobs γ ((Rb E).coded.code d)) ∷ ‵ (fbor κ (Body (mem (Rb E)) rb ro γ)) ∷ ‵ (flft κ q) ∷ Γ) G
  raw_opens t z d rb ro k =
      opens t z (Rb E) {h = d} rb ro (λ vs. move t (1 ∷ []) $ raw_had E t d vs (λ b o at_b is fit.
      rewrite t 3 (λ (us : List Val). ‵ (cell_at full_share (Rb E).mir us rb ro)) is refl $ k b o at_b fit))

  -- and closed, at any value d with what is there
  pub raw_closes : K → Soaks G → {κ : Lft} {q : Share} {u v : Gv} {γ : GName} (d : Raw E) (b o rb ro : ℕ) → d.ptr ≡ block_ptr b o → 64 * sz E < 2 ^ 63
      → Step K 𝓛 (‵ (fobs γ ((Rb E).coded.code d)) ∷ ‵ (fbor κ (Body (mem (Rb E)) rb ro γ)) ∷ ‵ (flft κ q) ∷ Γ) G
      (‵ (Items E b o d.items) ∷ ‵ (Spare E b o (length d.items)) ∷ ‵ (Right E d.alloc b o) ∷ ‵ (cell_at full_share (Rb E).mir (words (block_ptr b o) ∷ []) rb ro)
      ∷ ‵ (fobor κ q (Body (mem (Rb E)) rb ro γ)) ∷ ‵ (fobs γ u) ∷ ‵ (fauth γ v) ∷ Γ) G
  raw_closes t z d b o rb ro at_b fit = step (λ s. raw_made E t d b o at_b fit $ move t (1 ∷ 0 ∷ []) $ closes t z (Rb E) d (words (block_ptr b o) ∷ []) rb ro $ s)

module _ (T : RattleType) {M : Type 1} {𝓤 : Ura M} (𝓛 : Logic 𝓤) (κ : Lft) (b s : ℕ) where
  -- of what a `&` to items side by side reaches, the i-th
  seen_at : (xs : List T.Denot) (o i : ℕ) (d : T.Denot) → i < length xs → ent 𝓤 (sem 𝓛 (each_shared xs (shared_of T) s b o κ)) (sem 𝓛 (shared_of T (get_or xs i d) b (place s o i) κ))
  seen_at [] o i d lt = absurd (omega arith)
  seen_at (x ∷ xs) o zero d lt = qed 𝓛 (‵ (each_shared (x ∷ xs) (shared_of T) s b o κ) ∷ []) ∵ fsplit ! $ keep ! (0 ∷ []) $ done !
  seen_at (x ∷ xs) o (suc i) d lt = qed 𝓛 (‵ (each_shared (x ∷ xs) (shared_of T) s b o κ) ∷ []) ∵ fsplit ! $ keep ! (1 ∷ []) $
      use1 𝓛 (‵ (shared_of T (get_or xs i d) b (place s (o + s) i) κ)) (seen_at xs (o + s) i d (omega arith)) $ done !

  pub item_seen : (xs : List T.Denot) (o i : ℕ) (d : T.Denot) → i < length xs → ent 𝓤 (sem 𝓛 (each_shared xs (shared_of T) s b o κ)) (sem 𝓛 (shared_of T (get_or xs i d) b (i * s + o) κ))
  item_seen xs o i d lt = qed 𝓛 (‵ (each_shared xs (shared_of T) s b o κ) ∷ []) ∵ use1 𝓛 (‵ (shared_of T (get_or xs i d) b (place s o i) κ)) (seen_at xs o i d lt) $
      rewrite ! 0 (λ (k : ℕ). ‵ (shared_of T (get_or xs i d) b k κ)) (nth_place s o i) refl $ done !
