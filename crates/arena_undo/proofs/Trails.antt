-- A trail of changes that grows by one, or loses its last one.
use Rattle.std.proofs.Common.{◌≡◌, ℕ, ◌+◌, ◌<◌, ◌≤◌, Bool, true, false, ltb, List, [], ◌∷◌, ◌++◌, Option, set, take, length, inl, inr, refl, sym, ap, ◌∙◌, subst, arith, ap₂, true≢false}
use Rattle.std.proofs.Math.Seq.{take-set-lt}
use Rattle.std.proofs.lemmas.Bool.{ltb-true, ltb-false}
use Rattle.std.proofs.lemmas.List.{length_push, length-set, length-take-le, get_or-take, take-append-le, take-set-le}
use Rattle.cube_view.specs.Walks.{across}
use Rattle.node_arena.specs.declared.link.Link.{Link}
use Rattle.node_arena.specs.declared.link.SlotId.{SlotId}
use Rattle.node_arena.specs.Calls.{with_slot, with_content, set_content}
use Rattle.node_arena.specs.Slots.{Slot, IsNode, empty_node, link, link_of, slot_of}
use Rattle.arena_undo.specs.declared.change.Change.{Change}
use Rattle.arena_undo.specs.declared.change.Change.TheVariants.{Filled}
use Rattle.arena_undo.specs.Undone.{take_back, CanTake, undone, CanUndo, with_notes, TellsNewContent}
use Rattle.arena_undo.specs.Trail.{IsChangeTrail}
use Rattle.arena_undo.specs.Worked.{Worked, changed, changed_by}
use Rattle.arena_undo.proofs.Backward.{filled_back, filled_there, content_stays}

-- the last change is taken back first
pub undone-push : (changes : List Change) (c : Change) (slots : List Slot) → undone (changes ++ c ∷ []) slots ≡ undone changes (take_back c slots)
undone-push [] c slots = refl
undone-push (d ∷ changes) c slots = ap (take_back d) (undone-push changes c slots)

pub can_push : (changes : List Change) (c : Change) (slots : List Slot) → CanTake c slots → CanUndo changes (take_back c slots) → CanUndo (changes ++ c ∷ []) slots
can_push [] c slots this can = (this, tt)
can_push (d ∷ changes) c slots this can = (subst (CanTake d) (sym (undone-push changes c slots)) can.0, can_push changes c slots this can.1)

pub can_pop : (changes : List Change) (c : Change) (slots : List Slot) → CanUndo (changes ++ c ∷ []) slots → CanTake c slots × CanUndo changes (take_back c slots)
can_pop [] c slots can = (can.0, tt)
can_pop (d ∷ changes) c slots can =
    let r = can_pop changes c slots can.1 in
    (r.0, (subst (CanTake d) (undone-push changes c slots) can.0, r.1))

-- the slots with what g makes of the one at a place
abbrev pub at_slot : ℕ → (Slot → Slot) → List Slot → List Slot
at_slot i g slots = set slots i (g (slot_of slots i))

pub slot-old : (first i : ℕ) (slots : List Slot) → i < first → slot_of (take first slots) i ≡ slot_of slots i
slot-old first i slots old = get_or-take first slots i empty_node old

-- a change of a slot that stood at the beginning is one of those alone
pub old_at : (first i : ℕ) (g : Slot → Slot) (slots : List Slot) → i < first → take first (at_slot i g slots) ≡ at_slot i g (take first slots)
old_at first i g slots old =
    take-set-lt first slots i (g (slot_of slots i)) old
    ∙ ap (λ (s : Slot). set (take first slots) i (g s)) (sym (slot-old first i slots old))

-- and one of a slot that was added changes none of them
pub new_at : (first i : ℕ) (g : Slot → Slot) (slots : List Slot) → first ≤ i → take first (at_slot i g slots) ≡ take first slots
new_at first i g slots new = take-set-le first slots i (g (slot_of slots i)) new

abbrev pub worked : List Slot → List Slot → ℕ → ℕ → Worked
worked slots start made room = record { slots = slots; start = start; made = made; room = room }

-- n changes that were made, of which some were noted
pub record IsNoted (slots next : List Slot) (changes noted : List Change) (first n : ℕ) : Type 0 where
  pub beginning : first ≤ length next
  pub fewer : length noted ≤ length changes + n
  pub undoable : CanUndo noted (take first next)
  pub start : undone noted (take first next) ≡ undone changes (take first slots)

pub noted_made : (slots next called : List Slot) (changes noted : List Change) (n first made made' room capacity more : ℕ) (w : Worked) → IsChangeTrail slots changes first made room capacity → worked slots (undone changes (take first slots)) made room ≡ w → w.made + n ≤ w.room → made' ≡ made + n → capacity ≤ more → next ≡ called → IsNoted slots next changes noted first n → IsChangeTrail next noted first made' room more × (worked next (undone noted (take first next)) made' room ≡ changed_by n w called)
noted_made slots next called changes noted n first made made' room capacity more w T v left counted grown e N =
    (record { within = room_left; beginning = N.beginning; taken = taken; undoable = N.undoable }, view)
  where
    room_left : made' ≤ room
    room_left = let a = ap (λ (z : Worked). z.made) v in let b = ap (λ (z : Worked). z.room) v in omega (arith, a, b, left, counted)

    taken : room + length noted ≤ made' + more
    taken = omega (arith, T.taken, N.fewer, counted, grown)

    view : worked next (undone noted (take first next)) made' room ≡ changed_by n w called
    view =
        ap₂ (λ (a b : List Slot). worked a b made' room) e N.start
        ∙ ap (λ (k : ℕ). worked called (undone changes (take first slots)) k room) counted
        ∙ ap (λ (z : Worked). changed_by n z called) v

-- a slot that was added at the end
pub added_made : (h : List Slot → Slot) (slots next : List Slot) (changes : List Change) (first made made' room capacity : ℕ) (w : Worked) → IsChangeTrail slots changes first made room capacity → worked slots (undone changes (take first slots)) made room ≡ w → w.made < w.room → made' ≡ made + 1 → next ≡ with_slot slots (h slots) → IsChangeTrail next changes first made' room capacity × (worked next (undone changes (take first next)) made' room ≡ changed w (with_slot w.slots (h w.slots)))
added_made h slots next changes first made made' room capacity w T v left counted is =
    noted_made slots next (with_slot w.slots (h w.slots)) changes changes 1 first made made' room capacity capacity w T v (omega (arith, left)) counted (omega arith) (is ∙ ap (λ (z : Worked). with_slot z.slots (h z.slots)) v) (subst (λ (z : List Slot). IsNoted slots z changes changes first 1) (sym is) noted)
  where
    s : Slot
    s = h slots

    same : take first (with_slot slots s) ≡ take first slots
    same = take-append-le first slots (s ∷ []) T.beginning

    noted : IsNoted slots (with_slot slots s) changes changes first 1
    noted = record {
      beginning = let b = T.beginning in omega (arith, b, length_push slots s);
      fewer = omega arith;
      undoable = subst (CanUndo changes) (sym same) T.undoable;
      start = ap (undone changes) same;
    }

-- the change can be taken back, which gives the slots before it
abbrev pub IsTakenBack : Change → ℕ → (Slot → Slot) → List Slot → Type 0
IsTakenBack c i g base = CanTake c (at_slot i g base) × (take_back c (at_slot i g base) ≡ base)

-- what has to be known of a change at a place: where it is noted it can be taken back, and where it is not the slots of
-- the beginning stay
pub record IsChange (c : Change) (i : ℕ) (g : Slot → Slot) (wanted : Bool) (first : ℕ) (slots : List Slot) : Type 0 where
  pub in_range : i < length slots
  pub back : wanted ≡ true → (i < first) × IsTakenBack c i g (take first slots)
  pub stays : wanted ≡ false → take first (at_slot i g slots) ≡ take first slots

-- of a slot that stood at the beginning, or else not noted
pub change_at : (c : Change) (i first : ℕ) (g : Slot → Slot) (slots : List Slot) → i < length slots → first ≤ length slots → ((base : List Slot) → i < length base → slot_of base i ≡ slot_of slots i → IsTakenBack c i g base) → IsChange c i g (ltb i first) first slots
change_at c i first g slots less within each = record {
  in_range = less;
  back = λ e.
      let old = ltb-true i first e in
      (old, each (take first slots) (omega (arith, old, length-take-le first slots within)) (slot-old first i slots old));
  stays = λ e. new_at first i g slots (ltb-false i first e);
}

is_noted : (c : Change) (i first : ℕ) (g : Slot → Slot) (slots : List Slot) (changes : List Change) (wanted : Bool) → first ≤ length slots → CanUndo changes (take first slots) → IsChange c i g wanted first slots → IsNoted slots (at_slot i g slots) changes (with_notes wanted (c ∷ []) changes) first 1
is_noted c i first g slots changes true within can C =
    let b = C.back refl in
    let same = old_at first i g slots b.0 in
    record {
      beginning = omega (arith, within, length-set slots i (g (slot_of slots i)));
      fewer = omega (arith, length_push changes c);
      undoable = can_push changes c (take first (at_slot i g slots)) (subst (CanTake c) (sym same) b.1.0) (subst (CanUndo changes) (sym (ap (take_back c) same ∙ b.1.1)) can);
      start = undone-push changes c (take first (at_slot i g slots)) ∙ ap (undone changes) (ap (take_back c) same ∙ b.1.1);
    }
is_noted c i first g slots changes false within can C = record {
  beginning = omega (arith, within, length-set slots i (g (slot_of slots i)));
  fewer = omega arith;
  undoable = subst (CanUndo changes) (sym (C.stays refl)) can;
  start = ap (undone changes) (C.stays refl);
}

-- a call that changes a slot, and is noted if that is wanted
pub step_made : (g : Slot → Slot) (i : ℕ) (slots next : List Slot) (changes noted : List Change) (c : Change) (wanted : Bool) (first made made' room capacity more : ℕ) (w : Worked) → IsChangeTrail slots changes first made room capacity → worked slots (undone changes (take first slots)) made room ≡ w → w.made < w.room → made' ≡ made + 1 → noted ≡ with_notes wanted (c ∷ []) changes → capacity ≤ more → next ≡ at_slot i g slots → (first ≤ length w.slots → IsChange c i g wanted first w.slots) → IsChangeTrail next noted first made' room more × (worked next (undone noted (take first next)) made' room ≡ changed w (at_slot i g w.slots))
step_made g i slots next changes noted c wanted first made made' room capacity more w T v left counted is grown called known =
    noted_made slots next (at_slot i g w.slots) changes noted 1 first made made' room capacity more w T v (omega (arith, left)) counted grown (called ∙ ap (at_slot i g) same)
    (subst (λ (z : List Slot). IsNoted slots z changes noted first 1) (sym called)
    (subst (λ (z : List Change). IsNoted slots (at_slot i g slots) changes z first 1) (sym is) (is_noted c i first g slots changes wanted T.beginning T.undoable C)))
  where
    same : slots ≡ w.slots
    same = ap (λ (z : Worked). z.slots) v

    C : IsChange c i g wanted first slots
    C = subst (λ (z : List Slot). IsChange c i g wanted first z) (sym same) (known (subst (λ (z : List Slot). first ≤ length z) same T.beginning))

-- and that is wanted where the slot stood at the beginning
pub old_made : (g : Slot → Slot) (i : ℕ) (slots next : List Slot) (changes noted : List Change) (c : Change) (wanted : Bool) (first made made' room capacity more : ℕ) (w : Worked) → IsChangeTrail slots changes first made room capacity → worked slots (undone changes (take first slots)) made room ≡ w → w.made < w.room → made' ≡ made + 1 → wanted ≡ ltb i first → noted ≡ with_notes wanted (c ∷ []) changes → capacity ≤ more → next ≡ at_slot i g slots → i < length w.slots → ((base : List Slot) → i < length base → slot_of base i ≡ slot_of w.slots i → IsTakenBack c i g base) → IsChangeTrail next noted first made' room more × (worked next (undone noted (take first next)) made' room ≡ changed w (at_slot i g w.slots))
old_made g i slots next changes noted c wanted first made made' room capacity more w T v left counted old is grown called less each =
    step_made g i slots next changes noted c wanted first made made' room capacity more w T v left counted is grown called
    (λ within. subst (λ (z : Bool). IsChange c i g z first w.slots) (sym old) (change_at c i first g w.slots less within each))

-- a content that was set
pub content_made : (wish old : Option Link) (id : SlotId) (slots next : List Slot) (changes noted : List Change) (wanted : Bool) (first made made' room capacity more : ℕ) (w : Worked) → IsChangeTrail slots changes first made room capacity → worked slots (undone changes (take first slots)) made room ≡ w → w.made < w.room → made' ≡ made + 1 → TellsNewContent id.0 first old wish wanted → noted ≡ with_notes wanted (Filled id old ∷ []) changes → capacity ≤ more → next ≡ set_content slots id.0 wish → id.0 < length w.slots → IsNode (slot_of w.slots id.0) → old ≡ link_of w.slots id.0 across → IsChangeTrail next noted first made' room more × (worked next (undone noted (take first next)) made' room ≡ changed w (set_content w.slots id.0 wish))
content_made wish old id slots next changes noted wanted first made made' room capacity more w T v left counted tells is grown called less node given =
    step_made g id.0 slots next changes noted (Filled id old) wanted first made made' room capacity more w T v left counted is grown called (λ within. known wanted tells within)
  where
    g : Slot → Slot
    g s = with_content s wish

    each : (base : List Slot) → id.0 < length base → slot_of base id.0 ≡ slot_of w.slots id.0 → IsTakenBack (Filled id old) id.0 g base
    each base inside same = (
      filled_there base id wish old inside (subst IsNode (sym same) node),
      filled_back base id wish old inside (given ∙ ap (λ (s : Slot). link s across) (sym same)),
    )

    known : (b : Bool) → TellsNewContent id.0 first old wish b → first ≤ length w.slots → IsChange (Filled id old) id.0 g b first w.slots
    known true t within = record {
      in_range = less;
      back = λ e. (t, each (take first w.slots) (omega (arith, t, length-take-le first w.slots within)) (slot-old first id.0 w.slots t));
      stays = λ e. absurd (true≢false e);
    }
    known false (inl new) within = record { in_range = less; back = λ e. absurd (true≢false (sym e)); stays = λ e. new_at first id.0 g w.slots new }
    known false (inr stood) within = record { in_range = less; back = λ e. absurd (true≢false (sym e)); stays = λ e. ap (take first) (content_stays w.slots id.0 wish (sym stood ∙ given)) }

-- the trail while it is taken back
pub record IsUndoing (start slots : List Slot) (changes : List Change) : Type 0 where
  pub left : undone changes slots ≡ start
  pub undoable : CanUndo changes slots

pub undo_step : (start slots next : List Slot) (changes rest : List Change) (c : Change) → IsUndoing start slots changes → changes ≡ rest ++ c ∷ [] → next ≡ take_back c slots → CanTake c slots × IsUndoing start next rest
undo_step start slots next changes rest c U is taken =
    let r = can_pop rest c slots (subst (λ z. CanUndo z slots) is U.undoable) in (
      r.0,
      record {
        left = ap (undone rest) taken ∙ (sym (undone-push rest c slots) ∙ (sym (ap (λ z. undone z slots) is) ∙ U.left));
        undoable = subst (CanUndo rest) (sym taken) r.1;
      },
    )
