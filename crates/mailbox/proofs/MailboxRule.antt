-- Each step keeps the rule of the mailbox.
use Rattle.std.proofs.Common.{◌≡◌, ℕ, zero, suc, ◌<◌, ◌⊎◌, inl, inr, ⊎_elim, List, [], ◌∷◌, ◌++◌, length, set, sym, refl, ap, ◌∙◌, subst, arith, append-nil}
use mathlib.Core.List.{Sublist, nil-sublist}
use mathlib.Core.List.Sublist as sublist
use mathlib.Core.Option.{some, some-injective, some-ne-none}
use lib.ListN.{get_elem?}
use Rattle.crossbeam_queue.specs.Fifo.{Pushes, Pops, PopsFrom, PushesAfter, Forks}
use Rattle.published_pair.specs.Rules.{Known}
use Rattle.published_pair.specs.declared.told.Told.{Told}
use Rattle.world_core.proofs.Lists.{one_item}
use Rattle.mailbox.specs.declared.place.Letter.{Letter}
use Rattle.mailbox.specs.declared.place.Letter.TheVariants.{Opens, Brings}
use Rattle.mailbox.specs.declared.place.Putting.{Putting}
use Rattle.mailbox.specs.declared.place.Taking.{Taking}
use Rattle.mailbox.specs.declared.place.View.{View}
use Rattle.mailbox.specs.declared.place.View.TheVariants.{Fresh, Opening, Whole, Puts, Replaces, Takes}
use Rattle.mailbox.specs.Rule.{putting, taking, FitsPlace, IsLastTaken, IsMailbox, KeepsMail}
use Rattle.mailbox.specs.Steps.{naming_view, named_view, putter_view, removed_view, taker_view, after_letter, IsTake, Took}

-- the two views of one that is open
two_views : (x y v : View) (pass : ℕ) → get_elem? (x ∷ y ∷ []) pass ≡ some v → ((pass ≡ 0) × (x ≡ v)) ⊎ ((pass ≡ 1) × (y ≡ v))
two_views x y v zero e = inl (refl, some-injective x v e)
two_views x y v (suc zero) e = inr (refl, some-injective y v e)
two_views x y v (suc (suc pass)) e = absurd (some-ne-none v (sym e))

-- the view is of a mailbox that is open
abbrev IsOpenView : View → Type 0
IsOpenView Fresh = ⊥
IsOpenView (Opening p) = ⊥
IsOpenView (Whole p) = ⊥
IsOpenView (Puts w) = Unit {0}
IsOpenView (Replaces w) = Unit {0}
IsOpenView (Takes t) = Unit {0}

-- the view is the putting end's
abbrev IsPutView : View → Type 0
IsPutView Fresh = ⊥
IsPutView (Opening p) = ⊥
IsPutView (Whole p) = ⊥
IsPutView (Puts w) = Unit {0}
IsPutView (Replaces w) = Unit {0}
IsPutView (Takes t) = ⊥

is_mailbox : (letters : List Letter) (views : List View) (pass : ℕ) (v : View) → IsOpenView v → KeepsMail letters views → get_elem? views pass ≡ some v → IsMailbox letters views
is_mailbox letters views pass v is_open (inl n) at = absurd (subst IsOpenView (sym (one_item views Fresh v pass n.views_are at).1) is_open)
is_mailbox letters views pass v is_open (inr (inl o)) at = absurd (subst IsOpenView (sym (one_item views (Opening o.name.front) v pass o.views_are at).1) is_open)
is_mailbox letters views pass v is_open (inr (inr (inl w))) at = absurd (subst IsOpenView (sym (one_item views (Whole w.pair) v pass w.views_are at).1) is_open)
is_mailbox letters views pass v is_open (inr (inr (inr box))) at = box

-- the pass of the end that puts is the first
putter_of : (letters : List Letter) (views : List View) (pass : ℕ) (v : View) (box : IsMailbox letters views) → IsPutView v → get_elem? views pass ≡ some v → (pass ≡ 0) × (box.putter ≡ v)
putter_of letters views pass v box is at = ⊎_elim
    (λ (t : (pass ≡ 0) × (box.putter ≡ v)). t)
    (λ (t : (pass ≡ 1) × (Takes box.taker ≡ v)). absurd (subst IsPutView (sym t.1) is))
    (two_views box.putter (Takes box.taker) v pass (ap (λ l. get_elem? l pass) (sym box.views_are) ∙ at))

no_taker : (v : View) (t taker : Taking) (letters : List Letter) → v ≡ Takes t → FitsPlace v taker letters → ⊥
no_taker v t taker letters is fits = subst (λ (u : View). FitsPlace u taker letters) is fits

-- the pass of the end that takes is the second
taker_of : (letters : List Letter) (views : List View) (pass : ℕ) (t : Taking) (box : IsMailbox letters views) → get_elem? views pass ≡ some (Takes t) → (pass ≡ 1) × (box.taker ≡ t)
taker_of letters views pass t box at = ⊎_elim
    (λ (e : (pass ≡ 0) × (box.putter ≡ Takes t)). absurd (no_taker box.putter t box.taker letters e.1 box.place))
    (λ (e : (pass ≡ 1) × (Takes box.taker ≡ Takes t)). (e.0, (let same : Takes box.taker ≡ Takes t = e.1 in let one : box.taker ≡ t = cc in one)))
    (two_views box.putter (Takes box.taker) (Takes t) pass (ap (λ l. get_elem? l pass) (sym box.views_are) ∙ at))

fits_open : (v : View) (t : Taking) (letters : List Letter) → FitsPlace v t letters → IsOpenView v
fits_open Fresh t letters fits = fits
fits_open (Opening p) t letters fits = fits
fits_open (Whole p) t letters fits = fits
fits_open (Puts w) t letters fits = tt
fits_open (Replaces w) t letters fits = tt
fits_open (Takes taker) t letters fits = tt

-- each view of an open mailbox is one
open_view : (letters : List Letter) (views : List View) (pass : ℕ) (v : View) → IsMailbox letters views → get_elem? views pass ≡ some v → IsOpenView v
open_view letters views pass v box at = ⊎_elim
    (λ (t : (pass ≡ 0) × (box.putter ≡ v)). subst IsOpenView t.1 (fits_open box.putter box.taker letters box.place))
    (λ (t : (pass ≡ 1) × (Takes box.taker ≡ v)). subst IsOpenView t.1 tt)
    (two_views box.putter (Takes box.taker) v pass (ap (λ l. get_elem? l pass) (sym box.views_are) ∙ at))

pub new_place : KeepsMail [] (Fresh ∷ [])
new_place = inl (record { letters_are = refl; views_are = refl })

names_from : (n pass : ℕ) (t : Told) → Pushes KeepsMail n pass Fresh (Opens t) (λ w. w ≡ naming_view (Opens t))
names_from n pass t letters views room (inl k) at =
    let e = one_item views Fresh Fresh pass k.views_are at in
    (naming_view (Opens t), inr (inl (record { name = t; letters_are = ap (λ l. l ++ Opens t ∷ []) k.letters_are; views_are = λ i. set (k.views_are i) (e.0 i) (naming_view (Opens t)) })), refl)
names_from n pass t letters views room (inr (inl o)) at = absurd (let e : Opening o.name.front ≡ Fresh = (one_item views (Opening o.name.front) Fresh pass o.views_are at).1 in cc)
names_from n pass t letters views room (inr (inr (inl w))) at = absurd (let e : Whole w.pair ≡ Fresh = (one_item views (Whole w.pair) Fresh pass w.views_are at).1 in cc)
names_from n pass t letters views room (inr (inr (inr box))) at = absurd (open_view letters views pass Fresh box at)

-- the pair's name may go in
pub may_name : (n pass : ℕ) (v : View) (t : Told) → v ≡ Fresh → Pushes KeepsMail n pass v (Opens t) (λ w. w ≡ naming_view (Opens t))
may_name n pass v t is = subst (λ (u : View). Pushes KeepsMail n pass u (Opens t) (λ w. w ≡ naming_view (Opens t))) (sym is) (names_from n pass t)

tail_of_sole : (x y : Letter) (l : List Letter) → x ∷ l ≡ y ∷ [] → l ≡ []
tail_of_sole x y l e = cc

begins_from : (pass : ℕ) (p : Known) → Pops KeepsMail pass (Opening p) (λ x w. w ≡ named_view (Opening p))
begins_from pass p x letters views (inl k) at = absurd (let e : Fresh ≡ Opening p = (one_item views Fresh (Opening p) pass k.views_are at).1 in cc)
begins_from pass p x letters views (inr (inl o)) at =
    let e = one_item views (Opening o.name.front) (Opening p) pass o.views_are at in
    (Whole p, inr (inr (inl (record { pair = p; letters_are = tail_of_sole x (Opens o.name) letters o.letters_are; views_are = λ i. set (o.views_are i) (e.0 i) (Whole p) }))), refl)
begins_from pass p x letters views (inr (inr (inl w))) at = absurd (let e : Whole w.pair ≡ Opening p = (one_item views (Whole w.pair) (Opening p) pass w.views_are at).1 in cc)
begins_from pass p x letters views (inr (inr (inr box))) at = absurd (open_view (x ∷ letters) views pass (Opening p) box at)

-- the pair's name may come out
pub may_begin : (pass : ℕ) (v : View) (p : Known) → v ≡ Opening p → Pops KeepsMail pass v (λ x w. w ≡ named_view v)
may_begin pass v p is = subst (λ (u : View). Pops KeepsMail pass u (λ x w. w ≡ named_view u)) (sym is) (begins_from pass p)

parts_from : (pass : ℕ) (p : Known) → Forks KeepsMail pass (Whole p) (putter_view (Whole p)) (taker_view (Whole p))
parts_from pass p letters views (inl k) at = absurd (let e : Fresh ≡ Whole p = (one_item views Fresh (Whole p) pass k.views_are at).1 in cc)
parts_from pass p letters views (inr (inl o)) at = absurd (let e : Opening o.name.front ≡ Whole p = (one_item views (Opening o.name.front) (Whole p) pass o.views_are at).1 in cc)
parts_from pass p letters views (inr (inr (inl w))) at =
    let e = one_item views (Whole w.pair) (Whole p) pass w.views_are at in
    inr (inr (inr (record {
      putter = Puts (putting p []);
      taker = taking p [];
      views_are = λ i. set (w.views_are i) (e.0 i) (Puts (putting p [])) ++ Takes (taking p []) ∷ [];
      place = (refl, inr (w.letters_are, inl (refl, refl)));
    })))
parts_from pass p letters views (inr (inr (inr box))) at = absurd (open_view letters views pass (Whole p) box at)

-- the ends may be parted
pub may_part : (pass : ℕ) (v : View) (p : Known) → v ≡ Whole p → Forks KeepsMail pass v (putter_view v) (taker_view v)
may_part pass v p is = subst (λ (u : View). Forks KeepsMail pass u (putter_view u) (taker_view u)) (sym is) (parts_from pass p)

no_room : (letters : List Letter) (n : ℕ) → n ≡ 1 → length letters < n → letters ≡ []
no_room [] n e h = refl
no_room (x ∷ l) n e h = absurd (omega arith)

-- a part stays one when more is put, and when the same is put and taken
part_more : (taken put : List Told) (t : Told) → Sublist taken put → Sublist taken (put ++ t ∷ [])
part_more taken put t part = subst (λ (l : List Told). Sublist l (put ++ t ∷ [])) (append-nil taken) (sublist.append part (nil-sublist (t ∷ [])))

part_both : (taken put : List Told) (t : Told) → Sublist taken put → Sublist (taken ++ t ∷ []) (put ++ t ∷ [])
part_both taken put t part = sublist.append part (sublist.refl (t ∷ []))

part_taken : (put taken : List Told) → IsLastTaken put taken → Sublist taken put
part_taken put taken (inl none) = subst (λ (x : List Told × List Told). Sublist x.0 x.1) (λ i. (sym none.1 i, sym none.0 i)) (nil-sublist [])
part_taken put taken (inr took) = subst (λ (x : List Told × List Told). Sublist x.0 x.1) (λ i. (sym took.taken_is i, sym took.put_is i)) (part_both took.taken_before took.put_before took.told took.before)

-- the putting end is one that has put these
abbrev IsPutter : Putting → View → Type 0
IsPutter w v = (v ≡ Puts w) ⊎ (v ≡ Replaces w)

-- of an empty place all that was taken was put, and the ends know one pair
part_empty : (v : View) (w : Putting) (t : Taking) (letters : List Letter) → IsPutter w v → letters ≡ [] → FitsPlace v t letters → (w.pair ≡ t.pair) × Sublist t.taken w.put
part_empty v w t letters (inl is) none fits = by_puts (subst (λ (u : View). FitsPlace u t letters) is fits)
  where
    by_puts : FitsPlace (Puts w) t letters → (w.pair ≡ t.pair) × Sublist t.taken w.put
    by_puts (pair, inl holds) = absurd (let e : [] ≡ Brings holds.told ∷ [] = sym none ∙ holds.letters_are in cc)
    by_puts (pair, inr (empty, took)) = (pair, part_taken w.put t.taken took)
part_empty v w t letters (inr is) none fits =
    let so : FitsPlace (Replaces w) t letters = subst (λ (u : View). FitsPlace u t letters) is fits in (so.0, so.2)

put_view : (v : View) (w : Putting) → IsPutter w v → IsPutView v
put_view v w (inl is) = subst IsPutView (sym is) tt
put_view v w (inr is) = subst IsPutView (sym is) tt

open_put : (v : View) → IsPutView v → IsOpenView v
open_put Fresh is = is
open_put (Opening p) is = is
open_put (Whole p) is = is
open_put (Puts w) is = tt
open_put (Replaces w) is = tt
open_put (Takes t) is = tt

puts_from : (n pass : ℕ) (v : View) (w : Putting) (t : Told) → IsPutter w v → n ≡ 1 → t.front.book ≡ w.pair.book → Pushes KeepsMail n pass v (Brings t) (λ u. u ≡ Puts (putting w.pair (w.put ++ t ∷ [])))
puts_from n pass v w t is one of letters views room keeps at =
    let put_view : IsPutView v = put_view v w is in
    let box = is_mailbox letters views pass v (open_put v put_view) keeps at in
    let first = putter_of letters views pass v box put_view at in
    let none = no_room letters n one room in
    let fits = part_empty v w box.taker letters is none (subst (λ (u : View). FitsPlace u box.taker letters) first.1 box.place) in
    let more : View = Puts (putting w.pair (w.put ++ t ∷ [])) in (
      more,
      inr (inr (inr (record {
        putter = more;
        taker = box.taker;
        views_are = λ i. set (box.views_are i) (first.0 i) more;
        place = (
          fits.0,
          inl (record { told = t; letters_are = ap (λ l. l ++ Brings t ∷ []) none; last = record { of = of; before = w.put; last = refl }; before = fits.1 }),
        );
      }))),
      refl,
    )

after_put : (v : View) (w : Putting) (t : Told) → IsPutter w v → after_letter v (Brings t) ≡ Puts (putting w.pair (w.put ++ t ∷ []))
after_put v w t (inl is) = ap (λ (u : View). after_letter u (Brings t)) is
after_put v w t (inr is) = ap (λ (u : View). after_letter u (Brings t)) is

-- a told length may be put into an empty place, also where the end is replacing
put_into : (n pass : ℕ) (v : View) (w : Putting) (t : Told) → IsPutter w v → n ≡ 1 → t.front.book ≡ w.pair.book → Pushes KeepsMail n pass v (Brings t) (λ u. u ≡ after_letter v (Brings t))
put_into n pass v w t is one of = subst (λ (x : View). Pushes KeepsMail n pass v (Brings t) (λ u. u ≡ x)) (sym (after_put v w t is)) (puts_from n pass v w t is one of)

pub may_put : (n pass : ℕ) (v : View) (t : Told) (w : Putting) → v ≡ Puts w → n ≡ 1 → t.front.book ≡ w.pair.book → Pushes KeepsMail n pass v (Brings t) (λ u. u ≡ after_letter v (Brings t))
may_put n pass v t w is one of = put_into n pass v w t (inl is) one of

-- the same after what the place held was removed
pub may_put_after : (n pass : ℕ) (v : View) (t : Told) (w : Putting) → v ≡ Puts w → n ≡ 1 → t.front.book ≡ w.pair.book → PushesAfter KeepsMail n pass (λ x u. u ≡ removed_view v) (Brings t) (λ u x z. z ≡ after_letter u x)
may_put_after n pass v t w is one of old u e = put_into n pass u w t (inr (e ∙ ap removed_view is)) one of

removes_from : (n pass : ℕ) (w : Putting) → PopsFrom KeepsMail n pass (Puts w) (λ x u. u ≡ Replaces w)
removes_from n pass w x letters views full keeps at =
    let box = is_mailbox (x ∷ letters) views pass (Puts w) tt keeps at in
    let first = putter_of (x ∷ letters) views pass (Puts w) box tt at in (
      Replaces w,
      inr (inr (inr (record {
        putter = Replaces w;
        taker = box.taker;
        views_are = λ i. set (box.views_are i) (first.0 i) (Replaces w);
        place = held box.taker (subst (λ (u : View). FitsPlace u box.taker (x ∷ letters)) first.1 box.place);
      }))),
      refl,
    )
  where
    held : (t : Taking) → FitsPlace (Puts w) t (x ∷ letters) → FitsPlace (Replaces w) t letters
    held t (pair, inl holds) = (pair, tail_of_sole x (Brings holds.told) letters holds.letters_are, subst (Sublist t.taken) (sym holds.last.last) (part_more t.taken holds.last.before holds.told holds.before))
    held t (pair, inr (empty, took)) = absurd (let e : x ∷ letters ≡ [] = empty in cc)

-- what the place holds may be removed by the end that puts, which puts one more next
pub may_remove : (n pass : ℕ) (v : View) (w : Putting) → v ≡ Puts w → PopsFrom KeepsMail n pass v (λ x u. u ≡ removed_view v)
may_remove n pass v w is = subst (λ (y : View). PopsFrom KeepsMail n pass y (λ x u. u ≡ removed_view y)) (sym is) (removes_from n pass w)

-- what a take leaves, by what the place held
took_of : (v : View) (t : Taking) (x : Letter) (letters : List Letter) → FitsPlace v t (x ∷ letters)
    → (told : Told) × (x ≡ Brings told) × Took t told (Takes (taking t.pair (t.taken ++ told ∷ []))) × FitsPlace v (taking t.pair (t.taken ++ told ∷ [])) letters
took_of Fresh t x letters fits = absurd fits
took_of (Opening p) t x letters fits = absurd fits
took_of (Whole p) t x letters fits = absurd fits
took_of (Takes taker) t x letters fits = absurd fits
took_of (Replaces w) t x letters fits = absurd (let e : x ∷ letters ≡ [] = fits.1 in cc)
took_of (Puts w) t x letters (pair, inr (empty, took)) = absurd (let e : x ∷ letters ≡ [] = empty in cc)
took_of (Puts w) t x letters (pair, inl holds) = (
  holds.told,
  (let e : x ∷ letters ≡ Brings holds.told ∷ [] = holds.letters_are in let f : x ≡ Brings holds.told = cc in f),
  record {
    after = refl;
    last = record { put = w.put; last = record { of = holds.last.of ∙ ap (λ (p : Known). p.book) pair; before = holds.last.before; last = holds.last.last }; before = holds.before };
  },
  (
    pair,
    inr (
      tail_of_sole x (Brings holds.told) letters holds.letters_are,
      inr (record {
        told = holds.told;
        put_before = holds.last.before;
        taken_before = t.taken;
        put_is = holds.last.last;
        taken_is = refl;
        before = holds.before;
      }),
    ),
  ),
)

takes_from : (pass : ℕ) (t : Taking) → Pops KeepsMail pass (Takes t) (IsTake (Takes t))
takes_from pass t x letters views keeps at =
    let box = is_mailbox (x ∷ letters) views pass (Takes t) tt keeps at in
    let second = taker_of (x ∷ letters) views pass t box at in
    let took = took_of box.putter t x letters (subst (λ (u : Taking). FitsPlace box.putter u (x ∷ letters)) second.1 box.place) in
    let after : View = Takes (taking t.pair (t.taken ++ took.0 ∷ [])) in (
      after,
      inr (inr (inr (record {
        putter = box.putter;
        taker = taking t.pair (t.taken ++ took.0 ∷ []);
        views_are = λ i. set (box.views_are i) (second.0 i) after;
        place = took.3;
      }))),
      subst (λ (y : Letter). IsTake (Takes t) y after) (sym took.1) took.2,
    )

-- what the place holds may be taken by the end that takes
pub may_take : (pass : ℕ) (v : View) (t : Taking) → v ≡ Takes t → Pops KeepsMail pass v (IsTake v)
may_take pass v t is = subst (λ (u : View). Pops KeepsMail pass u (IsTake u)) (sym is) (takes_from pass t)
