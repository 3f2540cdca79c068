-- The rule of a mailbox tells what its place holds, by what both ends know.
use Rattle.std.proofs.Common.{◌≡◌, ℕ, zero, suc, ◌⊎◌, inl, inr, ⊎_elim, List, [], ◌∷◌, sym, ap, ◌∙◌, subst}
use mathlib.Core.Option.{some, some-injective, some-ne-none}
use lib.ListN.{get_elem?}
use Rattle.mailbox.specs.Rule.{FitsPlace, HoldsLast, IsLastTaken, IsMailbox}
use Rattle.mailbox.specs.declared.place.Letter.{Letter}
use Rattle.mailbox.specs.declared.place.Letter.TheVariants.{Brings}
use Rattle.mailbox.specs.declared.place.Putting.{Putting}
use Rattle.mailbox.specs.declared.place.Taking.{Taking}
use Rattle.mailbox.specs.MailLaws.{HoldsLastPut, KnowsPlace}
use Rattle.world_core.proofs.Lists.{one_item}
use Rattle.mailbox.specs.declared.place.View.{View}
use Rattle.mailbox.specs.declared.place.View.TheVariants.{Fresh, Opening, Whole, Puts, Takes}

-- a view among two is one of them
of_two : (x y v : View) (seat : ℕ) → get_elem? (x ∷ y ∷ []) seat ≡ some v → (x ≡ v) ⊎ (y ≡ v)
of_two x y v zero e = inl (some-injective x v e)
of_two x y v (suc zero) e = inr (some-injective y v e)
of_two x y v (suc (suc seat)) e = absurd (some-ne-none v (sym e))

head_of_sole : (x y : Letter) (l : List Letter) → x ∷ l ≡ y ∷ [] → x ≡ y
head_of_sole x y l e = cc

held_last : (w : Putting) (t : Taking) (letters : List Letter) → w.pair ≡ t.pair → HoldsLast w.pair.book w.put t.taken letters → KnowsPlace w t letters
held_last w t letters same holds = record {
  next = λ letter rest is. record {
    told = holds.told;
    brings = head_of_sole letter (Brings holds.told) rest (sym is ∙ holds.letters_are);
    last = holds.last;
    before = holds.before;
  };
  none = λ is. absurd (let e : Brings holds.told ∷ [] ≡ [] = sym holds.letters_are ∙ is in cc);
  pair = same;
}

held_none : (w : Putting) (t : Taking) (letters : List Letter) → w.pair ≡ t.pair → letters ≡ [] → IsLastTaken w.put t.taken → KnowsPlace w t letters
held_none w t letters same empty taken = record {
  next = λ letter rest is. absurd (let e : letter ∷ rest ≡ [] = sym is ∙ empty in cc);
  none = λ is. taken;
  pair = same;
}

held : (w : Putting) (t : Taking) (letters : List Letter) → FitsPlace (Puts w) t letters → KnowsPlace w t letters
held w t letters fits = ⊎_elim
    (λ (holds : HoldsLast w.pair.book w.put t.taken letters). held_last w t letters fits.0 holds)
    (λ (none : (letters ≡ []) × IsLastTaken w.put t.taken). held_none w t letters fits.0 none.0 none.1)
    fits.1

-- what the ends of an open mailbox know of its place
module _ (letters : List Letter) (views : List View) (in_seat out_seat : ℕ) (w : Putting) (t : Taking) (box : IsMailbox letters views) (in_at : get_elem? views in_seat ≡ some (Puts w)) (out_at : get_elem? views out_seat ≡ some (Takes t)) where
  putter_is : box.putter ≡ Puts w
  putter_is = ⊎_elim
      (λ (e : box.putter ≡ Puts w). e)
      (λ (e : Takes box.taker ≡ Puts w). absurd (cc))
      (of_two box.putter (Takes box.taker) (Puts w) in_seat (ap (λ l. get_elem? l in_seat) (sym box.views_are) ∙ in_at))

  taker_is : box.taker ≡ t
  taker_is = ⊎_elim
      (λ (e : box.putter ≡ Takes t). absurd (subst (λ (u : View). FitsPlace u box.taker letters) e box.place))
      (λ (e : Takes box.taker ≡ Takes t). cc)
      (of_two box.putter (Takes box.taker) (Takes t) out_seat (ap (λ l. get_elem? l out_seat) (sym box.views_are) ∙ out_at))

  known : KnowsPlace w t letters
  known = held w t letters (subst (λ (x : View × Taking). FitsPlace x.0 x.1 letters) (λ i. (putter_is i, taker_is i)) box.place)

pub holds_last_put : HoldsLastPut
holds_last_put letters views in_seat out_seat w t (inl new) in_at out_at =
    absurd (let e : Fresh ≡ Puts w = (one_item views Fresh (Puts w) in_seat new.views_are in_at).1 in cc)
holds_last_put letters views in_seat out_seat w t (inr (inl opens)) in_at out_at =
    absurd (let e : Opening opens.name.front ≡ Puts w = (one_item views (Opening opens.name.front) (Puts w) in_seat opens.views_are in_at).1 in cc)
holds_last_put letters views in_seat out_seat w t (inr (inr (inl named))) in_at out_at =
    absurd (let e : Whole named.pair ≡ Puts w = (one_item views (Whole named.pair) (Puts w) in_seat named.views_are in_at).1 in cc)
holds_last_put letters views in_seat out_seat w t (inr (inr (inr box))) in_at out_at = known letters views in_seat out_seat w t box in_at out_at
