-- The visit of a node for a group: its content, its labels one after the other, and its end.
use Rattle.std.proofs.Common.{◌≡◌, ℕ, ◌+◌, ◌<◌, ◌≤◌, false, true≢false, ◌⊎◌, inl, inr, List, [], ◌∷◌, ◌++◌, Option, Some, None, Contains, length, refl, sym, ap, ◌∙◌, subst, arith}
use Rattle.std.proofs.lemmas.Bool.{cases_eq, cases_lt}
use Rattle.std.proofs.lemmas.List.{get_or_push, length_push}
use Rattle.std.proofs.lemmas.List.Elements.{All-contains}
use Rattle.cube_view.specs.Walks.{Step, down, across, Walk, SpotPath, Under, HasSpot}
use Rattle.cube_view.proofs.FinerWalks.{under_before}
use Rattle.node_arena.specs.Amounts.{Weighted, spots_in}
use Rattle.node_arena.specs.Shape.{home_of, IsLinked}
use Rattle.node_arena.specs.Slots.{proper, Slot, link_of, slot_of, is_table}
use Rattle.node_arena.specs.declared.link.Link.{Link}
use Rattle.point_insert.proofs.Cases.{next_label}
use Rattle.proper_path.specs.Making.{Makes, Keeps}
use Rattle.proper_path.specs.Order.{IsAbove, itself, further}
use Rattle.proper_path.specs.Rooted.{state}
use Rattle.proper_path.proofs.Homes.{IsFree}
use Rattle.proper_path.proofs.Order.{above-length}
use Rattle.proper_path.proofs.Steps.{keeps-refl, keeps-trans, keeps_less, IsPlaced, makes_placed}
use Rattle.group_insert.specs.Halfway.{LeadsRight, WillHaveTwo, IsHalfwayBefore, IsHalfwayAfter}
use Rattle.group_insert.specs.Later.{PutOff, link_address, IsPutOff, IsPut}
use Rattle.group_insert.specs.LeastSoFar.{BegunBefore, BegunAt, BegunAfter, IsLeastSoFar, NeedsOwn}
use Rattle.group_insert.specs.Turns.{EndedBefore, EndedAfter, IsOpenAbove}
use Rattle.group_insert.specs.Visits.{ArePoints, HasVisitedAll, IsLabelOf, HasTwoLabels, HasOneLabel, HasNoLabel, TellsLabels, HasContentFor, PutsBelow, IsGone, IsAmong}
use Rattle.group_insert.proofs.Earlier.{earlier-irreflexive}
use Rattle.group_insert.proofs.Entries.{halfway_put_off}
use Rattle.group_insert.proofs.VisitEnd.{LeadsAll, IsFinished, node_ends, last_label}
use Rattle.group_insert.proofs.Growth.{halfway_made}
use Rattle.group_insert.proofs.SameState.{halfway_same}
use Rattle.group_insert.proofs.OneChild.{one_child_free}
use Rattle.group_insert.proofs.PutBelow.{no_more, one_more, puts_less, puts_on, put_stays, none_at}
use Rattle.least_cube.specs.Least.{HasFiner}
use Rattle.group_insert.proofs.LeastKept.{least_begun, least_made, home_least, begun_content, begun_labels, begun_past_content, begun_over, begun_label, begun_past, begun_ends}
use Rattle.group_insert.proofs.LeastNode.{needs_content}
use Rattle.group_insert.proofs.NextVisit.{begins_content, begins_labels, content_to_labels, over_labels, past_label}

before_step : (g : List Weighted) (e : Step) (a : Walk) → HasSpot (spots_in g) (e ∷ a) → HasSpot (spots_in g) a
before_step g e a w = record { spot = w.spot; is_in = w.is_in; lies = under_before w.spot e a w.lies }

-- a node does not stand at or below one of its own steps
not_within : (homes homes' : List Walk) (i j : ℕ) (e : Step) → home_of homes' i ≡ home_of homes i → home_of homes' j ≡ e ∷ home_of homes i → IsAbove (home_of homes' j) (home_of homes' i) → ⊥
not_within homes homes' i j e at to f = let l = above-length f in let x = ap length at in let y = ap length to in omega (arith, l, x, y)

-- a node of one label begins with its labels
pub among_one : (dims : ℕ) (h g : List Weighted) (slots : List Slot) (homes : List Walk) (put : List PutOff) (i l : ℕ) → ArePoints dims h g → i < length slots → HasSpot (spots_in g) (home_of homes i) → HasOneLabel slots homes g i l → IsHalfwayBefore dims slots homes h g put (home_of homes i) → IsAmong dims h g slots homes i (Some l) 0 slots put put
among_one dims h g slots homes put i l P lt w O M = record {
  homes' = homes;
  halfway = halfway_same dims slots homes h g (EndedBefore g (home_of homes i)) (IsOpenAbove (home_of homes i)) (EndedBefore g (down 0 ∷ home_of homes i)) (IsOpenAbove (down 0 ∷ home_of homes i)) put (begins_labels slots homes g i M.has_homes lt free) M;
  keeps = keeps-refl (state slots homes []) (home_of homes i);
  puts = no_more homes (home_of homes i) put;
  gone = λ n x u. absurd (omega (arith, x));
  kids = λ n x. x;
  labels = λ n x. inl x;
  content = free;
  least = λ L N. least_begun slots homes h g (BegunAt (home_of homes i)) (BegunBefore (down 0 ∷ home_of homes i)) (begun_labels 0) L;
}
  where
    free : IsFree slots i across
    free = one_child_free dims slots homes h g (EndedBefore g (home_of homes i)) (IsOpenAbove (home_of homes i)) put i l w.spot (none_at dims slots homes h g put i M) M (P.alike w.spot w.is_in) (O.all w.spot w.is_in w.lies) (λ d. earlier-irreflexive d.1) (λ o. o.1 refl) O.alone

-- before the content that was made is visited ..
pub content_at : (dims : ℕ) (h g : List Weighted) (old mid : List Slot) (homes homes' : List Walk) (put : List PutOff) (i j : ℕ) → i < length old → HasSpot (spots_in g) (across ∷ home_of homes i) → IsHalfwayBefore dims old homes h g put (home_of homes i) → Makes dims (state old homes []) i across j (state mid homes' []) → IsHalfwayBefore dims mid homes' h g put (home_of homes' j)
content_at dims h g old mid homes homes' put i j lt w M mk =
    let N = halfway_same dims old homes h g (EndedBefore g (home_of homes i)) (IsOpenAbove (home_of homes i)) (EndedBefore g (across ∷ home_of homes i)) (IsOpenAbove (across ∷ home_of homes i)) put (begins_content old homes g (home_of homes i)) M in
    let m = makes_placed dims (state old homes []) (state mid homes' []) i j across M.has_homes M.has_tables mk in
    subst (λ z. IsHalfwayBefore dims mid homes' h g put z) (sym m.at_home) (halfway_made dims h g put (state old homes []) (state mid homes' []) i j across N lt w mk)

-- .. and afterwards, before the labels
pub among_content : (dims : ℕ) (h g : List Weighted) (old mid new : List Slot) (homes homes' : List Walk) (before after : List PutOff) (i j : ℕ) → i < length old → IsHalfwayBefore dims old homes h g before (home_of homes i) → Makes dims (state old homes []) i across j (state mid homes' []) → HasVisitedAll dims h g mid homes' j new before after → IsAmong dims h g old homes i None 0 new before after
among_content dims h g old mid new homes homes' before after i j lt M mk V = record {
  homes' = V.homes';
  halfway = halfway_same dims new V.homes' h g (EndedAfter g (across ∷ home_of homes i)) (IsOpenAbove (across ∷ home_of homes i)) (EndedBefore g (down 0 ∷ home_of homes i)) (IsOpenAbove (down 0 ∷ home_of homes i)) after (content_to_labels new V.homes' g (home_of homes i))
      (subst (λ z. IsHalfwayAfter dims new V.homes' h g after z) m.at_home V.halfway);
  puts = puts_less V.homes' (home_of homes' j) (home_of homes i) before after (subst (λ z. IsAbove (home_of homes i) z) (sym m.at_home) (further itself)) V.puts;
  keeps = keeps-trans m.keeps (keeps_less (subst (λ z. IsAbove (home_of homes i) z) (sym m.at_home) (further itself)) V.keeps);
  gone = λ n x u. absurd (omega (arith, x));
  kids = λ n x. record { link = x.link; is = same n ∙ x.is };
  labels = λ n x. inl (record { link = x.link; is = sym (same n) ∙ x.is });
  content = (j, V.keeps.links i across lt_mid outside ∙ m.link);
  least = λ L N. least_begun new V.homes' h g (BegunAfter (across ∷ home_of homes i)) (BegunBefore (down 0 ∷ home_of homes i)) (begun_past_content 0)
      (subst (λ z. IsLeastSoFar new V.homes' h g (BegunAfter z)) m.at_home (V.least (subst (λ z. IsLeastSoFar mid homes' h g (BegunAt z)) (sym m.at_home) (made L N))));
}
  where
    made : IsLeastSoFar old homes h g (BegunAt (home_of homes i)) → NeedsOwn homes h g i None → IsLeastSoFar mid homes' h g (BegunAt (across ∷ home_of homes i))
    made L N = least_made dims h g before (BegunAt (across ∷ home_of homes i)) (state old homes []) (state mid homes' []) i j across
        (halfway_same dims old homes h g (EndedBefore g (home_of homes i)) (IsOpenAbove (home_of homes i)) (EndedBefore g (across ∷ home_of homes i)) (IsOpenAbove (across ∷ home_of homes i)) before (begins_content old homes g (home_of homes i)) M)
        lt (inr itself) (λ n F. N.content refl F) mk (least_begun old homes h g (BegunAt (home_of homes i)) (BegunAt (across ∷ home_of homes i)) begun_content L)

    m : IsPlaced dims (state old homes []) i across j (state mid homes' [])
    m = makes_placed dims (state old homes []) (state mid homes' []) i j across M.has_homes M.has_tables mk

    lt_mid : i < length mid
    lt_mid = omega (arith, lt, m.keeps.size)

    outside : IsAbove (home_of homes' j) (home_of homes' i) → ⊥
    outside f = not_within homes homes' i j across (m.keeps.homes i lt) m.at_home f

    same : (n : ℕ) → link_of new i (down n) ≡ link_of old i (down n)
    same n = V.keeps.links i (down n) lt_mid outside ∙ m.others (down n) (λ x. let z : ⊥ = cc in z)

-- before the child of the next label that was made is visited ..
pub label_at_child : (dims : ℕ) (h g : List Weighted) (old mid next : List Slot) (homes homes' : List Walk) (before put : List PutOff) (i j m : ℕ) (only : Option ℕ) (from : ℕ) → i < length old → (A : IsAmong dims h g old homes i only from mid before put) → from ≤ m → ((n : ℕ) (q : SpotPath) → from ≤ n → n < m → Contains (spots_in g) q → Under q (down n ∷ home_of homes i) → ⊥) → HasSpot (spots_in g) (down m ∷ home_of homes i) → Makes dims (state mid A.homes' []) i (down m) j (state next homes' []) → IsHalfwayBefore dims next homes' h g put (home_of homes' j)
label_at_child dims h g old mid next homes homes' before put i j m only from lt A le none w mk =
    subst (λ z. IsHalfwayBefore dims next homes' h g put z) (sym p.at_home)
    (halfway_made dims h g put (state mid A.homes' []) (state next homes' []) i j (down m) (subst (λ z. IsHalfwayBefore dims mid A.homes' h g put (down m ∷ z)) (sym at) N) (omega (arith, lt, A.keeps.size)) (subst (λ z. HasSpot (spots_in g) (down m ∷ z)) (sym at) w) mk)
  where
    at : home_of A.homes' i ≡ home_of homes i
    at = A.keeps.homes i lt

    N : IsHalfwayBefore dims mid A.homes' h g put (down m ∷ home_of homes i)
    N = halfway_same dims mid A.homes' h g (EndedBefore g (down from ∷ home_of homes i)) (IsOpenAbove (down from ∷ home_of homes i)) (EndedBefore g (down m ∷ home_of homes i)) (IsOpenAbove (down m ∷ home_of homes i)) put (over_labels mid A.homes' g (home_of homes i) from m le none) A.halfway

    p : IsPlaced dims (state mid A.homes' []) i (down m) j (state next homes' [])
    p = makes_placed dims (state mid A.homes' []) (state next homes' []) i j (down m) A.halfway.has_homes A.halfway.has_tables mk

-- .. and afterwards
pub among_next : (dims : ℕ) (h g : List Weighted) (old mid next new : List Slot) (homes homes' : List Walk) (before put after : List PutOff) (i j m : ℕ) (only : Option ℕ) (from : ℕ) → i < length old → (A : IsAmong dims h g old homes i only from mid before put) → from ≤ m → ((n : ℕ) (q : SpotPath) → from ≤ n → n < m → Contains (spots_in g) q → Under q (down n ∷ home_of homes i) → ⊥) → HasSpot (spots_in g) (down m ∷ home_of homes i) → Makes dims (state mid A.homes' []) i (down m) j (state next homes' []) → (NeedsOwn homes h g i only → IsLeastSoFar mid A.homes' h g (BegunBefore (down m ∷ home_of homes i)) → ((k : ℕ) → link_of mid i (down m) ≡ Some (proper k) → ⊥) → HasFiner (spots_in (g ++ h)) (down m ∷ home_of homes i) → ⊥) → HasVisitedAll dims h g next homes' j new put after → IsAmong dims h g old homes i only (m + 1) new before after
among_next dims h g old mid next new homes homes' before put after i j m only from lt A le none w mk needs V = record {
  homes' = V.homes';
  halfway = halfway_same dims new V.homes' h g (EndedAfter g (down m ∷ home_of homes i)) (IsOpenAbove (down m ∷ home_of homes i)) (EndedBefore g (down (m + 1) ∷ home_of homes i)) (IsOpenAbove (down (m + 1) ∷ home_of homes i)) after (past_label new V.homes' g (home_of homes i) m)
      (subst (λ z. IsHalfwayAfter dims new V.homes' h g after z) at_child V.halfway);
  puts = puts_on mid A.homes' V.homes' h g (home_of homes i) before put after A.halfway.later.put_off (λ k y. V.keeps.homes k (omega (arith, y, p.keeps.size)) ∙ p.keeps.homes k y) A.puts
      (puts_less V.homes' (home_of homes' j) (home_of homes i) put after (subst (λ z. IsAbove (home_of homes i) z) (sym at_child) (further itself)) V.puts);
  keeps = keeps-trans A.keeps (keeps-trans (subst (λ z. Keeps (state mid A.homes' []) (state next homes' []) z) at p.keeps) (keeps_less (subst (λ z. IsAbove (home_of homes i) z) (sym at_child) (further itself)) V.keeps));
  gone = λ n x u. gone n x u (cases_eq n m);
  kids = λ n x. kids n (A.kids n x) (cases_eq n m);
  labels = λ n x. labels n x (cases_eq n m);
  content = content only A.content;
  least = λ L N. least_begun new V.homes' h g (BegunAfter (down m ∷ home_of homes i)) (BegunBefore (down (m + 1) ∷ home_of homes i)) (begun_past m)
      (subst (λ z. IsLeastSoFar new V.homes' h g (BegunAfter z)) at_child (V.least (subst (λ z. IsLeastSoFar next homes' h g (BegunAt z)) (sym p.at_home) (made N (by_then L N)))));
}
  where
    at : home_of A.homes' i ≡ home_of homes i
    at = A.keeps.homes i lt

    lt_mid : i < length mid
    lt_mid = omega (arith, lt, A.keeps.size)

    p : IsPlaced dims (state mid A.homes' []) i (down m) j (state next homes' [])
    p = makes_placed dims (state mid A.homes' []) (state next homes' []) i j (down m) A.halfway.has_homes A.halfway.has_tables mk

    at_child : home_of homes' j ≡ down m ∷ home_of homes i
    at_child = p.at_home ∙ ap (λ z. down m ∷ z) at

    by_then : IsLeastSoFar old homes h g (BegunAt (home_of homes i)) → NeedsOwn homes h g i only → IsLeastSoFar mid A.homes' h g (BegunBefore (down m ∷ home_of homes i))
    by_then L N = least_begun mid A.homes' h g (BegunBefore (down from ∷ home_of homes i)) (BegunBefore (down m ∷ home_of homes i)) (begun_over from m le) (A.least L N)

    made : NeedsOwn homes h g i only → IsLeastSoFar mid A.homes' h g (BegunBefore (down m ∷ home_of homes i)) → IsLeastSoFar next homes' h g (BegunAt (down m ∷ home_of A.homes' i))
    made N B = least_made dims h g put (BegunAt (down m ∷ home_of A.homes' i)) (state mid A.homes' []) (state next homes' []) i j (down m)
        (subst (λ z. IsHalfwayBefore dims mid A.homes' h g put (down m ∷ z)) (sym at) (halfway_same dims mid A.homes' h g (EndedBefore g (down from ∷ home_of homes i)) (IsOpenAbove (down from ∷ home_of homes i)) (EndedBefore g (down m ∷ home_of homes i)) (IsOpenAbove (down m ∷ home_of homes i)) put (over_labels mid A.homes' g (home_of homes i) from m le none) A.halfway))
        lt_mid (inr itself) (λ n F. needs N B n (subst (λ z. HasFiner (spots_in (g ++ h)) (down m ∷ z)) at F)) mk
        (least_begun mid A.homes' h g (BegunBefore (down m ∷ home_of A.homes' i)) (BegunAt (down m ∷ home_of A.homes' i)) begun_label (subst (λ z. IsLeastSoFar mid A.homes' h g (BegunBefore (down m ∷ z))) (sym at) B))

    lt_next : i < length next
    lt_next = omega (arith, lt_mid, p.keeps.size)

    outside : IsAbove (home_of homes' j) (home_of homes' i) → ⊥
    outside f = not_within A.homes' homes' i j (down m) (p.keeps.homes i lt_mid) p.at_home f

    same : (f : Step) → (f ≡ down m → ⊥) → link_of new i f ≡ link_of mid i f
    same f n = V.keeps.links i f lt_next outside ∙ p.others f n

    label_of : Step → ℕ
    label_of (down n) = n
    label_of across = 0

    other : (n : ℕ) → (n ≡ m → ⊥) → link_of new i (down n) ≡ link_of mid i (down n)
    other n x = same (down n) (λ e. x (ap label_of e))

    here : link_of new i (down m) ≡ Some (proper j)
    here = V.keeps.links i (down m) lt_next outside ∙ p.link

    split : (n : ℕ) → n < m + 1 → (n ≡ m → ⊥) → n < m
    split n l x = grind arith

    gone : (n : ℕ) → n < m + 1 → HasSpot (spots_in g) (down n ∷ home_of homes i) → (n ≡ m) ⊎ (n ≡ m → ⊥) → IsGone new after i only n
    gone n x u (inl e) = inl (j, ap (λ z. link_of new i (down z)) e ∙ here)
    gone n x u (inr d) = go (cases_lt n from)
      where
        still : IsGone mid put i only n → IsGone new after i only n
        still (inl r) = inl (r.0, other n d ∙ r.1)
        still (inr r) = inr (r.0, put_stays V.homes' (home_of homes' j) put after i (down n) V.puts r.1)

        go : (n < from) ⊎ (from ≤ n) → IsGone new after i only n
        go (inl y) = still (A.gone n y u)
        go (inr y) = absurd (none n u.spot y (split n x d) u.is_in u.lies)

    kids : (n : ℕ) → IsLinked mid i (down n) → (n ≡ m) ⊎ (n ≡ m → ⊥) → IsLinked new i (down n)
    kids n x (inl e) = record { link = proper j; is = ap (λ z. link_of new i (down z)) e ∙ here }
    kids n x (inr d) = record { link = x.link; is = other n d ∙ x.is }

    labels : (n : ℕ) → IsLinked new i (down n) → (n ≡ m) ⊎ (n ≡ m → ⊥) → IsLabelOf old homes g i n
    labels n x (inl e) = inr (subst (λ z. HasSpot (spots_in g) (down z ∷ home_of homes i)) (sym e) w)
    labels n x (inr d) = A.labels n (record { link = x.link; is = sym (other n d) ∙ x.is })

    across_same : link_of new i across ≡ link_of mid i across
    across_same = same across (λ x. let z : ⊥ = cc in z)

    content : (o : Option ℕ) → HasContentFor mid i o → HasContentFor new i o
    content None c = (c.0, across_same ∙ c.1)
    content (Some l) c = λ k x. c k (sym across_same ∙ x)

-- a label that is put off is passed too
pub among_put : (dims : ℕ) (h g : List Weighted) (old mid : List Slot) (homes : List Walk) (before put : List PutOff) (k : PutOff) (from : ℕ) → k.node < length old → (A : IsAmong dims h g old homes k.node None from mid before put) → from ≤ k.label → ((n : ℕ) (q : SpotPath) → from ≤ n → n < k.label → Contains (spots_in g) q → Under q (down n ∷ home_of homes k.node) → ⊥) → IsPutOff mid A.homes' h g k → IsAmong dims h g old homes k.node None (k.label + 1) mid before (put ++ k ∷ [])
among_put dims h g old mid homes before put k from lt A le none may = record {
  homes' = A.homes';
  halfway = halfway_same dims mid A.homes' h g (EndedAfter g (down k.label ∷ home_of homes k.node)) (IsOpenAbove (down k.label ∷ home_of homes k.node)) (EndedBefore g (down (k.label + 1) ∷ home_of homes k.node)) (IsOpenAbove (down (k.label + 1) ∷ home_of homes k.node)) (put ++ k ∷ []) (past_label mid A.homes' g (home_of homes k.node) k.label)
      (subst (λ z. IsHalfwayAfter dims mid A.homes' h g (put ++ k ∷ []) z) address (halfway_put_off dims mid A.homes' h g put k may (subst (λ z. IsHalfwayBefore dims mid A.homes' h g put z) (sym address) N)));
  keeps = A.keeps;
  puts = puts_on mid A.homes' A.homes' h g (home_of homes k.node) before put (put ++ k ∷ []) A.halfway.later.put_off (λ j y. refl) A.puts (subst (λ z. PutsBelow A.homes' z put (put ++ k ∷ [])) at (one_more A.homes' k put));
  gone = λ n x u. gone n x u (cases_eq n k.label);
  kids = A.kids;
  labels = A.labels;
  content = A.content;
  least = λ L N. least_begun mid A.homes' h g (BegunBefore (down from ∷ home_of homes k.node)) (BegunBefore (down (k.label + 1) ∷ home_of homes k.node)) (begun_over from (k.label + 1) (omega (arith, le))) (A.least L N);
}
  where
    at : home_of A.homes' k.node ≡ home_of homes k.node
    at = A.keeps.homes k.node lt

    address : link_address A.homes' k ≡ down k.label ∷ home_of homes k.node
    address = ap (λ z. down k.label ∷ z) at

    N : IsHalfwayBefore dims mid A.homes' h g put (down k.label ∷ home_of homes k.node)
    N = halfway_same dims mid A.homes' h g (EndedBefore g (down from ∷ home_of homes k.node)) (IsOpenAbove (down from ∷ home_of homes k.node)) (EndedBefore g (down k.label ∷ home_of homes k.node)) (IsOpenAbove (down k.label ∷ home_of homes k.node)) put (over_labels mid A.homes' g (home_of homes k.node) from k.label le none) A.halfway

    split : (n : ℕ) → n < k.label + 1 → (n ≡ k.label → ⊥) → n < k.label
    split n l x = grind arith

    gone : (n : ℕ) → n < k.label + 1 → HasSpot (spots_in g) (down n ∷ home_of homes k.node) → (n ≡ k.label) ⊎ (n ≡ k.label → ⊥) → IsGone mid (put ++ k ∷ []) k.node None n
    gone n x u (inl e) = inr (refl, (length put, k, omega (arith, length_push put k), get_or_push put k k (length put) refl, (refl, ap down (sym e))))
    gone n x u (inr d) = go (cases_lt n from)
      where
        still : IsGone mid put k.node None n → IsGone mid (put ++ k ∷ []) k.node None n
        still (inl r) = inl r
        still (inr r) = inr (refl, put_stays A.homes' (home_of A.homes' k.node) put (put ++ k ∷ []) k.node (down n) (one_more A.homes' k put) r.1)

        go : (n < from) ⊎ (from ≤ n) → IsGone mid (put ++ k ∷ []) k.node None n
        go (inl y) = still (A.gone n y u)
        go (inr y) = absurd (none n u.spot y (split n x d) u.is_in u.lies)

-- the visit of a node that does not have one label ends after its last label
pub among_ends : (dims : ℕ) (h g : List Weighted) (old new : List Slot) (homes : List Walk) (before put : List PutOff) (i from : ℕ) → ArePoints dims h g → i < length old → is_table (slot_of old i) ≡ false → HasSpot (spots_in g) (home_of homes i) → TellsLabels old homes g i None → IsAmong dims h g old homes i None from new before put → ((n : ℕ) (q : SpotPath) → from ≤ n → Contains (spots_in g) q → Under q (down n ∷ home_of homes i) → ⊥) → IsHalfwayBefore dims old homes h g before (home_of homes i) → HasVisitedAll dims h g old homes i new before put
among_ends dims h g old new homes before put i from P lt nd w T A none M0 = record {
  homes' = A.homes';
  halfway = subst (λ z. IsHalfwayAfter dims new A.homes' h g put z) at
      (node_ends dims new A.homes' h g (EndedBefore g (down from ∷ x)) (IsOpenAbove (down from ∷ x)) (EndedAfter g x) (IsOpenAbove x) put i lt_new
      (last_label new A.homes' g i from M.has_homes lt_new (subst (HasSpot (spots_in g)) (sym at) w) (λ n q l c u. none n q l c (subst (λ z. Under q (down n ∷ z)) at u))) F M);
  keeps = A.keeps;
  puts = A.puts;
  least = λ L. least_begun new A.homes' h g (BegunBefore (down from ∷ home_of homes i)) (BegunAfter (home_of homes i)) (begun_ends from)
      (A.least L (needs_content dims h g old homes i P M0.holds w (home_least old homes (spots_in (g ++ h)) M0.has_homes L.least i lt) (λ d. true≢false (sym ((M0.has_tables.tables i lt).1 d) ∙ nd)) T));
}
  where
    at : home_of A.homes' i ≡ home_of homes i
    at = A.keeps.homes i lt

    x : Walk
    x = home_of A.homes' i

    M : IsHalfwayBefore dims new A.homes' h g put (down from ∷ home_of A.homes' i)
    M = subst (λ z. IsHalfwayBefore dims new A.homes' h g put (down from ∷ z)) (sym at) A.halfway

    lt_new : i < length new
    lt_new = omega (arith, lt, A.keeps.size)

    own : (n : ℕ) → HasSpot (spots_in g) (down n ∷ home_of homes i) → IsGone new put i None n
    own n u = go (cases_lt n from)
      where
        go : (n < from) ⊎ (from ≤ n) → IsGone new put i None n
        go (inl y) = A.gone n y u
        go (inr y) = absurd (none n u.spot y u.is_in u.lies)

    right : (e : Step) (q : SpotPath) → Under q (e ∷ home_of A.homes' i) → (j : ℕ) × (link_of new i e ≡ Some (proper j)) → LeadsRight new A.homes' i e q
    right e q u r = record { link = proper r.0; is = r.1; lies = subst (Under q) (sym (M.has_homes.at_home i r.0 e r.1).1) u }

    links : LeadsAll new A.homes' g put i
    links (down n) q c u = pick (own n (record { spot = q; is_in = c; lies = subst (λ z. Under q (down n ∷ z)) at u }))
      where
        pick : IsGone new put i None n → LeadsRight new A.homes' i (down n) q ⊎ IsPut put i (down n)
        pick (inl r) = inl (right (down n) q u r)
        pick (inr r) = inr r.1
    links across q c u = inl (right across q u A.content)

    linked : (n : ℕ) → IsLabelOf old homes g i n → IsLinked new i (down n) ⊎ IsPut put i (down n)
    linked n (inl y) = inl (A.kids n y)
    linked n (inr u) = pick (own n u)
      where
        pick : IsGone new put i None n → IsLinked new i (down n) ⊎ IsPut put i (down n)
        pick (inl r) = inl (record { link = proper r.0; is = r.1 })
        pick (inr r) = inr r.1

    two_of : HasTwoLabels old homes g i → WillHaveTwo new put i
    two_of t = record { one = t.one; other = t.other; differ = t.differ; at_one = linked t.one t.at_one; at_other = linked t.other t.at_other }

    two : (label : ℕ) (l : Link) → link_of new i (down label) ≡ Some l → HasTwoLabels old homes g i ⊎ HasNoLabel homes g i → WillHaveTwo new put i
    two label l is (inl t) = two_of t
    two label l is (inr n) =
        let v = M.holds.wanted i (down label) l is in
        let r = next_label w.spot v.spot (sym (P.alike w.spot w.is_in v.spot v.is_in)) (home_of homes i) label w.lies (subst (λ z. Under v.spot (down label ∷ z)) at v.lies) in
        absurd (n r.0 w.spot w.is_in r.1)

    -- a link of the node is put off, so a point goes down from it
    wide : (k : PutOff) → IsPutOff new A.homes' h g k → k.node ≡ i → HasTwoLabels old homes g i ⊎ HasNoLabel homes g i → WillHaveTwo new put i
    wide k o e (inl t) = two_of t
    wide k o e (inr n) = let q = o.wanted in absurd (n k.label q.spot q.is_in (subst (λ z. Under q.spot (down k.label ∷ z)) (ap (home_of A.homes') e ∙ at) q.lies))

    F : IsFinished new A.homes' g put i
    F = record {
      is_node = A.keeps.kinds i lt ∙ nd;
      links = links;
      shares = λ label l O. inr (two label l O.is T);
      own_child = λ label l O. inr (two label l O.is T);
      wide = λ k c e. wide k (All-contains (IsPutOff new A.homes' h g) put k M.later.put_off c) e T;
    }
