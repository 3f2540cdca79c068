-- Two lists whose items belong together, place by place.
use Rattle.std.proofs.Common.{◌≡◌, ℕ, zero, suc, ◌<◌, ◌≤◌, List, [], ◌∷◌, ◌++◌, All, length, length-append, map, take, drop, slice_index_or, Some, refl, sym, ap, ◌∙◌, arith}
use Rattle.std.specs.List.{AllZip}
use Rattle.std.proofs.Math.Seq.{take-append_seam}
use Rattle.std.proofs.lemmas.List.Elements.{All-cons, All-head, All-nil, All-pop, All-push, All-same, All-tail}

pub AllZip-each : {X : Type 0} (R : X → X → Type 0) (xs ys : List X) → length ys ≡ length xs → ((i : ℕ) (d : X) → i < length xs → R (slice_index_or xs i d) (slice_index_or ys i d)) → AllZip R xs ys
AllZip-each R [] [] n each = tt
AllZip-each R [] (y ∷ ys) n each = absurd (omega (arith, n))
AllZip-each R (x ∷ xs) [] n each = absurd (omega (arith, n))
AllZip-each R (x ∷ xs) (y ∷ ys) n each = (each 0 x (omega arith), AllZip-each R xs ys (omega (arith, n)) (λ i d below. each (suc i) d (omega (arith, below))))

module _ {A B : Type 0} (R : A → B → Type 0) where
  pub AllZip-length : (xs : List A) (ys : List B) → AllZip R xs ys → length ys ≡ length xs
  AllZip-length [] [] z = refl
  AllZip-length [] (y ∷ ys) z = absurd z
  AllZip-length (x ∷ xs) [] z = absurd z
  AllZip-length (x ∷ xs) (y ∷ ys) z = ap suc (AllZip-length xs ys z.1)

  -- what follows for the second of the two, of each pair
  pub AllZip-right : (P : B → Type 0) (xs : List A) (ys : List B) → ((x : A) (y : B) → R x y → P y) → AllZip R xs ys → All P ys
  AllZip-right P [] [] f z = All-nil P
  AllZip-right P [] (y ∷ ys) f z = absurd z
  AllZip-right P (x ∷ xs) [] f z = absurd z
  AllZip-right P (x ∷ xs) (y ∷ ys) f z = All-cons P y ys (f x y z.0) (AllZip-right P xs ys f z.1)

  -- what follows for the first of the two
  pub AllZip-left : (P : A → Type 0) (xs : List A) (ys : List B) → ((x : A) (y : B) → R x y → P x) → AllZip R xs ys → All P xs
  AllZip-left P [] [] f z = All-nil P
  AllZip-left P [] (y ∷ ys) f z = absurd z
  AllZip-left P (x ∷ xs) [] f z = absurd z
  AllZip-left P (x ∷ xs) (y ∷ ys) f z = All-cons P x xs (f x y z.0) (AllZip-left P xs ys f z.1)

  -- the same where something holds of the first
  pub AllZip-carried : (P : A → Type 0) (Q : B → Type 0) (xs : List A) (ys : List B) → ((x : A) (y : B) → P x → R x y → Q y) → All P xs → AllZip R xs ys → All Q ys
  AllZip-carried P Q [] [] f all z = All-nil Q
  AllZip-carried P Q [] (y ∷ ys) f all z = absurd z
  AllZip-carried P Q (x ∷ xs) [] f all z = absurd z
  AllZip-carried P Q (x ∷ xs) (y ∷ ys) f all z = All-cons Q y ys (f x y (All-head P x xs all) z.0) (AllZip-carried P Q xs ys f (All-tail P x xs all) z.1)

  -- a value of each is that of the other
  pub AllZip-map : {C : Type 0} (f : A → C) (g : B → C) (xs : List A) (ys : List B) → ((x : A) (y : B) → R x y → g y ≡ f x) → AllZip R xs ys → map g ys ≡ map f xs
  AllZip-map f g [] [] same z = refl
  AllZip-map f g [] (y ∷ ys) same z = absurd z
  AllZip-map f g (x ∷ xs) [] same z = absurd z
  AllZip-map f g (x ∷ xs) (y ∷ ys) same z = ap (λ c. c ∷ map g ys) (same x y z.0) ∙ ap (λ cs. f x ∷ cs) (AllZip-map f g xs ys same z.1)

  pub AllZip-weaker : (S : A → B → Type 0) (xs : List A) (ys : List B) → ((x : A) (y : B) → R x y → S x y) → AllZip R xs ys → AllZip S xs ys
  AllZip-weaker S [] [] f z = tt
  AllZip-weaker S [] (y ∷ ys) f z = absurd z
  AllZip-weaker S (x ∷ xs) [] f z = absurd z
  AllZip-weaker S (x ∷ xs) (y ∷ ys) f z = (f x y z.0, AllZip-weaker S xs ys f z.1)

  -- the same where something holds of the first
  pub AllZip-knowing : (P : A → Type 0) (S : A → B → Type 0) (xs : List A) (ys : List B) → ((x : A) (y : B) → P x → R x y → S x y) → All P xs → AllZip R xs ys → AllZip S xs ys
  AllZip-knowing P S [] [] f all z = tt
  AllZip-knowing P S [] (y ∷ ys) f all z = absurd z
  AllZip-knowing P S (x ∷ xs) [] f all z = absurd z
  AllZip-knowing P S (x ∷ xs) (y ∷ ys) f all z = (f x y (All-head P x xs all) z.0, AllZip-knowing P S xs ys f (All-tail P x xs all) z.1)

  pub AllZip-add : (xs : List A) (ys : List B) (x : A) (y : B) → AllZip R xs ys → R x y → AllZip R (xs ++ x ∷ []) (ys ++ y ∷ [])
  AllZip-add [] [] x y z r = (r, tt)
  AllZip-add [] (b ∷ ys) x y z r = absurd z
  AllZip-add (a ∷ xs) [] x y z r = absurd z
  AllZip-add (a ∷ xs) (b ∷ ys) x y z r = (z.0, AllZip-add xs ys x y z.1 r)

  pub AllZip-mapped : (f : A → B) (xs : List A) → ((x : A) → R x (f x)) → AllZip R xs (map f xs)
  AllZip-mapped f [] each = tt
  AllZip-mapped f (x ∷ xs) each = (each x, AllZip-mapped f xs each)

-- what belongs together by a third
pub AllZip-then : {A B C : Type 0} (R : A → B → Type 0) (S : B → C → Type 0) (T : A → C → Type 0) (xs : List A) (ys : List B) (zs : List C)
    → ((x : A) (y : B) (z : C) → R x y → S y z → T x z) → AllZip R xs ys → AllZip S ys zs → AllZip T xs zs
AllZip-then R S T [] [] [] f p q = tt
AllZip-then R S T [] [] (z ∷ zs) f p q = absurd q
AllZip-then R S T [] (y ∷ ys) zs f p q = absurd p
AllZip-then R S T (x ∷ xs) [] zs f p q = absurd p
AllZip-then R S T (x ∷ xs) (y ∷ ys) [] f p q = absurd q
AllZip-then R S T (x ∷ xs) (y ∷ ys) (z ∷ zs) f p q = (f x y z p.0 q.0, AllZip-then R S T xs ys zs f p.1 q.1)

-- ---- lists of which the last item was taken, or item by item

pub All-init : {X : Type 0} (P : X → Type 0) (all xs : List X) (x : X) → all ≡ xs ++ x ∷ [] → All P all → All P xs
All-init P all xs x is every = (All-pop P all xs (Some x) is every).0

pub All-last : {X : Type 0} (P : X → Type 0) (all xs : List X) (x : X) → all ≡ xs ++ x ∷ [] → All P all → P x
All-last P all xs x is every = (All-pop P all xs (Some x) is every).1

-- a fact of each item, with that of one more
pub All-and : {X : Type 0} (P : X → Type 0) (all xs : List X) (x : X) → all ≡ xs ++ x ∷ [] → All P xs → P x → All P all
All-and P all xs x is every one = All-same P all (xs ++ x ∷ []) is (All-push P xs x every one)

-- all of a list item by item
pub All-taken : {X : Type 0} (P : X → Type 0) (xs : List X) (n : ℕ) → length xs ≤ n → All P (take n xs) → All P xs
All-taken P [] n few all = All-nil P
All-taken P (x ∷ xs) zero few all = absurd (omega (arith, few))
All-taken P (x ∷ xs) (suc n) few all = All-cons P x xs (All-head P x (take n xs) all) (All-taken P xs n (omega (arith, few)) (All-tail P x (take n xs) all))

-- what is left after n items begins with the item at n
first-drop : {X : Type 0} (n : ℕ) (xs : List X) (d : X) → slice_index_or (drop n xs) 0 d ≡ slice_index_or xs n d
first-drop zero xs d = refl
first-drop (suc n) [] d = refl
first-drop (suc n) (x ∷ xs) d = first-drop n xs d

pub same-at : {X : Type 0} (n : ℕ) (xs ys : List X) (d : X) → drop n xs ≡ drop n ys → slice_index_or xs n d ≡ slice_index_or ys n d
same-at n xs ys d e = sym (first-drop n xs d) ∙ ap (λ l. slice_index_or l 0 d) e ∙ first-drop n ys d

-- lists of one length without their last items
pub length-init : {A B : Type 0} (all xs : List A) (x : A) (more ys : List B) (y : B) → all ≡ xs ++ x ∷ [] → more ≡ ys ++ y ∷ [] → length more ≡ length all → length ys ≡ length xs
length-init all xs x more ys y is also same = omega (arith, ap length is, ap length also, length-append xs (x ∷ []), length-append ys (y ∷ []), same)

-- so many items of a list before others as it has are the list
pub front_back : {X : Type 0} (xs ys : List X) (n : ℕ) → n ≡ length xs → take n (xs ++ ys) ≡ xs
front_back xs ys n len = ap (λ k. take k (xs ++ ys)) len ∙ take-append_seam xs ys
