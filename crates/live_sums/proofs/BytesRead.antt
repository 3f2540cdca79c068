-- Bytes that were read.
use Rattle.std.proofs.Common.{◌≡◌, ℕ, zero, suc, ◌+◌, ◌-◌, true, false, List, [], ◌∷◌, ◌++◌, length, take, drop, Option, Some, None, refl, sym, ap, ◌∙◌, subst, arith, append_assoc, length-drop, take_all}
use Rattle.std.specs.Prelude.{is_some, option_map}
use Rattle.std.specs.List.{position}
use Rattle.outer_io.specs.Bytes.{Adds, IsAtEnd, Takes}
use Rattle.outer_io.specs.Told.{Told}
use Rattle.recount.proofs.LinesApart.{no_line}
use Rattle.texts.specs.LineFeeds.{NoFeed}
use Rattle.texts.proofs.LineFeeds.{NoFeed-append, first_feed-None, first_feed-Some, is_feed}
use Rattle.live_sums.specs.Rests.{KeepsRest}

-- where a feed was found there is one
pub found : (xs : List ℕ) (at : Option ℕ) → at ≡ position is_feed xs → is_some at ≡ true → NoFeed xs → ⊥
found xs None at some none = cc
found xs (Some k) at some none = let split = first_feed-Some xs k at in no_line (take k xs) (drop (k + 1) xs) (subst NoFeed split.2 none)

-- and where none was there is none
pub not_found : (xs : List ℕ) (at : Option ℕ) → at ≡ position is_feed xs → is_some at ≡ false → NoFeed xs
not_found xs None at some = first_feed-None xs at
not_found xs (Some k) at some = cc

-- what follows bytes without a feed has none
pub no_feed_after : (n : ℕ) (xs : List ℕ) → NoFeed xs → NoFeed (drop n xs)
no_feed_after zero xs none = none
no_feed_after (suc n) [] none = tt
no_feed_after (suc n) (x ∷ xs) none = no_feed_after n xs none.1

-- what follows a front
pub after_front : (xs ys : List ℕ) → drop (length xs) (xs ++ ys) ≡ ys
after_front [] ys = refl
after_front (x ∷ xs) ys = after_front xs ys

-- and bytes without one that are added to such have none
pub no_feed_joined : (held more all : List ℕ) (n : ℕ) → all ≡ held ++ more → n ≡ length held → NoFeed held → NoFeed (take (length all - n) (drop n all)) → NoFeed all
no_feed_joined held more all n is from none later =
    let rest = length-drop n all in
    let same : take (length all - n) (drop n all) ≡ more = take_all (length all - n) (drop n all) (omega (arith, rest)) ∙ (λ i. drop (from i) (is i)) ∙ after_front held more in
    subst NoFeed (sym is) (NoFeed-append held more none (subst NoFeed same later))

-- bytes that were taken and held are still of the rest
pub rest_kept : (a b : Option (List ℕ)) (held more : List ℕ) → Takes a b more → KeepsRest (option_map (λ m. held ++ m) a) (option_map (λ m. (held ++ more) ++ m) b)
rest_kept None b held more taken = tt
rest_kept (Some l) None held more taken = absurd taken
rest_kept (Some l) (Some m) held more taken = ap Some (append_assoc held more m ∙ ap (λ n. held ++ n) (sym taken))

pub adds_kept : (a b : Option (List ℕ)) (held all : List ℕ) (n : ℕ) → Adds a b held all n → KeepsRest (option_map (λ m. held ++ m) a) (option_map (λ m. all ++ m) b)
adds_kept a b held all n adds = subst (λ (bytes : List ℕ). KeepsRest (option_map (λ m. held ++ m) a) (option_map (λ m. bytes ++ m) b)) (sym adds.joined) (rest_kept a b held adds.more adds.taken)

-- what is kept twice is kept
pub kept_then : (a b c : Option (List ℕ)) → KeepsRest a b → KeepsRest b c → KeepsRest a c
kept_then None b c one two = tt
kept_then (Some l) b c one two = subst (λ o. Told o (λ rest. c ≡ Some rest)) one two

-- it is kept where nothing changed
pub kept_same : (a : Option (List ℕ)) → KeepsRest a a
kept_same None = tt
kept_same (Some l) = refl

-- where no more bytes were there, what is held is all
pub all_held : (o a b : Option (List ℕ)) (held all : List ℕ) (n : ℕ) → KeepsRest o (option_map (λ m. held ++ m) a) → IsAtEnd a → Adds a b held all n → n ≡ 0 → Told o (λ rest. rest ≡ all)
all_held o a b held all n kept end adds none = ended o a held all adds.more kept end adds.joined (adds.size ∙ none)
  where
    ended : (o a : Option (List ℕ)) (held all more : List ℕ) → KeepsRest o (option_map (λ m. held ++ m) a) → IsAtEnd a → all ≡ held ++ more → length more ≡ 0 → Told o (λ rest. rest ≡ all)
    ended None a held all more kept end is none = tt
    ended (Some l) None held all more kept end is none = absurd (never kept)
      where
        never : None ≡ Some l → ⊥
        never e = cc
    ended (Some l) (Some m) held all [] kept end is none = let own : held ++ m ≡ l = cc in sym own ∙ ap (λ n. held ++ n) end ∙ sym is
    ended (Some l) (Some m) held all (c ∷ more) kept end is none = absurd (omega (arith, none))
