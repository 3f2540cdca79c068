-- The members of an object, as the code walks over them.
use Rattle.std.proofs.Common.{Bool, true, false, cond, find, filter, string_cmp, Less, ◌≡◌, List, [], ◌∷◌, length, suc, map, ℕ, string_bytes, Some, String, Global, refl, ap, sym, ◌∙◌}
use Rattle.std.specs.List.{AllByRecursion}
use Rattle.std.specs.List.Sorted.{IsStrictlySortedBy}
use Rattle.std.specs.Map.{keys_of}
use Rattle.std.specs.Option.{option_map_or}
use Rattle.serde_json.specs.Data.{Data, null, boolean, number, string, array, object, Members}
use Rattle.serde_json.specs.Find.{as_object}
use Rattle.serde_json.specs.View.{members_view}
use Rattle.serde_json.specs.declared.value.Value.{Value}
use Rattle.cube_schema.specs.Members.{names_in, names_of, lesser, least_of}

-- the names of an object are those of its members
pub names_of-object : (d : Data) (ms : Members) → Some ms ≡ as_object d → names_of d ≡ names_in ms
names_of-object null ms e = absurd cc
names_of-object (boolean b) ms e = absurd cc
names_of-object (number n) ms e = absurd cc
names_of-object (string s) ms e = absurd cc
names_of-object (array ds) ms e = absurd cc
names_of-object (object ns) ms e = ap names_in cc

pub length-names_in : (es : List (String Global × Value)) → length (names_in (members_view es)) ≡ length es
length-names_in [] = refl
length-names_in (e ∷ es) = ap suc (length-names_in es)

-- the names of members are their keys
names_in-members_view : (es : List (String Global × Value)) → names_in (members_view es) ≡ map string_bytes (keys_of es)
names_in-members_view [] = refl
names_in-members_view (e ∷ es) = ap (λ (names : List (List ℕ)). string_bytes e.0 ∷ names) (names_in-members_view es)

-- a key below all others is less than the first that passes the test
lesser-find : (p : List ℕ → Bool) (k : String Global) (ks : List (String Global)) → AllByRecursion (λ other. string_cmp k other ≡ Less) ks
    → option_map_or (lesser (string_bytes k)) (find p (map string_bytes ks)) (string_bytes k) ≡ string_bytes k
lesser-find p k [] below = refl
lesser-find p k (other ∷ ks) below = here (p (string_bytes other)) (lesser-find p k ks below.1)
  where
    here : (b : Bool) → option_map_or (lesser (string_bytes k)) (find p (map string_bytes ks)) (string_bytes k) ≡ string_bytes k
        → option_map_or (lesser (string_bytes k)) (cond b (Some (string_bytes other)) (find p (map string_bytes ks))) (string_bytes k) ≡ string_bytes k
    here true later = rw below.0
    here false later = later

-- in ascending order the first that passes a test is the least
least_of-filter : (p : List ℕ → Bool) (ks : List (String Global)) → IsStrictlySortedBy string_cmp ks → least_of (filter p (map string_bytes ks)) ≡ find p (map string_bytes ks)
unfolding IsStrictlySortedBy
least_of-filter p [] sorted = refl
least_of-filter p (k ∷ ks) sorted = here (p (string_bytes k)) (least_of-filter p ks sorted.1)
  where
    here : (b : Bool) → least_of (filter p (map string_bytes ks)) ≡ find p (map string_bytes ks)
        → least_of (cond b (string_bytes k ∷ filter p (map string_bytes ks)) (filter p (map string_bytes ks))) ≡ cond b (Some (string_bytes k)) (find p (map string_bytes ks))
    here true later = ap Some (rw later (lesser-find p k ks sorted.0))
    here false later = later

-- the least name of an object that passes a test is the first of its keys that does
pub least-find : (p : List ℕ → Bool) (d : Data) (es : List (String Global × Value)) → Some (members_view es) ≡ as_object d → IsStrictlySortedBy string_cmp (keys_of es)
    → find p (map string_bytes (keys_of es)) ≡ least_of (filter p (names_of d))
least-find p d es is sorted =
    let names : names_of d ≡ map string_bytes (keys_of es) = names_of-object d _ is ∙ names_in-members_view es in
    rw names (sym (least_of-filter p (keys_of es) sorted))
