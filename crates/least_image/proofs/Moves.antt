-- Slots of one cube led to slots of another, one by one: what that makes of links, of what a slot owns, and of numbers
-- in an order.
use Rattle.std.proofs.Common.{◌≡◌, ◌≢◌, ℕ, zero, suc, ◌+◌, ◌<◌, ◌≤◌, Bool, true, false, cond, not, eqb, eq-eqb, ne_eqb, ◌⊎◌, inl, inr, List, [], ◌∷◌, ◌++◌, map, length, Option, Some, None, refl, sym, ap, ap₂, ◌∙◌, arith}
use Rattle.std.proofs.lemmas.Bool.{cases_eq, cases_lt}
use Rattle.std.proofs.lemmas.List.{map-append}
use Rattle.std.proofs.lemmas.List.Concat.{flat_map-cons}
use Rattle.std.specs.List.{flat_map, position_or_len}
use Rattle.node_arena.specs.declared.link.Link.{Link}
use Rattle.node_arena.specs.Slots.{id_of, target, Children}
use Rattle.node_arena.specs.Stats.{is_proper}
use Rattle.cube_image.specs.Order.{proper_target, owned_children, owned_content, order_number, moved_link, moved_child, moved_content}
use Rattle.cube_image.specs.Rest.{byte_children, below_number}
use Rattle.cube_image.proofs.Rests.{taken, dropped}

module _ (led : ℕ → ℕ) where
  -- the link to where its target is led
  abbrev pub led_link : Link → Link
  led_link l = record { to = id_of (led (target l)); kind = l.kind }

  abbrev pub led_option : Option Link → Option Link
  led_option None = None
  led_option (Some l) = Some (led_link l)

  abbrev pub led_child : ℕ × Link → ℕ × Link
  led_child c = (c.0, led_link c.1)

  owned-led_link : (l : Link) → proper_target (led_link l) ≡ map led (proper_target l)
  owned-led_link l = go (is_proper l)
    where
      go : (b : Bool) → cond {A = List ℕ} b (led (target l) ∷ []) [] ≡ map led (cond b (target l ∷ []) [])
      go true = refl
      go false = refl

  pub owned-led_content : (c : Option Link) → owned_content (led_option c) ≡ map led (owned_content c)
  owned-led_content None = refl
  owned-led_content (Some l) = owned-led_link l

  below-led : (n : ℕ) (children : Children) → below_number n (map led_child children) ≡ map led_child (below_number n children)
  below-led n [] = refl
  below-led n (x ∷ children) = go (cases_lt x.0 n) (below-led n children)
    where
      go : (x.0 < n) ⊎ (n ≤ x.0) → below_number n (map led_child children) ≡ map led_child (below_number n children) → below_number n (map led_child (x ∷ children)) ≡ map led_child (below_number n (x ∷ children))
      go (inl less) rest = taken n (led_child x) (map led_child children) less ∙ (ap (λ (cs : Children). led_child x ∷ cs) rest ∙ sym (ap (map led_child) (taken n x children less)))
      go (inr more) rest = dropped n (led_child x) (map led_child children) more ∙ (rest ∙ sym (ap (map led_child) (dropped n x children more)))

  targets-led : (children : Children) → owned_children (map led_child children) ≡ map led (owned_children children)
  targets-led [] = refl
  targets-led (x ∷ children) =
      flat_map-cons (λ (c : ℕ × Link). proper_target c.1) (led_child x) (map led_child children)
      ∙ (ap₂ ◌++◌ (owned-led_link x.1) (targets-led children)
      ∙ (sym (map-append led (proper_target x.1) (owned_children children))
      ∙ sym (ap (map led) (flat_map-cons (λ (c : ℕ × Link). proper_target c.1) x children))))

  pub owned-led_children : (children : Children) → owned_children (byte_children (map led_child children)) ≡ map led (owned_children (byte_children children))
  owned-led_children children = ap owned_children (below-led 256 children) ∙ targets-led (byte_children children)

  module _ (apart : (i j : ℕ) → led i ≡ led j → i ≡ j) where
    same_place : (p i : ℕ) → eqb (led p) (led i) ≡ eqb p i
    same_place p i = go (cases_eq p i)
      where
        go : (p ≡ i) ⊎ (p ≡ i → ⊥) → eqb (led p) (led i) ≡ eqb p i
        go (inl e) = eq-eqb (led p) (led i) (ap led e) ∙ sym (eq-eqb p i e)
        go (inr d) = ne_eqb (led p) (led i) (λ e. d (apart p i e)) ∙ sym (ne_eqb p i d)

    -- each slot has the same number in the order of the led places
    pub order_number-led : (places : List ℕ) (i : ℕ) → order_number (map led places) (led i) ≡ order_number places i
    order_number-led [] i = refl
    order_number-led (p ∷ places) i = ap₂ (λ (b : Bool) (n : ℕ). cond {A = ℕ} (not b) (1 + n) 0) (same_place p i) (order_number-led places i)

    pub moved-led_link : (places : List ℕ) (l : Link) → moved_link (map led places) (led_link l) ≡ moved_link places l
    moved-led_link places l = ap (λ (n : ℕ). record { to = id_of n; kind = l.kind }) (order_number-led places (target l))

    pub moved-led_content : (places : List ℕ) (c : Option Link) → moved_content (map led places) (led_option c) ≡ moved_content places c
    moved-led_content places None = refl
    moved-led_content places (Some l) = ap Some (moved-led_link places l)

    pub moved-led_children : (places : List ℕ) (children : Children) → map (moved_child (map led places)) (map led_child children) ≡ map (moved_child places) children
    moved-led_children places [] = refl
    moved-led_children places (x ∷ children) = ap₂ (λ (l : Link) (cs : Children). (x.0, l) ∷ cs) (moved-led_link places x.1) (moved-led_children places children)
