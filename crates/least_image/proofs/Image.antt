-- Two least cubes of one bag have one image.
use Rattle.std.proofs.Common.{ℕ, map, sym, ap, ◌∙◌}
use Rattle.cube_image.specs.Bytes.{image_bytes}
use Rattle.cube_image.proofs.OneOrder.{one_image}
use Rattle.least_image.specs.OneImage.{TellsOneLeastImage, TellsSharedImage}
use Rattle.least_image.proofs.Orders.{in_order-led, order-led}
use Rattle.least_image.proofs.Slots.{led, led-top, led_slot}

pub tells_shared_image : TellsSharedImage
tells_shared_image dims slots slots' homes homes' h h' C D B size bytes X = record {
  places = map way X.places;
  ordered = order-led slots slots' way (λ i. (led_slot dims slots slots' homes homes' h h' C D B i).owns) X.places (led-top dims slots slots' homes homes' h h' C D B) X.ordered;
  text = X.text ∙ ap (image_bytes size) (sym (in_order-led slots slots' way (λ i. (led_slot dims slots slots' homes homes' h h' C D B i).owns) X.places X.places (λ i. (led_slot dims slots slots' homes homes' h h' C D B i).moves X.places)));
}
  where
    way : ℕ → ℕ
    way = led dims slots slots' homes homes' h h' C D B

pub tells_one_image : TellsOneLeastImage
tells_one_image dims slots slots' homes homes' h h' C D B size bytes bytes' X Y = one_image slots' (record { homes = homes'; has_homes = D.shape.shaped.has_homes }) D.rising size bytes bytes' (tells_shared_image dims slots slots' homes homes' h h' C D B size bytes X) Y
