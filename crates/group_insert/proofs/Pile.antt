-- The part of a place in the pile.
use Rattle.std.proofs.Common.{◌≡◌, List, sym, subst}
use Rattle.cube_view.specs.Points.{Point}
use Rattle.cube_view.specs.declared.schema.Schema.{Schema}
use Rattle.group_insert.specs.Visiting.{HasPartAt, AreEntries, CanVisitHere}
use Rattle.group_insert.specs.declared.put_off.PutOffLink.{PutOffLink}
use Rattle.group_insert.specs.declared.visits.Place.{Place}

-- a visit may still be made where the pile is as before, whatever links were put off by then
pub still_here : {z : Schema} {place : Place} {old new : List Point} {before after : List PutOffLink} → CanVisitHere z place old before → new ≡ old → AreEntries after → CanVisitHere z place new after
still_here {z} {place} here same within = record {
  dim = here.dim;
  level = here.level;
  part = subst (λ x. HasPartAt z x place.part.at place.part.end) (sym same) here.part;
  put_off = within;
}
