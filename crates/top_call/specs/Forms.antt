-- How a run ends, by the form of its words.
use Rattle.std.specs.Prelude.{◌≡◌}
use Rattle.program_forms.specs.Forms.{Form, Demo, Run, Big, Recount, Save, Load}
use Rattle.run_files.specs.Outside.{PlaceSeen, SinkSeen}
use Rattle.save_run.specs.Names.{saving}
use Rattle.top_call.specs.Big.{BigRunEnds}
use Rattle.top_call.specs.Demo.{DemoRunEnds, demo_of}
use Rattle.top_call.specs.Load.{ImageLoadEnds}
use Rattle.top_call.specs.Recount.{AuditEnds}
use Rattle.top_call.specs.Run.{PlanRunEnds}
use Rattle.top_call.specs.Save.{ImageSaveEnds}
use Rattle.top_call.specs.declared.status.Status.{Status}

-- how a run of this form ends, and what it leaves of a place and a sink; a large run does nothing to the place
abbrev pub FormEnds : {P O : Type 0} → PlaceSeen P → SinkSeen O → P → P → O → O → Status → Form → Type 0
FormEnds p s place place' out out' status (Demo feed script) = DemoRunEnds p s place place' out out' status (demo_of feed script)
FormEnds p s place place' out out' status (Run plan) = PlanRunEnds p s place place' out out' status plan
FormEnds p s place place' out out' status (Big rows) = BigRunEnds s out out' status rows × (place' ≡ place)
FormEnds p s place place' out out' status (Recount plan journal script replies) =
    AuditEnds p s place place' out out' status (record { plan = plan; journal = journal; script = script; replies = replies })
FormEnds p s place place' out out' status (Save plan image) = ImageSaveEnds p s place place' out out' status (saving plan image)
FormEnds p s place place' out out' status (Load plan image script) =
    ImageLoadEnds p s place place' out out' status (record { plan = plan; image = image; script = script })
