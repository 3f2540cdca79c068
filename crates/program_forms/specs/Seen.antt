-- A form as contracts see it.
use Rattle.program_forms.specs.Forms.{Form, Demo, Run, Big, Recount, Save, Load}
use Rattle.program_forms.specs.declared.form.Form.{Form as FormOfWords}
use Rattle.program_forms.specs.declared.form.Form.TheVariants as words

-- the form, with the bytes of its names
abbrev pub form_seen : FormOfWords → Form
form_seen (words.Demo feed script) = Demo feed.now script.now
form_seen (words.Run plan) = Run plan.now
form_seen (words.Big rows) = Big rows
form_seen (words.Recount plan journal script replies) = Recount plan.now journal.now script.now replies.now
form_seen (words.Save plan image) = Save plan.now image.now
form_seen (words.Load plan image script) = Load plan.now image.now script.now
