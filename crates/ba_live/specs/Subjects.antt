-- Whom an event is about.
use Rattle.std.specs.Prelude.{◌≡◌}
use Rattle.ba_event.specs.declared.event.Event.{Event}
use Rattle.ba_event.specs.declared.event.Event.TheVariants as event
use Rattle.ba_live.specs.declared.decision.Subject.{Subject}
use Rattle.ba_live.specs.declared.decision.Subject.TheVariants.{Request, Key, Line}

abbrev pub subject_of : Event → Subject
subject_of (event.Begin name members) = Request name
subject_of (event.Ask name text) = Request name
subject_of (event.Read name key members) = Key name key
subject_of (event.Told line rows) = Line line
subject_of (event.End name) = Request name

abbrev pub IsAbout : Event → Subject → Type 0
IsAbout it subject = subject ≡ subject_of it
