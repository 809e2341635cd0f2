-- What is made of a set that is lent.
use Rattle.std.specs.Prelude.{◌≡◌, [], Option, Some, None}
use Rattle.fast_template.specs.TemplateSets.{TemplateList, templates_in}
use Rattle.fast_dictionary.specs.contracts.slots.SlotEntriesEntries.TheImpl.{ghosts}
use Rattle.fast_machine.specs.Following.{mode_of}
use Rattle.fast_tape.specs.Reading.{Reads}
use Rattle.fast_untape.specs.Writing.{HasWritten}
use Rattle.fast_kept.specs.declared.lent.Lent.{Lent}
use Rattle.fast_kept.specs.declared.lent.Wanted.{Wanted}

-- What was wanted is made of the set, at the beginning of a stream.
abbrev pub IsLent : TemplateList → Wanted → Option Lent → Type 0
IsLent set (Wanted.Reader mode most) (Some (Lent.Reader r)) = (r.machine.traversal.set.now ≡ set) × (mode_of r.machine ≡ mode) × (r.machine.receiver.«open».most_bytes ≡ most) × Reads r [] [] []
IsLent set Wanted.Writer (Some (Lent.Writer w)) = (w.set.now ≡ set) × HasWritten (templates_in set) [] [] w.waiting.items (ghosts.contents w.encoder.journal.entries)
IsLent set wanted lent = ⊥

-- likewise; or nothing is, where memory was refused
abbrev pub IsMade : TemplateList → Wanted → Option Lent → Type 0
IsMade set wanted None = Unit {0}
IsMade set wanted (Some lent) = IsLent set wanted (Some lent)
