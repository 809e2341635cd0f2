-- What is done with what a handle has.
use Rattle.std.proofs.Common.{◌≡◌, ◌∙◌, ℕ, [], Option, Some, None, Ok, ap, refl, subst, sym}
use Rattle.fast_template.specs.TemplateSets.{TemplateList, templates_in}
use Rattle.fast_dictionary.specs.contracts.slots.SlotEntriesEntries.TheImpl.{ghosts}
use Rattle.fast_stream.specs.declared.mode.Mode.{Mode}
use Rattle.fast_untape.specs.Writing.{HasWritten}
use Rattle.fast_kept.specs.Leasing.{IsLent}
use Rattle.fast_kept.specs.declared.kept.Kept.{Kept}
use Rattle.fast_kept.specs.declared.lent.Lent.{Lent}
use Rattle.fast_kept.specs.declared.lent.Wanted.{Wanted}
use Rattle.fast_slices.specs.Answers.{no_counts}
use Rattle.fast_slices.specs.Ways.{stream_mode_of}
use Rattle.fast_slices.specs.declared.answer.Counts.{Counts}
use Rattle.fast_c.specs.Reading.{KeepsReader, LentReader, ReaderOf, most_bytes_of}
use Rattle.fast_c.specs.Writing.{KeepsWriter, LentWriter, WriterOf}

pub lent_reader : {A : Type 0} (Does : ReaderOf → ReaderOf → A → Type 0) (Stays : Type 0) (old : Option Lent) (r later : ReaderOf) (answer : A) → old ≡ Some (Lent.Reader r) → Does r later answer → LentReader Does Stays old (Some (Lent.Reader later)) (Some answer)
lent_reader Does Stays old r later answer was does = rw was (later, refl, does)

pub lent_writer : {A : Type 0} (Does : WriterOf → WriterOf → A → Type 0) (Stays : Type 0) (old : Option Lent) (w later : WriterOf) (answer : A) → old ≡ Some (Lent.Writer w) → Does w later answer → LentWriter Does Stays old (Some (Lent.Writer later)) (Some answer)
lent_writer Does Stays old w later answer was does = rw was (later, refl, does)

-- a reader that is lent a share of a set is kept
pub keeps_reader : (word said : ℕ) (old new : Option Kept) (set share : TemplateList) (mode : Mode) (most : ℕ) (lent : Option Lent) (counts : Counts) → counts ≡ no_counts → stream_mode_of word ≡ Some mode → most ≡ most_bytes_of said → share ≡ set → new ≡ Some (Kept.Lent lent) → IsLent share (Wanted.Reader mode most) lent → KeepsReader word said old new set (Ok counts)
keeps_reader word said old new set share mode most (Some (Lent.Reader r)) counts counted says limit same kept is = (counted, (r, kept, is.0 ∙ same, says ∙ ap Some (sym is.1), is.2 ∙ limit, is.3))
keeps_reader word said old new set share mode most (Some (Lent.Writer w)) counts counted says limit same kept is = absurd is
keeps_reader word said old new set share mode most None counts counted says limit same kept is = absurd is

-- and a writer
pub keeps_writer : (old new : Option Kept) (set share : TemplateList) (lent : Option Lent) (counts : Counts) → counts ≡ no_counts → share ≡ set → new ≡ Some (Kept.Lent lent) → IsLent share Wanted.Writer lent → KeepsWriter old new set (Ok counts)
keeps_writer old new set share (Some (Lent.Writer w)) counts counted same kept is = (counted, (w, kept, is.0 ∙ same, subst (λ s. HasWritten (templates_in s) [] [] w.waiting.items (ghosts.contents w.encoder.journal.entries)) (sym is.0) is.1))
keeps_writer old new set share (Some (Lent.Reader r)) counts counted same kept is = absurd is
keeps_writer old new set share None counts counted same kept is = absurd is
