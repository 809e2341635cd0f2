use Rattle.fast_writer.proofs.Opened.{drafts_finished}
use Rattle.fast_writer.proofs.Awaiting.{none_around}
use Rattle.fast_writer.proofs.writer.WriterReceiver.finish.Goals as goal

pub finish-requires : goal.finish-requires
finish-requires c = none_around c.args.self.now.run c.requires.awaits.0 c.requires.awaits.1

pub returns-clause-stands : goal.returns-clause-stands
returns-clause-stands c = λ o d next rest none known few h. drafts_finished next rest none known few c.finish.ensures.ended h
