-- The reader of the streams of packets, at a level.
use Rattle.std.proofs.Common.{List, ℕ, ◌≡◌}
use Rattle.fast_wire.specs.declared.level.Level.{Level}
use Rattle.fast_template.specs.TemplateSets.{IsSound, TemplateList, templates_in}
use Rattle.fast_stream.proofs.MessageReaders.{message_reader}
use Rattle.fast_stream.proofs.ModeReaders.{next_reader}
use Rattle.fast_stream.proofs.ModeStreams.{one_list}
use Rattle.fast_stream.specs.Modes.{Carries, plainly}
use Rattle.fast_stream.specs.Nodes.{Content}
use Rattle.fast_stream.specs.Readers.{IsNextReader}
use Rattle.fast_packets.specs.Recordings.{CarriesPackets}
use Rattle.fast_packets.proofs.Recordings.{one_list_of_packets}

module _ (set : TemplateList) (sound : IsSound set) (level : Level) where
  pub packet_reader : IsNextReader (plainly level) (templates_in set)
  packet_reader = next_reader (plainly level) (templates_in set) (message_reader level (templates_in set) sound.typed)

  pub one_stream : (stream : List ℕ) (ms ns : List Content) → Carries (plainly level) (templates_in set) stream ms → Carries (plainly level) (templates_in set) stream ns → ms ≡ ns
  one_stream = one_list (plainly level) (templates_in set) packet_reader

  pub one_reading : (ps qs : List (List Content)) (a : List ℕ) → CarriesPackets level (templates_in set) a ps → CarriesPackets level (templates_in set) a qs → ps ≡ qs
  one_reading = one_list_of_packets level (templates_in set) one_stream
