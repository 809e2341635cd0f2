use Rattle.fast_stream.proofs.Framings.{from_mode, in_mode, fault_from_mode, fault_in_mode}
use Rattle.fast_stream.proofs.laws.plain_streams_are_messages.Goals as goal

pub returns-clause-forms : goal.returns-clause-forms
returns-clause-forms c = from_mode

pub returns-clause-stream : goal.returns-clause-stream
returns-clause-stream c = in_mode

pub returns-clause-fault : goal.returns-clause-fault
returns-clause-fault c = fault_from_mode

pub returns-clause-refused : goal.returns-clause-refused
returns-clause-refused c = fault_in_mode
