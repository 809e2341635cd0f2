use Rattle.fast_recording.proofs.calls.show_packets.Goals as goal

pub returns-in-Text-clause-answer : goal.returns-in-Text-clause-answer
returns-in-Text-clause-answer g c = rw (c.in-Text.is) c.show_by.ensures.answer

pub returns-in-Json-clause-answer : goal.returns-in-Json-clause-answer
returns-in-Json-clause-answer g c = rw (c.in-Json.is) c.show_by-in-Json.ensures.answer
