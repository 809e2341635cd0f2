use Rattle.fast_packets.proofs.Readers.{packet_reader}
use Rattle.fast_packets.proofs.Refusals.{as_outcomes, as_packets, one_list, some_list}
use Rattle.fast_template.specs.TemplateSets.{templates_in}
use Rattle.fast_packets.proofs.laws.outcomes_are_one.Goals as goal

pub returns-clause-some : goal.returns-clause-some
returns-clause-some c = λ goes_on level set at bytes sound. some_list level (templates_in set) (packet_reader set sound level) goes_on at bytes

pub returns-clause-one : goal.returns-clause-one
returns-clause-one c = λ goes_on level set at bytes outcomes others sound. one_list level (templates_in set) (packet_reader set sound level) goes_on at bytes outcomes others

pub returns-clause-accepted : goal.returns-clause-accepted
returns-clause-accepted c = λ goes_on level set at bytes packets. (as_outcomes level set goes_on packets at bytes, as_packets level set goes_on packets at bytes)
