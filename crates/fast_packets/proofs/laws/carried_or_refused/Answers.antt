use Rattle.fast_packets.proofs.Readers.{packet_reader}
use Rattle.fast_packets.proofs.Refusals.{not_both, one_of_two, one_refusal}
use Rattle.fast_template.specs.TemplateSets.{templates_in}
use Rattle.fast_packets.proofs.laws.carried_or_refused.Goals as goal

pub returns-clause-one_of_the_two : goal.returns-clause-one_of_the_two
returns-clause-one_of_the_two c = λ level set bytes sound. one_of_two level (templates_in set) (packet_reader set sound level) bytes

pub returns-clause-not_both : goal.returns-clause-not_both
returns-clause-not_both c = λ level set bytes packets number fault sound. not_both level (templates_in set) (packet_reader set sound level) bytes packets number fault

pub returns-clause-one_refusal : goal.returns-clause-one_refusal
returns-clause-one_refusal c = λ level set bytes number other fault second sound. one_refusal level (templates_in set) (packet_reader set sound level) bytes number other fault second
