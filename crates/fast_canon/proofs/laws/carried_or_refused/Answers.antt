use Rattle.fast_canon.proofs.Common.{templates_in, message_reader, next_reader, one_of_two, not_both, one_fault}
use Rattle.fast_canon.proofs.Headlines.{one_list_before}
use Rattle.fast_canon.proofs.laws.carried_or_refused.Goals as goal

pub returns-clause-one_of_the_two : goal.returns-clause-one_of_the_two
returns-clause-one_of_the_two c = λ mode set stream sound. one_of_two mode (templates_in set) (next_reader mode (templates_in set) (message_reader mode.level (templates_in set) sound.typed)) stream

pub returns-clause-not_both : goal.returns-clause-not_both
returns-clause-not_both c = λ mode set stream messages place cause sound. not_both mode (templates_in set) (next_reader mode (templates_in set) (message_reader mode.level (templates_in set) sound.typed)) stream messages place cause

pub returns-clause-one_refusal : goal.returns-clause-one_refusal
returns-clause-one_refusal c = λ mode set stream place other cause second sound. one_fault mode (templates_in set) (next_reader mode (templates_in set) (message_reader mode.level (templates_in set) sound.typed)) stream place other cause second

pub returns-clause-one_list_before : goal.returns-clause-one_list_before
returns-clause-one_list_before c = λ mode set stream place other cause second sound. one_list_before set sound mode stream place other cause second
