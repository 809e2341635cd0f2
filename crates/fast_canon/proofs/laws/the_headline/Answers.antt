use Rattle.fast_canon.proofs.Headlines.{accepted_once, answered, canonical_is_accepted, not_both_ways, refused_once, same_messages}
use Rattle.fast_canon.proofs.laws.the_headline.Goals as goal

pub returns-clause-answered : goal.returns-clause-answered
returns-clause-answered c = λ set call sound. answered set sound call

pub returns-clause-same : goal.returns-clause-same
returns-clause-same c = λ set a b messages others sound. same_messages set sound a b messages others

pub returns-clause-stays : goal.returns-clause-stays
returns-clause-stays c = λ set a b messages sound. canonical_is_accepted set sound a b messages

pub returns-clause-accepted_however_cut : goal.returns-clause-accepted_however_cut
returns-clause-accepted_however_cut c = λ set a b messages others sound. accepted_once set sound a b messages others

pub returns-clause-refused_however_cut : goal.returns-clause-refused_however_cut
returns-clause-refused_however_cut c = λ set a b f g sound. refused_once set sound a b f g

pub returns-clause-never_both : goal.returns-clause-never_both
returns-clause-never_both c = λ set a b messages f sound. not_both_ways set sound a b messages f
