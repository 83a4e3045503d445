-- The law of every list of calls.
use Rattle.selector_law.proofs.Law.{law}
use Rattle.selector_law.proofs.selector_law.Goals as goal

pub returns : goal.returns
returns c = law
