-- The law of sine and cosine.
use Rattle.circular_law.proofs.Law.{law}
use Rattle.circular_law.proofs.circular_law.Goals as goal

pub returns : goal.returns
returns c = law
