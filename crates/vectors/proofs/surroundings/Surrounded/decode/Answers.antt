use Rattle.vectors.proofs.Inside.{decoded_text}
use Rattle.vectors.proofs.surroundings.Surrounded.decode.Goals as goal

pub returns : goal.returns
returns c = decoded_text _ _ _ _ (rw c.larger.ensures at c.decode.ensures.decoded)
