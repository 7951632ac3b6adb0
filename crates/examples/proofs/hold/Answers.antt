use Rattle.examples.proofs.IdPastPalette.{id_past_palette}
use Rattle.examples.proofs.hold.Goals as goal

pub returns : goal.returns
returns c = record { id_past_palette = id_past_palette }
