use Rattle.std.proofs.lemmas.Result.{err_from_is_err_and}
use Rattle.references.proofs.Passes.{counted_more, counted_stuck}
use Rattle.references.proofs.Reading.{decodes_text}
use Rattle.references.proofs.decoder.decoded_size.Goals as goal

pub returns-in_err-characters : goal.returns-in_err-characters
returns-in_err-characters c =
    let p = err_from_is_err_and c.from_residual.result c.from_residual.ensures.1 in
    rw p.1 (λ cs whole. c.in_err-characters.ensures (decodes_text c.args.raw.now cs whole))

pub returns-in_err-character : goal.returns-in_err-character
returns-in_err-character c =
    let p = err_from_is_err_and c.from_residual-in_err-character.result c.from_residual-in_err-character.ensures.1 in
    rw p.1 (counted_stuck c.loop-character.invariant c.in_err-character.ensures.next.0 c.in_err-character.ensures.next.1)

pub loop-character-preserved : goal.loop-character-preserved
loop-character-preserved c =
    counted_more c.loop-character.invariant (rw c.in-Some.is at c.in_ok-character.ensures.next) c.len_utf8-size.ensures.len
