use Rattle.std.proofs.lemmas.Result.{err_from_is_err_and}
use Rattle.std.proofs.Common.{refl}
use Rattle.references.proofs.Pieces.{first_split, step_reference, no_piece}
use Rattle.references.proofs.characters.Characters.next.Goals as goal

pub returns-in_err-character-clause-next : goal.returns-in_err-character-clause-next
returns-in_err-character-clause-next c =
    let p = err_from_is_err_and c.from_residual.result c.from_residual.ensures.1 in
    let split = first_split c.in-Some.first c.chars-characters.ensures.rest c.in-Some.ensures.steps.0 c.as_str-after.ensures in
    let none = no_piece c.args.self.now.rest.now c.as_str-after.result.now c.in-Some.first split c.if-first-ne38.false (rw c.in_err-character.ensures.ok_part at c.reference.ensures) in
    rw p.1 (none.0, none.1, refl)

pub returns-clause-next : goal.returns-clause-next
returns-clause-next c =
    step_reference c.args.self.now.rest.now c.as_str-after.result.now _ c.in-Some.first _
    (first_split c.in-Some.first c.chars-characters.ensures.rest c.in-Some.ensures.steps.0 c.as_str-after.ensures)
    c.if-first-ne38.false
    (rw c.in_ok-character.ensures.ok_part at c.reference.ensures)
