use Rattle.std.proofs.Common.{IsUtf8, rules}
use Rattle.references.proofs.Passes.{writing_none, writing_room, writing_more, writing_stuck}
use Rattle.references.proofs.Reading.{decodes_text, next_ok}
use Rattle.references.proofs.decoder.write.Goals as goal

pub unwrap-characters-requires : goal.unwrap-characters-requires
unwrap-characters-requires c =
    let text : IsUtf8 c.args.raw.now = decodes_text c.args.raw.now c.requires.1.characters c.requires.1.decodes in search rules

pub loop-character-init : goal.loop-character-init
loop-character-init c =
    writing_none (rw c.unwrap-characters.ensures at c.over.ensures).0 c.requires.1 c.requires.2

pub unwrap-requires : goal.unwrap-requires
unwrap-requires c = next_ok _ _ c.next.result c.next.ensures.next (writing_stuck c.loop-character.invariant)

pub write_character-requires : goal.write_character-requires
write_character-requires c = writing_room c.loop-character.invariant (rw c.in-Some.ensures at c.next.ensures.next)

pub loop-character-preserved : goal.loop-character-preserved
loop-character-preserved c =
    writing_more c.loop-character.invariant (rw c.in-Some.ensures at c.next.ensures.next) c.write_character.ensures c.len_utf8-place.ensures.len
