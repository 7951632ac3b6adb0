use Rattle.std.proofs.Common.{◌≡◌, drop, sym, subst, arith, rules}
use Rattle.std.proofs.lemmas.Bool.Decides.{not_from_Decides}
use Rattle.attrs.specs.Grammar.{First, Has, past}
use Rattle.attrs.specs.Items.{attribute_of}
use Rattle.attrs.specs.Seen.{Marked}
use Rattle.attrs.proofs.Finding.{fewer_left}
use Rattle.attrs.proofs.Checking.{sound_more, sound_repeated}
use Rattle.attrs.proofs.attributes.check_items.Goals as goal
use Rattle.attrs.proofs.attributes.check_items.Goals.{else-note-via-then-note+else-repeats, else-note-via-else-note}

pub returns-then-repeats : goal.returns-then-repeats
returns-then-repeats c =
    let text = c.args.attributes.now.text.now in
    let item : First c.loop-item.rest.place (drop c.loop-item.rest.place text) (attribute_of c.in-Some.item) (drop c.next.new.self.place text) = search rules in
    let sound = c.loop-item.invariant.sound in
    sound_repeated sound item ((c.repeats.ensures sound.items _ _ _ sound.front item).0 c.if-repeats.true)

pub loop-item-smaller : goal.loop-item-smaller
loop-item-smaller c =
    fewer_left c.args.attributes.now.text.now _ _ (attribute_of c.in-Some.item) (drop c.next.new.self.place c.args.attributes.now.text.now) (search rules) (search rules)

pub loop-item-preserved : goal.loop-item-preserved
loop-item-preserved c =
    let text = c.args.attributes.now.text.now in
    let item : First c.loop-item.rest.place (drop c.loop-item.rest.place text) (attribute_of c.in-Some.item) (drop (past (attribute_of c.in-Some.item)) text) = search rules in
    let at : c.next.new.self.place ≡ past (attribute_of c.in-Some.item) = search rules in
    let sound = c.loop-item.invariant.sound in
    let number = c.key_number.ensures in
    let new : Has c.in-Some.item.key.now sound.items → ⊥ =
    elim c.else-note.branch [
      | else-note-via-then-note+else-repeats w ↦
          not_from_Decides w.repeats.result (w.repeats.ensures sound.items _ _ _ sound.front item) w.if-repeats.false
      | else-note-via-else-note w ↦
          λ h. not_from_Decides c.note.result c.note.ensures.answer w.if-note.false (subst (Marked c.loop-item.words) (sym number) (sound.noted _ h))
    ] in
    let marked = subst (Marked c.note.new.words) number c.note.ensures.marked in
    record {
      same_text = search rules;
      some_words = omega (arith, c.note.auto.words, c.loop-item.invariant.some_words);
      sound = rw at (sound_more sound item new c.note.new.words marked c.note.ensures.kept);
    }
