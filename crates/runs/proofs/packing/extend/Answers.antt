use Rattle.std.proofs.Common.{◌<◌, refl, inl, inr, ⊎_elim, arith}
use Rattle.std.proofs.lemmas.Bool.Decides.{not_from_Decides}
use Rattle.runs.proofs.Steps.{Chosen, written_more}
use Rattle.runs.proofs.packing.extend.Goals as goal
use Rattle.runs.proofs.packing.extend.Goals.{then-tail-gt0+then-same, else-tail-gt0, else-tail-gt0-via-then-tail-gt0+else-same, else-tail-gt0-via-else-tail-gt0}

pub returns : goal.returns
returns g c =
    let tail = c.args.tail in
    let index = c.if-tail-gt0.index in
    let forward : tail.end < c.args.upto = omega arith in
    let chosen : Chosen tail.count tail.mark c.args.mark index =
    elim c.if-tail-gt0.branch [
      | then-tail-gt0+then-same w ↦ inl (omega (arith, w.index-is), w.same.ensures.0 w.if-same.true)
      | else-tail-gt0 w ↦
          elim w.else-tail-gt0.branch [
            | else-tail-gt0-via-then-tail-gt0+else-same w' ↦
                inr (w.index-is, λ _. not_from_Decides w'.same.result w'.same.ensures w'.if-same.false)
            | else-tail-gt0-via-else-tail-gt0 w' ↦ inr (w.index-is, λ some. absurd (omega arith))
          ]
    ] in
    record {
      counted = ⊎_elim (λ joins. omega (arith, joins.0)) (λ differs. omega (arith, differs.0)) chosen;
      end = refl;
      written = λ spot marked marks0 ends0 written.
          rw (c.put_at.ensures, c.put_at-2.ensures)
          (written_more forward marked written index chosen);
    }
