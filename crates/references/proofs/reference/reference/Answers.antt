use Rattle.std.proofs.Common.{Some, None, sym, subst, lit<}
use Rattle.std.proofs.lemmas.Str.Pattern.{split_after}
use Rattle.references.specs.Xml.{Means}
use Rattle.references.proofs.Names.{no_semicolon}
use Rattle.references.proofs.reference.reference.Goals as goal

pub returns-in_err-name : goal.returns-in_err-name
returns-in_err-name c =
    rw c.from_residual.ensures
    (λ d rest f. split_after 59 c.args.after.now f.name rest None c.in_err-name.ensures.cases (lit< tt) f.split (no_semicolon f.means))

pub returns-in_err-character : goal.returns-in_err-character
returns-in_err-character c =
    rw c.from_residual-in_err-character.ensures
    (λ d rest f. let same = split_after 59 c.args.after.now f.name rest (Some (c.in_ok-name.name, c.in_ok-name.rest)) c.in_ok-name.ensures.cases (lit< tt) f.split (no_semicolon f.means) in
    c.in_err-character.ensures d (subst (λ n. Means n d) (sym same.0) f.means))
