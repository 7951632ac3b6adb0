use Rattle.std.proofs.Common.{◌^◌, Bool, Some, sym, ap, ◌∙◌}
use lib.Ieee.{Float, binary64, round, neg}
use Rattle.std.specs.Option.{option_map}
use Rattle.numbers.specs.Cuts.{begins, without}
use Rattle.numbers.specs.Decimals.{is_minus, rounded}
use Rattle.numbers.proofs.Scans.{said_bounds}
use Rattle.std.proofs.num.Values.{neg-round}
use Rattle.numbers.proofs.decimals.decimal.Goals as goal

pub nearest-size-requires : goal.nearest-size-requires
nearest-size-requires c =
    let text = c.args.text.now in
    said_bounds (begins is_minus text) c.in_ok-negative.field-0 (without is_minus text) c.in_ok-negative.ensures

pub returns-then-negative : goal.returns-then-negative
returns-then-negative c =
    let d = c.in_ok-negative.field-0 in
    ap (λ (x : Float). Some x) (ap neg c.nearest-size.ensures ∙ neg-round binary64 d.w (10 ^ d.k) ∙ ap (λ (b : Bool). round binary64 b d.w (10 ^ d.k)) (sym c.if-negative.true))
    ∙ ap (option_map rounded) c.in_ok-negative.ensures
