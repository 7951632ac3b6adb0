use Rattle.std.proofs.Common.{ℕ, ◌+◌, ◌-◌, length, sym, ap, ◌∙◌}
use Rattle.std.specs.Option.{option_map}
use Rattle.numbers.specs.Decimals.{scaled}
use Rattle.numbers.specs.Fronts.{power_below}
use Rattle.numbers.proofs.Scans.{large_whole, large_fraction, after_shorter, rest_shorter, large_number, no_figures, all_read}
use Rattle.numbers.proofs.decimals.scan.Goals as goal

pub returns-in_err-whole : goal.returns-in_err-whole
returns-in_err-whole c = rw c.from_residual.ensures (large_whole c.args.negative c.args.text.now c.in_err-whole.ensures)

pub returns-in_err-w : goal.returns-in_err-w
returns-in_err-w c =
    let front = c.in_ok-whole in
    rw c.from_residual-in_err-w.ensures
    (large_fraction c.args.negative c.args.text.now front.whole front.after.now front.ensures c.in_err-w.ensures)

pub overflow_sub-after : goal.overflow_sub-after
overflow_sub-after c =
    let front = c.in_ok-whole in
    let past = c.in_ok-w in
    rest_shorter c.args.negative c.args.text.now front.whole front.after.now front.ensures past.w past.rest.now past.ensures

pub overflow_sub-text : goal.overflow_sub-text
overflow_sub-text c =
    let front = c.in_ok-whole in
    after_shorter c.args.negative c.args.text.now front.whole front.after.now front.ensures

pub returns-then-w-ge-TOO_LARGE : goal.returns-then-w-ge-TOO_LARGE
returns-then-w-ge-TOO_LARGE c =
    let front = c.in_ok-whole in
    let past = c.in_ok-w in
    large_number c.args.negative c.args.text.now front.whole front.after.now front.ensures past.w past.rest.now past.ensures c.if-w-ge-TOO_LARGE.true

pub returns-then-text-after-eq0 : goal.returns-then-text-after-eq0
returns-then-text-after-eq0 c =
    let text = c.args.text.now in
    let front = c.in_ok-whole in
    let past = c.in_ok-w in
    no_figures c.args.negative text front.whole front.after.now front.ensures past.w past.rest.now past.ensures
    (ap (λ (k : ℕ). length text - length front.after.now + k) (sym c.saturating_sub-fraction.ensures) ∙ c.if-text-after-eq0.true)

pub returns-in_err-k : goal.returns-in_err-k
returns-in_err-k c =
    let minus = c.args.negative in
    let text = c.args.text.now in
    let front = c.in_ok-whole in
    let past = c.in_ok-w in
    let fraction = c.saturating_sub-fraction in
    rw c.from_residual-in_err-k.ensures
    (ap (option_map (scaled minus past.w)) (c.in_err-k.ensures ∙ ap (λ (k : ℕ). power_below k past.rest.now) fraction.ensures)
    ∙ all_read minus text front.whole front.after.now front.ensures past.w past.rest.now past.ensures c.if-w-ge-TOO_LARGE.false
    (λ e. c.if-text-after-eq0.false (ap (λ (k : ℕ). length text - length front.after.now + k) fraction.ensures ∙ e)))

pub returns : goal.returns
returns c =
    let minus = c.args.negative in
    let text = c.args.text.now in
    let front = c.in_ok-whole in
    let past = c.in_ok-w in
    let fraction = c.saturating_sub-fraction in
    ap (option_map (scaled minus past.w)) (c.in_ok-k.ensures ∙ ap (λ (k : ℕ). power_below k past.rest.now) fraction.ensures)
    ∙ all_read minus text front.whole front.after.now front.ensures past.w past.rest.now past.ensures c.if-w-ge-TOO_LARGE.false
    (λ e. c.if-text-after-eq0.false (ap (λ (k : ℕ). length text - length front.after.now + k) fraction.ensures ∙ e))
