-- Counters that stop at the largest number of 64 bits, and disagreements among them.
use Rattle.std.specs.Prelude.{◌≡◌, ℕ, ◌+◌, ◌-◌, ◌^◌, ◌<◌, ◌≤◌, min}
use Rattle.attrs.specs.declared.fault.Flaw.{Flaw}
use Rattle.attrs.specs.declared.fault.Flaw.TheVariants.{BadKey, NoSpace, NoQuote, NotClosed, Repeated}
use Rattle.vectors.specs.declared.line.Family.{Family}
use Rattle.vectors.specs.declared.line.Family.TheVariants.{Items, Decimal, Whole, Decode}
use Rattle.vectors.specs.declared.outcome.Outcome.{Outcome}
use Rattle.vectors.specs.declared.outcome.Outcome.TheVariants.{Same, SameButFormFeeds, BothRefuse, Departs, Differs}
use Rattle.vectors.specs.declared.tallies.Departures.{Departures}
use Rattle.vectors.specs.declared.tallies.Tally.{Tally}
use Rattle.vectors.specs.declared.tallies.Tallies.{Tallies}

-- one more
abbrev pub more : ℕ → ℕ
more n = min (n + 1) (2 ^ 64 - 1)

-- what a counter shows of a number
abbrev pub capped : ℕ → ℕ
capped n = min n (2 ^ 64 - 1)

-- one more refusal
abbrev pub with_flaw : Departures → Flaw → Departures
with_flaw d BadKey = record d { bad_items = more d.bad_items }
with_flaw d NoSpace = record d { bad_items = more d.bad_items }
with_flaw d NoQuote = record d { no_quote = more d.no_quote }
with_flaw d NotClosed = record d { not_closed = more d.not_closed }
with_flaw d Repeated = record d { repeated = more d.repeated }

-- one more outcome
abbrev pub with_outcome : Tally → Outcome → Tally
with_outcome t Same = record t { same = more t.same }
with_outcome t SameButFormFeeds = record t { same_but_form_feeds = more t.same_but_form_feeds }
with_outcome t BothRefuse = record t { both_refuse = more t.both_refuse }
with_outcome t (Departs flaw) = record t { departures = with_flaw t.departures flaw }
with_outcome t Differs = record t { differs = more t.differs }

-- one more text
abbrev pub with_text : Tallies → Family → Outcome → Tallies
with_text t Items outcome = record t { items = with_outcome t.items outcome }
with_text t Decimal outcome = record t { decimals = with_outcome t.decimals outcome }
with_text t (Whole width) outcome = record t { wholes = with_outcome t.wholes outcome }
with_text t Decode outcome = record t { references = with_outcome t.references outcome }

-- one more line or text that is not understood
abbrev pub with_misread : Tallies → Tallies
with_misread t = record t { misread = more t.misread }

-- how many refusals there are where calamine gives items
abbrev pub departed : Departures → ℕ
departed d = d.bad_items + d.no_quote + d.not_closed + d.repeated

-- how many outcomes of a family are as expected
abbrev pub agreed : Tally → ℕ
agreed t = t.same + t.same_but_form_feeds + t.both_refuse + departed t.departures

-- how many outcomes are as expected
abbrev pub agreed_in_all : Tallies → ℕ
agreed_in_all t = agreed t.items + agreed t.decimals + agreed t.wholes + agreed t.references

-- how many are not, and how many lines or texts were not understood
abbrev pub disagreed : Tallies → ℕ
disagreed t = t.items.differs + t.decimals.differs + t.wholes.differs + t.references.differs + t.misread

-- no disagreement is lost: what differs is counted, and what has been counted stays
pub record Kept (before : Tally) (outcome : Outcome) (after : Tally) : Type 0 where
  pub counted : outcome ≡ Differs → 0 < after.differs
  pub stays : before.differs ≤ after.differs

-- nothing disagreed, and all was understood
pub record NoneDiffers (tallies : Tallies) : Type 0 where
  pub items : tallies.items.differs ≡ 0
  pub decimals : tallies.decimals.differs ≡ 0
  pub wholes : tallies.wholes.differs ≡ 0
  pub references : tallies.references.differs ≡ 0
  pub misread : tallies.misread ≡ 0
