-- That two desks agree, or not, has one proof at most.
use Rattle.std.proofs.Common.{◌≡◌, ℕ, Bool, true, false, cond, None, Some, Ok, Err, IfOk, Decides, Option, Result, refl}
use Rattle.std.specs.Coded.{Coded, Coded-set, code_by, coded_option, coded_list, coded_ℕ, coded_bool, coded×, ×_prop, →_prop}
use Rattle.runs.specs.declared.run.Run.{Run}
use Rattle.formats.specs.declared.CellFormat.{CellFormat}
use Rattle.formats.specs.declared.CellFormat.TheVariants.{Other, DateTime, TimeDelta}
use Rattle.cells.specs.Area.{Area}
use Rattle.sheet.specs.declared.memory.Sheet.{Sheet}
use Rattle.sheet.specs.Contents.{area, id_runs, kind_runs}
use Rattle.replicas.specs.Promise.{SameRuns}
use Rattle.intake.specs.declared.desk.Desk.{Desk}
use Rattle.intake.specs.Sessions.{Agreed}

coded_area : Coded Area
coded_area =
    code_by (ℕ × (ℕ × (ℕ × ℕ))) (coded× coded_ℕ (coded× coded_ℕ (coded× coded_ℕ coded_ℕ))) (λ a. (a.top, (a.left, (a.bottom, a.right))))
    (λ p. record { top = p.0; left = p.1.0; bottom = p.1.1.0; right = p.1.1.1 }) (λ _. refl)

coded_run : {M : Type 0} → Coded M → Coded (Run M)
coded_run {M} c = code_by (M × ℕ) (coded× c coded_ℕ) (λ r. (r.mark, r.end)) (λ p. record { mark = p.0; end = p.1 }) (λ _. refl)

abbrev bits : CellFormat → Bool × Bool
bits Other = (false, false)
bits DateTime = (false, true)
bits TimeDelta = (true, false)

abbrev kind : Bool × Bool → CellFormat
kind p = cond p.0 TimeDelta (cond p.1 DateTime Other)

kind-bits : (k : CellFormat) → kind (bits k) ≡ k
kind-bits Other = refl
kind-bits DateTime = refl
kind-bits TimeDelta = refl

coded_kind : Coded CellFormat
coded_kind = code_by (Bool × Bool) (coded× coded_bool coded_bool) bits kind kind-bits

SameRuns-prop : (s t : Sheet) → IsProp (SameRuns s t)
SameRuns-prop s t x y = λ i. record {
  box = Coded-set (coded_option coded_area) (area s) (area t) x.box y.box i;
  ids = Coded-set (coded_list (coded_run coded_ℕ)) (id_runs s) (id_runs t) x.ids y.ids i;
  kinds = Coded-set (coded_list (coded_run coded_kind)) (kind_runs s) (kind_runs t) x.kinds y.kinds i;
}

Decides-prop : (agree : Bool) (P : Type 0) → IsProp P → IsProp (Decides agree P)
Decides-prop agree P prop = ×_prop (→_prop prop) (→_prop (Coded-set coded_bool agree true))

Agreed-prop : (agree : Bool) (o p : Option Desk) → IsProp (Agreed agree o p)
Agreed-prop agree None p = λ x y. absurd x
Agreed-prop agree (Some d) None = λ x y. absurd x
Agreed-prop agree (Some d) (Some e) = Decides-prop agree (SameRuns d.sheet e.sheet) (SameRuns-prop d.sheet e.sheet)

pub agreed_prop : {E : Type 0} (r : Result Bool E) (o p : Option Desk) → IsProp (IfOk r (λ agree. Agreed agree o p))
agreed_prop (Ok agree) o p = Agreed-prop agree o p
agreed_prop (Err why) o p = λ x y. refl
