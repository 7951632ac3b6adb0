-- What is true of the desks of a session at any time.
use Rattle.std.specs.Prelude.{◌≡◌, Bool, false, List, Some, None, Option}
use Rattle.sheet.specs.declared.xf.Xf.{Xf}
use Rattle.intake.specs.declared.style.Style.{Style}
use Rattle.intake.specs.declared.desk.Desk.{Desk}
use Rattle.intake.specs.declared.desks.Desks.{Desks}
use Rattle.intake.specs.Desks.{InStep}

-- A desk that is there is in step with its calls; before the first call of the session it is so over whatever palette.
abbrev pub Sound : List (Xf Style) → Bool → Option Desk → Type 0
Sound palette called None = Unit {0}
Sound palette called (Some d) = InStep palette d × (called ≡ false → (any : List (Xf Style)) → InStep any d)

-- Both desks are.
abbrev pub InOrder : List (Xf Style) → Bool → Desks → Type 0
InOrder palette called desks = Sound palette called desks.loader × Sound palette called desks.floor
