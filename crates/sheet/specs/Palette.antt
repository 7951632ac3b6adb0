-- What the palette says of a style id: its style and its date kind.
use Rattle.std.specs.Prelude.{ℕ, List, Option}
use Rattle.std.specs.List.{slice_get}
use Rattle.std.specs.Option.{option_map, unwrap_or}
use Rattle.formats.specs.declared.CellFormat.{CellFormat}
use Rattle.formats.specs.declared.CellFormat.TheVariants.{Other}
use Rattle.sheet.specs.declared.xf.Xf.{Xf}

-- the style of xf n, or none past the palette
abbrev pub style_at : {S : Type 0} → List (Xf S) → ℕ → Option S
style_at {S} palette n = option_map (λ (x : Xf S). x.style) (slice_get palette n)

-- the date kind of xf n, and `Other` past the palette
abbrev pub kind_at : {S : Type 0} → List (Xf S) → ℕ → CellFormat
kind_at {S} palette n = unwrap_or (option_map (λ (x : Xf S). x.kind) (slice_get palette n)) Other
