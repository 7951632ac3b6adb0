use Rattle.std.proofs.Common.{◌≡◌, ◌≤◌, [], map, length, None, sym, refl, ap, ◌∙◌, arith}
use Rattle.std.proofs.lemmas.Bool.{true≢false}
use Rattle.runs.specs.Marks.{mark_of}
use Rattle.runs.proofs.Laws.{one_packing}
use Rattle.cells.specs.Area.{extent, size}
use Rattle.sheet.specs.Contents.{room, run_room}
use Rattle.sheet.specs.Palette.{kind_at}
use Rattle.sheet.specs.Placing.{placed}
use Rattle.sheet.proofs.Packs.{made_of, holds_packed, holds_none, kinds_exist, too_many_ids, too_many_kinds, room_enough}
use Rattle.sheet.proofs.memory.Sheet.pack.Goals as goal

pub returns-in_default : goal.returns-in_default
returns-in_default g c =
    let s = c.args.self.now in
    record {
      made = record { box = None; bounds = c.in_default.ensures; ids = []; ids_packed = refl; kinds = []; kinds_packed = refl };
      is = room_enough (run_room s) 0 0 0 0 refl refl (omega arith) (omega arith);
      accepted = λ _. record {
        cells_same = refl;
        box_is = refl;
        ids_held = holds_none s.ids c.clear.new.self c.clear.ensures.marks c.clear.ensures.ends c.clear.ensures.none;
        kinds_held = holds_none s.kinds c.clear-in_default.new.self c.clear-in_default.ensures.marks c.clear-in_default.ensures.ends c.clear-in_default.ensures.none;
      };
      refused = λ e. absurd (true≢false e);
    }

pub returns-then-id_runs-room : goal.returns-then-id_runs-room
returns-then-id_runs-room g c =
    let s = c.args.self.now in
    let palette = c.args.palette.now in
    let a = extent c.in-Some.area in
    let cells = c.cells-cells.result.now in
    let ids = c.needed-id_runs.ensures in
    let kinds = kinds_exist (mark_of (kind_at palette 0) (map (placed a (kind_at palette)) cells)) (size a) in
    record {
      made = made_of palette a cells s.cells.cells.items ids.0 kinds.0 c.cells-cells.ensures.value c.in-Some.ensures ids.1.0 kinds.1;
      is = too_many_ids (run_room s) (length ids.0) (length kinds.0) c.needed-id_runs.result 0 ids.1.1 (omega arith);
      accepted = λ e. absurd (true≢false (sym e));
      refused = λ _. refl;
    }

pub returns-then-kind_runs-room : goal.returns-then-kind_runs-room
returns-then-kind_runs-room g c =
    let s = c.args.self.now in
    let ids = c.needed-id_runs.ensures in
    let kinds = c.needed-kind_runs.ensures in
    record {
      made = made_of c.args.palette.now (extent c.in-Some.area) c.cells-cells.result.now s.cells.cells.items ids.0 kinds.0 c.cells-cells.ensures.value c.in-Some.ensures ids.1.0 kinds.1.0;
      is = too_many_kinds (run_room s) (length ids.0) (length kinds.0) c.needed-id_runs.result c.needed-kind_runs.result ids.1.1 kinds.1.1 (omega arith) (omega arith);
      accepted = λ e. absurd (true≢false (sym e));
      refused = λ _. refl;
    }

pub returns : goal.returns
returns g c =
    let s = c.args.self.now in
    let a = extent c.in-Some.area in
    let ids = c.needed-id_runs.ensures in
    let kinds = c.needed-kind_runs.ensures in
    let wrote_ids = c.write.ensures.packed in
    let wrote_kinds = c.write-2.ensures.packed in
    let id_count : c.needed-id_runs.result ≡ length wrote_ids.runs =
    ids.1.1 ∙ ap length (one_packing _ (size a) ids.0 wrote_ids.runs ids.1.0 wrote_ids.packing) in
    let kind_count : c.needed-kind_runs.result ≡ length wrote_kinds.runs =
    kinds.1.1 ∙ ap length (one_packing _ (size a) kinds.0 wrote_kinds.runs kinds.1.0 wrote_kinds.packing) in
    let id_room : c.write.result ≤ room s.ids = omega (arith, id_count, wrote_ids.length_is) in
    let kind_room : c.write-2.result ≤ room s.kinds = omega (arith, kind_count, wrote_kinds.length_is) in
    record {
      made = made_of c.args.palette.now a c.cells-cells.result.now s.cells.cells.items wrote_ids.runs wrote_kinds.runs c.cells-cells.ensures.value c.in-Some.ensures wrote_ids.packing wrote_kinds.packing;
      is = room_enough (run_room s) (length wrote_ids.runs) (length wrote_kinds.runs) c.needed-id_runs.result c.needed-kind_runs.result id_count kind_count (omega arith) (omega arith);
      accepted = λ _. record {
        cells_same = refl;
        box_is = refl;
        ids_held = holds_packed _ (size a) c.write.result s.ids c.write.new.self wrote_ids c.write.ensures.used c.write.ensures.marks_len c.write.ensures.ends_len id_room;
        kinds_held = holds_packed _ (size a) c.write-2.result s.kinds c.write-2.new.self wrote_kinds c.write-2.ensures.used c.write-2.ensures.marks_len c.write-2.ensures.ends_len kind_room;
      };
      refused = λ e. absurd (true≢false e);
    }
