use Rattle.std.specs.Prelude.{pos, ◌*ℤ◌}
use Rattle.camera.proofs.SlopeLemmas.{cast_fits, more_fits, more_floor, more_within, part_floor, part_within}
use Rattle.camera.proofs.slopes.slope_of.Goals as goal

pub overflow_cast-result : goal.overflow_cast-result
overflow_cast-result c =
    let floor = part_floor c.args.offset c.args.by c.floor_div.result c.whole.result c.from.result c.ranges.offset c.ranges.by c.requires.offset c.requires.large c.whole.ensures.value c.from.ensures c.floor_div.ensures.floor in
    cast_fits c.floor_div.result (part_within c.args.offset c.args.by c.floor_div.result c.requires.offset c.requires.large floor)

pub overflow_add-result : goal.overflow_add-result
overflow_add-result c =
    let floor = part_floor c.args.offset c.args.by c.floor_div.result c.whole.result c.from.result c.ranges.offset c.ranges.by c.requires.offset c.requires.large c.whole.ensures.value c.from.ensures c.floor_div.ensures.floor in
    more_fits c.floor_div.result (part_within c.args.offset c.args.by c.floor_div.result c.requires.offset c.requires.large floor)

pub returns : goal.returns
returns c =
    let floor = part_floor c.args.offset c.args.by c.floor_div.result c.whole.result c.from.result c.ranges.offset c.ranges.by c.requires.offset c.requires.large c.whole.ensures.value c.from.ensures c.floor_div.ensures.floor in
    let small = part_within c.args.offset c.args.by c.floor_div.result c.requires.offset c.requires.large floor in
    record {
      floor = more_floor (c.args.offset *ℤ pos 18446744073709551616) c.args.by c.floor_div.result small floor;
      bound = more_within c.floor_div.result small;
    }
