use Rattle.std.proofs.Common.{◌≡◌, rules}
use Rattle.scan_gen.specs.Generated.{config_line}
use Rattle.scan_gen.proofs.Texts.{whole}
use Rattle.scan_gen.proofs.gen_source.GenSource.make.Goals as goal

pub returns : goal.returns
returns c =
    let text = whole c.args.seed c.args.frames in
    let made : c.push_config.new.bytes.items ≡ config_line = search (rules, c.push_config.ensures.items) in
    rw (made, c.ball_of.ensures.value) text
