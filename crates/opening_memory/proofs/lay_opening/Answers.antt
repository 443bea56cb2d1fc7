use Rattle.opening_memory.proofs.OpeningLaws.{all_parts, is_written}
use Rattle.opening_memory.proofs.lay_opening.Goals as goal

pub returns : goal.returns
returns c =
    let m = c.args.words.now in
    rw (c.lay_chains.ensures.wrote, c.lay_tags.ensures.wrote, c.lay_ring-2.ensures.wrote, c.lay_ring.ensures.wrote, c.lay_fixed.ensures.wrote, c.lay_control.ensures.wrote, c.load.ensures.wrote, all_parts m c.args.version c.args.units.now)
    (is_written m c.args.version c.args.units.now c.requires.units c.requires.memory)
