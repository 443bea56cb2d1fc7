use Rattle.std.proofs.Common.{arith, ◌≡◌, ◌<◌, ◌*◌, ◌/◌, ◌∙◌, ap, sym, length, get_or, length-set}
use Rattle.std.proofs.lemmas.List.{get_or_read}
use Rattle.bench_words.proofs.Cells.{length-bytes_of, set-bytes_of}
use Rattle.bench_words.proofs.Words.set_byte.Goals as goal

pub index-requires : goal.index-requires
index-requires c =
    let size : length c.args.self.now ≡ 4 * length c.self.inside.cells.items = ap length (sym c.self.view_is) ∙ length-bytes_of c.self.inside.cells.items in
    omega (arith, c.self.inside.cells.ok.0)

pub index_mut-requires : goal.index_mut-requires
index_mut-requires c =
    let size : length c.args.self.now ≡ 4 * length c.self.inside.cells.items = ap length (sym c.self.view_is) ∙ length-bytes_of c.self.inside.cells.items in
    omega (arith, c.self.inside.cells.ok.0)

pub returns-clause-wrote : goal.returns-clause-wrote
returns-clause-wrote c =
    let size : length c.args.self.now ≡ 4 * length c.self.inside.cells.items = ap length (sym c.self.view_is) ∙ length-bytes_of c.self.inside.cells.items in
    let there : c.args.address / 4 < length c.self.inside.cells.items = omega (arith, c.self.inside.cells.ok.0) in
    let cell : c.index.result.now ≡ get_or c.self.inside.cells.items (c.args.address / 4) 0 = get_or_read c.self.inside.cells.items (c.args.address / 4) c.index.result.now there c.index.ensures 0 in
    rw (← c.self.view_is) (rw (c.from_le_bytes.ensures, c.to_le_bytes-bytes.ensures, cell) (sym (set-bytes_of c.self.inside.cells.items c.args.address c.args.byte (omega arith))))

pub returns-clause-size : goal.returns-clause-size
returns-clause-size c = ap length (returns-clause-wrote c) ∙ length-set c.args.self.now c.args.address c.args.byte
